use Rattle.std.proofs.Common.{◌+◌, ◌*◌, ◌^◌, length}
use Rattle.sk_isa_laws.specs.Ranks.{rank}
use Rattle.sk_vm.proofs.Running.{Running}
use Rattle.sk_vm.proofs.run.+run.Given as goal

abbrev pub decreases-called : goal.decreases-called
decreases-called g l = 2 * l.callee.now.function + 1

abbrev pub decreases-run_code : goal.decreases-run_code
decreases-run_code g l = 2 * l.entry.now.function

abbrev pub invariant-run_code-loop-next : goal.invariant-run_code-loop-next
invariant-run_code-loop-next g l =
    Running l.entry.object l.entry.function (g.S.Surroundings.other l.given) l.fn.slots l.turns l.instrs l.stand l.stack l.slots

abbrev pub decreases-run_code-loop-next : goal.decreases-run_code-loop-next
decreases-run_code-loop-next g l = l.stand.turns * 2 ^ length l.instrs + rank l.instrs l.stand.at
