use Rattle.std.proofs.Common.{◌∷◌, ◌∙◌, ap, ℤ, w64}
use Rattle.std.proofs.lemmas.Int.{to_z-of_z}
use Rattle.sk_vm.specs.Points.{values_in}
use Rattle.sk_vm.proofs.Values.{values_in-set}
use Rattle.sk_host.proofs.machine.put.Goals as goal

pub returns-clause-values : goal.returns-clause-values
returns-clause-values c =
    values_in-set c.args.stack.now c.args.top _ c.requires.room
    ∙ ap (λ (x : ℤ). x ∷ values_in c.args.stack.now c.args.top) (to_z-of_z w64 c.args.value c.ranges.value)
