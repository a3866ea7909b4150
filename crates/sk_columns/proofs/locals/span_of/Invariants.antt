use Rattle.std.proofs.Common.{◌≤◌, ◌^◌}
use Rattle.sk_columns.proofs.locals.span_of.Given as goal

abbrev pub invariant-loop-instr : goal.invariant-loop-instr
invariant-loop-instr l = l.behind ≤ 2 ^ 32
