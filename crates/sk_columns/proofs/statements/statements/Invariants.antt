use Rattle.std.proofs.Common.{ℕ, ◌<◌, length}
use Rattle.sk_columns.specs.Blocks.{Proceeds}
use Rattle.sk_columns.specs.Locals.{stored_in}
use Rattle.sk_columns.proofs.statements.statements.Given as goal

abbrev pub invariant-loop-at : goal.invariant-loop-at
invariant-loop-at g l = (place : ℕ) → place < length l.first
    → Proceeds l.code.instrs.now (stored_in l.least l.initial.locals l.initial.kept (length l.initial.first) place (g.L.Lanes.known l.code.lanes.now place)) 0
    (stored_in l.least l.locals l.kept (length l.first) place (g.L.Lanes.known l.code.lanes.now place)) l.from
