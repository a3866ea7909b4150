use Rattle.std.proofs.Common.{◌≡◌, ℕ, Some, ◌+◌, ◌<◌, slice_get}
use Rattle.sk_columns.specs.declared.level.Level.TheVariants.{Column}
use Rattle.sk_columns.proofs.locals.begin.Given as goal

abbrev pub invariant-loop-row : goal.invariant-loop-row
invariant-loop-row l = (row : ℕ) → row < l.row → slice_get l.levels row ≡ Some (Column (l.least + row))
