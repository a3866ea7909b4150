use Rattle.std.proofs.Common.{◌≡◌}
use Rattle.std.specs.Prelude.{All, vec_len}
use Rattle.sk_base.specs.Arithmetic.{InRange}
use Rattle.sk_base.specs.declared.number.Ty.TheVariants.{Int}
use Rattle.sk_index_rows.proofs.places.cells.Given as goal

abbrev pub invariant-loop : goal.invariant-loop
invariant-loop l = All (InRange Int) l.cells.items × (vec_len l.cells ≡ l.counter)
