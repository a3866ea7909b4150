use Rattle.std.proofs.Common.{◌≡◌, ℕ, ◌<◌, ◌≤◌, Ok, pos, slice_index_or}
use Rattle.sk_base.specs.Arithmetic.{op_of}
use Rattle.sk_base.specs.declared.number.Op.TheVariants.{Rem}
use Rattle.sk_base.specs.declared.number.Ty.TheVariants.{Int}
use Rattle.sk_columns.proofs.divide.rest_all.Given as goal

abbrev pub invariant-loop-k : goal.invariant-loop-k
invariant-loop-k l =
    ((place : ℕ) → l.k ≤ place → slice_index_or l.to place (pos 0) ≡ slice_index_or l.initial.to place (pos 0))
    × ((place : ℕ) → place < l.k → op_of Rem Int (slice_index_or l.initial.to place (pos 0)) (pos l.scale.divisor) ≡ Ok (slice_index_or l.to place (pos 0)))
