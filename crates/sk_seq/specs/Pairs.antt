-- Rows of pairs.
use Rattle.std.specs.Prelude.{◌≡◌, ℕ, ◌+◌, ◌<◌, ◌≤◌, List, ℤ, pos, Result, Ok, Err, IsOk, slice_index_or}
use Rattle.sk_base.specs.Arithmetic.{InRange}
use Rattle.sk_base.specs.declared.number.Trap.{Trap}
use Rattle.sk_base.specs.declared.number.Ty.{Ty}
use Rattle.sk_formula.specs.Skeletons.{Functions, pair_value}
use Rattle.sk_kernel.specs.declared.kernel.RunTrap.{RunTrap}

-- the value at the pair that is so many behind one, by rows of so many
abbrev pub pair_from : Functions → (width first behind : ℕ) → Result ℤ Trap
pair_from functions width first behind = pair_value functions width (first + behind)

-- The cells from one on are the values at the pairs of a place; or one of these pairs traps, and those before it have values.
abbrev pub ArePairs : Functions → (place width done : ℕ) → (cells : List ℤ) → Result (Unit {0}) RunTrap → Type 0
ArePairs functions place width done cells (Ok ended) =
    (pair : ℕ) → pair < width → functions.value place pair ≡ Ok (slice_index_or cells (done + pair) (pos 0))
ArePairs functions place width done cells (Err trapped) =
    (done ≤ trapped.offset) × (trapped.offset < done + width)
    × ((pair : ℕ) → trapped.offset ≡ done + pair → functions.value place pair ≡ Err trapped.trap)
    × ((pair : ℕ) → done + pair < trapped.offset → IsOk (functions.value place pair))

-- the first so many cells are of a type
abbrev pub AreOf : Ty → (cells : List ℤ) → (count : ℕ) → Type 0
AreOf ty cells count = (k : ℕ) → k < count → InRange ty (slice_index_or cells k (pos 0))
