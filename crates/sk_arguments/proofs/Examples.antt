-- Worked examples of arguments, by evaluation.
use Rattle.std.proofs.Common.{◌≡◌, ℕ, ℤ, refl}
use Rattle.std.specs.Prelude.{true, false, List, [], ◌∷◌, pos, negsuc, ◌+ℤ◌, Some, None, Result, Ok, Err, slice_index_or}
use Rattle.sk_base.specs.declared.choice.EdgeMode.TheVariants.{Cyclic, Pad}
use Rattle.sk_base.specs.declared.number.Trap.{Trap}
use Rattle.sk_base.specs.declared.number.Trap.TheVariants.{Index as OutOfRange}
use Rattle.sk_base.specs.declared.number.Ty.TheVariants.{Int}
use Rattle.sk_arguments.specs.Arguments.{Given, Reading, At, arguments_of, reads_of}
use Rattle.sk_arguments.specs.Places.{coordinates_of}
use Rattle.sk_meaning.specs.Evaluation.{Argument, Value, Place, Whole, element_at}
use Rattle.sk_tree.specs.InstanceSettings.{default_settings}
use Rattle.sk_tree.specs.declared.tree.ParamKind.TheVariants.{Scalar, Index, Proxy, Region}

abbrev at : List ℤ → ℕ → ℤ
at cells index = slice_index_or cells index (pos 0)

abbrev place : ℕ → At
place index = record { place = index; pair = 0 }

-- the sixth element of a tensor of 2 by 2 by 2 stands at 1, 0, 1
sixth : coordinates_of (2 ∷ 2 ∷ 2 ∷ []) 5 ≡ 1 ∷ 0 ∷ 1 ∷ []
sixth = refl

-- an index, two elements, a container and a uniform argument
abbrev two_elements : Reading
two_elements = record { elements = 2; pairs = false; settings = default_settings }

abbrev three_operands : Given
three_operands = record {
  cells = λ operand index. at (slice_index_or ((pos 1 ∷ pos 2 ∷ []) ∷ (pos 3 ∷ pos 4 ∷ []) ∷ (pos 5 ∷ pos 6 ∷ pos 7 ∷ []) ∷ []) operand []) index;
  shapes = (2 ∷ []) ∷ (2 ∷ []) ∷ (3 ∷ []) ∷ [];
  uniforms = pos 8 ∷ [];
  over = Some (2 ∷ []);
}

all_kinds : arguments_of two_elements (Index 1 ∷ Scalar Int ∷ Scalar Int ∷ Proxy 1 Int ∷ Scalar Int ∷ []) three_operands (place 1)
    ≡ Place (1 ∷ []) ∷ Value (pos 2) ∷ Value (pos 4) ∷ Whole (3 ∷ []) (pos 5 ∷ pos 6 ∷ pos 7 ∷ []) ∷ Value (pos 8) ∷ []
all_kinds = refl

-- the second of two operands is read at the pair, and the index is both
over_pairs : arguments_of (record { elements = 2; pairs = true; settings = default_settings }) (Index 2 ∷ Scalar Int ∷ Scalar Int ∷ [])
    (record { cells = λ operand index. pos index; shapes = (2 ∷ []) ∷ (3 ∷ []) ∷ []; uniforms = []; over = None }) (record { place = 1; pair = 2 })
    ≡ Place (1 ∷ 2 ∷ []) ∷ Value (pos 1) ∷ Value (pos 2) ∷ []
over_pairs = refl

-- the value of a region argument at some distances
abbrev read : List Argument → List ℤ → Result ℤ Trap
read (region ∷ rest) distances = element_at region distances
read [] distances = Ok (pos 0)

abbrev plus : Result ℤ Trap → Result ℤ Trap → Result ℤ Trap
plus (Ok a) (Ok b) = Ok (a +ℤ b)
plus (Ok a) (Err trap) = Err trap
plus (Err trap) b = Err trap

-- 1, 2, 3, cyclically: two to the left and two to the right
abbrev round_three : ℕ → List Argument
round_three index = arguments_of
    (record { elements = 0; pairs = false; settings = record default_settings { overlap = (2, 2); edge = Cyclic } })
    (Region 1 Int ∷ [])
    (record { cells = λ operand index. at (pos 1 ∷ pos 2 ∷ pos 3 ∷ []) index; shapes = (3 ∷ []) ∷ []; uniforms = []; over = Some (3 ∷ []) })
    (place index)

cyclic_first : plus (read (round_three 0) (negsuc 1 ∷ [])) (read (round_three 0) (pos 2 ∷ [])) ≡ Ok (pos 5)
cyclic_first = refl

cyclic_second : plus (read (round_three 1) (negsuc 1 ∷ [])) (read (round_three 1) (pos 2 ∷ [])) ≡ Ok (pos 4)
cyclic_second = refl

cyclic_third : plus (read (round_three 2) (negsuc 1 ∷ [])) (read (round_three 2) (pos 2 ∷ [])) ≡ Ok (pos 3)
cyclic_third = refl

too_far : read (round_three 0) (pos 3 ∷ []) ≡ Err OutOfRange
too_far = refl

-- 1 2 over 3 4, with 0 outside: the one above and the one to the right
abbrev in_square : ℕ → List Argument
in_square index = arguments_of
    (record { elements = 0; pairs = false; settings = record default_settings { overlap = (1, 1); edge = Pad } })
    (Region 2 Int ∷ [])
    (record { cells = λ operand index. at (pos 1 ∷ pos 2 ∷ pos 3 ∷ pos 4 ∷ []) index; shapes = (2 ∷ 2 ∷ []) ∷ []; uniforms = []; over = Some (2 ∷ 2 ∷ []) })
    (place index)

abbrev above_and_right : ℕ → Result ℤ Trap
above_and_right index = plus (read (in_square index) (negsuc 0 ∷ pos 0 ∷ [])) (read (in_square index) (pos 0 ∷ pos 1 ∷ []))

square : (above_and_right 0 ≡ Ok (pos 2)) × (above_and_right 1 ≡ Ok (pos 0)) × (above_and_right 2 ≡ Ok (pos 5)) × (above_and_right 3 ≡ Ok (pos 2))
square = (refl, refl, refl, refl)

-- what the first element of eight may read with an overlap of one: itself and its neighbour
edge_reads : (reads_of (record { elements = 0; pairs = false; settings = record default_settings { overlap = (1, 1) } }) (Region 1 Int ∷ []) ((8 ∷ []) ∷ []) (place 0) 0 1 ≡ true)
    × (reads_of (record { elements = 0; pairs = false; settings = record default_settings { overlap = (1, 1) } }) (Region 1 Int ∷ []) ((8 ∷ []) ∷ []) (place 0) 0 7 ≡ false)
edge_reads = (refl, refl)
