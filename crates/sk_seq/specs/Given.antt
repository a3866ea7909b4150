-- What a plain skeleton is given.
use Rattle.std.specs.Prelude.{◌≡◌, ℕ, ℤ, Some, IsSome, slice_get}
use Rattle.sk_formula.specs.Calls.{Sizes}
use Rattle.sk_formula.specs.Skeletons.{Functions}
use Rattle.sk_functions.specs.Functions.{functions_by}
use Rattle.sk_kernel.specs.Kernels.{Meaning, Source, given_by}

-- these cells are those that the data holds, wherever it holds one
abbrev pub AgreeAll : Source → (cells : ℕ → ℕ → ℤ) → Type 0
AgreeAll source cells =
    (operand index : ℕ) → IsSome (source.held operand index) → source.held operand index ≡ Some (cells operand index)

-- the function and the operator over data with these cells
abbrev pub functions_over : Meaning → Source → (cells : ℕ → ℕ → ℤ) → Functions
functions_over meaning source cells = functions_by meaning (given_by source cells)

-- The sizes of a call's operands. The result of a MapOverlap, on whose rows its units depend, has those of the first one.
abbrev pub sizes_in : Source → Sizes
sizes_in source = record { result = slice_get source.shapes 0; operands = source.shapes }
