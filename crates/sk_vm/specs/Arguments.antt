-- Numbers that a function reads from data for its scalars, which are counted from 0 behind an index.
use Rattle.std.specs.Prelude.{◌≡◌, ℕ, ◌-◌, ◌<◌, Bool, nat_lt, if◌then◌else◌, List, length, ℤ, pos, Option, Some, IsSome, slice_get, slice_index_or}
use Rattle.sk_kernel.specs.Kernels.{place_in, Source}

-- what the data has for a scalar: a cell of the operand for an element, and else a uniform argument
abbrev pub argument_at : Source → (elements : ℕ) → (pairs : Bool) → (place pair parameter : ℕ) → Option ℤ
argument_at source elements pairs place pair parameter =
    if nat_lt parameter elements
    then source.held parameter (place_in pairs place pair parameter)
    else slice_get source.uniforms (parameter - elements)

-- the data has something for each of so many scalars
abbrev pub CanPass : Source → (elements : ℕ) → (pairs : Bool) → (place pair : ℕ) → (count : ℕ) → Type 0
CanPass source elements pairs place pair count = (k : ℕ) → k < count → IsSome (argument_at source elements pairs place pair k)

-- these numbers are what the data has for the scalars
abbrev pub Passes : Source → (elements : ℕ) → (pairs : Bool) → (place pair : ℕ) → List ℤ → Type 0
Passes source elements pairs place pair numbers =
    (k : ℕ) → k < length numbers → argument_at source elements pairs place pair k ≡ Some (slice_index_or numbers k (pos 0))
