-- What is known of a function's run at a place of a block.
use Rattle.std.specs.Prelude.{◌≡◌, ℕ, List, ℤ, Option, Some, slice_get}
use Rattle.sk_meaning.specs.Evaluation.{Argument, field_of}

-- the numbers in the slots, and the fields of the arguments that stood there at the start
pub record Known : Type 0 where
  pub slots : (slot : ℕ) → Option ℤ
  pub fields : (slot : ℕ) → (name : List ℕ) → Option ℤ

-- the argument of a slot has this number in a field
abbrev pub HasField : (arguments : List Argument) → (slot : ℕ) → (name : List ℕ) → (number : ℤ) → Type 0
HasField arguments slot name number =
    (argument : Argument) × (slice_get arguments slot ≡ Some argument) × (field_of argument name ≡ number)

-- arguments and slots of which this is known
pub record Have (known : Known) (arguments : List Argument) (numbers : List ℤ) : Type 0 where
  pub stored : (slot : ℕ) (number : ℤ) → known.slots slot ≡ Some number → slice_get numbers slot ≡ Some number
  pub given : (slot : ℕ) (name : List ℕ) (number : ℤ) → known.fields slot name ≡ Some number → HasField arguments slot name number
