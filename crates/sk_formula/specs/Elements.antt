-- Values at consecutive indices, and folds of them.
use Rattle.std.specs.Prelude.{ℕ, zero, suc, ◌+◌, List, [], ◌∷◌, ◌++◌, ℤ, Option, Some, None, Result, Ok, Err}
use Rattle.sk_base.specs.declared.number.Trap.{Trap}

-- a trap, and the index at which it stands
pub record TrapAt : Type 0 where
  pub trap : Trap
  pub element : ℕ

abbrev pub at_element : {X : Type 0} → ℕ → Result X Trap → Result X TrapAt
at_element index (Ok value) = Ok value
at_element index (Err trap) = Err (record { trap = trap; element = index })

-- one more element behind others, unless there is a trap: the earlier one counts
abbrev pub with_last : Result (List ℤ) TrapAt → Result ℤ TrapAt → Result (List ℤ) TrapAt
with_last (Err trapped) last = Err trapped
with_last (Ok values) (Ok last) = Ok (values ++ last ∷ [])
with_last (Ok values) (Err trapped) = Err trapped

-- the values at that many indices from `first` on, or the trap at the least index
abbrev pub mapped : (value : ℕ → Result ℤ Trap) → (first count : ℕ) → Result (List ℤ) TrapAt
mapped value first zero = Ok []
mapped value first (suc count) = with_last (mapped value first count) (at_element (first + count) (value (first + count)))

-- the operator's value for what was folded so far, if anything, and one more
abbrev pub joined : (join : ℤ → ℤ → Result ℤ Trap) → Option ℤ → ℤ → Result (Option ℤ) Trap
joined join None last = Ok (Some last)
joined join (Some folded) last = elim (join folded last) [ Ok value ↦ Ok (Some value) | Err trap ↦ Err trap ]

-- one more operand behind a fold, unless there is a trap: the earlier one counts, and the operand's own before the
-- operator's
abbrev pub fold_last : (join : ℤ → ℤ → Result ℤ Trap) → (index : ℕ) → Result (Option ℤ) TrapAt → Result ℤ Trap → Result (Option ℤ) TrapAt
fold_last join index (Err trapped) last = Err trapped
fold_last join index (Ok folded) (Err trap) = Err (record { trap = trap; element = index })
fold_last join index (Ok folded) (Ok last) = at_element index (joined join folded last)

-- The fold of the operands at that many indices from `first` on, from the left, what stands in front being folded once;
-- nothing where there is neither. Or the trap at the least index.
abbrev pub folded : (join : ℤ → ℤ → Result ℤ Trap) → (operand : ℕ → Result ℤ Trap) → (front : Option ℤ) → (first count : ℕ) → Result (Option ℤ) TrapAt
folded join operand front first zero = Ok front
folded join operand front first (suc count) =
    fold_last join (first + count) (folded join operand front first count) (operand (first + count))
