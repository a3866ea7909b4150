-- Folds of lines.
use Rattle.std.proofs.Common.{◌≡◌, ◌∙◌, ℕ, ◌+◌, ◌<◌, List, length, ℤ, pos, Ok, refl, ap, sym, subst, arith}
use Rattle.std.specs.Prelude.{Result, Err, Option, Some, None, IsSome, IsSomeAnd, slice_index_or, slice_set, unwrap_or}
use Rattle.sk_base.specs.Arithmetic.{InRange}
use Rattle.sk_base.specs.declared.number.Trap.{Trap}
use Rattle.sk_base.specs.declared.number.Ty.{Ty}
use Rattle.sk_base.specs.declared.number.Ty.TheVariants.{Int, Long}
use Rattle.sk_formula.specs.Elements.{at_element, fold_last, folded, mapped}
use Rattle.sk_formula.specs.Skeletons.{fold_value}
use Rattle.sk_kernel.specs.Kernels.{IsJoined, Meaning, Source}
use Rattle.sk_seq.proofs.Folded.{more_is, upto_all}
use Rattle.sk_seq.proofs.Mapped.{least_trap}
use Rattle.sk_seq.proofs.ScanLemmas.{ok_each, put_more}
use Rattle.sk_seq.specs.Given.{functions_over}
use Rattle.sk_seq.specs.Joinings.{MayStand}
use Rattle.sk_seq.specs.Lines.{joined_with, line_fold, line_operand}
use Rattle.sk_seq.specs.declared.line_folds.Lines.{Lines}

last_is : (join : ℤ → ℤ → Result ℤ Trap) (k : ℕ) (before : Option ℤ) (operand : Result ℤ Trap)
    → fold_last join k (Ok before) operand ≡ at_element k (joined_with join before operand)
last_is join k before (Ok last) = refl
last_is join k before (Err trap) = refl

-- one operand more, by what the operator and the function of a kernel mean that still means the same
module _ (now meaning : Meaning) (lines : Lines) (source : Source) (cells : ℕ → ℕ → ℤ) (line : ℕ) (front before : Option ℤ) (k : ℕ) (same : now ≡ meaning)
    (is : folded meaning.join (line_operand lines (functions_over meaning source cells) line) front 0 k ≡ Ok before) where
  more_joined : (result : Result (Option ℤ) Trap)
      → joined_with now.join before (line_operand lines (functions_over now source cells) line k) ≡ result
      → folded meaning.join (line_operand lines (functions_over meaning source cells) line) front 0 (k + 1) ≡ at_element k result
  more_joined result joins =
      more_is meaning.join (line_operand lines (functions_over meaning source cells) line) front before k (line_operand lines (functions_over meaning source cells) line k) is refl
      ∙ last_is meaning.join k before (line_operand lines (functions_over meaning source cells) line k)
      ∙ ap (at_element k) (subst (λ (m : Meaning). joined_with m.join before (line_operand lines (functions_over m source cells) line k) ≡ result) same joins)

  pub line_more : (more : Option ℤ) → joined_with now.join before (line_operand lines (functions_over now source cells) line k) ≡ Ok more
      → folded meaning.join (line_operand lines (functions_over meaning source cells) line) front 0 (k + 1) ≡ Ok more
  line_more more joins = more_joined (Ok more) joins

  pub line_traps : (trap : Trap) (count : ℕ) → k < count → joined_with now.join before (line_operand lines (functions_over now source cells) line k) ≡ Err trap
      → fold_value (folded meaning.join (line_operand lines (functions_over meaning source cells) line) front 0 count) ≡ Err trap
  line_traps trap count less joins =
      ap fold_value
      (upto_all meaning.join (line_operand lines (functions_over meaning source cells) line) front 0 (k + 1) count (record { trap = trap; element = k }) (omega arith)
      (more_joined (Err trap) joins))

-- the value of a line's fold, or its trap
module _ (now meaning : Meaning) (lines : Lines) (source : Source) (cells : ℕ → ℕ → ℤ) (line operands : ℕ) (front : Option ℤ) (same : now ≡ meaning) where
  pub line_value : (value : Option ℤ) (put : ℤ) → put ≡ unwrap_or value (pos 0)
      → folded now.join (line_operand lines (functions_over now source cells) line) front 0 operands ≡ Ok value
      → line_fold lines (functions_over meaning source cells) front operands line ≡ Ok put
  line_value value put put_is is =
      ap fold_value (subst (λ (m : Meaning). folded m.join (line_operand lines (functions_over m source cells) line) front 0 operands ≡ Ok value) same is)
      ∙ ap Ok (sym put_is)

  pub line_trapped : (trap : Trap) → fold_value (folded now.join (line_operand lines (functions_over now source cells) line) front 0 operands) ≡ Err trap
      → line_fold lines (functions_over meaning source cells) front operands line ≡ Err trap
  line_trapped trap is =
      subst (λ (m : Meaning). fold_value (folded m.join (line_operand lines (functions_over m source cells) line) front 0 operands) ≡ Err trap) same is

-- lines one after another
pub lines_more : (value : ℕ → Result ℤ Trap) (lo : ℕ) (out : List ℤ) (k : ℕ) (put : ℤ) → k < length out
    → ((j : ℕ) → j < k → value (lo + j) ≡ Ok (slice_index_or out j (pos 0))) → value (lo + k) ≡ Ok put
    → (j : ℕ) → j < k + 1 → value (lo + j) ≡ Ok (slice_index_or (slice_set out k put) j (pos 0))
lines_more value lo out k put within earlier is = put_more (λ j. value (lo + j)) out k put within earlier is

pub lines_trapped : (value : ℕ → Result ℤ Trap) (lo : ℕ) (out : List ℤ) (k : ℕ) (trap : Trap) (n : ℕ) → k < n
    → ((j : ℕ) → j < k → value (lo + j) ≡ Ok (slice_index_or out j (pos 0))) → value (lo + k) ≡ Err trap
    → mapped value lo n ≡ Err (record { trap = trap; element = lo + k })
lines_trapped value lo out k trap n less earlier is = least_trap value lo k trap n less is (ok_each (λ j. value (lo + j)) out k earlier)

-- what is put for a line is of the operator's type
zero_of : (operator : Option Ty) → IsSome operator → IsSomeAnd operator (λ ty. InRange ty (pos 0))
zero_of (Some Int) is = record { sfits = omega arith }
zero_of (Some Long) is = record { sfits = omega arith }
zero_of None is = cc

pub value_joined : (meaning : Meaning) (value : Option ℤ) (put : ℤ) → IsSome meaning.operator → MayStand meaning value → put ≡ unwrap_or value (pos 0) → IsJoined meaning put
value_joined meaning (Some front) put operator stands is = subst (IsJoined meaning) (sym is) stands
value_joined meaning None put operator stands is = subst (IsJoined meaning) (sym is) (zero_of meaning.operator operator)
