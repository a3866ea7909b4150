-- Folds of numbers of a type are numbers of it.
use Rattle.std.proofs.Common.{ℕ, zero, suc, ◌+◌, ◌<◌, ℤ, pos, Option, Some, None, IfSome, Result, Ok, Err, unwrap_or, arith}
use Rattle.sk_base.specs.Arithmetic.{InRange}
use Rattle.sk_base.specs.declared.number.Trap.{Trap}
use Rattle.sk_base.specs.declared.number.Ty.{Ty}
use Rattle.sk_formula.specs.Calls.{fold_outcome}
use Rattle.sk_formula.specs.Elements.{TrapAt, at_element, fold_last, folded, joined}
use Rattle.sk_formula.specs.Skeletons.{fold_value}
use Rattle.sk_isa.specs.Soundness.{IsOfType}
use Rattle.sk_isa_laws.proofs.Values.{zero-in_range}
use Rattle.sk_main_laws.proofs.CallWorlds.{IsNumber}

abbrev pub IsFolded : Ty → Result (Option ℤ) TrapAt → Type 0
IsFolded ty (Ok value) = IfSome value (InRange ty)
IsFolded ty (Err trapped) = Unit {0}

module _ (ty : Ty) (join : ℤ → ℤ → Result ℤ Trap) (joins : (a b : ℤ) → InRange ty a → InRange ty b → IsOfType ty (join a b)) where
  joined_fits : (index : ℕ) (front : Option ℤ) (last : ℤ) → IfSome front (InRange ty) → InRange ty last → IsFolded ty (at_element index (joined join front last))
  joined_fits index None last h fits = fits
  joined_fits index (Some front) last h fits = by (join front last) (joins front last h fits)
    where
      by : (result : Result ℤ Trap) → IsOfType ty result → IsFolded ty (at_element index (elim result [ Ok value ↦ Ok (Some value) | Err trap ↦ Err trap ]))
      by (Ok value) fits = fits
      by (Err trap) fits = tt

  last_fits : (index : ℕ) (before : Result (Option ℤ) TrapAt) (last : Result ℤ Trap) → IsFolded ty before → IsOfType ty last → IsFolded ty (fold_last join index before last)
  last_fits index (Err trapped) last h fits = tt
  last_fits index (Ok front) (Err trap) h fits = tt
  last_fits index (Ok front) (Ok last) h fits = joined_fits index front last h fits

  pub folded_fits : (operand : ℕ → Result ℤ Trap) (front : Option ℤ) → IfSome front (InRange ty) → (first count : ℕ)
      → ((k : ℕ) → k < count → IsOfType ty (operand (first + k))) → IsFolded ty (folded join operand front first count)
  folded_fits operand front fits first zero each = fits
  folded_fits operand front fits first (suc count) each =
      last_fits (first + count) (folded join operand front first count) (operand (first + count))
      (folded_fits operand front fits first count (λ k less. each k (omega arith))) (each count (omega arith))

some_or_zero : (ty : Ty) (value : Option ℤ) → IfSome value (InRange ty) → InRange ty (unwrap_or value (pos 0))
some_or_zero ty None h = zero-in_range ty
some_or_zero ty (Some value) h = h

pub fold_of_type : (ty : Ty) (result : Result (Option ℤ) TrapAt) → IsFolded ty result → IsOfType ty (fold_value result)
fold_of_type ty (Ok value) h = some_or_zero ty value h
fold_of_type ty (Err trapped) h = tt

pub fold_number : (ty : Ty) (result : Result (Option ℤ) TrapAt) → IsFolded ty result → IsNumber ty (fold_outcome result)
fold_number ty (Ok value) h = some_or_zero ty value h
fold_number ty (Err trapped) h = tt
