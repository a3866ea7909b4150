-- Values at consecutive indices, from what is known of each.
use Rattle.std.proofs.Common.{◌≡◌, ◌∙◌, ℕ, zero, suc, ◌+◌, ◌-◌, ◌*◌, ◌<◌, ◌≤◌, Bool, false, List, [], ◌∷◌, ◌++◌, length, take, take-suc, ◌⊎◌, ℤ, pos, Ok, refl, ap, sym, subst, arith, inl, inr}
use Rattle.std.specs.Prelude.{if◌then◌else◌, Result, Err, IsOk, slice_index_or, Option, Some, None, IsSome, IsSomeAnd, unwrap_or}
use Rattle.sk_arguments.specs.Arguments.{Given}
use Rattle.sk_base.specs.declared.number.Trap.{Trap}
use Rattle.sk_formula.specs.Elements.{TrapAt, at_element, mapped, with_last}
use Rattle.sk_kernel.specs.Kernels.{Agree, AgreeRun, AreValues, Meaning, Source, Suits, SuitsRun, given_by, run_pair, run_place, run_value}
use Rattle.sk_kernel.specs.declared.kernel.RunTrap.{RunTrap}
use Rattle.sk_formula.specs.Skeletons.{value_at}
use Rattle.sk_seq.specs.Given.{AgreeAll, functions_over}
use Rattle.sk_seq.specs.Operands.{operand_at}
use Rattle.sk_seq.specs.Results.{AreComputed}
use Rattle.sk_seq.specs.declared.operands.Operands.TheVariants.{Values}
use Rattle.sk_seq.specs.declared.trapped.Trapped.{Trapped}

take_all : (xs : List ℤ) (n : ℕ) → length xs ≡ n → take n xs ≡ xs
take_all [] zero is = refl
take_all [] (suc n) is = refl
take_all (x ∷ xs) zero is = absurd (omega arith)
take_all (x ∷ xs) (suc n) is = ap (λ (ys : List ℤ). x ∷ ys) (take_all xs n (omega arith))

first_values : (value : ℕ → Result ℤ Trap) (first : ℕ) (cells : List ℤ) (n : ℕ) → n ≤ length cells
    → ((k : ℕ) → k < length cells → value (first + k) ≡ Ok (slice_index_or cells k (pos 0)))
    → mapped value first n ≡ Ok (take n cells)
first_values value first cells zero upto each = refl
first_values value first cells (suc n) upto each =
    ap (λ (r : Result (List ℤ) TrapAt). with_last r (at_element (first + n) (value (first + n)))) (first_values value first cells n (omega arith) each)
    ∙ ap (λ (r : Result ℤ Trap). with_last (Ok (take n cells)) (at_element (first + n) r)) (each n (omega arith))
    ∙ ap (λ (xs : List ℤ). Ok xs) (sym (take-suc cells n (pos 0) (omega arith)))

-- cells that are the values
pub all_values : (value : ℕ → Result ℤ Trap) (first : ℕ) (cells : List ℤ) (n : ℕ) → length cells ≡ n
    → ((k : ℕ) → k < length cells → value (first + k) ≡ Ok (slice_index_or cells k (pos 0)))
    → mapped value first n ≡ Ok cells
all_values value first cells n long each =
    first_values value first cells n (omega arith) each ∙ ap (λ (xs : List ℤ). Ok xs) (take_all cells n long)

some_values : (value : ℕ → Result ℤ Trap) (first n : ℕ) → ((k : ℕ) → k < n → IsOk (value (first + k))) → (xs : List ℤ) × (mapped value first n ≡ Ok xs)
some_values value first zero each = ([], refl)
some_values value first (suc n) each = by (value (first + n)) refl (each n (omega arith)) (some_values value first n (λ k less. each k (omega arith)))
  where
    by : (r : Result ℤ Trap) → value (first + n) ≡ r → IsOk r → (xs : List ℤ) × (mapped value first n ≡ Ok xs) → (xs : List ℤ) × (mapped value first (suc n) ≡ Ok xs)
    by (Ok x) is ok before = (
      before.0 ++ x ∷ [],
      ap (λ (r : Result (List ℤ) TrapAt). with_last r (at_element (first + n) (value (first + n)))) before.1
          ∙ ap (λ (r : Result ℤ Trap). with_last (Ok before.0) (at_element (first + n) r)) is,
    )
    by (Err trap) is ok before = cc

-- the trap at the least index
pub least_trap : (value : ℕ → Result ℤ Trap) (first offset : ℕ) (trap : Trap) (n : ℕ) → offset < n → value (first + offset) ≡ Err trap
    → ((k : ℕ) → k < offset → IsOk (value (first + k)))
    → mapped value first n ≡ Err (record { trap = trap; element = first + offset })
least_trap value first offset trap zero less is before = absurd (omega arith)
least_trap value first offset trap (suc n) less is before =
    pick (below_or_same offset n less) (λ under. least_trap value first offset trap n under is before)
  where
    below_or_same : (a b : ℕ) → a < suc b → (a < b) ⊎ (a ≡ b)
    below_or_same a b h = grind arith

    pick : (offset < n) ⊎ (offset ≡ n) → (offset < n → mapped value first n ≡ Err (record { trap = trap; element = first + offset }))
        → mapped value first (suc n) ≡ Err (record { trap = trap; element = first + offset })
    pick (inl under) later = ap (λ (r : Result (List ℤ) TrapAt). with_last r (at_element (first + n) (value (first + n)))) (later under)
    pick (inr same) later =
        let ok = some_values value first n (λ k small. before k (subst (λ (m : ℕ). k < m) (sym same) small)) in
        ap (λ (r : Result (List ℤ) TrapAt). with_last r (at_element (first + n) (value (first + n)))) ok.1
        ∙ ap (λ (m : ℕ). with_last (Ok ok.0) (at_element (first + m) (value (first + m)))) (sym same)
        ∙ ap (λ (r : Result ℤ Trap). with_last (Ok ok.0) (at_element (first + offset) r)) is

-- what the data holds where a value may depend on it
some_of : {X : Type 0} (found : Option X) (P : X → Type 0) → IsSomeAnd found P → IsSome found
some_of (Some x) P is = refl
some_of None P is = absurd is

pub agree_at : (meaning : Meaning) (source : Source) (place pair : ℕ) (cells : ℕ → ℕ → ℤ) → Suits meaning source place pair → AgreeAll source cells
    → Agree meaning source place pair cells
agree_at meaning source place pair cells suits agree operand index reads = agree operand index (some_of (source.held operand index) _ (suits.held operand index reads))

pub agree_run : (meaning : Meaning) (source : Source) (place pair count : ℕ) (cells : ℕ → ℕ → ℤ) → SuitsRun meaning source place pair count → AgreeAll source cells
    → AgreeRun meaning source place pair count cells
agree_run meaning source place pair count cells suits agree behind less =
    agree_at meaning source (run_place meaning place behind) (run_pair meaning pair behind) cells (suits behind less) agree

-- values at single places
pub single_value : (meaning : Meaning) (given : Given) (first k : ℕ) → meaning.pairs ≡ false → run_value meaning given first 0 k ≡ meaning.value given (first + k) 0
single_value meaning given first k is =
    ap (λ (b : Bool). meaning.value given (if b then first else first + k) (if b then 0 + k else 0)) is

-- cells that the data holds, and 0 elsewhere
abbrev pub cells_held : Source → (operand index : ℕ) → ℤ
cells_held source operand index = unwrap_or (source.held operand index) (pos 0)

pub agree_held : (source : Source) → AgreeAll source (cells_held source)
agree_held source operand index is = by (source.held operand index) is
  where
    by : (found : Option ℤ) → IsSome found → found ≡ Some (unwrap_or found (pos 0))
    by (Some cell) is = refl
    by None is = cc

-- places from one on have the values in a list, or there is the trap at the least
module _ (meaning : Meaning) (source : Source) (cells : ℕ → ℕ → ℤ) (first count : ℕ) (out : List ℤ) (single : meaning.pairs ≡ false) (long : length out ≡ count) where
  pub places_done : AreValues (run_value meaning (given_by source cells) first 0) out (Ok tt)
      → mapped (value_at (functions_over meaning source cells)) first count ≡ Ok out
  places_done values =
      all_values (value_at (functions_over meaning source cells)) first out count long
      (λ k less. sym (single_value meaning (given_by source cells) first k single) ∙ values k less)

  pub places_trapped : (trapped : RunTrap) → AreValues (run_value meaning (given_by source cells) first 0) out (Err trapped)
      → mapped (value_at (functions_over meaning source cells)) first count ≡ Err (record { trap = trapped.trap; element = first + trapped.offset })
  places_trapped trapped values =
      least_trap (value_at (functions_over meaning source cells)) first trapped.offset trapped.trap count
      (subst (λ (n : ℕ). trapped.offset < n) long values.0)
      (sym (single_value meaning (given_by source cells) first trapped.offset single) ∙ values.1)
      (λ k less. subst IsOk (single_value meaning (given_by source cells) first k single) (values.2 k less))

-- the function's values as operands of a fold
pub as_operands : (meaning : Meaning) (given : Given) (first : ℕ) (out : List ℤ) (result : Result (Unit {0}) RunTrap) → meaning.pairs ≡ false
    → AreValues (run_value meaning given first 0) out result → AreValues (operand_at Values meaning given first) out result
as_operands meaning given first out (Ok done) single values = λ k less. sym (single_value meaning given first k single) ∙ values k less
as_operands meaning given first out (Err trapped) single values = (
  values.0,
  sym (single_value meaning given first trapped.offset single) ∙ values.1,
  λ k less. subst IsOk (single_value meaning given first k single) (values.2 k less),
)

-- the elements of units of so many elements each
pub of_units : (value : ℕ → Result ℤ Trap) (first from count many : ℕ) (out : List ℤ) (result : Result (Unit {0}) Trapped) → first ≡ from → count ≡ many
    → AreComputed (mapped value from many) out result → AreComputed (mapped value first count) out result
of_units value first from count many out result first_is count_is computed =
    subst (λ (n : ℕ). AreComputed (mapped value n count) out result) (sym first_is)
    (subst (λ (n : ℕ). AreComputed (mapped value from n) out result) (sym count_is) computed)

pub units_end : (lo hi width : ℕ) → lo ≤ hi → lo * width + (hi - lo) * width ≡ hi * width
units_end lo hi width upto =
    let whole : hi ≡ lo + (hi - lo) = omega arith in
    sym (ap (λ (n : ℕ). n * width) whole ∙ spread lo (hi - lo))
  where
    spread : (a b : ℕ) → (a + b) * width ≡ a * width + b * width
    spread a b = grind arith
