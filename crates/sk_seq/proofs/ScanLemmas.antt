-- Folds up to each cell, and before each.
use Rattle.std.proofs.Common.{◌≡◌, ◌≢◌, ◌∙◌, ℕ, suc, ◌+◌, ◌-◌, ◌<◌, ◌≤◌, Bool, true, false, List, length, ℤ, pos, Ok, refl, ap, sym, subst, arith, inl, inr}
use Rattle.std.specs.Prelude.{Result, Err, IsOk, Option, Some, None, IsSome, IsSomeAnd, slice_index_or, slice_set, unwrap_or}
use Rattle.std.proofs.lemmas.Bool.{cases_lt}
use Rattle.std.proofs.lemmas.Grind.{get_or-set_at}
use Rattle.std.proofs.lemmas.List.{get_or-set_other}
use Rattle.sk_base.specs.declared.number.Trap.{Trap}
use Rattle.sk_base.specs.Arithmetic.{InRange}
use Rattle.sk_base.specs.declared.number.Ty.{Ty}
use Rattle.sk_base.specs.declared.number.Ty.TheVariants.{Int, Long}
use Rattle.sk_formula.specs.Elements.{TrapAt, folded, joined, mapped}
use Rattle.sk_formula.specs.Skeletons.{cell_at, fold_value, prefix_fold}
use Rattle.sk_kernel.specs.Kernels.{AreValues, IsJoined, Meaning, Source}
use Rattle.sk_kernel.specs.declared.kernel.RunTrap.{RunTrap}
use Rattle.sk_seq.proofs.Folded.{cell_more, cell_traps, from_first, further}
use Rattle.sk_seq.proofs.Mapped.{all_values, least_trap}
use Rattle.sk_seq.specs.Given.{AgreeAll, functions_over}
use Rattle.sk_seq.specs.Joinings.{MayStand, cell_in, fold_before, fold_in_scan, fold_upto}

below : (j k : ℕ) → j < k → j ≢ k
below j k less = omega arith

above : (j k : ℕ) → k + 1 ≤ j → j ≢ k
above j k less = omega arith

next_is : (k : ℕ) → k + 1 ≡ suc k
next_is k = omega arith

-- cells from one on are as they were
pub kept_behind : (out orig : List ℤ) (k : ℕ) (put : ℤ) → ((j : ℕ) → k ≤ j → slice_index_or out j (pos 0) ≡ slice_index_or orig j (pos 0))
    → (j : ℕ) → k + 1 ≤ j → slice_index_or (slice_set out k put) j (pos 0) ≡ slice_index_or orig j (pos 0)
kept_behind out orig k put kept j from = get_or-set_other out k j put (pos 0) (above j k from) ∙ kept j (omega arith)

-- one more value in its place
pub put_more : (value : ℕ → Result ℤ Trap) (out : List ℤ) (k : ℕ) (put : ℤ) → k < length out
    → ((j : ℕ) → j < k → value j ≡ Ok (slice_index_or out j (pos 0))) → value k ≡ Ok put
    → (j : ℕ) → j < k + 1 → value j ≡ Ok (slice_index_or (slice_set out k put) j (pos 0))
put_more value out k put within earlier is j less = elim (cases_lt j k) [
  | inl small ↦ earlier j small ∙ ap Ok (sym (get_or-set_other out k j put (pos 0) (below j k small)))
  | inr upto ↦
      let same : j ≡ k = omega arith in
      ap value same ∙ is ∙ ap Ok (sym (get_or-set_at out k j put (pos 0) same within))
]

pub upto_more : (now meaning : Meaning) (out orig : List ℤ) (front before more : Option ℤ) (k : ℕ) (put : ℤ) → now ≡ meaning → k < length out
    → folded meaning.join (cell_in orig) front 0 k ≡ Ok before → joined now.join before (slice_index_or orig k (pos 0)) ≡ Ok more → put ≡ unwrap_or more (pos 0)
    → ((j : ℕ) → j < k → fold_upto meaning front orig j ≡ Ok (slice_index_or out j (pos 0)))
    → (j : ℕ) → j < k + 1 → fold_upto meaning front orig j ≡ Ok (slice_index_or (slice_set out k put) j (pos 0))
upto_more now meaning out orig front before more k put same within is joins put_is earlier =
    put_more (fold_upto meaning front orig) out k put within earlier
    (ap (λ (n : ℕ). fold_value (folded meaning.join (cell_in orig) front 0 n)) (sym (next_is k))
    ∙ ap fold_value (cell_more now meaning orig front before more k same is joins)
    ∙ ap Ok (sym put_is))

pub before_more : (meaning : Meaning) (out orig : List ℤ) (front before : Option ℤ) (k : ℕ) (put : ℤ) → k < length out
    → folded meaning.join (cell_in orig) front 0 k ≡ Ok before → put ≡ unwrap_or before (pos 0)
    → ((j : ℕ) → j < k → fold_before meaning front orig j ≡ Ok (slice_index_or out j (pos 0)))
    → (j : ℕ) → j < k + 1 → fold_before meaning front orig j ≡ Ok (slice_index_or (slice_set out k put) j (pos 0))
before_more meaning out orig front before k put within is put_is earlier =
    put_more (fold_before meaning front orig) out k put within earlier (ap fold_value is ∙ ap Ok (sym put_is))

-- a trap that the cell before a place makes
pub before_traps : (now meaning : Meaning) (orig : List ℤ) (front before : Option ℤ) (k : ℕ) (trap : Trap) → now ≡ meaning
    → folded meaning.join (cell_in orig) front 0 k ≡ Ok before → joined now.join before (slice_index_or orig k (pos 0)) ≡ Err trap
    → fold_before meaning front orig (k + 1) ≡ Err trap
before_traps now meaning orig front before k trap same is joins =
    ap fold_value (cell_traps now meaning orig front before k (k + 1) trap same (omega arith) is joins)

pub ok_each : (value : ℕ → Result ℤ Trap) (cells : List ℤ) (k : ℕ) → ((j : ℕ) → j < k → value j ≡ Ok (slice_index_or cells j (pos 0))) → (j : ℕ) → j < k → IsOk (value j)
ok_each value cells k each j less = subst IsOk (sym (each j less)) refl

-- what is put in the place of a cell is of the operator's type
zero_joined : (operator : Option Ty) (cell : ℤ) → IsSomeAnd operator (λ ty. InRange ty cell) → IsSomeAnd operator (λ ty. InRange ty (pos 0))
zero_joined (Some Int) cell is = record { sfits = omega arith }
zero_joined (Some Long) cell is = record { sfits = omega arith }
zero_joined None cell is = absurd is

pub stands_joined : (meaning : Meaning) (value : Option ℤ) (cell put : ℤ) → IsJoined meaning cell → MayStand meaning value → put ≡ unwrap_or value (pos 0) → IsJoined meaning put
stands_joined meaning (Some front) cell put joined stands is = subst (IsJoined meaning) (sym is) stands
stands_joined meaning None cell put joined stands is = subst (IsJoined meaning) (sym is) (zero_joined meaning.operator cell joined)

pub put_joined : (meaning : Meaning) (out : List ℤ) (k : ℕ) (put : ℤ) → k < length out
    → ((j : ℕ) → j < k → IsJoined meaning (slice_index_or out j (pos 0))) → IsJoined meaning put
    → (j : ℕ) → j < k + 1 → IsJoined meaning (slice_index_or (slice_set out k put) j (pos 0))
put_joined meaning out k put within earlier is j less = elim (cases_lt j k) [
  | inl small ↦ subst (IsJoined meaning) (sym (get_or-set_other out k j put (pos 0) (below j k small))) (earlier j small)
  | inr upto ↦
      let same : j ≡ k = omega arith in
      subst (IsJoined meaning) (sym (get_or-set_at out k j put (pos 0) same within)) is
]

-- the elements of a Scan
pub value_further : (by : ℕ) (r : Result (Option ℤ) TrapAt) → fold_value (further by r) ≡ fold_value r
value_further by (Ok value) = refl
value_further by (Err trapped) = refl

module _ (meaning : Meaning) (source : Source) (cells : ℕ → ℕ → ℤ) (front : Option ℤ) (first count : ℕ) (loaded : List ℤ)
    (agree : AgreeAll source cells) (long : length loaded ≡ count)
    (loads : (k : ℕ) → k < count → source.held 0 (first + k) ≡ Some (slice_index_or loaded k (pos 0))) where
  loaded_is : (k : ℕ) → k < count → cell_in loaded k ≡ cell_at (functions_over meaning source cells) (first + k)
  loaded_is k less = ap Ok (by (source.held 0 (first + k)) (loads k less) (agree 0 (first + k)))
    where
      some-same : {x y : ℤ} → Some x ≡ Some y → x ≡ y
      some-same is = cc

      by : {x y : ℤ} (found : Option ℤ) → found ≡ Some x → (IsSome found → found ≡ Some y) → x ≡ y
      by (Some z) is same = some-same (sym is ∙ same refl)
      by None is same = cc

  prefix_is : (exclusive : Bool) (k : ℕ) → k < count → prefix_fold (functions_over meaning source cells) exclusive front first (first + k) ≡ fold_in_scan exclusive meaning front loaded k
  prefix_is true k less =
      ap (λ (n : ℕ). fold_value (folded meaning.join (cell_at (functions_over meaning source cells)) front first n)) (back k)
      ∙ ap fold_value (from_first meaning.join (cell_at (functions_over meaning source cells)) (cell_in loaded) front first k (λ j small. loaded_is j (omega arith)))
      ∙ value_further first (folded meaning.join (cell_in loaded) front 0 k)
    where
      back : (k : ℕ) → first + k - first ≡ k
      back k = omega arith
  prefix_is false k less =
      ap (λ (n : ℕ). fold_value (folded meaning.join (cell_at (functions_over meaning source cells)) front first n)) (back k)
      ∙ ap fold_value (from_first meaning.join (cell_at (functions_over meaning source cells)) (cell_in loaded) front first (suc k) (λ j small. loaded_is j (omega arith)))
      ∙ value_further first (folded meaning.join (cell_in loaded) front 0 (suc k))
    where
      back : (k : ℕ) → suc (first + k) - first ≡ suc k
      back k = omega arith

  pub scan_done : (exclusive : Bool) (out : List ℤ) → length out ≡ count → AreValues (fold_in_scan exclusive meaning front loaded) out (Ok tt)
      → mapped (prefix_fold (functions_over meaning source cells) exclusive front first) first count ≡ Ok out
  scan_done exclusive out size values =
      all_values (prefix_fold (functions_over meaning source cells) exclusive front first) first out count size
      (λ k less. prefix_is exclusive k (subst (λ (n : ℕ). k < n) size less) ∙ values k less)

  pub scan_trapped : (exclusive : Bool) (out : List ℤ) (trapped : RunTrap) → length out ≡ count → AreValues (fold_in_scan exclusive meaning front loaded) out (Err trapped)
      → mapped (prefix_fold (functions_over meaning source cells) exclusive front first) first count ≡ Err (record { trap = trapped.trap; element = first + trapped.offset })
  scan_trapped exclusive out trapped size values =
      let less : trapped.offset < count = subst (λ (n : ℕ). trapped.offset < n) size values.0 in
      least_trap (prefix_fold (functions_over meaning source cells) exclusive front first) first trapped.offset trapped.trap count less
      (prefix_is exclusive trapped.offset less ∙ values.1)
      (λ k small. subst IsOk (sym (prefix_is exclusive k (omega arith))) (values.2 k small))
