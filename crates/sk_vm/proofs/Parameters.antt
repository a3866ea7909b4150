-- Parameters at places one behind another.
use Rattle.std.proofs.Common.{◌≡◌, inl, inr, ℕ, zero, suc, ◌+◌, ◌-◌, ◌<◌, ◌≤◌, Bool, true, false, nat_lt, List, [], ◌∷◌, ◌++◌, length, take, drop, replicate, ℤ, pos, Option, Some, None, IsSome, slice_get, slice_index_or, unwrap_or, refl, sym, ap, subst, ◌∙◌, arith}
use Rattle.std.proofs.lemmas.Bool.{cond-true, cond-false, lt-ltb, le-ltb, cases_lt}
use Rattle.std.proofs.lemmas.List.{length-append, length-replicate, take_at, drop_at, get_or-take}
use Rattle.std.proofs.lemmas.Option.{none-some, same_Some, slice_get-get_or}
use Rattle.sk_kernel.specs.Kernels.{Source, place_in}
use Rattle.sk_vm.specs.Arguments.{argument_at, CanPass, Passes}
use Rattle.sk_vm.specs.Lent.{LendsRun, lent_at, pair_at, place_at}
use Rattle.sk_vm.proofs.Arguments.{argument-element, argument-uniform}

-- what is lent for a parameter
pub lent-param : (source : Source) (elements : ℕ) (pairs : Bool) (place pair params behind slot : ℕ) → slot < params
    → lent_at source elements pairs place pair params behind slot ≡ argument_at source elements pairs (place_at pairs place behind) (pair_at pairs pair behind) slot
lent-param source elements pairs place pair params behind slot less = cond-true (nat_lt slot params) _ None (lt-ltb slot params less)

pub lent-uniform : (source : Source) (elements : ℕ) (pairs : Bool) (place pair params behind slot : ℕ) → slot < params → elements ≤ slot
    → lent_at source elements pairs place pair params behind slot ≡ slice_get source.uniforms (slot - elements)
lent-uniform source elements pairs place pair params behind slot less upto =
    lent-param source elements pairs place pair params behind slot less
    ∙ argument-uniform source elements pairs (place_at pairs place behind) (pair_at pairs pair behind) slot upto

pub lent-element : (source : Source) (elements : ℕ) (pairs : Bool) (place pair params behind slot : ℕ) → slot < params → slot < elements
    → lent_at source elements pairs place pair params behind slot ≡ source.held slot (place_in pairs (place_at pairs place behind) (pair_at pairs pair behind) slot)
lent-element source elements pairs place pair params behind slot less small =
    lent-param source elements pairs place pair params behind slot less
    ∙ argument-element source elements pairs (place_at pairs place behind) (pair_at pairs pair behind) slot small

-- only a parameter is lent
pub lent-within : (source : Source) (elements : ℕ) (pairs : Bool) (place pair params behind slot : ℕ) (number : ℤ)
    → lent_at source elements pairs place pair params behind slot ≡ Some number → slot < params
lent-within source elements pairs place pair params behind slot number is = elim (cases_lt slot params) [
  | inl less ↦ less
  | inr upto ↦ absurd (none-some number (sym (cond-false (nat_lt slot params) _ None (le-ltb slot params upto)) ∙ is))
]

-- numbers for so many parameters from one on
abbrev pub filled : (ℕ → Option ℤ) → (from count : ℕ) → List ℤ
filled found from zero = []
filled found from (suc fewer) = unwrap_or (found from) (pos 0) ∷ filled found (suc from) fewer

pub length-filled : (found : ℕ → Option ℤ) (from count : ℕ) → length (filled found from count) ≡ count
length-filled found from zero = refl
length-filled found from (suc fewer) = ap suc (length-filled found (suc from) fewer)

pub get-filled : (found : ℕ → Option ℤ) (from count k : ℕ) → k < count → slice_index_or (filled found from count) k (pos 0) ≡ unwrap_or (found (from + k)) (pos 0)
get-filled found from zero k less = absurd (omega arith)
get-filled found from (suc fewer) zero less =
    let same : from ≡ from + 0 = omega arith in ap (λ (n : ℕ). unwrap_or (found n) (pos 0)) same
get-filled found from (suc fewer) (suc k) less =
    let same : suc from + k ≡ from + suc k = omega arith in
    get-filled found (suc from) fewer k (omega arith) ∙ ap (λ (n : ℕ). unwrap_or (found n) (pos 0)) same

some_is : (found : Option ℤ) → IsSome found → found ≡ Some (unwrap_or found (pos 0))
some_is None h = cc
some_is (Some x) h = refl

-- slots that begin with what the data has for the parameters
module _ (source : Source) (elements : ℕ) (pairs : Bool) (place pair params size : ℕ) (few : params ≤ size) (can : CanPass source elements pairs place pair params) where
  abbrev pub slots : List ℤ
  slots = filled (argument_at source elements pairs place pair) 0 params ++ replicate (size - params) (pos 0)

  begin : take params slots ≡ filled (argument_at source elements pairs place pair) 0 params
  begin =
      take_at (filled (argument_at source elements pairs place pair) 0 params) (replicate (size - params) (pos 0)) params
      (length-filled (argument_at source elements pairs place pair) 0 params)

  pub slots-size : length slots ≡ size
  slots-size =
      let sum : params + (size - params) ≡ size = omega arith in
      length-append (filled (argument_at source elements pairs place pair) 0 params) (replicate (size - params) (pos 0))
      ∙ ap (λ (n : ℕ). n + length (replicate (size - params) (pos 0))) (length-filled (argument_at source elements pairs place pair) 0 params)
      ∙ ap (λ (n : ℕ). params + n) (length-replicate (size - params) (pos 0)) ∙ sum

  pub slots-others : drop params slots ≡ replicate (length slots - params) (pos 0)
  slots-others =
      drop_at (filled (argument_at source elements pairs place pair) 0 params) (replicate (size - params) (pos 0)) params
      (length-filled (argument_at source elements pairs place pair) 0 params)
      ∙ ap (λ (n : ℕ). replicate (n - params) (pos 0)) (sym slots-size)

  pub slots-pass : Passes source elements pairs place pair (take params slots)
  slots-pass =
      subst (λ (xs : List ℤ). Passes source elements pairs place pair xs) (sym begin)
      (λ k less.
      let within : k < params = subst (λ (n : ℕ). k < n) (length-filled (argument_at source elements pairs place pair) 0 params) less in
      let same : 0 + k ≡ k = omega arith in
      some_is (argument_at source elements pairs place pair k) (can k within)
      ∙ ap Some (sym (get-filled (argument_at source elements pairs place pair) 0 params k within
      ∙ ap (λ (n : ℕ). unwrap_or (argument_at source elements pairs place pair n) (pos 0)) same)))

  -- these slots have what is known of the parameters
  pub slots-have : (slot : ℕ) (number : ℤ) → slot < params → argument_at source elements pairs place pair slot ≡ Some number → slice_get slots slot ≡ Some number
  slots-have slot number less is =
      let within : slot < length (take params slots) =
      subst (λ (n : ℕ). slot < n) (sym (ap length begin ∙ length-filled (argument_at source elements pairs place pair) 0 params)) less in
      slice_get-get_or slots slot (pos 0) (let size_is = slots-size in omega arith)
      ∙ ap Some (sym (get_or-take params slots slot (pos 0) less)
      ∙ same_Some _ _ (sym (slots-pass slot within) ∙ is))

-- the cells of a column are there
held-column : (source : Source) (elements : ℕ) (pairs : Bool) (place pair params places slot first : ℕ) → LendsRun source elements pairs place pair params places
    → slot < params → slot < elements
    → ((behind : ℕ) → place_in pairs (place_at pairs place behind) (pair_at pairs pair behind) slot ≡ first + behind)
    → (index : ℕ) → first ≤ index → index < first + places → IsSome (source.held slot index)
held-column source elements pairs place pair params places slot first lends less small at index from upto =
    let behind = index - first in
    let back : first + behind ≡ index = omega arith in
    subst (λ (n : ℕ). IsSome (source.held slot n)) (at behind ∙ back)
    (subst IsSome (argument-element source elements pairs (place_at pairs place behind) (pair_at pairs pair behind) slot small)
    (lends behind (omega arith) slot less))

pub held-places : (source : Source) (elements : ℕ) (pairs : Bool) (place pair params places slot : ℕ) → pairs ≡ false → LendsRun source elements pairs place pair params places
    → slot < params → slot < elements → (index : ℕ) → place ≤ index → index < place + places → IsSome (source.held slot index)
held-places source elements pairs place pair params places slot single lends less small =
    held-column source elements pairs place pair params places slot place lends less small
    (λ behind. ap (λ (p : Bool). place_in p (place_at p place behind) (pair_at p pair behind) slot) single)

pub held-pairs : (source : Source) (elements : ℕ) (pairs : Bool) (place pair params places slot : ℕ) → pairs ≡ true → slot ≡ 1 → LendsRun source elements pairs place pair params places
    → slot < params → slot < elements → (index : ℕ) → pair ≤ index → index < pair + places → IsSome (source.held slot index)
held-pairs source elements pairs place pair params places slot double second lends less small =
    held-column source elements pairs place pair params places slot pair lends less small
    (λ behind. ap (λ (p : Bool). place_in p (place_at p place behind) (pair_at p pair behind) slot) double
    ∙ ap (λ (s : ℕ). place_in true (place_at true place behind) (pair_at true pair behind) s) second)
