-- Marks of numbers: how many there are, and which comes at a rank.
use Rattle.std.proofs.Common.{◌≡◌, ◌≢◌, ◌∙◌, ap, sym, subst, ℕ, zero, suc, ◌+◌, ◌<◌, ◌≤◌, Bool, true, false, List, [], ◌∷◌, length, take, set, get_or, refl, arith, inl, inr, zero-add, cond}
use Rattle.std.specs.Prelude.{slice_get, Some, filter}
use Rattle.std.specs.List.{range_with_len}
use Rattle.std.proofs.lemmas.Bool.{cases_eq}
use Rattle.std.proofs.lemmas.List.{get_or-set_same, get_or-set_other, length-set}
use Rattle.sk_ranks.specs.Sums.{total}
use Rattle.sk_ranks.specs.Numbers.{marked_from, mark_of, numbers_where, IsMarked}

-- marks of 0 and 1 have no greater sum than there are marks
pub total-le : (marks : List ℕ) → ((i : ℕ) → get_or marks i 0 ≤ 1) → total marks ≤ length marks
total-le [] each = omega arith
total-le (mark ∷ marks) each =
    let rest = total-le marks (λ i. each (suc i)) in
    let first : mark ≤ 1 = each 0 in
    omega arith

-- they stay so where one is set
pub each-set : (marks : List ℕ) (at mark : ℕ) → mark ≤ 1 → ((i : ℕ) → get_or marks i 0 ≤ 1) → (i : ℕ) → get_or (set marks at mark) i 0 ≤ 1
each-set [] at mark small each i = each i
each-set (m ∷ marks) zero mark small each zero = small
each-set (m ∷ marks) zero mark small each (suc i) = each (suc i)
each-set (m ∷ marks) (suc at) mark small each zero = each zero
each-set (m ∷ marks) (suc at) mark small each (suc i) = each-set marks at mark small (λ j. each (suc j)) i

-- so many numbers are marked
pub length-marked : (start : ℕ) (marks : List ℕ) → ((i : ℕ) → get_or marks i 0 ≤ 1) → total marks ≡ length (marked_from start marks)
length-marked start [] each = refl
length-marked start (zero ∷ marks) each =
    let rest = length-marked (start + 1) marks (λ i. each (suc i)) in omega arith
length-marked start (suc m ∷ marks) each =
    let rest = length-marked (start + 1) marks (λ i. each (suc i)) in
    let first : suc m ≤ 1 = each 0 in
    omega arith

-- the number before which so many others come
pub marked-at : (start i k : ℕ) (marks : List ℕ) → ((j : ℕ) → get_or marks j 0 ≤ 1) → total (take i marks) ≤ k → k < total (take i marks) + get_or marks i 0 → slice_get (marked_from start marks) k ≡ Some (start + i)
marked-at start zero k [] each low high = absurd (omega arith)
marked-at start (suc i) k [] each low high = absurd (omega arith)
marked-at start zero k (zero ∷ marks) each low high = absurd (omega arith)
marked-at start zero zero (suc m ∷ marks) each low high = ap (λ n. Some n) (omega arith)
marked-at start zero (suc k) (suc m ∷ marks) each low high = let first : suc m ≤ 1 = each 0 in absurd (omega arith)
marked-at start (suc i) k (zero ∷ marks) each low high =
    marked-at (start + 1) i k marks (λ j. each (suc j)) (omega arith) (omega arith) ∙ ap (λ n. Some n) (omega arith)
marked-at start (suc i) zero (suc m ∷ marks) each low high = absurd (omega arith)
marked-at start (suc i) (suc k) (suc m ∷ marks) each low high =
    let first : suc m ≤ 1 = each 0 in
    marked-at (start + 1) i k marks (λ j. each (suc j)) (omega arith) (omega arith) ∙ ap (λ n. Some n) (omega arith)

-- with no mark no number is marked
pub marked-none : (start : ℕ) (marks : List ℕ) → ((i : ℕ) → get_or marks i 0 ≡ 0) → marked_from start marks ≡ []
marked-none start [] each = refl
marked-none start (zero ∷ marks) each = marked-none (start + 1) marks (λ i. each (suc i))
marked-none start (suc m ∷ marks) each = let first : suc m ≡ 0 = each 0 in absurd (omega arith)

-- the marked numbers are those that pass the test
marked-filter : (test : ℕ → Bool) (start n : ℕ) (marks : List ℕ) → n ≤ length marks → ((i : ℕ) → i < n → get_or marks i 0 ≡ mark_of (test (start + i))) → ((i : ℕ) → n ≤ i → get_or marks i 0 ≡ 0) → marked_from start marks ≡ filter test (range_with_len start n)
marked-filter test start zero marks room inside outside = marked-none start marks (λ i. outside i (omega arith))
marked-filter test start (suc n) [] room inside outside = absurd (omega arith)
marked-filter test start (suc n) (mark ∷ marks) room inside outside =
    let here : start + 0 ≡ start = omega arith in
    let first : mark ≡ mark_of (test start) = inside 0 (omega arith) ∙ ap (λ i. mark_of (test i)) here in
    let rest : marked_from (start + 1) marks ≡ filter test (range_with_len (start + 1) n) =
    marked-filter test (start + 1) n marks (omega arith)
    (λ i below. inside (suc i) (omega arith) ∙ ap (λ j. mark_of (test j)) (omega arith))
    (λ i above. outside (suc i) (omega arith)) in
    by (test start) mark (filter test (range_with_len (start + 1) n)) first rest
  where
    by : (passes : Bool) (m : ℕ) (others : List ℕ) → m ≡ mark_of passes → marked_from (start + 1) marks ≡ others → marked_from start (m ∷ marks) ≡ cond passes (start ∷ others) others
    by true zero others is rest = absurd (omega arith)
    by true (suc m) others is rest = ap (λ ns. start ∷ ns) rest
    by false zero others is rest = rest
    by false (suc m) others is rest = absurd (omega arith)

pub IsMarked-numbers : (test : ℕ → Bool) (n : ℕ) (marks : List ℕ) → IsMarked test n marks → marked_from 0 marks ≡ numbers_where test n
IsMarked-numbers test n marks marked =
    marked-filter test 0 n marks marked.room (λ i below. marked.inside i below ∙ ap (λ j. mark_of (test j)) (sym (zero-add i))) marked.outside

-- marks follow the test, where one number's answer changes
pub IsMarked-set : (old new : ℕ → Bool) (n at : ℕ) (marks : List ℕ) → IsMarked old n marks → at < n → ((i : ℕ) → i ≢ at → new i ≡ old i) → IsMarked new n (set marks at (mark_of (new at)))
IsMarked-set old new n at marks marked below same = record {
  room = subst (λ (len : ℕ). n ≤ len) (sym (length-set marks at (mark_of (new at)))) marked.room;
  inside = λ i inside. elim (cases_eq i at) [
    | inl is ↦ subst (λ (j : ℕ). get_or (set marks at (mark_of (new at))) j 0 ≡ mark_of (new j)) (sym is)
        (get_or-set_same marks at (mark_of (new at)) 0 (omega (arith, marked.room)))
    | inr other ↦ get_or-set_other marks at i (mark_of (new at)) 0 other ∙ marked.inside i inside ∙ ap mark_of (sym (same i other))
  ];
  outside = λ i above. get_or-set_other marks at i (mark_of (new at)) 0 (λ e. omega arith) ∙ marked.outside i above;
}

-- or none does
pub IsMarked-same : (old new : ℕ → Bool) (n : ℕ) (marks : List ℕ) → IsMarked old n marks → ((i : ℕ) → i < n → new i ≡ old i) → IsMarked new n marks
IsMarked-same old new n marks marked same = record {
  room = marked.room;
  inside = λ i inside. marked.inside i inside ∙ ap mark_of (sym (same i inside));
  outside = marked.outside;
}
