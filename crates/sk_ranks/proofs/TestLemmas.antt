-- What a job lacks, and whether it may run.
use Rattle.std.proofs.Common.{◌≡◌, ◌≢◌, ◌∙◌, ap, sym, ℕ, zero, suc, ◌+◌, ◌<◌, ◌≤◌, Bool, true, false, not, ◌&&◌, List, [], ◌∷◌, length, get_or, refl, arith, inl, inr, ◌⊎◌}
use Rattle.std.specs.Prelude.{nat_eq}
use Rattle.std.specs.List.{list_all}
use Rattle.std.proofs.lemmas.Bool.{cases_Bool, cases_eq, cases_lt, and_parts, and_from, and_left, and_right, not-true, true≢false, eq-eqb, ne_eqb}
use Rattle.sk_ranks.specs.Numbers.{many, times, mark_of}
use Rattle.sk_ranks.specs.RankMachine.{Phase, needs_at, state_of, is_done, is_delivered, can_run}
use Rattle.sk_ranks.specs.Kept.{unmet}

-- tests that agree count alike
pub many-same : (old new : ℕ → Bool) (xs : List ℕ) → ((x : ℕ) → new x ≡ old x) → many new xs ≡ many old xs
many-same old new [] same = refl
many-same old new (x ∷ xs) same =
    let rest = many-same old new xs same in
    let here = ap mark_of (same x) in
    omega arith

-- tests that differ at one number count it less often
pub many-change : (old new : ℕ → Bool) (at : ℕ) (xs : List ℕ) → old at ≡ true → new at ≡ false → ((x : ℕ) → x ≢ at → new x ≡ old x) → many new xs + times at xs ≡ many old xs
many-change old new at [] was is same = refl
many-change old new at (x ∷ xs) was is same = by (cases_eq x at) (many-change old new at xs was is same)
  where
    by : (x ≡ at) ⊎ (x ≡ at → ⊥) → many new xs + times at xs ≡ many old xs → mark_of (new x) + many new xs + (mark_of (nat_eq at x) + times at xs) ≡ mark_of (old x) + many old xs
    by (inl here) rest =
        let o : mark_of (old x) ≡ 1 = ap mark_of (ap old here ∙ was) in
        let n : mark_of (new x) ≡ 0 = ap mark_of (ap new here ∙ is) in
        let e : mark_of (nat_eq at x) ≡ 1 = ap mark_of (eq-eqb at x (sym here)) in
        omega arith
    by (inr other) rest =
        let s : mark_of (new x) ≡ mark_of (old x) = ap mark_of (same x other) in
        let e : mark_of (nat_eq at x) ≡ 0 = ap mark_of (ne_eqb at x (λ q. other (sym q))) in
        omega arith

-- where none fails all pass, and where some fail not all do
all-if : (p : ℕ → Bool) (xs : List ℕ) → many (λ x. not (p x)) xs ≡ 0 → list_all p xs ≡ true
all-if p [] none = refl
all-if p (x ∷ xs) none = elim (cases_Bool (p x)) [
  | inl is ↦ and_from (p x) (list_all p xs) is (all-if p xs (omega arith))
  | inr is ↦ let one : mark_of (not (p x)) ≡ 1 = ap (λ (b : Bool). mark_of (not b)) is in absurd (omega arith)
]

all-unless : (p : ℕ → Bool) (xs : List ℕ) → 0 < many (λ x. not (p x)) xs → list_all p xs ≡ false
all-unless p [] some = absurd (omega arith)
all-unless p (x ∷ xs) some = elim (cases_Bool (p x)) [
  | inl is ↦ let none : mark_of (not (p x)) ≡ 0 = ap (λ (b : Bool). mark_of (not b)) is in and_right (p x) (list_all p xs) (all-unless p xs (omega arith))
  | inr is ↦ and_left (p x) (list_all p xs) is
]

-- a job that lacks something may not run
pub run-blocked : (phase : Phase) (j : ℕ) → 0 < unmet phase j → can_run phase j ≡ false
run-blocked phase j some =
    let messages = many (λ m. not (is_delivered (state_of phase m))) (needs_at phase.jobs j).messages in
    let all_messages = list_all (λ m. is_delivered (state_of phase m)) (needs_at phase.jobs j).messages in
    let all_jobs = list_all (is_done phase) (needs_at phase.jobs j).after in
    and_right (not (is_done phase j)) (all_messages && all_jobs) (elim (cases_lt 0 messages) [
      | inl lacks ↦ and_left all_messages all_jobs (all-unless (λ m. is_delivered (state_of phase m)) (needs_at phase.jobs j).messages lacks)
      | inr none ↦ and_right all_messages all_jobs (all-unless (is_done phase) (needs_at phase.jobs j).after (omega arith))
    ])

-- nor may one that is done
pub run-done : (phase : Phase) (j : ℕ) → is_done phase j ≡ true → can_run phase j ≡ false
run-done phase j done = and_left (not (is_done phase j)) _ (ap not done)

-- every other may
pub run-free : (phase : Phase) (j : ℕ) → is_done phase j ≡ false → unmet phase j ≡ 0 → can_run phase j ≡ true
run-free phase j waits none =
    and_from (not (is_done phase j)) _ (ap not waits) (and_from _ _
    (all-if (λ m. is_delivered (state_of phase m)) (needs_at phase.jobs j).messages (omega arith))
    (all-if (is_done phase) (needs_at phase.jobs j).after (omega arith)))

-- whether it may depends on these two alone
pub run-same : (old new : Phase) (j : ℕ) → is_done new j ≡ is_done old j → unmet new j ≡ unmet old j → can_run new j ≡ can_run old j
run-same old new j done lacks = elim (cases_Bool (is_done old j)) [
  | inl is ↦ run-done new j (done ∙ is) ∙ sym (run-done old j is)
  | inr is ↦ elim (cases_lt 0 (unmet old j)) [
    | inl some ↦ run-blocked new j (omega arith) ∙ sym (run-blocked old j some)
    | inr none ↦ run-free new j (done ∙ is) (omega arith) ∙ sym (run-free old j is (omega arith))
  ]
]

-- a job that may run waits, and lacks nothing
pub run-parts : (phase : Phase) (j : ℕ) → can_run phase j ≡ true → (is_done phase j ≡ false) × (unmet phase j ≡ 0)
run-parts phase j can = (
  not-true (is_done phase j) (and_parts (not (is_done phase j)) _ can).0,
  elim (cases_lt 0 (unmet phase j)) [
    | inl some ↦ absurd (true≢false (sym can ∙ run-blocked phase j some))
    | inr none ↦ omega arith
  ],
)

-- what passes is counted as often as it is there
pub times-many : (test : ℕ → Bool) (n : ℕ) (xs : List ℕ) → test n ≡ true → times n xs ≤ many test xs
times-many test n [] passes = omega arith
times-many test n (x ∷ xs) passes =
    let rest = times-many test n xs passes in
    elim (cases_eq n x) [
      | inl same ↦
          let one : mark_of (nat_eq n x) ≡ 1 = ap mark_of (eq-eqb n x same) in
          let too : mark_of (test x) ≡ 1 = ap mark_of (ap test (sym same) ∙ passes) in
          omega arith
      | inr differs ↦
          let none : mark_of (nat_eq n x) ≡ 0 = ap mark_of (ne_eqb n x differs) in
          omega arith
    ]

-- what is in a list is there once at least
pub times-get : (xs : List ℕ) (k d : ℕ) → k < length xs → 1 ≤ times (get_or xs k d) xs
times-get [] k d inside = absurd (omega arith)
times-get (x ∷ xs) zero d inside = let one : mark_of (nat_eq x x) ≡ 1 = ap mark_of (eq-eqb x x refl) in omega arith
times-get (x ∷ xs) (suc k) d inside = let rest = times-get xs k d (omega arith) in omega arith
