-- The jobs that may run after some were counted down.
use Rattle.std.proofs.Common.{◌≡◌, ◌∙◌, ap, sym, ℕ, ◌+◌, ◌<◌, ◌≤◌, Bool, true, false, List, get_or, arith, inl, inr}
use Rattle.std.proofs.lemmas.Bool.{cases_lt}
use Rattle.sk_ranks.specs.Numbers.{times, mark_of, IsMarked, CountsDown}

-- what is asked of the tests before and after
pub record Frees (before after : ℕ → Bool) (lacked lacks : ℕ → ℕ) (n : ℕ) (numbers : List ℕ) : Type 0 where
  pub falls : (j : ℕ) → lacks j + times j numbers ≡ lacked j
  pub beyond : (j : ℕ) → n ≤ j → times j numbers ≡ 0
  pub same : (j : ℕ) → times j numbers ≡ 0 → after j ≡ before j
  pub blocked : (j : ℕ) → 0 < times j numbers → before j ≡ false
  pub waits : (j : ℕ) → 0 < lacks j → after j ≡ false
  pub frees : (j : ℕ) → 0 < times j numbers → lacks j ≡ 0 → after j ≡ true

-- the counts are what is lacked now
pub lacks-now : (before after : ℕ → Bool) (lacked lacks : ℕ → ℕ) (n : ℕ) (numbers counts ready new_counts new_ready : List ℕ) → Frees before after lacked lacks n numbers → CountsDown counts ready new_counts new_ready numbers → ((j : ℕ) → j < n → get_or counts j 0 ≡ lacked j) → (j : ℕ) → j < n → get_or new_counts j 0 ≡ lacks j
lacks-now before after lacked lacks n numbers counts ready new_counts new_ready frees down were j inside =
    let fell = frees.falls j in
    let counted = down.counts j in
    let had = were j inside in
    omega arith

-- and the marks are of those that may run now
pub ready-now : (before after : ℕ → Bool) (lacked lacks : ℕ → ℕ) (n : ℕ) (numbers counts ready new_counts new_ready : List ℕ) → Frees before after lacked lacks n numbers → CountsDown counts ready new_counts new_ready numbers → ((j : ℕ) → j < n → get_or counts j 0 ≡ lacked j) → IsMarked before n ready → IsMarked after n new_ready
ready-now before after lacked lacks n numbers counts ready new_counts new_ready frees down were marked = record {
  room = omega (arith, marked.room, down.ready_len);
  inside = λ j inside.
      let now = lacks-now before after lacked lacks n numbers counts ready new_counts new_ready frees down were j inside in
      elim (cases_lt 0 (times j numbers)) [
        | inl some ↦ elim (cases_lt 0 (lacks j)) [
          | inl waits ↦ down.waiting j (omega arith) ∙ marked.inside j inside ∙ ap mark_of (frees.blocked j some ∙ sym (frees.waits j waits))
          | inr none ↦ down.freed j some (omega arith) ∙ ap mark_of (sym (frees.frees j some (omega arith)))
        ]
        | inr none ↦ down.others j (omega arith) ∙ marked.inside j inside ∙ ap mark_of (sym (frees.same j (omega arith)))
      ];
  outside = λ j above. down.others j (frees.beyond j above) ∙ marked.outside j above;
}
