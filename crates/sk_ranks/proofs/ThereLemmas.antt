-- Those that wait are there, and lack what they wait for.
use Rattle.std.proofs.Common.{◌≡◌, ◌∙◌, ap, sym, subst, ℕ, ◌<◌, ◌≤◌, true, not, List, [], length, get_or, arith, inl, inr, Vec}
use Rattle.std.specs.declared.alloc.Global.{Global}
use Rattle.std.specs.Vec.{with_items}
use Rattle.std.specs.Prelude.{All, Option, option_to_list, option_and_then}
use Rattle.std.proofs.lemmas.Bool.{cases_lt}
use Rattle.std.proofs.lemmas.List.{length-map, get_or_past, with_items_is}
use Rattle.sk_ranks.specs.Numbers.{times, CountsDown}
use Rattle.sk_ranks.specs.RankMachine.{Needs, needs_in, needs_at, state_of, is_done, is_delivered, can_deliver, can_run}
use Rattle.sk_ranks.specs.Kept.{unmet, phase_of, IsKept}
use Rattle.sk_ranks.specs.declared.phase.RankPhase.TheInside.{Inside}
use Rattle.sk_ranks.specs.declared.plan.Message.{Message}
use Rattle.sk_ranks.proofs.TestLemmas.{times-many, times-get, run-parts}
use Rattle.sk_ranks.proofs.ActLemmas.{flying-undelivered, after-past}

-- what stands in a list is one of the things, where what is none of them does not stand there
within : (xs : List ℕ) (n : ℕ) → ((x : ℕ) → n ≤ x → times x xs ≡ 0) → All (λ x. x < n) xs
within xs n beyond = λ k d inside. elim (cases_lt (get_or xs k d) n) [
  | inl low ↦ low
  | inr high ↦ absurd (let some = times-get xs k d inside in let none = beyond (get_or xs k d) high in omega arith)
]

pub message-waits : (p : Inside) (m j : ℕ) → IsKept p → m < length p.messages.items → times j (get_or p.runs.with_message m []) ≡ times m (needs_at (phase_of p).jobs j).messages
message-waits p m j kept there = kept.runs.with_message.each m j (omega (arith, kept.runs.messages))

pub job-waits : (p : Inside) (i j : ℕ) → IsKept p → i < length p.jobs.items → times j (get_or p.runs.after_job i []) ≡ times i (needs_at (phase_of p).jobs j).after
job-waits p i j kept there =
    let count : length (phase_of p).jobs ≡ length p.jobs.items = length-map p.jobs.items needs_in in
    kept.runs.after_job.each i j (omega (arith, kept.runs.jobs))

pub deliver-there : (p : Inside) (m : ℕ) (numbers lacks : List ℕ) → IsKept p → m < length p.messages.items → numbers ≡ get_or p.runs.with_message m [] → lacks ≡ p.runs.lacks.items → All (λ j. j < length lacks) numbers
deliver-there p m numbers lacks kept there is lacks_are =
    let long : length lacks ≡ length (phase_of p).jobs = ap (λ (xs : List ℕ). length xs) lacks_are ∙ kept.runs.count in
    within numbers (length lacks) (λ x high. ap (times x) is ∙ message-waits p m x kept there
    ∙ ap (λ (needs : Needs). times m needs.messages) (get_or_past (phase_of p).jobs x (record { messages = []; after = [] }) (omega arith)))

pub run-there : (p : Inside) (i : ℕ) (numbers lacks : List ℕ) → IsKept p → i < length p.jobs.items → numbers ≡ get_or p.runs.after_job i [] → lacks ≡ p.runs.lacks.items → All (λ j. j < length lacks) numbers
run-there p i numbers lacks kept there is lacks_are =
    let long : length lacks ≡ length (phase_of p).jobs = ap (λ (xs : List ℕ). length xs) lacks_are ∙ kept.runs.count in
    within numbers (length lacks) (λ x high. ap (times x) is ∙ job-waits p i x kept there
    ∙ ap (λ (needs : Needs). times i needs.after) (get_or_past (phase_of p).jobs x (record { messages = []; after = [] }) (omega arith)))

pub sends-there : (p : Inside) (i : ℕ) (numbers : List ℕ) → IsKept p → i < length p.jobs.items → numbers ≡ get_or p.sends.after i [] → All (λ m. m < length p.sends.ready) numbers
sends-there p i numbers kept there is =
    let count : length (phase_of p).jobs ≡ length p.jobs.items = length-map p.jobs.items needs_in in
    within numbers (length p.sends.ready) (λ x high. ap (times x) is ∙ kept.sends.after.each i x (omega (arith, kept.sends.count))
    ∙ ap (λ (found : Option Message). times i (option_to_list (option_and_then (λ message. message.after) found))) (after-past p.messages.items x (omega (arith, kept.sends.ready.room))))

pub deliver-enough : (p : Inside) (m : ℕ) (numbers lacks : List ℕ) → IsKept p → m < length p.messages.items → can_deliver (phase_of p) m ≡ true → numbers ≡ get_or p.runs.with_message m [] → lacks ≡ p.runs.lacks.items → (j : ℕ) → times j numbers ≤ get_or lacks j 0
deliver-enough p m numbers lacks kept there can is lacks_are j =
    let phase = phase_of p in
    let waits : times j numbers ≡ times m (needs_at phase.jobs j).messages = ap (times j) is ∙ message-waits p m j kept there in
    elim (cases_lt j (length phase.jobs)) [
      | inl inside ↦
          let has : get_or lacks j 0 ≡ unmet phase j = ap (λ (xs : List ℕ). get_or xs j 0) lacks_are ∙ kept.runs.lacks j inside in
          let counted = times-many (λ x. not (is_delivered (state_of phase x))) m (needs_at phase.jobs j).messages (ap not (flying-undelivered (state_of phase m) can)) in
          omega arith
      | inr above ↦
          let none : times m (needs_at phase.jobs j).messages ≡ 0 = ap (λ (needs : Needs). times m needs.messages) (get_or_past phase.jobs j (record { messages = []; after = [] }) above) in
          omega arith
    ]

pub run-enough : (p : Inside) (i : ℕ) (numbers lacks : List ℕ) → IsKept p → i < length p.jobs.items → can_run (phase_of p) i ≡ true → numbers ≡ get_or p.runs.after_job i [] → lacks ≡ p.runs.lacks.items → (j : ℕ) → times j numbers ≤ get_or lacks j 0
run-enough p i numbers lacks kept there can is lacks_are j =
    let phase = phase_of p in
    let waits : times j numbers ≡ times i (needs_at phase.jobs j).after = ap (times j) is ∙ job-waits p i j kept there in
    elim (cases_lt j (length phase.jobs)) [
      | inl inside ↦
          let has : get_or lacks j 0 ≡ unmet phase j = ap (λ (xs : List ℕ). get_or xs j 0) lacks_are ∙ kept.runs.lacks j inside in
          let counted = times-many (λ x. not (is_done phase x)) i (needs_at phase.jobs j).after (ap not (run-parts phase i can).0) in
          omega arith
      | inr above ↦
          let none : times i (needs_at phase.jobs j).after ≡ 0 = ap (λ (needs : Needs). times i needs.after) (get_or_past phase.jobs j (record { messages = []; after = [] }) above) in
          omega arith
    ]

-- the counts, as the vector that keeps them has them
pub counted-vec : (v : Vec ℕ Global) (now ready new_counts new_ready numbers followers : List ℕ) → now ≡ v.items → numbers ≡ followers → CountsDown now ready new_counts new_ready numbers → CountsDown v.items ready (with_items v new_counts).items new_ready followers
counted-vec v now ready new_counts new_ready numbers followers now_is numbers_are down =
    let long : length new_counts ≡ v.len = down.counts_len ∙ ap (λ (xs : List ℕ). length xs) now_is ∙ sym v.ok.0 in
    subst (λ (xs : List ℕ). CountsDown v.items ready xs new_ready followers) (sym (with_items_is v new_counts long))
    (subst (λ (xs : List ℕ). CountsDown xs ready new_counts new_ready followers) now_is
    (subst (λ (xs : List ℕ). CountsDown now ready new_counts new_ready xs) numbers_are down))

-- there is such a job
pub job-there : (p : Inside) (j : ℕ) → j < length (phase_of p).jobs → j < length p.jobs.items
job-there p j there = let count : length (phase_of p).jobs ≡ length p.jobs.items = length-map p.jobs.items needs_in in omega arith
