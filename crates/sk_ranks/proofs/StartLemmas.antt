-- What a phase keeps holds before its first act.
use Rattle.std.proofs.Common.{◌≡◌, ◌∙◌, ap, sym, ℕ, suc, ◌+◌, ◌^◌, ◌<◌, ◌≤◌, Bool, true, false, not, ◌&&◌, List, [], ◌∷◌, length, get_or, map, replicate, refl, arith, inl, inr}
use Rattle.std.specs.Prelude.{Option, Some, None, nat_eq, option_and_then, is_none, IfSome}
use Rattle.std.specs.Option.{option_map_or}
use Rattle.std.proofs.lemmas.Bool.{cases_lt, ne_eqb, eq-eqb, true≢false}
use Rattle.std.proofs.lemmas.List.{length-map, length-replicate, get_or-replicate, get_or-map, get_or_past}
use Rattle.sk_ranks.specs.Numbers.{many, mark_of}
use Rattle.sk_ranks.specs.RankMachine.{Phase, Needs, needs_in, IsPlan, after_at, needs_at, state_of, is_done, is_unsent, is_in_flight, is_delivered, is_free, can_send, can_run}
use Rattle.sk_ranks.specs.Kept.{unmet, lacking, phase_of, StartsSends, StartsRuns, IsKept}
use Rattle.sk_ranks.specs.declared.plan.Message.{Message}
use Rattle.sk_ranks.specs.declared.phase.RankPhase.TheInside.{Inside}
use Rattle.sk_ranks.specs.declared.act.MessageState.{MessageState}
use Rattle.sk_ranks.specs.declared.act.MessageState.TheVariants.{Unsent, Delivered}
use Rattle.sk_ranks.proofs.MarkLemmas.{IsMarked-same}
use Rattle.sk_ranks.proofs.TestLemmas.{run-blocked, run-free}
use Rattle.sk_ranks.proofs.ActLemmas.{after-past}

-- tests that pass everywhere count all
many-all : (test : ℕ → Bool) (xs : List ℕ) → ((k : ℕ) → k < length xs → test (get_or xs k 0) ≡ true) → many test xs ≡ length xs
many-all test [] each = refl
many-all test (x ∷ xs) each =
    let rest = many-all test xs (λ k inside. each (suc k) (omega arith)) in
    let here : mark_of (test x) ≡ 1 = ap mark_of (each 0 (omega arith)) in
    omega arith

free-at-start : (phase : Phase) (n : ℕ) (after : Option ℕ) → IfSome after (λ j. j < n) → ((j : ℕ) → j < n → is_done phase j ≡ false) → option_map_or (is_done phase) after true ≡ is_none after
free-at-start phase n None below waits = refl
free-at-start phase n (Some j) below waits = waits j below

pub kept-start : (p : Inside) → IsPlan p.messages.items (map needs_in p.jobs.items) → length p.messages.items < 2 ^ 31 → length p.jobs.items < 2 ^ 31
    → p.states.items ≡ replicate (length p.messages.items) Unsent → p.done.items ≡ replicate (length p.jobs.items) false
    → StartsSends p.messages.items (length p.jobs.items) p.sends → length p.messages.items ≤ length p.in_flight → ((i : ℕ) → get_or p.in_flight i 0 ≡ 0)
    → StartsRuns (map needs_in p.jobs.items) (length p.messages.items) p.runs → IsKept p
kept-start p plan few_messages few_jobs states_are done_are sends room empty runs =
    let phase = phase_of p in
    let messages = p.messages.items in
    let n = length messages in
    let count : length phase.jobs ≡ length p.jobs.items = length-map p.jobs.items needs_in in
    let unsent : (m : ℕ) → m < n → state_of phase m ≡ Unsent =
    λ m inside. ap (λ (xs : List MessageState). get_or xs m Delivered) states_are ∙ get_or-replicate n m Unsent Delivered inside in
    let waits : (j : ℕ) → j < length phase.jobs → is_done phase j ≡ false =
    λ j inside. ap (λ (xs : List Bool). get_or xs j true) done_are ∙ get_or-replicate (length p.jobs.items) j false true (omega arith) in
    let send_is : (m : ℕ) → m < n → can_send phase m ≡ is_none (after_at messages m) =
    λ m inside. ap (λ (s : MessageState). is_unsent s && is_free phase m) (unsent m inside) ∙ free-at-start phase (length phase.jobs) (after_at messages m) (plan.sender m) waits in
    let lacks_all : (j : ℕ) → j < length phase.jobs → unmet phase j ≡ lacking (needs_at phase.jobs j) =
    λ j inside.
    let by_messages = many-all (λ m. not (is_delivered (state_of phase m))) (needs_at phase.jobs j).messages (λ k within. ap (λ (s : MessageState). not (is_delivered s)) (unsent (get_or (needs_at phase.jobs j).messages k 0) (plan.named j k 0 within))) in
    let by_jobs = many-all (λ i. not (is_done phase i)) (needs_at phase.jobs j).after (λ k within. ap not (waits (get_or (needs_at phase.jobs j).after k 0) (let low = plan.earlier j k 0 within in omega arith))) in
    omega arith in
    let run_is : (j : ℕ) → j < length phase.jobs → can_run phase j ≡ nat_eq (lacking (needs_at phase.jobs j)) 0 =
    λ j inside. let all = lacks_all j inside in elim (cases_lt 0 (lacking (needs_at phase.jobs j))) [
      | inl some ↦ run-blocked phase j (omega arith) ∙ sym (ne_eqb (lacking (needs_at phase.jobs j)) 0 (λ q. omega arith))
      | inr none ↦ run-free phase j (waits j inside) (omega arith) ∙ sym (eq-eqb (lacking (needs_at phase.jobs j)) 0 (omega arith))
    ] in
    record {
      plan = plan;
      few_messages = few_messages;
      few_jobs = few_jobs;
      states = ap (λ (xs : List MessageState). length xs) states_are ∙ length-replicate n Unsent;
      done = ap (λ (xs : List Bool). length xs) done_are ∙ length-replicate (length p.jobs.items) false;
      sends = record {
        ready = IsMarked-same (λ m. is_none (after_at messages m)) (can_send phase) n p.sends.ready sends.ready send_is;
        count = sends.count ∙ sym count;
        after = sends.after;
      };
      flights = record {
        room = room;
        inside = λ m inside. empty m ∙ ap mark_of (sym (ap is_in_flight (unsent m inside)));
        outside = λ m above. empty m;
      };
      runs = record {
        ready = IsMarked-same (λ j. nat_eq (lacking (needs_at phase.jobs j)) 0) (can_run phase) (length phase.jobs) p.runs.ready runs.ready run_is;
        count = ap (λ (xs : List ℕ). length xs) runs.lacks ∙ length-map phase.jobs lacking;
        lacks = λ j inside. ap (λ (xs : List ℕ). get_or xs j 0) runs.lacks ∙ get_or-map lacking phase.jobs j (record { messages = []; after = [] }) 0 inside ∙ sym (lacks_all j inside);
        messages = runs.message_count;
        with_message = runs.with_message;
        jobs = runs.job_count;
        after_job = runs.after_job;
      };
      sent = λ m is. elim (cases_lt m n) [
        | inl inside ↦ absurd (true≢false (sym (ap is_unsent (unsent m inside)) ∙ is))
        | inr above ↦ ap (λ (found : Option Message). option_map_or (is_done phase) (option_and_then (λ x. x.after) found) true) (after-past messages m above)
      ];
      met = λ j is. elim (cases_lt j (length phase.jobs)) [
        | inl inside ↦ absurd (true≢false (sym is ∙ waits j inside))
        | inr above ↦ ap (λ (needs : Needs). many (λ m. not (is_delivered (state_of phase m))) needs.messages + many (λ i. not (is_done phase i)) needs.after) (get_or_past phase.jobs j (record { messages = []; after = [] }) above)
      ];
    }
