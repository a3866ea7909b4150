-- The loops that build what a phase keeps.
use Rattle.std.proofs.Common.{◌≡◌, ◌∙◌, ap, sym, subst, ℕ, zero, suc, ◌+◌, ◌<◌, ◌≤◌, Bool, cond, eqb, List, [], ◌∷◌, ◌++◌, length, take, get_or, set, map, replicate, refl, arith, inl, inr}
use Rattle.std.specs.Prelude.{Option, Some, None, nat_eq, slice_get, option_to_list, option_and_then, is_none, All}
use Rattle.std.proofs.lemmas.Bool.{cases_eq, ne_eqb, eq-eqb}
use Rattle.std.proofs.lemmas.List.{length-map, length-replicate, get_or-map, get_or_past, take_more, take_all, map-append}
use Rattle.sk_ranks.specs.Followers.{AddsTo, IsInverseBelow}
use Rattle.sk_ranks.specs.RankMachine.{Needs, needs_in, after_at, needs_at}
use Rattle.sk_ranks.specs.Kept.{lacking, StartsSends, StartsRuns}
use Rattle.sk_ranks.specs.declared.plan.Message.{Message}
use Rattle.sk_ranks.specs.declared.plan.Job.{Job}
use Rattle.sk_ranks.specs.declared.runs.Runs.{Runs}
use Rattle.sk_ranks.specs.declared.sends.Sends.{Sends}
use Rattle.sk_ranks.proofs.LoopLemmas.{Inverse-none, Inverse-more, Inverse-skip, Inverse-all, MarksBelow, MarksBelow-mark, MarksBelow-skip}
use Rattle.sk_ranks.proofs.ActLemmas.{after-past}

pub get-inside : {X : Type 0} (xs : List X) (i : ℕ) (d : X) → i < length xs → slice_get xs i ≡ Some (get_or xs i d)
get-inside [] i d inside = absurd (omega arith)
get-inside (x ∷ xs) zero d inside = refl
get-inside (x ∷ xs) (suc i) d inside = get-inside xs i d (omega arith)

-- the job that the message before us waits for
after-is : (messages : List Message) (i : ℕ) (message : Message) → i < length messages → message ≡ get_or messages i message → after_at messages i ≡ message.after
after-is messages i message inside read =
    ap (λ (found : Option Message). option_and_then (λ x. x.after) found) (get-inside messages i message inside ∙ ap (λ (x : Message). Some x) (sym read))

-- the messages looked at so far
pub record SendsSoFar (messages : List Message) (jobs i : ℕ) (ready : List ℕ) (after : List (List ℕ)) : Type 0 where
  pub marks : MarksBelow i (λ m. is_none (after_at messages m)) (length messages) ready
  pub count : length after ≡ jobs
  pub waiting : IsInverseBelow i after (λ m. option_to_list (after_at messages m))

pub SendsSoFar-none : (messages : List Message) (jobs : ℕ) (ready : List ℕ) (after : List (List ℕ)) → length messages ≤ length ready → ((i : ℕ) → get_or ready i 0 ≡ 0) → after ≡ replicate jobs [] → SendsSoFar messages jobs 0 ready after
SendsSoFar-none messages jobs ready after room empty is = record {
  marks = record { long = room; below = λ i low. absurd (omega arith); above = λ i high. empty i };
  count = ap (λ (xs : List (List ℕ)). length xs) is ∙ length-replicate jobs [];
  waiting = subst (λ (xs : List (List ℕ)). IsInverseBelow 0 xs (λ m. option_to_list (after_at messages m))) (sym is) (Inverse-none jobs _);
}

pub SendsSoFar-free : (messages : List Message) (jobs i : ℕ) (ready new_ready : List ℕ) (after : List (List ℕ)) (message : Message) → SendsSoFar messages jobs i ready after → i < length messages → message ≡ get_or messages i message → message.after ≡ None → new_ready ≡ set ready i 1 → SendsSoFar messages jobs (i + 1) new_ready after
SendsSoFar-free messages jobs i ready new_ready after message so_far inside read none is =
    let free : after_at messages i ≡ None = after-is messages i message inside read ∙ none in
    record {
      marks = subst (λ (xs : List ℕ). MarksBelow (i + 1) (λ m. is_none (after_at messages m)) (length messages) xs) (sym is)
          (MarksBelow-mark i i (λ m. is_none (after_at messages m)) (length messages) ready so_far.marks refl inside (ap is_none free));
      count = so_far.count;
      waiting = Inverse-skip i after (λ m. option_to_list (after_at messages m)) so_far.waiting (ap option_to_list free);
    }

pub SendsSoFar-waiting : (messages : List Message) (jobs i job : ℕ) (ready : List ℕ) (after new_after : List (List ℕ)) (message : Message) → SendsSoFar messages jobs i ready after → i < length messages → message ≡ get_or messages i message → message.after ≡ Some job → AddsTo after new_after i (job ∷ []) → SendsSoFar messages jobs (i + 1) ready new_after
SendsSoFar-waiting messages jobs i job ready after new_after message so_far inside read some adds =
    let waits : after_at messages i ≡ Some job = after-is messages i message inside read ∙ some in
    record {
      marks = MarksBelow-skip i (λ m. is_none (after_at messages m)) (length messages) ready so_far.marks (ap is_none waits);
      count = adds.len ∙ so_far.count;
      waiting = Inverse-more i i after new_after (λ m. option_to_list (after_at messages m)) (job ∷ []) so_far.waiting refl (sym (ap option_to_list waits)) adds;
    }

pub SendsSoFar-all : (messages : List Message) (jobs i : ℕ) (sends : Sends) → SendsSoFar messages jobs i sends.ready sends.after → i ≡ length messages → StartsSends messages jobs sends
SendsSoFar-all messages jobs i sends so_far all = record {
  ready = record {
    room = so_far.marks.long;
    inside = λ m inside. so_far.marks.below m (omega arith);
    outside = λ m above. so_far.marks.above m (omega arith);
  };
  count = so_far.count;
  after = Inverse-all i sends.after (λ m. option_to_list (after_at messages m)) so_far.waiting
      (λ m above. ap (λ (found : Option Message). option_to_list (option_and_then (λ x. x.after) found)) (after-past messages m (omega arith)));
}

-- what the job before us waits for
needs-is : (jobs : List Job) (i : ℕ) (job : Job) → i < length jobs → job ≡ get_or jobs i job → needs_at (map needs_in jobs) i ≡ needs_in job
needs-is jobs i job inside read = get_or-map needs_in jobs i job (record { messages = []; after = [] }) inside ∙ ap needs_in (sym read)

needs-past : (jobs : List Job) (i : ℕ) → length jobs ≤ i → needs_at (map needs_in jobs) i ≡ record { messages = []; after = [] }
needs-past jobs i past = let count : length (map needs_in jobs) ≡ length jobs = length-map jobs needs_in in get_or_past (map needs_in jobs) i (record { messages = []; after = [] }) (omega arith)

-- the jobs looked at so far
pub record RunsSoFar (jobs : List Job) (messages i : ℕ) (ready lacks : List ℕ) (with_message after_job : List (List ℕ)) : Type 0 where
  pub marks : MarksBelow i (λ j. nat_eq (lacking (needs_at (map needs_in jobs) j)) 0) (length jobs) ready
  pub lacked : lacks ≡ map lacking (take i (map needs_in jobs))
  pub message_count : length with_message ≡ messages
  pub by_message : IsInverseBelow i with_message (λ j. (needs_at (map needs_in jobs) j).messages)
  pub job_count : length after_job ≡ length jobs
  pub by_job : IsInverseBelow i after_job (λ j. (needs_at (map needs_in jobs) j).after)

pub RunsSoFar-none : (jobs : List Job) (messages : ℕ) (ready lacks : List ℕ) (with_message after_job : List (List ℕ)) → length jobs ≤ length ready → ((i : ℕ) → get_or ready i 0 ≡ 0) → lacks ≡ [] → with_message ≡ replicate messages [] → after_job ≡ replicate (length jobs) [] → RunsSoFar jobs messages 0 ready lacks with_message after_job
RunsSoFar-none jobs messages ready lacks with_message after_job room empty lacks_is with_is after_is = record {
  marks = record { long = room; below = λ i low. absurd (omega arith); above = λ i high. empty i };
  lacked = lacks_is;
  message_count = ap (λ (xs : List (List ℕ)). length xs) with_is ∙ length-replicate messages [];
  by_message = subst (λ (xs : List (List ℕ)). IsInverseBelow 0 xs (λ j. (needs_at (map needs_in jobs) j).messages)) (sym with_is) (Inverse-none messages _);
  job_count = ap (λ (xs : List (List ℕ)). length xs) after_is ∙ length-replicate (length jobs) [];
  by_job = subst (λ (xs : List (List ℕ)). IsInverseBelow 0 xs (λ j. (needs_at (map needs_in jobs) j).after)) (sym after_is) (Inverse-none (length jobs) _);
}

-- one more, whatever its mark
more-runs : (jobs : List Job) (messages i : ℕ) (ready lacks new_ready new_lacks : List ℕ) (with_message after_job new_with new_after : List (List ℕ)) (job : Job) → RunsSoFar jobs messages i ready lacks with_message after_job → i < length jobs → job ≡ get_or jobs i job
    → AddsTo with_message new_with i job.messages.items → AddsTo after_job new_after i job.after.items → new_lacks ≡ lacks ++ lacking (needs_in job) ∷ []
    → MarksBelow (i + 1) (λ j. nat_eq (lacking (needs_at (map needs_in jobs) j)) 0) (length jobs) new_ready → RunsSoFar jobs messages (i + 1) new_ready new_lacks new_with new_after
more-runs jobs messages i ready lacks new_ready new_lacks with_message after_job new_with new_after job so_far inside read by_message by_job lacks_is marks =
    let needs = needs-is jobs i job inside read in
    let count : length (map needs_in jobs) ≡ length jobs = length-map jobs needs_in in
    let taken : map lacking (take (i + 1) (map needs_in jobs)) ≡ map lacking (take i (map needs_in jobs)) ++ lacking (needs_in job) ∷ [] =
    ap (map lacking) (take_more (map needs_in jobs) i (record { messages = []; after = [] }) (omega arith))
    ∙ map-append lacking (take i (map needs_in jobs)) (needs_at (map needs_in jobs) i ∷ [])
    ∙ ap (λ (needs : Needs). map lacking (take i (map needs_in jobs)) ++ lacking needs ∷ []) needs in
    record {
      marks = marks;
      lacked = lacks_is ∙ ap (λ (xs : List ℕ). xs ++ lacking (needs_in job) ∷ []) so_far.lacked ∙ sym taken;
      message_count = by_message.len ∙ so_far.message_count;
      by_message = Inverse-more i i with_message new_with (λ j. (needs_at (map needs_in jobs) j).messages) job.messages.items so_far.by_message refl (sym (ap (λ (needs : Needs). needs.messages) needs)) by_message;
      job_count = by_job.len ∙ so_far.job_count;
      by_job = Inverse-more i i after_job new_after (λ j. (needs_at (map needs_in jobs) j).after) job.after.items so_far.by_job refl (sym (ap (λ (needs : Needs). needs.after) needs)) by_job;
    }

pub RunsSoFar-free : (jobs : List Job) (messages i : ℕ) (ready lacks new_ready new_lacks : List ℕ) (with_message after_job new_with new_after : List (List ℕ)) (job : Job) → RunsSoFar jobs messages i ready lacks with_message after_job → i < length jobs → job ≡ get_or jobs i job
    → AddsTo with_message new_with i job.messages.items → AddsTo after_job new_after i job.after.items → new_lacks ≡ lacks ++ lacking (needs_in job) ∷ [] → lacking (needs_in job) ≡ 0 → new_ready ≡ set ready i 1 → RunsSoFar jobs messages (i + 1) new_ready new_lacks new_with new_after
RunsSoFar-free jobs messages i ready lacks new_ready new_lacks with_message after_job new_with new_after job so_far inside read by_message by_job lacks_is none ready_is =
    let needs : lacking (needs_at (map needs_in jobs) i) ≡ 0 = ap lacking (needs-is jobs i job inside read) ∙ none in
    more-runs jobs messages i ready lacks new_ready new_lacks with_message after_job new_with new_after job so_far inside read by_message by_job lacks_is
    (subst (λ (xs : List ℕ). MarksBelow (i + 1) (λ j. nat_eq (lacking (needs_at (map needs_in jobs) j)) 0) (length jobs) xs) (sym ready_is)
    (MarksBelow-mark i i (λ j. nat_eq (lacking (needs_at (map needs_in jobs) j)) 0) (length jobs) ready so_far.marks refl inside (eq-eqb _ 0 needs)))

pub RunsSoFar-waiting : (jobs : List Job) (messages i : ℕ) (ready lacks new_lacks : List ℕ) (with_message after_job new_with new_after : List (List ℕ)) (job : Job) → RunsSoFar jobs messages i ready lacks with_message after_job → i < length jobs → job ≡ get_or jobs i job
    → AddsTo with_message new_with i job.messages.items → AddsTo after_job new_after i job.after.items → new_lacks ≡ lacks ++ lacking (needs_in job) ∷ [] → (lacking (needs_in job) ≡ 0 → ⊥) → RunsSoFar jobs messages (i + 1) ready new_lacks new_with new_after
RunsSoFar-waiting jobs messages i ready lacks new_lacks with_message after_job new_with new_after job so_far inside read by_message by_job lacks_is some =
    let needs : lacking (needs_at (map needs_in jobs) i) ≡ lacking (needs_in job) = ap lacking (needs-is jobs i job inside read) in
    more-runs jobs messages i ready lacks ready new_lacks with_message after_job new_with new_after job so_far inside read by_message by_job lacks_is
    (MarksBelow-skip i (λ j. nat_eq (lacking (needs_at (map needs_in jobs) j)) 0) (length jobs) ready so_far.marks (ne_eqb _ 0 (λ q. some (sym needs ∙ q))))

pub RunsSoFar-all : (jobs : List Job) (messages i : ℕ) (runs : Runs) → RunsSoFar jobs messages i runs.ready runs.lacks.items runs.with_message runs.after_job → i ≡ length jobs → StartsRuns (map needs_in jobs) messages runs
RunsSoFar-all jobs messages i runs so_far all =
    let count : length (map needs_in jobs) ≡ length jobs = length-map jobs needs_in in
    record {
      ready = record {
        room = omega (arith, so_far.marks.long);
        inside = λ j inside. so_far.marks.below j (omega arith);
        outside = λ j above. so_far.marks.above j (omega arith);
      };
      lacks = so_far.lacked ∙ ap (map lacking) (take_all i (map needs_in jobs) (omega arith));
      message_count = so_far.message_count;
      with_message = Inverse-all i runs.with_message (λ j. (needs_at (map needs_in jobs) j).messages) so_far.by_message (λ j above. ap (λ (needs : Needs). needs.messages) (needs-past jobs j (omega arith)));
      job_count = so_far.job_count ∙ sym count;
      after_job = Inverse-all i runs.after_job (λ j. (needs_at (map needs_in jobs) j).after) so_far.by_job (λ j above. ap (λ (needs : Needs). needs.after) (needs-past jobs j (omega arith)));
    }

-- either, as it comes
pub RunsSoFar-more : (jobs : List Job) (messages i : ℕ) (ready lacks new_ready new_lacks : List ℕ) (with_message after_job new_with new_after : List (List ℕ)) (job : Job) → RunsSoFar jobs messages i ready lacks with_message after_job → i < length jobs → job ≡ get_or jobs i job
    → AddsTo with_message new_with i job.messages.items → AddsTo after_job new_after i job.after.items → new_lacks ≡ lacks ++ lacking (needs_in job) ∷ [] → new_ready ≡ cond (eqb (lacking (needs_in job)) 0) (set ready i 1) ready → RunsSoFar jobs messages (i + 1) new_ready new_lacks new_with new_after
RunsSoFar-more jobs messages i ready lacks new_ready new_lacks with_message after_job new_with new_after job so_far inside read by_message by_job lacks_is ready_is = elim (cases_eq (lacking (needs_in job)) 0) [
  | inl none ↦ RunsSoFar-free jobs messages i ready lacks new_ready new_lacks with_message after_job new_with new_after job so_far inside read by_message by_job lacks_is none
      (ready_is ∙ ap (λ (b : Bool). cond b (set ready i 1) ready) (eq-eqb _ 0 none))
  | inr some ↦ subst (λ (xs : List ℕ). RunsSoFar jobs messages (i + 1) xs new_lacks new_with new_after)
      (sym (ready_is ∙ ap (λ (b : Bool). cond b (set ready i 1) ready) (ne_eqb _ 0 some)))
      (RunsSoFar-waiting jobs messages i ready lacks new_lacks with_message after_job new_with new_after job so_far inside read by_message by_job lacks_is some)
]

-- what a job waits for is there
pub awaits-messages : (jobs : List Job) (messages i : ℕ) (job : Job) (numbers : List ℕ) → ((j : ℕ) → All (λ m. m < messages) (needs_at (map needs_in jobs) j).messages) → i < length jobs → job ≡ get_or jobs i job → numbers ≡ job.messages.items → All (λ m. m < messages) numbers
awaits-messages jobs messages i job numbers named inside read is =
    subst (λ (xs : List ℕ). All (λ m. m < messages) xs) (ap (λ (needs : Needs). needs.messages) (needs-is jobs i job inside read) ∙ sym is) (named i)

pub awaits-jobs : (jobs : List Job) (i : ℕ) (job : Job) (numbers : List ℕ) → ((j : ℕ) → All (λ m. m < j) (needs_at (map needs_in jobs) j).after) → i < length jobs → job ≡ get_or jobs i job → numbers ≡ job.after.items → All (λ m. m < length jobs) numbers
awaits-jobs jobs i job numbers earlier inside read is = λ k d within.
    let all : All (λ m. m < i) numbers = subst (λ (xs : List ℕ). All (λ m. m < i) xs) (ap (λ (needs : Needs). needs.after) (needs-is jobs i job inside read) ∙ sym is) (earlier i) in
    let low = all k d within in
    omega arith
