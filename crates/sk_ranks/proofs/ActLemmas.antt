-- Each act keeps what a phase keeps.
use Rattle.std.proofs.Common.{◌≡◌, ◌≢◌, ◌∙◌, ap, sym, subst, ℕ, zero, suc, ◌+◌, ◌<◌, ◌≤◌, Bool, true, false, not, ◌&&◌, List, [], ◌∷◌, length, get_or, set, refl, arith, inl, inr, Vec}
use Rattle.std.specs.Prelude.{Option, Some, None, nat_eq, slice_get, option_to_list, option_and_then}
use Rattle.std.specs.Option.{option_map_or}
use Rattle.std.specs.declared.alloc.Global.{Global}
use Rattle.std.proofs.lemmas.Bool.{cases_Bool, cases_eq, cases_lt, and_parts, and_from, and_left, and_right, false≢true, true≢false, eq-eqb, ne_eqb}
use Rattle.std.proofs.lemmas.List.{length-set, length-map, get_or-set_same, get_or-set_other, get_or_past}
use Rattle.sk_ranks.specs.Numbers.{times, mark_of, IsMarked, Inserts, CountsDown}
use Rattle.sk_ranks.specs.RankMachine.{Phase, Needs, needs_in, after_at, needs_at, state_of, is_done, is_unsent, is_in_flight, is_delivered, is_free, can_send, can_deliver, can_run}
use Rattle.sk_ranks.specs.Kept.{unmet, phase_of, KeepsSends, KeepsRuns, IsKept}
use Rattle.sk_ranks.specs.declared.phase.RankPhase.TheInside.{Inside}
use Rattle.sk_ranks.specs.declared.plan.Message.{Message}
use Rattle.sk_ranks.specs.declared.act.MessageState.{MessageState}
use Rattle.sk_ranks.specs.declared.act.MessageState.TheVariants.{Unsent, InFlight, Delivered}
use Rattle.sk_ranks.proofs.MarkLemmas.{IsMarked-set, IsMarked-same}
use Rattle.sk_ranks.proofs.TestLemmas.{many-same, many-change, run-blocked, run-done, run-free, run-same, run-parts}
use Rattle.sk_ranks.proofs.RunLemmas.{Frees, lacks-now, ready-now}

unsent-undelivered : (s : MessageState) → is_unsent s ≡ true → is_delivered s ≡ false
unsent-undelivered Unsent is = refl
unsent-undelivered InFlight is = refl
unsent-undelivered Delivered is = absurd (false≢true is)

pub flying-undelivered : (s : MessageState) → is_in_flight s ≡ true → is_delivered s ≡ false
flying-undelivered Unsent is = refl
flying-undelivered InFlight is = refl
flying-undelivered Delivered is = absurd (false≢true is)

flying-sent : (s : MessageState) → is_in_flight s ≡ true → is_unsent s ≡ false
flying-sent Unsent is = absurd (false≢true is)
flying-sent InFlight is = refl
flying-sent Delivered is = refl

-- a list of states with one changed
other-state : (states new : List MessageState) (m : ℕ) (s : MessageState) → new ≡ set states m s → (x : ℕ) → x ≢ m → get_or new x Delivered ≡ get_or states x Delivered
other-state states new m s is x other = ap (λ (xs : List MessageState). get_or xs x Delivered) is ∙ get_or-set_other states m x s Delivered other

this-state : (states new : List MessageState) (m : ℕ) (s : MessageState) → new ≡ set states m s → m < length states → get_or new m Delivered ≡ s
this-state states new m s is there = ap (λ (xs : List MessageState). get_or xs m Delivered) is ∙ get_or-set_same states m s Delivered there

-- the phase after a message was sent, and after one was delivered or a job ran
abbrev pub after_send : Inside → Vec MessageState Global → List ℕ → List ℕ → Inside
after_send p states ready flights = record {
  messages = p.messages;
  jobs = p.jobs;
  states = states;
  done = p.done;
  sends = record { ready = ready; after = p.sends.after };
  in_flight = flights;
  runs = p.runs;
}

pub kept-send : (p : Inside) (m : ℕ) (states : Vec MessageState Global) (ready flights : List ℕ) → IsKept p → m < length p.messages.items → can_send (phase_of p) m ≡ true → states.items ≡ set p.states.items m InFlight → ready ≡ set p.sends.ready m 0 → flights ≡ set p.in_flight m 1 → IsKept (after_send p states ready flights)
kept-send p m states ready flights kept there can states_is ready_is flights_is =
    let old = phase_of p in
    let new = phase_of (after_send p states ready flights) in
    let parts = and_parts (is_unsent (state_of old m)) (is_free old m) can in
    let here : state_of new m ≡ InFlight = this-state p.states.items states.items m InFlight states_is (omega (arith, kept.states)) in
    let other : (x : ℕ) → x ≢ m → state_of new x ≡ state_of old x = other-state p.states.items states.items m InFlight states_is in
    let delivered : (x : ℕ) → is_delivered (state_of new x) ≡ is_delivered (state_of old x) =
    λ x. elim (cases_eq x m) [
      | inl is ↦ ap (λ (k : ℕ). is_delivered (state_of new k)) is ∙ ap is_delivered here ∙ sym (ap (λ (k : ℕ). is_delivered (state_of old k)) is ∙ unsent-undelivered (state_of old m) parts.0)
      | inr differs ↦ ap is_delivered (other x differs)
    ] in
    let lacks : (j : ℕ) → unmet new j ≡ unmet old j =
    λ j. let messages = many-same (λ x. not (is_delivered (state_of old x))) (λ x. not (is_delivered (state_of new x))) (needs_at old.jobs j).messages (λ x. ap not (delivered x)) in omega arith in
    let sends_marked : IsMarked (can_send new) (length old.messages) (set p.sends.ready m (mark_of (can_send new m))) =
    IsMarked-set (can_send old) (can_send new) (length old.messages) m p.sends.ready kept.sends.ready there (λ x differs. ap (λ (s : MessageState). is_unsent s && is_free old x) (other x differs)) in
    let flights_marked : IsMarked (can_deliver new) (length old.messages) (set p.in_flight m (mark_of (can_deliver new m))) =
    IsMarked-set (can_deliver old) (can_deliver new) (length old.messages) m p.in_flight kept.flights there (λ x differs. ap is_in_flight (other x differs)) in
    let no_send : can_send new m ≡ false = ap (λ (s : MessageState). is_unsent s && is_free old m) here in
    let a_flight : can_deliver new m ≡ true = ap is_in_flight here in
    let sends : KeepsSends new (record { ready = ready; after = p.sends.after }) = record {
      ready = subst (λ (xs : List ℕ). IsMarked (can_send new) (length old.messages) xs) (ap (λ (b : Bool). set p.sends.ready m (mark_of b)) no_send ∙ sym ready_is) sends_marked;
      count = kept.sends.count;
      after = kept.sends.after;
    } in
    let flights_kept : IsMarked (can_deliver new) (length old.messages) flights =
    subst (λ (xs : List ℕ). IsMarked (can_deliver new) (length old.messages) xs) (ap (λ (b : Bool). set p.in_flight m (mark_of b)) a_flight ∙ sym flights_is) flights_marked in
    let runs : KeepsRuns new p.runs = record {
      ready = IsMarked-same (can_run old) (can_run new) (length old.jobs) p.runs.ready kept.runs.ready (λ j inside. run-same old new j refl (lacks j));
      count = kept.runs.count;
      lacks = λ j inside. kept.runs.lacks j inside ∙ sym (lacks j);
      messages = kept.runs.messages;
      with_message = kept.runs.with_message;
      jobs = kept.runs.jobs;
      after_job = kept.runs.after_job;
    } in
    record {
      plan = kept.plan;
      few_messages = kept.few_messages;
      few_jobs = kept.few_jobs;
      states = ap (λ (xs : List MessageState). length xs) states_is ∙ length-set p.states.items m InFlight ∙ kept.states;
      done = kept.done;
      sends = sends;
      flights = flights_kept;
      runs = runs;
      sent = λ x is. elim (cases_eq x m) [
        | inl same ↦ ap (is_free old) same ∙ parts.1
        | inr differs ↦ kept.sent x (ap is_unsent (sym (other x differs)) ∙ is)
      ];
      met = λ j is. lacks j ∙ kept.met j is;
    }

abbrev pub after_deliver : Inside → Vec MessageState Global → List ℕ → List ℕ → Vec ℕ Global → Inside
after_deliver p states flights ready lacks = record {
  messages = p.messages;
  jobs = p.jobs;
  states = states;
  done = p.done;
  sends = p.sends;
  in_flight = flights;
  runs = record { ready = ready; lacks = lacks; with_message = p.runs.with_message; after_job = p.runs.after_job };
}

pub kept-deliver : (p : Inside) (m : ℕ) (states : Vec MessageState Global) (flights ready : List ℕ) (lacks : Vec ℕ Global) → IsKept p → m < length p.messages.items → can_deliver (phase_of p) m ≡ true → states.items ≡ set p.states.items m Delivered → flights ≡ set p.in_flight m 0 → CountsDown p.runs.lacks.items p.runs.ready lacks.items ready (get_or p.runs.with_message m []) → IsKept (after_deliver p states flights ready lacks)
kept-deliver p m states flights ready lacks kept there can states_is flights_is down =
    let old = phase_of p in
    let new = phase_of (after_deliver p states flights ready lacks) in
    let numbers = get_or p.runs.with_message m [] in
    let here : state_of new m ≡ Delivered = this-state p.states.items states.items m Delivered states_is (omega (arith, kept.states)) in
    let other : (x : ℕ) → x ≢ m → state_of new x ≡ state_of old x = other-state p.states.items states.items m Delivered states_is in
    let inverse : (j : ℕ) → times j numbers ≡ times m (needs_at old.jobs j).messages = λ j. kept.runs.with_message.each m j (omega (arith, kept.runs.messages)) in
    let falls : (j : ℕ) → unmet new j + times j numbers ≡ unmet old j =
    λ j.
    let messages = many-change (λ x. not (is_delivered (state_of old x))) (λ x. not (is_delivered (state_of new x))) m (needs_at old.jobs j).messages (ap not (flying-undelivered (state_of old m) can)) (ap (λ (s : MessageState). not (is_delivered s)) here) (λ x differs. ap (λ (s : MessageState). not (is_delivered s)) (other x differs)) in
    let same = inverse j in
    omega arith in
    let met : (j : ℕ) → is_done old j ≡ true → unmet new j ≡ 0 = λ j is. let fell = falls j in let none = kept.met j is in omega arith in
    let waiting : (j : ℕ) → 0 < times j numbers → is_done old j ≡ false =
    λ j some. elim (cases_Bool (is_done old j)) [
      | inl is ↦ absurd (let fell = falls j in let none = kept.met j is in omega arith)
      | inr is ↦ is
    ] in
    let frees : Frees (can_run old) (can_run new) (unmet old) (unmet new) (length old.jobs) numbers = record {
      falls = falls;
      beyond = λ j above. inverse j ∙ ap (λ (needs : Needs). times m needs.messages) (get_or_past old.jobs j (record { messages = []; after = [] }) above);
      same = λ j none. run-same old new j refl (let fell = falls j in omega arith);
      blocked = λ j some. run-blocked old j (let fell = falls j in omega arith);
      waits = λ j some. run-blocked new j some;
      frees = λ j some none. run-free new j (waiting j some) none;
    } in
    let flights_marked : IsMarked (can_deliver new) (length old.messages) (set p.in_flight m (mark_of (can_deliver new m))) =
    IsMarked-set (can_deliver old) (can_deliver new) (length old.messages) m p.in_flight kept.flights there (λ x differs. ap is_in_flight (other x differs)) in
    let no_flight : can_deliver new m ≡ false = ap is_in_flight here in
    let flights_kept : IsMarked (can_deliver new) (length old.messages) flights =
    subst (λ (xs : List ℕ). IsMarked (can_deliver new) (length old.messages) xs) (ap (λ (b : Bool). set p.in_flight m (mark_of b)) no_flight ∙ sym flights_is) flights_marked in
    let send_same : (x : ℕ) → can_send new x ≡ can_send old x =
    λ x. elim (cases_eq x m) [
      | inl is ↦ ap (can_send new) is ∙ ap (λ (s : MessageState). is_unsent s && is_free old m) here ∙ sym (ap (can_send old) is ∙ and_left (is_unsent (state_of old m)) (is_free old m) (flying-sent (state_of old m) can))
      | inr differs ↦ ap (λ (s : MessageState). is_unsent s && is_free old x) (other x differs)
    ] in
    let sends : KeepsSends new p.sends = record {
      ready = IsMarked-same (can_send old) (can_send new) (length old.messages) p.sends.ready kept.sends.ready (λ x inside. send_same x);
      count = kept.sends.count;
      after = kept.sends.after;
    } in
    let runs : KeepsRuns new (record { ready = ready; lacks = lacks; with_message = p.runs.with_message; after_job = p.runs.after_job }) = record {
      ready = ready-now (can_run old) (can_run new) (unmet old) (unmet new) (length old.jobs) numbers p.runs.lacks.items p.runs.ready lacks.items ready frees down kept.runs.lacks kept.runs.ready;
      count = down.counts_len ∙ kept.runs.count;
      lacks = lacks-now (can_run old) (can_run new) (unmet old) (unmet new) (length old.jobs) numbers p.runs.lacks.items p.runs.ready lacks.items ready frees down kept.runs.lacks;
      messages = kept.runs.messages;
      with_message = kept.runs.with_message;
      jobs = kept.runs.jobs;
      after_job = kept.runs.after_job;
    } in
    record {
      plan = kept.plan;
      few_messages = kept.few_messages;
      few_jobs = kept.few_jobs;
      states = ap (λ (xs : List MessageState). length xs) states_is ∙ length-set p.states.items m Delivered ∙ kept.states;
      done = kept.done;
      sends = sends;
      flights = flights_kept;
      runs = runs;
      sent = λ x is. elim (cases_eq x m) [
        | inl same ↦ ap (is_free old) same ∙ kept.sent m (flying-sent (state_of old m) can)
        | inr differs ↦ kept.sent x (ap is_unsent (sym (other x differs)) ∙ is)
      ];
      met = met;
    }

-- a list of tests with one that became true
other-done : (done new : List Bool) (j : ℕ) → new ≡ set done j true → (x : ℕ) → x ≢ j → get_or new x true ≡ get_or done x true
other-done done new j is x other = ap (λ (xs : List Bool). get_or xs x true) is ∙ get_or-set_other done j x true true other

this-done : (done new : List Bool) (j : ℕ) → new ≡ set done j true → j < length done → get_or new j true ≡ true
this-done done new j is there = ap (λ (xs : List Bool). get_or xs j true) is ∙ get_or-set_same done j true true there

-- a message that waits for a job is free where that job is done; one that does not is as free as before
freed-if : (old new : Phase) (j : ℕ) (after : Option ℕ) → is_done new j ≡ true → 0 < times j (option_to_list after) → option_map_or (is_done new) after true ≡ true
freed-if old new j None is some = refl
freed-if old new j (Some i) is some = elim (cases_eq j i) [
  | inl same ↦ ap (is_done new) (sym same) ∙ is
  | inr differs ↦ absurd (let none : mark_of (nat_eq j i) ≡ 0 = ap mark_of (ne_eqb j i differs) in omega arith)
]

as-free : (old new : Phase) (j : ℕ) (after : Option ℕ) → ((x : ℕ) → x ≢ j → is_done new x ≡ is_done old x) → times j (option_to_list after) ≡ 0 → option_map_or (is_done new) after true ≡ option_map_or (is_done old) after true
as-free old new j None other none = refl
as-free old new j (Some i) other none = other i (λ same. let one : mark_of (nat_eq j i) ≡ 1 = ap mark_of (eq-eqb j i (sym same)) in omega arith)

still-free : (old new : Phase) (j : ℕ) (after : Option ℕ) → is_done new j ≡ true → ((x : ℕ) → x ≢ j → is_done new x ≡ is_done old x) → option_map_or (is_done old) after true ≡ true → option_map_or (is_done new) after true ≡ true
still-free old new j None is other free = refl
still-free old new j (Some i) is other free = elim (cases_eq i j) [
  | inl same ↦ ap (is_done new) same ∙ is
  | inr differs ↦ other i differs ∙ free
]

not-free : (old : Phase) (j : ℕ) (after : Option ℕ) → is_done old j ≡ false → 0 < times j (option_to_list after) → option_map_or (is_done old) after true ≡ false
not-free old j None is some = absurd (omega arith)
not-free old j (Some i) is some = elim (cases_eq j i) [
  | inl same ↦ ap (is_done old) (sym same) ∙ is
  | inr differs ↦ absurd (let none : mark_of (nat_eq j i) ≡ 0 = ap mark_of (ne_eqb j i differs) in omega arith)
]

pub after-past : {X : Type 0} (xs : List X) (m : ℕ) → length xs ≤ m → slice_get xs m ≡ None
after-past [] m above = refl
after-past (x ∷ xs) zero above = absurd (omega arith)
after-past (x ∷ xs) (suc m) above = after-past xs m (omega arith)

abbrev pub after_run : Inside → Vec Bool Global → List ℕ → List ℕ → Vec ℕ Global → Inside
after_run p done sends ready lacks = record {
  messages = p.messages;
  jobs = p.jobs;
  states = p.states;
  done = done;
  sends = record { ready = sends; after = p.sends.after };
  in_flight = p.in_flight;
  runs = record { ready = ready; lacks = lacks; with_message = p.runs.with_message; after_job = p.runs.after_job };
}

pub kept-run : (p : Inside) (j : ℕ) (done : Vec Bool Global) (sends_ready ready : List ℕ) (lacks : Vec ℕ Global) → IsKept p → j < length p.jobs.items → can_run (phase_of p) j ≡ true → done.items ≡ set p.done.items j true → Inserts p.sends.ready sends_ready (get_or p.sends.after j []) → CountsDown p.runs.lacks.items (set p.runs.ready j 0) lacks.items ready (get_or p.runs.after_job j []) → IsKept (after_run p done sends_ready ready lacks)
kept-run p j done sends_ready ready lacks kept there can done_is inserts down =
    let old = phase_of p in
    let new = phase_of (after_run p done sends_ready ready lacks) in
    let numbers = get_or p.runs.after_job j [] in
    let waiting = get_or p.sends.after j [] in
    let jobs_are : length old.jobs ≡ length p.jobs.items = length-map p.jobs.items needs_in in
    let parts = run-parts old j can in
    let here : is_done new j ≡ true = this-done p.done.items done.items j done_is (omega (arith, kept.done)) in
    let other : (x : ℕ) → x ≢ j → is_done new x ≡ is_done old x = other-done p.done.items done.items j done_is in
    let inverse : (x : ℕ) → times x numbers ≡ times j (needs_at old.jobs x).after = λ x. kept.runs.after_job.each j x (omega (arith, kept.runs.jobs)) in
    let falls : (x : ℕ) → unmet new x + times x numbers ≡ unmet old x =
    λ x.
    let after = many-change (λ i. not (is_done old i)) (λ i. not (is_done new i)) j (needs_at old.jobs x).after (ap not parts.0) (ap not here) (λ i differs. ap not (other i differs)) in
    let same = inverse x in
    omega arith in
    let alone : (x : ℕ) → 0 < times x numbers → x ≢ j =
    λ x some same. let fell = falls x in let none : unmet old x ≡ 0 = ap (unmet old) same ∙ parts.1 in omega arith in
    let waits : (x : ℕ) → 0 < times x numbers → is_done old x ≡ false =
    λ x some. elim (cases_Bool (is_done old x)) [
      | inl is ↦ absurd (let fell = falls x in let none = kept.met x is in omega arith)
      | inr is ↦ is
    ] in
    let middle : ℕ → Bool = λ x. not (nat_eq x j) && can_run old x in
    let middle_here : middle j ≡ false = and_left (not (nat_eq j j)) (can_run old j) (ap not (eq-eqb j j refl)) in
    let middle_other : (x : ℕ) → x ≢ j → middle x ≡ can_run old x = λ x differs. ap (λ (b : Bool). not b && can_run old x) (ne_eqb x j differs) in
    let middle_marked : IsMarked middle (length old.jobs) (set p.runs.ready j (mark_of (middle j))) =
    IsMarked-set (can_run old) middle (length old.jobs) j p.runs.ready kept.runs.ready (omega arith) middle_other in
    let middle_ready : IsMarked middle (length old.jobs) (set p.runs.ready j 0) =
    subst (λ (xs : List ℕ). IsMarked middle (length old.jobs) xs) (ap (λ (b : Bool). set p.runs.ready j (mark_of b)) middle_here) middle_marked in
    let frees : Frees middle (can_run new) (unmet old) (unmet new) (length old.jobs) numbers = record {
      falls = falls;
      beyond = λ x above. inverse x ∙ ap (λ (needs : Needs). times j needs.after) (get_or_past old.jobs x (record { messages = []; after = [] }) above);
      same = λ x none. elim (cases_eq x j) [
        | inl is ↦ ap (can_run new) is ∙ run-done new j here ∙ sym (ap middle is ∙ middle_here)
        | inr differs ↦ run-same old new x (other x differs) (let fell = falls x in omega arith) ∙ sym (middle_other x differs)
      ];
      blocked = λ x some. and_right (not (nat_eq x j)) (can_run old x) (run-blocked old x (let fell = falls x in omega arith));
      waits = λ x some. run-blocked new x some;
      frees = λ x some none. run-free new x (other x (alone x some) ∙ waits x some) none;
    } in
    let sends_inverse : (m : ℕ) → times m waiting ≡ times j (option_to_list (after_at old.messages m)) = λ m. kept.sends.after.each j m (omega (arith, kept.sends.count)) in
    let unsent : (m : ℕ) → 0 < times m waiting → is_unsent (state_of old m) ≡ true =
    λ m some. elim (cases_Bool (is_unsent (state_of old m))) [
      | inl is ↦ is
      | inr is ↦ absurd (true≢false (sym (kept.sent m is) ∙ not-free old j (after_at old.messages m) parts.0 (let same = sends_inverse m in omega arith)))
    ] in
    let sends_marked : IsMarked (can_send new) (length old.messages) sends_ready = record {
      room = omega (arith, kept.sends.ready.room, inserts.len);
      inside = λ m inside. elim (cases_lt 0 (times m waiting)) [
        | inl some ↦ inserts.each m some ∙ ap mark_of (sym (and_from (is_unsent (state_of old m)) (is_free new m) (unsent m some) (freed-if old new j (after_at old.messages m) here (let same = sends_inverse m in omega arith))))
        | inr none ↦ inserts.others m (omega arith) ∙ kept.sends.ready.inside m inside ∙ ap mark_of (sym (ap (λ (b : Bool). is_unsent (state_of old m) && b) (as-free old new j (after_at old.messages m) other (let same = sends_inverse m in omega arith))))
      ];
      outside = λ m above. inserts.others m (sends_inverse m ∙ ap (λ (found : Option Message). times j (option_to_list (option_and_then (λ x. x.after) found))) (after-past old.messages m above)) ∙ kept.sends.ready.outside m above;
    } in
    let sends : KeepsSends new (record { ready = sends_ready; after = p.sends.after }) = record {
      ready = sends_marked;
      count = kept.sends.count;
      after = kept.sends.after;
    } in
    let runs : KeepsRuns new (record { ready = ready; lacks = lacks; with_message = p.runs.with_message; after_job = p.runs.after_job }) = record {
      ready = ready-now middle (can_run new) (unmet old) (unmet new) (length old.jobs) numbers p.runs.lacks.items (set p.runs.ready j 0) lacks.items ready frees down kept.runs.lacks middle_ready;
      count = down.counts_len ∙ kept.runs.count;
      lacks = lacks-now middle (can_run new) (unmet old) (unmet new) (length old.jobs) numbers p.runs.lacks.items (set p.runs.ready j 0) lacks.items ready frees down kept.runs.lacks;
      messages = kept.runs.messages;
      with_message = kept.runs.with_message;
      jobs = kept.runs.jobs;
      after_job = kept.runs.after_job;
    } in
    record {
      plan = kept.plan;
      few_messages = kept.few_messages;
      few_jobs = kept.few_jobs;
      states = kept.states;
      done = ap (λ (xs : List Bool). length xs) done_is ∙ length-set p.done.items j true ∙ kept.done;
      sends = sends;
      flights = kept.flights;
      runs = runs;
      sent = λ m is. still-free old new j (after_at old.messages m) here other (kept.sent m is);
      met = λ x is. elim (cases_eq x j) [
        | inl same ↦ let fell = falls x in let none : unmet old x ≡ 0 = ap (unmet old) same ∙ parts.1 in omega arith
        | inr differs ↦ let fell = falls x in let none = kept.met x (sym (other x differs) ∙ is) in omega arith
      ];
    }
