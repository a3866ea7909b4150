-- A message that is sent: the directory is as sound, the step is legal, and the room of one message is used up.
use Rattle.std.proofs.Common.{◌≡◌, ◌≢◌, ℕ, ◌+◌, ◌<◌, ◌≤◌, ◌==◌, if◌then◌else◌, List, [], ◌∷◌, Bool, Option, Some, None, IfSome, IsSome, IsSomeAnd, arith, ⊎_elim, refl, sym, subst, ◌∙◌, ap}
use Rattle.std.proofs.lemmas.Bool.{cases_eq, cases_lt}
use Rattle.std.proofs.lemmas.List.Sums.{sum_by-cons}
use Rattle.sk_spaces.specs.declared.step.Step.TheVariants.{Send}
use Rattle.sk_spaces.specs.Machine.{Machine, Home, CopyState, Message, flying, replaced, sends_at}
use Rattle.sk_spaces.specs.Rules.{IsThere, AreApart}
use Rattle.sk_spaces.specs.Blocks.{BlockView, IsWhole, Reaches, cells_at}
use Rattle.sk_spaces.specs.Spaces.{OnlyNotes}
use Rattle.sk_spaces.specs.Memories.{MemoriesView, block_of, used_of}
use Rattle.sk_copy_states.specs.declared.held.Held.{Held}
use Rattle.sk_copy_states.specs.Held.{IsFit, mark_of}
use Rattle.sk_copy_states.specs.Copies.{ReachesIn, held_in, home_in, home_store, store_in, state_in, cell_in, expected_in}
use Rattle.sk_copy_states.specs.Stores.{StoreView, store_of, copies_in, changes_in, HasTile}
use Rattle.sk_messages.specs.Messages.{Mail, Puts, flies_to, flying_to}
use Rattle.sk_coherence_laws.specs.Directory.{DirectoryView, copy_at, store_at, cells_of_copy, mail_at, block_home, IsSound, IsMail, AreMailed, AreCoherent}
use Rattle.sk_coherence_laws.specs.Traced.{IsLike, IsLineOf, TracesStep, HasMessages, IsMessageOf, IsPast}
use Rattle.sk_coherence_laws.specs.Moves.{CanMove}
use Rattle.sk_coherence_laws.specs.Sends.{Sends, IsMailFrom, HasSends, UsesSend, LieApart, count_in}
use Rattle.sk_coherence_laws.proofs.InsideLemmas.{lens_same}
use Rattle.sk_coherence_laws.proofs.OpenLemmas.{some_of, eq_yes, eq_no, replaced_here, replaced_else}
use Rattle.sk_coherence_laws.proofs.TracedWrite.{live_of}
use Rattle.sk_coherence_laws.proofs.LegalMoves.{can-copy}
use Rattle.sk_coherence_laws.proofs.MovedCells.{length_cells, cell_part}
use Rattle.sk_coherence_laws.proofs.FillSteps.{source_block, source_there}
use Rattle.sk_coherence_laws.proofs.ServesLemmas.{not_there}
use Rattle.sk_coherence_laws.proofs.FreeLemmas.{store_listed}
use Rattle.sk_coherence_laws.proofs.MailLemmas.{mail-on}
use Rattle.sk_coherence_laws.proofs.Reshapes.{Reshapes, sound-reshaped, like-reshaped}

-- where copies, stores and blocks are the same, the copies lie as before
pub reshapes-same : (d n : DirectoryView) → IsSound d → n.copies ≡ d.copies → n.stores ≡ d.stores → n.next ≡ d.next
    → n.spaces.memories ≡ d.spaces.memories → Reshapes d n
reshapes-same d n s copies stores next memories =
    let copy : (q : ℕ) → copy_at n q ≡ copy_at d q = λ q. ap (λ (es : List (ℕ × Held)). held_in es q) copies in
    let at : (t : ℕ) → store_at n t ≡ store_at d t = λ t. ap (λ (x : List (ℕ × StoreView)). store_of x t) stores in
    record {
      homes = λ q. ap home_in (copy q);
      fit = λ q. subst (λ (o : Option Held). IfSome o IsFit) (sym (copy q)) (s.fit q);
      room = λ q. subst (λ (x : List (ℕ × StoreView)). IfSome (copy_at n q) (λ held. changes_in (store_of x held.store) + held.expected ≤ held.states.reserved)) (sym stores)
          (subst (λ (o : Option Held). IfSome o (λ held. changes_in (store_at d held.store) + held.expected ≤ held.states.reserved)) (sym (copy q)) (s.room q));
      listed = λ t. ap copies_in (at t);
      tiles = λ t. subst (λ (o : Option StoreView). IfSome o HasTile) (sym (at t)) (s.tiles t);
      lens = lens_same d n at;
      absent = λ t none. at t ∙ none;
      lines = λ t line is. subst (λ (o : Option StoreView). IfSome o (λ store. IsSomeAnd line (IsLineOf store))) (sym (at t)) is;
      blocks = λ q. ap (λ x. block_home (block_of x q)) memories;
      whole = λ q. subst (λ x. IfSome (block_of x q) IsWhole) (sym memories) (s.whole q);
      next = next;
      next_copy = ap (λ x. x.next) memories;
      ranks = ap (λ x. x.ranks) memories;
      capacity = ap (λ x. x.capacity) memories;
      used = λ space. ap (λ x. used_of x space) memories;
    }

-- a copy that is there has a number that was given
pub number_below : (d : DirectoryView) (q : ℕ) → IsSound d → IsSome (copy_at d q) → q < d.spaces.memories.next
number_below d q s there = ⊎_elim
    (λ (below : q < d.spaces.memories.next). below)
    (λ (above : d.spaces.memories.next ≤ q). absurd (not_there (copy_at d q) (s.new_copies q above) there))
    (cases_lt q d.spaces.memories.next)

absent_store : (o : Option StoreView) → o ≡ None → IsSome o → ⊥
absent_store None is there = cc
absent_store (Some store) is there = cc

-- the store of a copy has a number that was given
store_below : (d : DirectoryView) (q s : ℕ) → IsSound d → store_in (copy_at d q) ≡ Some s → s < d.next
store_below d q s sound is = ⊎_elim
    (λ (below : s < d.next). below)
    (λ (above : d.next ≤ s). absurd (absent_store (store_at d s) (sound.new_stores s above) (store_listed d q s sound is)))
    (cases_lt s d.next)

-- where a message lies in the copy that it goes to
home_reaches : (o : Option Held) (s lo hi : ℕ) → store_in o ≡ Some s → ReachesIn o lo hi
    → IfSome (home_in o) (λ home. (home.store ≡ s) × (home.lo ≤ lo) × (hi ≤ home.hi))
home_reaches None s lo hi is reaches = tt
home_reaches (Some held) s lo hi is reaches = (grind (arith, is), reaches.0, reaches.1)

-- a message goes to its copy, and to no other one
pub flies_here : (mail : Mail) (q : ℕ) → mail.target ≡ q → flies_to q (Some mail) ≡ 1
flies_here mail q e = ap (λ (t : Bool). if t then 1 else 0) (eq_yes mail.target q e)

pub flies_else : (mail : Mail) (q : ℕ) → mail.target ≢ q → flies_to q (Some mail) ≡ 0
flies_else mail q ne = ap (λ (t : Bool). if t then 1 else 0) (eq_no mail.target q ne)

pub count_first : (q to : ℕ) (ids : List ℕ) → count_in q (to ∷ ids) ≡ (if to == q then 1 else 0) + count_in q ids
count_first q to ids = sum_by-cons (λ k. if k == q then 1 else 0) to ids

-- the cells of a block on their way to another copy
abbrev pub sent_from : (store to lo hi : ℕ) → BlockView → Mail
sent_from store to lo hi block = record { store = store; target = to; lo = lo; hi = hi; cells = cells_at block lo hi }

mail_from : (d : DirectoryView) (from to lo hi s : ℕ) (block : BlockView) → cells_of_copy d from ≡ Some block → IsWhole block → Reaches lo hi block
    → store_in (copy_at d from) ≡ Some s → IsMailFrom d from to lo hi (sent_from s to lo hi block)
mail_from d from to lo hi s block is whole reaches store = record {
  store = store;
  target = refl;
  lo_is = refl;
  hi_is = refl;
  whole = length_cells block lo hi whole reaches;
  cells = λ i above below. cell_part block lo hi i whole reaches above below ∙ ap (λ o. cell_in o i) (sym is);
}

-- a message was put in flight with the cells of a copy's block, and its step was noted
pub sends-so : (d n : DirectoryView) (number from to lo hi s : ℕ) → IsSound d → CanMove d from to lo hi → lo ≤ hi → store_in (copy_at d from) ≡ Some s
    → IfSome (cells_of_copy d from) (λ block. Puts d.messages n.messages number (sent_from s to lo hi block))
    → n.copies ≡ d.copies → n.stores ≡ d.stores → n.next ≡ d.next → n.owed ≡ d.owed → n.ready ≡ d.ready → n.named ≡ d.named → n.aside + 1 ≡ d.aside
    → OnlyNotes d.spaces n.spaces (Send number from to lo hi) → Sends d n number from to lo hi
sends-so d n number from to lo hi s sound can ordered store puts copies stores next owed ready named aside spaces =
    on (cells_of_copy d from) refl (source_there d from to lo hi sound can) (sound.whole from) (source_block d from to lo hi sound can ordered) puts
  where
    on : (o : Option BlockView) → cells_of_copy d from ≡ o → IsSome o → IfSome o IsWhole → IfSome o (Reaches lo hi)
        → IfSome o (λ block. Puts d.messages n.messages number (sent_from s to lo hi block)) → Sends d n number from to lo hi
    on None is there whole reaches puts = cc
    on (Some block) is there whole reaches puts = record {
      mail = sent_from s to lo hi block;
      is_from = mail_from d from to lo hi s block is whole reaches store;
      puts = puts;
      copies = copies;
      stores = stores;
      next = next;
      owed = owed;
      ready = ready;
      named = named;
      aside = aside;
      spaces = spaces;
    }

module _ (d n : DirectoryView) (number from to lo hi : ℕ) (sound : IsSound d) (can : CanMove d from to lo hi)
    (sent : Sends d n number from to lo hi) where
  copy_same : (q : ℕ) → copy_at n q ≡ copy_at d q
  copy_same q = ap (λ (es : List (ℕ × Held)). held_in es q) sent.copies

  cells_same : (q : ℕ) → cells_of_copy n q ≡ cells_of_copy d q
  cells_same q = ap (λ x. block_of x q) sent.spaces.memories

  reshapes : Reshapes d n
  reshapes = reshapes-same d n sound sent.copies sent.stores sent.next sent.spaces.memories

  -- the message that is sent is one
  is_mail : IsMail d.spaces.memories.next d.next (copy_at d) (cells_of_copy d) sent.mail
  is_mail = record {
    whole = omega (arith, sent.is_from.whole, sent.is_from.lo_is, sent.is_from.hi_is);
    given = omega (arith, number_below d to sound can.target, sent.is_from.target);
    given_store = store_below d from sent.mail.store sound sent.is_from.store;
    target = subst (λ (x : ℕ). IfSome (home_in (copy_at d x)) (λ home. (home.store ≡ sent.mail.store) × (home.lo ≤ sent.mail.lo) × (sent.mail.hi ≤ home.hi))) (sym sent.is_from.target)
        (subst (λ (x : ℕ). IfSome (home_in (copy_at d to)) (λ home. (home.store ≡ sent.mail.store) × (home.lo ≤ x) × (sent.mail.hi ≤ home.hi))) (sym sent.is_from.lo_is)
        (subst (λ (x : ℕ). IfSome (home_in (copy_at d to)) (λ home. (home.store ≡ sent.mail.store) × (home.lo ≤ lo) × (x ≤ home.hi))) (sym sent.is_from.hi_is)
        (home_reaches (copy_at d to) sent.mail.store lo hi (sym can.store ∙ sent.is_from.store) can.to_reaches)));
    equal = λ q i store own above below.
        let a : lo ≤ i = omega (arith, above, sent.is_from.lo_is) in
        let b : i < hi = omega (arith, below, sent.is_from.hi_is) in
        sym (sound.coherent.equal q from i (store ∙ sym sent.is_from.store) own (can.readable i a b)) ∙ sym (sent.is_from.cells i a b);
  }

  mail_kept : (mail : Mail) → IsMail d.spaces.memories.next d.next (copy_at d) (cells_of_copy d) mail → IsMail n.spaces.memories.next n.next (copy_at n) (cells_of_copy n) mail
  mail_kept mail is = mail-on d n mail (omega (arith, reshapes.next_copy)) (omega (arith, sent.next)) (λ there. reshapes.homes mail.target)
      (λ q i store own above below. record {
        at = q;
        store = ap store_in (sym (copy_same q));
        owns = ap (λ o. state_in o i) (sym (copy_same q)) ∙ own;
        cell = ap (λ o. cell_in o i) (sym (cells_same q));
      })
      is

  mails_kept : (k : ℕ) → IfSome (mail_at n k) (IsMail n.spaces.memories.next n.next (copy_at n) (cells_of_copy n))
  mails_kept k = ⊎_elim
      (λ (e : k ≡ number). subst (λ (o : Option Mail). IfSome o (IsMail n.spaces.memories.next n.next (copy_at n) (cells_of_copy n)))
      (sym (ap (mail_at n) e ∙ sent.puts.here)) (mail_kept sent.mail is_mail))
      (λ (ne : k ≢ number). subst (λ (o : Option Mail). IfSome o (IsMail n.spaces.memories.next n.next (copy_at n) (cells_of_copy n)))
      (sym (sent.puts.others k ne)) (all (mail_at d k) (sound.mailed.mails k)))
      (cases_eq k number)
    where
      all : (o : Option Mail) → IfSome o (IsMail d.spaces.memories.next d.next (copy_at d) (cells_of_copy d)) → IfSome o (IsMail n.spaces.memories.next n.next (copy_at n) (cells_of_copy n))
      all None is = tt
      all (Some mail) is = mail_kept mail is

  -- the message goes to one copy
  flies_as : (q : ℕ) → flies_to q (Some sent.mail) ≡ (if to == q then 1 else 0)
  flies_as q = ap (λ (x : ℕ). if x == q then 1 else 0) sent.is_from.target

  pub uses-send : (len : ℕ) → lo + len ≡ hi → UsesSend d n to len
  uses-send len is ids cells has = record {
    messages = omega (arith, has.messages, sent.puts.room);
    cells = omega (arith, has.cells, sent.puts.cells, sent.is_from.whole, is);
    steps = omega (arith, has.steps, sent.puts.flying, sent.aside);
    deliveries = λ q there. subst (λ (o : Option Held). flying_to q n.messages + count_in q ids ≤ expected_in o) (sym (copy_same q))
        (omega (arith, has.deliveries q (subst (λ (o : Option Held). IsSome o) (copy_same q) there), sent.puts.flying_each q, flies_as q, count_first q to ids));
  }

  pub mailed-sent : (cells : ℕ) → HasSends d (to ∷ []) cells → AreMailed n
  mailed-sent cells has = record {
    mails = mails_kept;
    steps = omega (arith, has.steps, sent.puts.flying, sent.aside);
    deliveries = λ q there. subst (λ (o : Option Held). flying_to q n.messages ≤ expected_in o) (sym (copy_same q))
        (omega (arith, has.deliveries q (subst (λ (o : Option Held). IsSome o) (copy_same q) there), sent.puts.flying_each q, flies_as q, count_first q to []));
    unsent = λ q above. let out : d.spaces.memories.next ≤ q = omega (arith, above, reshapes.next_copy) in
        omega (
          arith,
          sound.mailed.unsent q out,
          sent.puts.flying_each q,
          flies_else sent.mail q (λ e. omega (arith, e, out, sent.is_from.target, number_below d to sound can.target)),
        );
  }

  pub sound-sent : (cells : ℕ) → HasSends d (to ∷ []) cells → IsSound n
  sound-sent cells has = sound-reshaped d n sound reshapes
      (subst (λ (f : ℕ → Option Held). AreCoherent f (cells_of_copy n)) (sym (ap (λ (es : List (ℕ × Held)). held_in es) sent.copies))
      (subst (λ (x : MemoriesView). AreCoherent (copy_at d) (block_of x)) (sym sent.spaces.memories) sound.coherent))
      (mailed-sent cells has)
      (omega (arith, sound.owed, sent.owed, sent.ready))
      (omega (arith, sound.ready, sent.ready, sent.aside, sent.spaces.noted.spare))

  -- the machine's message
  abbrev message_of : Machine → Home → Message
  message_of m home = record { store = home.store; target = to; lo = lo; hi = hi; cells = m.cells from; fate = flying }

  has_messages : (m : Machine) (home : Home) → IsLike m d → home_in (copy_at d from) ≡ Some home
      → HasMessages (replaced m.messages number (Some (message_of m home))) m.copies n
  has_messages m home l is = record {
    mails = λ k. ⊎_elim
        (λ (e : k ≡ number). subst (λ (o : Option Mail). IfSome o (λ mail. IsSomeAnd (replaced m.messages number (Some (message_of m home)) k) (IsMessageOf mail)))
        (sym (ap (mail_at n) e ∙ sent.puts.here))
        (subst (λ (o : Option Message). IsSomeAnd o (IsMessageOf sent.mail)) (sym (replaced_here m.messages number (Some (message_of m home)) k e)) here))
        (λ (ne : k ≢ number). subst (λ (o : Option Mail). IfSome o (λ mail. IsSomeAnd (replaced m.messages number (Some (message_of m home)) k) (IsMessageOf mail)))
        (sym (sent.puts.others k ne))
        (subst (λ (o : Option Message). IfSome (mail_at d k) (λ mail. IsSomeAnd o (IsMessageOf mail))) (sym (replaced_else m.messages number (Some (message_of m home)) k ne)) (l.messages.mails k)))
        (cases_eq k number);
    past = λ k none. ⊎_elim
        (λ (e : k ≡ number). absurd (not_both (mail_at n k) (ap (mail_at n) e ∙ sent.puts.here) none))
        (λ (ne : k ≢ number). subst (λ (o : Option Message). IfSome o (IsPast m.copies)) (sym (replaced_else m.messages number (Some (message_of m home)) k ne))
        (l.messages.past k (sym (sent.puts.others k ne) ∙ none)))
        (cases_eq k number);
    fresh = λ k above. replaced_else m.messages number (Some (message_of m home)) k (λ e. omega (arith, e, above, sent.puts.next, sent.puts.number_is))
        ∙ l.messages.fresh k (omega (arith, above, sent.puts.next));
    given = λ k. ⊎_elim
        (λ (e : k ≡ number). subst (λ (o : Option Message). IfSome o (λ message. message.target < n.spaces.memories.next))
        (sym (replaced_here m.messages number (Some (message_of m home)) k e)) (omega (arith, number_below d to sound can.target, reshapes.next_copy)))
        (λ (ne : k ≢ number). subst (λ (o : Option Message). IfSome o (λ message. message.target < n.spaces.memories.next))
        (sym (replaced_else m.messages number (Some (message_of m home)) k ne))
        (subst (λ (x : ℕ). IfSome (m.messages k) (λ message. message.target < x)) (sym reshapes.next_copy) (l.messages.given k)))
        (cases_eq k number);
  }
    where
      not_both : (o : Option Mail) → o ≡ Some sent.mail → o ≡ None → ⊥
      not_both o some none = cc

      some_eq : (x y : ℕ) → Some x ≡ Some y → x ≡ y
      some_eq x y same = cc

      here : IsMessageOf sent.mail (message_of m home)
      here = record {
        store = some_eq home.store sent.mail.store (ap home_store (sym is) ∙ sent.is_from.store);
        target = sym sent.is_from.target;
        lo = sym sent.is_from.lo_is;
        hi = sym sent.is_from.hi_is;
        fate = refl;
        cells = λ i above below.
            let a : lo ≤ i = omega (arith, above, sent.is_from.lo_is) in
            let b : i < hi = omega (arith, below, sent.is_from.hi_is) in
            l.cells from i (can.readable i a b) ∙ sym (sent.is_from.cells i a b);
      }

  like_in : (m : Machine) (home : Home) → IsLike m d → home_in (copy_at d from) ≡ Some home
      → IsLike (record m { messages = replaced m.messages number (Some (message_of m home)) }) n
  like_in m home l is = like-reshaped d n m (record m { messages = replaced m.messages number (Some (message_of m home)) }) l reshapes refl refl refl refl
      (λ q i some. l.marks q i (subst (λ (o : Option Held). IsSome o) (copy_same q) some) ∙ ap (λ o. mark_of (state_in o i)) (sym (copy_same q)))
      (λ q i readable. l.cells q i (λ e. readable (ap (λ o. state_in o i) (copy_same q) ∙ e)) ∙ ap (λ o. cell_in o i) (sym (cells_same q)))
      (has_messages m home l is)

  are_apart : (m : Machine) → IsLike m d → LieApart d from to → AreApart m from to
  are_apart m l apart =
      let f = live_of (m.copies from) (copy_at d from) (l.copies from) can.source in
      let t = live_of (m.copies to) (copy_at d to) (l.copies to) can.target in
      subst (λ (k : CopyState). IsThere k (λ one. IsThere (m.copies to) (λ other. one.space ≢ other.space))) (sym f.1)
      (subst (λ (k : CopyState). IsThere k (λ other. f.0.space ≢ other.space)) (sym t.1)
      (subst (λ (o : Option Home). IfSome o (λ other. f.0.space ≢ other.space)) t.2
      (subst (λ (o : Option Home). IfSome o (λ one. IfSome (home_in (copy_at d to)) (λ other. one.space ≢ other.space))) f.2 apart)))

  pub traced-sent : lo ≤ hi → LieApart d from to → TracesStep d n (Send number from to lo hi)
  traced-sent ordered apart m l = (
    (some_of m.memory _ l.memory, (l.messages.fresh number (omega (arith, sent.puts.number_is)), can-copy m d from to lo hi l can ordered, are_apart m l apart)),
    (let f = live_of (m.copies from) (copy_at d from) (l.copies from) can.source in
        subst (λ (k : CopyState). IsLike (sends_at k number from to lo hi m) n) (sym f.1) (like_in m f.0 l f.2)),
  )
