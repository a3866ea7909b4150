-- A message that comes: the directory is as sound, the step is legal, and the room of other messages stays.
use Rattle.std.proofs.Common.{◌≡◌, ◌≢◌, ℕ, ℤ, ◌+◌, ◌<◌, ◌≤◌, ◌==◌, ◌&&◌, if◌then◌else◌, List, Bool, true, false, length, Option, Some, None, IfSome, IsSome, IsSomeAnd, option_map, arith, ⊎_elim, refl, inl, inr, sym, subst, ◌∙◌, ap, ◌⊎◌}
use Rattle.std.proofs.lemmas.Bool.{cases_eq}
use Rattle.std.specs.Bool.{⊤}
use Rattle.sk_ranges.specs.declared.state.State.{State}
use Rattle.sk_ranges.specs.declared.state.State.TheVariants.{Stale, Valid, Owner}
use Rattle.sk_ranges.specs.States.{filled}
use Rattle.sk_spaces.specs.declared.step.Step.TheVariants.{Deliver}
use Rattle.sk_spaces.specs.Machine.{Machine, CopyState, Message, flying, delivered, replaced, is_within, filled_mark, fills, delivers_it}
use Rattle.sk_spaces.specs.Rules.{IsThere}
use Rattle.sk_spaces.specs.Blocks.{BlockView, IsWhole, Reaches, written}
use Rattle.sk_spaces.specs.Spaces.{Changes}
use Rattle.sk_spaces.proofs.CopyLemmas.{taken-written}
use Rattle.sk_copy_states.specs.declared.held.Held.{Held}
use Rattle.sk_copy_states.specs.Held.{IsFit, mark_of}
use Rattle.sk_copy_states.specs.Copies.{FillsAt, home_in, home_store, store_in, state_in, cell_in, expected_in, room_in}
use Rattle.sk_copy_states.specs.Stores.{StoreView, store_of, copies_in, changes_in, HasTile}
use Rattle.sk_messages.specs.Messages.{Mail, Takes, flying_to}
use Rattle.sk_coherence_laws.specs.Directory.{DirectoryView, copy_at, store_at, cells_of_copy, mail_at, mail_cell, block_home, IsSound, IsMail, AreMailed, AreCoherent}
use Rattle.sk_coherence_laws.specs.Traced.{IsLike, IsLineOf, TracesStep, HasMessages, IsMessageOf, IsPast}
use Rattle.sk_coherence_laws.specs.Moves.{TakesIn}
use Rattle.sk_coherence_laws.specs.Sends.{Delivers, KeepsSends, count_in}
use Rattle.sk_coherence_laws.specs.Writes.{WritesIn}
use Rattle.sk_coherence_laws.proofs.InsideLemmas.{lens_same}
use Rattle.sk_coherence_laws.proofs.OpenLemmas.{some_of, eq_yes, eq_no, replaced_here, replaced_else}
use Rattle.sk_coherence_laws.proofs.SoundWrite.{writes_option, whole-option, home-option}
use Rattle.sk_coherence_laws.proofs.TracedWrite.{live_of, some_home, within_yes, within_no, and_yes, and_no}
use Rattle.sk_coherence_laws.proofs.FillLemmas.{within_or}
use Rattle.sk_coherence_laws.proofs.MailLemmas.{mail-on, delivered_landed}
use Rattle.sk_coherence_laws.proofs.SendLemmas.{flies_here, flies_else}
use Rattle.sk_coherence_laws.proofs.FlyingLemmas.{is_mail, of_store, block_there, block_reaches}
use Rattle.sk_coherence_laws.proofs.Reshapes.{Reshapes, sound-reshaped, like-reshaped}

abbrev IsOwner : State → Type 0
IsOwner Stale = ⊥
IsOwner Valid = ⊥
IsOwner Owner = Unit {0}

-- what is owned where cells were filled was owned before
filled_owner : (s : State) → filled s ≡ Owner → s ≡ Owner
filled_owner Stale own = absurd (subst IsOwner (sym own) tt)
filled_owner Valid own = own
filled_owner Owner own = own

filled_mark_of : (s : State) → filled_mark (mark_of s) ≡ mark_of (filled s)
filled_mark_of Stale = refl
filled_mark_of Valid = refl
filled_mark_of Owner = refl

-- a change that was expected took its own room alone
room_filled : (d : DirectoryView) (o p : Option Held) → home_in p ≡ home_in o → expected_in p + 1 ≡ expected_in o → room_in o ≤ room_in p + 1
    → IfSome o (λ held. changes_in (store_at d held.store) + held.expected ≤ held.states.reserved)
    → IfSome p (λ held. changes_in (store_at d held.store) + held.expected ≤ held.states.reserved)
room_filled d o None home expected used room = tt
room_filled d None (Some p) home expected used room = cc
room_filled d (Some o) (Some p) home expected used room =
    let same : p.store ≡ o.store = grind (arith, ap home_store home) in
    omega (arith, room, used, expected, ap (λ (x : ℕ). changes_in (store_at d x)) same)

-- a message came: its copy was filled, its cells were written into the copy's block under its step, and it is not in flight
-- any more; nothing else changed
pub record Arrives (d n : DirectoryView) (number : ℕ) (mail : Mail) : Type 0 where
  pub target : FillsAt (copy_at d mail.target) (copy_at n mail.target) mail.lo mail.hi
  pub others : (q : ℕ) → q ≢ mail.target → copy_at n q ≡ copy_at d q
  pub changes : Changes d.spaces n.spaces mail.target (option_map (written mail.lo mail.cells) (cells_of_copy d mail.target)) None (Deliver number)
  pub takes : Takes d.messages n.messages number mail
  pub stores : n.stores ≡ d.stores
  pub next : n.next ≡ d.next
  pub owed : n.owed ≡ d.owed
  pub ready : n.ready ≡ d.ready
  pub named : n.named ≡ d.named
  pub aside : n.aside + 1 ≡ d.aside

-- the same of the parts of a message
pub arrives-so : (d n : DirectoryView) (number : ℕ) (mail : Mail) (target lo hi : ℕ) (cells : List ℤ)
    → target ≡ mail.target → lo ≡ mail.lo → hi ≡ mail.hi → cells ≡ mail.cells
    → FillsAt (copy_at d target) (copy_at n target) lo hi → ((q : ℕ) → q ≢ target → copy_at n q ≡ copy_at d q)
    → Changes d.spaces n.spaces target (option_map (written lo cells) (cells_of_copy d target)) None (Deliver number)
    → Takes d.messages n.messages number mail
    → n.stores ≡ d.stores → n.next ≡ d.next → n.owed ≡ d.owed → n.ready ≡ d.ready → n.named ≡ d.named → n.aside + 1 ≡ d.aside → Arrives d n number mail
arrives-so d n number mail target lo hi cells target_is lo_is hi_is cells_is fills others changes takes stores next owed ready named aside = record {
  target = subst (λ (x : ℕ). FillsAt (copy_at d x) (copy_at n x) mail.lo mail.hi) target_is
      (subst (λ (x : ℕ). FillsAt (copy_at d target) (copy_at n target) x mail.hi) lo_is
      (subst (λ (x : ℕ). FillsAt (copy_at d target) (copy_at n target) lo x) hi_is fills));
  others = λ q ne. others q (λ e. ne (e ∙ target_is));
  changes = subst (λ (x : ℕ). Changes d.spaces n.spaces x (option_map (written mail.lo mail.cells) (cells_of_copy d x)) None (Deliver number)) target_is
      (subst (λ (x : ℕ). Changes d.spaces n.spaces target (option_map (written x mail.cells) (cells_of_copy d target)) None (Deliver number)) lo_is
      (subst (λ (x : List ℤ). Changes d.spaces n.spaces target (option_map (written lo x) (cells_of_copy d target)) None (Deliver number)) cells_is changes));
  takes = takes;
  stores = stores;
  next = next;
  owed = owed;
  ready = ready;
  named = named;
  aside = aside;
}

module _ (d n : DirectoryView) (number : ℕ) (mail : Mail) (sound : IsSound d) (there : IsSome (copy_at d mail.target))
    (came : Arrives d n number mail) where
  mail_here : IsMail d.spaces.memories.next d.next (copy_at d) (cells_of_copy d) mail
  mail_here = is_mail d number mail sound came.takes.before there

  store_here : store_in (copy_at d mail.target) ≡ Some mail.store
  store_here = of_store d number mail sound came.takes.before there

  reaches_here : IfSome (cells_of_copy d mail.target) (Reaches mail.lo (mail.lo + length mail.cells))
  reaches_here = block_reaches d number mail sound came.takes.before there

  written_in : WritesIn (cell_in (cells_of_copy d mail.target)) (cell_in (cells_of_copy n mail.target)) mail.lo (mail.lo + length mail.cells) mail.cells
  written_in = writes_option (cells_of_copy d mail.target) (cells_of_copy n mail.target) mail.lo mail.cells came.changes.memories.blocks.here (sound.whole mail.target) reaches_here
      (block_there d number mail sound came.takes.before there)

  values : TakesIn (mail_cell mail) (cell_in (cells_of_copy d mail.target)) (cell_in (cells_of_copy n mail.target)) mail.lo mail.hi
  values = record {
    before = λ i below. written_in.before i below;
    inside = λ i above below. written_in.inside i above (omega (arith, below, mail_here.whole));
    after = λ i above. written_in.after i (omega (arith, above, mail_here.whole));
  }

  -- the copy that was filled at one of the indices, or anything else
  by_place : (P : Type 0) (q i : ℕ) → (q ≡ mail.target → mail.lo ≤ i → i < mail.hi → P)
      → ((q ≢ mail.target) ⊎ ((i < mail.lo) ⊎ (mail.hi ≤ i)) → state_in (copy_at n q) i ≡ state_in (copy_at d q) i
      → cell_in (cells_of_copy n q) i ≡ cell_in (cells_of_copy d q) i → P) → P
  by_place P q i inside kept = ⊎_elim
      (λ (e : q ≡ mail.target). within_or P mail.lo mail.hi i (inside e)
      (λ out. kept (inr out)
      (subst (λ (x : ℕ). state_in (copy_at n x) i ≡ state_in (copy_at d x) i) (sym e)
      (⊎_elim (λ (b : i < mail.lo). came.target.states.before i b) (λ (b : mail.hi ≤ i). came.target.states.after i b) out))
      (subst (λ (x : ℕ). cell_in (cells_of_copy n x) i ≡ cell_in (cells_of_copy d x) i) (sym e)
      (⊎_elim (λ (b : i < mail.lo). values.before i b) (λ (b : mail.hi ≤ i). values.after i b) out))))
      (λ (ne : q ≢ mail.target). kept (inl ne) (ap (λ o. state_in o i) (came.others q ne)) (ap (λ o. cell_in o i) (came.changes.memories.blocks.others q ne)))
      (cases_eq q mail.target)

  state_inside : (q i : ℕ) → q ≡ mail.target → mail.lo ≤ i → i < mail.hi → state_in (copy_at n q) i ≡ filled (state_in (copy_at d q) i)
  state_inside q i e above below = subst (λ (x : ℕ). state_in (copy_at n x) i ≡ filled (state_in (copy_at d x) i)) (sym e) (came.target.states.inside i above below)

  cell_inside : (q i : ℕ) → q ≡ mail.target → mail.lo ≤ i → i < mail.hi → cell_in (cells_of_copy n q) i ≡ mail_cell mail i
  cell_inside q i e above below = subst (λ (x : ℕ). cell_in (cells_of_copy n x) i ≡ mail_cell mail i) (sym e) (values.inside i above below)

  -- what is owned keeps its cell, which the message had too
  owned_at : (q i : ℕ) → state_in (copy_at d q) i ≡ Owner → cell_in (cells_of_copy n q) i ≡ cell_in (cells_of_copy d q) i
  owned_at q i own = by_place (cell_in (cells_of_copy n q) i ≡ cell_in (cells_of_copy d q) i) q i
      (λ e above below. cell_inside q i e above below ∙ sym (mail_here.equal q i (ap (λ x. store_in (copy_at d x)) e ∙ store_here) own above below))
      (λ out state cell. cell)

  owner_before : (q i : ℕ) → state_in (copy_at n q) i ≡ Owner → state_in (copy_at d q) i ≡ Owner
  owner_before q i own = by_place (state_in (copy_at d q) i ≡ Owner) q i
      (λ e above below. filled_owner (state_in (copy_at d q) i) (sym (state_inside q i e above below) ∙ own))
      (λ out state cell. sym state ∙ own)

  homes : (q : ℕ) → home_in (copy_at n q) ≡ home_in (copy_at d q)
  homes q = ⊎_elim
      (λ (e : q ≡ mail.target). subst (λ (x : ℕ). home_in (copy_at n x) ≡ home_in (copy_at d x)) (sym e) came.target.home)
      (λ (ne : q ≢ mail.target). ap home_in (came.others q ne))
      (cases_eq q mail.target)

  same_before : (j k : ℕ) → store_in (copy_at n j) ≡ store_in (copy_at n k) → store_in (copy_at d j) ≡ store_in (copy_at d k)
  same_before j k s = ap home_store (sym (homes j)) ∙ s ∙ ap home_store (homes k)

  coherent : AreCoherent (copy_at n) (cells_of_copy n)
  coherent = record {
    single = λ j k i s a b. sound.coherent.single j k i (same_before j k s) (owner_before j i a) (owner_before k i b);
    equal = λ j k i s a r. let o = owner_before j i a in let t = same_before j k s in
        by_place (cell_in (cells_of_copy n k) i ≡ cell_in (cells_of_copy n j) i) k i
        (λ e above below. cell_inside k i e above below
        ∙ sym (mail_here.equal j i (t ∙ ap (λ x. store_in (copy_at d x)) e ∙ store_here) o above below) ∙ sym (owned_at j i o))
        (λ out state cell. cell ∙ sound.coherent.equal j k i t o (λ e. r (state ∙ e)) ∙ sym (owned_at j i o));
  }

  reshapes : Reshapes d n
  reshapes =
      let at : (t : ℕ) → store_at n t ≡ store_at d t = λ t. ap (λ (x : List (ℕ × StoreView)). store_of x t) came.stores in
      record {
        homes = homes;
        fit = λ q. ⊎_elim
            (λ (e : q ≡ mail.target). subst (λ (x : ℕ). IfSome (copy_at n x) IsFit) (sym e) (came.target.fit (sound.fit mail.target)))
            (λ (ne : q ≢ mail.target). subst (λ (o : Option Held). IfSome o IsFit) (sym (came.others q ne)) (sound.fit q))
            (cases_eq q mail.target);
        room = λ q. subst (λ (x : List (ℕ × StoreView)). IfSome (copy_at n q) (λ held. changes_in (store_of x held.store) + held.expected ≤ held.states.reserved)) (sym came.stores) (⊎_elim
            (λ (e : q ≡ mail.target). subst (λ (x : ℕ). IfSome (copy_at n x) (λ held. changes_in (store_at d held.store) + held.expected ≤ held.states.reserved)) (sym e)
            (room_filled d (copy_at d mail.target) (copy_at n mail.target) came.target.home came.target.expected came.target.room (sound.room mail.target)))
            (λ (ne : q ≢ mail.target). subst (λ (o : Option Held). IfSome o (λ held. changes_in (store_at d held.store) + held.expected ≤ held.states.reserved)) (sym (came.others q ne)) (sound.room q))
            (cases_eq q mail.target));
        listed = λ t. ap copies_in (at t);
        tiles = λ t. subst (λ (o : Option StoreView). IfSome o HasTile) (sym (at t)) (sound.tiles t);
        lens = lens_same d n at;
        absent = λ t none. at t ∙ none;
        lines = λ t line is. subst (λ (o : Option StoreView). IfSome o (λ store. IsSomeAnd line (IsLineOf store))) (sym (at t)) is;
        blocks = λ q. ⊎_elim
            (λ (e : q ≡ mail.target). subst (λ (x : ℕ). block_home (cells_of_copy n x) ≡ block_home (cells_of_copy d x)) (sym e)
            (ap block_home came.changes.memories.blocks.here ∙ home-option (cells_of_copy d mail.target) mail.lo mail.cells))
            (λ (ne : q ≢ mail.target). ap block_home (came.changes.memories.blocks.others q ne))
            (cases_eq q mail.target);
        whole = λ q. ⊎_elim
            (λ (e : q ≡ mail.target). subst (λ (x : ℕ). IfSome (cells_of_copy n x) IsWhole) (sym e)
            (whole-option (cells_of_copy d mail.target) (cells_of_copy n mail.target) mail.lo mail.cells came.changes.memories.blocks.here (sound.whole mail.target) reaches_here))
            (λ (ne : q ≢ mail.target). subst (λ (o : Option BlockView). IfSome o IsWhole) (sym (came.changes.memories.blocks.others q ne)) (sound.whole q))
            (cases_eq q mail.target);
        next = came.next;
        next_copy = came.changes.memories.next;
        ranks = came.changes.memories.ranks;
        capacity = came.changes.memories.capacity;
        used = λ space. omega (arith, came.changes.memories.used space, taken-written (cells_of_copy d mail.target) space mail.lo mail.cells);
      }

  some_before : (q : ℕ) → IsSome (copy_at n q) → IsSome (copy_at d q)
  some_before q some = some_home (copy_at n q) (copy_at d q) (homes q) some

  pub delivers-so : Delivers d n number mail
  delivers-so = record {
    target = came.target;
    others = came.others;
    values = values;
    owned = λ i own. owned_at mail.target i own;
    other_values = came.changes.memories.blocks.others;
    takes = came.takes;
    stores = came.stores;
    next = came.next;
    owed = came.owed;
    ready = came.ready;
    named = came.named;
    aside = came.aside;
    next_copy = reshapes.next_copy;
    ranks = reshapes.ranks;
    capacity = reshapes.capacity;
    used = reshapes.used;
    noted = came.changes.noted;
  }

  -- so many messages to a copy more as were expected before are expected still
  deliveries_left : (q more : ℕ) → flying_to q d.messages + more ≤ expected_in (copy_at d q) → flying_to q n.messages + more ≤ expected_in (copy_at n q)
  deliveries_left q more before = ⊎_elim
      (λ (e : q ≡ mail.target). omega (
        arith,
        before,
        came.takes.flying_each q,
        flies_here mail q (sym e),
        subst (λ (x : ℕ). expected_in (copy_at n x) + 1 ≡ expected_in (copy_at d x)) (sym e) came.target.expected,
      ))
      (λ (ne : q ≢ mail.target). omega (arith, before, came.takes.flying_each q, flies_else mail q (λ e. ne (sym e)), ap expected_in (came.others q ne)))
      (cases_eq q mail.target)

  pub keeps-sends : KeepsSends d n
  keeps-sends ids cells has = record {
    messages = omega (arith, has.messages, came.takes.room);
    cells = omega (arith, has.cells, came.takes.cells);
    steps = omega (arith, has.steps, came.takes.flying, came.aside);
    deliveries = λ q some. deliveries_left q (count_in q ids) (has.deliveries q (some_before q some));
  }

  mails_left : (k : ℕ) → IfSome (mail_at n k) (IsMail n.spaces.memories.next n.next (copy_at n) (cells_of_copy n))
  mails_left k = ⊎_elim
      (λ (e : k ≡ number). subst (λ (o : Option Mail). IfSome o (IsMail n.spaces.memories.next n.next (copy_at n) (cells_of_copy n)))
      (sym (ap (mail_at n) e ∙ came.takes.here)) tt)
      (λ (ne : k ≢ number). subst (λ (o : Option Mail). IfSome o (IsMail n.spaces.memories.next n.next (copy_at n) (cells_of_copy n)))
      (sym (came.takes.others k ne)) (all (mail_at d k) (sound.mailed.mails k)))
      (cases_eq k number)
    where
      all : (o : Option Mail) → IfSome o (IsMail d.spaces.memories.next d.next (copy_at d) (cells_of_copy d)) → IfSome o (IsMail n.spaces.memories.next n.next (copy_at n) (cells_of_copy n))
      all None is = tt
      all (Some other) is = mail-on d n other (omega (arith, reshapes.next_copy)) (omega (arith, came.next)) (λ some. homes other.target)
          (λ q i store own above below. let o = owner_before q i own in record {
            at = q;
            store = ap home_store (sym (homes q));
            owns = o;
            cell = sym (owned_at q i o);
          })
          is

  mailed : AreMailed n
  mailed = record {
    mails = mails_left;
    steps = omega (arith, sound.mailed.steps, came.takes.flying, came.aside);
    deliveries = λ q some. let left = deliveries_left q 0 (omega (arith, sound.mailed.deliveries q (some_before q some))) in omega (arith, left);
    unsent = λ q above. omega (arith, sound.mailed.unsent q (omega (arith, above, reshapes.next_copy)), came.takes.flying_each q);
  }

  pub sound-delivered : IsSound n
  sound-delivered = sound-reshaped d n sound reshapes coherent mailed
      (omega (arith, sound.owed, came.owed, came.ready))
      (omega (arith, sound.ready, came.ready, came.aside, came.changes.noted.spare))

  -- the machine after the message came
  abbrev arrived : Machine → Message → Machine
  arrived m message = record m { messages = replaced m.messages number (Some (record message { fate = delivered })) }

  abbrev filled_in : Machine → Message → Machine
  filled_in m message = fills mail.target mail.lo mail.hi message.cells (arrived m message)

  inside_yes : (q i : ℕ) → q ≡ mail.target → mail.lo ≤ i → i < mail.hi → ((q == mail.target) && is_within mail.lo mail.hi i) ≡ true
  inside_yes q i e above below = and_yes (q == mail.target) (is_within mail.lo mail.hi i) (eq_yes q mail.target e) (within_yes mail.lo mail.hi i above below)

  inside_no : (q i : ℕ) → (q ≢ mail.target) ⊎ ((i < mail.lo) ⊎ (mail.hi ≤ i)) → ((q == mail.target) && is_within mail.lo mail.hi i) ≡ false
  inside_no q i out = ⊎_elim
      (λ (ne : q ≢ mail.target). and_no (q == mail.target) (is_within mail.lo mail.hi i) (inl (eq_no q mail.target ne)))
      (λ (o : (i < mail.lo) ⊎ (mail.hi ≤ i)). and_no (q == mail.target) (is_within mail.lo mail.hi i) (inr (within_no mail.lo mail.hi i o)))
      out

  marks_after : (m : Machine) (message : Message) → IsLike m d → (q i : ℕ) → IsSome (copy_at n q) → (filled_in m message).marks q i ≡ mark_of (state_in (copy_at n q) i)
  marks_after m message l q i some = let was = l.marks q i (some_before q some) in
      by_place ((filled_in m message).marks q i ≡ mark_of (state_in (copy_at n q) i)) q i
      (λ e above below. ap (λ (t : Bool). if t then filled_mark (m.marks q i) else m.marks q i) (inside_yes q i e above below)
      ∙ ap filled_mark was ∙ filled_mark_of (state_in (copy_at d q) i) ∙ sym (ap mark_of (state_inside q i e above below)))
      (λ out state cell. ap (λ (t : Bool). if t then filled_mark (m.marks q i) else m.marks q i) (inside_no q i out) ∙ was ∙ sym (ap mark_of state))

  cells_after : (m : Machine) (message : Message) → IsLike m d → IsMessageOf mail message → (q i : ℕ) → state_in (copy_at n q) i ≢ Stale
      → (filled_in m message).cells q i ≡ cell_in (cells_of_copy n q) i
  cells_after m message l is q i readable = by_place ((filled_in m message).cells q i ≡ cell_in (cells_of_copy n q) i) q i
      (λ e above below. ap (λ (t : Bool). if t then message.cells i else m.cells q i) (inside_yes q i e above below)
      ∙ is.cells i above below ∙ sym (cell_inside q i e above below))
      (λ out state cell. ap (λ (t : Bool). if t then message.cells i else m.cells q i) (inside_no q i out)
      ∙ l.cells q i (λ e. readable (state ∙ e)) ∙ sym cell)

  messages_after : (m : Machine) (message : Message) → HasMessages m.messages m.copies d → m.messages number ≡ Some message → HasMessages (arrived m message).messages m.copies n
  messages_after m message has is = record {
    mails = λ k. ⊎_elim
        (λ (e : k ≡ number). subst (λ (o : Option Mail). IfSome o (λ mail. IsSomeAnd ((arrived m message).messages k) (IsMessageOf mail))) (sym (ap (mail_at n) e ∙ came.takes.here)) tt)
        (λ (ne : k ≢ number). subst (λ (o : Option Mail). IfSome o (λ mail. IsSomeAnd ((arrived m message).messages k) (IsMessageOf mail))) (sym (came.takes.others k ne))
        (subst (λ (o : Option Message). IfSome (mail_at d k) (λ mail. IsSomeAnd o (IsMessageOf mail)))
        (sym (replaced_else m.messages number (Some (record message { fate = delivered })) k ne)) (has.mails k)))
        (cases_eq k number);
    past = λ k none. ⊎_elim
        (λ (e : k ≡ number). subst (λ (o : Option Message). IfSome o (IsPast m.copies))
        (sym (replaced_here m.messages number (Some (record message { fate = delivered })) k e)) (inl delivered_landed))
        (λ (ne : k ≢ number). subst (λ (o : Option Message). IfSome o (IsPast m.copies))
        (sym (replaced_else m.messages number (Some (record message { fate = delivered })) k ne)) (has.past k (sym (came.takes.others k ne) ∙ none)))
        (cases_eq k number);
    fresh = λ k above. let none = has.fresh k (omega (arith, above, came.takes.next)) in
        replaced_else m.messages number (Some (record message { fate = delivered })) k (λ e. not_both (m.messages k) message none (ap m.messages e ∙ is)) ∙ none;
    given = λ k. subst (λ (x : ℕ). IfSome ((arrived m message).messages k) (λ sent. sent.target < x)) (sym reshapes.next_copy) (⊎_elim
        (λ (e : k ≡ number). subst (λ (o : Option Message). IfSome o (λ sent. sent.target < d.spaces.memories.next))
        (sym (replaced_here m.messages number (Some (record message { fate = delivered })) k e)) given_before)
        (λ (ne : k ≢ number). subst (λ (o : Option Message). IfSome o (λ sent. sent.target < d.spaces.memories.next))
        (sym (replaced_else m.messages number (Some (record message { fate = delivered })) k ne)) (has.given k))
        (cases_eq k number));
  }
    where
      given_before : message.target < d.spaces.memories.next
      given_before = subst (λ (o : Option Message). IfSome o (λ sent. sent.target < d.spaces.memories.next)) is (has.given number)

      not_both : (o : Option Message) (message : Message) → o ≡ None → o ≡ Some message → ⊥
      not_both o message none some = cc

  like_in : (m : Machine) (message : Message) → IsLike m d → IsMessageOf mail message → m.messages number ≡ Some message → IsLike (filled_in m message) n
  like_in m message l is sent = like-reshaped d n m (filled_in m message) l reshapes refl refl refl refl
      (marks_after m message l) (cells_after m message l is) (messages_after m message l.messages sent)

  -- the machine's message with this number
  message_at : (m : Machine) → IsLike m d → (message : Message) × (m.messages number ≡ Some message) × IsMessageOf mail message
  message_at m l = some_message (m.messages number)
      (subst (λ (o : Option Mail). IfSome o (λ mail. IsSomeAnd (m.messages number) (IsMessageOf mail))) came.takes.before (l.messages.mails number))
    where
      some_message : (o : Option Message) → IsSomeAnd o (IsMessageOf mail) → (message : Message) × (o ≡ Some message) × IsMessageOf mail message
      some_message None is = absurd is
      some_message (Some message) is = (message, refl, is)

  target_there : (m : Machine) → IsLike m d → (q : ℕ) → q ≡ mail.target → IsThere (m.copies q) (λ home. ⊤)
  target_there m l q e =
      let t = live_of (m.copies mail.target) (copy_at d mail.target) (l.copies mail.target) there in
      subst (λ (x : ℕ). IsThere (m.copies x) (λ home. ⊤)) (sym e) (subst (λ (k : CopyState). IsThere k (λ home. ⊤)) (sym t.1) tt)

  pub traced-delivered : TracesStep d n (Deliver number)
  traced-delivered m l = let s = message_at m l in (
    (
      some_of m.memory _ l.memory,
      subst (λ (o : Option Message). IsSomeAnd o (λ sent. (sent.fate ≡ flying) × IsThere (m.copies sent.target) (λ home. ⊤))) (sym s.1)
          (s.2.fate, target_there m l s.0.target s.2.target),
    ),
    subst (λ (o : Option Message). IsLike (delivers_it o number m) n) (sym s.1) (on s.0 s.2 (like_in m s.0 l s.2 s.1)),
  )
    where
      on : (message : Message) → IsMessageOf mail message → IsLike (filled_in m message) n → IsLike (delivers_it (Some message) number m) n
      on message is like =
          subst (λ (x : ℕ). IsLike (fills x message.lo message.hi message.cells (arrived m message)) n) (sym is.target)
          (subst (λ (x : ℕ). IsLike (fills mail.target x message.hi message.cells (arrived m message)) n) (sym is.lo)
          (subst (λ (x : ℕ). IsLike (fills mail.target mail.lo x message.cells (arrived m message)) n) (sym is.hi) like))
