-- A store goes with all of its copies.
use Rattle.std.proofs.Common.{◌≡◌, ◌≢◌, ℕ, ◌+◌, ◌-◌, ◌<◌, ◌≤◌, if◌then◌else◌, Bool, List, length, slice_index, Option, Some, None, IfSome, IsSome, IsSomeAnd, option_map, arith, ⊎_elim, refl, inl, inr, sym, subst, ◌∙◌, ap, ◌⊎◌}
use Rattle.std.proofs.lemmas.Bool.{cases_eq}
use Rattle.sk_ranges.specs.declared.state.State.TheVariants as state
use Rattle.sk_spaces.specs.declared.step.Step.TheVariants.{Stale}
use Rattle.sk_spaces.specs.Machine.{Machine, Home, CopyState, stale, owner, stales, is_copy_of, is_within}
use Rattle.sk_spaces.specs.Rules.{IsThere}
use Rattle.sk_spaces.specs.Memories.{block_of}
use Rattle.sk_spaces.specs.Spaces.{OnlyNotes}
use Rattle.sk_copy_states.specs.declared.held.Held.{Held}
use Rattle.sk_copy_states.specs.Held.{mark_of}
use Rattle.sk_copy_states.specs.Copies.{LiesAmong, held_in, home_in, home_store, store_in, state_in}
use Rattle.sk_copy_states.specs.Stores.{StoreView, store_of, copies_in, changes_in, len_in, AreRising, HasTile}
use Rattle.sk_copy_states.proofs.InBlock.{in_block}
use Rattle.sk_coherence_laws.specs.Directory.{DirectoryView, copy_at, store_at, cells_of_copy, mail_at, IsSound, IsMail, LiesInside}
use Rattle.sk_messages.specs.Messages.{MessagesView, Mail, Spoils}
use Rattle.sk_coherence_laws.specs.Traced.{IsLike, IsLineOf, live_home}
use Rattle.sk_coherence_laws.specs.Serves.{unlisted}
use Rattle.sk_coherence_laws.specs.Retires.{Thins, Closes, IsClosing, IsFreeing, IsOwnedIn, IsLikeBut, Leads}
use Rattle.sk_coherence_laws.proofs.StateLemmas.{stale_not_owner, owner_not_stale}
use Rattle.sk_coherence_laws.proofs.OpenLemmas.{some_of}
use Rattle.sk_coherence_laws.proofs.MailLemmas.{mailed-spoilt-so, like-mail-fewer, like-mail-spoilt}
use Rattle.sk_coherence_laws.proofs.TracedWrite.{live_of, copy_of, not_copy_of, within_yes, within_no, and_yes, and_no}
use Rattle.sk_coherence_laws.proofs.FillLemmas.{within_or}
use Rattle.sk_coherence_laws.proofs.LegalMoves.{not_owner_mark}
use Rattle.sk_coherence_laws.proofs.KeptLemmas.{like-same}
use Rattle.sk_coherence_laws.proofs.PlacedLemmas.{placed-like}
use Rattle.sk_coherence_laws.proofs.StaleLemmas.{inside-line}
use Rattle.sk_coherence_laws.proofs.LeadsLemmas.{leads-trans, leads-map, leads-end, leads-one, leads-none}
use Rattle.sk_coherence_laws.proofs.LeaveLemmas.{among_all, among_there, store_among, but-like, like-but, gone_among}

-- a message of a store goes to none of another one
none_home : (o : Option Home) (mail : Mail) (s : ℕ) → IfSome o (λ home. (home.store ≡ mail.store) × (home.lo ≤ mail.lo) × (mail.hi ≤ home.hi))
    → mail.store ≡ s → home_store o ≢ Some s → o ≡ None
none_home None mail s is of none = refl
none_home (Some home) mail s is of none = absurd (none (ap Some (is.0 ∙ of)))

-- messages over some indices of a store are forgotten, and no step is noted
module _ (d : DirectoryView) (messages : MessagesView) (s lo hi : ℕ) (spoilt : Spoils d.messages messages s lo hi) where
  abbrev forgetting : DirectoryView
  forgetting = record d { messages = messages }

  pub sound-forgetting : IsSound d → IsSound forgetting
  sound-forgetting sound = record {
    fit = sound.fit;
    whole = sound.whole;
    tied = sound.tied;
    inside = sound.inside;
    listed = sound.listed;
    complete = sound.complete;
    rising = sound.rising;
    tiles = sound.tiles;
    room = sound.room;
    owed = sound.owed;
    ready = sound.ready;
    new_copies = sound.new_copies;
    new_stores = sound.new_stores;
    coherent = sound.coherent;
    mailed = mailed-spoilt-so d forgetting s lo hi sound.mailed spoilt refl refl refl (λ q. refl) (λ q. refl)
        (λ q i own. inr (record { at = q; store = refl; owns = own; cell = refl }));
  }

  -- where the store has no copies, each of them has lost its copy
  pub like-forgetting : IsSound d → ((q : ℕ) → store_in (copy_at d q) ≢ Some s) → (m : Machine) → IsLike m d → IsLike m forgetting
  like-forgetting sound none m l = record {
    memory = l.memory;
    stores = l.stores;
    new_stores = l.new_stores;
    copies = l.copies;
    new_copies = l.new_copies;
    marks = l.marks;
    cells = l.cells;
    used = l.used;
    messages = like-mail-fewer m.messages m.copies d forgetting s lo hi l.messages spoilt refl (λ number. lost (mail_at d number) (sound.mailed.mails number));
  }
    where
      lost : (o : Option Mail) → IfSome o (IsMail d.spaces.memories.next d.next (copy_at d) (cells_of_copy d))
          → IfSome o (λ mail. mail.store ≡ s → live_home (m.copies mail.target) ≡ None)
      lost None is = tt
      lost (Some mail) is = λ of. l.copies mail.target ∙ none_home (home_in (copy_at d mail.target)) mail s is.target of (none mail.target)

-- a store without copies goes
module _ (d : DirectoryView) (s : ℕ) (stores : List (ℕ × StoreView)) (owed : ℕ) (none : (q : ℕ) → store_in (copy_at d q) ≢ Some s)
    (gone : store_of stores s ≡ None) (others : (t : ℕ) → t ≢ s → store_of stores t ≡ store_at d t) where
  abbrev without : DirectoryView
  without = record d { stores = stores; owed = owed }

  at_store : (P : ℕ → Option StoreView → Type 0) → P s None → ((t : ℕ) → P t (store_at d t)) → (t : ℕ) → P t (store_of stores t)
  at_store P here all t = ⊎_elim
      (λ (e : t ≡ s). subst (λ (x : ℕ). P x (store_of stores x)) (sym e) (subst (P s) (sym gone) here))
      (λ (ne : t ≢ s). subst (P t) (sym (others t ne)) (all t))
      (cases_eq t s)

  inside_still : (o : Option Home) → home_store o ≢ Some s → LiesInside d o → LiesInside without o
  inside_still None ne is = tt
  inside_still (Some home) ne is = (is.0, subst (λ (x : Option StoreView). home.hi ≤ len_in x) (sym (others home.store (λ e. ne (ap Some e)))) is.1)

  room_still : (o : Option Held) → store_in o ≢ Some s → IfSome o (λ held. changes_in (store_at d held.store) + held.expected ≤ held.states.reserved)
      → IfSome o (λ held. changes_in (store_of stores held.store) + held.expected ≤ held.states.reserved)
  room_still None ne room = tt
  room_still (Some held) ne room = subst (λ (x : Option StoreView). changes_in x + held.expected ≤ held.states.reserved) (sym (others held.store (λ e. ne (ap Some e)))) room

  pub sound-without : IsSound d → owed ≤ d.owed → IsSound without
  sound-without sound less = record {
    fit = sound.fit;
    whole = sound.whole;
    tied = sound.tied;
    inside = λ q. inside_still (home_in (copy_at d q)) (none q) (sound.inside q);
    listed = λ t k. at_store (λ t o. k < length (copies_in o) → store_in (copy_at d (slice_index (copies_in o) k)) ≡ Some t) (λ below. absurd (omega (arith, below))) (λ t. sound.listed t k) t;
    complete = λ t q is. subst (λ (o : Option StoreView). (k : ℕ) × (k < length (copies_in o)) × (slice_index (copies_in o) k ≡ q))
        (sym (others t (λ e. none q (is ∙ ap Some e)))) (sound.complete t q is);
    rising = at_store (λ t o. AreRising (copies_in o)) (λ j k less below. absurd (omega (arith, below))) sound.rising;
    tiles = at_store (λ t o. IfSome o HasTile) tt sound.tiles;
    room = λ q. room_still (copy_at d q) (none q) (sound.room q);
    owed = omega (arith, less, sound.owed);
    ready = sound.ready;
    new_copies = sound.new_copies;
    new_stores = λ t above. at_store (λ t o. d.next ≤ t → o ≡ None) (λ above. refl) sound.new_stores t above;
    coherent = sound.coherent;
    mailed = record { mails = sound.mailed.mails; steps = sound.mailed.steps; deliveries = sound.mailed.deliveries; unsent = sound.mailed.unsent };
  }

  pub like-without : (m : Machine) → IsLike m d → IsLike m without
  like-without m l = record {
    memory = l.memory;
    stores = at_store (λ t o. IfSome o (λ store. IsSomeAnd (m.stores t) (IsLineOf store))) tt l.stores;
    new_stores = l.new_stores;
    copies = l.copies;
    new_copies = l.new_copies;
    marks = l.marks;
    cells = l.cells;
    used = l.used;
    messages = record { mails = l.messages.mails; past = l.messages.past; fresh = l.messages.fresh; given = l.messages.given };
  }

-- what is owned lies in the block
owner_below : (o : Option Held) (i hi : ℕ) → IfSome o Rattle.sk_copy_states.specs.Held.IsFit → IfSome o (λ held. held.hi ≤ hi) → state_in o i ≡ state.Owner → i < hi
owner_below None i hi fit below own = absurd (owner_not_stale (sym own))
owner_below (Some held) i hi fit below own = let w = in_block held i fit (λ e. owner_not_stale (sym own ∙ e)) in omega (arith, w.1, below)

hi_among : (o : Option Held) (s lo hi : ℕ) → LiesAmong s lo hi (home_in o) → IfSome o (λ held. held.hi ≤ hi)
hi_among None s lo hi is = tt
hi_among (Some held) s lo hi is = is.2

-- the journal alone changed, and the messages, of which those over the store are spoilt
module _ (d t : DirectoryView) (s : ℕ) (sound : IsSound d) (there : IsSome (store_at d s))
    (copies : t.copies ≡ d.copies) (stores : t.stores ≡ d.stores) (next : t.next ≡ d.next) (memories : t.spaces.memories ≡ d.spaces.memories)
    (spoilt : Spoils d.messages t.messages s 0 (len_in (store_at d s))) where
  abbrev len : ℕ
  len = len_in (store_at d s)

  copy_t : (q : ℕ) → copy_at t q ≡ copy_at d q
  copy_t q = ap (λ x. held_in x q) copies

  -- the same with the messages that were in flight
  abbrev unspoilt : DirectoryView
  unspoilt = record t { messages = d.messages }

  like_t : (m : Machine) → IsLike m d → IsLike m unspoilt
  like_t m l = like-same d unspoilt m memories copies stores next refl l

  not_of : (q : ℕ) → (LiesAmong s 0 len (home_in (copy_at t q)) → ⊥) → store_in (copy_at d q) ≢ Some s
  not_of q not e = not (subst (λ (o : Option Held). LiesAmong s 0 len (home_in o)) (sym (copy_t q))
      (among_all d s len (home_in (copy_at d q)) (sound.inside q) e (omega arith)))

  of_among : (q : ℕ) → LiesAmong s 0 len (home_in (copy_at t q)) → store_in (copy_at d q) ≡ Some s
  of_among q is = ap store_in (sym (copy_t q)) ∙ store_among s 0 len (home_in (copy_at t q)) is

  mark_among : (m : Machine) → IsLike m d → (q i : ℕ) → LiesAmong s 0 len (home_in (copy_at t q)) → (stales s 0 len m).marks q i ≢ owner
  mark_among m l q i is e = within_or ⊥ 0 len i
      (λ above below. not_owner_mark state.Stale stale_not_owner
      (sym (ap (λ (b : Bool). if b then stale else m.marks q i)
      (and_yes (is_copy_of s (m.copies q)) (is_within 0 len i) (copy_of (m.copies q) (copy_at d q) s (l.copies q) (of_among q is)) (within_yes 0 len i above below))) ∙ e))
      (λ out. not_owner_mark (state_in (copy_at t q) i)
      (λ own. past out (owner_below (copy_at t q) i len (subst (λ (o : Option Held). IfSome o Rattle.sk_copy_states.specs.Held.IsFit) (sym (copy_t q)) (sound.fit q))
      (hi_among (copy_at t q) s 0 len is) own))
      (sym ((like_t m l).marks q i (among_there (copy_at t q) s 0 len is))
      ∙ sym (ap (λ (b : Bool). if b then stale else m.marks q i) (and_no (is_copy_of s (m.copies q)) (is_within 0 len i) (inr (within_no 0 len i out)))) ∙ e))
    where
      past : (i < 0) ⊎ (len ≤ i) → i < len → ⊥
      past out below = ⊎_elim (λ (x : i < 0). omega (arith, x)) (λ (x : len ≤ i). omega (arith, x, below)) out

  but_staled : (m : Machine) → IsLike m d → IsLikeBut s 0 len (stales s 0 len m) t
  but_staled m l = let k = like_t m l in let p = placed-like m unspoilt k in record {
    placed = record {
      memory = p.memory;
      stores = p.stores;
      new_stores = p.new_stores;
      copies = p.copies;
      new_copies = p.new_copies;
      used = p.used;
      messages = like-mail-spoilt m.messages m.copies d t s 0 len l.messages spoilt (ap (λ x. x.next) memories);
    };
    marks = λ q i some not.
        ap (λ (b : Bool). if b then stale else m.marks q i)
        (and_no (is_copy_of s (m.copies q)) (is_within 0 len i) (inl (not_copy_of (m.copies q) (copy_at d q) s (l.copies q) (not_of q not))))
        ∙ k.marks q i some;
    cells = λ q i not readable. k.cells q i readable;
    owned = mark_among m l;
  }

  owned_in : (m : Machine) → IsLike m d → (q i : ℕ) → store_in (copy_at d q) ≡ Some s → state_in (copy_at d q) i ≡ state.Owner → IsOwnedIn s m
  owned_in m l q i of own =
      let some : IsSome (copy_at d q) = there_of (copy_at d q) own in
      let h = live_of (m.copies q) (copy_at d q) (l.copies q) some in (
        q,
        subst (λ (k : CopyState). IsThere k (λ home. home.store ≡ s)) (sym h.1) (store_of_home h.0 (ap home_store (sym h.2) ∙ of)),
        (i, l.marks q i some ∙ ap mark_of own),
      )
    where
      there_of : (o : Option Held) → state_in o i ≡ state.Owner → IsSome o
      there_of None own = absurd (owner_not_stale (sym own))
      there_of (Some held) own = refl

      store_of_home : (home : Home) → Some home.store ≡ Some s → home.store ≡ s
      store_of_home home e = cc

  -- an index was owned, and a line says that all of them are stale
  pub leads-given : (q i : ℕ) → store_in (copy_at d q) ≡ Some s → state_in (copy_at d q) i ≡ state.Owner → OnlyNotes d.spaces t.spaces (Stale s 0 len)
      → Leads (IsClosing s len) (λ m. IsLike m d) (λ m. IsLikeBut s 0 len m t) d t
  leads-given q i of own noted = leads-one (IsClosing s len) (λ m. IsLike m d) (λ m. IsLikeBut s 0 len m t) d t (Stale s 0 len) noted.noted
      (λ m l. ((some_of m.memory _ l.memory, inside-line (store_at d s) (m.stores s) 0 len there (omega arith) (omega arith) (l.stores s)), but_staled m l))
      (λ m l. inl ((refl, refl, refl), owned_in m l q i of own))
      (λ m l. refl)

-- no index of a store is owned, and nothing changed
pub leads-unowned : (d : DirectoryView) (s len : ℕ) → ((q i : ℕ) → store_in (copy_at d q) ≡ Some s → state_in (copy_at d q) i ≢ state.Owner)
    → Leads (IsClosing s len) (λ m. IsLike m d) (λ m. IsLikeBut s 0 len m d) d d
leads-unowned d s len none = leads-none (IsClosing s len) (λ m. IsLike m d) (λ m. IsLikeBut s 0 len m d) d d (record { steps = refl; totals = refl })
    (λ m l. but-like s 0 len m d (λ q i is. none q i (store_among s 0 len (home_in (copy_at d q)) is)) l)

changes_unlisted : (o p : Option StoreView) → option_map unlisted o ≡ option_map unlisted p → changes_in o ≡ changes_in p
changes_unlisted None None e = refl
changes_unlisted None (Some p) e = cc
changes_unlisted (Some o) None e = cc
changes_unlisted (Some o) (Some p) e = ap changes_in e

store_there : (o : Option Held) (s : ℕ) → store_in o ≡ Some s → IsSome o
store_there None s is = cc
store_there (Some held) s is = refl

-- a store has no copies where none lies among its indices
pub none-left : (t u : DirectoryView) (s len : ℕ) → IsSound t → len_in (store_at t s) ≤ len → Thins t u s 0 len
    → ((q : ℕ) → LiesAmong s 0 len (home_in (copy_at u q)) → ⊥) → (q : ℕ) → store_in (copy_at u q) ≢ Some s
none-left t u s len sound below th none q is =
    let c = th.there q (store_there (copy_at u q) s is) in
    none q (subst (λ (o : Option Held). LiesAmong s 0 len (home_in o)) (sym c)
    (among_all t s len (home_in (copy_at t q)) (sound.inside q) (ap store_in (sym c) ∙ is) below))

module _ (a t u n : DirectoryView) (s : ℕ) (sound : IsSound t)
    (copies : t.copies ≡ a.copies) (stores : t.stores ≡ a.stores) (next : t.next ≡ a.next) (owed : t.owed ≡ a.owed) (named : t.named ≡ a.named)
    (memories : t.spaces.memories ≡ a.spaces.memories)
    (messages : Spoils a.messages n.messages s 0 (len_in (store_at a s))) (aside : t.aside ≡ a.aside)
    (th : Thins t u s 0 (len_in (store_at a s))) (none : (q : ℕ) → LiesAmong s 0 (len_in (store_at a s)) (home_in (copy_at u q)) → ⊥)
    (gone : store_at n s ≡ None) (others : (v : ℕ) → v ≢ s → store_at n v ≡ store_at u v)
    (same : n ≡ record u { stores = n.stores; owed = u.owed - changes_in (store_at u s); messages = n.messages }) where
  copy_a : (q : ℕ) → copy_at t q ≡ copy_at a q
  copy_a q = ap (λ x. held_in x q) copies

  copy_u : (q : ℕ) → copy_at n q ≡ copy_at u q
  copy_u q = ap (λ (x : DirectoryView). copy_at x q) same

  all_among : (q : ℕ) → store_in (copy_at a q) ≡ Some s → LiesAmong s 0 (len_in (store_at a s)) (home_in (copy_at t q))
  all_among q e = among_all t s (len_in (store_at a s)) (home_in (copy_at t q)) (sound.inside q) (ap store_in (copy_a q) ∙ e)
      (omega (arith, ap (λ x. len_in (store_of x s)) stores))

  pub closed : Closes a n s
  closed = record {
    store = gone;
    stores = λ v ne. others v ne ∙ th.others v ne ∙ ap (λ x. store_of x v) stores;
    gone = λ q e. copy_u q ∙ gone_among t u s 0 (len_in (store_at a s)) th none q (all_among q e);
    copies = λ q ne. copy_u q ∙ th.stays q (λ is. ne (ap store_in (sym (copy_a q)) ∙ store_among s 0 (len_in (store_at a s)) (home_in (copy_at t q)) is)) ∙ copy_a q;
    cells = λ q some. ap (λ (x : DirectoryView). cells_of_copy x q) same
        ∙ th.cells q (subst (λ (o : Option Held). IsSome o) (copy_u q) some) ∙ ap (λ x. block_of x q) memories;
    owed = ap (λ (x : DirectoryView). x.owed) same
        ∙ omega (arith, th.owed, owed, changes_unlisted (store_at u s) (store_at t s) (th.stores s), ap (λ x. changes_in (store_of x s)) stores);
    next = ap (λ (x : DirectoryView). x.next) same ∙ th.next ∙ next;
    named = ap (λ (x : DirectoryView). x.named) same ∙ th.named ∙ named;
    messages = messages;
    aside = ap (λ (x : DirectoryView). x.aside) same ∙ th.aside ∙ aside;
    next_copy = ap (λ (x : DirectoryView). x.spaces.memories.next) same ∙ th.next_copy ∙ ap (λ x. x.next) memories;
    ranks = ap (λ (x : DirectoryView). x.spaces.memories.ranks) same ∙ th.ranks ∙ ap (λ x. x.ranks) memories;
    capacity = ap (λ (x : DirectoryView). x.spaces.memories.capacity) same ∙ th.capacity ∙ ap (λ x. x.capacity) memories;
  }

-- the copies of a store go one after another, and then it goes
pub leads-closed : (t u n : DirectoryView) (s len : ℕ) → ((q : ℕ) → LiesAmong s 0 len (home_in (copy_at u q)) → ⊥)
    → Leads (IsFreeing s 0 len) (λ m. IsLikeBut s 0 len m t) (λ m. IsLikeBut s 0 len m u) t u → n.spaces ≡ u.spaces
    → ((m : Machine) → IsLike m u → IsLike m n) → Leads (IsClosing s len) (λ m. IsLikeBut s 0 len m t) (λ m. IsLike m n) t n
leads-closed t u n s len none x spaces like =
    leads-trans (IsClosing s len) (λ m. IsLikeBut s 0 len m t) (λ m. IsLike m u) (λ m. IsLike m n) t u n
    (leads-end (IsClosing s len) (λ m. IsLikeBut s 0 len m t) (λ m. IsLikeBut s 0 len m u) (λ m. IsLike m u) t u
    (λ m l. like-but s 0 len m u none l)
    (leads-map (IsFreeing s 0 len) (IsClosing s len) (λ m. IsLikeBut s 0 len m t) (λ m. IsLikeBut s 0 len m u) t u (λ m step is. inr is) x))
    (leads-none (IsClosing s len) (λ m. IsLike m u) (λ m. IsLike m n) u n
    (record { steps = ap (λ y. y.journal.steps) spaces; totals = ap (λ y. y.journal.totals) spaces }) like)
