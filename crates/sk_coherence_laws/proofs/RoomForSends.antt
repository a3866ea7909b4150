-- Room for more messages: the directory is as sound, the same machine is like it, and there is room for what was asked.
use Rattle.std.proofs.Common.{◌≡◌, ◌≢◌, ℕ, ◌+◌, ◌<◌, ◌≤◌, ◌==◌, if◌then◌else◌, List, [], ◌∷◌, ◌++◌, Bool, length, take, map, Option, Some, None, IfSome, IsSome, IsSomeAnd, arith, ⊎_elim, refl, sym, subst, ◌∙◌, ap}
use Rattle.std.proofs.lemmas.Bool.{cases_eq}
use Rattle.std.proofs.lemmas.List.{length-append, map-append, take_more}
use Rattle.std.proofs.lemmas.List.Sums.{sum_by_push, sum_by-append}
use Rattle.std.proofs.Math.ListN.{get_or}
use Rattle.sk_spaces.specs.Machine.{Machine}
use Rattle.sk_spaces.specs.Blocks.{BlockView, IsWhole}
use Rattle.sk_spaces.specs.Memories.{MemoriesView, block_of, used_of}
use Rattle.sk_spaces.specs.Spaces.{SpacesView, Stays}
use Rattle.sk_copy_states.specs.declared.held.Held.{Held}
use Rattle.sk_copy_states.specs.Held.{mark_of}
use Rattle.sk_copy_states.specs.Copies.{ExpectsMore, HasRoomIn, home_in, home_store, state_in, cell_in, expected_in}
use Rattle.sk_copy_states.specs.Stores.{StoreView, store_of, copies_in, changes_in, HasTile}
use Rattle.sk_messages.specs.Messages.{MessagesView, Mail, IsSame}
use Rattle.sk_coherence_laws.specs.Directory.{DirectoryView, copy_at, store_at, cells_of_copy, mail_at, block_home, IsSound, IsMail, AreMailed, AreCoherent}
use Rattle.sk_coherence_laws.specs.Traced.{IsLike, IsLineOf}
use Rattle.sk_coherence_laws.specs.Sends.{MakesRoom, KeepsSends, AddsSends, count_in}
use Rattle.sk_coherence_laws.proofs.InsideLemmas.{lens_same}
use Rattle.sk_coherence_laws.proofs.OpenLemmas.{eq_yes, eq_no}
use Rattle.sk_coherence_laws.proofs.TracedWrite.{some_home}
use Rattle.sk_coherence_laws.proofs.MailLemmas.{mail-on, like-mail-same}
use Rattle.sk_coherence_laws.proofs.Reshapes.{Reshapes, sound-reshaped}

-- no message more, and those of two changes
pub expects-none : (o : Option Held) → ExpectsMore 0 o o
expects-none o = record { home = refl; pins = refl; expected = omega arith; fit = λ fit. fit; room = omega arith; states = λ i. refl }

pub expects-trans : (a b : ℕ) (o p r : Option Held) → ExpectsMore a o p → ExpectsMore b p r → ExpectsMore (a + b) o r
expects-trans a b o p r x y = record {
  home = y.home ∙ x.home;
  pins = y.pins ∙ x.pins;
  expected = omega (arith, x.expected, y.expected);
  fit = λ fit. y.fit (x.fit fit);
  room = omega (arith, x.room, y.room);
  states = λ i. y.states i ∙ x.states i;
}

-- each copy has room for as many messages more as it is listed, where it is listed once more
module _ (old mid new : ℕ → Option Held) (id : ℕ) (one : ExpectsMore 1 (mid id) (new id)) (others : (q : ℕ) → q ≢ id → new q ≡ mid q) where
  pub expects-next : (ids : List ℕ) → ((q : ℕ) → ExpectsMore (count_in q ids) (old q) (mid q))
      → (q : ℕ) → ExpectsMore (count_in q (ids ++ id ∷ [])) (old q) (new q)
  expects-next ids before q = subst (λ (k : ℕ). ExpectsMore k (old q) (new q)) (sym (sum_by_push (λ k. if k == q then 1 else 0) ids id)) (⊎_elim
      (λ (e : q ≡ id). subst (λ (k : ℕ). ExpectsMore (count_in q ids + k) (old q) (new q)) (sym (ap (λ (t : Bool). if t then 1 else 0) (eq_yes id q (sym e))))
      (expects-trans (count_in q ids) 1 (old q) (mid q) (new q) (before q) (subst (λ (x : ℕ). ExpectsMore 1 (mid x) (new x)) (sym e) one)))
      (λ (ne : q ≢ id). subst (λ (k : ℕ). ExpectsMore (count_in q ids + k) (old q) (new q)) (sym (ap (λ (t : Bool). if t then 1 else 0) (eq_no id q (λ e. ne (sym e)))))
      (expects-trans (count_in q ids) 0 (old q) (mid q) (new q) (before q) (subst (λ (o : Option Held). ExpectsMore 0 (mid q) o) (sym (others q ne)) (expects-none (mid q)))))
      (cases_eq q id))

  -- the same in a list of anything that names copies
  pub expects-taken : {X : Type 0} (f : X → ℕ) (xs : List X) (k : ℕ) (x : X) → k < length xs → id ≡ f (get_or xs k x)
      → ((q : ℕ) → ExpectsMore (count_in q (map f (take k xs))) (old q) (mid q))
      → (q : ℕ) → ExpectsMore (count_in q (map f (take (k + 1) xs))) (old q) (new q)
  expects-taken f xs k x below is before q =
      let more : map f (take (k + 1) xs) ≡ map f (take k xs) ++ id ∷ []
      = ap (map f) (take_more xs k x below) ∙ map-append f (take k xs) (get_or xs k x ∷ []) ∙ ap (λ y. map f (take k xs) ++ y ∷ []) (sym is) in
      subst (λ (ids : List ℕ). ExpectsMore (count_in q ids) (old q) (new q)) (sym more) (expects-next (map f (take k xs)) before q)

stays_trans : (a b n : DirectoryView) → Stays a.spaces b.spaces a.spaces.named → Stays b.spaces n.spaces b.spaces.named → Stays a.spaces n.spaces a.spaces.named
stays_trans a b n x y = record {
  memories = y.memories ∙ x.memories;
  named = y.named ∙ x.named;
  journal = record { steps = y.journal.steps ∙ x.journal.steps; totals = y.journal.totals ∙ x.journal.totals };
  spare = omega (arith, x.spare, y.spare);
}

pub makes-trans : (a b n : DirectoryView) → MakesRoom a b → MakesRoom b n → MakesRoom a n
makes-trans a b n x y = record {
  copies = λ q. let one = x.copies q in let two = y.copies q in
      (one.0 + two.0, expects-trans one.0 two.0 (copy_at a q) (copy_at b q) (copy_at n q) one.1 two.1);
  stores = y.stores ∙ x.stores;
  next = y.next ∙ x.next;
  owed = y.owed ∙ x.owed;
  named = y.named ∙ x.named;
  ready = omega (arith, x.ready, y.ready);
  messages = record {
    mails = λ k. y.messages.mails k ∙ x.messages.mails k;
    next = y.messages.next ∙ x.messages.next;
    flying = y.messages.flying ∙ x.messages.flying;
    flying_each = λ copy. y.messages.flying_each copy ∙ x.messages.flying_each copy;
  };
  spaces = stays_trans a b n x.spaces y.spaces;
}

stays_so : (d n : DirectoryView) → n.spaces ≡ d.spaces → Stays d.spaces n.spaces d.spaces.named
stays_so d n same = subst (λ (x : SpacesView). Stays d.spaces x d.spaces.named) (sym same)
    (record { memories = refl; named = refl; journal = record { steps = refl; totals = refl }; spare = omega arith })

same_so : (d n : DirectoryView) → n.messages ≡ d.messages → IsSame d.messages n.messages
same_so d n same = subst (λ (x : MessagesView). IsSame d.messages x) (sym same) (record { mails = λ k. refl; next = refl; flying = refl; flying_each = λ copy. refl })

-- copies that are the same expect no more
pub expects-same : (d n : DirectoryView) → ((q : ℕ) → copy_at n q ≡ copy_at d q) → (q : ℕ) → (more : ℕ) × ExpectsMore more (copy_at d q) (copy_at n q)
expects-same d n each q = (0, subst (λ (o : Option Held). ExpectsMore 0 (copy_at d q) o) (sym (each q)) (expects-none (copy_at d q)))

-- room was made in the copies alone
pub makes-copies : (d n : DirectoryView) → n ≡ record d { copies = n.copies }
    → ((q : ℕ) → (more : ℕ) × ExpectsMore more (copy_at d q) (copy_at n q)) → MakesRoom d n
makes-copies d n same copies = record {
  copies = copies;
  stores = ap (λ (x : DirectoryView). x.stores) same;
  next = ap (λ (x : DirectoryView). x.next) same;
  owed = ap (λ (x : DirectoryView). x.owed) same;
  named = ap (λ (x : DirectoryView). x.named) same;
  ready = omega (arith, ap (λ (x : DirectoryView). x.ready) same);
  messages = same_so d n (ap (λ (x : DirectoryView). x.messages) same);
  spaces = stays_so d n (ap (λ (x : DirectoryView). x.spaces) same);
}

-- room was made in the journal alone
pub makes-aside : (d n : DirectoryView) → n ≡ record d { spaces = n.spaces; aside = n.aside } → Stays d.spaces n.spaces d.spaces.named → MakesRoom d n
makes-aside d n same spaces = record {
  copies = expects-same d n (λ q. ap (λ (x : DirectoryView). copy_at x q) same);
  stores = ap (λ (x : DirectoryView). x.stores) same;
  next = ap (λ (x : DirectoryView). x.next) same;
  owed = ap (λ (x : DirectoryView). x.owed) same;
  named = ap (λ (x : DirectoryView). x.named) same;
  ready = omega (arith, ap (λ (x : DirectoryView). x.ready) same);
  messages = same_so d n (ap (λ (x : DirectoryView). x.messages) same);
  spaces = spaces;
}

-- room was made in the messages alone
pub makes-messages : (d n : DirectoryView) → n ≡ record d { messages = n.messages } → IsSame d.messages n.messages → MakesRoom d n
makes-messages d n same messages = record {
  copies = expects-same d n (λ q. ap (λ (x : DirectoryView). copy_at x q) same);
  stores = ap (λ (x : DirectoryView). x.stores) same;
  next = ap (λ (x : DirectoryView). x.next) same;
  owed = ap (λ (x : DirectoryView). x.owed) same;
  named = ap (λ (x : DirectoryView). x.named) same;
  ready = omega (arith, ap (λ (x : DirectoryView). x.ready) same);
  messages = messages;
  spaces = stays_so d n (ap (λ (x : DirectoryView). x.spaces) same);
}

-- the room of a copy that expects messages more
pub room-expected : (d : DirectoryView) (o p : Option Held) (more room : ℕ) → ExpectsMore more o p → HasRoomIn room p
    → IfSome o (λ held. room ≡ changes_in (store_at d held.store))
    → IfSome p (λ held. changes_in (store_at d held.store) + held.expected ≤ held.states.reserved)
room-expected d o None more room e has is = tt
room-expected d None (Some p) more room e has is = let h = e.home in cc
room-expected d (Some o) (Some p) more room e has is =
    let same : p.store ≡ o.store = grind (arith, ap home_store e.home) in
    omega (arith, has, is, ap (λ (x : ℕ). changes_in (store_at d x)) same)

-- the same of each copy, where one of them expects more
pub room-one : (d n : DirectoryView) (id more room : ℕ) → IsSound d → ExpectsMore more (copy_at d id) (copy_at n id)
    → ((q : ℕ) → q ≢ id → copy_at n q ≡ copy_at d q) → HasRoomIn room (copy_at n id) → IfSome (copy_at d id) (λ held. room ≡ changes_in (store_at d held.store))
    → (q : ℕ) → IfSome (copy_at n q) (λ held. changes_in (store_at d held.store) + held.expected ≤ held.states.reserved)
room-one d n id more room sound e others has is q = ⊎_elim
    (λ (same : q ≡ id). subst (λ (x : ℕ). IfSome (copy_at n x) (λ held. changes_in (store_at d held.store) + held.expected ≤ held.states.reserved)) (sym same)
    (room-expected d (copy_at d id) (copy_at n id) more room e has is))
    (λ (ne : q ≢ id). subst (λ (o : Option Held). IfSome o (λ held. changes_in (store_at d held.store) + held.expected ≤ held.states.reserved)) (sym (others q ne)) (sound.room q))
    (cases_eq q id)

-- the same where no copy changed
pub room-same : (d n : DirectoryView) → IsSound d → ((q : ℕ) → copy_at n q ≡ copy_at d q)
    → (q : ℕ) → IfSome (copy_at n q) (λ held. changes_in (store_at d held.store) + held.expected ≤ held.states.reserved)
room-same d n sound each q = subst (λ (o : Option Held). IfSome o (λ held. changes_in (store_at d held.store) + held.expected ≤ held.states.reserved)) (sym (each q)) (sound.room q)

-- every copy expects more, where one of them does
pub expects-one : (d n : DirectoryView) (id more : ℕ) → ExpectsMore more (copy_at d id) (copy_at n id)
    → ((q : ℕ) → q ≢ id → copy_at n q ≡ copy_at d q) → (q : ℕ) → (k : ℕ) × ExpectsMore k (copy_at d q) (copy_at n q)
expects-one d n id more e others q = ⊎_elim
    (λ (same : q ≡ id). subst (λ (x : ℕ). (k : ℕ) × ExpectsMore k (copy_at d x) (copy_at n x)) (sym same) (more, e))
    (λ (ne : q ≢ id). (0, subst (λ (o : Option Held). ExpectsMore 0 (copy_at d q) o) (sym (others q ne)) (expects-none (copy_at d q))))
    (cases_eq q id)

module _ (d n : DirectoryView) (made : MakesRoom d n) where
  cells_same : (q : ℕ) → cells_of_copy n q ≡ cells_of_copy d q
  cells_same q = ap (λ x. block_of x q) made.spaces.memories

  store_same : (t : ℕ) → store_at n t ≡ store_at d t
  store_same t = ap (λ (x : List (ℕ × StoreView)). store_of x t) made.stores

  homes : (q : ℕ) → home_in (copy_at n q) ≡ home_in (copy_at d q)
  homes q = (made.copies q).1.home

  states : (q i : ℕ) → state_in (copy_at n q) i ≡ state_in (copy_at d q) i
  states q i = (made.copies q).1.states i

  some_before : (q : ℕ) → IsSome (copy_at n q) → IsSome (copy_at d q)
  some_before q some = some_home (copy_at n q) (copy_at d q) (homes q) some

  coherent : AreCoherent (copy_at d) (cells_of_copy d) → AreCoherent (copy_at n) (cells_of_copy n)
  coherent h = record {
    single = λ j k i s a b. h.single j k i (ap home_store (sym (homes j)) ∙ s ∙ ap home_store (homes k)) (sym (states j i) ∙ a) (sym (states k i) ∙ b);
    equal = λ j k i s a r. ap (λ o. cell_in o i) (cells_same k)
        ∙ h.equal j k i (ap home_store (sym (homes j)) ∙ s ∙ ap home_store (homes k)) (sym (states j i) ∙ a) (λ e. r (states k i ∙ e))
        ∙ ap (λ o. cell_in o i) (sym (cells_same j));
  }

  mails_roomed : IsSound d → (k : ℕ) → IfSome (mail_at n k) (IsMail n.spaces.memories.next n.next (copy_at n) (cells_of_copy n))
  mails_roomed sound k = subst (λ (o : Option Mail). IfSome o (IsMail n.spaces.memories.next n.next (copy_at n) (cells_of_copy n))) (sym (made.messages.mails k))
      (all (mail_at d k) (sound.mailed.mails k))
    where
      all : (o : Option Mail) → IfSome o (IsMail d.spaces.memories.next d.next (copy_at d) (cells_of_copy d)) → IfSome o (IsMail n.spaces.memories.next n.next (copy_at n) (cells_of_copy n))
      all None is = tt
      all (Some mail) is = mail-on d n mail (omega (arith, ap (λ (x : MemoriesView). x.next) made.spaces.memories)) (omega (arith, made.next)) (λ there. homes mail.target)
          (λ q i store own above below. record {
            at = q;
            store = ap home_store (sym (homes q));
            owns = sym (states q i) ∙ own;
            cell = ap (λ o. cell_in o i) (sym (cells_same q));
          })
          is

  mailed : IsSound d → d.aside ≤ n.aside → AreMailed n
  mailed sound aside = record {
    mails = mails_roomed sound;
    steps = omega (arith, sound.mailed.steps, made.messages.flying, aside);
    deliveries = λ q some. omega (arith, sound.mailed.deliveries q (some_before q some), made.messages.flying_each q, (made.copies q).1.expected);
    unsent = λ q above. omega (arith, sound.mailed.unsent q (subst (λ (x : MemoriesView). x.next ≤ q) made.spaces.memories above), made.messages.flying_each q);
  }

  reshapes : IsSound d → ((q : ℕ) → IfSome (copy_at n q) (λ held. changes_in (store_at d held.store) + held.expected ≤ held.states.reserved)) → Reshapes d n
  reshapes sound room = record {
    homes = homes;
    fit = λ q. (made.copies q).1.fit (sound.fit q);
    room = λ q. subst (λ (x : List (ℕ × StoreView)). IfSome (copy_at n q) (λ held. changes_in (store_of x held.store) + held.expected ≤ held.states.reserved)) (sym made.stores) (room q);
    listed = λ t. ap copies_in (store_same t);
    tiles = λ t. subst (λ (o : Option StoreView). IfSome o HasTile) (sym (store_same t)) (sound.tiles t);
    lens = lens_same d n store_same;
    absent = λ t none. store_same t ∙ none;
    lines = λ t line is. subst (λ (o : Option StoreView). IfSome o (λ store. IsSomeAnd line (IsLineOf store))) (sym (store_same t)) is;
    blocks = λ q. ap block_home (cells_same q);
    whole = λ q. subst (λ (o : Option BlockView). IfSome o IsWhole) (sym (cells_same q)) (sound.whole q);
    next = made.next;
    next_copy = ap (λ (x : MemoriesView). x.next) made.spaces.memories;
    ranks = ap (λ (x : MemoriesView). x.ranks) made.spaces.memories;
    capacity = ap (λ (x : MemoriesView). x.capacity) made.spaces.memories;
    used = λ space. ap (λ x. used_of x space) made.spaces.memories;
  }

  -- each copy has room for what it expects, and the journal for what is ready and aside
  pub sound-roomed : IsSound d → ((q : ℕ) → IfSome (copy_at n q) (λ held. changes_in (store_at d held.store) + held.expected ≤ held.states.reserved))
      → d.aside ≤ n.aside → n.ready + n.aside ≤ n.spaces.journal.spare → IsSound n
  sound-roomed sound room aside ready = sound-reshaped d n sound (reshapes sound room) (coherent sound.coherent) (mailed sound aside)
      (omega (arith, sound.owed, made.owed, made.ready)) ready

  pub like-roomed : (m : Machine) → IsLike m d → IsLike m n
  like-roomed m l = record {
    memory = subst (λ (x : MemoriesView). IsSomeAnd m.memory (λ line. (line.ranks ≡ x.ranks) × (line.capacity ≡ x.capacity))) (sym made.spaces.memories) l.memory;
    stores = λ t. subst (λ (o : Option StoreView). IfSome o (λ store. IsSomeAnd (m.stores t) (IsLineOf store))) (sym (store_same t)) (l.stores t);
    new_stores = λ t above. l.new_stores t (omega (arith, above, made.next));
    copies = λ q. l.copies q ∙ sym (homes q);
    new_copies = λ q above. l.new_copies q (subst (λ (x : MemoriesView). x.next ≤ q) made.spaces.memories above);
    marks = λ q i some. l.marks q i (some_before q some) ∙ ap mark_of (sym (states q i));
    cells = λ q i readable. l.cells q i (λ e. readable (states q i ∙ e)) ∙ ap (λ o. cell_in o i) (sym (cells_same q));
    used = λ space some. l.used space some ∙ ap (λ x. used_of x space) (sym made.spaces.memories);
    messages = like-mail-same m.messages m.copies d n l.messages made.messages.mails made.messages.next (omega (arith, ap (λ (x : MemoriesView). x.next) made.spaces.memories));
  }

  -- no room was lost
  pub keeps-roomed : d.messages.room ≤ n.messages.room → d.messages.cells ≤ n.messages.cells → d.aside ≤ n.aside → KeepsSends d n
  keeps-roomed room len aside to cells has = record {
    messages = omega (arith, has.messages, room);
    cells = omega (arith, has.cells, len);
    steps = omega (arith, has.steps, made.messages.flying, aside);
    deliveries = λ q some. omega (arith, has.deliveries q (some_before q some), made.messages.flying_each q, (made.copies q).1.expected);
  }

  -- there is room for a message more to each of these copies, with so many cells in all
  pub adds-sends : (ids : List ℕ) (len : ℕ) → ((q : ℕ) → IsSome (copy_at n q) → expected_in (copy_at d q) + count_in q ids ≤ expected_in (copy_at n q))
      → d.messages.room + length ids ≤ n.messages.room → d.messages.cells + len ≤ n.messages.cells → d.aside + (length ids + length ids) ≤ n.aside
      → AddsSends d n ids len
  adds-sends ids len expected room all aside to cells has = record {
    messages = omega (arith, has.messages, room, length-append ids to);
    cells = omega (arith, has.cells, all);
    steps = omega (arith, has.steps, made.messages.flying, aside, length-append ids to);
    deliveries = λ q some. omega (arith, has.deliveries q (some_before q some), made.messages.flying_each q, expected q some, sum_by-append (λ k. if k == q then 1 else 0) ids to);
  }

-- one copy expects messages more, and has the room for them
pub sound-expected : (d n : DirectoryView) (id more room : ℕ) → IsSound d → n ≡ record d { copies = n.copies } → ExpectsMore more (copy_at d id) (copy_at n id)
    → ((q : ℕ) → q ≢ id → copy_at n q ≡ copy_at d q) → HasRoomIn room (copy_at n id) → IfSome (copy_at d id) (λ held. room ≡ changes_in (store_at d held.store)) → IsSound n
sound-expected d n id more room sound same e others has is = sound-roomed d n (makes-copies d n same (expects-one d n id more e others)) sound
    (room-one d n id more room sound e others has is)
    (omega (arith, ap (λ (x : DirectoryView). x.aside) same))
    (omega (arith, sound.ready, ap (λ (x : DirectoryView). x.ready) same, ap (λ (x : DirectoryView). x.aside) same, ap (λ (x : DirectoryView). x.spaces.journal.spare) same))

-- the same copies are kept in another list
pub sound-listed : (d n : DirectoryView) → IsSound d → n ≡ record d { copies = n.copies } → ((q : ℕ) → copy_at n q ≡ copy_at d q) → IsSound n
sound-listed d n sound same each = sound-roomed d n (makes-copies d n same (expects-same d n each)) sound (room-same d n sound each)
    (omega (arith, ap (λ (x : DirectoryView). x.aside) same))
    (omega (arith, sound.ready, ap (λ (x : DirectoryView). x.ready) same, ap (λ (x : DirectoryView). x.aside) same, ap (λ (x : DirectoryView). x.spaces.journal.spare) same))

-- steps are set aside for which the journal has room
pub sound-aside : (d n : DirectoryView) → IsSound d → n ≡ record d { spaces = n.spaces; aside = n.aside } → Stays d.spaces n.spaces d.spaces.named
    → d.aside ≤ n.aside → d.ready + n.aside ≤ n.spaces.journal.spare → IsSound n
sound-aside d n sound same spaces more fits = sound-roomed d n (makes-aside d n same spaces) sound
    (room-same d n sound (λ q. ap (λ (x : DirectoryView). copy_at x q) same)) more (omega (arith, fits, ap (λ (x : DirectoryView). x.ready) same))

-- the messages have more room
pub sound-messages : (d n : DirectoryView) → IsSound d → n ≡ record d { messages = n.messages } → IsSame d.messages n.messages → IsSound n
sound-messages d n sound same messages = sound-roomed d n (makes-messages d n same messages) sound
    (room-same d n sound (λ q. ap (λ (x : DirectoryView). copy_at x q) same))
    (omega (arith, ap (λ (x : DirectoryView). x.aside) same))
    (omega (arith, sound.ready, ap (λ (x : DirectoryView). x.ready) same, ap (λ (x : DirectoryView). x.aside) same, ap (λ (x : DirectoryView). x.spaces.journal.spare) same))

-- room in the messages and aside was made first, and then in the copies
pub adds-each : (a b n : DirectoryView) (ids : List ℕ) (len : ℕ) → MakesRoom a b → MakesRoom b n
    → ((q : ℕ) → ExpectsMore (count_in q ids) (copy_at b q) (copy_at n q)) → n.messages ≡ b.messages → n.aside ≡ b.aside
    → a.messages.room + length ids ≤ b.messages.room → a.messages.cells + len ≤ b.messages.cells → a.aside + (length ids + length ids) ≤ b.aside
    → AddsSends a n ids len
adds-each a b n ids len x y each messages aside room all steps = adds-sends a n (makes-trans a b n x y) ids len
    (λ q some. omega (arith, (x.copies q).1.expected, (each q).expected))
    (omega (arith, room, ap (λ (v : MessagesView). v.room) messages))
    (omega (arith, all, ap (λ (v : MessagesView). v.cells) messages))
    (omega (arith, steps, aside))
