-- A directory is as sound with one store more, and the machine is like it.
use Rattle.std.proofs.Common.{◌≡◌, ◌≢◌, ℕ, ◌+◌, ◌<◌, ◌≤◌, ◌==◌, if◌then◌else◌, Bool, true, false, List, [], length, slice_index, Option, Some, None, IfSome, IsSome, IsSomeAnd, arith, ⊎_elim, refl, sym, subst, ◌∙◌, ap}
use Rattle.std.proofs.lemmas.Bool.{cases_eq}
use Rattle.sk_base.specs.declared.number.Ty.{Ty}
use Rattle.sk_spaces.specs.declared.step.Step.TheVariants.{Store}
use Rattle.sk_spaces.specs.Machine.{Machine, StoreLine, MemoryLine, replaced}
use Rattle.sk_spaces.specs.Rules.{IsLegal, after}
use Rattle.sk_spaces.specs.Blocks.{BlockView, IsWhole}
use Rattle.sk_spaces.specs.Memories.{block_of, used_of}
use Rattle.sk_copy_states.specs.declared.held.Held.{Held}
use Rattle.sk_copy_states.specs.Held.{IsFit, mark_of}
use Rattle.sk_copy_states.specs.Copies.{held_in, home_in, store_in, state_in, cell_in, expected_in}
use Rattle.sk_copy_states.specs.Stores.{StoreView, copies_in, changes_in, len_in, AreRising, HasTile, opened}
use Rattle.sk_coherence_laws.specs.Directory.{DirectoryView, copy_at, store_at, cells_of_copy, block_home, IsSound}
use Rattle.sk_coherence_laws.specs.Traced.{IsLike, IsLineOf, Opens}
use Rattle.sk_coherence_laws.proofs.InsideLemmas.{inside_on}
use Rattle.sk_coherence_laws.proofs.MailLemmas.{mailed-kept, stays_so, like-mail-kept}

pub some_of : (o : Option MemoryLine) (P : MemoryLine → Type 0) → IsSomeAnd o P → IsSome o
some_of None P holds = absurd holds
some_of (Some line) P holds = refl

pub eq_yes : (a b : ℕ) → a ≡ b → (a == b) ≡ true
eq_yes a b same = grind (arith, same)

pub eq_no : (a b : ℕ) → a ≢ b → (a == b) ≡ false
eq_no a b apart = grind (arith, apart)

pub replaced_here : {A : Type 0} (f : ℕ → A) (k : ℕ) (x : A) (q : ℕ) → q ≡ k → replaced f k x q ≡ x
replaced_here f k x q same = ap (λ (t : Bool). if t then x else f q) (eq_yes q k same)

pub replaced_else : {A : Type 0} (f : ℕ → A) (k : ℕ) (x : A) (q : ℕ) → q ≢ k → replaced f k x q ≡ f q
replaced_else f k x q apart = ap (λ (t : Bool). if t then x else f q) (eq_no q k apart)

none_below : (k : ℕ) → k < 0 → ⊥
none_below k below = omega (arith, below)

store_of_some : (o : Option Held) (t : ℕ) → IfSome o (λ held. held.store ≡ t) → IsSome o → store_in o ≡ Some t
store_of_some (Some held) t is there = ap Some is
store_of_some None t is there = cc

room_open : (d n : DirectoryView) (o : Option Held) (id : ℕ) → changes_in (store_at n id) ≡ 0 → ((t : ℕ) → t ≢ id → store_at n t ≡ store_at d t)
    → IfSome o (λ held. changes_in (store_at d held.store) + held.expected ≤ held.states.reserved)
    → IfSome o (λ held. changes_in (store_at n held.store) + held.expected ≤ held.states.reserved)
room_open d n None id none others room = tt
room_open d n (Some held) id none others room = ⊎_elim
    (λ (e : held.store ≡ id). omega (arith, none, room, ap (λ (x : ℕ). changes_in (store_at n x)) e))
    (λ (ne : held.store ≢ id). subst (λ (o : Option StoreView). changes_in o + held.expected ≤ held.states.reserved) (sym (others held.store ne)) room)
    (cases_eq held.store id)

module _ (d n : DirectoryView) (id : ℕ) (ty : Ty) (shape : List ℕ) (tile : Option ℕ) (o : Opens d n id (opened ty shape tile)) where
  copy_same : (q : ℕ) → copy_at n q ≡ copy_at d q
  copy_same q = ap (λ es. held_in es q) o.copies

  cells_same : (q : ℕ) → cells_of_copy n q ≡ cells_of_copy d q
  cells_same q = ap (λ x. block_of x q) o.spaces.memories

  no_copies : copies_in (store_at n id) ≡ []
  no_copies = ap copies_in o.stores.here

  absent : IsSound d → copies_in (store_at d id) ≡ []
  absent s = ap copies_in (s.new_stores id (omega (arith, o.number)))

  lens_more : IsSound d → (t : ℕ) → len_in (store_at d t) ≤ len_in (store_at n t)
  lens_more s t = ⊎_elim
      (λ (e : t ≡ id). subst (λ (x : ℕ). len_in (store_at d x) ≤ len_in (store_at n x)) (sym e) (none_here s))
      (λ (ne : t ≢ id). omega (arith, ap len_in (o.stores.others t ne)))
      (cases_eq t id)
    where
      none_here : IsSound d → len_in (store_at d id) ≤ len_in (store_at n id)
      none_here s = let none : len_in (store_at d id) ≡ 0 = ap len_in (s.new_stores id (omega (arith, o.number))) in omega (arith, none)

  pub sound-open : IsSound d → IfSome tile (λ tile. 0 < tile) → n.owed ≤ n.ready → n.ready + n.aside ≤ n.spaces.journal.spare → IsSound n
  sound-open s positive owed ready = record {
    fit = λ q. subst (λ (x : Option Held). IfSome x IsFit) (sym (copy_same q)) (s.fit q);
    whole = λ q. subst (λ (x : Option BlockView). IfSome x IsWhole) (sym (cells_same q)) (s.whole q);
    tied = λ q. ap block_home (cells_same q) ∙ s.tied q ∙ ap home_in (sym (copy_same q));
    inside = λ q. inside_on d n (home_in (copy_at d q)) (home_in (copy_at n q)) (ap home_in (copy_same q)) (lens_more s) (s.inside q);
    listed = λ t k below. ⊎_elim
        (λ (e : t ≡ id). absurd (none_below k (subst (λ (ids : List ℕ). k < length ids) no_copies (subst (λ (x : ℕ). k < length (copies_in (store_at n x))) e below))))
        (λ (ne : t ≢ id). ap store_in (copy_same _) ∙ subst (λ (x : Option StoreView). store_in (copy_at d (slice_index (copies_in x) k)) ≡ Some t) (sym (o.stores.others t ne))
        (s.listed t k (subst (λ (x : Option StoreView). k < length (copies_in x)) (o.stores.others t ne) below)))
        (cases_eq t id);
    complete = λ t q is. let before = s.complete t q (ap store_in (sym (copy_same q)) ∙ is) in ⊎_elim
        (λ (e : t ≡ id). absurd (none_below before.0 (subst (λ (ids : List ℕ). before.0 < length ids) (absent s) (subst (λ (x : ℕ). before.0 < length (copies_in (store_at d x))) e before.1))))
        (λ (ne : t ≢ id). subst (λ (x : Option StoreView). (k : ℕ) × (k < length (copies_in x)) × (slice_index (copies_in x) k ≡ q)) (sym (o.stores.others t ne)) before)
        (cases_eq t id);
    rising = λ t. ⊎_elim
        (λ (e : t ≡ id). subst (λ (x : ℕ). AreRising (copies_in (store_at n x))) (sym e) (subst AreRising (sym no_copies) (λ j k less below. absurd (none_below k below))))
        (λ (ne : t ≢ id). subst (λ (x : Option StoreView). AreRising (copies_in x)) (sym (o.stores.others t ne)) (s.rising t))
        (cases_eq t id);
    tiles = λ t. ⊎_elim
        (λ (e : t ≡ id). subst (λ (x : ℕ). IfSome (store_at n x) HasTile) (sym e) (subst (λ (x : Option StoreView). IfSome x HasTile) (sym o.stores.here) positive))
        (λ (ne : t ≢ id). subst (λ (x : Option StoreView). IfSome x HasTile) (sym (o.stores.others t ne)) (s.tiles t))
        (cases_eq t id);
    room = λ q. subst (λ (x : Option Held). IfSome x (λ held. changes_in (store_at n held.store) + held.expected ≤ held.states.reserved)) (sym (copy_same q))
        (room_open d n (copy_at d q) id (ap changes_in o.stores.here) o.stores.others (s.room q));
    owed = owed;
    ready = ready;
    new_copies = λ q above. copy_same q ∙ s.new_copies q (subst (λ x. x.next ≤ q) o.spaces.memories above);
    new_stores = λ t above. o.stores.others t (λ e. omega (arith, above, e, o.next, o.number)) ∙ s.new_stores t (omega (arith, above, o.next));
    coherent = record {
      single = λ j k i same a b. s.coherent.single j k i (ap store_in (sym (copy_same j)) ∙ same ∙ ap store_in (copy_same k))
          (ap (λ x. state_in x i) (sym (copy_same j)) ∙ a) (ap (λ x. state_in x i) (sym (copy_same k)) ∙ b);
      equal = λ j k i same a r. ap (λ x. cell_in x i) (cells_same k)
          ∙ s.coherent.equal j k i (ap store_in (sym (copy_same j)) ∙ same ∙ ap store_in (copy_same k))
          (ap (λ x. state_in x i) (sym (copy_same j)) ∙ a) (λ e. r (ap (λ x. state_in x i) (copy_same k) ∙ e))
          ∙ ap (λ x. cell_in x i) (sym (cells_same j));
    };
    mailed = mailed-kept d n s.mailed o.messages o.aside (omega (arith, ap (λ x. x.next) o.spaces.memories)) (omega (arith, o.next))
        (λ q there. stays_so d n q (ap home_in (copy_same q)) (ap expected_in (copy_same q)) there)
        (λ q i own. record { at = q; store = ap store_in (sym (copy_same q)); owns = ap (λ x. state_in x i) (sym (copy_same q)) ∙ own; cell = ap (λ x. cell_in x i) (sym (cells_same q)) });
  }

  line_in : (m : Machine) → IsLike m d → (t : ℕ) → IfSome (store_at n t) (λ store. IsSomeAnd ((after m (Store id ty shape)).stores t) (IsLineOf store))
  line_in m l t = ⊎_elim
      (λ (e : t ≡ id). subst (λ (x : Option StoreView). IfSome x (λ store. IsSomeAnd (replaced m.stores id (Some (record { ty = ty; shape = shape })) t) (IsLineOf store)))
      (sym (ap (store_at n) e ∙ o.stores.here))
      (subst (λ (x : Option StoreLine). IsSomeAnd x (IsLineOf (opened ty shape tile))) (sym (replaced_here m.stores id (Some (record { ty = ty; shape = shape })) t e)) (refl, refl)))
      (λ (ne : t ≢ id). subst (λ (x : Option StoreLine). IfSome (store_at n t) (λ store. IsSomeAnd x (IsLineOf store))) (sym (replaced_else m.stores id (Some (record { ty = ty; shape = shape })) t ne))
      (subst (λ (x : Option StoreView). IfSome x (λ store. IsSomeAnd (m.stores t) (IsLineOf store))) (sym (o.stores.others t ne)) (l.stores t)))
      (cases_eq t id)

  pub like-open : (m : Machine) → IsLike m d → IsLegal m (Store id ty shape) × IsLike (after m (Store id ty shape)) n
  like-open m l = (
    (some_of m.memory _ l.memory, l.new_stores id (omega (arith, o.number))),
    record {
      memory = subst (λ x. IsSomeAnd m.memory (λ line. (line.ranks ≡ x.ranks) × (line.capacity ≡ x.capacity))) (sym o.spaces.memories) l.memory;
      stores = line_in m l;
      new_stores = λ t above. replaced_else m.stores id (Some (record { ty = ty; shape = shape })) t (λ e. omega (arith, above, e, o.next, o.number)) ∙ l.new_stores t (omega (arith, above, o.next));
      copies = λ q. l.copies q ∙ ap home_in (sym (copy_same q));
      new_copies = λ q above. l.new_copies q (subst (λ x. x.next ≤ q) o.spaces.memories above);
      marks = λ q i some. l.marks q i (subst (λ (x : Option Held). IsSome x) (copy_same q) some) ∙ ap (λ x. mark_of (state_in x i)) (sym (copy_same q));
      cells = λ q i readable. l.cells q i (λ e. readable (ap (λ x. state_in x i) (copy_same q) ∙ e)) ∙ ap (λ x. cell_in x i) (sym (cells_same q));
      used = λ space some. l.used space some ∙ ap (λ x. used_of x space) (sym o.spaces.memories);
      messages = like-mail-kept m.messages m.copies d n l.messages o.messages (ap (λ x. x.next) o.spaces.memories);
    },
  )
