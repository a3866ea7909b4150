-- A store that is opened for a container, filled, or closed again.
use Rattle.std.proofs.Common.{◌≡◌, ◌≢◌, ℕ, ℤ, ◌-◌, ◌<◌, ◌≤◌, ◌==◌, ◌&&◌, if◌then◌else◌, Bool, true, false, length, List, replicate, slice_index_or, pos, Option, Some, None, IfSome, IsSome, IsSomeAnd, option_map, Result, Ok, Err, OnOk, OnErr, arith, ⊎_elim, inl, inr, refl, sym, subst, ◌∙◌, ap}
use Rattle.std.proofs.lemmas.Grind.{common_steps}
use Rattle.sk_base.specs.declared.number.Ty.{Ty}
use Rattle.sk_base.specs.Shape.{cells_of, shape_of}
use Rattle.sk_spaces.specs.declared.step.Step.TheVariants as line
use Rattle.sk_spaces.specs.Machine.{do_overlap}
use Rattle.sk_spaces.specs.Memories.{MemoriesView, block_of}
use Rattle.sk_copy_states.specs.declared.held.Held.{Held}
use Rattle.sk_copy_states.specs.Copies.{held_in, home_in, home_store, store_in, state_in, cell_in, pins_in, expected_in}
use Rattle.sk_copy_states.specs.Stores.{StoreView, copies_in, changes_in, len_in, opened}
use Rattle.sk_messages.specs.Messages.{MessagesView, Mail, mail_of, left_of, Spoils}
use Rattle.sk_coherence_laws.specs.Directory.{DirectoryView, copy_at, store_at, cells_of_copy, mail_at, IsSound, IsMail}
use Rattle.sk_coherence_laws.specs.HostBlocks.{home_at}
use Rattle.sk_coherence_laws.specs.Retires.{Closes, IsClosing}
use Rattle.sk_coherence_laws.specs.Serves.{Serves, GrowsAt, WasEvicted, unlisted}
use Rattle.sk_coherence_laws.specs.Steps.{Traces, IsAlloc}
use Rattle.sk_coherence_laws.specs.Traced.{Opens, TracesStep}
use Rattle.sk_coherence_laws.proofs.MailLemmas.{spoilt-between}
use Rattle.sk_coherence_laws.proofs.OpenLemmas.{eq_no}
use Rattle.sk_coherence_laws.proofs.ServesLemmas.{there_or, not_there, grows_same, grows-trans}
use Rattle.sk_coherence_laws.proofs.StateLemmas.{same_store}
use Rattle.sk_coherence_laws.proofs.TracedWrite.{some_home}
use Rattle.sk_coherence_laws.proofs.TracesLemmas.{traces-one, traces-trans, traces-map}
use Rattle.sk_container.specs.declared.faults.ContainerFault.TheVariants as container
use Rattle.sk_container.specs.Cells.{HasCell, IsElse}
use Rattle.sk_container.specs.Changes.{GrowsBut, Writes}
use Rattle.sk_container.specs.Lines.{TracesOne, TracesThen}
use Rattle.sk_container.specs.Made.{Spares, Makes, Undoes, NotesMade, IsTrying, IsMaking, IsNotMade}
use Rattle.sk_container.specs.Smart.{SmartView, Holds}
use Rattle.sk_container.proofs.CellLemmas.{has-served, has-before}

some_nat : (a b : ℕ) → Some a ≡ Some b → a ≡ b
some_nat a b e = cc

-- a copy of a store is there
store_there : (o : Option Held) (s : ℕ) → store_in o ≡ Some s → IsSome o
store_there None s is = cc
store_there (Some held) s is = refl

no_store : (o : Option Held) (s : ℕ) → o ≡ None → store_in o ≡ Some s → ⊥
no_store None s none is = cc
no_store (Some held) s none is = cc

-- a copy that was there of a store, with the same cells
has_same : (d n : DirectoryView) (s i : ℕ) (x : ℤ) (h : HasCell d s i x) → copy_at n h.at ≡ copy_at d h.at → cells_of_copy n h.at ≡ cells_of_copy d h.at → HasCell n s i x
has_same d n s i x h copy cells = record {
  at = h.at;
  store = ap store_in copy ∙ h.store;
  owns = ap (λ o. state_in o i) copy ∙ h.owns;
  cell = ap (λ o. cell_in o i) cells ∙ h.cell;
}

apart_from_none : (lo hi : ℕ) → do_overlap 0 0 lo hi ≡ false
apart_from_none lo hi = grind arith

left_by_none : (s : ℕ) (o : Option Mail) → o ≡ left_of s 0 0 o
left_by_none s None = refl
left_by_none s (Some mail) = by (mail.store == s) (do_overlap 0 0 mail.lo mail.hi) (apart_from_none mail.lo mail.hi)
  where
    by : (t u : Bool) → u ≡ false → Some mail ≡ (if t && u then None else Some mail)
    by false u e = refl
    by true false e = refl
    by true true e = cc

-- no message is spoilt over no indices
pub spoilt-none : (old new : MessagesView) (s : ℕ) → new ≡ old → Spoils old new s 0 0
spoilt-none old new s same = subst (λ (x : MessagesView). Spoils old x s 0 0) (sym same) (record {
  left = λ number. left_by_none s (mail_of old number);
  next = refl;
  flying = omega arith;
  flying_each = λ copy. omega arith;
  room = refl;
  cells = refl;
})

-- no message that is in flight is over a store that was not opened
mails-new : (a n : DirectoryView) (s lo hi : ℕ) → IsSound a → s ≡ a.next → Spoils a.messages n.messages s lo hi → (number : ℕ) → mail_at n number ≡ mail_at a number
mails-new a n s lo hi sound next spoilt number = spoilt.left number ∙ on (mail_at a number) (sound.mailed.mails number)
  where
    on : (o : Option Mail) → IfSome o (IsMail a.spaces.memories.next a.next (copy_at a) (cells_of_copy a)) → left_of s lo hi o ≡ o
    on None is = refl
    on (Some mail) is =
        let apart : mail.store ≢ s = λ e. omega (arith, e, next, is.given_store) in
        ap (λ (t : Bool). if t && do_overlap lo hi mail.lo mail.hi then None else Some mail) (eq_no mail.store s apart)

mails-kept : (a n : DirectoryView) → n.messages ≡ a.messages → (number : ℕ) → mail_at n number ≡ mail_at a number
mails-kept a n same number = ap (λ (x : MessagesView). mail_of x number) same

-- no copy is one of the next store
module _ (a : DirectoryView) (sound : IsSound a) where
  unlisted_next : (o : Option StoreView) (k : ℕ) → o ≡ None → k < length (copies_in o) → ⊥
  unlisted_next None k none is = omega (arith, is)
  unlisted_next (Some store) k none is = cc

  pub not-next : (q : ℕ) → store_in (copy_at a q) ≡ Some a.next → ⊥
  not-next q is = let c = sound.complete a.next q is in unlisted_next (store_at a a.next) c.0 (sound.new_stores a.next (omega arith)) c.1

  -- nothing was done
  pub undoes-none : Undoes a a
  undoes-none = record {
    spares = record {
      stays = λ q there. inl (grows_same a a q refl refl);
      fresh = λ q none some. absurd (not_there (copy_at a q) none some);
      owned = λ t i x other h. h;
      owners = λ t i x other h. h;
      stores = λ t other. refl;
      owed = refl;
      aside = refl;
      next_copy = omega arith;
      ranks = refl;
      capacity = refl;
    };
    mails = λ number. refl;
    messages = (0, spoilt-none a.messages a.messages a.next refl);
    named = refl;
    next = omega arith;
    next_most = omega arith;
    unowned = λ i x h. not-next h.at h.store;
  }

  module _ (b : DirectoryView) (id : ℕ) (store : StoreView) (o : Opens a b id store) where
    copy_open : (q : ℕ) → copy_at b q ≡ copy_at a q
    copy_open q = ap (λ es. held_in es q) o.copies

    cells_open : (q : ℕ) → cells_of_copy b q ≡ cells_of_copy a q
    cells_open q = ap (λ (m : MemoriesView). block_of m q) o.spaces.memories

    back_open : (t i : ℕ) (x : ℤ) → HasCell b t i x → HasCell a t i x
    back_open t i x h = has_same b a t i x h (sym (copy_open h.at)) (sym (cells_open h.at))

    pub spares-open : Spares a b
    spares-open = record {
      stays = λ q there. inl (grows_same a b q (copy_open q) (cells_open q));
      fresh = λ q none some. absurd (not_there (copy_at b q) (copy_open q ∙ none) some);
      owned = λ t i x other h. has_same a b t i x h (copy_open h.at) (cells_open h.at);
      owners = λ t i x other h. back_open t i x h;
      stores = λ t other. ap (option_map unlisted) (o.stores.others t (λ e. other (e ∙ o.number)));
      owed = o.owed;
      aside = o.aside;
      next_copy = omega (arith, ap (λ (m : MemoriesView). m.next) o.spaces.memories);
      ranks = ap (λ (m : MemoriesView). m.ranks) o.spaces.memories;
      capacity = ap (λ (m : MemoriesView). m.capacity) o.spaces.memories;
    }

    pub unowned-open : (i : ℕ) (x : ℤ) → HasCell b a.next i x → ⊥
    unowned-open i x h = let k = back_open a.next i x h in not-next k.at k.store

  module _ (b : DirectoryView) (sp : Spares a b) where
    gone_still : (n : DirectoryView) (q : ℕ) → IsSome (copy_at a q) → WasEvicted a b q
        → (copy_at b q ≡ None → IsSome (copy_at n q) → b.spaces.memories.next ≤ q) → WasEvicted a n q
    gone_still n q there w new = record {
      unpinned = w.unpinned;
      far = w.far;
      gone = ⊎_elim
          (λ (some : IsSome (copy_at n q)). absurd (not_there (copy_at a q) (sound.new_copies q (omega (arith, new w.gone some, sp.next_copy))) there))
          (λ (none : copy_at n q ≡ None). none)
          (there_or (copy_at n q));
    }

    evicted_on : (n : DirectoryView) (q : ℕ) → GrowsAt a b q → WasEvicted b n q → WasEvicted a n q
    evicted_on n q g w = record {
      unpinned = sym g.pins ∙ w.unpinned;
      far = subst (λ (o : Option Rattle.sk_spaces.specs.Machine.Home). IfSome o (λ home. 0 < home.space)) g.home w.far;
      gone = w.gone;
    }

    -- the store that was opened is filled
    module _ (n : DirectoryView) (lo hi : ℕ) (cells : List ℤ) (w : Writes b n a.next lo hi cells) where
      grown : (q : ℕ) → GrowsAt a b q → GrowsBut b n a.next lo hi q → GrowsAt a n q
      grown q g h =
          let out : (i : ℕ) → IsElse a.next lo hi (store_in (copy_at b q)) i = λ i e. absurd (not-next q (sym (ap home_store g.home) ∙ e)) in record {
            home = h.home ∙ g.home;
            pins = h.pins ∙ g.pins;
            expected = h.expected ∙ g.expected;
            readable = λ i r. h.readable i (out i) (g.readable i r);
            cells = λ i r. h.cells i (out i) (g.readable i r) ∙ g.cells i r;
          }

      pub spares-write : Spares a n
      spares-write = let y = w.alters in record {
        stays = λ q there. ⊎_elim
            (λ (g : GrowsAt a b q). ⊎_elim
            (λ (h : GrowsBut b n a.next lo hi q). inl (grown q g h))
            (λ (e : WasEvicted b n q). inr (evicted_on n q g e))
            (y.stays q (some_home (copy_at a q) (copy_at b q) (sym g.home) there)))
            (λ (e : WasEvicted a b q). inr (gone_still n q there e (λ none some. (y.fresh q none some).0)))
            (sp.stays q there);
        fresh = λ q none some. ⊎_elim
            (λ (mid : IsSome (copy_at b q)). let f = sp.fresh q none mid in (
              f.0,
              ⊎_elim (λ (h : GrowsBut b n a.next lo hi q). h.pins ∙ f.1) (λ (e : WasEvicted b n q). absurd (not_there (copy_at n q) e.gone some)) (y.stays q mid),
              ⊎_elim (λ (h : GrowsBut b n a.next lo hi q). h.expected ∙ f.2) (λ (e : WasEvicted b n q). absurd (not_there (copy_at n q) e.gone some)) (y.stays q mid),
            ))
            (λ (mid : copy_at b q ≡ None). let f = y.fresh q mid some in (omega (arith, f.0, sp.next_copy), f.1, f.2))
            (there_or (copy_at b q));
        owned = λ t i x other h. y.owned t i x (λ e. absurd (other (some_nat t a.next e))) (sp.owned t i x other h);
        owners = λ t i x other h. sp.owners t i x other (y.owners t i x (λ e. absurd (other (some_nat t a.next e))) h);
        stores = λ t other. y.stores t ∙ sp.stores t other;
        owed = y.owed ∙ sp.owed;
        aside = y.aside ∙ sp.aside;
        next_copy = omega (arith, sp.next_copy, y.next_copy);
        ranks = y.ranks ∙ sp.ranks;
        capacity = y.capacity ∙ sp.capacity;
      }

    -- it is not filled
    pub spares-serves : (n : DirectoryView) → Serves b n → Spares a n
    spares-serves n y = record {
      stays = λ q there. ⊎_elim
          (λ (g : GrowsAt a b q). ⊎_elim
          (λ (h : GrowsAt b n q). inl (grows-trans a b n q g h))
          (λ (e : WasEvicted b n q). inr (evicted_on n q g e))
          (y.stays q (some_home (copy_at a q) (copy_at b q) (sym g.home) there)))
          (λ (e : WasEvicted a b q). inr (gone_still n q there e (λ none some. (y.fresh q none some).0)))
          (sp.stays q there);
      fresh = λ q none some. ⊎_elim
          (λ (mid : IsSome (copy_at b q)). let f = sp.fresh q none mid in (
            f.0,
            ⊎_elim (λ (h : GrowsAt b n q). h.pins ∙ f.1) (λ (e : WasEvicted b n q). absurd (not_there (copy_at n q) e.gone some)) (y.stays q mid),
            ⊎_elim (λ (h : GrowsAt b n q). h.expected ∙ f.2) (λ (e : WasEvicted b n q). absurd (not_there (copy_at n q) e.gone some)) (y.stays q mid),
          ))
          (λ (mid : copy_at b q ≡ None). let f = y.fresh q mid some in (omega (arith, f.0, sp.next_copy), f.1, f.2))
          (there_or (copy_at b q));
      owned = λ t i x other h. has-served b n t i x y (sp.owned t i x other h);
      owners = λ t i x other h. sp.owners t i x other (has-before b n t i x y h);
      stores = λ t other. y.stores t ∙ sp.stores t other;
      owed = y.owed ∙ sp.owed;
      aside = y.aside ∙ sp.aside;
      next_copy = omega (arith, sp.next_copy, y.next_copy);
      ranks = y.ranks ∙ sp.ranks;
      capacity = y.capacity ∙ sp.capacity;
    }

    -- it is closed again
    module _ (n : DirectoryView) (c : Closes b n a.next) (room : changes_in (store_at b a.next) ≡ 0) where
      copy_left : (q : ℕ) → store_in (copy_at b q) ≢ Some a.next → copy_at n q ≡ copy_at b q
      copy_left q other = c.copies q other

      -- a copy that is left is as it was
      left_same : (q : ℕ) → IsSome (copy_at n q) → copy_at n q ≡ copy_at b q
      left_same q some = ⊎_elim
          (λ (e : store_in (copy_at b q) ≡ Some a.next). absurd (not_there (copy_at n q) (c.gone q e) some))
          (λ (other : store_in (copy_at b q) ≢ Some a.next). c.copies q other)
          (same_store (store_in (copy_at b q)) (Some a.next))

      kept : (q : ℕ) → IsSome (copy_at a q) → GrowsAt a b q → GrowsAt a n q
      kept q there g =
          let same : copy_at n q ≡ copy_at b q = c.copies q (λ e. not-next q (sym (ap home_store g.home) ∙ e)) in
          let some : IsSome (copy_at n q) = some_home (copy_at a q) (copy_at n q) (sym (ap home_in same ∙ g.home)) there in
          grows-trans a b n q g (grows_same b n q same (c.cells q some))

      back_left : (t i : ℕ) (x : ℤ) → HasCell n t i x → HasCell b t i x
      back_left t i x h =
          let some = store_there (copy_at n h.at) t h.store in has_same n b t i x h (sym (left_same h.at some)) (sym (c.cells h.at some))

      on_left : (t i : ℕ) (x : ℤ) → t ≢ a.next → HasCell b t i x → HasCell n t i x
      on_left t i x other h =
          let same : copy_at n h.at ≡ copy_at b h.at = c.copies h.at (λ e. other (some_nat t a.next (sym h.store ∙ e))) in
          has_same b n t i x h same (c.cells h.at (store_there (copy_at n h.at) t (ap store_in same ∙ h.store)))

      pub spares-close : Spares a n
      spares-close = record {
        stays = λ q there. ⊎_elim
            (λ (g : GrowsAt a b q). inl (kept q there g))
            (λ (e : WasEvicted a b q). inr (record {
              unpinned = e.unpinned;
              far = e.far;
              gone = c.copies q (λ is. no_store (copy_at b q) a.next e.gone is) ∙ e.gone;
            }))
            (sp.stays q there);
        fresh = λ q none some. let same = left_same q some in
            let f = sp.fresh q none (subst (λ (o : Option Held). IsSome o) same some) in (f.0, ap pins_in same ∙ f.1, ap expected_in same ∙ f.2);
        owned = λ t i x other h. on_left t i x other (sp.owned t i x other h);
        owners = λ t i x other h. sp.owners t i x other (back_left t i x h);
        stores = λ t other. ap (option_map unlisted) (c.stores t other) ∙ sp.stores t other;
        owed = omega (arith, c.owed, room, sp.owed);
        aside = c.aside ∙ sp.aside;
        next_copy = omega (arith, sp.next_copy, c.next_copy);
        ranks = c.ranks ∙ sp.ranks;
        capacity = c.capacity ∙ sp.capacity;
      }

      pub unowned-close : (i : ℕ) (x : ℤ) → HasCell n a.next i x → ⊥
      unowned-close i x h =
          let some = store_there (copy_at n h.at) a.next h.store in
          not_there (copy_at n h.at) (c.gone h.at (sym (ap store_in (left_same h.at some)) ∙ h.store)) some

  -- no store was opened
  pub undoes-served : (n : DirectoryView) → Serves a n → Undoes a n
  undoes-served n y = record {
    spares = spares-serves a undoes-none.spares n y;
    mails = mails-kept a n y.messages;
    messages = (0, spoilt-none a.messages n.messages a.next y.messages);
    named = y.named;
    next = omega (arith, y.next);
    next_most = omega (arith, y.next);
    unowned = λ i x h. undoes-none.unowned i x (has-before a n a.next i x y h);
  }

-- the list of a store that is the same everywhere
module _ (n : DirectoryView) (smart : SmartView) (ty : Ty) (x : ℤ) where
  has_store : (o : Option StoreView) → option_map unlisted o ≡ Some (opened ty smart.shape None) → IsSomeAnd o (λ store. store.shape ≡ smart.shape)
  has_store None is = cc
  has_store (Some store) is = shape_same (unlisted store) (opened ty smart.shape None) is
    where
      shape_same : (s t : StoreView) → Some s ≡ Some t → s.shape ≡ t.shape
      shape_same s t e = cc

  long : (k : ℕ) → length (replicate k x) ≡ k
  long k = grind (arith, common_steps)

  pub holds-filled : option_map unlisted (store_at n smart.store) ≡ Some (opened ty smart.shape None)
      → ((i : ℕ) → 0 ≤ i → i < cells_of smart.shape → HasCell n smart.store i (slice_index_or (replicate (cells_of smart.shape) x) (i - 0) (pos 0)))
      → Holds n smart (replicate (cells_of smart.shape) x)
  holds-filled store has = record {
    store = has_store (store_at n smart.store) store;
    len = long (cells_of smart.shape);
    each = λ i below. let same : i - 0 ≡ i = omega arith in
        subst (λ (k : ℕ). HasCell n smart.store i (slice_index_or (replicate (cells_of smart.shape) x) k (pos 0))) same (has i (omega arith) (omega (arith, below, long (cells_of smart.shape))));
  }

-- cells that are all the same are so many times the same
pub writes-same : (b n : DirectoryView) (id k : ℕ) (cells : List ℤ) (x : ℤ) → cells ≡ replicate k x → Writes b n id 0 (length cells) cells → Writes b n id 0 k (replicate k x)
writes-same b n id k cells x same w =
    let many : length (replicate k x) ≡ k = grind (arith, common_steps) in
    subst (λ (h : ℕ). Writes b n id 0 h (replicate k x)) many (subst (λ (xs : List ℤ). Writes b n id 0 (length xs) xs) same w)

-- there are some of them where there is one
pub some-same : (k : ℕ) (cells : List ℤ) (x : ℤ) → cells ≡ replicate k x → 0 < length cells → 0 < k
some-same k cells x same some =
    let many : length (replicate k x) ≡ k = grind (arith, common_steps) in
    omega (arith, some, ap length same, many)

pub len-same-cells : (k : ℕ) (cells : List ℤ) (x : ℤ) → cells ≡ replicate k x → length cells ≡ k
len-same-cells k cells x same =
    let many : length (replicate k x) ≡ k = grind (arith, common_steps) in
    ap length same ∙ many

-- either way
pub either : {A E P Q C : Type 0} (r : Result A E) → OnOk r P → OnErr r Q → (P → C) → (Q → C) → C
either (Ok x) ok err f g = f ok
either (Err e) ok err f g = g err

room_of : (o : Option StoreView) (store : StoreView) → option_map unlisted o ≡ Some store → changes_in o ≡ store.room
room_of None store is = cc
room_of (Some s) store is = same (unlisted s) store is
  where
    same : (s t : StoreView) → Some s ≡ Some t → s.room ≡ t.room
    same s t e = cc

-- from the opened store on
module _ (a b : DirectoryView) (id : ℕ) (ty : Ty) (shape : List ℕ) (sound : IsSound a) (o : Opens a b id (opened ty shape None)) where
  store_open : option_map unlisted (store_at b id) ≡ Some (opened ty shape None)
  store_open = ap (option_map unlisted) o.stores.here

  pub makes-filled : (n : DirectoryView) (x : ℤ) → 0 < cells_of shape → Writes b n id 0 (cells_of shape) (replicate (cells_of shape) x)
      → Makes a n (record { store = id; shape = shape }) ty x
  makes-filled n x some w =
      let store : option_map unlisted (store_at n id) ≡ Some (opened ty shape None) = w.alters.stores id ∙ store_open in
      let spoilt : Spoils a.messages n.messages id 0 (cells_of shape)
      = spoilt-between a.messages b.messages n.messages n.messages id 0 (cells_of shape) o.messages w.alters.messages refl in record {
        number = o.number;
        next = w.alters.next ∙ o.next;
        store = store;
        holds = holds-filled n (record { store = id; shape = shape }) ty x store w.has;
        spares = spares-write a sound b (spares-open a sound b id (opened ty shape None) o) n 0 (cells_of shape) (replicate (cells_of shape) x)
            (subst (λ (k : ℕ). Writes b n k 0 (cells_of shape) (replicate (cells_of shape) x)) o.number w);
        mails = mails-new a n id 0 (cells_of shape) sound o.number spoilt;
        messages = spoilt;
        filled = λ any. w.alters.named;
        empty = λ none. absurd (omega (arith, some, none));
      }

  pub makes-empty : (x : ℤ) → cells_of shape ≡ 0 → Makes a b (record { store = id; shape = shape }) ty x
  makes-empty x none = record {
    number = o.number;
    next = o.next;
    store = store_open;
    holds = holds-filled b (record { store = id; shape = shape }) ty x store_open (λ i above below. absurd (omega (arith, below, none)));
    spares = spares-open a sound b id (opened ty shape None) o;
    mails = mails-kept a b o.messages;
    messages = subst (λ (k : ℕ). Spoils a.messages b.messages id 0 k) (sym none) (spoilt-none a.messages b.messages id o.messages);
    filled = λ any. absurd (omega (arith, any, none));
    empty = λ same. o.named;
  }

  module _ (m n : DirectoryView) (y : Serves b m) where
    pub undoes-left : Serves m n → Undoes a n
    undoes-left z = record {
      spares = spares-serves a sound m (spares-serves a sound b (spares-open a sound b id (opened ty shape None) o) m y) n z;
      mails = mails-kept a n (z.messages ∙ y.messages ∙ o.messages);
      messages = (0, spoilt-none a.messages n.messages a.next (z.messages ∙ y.messages ∙ o.messages));
      named = z.named ∙ y.named ∙ o.named;
      next = omega (arith, z.next, y.next, o.next);
      next_most = omega (arith, z.next, y.next, o.next);
      unowned = λ i x h. unowned-open a sound b id (opened ty shape None) o i x (has-before b m a.next i x y (has-before m n a.next i x z h));
    }

    pub undoes-closed : Closes m n id → Undoes a n
    undoes-closed c =
        let e : Closes m n a.next = subst (λ (k : ℕ). Closes m n k) o.number c in
        let sp : Spares a m = spares-serves a sound b (spares-open a sound b id (opened ty shape None) o) m y in
        let room : changes_in (store_at m a.next) ≡ 0
        = ap (λ (k : ℕ). changes_in (store_at m k)) (sym o.number) ∙ room_of (store_at m id) (opened ty shape None) (y.stores id ∙ store_open) in
        let spoilt : Spoils a.messages n.messages a.next 0 (len_in (store_at m a.next))
        = spoilt-between a.messages m.messages n.messages n.messages a.next 0 (len_in (store_at m a.next)) (y.messages ∙ o.messages) e.messages refl in
        record {
          spares = spares-close a sound m sp n e room;
          mails = mails-new a n a.next 0 (len_in (store_at m a.next)) sound refl spoilt;
          messages = (len_in (store_at m a.next), spoilt);
          named = c.named ∙ y.named ∙ o.named;
          next = omega (arith, c.next, y.next, o.next);
          next_most = omega (arith, c.next, y.next, o.next);
          unowned = unowned-close a sound m sp n e room;
        }

-- the lines of a store that is filled, with cells that are all the same
pub notes-filled : (a b n : DirectoryView) (id : ℕ) (ty : Ty) (shape : List ℕ) (x : ℤ) (cells : List ℤ) → cells ≡ replicate (cells_of shape) x → 0 < length cells
    → TracesOne (line.Store id ty shape) a b
    → TracesThen (IsAlloc (home_at id 0 0 (length cells))) (λ home. home ≡ home_at id 0 0 (length cells)) (λ copy. line.Fill copy 0 (length cells) x) b n
    → NotesMade a n (record { store = id; shape = shape }) ty x
notes-filled a b n id ty shape x cells same some first filled =
    let many : length (replicate (cells_of shape) x) ≡ cells_of shape = grind (arith, common_steps) in
    let all : length cells ≡ cells_of shape = ap length same ∙ many in
    record {
      opened = b;
      first = first;
      filled = λ any. subst (λ (k : ℕ). TracesThen (IsAlloc (home_at id 0 0 k)) (λ home. home ≡ home_at id 0 0 k) (λ copy. line.Fill copy 0 k x) b n) all filled;
      empty = λ none. absurd (omega (arith, none, all, some));
    }

-- a store that is there with these sizes has so many cells
pub len_unlisted : (o : Option StoreView) (ty : Ty) (shape : List ℕ) → option_map unlisted o ≡ Some (opened ty shape None) → len_in o ≡ cells_of shape
len_unlisted None ty shape is = cc
len_unlisted (Some store) ty shape is = same (unlisted store) (opened ty shape None) is
  where
    same : (s t : StoreView) → Some s ≡ Some t → cells_of s.shape ≡ cells_of t.shape
    same s t e = cc

-- the steps of a container that is not made
module _ (a b m n : DirectoryView) (id len : ℕ) (ty : Ty) (shape : List ℕ) (o : Opens a b id (opened ty shape None)) (opens : TracesStep a b (line.Store id ty shape))
    (all : len ≡ cells_of shape) (served : Serves b m) (fills : Traces (IsAlloc (home_at id 0 0 len)) b m)
    (closes : Traces (IsClosing id (len_in (store_at m id))) m n) where
  cells_left : len_in (store_at m id) ≡ cells_of shape
  cells_left = len_unlisted (store_at m id) ty shape (served.stores id ∙ ap (option_map unlisted) o.stores.here)

  pub traces-undone : Traces (IsTrying a.next ty shape) a n
  traces-undone = subst (λ (k : ℕ). Traces (IsTrying k ty shape) a n) o.number
      (traces-trans (IsTrying id ty shape) a b n
      (traces-one (IsTrying id ty shape) a b (line.Store id ty shape) o.spaces.noted opens (λ m l. inl refl) (λ m l. refl))
      (traces-trans (IsTrying id ty shape) b m n
      (traces-map (IsAlloc (home_at id 0 0 len)) (IsTrying id ty shape) b m (λ m step is. inr (inl (subst (λ (k : ℕ). IsAlloc (home_at id 0 0 k) m step) all is))) fills)
      (traces-map (IsClosing id (len_in (store_at m id))) (IsTrying id ty shape) m n
      (λ k step is. inr (inr (subst (λ (c : ℕ). IsClosing id c k step) cells_left is))) closes)))

-- of a container of these sizes
pub traces-making : (a n : DirectoryView) (ty : Ty) (sizes : List ℤ) (shape : List ℕ) → shape_of sizes ≡ Some shape → Traces (IsTrying a.next ty shape) a n
    → Traces (IsMaking a.next ty sizes) a n
traces-making a n ty sizes shape is x = traces-map (IsTrying a.next ty shape) (IsMaking a.next ty sizes) a n (λ m step trying. (shape, is, trying)) x

-- want of memory, where there is a shape with these sizes
pub not-made : (a n : DirectoryView) (ty : Ty) (sizes : List ℤ) (shape : List ℕ) → shape_of sizes ≡ Some shape → Undoes a n → Traces (IsTrying a.next ty shape) a n
    → IsNotMade a n sizes ty container.Memory
not-made a n ty sizes shape is undoes x = record {
  cause = subst (λ (o : Option (List ℕ)). IsSome o) (sym is) refl;
  early = λ none. absurd (no_shape (shape_of sizes) is none);
  undoes = undoes;
  notes = traces-making a n ty sizes shape is x;
}
  where
    no_shape : (o : Option (List ℕ)) → o ≡ Some shape → o ≡ None → ⊥
    no_shape None some none = cc
    no_shape (Some s) some none = cc
