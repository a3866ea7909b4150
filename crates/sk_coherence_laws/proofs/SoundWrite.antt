-- A directory is as sound after a write.
use Rattle.std.proofs.Common.{◌≡◌, ◌≢◌, ℕ, ℤ, ◌+◌, ◌-◌, ◌<◌, ◌≤◌, List, length, slice_index, slice_index_or, Option, Some, None, IfSome, IsSome, Bool, true, false, nat_lt, pos, arith, ⊎_elim, refl, inl, inr, sym, subst, ◌∙◌, ap, ◌⊎◌}
use Rattle.std.proofs.lemmas.Bool.{cases_eq, cases_lt}
use Rattle.std.proofs.lemmas.Grind.{common_steps}
use Rattle.std.specs.Option.{option_map}
use Rattle.sk_ranges.specs.declared.state.State.TheVariants.{Owner}
use Rattle.sk_spaces.specs.declared.step.Step.{Step}
use Rattle.sk_spaces.specs.Blocks.{BlockView, IsWhole, Reaches, overwritten, written, cell_of}
use Rattle.sk_spaces.specs.Spaces.{Changes}
use Rattle.sk_copy_states.specs.declared.held.Held.{Held}
use Rattle.sk_copy_states.specs.Held.{IsFit}
use Rattle.sk_copy_states.specs.Copies.{OwnsAlone, ReachesIn, IsReady, home_in, home_store, store_in, state_in, cell_in, expected_in, room_in}
use Rattle.sk_copy_states.specs.Stores.{StoreView, copies_in, changes_in, after_write, UsesWrite, AreRising, HasTile, len_in}
use Rattle.sk_coherence_laws.specs.Directory.{DirectoryView, copy_at, store_at, cells_of_copy, block_home, IsSound}
use Rattle.sk_coherence_laws.specs.Writes.{WritesIn}
use Rattle.sk_messages.specs.Messages.{Spoils}
use Rattle.sk_coherence_laws.specs.Serves.{HasOwner}
use Rattle.sk_coherence_laws.proofs.InsideLemmas.{inside_on}
use Rattle.sk_coherence_laws.proofs.StateLemmas.{same_store}
use Rattle.sk_coherence_laws.proofs.CellLemmas.{over_before, over_inside, over_after}
use Rattle.sk_coherence_laws.proofs.MailLemmas.{mailed-spoilt-so}
use Rattle.sk_coherence_laws.proofs.WriteLemmas as write

-- what a copy has room for
pub ready_of : (d : DirectoryView) (o : Option Held) (s : ℕ) → IfSome o IsFit
    → IfSome o (λ held. changes_in (store_at d held.store) + held.expected ≤ held.states.reserved)
    → store_in o ≡ Some s → 0 < changes_in (store_at d s) → IsReady 1 o
ready_of d None s fit room is some = tt
ready_of d (Some held) s fit room is some =
    let same : held.store ≡ s = grind arith in
    (fit, omega (arith, room, some, ap (λ (x : ℕ). changes_in (store_at d x)) same))

-- each copy of a store with room for a change is ready for it
pub ready_all : (d : DirectoryView) (s : ℕ) → IsSound d → 0 < changes_in (store_at d s)
    → (k : ℕ) → k < length (copies_in (store_at d s)) → IsReady 1 (copy_at d (slice_index (copies_in (store_at d s)) k))
ready_all d s sound some k below = let q = slice_index (copies_in (store_at d s)) k in
    ready_of d (copy_at d q) s (sound.fit q) (sound.room q) (sound.listed s k below) some

-- the numbers of the copies differ
pub distinct_all : (d : DirectoryView) (s : ℕ) → IsSound d → (j k : ℕ) → j < k → k < length (copies_in (store_at d s))
    → slice_index (copies_in (store_at d s)) j ≢ slice_index (copies_in (store_at d s)) k
distinct_all d s sound j k less below same = omega (arith, sound.rising s j k less below, same)

length-over : (xs ys : List ℤ) (at : ℕ) → at + length ys ≤ length xs → length (overwritten xs at ys) ≡ length xs
length-over xs ys at fits = grind (arith, common_steps)

-- a block with a write is as whole
pub whole-written : (b : BlockView) (lo : ℕ) (xs : List ℤ) → IsWhole b → Reaches lo (lo + length xs) b → IsWhole (written lo xs b)
whole-written b lo xs whole reaches =
    let n : length (overwritten b.cells (lo - b.lo) xs) ≡ length b.cells = length-over b.cells xs (lo - b.lo) (omega (arith, whole.cells, reaches.above, reaches.below)) in
    record { ordered = whole.ordered; cells = omega (arith, n, whole.cells) }

-- where a block lies, and that it reaches as far as its copy
pub reaches_block : (o : Option Held) (b : Option BlockView) (lo hi : ℕ) → lo ≤ hi → block_home b ≡ home_in o → ReachesIn o lo hi → IfSome b (Reaches lo hi)
reaches_block o None lo hi ordered tied reaches = tt
reaches_block None (Some b) lo hi ordered tied reaches = cc
reaches_block (Some held) (Some b) lo hi ordered tied reaches =
    let l : b.lo ≡ held.lo = grind arith in
    let h : b.hi ≡ held.hi = grind arith in
    record { above = omega (arith, l, reaches.0); ordered = ordered; below = omega (arith, h, reaches.1) }

pub some_block : (o : Option Held) (b : Option BlockView) → block_home b ≡ home_in o → IsSome o → IsSome b
some_block o (Some b) tied there = refl
some_block (Some held) None tied there = cc
some_block None None tied there = there

-- the cells of a written block by index
module _ (b : BlockView) (lo : ℕ) (xs : List ℤ) (whole : IsWhole b) (reaches : Reaches lo (lo + length xs) b) where
  fits : lo - b.lo + length xs ≤ length b.cells
  fits = omega (arith, whole.cells, reaches.above, reaches.below)

  before_in : (i : ℕ) (t : Bool) → nat_lt i b.lo ≡ t → i < lo → cell_of (written lo xs b) i ≡ cell_of b i
  before_in i true is below = rw is refl
  before_in i false is below =
      let above : b.lo ≤ i = grind (arith, is) in
      rw is (over_before b.cells xs (lo - b.lo) (i - b.lo) fits (omega (arith, above, below)))

  inside_in : (i : ℕ) (t : Bool) → nat_lt i b.lo ≡ t → lo ≤ i → i < lo + length xs
      → cell_of (written lo xs b) i ≡ slice_index_or xs (i - lo) (pos 0)
  inside_in i true is above below = let out : i < b.lo = grind (arith, is) in absurd (omega (arith, out, above, reaches.above))
  inside_in i false is above below =
      let same : i - b.lo - (lo - b.lo) ≡ i - lo = omega (arith, above, reaches.above) in
      rw is (over_inside b.cells xs (lo - b.lo) (i - b.lo) fits (omega (arith, above, reaches.above)) (omega (arith, above, below, reaches.above))
      ∙ ap (λ k. slice_index_or xs k (pos 0)) same)

  after_in : (i : ℕ) (t : Bool) → nat_lt i b.lo ≡ t → lo + length xs ≤ i → cell_of (written lo xs b) i ≡ cell_of b i
  after_in i true is above = rw is refl
  after_in i false is above =
      rw is (over_after b.cells xs (lo - b.lo) (i - b.lo) fits (omega (arith, above, reaches.above)))

  pub writes_in : WritesIn (cell_of b) (cell_of (written lo xs b)) lo (lo + length xs) xs
  writes_in = record {
    before = λ i below. before_in i (nat_lt i b.lo) refl below;
    inside = λ i above below. inside_in i (nat_lt i b.lo) refl above below;
    after = λ i above. after_in i (nat_lt i b.lo) refl above;
  }

pub writes_option : (o p : Option BlockView) (lo : ℕ) (xs : List ℤ) → p ≡ option_map (written lo xs) o → IfSome o IsWhole
    → IfSome o (Reaches lo (lo + length xs)) → IsSome o → WritesIn (cell_in o) (cell_in p) lo (lo + length xs) xs
writes_option None p lo xs is whole reaches there = cc
writes_option (Some b) p lo xs is whole reaches there =
    subst (λ (q : Option BlockView). WritesIn (cell_of b) (cell_in q) lo (lo + length xs) xs) (sym is) (writes_in b lo xs whole reaches)

pub whole-option : (o p : Option BlockView) (lo : ℕ) (xs : List ℤ) → p ≡ option_map (written lo xs) o → IfSome o IsWhole
    → IfSome o (Reaches lo (lo + length xs)) → IfSome p IsWhole
whole-option None p lo xs is whole reaches = subst (λ (q : Option BlockView). IfSome q IsWhole) (sym is) tt
whole-option (Some b) p lo xs is whole reaches = subst (λ (q : Option BlockView). IfSome q IsWhole) (sym is) (whole-written b lo xs whole reaches)

pub home-option : (o : Option BlockView) (lo : ℕ) (xs : List ℤ) → block_home (option_map (written lo xs) o) ≡ block_home o
home-option None lo xs = refl
home-option (Some b) lo xs = refl

copies-option : (o : Option StoreView) → copies_in (option_map after_write o) ≡ copies_in o
copies-option None = refl
copies-option (Some store) = refl

changes-option : (o : Option StoreView) → changes_in (option_map after_write o) ≡ changes_in o - 2
changes-option None = refl
changes-option (Some store) = refl

len-option : (o : Option StoreView) → len_in o ≤ len_in (option_map after_write o)
len-option None = omega arith
len-option (Some store) = omega arith

tile-option : (o : Option StoreView) → IfSome o HasTile → IfSome (option_map after_write o) HasTile
tile-option None is = tt
tile-option (Some store) is = is

pub none_of_home : (o : Option Held) → home_in o ≡ None → o ≡ None
none_of_home None is = refl
none_of_home (Some held) is = cc

-- the store of a copy, from where it lies
store_is : (held : Held) (s : ℕ) → store_in (Some held) ≡ Some s → held.store ≡ s
store_is held s is = grind arith

pub room_same : (d n : DirectoryView) (o p : Option Held) (s : ℕ)
    → IfSome o (λ held. changes_in (store_at d held.store) + held.expected ≤ held.states.reserved)
    → home_in p ≡ home_in o → expected_in p ≡ expected_in o → store_in o ≡ Some s → room_in o ≤ room_in p + 1
    → changes_in (store_at n s) + 1 ≤ changes_in (store_at d s)
    → IfSome p (λ held. changes_in (store_at n held.store) + held.expected ≤ held.states.reserved)
room_same d n o None s room home expected is used less = tt
room_same d n None (Some p) s room home expected is used less = cc
room_same d n (Some o) (Some p) s room home expected is used less =
    let one : o.store ≡ s = store_is o s is in
    let two : p.store ≡ s = store_is p s (ap home_store home ∙ is) in
    omega (arith, room, used, less, expected, ap (λ (x : ℕ). changes_in (store_at d x)) one, ap (λ (x : ℕ). changes_in (store_at n x)) two)

pub room_other : (d n : DirectoryView) (p : Option Held) (s : ℕ)
    → IfSome p (λ held. changes_in (store_at d held.store) + held.expected ≤ held.states.reserved)
    → store_in p ≢ Some s → ((t : ℕ) → t ≢ s → store_at n t ≡ store_at d t)
    → IfSome p (λ held. changes_in (store_at n held.store) + held.expected ≤ held.states.reserved)
room_other d n None s room other same = tt
room_other d n (Some p) s room other same =
    subst (λ (o : Option StoreView). changes_in o + p.expected ≤ p.states.reserved) (sym (same p.store (λ e. other (ap Some e)))) room

module _ (d n : DirectoryView) (c lo : ℕ) (xs : List ℤ) (s : ℕ) (step : Step) (sound : IsSound d)
    (of_store : store_in (copy_at d c) ≡ Some s)
    (w : OwnsAlone (copy_at d) (copy_at n) c lo (lo + length xs))
    (ch : Changes d.spaces n.spaces c (option_map (written lo xs) (cells_of_copy d c)) None step)
    (u : UsesWrite d.stores n.stores s)
    (there : IsSome (copy_at d c)) (reaches : ReachesIn (copy_at d c) lo (lo + length xs)) where
  block_reaches : IfSome (cells_of_copy d c) (Reaches lo (lo + length xs))
  block_reaches = reaches_block (copy_at d c) (cells_of_copy d c) lo (lo + length xs) (omega arith) (sound.tied c) reaches

  pub values : WritesIn (cell_in (cells_of_copy d c)) (cell_in (cells_of_copy n c)) lo (lo + length xs) xs
  values = writes_option (cells_of_copy d c) (cells_of_copy n c) lo xs ch.memories.blocks.here (sound.whole c) block_reaches
      (some_block (copy_at d c) (cells_of_copy d c) (sound.tied c) there)

  pub homes_kept : (q : ℕ) → home_in (copy_at n q) ≡ home_in (copy_at d q)
  homes_kept = write.homes (copy_at d) (copy_at n) (cells_of_copy d) (cells_of_copy n) c lo (lo + length xs) xs w values ch.memories.blocks.others

  stores_kept : (q : ℕ) → store_in (copy_at n q) ≡ store_in (copy_at d q)
  stores_kept q = ap home_store (homes_kept q)

  copies_kept : (t : ℕ) → copies_in (store_at n t) ≡ copies_in (store_at d t)
  copies_kept t = ⊎_elim
      (λ (e : t ≡ s). subst (λ (x : ℕ). copies_in (store_at n x) ≡ copies_in (store_at d x)) (sym e) (ap copies_in u.here ∙ copies-option (store_at d s)))
      (λ (ne : t ≢ s). ap copies_in (u.others t ne))
      (cases_eq t s)

  whole_kept : (q : ℕ) → IfSome (cells_of_copy n q) IsWhole
  whole_kept q = ⊎_elim
      (λ (e : q ≡ c). subst (λ (x : ℕ). IfSome (cells_of_copy n x) IsWhole) (sym e)
      (whole-option (cells_of_copy d c) (cells_of_copy n c) lo xs ch.memories.blocks.here (sound.whole c) block_reaches))
      (λ (ne : q ≢ c). subst (λ (o : Option BlockView). IfSome o IsWhole) (sym (ch.memories.blocks.others q ne)) (sound.whole q))
      (cases_eq q c)

  block_kept : (q : ℕ) → block_home (cells_of_copy n q) ≡ block_home (cells_of_copy d q)
  block_kept q = ⊎_elim
      (λ (e : q ≡ c). subst (λ (x : ℕ). block_home (cells_of_copy n x) ≡ block_home (cells_of_copy d x)) (sym e)
      (ap block_home ch.memories.blocks.here ∙ home-option (cells_of_copy d c) lo xs))
      (λ (ne : q ≢ c). ap block_home (ch.memories.blocks.others q ne))
      (cases_eq q c)

  fit_kept : (q : ℕ) → IfSome (copy_at n q) IsFit
  fit_kept q = ⊎_elim
      (λ (e : q ≡ c). subst (λ (x : ℕ). IfSome (copy_at n x) IsFit) (sym e) (w.own.fit (sound.fit c)))
      (λ (ne : q ≢ c). ⊎_elim
      (λ (same : store_in (copy_at d q) ≡ store_in (copy_at d c)). (w.fellows q ne same).fit (sound.fit q))
      (λ (other : store_in (copy_at d q) ≢ store_in (copy_at d c)). subst (λ (o : Option Held). IfSome o IsFit) (sym (w.others q other)) (sound.fit q))
      (same_store (store_in (copy_at d q)) (store_in (copy_at d c))))
      (cases_eq q c)

  lens_kept : (t : ℕ) → len_in (store_at d t) ≤ len_in (store_at n t)
  lens_kept t = ⊎_elim
      (λ (e : t ≡ s). subst (λ (x : ℕ). len_in (store_at d x) ≤ len_in (store_at n x)) (sym e)
      (subst (λ (o : Option StoreView). len_in (store_at d s) ≤ len_in o) (sym u.here) (len-option (store_at d s))))
      (λ (ne : t ≢ s). omega (arith, ap len_in (u.others t ne)))
      (cases_eq t s)

  tiles_kept : (t : ℕ) → IfSome (store_at n t) HasTile
  tiles_kept t = ⊎_elim
      (λ (e : t ≡ s). subst (λ (x : ℕ). IfSome (store_at n x) HasTile) (sym e)
      (subst (λ (o : Option StoreView). IfSome o HasTile) (sym u.here) (tile-option (store_at d s) (sound.tiles s))))
      (λ (ne : t ≢ s). subst (λ (o : Option StoreView). IfSome o HasTile) (sym (u.others t ne)) (sound.tiles t))
      (cases_eq t s)

  changes_less : 0 < changes_in (store_at d s) → changes_in (store_at n s) + 1 ≤ changes_in (store_at d s)
  changes_less some = omega (arith, ap changes_in u.here ∙ changes-option (store_at d s), some)

  room_kept : 0 < changes_in (store_at d s) → (q : ℕ) → IfSome (copy_at n q) (λ held. changes_in (store_at n held.store) + held.expected ≤ held.states.reserved)
  room_kept some q = ⊎_elim
      (λ (e : q ≡ c). subst (λ (x : ℕ). IfSome (copy_at n x) (λ held. changes_in (store_at n held.store) + held.expected ≤ held.states.reserved)) (sym e)
      (room_same d n (copy_at d c) (copy_at n c) s (sound.room c) (homes_kept c) w.own.expected of_store w.own.room (changes_less some)))
      (λ (ne : q ≢ c). ⊎_elim
      (λ (same : store_in (copy_at d q) ≡ store_in (copy_at d c)).
      room_same d n (copy_at d q) (copy_at n q) s (sound.room q) (homes_kept q) (w.fellows q ne same).expected (same ∙ of_store) (w.fellows q ne same).room (changes_less some))
      (λ (other : store_in (copy_at d q) ≢ store_in (copy_at d c)).
      room_other d n (copy_at n q) s
      (subst (λ (o : Option Held). IfSome o (λ held. changes_in (store_at d held.store) + held.expected ≤ held.states.reserved)) (sym (w.others q other)) (sound.room q))
      (λ e. other (sym (stores_kept q) ∙ e ∙ sym of_store)) u.others)
      (same_store (store_in (copy_at d q)) (store_in (copy_at d c))))
      (cases_eq q c)

  expected_kept : (q : ℕ) → expected_in (copy_at n q) ≡ expected_in (copy_at d q)
  expected_kept q = ⊎_elim
      (λ (e : q ≡ c). subst (λ (x : ℕ). expected_in (copy_at n x) ≡ expected_in (copy_at d x)) (sym e) w.own.expected)
      (λ (ne : q ≢ c). ⊎_elim
      (λ (same : store_in (copy_at d q) ≡ store_in (copy_at d c)). (w.fellows q ne same).expected)
      (λ (other : store_in (copy_at d q) ≢ store_in (copy_at d c)). ap expected_in (w.others q other))
      (same_store (store_in (copy_at d q)) (store_in (copy_at d c))))
      (cases_eq q c)

  abbrev WrittenOrOwned : ℕ → ℕ → Type 0
  WrittenOrOwned q i = ((store_in (copy_at n q) ≡ Some s) × (lo ≤ i) × (i < lo + length xs)) ⊎ HasOwner n d q i

  owner_out : (q i : ℕ) → (i < lo) ⊎ (lo + length xs ≤ i) → state_in (copy_at n q) i ≡ Owner → WrittenOrOwned q i
  owner_out q i out own = inr (record {
    at = q;
    store = sym (stores_kept q);
    owns = sym (write.state_outside (copy_at d) (copy_at n) (cells_of_copy d) (cells_of_copy n) c lo (lo + length xs) xs w values ch.memories.blocks.others q i out) ∙ own;
    cell = sym (write.cell_outside (copy_at d) (copy_at n) (cells_of_copy d) (cells_of_copy n) c lo (lo + length xs) xs w values ch.memories.blocks.others q i out);
  })

  owner_in : (q i : ℕ) → lo ≤ i → i < lo + length xs → state_in (copy_at n q) i ≡ Owner → WrittenOrOwned q i
  owner_in q i above below own = ⊎_elim
      (λ (e : q ≡ c). inl (stores_kept q ∙ ap (λ x. store_in (copy_at d x)) e ∙ of_store, above, below))
      (λ (other : store_in (copy_at d q) ≢ store_in (copy_at d c)). inr (record {
        at = q;
        store = sym (stores_kept q);
        owns = sym (ap (λ o. state_in o i) (w.others q other)) ∙ own;
        cell = sym (ap (λ o. cell_in o i) (ch.memories.blocks.others q (λ e. other (ap (λ x. store_in (copy_at d x)) e))));
      }))
      (write.owner_now (copy_at d) (copy_at n) (cells_of_copy d) (cells_of_copy n) c lo (lo + length xs) xs w values ch.memories.blocks.others q i above below own)

  -- an owner has what was written, or what an owner had before
  owner_before : (q i : ℕ) → state_in (copy_at n q) i ≡ Owner → WrittenOrOwned q i
  owner_before q i own = ⊎_elim
      (λ (x : i < lo). owner_out q i (inl x) own)
      (λ (x : lo ≤ i). ⊎_elim
      (λ (y : i < lo + length xs). owner_in q i x y own)
      (λ (y : lo + length xs ≤ i). owner_out q i (inr y) own)
      (cases_lt i (lo + length xs)))
      (cases_lt i lo)

  -- a directory is as sound after a write
  pub sound-write : 0 < changes_in (store_at d s) → 0 < d.owed → n.owed + 1 ≤ d.owed → n.ready ≡ d.ready - 1 → n.next ≡ d.next
      → Spoils d.messages n.messages s lo (lo + length xs) → n.aside ≡ d.aside → IsSound n
  sound-write some owed left less next spoilt aside = record {
    fit = fit_kept;
    whole = whole_kept;
    tied = λ q. block_kept q ∙ sound.tied q ∙ sym (homes_kept q);
    inside = λ q. inside_on d n (home_in (copy_at d q)) (home_in (copy_at n q)) (homes_kept q) lens_kept (sound.inside q);
    listed = λ t k below. let b : k < length (copies_in (store_at d t)) = subst (λ (ids : List ℕ). k < length ids) (copies_kept t) below in
        subst (λ (ids : List ℕ). store_in (copy_at n (slice_index ids k)) ≡ Some t) (sym (copies_kept t))
        (stores_kept (slice_index (copies_in (store_at d t)) k) ∙ sound.listed t k b);
    complete = λ t q is. subst (λ (ids : List ℕ). (k : ℕ) × (k < length ids) × (slice_index ids k ≡ q)) (sym (copies_kept t))
        (sound.complete t q (sym (stores_kept q) ∙ is));
    tiles = tiles_kept;
    rising = λ t. subst AreRising (sym (copies_kept t)) (sound.rising t);
    room = room_kept some;
    owed = omega (arith, left, less, owed, sound.owed);
    ready = omega (arith, less, owed, aside, sound.owed, sound.ready, ch.noted.spare);
    new_copies = λ q above. none_of_home (copy_at n q) (homes_kept q ∙ ap home_in (sound.new_copies q (omega (arith, above, ch.memories.next))));
    new_stores = λ t above. ⊎_elim
        (λ (e : t ≡ s). subst (λ (x : ℕ). store_at n x ≡ None) (sym e)
        (u.here ∙ ap (option_map after_write) (sound.new_stores s (omega (arith, above, e, next)))))
        (λ (ne : t ≢ s). u.others t ne ∙ sound.new_stores t (omega (arith, above, next)))
        (cases_eq t s);
    coherent = write.coherent (copy_at d) (copy_at n) (cells_of_copy d) (cells_of_copy n) c lo (lo + length xs) xs w values ch.memories.blocks.others sound.coherent;
    mailed = mailed-spoilt-so d n s lo (lo + length xs) sound.mailed spoilt aside ch.memories.next next homes_kept expected_kept owner_before;
  }

-- what is true of a name that is there
pub take_named : (o : Option Step) (P : Step → Type 0) → IsSome o → IfSome o P → (step : Step) × (o ≡ Some step) × P step
take_named None P there holds = cc
take_named (Some step) P there holds = (step, refl, holds)
