-- A write of a copy is the machine's write.
use Rattle.std.proofs.Common.{◌≡◌, ◌≢◌, ℕ, ℤ, ◌+◌, ◌-◌, ◌<◌, ◌≤◌, ◌==◌, ◌&&◌, if◌then◌else◌, List, length, slice_index_or, Option, Some, None, IfSome, IsSome, IsSomeAnd, Bool, true, false, pos, arith, ⊎_elim, refl, inl, inr, sym, subst, ◌∙◌, ap, ◌⊎◌}
use Rattle.std.proofs.lemmas.Bool.{cases_eq, cases_lt}
use Rattle.std.specs.Option.{option_map}
use Rattle.sk_ranges.specs.declared.state.State.TheVariants.{Stale, Owner}
use Rattle.sk_spaces.specs.declared.step.Step.{Step}
use Rattle.sk_spaces.specs.Machine.{Machine, Home, CopyState, unused, live, freed, stale, owner, is_copy_of, is_within, writes, writes_at, writes_in, StoreLine}
use Rattle.sk_spaces.specs.Blocks.{written}
use Rattle.sk_spaces.specs.Spaces.{Changes}
use Rattle.sk_spaces.proofs.CopyLemmas.{taken-written}
use Rattle.sk_copy_states.specs.declared.held.Held.{Held}
use Rattle.sk_copy_states.specs.Held.{mark_of}
use Rattle.sk_copy_states.specs.Copies.{OwnsAlone, ReachesIn, home_in, home_store, store_in, state_in, cell_in}
use Rattle.sk_copy_states.specs.Stores.{StoreView, after_write, UsesWrite}
use Rattle.sk_messages.specs.Messages.{Spoils}
use Rattle.sk_coherence_laws.specs.Directory.{DirectoryView, copy_at, store_at, cells_of_copy, IsSound}
use Rattle.sk_coherence_laws.specs.Traced.{IsLike, IsLineOf, live_home}
use Rattle.sk_coherence_laws.proofs.MailLemmas.{like-mail-spoilt}
use Rattle.sk_coherence_laws.proofs.StateLemmas.{same_store}
use Rattle.sk_coherence_laws.proofs.WriteLemmas as write
use Rattle.sk_coherence_laws.proofs.SoundWrite.{values, homes_kept}

-- a live copy is one of its store
pub copy_of : (k : CopyState) (o : Option Held) (s : ℕ) → live_home k ≡ home_in o → store_in o ≡ Some s → is_copy_of s k ≡ true
copy_of k o s same is = of_state k (same) (is)
  where
    of_state : (k : CopyState) → live_home k ≡ home_in o → store_in o ≡ Some s → is_copy_of s k ≡ true
    of_state unused same is = cc
    of_state (live home) same is = let e : home.store ≡ s = grind (arith, ap home_store same, is) in grind (arith, e)
    of_state freed same is = cc

pub not_copy_of : (k : CopyState) (o : Option Held) (s : ℕ) → live_home k ≡ home_in o → store_in o ≢ Some s → is_copy_of s k ≡ false
not_copy_of unused o s same other = refl
not_copy_of (live home) o s same other =
    let ne : home.store ≢ s = λ e. other (sym (ap home_store same) ∙ ap Some e) in grind (arith, ne)
not_copy_of freed o s same other = refl

pub within_yes : (lo hi i : ℕ) → lo ≤ i → i < hi → is_within lo hi i ≡ true
within_yes lo hi i above below = grind arith

pub within_no : (lo hi i : ℕ) → (i < lo) ⊎ (hi ≤ i) → is_within lo hi i ≡ false
within_no lo hi i out = grind arith

line-option : (o : Option StoreView) (m : Option StoreLine) → IfSome o (λ store. IsSomeAnd m (IsLineOf store))
    → IfSome (option_map after_write o) (λ store. IsSomeAnd m (IsLineOf store))
line-option None m is = tt
line-option (Some store) m is = is

pub live_of : (k : CopyState) (o : Option Held) → live_home k ≡ home_in o → IsSome o → (home : Home) × (k ≡ live home) × (home_in o ≡ Some home)
live_of (live home) o same there = (home, refl, sym same)
live_of unused (Some held) same there = cc
live_of freed (Some held) same there = cc
live_of unused None same there = cc
live_of freed None same there = cc

pub some_home : (o p : Option Held) → home_in o ≡ home_in p → IsSome o → IsSome p
some_home (Some a) (Some b) same there = refl
some_home (Some a) None same there = cc
some_home None p same there = cc

eq_yes : (a b : ℕ) → a ≡ b → (a == b) ≡ true
eq_yes a b same = grind (arith, same)

eq_no : (a b : ℕ) → a ≢ b → (a == b) ≡ false
eq_no a b apart = grind (arith, apart)

pub and_yes : (a b : Bool) → a ≡ true → b ≡ true → (a && b) ≡ true
and_yes true true p q = refl
and_yes true false p q = q
and_yes false b p q = p

pub and_no : (a b : Bool) → (a ≡ false) ⊎ (b ≡ false) → (a && b) ≡ false
and_no false b out = refl
and_no true false out = refl
and_no true true out = ⊎_elim (λ (e : true ≡ false). e) (λ (e : true ≡ false). e) out

module _ (d n : DirectoryView) (c lo : ℕ) (xs : List ℤ) (s : ℕ) (step : Step) (sound : IsSound d)
    (of_store : store_in (copy_at d c) ≡ Some s)
    (w : OwnsAlone (copy_at d) (copy_at n) c lo (lo + length xs))
    (ch : Changes d.spaces n.spaces c (option_map (written lo xs) (cells_of_copy d c)) None step)
    (u : UsesWrite d.stores n.stores s)
    (there : IsSome (copy_at d c)) (reaches : ReachesIn (copy_at d c) lo (lo + length xs))
    (m : Machine) (l : IsLike m d) where
  state_after : (q i : ℕ) → (i < lo) ⊎ (lo + length xs ≤ i) → state_in (copy_at n q) i ≡ state_in (copy_at d q) i
  state_after = write.state_outside (copy_at d) (copy_at n) (cells_of_copy d) (cells_of_copy n) c lo (lo + length xs) xs w
      (values d n c lo xs s step sound of_store w ch u there reaches) ch.memories.blocks.others

  homes : (q : ℕ) → home_in (copy_at n q) ≡ home_in (copy_at d q)
  homes = homes_kept d n c lo xs s step sound of_store w ch u there reaches

  some_before : (q : ℕ) → IsSome (copy_at n q) → IsSome (copy_at d q)
  some_before q some = some_home (copy_at n q) (copy_at d q) (homes q) some

  -- the mark of an index that was written
  mark_inside : (q i : ℕ) → lo ≤ i → i < lo + length xs → IsSome (copy_at n q)
      → (writes_in s c lo (lo + length xs) (λ k. slice_index_or xs (k - lo) (pos 0)) m).marks q i ≡ mark_of (state_in (copy_at n q) i)
  mark_inside q i above below some = ⊎_elim
      (λ (same : store_in (copy_at d q) ≡ Some s).
      ap (λ (t : Bool). if t then (if q == c then owner else stale) else m.marks q i)
      (and_yes (is_copy_of s (m.copies q)) (is_within lo (lo + length xs) i) (copy_of (m.copies q) (copy_at d q) s (l.copies q) same) (within_yes lo (lo + length xs) i above below))
      ∙ ⊎_elim
      (λ (e : q ≡ c). ap (λ (t : Bool). if t then owner else stale) (eq_yes q c e)
      ∙ sym (ap mark_of (subst (λ (x : ℕ). state_in (copy_at n x) i ≡ Owner) (sym e) (w.own.states.inside i above below))))
      (λ (ne : q ≢ c). ap (λ (t : Bool). if t then owner else stale) (eq_no q c ne)
      ∙ sym (ap mark_of ((w.fellows q ne (same ∙ sym of_store)).states.inside i above below)))
      (cases_eq q c))
      (λ (other : store_in (copy_at d q) ≢ Some s).
      ap (λ (t : Bool). if t then (if q == c then owner else stale) else m.marks q i)
      (and_no (is_copy_of s (m.copies q)) (is_within lo (lo + length xs) i) (inl (not_copy_of (m.copies q) (copy_at d q) s (l.copies q) other)))
      ∙ l.marks q i (some_before q some) ∙ ap (λ o. mark_of (state_in o i)) (sym (w.others q (λ e. other (e ∙ of_store)))))
      (same_store (store_in (copy_at d q)) (Some s))

  mark_outside : (q i : ℕ) → (i < lo) ⊎ (lo + length xs ≤ i) → IsSome (copy_at n q)
      → (writes_in s c lo (lo + length xs) (λ k. slice_index_or xs (k - lo) (pos 0)) m).marks q i ≡ mark_of (state_in (copy_at n q) i)
  mark_outside q i out some =
      ap (λ (t : Bool). if t then (if q == c then owner else stale) else m.marks q i)
      (and_no (is_copy_of s (m.copies q)) (is_within lo (lo + length xs) i) (inr (within_no lo (lo + length xs) i out)))
      ∙ l.marks q i (some_before q some) ∙ ap mark_of (sym (state_after q i out))

  cell_inside : (q i : ℕ) → lo ≤ i → i < lo + length xs → state_in (copy_at n q) i ≢ Stale
      → (writes_in s c lo (lo + length xs) (λ k. slice_index_or xs (k - lo) (pos 0)) m).cells q i ≡ cell_in (cells_of_copy n q) i
  cell_inside q i above below readable = ⊎_elim
      (λ (e : q ≡ c).
      ap (λ (t : Bool). if t then slice_index_or xs (i - lo) (pos 0) else m.cells q i)
      (and_yes (q == c) (is_within lo (lo + length xs) i) (eq_yes q c e) (within_yes lo (lo + length xs) i above below))
      ∙ sym (subst (λ (x : ℕ). cell_in (cells_of_copy n x) i ≡ slice_index_or xs (i - lo) (pos 0)) (sym e)
      ((values d n c lo xs s step sound of_store w ch u there reaches).inside i above below)))
      (λ (ne : q ≢ c). ap (λ (t : Bool). if t then slice_index_or xs (i - lo) (pos 0) else m.cells q i)
      (and_no (q == c) (is_within lo (lo + length xs) i) (inl (eq_no q c ne)))
      ∙ ⊎_elim
      (λ (same : store_in (copy_at d q) ≡ store_in (copy_at d c)). absurd (readable ((w.fellows q ne same).states.inside i above below)))
      (λ (other : store_in (copy_at d q) ≢ store_in (copy_at d c)).
      l.cells q i (λ e. readable (ap (λ o. state_in o i) (w.others q other) ∙ e)) ∙ ap (λ o. cell_in o i) (sym (ch.memories.blocks.others q ne)))
      (same_store (store_in (copy_at d q)) (store_in (copy_at d c))))
      (cases_eq q c)

  cell_outside : (q i : ℕ) → (i < lo) ⊎ (lo + length xs ≤ i) → state_in (copy_at n q) i ≢ Stale
      → (writes_in s c lo (lo + length xs) (λ k. slice_index_or xs (k - lo) (pos 0)) m).cells q i ≡ cell_in (cells_of_copy n q) i
  cell_outside q i out readable =
      ap (λ (t : Bool). if t then slice_index_or xs (i - lo) (pos 0) else m.cells q i)
      (and_no (q == c) (is_within lo (lo + length xs) i) (inr (within_no lo (lo + length xs) i out)))
      ∙ l.cells q i (λ e. readable (state_after q i out ∙ e))
      ∙ sym (write.cell_outside (copy_at d) (copy_at n) (cells_of_copy d) (cells_of_copy n) c lo (lo + length xs) xs w
      (values d n c lo xs s step sound of_store w ch u there reaches) ch.memories.blocks.others q i out)

  by_place : (P : Type 0) (i : ℕ) → (lo ≤ i → i < lo + length xs → P) → ((i < lo) ⊎ (lo + length xs ≤ i) → P) → P
  by_place P i inside outside = ⊎_elim
      (λ (x : i < lo). outside (inl x))
      (λ (x : lo ≤ i). ⊎_elim (λ (y : i < lo + length xs). inside x y) (λ (y : lo + length xs ≤ i). outside (inr y)) (cases_lt i (lo + length xs)))
      (cases_lt i lo)

  store_line : (t : ℕ) → IfSome (store_at n t) (λ store. IsSomeAnd (m.stores t) (IsLineOf store))
  store_line t = ⊎_elim
      (λ (e : t ≡ s). subst (λ (x : ℕ). IfSome (store_at n x) (λ store. IsSomeAnd (m.stores x) (IsLineOf store))) (sym e)
      (subst (λ (o : Option StoreView). IfSome o (λ store. IsSomeAnd (m.stores s) (IsLineOf store))) (sym u.here) (line-option (store_at d s) (m.stores s) (l.stores s))))
      (λ (ne : t ≢ s). subst (λ (o : Option StoreView). IfSome o (λ store. IsSomeAnd (m.stores t) (IsLineOf store))) (sym (u.others t ne)) (l.stores t))
      (cases_eq t s)

  like_in : n.next ≡ d.next → Spoils d.messages n.messages s lo (lo + length xs)
      → IsLike (writes_in s c lo (lo + length xs) (λ k. slice_index_or xs (k - lo) (pos 0)) m) n
  like_in next spoilt = record {
    memory = subst (λ (r : ℕ). IsSomeAnd m.memory (λ line. (line.ranks ≡ r) × (line.capacity ≡ n.spaces.memories.capacity))) (sym ch.memories.ranks)
        (subst (λ (k : ℕ). IsSomeAnd m.memory (λ line. (line.ranks ≡ d.spaces.memories.ranks) × (line.capacity ≡ k))) (sym ch.memories.capacity) l.memory);
    stores = store_line;
    new_stores = λ t above. l.new_stores t (omega (arith, above, next));
    copies = λ q. l.copies q ∙ sym (homes q);
    new_copies = λ q above. l.new_copies q (omega (arith, above, ch.memories.next));
    marks = λ q i some. by_place ((writes_in s c lo (lo + length xs) (λ k. slice_index_or xs (k - lo) (pos 0)) m).marks q i ≡ mark_of (state_in (copy_at n q) i)) i
        (λ above below. mark_inside q i above below some) (λ out. mark_outside q i out some);
    cells = λ q i readable. by_place ((writes_in s c lo (lo + length xs) (λ k. slice_index_or xs (k - lo) (pos 0)) m).cells q i ≡ cell_in (cells_of_copy n q) i) i
        (λ above below. cell_inside q i above below readable) (λ out. cell_outside q i out readable);
    used = λ space some. l.used space some ∙ sym (omega (arith, ch.memories.used space, taken-written (cells_of_copy d c) space lo xs));
    messages = like-mail-spoilt m.messages m.copies d n s lo (lo + length xs) l.messages spoilt ch.memories.next;
  }

  -- the machine's write leaves what is seen of the directory after the write
  pub like-write : n.next ≡ d.next → Spoils d.messages n.messages s lo (lo + length xs)
      → IsLike (writes c lo (lo + length xs) (λ k. slice_index_or xs (k - lo) (pos 0)) m) n
  like-write next spoilt =
      let t = live_of (m.copies c) (copy_at d c) (l.copies c) there in
      let of : t.0.store ≡ s = grind (arith, ap home_store t.2, of_store) in
      subst (λ (k : CopyState). IsLike (writes_at k c lo (lo + length xs) (λ k. slice_index_or xs (k - lo) (pos 0)) m) n) (sym t.1)
      (subst (λ (x : ℕ). IsLike (writes_in x c lo (lo + length xs) (λ k. slice_index_or xs (k - lo) (pos 0)) m) n) (sym of) (like_in next spoilt))
