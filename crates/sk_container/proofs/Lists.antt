-- A container is a list: reads and writes are those of the list.
use Rattle.std.proofs.Common.{◌≡◌, ◌≢◌, ℕ, ℤ, ◌+◌, ◌-◌, ◌<◌, ◌≤◌, length, set, slice_index_or, pos, List, [], ◌∷◌, Option, Some, None, IfSome, IsSomeAnd, option_map, Result, Ok, Err, OnOk, OnErr, ◌⊎◌, arith, ⊎_elim, inl, inr, refl, sym, subst, ◌∙◌, ap}
use Rattle.std.proofs.lemmas.Grind.{common_steps}
use Rattle.std.proofs.lemmas.Bool.{cases_eq}
use Rattle.sk_base.specs.Shape.{flat_of}
use Rattle.sk_copy_states.specs.Stores.{StoreView}
use Rattle.sk_coherence_laws.specs.Directory.{DirectoryView, store_at, IsSound}
use Rattle.sk_coherence_laws.specs.Owned.{IsOwned}
use Rattle.sk_coherence_laws.specs.Serves.{Serves, unlisted}
use Rattle.sk_container.specs.Cells.{HasCell, IsElse}
use Rattle.sk_container.specs.Changes.{Alters, Writes}
use Rattle.sk_container.specs.Made.{Spares}
use Rattle.sk_container.specs.Smart.{SmartView, HasStore, Holds, IsHeld}
use Rattle.sk_container.proofs.CellLemmas.{has-one, has-served}
use Rattle.sk_container.proofs.FlatLemmas.{flat_from-below}

shape_same : (s t : StoreView) → Some (unlisted s) ≡ Some (unlisted t) → s.shape ≡ t.shape
shape_same s t e = of (unlisted s) (unlisted t) e
  where
    of : (s t : StoreView) → Some s ≡ Some t → s.shape ≡ t.shape
    of s t e = cc

store_kept : (o p : Option StoreView) (shape : List ℕ) → option_map unlisted p ≡ option_map unlisted o → IsSomeAnd o (λ store. store.shape ≡ shape)
    → IsSomeAnd p (λ store. store.shape ≡ shape)
store_kept None p shape same has = absurd has
store_kept (Some o) None shape same has = cc
store_kept (Some o) (Some p) shape same has = shape_same p o same ∙ has

-- a container stays where its store does
pub has-store : (old new : DirectoryView) (smart : SmartView) → option_map unlisted (store_at new smart.store) ≡ option_map unlisted (store_at old smart.store)
    → HasStore old smart → HasStore new smart
has-store old new smart same has = store_kept (store_at old smart.store) (store_at new smart.store) smart.shape same has

-- the cell of an index is the list's
pub read-held : (d : DirectoryView) (smart : SmartView) (xs : List ℤ) (i : ℕ) (x : ℤ) → IsSound d → Holds d smart xs → i < length xs → HasCell d smart.store i x
    → x ≡ slice_index_or xs i (pos 0)
read-held d smart xs i x sound held inside has = has-one d smart.store i x (slice_index_or xs i (pos 0)) sound has (held.each i inside)

-- a write sets one element of the list
module _ (old new : DirectoryView) (smart : SmartView) (xs : List ℤ) (i : ℕ) (x : ℤ) (held : Holds old smart xs) (w : Writes old new smart.store i (i + 1) (x ∷ [])) where
  long : length (set xs i x) ≡ length xs
  long = grind (arith, common_steps)

  here : i < length xs → slice_index_or (set xs i x) i (pos 0) ≡ x
  here inside = grind (arith, common_steps)

  there : (k : ℕ) → k ≢ i → k < length xs → slice_index_or (set xs i x) k (pos 0) ≡ slice_index_or xs k (pos 0)
  there k other inside = grind (arith, common_steps)

  first : slice_index_or (x ∷ []) (i - i) (pos 0) ≡ x
  first = let none : i - i ≡ 0 = omega arith in ap (λ (k : ℕ). slice_index_or (x ∷ []) k (pos 0)) none

  apart : (k : ℕ) → k ≢ i → IsElse smart.store i (i + 1) (Some smart.store) k
  apart k other same = ⊎_elim (λ (l : k < i). inl l) (λ (h : i + 1 ≤ k). inr h) (sides k i other)
    where
      sides : (k i : ℕ) → k ≢ i → (k < i) ⊎ (i + 1 ≤ k)
      sides k i other = grind arith

  pub write-held : Holds new smart (set xs i x)
  write-held = record {
    store = has-store old new smart (w.alters.stores smart.store) held.store;
    len = long ∙ held.len;
    each = λ k inside. ⊎_elim
        (λ (e : k ≡ i). subst (λ (n : ℕ). HasCell new smart.store n (slice_index_or (set xs i x) n (pos 0))) (sym e)
        (subst (λ (v : ℤ). HasCell new smart.store i v) (first ∙ sym (here (omega (arith, inside, e, long)))) (w.has i (omega arith) (omega arith))))
        (λ (other : k ≢ i). subst (λ (v : ℤ). HasCell new smart.store k v) (sym (there k other (omega (arith, inside, long))))
        (w.alters.owned smart.store k (slice_index_or xs k (pos 0)) (apart k other) (held.each k (omega (arith, inside, long)))))
        (cases_eq k i);
  }

-- every other container keeps its list
pub other-held : (old new : DirectoryView) (s lo hi : ℕ) (smart : SmartView) (xs : List ℤ) → smart.store ≢ s → Alters old new s lo hi → Holds old smart xs → Holds new smart xs
other-held old new s lo hi smart xs other a held = record {
  store = has-store old new smart (a.stores smart.store) held.store;
  len = held.len;
  each = λ k inside. a.owned smart.store k (slice_index_or xs k (pos 0)) (λ e. absurd (other (some_nat smart.store s e))) (held.each k inside);
}
  where
    some_nat : (a b : ℕ) → Some a ≡ Some b → a ≡ b
    some_nat a b e = cc

-- each container keeps its list where copies are made and filled
pub served-held : (old new : DirectoryView) (smart : SmartView) (xs : List ℤ) → Serves old new → Holds old smart xs → Holds new smart xs
served-held old new smart xs v held = record {
  store = has-store old new smart (v.stores smart.store) held.store;
  len = held.len;
  each = λ k inside. has-served old new smart.store k (slice_index_or xs k (pos 0)) v (held.each k inside);
}

-- and where another one is made
pub spared-held : (old new : DirectoryView) (smart : SmartView) (xs : List ℤ) → smart.store ≢ old.next → Spares old new → Holds old smart xs → Holds new smart xs
spared-held old new smart xs other v held = record {
  store = has-store old new smart (v.stores smart.store other) held.store;
  len = held.len;
  each = λ k inside. v.owned smart.store k (slice_index_or xs k (pos 0)) other (held.each k inside);
}

-- an index of a place inside has an owner
pub place-owned : (d : DirectoryView) (smart : SmartView) (place : List ℤ) → IsHeld d smart → IfSome (flat_of smart.shape place) (λ i. IsOwned d smart.store i)
place-owned d smart place held = go (flat_of smart.shape place) refl
  where
    owned : (i : ℕ) → i < length held.0 → IsOwned d smart.store i
    owned i inside = let h = held.1.each i inside in (h.at, h.store, h.owns)

    go : (o : Option ℕ) → flat_of smart.shape place ≡ o → IfSome o (λ i. IsOwned d smart.store i)
    go None is = tt
    go (Some i) is = owned i (omega (arith, flat_from-below 0 smart.shape place i is, held.1.len))

-- a container is held where it was written, or where that was refused
pub held-written : {A E : Type 0} (old new : DirectoryView) (smart : SmartView) (place : List ℤ) (x : ℤ) (r : Result A E)
    → OnOk r (IsSomeAnd (flat_of smart.shape place) (λ i. Writes old new smart.store i (i + 1) (x ∷ []))) → OnErr r (Serves old new)
    → IsHeld old smart → IsHeld new smart
held-written old new smart place x (Ok a) ok err held = go (flat_of smart.shape place) ok
  where
    go : (o : Option ℕ) → IsSomeAnd o (λ i. Writes old new smart.store i (i + 1) (x ∷ [])) → IsHeld new smart
    go None ok = absurd ok
    go (Some i) ok = (set held.0 i x, write-held old new smart held.0 i x held.1 ok)
held-written old new smart place x (Err e) ok err held = (held.0, served-held old new smart held.0 err held.1)
