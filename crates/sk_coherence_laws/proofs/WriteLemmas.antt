-- A write keeps that no index has two owners, and that a cell that may be read is the owner's.
use Rattle.std.proofs.Common.{◌≡◌, ◌≢◌, ℕ, ℤ, ◌<◌, ◌≤◌, List, Option, ⊎_elim, inl, inr, sym, subst, ◌∙◌, ap, ◌⊎◌}
use Rattle.std.proofs.lemmas.Bool.{cases_eq, cases_lt}
use Rattle.sk_ranges.specs.declared.state.State.TheVariants.{Stale, Owner}
use Rattle.sk_spaces.specs.Blocks.{BlockView}
use Rattle.sk_copy_states.specs.declared.held.Held.{Held}
use Rattle.sk_copy_states.specs.Copies.{OwnsAlone, home_in, state_in, cell_in, home_store, store_in}
use Rattle.sk_coherence_laws.specs.Directory.{AreCoherent}
use Rattle.sk_coherence_laws.specs.Writes.{WritesIn}
use Rattle.sk_coherence_laws.proofs.StateLemmas.{same_store, stale_not_owner}

module _ (old new : ℕ → Option Held) (cells after : ℕ → Option BlockView) (c lo hi : ℕ) (xs : List ℤ)
    (w : OwnsAlone old new c lo hi) (v : WritesIn (cell_in (cells c)) (cell_in (after c)) lo hi xs)
    (kept : (q : ℕ) → q ≢ c → after q ≡ cells q) where
  pub homes : (q : ℕ) → home_in (new q) ≡ home_in (old q)
  homes q = ⊎_elim
      (λ (e : q ≡ c). subst (λ (x : ℕ). home_in (new x) ≡ home_in (old x)) (sym e) w.own.home)
      (λ (ne : q ≢ c). ⊎_elim
      (λ (same : store_in (old q) ≡ store_in (old c)). (w.fellows q ne same).home)
      (λ (other : store_in (old q) ≢ store_in (old c)). ap home_in (w.others q other))
      (same_store (store_in (old q)) (store_in (old c))))
      (cases_eq q c)

  pub owner_now : (q i : ℕ) → lo ≤ i → i < hi → state_in (new q) i ≡ Owner → (q ≡ c) ⊎ (store_in (old q) ≢ store_in (old c))
  owner_now q i above below own = ⊎_elim
      (λ (e : q ≡ c). inl e)
      (λ (ne : q ≢ c). ⊎_elim
      (λ (same : store_in (old q) ≡ store_in (old c)). absurd (stale_not_owner (sym ((w.fellows q ne same).states.inside i above below) ∙ own)))
      (λ (other : store_in (old q) ≢ store_in (old c)). inr other)
      (same_store (store_in (old q)) (store_in (old c))))
      (cases_eq q c)

  pub state_outside : (q i : ℕ) → (i < lo) ⊎ (hi ≤ i) → state_in (new q) i ≡ state_in (old q) i
  state_outside q i out = ⊎_elim
      (λ (e : q ≡ c). subst (λ (x : ℕ). state_in (new x) i ≡ state_in (old x) i) (sym e)
      (⊎_elim (λ (b : i < lo). w.own.states.before i b) (λ (b : hi ≤ i). w.own.states.after i b) out))
      (λ (ne : q ≢ c). ⊎_elim
      (λ (same : store_in (old q) ≡ store_in (old c)).
      ⊎_elim (λ (b : i < lo). (w.fellows q ne same).states.before i b) (λ (b : hi ≤ i). (w.fellows q ne same).states.after i b) out)
      (λ (other : store_in (old q) ≢ store_in (old c)). ap (λ o. state_in o i) (w.others q other))
      (same_store (store_in (old q)) (store_in (old c))))
      (cases_eq q c)

  pub cell_outside : (q i : ℕ) → (i < lo) ⊎ (hi ≤ i) → cell_in (after q) i ≡ cell_in (cells q) i
  cell_outside q i out = ⊎_elim
      (λ (e : q ≡ c). subst (λ (x : ℕ). cell_in (after x) i ≡ cell_in (cells x) i) (sym e)
      (⊎_elim (λ (b : i < lo). v.before i b) (λ (b : hi ≤ i). v.after i b) out))
      (λ (ne : q ≢ c). ap (λ o. cell_in o i) (kept q ne))
      (cases_eq q c)

  of_other : (q i : ℕ) → store_in (old q) ≢ store_in (old c) → state_in (new q) i ≡ state_in (old q) i
  of_other q i other = ap (λ o. state_in o i) (w.others q other)

  cell_of_other : (q i : ℕ) → store_in (old q) ≢ store_in (old c) → cell_in (after q) i ≡ cell_in (cells q) i
  cell_of_other q i other = ap (λ o. cell_in o i) (kept q (λ e. other (ap (λ x. store_in (old x)) e)))

  single_in : AreCoherent old cells → (j k i : ℕ) → store_in (old j) ≡ store_in (old k)
      → state_in (new j) i ≡ Owner → state_in (new k) i ≡ Owner → lo ≤ i → i < hi → j ≡ k
  single_in h j k i s a b above below = ⊎_elim
      (λ (ej : j ≡ c). ⊎_elim
      (λ (ek : k ≡ c). ej ∙ sym ek)
      (λ (ok : store_in (old k) ≢ store_in (old c)). absurd (ok (sym s ∙ ap (λ x. store_in (old x)) ej)))
      (owner_now k i above below b))
      (λ (oj : store_in (old j) ≢ store_in (old c)).
      h.single j k i s (sym (of_other j i oj) ∙ a) (sym (of_other k i (λ e. oj (s ∙ e))) ∙ b))
      (owner_now j i above below a)

  equal_in : AreCoherent old cells → (j k i : ℕ) → store_in (old j) ≡ store_in (old k)
      → state_in (new j) i ≡ Owner → state_in (new k) i ≢ Stale → lo ≤ i → i < hi → cell_in (after k) i ≡ cell_in (after j) i
  equal_in h j k i s a r above below = ⊎_elim
      (λ (ej : j ≡ c). ⊎_elim
      (λ (ek : k ≡ c). ap (λ x. cell_in (after x) i) (ek ∙ sym ej))
      (λ (nk : k ≢ c). absurd (r ((w.fellows k nk (sym s ∙ ap (λ x. store_in (old x)) ej)).states.inside i above below)))
      (cases_eq k c))
      (λ (oj : store_in (old j) ≢ store_in (old c)).
      cell_of_other k i (λ e. oj (s ∙ e))
      ∙ h.equal j k i s (sym (of_other j i oj) ∙ a) (λ e. r (of_other k i (λ f. oj (s ∙ f)) ∙ e))
      ∙ sym (cell_of_other j i oj))
      (owner_now j i above below a)

  pub stores_same : (j k : ℕ) → store_in (new j) ≡ store_in (new k) → store_in (old j) ≡ store_in (old k)
  stores_same j k s = ap home_store (sym (homes j)) ∙ s ∙ ap home_store (homes k)

  single_out : AreCoherent old cells → (j k i : ℕ) → store_in (old j) ≡ store_in (old k)
      → state_in (new j) i ≡ Owner → state_in (new k) i ≡ Owner → (i < lo) ⊎ (hi ≤ i) → j ≡ k
  single_out h j k i t a b o = h.single j k i t (sym (state_outside j i o) ∙ a) (sym (state_outside k i o) ∙ b)

  equal_out : AreCoherent old cells → (j k i : ℕ) → store_in (old j) ≡ store_in (old k)
      → state_in (new j) i ≡ Owner → state_in (new k) i ≢ Stale → (i < lo) ⊎ (hi ≤ i) → cell_in (after k) i ≡ cell_in (after j) i
  equal_out h j k i t a r o = cell_outside k i o
      ∙ h.equal j k i t (sym (state_outside j i o) ∙ a) (λ e. r (state_outside k i o ∙ e))
      ∙ sym (cell_outside j i o)

  pub coherent : AreCoherent old cells → AreCoherent new after
  coherent h = record {
    single = λ j k i s a b. let t = stores_same j k s in
        ⊎_elim (λ (x : i < lo). single_out h j k i t a b (inl x))
        (λ (x : lo ≤ i). ⊎_elim (λ (y : i < hi). single_in h j k i t a b x y) (λ (y : hi ≤ i). single_out h j k i t a b (inr y)) (cases_lt i hi))
        (cases_lt i lo);
    equal = λ j k i s a r. let t = stores_same j k s in
        ⊎_elim (λ (x : i < lo). equal_out h j k i t a r (inl x))
        (λ (x : lo ≤ i). ⊎_elim (λ (y : i < hi). equal_in h j k i t a r x y) (λ (y : hi ≤ i). equal_out h j k i t a r (inr y)) (cases_lt i hi))
        (cases_lt i lo);
  }
