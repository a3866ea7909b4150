-- Filling a copy keeps that no index has two owners, and that a cell that may be read is the owner's.
use Rattle.std.proofs.Common.{◌≡◌, ◌≢◌, ℕ, ◌<◌, ◌≤◌, Option, ⊎_elim, inl, inr, sym, subst, ◌∙◌, ap, ◌⊎◌}
use Rattle.std.proofs.lemmas.Bool.{cases_eq, cases_lt}
use Rattle.sk_ranges.specs.declared.state.State.TheVariants.{Stale, Valid, Owner}
use Rattle.sk_spaces.specs.Blocks.{BlockView}
use Rattle.sk_copy_states.specs.declared.held.Held.{Held}
use Rattle.sk_copy_states.specs.Copies.{SetsAt, home_in, state_in, cell_in, home_store, store_in}
use Rattle.sk_coherence_laws.specs.Directory.{AreCoherent}
use Rattle.sk_coherence_laws.specs.Moves.{TakesIn}
use Rattle.sk_coherence_laws.proofs.StateLemmas.{valid_not_owner}

-- an index is one of those, or none of them
pub within_or : (P : Type 0) (lo hi i : ℕ) → (lo ≤ i → i < hi → P) → ((i < lo) ⊎ (hi ≤ i) → P) → P
within_or P lo hi i inside outside = ⊎_elim
    (λ (x : i < lo). outside (inl x))
    (λ (x : lo ≤ i). ⊎_elim (λ (y : i < hi). inside x y) (λ (y : hi ≤ i). outside (inr y)) (cases_lt i hi))
    (cases_lt i lo)

module _ (old new : ℕ → Option Held) (cells after : ℕ → Option BlockView) (from to lo hi : ℕ)
    (target : SetsAt (old to) (new to) lo hi Valid) (others : (q : ℕ) → q ≢ to → new q ≡ old q)
    (values : TakesIn (cell_in (cells from)) (cell_in (cells to)) (cell_in (after to)) lo hi)
    (kept : (q : ℕ) → q ≢ to → after q ≡ cells q) where
  pub homes : (q : ℕ) → home_in (new q) ≡ home_in (old q)
  homes q = ⊎_elim
      (λ (e : q ≡ to). subst (λ (x : ℕ). home_in (new x) ≡ home_in (old x)) (sym e) target.home)
      (λ (ne : q ≢ to). ap home_in (others q ne))
      (cases_eq q to)

  -- the copy that is filled at one of the indices, or anything else
  pub by_place : (P : Type 0) (q i : ℕ) → (q ≡ to → lo ≤ i → i < hi → P)
      → (state_in (new q) i ≡ state_in (old q) i → cell_in (after q) i ≡ cell_in (cells q) i → P) → P
  by_place P q i filled kept_so = ⊎_elim
      (λ (e : q ≡ to). within_or P lo hi i (filled e)
      (λ out. kept_so
      (subst (λ (x : ℕ). state_in (new x) i ≡ state_in (old x) i) (sym e) (⊎_elim (λ (b : i < lo). target.states.before i b) (λ (b : hi ≤ i). target.states.after i b) out))
      (subst (λ (x : ℕ). cell_in (after x) i ≡ cell_in (cells x) i) (sym e) (⊎_elim (λ (b : i < lo). values.before i b) (λ (b : hi ≤ i). values.after i b) out))))
      (λ (ne : q ≢ to). kept_so (ap (λ o. state_in o i) (others q ne)) (ap (λ o. cell_in o i) (kept q ne)))
      (cases_eq q to)

  pub state_filled : (q i : ℕ) → q ≡ to → lo ≤ i → i < hi → state_in (new q) i ≡ Valid
  state_filled q i e above below = subst (λ (x : ℕ). state_in (new x) i ≡ Valid) (sym e) (target.states.inside i above below)

  pub cell_filled : (q i : ℕ) → q ≡ to → lo ≤ i → i < hi → cell_in (after q) i ≡ cell_in (cells from) i
  cell_filled q i e above below = subst (λ (x : ℕ). cell_in (after x) i ≡ cell_in (cells from) i) (sym e) (values.inside i above below)

  -- an owner was one before, and has its cell
  pub owner_before : (q i : ℕ) → state_in (new q) i ≡ Owner → (state_in (old q) i ≡ Owner) × (cell_in (after q) i ≡ cell_in (cells q) i)
  owner_before q i own = by_place ((state_in (old q) i ≡ Owner) × (cell_in (after q) i ≡ cell_in (cells q) i)) q i
      (λ e above below. absurd (valid_not_owner (sym (state_filled q i e above below) ∙ own)))
      (λ state cell. (sym state ∙ own, cell))

  pub stores_same : (j k : ℕ) → store_in (new j) ≡ store_in (new k) → store_in (old j) ≡ store_in (old k)
  stores_same j k s = ap home_store (sym (homes j)) ∙ s ∙ ap home_store (homes k)

  pub coherent : store_in (old from) ≡ store_in (old to) → ((i : ℕ) → lo ≤ i → i < hi → state_in (old from) i ≢ Stale)
      → AreCoherent old cells → AreCoherent new after
  coherent same readable h = record {
    single = λ j k i s a b. h.single j k i (stores_same j k s) (owner_before j i a).0 (owner_before k i b).0;
    equal = λ j k i s a r. let t = stores_same j k s in let o = owner_before j i a in
        by_place (cell_in (after k) i ≡ cell_in (after j) i) k i
        (λ e above below. cell_filled k i e above below
        ∙ h.equal j from i (t ∙ ap (λ x. store_in (old x)) e ∙ sym same) o.0 (readable i above below) ∙ sym o.1)
        (λ state cell. cell ∙ h.equal j k i t o.0 (λ e. r (state ∙ e)) ∙ sym o.1);
  }
