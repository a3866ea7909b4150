-- Handing cells back keeps that no index has two owners, and that a cell that may be read is the owner's.
use Rattle.std.proofs.Common.{◌≡◌, ◌≢◌, ℕ, ◌<◌, ◌≤◌, Option, ⊎_elim, inl, inr, sym, subst, ◌∙◌, ap, ◌⊎◌}
use Rattle.std.proofs.lemmas.Bool.{cases_eq}
use Rattle.sk_ranges.specs.declared.state.State.TheVariants.{Stale, Valid, Owner}
use Rattle.sk_spaces.specs.Blocks.{BlockView}
use Rattle.sk_copy_states.specs.declared.held.Held.{Held}
use Rattle.sk_copy_states.specs.Copies.{SetsAt, home_in, state_in, cell_in, home_store, store_in}
use Rattle.sk_coherence_laws.specs.Directory.{AreCoherent}
use Rattle.sk_coherence_laws.specs.Moves.{TakesIn}
use Rattle.sk_coherence_laws.proofs.StateLemmas.{valid_not_owner}
use Rattle.sk_coherence_laws.proofs.FillLemmas.{within_or}

module _ (old new : ℕ → Option Held) (cells after : ℕ → Option BlockView) (from to lo hi : ℕ)
    (apart : from ≢ to)
    (target : SetsAt (old to) (new to) lo hi Owner) (source : SetsAt (old from) (new from) lo hi Valid)
    (others : (q : ℕ) → q ≢ to → q ≢ from → new q ≡ old q)
    (values : TakesIn (cell_in (cells from)) (cell_in (cells to)) (cell_in (after to)) lo hi)
    (kept : (q : ℕ) → q ≢ to → after q ≡ cells q) where
  pub by_copy : (P : Type 0) (q : ℕ) → (q ≡ to → P) → (q ≡ from → P) → (q ≢ to → q ≢ from → P) → P
  by_copy P q one two else = ⊎_elim
      (λ (e : q ≡ to). one e)
      (λ (ne : q ≢ to). ⊎_elim (λ (e : q ≡ from). two e) (λ (nf : q ≢ from). else ne nf) (cases_eq q from))
      (cases_eq q to)

  pub homes : (q : ℕ) → home_in (new q) ≡ home_in (old q)
  homes q = by_copy (home_in (new q) ≡ home_in (old q)) q
      (λ e. subst (λ (x : ℕ). home_in (new x) ≡ home_in (old x)) (sym e) target.home)
      (λ e. subst (λ (x : ℕ). home_in (new x) ≡ home_in (old x)) (sym e) source.home)
      (λ ne nf. ap home_in (others q ne nf))

  pub state_out : (q i : ℕ) → (i < lo) ⊎ (hi ≤ i) → state_in (new q) i ≡ state_in (old q) i
  state_out q i out = by_copy (state_in (new q) i ≡ state_in (old q) i) q
      (λ e. subst (λ (x : ℕ). state_in (new x) i ≡ state_in (old x) i) (sym e) (⊎_elim (λ (b : i < lo). target.states.before i b) (λ (b : hi ≤ i). target.states.after i b) out))
      (λ e. subst (λ (x : ℕ). state_in (new x) i ≡ state_in (old x) i) (sym e) (⊎_elim (λ (b : i < lo). source.states.before i b) (λ (b : hi ≤ i). source.states.after i b) out))
      (λ ne nf. ap (λ o. state_in o i) (others q ne nf))

  pub cell_out : (q i : ℕ) → (i < lo) ⊎ (hi ≤ i) → cell_in (after q) i ≡ cell_in (cells q) i
  cell_out q i out = ⊎_elim
      (λ (e : q ≡ to). subst (λ (x : ℕ). cell_in (after x) i ≡ cell_in (cells x) i) (sym e) (⊎_elim (λ (b : i < lo). values.before i b) (λ (b : hi ≤ i). values.after i b) out))
      (λ (ne : q ≢ to). ap (λ o. cell_in o i) (kept q ne))
      (cases_eq q to)

  pub state_to : (q i : ℕ) → q ≡ to → lo ≤ i → i < hi → state_in (new q) i ≡ Owner
  state_to q i e above below = subst (λ (x : ℕ). state_in (new x) i ≡ Owner) (sym e) (target.states.inside i above below)

  pub state_from : (q i : ℕ) → q ≡ from → lo ≤ i → i < hi → state_in (new q) i ≡ Valid
  state_from q i e above below = subst (λ (x : ℕ). state_in (new x) i ≡ Valid) (sym e) (source.states.inside i above below)

  pub cell_to : (q i : ℕ) → q ≡ to → lo ≤ i → i < hi → cell_in (after q) i ≡ cell_in (cells from) i
  cell_to q i e above below = subst (λ (x : ℕ). cell_in (after x) i ≡ cell_in (cells from) i) (sym e) (values.inside i above below)

  pub stores_same : (j k : ℕ) → store_in (new j) ≡ store_in (new k) → store_in (old j) ≡ store_in (old k)
  stores_same j k s = ap home_store (sym (homes j)) ∙ s ∙ ap home_store (homes k)

  module _ (same : store_in (old from) ≡ store_in (old to)) (owns : (i : ℕ) → lo ≤ i → i < hi → state_in (old from) i ≡ Owner)
      (h : AreCoherent old cells) where
    -- who owns one of the indices now: the target, or a copy of another store
    owner_now : (q i : ℕ) → lo ≤ i → i < hi → state_in (new q) i ≡ Owner → (q ≡ to) ⊎ (store_in (old q) ≢ store_in (old to))
    owner_now q i above below own = by_copy ((q ≡ to) ⊎ (store_in (old q) ≢ store_in (old to))) q
        (λ e. inl e)
        (λ e. absurd (valid_not_owner (sym (state_from q i e above below) ∙ own)))
        (λ ne nf. inr (λ s. nf (h.single q from i (s ∙ sym same) (sym (ap (λ o. state_in o i) (others q ne nf)) ∙ own) (owns i above below))))

    apart_of : (q : ℕ) → store_in (old q) ≢ store_in (old to) → (q ≢ to) × (q ≢ from)
    apart_of q other = ((λ e. other (ap (λ x. store_in (old x)) e)), (λ e. other (ap (λ x. store_in (old x)) e ∙ same)))

    single_in : (j k i : ℕ) → store_in (old j) ≡ store_in (old k) → state_in (new j) i ≡ Owner → state_in (new k) i ≡ Owner → lo ≤ i → i < hi → j ≡ k
    single_in j k i s a b above below = ⊎_elim
        (λ (ej : j ≡ to). ⊎_elim
        (λ (ek : k ≡ to). ej ∙ sym ek)
        (λ (ok : store_in (old k) ≢ store_in (old to)). absurd (ok (sym s ∙ ap (λ x. store_in (old x)) ej)))
        (owner_now k i above below b))
        (λ (oj : store_in (old j) ≢ store_in (old to)).
        let pj = apart_of j oj in let pk = apart_of k (λ e. oj (s ∙ e)) in
        h.single j k i s (sym (ap (λ o. state_in o i) (others j pj.0 pj.1)) ∙ a) (sym (ap (λ o. state_in o i) (others k pk.0 pk.1)) ∙ b))
        (owner_now j i above below a)

    equal_in : (j k i : ℕ) → store_in (old j) ≡ store_in (old k) → state_in (new j) i ≡ Owner → state_in (new k) i ≢ Stale → lo ≤ i → i < hi
        → cell_in (after k) i ≡ cell_in (after j) i
    equal_in j k i s a r above below = ⊎_elim
        (λ (ej : j ≡ to). by_copy (cell_in (after k) i ≡ cell_in (after j) i) k
        (λ ek. ap (λ x. cell_in (after x) i) (ek ∙ sym ej))
        (λ ek. ap (λ o. cell_in o i) (kept k (λ e. apart (sym ek ∙ e))) ∙ ap (λ x. cell_in (cells x) i) ek ∙ sym (cell_to j i ej above below))
        (λ ne nf. ap (λ o. cell_in o i) (kept k ne)
        ∙ h.equal from k i (same ∙ ap (λ x. store_in (old x)) (sym ej) ∙ s) (owns i above below) (λ e. r (ap (λ o. state_in o i) (others k ne nf) ∙ e))
        ∙ sym (cell_to j i ej above below)))
        (λ (oj : store_in (old j) ≢ store_in (old to)).
        let pj = apart_of j oj in let pk = apart_of k (λ e. oj (s ∙ e)) in
        ap (λ o. cell_in o i) (kept k pk.0)
        ∙ h.equal j k i s (sym (ap (λ o. state_in o i) (others j pj.0 pj.1)) ∙ a) (λ e. r (ap (λ o. state_in o i) (others k pk.0 pk.1) ∙ e))
        ∙ sym (ap (λ o. cell_in o i) (kept j pj.0)))
        (owner_now j i above below a)

    pub coherent : AreCoherent new after
    coherent = record {
      single = λ j k i s a b. let t = stores_same j k s in within_or (j ≡ k) lo hi i (single_in j k i t a b)
          (λ out. h.single j k i t (sym (state_out j i out) ∙ a) (sym (state_out k i out) ∙ b));
      equal = λ j k i s a r. let t = stores_same j k s in within_or (cell_in (after k) i ≡ cell_in (after j) i) lo hi i (equal_in j k i t a r)
          (λ out. cell_out k i out ∙ h.equal j k i t (sym (state_out j i out) ∙ a) (λ e. r (state_out k i out ∙ e)) ∙ sym (cell_out j i out));
    }
