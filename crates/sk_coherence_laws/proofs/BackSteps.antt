-- A directory is as sound where a copy handed cells back, and the machine's step leads to it.
use Rattle.std.proofs.Common.{◌≡◌, ◌≢◌, ℕ, ◌+◌, ◌<◌, ◌≤◌, ◌==◌, if◌then◌else◌, Bool, Option, None, IfSome, IsSome, ⊎_elim, refl, inl, inr, sym, subst, ◌∙◌, ap, ◌⊎◌}
use Rattle.std.proofs.lemmas.Bool.{cases_eq}
use Rattle.sk_ranges.specs.declared.state.State.TheVariants.{Stale, Valid, Owner}
use Rattle.sk_spaces.specs.declared.step.Step.TheVariants.{Back}
use Rattle.sk_spaces.specs.Machine.{Machine, valid, owner, is_within, hands_over}
use Rattle.sk_spaces.specs.Blocks.{copied}
use Rattle.sk_spaces.specs.Spaces.{Changes}
use Rattle.sk_copy_states.specs.declared.held.Held.{Held}
use Rattle.sk_copy_states.specs.Held.{IsFit, mark_of}
use Rattle.sk_copy_states.specs.Copies.{SetsAt, home_in, home_store, store_in, state_in, cell_in, expected_in}
use Rattle.sk_copy_states.specs.Stores.{changes_in}
use Rattle.sk_coherence_laws.specs.Directory.{DirectoryView, copy_at, store_at, cells_of_copy, IsSound}
use Rattle.sk_coherence_laws.specs.Traced.{IsLike, TracesStep}
use Rattle.sk_coherence_laws.specs.Moves.{CanMove, TakesIn, OwnsAt}
use Rattle.sk_coherence_laws.specs.Serves.{HasOwner}
use Rattle.sk_coherence_laws.proofs.MailLemmas.{mailed-so, like-mail-kept}
use Rattle.sk_coherence_laws.proofs.StateLemmas.{valid_not_owner}
use Rattle.sk_coherence_laws.proofs.OpenLemmas.{some_of, eq_yes, eq_no}
use Rattle.sk_coherence_laws.proofs.TracedWrite.{some_home, within_yes, within_no, and_yes, and_no}
use Rattle.sk_coherence_laws.proofs.LegalMoves.{can-copy}
use Rattle.sk_coherence_laws.proofs.FillLemmas.{within_or}
use Rattle.sk_coherence_laws.proofs.FillSteps.{values_moved, reshapes-moved}
use Rattle.sk_coherence_laws.proofs.BackLemmas as back
use Rattle.sk_coherence_laws.proofs.Reshapes.{Reshapes, sound-reshaped, like-reshaped}

module _ (d n : DirectoryView) (from to lo hi : ℕ) (sound : IsSound d) (can : CanMove d from to lo hi) (ordered : lo ≤ hi)
    (owns : OwnsAt d from lo hi)
    (ch : Changes d.spaces n.spaces to (copied lo hi (cells_of_copy d from) (cells_of_copy d to)) None (Back from to lo hi))
    (target : SetsAt (copy_at d to) (copy_at n to) lo hi Owner) (source : SetsAt (copy_at d from) (copy_at n from) lo hi Valid)
    (others : (q : ℕ) → q ≢ to → q ≢ from → copy_at n q ≡ copy_at d q)
    (room_to : IfSome (copy_at n to) (λ held. changes_in (store_at d held.store) + held.expected ≤ held.states.reserved))
    (room_from : IfSome (copy_at n from) (λ held. changes_in (store_at d held.store) + held.expected ≤ held.states.reserved))
    (stores : n.stores ≡ d.stores) (next : n.next ≡ d.next) (messages : n.messages ≡ d.messages) (aside : n.aside ≡ d.aside) where
  pub values : TakesIn (cell_in (cells_of_copy d from)) (cell_in (cells_of_copy d to)) (cell_in (cells_of_copy n to)) lo hi
  values = values_moved d n from to lo hi sound can ordered ch.memories.blocks.here

  pub by_copy : (P : Type 0) (q : ℕ) → (q ≡ to → P) → (q ≡ from → P) → (q ≢ to → q ≢ from → P) → P
  by_copy P q one two rest = ⊎_elim
      (λ (e : q ≡ to). one e)
      (λ (ne : q ≢ to). ⊎_elim (λ (e : q ≡ from). two e) (λ (nf : q ≢ from). rest ne nf) (cases_eq q from))
      (cases_eq q to)

  pub homes : (q : ℕ) → home_in (copy_at n q) ≡ home_in (copy_at d q)
  homes = back.homes (copy_at d) (copy_at n) (cells_of_copy d) (cells_of_copy n) from to lo hi can.apart target source others values ch.memories.blocks.others

  pub reshapes : Reshapes d n
  reshapes = reshapes-moved d n from to lo hi (Back from to lo hi) sound can ordered ch stores next homes
      (λ q. by_copy (IfSome (copy_at n q) IsFit) q
      (λ e. subst (λ (x : ℕ). IfSome (copy_at n x) IsFit) (sym e) (target.fit (sound.fit to)))
      (λ e. subst (λ (x : ℕ). IfSome (copy_at n x) IsFit) (sym e) (source.fit (sound.fit from)))
      (λ ne nf. subst (λ (o : Option Held). IfSome o IsFit) (sym (others q ne nf)) (sound.fit q)))
      (λ q. by_copy (IfSome (copy_at n q) (λ held. changes_in (store_at d held.store) + held.expected ≤ held.states.reserved)) q
      (λ e. subst (λ (x : ℕ). IfSome (copy_at n x) (λ held. changes_in (store_at d held.store) + held.expected ≤ held.states.reserved)) (sym e) room_to)
      (λ e. subst (λ (x : ℕ). IfSome (copy_at n x) (λ held. changes_in (store_at d held.store) + held.expected ≤ held.states.reserved)) (sym e) room_from)
      (λ ne nf. subst (λ (o : Option Held). IfSome o (λ held. changes_in (store_at d held.store) + held.expected ≤ held.states.reserved)) (sym (others q ne nf)) (sound.room q)))

  expected_kept : (q : ℕ) → expected_in (copy_at n q) ≡ expected_in (copy_at d q)
  expected_kept q = by_copy (expected_in (copy_at n q) ≡ expected_in (copy_at d q)) q
      (λ e. subst (λ (x : ℕ). expected_in (copy_at n x) ≡ expected_in (copy_at d x)) (sym e) target.expected)
      (λ e. subst (λ (x : ℕ). expected_in (copy_at n x) ≡ expected_in (copy_at d x)) (sym e) source.expected)
      (λ ne nf. ap expected_in (others q ne nf))

  owner_in : (q i : ℕ) → lo ≤ i → i < hi → state_in (copy_at n q) i ≡ Owner → HasOwner n d q i
  owner_in q i above below own = by_copy (HasOwner n d q i) q
      (λ e. record {
        at = from;
        store = can.store ∙ ap (λ x. store_in (copy_at d x)) (sym e) ∙ sym (ap home_store (homes q));
        owns = owns i above below;
        cell = sym (subst (λ (x : ℕ). cell_in (cells_of_copy n x) i ≡ cell_in (cells_of_copy d from) i) (sym e) (values.inside i above below));
      })
      (λ e. absurd (valid_not_owner (sym (subst (λ (x : ℕ). state_in (copy_at n x) i ≡ Valid) (sym e) (source.states.inside i above below)) ∙ own)))
      (λ ne nf. record {
        at = q;
        store = sym (ap home_store (homes q));
        owns = sym (ap (λ o. state_in o i) (others q ne nf)) ∙ own;
        cell = sym (ap (λ o. cell_in o i) (ch.memories.blocks.others q ne));
      })

  owner_before : (q i : ℕ) → state_in (copy_at n q) i ≡ Owner → HasOwner n d q i
  owner_before q i own = within_or (HasOwner n d q i) lo hi i
      (λ above below. owner_in q i above below own)
      (λ out. record {
        at = q;
        store = sym (ap home_store (homes q));
        owns = sym (back.state_out (copy_at d) (copy_at n) (cells_of_copy d) (cells_of_copy n) from to lo hi can.apart target source others values ch.memories.blocks.others q i out) ∙ own;
        cell = sym (back.cell_out (copy_at d) (copy_at n) (cells_of_copy d) (cells_of_copy n) from to lo hi can.apart target source others values ch.memories.blocks.others q i out);
      })

  pub sound-back : n.owed ≤ n.ready → n.ready + n.aside ≤ n.spaces.journal.spare → IsSound n
  sound-back owed ready = sound-reshaped d n sound reshapes
      (back.coherent (copy_at d) (copy_at n) (cells_of_copy d) (cells_of_copy n) from to lo hi can.apart target source others values ch.memories.blocks.others
      can.store owns sound.coherent)
      (mailed-so d n sound.mailed messages aside ch.memories.next next homes expected_kept owner_before)
      owed ready

  mark_in : (m : Machine) → IsLike m d → (q i : ℕ) → lo ≤ i → i < hi → IsSome (copy_at n q)
      → (hands_over from to lo hi m).marks q i ≡ mark_of (state_in (copy_at n q) i)
  mark_in m l q i above below some =
      ap (λ (t : Bool). if t then (if q == to then owner else if q == from then valid else m.marks q i) else m.marks q i) (within_yes lo hi i above below)
      ∙ by_copy ((if q == to then owner else if q == from then valid else m.marks q i) ≡ mark_of (state_in (copy_at n q) i)) q
      (λ e. ap (λ (t : Bool). if t then owner else if q == from then valid else m.marks q i) (eq_yes q to e)
      ∙ sym (ap mark_of (subst (λ (x : ℕ). state_in (copy_at n x) i ≡ Owner) (sym e) (target.states.inside i above below))))
      (λ e. ap (λ (t : Bool). if t then owner else if q == from then valid else m.marks q i) (eq_no q to (λ f. can.apart (sym e ∙ f)))
      ∙ ap (λ (t : Bool). if t then valid else m.marks q i) (eq_yes q from e)
      ∙ sym (ap mark_of (subst (λ (x : ℕ). state_in (copy_at n x) i ≡ Valid) (sym e) (source.states.inside i above below))))
      (λ ne nf. ap (λ (t : Bool). if t then owner else if q == from then valid else m.marks q i) (eq_no q to ne)
      ∙ ap (λ (t : Bool). if t then valid else m.marks q i) (eq_no q from nf)
      ∙ l.marks q i (some_home (copy_at n q) (copy_at d q) (homes q) some) ∙ ap (λ o. mark_of (state_in o i)) (sym (others q ne nf)))

  state_out : (q i : ℕ) → (i < lo) ⊎ (hi ≤ i) → state_in (copy_at n q) i ≡ state_in (copy_at d q) i
  state_out = back.state_out (copy_at d) (copy_at n) (cells_of_copy d) (cells_of_copy n) from to lo hi can.apart target source others values ch.memories.blocks.others

  mark_out : (m : Machine) → IsLike m d → (q i : ℕ) → (i < lo) ⊎ (hi ≤ i) → IsSome (copy_at n q)
      → (hands_over from to lo hi m).marks q i ≡ mark_of (state_in (copy_at n q) i)
  mark_out m l q i out some =
      ap (λ (t : Bool). if t then (if q == to then owner else if q == from then valid else m.marks q i) else m.marks q i) (within_no lo hi i out)
      ∙ l.marks q i (some_home (copy_at n q) (copy_at d q) (homes q) some) ∙ ap mark_of (sym (state_out q i out))

  cell_else : (m : Machine) → IsLike m d → (q i : ℕ) → q ≢ to → state_in (copy_at n q) i ≢ Stale → state_in (copy_at d q) i ≢ Stale
      → (hands_over from to lo hi m).cells q i ≡ cell_in (cells_of_copy n q) i
  cell_else m l q i ne readable before =
      ap (λ (t : Bool). if t then m.cells from i else m.cells q i) (and_no (q == to) (is_within lo hi i) (inl (eq_no q to ne)))
      ∙ l.cells q i before ∙ ap (λ o. cell_in o i) (sym (ch.memories.blocks.others q ne))

  -- what may be read in another copy might be read before
  readable_before : (q i : ℕ) → lo ≤ i → i < hi → q ≢ to → state_in (copy_at n q) i ≢ Stale → state_in (copy_at d q) i ≢ Stale
  readable_before q i above below ne readable = ⊎_elim
      (λ (e : q ≡ from). subst (λ (x : ℕ). state_in (copy_at d x) i ≢ Stale) (sym e) (can.readable i above below))
      (λ (nf : q ≢ from). λ s. readable (ap (λ o. state_in o i) (others q ne nf) ∙ s))
      (cases_eq q from)

  cell_now : (m : Machine) → IsLike m d → (q i : ℕ) → state_in (copy_at n q) i ≢ Stale
      → (hands_over from to lo hi m).cells q i ≡ cell_in (cells_of_copy n q) i
  cell_now m l q i readable = ⊎_elim
      (λ (e : q ≡ to). within_or ((hands_over from to lo hi m).cells q i ≡ cell_in (cells_of_copy n q) i) lo hi i
      (λ above below. ap (λ (t : Bool). if t then m.cells from i else m.cells q i) (and_yes (q == to) (is_within lo hi i) (eq_yes q to e) (within_yes lo hi i above below))
      ∙ l.cells from i (can.readable i above below)
      ∙ sym (subst (λ (x : ℕ). cell_in (cells_of_copy n x) i ≡ cell_in (cells_of_copy d from) i) (sym e) (values.inside i above below)))
      (λ out. ap (λ (t : Bool). if t then m.cells from i else m.cells q i) (and_no (q == to) (is_within lo hi i) (inr (within_no lo hi i out)))
      ∙ l.cells q i (λ s. readable (state_out q i out ∙ s))
      ∙ sym (back.cell_out (copy_at d) (copy_at n) (cells_of_copy d) (cells_of_copy n) from to lo hi can.apart target source others values ch.memories.blocks.others q i out)))
      (λ (ne : q ≢ to). within_or ((hands_over from to lo hi m).cells q i ≡ cell_in (cells_of_copy n q) i) lo hi i
      (λ above below. cell_else m l q i ne readable (readable_before q i above below ne readable))
      (λ out. cell_else m l q i ne readable (λ s. readable (state_out q i out ∙ s))))
      (cases_eq q to)

  pub like-back : (m : Machine) → IsLike m d → IsLike (hands_over from to lo hi m) n
  like-back m l = like-reshaped d n m (hands_over from to lo hi m) l reshapes refl refl refl refl
      (λ q i some. within_or ((hands_over from to lo hi m).marks q i ≡ mark_of (state_in (copy_at n q) i)) lo hi i
      (λ above below. mark_in m l q i above below some) (λ out. mark_out m l q i out some))
      (cell_now m l)
      (like-mail-kept m.messages m.copies d n l.messages messages ch.memories.next)

  pub traced-back : TracesStep d n (Back from to lo hi)
  traced-back m l = (
    (some_of m.memory _ l.memory, (can-copy m d from to lo hi l can ordered, λ i above below. l.marks from i can.source ∙ ap mark_of (owns i above below))),
    like-back m l,
  )
