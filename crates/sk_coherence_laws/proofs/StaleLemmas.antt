-- Indices of a store that become stale in each of its copies.
use Rattle.std.proofs.Common.{◌≡◌, ◌≢◌, ℕ, ◌+◌, ◌<◌, ◌≤◌, if◌then◌else◌, Bool, List, Option, Some, None, IfSome, IsSome, IsSomeAnd, arith, ⊎_elim, refl, inl, inr, sym, subst, ◌∙◌, ap, ◌⊎◌}
use Rattle.sk_base.specs.Shape.{cells_of}
use Rattle.sk_ranges.specs.declared.state.State.TheVariants.{Stale, Owner}
use Rattle.sk_spaces.specs.declared.step.Step.TheVariants as line
use Rattle.sk_spaces.specs.Machine.{Machine, StoreLine, stale, stales, is_copy_of, is_within}
use Rattle.sk_spaces.specs.Rules.{IsInside}
use Rattle.sk_spaces.specs.Blocks.{IsWhole}
use Rattle.sk_spaces.specs.Memories.{block_of, used_of}
use Rattle.sk_copy_states.specs.declared.held.Held.{Held}
use Rattle.sk_copy_states.specs.Held.{IsFit, mark_of}
use Rattle.sk_copy_states.specs.Copies.{StalesAll, HasRoomIn, home_in, home_store, store_in, state_in, cell_in, expected_in, room_in}
use Rattle.sk_copy_states.specs.Stores.{StoreView, changes_in, copies_in, len_in, HasTile, store_of}
use Rattle.sk_coherence_laws.specs.Directory.{DirectoryView, copy_at, store_at, cells_of_copy, block_home, IsSound, AreCoherent, AreMailed}
use Rattle.sk_coherence_laws.specs.Traced.{IsLike, IsLineOf, TracesStep}
use Rattle.sk_messages.specs.Messages.{Spoils}
use Rattle.sk_coherence_laws.specs.Serves.{HasOwner}
use Rattle.sk_coherence_laws.specs.Retires.{Stales}
use Rattle.sk_coherence_laws.proofs.MailLemmas.{mailed-spoilt-so, like-mail-spoilt}
use Rattle.sk_coherence_laws.proofs.OpenLemmas.{some_of}
use Rattle.sk_coherence_laws.proofs.StateLemmas.{same_store, stale_not_owner}
use Rattle.sk_coherence_laws.proofs.SoundWrite.{room_other}
use Rattle.sk_coherence_laws.proofs.TracedWrite.{some_home, copy_of, not_copy_of, within_yes, within_no, and_yes, and_no}
use Rattle.sk_coherence_laws.proofs.FillLemmas.{within_or}
use Rattle.sk_coherence_laws.proofs.Reshapes.{Reshapes, sound-reshaped, like-reshaped}

pub inside-line : (o : Option StoreView) (of : Option StoreLine) (lo hi : ℕ) → IsSome o → lo ≤ hi → hi ≤ len_in o
    → IfSome o (λ store. IsSomeAnd of (IsLineOf store)) → IsSomeAnd of (IsInside lo hi)
inside-line None of lo hi there ordered below is = cc
inside-line (Some store) None lo hi there ordered below is = absurd is
inside-line (Some store) (Some k) lo hi there ordered below is = record {
  ordered = ordered;
  below = subst (λ (sh : List ℕ). hi ≤ cells_of sh) (sym is.1) below;
}

module _ (d n : DirectoryView) (s lo hi : ℕ) (states : StalesAll (copy_at d) (copy_at n) s lo hi) (memories : n.spaces.memories ≡ d.spaces.memories) where
  pub by_store : (P : Type 0) (q : ℕ) → (store_in (copy_at d q) ≡ Some s → P) → (store_in (copy_at d q) ≢ Some s → P) → P
  by_store P q one other = ⊎_elim
      (λ (e : store_in (copy_at d q) ≡ Some s). one e)
      (λ (ne : store_in (copy_at d q) ≢ Some s). other ne)
      (same_store (store_in (copy_at d q)) (Some s))

  pub homes : (q : ℕ) → home_in (copy_at n q) ≡ home_in (copy_at d q)
  homes q = by_store (home_in (copy_at n q) ≡ home_in (copy_at d q)) q (λ e. (states.staled q e).home) (λ ne. ap home_in (states.others q ne))

  pub fit_staled : ((q : ℕ) → IfSome (copy_at d q) IsFit) → (q : ℕ) → IfSome (copy_at n q) IsFit
  fit_staled fit q = by_store (IfSome (copy_at n q) IsFit) q (λ e. (states.staled q e).fit (fit q))
      (λ ne. subst (λ (o : Option Held). IfSome o IsFit) (sym (states.others q ne)) (fit q))

  pub cells_same : (q : ℕ) → cells_of_copy n q ≡ cells_of_copy d q
  cells_same q = ap (λ x. block_of x q) memories

  -- a copy of the store at one of the indices, or anything else
  by_place : (P : Type 0) (q i : ℕ) → (store_in (copy_at d q) ≡ Some s → lo ≤ i → i < hi → P)
      → ((store_in (copy_at d q) ≢ Some s) ⊎ ((i < lo) ⊎ (hi ≤ i)) → state_in (copy_at n q) i ≡ state_in (copy_at d q) i → P) → P
  by_place P q i staled kept = by_store P q
      (λ e. within_or P lo hi i (staled e)
      (λ out. kept (inr out) (⊎_elim (λ (b : i < lo). (states.staled q e).states.before i b) (λ (b : hi ≤ i). (states.staled q e).states.after i b) out)))
      (λ ne. kept (inl ne) (ap (λ o. state_in o i) (states.others q ne)))

  stale_now : (q i : ℕ) → store_in (copy_at d q) ≡ Some s → lo ≤ i → i < hi → state_in (copy_at n q) i ≡ Stale
  stale_now q i e above below = (states.staled q e).states.inside i above below

  pub owner_before : (q i : ℕ) → state_in (copy_at n q) i ≡ Owner → state_in (copy_at d q) i ≡ Owner
  owner_before q i own = by_place (state_in (copy_at d q) i ≡ Owner) q i
      (λ e above below. absurd (stale_not_owner (sym (stale_now q i e above below) ∙ own)))
      (λ out same. sym same ∙ own)

  pub readable_before : (q i : ℕ) → state_in (copy_at n q) i ≢ Stale → state_in (copy_at d q) i ≢ Stale
  readable_before q i readable = by_place (state_in (copy_at d q) i ≢ Stale) q i
      (λ e above below. absurd (readable (stale_now q i e above below)))
      (λ out same x. readable (same ∙ x))

  pub coherent_staled : AreCoherent (copy_at d) (cells_of_copy d) → AreCoherent (copy_at n) (cells_of_copy n)
  coherent_staled h = record {
    single = λ j k i same a b. h.single j k i (ap home_store (sym (homes j)) ∙ same ∙ ap home_store (homes k)) (owner_before j i a) (owner_before k i b);
    equal = λ j k i same a x. ap (λ o. cell_in o i) (cells_same k)
        ∙ h.equal j k i (ap home_store (sym (homes j)) ∙ same ∙ ap home_store (homes k)) (owner_before j i a) (readable_before k i x)
        ∙ ap (λ o. cell_in o i) (sym (cells_same j));
  }

  pub expected_staled : (q : ℕ) → expected_in (copy_at n q) ≡ expected_in (copy_at d q)
  expected_staled q = by_store (expected_in (copy_at n q) ≡ expected_in (copy_at d q)) q (λ e. (states.staled q e).expected) (λ ne. ap expected_in (states.others q ne))

  has_owner : (q i : ℕ) → state_in (copy_at n q) i ≡ Owner → HasOwner n d q i
  has_owner q i own = record { at = q; store = sym (ap home_store (homes q)); owns = owner_before q i own; cell = sym (ap (λ o. cell_in o i) (cells_same q)) }

  pub mailed_staled : AreMailed d → Spoils d.messages n.messages s lo hi → n.aside ≡ d.aside → n.next ≡ d.next → AreMailed n
  mailed_staled mailed spoilt aside next = mailed-spoilt-so d n s lo hi mailed spoilt aside (ap (λ x. x.next) memories) next homes expected_staled (λ q i own. inr (has_owner q i own))

  pub mark_staled : (m : Machine) → IsLike m d → (q i : ℕ) → IsSome (copy_at n q) → (stales s lo hi m).marks q i ≡ mark_of (state_in (copy_at n q) i)
  mark_staled m l q i some = by_place ((stales s lo hi m).marks q i ≡ mark_of (state_in (copy_at n q) i)) q i
      (λ e above below.
      ap (λ (t : Bool). if t then stale else m.marks q i) (and_yes (is_copy_of s (m.copies q)) (is_within lo hi i) (copy_of (m.copies q) (copy_at d q) s (l.copies q) e) (within_yes lo hi i above below))
      ∙ sym (ap mark_of (stale_now q i e above below)))
      (λ out same.
      ap (λ (t : Bool). if t then stale else m.marks q i) (⊎_elim
      (λ (ne : store_in (copy_at d q) ≢ Some s). and_no (is_copy_of s (m.copies q)) (is_within lo hi i) (inl (not_copy_of (m.copies q) (copy_at d q) s (l.copies q) ne)))
      (λ (o : (i < lo) ⊎ (hi ≤ i)). and_no (is_copy_of s (m.copies q)) (is_within lo hi i) (inr (within_no lo hi i o)))
      out)
      ∙ l.marks q i (some_home (copy_at n q) (copy_at d q) (homes q) some) ∙ ap mark_of (sym same))

-- the room that a copy had for one change more is used up
room_used : (d n : DirectoryView) (o p : Option Held) (s : ℕ) → HasRoomIn (changes_in (store_at d s) + 1) o → store_in o ≡ Some s → home_in p ≡ home_in o
    → expected_in p ≡ expected_in o → room_in o ≤ room_in p + 1
    → ((t : ℕ) → store_at n t ≡ store_at d t) → IfSome p (λ held. changes_in (store_at n held.store) + held.expected ≤ held.states.reserved)
room_used d n None None s room is home expected used same = tt
room_used d n None (Some p) s room is home expected used same = cc
room_used d n (Some o) None s room is home expected used same = tt
room_used d n (Some o) (Some p) s room is home expected used same =
    let e : p.store ≡ s = grind (arith, ap home_store home ∙ is) in
    omega (arith, room, used, expected, ap changes_in (same p.store), ap (λ (x : ℕ). changes_in (store_at d x)) e)

module _ (d n : DirectoryView) (s lo hi : ℕ) (sound : IsSound d) (r : Stales d n s lo hi)
    (ready : (q : ℕ) → store_in (copy_at d q) ≡ Some s → HasRoomIn (changes_in (store_at d s) + 1) (copy_at d q)) where
  stores : (t : ℕ) → store_at n t ≡ store_at d t
  stores t = ap (λ x. store_of x t) r.stores

  pub reshapes-staled : Reshapes d n
  reshapes-staled = record {
    homes = homes d n s lo hi r.states r.spaces.memories;
    fit = fit_staled d n s lo hi r.states r.spaces.memories sound.fit;
    room = λ q. by_store d n s lo hi r.states r.spaces.memories (IfSome (copy_at n q) (λ held. changes_in (store_at n held.store) + held.expected ≤ held.states.reserved)) q
        (λ e. room_used d n (copy_at d q) (copy_at n q) s (ready q e) e (homes d n s lo hi r.states r.spaces.memories q)
        (r.states.staled q e).expected (r.states.staled q e).room stores)
        (λ ne. room_other d n (copy_at n q) s
        (subst (λ (o : Option Held). IfSome o (λ held. changes_in (store_at d held.store) + held.expected ≤ held.states.reserved)) (sym (r.states.others q ne)) (sound.room q))
        (λ e. ne (sym (ap home_store (homes d n s lo hi r.states r.spaces.memories q)) ∙ e)) (λ t ne. stores t));
    listed = λ t. ap copies_in (stores t);
    tiles = λ t. subst (λ (o : Option StoreView). IfSome o HasTile) (sym (stores t)) (sound.tiles t);
    lens = λ t. omega (arith, ap len_in (stores t));
    absent = λ t is. stores t ∙ is;
    lines = λ t of is. subst (λ (o : Option StoreView). IfSome o (λ store. IsSomeAnd of (IsLineOf store))) (sym (stores t)) is;
    blocks = λ q. ap block_home (cells_same d n s lo hi r.states r.spaces.memories q);
    whole = λ q. subst (λ b. IfSome b IsWhole) (sym (cells_same d n s lo hi r.states r.spaces.memories q)) (sound.whole q);
    next = r.next;
    next_copy = ap (λ x. x.next) r.spaces.memories;
    ranks = ap (λ x. x.ranks) r.spaces.memories;
    capacity = ap (λ x. x.capacity) r.spaces.memories;
    used = λ space. ap (λ x. used_of x space) r.spaces.memories;
  }

  pub sound-staled : n.owed ≤ n.ready → n.ready + n.aside ≤ n.spaces.journal.spare → IsSound n
  sound-staled owed spare = sound-reshaped d n sound reshapes-staled (coherent_staled d n s lo hi r.states r.spaces.memories sound.coherent)
      (mailed_staled d n s lo hi r.states r.spaces.memories sound.mailed r.messages r.aside r.next) owed spare

  pub traced-staled : IsSome (store_at d s) → lo ≤ hi → hi ≤ len_in (store_at d s) → TracesStep d n (line.Stale s lo hi)
  traced-staled there ordered below m l = (
    (some_of m.memory _ l.memory, inside-line (store_at d s) (m.stores s) lo hi there ordered below (l.stores s)),
    like-reshaped d n m (stales s lo hi m) l reshapes-staled refl refl refl refl (mark_staled d n s lo hi r.states r.spaces.memories m l)
        (λ q i readable. l.cells q i (readable_before d n s lo hi r.states r.spaces.memories q i readable)
        ∙ ap (λ o. cell_in o i) (sym (cells_same d n s lo hi r.states r.spaces.memories q)))
        (like-mail-spoilt m.messages m.copies d n s lo hi l.messages r.messages (ap (λ x. x.next) r.spaces.memories)),
  )
