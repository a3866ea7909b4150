-- A directory is as sound where a copy was filled, and the machine's copy leads to it.
use Rattle.std.proofs.Common.{◌≡◌, ◌≢◌, ℕ, ◌+◌, ◌<◌, ◌≤◌, ◌==◌, ◌&&◌, if◌then◌else◌, List, Bool, false, Option, None, IfSome, IsSome, IsSomeAnd, arith, ⊎_elim, refl, inl, inr, sym, subst, ◌∙◌, ap, ◌⊎◌}
use Rattle.std.proofs.lemmas.Bool.{cases_eq}
use Rattle.sk_ranges.specs.declared.state.State.TheVariants.{Valid, Owner}
use Rattle.sk_spaces.specs.declared.step.Step.{Step}
use Rattle.sk_spaces.specs.declared.step.Step.TheVariants.{Copy}
use Rattle.sk_spaces.specs.Machine.{Machine, is_within, filled_mark, fills}
use Rattle.sk_spaces.specs.Blocks.{BlockView, IsWhole, Reaches, copied}
use Rattle.sk_spaces.specs.Spaces.{Changes}
use Rattle.sk_spaces.proofs.CopyLemmas.{taken-copied}
use Rattle.sk_copy_states.specs.declared.held.Held.{Held}
use Rattle.sk_copy_states.specs.Held.{IsFit, mark_of}
use Rattle.sk_copy_states.specs.Copies.{SetsAt, home_in, home_store, state_in, cell_in, expected_in}
use Rattle.sk_copy_states.specs.Stores.{StoreView, copies_in, changes_in, HasTile, store_of}
use Rattle.sk_coherence_laws.specs.Directory.{DirectoryView, copy_at, store_at, cells_of_copy, block_home, IsSound}
use Rattle.sk_coherence_laws.specs.Traced.{IsLike, IsLineOf, TracesStep}
use Rattle.sk_coherence_laws.specs.Moves.{CanMove, TakesIn, IsStaleAt}
use Rattle.sk_coherence_laws.specs.Serves.{HasOwner}
use Rattle.sk_coherence_laws.proofs.InsideLemmas.{lens_same}
use Rattle.sk_coherence_laws.proofs.MailLemmas.{mailed-so, like-mail-kept}
use Rattle.sk_coherence_laws.proofs.OpenLemmas.{some_of, eq_yes, eq_no}
use Rattle.sk_coherence_laws.proofs.SoundWrite.{reaches_block, some_block}
use Rattle.sk_coherence_laws.proofs.TracedWrite.{some_home, within_yes, and_yes}
use Rattle.sk_coherence_laws.proofs.MovedCells.{takes-option, whole-moved, home-moved}
use Rattle.sk_coherence_laws.proofs.LegalMoves.{can-copy}
use Rattle.sk_coherence_laws.proofs.FillLemmas as fill
use Rattle.sk_coherence_laws.proofs.Reshapes.{Reshapes, sound-reshaped, like-reshaped}

-- the blocks of two copies that may be moved between reach as far as they do
pub source_block : (d : DirectoryView) (from to lo hi : ℕ) → IsSound d → CanMove d from to lo hi → lo ≤ hi → IfSome (cells_of_copy d from) (Reaches lo hi)
source_block d from to lo hi s c ordered = reaches_block (copy_at d from) (cells_of_copy d from) lo hi ordered (s.tied from) c.from_reaches

pub target_block : (d : DirectoryView) (from to lo hi : ℕ) → IsSound d → CanMove d from to lo hi → lo ≤ hi → IfSome (cells_of_copy d to) (Reaches lo hi)
target_block d from to lo hi s c ordered = reaches_block (copy_at d to) (cells_of_copy d to) lo hi ordered (s.tied to) c.to_reaches

pub source_there : (d : DirectoryView) (from to lo hi : ℕ) → IsSound d → CanMove d from to lo hi → IsSome (cells_of_copy d from)
source_there d from to lo hi s c = some_block (copy_at d from) (cells_of_copy d from) (s.tied from) c.source

pub target_there : (d : DirectoryView) (from to lo hi : ℕ) → IsSound d → CanMove d from to lo hi → IsSome (cells_of_copy d to)
target_there d from to lo hi s c = some_block (copy_at d to) (cells_of_copy d to) (s.tied to) c.target

-- the cells that were moved, by index
pub values_moved : (d n : DirectoryView) (from to lo hi : ℕ) → IsSound d → CanMove d from to lo hi → lo ≤ hi
    → cells_of_copy n to ≡ copied lo hi (cells_of_copy d from) (cells_of_copy d to)
    → TakesIn (cell_in (cells_of_copy d from)) (cell_in (cells_of_copy d to)) (cell_in (cells_of_copy n to)) lo hi
values_moved d n from to lo hi s c ordered here = takes-option (cells_of_copy d from) (cells_of_copy d to) (cells_of_copy n to) lo hi here
    (s.whole from) (s.whole to) (source_block d from to lo hi s c ordered) (target_block d from to lo hi s c ordered)
    (source_there d from to lo hi s c) (target_there d from to lo hi s c)

-- a directory with the same stores and numbers, and a block into which cells were moved, lies as before
pub reshapes-moved : (d n : DirectoryView) (from to lo hi : ℕ) (step : Step) → IsSound d → CanMove d from to lo hi → lo ≤ hi
    → Changes d.spaces n.spaces to (copied lo hi (cells_of_copy d from) (cells_of_copy d to)) None step
    → n.stores ≡ d.stores → n.next ≡ d.next
    → ((q : ℕ) → home_in (copy_at n q) ≡ home_in (copy_at d q)) → ((q : ℕ) → IfSome (copy_at n q) IsFit)
    → ((q : ℕ) → IfSome (copy_at n q) (λ held. changes_in (store_at d held.store) + held.expected ≤ held.states.reserved))
    → Reshapes d n
reshapes-moved d n from to lo hi step s c ordered ch stores next homes fit room =
    let at : (t : ℕ) → store_at n t ≡ store_at d t = λ t. ap (λ (x : List (ℕ × StoreView)). store_of x t) stores in
    record {
      homes = homes;
      fit = fit;
      room = λ q. subst (λ (x : List (ℕ × StoreView)). IfSome (copy_at n q) (λ held. changes_in (store_of x held.store) + held.expected ≤ held.states.reserved)) (sym stores) (room q);
      listed = λ t. ap copies_in (at t);
      tiles = λ t. subst (λ (o : Option StoreView). IfSome o HasTile) (sym (at t)) (s.tiles t);
      lens = lens_same d n at;
      absent = λ t none. at t ∙ none;
      lines = λ t line is. subst (λ (o : Option StoreView). IfSome o (λ store. IsSomeAnd line (IsLineOf store))) (sym (at t)) is;
      blocks = λ q. ⊎_elim
          (λ (e : q ≡ to). subst (λ (x : ℕ). block_home (cells_of_copy n x) ≡ block_home (cells_of_copy d x)) (sym e)
          (home-moved (cells_of_copy d from) (cells_of_copy d to) (cells_of_copy n to) lo hi ch.memories.blocks.here))
          (λ (ne : q ≢ to). ap block_home (ch.memories.blocks.others q ne))
          (cases_eq q to);
      whole = λ q. ⊎_elim
          (λ (e : q ≡ to). subst (λ (x : ℕ). IfSome (cells_of_copy n x) IsWhole) (sym e)
          (whole-moved (cells_of_copy d from) (cells_of_copy d to) (cells_of_copy n to) lo hi ch.memories.blocks.here (s.whole from) (s.whole to)
          (source_block d from to lo hi s c ordered) (target_block d from to lo hi s c ordered)))
          (λ (ne : q ≢ to). subst (λ (o : Option BlockView). IfSome o IsWhole) (sym (ch.memories.blocks.others q ne)) (s.whole q))
          (cases_eq q to);
      next = next;
      next_copy = ch.memories.next;
      ranks = ch.memories.ranks;
      capacity = ch.memories.capacity;
      used = λ space. omega (arith, ch.memories.used space, taken-copied (cells_of_copy d from) (cells_of_copy d to) space lo hi);
    }

module _ (d n : DirectoryView) (from to lo hi : ℕ) (sound : IsSound d) (can : CanMove d from to lo hi) (ordered : lo ≤ hi)
    (missing : IsStaleAt d to lo hi)
    (ch : Changes d.spaces n.spaces to (copied lo hi (cells_of_copy d from) (cells_of_copy d to)) None (Copy from to lo hi))
    (target : SetsAt (copy_at d to) (copy_at n to) lo hi Valid) (others : (q : ℕ) → q ≢ to → copy_at n q ≡ copy_at d q)
    (room : IfSome (copy_at n to) (λ held. changes_in (store_at d held.store) + held.expected ≤ held.states.reserved))
    (stores : n.stores ≡ d.stores) (next : n.next ≡ d.next) (messages : n.messages ≡ d.messages) (aside : n.aside ≡ d.aside) where
  pub values : TakesIn (cell_in (cells_of_copy d from)) (cell_in (cells_of_copy d to)) (cell_in (cells_of_copy n to)) lo hi
  values = values_moved d n from to lo hi sound can ordered ch.memories.blocks.here

  pub reshapes : Reshapes d n
  reshapes = reshapes-moved d n from to lo hi (Copy from to lo hi) sound can ordered ch stores next
      (fill.homes (copy_at d) (copy_at n) (cells_of_copy d) (cells_of_copy n) from to lo hi target others values ch.memories.blocks.others)
      (λ q. ⊎_elim
      (λ (e : q ≡ to). subst (λ (x : ℕ). IfSome (copy_at n x) IsFit) (sym e) (target.fit (sound.fit to)))
      (λ (ne : q ≢ to). subst (λ (o : Option Held). IfSome o IsFit) (sym (others q ne)) (sound.fit q))
      (cases_eq q to))
      (λ q. ⊎_elim
      (λ (e : q ≡ to). subst (λ (x : ℕ). IfSome (copy_at n x) (λ held. changes_in (store_at d held.store) + held.expected ≤ held.states.reserved)) (sym e) room)
      (λ (ne : q ≢ to). subst (λ (o : Option Held). IfSome o (λ held. changes_in (store_at d held.store) + held.expected ≤ held.states.reserved)) (sym (others q ne)) (sound.room q))
      (cases_eq q to))

  expected_kept : (q : ℕ) → expected_in (copy_at n q) ≡ expected_in (copy_at d q)
  expected_kept q = ⊎_elim
      (λ (e : q ≡ to). subst (λ (x : ℕ). expected_in (copy_at n x) ≡ expected_in (copy_at d x)) (sym e) target.expected)
      (λ (ne : q ≢ to). ap expected_in (others q ne))
      (cases_eq q to)

  owner_before : (q i : ℕ) → state_in (copy_at n q) i ≡ Owner → HasOwner n d q i
  owner_before q i own =
      let o = fill.owner_before (copy_at d) (copy_at n) (cells_of_copy d) (cells_of_copy n) from to lo hi target others values ch.memories.blocks.others q i own in
      record { at = q; store = sym (ap home_store (reshapes.homes q)); owns = o.0; cell = sym o.1 }

  pub sound-fill : n.owed ≤ n.ready → n.ready + n.aside ≤ n.spaces.journal.spare → IsSound n
  sound-fill owed ready = sound-reshaped d n sound reshapes
      (fill.coherent (copy_at d) (copy_at n) (cells_of_copy d) (cells_of_copy n) from to lo hi target others values ch.memories.blocks.others can.store can.readable sound.coherent)
      (mailed-so d n sound.mailed messages aside ch.memories.next next reshapes.homes expected_kept owner_before)
      owed ready

  mark_filled : (m : Machine) → IsLike m d → (q i : ℕ) → q ≡ to → lo ≤ i → i < hi
      → (fills to lo hi (m.cells from) m).marks q i ≡ mark_of (state_in (copy_at n q) i)
  mark_filled m l q i e above below =
      ap (λ (t : Bool). if t then filled_mark (m.marks q i) else m.marks q i) (and_yes (q == to) (is_within lo hi i) (eq_yes q to e) (within_yes lo hi i above below))
      ∙ ap filled_mark (ap (λ x. m.marks x i) e ∙ l.marks to i can.target ∙ ap mark_of (missing i above below))
      ∙ sym (ap mark_of (fill.state_filled (copy_at d) (copy_at n) (cells_of_copy d) (cells_of_copy n) from to lo hi target others values ch.memories.blocks.others q i e above below))

  -- an index that is not filled keeps its mark and its cell
  unfilled : (m : Machine) (q i : ℕ) → (q ≢ to) ⊎ ((i < lo) ⊎ (hi ≤ i))
      → ((fills to lo hi (m.cells from) m).marks q i ≡ m.marks q i) × ((fills to lo hi (m.cells from) m).cells q i ≡ m.cells q i)
  unfilled m q i out = (
    ap (λ (t : Bool). if t then filled_mark (m.marks q i) else m.marks q i) (no q i out),
    ap (λ (t : Bool). if t then m.cells from i else m.cells q i) (no q i out),
  )
    where
      no : (q i : ℕ) → (q ≢ to) ⊎ ((i < lo) ⊎ (hi ≤ i)) → ((q == to) && is_within lo hi i) ≡ false
      no q i out = ⊎_elim
          (λ (ne : q ≢ to). Rattle.sk_coherence_laws.proofs.TracedWrite.and_no (q == to) (is_within lo hi i) (inl (eq_no q to ne)))
          (λ (o : (i < lo) ⊎ (hi ≤ i)). Rattle.sk_coherence_laws.proofs.TracedWrite.and_no (q == to) (is_within lo hi i) (inr (Rattle.sk_coherence_laws.proofs.TracedWrite.within_no lo hi i o)))
          out

  -- the copy that is filled at one of the indices, or anything else
  split : (P : Type 0) (q i : ℕ) → (q ≡ to → lo ≤ i → i < hi → P) → ((q ≢ to) ⊎ ((i < lo) ⊎ (hi ≤ i)) → P) → P
  split P q i filled out = ⊎_elim
      (λ (e : q ≡ to). fill.within_or P lo hi i (filled e) (λ o. out (inr o)))
      (λ (ne : q ≢ to). out (inl ne))
      (cases_eq q to)

  state_else : (q i : ℕ) → (q ≢ to) ⊎ ((i < lo) ⊎ (hi ≤ i)) → state_in (copy_at n q) i ≡ state_in (copy_at d q) i
  state_else q i out = ⊎_elim
      (λ (ne : q ≢ to). ap (λ o. state_in o i) (others q ne))
      (λ (o : (i < lo) ⊎ (hi ≤ i)). ⊎_elim
      (λ (e : q ≡ to). subst (λ (x : ℕ). state_in (copy_at n x) i ≡ state_in (copy_at d x) i) (sym e)
      (⊎_elim (λ (b : i < lo). target.states.before i b) (λ (b : hi ≤ i). target.states.after i b) o))
      (λ (ne : q ≢ to). ap (λ o. state_in o i) (others q ne))
      (cases_eq q to))
      out

  cell_else : (q i : ℕ) → (q ≢ to) ⊎ ((i < lo) ⊎ (hi ≤ i)) → cell_in (cells_of_copy n q) i ≡ cell_in (cells_of_copy d q) i
  cell_else q i out = ⊎_elim
      (λ (ne : q ≢ to). ap (λ o. cell_in o i) (ch.memories.blocks.others q ne))
      (λ (o : (i < lo) ⊎ (hi ≤ i)). ⊎_elim
      (λ (e : q ≡ to). subst (λ (x : ℕ). cell_in (cells_of_copy n x) i ≡ cell_in (cells_of_copy d x) i) (sym e)
      (⊎_elim (λ (b : i < lo). values.before i b) (λ (b : hi ≤ i). values.after i b) o))
      (λ (ne : q ≢ to). ap (λ o. cell_in o i) (ch.memories.blocks.others q ne))
      (cases_eq q to))
      out

  pub like-fill : (m : Machine) → IsLike m d → IsLike (fills to lo hi (m.cells from) m) n
  like-fill m l = like-reshaped d n m (fills to lo hi (m.cells from) m) l reshapes refl refl refl refl
      (λ q i some. split ((fills to lo hi (m.cells from) m).marks q i ≡ mark_of (state_in (copy_at n q) i)) q i
      (mark_filled m l q i)
      (λ out. (unfilled m q i out).0 ∙ l.marks q i (some_home (copy_at n q) (copy_at d q) (reshapes.homes q) some) ∙ ap mark_of (sym (state_else q i out))))
      (λ q i readable. split ((fills to lo hi (m.cells from) m).cells q i ≡ cell_in (cells_of_copy n q) i) q i
      (λ e above below.
      ap (λ (t : Bool). if t then m.cells from i else m.cells q i) (and_yes (q == to) (is_within lo hi i) (eq_yes q to e) (within_yes lo hi i above below))
      ∙ l.cells from i (can.readable i above below)
      ∙ sym (subst (λ (x : ℕ). cell_in (cells_of_copy n x) i ≡ cell_in (cells_of_copy d from) i) (sym e) (values.inside i above below)))
      (λ out. (unfilled m q i out).1 ∙ l.cells q i (λ e. readable (state_else q i out ∙ e)) ∙ sym (cell_else q i out)))
      (like-mail-kept m.messages m.copies d n l.messages messages ch.memories.next)

  pub traced-fill : TracesStep d n (Copy from to lo hi)
  traced-fill m l = ((some_of m.memory _ l.memory, can-copy m d from to lo hi l can ordered), like-fill m l)
