-- A copy that is acquired for reading, read, and let go again.
use Rattle.std.proofs.Common.{◌≡◌, ◌≢◌, ℕ, ℤ, ◌+◌, ◌-◌, ◌<◌, ◌≤◌, length, List, Option, Some, None, IfSome, IsSome, slice_index_or, pos, arith, ⊎_elim, refl, sym, subst, ◌∙◌, ap}
use Rattle.std.proofs.lemmas.Bool.{cases_eq}
use Rattle.sk_spaces.specs.Blocks.{BlockView, IsWhole, cell_of}
use Rattle.sk_spaces.specs.Machine.{Machine, Home}
use Rattle.sk_spaces.specs.Spaces.{OnlyNotes}
use Rattle.sk_spaces.specs.declared.step.Step.{Step}
use Rattle.sk_spaces.specs.declared.step.Step.TheVariants as line
use Rattle.sk_copy_states.specs.declared.held.Held.{Held}
use Rattle.sk_copy_states.specs.Copies.{KeepsStates, home_in, home_store, store_in, state_in, cell_in, pins_in}
use Rattle.sk_copy_states.specs.Sources.{MayRead}
use Rattle.sk_coherence_laws.specs.Acquires.{PinsOne, Acquires}
use Rattle.sk_coherence_laws.specs.Directory.{DirectoryView, copy_at, store_at, cells_of_copy, block_home, IsSound}
use Rattle.sk_coherence_laws.specs.Owned.{IsOwned}
use Rattle.sk_coherence_laws.specs.Serves.{Serves}
use Rattle.sk_coherence_laws.specs.Steps.{Traces}
use Rattle.sk_coherence_laws.specs.Traced.{IsLike}
use Rattle.sk_coherence_laws.proofs.AcquireLemmas.{serves-unpinned}
use Rattle.sk_coherence_laws.proofs.KeptLemmas.{keeps_same}
use Rattle.sk_coherence_laws.proofs.ServesLemmas.{serves-trans, serves-kept}
use Rattle.sk_coherence_laws.proofs.TracesLemmas.{traces-trans, traces-none}
use Rattle.sk_coherence.proofs.RoomLemmas.{owned-stays}
use Rattle.sk_container.specs.Cells.{HasCell}
use Rattle.sk_container.specs.Lines.{TracesThen}
use Rattle.sk_container.proofs.AlterLemmas.{host_home}
use Rattle.sk_container.proofs.CellLemmas.{has-before, has-read, unpinned-back}
use Rattle.sk_container.proofs.HostLines.{traces-read, lies-so}
use Rattle.sk_container.proofs.PutLemmas.{Unpinned}

-- where the journal alone changed
pub serves-journal : (d n : DirectoryView) → n ≡ record d { spaces = n.spaces; ready = n.ready } → n.spaces.memories ≡ d.spaces.memories → Serves d n
serves-journal d n same memories = serves-kept d n
    (λ q. subst (λ (v : DirectoryView). KeepsStates (copy_at d q) (copy_at v q)) (sym same) (keeps_same (copy_at d q)))
    (λ q. ap (λ (v : DirectoryView). pins_in (copy_at v q)) same)
    (λ t. ap (λ (v : DirectoryView). store_at v t) same)
    memories (ap (λ (v : DirectoryView). v.next) same) (ap (λ (v : DirectoryView). v.owed) same) (ap (λ (v : DirectoryView). v.named) same)
    (ap (λ (v : DirectoryView). v.messages) same) (ap (λ (v : DirectoryView). v.aside) same)

-- the cell of an index that a block has
cell_within : (block : BlockView) (i : ℕ) → block.lo ≤ i → cell_of block i ≡ slice_index_or block.cells (i - block.lo) (pos 0)
cell_within block i above = grind arith

module _ (o : Option BlockView) (home : Home) (is : block_home o ≡ Some home) (cells : List ℤ) (has : IfSome o (λ block. cells ≡ block.cells)) where
  pub cell-listed : (i : ℕ) → home.lo ≤ i → cell_in o i ≡ slice_index_or cells (i - home.lo) (pos 0)
  cell-listed = listed o is has
    where
      listed : (o : Option BlockView) → block_home o ≡ Some home → IfSome o (λ block. cells ≡ block.cells) → (i : ℕ) → home.lo ≤ i → cell_in o i ≡ slice_index_or cells (i - home.lo) (pos 0)
      listed None is has i above = cc
      listed (Some block) is has i above =
          let l : block.lo ≡ home.lo = grind arith in
          cell_within block i (omega (arith, l, above)) ∙ ap (λ (k : ℕ). slice_index_or block.cells (i - k) (pos 0)) l ∙ ap (λ (xs : List ℤ). slice_index_or xs (i - home.lo) (pos 0)) (sym has)

  pub cells-long : IfSome o IsWhole → home.lo + length cells ≡ home.hi
  cells-long = long o is has
    where
      long : (o : Option BlockView) → block_home o ≡ Some home → IfSome o (λ block. cells ≡ block.cells) → IfSome o IsWhole → home.lo + length cells ≡ home.hi
      long None is has whole = cc
      long (Some block) is has whole =
          let l : block.lo ≡ home.lo = grind arith in
          let h : block.hi ≡ home.hi = grind arith in
          omega (arith, l, h, whole.cells, ap length has)

-- a was before, c has the copy pinned, and e has a pin less
module _ (a c e : DirectoryView) (s copy from to : ℕ) (x : Acquires a c copy) (sound : IsSound a)
    (home : home_in (copy_at c copy) ≡ Some (host_home s from to))
    (unpinned : Unpinned (copy_at c copy) (copy_at e copy)) (others : (q : ℕ) → q ≢ copy → copy_at e q ≡ copy_at c q)
    (same : e ≡ record c { copies = e.copies }) where
  back_at : (q : ℕ) → copy_at e q ≡ copy_at x.before q
  back_at q = ⊎_elim
      (λ (eq : q ≡ copy). subst (λ (k : ℕ). copy_at e k ≡ copy_at x.before k) (sym eq)
      (unpinned-back (copy_at x.before copy) (copy_at c copy) (copy_at e copy) x.there x.pins.here unpinned))
      (λ (ne : q ≢ copy). others q ne ∙ x.pins.others q ne)
      (cases_eq q copy)

  same_before : e ≡ record x.before { copies = e.copies }
  same_before = same ∙ ap (λ (v : DirectoryView). record v { copies = e.copies }) x.pins.rest

  pub serves-let-go : Serves a e
  serves-let-go = serves-trans a x.before e sound x.serves (serves-unpinned x.before e same_before back_at)

  home_go : home_in (copy_at e copy) ≡ Some (host_home s from to)
  home_go = go (copy_at c copy) (copy_at e copy) home unpinned
    where
      go : (o p : Option Held) → home_in o ≡ Some (host_home s from to) → Unpinned o p → home_in p ≡ Some (host_home s from to)
      go None p is not = cc
      go (Some held) p is not = ap home_in not ∙ is

  state_go : (i : ℕ) → state_in (copy_at e copy) i ≡ state_in (copy_at c copy) i
  state_go i = go (copy_at c copy) (copy_at e copy) home unpinned
    where
      go : (o p : Option Held) → home_in o ≡ Some (host_home s from to) → Unpinned o p → state_in p i ≡ state_in o i
      go None p is not = cc
      go (Some held) p is not = ap (λ o. state_in o i) not

  -- the line of the read, where the journal took it
  pub noted-read : (P : Machine → Step → Type 0) (Q : Home → Type 0) (n : DirectoryView) (i : ℕ) → Q (host_home s from to) → Traces P a c
      → ((m : Machine) → IsLike m c → IsLike m e) → from ≤ i → i < to
      → MayRead (copy_at c copy) i (i + 1) → OnlyNotes e.spaces n.spaces (line.Read copy i (i + 1)) → ((m : Machine) → IsLike m e → IsLike m n)
      → TracesThen P Q (λ (q : ℕ). line.Read q i (i + 1)) a n
  noted-read P Q n i lies traced like above below readable notes on = record {
    before = e;
    copy = copy;
    first = traces-trans P a c e traced (traces-none P c e (record {
      steps = ap (λ (v : DirectoryView). v.spaces.journal.steps) same;
      totals = ap (λ (v : DirectoryView). v.spaces.journal.totals) same;
    }) like);
    lies = lies-so e copy (host_home s from to) Q home_go lies;
    last = record {
      noted = notes.noted;
      traced = traces-read e copy i (i + 1) (host_home s from to) home_go refl above (omega (arith, below)) (omega arith)
          (λ k low high stale. readable k low high (sym (state_go k) ∙ stale)) n on;
    };
  }

pinned-home : (o p : Option Held) → IsSome o → IfSome o (λ held. p ≡ Some (record held { pins = held.pins + 1 })) → home_in p ≡ home_in o
pinned-home None p there is = cc
pinned-home (Some held) p there is = ap home_in is

pinned-state : (o p : Option Held) (i : ℕ) → IsSome o → IfSome o (λ held. p ≡ Some (record held { pins = held.pins + 1 })) → state_in p i ≡ state_in o i
pinned-state None p i there is = cc
pinned-state (Some held) p i there is = ap (λ o. state_in o i) is

-- a pin changes no cell
module _ (b c : DirectoryView) (copy : ℕ) (there : IsSome (copy_at b copy)) (p : PinsOne b c copy) where
  store_pinned : (q : ℕ) → store_in (copy_at c q) ≡ store_in (copy_at b q)
  store_pinned q = ⊎_elim
      (λ (e : q ≡ copy). subst (λ (k : ℕ). store_in (copy_at c k) ≡ store_in (copy_at b k)) (sym e) (ap home_store (pinned-home (copy_at b copy) (copy_at c copy) there p.here)))
      (λ (ne : q ≢ copy). ap store_in (p.others q ne))
      (cases_eq q copy)

  state_pinned : (q i : ℕ) → state_in (copy_at c q) i ≡ state_in (copy_at b q) i
  state_pinned q i = ⊎_elim
      (λ (e : q ≡ copy). subst (λ (k : ℕ). state_in (copy_at c k) i ≡ state_in (copy_at b k) i) (sym e) (pinned-state (copy_at b copy) (copy_at c copy) i there p.here))
      (λ (ne : q ≢ copy). ap (λ o. state_in o i) (p.others q ne))
      (cases_eq q copy)

  pub owned-pinned : (s i : ℕ) → IsOwned b s i → IsOwned c s i
  owned-pinned s i o = (o.0, store_pinned o.0 ∙ o.1, state_pinned o.0 i ∙ o.2)

  pub has-pinned : (s i : ℕ) (v : ℤ) → HasCell c s i v → HasCell b s i v
  has-pinned s i v h = record {
    at = h.at;
    store = sym (store_pinned h.at) ∙ h.store;
    owns = sym (state_pinned h.at i) ∙ h.owns;
    cell = sym (ap (λ (v : DirectoryView). cell_in (cells_of_copy v h.at) i) p.rest) ∙ h.cell;
  }

-- the cell of a copy that may be read is the one that the index had before
pub has-acquired : (a c : DirectoryView) (s copy from to i : ℕ) (x : Acquires a c copy) → IsSound c → IsOwned a s i
    → home_in (copy_at c copy) ≡ Some (host_home s from to) → MayRead (copy_at c copy) i (i + 1) → HasCell a s i (cell_in (cells_of_copy c copy) i)
has-acquired a c s copy from to i x sound o home readable =
    let b = x.before in
    let v = cell_in (cells_of_copy c copy) i in
    has-before a b s i v x.serves (has-pinned b c copy x.there x.pins s i v
    (has-read c s copy i sound (owned-pinned b c copy x.there x.pins s i (owned-stays a b s i x.serves o)) (ap home_store home)
    (readable i (omega arith) (omega arith))))

-- the cell, as it stands in the list of the copy's cells
pub has-listed : (a c : DirectoryView) (s copy from to i : ℕ) (cells : List ℤ) (x : Acquires a c copy) → IsSound c → IsOwned a s i
    → home_in (copy_at c copy) ≡ Some (host_home s from to) → MayRead (copy_at c copy) i (i + 1) → from ≤ i
    → IfSome (cells_of_copy c copy) (λ block. cells ≡ block.cells) → HasCell a s i (slice_index_or cells (i - from) (pos 0))
has-listed a c s copy from to i cells x sound o home readable above has =
    subst (λ (v : ℤ). HasCell a s i v) (cell-listed (cells_of_copy c copy) (host_home s from to) (sound.tied copy ∙ home) cells has i above)
    (has-acquired a c s copy from to i x sound o home readable)

pub listed-long : (c : DirectoryView) (s copy from to : ℕ) (cells : List ℤ) → IsSound c → home_in (copy_at c copy) ≡ Some (host_home s from to)
    → IfSome (cells_of_copy c copy) (λ block. cells ≡ block.cells) → from + length cells ≡ to
listed-long c s copy from to cells sound home has = cells-long (cells_of_copy c copy) (host_home s from to) (sound.tied copy ∙ home) cells has (sound.whole copy)
