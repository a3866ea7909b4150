-- A new container.
use Rattle.std.specs.Prelude.{◌≡◌, ◌≢◌, ℕ, ℤ, ◌+◌, ◌<◌, ◌≤◌, List, replicate, Some, None, IsSome, option_map, ◌⊎◌}
use Rattle.sk_base.specs.declared.number.Ty.{Ty}
use Rattle.sk_base.specs.Shape.{cells_of, shape_of}
use Rattle.sk_spaces.specs.declared.step.Step.{Step}
use Rattle.sk_spaces.specs.declared.step.Step.TheVariants.{Store, Fill}
use Rattle.sk_spaces.specs.Machine.{Machine, Home}
use Rattle.sk_copy_states.specs.Copies.{pins_in, expected_in}
use Rattle.sk_copy_states.specs.Stores.{opened}
use Rattle.sk_messages.specs.Messages.{Spoils}
use Rattle.sk_coherence_laws.specs.Directory.{DirectoryView, copy_at, store_at, mail_at}
use Rattle.sk_coherence_laws.specs.HostBlocks.{home_at}
use Rattle.sk_coherence_laws.specs.Retires.{IsClosing}
use Rattle.sk_coherence_laws.specs.Serves.{GrowsAt, WasEvicted, unlisted}
use Rattle.sk_coherence_laws.specs.Steps.{Traces, IsAlloc}
use Rattle.sk_container.specs.declared.faults.ContainerFault.{ContainerFault}
use Rattle.sk_container.specs.Cells.{HasCell}
use Rattle.sk_container.specs.Faults.{IsContainerFault}
use Rattle.sk_container.specs.Lines.{TracesOne, TracesThen}
use Rattle.sk_container.specs.Smart.{SmartView, Holds}

-- what was there before a store was opened stays: each index keeps its owner's cell, each copy that is pinned stays, and every store
-- but for the list of its copies; of the step as which the next write is noted `Makes` and `Undoes` speak
pub record Spares (old new : DirectoryView) : Type 0 where
  pub stays : (q : ℕ) → IsSome (copy_at old q) → GrowsAt old new q ⊎ WasEvicted old new q
  pub fresh : (q : ℕ) → copy_at old q ≡ None → IsSome (copy_at new q)
      → (old.spaces.memories.next ≤ q) × (pins_in (copy_at new q) ≡ 0) × (expected_in (copy_at new q) ≡ 0)
  pub owned : (t i : ℕ) (x : ℤ) → t ≢ old.next → HasCell old t i x → HasCell new t i x
  pub owners : (t i : ℕ) (x : ℤ) → t ≢ old.next → HasCell new t i x → HasCell old t i x
  pub stores : (t : ℕ) → t ≢ old.next → option_map unlisted (store_at new t) ≡ option_map unlisted (store_at old t)
  pub owed : new.owed ≡ old.owed
  pub aside : new.aside ≡ old.aside
  pub next_copy : old.spaces.memories.next ≤ new.spaces.memories.next
  pub ranks : new.spaces.memories.ranks ≡ old.spaces.memories.ranks
  pub capacity : new.spaces.memories.capacity ≡ old.spaces.memories.capacity

-- a new store has this cell at each index, every message is in flight still, and nothing else changed; but where it has cells, they
-- were written, and no step is left as which the next write is noted
pub record Makes (old new : DirectoryView) (smart : SmartView) (ty : Ty) (x : ℤ) : Type 0 where
  pub number : smart.store ≡ old.next
  pub next : new.next ≡ old.next + 1
  pub store : option_map unlisted (store_at new smart.store) ≡ Some (opened ty smart.shape None)
  pub holds : Holds new smart (replicate (cells_of smart.shape) x)
  pub spares : Spares old new
  pub mails : (number : ℕ) → mail_at new number ≡ mail_at old number
  pub messages : Spoils old.messages new.messages smart.store 0 (cells_of smart.shape)
  pub filled : 0 < cells_of smart.shape → new.named ≡ None
  pub empty : cells_of smart.shape ≡ 0 → new.named ≡ old.named

-- nothing that was there changed, nor the step as which the next write is noted, and every message is in flight still; where memory
-- was wanting for that too, the new store is left, and nobody owns an index of it
pub record Undoes (old new : DirectoryView) : Type 0 where
  pub spares : Spares old new
  pub mails : (number : ℕ) → mail_at new number ≡ mail_at old number
  pub messages : (len : ℕ) × Spoils old.messages new.messages old.next 0 len
  pub named : new.named ≡ old.named
  pub next : old.next ≤ new.next
  pub next_most : new.next ≤ old.next + 1
  pub unowned : (i : ℕ) (x : ℤ) → HasCell new old.next i x → ⊥

-- where the copy lies that has all cells of a new store
abbrev pub whole_home : ℕ → List ℕ → Home
whole_home s shape = home_at s 0 0 (cells_of shape)

-- the line of a new store was noted, and then, where it has cells, that of its copy on the host, if there was none, and one that
-- fills it
pub record NotesMade (old new : DirectoryView) (smart : SmartView) (ty : Ty) (x : ℤ) : Type 0 where
  pub opened : DirectoryView
  pub first : TracesOne (Store smart.store ty smart.shape) old opened
  pub filled : 0 < cells_of smart.shape
      → TracesThen (IsAlloc (whole_home smart.store smart.shape)) (λ home. home ≡ whole_home smart.store smart.shape)
      (λ copy. Fill copy 0 (cells_of smart.shape) x) opened new
  pub empty : cells_of smart.shape ≡ 0 → new ≡ opened

-- why a store s with this type and shape that is not filled takes a step: it is opened, its copy is made, or it is closed again
abbrev pub IsTrying : ℕ → Ty → List ℕ → Machine → Step → Type 0
IsTrying s ty shape m step = (step ≡ Store s ty shape) ⊎ IsAlloc (whole_home s shape) m step ⊎ IsClosing s (cells_of shape) m step

-- why a container of these sizes that is not made takes a step
abbrev pub IsMaking : ℕ → Ty → List ℤ → Machine → Step → Type 0
IsMaking s ty sizes m step = (shape : List ℕ) × (shape_of sizes ≡ Some shape) × IsTrying s ty shape m step

-- a new container of these sizes, with this cell at each index
pub record IsNew (old new : DirectoryView) (sizes : List ℤ) (ty : Ty) (x : ℤ) (smart : SmartView) : Type 0 where
  pub shape : shape_of sizes ≡ Some smart.shape
  pub makes : Makes old new smart ty x
  pub notes : NotesMade old new smart ty x

-- no container of these sizes, and why
pub record IsNotMade (old new : DirectoryView) (sizes : List ℤ) (ty : Ty) (fault : ContainerFault) : Type 0 where
  pub cause : IsContainerFault sizes fault
  pub early : shape_of sizes ≡ None → new ≡ old
  pub undoes : Undoes old new
  pub notes : Traces (IsMaking old.next ty sizes) old new
