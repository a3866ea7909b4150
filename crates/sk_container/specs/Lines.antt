-- The lines that a call notes.
use Rattle.std.specs.Prelude.{ℕ, IsSomeAnd}
use Rattle.sk_spaces.specs.declared.step.Step.{Step}
use Rattle.sk_spaces.specs.Machine.{Machine, Home}
use Rattle.sk_spaces.specs.Spaces.{NotesStep}
use Rattle.sk_copy_states.specs.Copies.{home_in}
use Rattle.sk_coherence_laws.specs.Directory.{DirectoryView, copy_at}
use Rattle.sk_coherence_laws.specs.Steps.{Traces, IsAlloc, IsServing}
use Rattle.sk_coherence_laws.specs.Traced.{TracesStep}
use Rattle.sk_container.specs.Parts.{IsHostOf}

-- the copy with the host's block of the indices lo ≤ i < hi of store s is made
abbrev pub IsPlacing : DirectoryView → ℕ → ℕ → ℕ → Machine → Step → Type 0
IsPlacing d s lo hi m step = (home : Home) × IsHostOf d s lo hi home × IsAlloc home m step

-- it is made, or some of these indices of it are filled, where they were stale, each from the copy from which it has to come
abbrev pub IsHosting : DirectoryView → ℕ → ℕ → ℕ → Machine → Step → Type 0
IsHosting d s lo hi m step = (home : Home) × IsHostOf d s lo hi home × IsServing home lo hi m step

-- exactly this line was noted; it is legal wherever the machine is like the directory before, and leads to one that is like the
-- directory after
pub record TracesOne (step : Step) (old new : DirectoryView) : Type 0 where
  pub noted : NotesStep old.spaces new.spaces step
  pub traced : TracesStep old new step

-- steps of which P is true were noted, and then this line of one copy, which lies so that Q is true, once
pub record TracesThen (P : Machine → Step → Type 0) (Q : Home → Type 0) (line : ℕ → Step) (old new : DirectoryView) : Type 0 where
  pub before : DirectoryView
  pub copy : ℕ
  pub first : Traces P old before
  pub lies : IsSomeAnd (home_in (copy_at before copy)) Q
  pub last : TracesOne (line copy) before new
