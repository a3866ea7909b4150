-- The steps that a call notes, one after another.
use Rattle.std.specs.Prelude.{◌≡◌, ℕ, ◌<◌, ◌≤◌, ◌==◌, Bool, false, not, List, [], ◌∷◌, ◌++◌, Some, ⊤, option_map, ◌⊎◌}
use Rattle.sk_spaces.specs.declared.step.Step.{Step}
use Rattle.sk_spaces.specs.declared.step.Step.TheVariants.{Alloc, Copy, Back, Send}
use Rattle.sk_spaces.specs.declared.totals.Totals.{Totals}
use Rattle.sk_spaces.specs.Journal.{with_step}
use Rattle.sk_spaces.specs.Machine.{Machine, Home, CopyState, live, stale, owner}
use Rattle.sk_spaces.specs.Rules.{IsLegal, IsThere, after, after_all}
use Rattle.sk_copy_states.specs.Copies.{home_in}
use Rattle.sk_coherence_laws.specs.Directory.{DirectoryView, copy_at}
use Rattle.sk_coherence_laws.specs.Moves.{AreNear}
use Rattle.sk_coherence_laws.specs.Traced.{IsLike, live_home}

-- whether two copies are there and lie in different spaces
abbrev pub lie_apart : CopyState → CopyState → Bool
lie_apart (live one) (live other) = not (one.space == other.space)
lie_apart _ _ = false

-- whether a step takes cells from one space to another
abbrev pub goes_far : Machine → Step → Bool
goes_far m (Copy source target lo hi) = lie_apart (m.copies source) (m.copies target)
goes_far m (Back source target lo hi) = lie_apart (m.copies source) (m.copies target)
goes_far m (Send message source target lo hi) = lie_apart (m.copies source) (m.copies target)
goes_far m _ = false

-- what was counted after these steps
abbrev pub counted : Machine → List Step → Totals → Totals
counted m [] totals = totals
counted m (step ∷ steps) totals = counted (after m step) steps (with_step step (goes_far m step) totals)

-- the steps are legal one after another, and P is true of each where it comes
abbrev pub AreDone : (Machine → Step → Type 0) → Machine → List Step → Type 0
AreDone P m [] = ⊤
AreDone P m (step ∷ steps) = IsLegal m step × P m step × AreDone P (after m step) steps

-- Exactly these steps were noted. Wherever the machine is like the directory before, they are legal, P is true of each where
-- it comes, they lead to a machine that is like the directory after, and the journal counted each.
pub record Traces (P : Machine → Step → Type 0) (old new : DirectoryView) : Type 0 where
  pub steps : List Step
  pub told : new.spaces.journal.steps ≡ option_map (λ done. done ++ steps) old.spaces.journal.steps
  pub done : (m : Machine) → IsLike m old → AreDone P m steps × IsLike (after_all m steps) new
  pub counted_all : (m : Machine) → IsLike m old → new.spaces.journal.totals ≡ counted m steps old.spaces.journal.totals

-- no copy lies so
abbrev pub IsAbsent : Home → Machine → Type 0
IsAbsent home m = (q : ℕ) → live_home (m.copies q) ≡ Some home → ⊥

-- the copy that lies so is made, where there is none
pub record IsAlloc (home : Home) (m : Machine) (step : Step) : Type 0 where
  pub id : ℕ
  pub step_is : step ≡ Alloc id home.store home.space home.lo home.hi
  pub absent : IsAbsent home m

-- the copy with number q is stale at an index, if it is of the target's store and lies in its space
abbrev pub IsStaleBeside : Machine → ℕ → ℕ → ℕ → Type 0
IsStaleBeside m target i q = AreNear (live_home (m.copies q)) (live_home (m.copies target)) → m.marks q i ≡ stale

-- why an index of a copy is filled from this source: it is the copy of least number in the target's space that may be read there,
-- or there is none, and it is the owner
abbrev pub IsSource : Machine → ℕ → ℕ → ℕ → Type 0
IsSource m source target i =
    (AreNear (live_home (m.copies source)) (live_home (m.copies target)) × ((q : ℕ) → q < source → IsStaleBeside m target i q))
    ⊎ ((m.marks source i ≡ owner) × ((q : ℕ) → IsStaleBeside m target i q))

-- some of the indices from ≤ i < to of the copy that lies so are filled, where they were stale, each from the copy from which it
-- has to come
pub record IsFill (home : Home) (from to : ℕ) (m : Machine) (step : Step) : Type 0 where
  pub source : ℕ
  pub target : ℕ
  pub lo : ℕ
  pub hi : ℕ
  pub step_is : step ≡ Copy source target lo hi
  pub target_home : live_home (m.copies target) ≡ Some home
  pub above : from ≤ lo
  pub some : lo < hi
  pub below : hi ≤ to
  pub missing : (i : ℕ) → lo ≤ i → i < hi → m.marks target i ≡ stale
  pub sources : (i : ℕ) → lo ≤ i → i < hi → IsSource m source target i

-- the copy that lies so is made, or some of these indices of it are filled
abbrev pub IsServing : Home → ℕ → ℕ → Machine → Step → Type 0
IsServing home from to m step = IsAlloc home m step ⊎ IsFill home from to m step

-- no copy of the store in the space of the one that lies so may be read at an index
abbrev pub IsWanting : Home → Machine → ℕ → Type 0
IsWanting home m i = (q : ℕ) → AreNear (live_home (m.copies q)) (Some home) → m.marks q i ≡ stale

-- the copy is there and lies in the space
abbrev pub StandsIn : ℕ → CopyState → Type 0
StandsIn space state = IsThere state (λ home. home.space ≡ space)

-- only indices from ≤ i < to of one copy were filled
abbrev pub AreFilled : DirectoryView → DirectoryView → ℕ → ℕ → ℕ → Type 0
AreFilled old new copy from to = (home : Home) → home_in (copy_at old copy) ≡ Some home → Traces (IsFill home from to) old new
