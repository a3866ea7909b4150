-- What a journal keeps of the steps that it was given.
use Rattle.std.specs.Prelude.{◌≡◌, ℕ, ◌+◌, ◌-◌, ◌^◌, ◌≤◌, min, Bool, true, false, List, [], ◌∷◌, ◌++◌, Some, None}
use Rattle.std.specs.declared.option.Option.{Option}
use Rattle.sk_spaces.specs.declared.step.Step.{Step}
use Rattle.sk_spaces.specs.declared.step.Step.TheVariants.{Kernel, Copy, Back, Send}
use Rattle.sk_spaces.specs.declared.totals.Totals.{Totals}

-- the steps that a journal was given, where it tells them; what it counted of them; and for how many more steps it has
-- room already
pub record JournalView : Type 0 where
  pub steps : Option (List Step)
  pub totals : Totals
  pub spare : ℕ

-- a sum that stands still at the greatest number of 64 bits
abbrev pub bounded_sum : ℕ → ℕ → ℕ
bounded_sum a b = min (a + b) (2 ^ 64 - 1)

-- how many cells a step moves from one copy to another
abbrev pub cells_moved : Step → ℕ
cells_moved (Copy source target lo hi) = hi - lo
cells_moved (Back source target lo hi) = hi - lo
cells_moved (Send message source target lo hi) = hi - lo
cells_moved _ = 0

-- how many kernels a step is
abbrev pub kernels_in : Step → ℕ
kernels_in (Kernel call kind part lo hi out trapped inputs) = 1
kernels_in _ = 0

-- how many cells the range of a kernel has
abbrev pub work_in : Step → ℕ
work_in (Kernel call kind part lo hi out trapped inputs) = hi - lo
work_in _ = 0

-- how many cells a step moves from one space to another; far says that the spaces of its two copies differ
abbrev pub moved_in : Bool → Step → ℕ
moved_in true step = cells_moved step
moved_in false step = 0

-- the totals with one more step
abbrev pub with_step : Step → Bool → Totals → Totals
with_step step far totals = record {
  kernels = bounded_sum totals.kernels (kernels_in step);
  work = bounded_sum totals.work (work_in step);
  moved = bounded_sum totals.moved (moved_in far step);
}

-- no steps
abbrev pub no_totals : Totals
no_totals = record { kernels = 0; work = 0; moved = 0 }

-- a told list with one more step at its end
abbrev pub with_last : Option (List Step) → Step → Option (List Step)
with_last None step = None
with_last (Some steps) step = Some (steps ++ step ∷ [])

-- what a journal that tells its steps has kept and counted stays
pub record IsSame (old new : JournalView) : Type 0 where
  pub steps : new.steps ≡ old.steps
  pub totals : new.totals ≡ old.totals

-- one more step is at the list's end and in the totals, and took the room of one step at most
pub record Notes (old new : JournalView) (step : Step) (far : Bool) : Type 0 where
  pub steps : new.steps ≡ with_last old.steps step
  pub totals : new.totals ≡ with_step step far old.totals
  pub spare : old.spare ≤ new.spare + 1
