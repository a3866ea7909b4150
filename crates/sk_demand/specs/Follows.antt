-- When a trace tells of the events of a run, where a table chooses how calls are run.
use Rattle.std.specs.Prelude.{◌≡◌, ℕ, List, [], ◌∷◌, ◌++◌, length, Some, None}
use Rattle.std.specs.declared.option.Option.{Option}
use Rattle.sk_isa.specs.declared.object.Object.{Object}
use Rattle.sk_legality.specs.Legality.{after_states}
use Rattle.sk_select.specs.declared.tuning.Tuning.{Tuning}
use Rattle.sk_spaces.specs.Machine.{start, replaced}
use Rattle.sk_spaces.specs.Rules.{after_by, after_all_by}
use Rattle.sk_spaces.specs.declared.step.Step.{Step}
use Rattle.sk_spaces.specs.declared.step.Step.TheVariants as line
use Rattle.sk_world.specs.Events.{Event, Mapped}
use Rattle.sk_demand.specs.Demand.{after_event}
use Rattle.sk_demand.specs.OwnSteps.{own_steps}
use Rattle.sk_demand.specs.Pieces.{Standing, IsPiece}
use Rattle.sk_demand.specs.Versions.{no_versions}

-- the line of the memories by a table
abbrev pub memory_step : Tuning → Step
memory_step table = line.Memory table.ranks table.capacity table.tile table.lineage

-- the calls of recorded versions, with this one's of the next version where the event is a call that is recorded
abbrev pub calls_after : Standing → Event → (number : ℕ) → ℕ → Option ℕ
calls_after standing (Mapped call result) number = replaced standing.calls (length standing.state.versions) (Some number)
calls_after standing event number = standing.calls

-- behind an event that made these steps
abbrev pub standing_after : Object → Tuning → Standing → Event → (number : ℕ) → (piece : List Step) → Standing
standing_after object table standing event number piece = record {
  state = after_event object table.tile table.lineage standing.state event;
  machine = after_all_by after_states standing.machine piece;
  calls = calls_after standing event number;
}

-- The steps are cut into one piece for each event, in order. A piece may have steps besides that make or free room, or move
-- cells between copies of one store.
abbrev pub FollowsFrom : Object → Tuning → Standing → List Event → List Step → Type 0
FollowsFrom object table standing [] steps = steps ≡ []
FollowsFrom object table standing (event ∷ events) steps =
    (piece : List Step) × (later : List Step) × (number : ℕ) × (steps ≡ piece ++ later)
    × IsPiece object table standing event number (own_steps standing.machine piece)
    × FollowsFrom object table (standing_after object table standing event number piece) events later

-- behind the line of the memories
abbrev pub first_standing : Tuning → Standing
first_standing table = record { state = no_versions; machine = after_by after_states start (memory_step table); calls = λ version. None }

-- The line of the memories with what the table says, and then the pieces of all events.
abbrev pub Follows : Object → Tuning → List Event → List Step → Type 0
Follows object table events [] = ⊥
Follows object table events (first ∷ steps) =
    (first ≡ memory_step table) × FollowsFrom object table (first_standing table) events steps
