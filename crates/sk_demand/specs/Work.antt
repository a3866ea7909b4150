-- How many kernels the events of a run make, and over how many cells, where a table chooses how calls are run.
use Rattle.std.specs.Prelude.{ℕ, ◌-◌, Bool, false, if◌then◌else◌, List, [], ◌∷◌, ◌++◌, length, map, flat_map, sum, take, Option, Some, None, option_map, slice_get}
use Rattle.sk_arguments.specs.Operands.{element_operands}
use Rattle.sk_base.specs.declared.choice.Variant.{Variant}
use Rattle.sk_blocks.specs.Calls.{SizedCall}
use Rattle.sk_blocks.specs.Choices.{rule_elements, chosen_of}
use Rattle.sk_blocks.specs.Kernels.{KernelRun, call_kernels, tile_range}
use Rattle.sk_blocks.specs.Ranges.{range}
use Rattle.sk_isa.specs.declared.object.Object.{Object}
use Rattle.sk_isa.specs.declared.object.Plan.{Plan}
use Rattle.sk_parts.specs.Cut.{Part}
use Rattle.sk_select.specs.Choice.{choice_of}
use Rattle.sk_select.specs.declared.tuning.Tuning.{Tuning}
use Rattle.sk_tree.specs.InstanceSettings.{default_settings}
use Rattle.sk_tree.specs.declared.settings.Settings.{Settings}
use Rattle.sk_world.specs.Events.{CallOf, Event, Mapped, Ran}
use Rattle.sk_demand.specs.Demand.{VersionTile, demand_of, after_event}
use Rattle.sk_demand.specs.Versions.{State, no_versions, binding_at, version_of}

-- ---- how a call is run

-- a call with the sizes of what it works on; each version has a store of its own, which it keeps as long as its number, so that
-- the number stands for the store
abbrev pub sized_call : Plan → State → CallOf → Settings → (result : Option ℕ) → SizedCall
sized_call plan state call settings result = record {
  skeleton = plan.skeleton;
  settings = settings;
  elements = element_operands plan.skeleton plan.elements;
  operands = map (λ container. record { store = version_of state container; shape = (binding_at state container).sizes }) call.operands;
  result = option_map (λ container. (binding_at state container).sizes) result;
}

-- by which variant and in how many parts it is run by a table, at once or recorded
abbrev pub chosen_for : Tuning → Plan → (recorded : Bool) → SizedCall → Variant × ℕ
chosen_for table plan recorded sized =
    chosen_of recorded table.tile table.capacity sized (choice_of table plan (rule_elements sized))

-- the kernels of a call that is run at once, kind by kind; one that trapped has those of its first kind alone
abbrev pub run_kinds : Tuning → Plan → SizedCall → (trapped : Bool) → List (List KernelRun)
run_kinds table plan sized trapped =
    let chosen : Variant × ℕ = chosen_for table plan false sized in
    let kinds : List (List KernelRun) = call_kernels chosen.0 chosen.1 sized in
    if trapped then take 1 kinds else kinds

-- ---- the ranges of all kernels

-- the indices of a tile of a version
abbrev pub indices_of : (size : ℕ) → State → VersionTile → Part
indices_of size state at = elim (slice_get state.versions at.version) [
  | Some version ↦ tile_range size version.cells at.tile
  | None ↦ range 0 0
]

module _ (object : Object) (table : Tuning) where
  -- the ranges of the kernels of a call that is run at once
  abbrev pub run_ranges : State → Event → List Part
  run_ranges state (Ran call settings result trapped) = elim (slice_get object.instances call.instance) [
    | Some plan ↦ flat_map (map (λ (kernel : KernelRun). range kernel.lo kernel.hi))
        (run_kinds table plan (sized_call plan state call settings result) trapped)
    | None ↦ []
  ]
  run_ranges state event = []

  -- the ranges of the kernels of an event: one for each tile that it newly demands, and those of its call
  abbrev pub result_ranges_of : State → Event → List Part
  result_ranges_of state event =
      map (indices_of table.tile state) (demand_of object table.tile table.lineage state event).tiles ++ run_ranges state event

  abbrev pub result_ranges_from : State → List Event → List Part
  result_ranges_from state [] = []
  result_ranges_from state (event ∷ events) =
      result_ranges_of state event ++ result_ranges_from (after_event object table.tile table.lineage state event) events

-- how many kernels there are, and how many cells their ranges have together
pub record Work : Type 0 where
  pub kernels : ℕ
  pub cells : ℕ

abbrev pub work_of : Object → Tuning → List Event → Work
work_of object table events =
    let ranges : List Part = result_ranges_from object table no_versions events in
    record { kernels = length ranges; cells = sum (map (λ (part : Part). part.hi - part.lo) ranges) }

-- ---- the same events where no call is recorded

-- each call that is recorded is run at once in its place
abbrev pub run_at_once : Event → Event
run_at_once (Mapped call result) = Ran call default_settings (Some result) false
run_at_once event = event

abbrev pub at_once : List Event → List Event
at_once = map run_at_once
