-- Which tiles of recorded calls the events of a run demand.
use Rattle.std.specs.Prelude.{ℕ, ◌/◌, ◌==◌, nat_le, Bool, true, false, not, ◌&&◌, if◌then◌else◌, List, [], ◌∷◌, ◌++◌, length, map, filter, flat_map, Some, None, slice_get}
use Rattle.std.specs.List.{list_all}
use Rattle.sk_blocks.specs.Kernels.{tile_count}
use Rattle.sk_blocks.specs.Ranges.{numbers_from}
use Rattle.sk_isa.specs.Objects.{is_marked}
use Rattle.sk_isa.specs.declared.object.Object.{Object}
use Rattle.sk_world.specs.Events.{Event, Made, Taken, Mapped, Ran, Read, Poked, Left, Dumped}
use Rattle.sk_demand.specs.Versions.{Version, State, no_versions, has, binding_at, version_of, containers_in, with_version, without_binding, is_complete, reached, pending_versions, is_read_by_pending}

-- a tile of a version; where the version is recorded, of its call too
pub record VersionTile : Type 0 where
  pub version : ℕ
  pub tile : ℕ

-- What an event demands: whether a flush comes first, the tiles of recorded calls that were not demanded before, in order and
-- each once, whether a call keeps the version of its result, and whether an element write goes to a copy of the version.
pub record Demand : Type 0 where
  pub flushes : Bool
  pub tiles : List VersionTile
  pub keeps : Bool
  pub copies : Bool

-- ---- demanding tiles

-- The tiles that are newly demanded where one is: its own, and the same tile of the inputs of each recorded version among
-- these, in the order of recording.
abbrev pub newly_demanded : List Version → VersionTile → List VersionTile
newly_demanded versions asked =
    map (λ (version : Version). record { version = version.number; tile = asked.tile })
    (filter (λ (version : Version). version.recorded && not (has version.tiles asked.tile))
    (reached (λ number. number == asked.version) (λ (version : Version). version.recorded) versions))

-- the version with these tiles demanded, where they are its own
abbrev pub with_demanded : List VersionTile → Version → Version
with_demanded tiles version = record version {
  tiles = version.tiles
      ++ map (λ (at : VersionTile). at.tile) (filter (λ (at : VersionTile). at.version == version.number) tiles);
}

-- tiles are demanded one after another: the versions then, and the tiles that are new
abbrev pub demanding : List VersionTile → List Version → List Version × List VersionTile
demanding [] versions = (versions, [])
demanding (asked ∷ more) versions =
    let tiles : List VersionTile = newly_demanded versions asked in
    let rest : List Version × List VersionTile = demanding more (map (with_demanded tiles) versions) in
    (rest.0, tiles ++ rest.1)

-- a whole use of a version demands each tile of it
abbrev pub whole_version : (size : ℕ) → State → (number : ℕ) → List VersionTile
whole_version size state number = elim (slice_get state.versions number) [
  | Some version ↦ map (λ tile. record { version = number; tile = tile }) (numbers_from 0 (tile_count size version.cells))
  | None ↦ []
]

-- whole uses of containers, one after another
abbrev pub whole_uses : (size : ℕ) → State → (containers : List ℕ) → List VersionTile
whole_uses size state containers = flat_map (λ container. whole_version size state (version_of state container)) containers

-- every function of the instance is marked as one that never traps
abbrev pub is_safe_instance : Object → (instance : ℕ) → Bool
is_safe_instance object instance = elim (slice_get object.instances instance) [
  | Some plan ↦ list_all (is_marked object) plan.functions
  | None ↦ false
]

-- ---- events, with tiles of so many elements and at most so many recorded versions that are kept and not complete

module _ (object : Object) (size lineage : ℕ) where
  -- a flush comes before a call is recorded where no more recorded versions may be kept and not complete
  abbrev pub flushes_before : State → Event → Bool
  flushes_before state (Mapped call result) = nat_le lineage (length (pending_versions size state))
  flushes_before state event = false

  -- The tiles that an event asks for, new or not: an element read asks for the tile of its index; a flush, and a dump, for
  -- whole uses of every container in scope; a call that is run at once for whole uses of its operands; and an element write
  -- for a whole use of its container.
  abbrev pub asked_tiles : State → Event → List VersionTile
  asked_tiles state (Made container sizes fill) = []
  asked_tiles state (Taken container sizes cells) = []
  asked_tiles state (Mapped call result) =
      if flushes_before state (Mapped call result) then whole_uses size state (containers_in state) else []
  asked_tiles state (Ran call settings result trapped) = whole_uses size state call.operands
  asked_tiles state (Read container index) = record { version = version_of state container; tile = index / size } ∷ []
  asked_tiles state (Poked container index cell) = whole_uses size state (container ∷ [])
  asked_tiles state (Left container) = []
  asked_tiles state Dumped = whole_uses size state (containers_in state)

  -- the state once what the event asks for is demanded
  abbrev pub state_demanded : State → Event → State
  state_demanded state event = record state { versions = (demanding (asked_tiles state event) state.versions).0 }

  -- a version, by its number, is complete
  abbrev pub is_complete_at : State → (number : ℕ) → Bool
  is_complete_at state number = elim (slice_get state.versions number) [ Some version ↦ is_complete size version | None ↦ false ]

  -- Once its operands were used, a call that is run at once keeps the version of its result where every function of its
  -- instance is safe, and that version is complete, is no operand of the call and is no input of a kept version that is not
  -- complete. A call that trapped keeps none.
  abbrev pub keeps_version : State → Event → Bool
  keeps_version demanded (Ran call settings (Some result) false) =
      let version : ℕ = version_of demanded result in
      is_safe_instance object call.instance && is_complete_at demanded version
      && not (has (map (version_of demanded) call.operands) version) && not (is_read_by_pending size demanded version)
  keeps_version demanded event = false

  -- An element write goes to a copy where its container's version, once it was used, is an input of a kept version that is not
  -- complete.
  abbrev pub copies_version : State → Event → Bool
  copies_version demanded (Poked container index cell) = is_read_by_pending size demanded (version_of demanded container)
  copies_version demanded event = false

  abbrev pub demand_of : State → Event → Demand
  demand_of state event = record {
    flushes = flushes_before state event;
    tiles = (demanding (asked_tiles state event) state.versions).1;
    keeps = keeps_version (state_demanded state event) event;
    copies = copies_version (state_demanded state event) event;
  }

  -- a container in scope is bound to a new version
  abbrev pub rebinding : (container : ℕ) → (recorded : Bool) → (inputs : List ℕ) → State → State
  rebinding container recorded inputs state = with_version container (binding_at state container).sizes recorded inputs state

  -- What an event binds once what it asks for is demanded: a recorded call its result to a recorded version over those of its
  -- operands. A declaration, an input, a call that does not keep its result's version and an element write to a copy give a
  -- version that is not recorded.
  abbrev pub binds : State → Event → State
  binds demanded (Made container sizes fill) = with_version container sizes false [] demanded
  binds demanded (Taken container sizes cells) = with_version container sizes false [] demanded
  binds demanded (Mapped call result) = rebinding result true (map (version_of demanded) call.operands) demanded
  binds demanded (Ran call settings (Some result) false) =
      if keeps_version demanded (Ran call settings (Some result) false) then demanded else rebinding result false [] demanded
  binds demanded (Ran call settings (Some result) true) = demanded
  binds demanded (Ran call settings None trapped) = demanded
  binds demanded (Read container index) = demanded
  binds demanded (Poked container index cell) =
      if copies_version demanded (Poked container index cell) then rebinding container false [] demanded else demanded
  binds demanded (Left container) = without_binding container demanded
  binds demanded Dumped = demanded

  abbrev pub after_event : State → Event → State
  after_event state event = binds (state_demanded state event) event

  -- the state behind some events
  abbrev pub after_events : State → List Event → State
  after_events state [] = state
  after_events state (event ∷ events) = after_events (after_event state event) events

  -- what each event demands, one after another
  abbrev pub demands_from : State → List Event → List Demand
  demands_from state [] = []
  demands_from state (event ∷ events) = demand_of state event ∷ demands_from (after_event state event) events

  -- the same of a run
  abbrev pub demands_of : List Event → List Demand
  demands_of = demands_from no_versions
