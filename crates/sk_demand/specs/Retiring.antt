-- How long the tiles of recorded versions are kept in a trace.
use Rattle.std.specs.Prelude.{◌≡◌, ◌≢◌, ℕ, ◌-◌, ◌/◌, ◌==◌, true, false, if◌then◌else◌, List, [], ◌∷◌, ◌++◌, map, All, Some, None, IfSome, ⊤, filter}
use Rattle.std.specs.List.{list_all}
use Rattle.sk_base.specs.Shape.{cells_of}
use Rattle.sk_spaces.specs.Machine.{Machine, CallLine, Home, stale, live}
use Rattle.sk_spaces.specs.Rules.{after_by}
use Rattle.sk_spaces.specs.declared.step.Step.{Step}
use Rattle.sk_spaces.specs.declared.step.Step.TheVariants as line
use Rattle.sk_demand.specs.Reads.{shape_in, tile_in}
use Rattle.sk_demand.specs.Versions.{Version, State, has, with_binding, without_binding, is_bound, is_complete, kept_versions}

-- ---- the recorded versions of a trace, each by the number of its store and with the tiles that were computed, and the store of
-- each container

-- the version of this store with one more tile
abbrev pub with_tile : (store tile : ℕ) → Version → Version
with_tile store tile version = if version.number == store then record version { tiles = version.tiles ++ tile ∷ [] } else version

-- a tile of a recorded call was computed
abbrev pub after_tile : CallLine → (tile : ℕ) → State → State
after_tile told tile state = elim told.result [
  | Some store ↦ if told.recorded then record state { versions = map (with_tile store tile) state.versions } else state
  | None ↦ state
]

abbrev pub traced_after : Machine → Step → State → State
traced_after m (line.Call call text instance variant parts true (Some result) operands uniforms settings) state =
    let version : Version = record { number = result; recorded = true; inputs = operands; cells = cells_of (shape_in m result); tiles = [] } in
    record state { versions = state.versions ++ version ∷ [] }
traced_after m (line.Kernel call kind part lo hi out None inputs) state =
    elim (m.calls call) [ Some told ↦ after_tile told part state | None ↦ state ]
traced_after m (line.Bind container store) state =
    record state { bindings = with_binding (record { container = container; sizes = shape_in m store; version = store }) state.bindings }
traced_after m (line.Unbind container) state = without_binding container state
traced_after m step state = state

-- ---- blocks and tiles

-- all indices of a block are in a tile of so many elements
pub record LiesIn (size tile : ℕ) (home : Home) : Type 0 where
  pub first : home.lo / size ≡ tile
  pub last : (home.hi - 1) / size ≡ tile

-- this holds of each copy of a store that is there
abbrev pub EachCopy : Machine → (store : ℕ) → ((copy : ℕ) → Home → Type 0) → Type 0
EachCopy m store P = (copy : ℕ) (home : Home) → m.copies copy ≡ live home → home.store ≡ store → P copy home

-- while not all tiles of a version were computed, each of its blocks lies in one tile
abbrev pub KeepsTiles : Machine → Version → Type 0
KeepsTiles m version =
    is_complete (tile_in m) version ≡ false → EachCopy m version.number (λ copy home. LiesIn (tile_in m) (home.lo / tile_in m) home)

-- the kept versions that read a version
abbrev pub consumers_of : Machine → State → Version → List Version
consumers_of m state version = filter (λ (user : Version). has user.inputs version.number) (kept_versions (tile_in m) state)

-- No block of a version lies in a tile, and in every other block the indices of the tile are stale.
abbrev pub IsRetired : Machine → Version → (tile : ℕ) → Type 0
IsRetired m version tile = EachCopy m version.number (λ copy home.
    (LiesIn (tile_in m) tile home → ⊥) × ((index : ℕ) → index / tile_in m ≡ tile → m.marks copy index ≡ stale))

-- A version that no container is bound to has retired each tile but this one that every kept version which reads it has; where
-- none reads it, each tile but this one.
abbrev pub RetiresTiles : Machine → State → (tile : ℕ) → Version → Type 0
RetiresTiles m state tile version =
    is_bound state version.number ≡ false → (other : ℕ) → other ≢ tile
    → list_all (λ (user : Version). has user.tiles other) (consumers_of m state version) ≡ true → IsRetired m version other

-- so is it before each kernel of a recorded call
abbrev pub RetiresAt : Machine → State → Step → Type 0
RetiresAt m state (line.Kernel call kind part lo hi out trapped inputs) =
    IfSome (m.calls call) (λ (told : CallLine). told.recorded ≡ true → All (RetiresTiles m state part) state.versions)
RetiresAt m state step = ⊤

-- What a kernel does is open here, as in the rules of a trace.
module _ (effect : Machine → Step → Machine) where
  -- Between any two steps, blocks of versions that are not complete lie in one tile; and before each kernel of a recorded call,
  -- tiles that are needed no more are retired.
  abbrev pub Retires : Machine → State → List Step → Type 0
  Retires m state [] = All (KeepsTiles m) state.versions
  Retires m state (step ∷ later) =
      All (KeepsTiles m) state.versions × RetiresAt m state step × Retires (after_by effect m step) (traced_after m step state) later
