-- The versions of containers while a run goes on: which of them are recorded, which of their tiles were demanded, and which
-- of them are kept.
use Rattle.std.specs.Prelude.{ℕ, ◌==◌, nat_lt, Bool, not, ◌&&◌, ◌||◌, if◌then◌else◌, List, [], ◌∷◌, ◌++◌, length, map, filter, find, Some, None}
use Rattle.std.specs.List.{list_all, list_any}
use Rattle.sk_base.specs.Shape.{cells_of}
use Rattle.sk_blocks.specs.Kernels.{tile_count}
use Rattle.sk_blocks.specs.Ranges.{numbers_from}

-- A version of a container: the cells that a declaration, an input, an element write or a call gave it. Versions are numbered
-- in the order in which they come. A recorded one is the result of a Map that is computed tile by tile, each tile where it is
-- demanded.
pub record Version : Type 0 where
  pub number : ℕ
  pub recorded : Bool
  -- the versions that its call reads, each of a lower number
  pub inputs : List ℕ
  pub cells : ℕ
  -- the tiles of it that were demanded so far; where the versions are those of a trace, the tiles that were computed
  pub tiles : List ℕ

-- a container in scope: its number in the text, its sizes, and the version that it is bound to
pub record Binding : Type 0 where
  pub container : ℕ
  pub sizes : List ℕ
  pub version : ℕ

-- all versions so far by their numbers, and the containers in scope by theirs
pub record State : Type 0 where
  pub versions : List Version
  pub bindings : List Binding

abbrev pub no_versions : State
no_versions = record { versions = []; bindings = [] }

abbrev pub has : List ℕ → (number : ℕ) → Bool
has numbers number = list_any (λ other. other == number) numbers

-- ---- what containers are bound to

-- a container that is not in scope has no cells and no version
abbrev pub binding_at : State → (container : ℕ) → Binding
binding_at state container = elim (find (λ (binding : Binding). binding.container == container) state.bindings) [
  | Some binding ↦ binding
  | None ↦ record { container = container; sizes = 0 ∷ []; version = length state.versions }
]

abbrev pub version_of : State → (container : ℕ) → ℕ
version_of state container = (binding_at state container).version

abbrev pub containers_in : State → List ℕ
containers_in state = map (λ (binding : Binding). binding.container) state.bindings

-- the binding in its place by the containers' numbers, and in place of the one of its container
abbrev pub with_binding : Binding → List Binding → List Binding
with_binding binding [] = binding ∷ []
with_binding binding (first ∷ rest) =
    if nat_lt first.container binding.container then first ∷ with_binding binding rest
    else if first.container == binding.container then binding ∷ rest
    else binding ∷ first ∷ rest

-- a container is bound to a new version
abbrev pub with_version : (container : ℕ) → (sizes : List ℕ) → (recorded : Bool) → (inputs : List ℕ) → State → State
with_version container sizes recorded inputs state =
    let number : ℕ = length state.versions in
    record {
      versions = state.versions
          ++ record { number = number; recorded = recorded; inputs = inputs; cells = cells_of sizes; tiles = [] } ∷ [];
      bindings = with_binding (record { container = container; sizes = sizes; version = number }) state.bindings;
    }

-- a container is bound to no version any more
abbrev pub without_binding : (container : ℕ) → State → State
without_binding container state =
    record state { bindings = filter (λ (binding : Binding). not (binding.container == container)) state.bindings }

abbrev pub is_bound : State → (number : ℕ) → Bool
is_bound state number = list_any (λ (binding : Binding). binding.version == number) state.bindings

-- ---- which versions are complete, and which are kept

-- All tiles of so many elements were demanded, or there was nothing to demand. A recorded version without cells is complete.
abbrev pub is_complete : (size : ℕ) → Version → Bool
is_complete size version =
    not version.recorded || list_all (has version.tiles) (numbers_from 0 (tile_count size version.cells))

abbrev pub is_incomplete : (size : ℕ) → Version → Bool
is_incomplete size version = not (is_complete size version)

-- Of versions in the order in which they came: those that are asked for, and with each of these that passes a test its inputs,
-- and so on.
abbrev pub reached : (is_asked : ℕ → Bool) → (passes : Version → Bool) → List Version → List Version
reached is_asked passes [] = []
reached is_asked passes (version ∷ later) =
    let users : List Version = reached is_asked passes later in
    if is_asked version.number || list_any (λ (user : Version). passes user && has user.inputs version.number) users
    then version ∷ users else users

-- a version is kept where it is bound, or is an input of a kept version that is not complete
abbrev pub kept_versions : (size : ℕ) → State → List Version
kept_versions size state = reached (is_bound state) (is_incomplete size) state.versions

-- the recorded versions that are kept and not complete
abbrev pub pending_versions : (size : ℕ) → State → List Version
pending_versions size state = filter (is_incomplete size) (kept_versions size state)

-- a version is an input of a kept version that is not complete
abbrev pub is_read_by_pending : (size : ℕ) → State → (number : ℕ) → Bool
is_read_by_pending size state number = list_any (λ (user : Version). has user.inputs number) (pending_versions size state)
