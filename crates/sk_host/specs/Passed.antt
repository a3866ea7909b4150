-- What calls are given.
use Rattle.std.specs.Prelude.{ℕ, nat_lt, if◌then◌else◌, List, [], ◌∷◌, map, ℤ, Option, Some, None, slice_get}
use Rattle.sk_base.specs.Arithmetic.{wrapped}
use Rattle.sk_base.specs.Shape.{cells_of}
use Rattle.sk_host.specs.Stores.{Kept, kept_at}
use Rattle.sk_host.specs.declared.passed.MapCall.{MapCall}
use Rattle.sk_host.specs.declared.passed.Passed.{Passed}
use Rattle.sk_host.specs.declared.passed.Passed.TheVariants.{Function, Map}
use Rattle.sk_meaning.specs.Evaluation.{kind_type}
use Rattle.sk_tree.specs.declared.tree.ParamKind.{ParamKind}
use Rattle.sk_kernel.specs.Kernels.{Source}

-- uniform arguments alone
abbrev pub uniform_source : List ℤ → Source
uniform_source values = record { held = λ operand index. None; shapes = []; uniforms = values; over = None }

-- a cell of a container, where it is there
abbrev pub cell_held : Option Kept → (index : ℕ) → Option ℤ
cell_held None index = None
cell_held (Some kept) index = if nat_lt index (cells_of kept.sizes) then slice_get kept.cells index else None

-- a cell of the container with a number, where there is a number
abbrev pub numbered_cell : List (Option Kept) → Option ℕ → (index : ℕ) → Option ℤ
numbered_cell store None index = None
numbered_cell store (Some number) index = cell_held (kept_at store number) index

-- the sizes of a container, or others where it is not there
abbrev pub sizes_held : (others : List ℕ) → Option Kept → List ℕ
sizes_held others None = others
sizes_held others (Some kept) = kept.sizes

-- uniform arguments, each of the type of its parameter
abbrev pub converted_by : List ParamKind → List ℤ → List ℤ
converted_by [] values = []
converted_by (kind ∷ kinds) [] = []
converted_by (kind ∷ kinds) (value ∷ values) = wrapped (kind_type kind) value ∷ converted_by kinds values

-- the containers with these numbers as operands, uniform arguments, which are converted, and the sizes of the result
abbrev pub call_source : List (Option Kept) → (operands : List ℕ) → (kinds : List ParamKind) → (uniforms : List ℤ) → (over : List ℕ) → Source
call_source store operands kinds uniforms over = record {
  held = λ operand index. numbered_cell store (slice_get operands operand) index;
  shapes = map (λ number. sizes_held over (kept_at store number)) operands;
  uniforms = converted_by kinds uniforms;
  over = Some over;
}

abbrev pub map_source : MapCall → Source
map_source call = call_source call.store.now call.operands.now call.kinds.now call.uniforms.now call.over.now

-- what the call of a function, or of a Map, is given
abbrev pub passed_source : Passed → Source
passed_source (Function arguments) = uniform_source arguments.now
passed_source (Map call) = map_source call.now
