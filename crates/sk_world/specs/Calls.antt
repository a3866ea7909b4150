-- Calls of skeleton instances over a world.
use Rattle.std.specs.Prelude.{ℕ, zero, suc, ◌+◌, Bool, true, false, if◌then◌else◌, List, [], ◌∷◌, map, take, ℤ, pos, Option, Some, None, Result, Ok, Err, slice_get, slice_index_or}
use Rattle.sk_arguments.specs.Arguments.{Given, Reading, arguments_of}
use Rattle.sk_arguments.specs.Operands.{element_operands, operands_taken, uniforms_taken}
use Rattle.sk_base.specs.Arithmetic.{wrapped}
use Rattle.sk_base.specs.declared.number.Trap.{Trap}
use Rattle.sk_base.specs.declared.number.Ty.{Ty}
use Rattle.sk_formula.specs.Calls.{Sizes, Outcome, Cells, Number, refusal_of, computed_of}
use Rattle.sk_formula.specs.Elements.{TrapAt}
use Rattle.sk_formula.specs.Skeletons.{Functions}
use Rattle.sk_meaning.specs.Evaluation.{Argument}
use Rattle.sk_tree.specs.Skeletons.{is_over_pairs}
use Rattle.sk_tree.specs.declared.settings.Settings.{Settings}
use Rattle.sk_tree.specs.declared.tree.ParamKind.{ParamKind}
use Rattle.sk_tree.specs.declared.tree.ParamKind.TheVariants.{Scalar, Index, Proxy, Region}
use Rattle.sk_tree.specs.declared.tree.Skeleton.{Skeleton}
use Rattle.sk_tree.specs.declared.tree.Skeleton.TheVariants.{Map, Reduce, Scan, MapReduce, MapOverlap, MapPairs, MapPairsReduce, Call}
use Rattle.sk_world.specs.Events.{CallOf, Mapped, Ran}
use Rattle.sk_world.specs.World.{Container, World, Doing, Trapped, told, putting, container_at, settings_in}

-- An instance, by its number in the text: its skeleton, how many elements its function takes, the parameters, the type and
-- the value of one invocation of its function, the value of one invocation of its operator, and whether all of its functions
-- are safe.
pub record Instance : Type 0 where
  pub number : ℕ
  pub skeleton : Skeleton
  pub elements : ℕ
  pub kinds : List ParamKind
  pub ty : Ty
  pub call : List Argument → Result ℤ Trap
  pub join : ℤ → ℤ → Result ℤ Trap
  pub is_safe : Bool

-- how many containers a call takes beside its result
abbrev pub operand_count : Instance → ℕ
operand_count instance = operands_taken instance.skeleton instance.elements instance.kinds

-- uniform arguments are converted when a call is made
abbrev pub converted : List Ty → List ℤ → List ℤ
converted [] values = []
converted (ty ∷ types) [] = []
converted (ty ∷ types) (value ∷ values) = wrapped ty value ∷ converted types values

abbrev pub reading_of : Instance → Settings → Reading
reading_of instance settings = record {
  elements = instance.elements;
  pairs = is_over_pairs instance.skeleton;
  settings = settings;
}

abbrev pub operands_in : World → List ℕ → List Container
operands_in world = map (container_at world)

-- Indices are counted in the first element argument of a MapReduce, and in the result of every other skeleton.
abbrev pub counted_in : Skeleton → (result : Option Container) → List Container → Option (List ℕ)
counted_in MapReduce result (first ∷ operands) = Some first.sizes
counted_in skeleton None operands = None
counted_in skeleton (Some result) operands = Some result.sizes

abbrev pub cell_of : List Container → (operand index : ℕ) → ℤ
cell_of operands operand index = elim (slice_get operands operand) [
  | Some container ↦ slice_index_or container.cells index (pos 0)
  | None ↦ pos 0
]

-- what a call works on
abbrev pub given_of : Instance → (result : Option Container) → List Container → (uniforms : List ℤ) → Given
given_of instance result operands uniforms = record {
  cells = cell_of operands;
  shapes = map (λ (operand : Container). operand.sizes) operands;
  uniforms = uniforms;
  over = counted_in instance.skeleton result operands;
}

-- the function's values, the first operand's cells, and the operator's values
abbrev pub functions_of : Instance → Settings → Given → Functions
functions_of instance settings given = record {
  value = λ place pair. instance.call (arguments_of (reading_of instance settings) instance.kinds given (record { place = place; pair = pair }));
  cell = given.cells 0;
  join = instance.join;
}

abbrev pub sizes_of : Instance → (result : Option Container) → List Container → Sizes
sizes_of instance result operands = record {
  result = elim result [ Some container ↦ Some container.sizes | None ↦ None ];
  operands = take (element_operands instance.skeleton instance.elements) (map (λ (operand : Container). operand.sizes) operands);
}

-- which event a call is that is not refused
abbrev pub is_mapped : Instance → Bool
is_mapped instance = elim instance.skeleton [
  | Map ↦ instance.is_safe
  | Reduce ↦ false
  | Scan ↦ false
  | MapReduce ↦ false
  | MapOverlap ↦ false
  | MapPairs ↦ false
  | MapPairsReduce ↦ false
  | Call ↦ false
]

abbrev pub has_trapped : Result Outcome TrapAt → Bool
has_trapped (Ok outcome) = false
has_trapped (Err trapped) = true

abbrev pub container_number : Option Container → Option ℕ
container_number (Some container) = Some container.number
container_number None = None

abbrev pub tell_call : Instance → CallOf → Settings → (result : Option Container) → Result Outcome TrapAt → World → World
tell_call instance call settings (Some result) outcome =
    if is_mapped instance then told (Mapped call result.number)
    else told (Ran call settings (Some result.number) (has_trapped outcome))
tell_call instance call settings None outcome = told (Ran call settings None (has_trapped outcome))

-- A call gives its result container new cells, or is a number. A trap changes no container.
abbrev pub with_outcome : (result : Option Container) → Result Outcome TrapAt → Doing ℤ
with_outcome (Some result) (Ok (Cells cells)) world = Ok (pos 0, putting (record result { cells = cells }) world)
with_outcome (Some result) (Ok (Number value)) world = Ok (value, world)
with_outcome None (Ok (Cells cells)) world = Ok (pos 0, world)
with_outcome None (Ok (Number value)) world = Ok (value, world)
with_outcome result (Err trapped) world = Err (record { ending = Trapped trapped.trap world.line trapped.element; world = world })

-- a call that was not refused
abbrev pub ran_call : Instance → CallOf → Settings → (result : Option Container) → Result Outcome TrapAt → Doing ℤ
ran_call instance call settings result outcome world =
    with_outcome result outcome (tell_call instance call settings result outcome world)

-- A call of an instance for containers by number and uniform arguments that were evaluated: shapes and emptiness are tested,
-- then it is told, and then it has its outcome.
abbrev pub call_of : Instance → (result : Option ℕ) → (operands : List ℕ) → (uniforms : List ℤ) → Doing ℤ
call_of instance result operands uniforms world =
    let settings : Settings = settings_in world instance.number in
    let target : Option Container = elim result [ Some number ↦ Some (container_at world number) | None ↦ None ] in
    let containers : List Container = operands_in world operands in
    let cells : List ℤ = converted (uniforms_taken instance.skeleton instance.elements instance.kinds) uniforms in
    let sizes : Sizes = sizes_of instance target containers in
    let call : CallOf = record { line = world.line; instance = instance.number; operands = operands; uniforms = cells } in
    elim (refusal_of instance.skeleton settings sizes) [
      | Some trap ↦ Err (record { ending = Trapped trap world.line 0; world = world })
      | None ↦ ran_call instance call settings target
          (computed_of instance.skeleton settings sizes (functions_of instance settings (given_of instance target containers cells))) world
    ]
