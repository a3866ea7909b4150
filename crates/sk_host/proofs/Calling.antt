-- A call of a Map over a world.
use Rattle.std.proofs.Common.{◌≡◌, ℕ, zero, suc, ◌==◌, Bool, true, false, if◌then◌else◌, List, [], ◌∷◌, map, take, drop, All, ℤ, pos, Option, Some, None, IsSome, Ok, Err, Result, find, slice_get, slice_index_or, arith, ap, sym, refl, ◌∙◌}
use Rattle.std.specs.List.{list_all}
use Rattle.sk_arguments.specs.Arguments.{Given, uniform_types}
use Rattle.sk_arguments.specs.Operands.{uniforms_taken}
use Rattle.std.proofs.lemmas.Option.{same_Some}
use Rattle.sk_base.specs.Arithmetic.{wrapped}
use Rattle.sk_base.specs.Shape.{cells_of}
use Rattle.sk_base.specs.declared.number.Trap.{Trap}
use Rattle.sk_base.specs.declared.number.Trap.TheVariants.{Empty, Shape}
use Rattle.sk_formula.specs.Calls.{Outcome, Sizes, are_all, cells_outcome, computed_of, refusal_of}
use Rattle.sk_formula.specs.Elements.{TrapAt, mapped}
use Rattle.sk_host.proofs.Kept.{found-in}
use Rattle.sk_host.specs.Maps.{params_of, value_for}
use Rattle.sk_host.specs.Passed.{converted_by, sizes_held}
use Rattle.sk_host.specs.Stores.{Kept, Mirrors, kept_at}
use Rattle.sk_isa.specs.Soundness.{is_scalar}
use Rattle.sk_isa.specs.declared.object.Object.{Object}
use Rattle.sk_isa.specs.declared.object.Plan.{Plan}
use Rattle.sk_kernel.specs.Instances.{instance_meaning}
use Rattle.sk_main_code.specs.MainSteps.{linked_plan}
use Rattle.sk_tree.specs.InstanceSettings.{default_settings}
use Rattle.sk_tree.specs.declared.settings.Settings.{Settings}
use Rattle.sk_tree.specs.declared.tree.ParamKind.{ParamKind}
use Rattle.sk_tree.specs.declared.tree.ParamKind.TheVariants.{Scalar, Index, Proxy, Region}
use Rattle.sk_tree.specs.declared.tree.Skeleton.{Skeleton}
use Rattle.sk_tree.specs.declared.tree.Skeleton.TheVariants.{Map}
use Rattle.sk_world.specs.Calls.{Instance, call_of, cell_of, converted, functions_of, given_of, is_mapped, operands_in, ran_call, sizes_of}
use Rattle.sk_world.specs.Events.{CallOf, Event, Mapped, Ran}
use Rattle.sk_world.specs.World.{Container, Over, SettingsOf, Trapped, World, container_at, putting, settings_in, told}

-- an instance whose settings were never set
settings_are : (world : World) (number : ℕ) → world.settings ≡ [] → settings_in world number ≡ default_settings
settings_are world number none =
    ap (λ (all : List SettingsOf). elim (find (λ (of : SettingsOf). of.instance == number) all) [ Some of ↦ of.settings | None ↦ default_settings ]) none

-- a call of a Map
module _ (object : Object) (number : ℕ) (plan : Plan) (result : ℕ) (operands : List ℕ) (uniforms : List ℤ) (world : World) where
  abbrev instance_by : Skeleton → Instance
  instance_by kind = linked_plan object number (record plan { skeleton = kind })

  abbrev target : Container
  target = container_at world result

  abbrev containers : List Container
  containers = operands_in world operands

  abbrev uniforms_by : Skeleton → List ℤ
  uniforms_by kind = converted (uniforms_taken kind plan.elements (params_of object plan)) uniforms

  abbrev sizes_by : Skeleton → Sizes
  sizes_by kind = sizes_of (instance_by kind) (Some target) containers

  abbrev call_by : Skeleton → CallOf
  call_by kind = record { line = world.line; instance = number; operands = operands; uniforms = uniforms_by kind }

  abbrev outcome_by : Skeleton → Settings → Result Outcome TrapAt
  outcome_by kind settings =
      computed_of kind settings (sizes_by kind) (functions_of (instance_by kind) settings (given_of (instance_by kind) (Some target) containers (uniforms_by kind)))

  abbrev called_by : Skeleton → Settings → Result (ℤ × World) Over
  called_by kind settings = elim (refusal_of kind settings (sizes_by kind)) [
    | Some trap ↦ Err (record { ending = Trapped trap world.line 0; world = world })
    | None ↦ ran_call (instance_by kind) (call_by kind) settings (Some target) (outcome_by kind settings) world
  ]

  call_is : plan.skeleton ≡ Map → world.settings ≡ [] → call_of (linked_plan object number plan) (Some result) operands uniforms world ≡ called_by Map default_settings
  call_is is none = ap (called_by plan.skeleton) (settings_are world number none) ∙ ap (λ (kind : Skeleton). called_by kind default_settings) is

  -- a call whose operands have other sizes is refused
  abbrev refusal : Bool → Option Trap
  refusal true = None
  refusal false = Some Shape

  abbrev called_if : Option Trap → Result (ℤ × World) Over
  called_if found = elim found [
    | Some trap ↦ Err (record { ending = Trapped trap world.line 0; world = world })
    | None ↦ ran_call (instance_by Map) (call_by Map) default_settings (Some target) (outcome_by Map default_settings) world
  ]

  -- whether all operands have the sizes of the result
  abbrev fit : Bool
  fit = are_all target.sizes (take plan.elements (map (λ (c : Container). c.sizes) containers))

  refused_by : (test : Bool) → fit ≡ test → refusal_of Map default_settings (sizes_by Map) ≡ refusal test
  refused_by true is = ap (λ (b : Bool). if b then (if false then Some Empty else None) else Some Shape) is
  refused_by false is = ap (λ (b : Bool). if b then (if false then Some Empty else None) else Some Shape) is

  pub call_refused : plan.skeleton ≡ Map → world.settings ≡ [] → fit ≡ false
      → call_of (linked_plan object number plan) (Some result) operands uniforms world ≡ Err (record { ending = Trapped Shape world.line 0; world = world })
  call_refused is none differ = call_is is none ∙ ap called_if (refused_by false differ)

  call_made : plan.skeleton ≡ Map → world.settings ≡ [] → fit ≡ true
      → call_of (linked_plan object number plan) (Some result) operands uniforms world
      ≡ ran_call (instance_by Map) (call_by Map) default_settings (Some target) (outcome_by Map default_settings) world
  call_made is none same = call_is is none ∙ ap called_if (refused_by true same)

  -- what the function is given
  abbrev given : Given
  given = given_of (instance_by Map) (Some target) containers (uniforms_by Map)

  abbrev values : ℕ → Result ℤ Trap
  values = value_for (instance_meaning object (record plan { skeleton = Map }) default_settings) given

  -- one of two events is told
  told_one : (b : Bool) (one other : Event) → (event : Event) × ((if b then told one else told other) world ≡ told event world)
  told_one true one other = (one, refl)
  told_one false one other = (other, refl)

  told_line : (b : Bool) (one other : Event) → ((if b then told one else told other) world).line ≡ world.line
  told_line true one other = refl
  told_line false one other = refl

  pub call_fills : plan.skeleton ≡ Map → world.settings ≡ [] → fit ≡ true → (cells : List ℤ) → mapped values 0 (cells_of target.sizes) ≡ Ok cells
      → (event : Event) × (call_of (linked_plan object number plan) (Some result) operands uniforms world
      ≡ Ok (pos 0, putting (record target { cells = cells }) (told event world)))
  call_fills is none same cells made =
      let event = told_one (is_mapped (instance_by Map)) (Mapped (call_by Map) target.number) (Ran (call_by Map) default_settings (Some target.number) false) in (
        event.0,
        call_made is none same
            ∙ ap (λ (o : Result (List ℤ) TrapAt). ran_call (instance_by Map) (call_by Map) default_settings (Some target) (cells_outcome o) world) made
            ∙ ap (λ (w : World). Ok (pos 0, putting (record target { cells = cells }) w)) event.1,
      )

  pub call_traps : plan.skeleton ≡ Map → world.settings ≡ [] → fit ≡ true → (trap : TrapAt) → mapped values 0 (cells_of target.sizes) ≡ Err trap
      → (event : Event) × (call_of (linked_plan object number plan) (Some result) operands uniforms world
      ≡ Err (record { ending = Trapped trap.trap world.line trap.element; world = told event world }))
  call_traps is none same trap made =
      let one : Event = Mapped (call_by Map) target.number in
      let other : Event = Ran (call_by Map) default_settings (Some target.number) true in
      let event = told_one (is_mapped (instance_by Map)) one other in (
        event.0,
        call_made is none same
            ∙ ap (λ (o : Result (List ℤ) TrapAt). ran_call (instance_by Map) (call_by Map) default_settings (Some target) (cells_outcome o) world) made
            ∙ ap (λ (line : ℕ). Err (record { ending = Trapped trap.trap line trap.element; world = (if is_mapped (instance_by Map) then told one else told other) world }))
            (told_line (is_mapped (instance_by Map)) one other)
            ∙ ap (λ (w : World). Err (record { ending = Trapped trap.trap world.line trap.element; world = w })) event.1,
      )

-- what the data of a Map is, and what the definition gives its function
module _ (store : List (Option Kept)) (world : World) (mirrors : Mirrors store world) where
  pub shapes_same : (over : List ℕ) (numbers : List ℕ) → All (λ number. IsSome (kept_at store number)) numbers
      → map (λ number. sizes_held over (kept_at store number)) numbers ≡ map (λ (c : Container). c.sizes) (operands_in world numbers)
  shapes_same over [] there = refl
  shapes_same over (number ∷ numbers) there =
      one (kept_at store number) refl (there 0 number (omega arith)) (shapes_same over numbers (λ k d less. there (suc k) d (omega arith)))
    where
      one : (found : Option Kept) → kept_at store number ≡ found → IsSome found
          → map (λ number. sizes_held over (kept_at store number)) numbers ≡ map (λ (c : Container). c.sizes) (operands_in world numbers)
          → map (λ number. sizes_held over (kept_at store number)) (number ∷ numbers) ≡ map (λ (c : Container). c.sizes) (operands_in world (number ∷ numbers))
      one None e some later = cc
      one (Some kept) e some later =
          let f = found-in store world number kept mirrors e in
          let first : sizes_held over (kept_at store number) ≡ (container_at world number).sizes =
          ap (sizes_held over) e ∙ ap (λ (k : Kept). k.sizes) (sym f.kept_is) ∙ ap (λ (c : Container). c.sizes) (sym f.at_is) in
          ap (λ (sizes : List ℕ). sizes ∷ map (λ number. sizes_held over (kept_at store number)) numbers) first
          ∙ ap (λ (rest : List (List ℕ)). (container_at world number).sizes ∷ rest) later

  -- the cell of an operand
  pub cell_same : (numbers : List ℕ) (operand index number : ℕ) (kept : Kept) → slice_get numbers operand ≡ Some number → kept_at store number ≡ Some kept
      → cell_of (operands_in world numbers) operand index ≡ slice_index_or kept.cells index (pos 0)
  cell_same [] operand index number kept is e = cc
  cell_same (one ∷ numbers) zero index number kept is e =
      let same : one ≡ number = same_Some one number is in
      let f = found-in store world number kept mirrors e in
      ap (λ (n : ℕ). slice_index_or (container_at world n).cells index (pos 0)) same
      ∙ ap (λ (c : Container). slice_index_or c.cells index (pos 0)) f.at_is
      ∙ ap (λ (k : Kept). slice_index_or k.cells index (pos 0)) f.kept_is
  cell_same (one ∷ numbers) (suc operand) index number kept is e = cell_same numbers operand index number kept is e

-- uniform arguments
pub uniforms_same : (elements : ℕ) (params : List ParamKind) (values : List ℤ) → list_all is_scalar params ≡ true
    → converted_by (drop elements params) values ≡ converted (uniform_types elements params) values
uniforms_same zero [] values scalars = refl
uniforms_same (suc elements) [] values scalars = refl
uniforms_same zero (Scalar ty ∷ kinds) [] scalars = refl
uniforms_same zero (Scalar ty ∷ kinds) (value ∷ values) scalars =
    ap (λ (rest : List ℤ). wrapped ty value ∷ rest) (uniforms_same zero kinds values scalars)
uniforms_same (suc elements) (Scalar ty ∷ kinds) values scalars = uniforms_same elements kinds values scalars
uniforms_same elements (Index dimension ∷ kinds) values scalars = cc
uniforms_same elements (Proxy dimension ty ∷ kinds) values scalars = cc
uniforms_same elements (Region dimension ty ∷ kinds) values scalars = cc
