-- Calls of a Map whose function takes scalars: they do the same, whichever function gives the values.
use Rattle.std.proofs.Common.{◌≡◌, inr, ℕ, zero, suc, ◌+◌, List, [], ◌∷◌, length, map, take, ℤ, pos, Option, Some, None, refl, sym, ap, ◌∙◌, subst, arith}
use Rattle.std.proofs.lemmas.List.Elements.{All-nil, All-push}
use Rattle.std.specs.List.{list_all}
use Rattle.std.specs.Prelude.{All, Result, Ok, Err, IfOk, true, false, Bool, ◌==◌, slice_get}
use Rattle.sk_arguments.specs.Arguments.{arguments_of, uniform_types}
use Rattle.sk_base.specs.Arithmetic.{InRange}
use Rattle.sk_base.specs.Shape.{IsShape, cells_of}
use Rattle.sk_base.specs.ShapeLaws.{IsShape-from_test}
use Rattle.sk_base.specs.declared.number.Trap.{Trap}
use Rattle.sk_base.specs.declared.number.Ty.{Ty}
use Rattle.sk_base.specs.declared.number.Ty.TheVariants.{Int}
use Rattle.sk_formula.specs.Calls.{Cells, Sizes, cells_outcome, refusal_of}
use Rattle.sk_formula.specs.Elements.{TrapAt, at_element, mapped, with_last}
use Rattle.sk_isa.specs.declared.object.Object.{Object}
use Rattle.sk_main_names.proofs.Tests.{same_number}
use Rattle.sk_main_runs.proofs.Containers.{tidy_put}
use Rattle.sk_main_runs.proofs.MapArguments.{AreOf, HasScalars, IsOf, call_elements, call_uniforms, scalars_given}
use Rattle.sk_main_runs.proofs.Tidy.{found_passes}
use Rattle.sk_main_runs.specs.SameMeaning.{IsHeld, IsLeft, IsTidy, fitted}
use Rattle.sk_meaning.specs.Evaluation.{Argument, Value}
use Rattle.sk_plain.proofs.Truths.{some_same}
use Rattle.sk_tree.specs.Parameters.{is_scalar, scalar_types}
use Rattle.sk_tree.specs.declared.declared.Declared.{Declared}
use Rattle.sk_tree.specs.declared.settings.Settings.{Settings}
use Rattle.sk_tree.specs.declared.tree.ParamKind.{ParamKind}
use Rattle.sk_tree.specs.declared.tree.Skeleton.TheVariants.{Map}
use Rattle.sk_world.specs.Calls.{Instance, call_of, converted, given_of, operands_in, ran_call, sizes_of}
use Rattle.sk_world.specs.Events.{CallOf}
use Rattle.sk_world.specs.World.{Container, World, Over, Trapped, container_at, container_in, settings_in}

-- a Map by its parts
abbrev pub mapping : (number elements : ℕ) → List ParamKind → Ty → (call : List Argument → Result ℤ Trap) → (join : ℤ → ℤ → Result ℤ Trap) → (safe : Bool) → Instance
mapping number elements kinds ty call join safe = record {
  number = number;
  skeleton = Map;
  elements = elements;
  kinds = kinds;
  ty = ty;
  call = call;
  join = join;
  is_safe = safe;
}

mapped-same : (v u : ℕ → Result ℤ Trap) → ((i : ℕ) → v i ≡ u i) → (first count : ℕ) → mapped v first count ≡ mapped u first count
mapped-same v u same first zero = refl
mapped-same v u same first (suc count) =
    ap (λ (r : Result (List ℤ) TrapAt). with_last r (at_element (first + count) (v (first + count)))) (mapped-same v u same first count)
    ∙ ap (λ (r : Result ℤ Trap). with_last (mapped u first count) (at_element (first + count) r)) (same (first + count))

last_fits : (P : ℤ → Type 0) (r : Result (List ℤ) TrapAt) (index : ℕ) (o : Result ℤ Trap) → IfOk r (All P) → IfOk o P → IfOk (with_last r (at_element index o)) (All P)
last_fits P (Ok values) index (Ok value) all one = All-push P values value all one
last_fits P (Ok values) index (Err trap) all one = tt
last_fits P (Err trapped) index (Ok value) all one = tt
last_fits P (Err trapped) index (Err trap) all one = tt

mapped-fits : (P : ℤ → Type 0) (v : ℕ → Result ℤ Trap) → ((i : ℕ) → IfOk (v i) P) → (first count : ℕ) → IfOk (mapped v first count) (All P)
mapped-fits P v each first zero = All-nil P
mapped-fits P v each first (suc count) = last_fits P (mapped v first count) (first + count) (v (first + count)) (mapped-fits P v each first count) (each (first + count))

no_elements : IsShape (0 ∷ [])
no_elements = IsShape-from_test (0 ∷ []) refl

module _ (object : Object) (number elements : ℕ) (kinds : List ParamKind) (scalars : list_all is_scalar kinds ≡ true) (ty : Ty) (safe : Bool) where
  -- what a Map calls its function with at a place
  abbrev arguments_at : (world : World) → (result : ℕ) → (operands : List ℕ) → (values : List ℤ) → ℕ → List Argument
  arguments_at world result operands values place =
      arguments_of (record { elements = elements; pairs = false; settings = settings_in world number }) kinds
      (given_of (mapping number elements kinds ty (λ arguments. Ok (pos 0)) (λ a b. Ok (pos 0)) safe) (Some (container_at world result)) (operands_in world operands) (converted (uniform_types elements kinds) values))
      (record { place = place; pair = 0 })

  scalars_at : (world : World) (result : ℕ) (operands : List ℕ) (values : List ℤ) → IsTidy object world → AreOf object operands (take elements (scalar_types kinds)) → (place : ℕ)
      → HasScalars (arguments_at world result operands values place) kinds
  scalars_at world result operands values tidy of place =
      scalars_given (record { elements = elements; pairs = false; settings = settings_in world number })
      (given_of (mapping number elements kinds ty (λ arguments. Ok (pos 0)) (λ a b. Ok (pos 0)) safe) (Some (container_at world result)) (operands_in world operands) (converted (uniform_types elements kinds) values))
      (record { place = place; pair = 0 }) kinds scalars elements 0 0
      (call_elements object world operands kinds elements tidy scalars of) (call_uniforms kinds elements values scalars)

  -- a call of a Map by what its function gives
  abbrev map_run : (world : World) → (result : ℕ) → (operands : List ℕ) → (values : List ℤ) → Result (List ℤ) TrapAt → Result (ℤ × World) Over
  map_run world result operands values cells =
      let one : Instance = mapping number elements kinds ty (λ arguments. Ok (pos 0)) (λ a b. Ok (pos 0)) safe in
      let settings : Settings = settings_in world number in
      let target : Option Container = Some (container_at world result) in
      let sizes : Sizes = sizes_of one target (operands_in world operands) in
      let call : CallOf = record { line = world.line; instance = number; operands = operands; uniforms = converted (uniform_types elements kinds) values } in
      elim (refusal_of Map settings sizes) as (λ x. Result (ℤ × World) Over) [
        | Some trap ↦ Err (record { ending = Trapped trap world.line 0; world = world })
        | None ↦ ran_call one call settings target (cells_outcome cells) world
      ]

  map-is : (call : List Argument → Result ℤ Trap) (join : ℤ → ℤ → Result ℤ Trap) (world : World) (result : ℕ) (operands : List ℕ) (values : List ℤ)
      → call_of (mapping number elements kinds ty call join safe) (Some result) operands values world
      ≡ map_run world result operands values (mapped (λ place. call (arguments_at world result operands values place)) 0 (cells_of (container_at world result).sizes))
  map-is call join world result operands values = refl

  -- functions that have the same values for numbers of the parameters' types
  pub map_same : (one other : List Argument → Result ℤ Trap) (join join2 : ℤ → ℤ → Result ℤ Trap)
      → ((values : List ℤ) → length values ≡ length kinds → fitted kinds values ≡ values → one (map Value values) ≡ other (map Value values))
      → (world : World) (result : ℕ) (operands : List ℕ) (values : List ℤ) → IsTidy object world → AreOf object operands (take elements (scalar_types kinds))
      → call_of (mapping number elements kinds ty one join safe) (Some result) operands values world ≡ call_of (mapping number elements kinds ty other join2 safe) (Some result) operands values world
  map_same one other join join2 same world result operands values tidy of =
      let at_place : (place : ℕ) → one (arguments_at world result operands values place) ≡ other (arguments_at world result operands values place) = λ place.
      let h = scalars_at world result operands values tidy of place in
      ap one h.is ∙ same h.values h.size h.same ∙ sym (ap other h.is) in
      map-is one join world result operands values
      ∙ ap (map_run world result operands values) (mapped-same (λ place. one (arguments_at world result operands values place)) (λ place. other (arguments_at world result operands values place)) at_place 0 (cells_of (container_at world result).sizes))
      ∙ sym (map-is other join2 world result operands values)

  -- a container with new cells
  refilled : (world : World) (result : ℕ) (cells : List ℤ) → IsTidy object world → IsOf object result ty → All (InRange ty) cells → IsHeld object (record (container_at world result) { cells = cells })
  refilled world result cells tidy of all = by_found (container_in world result) refl
    where
      by_found : (found : Option Container) → container_in world result ≡ found → IsHeld object (record (container_at world result) { cells = cells })
      by_found None e = subst (λ (o : Option Container). IsHeld object (record (elim o as (λ x. Container) [
        | Some container ↦ container
        | None ↦ record { number = result; name = []; ty = Int; sizes = 0 ∷ []; cells = [] }
      ]) { cells = cells })) (sym e)
          (record { declared = of.declared; there = of.there; ty = inr refl; shape = no_elements; cells = subst (λ t. All (InRange t) cells) (sym of.of) all })
      by_found (Some container) e =
          let h = found_passes (IsHeld object) (λ (c : Container). c.number == result) world.containers container tidy.each e in
          let number_is : container.number ≡ result = same_number container.number result h.1 in
          let same : h.0.declared ≡ of.declared = some_same h.0.declared of.declared (sym h.0.there ∙ ap (slice_get object.containers) number_is ∙ of.there) in
          subst (λ (o : Option Container). IsHeld object (record (elim o as (λ x. Container) [
            | Some container ↦ container
            | None ↦ record { number = result; name = []; ty = Int; sizes = 0 ∷ []; cells = [] }
          ]) { cells = cells })) (sym e)
          (record {
            declared = h.0.declared;
            there = h.0.there;
            ty = h.0.ty;
            shape = h.0.shape;
            cells = subst (λ t. All (InRange t) cells) (sym (ap (λ (d : Declared). d.ty) same ∙ of.of)) all;
          })

  left_so : (world : World) (result : ℕ) (operands : List ℕ) (values : List ℤ) (cells : Result (List ℤ) TrapAt) → IsTidy object world → IsOf object result ty → IfOk cells (All (InRange ty))
      → IsLeft object world (map_run world result operands values cells)
  left_so world result operands values cells tidy of all =
      by_refusal (refusal_of Map (settings_in world number) (sizes_of one (Some (container_at world result)) (operands_in world operands))) cells all
    where
      one : Instance
      one = mapping number elements kinds ty (λ arguments. Ok (pos 0)) (λ a b. Ok (pos 0)) safe

      by_refusal : (refused : Option Trap) (cells : Result (List ℤ) TrapAt) → IfOk cells (All (InRange ty))
          → IsLeft object world (elim refused as (λ x. Result (ℤ × World) Over) [
            | Some trap ↦ Err (record { ending = Trapped trap world.line 0; world = world })
            | None ↦ ran_call (mapping number elements kinds ty (λ arguments. Ok (pos 0)) (λ a b. Ok (pos 0)) safe)
                (record { line = world.line; instance = number; operands = operands; uniforms = converted (uniform_types elements kinds) values }) (settings_in world number) (Some (container_at world result))
                (cells_outcome cells) world
          ])
      by_refusal (Some trap) cells all = tt
      by_refusal None (Ok cells) all = by_mark safe
        where
          by_mark : (mark : Bool) → IsLeft object world (ran_call (mapping number elements kinds ty (λ arguments. Ok (pos 0)) (λ a b. Ok (pos 0)) mark)
              (record { line = world.line; instance = number; operands = operands; uniforms = converted (uniform_types elements kinds) values }) (settings_in world number) (Some (container_at world result))
              (Ok (Cells cells)) world)
          by_mark true = (record { each = (tidy_put object (record (container_at world result) { cells = cells }) world (refilled world result cells tidy of all) tidy).each }, omega arith)
          by_mark false = (record { each = (tidy_put object (record (container_at world result) { cells = cells }) world (refilled world result cells tidy of all) tidy).each }, omega arith)
      by_refusal None (Err trapped) all = tt

  -- a call leaves a tidy world
  pub map_leaves : (call : List Argument → Result ℤ Trap) (join : ℤ → ℤ → Result ℤ Trap)
      → ((values : List ℤ) → length values ≡ length kinds → fitted kinds values ≡ values → IfOk (call (map Value values)) (λ value. InRange ty value))
      → (world : World) (result : ℕ) (operands : List ℕ) (values : List ℤ) → IsTidy object world → AreOf object operands (take elements (scalar_types kinds)) → IsOf object result ty
      → IsLeft object world (call_of (mapping number elements kinds ty call join safe) (Some result) operands values world)
  map_leaves call join fits world result operands values tidy of of_result =
      let at_place : (place : ℕ) → IfOk (call (arguments_at world result operands values place)) (λ value. InRange ty value) = λ place.
      let h = scalars_at world result operands values tidy of place in
      subst (λ (l : List Argument). IfOk (call l) (λ value. InRange ty value)) (sym h.is) (fits h.values h.size h.same) in
      left_so world result operands values (mapped (λ place. call (arguments_at world result operands values place)) 0 (cells_of (container_at world result).sizes)) tidy of_result
      (mapped-fits (λ value. InRange ty value) (λ place. call (arguments_at world result operands values place)) at_place 0 (cells_of (container_at world result).sizes))
