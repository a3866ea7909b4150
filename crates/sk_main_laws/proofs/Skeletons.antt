-- The calls of each skeleton's instances leave fine worlds.
use Rattle.std.proofs.Common.{◌≡◌, ℕ, zero, suc, ◌+◌, ◌^◌, ◌<◌, ◌≤◌, true, List, [], ◌∷◌, length, map, take, All, ℤ, pos, Option, Some, None, slice_get, slice_index_or, arith, ap, sym, refl, subst, ◌∙◌}
use Rattle.std.proofs.lemmas.Bool.{and_parts}
use Rattle.std.specs.List.{list_all}
use Rattle.sk_arguments.specs.Arguments.{At, Given, Reading, arguments_of, operand_kinds, place_of, uniform_types}
use Rattle.sk_arguments.specs.Places.{coordinates_of}
use Rattle.sk_base.specs.Arithmetic.{InRange}
use Rattle.sk_base.specs.Shape.{IsShape, cells_of}
use Rattle.sk_base.specs.declared.choice.Variant.{Variant}
use Rattle.sk_base.specs.declared.number.Ty.{Ty}
use Rattle.sk_formula.specs.Skeletons.{Functions}
use Rattle.sk_isa.specs.Objects.{invoked, no_signature, signature_at}
use Rattle.sk_isa.specs.SoundObjects.{HasSoundFunctions, IsOperator, IsSoundPlan}
use Rattle.sk_isa.specs.Soundness.{IsOfType, SuitParams, SuitsParam, is_kind}
use Rattle.sk_isa.specs.declared.code.Code.{Code}
use Rattle.sk_isa.specs.declared.object.Object.{Object}
use Rattle.sk_isa.specs.declared.object.Plan.{Plan}
use Rattle.sk_isa.specs.declared.object.Signature.{Signature}
use Rattle.sk_isa_laws.proofs.Callees as callees
use Rattle.sk_call_shapes.specs.CallShapes.{Wanted, fits}
use Rattle.sk_main_code.specs.MainSteps.{linked_plan}
use Rattle.sk_main_laws.proofs.Arguments.{IsPlaced, SuitsOperand, SuitsPlace, arguments_suit, coordinates_small, operand_suits, placed, wanted_for}
use Rattle.sk_main_laws.proofs.CallWorlds.{first_there, value-of_type}
use Rattle.sk_main_laws.proofs.Inputs.{same_type-true}
use Rattle.sk_main_laws.proofs.Names.{all_at}
use Rattle.sk_main_laws.specs.Calls.{AreAsWanted}
use Rattle.sk_main_laws.specs.FineWorlds.{AreInRange}
use Rattle.sk_meaning.specs.Evaluation.{Place, Value}
use Rattle.sk_tree.specs.Parameters.{index_dimension, same_type}
use Rattle.sk_tree.specs.Skeletons.{function_count, is_operator, operator_place}
use Rattle.sk_tree.specs.declared.settings.Settings.{Settings}
use Rattle.sk_tree.specs.declared.tree.ParamKind.{ParamKind}
use Rattle.sk_tree.specs.declared.tree.ParamKind.TheVariants.{Scalar, Index, Proxy, Region}
use Rattle.sk_tree.specs.declared.tree.Skeleton.{Skeleton}
use Rattle.sk_world.specs.Calls.{Instance, functions_of, given_of, reading_of}
use Rattle.sk_world.specs.World.{Container}

-- the parameters of a sound function have kinds that there are
kinds_of : (object : Object) → HasSoundFunctions object → (function : ℕ) → function < length object.functions
    → list_all is_kind (signature_at object function).params ≡ true
kinds_of object sound function within =
    subst (λ (s : Signature). list_all is_kind s.params ≡ true) (sym same)
    (sound.functions function code.0 own.0 code.1 own.1).kinds
  where
    enough : length object.signatures ≡ suc (length object.functions) → function < length object.signatures
    enough count = omega arith

    own : (x : Signature) × (slice_get object.signatures function ≡ Some x)
    own = callees.there object.signatures function (enough sound.signatures)

    code : (x : Code) × (slice_get object.functions function ≡ Some x)
    code = callees.there object.functions function within

    same : signature_at object function ≡ own.0
    same = ap (λ (found : Option Signature). elim found [ Some signature ↦ signature | None ↦ no_signature ]) own.1

-- two numbers for an operator
two_suit : (ty : Ty) (params : List ParamKind) (a b : ℤ) → is_operator ty params ≡ true → InRange ty a → InRange ty b → SuitParams params (Value a ∷ Value b ∷ [])
two_suit ty (Scalar left ∷ Scalar right ∷ []) a b e fits fit =
    let parts = and_parts (same_type left ty) (same_type right ty) e in (
      subst (λ (t : Ty). InRange t a) (sym (same_type-true left ty parts.0)) fits,
      (subst (λ (t : Ty). InRange t b) (sym (same_type-true right ty parts.1)) fit, tt),
    )
two_suit ty kinds a b e fits fit = cc

-- a place in a container is an index of its dimension
pub index_in : (sizes : List ℕ) (dimension index : ℕ) → IsShape sizes → length sizes ≡ dimension → index < cells_of sizes
    → SuitsParam (Index dimension) (Place (coordinates_of sizes index))
index_in sizes dimension index shape long within = let h = coordinates_small sizes index shape.each within in (h.0 ∙ long, h.1)

pub pair_in : (dimension place pair : ℕ) → dimension ≡ 2 → place < 2 ^ 24 → pair < 2 ^ 24 → SuitsParam (Index dimension) (Place (place ∷ pair ∷ []))
pair_in dimension place pair is one other = (long dimension is, each)
  where
    long : (n : ℕ) → n ≡ 2 → length (place ∷ pair ∷ []) ≡ n
    long n e = omega arith

    each : All (λ coordinate. coordinate < 2 ^ 24) (place ∷ pair ∷ [])
    each zero d less = one
    each (suc zero) d less = other
    each (suc (suc k)) d less = absurd (omega arith)

-- a container that is wanted is no larger than any
pub cells_small : (wanted : List Wanted) (containers : List Container) (count operand : ℕ) → AreAsWanted wanted containers
    → (elim (slice_get (take count (map (λ (c : Container). c.sizes) containers)) operand) [ Some shape ↦ cells_of shape | None ↦ 0 ]) ≤ 2 ^ 24
cells_small wanted containers zero operand h = omega arith
cells_small [] [] (suc count) operand h = omega arith
cells_small [] (container ∷ containers) (suc count) operand h = absurd h
cells_small (wanted ∷ more) [] (suc count) operand h = absurd h
cells_small (wanted ∷ more) (container ∷ containers) (suc count) zero h = h.0.shape.product
cells_small (wanted ∷ more) (container ∷ containers) (suc count) (suc operand) h = cells_small more containers count operand h.1

-- an instance by its parts, so that its skeleton can be told apart
abbrev pub plan_by : (name : List ℕ) → (functions : List ℕ) → (elements : ℕ) → List Variant → Skeleton → Plan
plan_by name functions elements variants kind =
    record { name = name; skeleton = kind; functions = functions; elements = elements; variants = variants }

module _ (object : Object) (sound : HasSoundFunctions object) (number : ℕ) (name : List ℕ) (functions : List ℕ) (elements : ℕ) (variants : List Variant) where
  abbrev plan_of : Skeleton → Plan
  plan_of = plan_by name functions elements variants

  abbrev first : Signature
  first = signature_at object (slice_index_or functions 0 0)

  abbrev instance_of : Skeleton → Instance
  instance_of kind = linked_plan object number (plan_of kind)

  module _ (kind : Skeleton) (is_sound : IsSoundPlan object (plan_of kind)) (settings : Settings) (in_range : AreInRange (instance_of kind) settings) where
    -- the operator's values
    pub join_fits : (place : ℕ) → operator_place kind ≡ Some place → place < function_count kind → (a b : ℤ) → InRange first.ret a → InRange first.ret b
        → IsOfType first.ret (invoked object (slice_index_or functions place 0) (Value a ∷ Value b ∷ []))
    join_fits place is within a b fits fit =
        subst (λ (ty : Ty). IsOfType ty (invoked object (slice_index_or functions place 0) (Value a ∷ Value b ∷ []))) operator.ret
        (value-of_type object sound (slice_index_or functions place 0) (is_sound.there place 0 (subst (λ (n : ℕ). place < n) (sym is_sound.count) within))
        (Value a ∷ Value b ∷ [])
        (two_suit first.ret (signature_at object (slice_index_or functions place 0)).params a b operator.params fits fit))
      where
        operator : IsOperator (signature_at object (slice_index_or functions place 0)) first.ret
        operator = is_sound.operator place is

    module _ (target : Option Container) (containers : List Container) (cells : List ℤ) where
      abbrev reading : Reading
      reading = reading_of (instance_of kind) settings

      abbrev given : Given
      given = given_of (instance_of kind) target containers cells

      abbrev given_functions : Functions
      given_functions = functions_of (instance_of kind) settings given

      -- the function's values
      pub value_fits : (common : ℕ) → AreAsWanted (map (wanted_for common) (operand_kinds elements first.params)) containers
          → ((k : ℕ) (ty : Ty) → slice_get (uniform_types elements first.params) k ≡ Some ty → InRange ty (slice_index_or cells k (pos 0)))
          → (place pair : ℕ)
          → ((dimension : ℕ) → index_dimension first.params ≡ Some dimension
          → SuitsParam (Index dimension) (Place (place_of reading given (record { place = place; pair = pair }))))
          → IsOfType first.ret (given_functions.value place pair)
      value_fits common are uniforms place pair index =
          value-of_type object sound (slice_index_or functions 0 0) within (arguments_of reading first.params given at)
          (arguments_suit reading given at in_range.rows in_range.columns elements 0 0 first.params
          (λ k one e. place_suits one (placed first.params is_sound.first.ordered k one e)
          (all_at is_kind first.params k one (kinds_of object sound (slice_index_or functions 0 0) within) e))
          (λ k one e. subst (λ (n : ℕ). SuitsOperand reading given at in_range.rows in_range.columns one n) (plus k)
          (operand_suits reading given at in_range.rows in_range.columns containers refl refl common (operand_kinds elements first.params) are k one e))
          (λ k ty e. subst (λ (n : ℕ). InRange ty (slice_index_or cells n (pos 0))) (plus k) (uniforms k ty e)))
        where
          at : At
          at = record { place = place; pair = pair }

          within : slice_index_or functions 0 0 < length object.functions
          within = first_there object (plan_of kind) is_sound

          plus : (k : ℕ) → k ≡ 0 + k
          plus k = omega arith

          place_suits : (one : ParamKind) → IsPlaced first.params one → is_kind one ≡ true → SuitsPlace reading given at in_range.rows in_range.columns one
          place_suits (Scalar ty) is fits = tt
          place_suits (Index dimension) is fits = index dimension is
          place_suits (Proxy dimension ty) is fits = tt
          place_suits (Region dimension ty) is fits = (
            subst (λ (found : Option (ℕ × Ty)). InRange (elim found [ Some region ↦ region.1 | None ↦ first.ret ]) settings.pad) is in_range.pad,
            fits,
          )
