-- A call statement of main is a call of a Map, where all instances are Maps of scalars.
use Rattle.std.proofs.Common.{◌≡◌, ℕ, zero, suc, ◌≤◌, Bool, true, List, [], ◌∷◌, ◌++◌, length, map, take, drop, reverse, All, Option, Some, IsSomeAnd, slice_get, arith, ap, sym, refl, subst, ◌∙◌, length-take-le}
use Rattle.std.specs.Prelude.{option_map}
use Rattle.std.specs.List.{list_all}
use Rattle.std.proofs.lemmas.Bool.{leb-true}
use Rattle.std.proofs.lemmas.List.{length-reverse}
use Rattle.std.proofs.lemmas.Option.{get_or_from_slice_get, slice_get_within}
use Rattle.sk_arguments.specs.Arguments.{operand_kinds, uniform_types}
use Rattle.sk_arguments.specs.Operands.{uniforms_taken}
use Rattle.sk_host.specs.MapCalls.{AreTyped, IsMapCall}
use Rattle.sk_host.specs.Maps.{params_of}
use Rattle.sk_host.specs.Stores.{Kept, Mirrors, kept_at, kept_of}
use Rattle.sk_main_code.specs.Vectors.{IsVectorObject}
use Rattle.sk_isa.specs.Objects.{function_at}
use Rattle.sk_isa.specs.SoundObjects.{IsSoundPlan, takes_elements}
use Rattle.sk_isa.specs.Soundness.{is_scalar}
use Rattle.sk_isa.specs.declared.code.Instr.TheVariants.{Do}
use Rattle.sk_isa.specs.declared.object.Object.{Object}
use Rattle.sk_isa.specs.declared.object.Plan.{Plan}
use Rattle.sk_call_shapes.specs.CallShapes.{Container as Kinded, common_kind, uniform_count, wanted_by_statement, wanted_elements, wanted_whole, wanting}
use Rattle.sk_main_code.specs.MainSteps.{MainPoint}
use Rattle.sk_main_code.specs.Sound.{IsSound}
use Rattle.sk_main_laws.proofs.CallWorlds.{first_there, plan_sound}
use Rattle.sk_main_laws.proofs.Finds.{calls_are_given, calls_are_made}
use Rattle.sk_main_laws.proofs.Worlds.{container_at-is, there}
use Rattle.sk_main_laws.specs.Calls.{AreAsWanted, first_of}
use Rattle.sk_main_laws.specs.FineWorlds.{IsFineWorld}
use Rattle.sk_main_laws.specs.Laws.{IsFineIn}
use Rattle.sk_tree.specs.Parameters.{leading_scalars}
use Rattle.sk_tree.specs.declared.tree.ParamKind.{ParamKind}
use Rattle.sk_tree.specs.declared.tree.ParamKind.TheVariants.{Scalar, Index, Proxy, Region}
use Rattle.sk_tree.specs.declared.tree.Skeleton.{Skeleton}
use Rattle.sk_tree.specs.declared.tree.Skeleton.TheVariants.{Map}
use Rattle.sk_vm.proofs.Given.{scalars_only}
use Rattle.sk_world.specs.Calls.{operands_in}
use Rattle.sk_world.specs.World.{Container, World, container_at}

-- a live container is kept
live_kept : (object : Object) (live : ℕ → Bool) (world : World) (store : List (Option Kept)) → IsFineWorld object live world → Mirrors store world
    → (number : ℕ) → live number ≡ true → kept_at store number ≡ Some (kept_of (container_at world number))
live_kept object live world store fine mirrors number is_live =
    let t = there object live world fine number is_live in
    mirrors number ∙ ap (option_map kept_of) t.found ∙ ap (λ (c : Container). Some (kept_of c)) (sym (container_at-is object world number t))

-- containers that are as they are wanted, for parameters that are scalars
typed_wanted : (object : Object) (live : ℕ → Bool) (world : World) (store : List (Option Kept)) → IsFineWorld object live world → Mirrors store world
    → (common elements : ℕ) (params : List ParamKind) (numbers : List ℕ) → list_all is_scalar params ≡ true → All (λ number. live number ≡ true) numbers
    → AreAsWanted (wanted_elements common elements params ++ wanted_whole params) (operands_in world numbers)
    → AreTyped (operand_kinds elements params) (map (kept_at store) numbers)
typed_wanted object live world store fine mirrors common elements [] [] scalars alive are = none elements
  where
    none : (elements : ℕ) → AreTyped (operand_kinds elements []) []
    none elements = tt
typed_wanted object live world store fine mirrors common zero [] (number ∷ numbers) scalars alive are = absurd are
typed_wanted object live world store fine mirrors common (suc elements) [] (number ∷ numbers) scalars alive are = absurd are
typed_wanted object live world store fine mirrors common zero (Scalar ty ∷ kinds) numbers scalars alive are =
    typed_wanted object live world store fine mirrors common zero kinds numbers scalars alive are
typed_wanted object live world store fine mirrors common (suc elements) (Scalar ty ∷ kinds) [] scalars alive are = absurd are
typed_wanted object live world store fine mirrors common (suc elements) (Scalar ty ∷ kinds) (number ∷ numbers) scalars alive are =
    subst (λ (found : Option Kept). AreTyped (Scalar ty ∷ operand_kinds elements kinds) (found ∷ map (kept_at store) numbers))
    (sym (live_kept object live world store fine mirrors number (alive 0 number (omega arith))))
    (are.0.count, are.0.cells, typed_wanted object live world store fine mirrors common elements kinds numbers scalars (λ k d less. alive (suc k) d (omega arith)) are.1)
typed_wanted object live world store fine mirrors common elements (Index dimension ∷ kinds) numbers scalars alive are = cc
typed_wanted object live world store fine mirrors common elements (Proxy dimension ty ∷ kinds) numbers scalars alive are = cc
typed_wanted object live world store fine mirrors common elements (Region dimension ty ∷ kinds) numbers scalars alive are = cc

-- as many uniform arguments as parameters behind the elements
uniform_many : (elements : ℕ) (params : List ParamKind) → list_all is_scalar params ≡ true → length (uniform_types elements params) ≡ length (drop elements params)
uniform_many zero [] scalars = refl
uniform_many (suc elements) [] scalars = refl
uniform_many zero (Scalar ty ∷ kinds) scalars = ap suc (uniform_many zero kinds scalars)
uniform_many (suc elements) (Scalar ty ∷ kinds) scalars = uniform_many elements kinds scalars
uniform_many elements (Index dimension ∷ kinds) scalars = cc
uniform_many elements (Proxy dimension ty ∷ kinds) scalars = cc
uniform_many elements (Region dimension ty ∷ kinds) scalars = cc

leading_upto : (params : List ParamKind) → leading_scalars params ≤ length params
leading_upto [] = omega arith
leading_upto (Scalar ty ∷ kinds) = let h = leading_upto kinds in omega arith
leading_upto (Index dimension ∷ kinds) = let h = leading_upto kinds in omega arith
leading_upto (Proxy dimension ty ∷ kinds) = omega arith
leading_upto (Region dimension ty ∷ kinds) = omega arith

pub reached : (object : Object) (sound : IsSound object) → IsVectorObject object → (point : MainPoint) (fine : IsFineIn object sound.main point)
    → (number : ℕ) (containers : List ℕ) (uniforms : ℕ) → slice_get object.main.instrs point.at ≡ Some (Do number containers uniforms) → uniforms ≤ length point.stack
    → (store : List (Option Kept)) → Mirrors store point.kept → IsMapCall object number containers uniforms store
reached object sound vectors point fine number containers uniforms found enough store mirrors =
    let made = (calls_are_made object sound point fine number containers uniforms).0 found in
    let result = made.0 in
    let call = made.1 in
    let plan = call.plan in
    let called = call.called in
    let is_sound = plan_sound object sound.functions number plan called.there in
    let params = params_of object plan in
    let scalars = (scalars_only object sound.functions vectors.functions (function_at plan 0) (first_there object plan is_sound)).0 in
    let is_map : plan.skeleton ≡ Map =
    subst (λ (one : Plan). one.skeleton ≡ Map) (get_or_from_slice_get object.instances number plan plan called.there)
    (vectors.instances number plan (slice_get_within object.instances number plan called.there)) in
    let common = common_kind params called.given in
    let whole : AreAsWanted (wanting common (first_of object plan).ret ∷ wanted_elements common plan.elements params ++ wanted_whole params)
    (operands_in point.kept (result ∷ call.operands)) =
    given_map plan is_map called.given (operands_in point.kept (result ∷ call.operands)) (calls_are_given object number plan (Some result) call.operands (reverse (take uniforms point.stack)) fine.live point.kept called fine.world) in
    record {
      plan = plan;
      plan_is = called.there;
      is_map = is_map;
      scalars = scalars;
      upto = elements_upto plan is_map is_sound;
      result = result;
      operands = call.operands;
      containers_are = call.containers_are;
      kept = kept_of (container_at point.kept result);
      kept_is = live_kept object fine.live point.kept store fine.world mirrors result (called.live_are 0 result (omega arith));
      shape = whole.0.shape;
      cells = whole.0.count;
      count = sym (length-take-le uniforms point.stack enough) ∙ sym (length-reverse (take uniforms point.stack)) ∙ called.count
          ∙ counted plan is_map ∙ uniform_many plan.elements params scalars;
      operands_are = typed_wanted object fine.live point.kept store fine.world mirrors common plan.elements params call.operands scalars
          (λ k d less. called.live_are (suc k) d (omega arith)) whole.1;
    }
  where
    given_map : (plan : Plan) → plan.skeleton ≡ Map → (given : List Kinded) (operands : List Container)
        → IsSomeAnd (wanted_by_statement plan (first_of object plan) given) (λ wanted. AreAsWanted wanted operands)
        → AreAsWanted (wanting (common_kind (params_of object plan) given) (first_of object plan).ret
        ∷ wanted_elements (common_kind (params_of object plan) given) plan.elements (params_of object plan) ++ wanted_whole (params_of object plan)) operands
    given_map plan is given operands h =
        subst (λ (kind : Skeleton). IsSomeAnd (wanted_by_statement (record plan { skeleton = kind }) (first_of object plan) given) (λ wanted. AreAsWanted wanted operands)) is h

    counted : (plan : Plan) → plan.skeleton ≡ Map → uniform_count plan (first_of object plan) ≡ length (uniform_types plan.elements (params_of object plan))
    counted plan is = ap (λ (kind : Skeleton). length (uniforms_taken kind plan.elements (params_of object plan))) is

    elements_upto : (plan : Plan) → plan.skeleton ≡ Map → IsSoundPlan object plan → plan.elements ≤ length (params_of object plan)
    elements_upto plan is is_sound =
        let few = leb-true plan.elements (leading_scalars (params_of object plan))
        (subst (λ (kind : Skeleton). takes_elements kind plan.elements (params_of object plan) ≡ true) is is_sound.first.elements) in
        let upto = leading_upto (params_of object plan) in
        omega arith
