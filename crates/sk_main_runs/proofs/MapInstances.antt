-- An instance of Map is alike in the object and in the tree, where functions are.
use Rattle.std.proofs.Common.{◌≡◌, ℕ, List, [], ◌∷◌, ◌++◌, length, map, take, ℤ, Option, Some, None, refl, sym, ap, ◌∙◌, subst}
use Rattle.std.specs.List.{list_all}
use Rattle.std.specs.Prelude.{Result, true, false, Bool, ◌&&◌, ◌==◌, slice_get}
use Rattle.sk_arguments.specs.Operands.{uniforms_taken}
use Rattle.sk_base.specs.declared.number.Trap.{Trap}
use Rattle.sk_base.specs.declared.number.Ty.{Ty}
use Rattle.sk_base.specs.declared.number.Ty.TheVariants.{Int}
use Rattle.sk_isa.specs.Objects.{function_at, invoked, is_marked, signature_at}
use Rattle.sk_isa.specs.declared.object.Object.{Object}
use Rattle.sk_isa.specs.declared.object.Plan.{Plan}
use Rattle.sk_isa.specs.declared.object.Signature.{Signature}
use Rattle.sk_call_shapes.specs.CallShapes as shapes
use Rattle.sk_main_code.specs.MainSoundness.{calls_fit, containers_of, container_of}
use Rattle.sk_main_code.specs.MainSteps.{linked_plan}
use Rattle.sk_main_run.specs.MainRun.{callable_in, linked, no_callable}
use Rattle.sk_main_runs.proofs.MapArguments.{AreOf, IsOf, first_of, wanted_so, same_type-is}
use Rattle.sk_main_runs.proofs.MapCalls.{mapping, map_same, map_leaves}
use Rattle.sk_main_runs.specs.Maps.{IsMapPlan}
use Rattle.sk_main_runs.specs.SameMeaning.{AreFunction, FunctionsAgree, IsFunction, IsInstance, IsLeft, IsTidy, fitted}
use Rattle.sk_main_scheme.specs.MainScheme.{Made, made_of}
use Rattle.sk_meaning.specs.Evaluation.{Argument, Callable, Callables, Value, value_of}
use Rattle.sk_names.specs.Bindings.{bound_to}
use Rattle.sk_plain.proofs.Truths.{and_left, and_right, some_same}
use Rattle.sk_safety.specs.Safety.{Judgements, safe_in}
use Rattle.sk_scheme.specs.Scheme.{Known}
use Rattle.sk_tree.specs.Parameters.{same_type, scalar_types}
use Rattle.sk_tree.specs.Skeletons.{elements_of}
use Rattle.sk_tree.specs.declared.tree.Instance as instances
use Rattle.sk_tree.specs.declared.tree.ParamKind.{ParamKind}
use Rattle.sk_tree.specs.declared.tree.Skeleton.{Skeleton}
use Rattle.sk_tree.specs.declared.tree.Skeleton.TheVariants.{Map}
use Rattle.sk_world.specs.Calls.{Instance, call_of, operand_count}
use Rattle.sk_world.specs.World.{World}

-- the containers of a call of a Map: the result is of the function's type, and the others are of its elements' types
record AreFitting (object : Object) (result : ℕ) (operands : List ℕ) (ret : Ty) (types : List Ty) : Type 0 where
  of_result : IsOf object result ret
  of : AreOf object operands types

map_fits : (object : Object) (plan : Plan) (first : Signature) (result : ℕ) (operands : List ℕ) (given : List shapes.Container) → containers_of object (result ∷ operands) ≡ Some given
    → shapes.fits_statement (record plan { skeleton = Map }) first given ≡ true → AreFitting object result operands first.ret (take plan.elements (scalar_types first.params))
map_fits object plan first result operands given e fit =
    let f = first_of object result operands given e in
    let common : ℕ = shapes.common_kind first.params given in
    let whole : List shapes.Wanted = shapes.wanted_whole first.params in
    let wanted : List shapes.Wanted = map (shapes.wanting common) (take plan.elements (scalar_types first.params)) ++ whole in
    let fit1 : (shapes.is_wanted (shapes.wanting common first.ret) (container_of f.declared) && shapes.are_wanted wanted f.rest) ≡ true =
    subst (λ (l : List shapes.Container). shapes.are_wanted (shapes.wanting common first.ret ∷ wanted) l ≡ true) f.given_is fit in
    let one = and_left (shapes.is_wanted (shapes.wanting common first.ret) (container_of f.declared)) (shapes.are_wanted wanted f.rest) fit1 in
    let rest = and_right (shapes.is_wanted (shapes.wanting common first.ret) (container_of f.declared)) (shapes.are_wanted wanted f.rest) fit1 in
    record {
      of_result = record { declared = f.declared; there = f.there; of = sym (same_type-is first.ret f.declared.ty (and_right (common == f.declared.kind) (same_type first.ret f.declared.ty) one)) };
      of = wanted_so object common (take plan.elements (scalar_types first.params)) whole operands f.rest f.rest_is rest;
    }

-- what a call that fits has
record HasShapes (object : Object) (plan : Plan) (containers : List ℕ) : Type 0 where
  given : List shapes.Container
  given_is : containers_of object containers ≡ Some given
  fit : shapes.fits_statement plan (signature_at object (function_at plan 0)) given ≡ true

shapes_of : (object : Object) (number : ℕ) (plan : Plan) → slice_get object.instances number ≡ Some plan → (containers : List ℕ) (uniforms : ℕ)
    → calls_fit object number containers uniforms shapes.fits_statement ≡ true → HasShapes object plan containers
shapes_of object number plan there containers uniforms fit = by_given (containers_of object containers) refl fit1
  where
    fit1 : (elim (containers_of object containers) as (λ x. Bool) [
      | Some given ↦ shapes.fits_statement plan (signature_at object (function_at plan 0)) given && uniforms == shapes.uniform_count plan (signature_at object (function_at plan 0))
      | None ↦ false
    ]) ≡ true
    fit1 = subst (λ (o : Option Plan). (elim o as (λ x. Bool) [
      | Some plan ↦ elim (containers_of object containers) as (λ x. Bool) [
        | Some given ↦ shapes.fits_statement plan (signature_at object (function_at plan 0)) given && uniforms == shapes.uniform_count plan (signature_at object (function_at plan 0))
        | None ↦ false
      ]
      | None ↦ false
    ]) ≡ true) there fit

    by_given : (found : Option (List shapes.Container)) → containers_of object containers ≡ found → (elim found as (λ x. Bool) [
      | Some given ↦ shapes.fits_statement plan (signature_at object (function_at plan 0)) given && uniforms == shapes.uniform_count plan (signature_at object (function_at plan 0))
      | None ↦ false
    ]) ≡ true → HasShapes object plan containers
    by_given (Some given) e f = record {
      given = given;
      given_is = e;
      fit = and_left (shapes.fits_statement plan (signature_at object (function_at plan 0)) given) (uniforms == shapes.uniform_count plan (signature_at object (function_at plan 0))) f;
    }
    by_given None e f = let no : ⊥ = cc in absurd no

-- an instance by its parts
abbrev instance_by : ℕ → Skeleton → ℕ → List ParamKind → Ty → (List Argument → Result ℤ Trap) → (ℤ → ℤ → Result ℤ Trap) → Bool → Instance
instance_by number skeleton elements kinds ty call join safe = record {
  number = number;
  skeleton = skeleton;
  elements = elements;
  kinds = kinds;
  ty = ty;
  call = call;
  join = join;
  is_safe = safe;
}

-- the function that both have
record HasFunction (object : Object) (callables : Callables) (name : List ℕ) (known : Known) : Type 0 where
  callable : Callable
  found : bound_to name callables ≡ Some callable
  same : IsFunction object known callable

function_found : (object : Object) (functions : List (List ℕ × Known)) (callables : Callables) → FunctionsAgree object functions callables → (name : List ℕ) (known : Known)
    → bound_to name functions ≡ Some known → HasFunction object callables name known
function_found object functions callables agree name known e = by_found (bound_to name functions) (bound_to name callables) (agree.each name) e refl
  where
    by_found : (k : Option Known) (c : Option Callable) → AreFunction object k c → k ≡ Some known → bound_to name callables ≡ c → HasFunction object callables name known
    by_found (Some one) (Some callable) h e f = record { callable = callable; found = f; same = subst (λ k. IsFunction object k callable) (some_same one known e) h }
    by_found (Some one) None h e f = absurd h
    by_found None c h e f = let no : ⊥ = cc in absurd no

module _ (object : Object) (functions : List (List ℕ × Known)) (judgements : Judgements) (number : ℕ) (instance : instances.Instance) (h : IsMapPlan object functions judgements number instance) where
  abbrev kinds : List ParamKind
  kinds = h.known.kinds

  abbrev elements : ℕ
  elements = elements_of Map instance.numbers h.known.kinds

  abbrev safe : Bool
  safe = list_all (safe_in judgements) instance.functions

  -- the instance of the object
  plan_is : linked_plan object number h.plan ≡ mapping number elements kinds h.known.ret (invoked object h.known.number) (linked_plan object number h.plan).join safe
  plan_is =
      let join : ℤ → ℤ → Result ℤ Trap = (linked_plan object number h.plan).join in
      let marked : Bool = list_all (is_marked object) h.plan.functions in
      ap (λ (f : ℕ). instance_by number h.plan.skeleton h.plan.elements (signature_at object f).params (signature_at object f).ret (invoked object f) join marked) h.function
      ∙ ap (λ (s : Skeleton). instance_by number s h.plan.elements (signature_at object h.known.number).params (signature_at object h.known.number).ret (invoked object h.known.number) join marked) h.plan_skeleton
      ∙ ap (λ (n : ℕ). instance_by number Map n (signature_at object h.known.number).params (signature_at object h.known.number).ret (invoked object h.known.number) join marked) h.elements
      ∙ ap (λ (k : List ParamKind). instance_by number Map elements k (signature_at object h.known.number).ret (invoked object h.known.number) join marked) h.params
      ∙ ap (λ (t : Ty). instance_by number Map elements kinds t (invoked object h.known.number) join marked) h.ret
      ∙ ap (λ (b : Bool). instance_by number Map elements kinds h.known.ret (invoked object h.known.number) join b) h.safe

  -- what the scheme has of it
  made_is : made_of functions number instance ≡ record { number = number; skeleton = Map; elements = elements; kinds = kinds; ret = h.known.ret }
  made_is =
      let e : (elim (slice_get instance.functions 0) as (λ x. Option Known) [ Some name ↦ bound_to name functions | None ↦ None ]) ≡ Some h.known =
      ap (λ (o : Option (List ℕ)). elim o as (λ x. Option Known) [ Some name ↦ bound_to name functions | None ↦ None ]) h.first ∙ h.found in
      ap (λ (o : Option Known). elim o as (λ x. Made) [
        | Some function ↦ record {
          number = number;
          skeleton = instance.skeleton;
          elements = elements_of instance.skeleton instance.numbers function.kinds;
          kinds = function.kinds;
          ret = function.ret;
        }
        | None ↦ record { number = number; skeleton = instance.skeleton; elements = 0; kinds = []; ret = Int }
      ]) e
      ∙ ap (λ (s : Skeleton). record { number = number; skeleton = s; elements = elements_of s instance.numbers kinds; kinds = kinds; ret = h.known.ret }) h.skeleton

  module _ (callables : Callables) (agree : FunctionsAgree object functions callables) where
    has : HasFunction object callables h.name h.known
    has = function_found object functions callables agree h.name h.known h.found

    -- the instance of the tree
    linked_is : linked judgements callables number instance ≡ mapping number elements kinds h.known.ret (value_of has.callable) (linked judgements callables number instance).join safe
    linked_is =
        let join : ℤ → ℤ → Result ℤ Trap = (linked judgements callables number instance).join in
        let e : callable_in callables (slice_get instance.functions 0) ≡ has.callable =
        ap (callable_in callables) h.first
        ∙ ap (λ (o : Option Callable). elim o as (λ x. Callable) [ Some callable ↦ callable | None ↦ no_callable ]) has.found in
        ap (λ (c : Callable). instance_by number instance.skeleton (elements_of instance.skeleton instance.numbers c.kinds) c.kinds c.ret (value_of c) join safe) e
        ∙ ap (λ (k : List ParamKind). instance_by number instance.skeleton (elements_of instance.skeleton instance.numbers k) k has.callable.ret (value_of has.callable) join safe) has.same.kinds
        ∙ ap (λ (t : Ty). instance_by number instance.skeleton (elements_of instance.skeleton instance.numbers kinds) kinds t (value_of has.callable) join safe) has.same.ret
        ∙ ap (λ (s : Skeleton). instance_by number s (elements_of s instance.numbers kinds) kinds h.known.ret (value_of has.callable) join safe) h.skeleton

    fitting : (result : ℕ) (operands : List ℕ) (uniforms : ℕ) → calls_fit object number (result ∷ operands) uniforms shapes.fits_statement ≡ true
        → AreFitting object result operands h.known.ret (take elements (scalar_types kinds))
    fitting result operands uniforms fit =
        let s = shapes_of object number h.plan h.there (result ∷ operands) uniforms fit in
        let fit1 = subst (λ (k : Skeleton). shapes.fits_statement (record h.plan { skeleton = k }) (signature_at object (function_at h.plan 0)) s.given ≡ true) h.plan_skeleton s.fit in
        let fits = map_fits object h.plan (signature_at object (function_at h.plan 0)) result operands s.given s.given_is fit1 in
        let fits2 = subst (λ (f : ℕ). AreFitting object result operands (signature_at object f).ret (take h.plan.elements (scalar_types (signature_at object f).params))) h.function fits in
        let fits3 = subst (λ (t : Ty). AreFitting object result operands t (take h.plan.elements (scalar_types (signature_at object h.known.number).params))) h.ret fits2 in
        let fits4 = subst (λ (k : List ParamKind). AreFitting object result operands h.known.ret (take h.plan.elements (scalar_types k))) h.params fits3 in
        subst (λ (n : ℕ). AreFitting object result operands h.known.ret (take n (scalar_types kinds))) h.elements fits4

    values_same : (values : List ℤ) → length values ≡ length kinds → fitted kinds values ≡ values → invoked object h.known.number (map Value values) ≡ value_of has.callable (map Value values)
    values_same values size same = ap (λ (l : List ℤ). invoked object h.known.number (map Value l)) (sym same) ∙ has.same.call values size

    same_calls : (result : ℕ) (operands : List ℕ) (values : List ℤ) (world : World) → IsTidy object world → calls_fit object number (result ∷ operands) (length values) shapes.fits_statement ≡ true
        → call_of (linked_plan object number h.plan) (Some result) operands values world ≡ call_of (linked judgements callables number instance) (Some result) operands values world
    same_calls result operands values world tidy fit =
        ap (λ (i : Instance). call_of i (Some result) operands values world) plan_is
        ∙ map_same object number elements kinds h.scalars h.known.ret safe (invoked object h.known.number) (value_of has.callable) (linked_plan object number h.plan).join (linked judgements callables number instance).join
        values_same world result operands values tidy (fitting result operands (length values) fit).of
        ∙ sym (ap (λ (i : Instance). call_of i (Some result) operands values world) linked_is)

    leaves : (result : ℕ) (operands : List ℕ) (values : List ℤ) (world : World) → IsTidy object world → calls_fit object number (result ∷ operands) (length values) shapes.fits_statement ≡ true
        → IsLeft object world (call_of (linked judgements callables number instance) (Some result) operands values world)
    leaves result operands values world tidy fit =
        let f = fitting result operands (length values) fit in
        subst (λ (i : Instance). IsLeft object world (call_of i (Some result) operands values world)) (sym linked_is)
        (map_leaves object number elements kinds h.scalars h.known.ret safe (value_of has.callable) (linked judgements callables number instance).join
        (λ values size same. has.same.gives values size) world result operands values tidy f.of f.of_result)

    -- an instance of Map does the same in both
    pub map_instance : IsInstance object (made_of functions number instance) (linked judgements callables number instance)
    map_instance =
        subst (λ (made : Made). IsInstance object made (linked judgements callables number instance)) (sym made_is)
        (record {
          number = refl;
          operands = ap operand_count linked_is;
          uniforms = ap (λ (i : Instance). uniforms_taken i.skeleton i.elements i.kinds) linked_is;
          plan = h.plan;
          there = h.there;
          same = same_calls;
          leaves = leaves;
        })
