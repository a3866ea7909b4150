-- What main's code names is there in the objects that stand for a program of vectors.
use Rattle.std.proofs.Common.{◌≡◌, ℕ, zero, suc, List, [], ◌∷◌, ◌++◌, length, map, Option, Some, None, slice_get, refl, sym, ap, ◌∙◌, subst}
use Rattle.std.proofs.lemmas.Option.{slice_get-map}
use Rattle.std.specs.List.{list_all}
use Rattle.std.specs.Option.{option_map}
use Rattle.std.specs.Prelude.{slice_index_or}
use Rattle.sk_base.specs.declared.number.Ty.{Ty}
use Rattle.sk_base.specs.declared.number.Ty.TheVariants.{Int}
use Rattle.sk_isa.specs.Objects.{function_at, signature_at}
use Rattle.sk_isa.specs.declared.code.Code.{Code}
use Rattle.sk_isa.specs.declared.code.Instr.{Instr}
use Rattle.sk_isa.specs.declared.code.Instr.TheVariants as instr
use Rattle.sk_isa.specs.declared.object.Object.{Object}
use Rattle.sk_isa.specs.declared.object.Plan.{Plan}
use Rattle.sk_isa.specs.declared.object.Signature.{Signature}
use Rattle.sk_main_fits.specs.Mains.{known_in, main_body, main_of}
use Rattle.sk_main_fits.specs.StatementFits.{judged_of, sequence_fits, start_standing}
use Rattle.sk_main_fits.specs.Vectors.{IsMapOf, IsOfVectors}
use Rattle.sk_main_names.proofs.Bodies.{statements_named}
use Rattle.sk_main_fits.proofs.Emission.{statements_emitted}
use Rattle.sk_main_names.proofs.Expressions.{HasCalls}
use Rattle.sk_main_names.proofs.Functions.{IsKnown, calls_named, known_there, main_is, main_signature_is, scalar_is, signature_is}
use Rattle.sk_main_names.proofs.Scopes.{IsMap, Names, names_append, planned}
use Rattle.sk_main_names.proofs.StatementNodes.{Holds, Naming}
use Rattle.sk_main_names.specs.MainNames.{CompiledVectorsHaveNames, StandingVectorsHaveNames}
use Rattle.sk_main_scheme.specs.MainScheme.{Emitted, Emitting, Made, all_emitted, emitting_of, made_of, main_emitted}
use Rattle.sk_main_scheme.specs.Objects.{AreSomePlans, object_of, offering}
use Rattle.sk_names.specs.Bindings.{bound_to}
use Rattle.sk_scheme.specs.Plans.{first_kinds, functions_before_main, numbers_of, plan_of}
use Rattle.sk_scheme.specs.Scheme.{Known, known_functions}
use Rattle.sk_tree.specs.Functions.{body_of}
use Rattle.sk_tree.specs.Parameters.{is_scalar}
use Rattle.sk_tree.specs.Skeletons.{elements_of}
use Rattle.sk_tree.specs.declared.declared.Declared.{Declared}
use Rattle.sk_tree.specs.declared.tree.Instance as instances
use Rattle.sk_tree.specs.declared.tree.ParamKind.{ParamKind}
use Rattle.sk_tree.specs.declared.tree.Program.{Program}
use Rattle.sk_tree.specs.declared.tree.Skeleton.{Skeleton}

-- a plan that an object has under a number, but for its variants
pub record HasPlan (plans : List Plan) (number : ℕ) (plan : Plan) : Type 0 where
  pub own : Plan
  pub there : slice_get plans number ≡ Some own
  pub same : record own { variants = plan.variants } ≡ plan

-- some plans are all of them, but for their variants
some_plans : (plans all : List Plan) → AreSomePlans plans all → (number : ℕ) (plan : Plan) → slice_get all number ≡ Some plan → HasPlan plans number plan
some_plans [] [] h number plan e = let no : ⊥ = cc in absurd no
some_plans [] (one ∷ all) h number plan e = absurd h
some_plans (own ∷ plans) [] h number plan e = absurd h
some_plans (own ∷ plans) (one ∷ all) h zero plan e =
    let is : one ≡ plan = cc in record { own = own; there = refl; same = subst (λ (p : Plan). record own { variants = p.variants } ≡ p) is h.0.same }
some_plans (own ∷ plans) (one ∷ all) h (suc number) plan e =
    let r = some_plans plans all h.1 number plan e in record { own = r.own; there = r.there; same = r.same }

-- ---- a Map of a function that is known, in main

abbrev made_from : (number : ℕ) → Skeleton → (elements : ℕ) → List ParamKind → Ty → Made
made_from number skeleton elements kinds ret = record { number = number; skeleton = skeleton; elements = elements; kinds = kinds; ret = ret }

module _ (known : List (List ℕ × Known)) (instance : instances.Instance) (m : IsMapOf known instance) where
  numbers_are : numbers_of known instance.functions ≡ m.known.number ∷ []
  numbers_are = ap (numbers_of known) m.one ∙ ap (λ (o : Option Known). elim o as (λ x. List ℕ) [ Some function ↦ function.number ∷ [] | None ↦ [] ]) m.found

  kinds_are : first_kinds known instance.functions ≡ m.known.kinds
  kinds_are = ap (first_kinds known) m.one ∙ ap (λ (o : Option Known). elim o as (λ x. List ParamKind) [ Some function ↦ function.kinds | None ↦ [] ]) m.found

made_is : (known : List (List ℕ × Known)) (number : ℕ) (instance : instances.Instance) (m : IsMapOf known instance)
    → made_of known number instance ≡ made_from number instance.skeleton (elements_of instance.skeleton instance.numbers m.known.kinds) m.known.kinds m.known.ret
made_is known number instance m =
    let found : (elim (slice_get instance.functions 0) as (λ x. Option Known) [ Some name ↦ bound_to name known | None ↦ None ]) ≡ Some m.known =
    ap (λ (l : List (List ℕ)). elim (slice_get l 0) as (λ x. Option Known) [ Some name ↦ bound_to name known | None ↦ None ]) m.one ∙ m.found in
    ap (λ (o : Option Known). elim o as (λ x. Made) [
      | Some function ↦ made_from number instance.skeleton (elements_of instance.skeleton instance.numbers function.kinds) function.kinds function.ret
      | None ↦ made_from number instance.skeleton 0 [] Int
    ]) found

module _ (program : Program) (vectors : IsOfVectors program) (object : Object) (same_main : object.main ≡ (object_of program).main)
    (same_containers : object.containers ≡ (object_of program).containers) (same_functions : object.functions ≡ (object_of program).functions)
    (same_signatures : object.signatures ≡ (object_of program).signatures)
    (plans : (number : ℕ) (plan : Plan) → slice_get (object_of program).instances number ≡ Some plan → HasPlan object.instances number plan) where
  abbrev known : List (List ℕ × Known)
  known = known_in program

  all_known : (name : List ℕ) (function : Known) → bound_to name (known_in program) ≡ Some function → IsKnown object.signatures (length object.functions) function
  all_known = known_there program object same_functions same_signatures vectors

  -- the instances that main declares, and the object without variants
  abbrev declared_instances : List instances.Instance
  declared_instances = (main_emitted (known_functions (functions_before_main program)) (body_of (slice_get program.functions (length (functions_before_main program))))).behind.instances

  abbrev bare : Object
  bare = record (object_of program) { instances = map (plan_of (known_in program)) declared_instances }

  plan_there : (number : ℕ) (instance : instances.Instance) → slice_get (main_of program).behind.instances number ≡ Some instance
      → HasPlan object.instances number (offering bare (plan_of (known_in program) instance))
  plan_there number instance e =
      let e1 : slice_get declared_instances number ≡ Some instance = ap (λ (x : Emitted). slice_get x.behind.instances number) (main_is program) ∙ e in
      let e2 : slice_get (map (plan_of known) declared_instances) number ≡ Some (plan_of known instance) = slice_get-map (plan_of known) declared_instances number ∙ ap (option_map (plan_of known)) e1 in
      plans number (offering bare (plan_of known instance)) (slice_get-map (offering bare) (map (plan_of known) declared_instances) number ∙ ap (option_map (offering bare)) e2)

  -- an instance is a Map, in the object and in main
  map_there : (number : ℕ) (instance : instances.Instance) → slice_get (main_of program).behind.instances number ≡ Some instance → IsMapOf (known_in program) instance
      → IsMap object (made_of (known_in program) number instance)
  map_there number instance e m =
      let h = plan_there number instance e in
      let k = all_known m.name m.known m.found in
      let first : Signature = signature_at object (function_at h.own 0) in
      let function_is : function_at h.own 0 ≡ m.known.number = ap (λ (p : Plan). function_at p 0) h.same ∙ ap (λ (l : List ℕ). slice_index_or l 0 0) (numbers_are known instance m) in
      let first_is : first ≡ k.signature = ap (signature_at object) function_is ∙ signature_is object m.known k in
      let kinds : first.params ≡ m.known.kinds = ap (λ (s : Signature). s.params) first_is ∙ k.params in
      let ret : first.ret ≡ m.known.ret = ap (λ (s : Signature). s.ret) first_is ∙ k.ret in
      let skeleton : h.own.skeleton ≡ instance.skeleton = ap (λ (p : Plan). p.skeleton) h.same in
      let count : ℕ = elements_of instance.skeleton instance.numbers m.known.kinds in
      let elements : h.own.elements ≡ count = ap (λ (p : Plan). p.elements) h.same ∙ ap (elements_of instance.skeleton instance.numbers) (kinds_are known instance m) in
      let own_is : planned number h.own first ≡ made_from number instance.skeleton count m.known.kinds m.known.ret =
      ap (λ (s : Skeleton). made_from number s h.own.elements first.params first.ret) skeleton
      ∙ ap (λ n. made_from number instance.skeleton n first.params first.ret) elements
      ∙ ap (λ (ks : List ParamKind). made_from number instance.skeleton count ks first.ret) kinds
      ∙ ap (λ (t : Ty). made_from number instance.skeleton count m.known.kinds t) ret in
      let same = made_is known number instance m in
      let number_is : (made_of known number instance).number ≡ number = ap (λ (made : Made). made.number) same in
      record {
        plan = h.own;
        there = ap (slice_get object.instances) number_is ∙ h.there;
        same = same ∙ sym own_is ∙ ap (λ n. planned n h.own first) (sym number_is);
        skeleton = skeleton ∙ m.skeleton;
        scalars = ap (list_all is_scalar) kinds ∙ m.scalars;
      }

  holds : Holds object (known_in program) (main_of program).behind.slots (main_of program).behind.containers (main_of program).behind.instances
  holds = record {
    slots = scalar_is object (main_of program).behind.slots (ap (λ (s : Signature). s.slots) (main_signature_is program object same_functions same_signatures));
    containers = λ number declared e.
        ap (λ (l : List Declared). slice_get l number) same_containers ∙ ap (λ (x : Emitted). slice_get x.behind.containers number) (main_is program) ∙ e;
    instances = λ number instance e. map_there number instance e (vectors.maps number instance e);
  }

  -- what main's code names is there
  pub main_named : Names object object.main.instrs
  main_named =
      let calls : HasCalls object known = calls_named object known all_known in
      let emitted : Emitted = all_emitted (map emitting_of (main_body program)) known start_standing in
      let naming : Naming object known (all_emitted (map emitting_of (main_body program))) (sequence_fits (map judged_of (main_body program))) =
      subst (λ (es : List Emitting). Naming object known (all_emitted es) (sequence_fits (map judged_of (main_body program)))) (statements_emitted (main_body program))
      (statements_named object known calls (main_body program)).naming in
      let code_is : object.main.instrs ≡ emitted.code ++ instr.Halt ∷ [] = ap (λ (c : Code). c.instrs) same_main ∙ ap (λ (x : Emitted). x.code) (main_is program) in
      subst (λ (is : List Instr). Names object is) (sym code_is)
      (names_append object emitted.code (instr.Halt ∷ []) (naming start_standing vectors.fits tt holds).0 refl)

-- in the object that the program is compiled to
pub compiled_have_names : CompiledVectorsHaveNames
compiled_have_names program vectors =
    main_named program vectors (object_of program) refl refl refl refl (λ number plan e. record { own = plan; there = e; same = refl })

-- and in each that stands for the program
pub standing_have_names : StandingVectorsHaveNames
standing_have_names program vectors object stands =
    main_named program vectors object (ap (λ (o : Object). o.main) stands.same) (ap (λ (o : Object). o.containers) stands.same)
    (ap (λ (o : Object). o.functions) stands.same) (ap (λ (o : Object). o.signatures) stands.same) (some_plans object.instances (object_of program).instances stands.instances)
