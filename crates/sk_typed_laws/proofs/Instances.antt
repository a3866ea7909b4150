-- The instances of a typed program that are Maps of functions of scalars are sound in its compiled form.
use Rattle.std.proofs.Common.{◌≡◌, ℕ, suc, ◌<◌, ◌≤◌, Bool, true, false, List, [], ◌∷◌, ◌++◌, length, map, All, ℤ, Option, Some, None, if◌then◌else◌, refl, sym, ap, ◌∙◌, subst, arith, flat_map}
use Rattle.std.proofs.lemmas.Bool.{ltb-true, le-leb, eqb-true}
use Rattle.std.proofs.lemmas.List.Elements.{All-nil, All-cons}
use Rattle.std.specs.Prelude.{◌==◌, not, nat_lt, nat_le, slice_get}
use Rattle.std.specs.List.{list_all, list_any}
use Rattle.sk_base.specs.declared.choice.Variant.TheVariants.{Sequential}
use Rattle.sk_isa.specs.Objects.{signature_at, no_signature}
use Rattle.sk_isa.specs.Offers.{offers}
use Rattle.sk_isa.specs.SoundObjects.{IsSoundPlan, FitsSkeleton}
use Rattle.sk_isa.specs.declared.object.Object.{Object}
use Rattle.sk_isa.specs.declared.object.Plan.{Plan}
use Rattle.sk_isa.specs.declared.object.Signature.{Signature}
use Rattle.sk_names.specs.Bindings.{bound_to}
use Rattle.sk_plain.proofs.Lists.{slice_get-in, all_one}
use Rattle.sk_plain.proofs.Truths.{and_left, and_right, some_same}
use Rattle.sk_scheme.specs.Plans.{numbers_of, first_kinds, plan_of, instance_in, plans_in}
use Rattle.sk_scheme.specs.Scheme.{Known as Callee, known_of}
use Rattle.sk_tree.specs.FoldLaws.{folds-Statement, folds-What}
use Rattle.sk_tree.specs.Functions.{kinds_of}
use Rattle.sk_tree.specs.Parameters.{is_scalar, is_region, are_ordered, scalars_then_proxies, leading_scalars}
use Rattle.sk_tree.specs.Skeletons.{function_count, fits_skeleton, numbers_fit, elements_of}
use Rattle.sk_tree.specs.declared.tree.Function.{Function}
use Rattle.sk_tree.specs.declared.tree.Instance.{Instance}
use Rattle.sk_tree.specs.declared.tree.ParamKind.{ParamKind}
use Rattle.sk_tree.specs.declared.tree.ParamKind.TheVariants.{Scalar, Index, Proxy, Region}
use Rattle.sk_tree.specs.declared.tree.Skeleton.{Skeleton}
use Rattle.sk_tree.specs.declared.tree.Skeleton.TheVariants as skeleton
use Rattle.sk_tree.specs.declared.tree.Statement.{Statement}
use Rattle.sk_tree.specs.declared.tree.What.{What, fold-What}
use Rattle.sk_tree.specs.declared.tree.What.TheOpen as layer
use Rattle.sk_tree.specs.declared.tree.What.TheVariants as what
use Rattle.sk_typed_laws.proofs.KnownNames.{IsKnownAs, AreKnown, statement_known}
use Rattle.sk_typed_laws.proofs.Untold.{no_faults, unless_kept}
use Rattle.sk_typed_laws.specs.Forms.{is_map, VectorForm, vector_form_of, vector_step, all_fit}
use Rattle.sk_typing.specs.TypingInstances.{callee_faults, callee_of, form_faults, instance_faults, instance_known}
use Rattle.sk_typing.specs.TypingNames.{Knowns, Around, fault, unless, twice_faults}
use Rattle.sk_typing.specs.TypingStatements.{Walked, Walking, in_order, of_main, declaring, walking_of, walking_step}
use Rattle.sk_typing.specs.declared.names.Fault.{Fault}
use Rattle.sk_typing.specs.declared.names.FaultKind.TheVariants.{Mismatch, Arity}
use Rattle.sk_typing.specs.declared.names.Known.{Known}
use Rattle.sk_typing.specs.declared.names.Known.TheVariants.{Variable, Function as FunctionName, Instance as InstanceName, Broken}
use Rattle.sk_typing_laws.proofs.Levels.{walking_what, walking-statement, walking-roll}

-- ---- a Map of a function of scalars

scalars_then : (kinds : List ParamKind) → list_all is_scalar kinds ≡ true → scalars_then_proxies kinds ≡ true
scalars_then [] e = refl
scalars_then (Scalar ty ∷ kinds) e = scalars_then kinds e
scalars_then (Index dimension ∷ kinds) e = let no : ⊥ = cc in absurd no
scalars_then (Proxy dimension ty ∷ kinds) e = let no : ⊥ = cc in absurd no
scalars_then (Region dimension ty ∷ kinds) e = let no : ⊥ = cc in absurd no

scalars_ordered : (kinds : List ParamKind) → list_all is_scalar kinds ≡ true → are_ordered kinds ≡ true
scalars_ordered [] e = refl
scalars_ordered (Scalar ty ∷ kinds) e = scalars_then kinds e
scalars_ordered (Index dimension ∷ kinds) e = let no : ⊥ = cc in absurd no
scalars_ordered (Proxy dimension ty ∷ kinds) e = let no : ⊥ = cc in absurd no
scalars_ordered (Region dimension ty ∷ kinds) e = let no : ⊥ = cc in absurd no

no_region : (kinds : List ParamKind) → list_all is_scalar kinds ≡ true → list_any is_region kinds ≡ false
no_region [] e = refl
no_region (Scalar ty ∷ kinds) e = no_region kinds e
no_region (Index dimension ∷ kinds) e = let no : ⊥ = cc in absurd no
no_region (Proxy dimension ty ∷ kinds) e = let no : ⊥ = cc in absurd no
no_region (Region dimension ty ∷ kinds) e = let no : ⊥ = cc in absurd no

pub map_elements : (numbers : List ℤ) (kinds : List ParamKind) → numbers_fit skeleton.Map numbers kinds ≡ true → nat_le (elements_of skeleton.Map numbers kinds) (leading_scalars kinds) ≡ true
map_elements [] kinds e = le-leb (leading_scalars kinds) (leading_scalars kinds) (omega arith)
map_elements (count ∷ []) kinds e = e
map_elements (count ∷ other ∷ more) kinds e = let no : ⊥ = cc in absurd no

abbrev map_plan : (name : List ℕ) (number elements : ℕ) → Plan
map_plan name number elements = record { name = name; skeleton = skeleton.Map; functions = number ∷ []; elements = elements; variants = Sequential ∷ [] }

map_sound : (object : Object) (name : List ℕ) (number elements : ℕ) (own : Signature) → number < length object.functions → slice_get object.signatures number ≡ Some own
    → list_all is_scalar own.params ≡ true → nat_le elements (leading_scalars own.params) ≡ true → IsSoundPlan object (map_plan name number elements)
map_sound object name number elements own low there scalars few =
    let is : signature_at object number ≡ own = ap (λ o. elim o as (λ _. Signature) [ Some signature ↦ signature | None ↦ no_signature ]) there in
    record {
      count = refl;
      there = all_one (λ n. n < length object.functions) number low;
      first = subst (λ (s : Signature). FitsSkeleton (map_plan name number elements) s) (sym is)
          (record { ordered = scalars_ordered own.params scalars; kinds = ap not (no_region own.params scalars); elements = few });
      operator = λ place e. let no : ⊥ = cc in absurd no;
      sequential = (0, omega arith, refl);
      offered = all_one (λ variant. offers object (map_plan name number elements) variant ≡ true) Sequential refl;
    }

-- ---- an instance without a fault

-- the function that a Map is of, by its name
pub record IsMade (around : Around) (known : Knowns) (callees : List (List ℕ × Callee)) (numbers : List ℤ) (names : List (List ℕ)) : Type 0 where
  pub name : List ℕ
  pub one : names ≡ name ∷ []
  pub number : ℕ
  pub function : Function
  pub meant : bound_to name known ≡ Some (FunctionName number)
  pub callee : bound_to name callees ≡ Some (known_of number function)
  pub below : number < around.number
  pub there : slice_get around.functions number ≡ Some function
  pub functions_are : numbers_of callees names ≡ number ∷ []
  pub kinds_are : first_kinds callees names ≡ kinds_of function
  pub fit : numbers_fit skeleton.Map numbers (kinds_of function) ≡ true

module _ (around : Around) (names : Knowns) (callees : List (List ℕ × Callee)) (numbers : List ℤ) (known : AreKnown around.functions around.number names callees)
    (within : around.number ≤ length around.functions) where
  function_made : (name : List ℕ) (number : ℕ) → bound_to name names ≡ Some (FunctionName number)
      → IsKnownAs around.functions around.number (Some (FunctionName number)) (bound_to name callees) → nat_lt number around.number ≡ true → form_faults around skeleton.Map numbers ((if nat_lt number around.number then slice_get around.functions number else None) ∷ []) ≡ []
      → IsMade around names callees numbers (name ∷ [])
  function_made name number meant h below e =
      let low : number < around.number = ltb-true number around.number below in
      let found = slice_get-in around.functions number (omega (arith, low, within)) in
      let function : Function = found.0 in
      let callee : bound_to name callees ≡ Some (known_of number function) = h below function found.1 in
      let is : (if nat_lt number around.number then slice_get around.functions number else None) ≡ Some function =
      ap (λ b. if b then slice_get around.functions number else None) below ∙ found.1 in
      let told : form_faults around skeleton.Map numbers (Some function ∷ []) ≡ [] = sym (ap (λ o. form_faults around skeleton.Map numbers (o ∷ [])) is) ∙ e in
      let shape : List Fault = unless (fits_skeleton skeleton.Map function.ret (kinds_of function)) around Mismatch in
      let count : List Fault = unless (numbers_fit skeleton.Map numbers (kinds_of function)) around Arity in
      let parts = no_faults shape count (no_faults (shape ++ count) [] told).0 in
      record {
        name = name;
        one = refl;
        number = number;
        function = function;
        meant = meant;
        callee = callee;
        below = low;
        there = found.1;
        functions_are = ap (λ o. elim o as (λ _. List ℕ) [ Some callee ↦ callee.number ∷ [] | None ↦ [] ]) callee;
        kinds_are = ap (λ o. elim o as (λ _. List ParamKind) [ Some callee ↦ callee.kinds | None ↦ [] ]) callee;
        fit = unless_kept (numbers_fit skeleton.Map numbers (kinds_of function)) around Arity parts.1;
      }

  one_made : (name : List ℕ) (meant : Option Known) → bound_to name names ≡ meant → IsKnownAs around.functions around.number meant (bound_to name callees) → callee_faults around meant ≡ []
      → form_faults around skeleton.Map numbers (callee_of around meant ∷ []) ≡ [] → IsMade around names callees numbers (name ∷ [])
  one_made name None is h e f = let no : ⊥ = cc in absurd no
  one_made name (Some (FunctionName number)) is h e f = function_made name number is h (unless_kept (nat_lt number around.number) around Mismatch e) f
  one_made name (Some (Variable kind)) is h e f = let no : ⊥ = cc in absurd no
  one_made name (Some (InstanceName made)) is h e f = let no : ⊥ = cc in absurd no
  one_made name (Some Broken) is h e f = let no : ⊥ = cc in absurd no

  abbrev map_faults : List (List ℕ) → List Fault
  map_faults functions =
      flat_map (λ name. callee_faults around (bound_to name names)) functions
      ++ (if length functions == 1 then form_faults around skeleton.Map numbers (map (λ name. callee_of around (bound_to name names)) functions) else fault around Arity)

  many_never : (count : ℕ) (forms : List Fault) → (if suc (suc count) == 1 then forms else fault around Arity) ≡ [] → ⊥
  many_never count forms e = by_test (suc (suc count) == 1) refl e
    where
      by_test : (b : Bool) → (suc (suc count) == 1) ≡ b → (if b then forms else fault around Arity) ≡ [] → ⊥
      by_test true is e = let same : suc (suc count) ≡ 1 = eqb-true (suc (suc count)) 1 is in absurd (omega (arith, same))
      by_test false is e = cc

  map_made : (functions : List (List ℕ)) → map_faults functions ≡ [] → IsMade around names callees numbers functions
  map_made [] e = let no : ⊥ = cc in absurd no
  map_made (name ∷ []) e =
      let meant : Option Known = bound_to name names in
      let parts = no_faults (callee_faults around meant ++ []) (form_faults around skeleton.Map numbers (callee_of around meant ∷ [])) e in
      one_made name meant refl (known.known name) (no_faults (callee_faults around meant) [] parts.0).0 parts.1
  map_made (name ∷ other ∷ more) e =
      let all : List (List ℕ) = name ∷ other ∷ more in
      let forms : List Fault = form_faults around skeleton.Map numbers (map (λ name. callee_of around (bound_to name names)) all) in
      let parts = no_faults (flat_map (λ name. callee_faults around (bound_to name names)) all) (if length all == 1 then forms else fault around Arity) e in
      absurd (many_never (length more) forms parts.1)

pub is_map_is : (kind : Skeleton) → is_map kind ≡ true → kind ≡ skeleton.Map
is_map_is skeleton.Map e = refl
is_map_is skeleton.Reduce e = let no : ⊥ = cc in absurd no
is_map_is skeleton.Scan e = let no : ⊥ = cc in absurd no
is_map_is skeleton.MapReduce e = let no : ⊥ = cc in absurd no
is_map_is skeleton.MapOverlap e = let no : ⊥ = cc in absurd no
is_map_is skeleton.MapPairs e = let no : ⊥ = cc in absurd no
is_map_is skeleton.MapPairsReduce e = let no : ⊥ = cc in absurd no
is_map_is skeleton.Call e = let no : ⊥ = cc in absurd no

-- the functions of an object are those before a place, and take scalars
pub record HasFunctions (object : Object) (functions : List Function) (before : ℕ) : Type 0 where
  pub size : before ≤ length object.functions
  pub signature : (number : ℕ) (function : Function) → number < before → slice_get functions number ≡ Some function
      → (own : Signature) × (slice_get object.signatures number ≡ Some own) × (own.params ≡ kinds_of function) × (list_all is_scalar (kinds_of function) ≡ true)

-- the function of an instance that is a Map
pub instance_made : (callees : List (List ℕ × Callee)) (around : Around) (names : Knowns) (instance : Instance) → AreKnown around.functions around.number names callees
    → around.number ≤ length around.functions → is_map instance.skeleton ≡ true → instance_faults around names instance ≡ []
    → IsMade around names callees instance.numbers instance.functions
instance_made callees around names instance known within form e =
    let told : map_faults around names callees instance.numbers known within instance.functions ≡ [] = sym (ap (λ s.
    flat_map (λ name. callee_faults around (bound_to name names)) instance.functions
    ++ (if length instance.functions == function_count s then form_faults around s instance.numbers (map (λ name. callee_of around (bound_to name names)) instance.functions)
    else fault around Arity)) (is_map_is instance.skeleton form)) ∙ e in
    map_made around names callees instance.numbers known within instance.functions told

module _ (object : Object) (callees : List (List ℕ × Callee)) where
  instance_sound : (around : Around) (names : Knowns) (instance : Instance) → HasFunctions object around.functions around.number → around.number ≤ length around.functions
      → AreKnown around.functions around.number names callees → is_map instance.skeleton ≡ true → instance_faults around names instance ≡ [] → IsSoundPlan object (plan_of callees instance)
  instance_sound around names instance has within known form e =
      let is : instance.skeleton ≡ skeleton.Map = is_map_is instance.skeleton form in
      let made = instance_made callees around names instance known within form e in
      let own = has.signature made.number made.function made.below made.there in
      let elements : ℕ = elements_of instance.skeleton instance.numbers (first_kinds callees instance.functions) in
      let elements_are : elements ≡ elements_of skeleton.Map instance.numbers (kinds_of made.function) =
      ap (λ s. elements_of s instance.numbers (first_kinds callees instance.functions)) is ∙ ap (λ k. elements_of skeleton.Map instance.numbers k) made.kinds_are in
      let few : nat_le elements (leading_scalars own.0.params) ≡ true =
      ap (λ n. nat_le n (leading_scalars own.0.params)) elements_are
      ∙ ap (λ k. nat_le (elements_of skeleton.Map instance.numbers (kinds_of made.function)) (leading_scalars k)) own.2
      ∙ map_elements instance.numbers (kinds_of made.function) made.fit in
      let scalars : list_all is_scalar own.0.params ≡ true = ap (λ k. list_all is_scalar k) own.2 ∙ own.3 in
      let low : made.number < length object.functions = let a = made.below in let b = has.size in omega (arith, a, b) in
      subst (λ s. IsSoundPlan object (record { name = instance.name; skeleton = s; functions = numbers_of callees instance.functions; elements = elements; variants = Sequential ∷ [] })) (sym is)
      (subst (λ l. IsSoundPlan object (record { name = instance.name; skeleton = skeleton.Map; functions = l; elements = elements; variants = Sequential ∷ [] })) (sym made.functions_are)
      (map_sound object instance.name made.number elements own.0 low own.1 scalars few))

  -- ---- the statements of main

  instance_is : (w : What) (instance : Instance) → instance_in w ≡ Some instance → w ≡ what.Instance instance
  instance_is (what.Instance other) instance e = ap (λ i. what.Instance i) (some_same other instance e)
  instance_is w instance e = let no : ⊥ = cc in absurd no

  what_walks : (instance : Instance) → walking_what (what.Instance instance) ≡ walking_step (layer.Instance instance)
  what_walks instance = rw (← what.rolls-Instance instance) (walking-roll (layer.Instance instance))

  walks_instance : (line : ℕ) (instance : Instance) → walking_of (record { line = line; what = what.Instance instance }) ≡ walking_step (layer.Instance instance) line
  walks_instance line instance = walking-statement line (what.Instance instance) ∙ ap (λ (w : ℕ → Walking). w line) (what_walks instance)

  abbrev form_what : What → VectorForm
  form_what = fold-What VectorForm VectorForm vector_step (λ statement. statement.what)

  what_shape : (instance : Instance) → form_what (what.Instance instance) ≡ vector_step (layer.Instance instance)
  what_shape instance = rw (← what.rolls-Instance instance) (folds-What vector_step (λ statement. statement.what) (layer.Instance instance))

  shape_instance : (line : ℕ) (instance : Instance) → vector_form_of (record { line = line; what = what.Instance instance }) ≡ vector_step (layer.Instance instance)
  shape_instance line instance = folds-Statement vector_step (λ statement. statement.what) line (what.Instance instance) ∙ what_shape instance

  main_told : (around : Around) (walked : Walked) (names : Knowns) → (of_main around walked names).faults ≡ [] → walked.faults ≡ []
  main_told around walked names e = by_test around.in_main e
    where
      by_test : (b : Bool) → (if b then walked else record { faults = fault around Mismatch; names = names }).faults ≡ [] → walked.faults ≡ []
      by_test true e = e
      by_test false e = let no : ⊥ = cc in absurd no

  told_of_instance : (line : ℕ) (around : Around) (names : Knowns) (instance : Instance) → (walking_step (layer.Instance instance) line around names).faults ≡ []
      → instance_faults (record around { line = line }) names instance ≡ []
  told_of_instance line around names instance e =
      let here : Around = record around { line = line } in
      let outer : List Fault = unless here.outermost here Mismatch in
      let inner : List Fault = instance_faults here names instance in
      let told : (declaring instance.name (instance_known here names instance) (outer ++ inner) here names).faults ≡ [] =
      main_told here (declaring instance.name (instance_known here names instance) (outer ++ inner) here names) ((instance.name, Broken) ∷ names) e in
      (no_faults outer inner (no_faults (twice_faults here names instance.name) (outer ++ inner) told).1).1

  pub plans_sound : (statements : List Statement) (around : Around) (names : Knowns) → HasFunctions object around.functions around.number → around.number ≤ length around.functions
      → AreKnown around.functions around.number names callees → all_fit (map vector_form_of statements) ≡ true → (in_order (map walking_of statements) around names).faults ≡ []
      → All (IsSoundPlan object) (plans_in callees statements)
  plans_sound [] around names has within known form e = All-nil (IsSoundPlan object)
  plans_sound (first ∷ rest) around names has within known form e =
      let walked : Walked = walking_of first around names in
      let told = no_faults walked.faults (in_order (map walking_of rest) around walked.names).faults e in
      let more = plans_sound rest around walked.names has within (statement_known around.functions around.number callees first around names known)
      (and_right (vector_form_of first).fits (all_fit (map vector_form_of rest)) form) told.1 in
      by_found (instance_in first.what) refl more (and_left (vector_form_of first).fits (all_fit (map vector_form_of rest)) form) told.0
    where
      by_found : (found : Option Instance) → instance_in first.what ≡ found → All (IsSoundPlan object) (plans_in callees rest) → (vector_form_of first).fits ≡ true
          → (walking_of first around names).faults ≡ []
          → All (IsSoundPlan object) (elim found as (λ _. List Plan) [ Some instance ↦ plan_of callees instance ∷ plans_in callees rest | None ↦ plans_in callees rest ])
      by_found None is more fits told = more
      by_found (Some instance) is more fits told =
          let same : first ≡ record { line = first.line; what = what.Instance instance } = ap (λ w. record { line = first.line; what = w }) (instance_is first.what instance is) in
          let form' : is_map instance.skeleton ≡ true =
          sym (ap (λ (s : Statement). (vector_form_of s).fits) same ∙ ap (λ (f : VectorForm). f.fits) (shape_instance first.line instance)) ∙ fits in
          let told' : (walking_step (layer.Instance instance) first.line around names).faults ≡ [] =
          sym (ap (λ (s : Statement). (walking_of s around names).faults) same ∙ ap (λ (w : Walking). (w around names).faults) (walks_instance first.line instance)) ∙ told in
          All-cons (IsSoundPlan object) (plan_of callees instance) (plans_in callees rest)
          (instance_sound (record around { line = first.line }) names instance has within known form' (told_of_instance first.line around names instance told')) more
