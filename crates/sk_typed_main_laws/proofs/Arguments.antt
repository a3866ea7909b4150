-- The arguments of a call statement, and those that are numbers, fit where no fault is told of them.
use Rattle.std.proofs.Common.{◌≡◌, ℕ, zero, suc, ◌+◌, ◌-◌, ◌≤◌, Bool, true, false, ◌&&◌, ◌==◌, List, [], ◌∷◌, ◌++◌, length, map, take, drop, Option, Some, None, if◌then◌else◌, refl, sym, ap, ◌∙◌, subst, arith}
use Rattle.std.proofs.lemmas.Bool.{and_from, eqb-true, eq-eqb}
use Rattle.std.proofs.lemmas.List.{length-take-le, length-append, length-map, length-replicate}
use Rattle.std.specs.List.{list_all}
use Rattle.sk_arguments.specs.Arguments.{uniform_types}
use Rattle.sk_arguments.specs.Operands.{proxies_in}
use Rattle.sk_base.specs.declared.number.Ty.{Ty}
use Rattle.sk_main_fits.specs.Fits.{fits, all_fit}
use Rattle.sk_main_fits.specs.StatementFits.{all_whole, call_fits, container_types, is_whole_of, names_whole}
use Rattle.sk_main_scheme.specs.MainScheme.{Named, Called, operands_of}
use Rattle.sk_main_scheme.specs.MainScheme as scheme
use Rattle.sk_names.specs.Bindings.{bound_to}
use Rattle.sk_plain.proofs.Truths.{and_left, and_right}
use Rattle.sk_tree.specs.Functions.{kinds_of}
use Rattle.sk_tree.specs.Parameters.{is_scalar, index_dimension, leading_scalars, same_type, scalar_types}
use Rattle.sk_tree.specs.declared.tree.Expr.{Expr, Expr-F, fold-roll-Expr, map-Expr, out-Expr, roll-Expr, roll-out-Expr}
use Rattle.sk_tree.specs.declared.tree.Expr.TheOpen as layer
use Rattle.sk_tree.specs.declared.tree.Expr.TheVariants as expression
use Rattle.sk_tree.specs.declared.tree.Function.{Function}
use Rattle.sk_tree.specs.declared.tree.ParamKind.{ParamKind}
use Rattle.sk_tree.specs.declared.tree.ParamKind.TheVariants.{Scalar, Index, Proxy, Region}
use Rattle.sk_typed_laws.proofs.Untold.{no_faults, unless_kept}
use Rattle.sk_typed_laws.specs.Forms.{is_sized}
use Rattle.sk_typed_main_laws.proofs.Expressions.{expression_fits}
use Rattle.sk_typed_main_laws.proofs.Named.{AgreeInMain, IsNamedAs, map_called, map_made, same_type-true}
use Rattle.sk_typing.specs.TypingExpressions.{Judged, Judging, judged_of, judged_all, judging_step, all_part_faults, argument_faults, container_faults, container_fits, each_argument_faults, misplaced_faults, use_faults}
use Rattle.sk_typing.specs.TypingInstances.{places_of}
use Rattle.sk_typing.specs.TypingNames.{Knowns, Around, fault, numbers, proxy_places}
use Rattle.sk_typing.specs.declared.names.Expected.{Expected}
use Rattle.sk_typing.specs.declared.names.Expected.TheVariants.{Container, Number}
use Rattle.sk_typing.specs.declared.names.Fault.{Fault}
use Rattle.sk_typing.specs.declared.names.FaultKind.TheVariants.{Arity, Mismatch}
use Rattle.sk_typing.specs.declared.names.Known.{Known}
use Rattle.sk_typing.specs.declared.names.Known.TheVariants.{Variable, Function as FunctionName, Instance as InstanceName, Broken}
use Rattle.sk_typing.specs.declared.names.Use.TheVariants.{Takes}

-- ---- parameters that are scalars

no_index : (kinds : List ParamKind) → list_all is_scalar kinds ≡ true → index_dimension kinds ≡ None
no_index [] e = refl
no_index (Scalar ty ∷ kinds) e = refl
no_index (Index dimension ∷ kinds) e = let never : ⊥ = cc in absurd never
no_index (Proxy dimension ty ∷ kinds) e = refl
no_index (Region dimension ty ∷ kinds) e = refl

no_places : (kinds : List ParamKind) → list_all is_scalar kinds ≡ true → proxy_places kinds ≡ []
no_places [] e = refl
no_places (Scalar ty ∷ kinds) e = no_places kinds e
no_places (Index dimension ∷ kinds) e = let never : ⊥ = cc in absurd never
no_places (Proxy dimension ty ∷ kinds) e = let never : ⊥ = cc in absurd never
no_places (Region dimension ty ∷ kinds) e = let never : ⊥ = cc in absurd never

no_proxies : (kinds : List ParamKind) → list_all is_scalar kinds ≡ true → proxies_in kinds ≡ 0
no_proxies [] e = refl
no_proxies (Scalar ty ∷ kinds) e = no_proxies kinds e
no_proxies (Index dimension ∷ kinds) e = let never : ⊥ = cc in absurd never
no_proxies (Proxy dimension ty ∷ kinds) e = let never : ⊥ = cc in absurd never
no_proxies (Region dimension ty ∷ kinds) e = let never : ⊥ = cc in absurd never

leading_few : (kinds : List ParamKind) → leading_scalars kinds ≤ length (scalar_types kinds)
leading_few [] = omega arith
leading_few (Scalar ty ∷ kinds) = let more = leading_few kinds in omega (arith, more)
leading_few (Index dimension ∷ kinds) = leading_few kinds
leading_few (Proxy dimension ty ∷ kinds) = omega arith
leading_few (Region dimension ty ∷ kinds) = omega arith

uniforms_length : (elements : ℕ) (kinds : List ParamKind) → length (uniform_types elements kinds) ≡ length (scalar_types kinds) - elements
uniforms_length elements [] = omega arith
uniforms_length zero (Scalar ty ∷ kinds) = let more = uniforms_length zero kinds in omega (arith, more)
uniforms_length (suc fewer) (Scalar ty ∷ kinds) = let more = uniforms_length fewer kinds in omega (arith, more)
uniforms_length zero (Index dimension ∷ kinds) = uniforms_length zero kinds
uniforms_length (suc fewer) (Index dimension ∷ kinds) = uniforms_length (suc fewer) kinds
uniforms_length zero (Proxy dimension ty ∷ kinds) = uniforms_length zero kinds
uniforms_length (suc fewer) (Proxy dimension ty ∷ kinds) = uniforms_length (suc fewer) kinds
uniforms_length zero (Region dimension ty ∷ kinds) = uniforms_length zero kinds
uniforms_length (suc fewer) (Region dimension ty ∷ kinds) = uniforms_length (suc fewer) kinds

-- ---- an argument that has to be a container

container_type : (dimension : Option ℕ) (ty : Ty) (kind : ParamKind) → container_fits dimension ty kind ≡ true
    → (place : ℕ) × (element : Ty) × (kind ≡ Proxy place element) × (element ≡ ty)
container_type None ty (Proxy place element) e = (place, element, refl, same_type-true element ty e)
container_type (Some wanted) ty (Proxy place element) e = by_test (place == wanted) e
  where
    by_test : (b : Bool) → (if b then same_type element ty else false) ≡ true → (place' : ℕ) × (other : Ty) × (Proxy place element ≡ Proxy place' other) × (other ≡ ty)
    by_test true e = (place, element, refl, same_type-true element ty e)
    by_test false e = let never : ⊥ = cc in absurd never
container_type None ty (Scalar other) e = let never : ⊥ = cc in absurd never
container_type (Some wanted) ty (Scalar other) e = let never : ⊥ = cc in absurd never
container_type None ty (Index place) e = let never : ⊥ = cc in absurd never
container_type (Some wanted) ty (Index place) e = let never : ⊥ = cc in absurd never
container_type None ty (Region place other) e = let never : ⊥ = cc in absurd never
container_type (Some wanted) ty (Region place other) e = let never : ⊥ = cc in absurd never

module _ (around : Around) (dimension : Option ℕ) (ty : Ty) where
  whole_known : (named : Option Named) (known : Option Known) → IsNamedAs around.functions named known → container_faults around dimension ty known ≡ []
      → is_whole_of ty named ≡ true
  whole_known named None h e = let never : ⊥ = cc in absurd never
  whole_known named (Some (Variable kind)) h e =
      let t = container_type dimension ty kind (unless_kept (container_fits dimension ty kind) around Mismatch e) in
      let whole : IsNamedAs around.functions named (Some (Variable (Proxy t.0 t.1))) = subst (λ (k : ParamKind). IsNamedAs around.functions named (Some (Variable k))) t.2 h in
      subst (λ (other : Ty). is_whole_of other named ≡ true) t.3 whole.1
  whole_known named (Some (FunctionName number)) h e = let never : ⊥ = cc in absurd never
  whole_known named (Some (InstanceName made)) h e = let never : ⊥ = cc in absurd never
  whole_known named (Some Broken) h e = let never : ⊥ = cc in absurd never

  misplaced_told : (faults : List Fault) → misplaced_faults around faults ≡ [] → ⊥
  misplaced_told [] e = cc
  misplaced_told (first ∷ more) e = cc

  module _ (names : Knowns) (there : scheme.Around) (agree : AgreeInMain around.functions around.number there.functions names there.scope) where
    abbrev told_of : Judging → List Fault
    told_of judging = argument_faults around (Container dimension ty) (judging around names)

    abbrev faults_in : Expr-F Expr → List Fault
    faults_in level = (judging_step (map-Expr Expr Judging judged_of level) around names).faults

    level_named : (level : Expr-F Expr) → told_of (judging_step (map-Expr Expr Judging judged_of level)) ≡ [] → names_whole there ty (roll-Expr level) ≡ true
    level_named (layer.Name name) e =
        subst (λ expr. names_whole there ty expr ≡ true) (sym (expression.rolls-Name name))
        (whole_known (bound_to name there.scope) (bound_to name names) (agree.named name) e)
    level_named (layer.Number of number) e = absurd (misplaced_told (faults_in (layer.Number of number)) e)
    level_named (layer.Field name field) e = absurd (misplaced_told (faults_in (layer.Field name field)) e)
    level_named (layer.Method name method) e = absurd (misplaced_told (faults_in (layer.Method name method)) e)
    level_named (layer.Unary op part) e = absurd (misplaced_told (faults_in (layer.Unary op part)) e)
    level_named (layer.Cast of part) e = absurd (misplaced_told (faults_in (layer.Cast of part)) e)
    level_named (layer.Binary op left right) e = absurd (misplaced_told (faults_in (layer.Binary op left right)) e)
    level_named (layer.Both left right) e = absurd (misplaced_told (faults_in (layer.Both left right)) e)
    level_named (layer.Either left right) e = absurd (misplaced_told (faults_in (layer.Either left right)) e)
    level_named (layer.Choose test one other) e = absurd (misplaced_told (faults_in (layer.Choose test one other)) e)
    level_named (layer.Apply name arguments) e = absurd (misplaced_told (faults_in (layer.Apply name arguments)) e)

    -- it is the name of one
    container_named : (expr : Expr) → told_of (judged_of expr) ≡ [] → names_whole there ty expr ≡ true
    container_named expr e =
        let level : Expr-F Expr = out-Expr expr in
        let rolled : roll-Expr level ≡ expr = roll-out-Expr expr in
        let is : judged_of expr ≡ judging_step (map-Expr Expr Judging judged_of level) = ap judged_of (sym rolled) ∙ fold-roll-Expr Judging judging_step level in
        subst (λ expr. names_whole there ty expr ≡ true) rolled (level_named level (sym (ap told_of is) ∙ e))

-- ---- arguments one after another

-- as many as are taken, and none at fault
record AreAsTaken (around : Around) (expected : List Expected) (arguments : List Judged) : Type 0 where
  size : length arguments ≡ length expected
  each : each_argument_faults around expected arguments ≡ []

as_taken : (around : Around) (expected : List Expected) (arguments : List Judged) → use_faults around (Takes expected) arguments ≡ [] → AreAsTaken around expected arguments
as_taken around expected arguments e = by_test (length arguments == length expected) refl e
  where
    by_test : (b : Bool) → (length arguments == length expected) ≡ b
        → (if b then each_argument_faults around expected arguments else fault around Arity ++ all_part_faults around arguments) ≡ [] → AreAsTaken around expected arguments
    by_test true is e = record { size = eqb-true (length arguments) (length expected) is; each = e }
    by_test false is e = let never : ⊥ = cc in absurd never

module _ (around : Around) (names : Knowns) (there : scheme.Around) (main : around.in_main ≡ true)
    (agree : AgreeInMain around.functions around.number there.functions names there.scope) where
  judged_length : (exprs : List Expr) → length (judged_all around names exprs) ≡ length exprs
  judged_length [] = refl
  judged_length (expr ∷ exprs) = ap suc (judged_length exprs)

  each_number : (count : ℕ) (exprs : List Expr) → list_all is_sized exprs ≡ true → length exprs ≡ count
      → each_argument_faults around (numbers count) (judged_all around names exprs) ≡ [] → all_fit (map fits exprs) there ≡ true
  each_number count [] s n e = refl
  each_number zero (expr ∷ exprs) s n e = absurd (omega (arith, n))
  each_number (suc count) (expr ∷ exprs) s n e =
      let told = no_faults (judged_of expr around names).faults (each_argument_faults around (numbers count) (judged_all around names exprs)) e in
      and_from (fits expr there) (all_fit (map fits exprs) there)
      ((expression_fits expr).fits_is around names there main agree (and_left (is_sized expr) (list_all is_sized exprs) s) told.0)
      (each_number count exprs (and_right (is_sized expr) (list_all is_sized exprs) s) (omega (arith, n)) told.1)

  -- as many numbers as are taken
  pub record AreNumbers (count : ℕ) (exprs : List Expr) : Type 0 where
    pub size : length exprs ≡ count
    pub fit : all_fit (map fits exprs) there ≡ true

  pub numbers_fit : (count : ℕ) (exprs : List Expr) → list_all is_sized exprs ≡ true → use_faults around (Takes (numbers count)) (judged_all around names exprs) ≡ [] → AreNumbers count exprs
  numbers_fit count exprs s e =
      let taken = as_taken around (numbers count) (judged_all around names exprs) e in
      let size : length exprs ≡ count = sym (judged_length exprs) ∙ taken.size ∙ length-replicate count Number in
      record { size = size; fit = each_number count exprs s size taken.each }

  -- containers, and then numbers
  record AreContainers (types : List Ty) (exprs : List Expr) : Type 0 where
    whole : all_whole there types (take (length types) exprs) ≡ true
    fit : all_fit (map fits (drop (length types) exprs)) there ≡ true

  each_container : (dimension : Option ℕ) (types : List Ty) (count : ℕ) (exprs : List Expr) → list_all is_sized exprs ≡ true → length exprs ≡ length types + count
      → each_argument_faults around (map (Container dimension) types ++ numbers count) (judged_all around names exprs) ≡ [] → AreContainers types exprs
  each_container dimension [] count exprs s n e = record { whole = refl; fit = each_number count exprs s (omega (arith, n)) e }
  each_container dimension (ty ∷ types) count [] s n e = absurd (omega (arith, n))
  each_container dimension (ty ∷ types) count (expr ∷ exprs) s n e =
      let told = no_faults (argument_faults around (Container dimension ty) (judged_of expr around names))
      (each_argument_faults around (map (Container dimension) types ++ numbers count) (judged_all around names exprs)) e in
      let more = each_container dimension types count exprs (and_right (is_sized expr) (list_all is_sized exprs) s) (omega (arith, n)) told.1 in
      record {
        whole = and_from (names_whole there ty expr) (all_whole there types (take (length types) exprs)) (container_named around dimension ty names there agree expr told.0) more.whole;
        fit = more.fit;
      }

  -- ---- a call of a Map

  module _ (place elements number : ℕ) (function : Function) (scalars : list_all is_scalar (kinds_of function) ≡ true)
      (few : elements ≤ leading_scalars (kinds_of function)) (first : Option ℕ) where
    abbrev called : scheme.Made
    called = map_called number elements function

    abbrev kinds : List ParamKind
    kinds = kinds_of function

    abbrev uniforms : ℕ
    uniforms = length (scalar_types kinds) - elements

    abbrev placed : Option ℕ → List Expected → List Expected
    placed common proxies = map (Container common) (container_types called) ++ (proxies ++ numbers uniforms)

    places_are : places_of (map_made place elements) first function ≡ placed first []
    places_are =
        ap (λ (o : Option ℕ). placed (elim o as (λ _. Option ℕ) [ Some index ↦ Some index | None ↦ first ]) (proxy_places kinds)) (no_index kinds scalars)
        ∙ ap (placed first) (no_places kinds scalars)

    operands_are : suc (operands_of called) ≡ length (container_types called)
    operands_are =
        let low = leading_few kinds in
        let all : length (take elements (scalar_types kinds)) ≡ elements = length-take-le elements (scalar_types kinds) (omega (arith, few, low)) in
        let none : proxies_in kinds ≡ 0 = no_proxies kinds scalars in
        omega (arith, all, none)

    abbrev fits_at : ℕ → List Expr → Bool
    fits_at taken arguments =
        all_whole there (container_types called) (take taken arguments) && (length arguments == taken + length (uniform_types elements kinds))
        && all_fit (map fits (drop taken arguments)) there

    pub map_call_fits : (arguments : List Expr) → list_all is_sized arguments ≡ true
        → use_faults around (Takes (places_of (map_made place elements) first function)) (judged_all around names arguments) ≡ []
        → call_fits (Some (Called called)) arguments there ≡ true
    map_call_fits arguments s e =
        let judged = judged_all around names arguments in
        let types : List Ty = container_types called in
        let taken = as_taken around (placed first []) judged (subst (λ (l : List Expected). use_faults around (Takes l) judged ≡ []) places_are e) in
        let count : length (placed first []) ≡ length types + uniforms =
        length-append (map (Container first) types) (numbers uniforms)
        ∙ ap (λ n. n + length (numbers uniforms)) (length-map types (Container first)) ∙ ap (λ n. length types + n) (length-replicate uniforms Number) in
        let size : length arguments ≡ length types + uniforms = sym (judged_length arguments) ∙ taken.size ∙ count in
        let parts = each_container first types uniforms arguments s size taken.each in
        let many : length arguments ≡ length types + length (uniform_types elements kinds) = size ∙ ap (λ n. length types + n) (sym (uniforms_length elements kinds)) in
        let one = eq-eqb (length arguments) (length types + length (uniform_types elements kinds)) many in
        subst (λ n. fits_at n arguments ≡ true) (sym operands_are)
        (and_from (all_whole there types (take (length types) arguments) && (length arguments == length types + length (uniform_types elements kinds)))
        (all_fit (map fits (drop (length types) arguments)) there)
        (and_from (all_whole there types (take (length types) arguments)) (length arguments == length types + length (uniform_types elements kinds)) parts.whole one) parts.fit)
