-- What the code of call statements names is there: the instance, and containers and uniform arguments as a Map takes them.
use Rattle.std.proofs.Common.{◌≡◌, ℕ, suc, ◌+◌, List, [], ◌∷◌, ◌++◌, length, map, take, drop, Option, Some, None, refl, sym, ap, ◌∙◌, subst}
use Rattle.std.proofs.lemmas.Bool.{and_from}
use Rattle.std.proofs.lemmas.List.{length-map}
use Rattle.std.specs.List.{list_all}
use Rattle.std.specs.Prelude.{true, false, Bool, ◌&&◌, ◌==◌}
use Rattle.sk_arguments.specs.Operands.{uniforms_taken}
use Rattle.sk_base.specs.declared.number.Ty.{Ty}
use Rattle.sk_isa.specs.Objects.{function_at, signature_at}
use Rattle.sk_isa.specs.declared.code.Instr.{Instr}
use Rattle.sk_isa.specs.declared.code.Instr.TheVariants as instr
use Rattle.sk_isa.specs.declared.object.Object.{Object}
use Rattle.sk_isa.specs.declared.object.Plan.{Plan}
use Rattle.sk_isa.specs.declared.object.Signature.{Signature}
use Rattle.sk_call_shapes.specs.CallShapes.{Container, Wanted, are_wanted, common_kind, fits_statement, uniform_count, wanted_whole, wanting}
use Rattle.sk_main_code.specs.MainSoundness.{calls_fit, container_of, containers_of as given_by}
use Rattle.sk_main_fits.specs.Fits.{all_fit, fits}
use Rattle.sk_main_fits.specs.StatementFits.{all_whole, call_fits, container_types, judge_step, names_whole}
use Rattle.sk_main_names.proofs.Expressions.{HasCalls, arguments_named, expressions_named}
use Rattle.sk_main_names.proofs.Lists.{drop-map, size-dropped, take-map}
use Rattle.sk_main_names.proofs.Scopes.{InScope, IsFound, IsMap, IsVector, Names, name_found, names_append, one_named}
use Rattle.sk_main_names.proofs.StatementNodes.{IsNamed, counted_naming}
use Rattle.sk_main_names.proofs.Tests.{number_itself, same_number, type_itself, type_same}
use Rattle.sk_main_scheme.specs.MainScheme.{Around, Made, Named, Number, Whole, Called, Standing, around_at, container_named, containers_of, do_code, do_depth, main_leaves, main_piece, of_instance, operands_of, taking, uniforms_code}
use Rattle.sk_names.specs.Bindings.{bound_to}
use Rattle.sk_plain.proofs.Truths.{and_left, and_right}
use Rattle.sk_scheme.specs.Pieces.{Piece, piece_step}
use Rattle.sk_scheme.specs.Scheme.{Known}
use Rattle.sk_tree.specs.FoldLaws.{folds-Name}
use Rattle.sk_tree.specs.Parameters.{index_dimension, is_scalar, same_type, scalar_types}
use Rattle.sk_tree.specs.declared.declared.Declared.{Declared}
use Rattle.sk_tree.specs.declared.tree.Expr.{Expr}
use Rattle.sk_tree.specs.declared.tree.Expr.TheVariants as expression
use Rattle.sk_tree.specs.declared.tree.ParamKind.{ParamKind}
use Rattle.sk_tree.specs.declared.tree.ParamKind.TheVariants.{Scalar, Index, Proxy, Region}
use Rattle.sk_tree.specs.declared.tree.Skeleton.{Skeleton}
use Rattle.sk_tree.specs.declared.tree.Skeleton.TheVariants.{Map}
use Rattle.sk_tree.specs.declared.tree.What.TheOpen as what

-- ---- vectors as a Map takes them

abbrev vector_of : Ty → Container
vector_of ty = record { kind = 1; ty = ty }

no_index : (kinds : List ParamKind) → list_all is_scalar kinds ≡ true → index_dimension kinds ≡ None
no_index [] e = refl
no_index (Scalar ty ∷ kinds) e = refl
no_index (Index dimension ∷ kinds) e = let no : ⊥ = cc in absurd no
no_index (Proxy dimension ty ∷ kinds) e = refl
no_index (Region dimension ty ∷ kinds) e = refl

none_whole : (kinds : List ParamKind) → list_all is_scalar kinds ≡ true → wanted_whole kinds ≡ []
none_whole [] e = refl
none_whole (Scalar ty ∷ kinds) e = none_whole kinds e
none_whole (Index dimension ∷ kinds) e = let no : ⊥ = cc in absurd no
none_whole (Proxy dimension ty ∷ kinds) e = let no : ⊥ = cc in absurd no
none_whole (Region dimension ty ∷ kinds) e = let no : ⊥ = cc in absurd no

vectors_wanted : (types : List Ty) → are_wanted (map (wanting 1) types ++ []) (map vector_of types) ≡ true
vectors_wanted [] = refl
vectors_wanted (ty ∷ types) = and_from (same_type ty ty) (are_wanted (map (wanting 1) types ++ []) (map vector_of types)) (type_itself ty) (vectors_wanted types)

-- a Map of a function of scalars takes a vector for its result and for each element
map_fits : (plan : Plan) (first : Signature) → plan.skeleton ≡ Map → list_all is_scalar first.params ≡ true
    → fits_statement plan first (map vector_of (first.ret ∷ take plan.elements (scalar_types first.params))) ≡ true
map_fits plan first is_map scalars =
    let types : List Ty = take plan.elements (scalar_types first.params) in
    let given : List Container = map vector_of (first.ret ∷ types) in
    let common_is : common_kind first.params given ≡ 1 =
    ap (λ (o : Option ℕ). elim o as (λ x. ℕ) [ Some dimension ↦ dimension | None ↦ elim given as (λ x. ℕ) [ [] ↦ 0 | container ∷ more ↦ container.kind ] ]) (no_index first.params scalars) in
    ap (λ (s : Skeleton). fits_statement (record plan { skeleton = s }) first given) is_map
    ∙ ap (λ common. are_wanted (wanting common first.ret ∷ (map (wanting common) types ++ wanted_whole first.params)) given) common_is
    ∙ ap (λ (whole : List Wanted). are_wanted (wanting 1 first.ret ∷ (map (wanting 1) types ++ whole)) given) (none_whole first.params scalars)
    ∙ vectors_wanted (first.ret ∷ types)

module _ (object : Object) (functions : List (List ℕ × Known)) (calls : HasCalls object functions) where
  abbrev first_of : Plan → Signature
  first_of plan = signature_at object (function_at plan 0)

  -- an argument that is a vector
  vector_there : (ty : Ty) (n : Option Named) → IsFound object n → (elim n as (λ x. Bool) [ Some named ↦ elim named as (λ x. Bool) [ Whole container other ↦ same_type ty other | Number slot other ↦ false | Called made ↦ false ] | None ↦ false ]) ≡ true
      → IsVector object (elim n as (λ x. ℕ) [ Some named ↦ elim named as (λ x. ℕ) [ Whole container ty ↦ container | Number slot ty ↦ 0 | Called made ↦ 0 ] | None ↦ 0 ]) ty
  vector_there ty (Some (Whole container other)) there e =
      record { declared = there.declared; there = there.there; kind = there.kind; ty_is = there.ty_is ∙ sym (type_same ty other e) }
  vector_there ty (Some (Number slot other)) there e = let no : ⊥ = cc in absurd no
  vector_there ty (Some (Called made)) there e = let no : ⊥ = cc in absurd no
  vector_there ty None there e = let no : ⊥ = cc in absurd no

  argument_there : (st : Standing) → InScope object st.scope → (ty : Ty) (e : Expr) → names_whole (around_at functions st) ty e ≡ true
      → IsVector object (container_named (around_at functions st) (main_piece e).name) ty
  argument_there st s ty (expression.Name name) whole =
      subst (λ (p : Piece Around). IsVector object (container_named (around_at functions st) p.name) ty) (sym (folds-Name (piece_step main_leaves) name))
      (vector_there ty (bound_to name st.scope) (name_found object name st.scope s) whole)
  argument_there st s ty e whole = let no : ⊥ = cc in absurd no

  -- the containers of a call are vectors of these types
  given_are : (st : Standing) → InScope object st.scope → (types : List Ty) (es : List Expr) → all_whole (around_at functions st) types es ≡ true
      → given_by object (containers_of (around_at functions st) (map main_piece es)) ≡ Some (map vector_of types)
  given_are st s [] [] whole = refl
  given_are st s [] (e ∷ es) whole = let no : ⊥ = cc in absurd no
  given_are st s (ty ∷ types) [] whole = let no : ⊥ = cc in absurd no
  given_are st s (ty ∷ types) (e ∷ es) whole =
      let a = around_at functions st in
      let rest : List ℕ = containers_of a (map main_piece es) in
      let v = argument_there st s ty e (and_left (names_whole a ty e) (all_whole a types es) whole) in
      let is : container_of v.declared ≡ vector_of ty =
      ap (λ n. let c : Container = record { kind = n; ty = v.declared.ty } in c) v.kind ∙ ap (λ (t : Ty). vector_of t) v.ty_is in
      ap (λ (o : Option Declared). elim o as (λ x. Option (List Container)) [
        | Some declared ↦ elim (given_by object rest) as (λ x. Option (List Container)) [ Some given ↦ Some (container_of declared ∷ given) | None ↦ None ]
        | None ↦ None
      ]) v.there
      ∙ ap (λ (o : Option (List Container)). elim o as (λ x. Option (List Container)) [ Some given ↦ Some (container_of v.declared ∷ given) | None ↦ None ])
      (given_are st s types es (and_right (names_whole a ty e) (all_whole a types es) whole))
      ∙ ap (λ (c : Container). Some (c ∷ map vector_of types)) is

  -- such a call fits the instance
  done_fits : (made : Made) → IsMap object made → (containers : List ℕ) (count : ℕ) → given_by object containers ≡ Some (map vector_of (container_types made))
      → count ≡ length (uniforms_taken made.skeleton made.elements made.kinds) → calls_fit object made.number containers count fits_statement ≡ true
  done_fits made m containers count given counted =
      let plan : Plan = m.plan in
      let first : Signature = first_of plan in
      let types : List Ty = first.ret ∷ take plan.elements (scalar_types first.params) in
      let given_is : given_by object containers ≡ Some (map vector_of types) = given ∙ ap (λ (k : Made). Some (map vector_of (container_types k))) m.same in
      let count_is : count ≡ uniform_count plan first = counted ∙ ap (λ (k : Made). length (uniforms_taken k.skeleton k.elements k.kinds)) m.same in
      ap (λ (o : Option Plan). elim o as (λ x. Bool) [
        | Some plan ↦ elim (given_by object containers) as (λ x. Bool) [ Some given ↦ fits_statement plan (first_of plan) given && count == uniform_count plan (first_of plan) | None ↦ false ]
        | None ↦ false
      ]) m.there
      ∙ ap (λ (o : Option (List Container)). elim o as (λ x. Bool) [ Some given ↦ fits_statement plan first given && count == uniform_count plan first | None ↦ false ]) given_is
      ∙ and_from (fits_statement plan first (map vector_of types)) (count == uniform_count plan first) (map_fits plan first m.skeleton m.scalars)
      (ap (λ n. n == uniform_count plan first) count_is ∙ number_itself (uniform_count plan first))

  -- ---- call statements

  -- what is compiled for an instance, for its uniform arguments and its containers
  abbrev done_code : Made → (uniforms wholes : List (Piece Around)) → Around → ℕ → List Instr
  done_code made uniforms wholes a at = uniforms_code made uniforms a at ++ instr.Do made.number (containers_of a wholes) (length uniforms) ∷ []

  abbrev call_code : Made → List Expr → Around → ℕ → List Instr
  call_code made arguments a at = done_code made (drop (suc (operands_of made)) (map main_piece arguments)) (take (suc (operands_of made)) (map main_piece arguments)) a at

  done_named : (made : Made) (arguments : List Expr) (st : Standing) → InScope object st.scope → IsMap object made → call_fits (Some (Called made)) arguments (around_at functions st) ≡ true
      → (at : ℕ) → Names object (call_code made arguments (around_at functions st) at)
  done_named made arguments st s m fit at =
      let a = around_at functions st in
      let count : ℕ = suc (operands_of made) in
      let types : List Ty = uniforms_taken made.skeleton made.elements made.kinds in
      let wholes : List Expr = take count arguments in
      let uniforms : List Expr = drop count arguments in
      let whole_test : Bool = all_whole a (container_types made) wholes in
      let length_test : Bool = length arguments == count + length types in
      let fit_test : Bool = all_fit (map fits uniforms) a in
      let head = and_left (whole_test && length_test) fit_test fit in
      let fine : fit_test ≡ true = and_right (whole_test && length_test) fit_test fit in
      let sizes = same_number (length arguments) (count + length types) (and_right whole_test length_test head) in
      let size : length (map main_piece uniforms) ≡ length types = length-map uniforms main_piece ∙ size-dropped count (length types) arguments sizes in
      let numbers : List ℕ = containers_of a (map main_piece wholes) in
      let i : Instr = instr.Do made.number numbers (length (map main_piece uniforms)) in
      let last : Names object (i ∷ []) =
      one_named object i (done_fits made m numbers (length (map main_piece uniforms)) (given_are st s (container_types made) wholes (and_left whole_test length_test head)) size) in
      let all : Names object (done_code made (map main_piece uniforms) (map main_piece wholes) a at) =
      names_append object (uniforms_code made (map main_piece uniforms) a at) (i ∷ [])
      (arguments_named object functions (map Scalar types) (map main_piece uniforms) (map fits uniforms) (expressions_named object functions calls uniforms) st.scope s fine at) last in
      subst (λ (us : List (Piece Around)). Names object (done_code made us (take count (map main_piece arguments)) a at)) (sym (drop-map main_piece count arguments))
      (subst (λ (ws : List (Piece Around)). Names object (done_code made (map main_piece uniforms) ws a at)) (sym (take-map main_piece count arguments)) all)

  instance_called : (n : Option Named) → IsFound object n → (arguments : List Expr) (st : Standing) → InScope object st.scope → call_fits n arguments (around_at functions st) ≡ true
      → (at : ℕ) → Names object (of_instance n (λ made. call_code made arguments (around_at functions st) at))
  instance_called (Some (Called made)) there arguments st s fit at = done_named made arguments st s there fit at
  instance_called (Some (Number slot ty)) there arguments st s fit at = refl
  instance_called (Some (Whole container ty)) there arguments st s fit at = refl
  instance_called None there arguments st s fit at = refl

  pub call_named : (name : List ℕ) (arguments : List Expr) (line : ℕ) → IsNamed object functions (judge_step (what.Call name arguments) line)
  call_named name arguments line = record {
    before = λ st held. held;
    naming = counted_naming object functions line (taking (do_code name arguments) (do_depth name arguments) (λ around standing. []))
        (λ fs st. call_fits (bound_to name st.scope) arguments (around_at fs st))
        (λ st fit s held. (
          names_append object (do_code name arguments (around_at functions st) st.at) []
              (instance_called (bound_to name st.scope) (name_found object name st.scope s) arguments st s fit st.at) refl,
          s,
        ));
  }
