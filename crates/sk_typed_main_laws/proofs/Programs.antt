-- A typed program of vectors fits.
use Rattle.std.proofs.Common.{◌≡◌, ℕ, ◌-◌, Bool, true, false, ◌&&◌, List, [], ◌∷◌, ◌++◌, length, map, take, drop, Option, Some, None, if◌then◌else◌, refl, sym, ap, ◌∙◌, subst}
use Rattle.std.proofs.lemmas.Bool.{and_from}
use Rattle.std.proofs.lemmas.List.{take-append-drop}
use Rattle.std.proofs.lemmas.List.Folds.{list_all-append, list_all-map}
use Rattle.std.specs.Prelude.{slice_get}
use Rattle.std.specs.List.{list_all, list_any}
use Rattle.sk_grammar.specs.Limits.{IsFromTextWithin}
use Rattle.sk_main_fits.proofs.Emission.{statements_emitted}
use Rattle.sk_main_fits.specs.Mains.{known_in}
use Rattle.sk_main_fits.specs.StatementFits.{judged_of, sequence_fits, start_standing}
use Rattle.sk_main_fits.specs.Vectors.{IsMapOf, IsOfVectors, takes_scalars}
use Rattle.sk_main_scheme.specs.MainScheme.{Emitting, all_emitted, main_emitted}
use Rattle.sk_names.specs.Bindings.{bound_to}
use Rattle.sk_names.specs.Bytes.{same_bytes}
use Rattle.sk_plain.proofs.Truths.{and_left, and_right}
use Rattle.sk_tree.specs.Functions.{body_of}
use Rattle.sk_tree.specs.Parameters.{same_type}
use Rattle.sk_tree.specs.declared.tree.Function.{Function}
use Rattle.sk_tree.specs.declared.tree.Instance.{Instance}
use Rattle.sk_tree.specs.declared.tree.Param.{Param}
use Rattle.sk_tree.specs.declared.tree.ParamKind.{ParamKind}
use Rattle.sk_tree.specs.declared.tree.Program.{Program}
use Rattle.sk_base.specs.declared.number.Ty.TheVariants.{Int}
use Rattle.sk_typed_laws.proofs.Functions.{IsListedAs}
use Rattle.sk_typed_laws.proofs.Programs.{all_at, main_around, main_reached, names_within}
use Rattle.sk_typed_laws.proofs.Untold.{no_faults}
use Rattle.sk_typed_laws.proofs.WrittenPrograms.{texts_formed}
use Rattle.sk_typed_laws.specs.Forms.{body_formed}
use Rattle.sk_typed_main_laws.proofs.Instances.{IsMain}
use Rattle.sk_typed_main_laws.proofs.Named.{IsNamedAs}
use Rattle.sk_typed_main_laws.proofs.SingleStatements.{IsAt}
use Rattle.sk_typed_main_laws.proofs.Statements.{statements_fine}
use Rattle.sk_typing.specs.Inputs.{input_faults_after}
use Rattle.sk_typing.specs.Typing.{IsTyped, all_taken, earlier_functions, functions_faults, has_no_parameters, is_main_header, is_named_main, main_faults, params_walked}
use Rattle.sk_typing.specs.TypingNames.{Knowns}
use Rattle.sk_typing.specs.declared.names.Fault.{Fault}
use Rattle.sk_typing.specs.declared.names.Fault.TheVariants.{NoMain}
use Rattle.sk_typing.specs.declared.names.Known.{Known}
use Rattle.sk_typing.specs.declared.names.Known.TheVariants.{Variable, Function as FunctionName, Instance as InstanceName, Broken}
use Rattle.sk_vector_form.specs.VectorForm.{all_hold, function_of_vectors, has_vector_form, is_of_vectors}

-- ---- functions

all_take_scalars : (functions : List Function) → list_all function_of_vectors functions ≡ true → list_all takes_scalars functions ≡ true
all_take_scalars [] e = refl
all_take_scalars (function ∷ functions) e =
    and_from (takes_scalars function) (list_all takes_scalars functions)
    (and_left (takes_scalars function) (list_all is_of_vectors function.body) (and_left (function_of_vectors function) (list_all function_of_vectors functions) e))
    (all_take_scalars functions (and_right (function_of_vectors function) (list_all function_of_vectors functions) e))

all_front : {A : Type 0} (test : A → Bool) (n : ℕ) (xs : List A) → list_all test xs ≡ true → list_all test (take n xs) ≡ true
all_front test n xs e =
    and_left (list_all test (take n xs)) (list_all test (drop n xs)) (sym (list_all-append test (take n xs) (drop n xs)) ∙ ap (list_all test) (take-append-drop n xs) ∙ e)

-- ---- main

-- main is there, and is `int main()`
record IsThere (program : Program) : Type 0 where
  main : Function
  there : slice_get program.functions (length program.functions - 1) ≡ Some main
  header : is_main_header main ≡ true

-- what is told of main, where this is the last function
abbrev faults_at : Program → Option Function → List Fault
faults_at program found = elim found as (λ _. List Fault) [
  | Some function ↦ if list_any is_named_main (earlier_functions program.functions) then NoMain ∷ [] else []
  | None ↦ NoMain ∷ []
]

main_there : (program : Program) → main_faults program ≡ [] → IsThere program
main_there program e = by_found (slice_get program.functions (length program.functions - 1)) refl e
  where
    by_found : (found : Option Function) → slice_get program.functions (length program.functions - 1) ≡ found
        → faults_at program (elim found as (λ _. Option Function) [ Some function ↦ if is_main_header function then Some function else None | None ↦ None ]) ≡ [] → IsThere program
    by_found None is e = let never : ⊥ = cc in absurd never
    by_found (Some main) is e = by_header (is_main_header main) refl e
      where
        by_header : (b : Bool) → is_main_header main ≡ b → faults_at program (if b then Some main else None) ≡ [] → IsThere program
        by_header true header e = record { main = main; there = is; header = header }
        by_header false header e = let never : ⊥ = cc in absurd never

none_are : (params : List Param) → has_no_parameters params ≡ true → params ≡ []
none_are [] e = refl
none_are (param ∷ params) e = let never : ⊥ = cc in absurd never

-- where main begins, no name is in scope but those of functions
module _ (functions : List Function) (number : ℕ) where
  nothing_named : (kinds : Option (List ParamKind)) (known : Option Known) → IsListedAs functions number kinds known → IsNamedAs functions None known
  nothing_named kinds None h = tt
  nothing_named kinds (Some (FunctionName other)) h = refl
  nothing_named kinds (Some (Variable kind)) h = absurd h
  nothing_named kinds (Some (InstanceName made)) h = absurd h
  nothing_named kinds (Some Broken) h = absurd h

  main_named : (same : Bool) (kinds : Option (List ParamKind)) (known : Option Known) → IsListedAs functions number kinds known
      → IsNamedAs functions None (if same then Some (FunctionName number) else known)
  main_named true kinds known h = refl
  main_named false kinds known h = nothing_named kinds known h

module _ (program : Program) (typed : IsTyped program) (from : IsFromTextWithin program) (form : has_vector_form program ≡ true) where
  abbrev told : (functions_faults program.functions 0 [] program.functions ++ input_faults_after [] (all_taken program) ≡ []) × (main_faults program ≡ [])
  told = no_faults (functions_faults program.functions 0 [] program.functions ++ input_faults_after [] (all_taken program)) (main_faults program) typed

  pub vectors_fit : IsOfVectors program
  vectors_fit =
      let all : List Function = program.functions in
      let m = main_there program told.1 in
      let r = main_reached program typed m.main m.there in
      let scalars = all_take_scalars all form in
      let around = main_around all r.number m.main in
      let within : Knowns = (m.main.name, FunctionName r.number) ∷ r.names in
      let none = none_are m.main.params (and_right (is_named_main m.main && same_type m.main.ret Int) (has_no_parameters m.main.params) m.header) in
      let names_are : names_within all r.number m.main r.names ≡ within = ap (λ params. (params_walked around within params).names) none in
      let main : IsMain around.functions around.number around.in_main = record {
        is = m.header;
        within = r.within;
        scalars = λ number function low there. all_at takes_scalars all scalars number function there;
      } in
      let named : (name : List ℕ) → IsNamedAs all None (bound_to name within) =
      λ name. main_named all r.number (same_bytes m.main.name name) (bound_to name r.parameters) (bound_to name r.names) (r.listed.listed name) in
      let start : IsAt (known_in program) all r.number (names_within all r.number m.main r.names) [] [] = record {
        agree = record { named = subst (λ (l : Knowns). (name : List ℕ) → IsNamedAs all None (bound_to name l)) (sym names_are) named; known = r.known };
        maps = λ number instance e. let never : ⊥ = cc in absurd never;
      } in
      let own = all_at function_of_vectors all form (length all - 1) m.main m.there in
      let vectors : all_hold (map is_of_vectors m.main.body) ≡ true = list_all-map (λ (test : Bool). test) is_of_vectors m.main.body ∙ and_right (takes_scalars m.main) (list_all is_of_vectors m.main.body) own in
      let formed = all_at body_formed all (texts_formed program from).bodies (length all - 1) m.main m.there in
      let fine = statements_fine (known_in program) m.main.body around (names_within all r.number m.main r.names) start_standing main start formed vectors r.told in
      record {
        scalars = all_front takes_scalars (length all - 1) all scalars;
        fits = subst (λ found. sequence_fits (map judged_of (body_of found)) (known_in program) start_standing ≡ true) (sym m.there) fine.fits;
        maps = subst (λ found. (number : ℕ) (instance : Instance) → slice_get (main_emitted (known_in program) (body_of found)).behind.instances number ≡ Some instance → IsMapOf (known_in program) instance)
            (sym m.there)
            (subst (λ (l : List Emitting). (number : ℕ) (instance : Instance) → slice_get (all_emitted l (known_in program) start_standing).behind.instances number ≡ Some instance → IsMapOf (known_in program) instance)
            (statements_emitted m.main.body) fine.stands.maps);
      }
