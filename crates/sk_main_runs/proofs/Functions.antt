-- Functions of scalars are alike in the object and in the tree, where the object's functions mean what their sources mean.
use Rattle.std.proofs.Common.{◌≡◌, ℕ, zero, suc, ◌+◌, List, [], ◌∷◌, length, map, reverse, take, ℤ, Option, Some, refl, sym, ap, ◌∙◌, subst, arith}
use Rattle.std.specs.List.{list_all, zip}
use Rattle.std.specs.Prelude.{Result, Ok, Err, IfOk, true, false, Bool, slice_get}
use Rattle.sk_base.specs.Arithmetic.{InRange, wrapped}
use Rattle.sk_base.specs.ArithmeticLaws.{wrapped-in_range}
use Rattle.sk_base.specs.declared.number.Trap.{Trap}
use Rattle.sk_base.specs.declared.number.Ty.{Ty}
use Rattle.sk_isa.specs.Soundness.{SuitParams}
use Rattle.sk_isa.specs.declared.object.Object.{Object}
use Rattle.sk_main_fits.specs.Vectors.{takes_scalars}
use Rattle.sk_main_runs.proofs.Tidy.{zero-in_range}
use Rattle.sk_main_runs.proofs.Values.{wrapped-twice}
use Rattle.sk_main_runs.specs.SameMeaning.{AreFunction, FunctionsAgree, IsFunction, fitted}
use Rattle.sk_main_runs.specs.Vectors.{HasSignatures}
use Rattle.sk_meaning.specs.Evaluation.{Argument, Binding, Callable, Callables, Flow, Going, Returned, Scope, Value, argument_binding, apply_of, callable_of, callables_after, callables_of, in_sequence, doing_of, returned, scope_of, turn_limit, value_of, value_only}
use Rattle.sk_meaning.specs.Evaluation as meaning
use Rattle.sk_names.specs.Bindings.{bound_to}
use Rattle.sk_names.specs.Bytes.{same_bytes}
use Rattle.sk_plain.proofs.Bindings.{bound_to-here}
use Rattle.sk_plain.proofs.Truths.{and_left, and_right}
use Rattle.sk_plain.specs.Means.{MeansSource}
use Rattle.sk_scheme.specs.Plans.{functions_before_main}
use Rattle.sk_scheme.specs.Scheme.{Known, kinds_of, known_after, known_functions, known_of}
use Rattle.sk_tree.specs.Parameters.{is_scalar}
use Rattle.sk_tree.specs.declared.tree.Function.{Function}
use Rattle.sk_tree.specs.declared.tree.Param.{Param}
use Rattle.sk_tree.specs.declared.tree.ParamKind.{ParamKind}
use Rattle.sk_tree.specs.declared.tree.ParamKind.TheVariants.{Scalar, Index, Proxy, Region}
use Rattle.sk_tree.specs.declared.tree.Program.{Program}

-- numbers that were converted suit scalars
fitted_suit : (kinds : List ParamKind) → list_all is_scalar kinds ≡ true → (values : List ℤ) → length values ≡ length kinds → SuitParams kinds (map Value (fitted kinds values))
fitted_suit [] scalars values e = tt
fitted_suit (kind ∷ kinds) scalars [] e = absurd (omega (arith, e))
fitted_suit (Scalar ty ∷ kinds) scalars (value ∷ values) e = (wrapped-in_range ty value, fitted_suit kinds scalars values (omega (arith, e)))
fitted_suit (Index dimension ∷ kinds) scalars (value ∷ values) e = let no : ⊥ = cc in absurd no
fitted_suit (Proxy dimension ty ∷ kinds) scalars (value ∷ values) e = let no : ⊥ = cc in absurd no
fitted_suit (Region dimension ty ∷ kinds) scalars (value ∷ values) e = let no : ⊥ = cc in absurd no

abbrev bindings : List Param → List Argument → Scope
bindings params arguments = map (λ pair. (pair.0.name, argument_binding pair.0.kind pair.1)) (zip params arguments)

one_binding : (kind : ParamKind) → is_scalar kind ≡ true → (value : ℤ) → argument_binding kind (Value (wrapped (meaning.kind_type kind) value)) ≡ argument_binding kind (Value value)
one_binding (Scalar ty) scalar value = ap (λ (v : ℤ). record { kind = Scalar ty; argument = Value v }) (wrapped-twice ty value)
one_binding (Index dimension) scalar value = let no : ⊥ = cc in absurd no
one_binding (Proxy dimension ty) scalar value = let no : ⊥ = cc in absurd no
one_binding (Region dimension ty) scalar value = let no : ⊥ = cc in absurd no

-- a scope does not tell whether numbers were converted before
same_bindings : (params : List Param) → list_all is_scalar (kinds_of params) ≡ true → (values : List ℤ) → bindings params (map Value (fitted (kinds_of params) values)) ≡ bindings params (map Value values)
same_bindings [] scalars values = refl
same_bindings (param ∷ params) scalars [] = refl
same_bindings (param ∷ params) scalars (value ∷ values) =
    ap (λ (b : Binding). (param.name, b) ∷ bindings params (map Value (fitted (kinds_of params) values)))
    (one_binding param.kind (and_left (is_scalar param.kind) (list_all is_scalar (kinds_of params)) scalars) value)
    ∙ ap (λ (l : Scope). (param.name, argument_binding param.kind (Value value)) ∷ l) (same_bindings params (and_right (is_scalar param.kind) (list_all is_scalar (kinds_of params)) scalars) values)

-- a function's value is of its type
returned_fits : (ty : Ty) (o : Result (Flow × ℕ) Trap) → IfOk (value_only (returned ty o)) (λ value. InRange ty value)
returned_fits ty (Ok done) = by_flow done.0 done.1
  where
    by_flow : (flow : Flow) (turns : ℕ) → IfOk (value_only (returned ty (Ok (flow, turns)))) (λ value. InRange ty value)
    by_flow (Going scope) turns = zero-in_range ty
    by_flow (Returned value) turns = wrapped-in_range ty value
returned_fits ty (Err trap) = tt

-- a function of scalars
one_function : (program : Program) (object : Object) → MeansSource program object → (number : ℕ) (function : Function) → slice_get (functions_before_main program) number ≡ Some function
    → takes_scalars function ≡ true → HasSignatures object program → IsFunction object (known_of number function) (callable_of (callables_of (take number (functions_before_main program))) function)
one_function program object means number function there scalars signatures = record {
  ret = refl;
  kinds = refl;
  takes = ap (λ (l : List ParamKind). length l) (signatures.each number function there).0;
  call = λ values size.
      let arguments : List Argument = map Value (fitted (kinds_of function.params) values) in
      ap (λ (o : Result (ℤ × ℕ) Trap). value_only o) (means number function there arguments (fitted_suit (kinds_of function.params) scalars values size) turn_limit)
      ∙ ap (λ (l : Scope). value_only (returned function.ret (in_sequence (map doing_of function.body) (callables_of (take number (functions_before_main program))) (reverse l) turn_limit)))
      (same_bindings function.params scalars values);
  gives = λ values size.
      returned_fits function.ret (in_sequence (map doing_of function.body) (callables_of (take number (functions_before_main program))) (scope_of function.params (map Value values)) turn_limit);
}

-- one more function for both
agree_more : (object : Object) (name : List ℕ) (known : Known) (callable : Callable) (knowns : List (List ℕ × Known)) (callables : Callables) → IsFunction object known callable
    → FunctionsAgree object knowns callables → FunctionsAgree object ((name, known) ∷ knowns) ((name, callable) ∷ callables)
agree_more object name known callable knowns callables same agree = record { each = λ other. by_test other (same_bytes name other) refl }
  where
    by_test : (other : List ℕ) (b : Bool) → same_bytes name other ≡ b → AreFunction object (bound_to other ((name, known) ∷ knowns)) (bound_to other ((name, callable) ∷ callables))
    by_test other true s =
        subst (λ (k : Option Known). AreFunction object k (bound_to other ((name, callable) ∷ callables))) (sym (bound_to-here other name (name, known) knowns true refl s))
        (subst (λ (c : Option Callable). AreFunction object (Some known) c) (sym (bound_to-here other name (name, callable) callables true refl s)) same)
    by_test other false s =
        subst (λ (k : Option Known). AreFunction object k (bound_to other ((name, callable) ∷ callables))) (sym (bound_to-here other name (name, known) knowns false refl s))
        (subst (λ (c : Option Callable). AreFunction object (bound_to other knowns) c) (sym (bound_to-here other name (name, callable) callables false refl s)) (agree.each other))

agree_after : (object : Object) (functions : List Function) (number : ℕ) (knowns : List (List ℕ × Known)) (callables : Callables) → FunctionsAgree object knowns callables
    → ((n : ℕ) (function : Function) → slice_get functions n ≡ Some function → IsFunction object (known_of (number + n) function) (callable_of (callables_after callables (take n functions)) function))
    → FunctionsAgree object (known_after number knowns functions) (callables_after callables functions)
agree_after object [] number knowns callables agree each = agree
agree_after object (first ∷ functions) number knowns callables agree each =
    let z : number + 0 ≡ number = omega arith in
    let one : IsFunction object (known_of number first) (callable_of callables first) = subst (λ n. IsFunction object (known_of n first) (callable_of callables first)) z (each 0 first refl) in
    agree_after object functions (suc number) ((first.name, known_of number first) ∷ knowns) ((first.name, callable_of callables first) ∷ callables)
    (agree_more object first.name (known_of number first) (callable_of callables first) knowns callables one agree)
    (λ n function e.
    let m : number + suc n ≡ suc number + n = omega arith in
    subst (λ k. IsFunction object (known_of k function) (callable_of (callables_after ((first.name, callable_of callables first) ∷ callables) (take n functions)) function)) m (each (suc n) function e))

all_scalars : (functions : List Function) → list_all takes_scalars functions ≡ true → (n : ℕ) (function : Function) → slice_get functions n ≡ Some function → takes_scalars function ≡ true
all_scalars [] all n function e = let no : ⊥ = cc in absurd no
all_scalars (first ∷ functions) all zero function e =
    let same : first ≡ function = cc in subst (λ f. takes_scalars f ≡ true) same (and_left (takes_scalars first) (list_all takes_scalars functions) all)
all_scalars (first ∷ functions) all (suc n) function e = all_scalars functions (and_right (takes_scalars first) (list_all takes_scalars functions) all) n function e

-- the functions of a program that all take scalars
pub functions_agree : (program : Program) (object : Object) → MeansSource program object → list_all takes_scalars (functions_before_main program) ≡ true → HasSignatures object program
    → FunctionsAgree object (known_functions (functions_before_main program)) (callables_of (functions_before_main program))
functions_agree program object means scalars signatures =
    agree_after object (functions_before_main program) 0 [] [] (record { each = λ name. tt })
    (λ n function e.
    let z : n ≡ 0 + n = omega arith in
    subst (λ k. IsFunction object (known_of k function) (callable_of (callables_of (take n (functions_before_main program))) function)) z
    (one_function program object means n function e (all_scalars (functions_before_main program) scalars n function e) signatures))
