-- The functions of a plain program have the values of their sources.
use Rattle.std.proofs.Common.{◌≡◌, ℕ, zero, suc, ◌+◌, List, [], ◌∷◌, ◌++◌, length, map, take, ℤ, Some, refl, sym, ap, ◌∙◌, subst, arith, length-append}
use Rattle.std.specs.Prelude.{slice_get, Result, true}
use Rattle.sk_base.specs.declared.number.Trap.{Trap}
use Rattle.sk_meaning.specs.Evaluation.{Argument, Value, Callables, callable_of, callables_after, callables_of, apply_of}
use Rattle.sk_tree.specs.declared.tree.Function.{Function}
use Rattle.sk_tree.specs.declared.tree.Program.{Program}
use Rattle.sk_isa.specs.Coded.{Callee, callee_of, callees_below, code_value, routine_of, start_of}
use Rattle.sk_scheme.specs.Plans.{functions_before_main, functions_object, main_signature}
use Rattle.sk_scheme.specs.Scheme.{Known, kinds_of, known_of, code_of, signature_of, codes_after, codes_of, signatures_after, signatures_of}
use Rattle.sk_isa.specs.Soundness.{SuitParams, is_scalar}
use Rattle.sk_isa.specs.SoundObjects.{HasSoundFunctions}
use Rattle.sk_isa.specs.declared.code.Code.{Code}
use Rattle.sk_isa.specs.declared.object.Object.{Object}
use Rattle.sk_isa.specs.declared.object.Signature.{Signature}
use Rattle.sk_isa_laws.proofs.Runs.{value_by_steps}
use Rattle.sk_isa_laws.proofs.Callees.{are_ready, callees-next, callees-none, function_of-code}
use Rattle.sk_plain.specs.Codes.{functions_alone}
use Rattle.sk_plain.specs.Means.{MeansSource}
use Rattle.sk_plain.specs.SourceRuns.{RunsAsSource}
use Rattle.sk_plain.specs.Plain.{Parameters, IsPlain, IsPlainFunction, ArePlain}
use Rattle.sk_plain.proofs.Lists.{slice_get-front, slice_get-at}
use Rattle.sk_scheme_runs.proofs.Runs.{Finishes}
use Rattle.sk_scheme_runs.proofs.Agreement.{AreCallees, IsCallee, IsEarlier, IsCallValue, fitted}
use Rattle.std.proofs.lemmas.List.Folds.{list_all-map}
use Rattle.std.specs.List.{list_all}
use Rattle.sk_tree.specs.declared.tree.Param.{Param}
use Rattle.sk_scheme_runs.proofs.FunctionRuns.{function_runs, apply_fitted, fitted_suit}

-- functions stay where they are when one is added
more_callees : (callees more : List Callee) (cs : Parameters) (ks : List (List ℕ × Known)) (fs : Callables) → AreCallees callees cs ks fs → AreCallees (callees ++ more) cs ks fs
more_callees callees more [] [] [] h = tt
more_callees callees more (c ∷ cs) (k ∷ ks) (f ∷ fs) h = (
  h.0,
  h.1,
  record {
    kinds_are = h.2.kinds_are;
    ret = h.2.ret;
    called = λ scalars.
        let g = h.2.called scalars in
        record {
          callee = g.callee;
          there = slice_get-front callees more k.1.number g.callee g.there;
          takes = g.takes;
          call = g.call;
          gives = g.gives;
        };
  },
  more_callees callees more cs ks fs h.3,
)
more_callees callees more cs ks fs h = absurd h

module _ (object : Object) (sound : HasSoundFunctions object) where
  abbrev below : ℕ → List Callee
  below number = callees_below object.signatures object.functions number

  -- the functions from a number on, behind these
  record AreFrom (number : ℕ) (known : List (List ℕ × Known)) (functions : List Function) : Type 0 where
    codes : (k : ℕ) (code : Code) → slice_get (codes_after number known functions) k ≡ Some code → slice_get object.functions (number + k) ≡ Some code
    signatures : (k : ℕ) (own : Signature) → slice_get (signatures_after number known functions) k ≡ Some own → slice_get object.signatures (number + k) ≡ Some own

  here : {A : Type 0} (list : List A) (number : ℕ) (x : A) → slice_get list (number + 0) ≡ Some x → slice_get list number ≡ Some x
  here list number x e = let n : number + 0 ≡ number = omega arith in subst (λ k. slice_get list k ≡ Some x) n e

  next_from : (number : ℕ) (known : List (List ℕ × Known)) (function : Function) (functions : List Function) → AreFrom number known (function ∷ functions)
      → AreFrom (suc number) ((function.name, known_of number function) ∷ known) functions
  next_from number known function functions from = record {
    codes = λ k code e. let n : number + suc k ≡ suc number + k = omega arith in subst (λ m. slice_get object.functions m ≡ Some code) n (from.codes (suc k) code e);
    signatures = λ k own e. let n : number + suc k ≡ suc number + k = omega arith in subst (λ m. slice_get object.signatures m ≡ Some own) n (from.signatures (suc k) own e);
  }

  -- the value of a function's code is the source's
  value_is : (number : ℕ) (parameters : Parameters) (known : List (List ℕ × Known)) (callables : Callables) (function : Function) (arguments : List Argument) (turns : ℕ)
      → slice_get object.signatures number ≡ Some (signature_of known function) → slice_get object.functions number ≡ Some (code_of known function)
      → IsPlainFunction parameters function → AreCallees (below number) parameters known callables → SuitParams (kinds_of function.params) arguments
      → code_value (below number) (code_of known function) arguments turns ≡ apply_of callables function arguments turns
  value_is number parameters known callables function arguments turns is_own is_code plain are suits =
      let run = (function_runs (below number) parameters known callables function arguments turns plain are suits).0 in
      value_by_steps object.signatures number (signature_of known function) (code_of known function) (below number) arguments turns
      (are_ready object sound number (signature_of known function) (code_of known function) arguments is_own is_code suits) run.steps (apply_of callables function arguments turns) run.outcome

  -- a function, for those behind it
  one_callee : (number : ℕ) (parameters : Parameters) (known : List (List ℕ × Known)) (callables : Callables) (function : Function) → length (below number) ≡ number
      → slice_get object.signatures number ≡ Some (signature_of known function) → slice_get object.functions number ≡ Some (code_of known function)
      → IsPlainFunction parameters function → AreCallees (below number) parameters known callables → list_all is_scalar (kinds_of function.params) ≡ true
      → IsCallee (below number ++ callee_of (below number) (signature_of known function) (code_of known function) ∷ []) (known_of number function) (callable_of callables function)
  one_callee number parameters known callables function size is_own is_code plain are kinds =
      let scalars : list_all (λ (param : Param). is_scalar param.kind) function.params ≡ true = sym (list_all-map is_scalar (λ (param : Param). param.kind) function.params) ∙ kinds in
      record {
        callee = callee_of (below number) (signature_of known function) (code_of known function);
        there = slice_get-at (below number) (callee_of (below number) (signature_of known function) (code_of known function)) [] number size;
        takes = refl;
        call = λ values turns n.
            value_is number parameters known callables function (map Value (fitted (kinds_of function.params) values)) turns is_own is_code plain are
            (fitted_suit (kinds_of function.params) values kinds n)
            ∙ apply_fitted callables function values turns scalars n;
        gives = λ values turns n.
            subst (λ (o : Result (ℤ × ℕ) Trap). IsCallValue function.ret turns o) (apply_fitted callables function values turns scalars n)
            (function_runs (below number) parameters known callables function (map Value (fitted (kinds_of function.params) values)) turns plain are
            (fitted_suit (kinds_of function.params) values kinds n)).1;
      }

  -- the run of a function's code ends with a value
  record HasRun (number : ℕ) (arguments : List Argument) (turns : ℕ) (value : Result (ℤ × ℕ) Trap) : Type 0 where
    code : Code
    found : slice_get object.functions number ≡ Some code
    run : Finishes (routine_of (below number) code arguments) (start_of code arguments turns) value
    is : code_value (below number) code arguments turns ≡ value

  first_runs : (number : ℕ) (parameters : Parameters) (known : List (List ℕ × Known)) (callables : Callables) (function : Function) (arguments : List Argument) (turns : ℕ)
      → slice_get object.signatures number ≡ Some (signature_of known function) → slice_get object.functions number ≡ Some (code_of known function)
      → IsPlainFunction parameters function → AreCallees (below number) parameters known callables → SuitParams (kinds_of function.params) arguments
      → HasRun number arguments turns (apply_of callables function arguments turns)
  first_runs number parameters known callables function arguments turns is_own is_code plain are suits = record {
    code = code_of known function;
    found = is_code;
    run = (function_runs (below number) parameters known callables function arguments turns plain are suits).0;
    is = value_is number parameters known callables function arguments turns is_own is_code plain are suits;
  }

  functions_run : (functions : List Function) (number : ℕ) (parameters : Parameters) (known : List (List ℕ × Known)) (callables : Callables)
      → AreFrom number known functions → ArePlain parameters functions → length (below number) ≡ number → AreCallees (below number) parameters known callables
      → (n : ℕ) (function : Function) → slice_get functions n ≡ Some function → (arguments : List Argument) → SuitParams (kinds_of function.params) arguments → (turns : ℕ)
      → HasRun (number + n) arguments turns (apply_of (callables_after callables (take n functions)) function arguments turns)
  functions_run [] number parameters known callables from plain size are n function e arguments suits turns = let no : ⊥ = cc in absurd no
  functions_run (first ∷ functions) number parameters known callables from plain size are zero function e arguments suits turns =
      let same : first ≡ function = cc in
      let is_own = here object.signatures number (signature_of known first) (from.signatures 0 (signature_of known first) refl) in
      let is_code = here object.functions number (code_of known first) (from.codes 0 (code_of known first) refl) in
      let suits' = subst (λ (f : Function). SuitParams (kinds_of f.params) arguments) (sym same) suits in
      let n : number ≡ number + 0 = omega arith in
      subst (λ k. HasRun k arguments turns (apply_of callables function arguments turns)) n
      (subst (λ (f : Function). HasRun number arguments turns (apply_of callables f arguments turns)) same
      (first_runs number parameters known callables first arguments turns is_own is_code plain.0 are suits'))
  functions_run (first ∷ functions) number parameters known callables from plain size are (suc n) function e arguments suits turns =
      let is_own = here object.signatures number (signature_of known first) (from.signatures 0 (signature_of known first) refl) in
      let is_code = here object.functions number (code_of known first) (from.codes 0 (code_of known first) refl) in
      let callee : Callee = callee_of (below number) (signature_of known first) (code_of known first) in
      let next = callees-next object.signatures object.functions number (signature_of known first) (code_of known first) is_own is_code in
      let size' : length (below (suc number)) ≡ suc number = ap length next ∙ length-append (below number) (callee ∷ []) ∙ omega (arith, size) in
      let are' = subst (λ (cs : List Callee). AreCallees cs ((first.name, kinds_of first.params) ∷ parameters) ((first.name, known_of number first) ∷ known) ((first.name, callable_of callables first) ∷ callables)) (sym next)
      (refl, refl, record { kinds_are = refl; ret = refl; called = one_callee number parameters known callables first size is_own is_code plain.0 are }, more_callees (below number) (callee ∷ []) parameters known callables are) in
      let m : suc number + n ≡ number + suc n = omega arith in
      subst (λ k. HasRun k arguments turns (apply_of (callables_after ((first.name, callable_of callables first) ∷ callables) (take n functions)) function arguments turns)) m
      (functions_run functions (suc number) ((first.name, kinds_of first.params) ∷ parameters) ((first.name, known_of number first) ∷ known) ((first.name, callable_of callables first) ∷ callables)
      (next_from number known first functions from) plain.1 size' are' n function e arguments suits turns)

-- a function of a program whose functions are plain, in an object that has their codes
program_runs : (program : Program) → ArePlain [] (functions_before_main program) → (object : Object) (main : Signature) → object.functions ≡ codes_of (functions_before_main program)
    → object.signatures ≡ signatures_of (functions_before_main program) ++ main ∷ [] → (sound : HasSoundFunctions object)
    → (n : ℕ) (function : Function) → slice_get (functions_before_main program) n ≡ Some function
    → (arguments : List Argument) → SuitParams (kinds_of function.params) arguments → (turns : ℕ)
    → HasRun object sound n arguments turns (apply_of (callables_of (take n (functions_before_main program))) function arguments turns)
program_runs program plain object main functions_are signatures_are sound n function e arguments suits turns =
    let functions : List Function = functions_before_main program in
    let from : AreFrom object sound 0 [] functions = record {
      codes = λ k code h. let z : k ≡ 0 + k = omega arith in
          subst (λ m. slice_get object.functions m ≡ Some code) z (subst (λ (l : List Code). slice_get l k ≡ Some code) (sym functions_are) h);
      signatures = λ k own h. let z : k ≡ 0 + k = omega arith in
          subst (λ m. slice_get object.signatures m ≡ Some own) z
          (subst (λ (l : List Signature). slice_get l k ≡ Some own) (sym signatures_are) (slice_get-front (signatures_of functions) (main ∷ []) k own h));
    } in
    let none = callees-none object.signatures object.functions in
    let z : 0 + n ≡ n = omega arith in
    subst (λ k. HasRun object sound k arguments turns (apply_of (callables_of (take n functions)) function arguments turns)) z
    (functions_run object sound functions 0 [] [] [] from plain (ap length none) (subst (λ (cs : List Callee). AreCallees cs [] [] []) (sym none) tt) n function e arguments suits turns)

-- the runs of a plain program's functions end with the values of their sources
pub runs_as_source : (program : Program) → IsPlain program → HasSoundFunctions (functions_object program) → RunsAsSource program
runs_as_source program plain sound n function e arguments suits turns =
    let r = program_runs program plain.functions (functions_object program) main_signature refl refl sound n function e arguments suits turns in
    record { code = r.code; found = r.found; steps = r.run.steps; outcome = r.run.outcome }

-- the functions of a plain program mean what their sources mean
pub means_source : (program : Program) → IsPlain program → HasSoundFunctions (functions_object program) → MeansSource program (functions_object program)
means_source program plain sound n function e arguments suits turns =
    let r = program_runs program plain.functions (functions_object program) main_signature refl refl sound n function e arguments suits turns in
    function_of-code (functions_object program) n r.code arguments turns r.found ∙ r.is

-- so do plain functions, whatever the instances of their program
pub functions_mean_source : (program : Program) → ArePlain [] (functions_before_main program) → HasSoundFunctions (functions_alone program) → MeansSource program (functions_object program)
functions_mean_source program plain sound n function e arguments suits turns =
    let r = program_runs program plain (functions_alone program) main_signature refl refl sound n function e arguments suits turns in
    function_of-code (functions_alone program) n r.code arguments turns r.found ∙ r.is
