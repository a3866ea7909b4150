-- A typed program of vectors is plain.
use Rattle.std.proofs.Common.{◌≡◌, ℕ, zero, suc, ◌+◌, ◌-◌, ◌<◌, ◌≤◌, Bool, true, false, List, [], ◌∷◌, ◌++◌, length, map, take, All, Option, Some, None, if◌then◌else◌, refl, sym, ap, ◌∙◌, subst, arith}
use Rattle.std.proofs.lemmas.List.Elements.{All-nil}
use Rattle.std.specs.Prelude.{◌||◌, slice_get}
use Rattle.std.specs.List.{list_all}
use Rattle.sk_grammar.specs.Limits.{IsFromTextWithin}
use Rattle.sk_isa.specs.SoundObjects.{IsSoundPlan}
use Rattle.sk_isa.specs.declared.object.Object.{Object}
use Rattle.sk_isa.specs.declared.object.Signature.{Signature}
use Rattle.sk_names.specs.Bindings.{bound_to}
use Rattle.sk_names.specs.Bytes.{same_bytes}
use Rattle.sk_plain.proofs.Lists.{slice_get-front}
use Rattle.sk_plain.proofs.Parameters.{kinds_all}
use Rattle.sk_plain.proofs.Truths.{and_left, and_right, some_same}
use Rattle.sk_plain.specs.Plain.{Parameters, IsPlain}
use Rattle.sk_scheme.specs.Plans.{functions_before_main, functions_object, main_signature, plans_in}
use Rattle.sk_scheme.specs.Scheme.{Known as Callee, known_of, known_after, known_functions, codes_after, codes_of, signature_of, signatures_after, signatures_of}
use Rattle.sk_tree.specs.Functions.{kinds_of, body_of}
use Rattle.sk_tree.specs.Parameters.{are_ordered, is_scalar}
use Rattle.sk_tree.specs.declared.tree.Function.{Function}
use Rattle.sk_tree.specs.declared.tree.ParamKind.{ParamKind}
use Rattle.sk_tree.specs.declared.tree.Program.{Program}
use Rattle.sk_typed_laws.proofs.Functions.{IsListedAs, AreListed, next_listed, before_last, typed_functions_plain}
use Rattle.sk_typed_laws.proofs.Instances.{HasFunctions, plans_sound}
use Rattle.sk_typed_laws.proofs.KnownNames.{IsKnownAs, AreKnown, known_own, known_params}
use Rattle.sk_typed_laws.proofs.Untold.{no_faults}
use Rattle.sk_typed_laws.proofs.WrittenPrograms.{texts_formed}
use Rattle.sk_typed_laws.specs.Forms.{HasVectorForm, last_body, vector_form_of, all_fit, takes_scalars}
use Rattle.sk_typing.specs.Inputs.{input_faults_after}
use Rattle.sk_typing.specs.Typing.{IsTyped, params_walked, body_faults, functions_faults, is_main, all_taken, main_faults}
use Rattle.sk_typing.specs.TypingNames.{Knowns, Around, unless, twice_faults}
use Rattle.sk_typing.specs.TypingStatements.{Walked, in_order, walking_of, block_returns}
use Rattle.sk_typing.specs.declared.names.FaultKind.TheVariants.{Mismatch, NoReturn}
use Rattle.sk_typing.specs.declared.names.Known.{Known}
use Rattle.sk_typing.specs.declared.names.Known.TheVariants.{Variable, Function as FunctionName, Instance as InstanceName, Broken}

-- ---- the functions in scope, one after another

known_later : (functions : List Function) (number : ℕ) (kinds : Option (List ParamKind)) (earlier : Option Known) (callee : Option Callee) → IsListedAs functions number kinds earlier
    → IsKnownAs functions number earlier callee → IsKnownAs functions (suc number) earlier callee
known_later functions number kinds None callee listed h = tt
known_later functions number kinds (Some (FunctionName other)) callee listed h = λ below function is. h listed.0 function is
known_later functions number kinds (Some (Variable kind)) callee listed h = tt
known_later functions number kinds (Some (InstanceName made)) callee listed h = tt
known_later functions number kinds (Some Broken) callee listed h = tt

one_known : (functions : List Function) (number : ℕ) (function : Function) → slice_get functions number ≡ Some function
    → (same : Bool) (kinds : Option (List ParamKind)) (earlier : Option Known) (callee : Option Callee) → IsListedAs functions number kinds earlier → IsKnownAs functions number earlier callee
    → IsKnownAs functions (suc number) (if same then Some (FunctionName number) else earlier) (if same then Some (known_of number function) else callee)
one_known functions number function there true kinds earlier callee listed h =
    λ below other is. ap (λ (f : Function). Some (known_of number f)) (some_same function other (sym there ∙ is))
one_known functions number function there false kinds earlier callee listed h = known_later functions number kinds earlier callee listed h

next_known : (functions : List Function) (number : ℕ) (parameters : Parameters) (names : Knowns) (callees : List (List ℕ × Callee)) (function : Function) → slice_get functions number ≡ Some function
    → AreListed functions number parameters names → AreKnown functions number names callees
    → AreKnown functions (suc number) ((function.name, FunctionName number) ∷ names) ((function.name, known_of number function) ∷ callees)
next_known functions number parameters names callees function there listed h = record {
  known = λ other. one_known functions number function there (same_bytes function.name other) (bound_to other parameters) (bound_to other names) (bound_to other callees)
      (listed.listed other) (h.known other);
}

-- ---- main, behind the other functions

-- where main stands
abbrev pub main_around : (all : List Function) (number : ℕ) → Function → Around
main_around all number main = record { functions = all; number = number; in_main = is_main main []; outermost = true; line = main.line }

-- the names in scope of main's body
abbrev pub names_within : (all : List Function) (number : ℕ) → Function → Knowns → Knowns
names_within all number main names = (params_walked (main_around all number main) ((main.name, FunctionName number) ∷ names) main.params).names

-- main is reached behind the other functions, and no fault is told of its body
pub record IsReached (all : List Function) (callees : List (List ℕ × Callee)) (main : Function) : Type 0 where
  pub number : ℕ
  pub last : length all - 1 ≡ number
  pub within : number ≤ length all
  pub parameters : Parameters
  pub names : Knowns
  pub listed : AreListed all number parameters names
  pub known : AreKnown all number (names_within all number main names) callees
  pub told : (in_order (map walking_of main.body) (main_around all number main) (names_within all number main names)).faults ≡ []

last_reached : (all : List Function) (main : Function) (number : ℕ) (parameters : Parameters) (names : Knowns) (callees : List (List ℕ × Callee)) → number + 1 ≡ length all
    → AreListed all number parameters names → AreKnown all number names callees → functions_faults all number names (main ∷ []) ≡ [] → IsReached all callees main
last_reached all main number parameters names callees size listed known e =
    let around : Around = main_around all number main in
    let within : Knowns = (main.name, FunctionName number) ∷ names in
    let params : Walked = params_walked around within main.params in
    let walked : Walked = in_order (map walking_of main.body) around params.names in
    let twice = twice_faults around names main.name in
    let body = body_faults around within main in
    let order = unless (are_ordered (kinds_of main)) around Mismatch in
    let ends = unless (around.in_main || block_returns main.body) around NoReturn in
    let own = (no_faults twice body (no_faults (twice ++ body) [] e).0).1 in
    record {
      number = number;
      last = omega (arith, size);
      within = omega (arith, size);
      parameters = parameters;
      names = names;
      listed = listed;
      known = known_params all number around main.params within callees (known_own all number main.name names callees known);
      told = (no_faults (params.faults ++ order) walked.faults (no_faults (params.faults ++ order ++ walked.faults) ends own).0).1;
    }

reached_from : (all functions : List Function) (number : ℕ) (parameters : Parameters) (names : Knowns) (callees : List (List ℕ × Callee)) → number + length functions ≡ length all
    → ((k : ℕ) (function : Function) → slice_get functions k ≡ Some function → slice_get all (number + k) ≡ Some function)
    → AreListed all number parameters names → AreKnown all number names callees → functions_faults all number names functions ≡ []
    → (main : Function) → slice_get functions (length functions - 1) ≡ Some main → IsReached all (known_after number callees (before_last functions)) main
reached_from all [] number parameters names callees size places listed known e main there = let no : ⊥ = cc in absurd no
reached_from all (last ∷ []) number parameters names callees size places listed known e main there =
    subst (λ (f : Function). IsReached all callees f) (some_same last main there) (last_reached all last number parameters names callees size listed known e)
reached_from all (function ∷ next ∷ functions) number parameters names callees size places listed known e main there =
    let rest : List Function = next ∷ functions in
    let length_is : length (function ∷ next ∷ functions) - 1 ≡ suc (length (next ∷ functions) - 1) = omega arith in
    let around : Around = record { functions = all; number = number; in_main = false; outermost = true; line = function.line } in
    let within : Knowns = (function.name, FunctionName number) ∷ names in
    let told = no_faults (twice_faults around names function.name ++ body_faults around within function) (functions_faults all (suc number) within rest) e in
    let z : number + 0 ≡ number = omega arith in
    let own : slice_get all number ≡ Some function = subst (λ n. slice_get all n ≡ Some function) z (places 0 function refl) in
    let more = reached_from all (next ∷ functions) (suc number) ((function.name, kinds_of function) ∷ parameters) within ((function.name, known_of number function) ∷ callees)
    (omega (arith, size))
    (λ k f is. let n : number + suc k ≡ suc number + k = omega arith in subst (λ m. slice_get all m ≡ Some f) n (places (suc k) f is))
    (next_listed all number parameters names function own listed) (next_known all number parameters names callees function own listed known) told.1
    main (sym (ap (λ n. slice_get (function ∷ rest) n) length_is) ∙ there) in
    subst (λ n. IsReached all (known_after number callees (take n (function ∷ rest))) main) (sym length_is) more

-- main of a typed program
pub main_reached : (program : Program) → IsTyped program → (main : Function) → slice_get program.functions (length program.functions - 1) ≡ Some main
    → IsReached program.functions (known_functions (functions_before_main program)) main
main_reached program typed main there =
    let all : List Function = program.functions in
    let own = functions_faults all 0 [] all in
    let inputs = input_faults_after [] (all_taken program) in
    let told = (no_faults own inputs (no_faults (own ++ inputs) (main_faults program) typed).0).0 in
    reached_from all all 0 [] [] [] (omega arith) (λ k f is. let n : k ≡ 0 + k = omega arith in subst (λ m. slice_get all m ≡ Some f) n is)
    (record { listed = λ name. tt }) (record { known = λ name. tt }) told main there

-- ---- the compiled form

taken_length : (n : ℕ) (functions : List Function) → n ≤ length functions → length (take n functions) ≡ n
taken_length zero functions low = refl
taken_length (suc n) [] low = absurd (omega (arith, low))
taken_length (suc n) (function ∷ functions) low = ap suc (taken_length n functions (omega (arith, low)))

taken_there : (n : ℕ) (functions : List Function) (k : ℕ) (function : Function) → k < n → slice_get functions k ≡ Some function → slice_get (take n functions) k ≡ Some function
taken_there zero functions k function low e = absurd (omega (arith, low))
taken_there (suc n) [] k function low e = e
taken_there (suc n) (first ∷ functions) zero function low e = e
taken_there (suc n) (first ∷ functions) (suc k) function low e = taken_there n functions k function (omega (arith, low)) e

codes_length : (functions : List Function) (number : ℕ) (known : List (List ℕ × Callee)) → length (codes_after number known functions) ≡ length functions
codes_length [] number known = refl
codes_length (function ∷ functions) number known = ap suc (codes_length functions (suc number) ((function.name, known_of number function) ∷ known))

signature_there : (functions : List Function) (number : ℕ) (known : List (List ℕ × Callee)) (k : ℕ) (function : Function) → slice_get functions k ≡ Some function
    → (own : Signature) × (slice_get (signatures_after number known functions) k ≡ Some own) × (own.params ≡ kinds_of function)
signature_there [] number known k function e = let no : ⊥ = cc in absurd no
signature_there (first ∷ functions) number known zero function e = (signature_of known first, refl, ap kinds_of (some_same first function e))
signature_there (first ∷ functions) number known (suc k) function e =
    signature_there functions (suc number) ((first.name, known_of number first) ∷ known) k function e

-- what holds of all elements holds of each
pub all_at : {A : Type 0} (test : A → Bool) (xs : List A) → list_all test xs ≡ true → (k : ℕ) (x : A) → slice_get xs k ≡ Some x → test x ≡ true
all_at test [] all k x e = let no : ⊥ = cc in absurd no
all_at test (first ∷ xs) all zero x e = subst (λ y. test y ≡ true) (some_same first x e) (and_left (test first) (list_all test xs) all)
all_at test (first ∷ xs) all (suc k) x e = all_at test xs (and_right (test first) (list_all test xs) all) k x e

has_functions : (program : Program) → list_all takes_scalars (functions_before_main program) ≡ true
    → HasFunctions (functions_object program) program.functions (length program.functions - 1)
has_functions program scalars =
    let all : List Function = program.functions in
    let functions : List Function = functions_before_main program in
    let many : length functions ≡ length all - 1 = taken_length (length all - 1) all (omega arith) in
    let codes : length (codes_of functions) ≡ length functions = codes_length functions 0 [] in
    record {
      size = omega (arith, many, codes);
      signature = λ number function low there.
          let found = taken_there (length all - 1) all number function low there in
          let own = signature_there functions 0 [] number function found in (
            own.0,
            slice_get-front (signatures_of functions) (main_signature ∷ []) number own.0 own.1,
            own.2,
            kinds_all is_scalar function.params (all_at takes_scalars functions scalars number function found),
          );
    }

-- the instances of main
module _ (program : Program) (typed : IsTyped program) (form : HasVectorForm program) where
  abbrev object : Object
  object = functions_object program

  abbrev callees : List (List ℕ × Callee)
  callees = known_functions (functions_before_main program)

  plans_of_main : (found : Option Function) → slice_get program.functions (length program.functions - 1) ≡ found → All (IsSoundPlan object) (plans_in callees (body_of found))
  plans_of_main None there = All-nil (IsSoundPlan object)
  plans_of_main (Some main) there =
      let r = main_reached program typed main there in
      let has = subst (λ n. HasFunctions object program.functions n) r.last (has_functions program form.functions) in
      let formed : all_fit (map vector_form_of main.body) ≡ true = sym (ap (λ o. all_fit (map vector_form_of (body_of o))) there) ∙ form.main in
      plans_sound object callees main.body (main_around program.functions r.number main) (names_within program.functions r.number main r.names) has r.within r.known formed r.told

pub typed_vectors_plain : (program : Program) → IsTyped program → IsFromTextWithin program → HasVectorForm program → IsPlain program
typed_vectors_plain program typed from form =
    let all : List Function = program.functions in
    let many : length (functions_before_main program) ≡ length all - 1 = taken_length (length all - 1) all (omega arith) in
    let plans = plans_of_main program typed form (slice_get all (length all - 1)) refl in
    record {
      functions = typed_functions_plain program typed (texts_formed program from);
      instances = subst (λ n. All (IsSoundPlan (functions_object program)) (plans_in (known_functions (functions_before_main program)) (body_of (slice_get all n)))) (sym many) plans;
    }
