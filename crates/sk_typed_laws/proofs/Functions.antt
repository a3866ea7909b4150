-- The functions of a typed program are plain.
use Rattle.std.proofs.Common.{◌≡◌, ℕ, suc, ◌+◌, ◌-◌, ◌<◌, Bool, true, false, List, [], ◌∷◌, ◌++◌, length, map, reverse, take, Option, Some, None, if◌then◌else◌, refl, sym, ap, ◌∙◌, subst, arith}
use Rattle.std.proofs.lemmas.Bool.{ltb-true, lt-ltb, leb-true}
use Rattle.std.proofs.lemmas.List.{append-nil}
use Rattle.std.specs.Prelude.{◌||◌, nat_lt, slice_get, IsSome}
use Rattle.std.specs.List.{list_all}
use Rattle.sk_names.specs.Bindings.{bound_to}
use Rattle.sk_names.specs.Bytes.{same_bytes}
use Rattle.sk_plain.proofs.Lists.{reverse-onto}
use Rattle.sk_plain.proofs.Truths.{and_left, and_right, some_same}
use Rattle.sk_plain.specs.Plain.{Parameters, NamedKinds, ArePlain, IsPlainFunction}
use Rattle.sk_scheme.specs.Plans.{functions_before_main}
use Rattle.sk_tree.specs.Functions.{kinds_of}
use Rattle.sk_tree.specs.Parameters.{are_ordered}
use Rattle.sk_tree.specs.declared.tree.Function.{Function}
use Rattle.sk_tree.specs.declared.tree.Param.{Param}
use Rattle.sk_tree.specs.declared.tree.ParamKind.{ParamKind}
use Rattle.sk_tree.specs.declared.tree.Program.{Program}
use Rattle.sk_typed_laws.proofs.Meant.{IsMeant, Agree, agree_variable}
use Rattle.sk_typed_laws.proofs.Returns.{blocks_return_alike}
use Rattle.sk_typed_laws.proofs.Statements.{statements_clear}
use Rattle.sk_typed_laws.proofs.Untold.{no_faults, unless_kept}
use Rattle.sk_typed_laws.specs.Forms.{body_formed, has_few, has_kinds, IsFormed}
use Rattle.sk_typing.specs.Typing.{IsTyped, params_walked, body_faults, functions_faults, all_taken, main_faults}
use Rattle.sk_typing.specs.Inputs.{input_faults_after}
use Rattle.sk_typing.specs.TypingNames.{Knowns, Around, unless, twice_faults}
use Rattle.sk_typing.specs.TypingStatements.{Walked, in_order, walking_of, block_returns}
use Rattle.sk_typing.specs.declared.names.FaultKind.TheVariants.{Mismatch, NoReturn}
use Rattle.sk_typing.specs.declared.names.Known.{Known}
use Rattle.sk_typing.specs.declared.names.Known.TheVariants.{Variable, Function as FunctionName, Instance as InstanceName, Broken}

-- ---- one function

params_agree : (around : Around) (parameters : Parameters) (params : List Param) (names : Knowns) (scope : NamedKinds)
    → Agree around.functions around.number parameters names scope
    → Agree around.functions around.number parameters (params_walked around names params).names (reverse (map (λ param. (param.name, param.kind)) params) ++ scope)
params_agree around parameters [] names scope a = a
params_agree around parameters (param ∷ params) names scope a =
    let names' : Knowns = (param.name, Variable param.kind) ∷ names in
    let first = agree_variable around.functions around.number parameters names scope param.name param.kind a in
    let more = params_agree around parameters params names' ((param.name, param.kind) ∷ scope) first in
    subst (λ (l : NamedKinds). Agree around.functions around.number parameters (params_walked around names' params).names l)
    (reverse-onto (param.name, param.kind) (map (λ (param : Param). (param.name, param.kind)) params) scope) more

returns_here : (in_main returns : Bool) → in_main ≡ false → (in_main || returns) ≡ true → returns ≡ true
returns_here true returns m e = let no : ⊥ = cc in absurd no
returns_here false returns m e = e

function_plain : (around : Around) (parameters : Parameters) (names : Knowns) (function : Function) → around.in_main ≡ false → Agree around.functions around.number parameters names []
    → has_kinds function ≡ true → has_few function ≡ true → body_formed function ≡ true → body_faults around names function ≡ [] → IsPlainFunction parameters function
function_plain around parameters names function m a kinds few formed e =
    let params : Walked = params_walked around names function.params in
    let walked : Walked = in_order (map walking_of function.body) around params.names in
    let order = unless (are_ordered (kinds_of function)) around Mismatch in
    let ends = unless (around.in_main || block_returns function.body) around NoReturn in
    let one = no_faults (params.faults ++ order ++ walked.faults) ends e in
    let two = no_faults (params.faults ++ order) walked.faults one.0 in
    let own : NamedKinds = reverse (map (λ (param : Param). (param.name, param.kind)) function.params) in
    let within = subst (λ (l : NamedKinds). Agree around.functions around.number parameters params.names l) (append-nil own)
    (params_agree around parameters function.params names [] a) in
    let body = statements_clear parameters function.body around params.names own m within formed two.1 in
    let returns = returns_here around.in_main (block_returns function.body) m (unless_kept (around.in_main || block_returns function.body) around NoReturn one.1) in
    record {
      kinds = kinds;
      few = leb-true (length function.params) 64 few;
      body = subst (λ (o : Option NamedKinds). IsSome o) (sym body.is) refl;
      returns = sym (blocks_return_alike function.body) ∙ returns;
    }

-- ---- functions one after another

-- What a name stands for between functions: one of those so far, and what parameters it has.
abbrev pub IsListedAs : (functions : List Function) (before : ℕ) (kinds : Option (List ParamKind)) → Option Known → Type 0
IsListedAs functions before kinds None = Unit {0}
IsListedAs functions before kinds (Some (FunctionName number)) =
    (nat_lt number before ≡ true) × ((function : Function) → slice_get functions number ≡ Some function → kinds ≡ Some (kinds_of function))
IsListedAs functions before kinds (Some (Variable kind)) = ⊥
IsListedAs functions before kinds (Some (InstanceName made)) = ⊥
IsListedAs functions before kinds (Some Broken) = ⊥

pub record AreListed (functions : List Function) (before : ℕ) (parameters : Parameters) (names : Knowns) : Type 0 where
  pub listed : (name : List ℕ) → IsListedAs functions before (bound_to name parameters) (bound_to name names)

earlier_meant : (functions : List Function) (number : ℕ) (kinds : Option (List ParamKind)) (earlier : Option Known) → IsListedAs functions number kinds earlier
    → IsMeant functions number None kinds earlier
earlier_meant functions number kinds None h = tt
earlier_meant functions number kinds (Some (FunctionName other)) h = (refl, λ below function is. h.1 function is)
earlier_meant functions number kinds (Some (Variable kind)) h = absurd h
earlier_meant functions number kinds (Some (InstanceName made)) h = absurd h
earlier_meant functions number kinds (Some Broken) h = absurd h

own_meant : (functions : List Function) (number : ℕ) (same : Bool) (kinds : Option (List ParamKind)) (earlier : Option Known) → IsListedAs functions number kinds earlier
    → IsMeant functions number None kinds (if same then Some (FunctionName number) else earlier)
own_meant functions number true kinds earlier h = (refl, λ below function is. let low : number < number = ltb-true number number below in absurd (omega (arith, low)))
own_meant functions number false kinds earlier h = earlier_meant functions number kinds earlier h

listed_agree : (functions : List Function) (number : ℕ) (parameters : Parameters) (names : Knowns) (name : List ℕ) → AreListed functions number parameters names
    → Agree functions number parameters ((name, FunctionName number) ∷ names) []
listed_agree functions number parameters names name h = record {
  meant = λ other. own_meant functions number (same_bytes name other) (bound_to other parameters) (bound_to other names) (h.listed other);
}

earlier_listed : (functions : List Function) (number : ℕ) (kinds : Option (List ParamKind)) (earlier : Option Known) → IsListedAs functions number kinds earlier
    → IsListedAs functions (suc number) kinds earlier
earlier_listed functions number kinds None h = tt
earlier_listed functions number kinds (Some (FunctionName other)) h =
    let low : other < number = ltb-true other number h.0 in (lt-ltb other (suc number) (omega (arith, low)), h.1)
earlier_listed functions number kinds (Some (Variable kind)) h = absurd h
earlier_listed functions number kinds (Some (InstanceName made)) h = absurd h
earlier_listed functions number kinds (Some Broken) h = absurd h

one_listed : (functions : List Function) (number : ℕ) (function : Function) → slice_get functions number ≡ Some function → (same : Bool) (kinds : Option (List ParamKind)) (earlier : Option Known)
    → IsListedAs functions number kinds earlier
    → IsListedAs functions (suc number) (if same then Some (kinds_of function) else kinds) (if same then Some (FunctionName number) else earlier)
one_listed functions number function there true kinds earlier h = (
  lt-ltb number (suc number) (omega arith),
  λ other is. ap (λ (f : Function). Some (kinds_of f)) (some_same function other (sym there ∙ is)),
)
one_listed functions number function there false kinds earlier h = earlier_listed functions number kinds earlier h

pub next_listed : (functions : List Function) (number : ℕ) (parameters : Parameters) (names : Knowns) (function : Function) → slice_get functions number ≡ Some function
    → AreListed functions number parameters names → AreListed functions (suc number) ((function.name, kinds_of function) ∷ parameters) ((function.name, FunctionName number) ∷ names)
next_listed functions number parameters names function there h = record {
  listed = λ other. one_listed functions number function there (same_bytes function.name other) (bound_to other parameters) (bound_to other names) (h.listed other);
}

-- all but the last
abbrev pub before_last : List Function → List Function
before_last functions = take (length functions - 1) functions

functions_plain : (all functions : List Function) (number : ℕ) (parameters : Parameters) (names : Knowns)
    → ((k : ℕ) (function : Function) → slice_get functions k ≡ Some function → slice_get all (number + k) ≡ Some function)
    → AreListed all number parameters names → list_all has_kinds functions ≡ true → list_all has_few functions ≡ true → list_all body_formed functions ≡ true
    → functions_faults all number names functions ≡ [] → ArePlain parameters (before_last functions)
functions_plain all [] number parameters names places h kinds few formed e = tt
functions_plain all (last ∷ []) number parameters names places h kinds few formed e = tt
functions_plain all (function ∷ next ∷ functions) number parameters names places h kinds few formed e =
    let rest : List Function = next ∷ functions in
    let size : length (function ∷ next ∷ functions) - 1 ≡ suc (length (next ∷ functions) - 1) = omega arith in
    let around : Around = record { functions = all; number = number; in_main = false; outermost = true; line = function.line } in
    let within : Knowns = (function.name, FunctionName number) ∷ names in
    let told = no_faults (twice_faults around names function.name ++ body_faults around within function) (functions_faults all (suc number) within rest) e in
    let own = no_faults (twice_faults around names function.name) (body_faults around within function) told.0 in
    let z : number + 0 ≡ number = omega arith in
    let there : slice_get all number ≡ Some function = subst (λ n. slice_get all n ≡ Some function) z (places 0 function refl) in
    let plain = function_plain around parameters within function refl (listed_agree all number parameters names function.name h)
    (and_left (has_kinds function) (list_all has_kinds rest) kinds) (and_left (has_few function) (list_all has_few rest) few)
    (and_left (body_formed function) (list_all body_formed rest) formed) own.1 in
    let more = functions_plain all (next ∷ functions) (suc number) ((function.name, kinds_of function) ∷ parameters) within
    (λ k f is. let n : number + suc k ≡ suc number + k = omega arith in subst (λ m. slice_get all m ≡ Some f) n (places (suc k) f is))
    (next_listed all number parameters names function there h) (and_right (has_kinds function) (list_all has_kinds rest) kinds)
    (and_right (has_few function) (list_all has_few rest) few) (and_right (body_formed function) (list_all body_formed rest) formed) told.1 in
    subst (λ n. ArePlain parameters (take n (function ∷ rest))) (sym size) (plain, more)

-- the functions before main
pub typed_functions_plain : (program : Program) → IsTyped program → IsFormed program → ArePlain [] (functions_before_main program)
typed_functions_plain program typed formed =
    let all : List Function = program.functions in
    let functions = functions_faults all 0 [] all in
    let inputs = input_faults_after [] (all_taken program) in
    let told = (no_faults functions inputs (no_faults (functions ++ inputs) (main_faults program) typed).0).0 in
    functions_plain all all 0 [] [] (λ k f is. let n : k ≡ 0 + k = omega arith in subst (λ m. slice_get all m ≡ Some f) n is)
    (record { listed = λ name. tt }) formed.kinds formed.few formed.bodies told
