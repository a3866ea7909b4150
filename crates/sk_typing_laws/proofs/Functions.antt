-- The faults of functions.
use Rattle.std.proofs.Common.{◌≡◌, ◌≤◌, ◌+◌, ◌-◌, ℕ, suc, true, ◌||◌, List, [], ◌∷◌, ◌++◌, map, length, drop, get_or, slice_range, Option, refl, sym, ◌∙◌, ap, append_assoc, add-one, arith}
use Rattle.std.proofs.lemmas.List.{take_all}
use Rattle.sk_typing.specs.Typing.{is_main, params_walked, body_faults, functions_faults}
use Rattle.sk_typing.specs.TypingFaults.{earlier, least_of}
use Rattle.sk_typing.specs.TypingNames.{Knowns, Around, unless, twice_faults}
use Rattle.sk_tree.specs.Functions.{kinds_of}
use Rattle.sk_tree.specs.Parameters.{are_ordered}
use Rattle.sk_typing.specs.TypingStatements.{Walked, in_order, walking_of, block_returns}
use Rattle.sk_typing.specs.declared.names.Fault.{Fault}
use Rattle.sk_typing.specs.declared.names.FaultKind.TheVariants.{Mismatch, NoReturn}
use Rattle.sk_typing.specs.declared.names.Known.TheVariants.{Variable, Function as FunctionName}
use Rattle.sk_tree.specs.declared.tree.Function.{Function}
use Rattle.sk_tree.specs.declared.tree.Param.{Param}
use Rattle.sk_typing_laws.proofs.AddedNames.{Added, left_behind}
use Rattle.sk_typing_laws.proofs.Least.{joined}

params_added : (around : Around) (scope : Knowns) (params : List Param) → Added scope (params_walked around scope params).names
params_added around scope [] = ([], refl)
params_added around scope (param ∷ params) =
    let more : Added ((param.name, Variable param.kind) ∷ scope) (params_walked around ((param.name, Variable param.kind) ∷ scope) params).names =
    params_added around ((param.name, Variable param.kind) ∷ scope) params in (
      more.0 ++ (param.name, Variable param.kind) ∷ [],
      more.1 ∙ sym (append_assoc more.0 ((param.name, Variable param.kind) ∷ []) scope),
    )

pub body_names : (around : Around) (scope : Knowns) (params : List Param) (last new : Knowns)
    → last ≡ (params_walked around scope params).names
    → new ≡ drop (length last - length scope) last → new ≡ scope
body_names around scope params last new last-is new-is =
    let added : Added scope (params_walked around scope params).names = params_added around scope params in
    new-is ∙ left_behind scope last (added.0, last-is ∙ added.1)

pub body_told : (around : Around) (scope : Knowns) (function : Function) (declared ordered body ended result : Option Fault)
    → declared ≡ least_of (params_walked around scope function.params).faults
    → ordered ≡ least_of (unless (are_ordered (kinds_of function)) around Mismatch)
    → body ≡ least_of (in_order (map walking_of function.body) around (params_walked around scope function.params).names).faults
    → ended ≡ least_of (unless (around.in_main || block_returns function.body) around NoReturn)
    → result ≡ earlier (earlier (earlier declared ordered) body) ended
    → result ≡ least_of (body_faults around scope function)
body_told around scope function declared ordered body ended result declared-is ordered-is body-is ended-is result-is =
    let params : Walked = params_walked around scope function.params in
    let order : List Fault = unless (are_ordered (kinds_of function)) around Mismatch in
    let inside : List Fault = (in_order (map walking_of function.body) around params.names).faults in
    let end : List Fault = unless (around.in_main || block_returns function.body) around NoReturn in
    result-is
    ∙ joined ((params.faults ++ order) ++ inside) end (earlier (earlier declared ordered) body) ended
    (joined (params.faults ++ order) inside (earlier declared ordered) body
    (joined params.faults order declared ordered declared-is ordered-is) body-is)
    ended-is

pub functions_told : (all functions : List Function) (number : ℕ) (scope after : Knowns) (first : Function) (around : Around)
    (told more result : Option Fault)
    → 1 ≤ length functions → first ≡ get_or functions 0 first
    → around ≡ record { functions = all; number = number; in_main = is_main first (slice_range functions 1 (length functions)); outermost = true; line = first.line }
    → told ≡ earlier (least_of (twice_faults around scope first.name)) (least_of (body_faults around ((first.name, FunctionName number) ∷ scope) first))
    → after ≡ (first.name, FunctionName number) ∷ scope
    → more ≡ least_of (functions_faults all (number + 1) after (slice_range functions 1 (length functions)))
    → result ≡ earlier told more
    → result ≡ least_of (functions_faults all number scope functions)
functions_told all [] number scope after first around told more result some first-is around-is told-is after-is more-is result-is = absurd (omega (arith, some))
functions_told all (function ∷ functions) number scope after first around told more result some first-is around-is told-is after-is more-is result-is =
    let rest : slice_range (function ∷ functions) 1 (length (function ∷ functions)) ≡ functions =
    take_all (length (function ∷ functions) - 1) functions (omega arith) in
    let place : Function → List Function → Around = λ f fs. record {
      functions = all;
      number = number;
      in_main = is_main f fs;
      outermost = true;
      line = f.line;
    } in
    let here : Around = place function functions in
    let here-is : around ≡ here =
    around-is ∙ ap (place first) rest ∙ ap (λ (f : Function). place f functions) first-is in
    let own : List Fault = twice_faults here scope function.name in
    let inner : List Fault = body_faults here ((function.name, FunctionName number) ∷ scope) function in
    let behind : List Fault = functions_faults all (suc number) ((function.name, FunctionName number) ∷ scope) functions in
    result-is
    ∙ joined (own ++ inner) behind told more
    (told-is
    ∙ ap (λ (a : Around). earlier (least_of (twice_faults a scope first.name)) (least_of (body_faults a ((first.name, FunctionName number) ∷ scope) first))) here-is
    ∙ ap (λ (f : Function). earlier (least_of (twice_faults here scope f.name)) (least_of (body_faults here ((f.name, FunctionName number) ∷ scope) f))) first-is
    ∙ joined own inner (least_of own) (least_of inner) refl refl)
    (more-is
    ∙ ap (λ (fs : List Function). least_of (functions_faults all (number + 1) after fs)) rest
    ∙ ap (λ (n : Knowns). least_of (functions_faults all (number + 1) n functions)) after-is
    ∙ ap (λ (f : Function). least_of (functions_faults all (number + 1) ((f.name, FunctionName number) ∷ scope) functions)) first-is
    ∙ ap (λ (n : ℕ). least_of (functions_faults all n ((function.name, FunctionName number) ∷ scope) functions)) (add-one number))
