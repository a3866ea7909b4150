-- The run of a plain function's code ends with the function's value.
use Rattle.std.proofs.Common.{◌≡◌, ℕ, suc, ◌+◌, ◌-◌, List, [], ◌∷◌, ◌++◌, length, map, replicate, ℤ, pos, Some, refl, sym, ap, ◌∙◌, subst, arith, append_assoc, length-append}
use Rattle.std.proofs.lemmas.List.{length-map, length-replicate}
use mathlib.Core.List.{reverse_aux}
use Rattle.std.specs.Prelude.{slice_get, Result, Ok, Err, true}
use Rattle.std.specs.List.{list_all, zip}
use Rattle.sk_base.specs.declared.number.Ty.{Ty}
use Rattle.sk_base.specs.declared.number.Trap.{Trap}
use Rattle.sk_base.specs.Arithmetic.{wrapped}
use Rattle.sk_base.specs.ArithmeticLaws.{wrapped-in_range, wrapped-same}
use Rattle.sk_meaning.specs.Evaluation.{Argument, Value, Place, Whole, Neighbours, Binding, Callables, Scope, Flow, Going, Returned, argument_binding, kind_type, number_in, in_sequence, doing_of, scope_of, returned, apply_of}
use Rattle.sk_tree.specs.declared.tree.Function.{Function}
use Rattle.sk_tree.specs.declared.tree.Param.{Param}
use Rattle.sk_tree.specs.declared.tree.ParamKind.{ParamKind}
use Rattle.sk_tree.specs.declared.tree.ParamKind.TheVariants.{Scalar, Index, Proxy, Region}
use Rattle.sk_isa.specs.Coded.{Callee, Routine, routine_of, start_of}
use Rattle.sk_scheme.specs.Scheme.{Slot, Known, Within, Standing, parameters_from, kinds_of, body_emitted, code_of}
use Rattle.sk_isa.specs.Soundness.{SuitParams, SuitsParam, is_scalar}
use Rattle.sk_plain.specs.Plain.{Parameters, NamedKinds, IsPlainFunction, all_behind, plainness_of}
use Rattle.sk_scheme_runs.proofs.Runs.{has_all, stands, Finishes}
use Rattle.sk_scheme_runs.proofs.Agreement.{Agree, AreCallees, IsHeld, IsLocal, IsCallValue, agree_wider, fitted}
use Rattle.sk_plain.proofs.Truths.{and_left, and_right, is_some_is}
use Rattle.sk_plain.proofs.Lists.{slice_get-at, slice_get-seam}
use Rattle.sk_plain.proofs.Parameters.{params_names}
use Rattle.sk_scheme_runs.proofs.Flows.{Runs, RunsFlow}
use Rattle.sk_scheme_runs.proofs.StatementRuns.{statements_follow}
use Rattle.sk_scheme_runs.proofs.Returns.{GoesNoFurther, IsOver, statements_stop}

-- a parameter with its argument, in evaluation's scope
abbrev bound_pair : Param × Argument → List ℕ × Binding
bound_pair pair = (pair.0.name, argument_binding pair.0.kind pair.1)

-- the slots from a number on hold the arguments' numbers, and the arguments stand among all of them
abbrev Holds : List Argument → List ℤ → ℕ → List Argument → Type 0
Holds all slots number [] = Unit {0}
Holds all slots number (argument ∷ arguments) =
    (slice_get slots number ≡ Some (number_in argument)) × (slice_get all number ≡ Some argument) × Holds all slots (suc number) arguments

holds_behind : (arguments earlier : List Argument) (before rest : List ℤ) → length earlier ≡ length before
    → Holds (earlier ++ arguments) (before ++ (map number_in arguments ++ rest)) (length before) arguments
holds_behind [] earlier before rest same = tt
holds_behind (argument ∷ arguments) earlier before rest same =
    let x : ℤ = number_in argument in
    let n : length (before ++ x ∷ []) ≡ suc (length before) = omega (arith, length-append before (x ∷ [])) in
    let m : length (earlier ++ argument ∷ []) ≡ length (before ++ x ∷ []) = omega (arith, length-append before (x ∷ []), length-append earlier (argument ∷ []), same) in
    let more = holds_behind arguments (earlier ++ argument ∷ []) (before ++ x ∷ []) rest m in
    let more1 = subst (λ (l : List ℤ). Holds ((earlier ++ argument ∷ []) ++ arguments) l (length (before ++ x ∷ [])) arguments) (append_assoc before (x ∷ []) (map number_in arguments ++ rest)) more in
    let more2 = subst (λ (l : List Argument). Holds l (before ++ x ∷ (map number_in arguments ++ rest)) (length (before ++ x ∷ [])) arguments) (append_assoc earlier (argument ∷ []) arguments) more1 in (
      slice_get-seam before x (map number_in arguments ++ rest),
      slice_get-at earlier argument arguments (length before) same,
      subst (λ k. Holds (earlier ++ argument ∷ arguments) (before ++ x ∷ (map number_in arguments ++ rest)) k arguments) n more2,
    )

-- a parameter is bound as its kind has it, and stands for its argument
held_here : (all : List Argument) (slots : List ℤ) (number : ℕ) (kind : ParamKind) (argument : Argument) → SuitsParam kind argument → slice_get slots number ≡ Some (number_in argument)
    → slice_get all number ≡ Some argument → (kind ≡ (argument_binding kind argument).kind) × IsHeld all slots number kind (argument_binding kind argument).argument
held_here all slots number (Scalar ty) (Value value) suits held there =
    (refl, (held ∙ ap (λ (v : ℤ). Some v) (sym (wrapped-same ty value suits)), wrapped-in_range ty value))
held_here all slots number (Scalar ty) (Place place) suits held there = absurd suits
held_here all slots number (Scalar ty) (Whole sizes cells) suits held there = absurd suits
held_here all slots number (Scalar ty) (Neighbours overlaps at) suits held there = absurd suits
held_here all slots number (Index dimension) argument suits held there = (refl, (there, suits))
held_here all slots number (Proxy dimension ty) argument suits held there = (refl, (there, suits))
held_here all slots number (Region dimension ty) argument suits held there = (refl, (there, suits))

params_agree : (all : List Argument) (params : List Param) (arguments : List Argument) (number : ℕ) (scope : List (List ℕ × Slot)) (values : Scope) (slots : List ℤ)
    → SuitParams (kinds_of params) arguments → Holds all slots number arguments → Agree all scope values slots number
    → Agree all (parameters_from number params scope) (reverse_aux (map bound_pair (zip params arguments)) values) slots (number + length (kinds_of params))
params_agree all [] [] number scope values slots suits held agree = agree_wider all scope values slots number (number + 0) (omega arith) agree
params_agree all [] (argument ∷ arguments) number scope values slots suits held agree = absurd suits
params_agree all (param ∷ params) [] number scope values slots suits held agree = absurd suits
params_agree all (param ∷ params) (argument ∷ arguments) number scope values slots suits held agree =
    let here = held_here all slots number param.kind argument suits.0 held.0 held.1 in
    let e : suc number + length (kinds_of params) ≡ number + length (kinds_of (param ∷ params)) = omega arith in
    let local : IsLocal all (param.name, record { number = number; kind = param.kind }) (bound_pair (param, argument)) slots (suc number) =
    record { name = refl; kind_is = here.0; below = omega arith; held = here.1 } in
    subst (λ n. Agree all (parameters_from number (param ∷ params) scope) (reverse_aux (map bound_pair (zip (param ∷ params) (argument ∷ arguments))) values) slots n) e
    (params_agree all params arguments (suc number) ((param.name, record { number = number; kind = param.kind }) ∷ scope) (bound_pair (param, argument) ∷ values) slots
    suits.1 held.2 (local, agree))

module _ (routine : Routine) (ret : Ty) where
  finish_flow : (slots : List ℤ) (turns to : ℕ) (scope : List (List ℕ × Slot)) (bound : ℕ) (flow : Flow) (left : ℕ) → RunsFlow routine ret slots 0 [] turns to scope bound flow left → IsOver flow
      → Finishes routine (stands 0 [] slots turns) (returned ret (Ok (flow, left))) × IsCallValue ret turns (returned ret (Ok (flow, left)))
  finish_flow slots turns to scope bound (Going values) left runs over = absurd over
  finish_flow slots turns to scope bound (Returned value) left runs over = (runs.1, (wrapped-in_range ret value, runs.0))

  -- the run of a body that does not go on
  finish : (slots : List ℤ) (turns to : ℕ) (scope : List (List ℕ × Slot)) (bound : ℕ) (o : Result (Flow × ℕ) Trap) → Runs routine ret slots 0 [] turns to scope bound o → GoesNoFurther o
      → Finishes routine (stands 0 [] slots turns) (returned ret o) × IsCallValue ret turns (returned ret o)
  finish slots turns to scope bound (Ok done) runs over = finish_flow slots turns to scope bound done.0 done.1 runs over
  finish slots turns to scope bound (Err trap) runs over = (runs, tt)

-- the run of a plain function's code ends with its value, which is of its type
pub function_runs : (callees : List Callee) (parameters : Parameters) (functions : List (List ℕ × Known)) (callables : Callables) (function : Function) (arguments : List Argument) (turns : ℕ)
    → IsPlainFunction parameters function → AreCallees callees parameters functions callables → SuitParams (kinds_of function.params) arguments
    → Finishes (routine_of callees (code_of functions function) arguments) (start_of (code_of functions function) arguments turns) (apply_of callables function arguments turns)
    × IsCallValue function.ret turns (apply_of callables function arguments turns)
function_runs callees parameters functions callables function arguments turns plain are suits =
    let body = body_emitted functions function in
    let routine : Routine = routine_of callees (code_of functions function) arguments in
    let within : Within = record { functions = functions; ret = function.ret } in
    let st : Standing = record { at = 0; scope = parameters_from 0 function.params []; slots = kinds_of function.params } in
    let rest : List ℤ = replicate (length body.slots - length arguments) (pos 0) in
    let slots : List ℤ = map number_in arguments ++ rest in
    let size : length slots ≡ length arguments + (length body.slots - length arguments) =
    omega (arith, length-append (map number_in arguments) rest, length-map arguments number_in, length-replicate (length body.slots - length arguments) (pos 0)) in
    let agree0 = params_agree arguments function.params arguments 0 [] [] slots suits (holds_behind arguments [] [] rest refl) tt in
    let n : 0 + length (kinds_of function.params) ≡ length (kinds_of function.params) = omega arith in
    let agree = subst (λ b. Agree arguments st.scope (scope_of function.params arguments) slots b) n agree0 in
    let behind = is_some_is (all_behind (map plainness_of function.body) parameters (reverse_aux (map (λ (param : Param). (param.name, param.kind)) function.params) [])) plain.body in
    let fine = ap (λ (names : NamedKinds). all_behind (map plainness_of function.body) parameters names) (sym (params_names function.params 0 [])) ∙ behind.1 in
    let follows = statements_follow routine parameters within callables are function.body in
    let runs = follows.runs st (scope_of function.params arguments) slots turns behind.0 fine agree (omega (arith, size)) (has_all body.code) in
    finish routine function.ret slots turns (0 + length body.code) body.scope (length body.slots) (in_sequence (map doing_of function.body) callables (scope_of function.params arguments) turns) runs
    ((statements_stop function.body).by plain.returns callables (scope_of function.params arguments) turns)

-- a number that is given to a parameter is bound as the parameter's type has it
fitted_binding : (kind : ParamKind) (value : ℤ) → is_scalar kind ≡ true → argument_binding kind (Value (wrapped (kind_type kind) value)) ≡ argument_binding kind (Value value)
fitted_binding (Scalar ty) value e =
    ap (λ (v : ℤ). record { kind = Scalar ty; argument = Value v }) (wrapped-same ty (wrapped ty value) (wrapped-in_range ty value))
fitted_binding (Index dimension) value e = let no : ⊥ = cc in absurd no
fitted_binding (Proxy dimension ty) value e = let no : ⊥ = cc in absurd no
fitted_binding (Region dimension ty) value e = let no : ⊥ = cc in absurd no

fitted_pairs : (params : List Param) (values : List ℤ) → list_all (λ param. is_scalar param.kind) params ≡ true → length values ≡ length (kinds_of params)
    → map bound_pair (zip params (map Value (fitted (kinds_of params) values))) ≡ map bound_pair (zip params (map Value values))
fitted_pairs [] values scalars n = refl
fitted_pairs (param ∷ params) [] scalars n = refl
fitted_pairs (param ∷ params) (value ∷ values) scalars n =
    let rest = list_all (λ (param : Param). is_scalar param.kind) params in
    let more = fitted_pairs params values (and_right (is_scalar param.kind) rest scalars) (omega (arith, n)) in
    ap (λ (b : Binding). (param.name, b) ∷ map bound_pair (zip params (map Value (fitted (kinds_of params) values)))) (fitted_binding param.kind value (and_left (is_scalar param.kind) rest scalars))
    ∙ ap (λ (l : Scope). (param.name, argument_binding param.kind (Value value)) ∷ l) more

pub apply_fitted : (callables : Callables) (function : Function) (values : List ℤ) (turns : ℕ) → list_all (λ param. is_scalar param.kind) function.params ≡ true
    → length values ≡ length (kinds_of function.params)
    → apply_of callables function (map Value (fitted (kinds_of function.params) values)) turns ≡ apply_of callables function (map Value values) turns
apply_fitted callables function values turns scalars n =
    ap (λ (l : Scope). returned function.ret (in_sequence (map doing_of function.body) callables (reverse_aux l []) turns)) (fitted_pairs function.params values scalars n)

pub fitted_suit : (kinds : List ParamKind) (values : List ℤ) → list_all is_scalar kinds ≡ true → length values ≡ length kinds → SuitParams kinds (map Value (fitted kinds values))
fitted_suit [] [] scalars n = tt
fitted_suit [] (value ∷ values) scalars n = tt
fitted_suit (kind ∷ kinds) [] scalars n = absurd (omega (arith, n))
fitted_suit (Scalar ty ∷ kinds) (value ∷ values) scalars n = (wrapped-in_range ty value, fitted_suit kinds values scalars (omega (arith, n)))
fitted_suit (Index dimension ∷ kinds) (value ∷ values) scalars n = let no : ⊥ = cc in absurd no
fitted_suit (Proxy dimension ty ∷ kinds) (value ∷ values) scalars n = let no : ⊥ = cc in absurd no
fitted_suit (Region dimension ty ∷ kinds) (value ∷ values) scalars n = let no : ⊥ = cc in absurd no
