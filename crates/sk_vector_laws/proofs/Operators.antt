-- The operators that the object of a typed program of vectors marks are those that its functions compute.
use Rattle.std.proofs.Common.{◌≡◌, ◌∙◌, ℕ, zero, suc, ◌-◌, Bool, true, false, List, [], ◌∷◌, ◌++◌, length, map, take, ℤ, Option, Some, None, if◌then◌else◌, refl, sym, ap, subst}
use Rattle.std.specs.Option.{option_map}
use Rattle.std.specs.Prelude.{◌||◌, Ok, Result, slice_get}
use Rattle.sk_base.specs.Arithmetic.{InRange}
use Rattle.sk_base.specs.ArithmeticLaws.{wrapped-same}
use Rattle.sk_base.specs.declared.number.Trap.{Trap}
use Rattle.sk_base.specs.declared.number.Ty.{Ty}
use Rattle.sk_base.specs.declared.number.Ty.TheVariants.{Int, Long}
use Rattle.sk_grammar.specs.StatementSpelling.{at_line}
use Rattle.sk_isa.specs.Objects.{no_signature, operator_at, signature_at}
use Rattle.sk_isa.specs.SoundObjects.{IsMarkedOperator}
use Rattle.sk_isa.specs.Soundness.{SuitParams}
use Rattle.sk_isa.specs.declared.object.Object.{Object}
use Rattle.sk_isa.specs.declared.object.Signature.{Signature}
use Rattle.sk_main_scheme.specs.Objects.{AreSomeOperators, object_of}
use Rattle.sk_meaning.specs.Evaluation.{Argument, Callables, Doing, Returned, Value, and_then, apply_of, callables_of, doing_of, doing_step, in_sequence, returned, scope_of, turn_limit, value_only}
use Rattle.sk_meaning.specs.Expressions.{then_do}
use Rattle.sk_names.specs.Bindings.{bound_to}
use Rattle.sk_names.specs.Bytes.{same_bytes}
use Rattle.sk_plain.proofs.Lists.{slice_get-front}
use Rattle.sk_plain.proofs.Truths.{and_left, and_right, some_same}
use Rattle.sk_plain.specs.Means.{MeansSource}
use Rattle.sk_safety.specs.Operators.{kind_in, kind_of_node, listed_of, only_return, returned_by}
use Rattle.sk_scheme.specs.Plans.{functions_before_main}
use Rattle.sk_scheme.specs.Scheme.{Known, known_of, signature_of, signatures_after, signatures_of}
use Rattle.sk_scheme.specs.Scheme as scheme
use Rattle.sk_tree.specs.Functions.{kinds_of}
use Rattle.sk_tree.specs.Operators.{operator_value}
use Rattle.sk_tree.specs.Parameters.{are_ordered, same_type}
use Rattle.sk_tree.specs.Skeletons.{is_operator}
use Rattle.sk_tree.specs.declared.operator.Operator.{Operator}
use Rattle.sk_tree.specs.declared.operator.OperatorKind.{OperatorKind}
use Rattle.sk_tree.specs.declared.tree.Expr.{Expr, out-Expr}
use Rattle.sk_tree.specs.declared.tree.Function.{Function}
use Rattle.sk_tree.specs.declared.tree.Param.{Param}
use Rattle.sk_tree.specs.declared.tree.ParamKind.{ParamKind}
use Rattle.sk_tree.specs.declared.tree.ParamKind.TheVariants.{Index, Proxy, Region, Scalar}
use Rattle.sk_tree.specs.declared.tree.Program.{Program}
use Rattle.sk_tree.specs.declared.tree.Statement.{Statement}
use Rattle.sk_tree.specs.declared.tree.What.{What}
use Rattle.sk_tree.specs.declared.tree.What.TheOpen as layer
use Rattle.sk_tree.specs.declared.tree.What.TheVariants as what
use Rattle.sk_typed_laws.proofs.Untold.{no_faults}
use Rattle.sk_typing.specs.Inputs.{input_faults_after}
use Rattle.sk_typing.specs.Typing.{all_taken, body_faults, functions_faults, is_main, main_faults, params_walked}
use Rattle.sk_typing.specs.TypingNames.{Around, Knowns, fault, twice_faults, unless}
use Rattle.sk_typing.specs.TypingStatements.{Walked, block_returns, in_order, walking_of}
use Rattle.sk_typing.specs.declared.names.Fault.{Fault}
use Rattle.sk_typing.specs.declared.names.FaultKind.TheVariants.{Mismatch, NoReturn, Twice}
use Rattle.sk_typing.specs.declared.names.Known.TheVariants.{Function as FunctionName, Variable}
use Rattle.sk_vector_laws.proofs.Means.{object_means}
use Rattle.sk_vector_laws.proofs.Levels.{folds-level}
use Rattle.sk_vector_laws.proofs.Listed.{listed_gives, listed_in_range, pair_scope}
use Rattle.sk_vector_laws.specs.Vectors.{IsTypedOfVectors, StandingOperatorsAreTrue}

-- ---- the parameters and the body of a function on the list

-- two scalars of a type, and one `return` of an expression on the list
record IsPair (function : Function) (operator : Operator) : Type 0 where
  left : List ℕ
  right : List ℕ
  params : function.params ≡ record { kind = Scalar function.ret; name = left } ∷ record { kind = Scalar function.ret; name = right } ∷ []
  line : ℕ
  expr : Expr
  body : function.body ≡ at_line line (what.Return expr) ∷ []
  kind : OperatorKind
  is : record { kind = kind; ty = function.ret } ≡ operator
  listed : kind_of_node left right (out-Expr expr) ≡ Some kind

same_type_is : (one other : Ty) → same_type one other ≡ true → one ≡ other
same_type_is Int Int e = refl
same_type_is Long Long e = refl
same_type_is Int Long e = absurd (cc e)
same_type_is Long Int e = absurd (cc e)

module _ (ty : Ty) where
  one_kind : (kind : ParamKind) → is_operator ty (kind ∷ []) ≡ true → ⊥
  one_kind (Scalar of) e = cc e
  one_kind (Index dimension) e = cc e
  one_kind (Proxy dimension of) e = cc e
  one_kind (Region dimension of) e = cc e

  two_kinds : (one other : ParamKind) → is_operator ty (one ∷ other ∷ []) ≡ true → (one ≡ Scalar ty) × (other ≡ Scalar ty)
  two_kinds (Scalar left) (Scalar right) e =
      (ap Scalar (same_type_is left ty (and_left (same_type left ty) (same_type right ty) e)), ap Scalar (same_type_is right ty (and_right (same_type left ty) (same_type right ty) e)))
  two_kinds one other e = absurd (cc e)

  many_kinds : (one other third : ParamKind) (kinds : List ParamKind) → is_operator ty (one ∷ other ∷ third ∷ kinds) ≡ true → ⊥
  many_kinds (Scalar left) (Scalar right) third kinds e = cc e
  many_kinds one other third kinds e = cc e

  abbrev pair_params : (left right : List ℕ) → List Param
  pair_params left right = record { kind = Scalar ty; name = left } ∷ record { kind = Scalar ty; name = right } ∷ []

  params_pair : (params : List Param) → is_operator ty (map (λ (param : Param). param.kind) params) ≡ true → (left : List ℕ) × (right : List ℕ) × (params ≡ pair_params left right)
  params_pair [] e = absurd (cc e)
  params_pair (one ∷ []) e = absurd (one_kind one.kind e)
  params_pair (one ∷ other ∷ []) e =
      let kinds = two_kinds one.kind other.kind e in (
        one.name,
        other.name,
        ap (λ (k : ParamKind). (let ps : List Param = record { kind = k; name = one.name } ∷ other ∷ [] in ps)) kinds.0
            ∙ ap (λ (k : ParamKind). (let ps : List Param = record { kind = Scalar ty; name = one.name } ∷ record { kind = k; name = other.name } ∷ [] in ps)) kinds.1,
      )
  params_pair (one ∷ other ∷ third ∷ params) e = absurd (many_kinds one.kind other.kind third.kind (map (λ (param : Param). param.kind) params) e)

returned_is : (w : What) (expr : Expr) → returned_by w ≡ Some expr → w ≡ what.Return expr
returned_is (what.Return other) expr e = ap what.Return (some_same other expr e)
returned_is w expr e = absurd (cc e)

body_returns : (body : List Statement) (expr : Expr) → only_return body ≡ Some expr → (line : ℕ) × (body ≡ at_line line (what.Return expr) ∷ [])
body_returns [] expr e = absurd (cc e)
body_returns (s ∷ []) expr e = (s.line, ap (λ (w : What). (let ss : List Statement = at_line s.line w ∷ [] in ss)) (returned_is s.what expr e))
body_returns (s ∷ t ∷ more) expr e = absurd (cc e)

listed_pair : (function : Function) (operator : Operator) → listed_of function ≡ Some operator → IsPair function operator
listed_pair function operator e = by_test (is_operator function.ret (kinds_of function)) refl e
  where
    made : OperatorKind → Operator
    made kind = record { kind = kind; ty = function.ret }

    by_kind : (left right : List ℕ) (line : ℕ) (expr : Expr) → function.params ≡ pair_params function.ret left right → function.body ≡ at_line line (what.Return expr) ∷ []
        → (found : Option OperatorKind) → kind_of_node left right (out-Expr expr) ≡ found → option_map (λ kind. record { kind = kind; ty = function.ret }) found ≡ Some operator → IsPair function operator
    by_kind left right line expr params body (Some kind) is e =
        record { left = left; right = right; params = params; line = line; expr = expr; body = body; kind = kind; is = some_same (record { kind = kind; ty = function.ret }) operator e; listed = is }
    by_kind left right line expr params body None is e = absurd (cc e)

    by_return : (left right : List ℕ) → function.params ≡ pair_params function.ret left right → (found : Option Expr) → only_return function.body ≡ found
        → option_map (λ kind. record { kind = kind; ty = function.ret }) (kind_in (pair_params function.ret left right) found) ≡ Some operator → IsPair function operator
    by_return left right params (Some expr) is e =
        let body = body_returns function.body expr is in
        by_kind left right body.0 expr params body.1 (kind_of_node left right (out-Expr expr)) refl e
    by_return left right params None is e = absurd (cc e)

    by_test : (t : Bool) → is_operator function.ret (kinds_of function) ≡ t
        → (if t then option_map (λ kind. record { kind = kind; ty = function.ret }) (kind_in function.params (only_return function.body)) else None) ≡ Some operator → IsPair function operator
    by_test true is e =
        let pair = params_pair function.ret function.params is in
        by_return pair.0 pair.1 pair.2 (only_return function.body) refl
        (sym (ap (λ (ps : List Param). option_map (λ kind. (let o : Operator = record { kind = kind; ty = function.ret } in o)) (kind_in ps (only_return function.body))) pair.2) ∙ e)
    by_test false is e = absurd (cc e)

-- ---- its value

doing-Return : (line : ℕ) (expr : Expr) → doing_of (at_line line (what.Return expr)) ≡ doing_step (layer.Return expr)
doing-Return line expr = rw (← what.rolls-Return expr) (folds-level doing_step (λ statement. statement.what) line (layer.Return expr))

pair_value : (function : Function) (operator : Operator) (pair : IsPair function operator) → same_bytes pair.left pair.right ≡ false → (callables : Callables) (a b : ℤ) → InRange function.ret a → InRange function.ret b
    → (turns : ℕ) → apply_of callables function (Value a ∷ Value b ∷ []) turns ≡ Ok (operator_value operator a b, turns)
pair_value function operator pair apart callables a b fits_a fits_b turns =
    let ty : Ty = function.ret in
    let arguments : List Argument = Value a ∷ Value b ∷ [] in
    let gives = listed_gives ty pair.left pair.right apart callables a b fits_a fits_b pair.expr pair.kind pair.listed in
    let value : ℤ = operator_value (record { kind = pair.kind; ty = ty }) a b in
    let scope = pair_scope ty pair.left pair.right apart callables a b fits_a fits_b in
    ap (λ (ps : List Param). returned ty (in_sequence (map doing_of function.body) callables (scope_of ps arguments) turns)) pair.params
    ∙ ap (λ (ss : List Statement). returned ty (in_sequence (map doing_of ss) callables scope turns)) pair.body
    ∙ ap (λ (d : Doing). returned ty (in_sequence (d ∷ []) callables scope turns)) (doing-Return pair.line pair.expr)
    ∙ ap (λ (r : Result (ℤ × ℕ) Trap). returned ty (and_then (then_do r (λ value turns. Ok (Returned value, turns))) (λ scope turns. in_sequence [] callables scope turns))) (gives.gives turns)
    ∙ ap (λ (z : ℤ). (let r : Result (ℤ × ℕ) Trap = Ok (z, turns) in r)) (wrapped-same ty value (listed_in_range ty pair.left pair.right apart callables a b fits_a fits_b pair.kind))
    ∙ ap (λ (o : Operator). (let r : Result (ℤ × ℕ) Trap = Ok (operator_value o a b, turns) in r)) pair.is

-- ---- its parameters have different names

record IsWalked (function : Function) : Type 0 where
  around : Around
  names : Knowns
  told : (params_walked around names function.params).faults ≡ []

each_walked : (all : List Function) (number : ℕ) (names : Knowns) (functions : List Function) → functions_faults all number names functions ≡ [] → (k : ℕ) (function : Function) → slice_get functions k ≡ Some function → IsWalked function
each_walked all number names [] e k function is = absurd (cc is)
each_walked all number names (first ∷ functions) e zero function is =
    let around : Around = record { functions = all; number = number; in_main = is_main first functions; outermost = true; line = first.line } in
    let within : Knowns = (first.name, FunctionName number) ∷ names in
    let params : Walked = params_walked around within first.params in
    let walked : Walked = in_order (map walking_of first.body) around params.names in
    let twice = twice_faults around names first.name in
    let body = body_faults around within first in
    let order = unless (are_ordered (kinds_of first)) around Mismatch in
    let ends = unless (around.in_main || block_returns first.body) around NoReturn in
    let own = (no_faults twice body (no_faults (twice ++ body) (functions_faults all (suc number) within functions) e).0).1 in
    let told = (no_faults params.faults order (no_faults (params.faults ++ order) walked.faults (no_faults (params.faults ++ order ++ walked.faults) ends own).0).0).0 in
    subst IsWalked (some_same first function is) (record { around = around; names = within; told = told })
each_walked all number names (first ∷ functions) e (suc k) function is =
    let around : Around = record { functions = all; number = number; in_main = is_main first functions; outermost = true; line = first.line } in
    let within : Knowns = (first.name, FunctionName number) ∷ names in
    each_walked all (suc number) within functions (no_faults (twice_faults around names first.name ++ body_faults around within first) (functions_faults all (suc number) within functions) e).1 k function is

pair_apart : (around : Around) (names : Knowns) (ty : Ty) (left right : List ℕ) → (params_walked around names (pair_params ty left right)).faults ≡ [] → same_bytes left right ≡ false
pair_apart around names ty left right e = by_test (same_bytes left right) second
  where
    second : (elim (if same_bytes left right then Some (Variable (Scalar ty)) else bound_to right names) as (λ _. List Fault) [ Some known ↦ fault around Twice | None ↦ [] ]) ≡ []
    second = (no_faults (twice_faults around ((left, Variable (Scalar ty)) ∷ names) right) [] (no_faults (twice_faults around names left) _ e).1).0

    by_test : (t : Bool) → (elim (if t then Some (Variable (Scalar ty)) else bound_to right names) as (λ _. List Fault) [ Some known ↦ fault around Twice | None ↦ [] ]) ≡ [] → t ≡ false
    by_test false h = refl
    by_test true h = absurd (cc h)

-- ---- in the object of the program

abbrev operator_in : List (Option Operator) → ℕ → Option Operator
operator_in operators n = elim (slice_get operators n) as (λ _. Option Operator) [ Some found ↦ found | None ↦ None ]

operator_there : (functions : List Function) (n : ℕ) (operator : Operator) → operator_in (map listed_of functions) n ≡ Some operator
    → (function : Function) × (slice_get functions n ≡ Some function) × (listed_of function ≡ Some operator)
operator_there [] n operator e = absurd (cc e)
operator_there (function ∷ functions) zero operator e = (function, refl, e)
operator_there (function ∷ functions) (suc n) operator e = operator_there functions n operator e

signature_there : (functions : List Function) (number : ℕ) (known : List (List ℕ × Known)) (k : ℕ) (function : Function) → slice_get functions k ≡ Some function
    → (own : Signature) × (slice_get (signatures_after number known functions) k ≡ Some own) × (own.params ≡ kinds_of function) × (own.ret ≡ function.ret)
signature_there [] number known k function e = absurd (cc e)
signature_there (first ∷ functions) number known zero function e =
    let same = some_same first function e in (signature_of known first, refl, ap kinds_of same, ap (λ (f : Function). f.ret) same)
signature_there (first ∷ functions) number known (suc k) function e = signature_there functions (suc number) ((first.name, known_of number first) ∷ known) k function e

taken_there : (n : ℕ) (functions : List Function) (k : ℕ) (function : Function) → slice_get (take n functions) k ≡ Some function → slice_get functions k ≡ Some function
taken_there zero functions k function e = absurd (cc e)
taken_there (suc n) [] k function e = absurd (cc e)
taken_there (suc n) (first ∷ functions) zero function e = e
taken_there (suc n) (first ∷ functions) (suc k) function e = taken_there n functions k function e

-- each operator that is marked
operators_true : (program : Program) → IsTypedOfVectors program → (function : ℕ) (operator : Operator) → operator_at (object_of program) function ≡ Some operator → IsMarkedOperator (object_of program) function operator
operators_true program h number operator e =
    let all : List Function = program.functions in
    let functions : List Function = functions_before_main program in
    let object : Object = object_of program in
    let there = operator_there functions number operator e in
    let function : Function = there.0 in
    let pair = listed_pair function operator there.2 in
    let own = functions_faults all 0 [] all in
    let inputs = input_faults_after [] (all_taken program) in
    let told = (no_faults own inputs (no_faults (own ++ inputs) (main_faults program) h.typed).0).0 in
    let walked = each_walked all 0 [] all told number function (taken_there (length all - 1) all number function there.1) in
    let apart = pair_apart walked.around walked.names function.ret pair.left pair.right (sym (ap (λ (ps : List Param). (params_walked walked.around walked.names ps).faults) pair.params) ∙ walked.told) in
    let signature = signature_there functions 0 [] number function there.1 in
    let found : signature_at object number ≡ signature.0 =
    ap (λ (o : Option Signature). elim o as (λ _. Signature) [ Some signature ↦ signature | None ↦ no_signature ]) (slice_get-front (signatures_of functions) _ number signature.0 signature.1) in
    let ty_is : function.ret ≡ operator.ty = ap (λ (o : Operator). o.ty) pair.is in
    let means : MeansSource program object = object_means program h in
    let kinds : kinds_of function ≡ Scalar function.ret ∷ Scalar function.ret ∷ [] = ap (λ (ps : List Param). map (λ (p : Param). p.kind) ps) pair.params in
    record {
      takes = record {
        params = ap (λ (s : Signature). is_operator operator.ty s.params) found ∙ ap (is_operator operator.ty) (signature.2 ∙ kinds)
            ∙ same_operator function.ret operator.ty ty_is;
        ret = ap (λ (s : Signature). s.ret) found ∙ signature.3 ∙ ty_is;
      };
      value = λ a b fits_a fits_b.
          let at_a : InRange function.ret a = subst (λ t. InRange t a) (sym ty_is) fits_a in
          let at_b : InRange function.ret b = subst (λ t. InRange t b) (sym ty_is) fits_b in
          let suits : SuitParams (scheme.kinds_of function.params) (Value a ∷ Value b ∷ []) = subst (λ (l : List ParamKind). SuitParams l (Value a ∷ Value b ∷ [])) (sym kinds) (at_a, (at_b, tt)) in
          ap value_only (means number function there.1 (Value a ∷ Value b ∷ []) suits turn_limit)
          ∙ ap value_only (pair_value function operator pair apart (callables_of (take number functions)) a b at_a at_b turn_limit);
    }
  where
    same_operator : (one other : Ty) → one ≡ other → is_operator other (Scalar one ∷ Scalar one ∷ []) ≡ true
    same_operator one other e = subst (λ t. is_operator t (Scalar one ∷ Scalar one ∷ []) ≡ true) e (itself one)
      where
        itself : (t : Ty) → is_operator t (Scalar t ∷ Scalar t ∷ []) ≡ true
        itself Int = refl
        itself Long = refl

some_operator : (operators all : List (Option Operator)) → AreSomeOperators operators all → (n : ℕ) (operator : Operator) → operator_in operators n ≡ Some operator → operator_in all n ≡ Some operator
some_operator [] [] h n operator e = e
some_operator [] (one ∷ all) h n operator e = absurd h
some_operator (own ∷ operators) [] h n operator e = absurd h
some_operator (own ∷ operators) (one ∷ all) h zero operator e = h.0 operator e
some_operator (own ∷ operators) (one ∷ all) h (suc n) operator e = some_operator operators all h.1 n operator e

-- and in each object that stands for it, which may lack some
pub standing_operators : StandingOperatorsAreTrue
standing_operators program h object stands number operator e =
    let listed = subst (λ (o : Object). IsMarkedOperator o number operator) (sym stands.same)
    (operators_true program h number operator (some_operator object.operators (object_of program).operators stands.operators number operator e)) in
    record { takes = listed.takes; value = listed.value }
