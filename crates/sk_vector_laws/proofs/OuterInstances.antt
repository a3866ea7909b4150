-- The instances of a typed program stand in the outermost block of main.
use Rattle.std.proofs.Common.{◌≡◌, ◌∙◌, ℕ, suc, ◌-◌, Bool, true, false, List, [], ◌∷◌, ◌++◌, length, map, Option, Some, None, if◌then◌else◌, refl, sym, ap, subst, arith}
use Rattle.std.specs.Prelude.{◌||◌, slice_get}
use Rattle.sk_grammar.specs.ExpressionSpelling.{each}
use Rattle.sk_grammar.specs.StatementSpelling.{at_line}
use Rattle.sk_isa.specs.declared.object.Plan.{Plan}
use Rattle.sk_scheme.specs.Plans.{instance_in, plan_of, plans_in}
use Rattle.sk_scheme.specs.Scheme.{Known as Callee}
use Rattle.sk_tree.specs.Functions.{body_of, kinds_of}
use Rattle.sk_tree.specs.Parameters.{are_ordered}
use Rattle.sk_tree.specs.declared.tree.Function.{Function}
use Rattle.sk_tree.specs.declared.tree.Instance as instances
use Rattle.sk_tree.specs.declared.tree.Program.{Program}
use Rattle.sk_tree.specs.declared.tree.Statement.{Statement}
use Rattle.sk_tree.specs.declared.tree.What.{What, What-F, roll-What, map-What, fold-What}
use Rattle.sk_tree.specs.declared.tree.What.TheOpen.{Declare, Assign, Poke, Make, Take, Instance, Set, Call, Print, If, For, Return}
use Rattle.sk_tree.specs.declared.tree.What.TheVariants as what
use Rattle.sk_typed_laws.proofs.Untold.{no_faults, unless_kept}
use Rattle.sk_typed_laws.specs.Forms.{last_body}
use Rattle.sk_typing.specs.Inputs.{input_faults_after}
use Rattle.sk_typing.specs.Typing.{IsTyped, all_taken, body_faults, functions_faults, is_main, main_faults, params_walked}
use Rattle.sk_typing.specs.TypingExpressions.{value_faults}
use Rattle.sk_typing.specs.TypingInstances.{instance_faults, instance_known}
use Rattle.sk_typing.specs.TypingNames.{Around, Knowns, fault, twice_faults, unless}
use Rattle.sk_typing.specs.TypingStatements.{Walked, Walking, block_faults, block_returns, declaring, in_order, inside, of_main, walking_of, walking_step}
use Rattle.sk_typing.specs.declared.names.Fault.{Fault}
use Rattle.sk_typing.specs.declared.names.FaultKind.TheVariants.{Mismatch, NoReturn}
use Rattle.sk_typing.specs.declared.names.Known.TheVariants.{Broken, Function as FunctionName}
use Rattle.sk_vector_laws.proofs.Emission.{Held, all_held, held_of, held_what, holding_step}
use Rattle.sk_vector_laws.proofs.Levels.{AllInside, at_each, folds-level}

-- the instance that a statement of the outermost block declares
abbrev outer : (outermost : Bool) → Option instances.Instance → List instances.Instance
outer false found = []
outer true None = []
outer true (Some instance) = instance ∷ []

outer-none : (outermost : Bool) → outer outermost None ≡ []
outer-none true = refl
outer-none false = refl

abbrev IsOuter : Walking → Held → Option instances.Instance → Type 0
IsOuter walking held found = (around : Around) (names : Knowns) → (walking around names).faults ≡ [] → held.instances ≡ outer around.outermost found

abbrev IsOuterSo : Statement → Type 0
IsOuterSo s = IsOuter (walking_of s) (held_of s) (instance_in s.what)

-- a block inside another one declares none
each_inside : (ss : List Statement) → each IsOuterSo ss → (around : Around) (names : Knowns) → around.outermost ≡ false → (in_order (map walking_of ss) around names).faults ≡ []
    → (all_held (map held_of ss)).instances ≡ []
each_inside [] h around names e told = refl
each_inside (s ∷ ss) h around names e told =
    let walked : Walked = walking_of s around names in
    let parts = no_faults walked.faults (in_order (map walking_of ss) around walked.names).faults told in
    let here : (held_of s).instances ≡ [] = h.0 around names parts.0 ∙ ap (λ (b : Bool). outer b (instance_in s.what)) e in
    ap (λ (l : List instances.Instance). l ++ (all_held (map held_of ss)).instances) here ∙ each_inside ss h.1 around walked.names e parts.1

-- ---- one level

abbrev instance_at : What-F What Statement → Option instances.Instance
instance_at (Instance instance) = Some instance
instance_at level = None

found_at : (level : What-F What Statement) → instance_in (roll-What level) ≡ instance_at level
found_at (Declare ty name expr) = ap instance_in (what.rolls-Declare ty name expr)
found_at (Assign name expr) = ap instance_in (what.rolls-Assign name expr)
found_at (Poke name places expr) = ap instance_in (what.rolls-Poke name places expr)
found_at (Make dimension ty name arguments) = ap instance_in (what.rolls-Make dimension ty name arguments)
found_at (Take dimension ty name input) = ap instance_in (what.rolls-Take dimension ty name input)
found_at (Instance instance) = ap instance_in (what.rolls-Instance instance)
found_at (Set name value) = ap instance_in (what.rolls-Set name value)
found_at (Call name arguments) = ap instance_in (what.rolls-Call name arguments)
found_at (Print items) = ap instance_in (what.rolls-Print items)
found_at (If test one other) = ap instance_in (what.rolls-If test one other)
found_at (For first test step body) = ap instance_in (what.rolls-For first test step body)
found_at (Return expr) = ap instance_in (what.rolls-Return expr)

main_told : (around : Around) (walked : Walked) (names : Knowns) → (of_main around walked names).faults ≡ [] → walked.faults ≡ []
main_told around walked names e = by_test around.in_main e
  where
    by_test : (b : Bool) → (if b then walked else record { faults = fault around Mismatch; names = names }).faults ≡ [] → walked.faults ≡ []
    by_test true e = e
    by_test false e = let no : ⊥ = cc in absurd no

instance_outer : (line : ℕ) (instance : instances.Instance) → IsOuter (walking_step (Instance instance) line) (record { containers = []; instances = instance ∷ [] }) (Some instance)
instance_outer line instance around names e =
    let here : Around = record around { line = line } in
    let own : List Fault = unless here.outermost here Mismatch in
    let inner : List Fault = instance_faults here names instance in
    let told : (declaring instance.name (instance_known here names instance) (own ++ inner) here names).faults ≡ [] =
    main_told here (declaring instance.name (instance_known here names instance) (own ++ inner) here names) ((instance.name, Broken) ∷ names) e in
    let outermost : around.outermost ≡ true = unless_kept here.outermost here Mismatch (no_faults own inner (no_faults (twice_faults here names instance.name) (own ++ inner) told).1).0 in
    sym (ap (λ (b : Bool). outer b (Some instance)) outermost)

if_outer : (line : ℕ) (one other : List Statement) (value : List Fault) (around : Around) (names : Knowns) → each IsOuterSo one → each IsOuterSo other
    → value ++ block_faults (map walking_of one) around names ++ block_faults (map walking_of other) around names ≡ []
    → (all_held (map held_of one)).instances ++ (all_held (map held_of other)).instances ≡ []
if_outer line one other value around names h g e =
    let a : List Fault = block_faults (map walking_of one) around names in
    let b : List Fault = block_faults (map walking_of other) around names in
    let parts = no_faults (value ++ a) b e in
    let first = each_inside one h (inside around) names refl (no_faults value a parts.0).1 in
    let second = each_inside other g (inside around) names refl parts.1 in
    ap (λ (l : List instances.Instance). l ++ (all_held (map held_of other)).instances) first ∙ second

for_outer : (line : ℕ) (first step : Statement) (body : List Statement) (value : Knowns → List Fault) (around : Around) (names : Knowns) → around.outermost ≡ false
    → IsOuterSo first → IsOuterSo step → each IsOuterSo body
    → (walking_of first around names).faults ++ value (walking_of first around names).names ++ block_faults (map walking_of body) around (walking_of first around names).names
    ++ (walking_of step around (walking_of first around names).names).faults ≡ []
    → (held_of first).instances ++ ((all_held (map held_of body)).instances ++ (held_of step).instances) ≡ []
for_outer line first step body value around names inner f s h e =
    let begun : Walked = walking_of first around names in
    let b : List Fault = block_faults (map walking_of body) around begun.names in
    let last : List Fault = (walking_of step around begun.names).faults in
    let parts = no_faults (begun.faults ++ value begun.names ++ b) last e in
    let more = no_faults (begun.faults ++ value begun.names) b parts.0 in
    let heads = no_faults begun.faults (value begun.names) more.0 in
    let none : (s : Statement) → outer around.outermost (instance_in s.what) ≡ [] = λ s. ap (λ (b : Bool). outer b (instance_in s.what)) inner in
    let x : (held_of first).instances ≡ [] = f around names heads.0 ∙ none first in
    let y = each_inside body h (inside around) begun.names refl more.1 in
    let z : (held_of step).instances ≡ [] = s around begun.names parts.1 ∙ none step in
    ap (λ (l : List instances.Instance). l ++ ((all_held (map held_of body)).instances ++ (held_of step).instances)) x
    ∙ ap (λ (l : List instances.Instance). l ++ (held_of step).instances) y ∙ z

abbrev walking_what : What → ℕ → Walking
walking_what = fold-What (ℕ → Walking) Walking walking_step (λ statement. statement.what statement.line)

level_outer : (line : ℕ) (level : What-F What Statement) → AllInside IsOuterSo level
    → IsOuter (walking_step (map-What What Statement (ℕ → Walking) Walking walking_what walking_of level) line) (holding_step (map-What What Statement Held Held held_what held_of level)) (instance_at level)
level_outer line (Declare ty name expr) h around names e = sym (outer-none around.outermost)
level_outer line (Assign name expr) h around names e = sym (outer-none around.outermost)
level_outer line (Poke name places expr) h around names e = sym (outer-none around.outermost)
level_outer line (Make dimension ty name arguments) h around names e = sym (outer-none around.outermost)
level_outer line (Take dimension ty name input) h around names e = sym (outer-none around.outermost)
level_outer line (Instance instance) h around names e = instance_outer line instance around names e
level_outer line (Set name value) h around names e = sym (outer-none around.outermost)
level_outer line (Call name arguments) h around names e = sym (outer-none around.outermost)
level_outer line (Print items) h around names e = sym (outer-none around.outermost)
level_outer line (If test one other) h around names e =
    if_outer line one other (value_faults (record around { line = line }) names test) (record around { line = line }) names h.0 h.1 e ∙ sym (outer-none around.outermost)
level_outer line (For first test step body) h around names e =
    let here : Around = inside (record around { line = line }) in
    for_outer line first step body (λ names. value_faults here names test) here names refl h.0 h.1 h.2 e ∙ sym (outer-none around.outermost)
level_outer line (Return expr) h around names e = sym (outer-none around.outermost)

statement_outer : (s : Statement) → IsOuterSo s
statement_outer = at_each IsOuterSo (λ line level h.
    subst (λ (w : Walking). IsOuter w (held_of (at_line line (roll-What level))) (instance_in (roll-What level)))
    (sym (folds-level walking_step (λ statement. statement.what statement.line) line level))
    (subst (λ (k : Held). IsOuter (walking_step (map-What What Statement (ℕ → Walking) Walking walking_what walking_of level) line) k (instance_in (roll-What level)))
    (sym (folds-level holding_step (λ statement. statement.what) line level))
    (subst (λ (found : Option instances.Instance). IsOuter (walking_step (map-What What Statement (ℕ → Walking) Walking walking_what walking_of level) line)
    (holding_step (map-What What Statement Held Held held_what held_of level)) found) (sym (found_at level))
    (level_outer line level h))))

-- ---- the outermost block of main

module _ (known : List (List ℕ × Callee)) where
  found_plans : (found : Option instances.Instance) (own more : List instances.Instance) (plans : List Plan) → own ≡ outer true found → map (plan_of known) more ≡ plans
      → map (plan_of known) (own ++ more) ≡ elim found as (λ _. List Plan) [ Some instance ↦ plan_of known instance ∷ plans | None ↦ plans ]
  found_plans None own more plans e f = ap (λ (l : List instances.Instance). map (plan_of known) (l ++ more)) e ∙ f
  found_plans (Some instance) own more plans e f = ap (λ (l : List instances.Instance). map (plan_of known) (l ++ more)) e ∙ ap (λ (l : List Plan). plan_of known instance ∷ l) f

  pub outer_plans : (ss : List Statement) (around : Around) (names : Knowns) → around.outermost ≡ true → (in_order (map walking_of ss) around names).faults ≡ []
      → map (plan_of known) (all_held (map held_of ss)).instances ≡ plans_in known ss
  outer_plans [] around names e told = refl
  outer_plans (s ∷ ss) around names e told =
      let walked : Walked = walking_of s around names in
      let parts = no_faults walked.faults (in_order (map walking_of ss) around walked.names).faults told in
      let here : (held_of s).instances ≡ outer true (instance_in s.what) = statement_outer s around names parts.0 ∙ ap (λ (b : Bool). outer b (instance_in s.what)) e in
      found_plans (instance_in s.what) (held_of s).instances (all_held (map held_of ss)).instances (plans_in known ss) here (outer_plans ss around walked.names e parts.1)

-- where the outermost block of main stands
record IsWalked (body : List Statement) : Type 0 where
  around : Around
  names : Knowns
  outermost : around.outermost ≡ true
  told : (in_order (map walking_of body) around names).faults ≡ []

last_walked : (all : List Function) (number : ℕ) (names : Knowns) (functions : List Function) → functions_faults all number names functions ≡ [] → IsWalked (last_body functions)
last_walked all number names [] e = record { around = record { functions = all; number = number; in_main = false; outermost = true; line = 0 }; names = names; outermost = refl; told = refl }
last_walked all number names (main ∷ []) e =
    let around : Around = record { functions = all; number = number; in_main = is_main main []; outermost = true; line = main.line } in
    let within : Knowns = (main.name, FunctionName number) ∷ names in
    let params : Walked = params_walked around within main.params in
    let walked : Walked = in_order (map walking_of main.body) around params.names in
    let twice = twice_faults around names main.name in
    let body = body_faults around within main in
    let order = unless (are_ordered (kinds_of main)) around Mismatch in
    let ends = unless (around.in_main || block_returns main.body) around NoReturn in
    let own = (no_faults twice body (no_faults (twice ++ body) [] e).0).1 in
    let told = (no_faults (params.faults ++ order) walked.faults (no_faults (params.faults ++ order ++ walked.faults) ends own).0).1 in
    record { around = around; names = params.names; outermost = refl; told = told }
last_walked all number names (function ∷ next ∷ functions) e =
    let rest : List Function = next ∷ functions in
    let around : Around = record { functions = all; number = number; in_main = false; outermost = true; line = function.line } in
    let within : Knowns = (function.name, FunctionName number) ∷ names in
    let told = no_faults (twice_faults around names function.name ++ body_faults around within function) (functions_faults all (suc number) within rest) e in
    let length_is : suc (length rest - 1) ≡ length (function ∷ rest) - 1 = omega arith in
    subst (λ n. IsWalked (body_of (slice_get (function ∷ rest) n))) length_is (last_walked all (suc number) within (next ∷ functions) told.1)

-- the instances of main of a typed program are those of its outermost block
pub main_plans : (known : List (List ℕ × Callee)) (program : Program) → IsTyped program
    → map (plan_of known) (all_held (map held_of (last_body program.functions))).instances ≡ plans_in known (last_body program.functions)
main_plans known program typed =
    let all : List Function = program.functions in
    let own = functions_faults all 0 [] all in
    let inputs = input_faults_after [] (all_taken program) in
    let told = (no_faults own inputs (no_faults (own ++ inputs) (main_faults program) typed).0).0 in
    let main = last_walked all 0 [] all told in
    outer_plans known (last_body all) main.around main.names main.outermost main.told
