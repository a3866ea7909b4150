-- The object of a program without marks, operators and further variants.
use Rattle.std.proofs.Common.{◌≡◌, ℕ, suc, ◌+◌, List, [], ◌∷◌, ◌++◌, length, map, replicate, Bool, true, false, Option, Some, None, refl, sym, ap, ◌∙◌, inl, arith}
use Rattle.std.proofs.lemmas.List.{length-map, length-reverse}
use Rattle.std.specs.Prelude.{reverse, slice_get}
use Rattle.sk_base.specs.declared.choice.Variant.{Variant}
use Rattle.sk_base.specs.declared.choice.Variant.TheVariants.{Sequential}
use Rattle.sk_isa.specs.declared.object.Object.{Object}
use Rattle.sk_isa.specs.declared.object.Plan.{Plan}
use Rattle.sk_base.specs.declared.number.Ty.TheVariants.{Int}
use Rattle.sk_main_scheme.specs.MainScheme.{Emitted, main_emitted}
use Rattle.sk_safety.specs.Operators.{listed_of}
use Rattle.sk_safety.specs.Safety.{Judgements, judgement_of, judgements_after, safe_functions}
use Rattle.sk_scheme.specs.Plans.{functions_before_main, plan_of}
use Rattle.sk_scheme.specs.Scheme.{Known, codes_of, known_functions, signatures_of}
use Rattle.sk_tree.specs.Functions.{body_of}
use Rattle.sk_tree.specs.declared.tree.Function.{Function}
use Rattle.sk_tree.specs.declared.tree.Instance as tree
use Rattle.sk_tree.specs.declared.tree.ParamKind.TheVariants.{Scalar}
use Rattle.sk_typing.specs.Typing.{inputs_of}
use Rattle.sk_main_scheme.specs.Objects.{AreSomeMarks, AreSomeOperators, IsPart, IsSomePlan, AreSomePlans, StandsFor, offering, unmarked_plan, unmarked_of, object_of}
use Rattle.sk_tree.specs.declared.operator.Operator.{Operator}
use Rattle.sk_tree.specs.declared.tree.Program.{Program}

no-marks : (all : List Bool) → AreSomeMarks (map (λ mark. false) all) all
no-marks [] = tt
no-marks (one ∷ all) = ((λ is. absurd (cc is)), no-marks all)

no-operators : (all : List (Option Operator)) → AreSomeOperators (map (λ operator. None) all) all
no-operators [] = tt
no-operators (one ∷ all) = ((λ kind is. absurd (cc is)), no-operators all)

-- every plan offers to be run sequentially, and that first
unmarked-plans : (object : Object) (plans : List Plan) → AreSomePlans (map unmarked_plan (map (offering object) plans)) (map (offering object) plans)
unmarked-plans object [] = tt
unmarked-plans object (plan ∷ plans) = (
  record { same = refl; part = inl (refl, tt); sequential = (0, omega arith, refl) },
  unmarked-plans object plans,
)

-- ---- what the object of a program is without marks, operators and further variants

cleared : {A B : Type 0} (b : B) (xs : List A) (n : ℕ) → length xs ≡ n → map (λ (x : A). b) xs ≡ replicate n b
cleared {A} {B} b xs n is = all xs ∙ ap (λ k. replicate k b) is
  where
    all : (xs : List A) → map (λ (x : A). b) xs ≡ replicate (length xs) b
    all [] = refl
    all (x ∷ xs) = ap (λ l. b ∷ l) (all xs)

judged-length : (earlier : Judgements) (functions : List Function)
    → length (judgements_after earlier functions) ≡ length functions + length earlier
judged-length earlier [] = omega arith
judged-length earlier (function ∷ functions) =
    omega (arith, judged-length ((function.name, judgement_of earlier function) ∷ earlier) functions)

-- each function has a mark
pub marks-length : (functions : List Function) → length (safe_functions functions) ≡ length functions
marks-length functions =
    length-map (reverse (judgements_after [] functions)) (λ judged. judged.1.is_safe)
    ∙ length-reverse (judgements_after [] functions)
    ∙ omega (arith, judged-length [] functions)

plans-are : (known : List (List ℕ × Known)) (object : Object) (instances : List tree.Instance)
    → map unmarked_plan (map (offering object) (map (plan_of known) instances)) ≡ map (plan_of known) instances
plans-are known object [] = refl
plans-are known object (instance ∷ instances) = ap (λ l. plan_of known instance ∷ l) (plans-are known object instances)

abbrev pub unmarked_object : (functions : List Function) → (main : Emitted) → Program → (safe : List Bool) → (operators : List (Option Operator)) → List Plan → Object
unmarked_object functions main program safe operators plans = record {
  functions = codes_of functions;
  signatures = signatures_of functions ++ record { ret = Int; params = []; slots = map Scalar main.behind.slots } ∷ [];
  safe = safe;
  operators = operators;
  instances = plans;
  main = record { instrs = main.code; slots = length main.behind.slots; depth = main.depth };
  inputs = inputs_of program;
  containers = main.behind.containers;
  names = map (λ function. function.name) functions;
}

abbrev pub main_of : Program → Emitted
main_of program = main_emitted (known_functions (functions_before_main program)) (body_of (slice_get program.functions (length (functions_before_main program))))

-- the object of a program before its plans offer anything
abbrev full_object : Program → Object
full_object program =
    let functions : List Function = functions_before_main program in
    unmarked_object functions (main_of program) program (safe_functions functions) (map listed_of functions)
    (map (plan_of (known_functions functions)) (main_of program).behind.instances)

pub unmarked_stands : (program : Program) → StandsFor (unmarked_of (object_of program)) program
unmarked_stands program = record {
  same = refl;
  safe = no-marks (object_of program).safe;
  operators = no-operators (object_of program).operators;
  instances = unmarked-plans (full_object program) (full_object program).instances;
}

pub unmarked_is : (program : Program)
    → unmarked_of (object_of program)
    ≡ unmarked_object (functions_before_main program) (main_of program) program
    (replicate (length (functions_before_main program)) false) (replicate (length (functions_before_main program)) None)
    (map (plan_of (known_functions (functions_before_main program))) (main_of program).behind.instances)
unmarked_is program =
    let functions : List Function = functions_before_main program in
    let main : Emitted = main_of program in
    let n : ℕ = length functions in
    ap (λ safe. unmarked_object functions main program safe (map (λ operator. None) (map listed_of functions)) (unmarked_of (object_of program)).instances)
    (cleared false (safe_functions functions) n (marks-length functions))
    ∙ ap (λ operators. unmarked_object functions main program (replicate n false) operators (unmarked_of (object_of program)).instances)
    (cleared None (map listed_of functions) n (length-map functions listed_of))
    ∙ ap (λ plans. unmarked_object functions main program (replicate n false) (replicate n None) plans)
    (plans-are (known_functions functions) (full_object program) main.behind.instances)
