-- What main of a program declares, and the object that stands for the program has.
use Rattle.std.proofs.Common.{◌≡◌, ◌∙◌, ℕ, zero, suc, ◌-◌, true, List, [], ◌∷◌, length, map, take, append-nil, refl, ap, arith}
use Rattle.std.proofs.lemmas.Bool.{and_from}
use Rattle.std.proofs.lemmas.List.{length-take-le}
use Rattle.std.specs.Prelude.{slice_get}
use Rattle.std.specs.List.{list_all}
use Rattle.sk_isa.specs.declared.code.Instr.TheVariants as instr
use Rattle.sk_isa.specs.declared.object.Object.{Object}
use Rattle.sk_main_code.specs.Sound.{is_short_name}
use Rattle.sk_main_fits.specs.Mains.{known_in, main_body, main_of}
use Rattle.sk_main_scheme.specs.MainScheme.{Emitted, all_emitted, emitting_of, main_emitted, only_code}
use Rattle.sk_main_scheme.proofs.UnmarkedObjects.{unmarked_object, main_of as placed_main}
use Rattle.sk_main_scheme.specs.Objects.{StandsFor, object_of, offering}
use Rattle.sk_plain.proofs.Truths.{and_left, and_right}
use Rattle.sk_safety.specs.Operators.{listed_of}
use Rattle.sk_safety.specs.Safety.{safe_functions}
use Rattle.sk_scheme.specs.Plans.{functions_before_main, plan_of}
use Rattle.sk_scheme.specs.Scheme.{Known, known_functions}
use Rattle.sk_tree.specs.Functions.{body_of}
use Rattle.sk_tree.specs.declared.tree.Function.{Function}
use Rattle.sk_tree.specs.declared.tree.Program.{Program}
use Rattle.sk_tree.specs.declared.tree.Statement.{Statement}
use Rattle.sk_vector_laws.proofs.Codes.{PrintsShortly, prints_one}
use Rattle.sk_vector_laws.proofs.Emission.{Held, all_held, held_of, nothing_held, only_holds, statements_hold, then_holds}
use Rattle.sk_vector_laws.specs.Names.{IsNamedShortly, is_named_shortly, names_shortly}

pub record DeclaresHeld (emitted : Emitted) (held : Held) : Type 0 where
  pub containers : emitted.behind.containers ≡ held.containers
  pub instances : emitted.behind.instances ≡ held.instances
  pub texts : PrintsShortly emitted.code

emitted_holds : (known : List (List ℕ × Known)) (body : List Statement) → list_all names_shortly body ≡ true → DeclaresHeld (main_emitted known body) (all_held (map held_of body))
emitted_holds known body short =
    let held : Held = all_held (map held_of body) in
    let x = then_holds (all_emitted (map emitting_of body)) (λ known standing. only_code (instr.Halt ∷ []) 0 standing) held nothing_held (statements_hold body short)
    (λ known standing. only_holds (instr.Halt ∷ []) 0 standing (prints_one instr.Halt refl)) known (record { at = 0; scope = []; slots = []; containers = []; instances = [] }) in
    record {
      containers = x.containers ∙ append-nil held.containers;
      instances = x.instances ∙ append-nil held.instances;
      texts = x.texts;
    }

-- ---- the bodies of functions that name shortly

pub body_named : (functions : List Function) (k : ℕ) → list_all is_named_shortly functions ≡ true → list_all names_shortly (body_of (slice_get functions k)) ≡ true
body_named [] k e = refl
body_named (function ∷ functions) zero e =
    and_right (is_short_name function.name) (list_all names_shortly function.body) (and_left (is_named_shortly function) (list_all is_named_shortly functions) e)
body_named (function ∷ functions) (suc k) e = body_named functions k (and_right (is_named_shortly function) (list_all is_named_shortly functions) e)

pub names_named : (functions : List Function) (k : ℕ) → list_all is_named_shortly functions ≡ true → list_all is_short_name (map (λ (function : Function). function.name) (take k functions)) ≡ true
names_named functions zero e = refl
names_named [] (suc k) e = refl
names_named (function ∷ functions) (suc k) e =
    and_from (is_short_name function.name) (list_all is_short_name (map (λ (function : Function). function.name) (take k functions)))
    (and_left (is_short_name function.name) (list_all names_shortly function.body) (and_left (is_named_shortly function) (list_all is_named_shortly functions) e))
    (names_named functions k (and_right (is_named_shortly function) (list_all is_named_shortly functions) e))

-- ---- main of a program

pub main_holds : (program : Program) → IsNamedShortly program → DeclaresHeld (main_of program) (all_held (map held_of (main_body program)))
main_holds program short = emitted_holds (known_in program) (main_body program) (body_named program.functions (length program.functions - 1) short)

pub count_is : (program : Program) → length (functions_before_main program) ≡ length program.functions - 1
count_is program = length-take-le (length program.functions - 1) program.functions (omega arith)

-- main by its place among the functions
pub main_is : (program : Program) → placed_main program ≡ main_of program
main_is program = ap (λ n. main_emitted (known_functions (functions_before_main program)) (body_of (slice_get program.functions n))) (count_is program)

-- the object of a program before its plans offer anything
abbrev pub full_object : Program → Object
full_object program =
    let functions : List Function = functions_before_main program in
    unmarked_object functions (placed_main program) program (safe_functions functions) (map listed_of functions) (map (plan_of (known_functions functions)) (placed_main program).behind.instances)

-- its plans, each with what the marks offer
pub plans_are : (program : Program) → (object_of program).instances ≡ map (offering (full_object program)) (map (plan_of (known_in program)) (placed_main program).behind.instances)
plans_are program = refl

-- an object that stands for a program has its containers and its code
module _ (program : Program) (object : Object) (stands : StandsFor object program) where
  pub containers_are : object.containers ≡ (main_of program).behind.containers
  containers_are = ap (λ (o : Object). o.containers) stands.same ∙ ap (λ (e : Emitted). e.behind.containers) (main_is program)

  pub code_is : object.main.instrs ≡ (main_of program).code
  code_is = ap (λ (o : Object). o.main.instrs) stands.same ∙ ap (λ (e : Emitted). e.code) (main_is program)
