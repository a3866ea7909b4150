-- Main and the whole program are written.
use Rattle.std.proofs.Common.{◌≡◌, ℕ, List, [], ◌∷◌, ◌++◌, length, map, replicate, Bool, false, Option, None, refl, sym, ap, ◌∙◌, arith}
use Rattle.std.proofs.lemmas.Simd.{map-map}
use Rattle.std.specs.Borrow.{Bor}
use Rattle.sk_base.specs.declared.number.Ty.TheVariants.{Int}
use Rattle.sk_isa.specs.declared.code.Code.{Code}
use Rattle.sk_isa.specs.declared.code.Instr.{Instr}
use Rattle.sk_isa.specs.declared.code.Instr.TheVariants as instr
use Rattle.sk_isa.specs.declared.object.Object.{Object}
use Rattle.sk_isa.specs.declared.object.Plan.{Plan}
use Rattle.sk_isa.specs.declared.object.Signature.{Signature}
use Rattle.sk_main_scheme.proofs.UnmarkedObjects.{unmarked_is, main_of}
use Rattle.sk_main_scheme.specs.MainScheme.{Around, Emitting, Emitted, Standing, emitting_of, all_emitted, then_emitted, only_code, main_emitted}
use Rattle.sk_main_scheme.specs.Objects.{unmarked_of, object_of}
use Rattle.sk_main_emitter.specs.declared.writer.Writer.{Writer}
use Rattle.sk_main_emitter.specs.Written.{Writes, IsMain, code_of_main, signature_of_main, standing_of}
use Rattle.sk_main_emitter.proofs.MainWriters.{Keeps, standing_as, emitted_as, writes_code, writes_then}
use Rattle.sk_scheme.specs.Plans.{functions_before_main, plan_of}
use Rattle.sk_scheme.specs.Scheme.{Known, codes_of, known_functions, signatures_of}
use Rattle.sk_tree.specs.declared.declared.Declared.{Declared}
use Rattle.sk_tree.specs.declared.operator.Operator.{Operator}
use Rattle.sk_tree.specs.declared.tree.Instance as tree
use Rattle.sk_tree.specs.declared.tree.ParamKind.{ParamKind}
use Rattle.sk_tree.specs.declared.tree.Program.{Program}
use Rattle.sk_tree.specs.declared.tree.Statement.{Statement}
use Rattle.sk_typing.specs.Typing.{inputs_of}

-- the end of main
abbrev halting : Emitting
halting known standing = only_code (instr.Halt ∷ []) 0 standing

pub main_written : (functions : List (List ℕ × Known)) (body : List Statement) (first last done : Writer) (depth : ℕ)
    → Writes (all_emitted (map emitting_of body)) first last depth
    → done.code.items ≡ last.code.items ++ instr.Halt ∷ [] → Keeps last done
    → first.names ≡ record { functions = functions; scope = [] }
    → first.code.items ≡ [] → first.slots.items ≡ [] → first.containers ≡ [] → first.instances.items ≡ []
    → IsMain functions body done depth
main_written functions body first last done depth writes halt keeps names code slots containers instances =
    let whole : Emitting = then_emitted (all_emitted (map emitting_of body)) halting in
    let ends : Writes halting last done 0 = writes_code halting last done (instr.Halt ∷ []) 0 0 refl halt keeps refl in
    let all : Writes whole first done depth =
    writes_then (all_emitted (map emitting_of body)) halting first last done depth 0 depth writes ends (omega arith) in
    let start : Standing = record { at = 0; scope = []; slots = []; containers = []; instances = [] } in
    let same : whole first.names.functions (standing_of first) ≡ main_emitted functions body =
    emitted_as whole first.names.functions functions (standing_of first) start (ap (λ (around : Around). around.functions) names)
    (standing_as first 0 [] [] [] [] (ap length code) (ap (λ (around : Around). around.scope) names) slots containers
    (ap (map (λ instance. instance.now)) instances)) in
    record {
      code = all.code ∙ ap (λ l. l ++ (whole first.names.functions (standing_of first)).code) code ∙ ap (λ (e : Emitted). e.code) same;
      functions_are = all.functions ∙ ap (λ (around : Around). around.functions) names;
      behind = all.behind ∙ ap (λ (e : Emitted). e.behind) same;
      depth_is = all.depth_is ∙ ap (λ (e : Emitted). e.depth) same;
    }

abbrev code_made : (instrs : List Instr) → (slots depth : ℕ) → Code
code_made instrs slots depth = record { instrs = instrs; slots = slots; depth = depth }

abbrev made : List Code → List Signature → List Bool → List (Option Operator) → List Plan → Code → List Declared → List Declared → List (List ℕ) → Object
made functions signatures safe operators instances main inputs containers names = record {
  functions = functions;
  signatures = signatures;
  safe = safe;
  operators = operators;
  instances = instances;
  main = main;
  inputs = inputs;
  containers = containers;
  names = names;
}

made-same : (functions functions' : List Code) (signatures signatures' : List Signature) (safe safe' : List Bool)
    (operators operators' : List (Option Operator)) (instances instances' : List Plan) (main main' : Code)
    (inputs inputs' containers containers' : List Declared) (names names' : List (List ℕ))
    → functions ≡ functions' → signatures ≡ signatures' → safe ≡ safe' → operators ≡ operators' → instances ≡ instances' → main ≡ main'
    → inputs ≡ inputs' → containers ≡ containers' → names ≡ names'
    → made functions signatures safe operators instances main inputs containers names
    ≡ made functions' signatures' safe' operators' instances' main' inputs' containers' names'
made-same f f' s s' b b' o o' p p' m m' i i' c c' n n' e1 e2 e3 e4 e5 e6 e7 e8 e9 = cc

abbrev pub signature_with : (slots : List ParamKind) → Signature
signature_with slots = record { ret = Int; params = []; slots = slots }

pub code_same : (instrs instrs' : List Instr) (slots slots' depth depth' : ℕ) → instrs ≡ instrs' → slots ≡ slots' → depth ≡ depth'
    → code_made instrs slots depth ≡ code_made instrs' slots' depth'
code_same i i' s s' d d' e1 e2 e3 = cc

-- what is made of instances that are lent
pub plans_are : {X : Type 0} (f g : tree.Instance → X) (lent : List (Bor tree.Instance)) (instances : List tree.Instance) (made : List X)
    → made ≡ map (λ instance. f instance.now) lent → f ≡ g → map (λ instance. instance.now) lent ≡ instances → made ≡ map g instances
plans_are {X} f g lent instances made is same are =
    is ∙ sym (map-map f (λ instance. instance.now) lent) ∙ ap (λ (h : tree.Instance → X). map h (map (λ instance. instance.now) lent)) same
    ∙ ap (map g) are

pub object_is : (program : Program) (object : Object)
    → object.functions ≡ codes_of (functions_before_main program)
    → object.signatures ≡ signatures_of (functions_before_main program) ++ signature_of_main (main_of program) ∷ []
    → object.safe ≡ replicate (length (functions_before_main program)) false
    → object.operators ≡ replicate (length (functions_before_main program)) None
    → object.instances ≡ map (plan_of (known_functions (functions_before_main program))) (main_of program).behind.instances
    → object.main ≡ code_of_main (main_of program)
    → object.inputs ≡ inputs_of program
    → object.containers ≡ (main_of program).behind.containers
    → object.names ≡ map (λ function. function.name) (functions_before_main program)
    → object ≡ unmarked_of (object_of program)
object_is program object e1 e2 e3 e4 e5 e6 e7 e8 e9 =
    made-same object.functions _ object.signatures _ object.safe _ object.operators _ object.instances _ object.main _ object.inputs _
    object.containers _ object.names _ e1 e2 e3 e4 e5 e6 e7 e8 e9
    ∙ sym (unmarked_is program)
