-- The compiled form of a whole program, and the objects that stand for it.
use Rattle.std.specs.Prelude.{◌≡◌, ◌⊎◌, ℕ, List, [], ◌∷◌, ◌++◌, length, map, Contains, true, false, Bool, Option, Some, None, slice_get}
use Rattle.sk_base.specs.declared.choice.Variant.{Variant}
use Rattle.sk_base.specs.declared.choice.Variant.TheVariants.{Sequential}
use Rattle.sk_base.specs.declared.number.Ty.TheVariants.{Int}
use Rattle.sk_isa.specs.Offers.{offers_of}
use Rattle.sk_isa.specs.declared.object.Object.{Object}
use Rattle.sk_isa.specs.declared.object.Plan.{Plan}
use Rattle.sk_main_scheme.specs.MainScheme.{Emitted, main_emitted}
use Rattle.sk_safety.specs.Operators.{listed_of}
use Rattle.sk_safety.specs.Safety.{safe_functions}
use Rattle.sk_scheme.specs.Plans.{functions_before_main, plan_of}
use Rattle.sk_scheme.specs.Scheme.{Known, codes_of, known_functions, signatures_of}
use Rattle.sk_tree.specs.Functions.{body_of}
use Rattle.sk_tree.specs.declared.operator.Operator.{Operator}
use Rattle.sk_tree.specs.declared.tree.Function.{Function}
use Rattle.sk_tree.specs.declared.tree.ParamKind.TheVariants.{Scalar}
use Rattle.sk_tree.specs.declared.tree.Program.{Program}
use Rattle.sk_typing.specs.Typing.{inputs_of}

-- an instance with the variants that may run its calls, which depend on the marks of the object
abbrev pub offering : Object → Plan → Plan
offering object plan = record plan { variants = offers_of object plan }

abbrev pub all_offering : Object → Object
all_offering object = record object { instances = map (offering object) object.instances }

-- The functions of a program with their codes and marks, its instances with their variants, and the code of main. Functions,
-- containers and instances are numbered in text order.
abbrev pub object_of : Program → Object
object_of program =
    let functions : List Function = functions_before_main program in
    let known : List (List ℕ × Known) = known_functions functions in
    let main : Emitted = main_emitted known (body_of (slice_get program.functions (length functions))) in
    all_offering (record {
      functions = codes_of functions;
      signatures = signatures_of functions ++ record { ret = Int; params = []; slots = map Scalar main.behind.slots } ∷ [];
      safe = safe_functions functions;
      operators = map listed_of functions;
      instances = map (plan_of known) main.behind.instances;
      main = record { instrs = main.code; slots = length main.behind.slots; depth = main.depth };
      inputs = inputs_of program;
      containers = main.behind.containers;
      names = map (λ function. function.name) functions;
    })

-- an object without marks and operators, each of whose plans is run sequentially alone
abbrev pub unmarked_plan : Plan → Plan
unmarked_plan plan = record plan { variants = Sequential ∷ [] }

abbrev pub unmarked_of : Object → Object
unmarked_of object = record object {
  safe = map (λ mark. false) object.safe;
  operators = map (λ operator. None) object.operators;
  instances = map unmarked_plan object.instances;
}

-- a mark may be missing
abbrev pub AreSomeMarks : (marks all : List Bool) → Type 0
AreSomeMarks [] [] = Unit {0}
AreSomeMarks [] (one ∷ all) = ⊥
AreSomeMarks (mark ∷ marks) [] = ⊥
AreSomeMarks (mark ∷ marks) (one ∷ all) = (mark ≡ true → one ≡ true) × AreSomeMarks marks all

-- an operator may be missing
abbrev pub AreSomeOperators : (operators all : List (Option Operator)) → Type 0
AreSomeOperators [] [] = Unit {0}
AreSomeOperators [] (one ∷ all) = ⊥
AreSomeOperators (operator ∷ operators) [] = ⊥
AreSomeOperators (operator ∷ operators) (one ∷ all) =
    ((kind : Operator) → operator ≡ Some kind → one ≡ Some kind) × AreSomeOperators operators all

-- the first list is the second one with some left out
abbrev pub IsPart : (variants all : List Variant) → Type 0
IsPart [] all = Unit {0}
IsPart (variant ∷ variants) [] = ⊥
IsPart (variant ∷ variants) (one ∷ all) = ((variant ≡ one) × IsPart variants all) ⊎ IsPart (variant ∷ variants) all

-- variants other than the sequential one may be missing
pub record IsSomePlan (plan all : Plan) : Type 0 where
  pub same : record plan { variants = all.variants } ≡ all
  pub part : IsPart plan.variants all.variants
  pub sequential : Contains plan.variants Sequential

abbrev pub AreSomePlans : (plans all : List Plan) → Type 0
AreSomePlans [] [] = Unit {0}
AreSomePlans [] (one ∷ all) = ⊥
AreSomePlans (plan ∷ plans) [] = ⊥
AreSomePlans (plan ∷ plans) (one ∷ all) = IsSomePlan plan one × AreSomePlans plans all

-- The object is that of the program, but that some of its marks, operators and variants may be missing.
pub record StandsFor (object : Object) (program : Program) : Type 0 where
  pub same : record object {
    safe = (object_of program).safe;
    operators = (object_of program).operators;
    instances = (object_of program).instances;
  } ≡ object_of program
  pub safe : AreSomeMarks object.safe (object_of program).safe
  pub operators : AreSomeOperators object.operators (object_of program).operators
  pub instances : AreSomePlans object.instances (object_of program).instances

-- Without marks, operators and further variants the object of a program stands for it.
abbrev pub UnmarkedObjectsStand : Type 0
UnmarkedObjectsStand = (program : Program) → StandsFor (unmarked_of (object_of program)) program
