-- The compiled form of a program whose functions alone are compiled.
use Rattle.std.specs.Prelude.{ℕ, ◌-◌, List, [], ◌∷◌, ◌++◌, length, take, map, replicate, false, Option, Some, None, slice_get}
use Rattle.sk_base.specs.declared.number.Ty.TheVariants.{Int}
use Rattle.sk_base.specs.declared.choice.Variant.TheVariants.{Sequential}
use Rattle.sk_names.specs.Bindings.{bound_to}
use Rattle.sk_tree.specs.Functions.{body_of}
use Rattle.sk_tree.specs.Skeletons.{elements_of}
use Rattle.sk_tree.specs.declared.tree.Function.{Function}
use Rattle.sk_tree.specs.declared.tree.Instance.{Instance}
use Rattle.sk_tree.specs.declared.tree.ParamKind.{ParamKind}
use Rattle.sk_tree.specs.declared.tree.Program.{Program}
use Rattle.sk_tree.specs.declared.tree.Statement.{Statement}
use Rattle.sk_tree.specs.declared.tree.What.{What}
use Rattle.sk_tree.specs.declared.tree.What.TheVariants as statement
use Rattle.sk_scheme.specs.Scheme.{Known, known_functions, codes_of, signatures_of}
use Rattle.sk_isa.specs.declared.code.Code.{Code}
use Rattle.sk_isa.specs.declared.object.Object.{Object}
use Rattle.sk_isa.specs.declared.object.Plan.{Plan}
use Rattle.sk_isa.specs.declared.object.Signature.{Signature}

-- the numbers of functions, by their names
abbrev pub numbers_of : List (List ℕ × Known) → List (List ℕ) → List ℕ
numbers_of known [] = []
numbers_of known (name ∷ names) = elim (bound_to name known) [
  | Some function ↦ function.number ∷ numbers_of known names
  | None ↦ numbers_of known names
]

-- the kinds of the first function's parameters, and none where it is not there
abbrev pub first_kinds : List (List ℕ × Known) → List (List ℕ) → List ParamKind
first_kinds known [] = []
first_kinds known (name ∷ names) = elim (bound_to name known) [ Some function ↦ function.kinds | None ↦ [] ]

-- an instance that is run sequentially alone
abbrev pub plan_of : List (List ℕ × Known) → Instance → Plan
plan_of known instance = record {
  name = instance.name;
  skeleton = instance.skeleton;
  functions = numbers_of known instance.functions;
  elements = elements_of instance.skeleton instance.numbers (first_kinds known instance.functions);
  variants = Sequential ∷ [];
}

-- the instance that a statement declares, if any
abbrev pub instance_in : What → Option Instance
instance_in (statement.Instance instance) = Some instance
instance_in what = None

-- the instances that statements declare, in text order
abbrev pub plans_in : List (List ℕ × Known) → List Statement → List Plan
plans_in known [] = []
plans_in known (first ∷ rest) = elim (instance_in first.what) [
  | Some instance ↦ plan_of known instance ∷ plans_in known rest
  | None ↦ plans_in known rest
]

abbrev pub main_signature : Signature
main_signature = record { ret = Int; params = []; slots = [] }

abbrev pub no_code : Code
no_code = record { instrs = []; slots = 0; depth = 0 }

-- the functions before main, which is the last one
abbrev pub functions_before_main : Program → List Function
functions_before_main program = take (length program.functions - 1) program.functions

-- The functions of a program with their codes, none of them marked, and the instances of its main, which has neither code
-- nor containers yet.
abbrev pub functions_object : Program → Object
functions_object program =
    let functions : List Function = functions_before_main program in
    record {
      functions = codes_of functions;
      signatures = signatures_of functions ++ main_signature ∷ [];
      safe = replicate (length functions) false;
      operators = replicate (length functions) None;
      instances = plans_in (known_functions functions) (body_of (slice_get program.functions (length functions)));
      main = no_code;
      inputs = [];
      containers = [];
      names = map (λ function. function.name) functions;
    }
