-- The faults of a program's names and types.
use Rattle.std.specs.Prelude.{◌≡◌, ℕ, suc, ◌-◌, Bool, true, false, ◌&&◌, ◌||◌, if◌then◌else◌, List, [], ◌∷◌, ◌++◌, map, length, take, Option, Some, None, codes, slice_get, flat_map}
use Rattle.std.specs.List.{list_any}
use Rattle.sk_base.specs.declared.number.Ty.TheVariants.{Int}
use Rattle.sk_typing.specs.Inputs.{Taken, taken_of, distinct_after, input_faults_after}
use Rattle.sk_names.specs.Bytes.{same_bytes}
use Rattle.sk_typing.specs.TypingFaults.{least_of}
use Rattle.sk_typing.specs.TypingNames.{Knowns, Around, unless, twice_faults}
use Rattle.sk_tree.specs.Functions.{kinds_of}
use Rattle.sk_tree.specs.Parameters.{are_ordered, same_type}
use Rattle.sk_typing.specs.TypingStatements.{Walked, in_order, walking_of, block_returns}
use Rattle.sk_tree.specs.declared.declared.Declared.{Declared}
use Rattle.sk_typing.specs.declared.names.Fault.{Fault}
use Rattle.sk_typing.specs.declared.names.Fault.TheVariants.{NoMain}
use Rattle.sk_typing.specs.declared.names.FaultKind.TheVariants.{Mismatch, NoReturn}
use Rattle.sk_typing.specs.declared.names.Known.TheVariants.{Variable, Function as FunctionName}
use Rattle.sk_tree.specs.declared.tree.Function.{Function}
use Rattle.sk_tree.specs.declared.tree.Param.{Param}
use Rattle.sk_tree.specs.declared.tree.Program.{Program}
use Rattle.sk_tree.specs.declared.tree.Statement.{Statement}

abbrev pub is_named_main : Function → Bool
is_named_main function = same_bytes function.name (codes "main")

abbrev pub has_no_parameters : List Param → Bool
has_no_parameters [] = true
has_no_parameters (param ∷ params) = false

-- `int main()`
abbrev pub is_main_header : Function → Bool
is_main_header function = is_named_main function && same_type function.ret Int && has_no_parameters function.params

-- main is the last function where that is `int main()`; every other function is a user function.
abbrev pub is_main : Function → (behind : List Function) → Bool
is_main function [] = is_main_header function
is_main function (next ∷ more) = false

-- Parameters are in scope in their function.
abbrev pub params_walked : Around → Knowns → List Param → Walked
params_walked around names [] = record { faults = []; names = names }
params_walked around names (param ∷ params) =
    let walked : Walked = params_walked around ((param.name, Variable param.kind) ∷ names) params in
    record { faults = twice_faults around names param.name ++ walked.faults; names = walked.names }

-- The faults of a function's header and body, where its name is in scope. A user function returns.
abbrev pub body_faults : Around → Knowns → Function → List Fault
body_faults around names function =
    let params : Walked = params_walked around names function.params in
    params.faults
    ++ unless (are_ordered (kinds_of function)) around Mismatch
    ++ (in_order (map walking_of function.body) around params.names).faults
    ++ unless (around.in_main || block_returns function.body) around NoReturn

-- The faults of functions from a number on. A function's name is in scope from its header on.
abbrev pub functions_faults : (all : List Function) → (number : ℕ) → Knowns → List Function → List Fault
functions_faults all number names [] = []
functions_faults all number names (function ∷ functions) =
    let around : Around = record {
      functions = all;
      number = number;
      in_main = is_main function functions;
      outermost = true;
      line = function.line;
    } in
    let within : Knowns = (function.name, FunctionName number) ∷ names in
    twice_faults around names function.name
    ++ body_faults around within function
    ++ functions_faults all (suc number) within functions

-- the functions before the last one
abbrev pub earlier_functions : List Function → List Function
earlier_functions functions = take (length functions - 1) functions

abbrev pub last_function : List Function → Option Function
last_function functions = slice_get functions (length functions - 1)

-- main, if there is one
abbrev pub main_of : Program → Option Function
main_of program = elim (last_function program.functions) [
  | Some function ↦ if is_main_header function then Some function else None
  | None ↦ None
]

abbrev pub main_body : Program → List Statement
main_body program = elim (main_of program) [ Some function ↦ function.body | None ↦ [] ]

-- the containers of main that take an input, in text order
abbrev pub all_taken : Program → List Taken
all_taken program = flat_map taken_of (main_body program)

-- the inputs of a program: each name once, in the text order of its first declaration
abbrev pub inputs_of : Program → List Declared
inputs_of program = distinct_after [] (all_taken program)

-- The last function is not `int main()`, or an earlier one is named main.
abbrev pub main_faults : Program → List Fault
main_faults program = elim (main_of program) [
  | Some function ↦ if list_any is_named_main (earlier_functions program.functions) then NoMain ∷ [] else []
  | None ↦ NoMain ∷ []
]

-- all faults of a program
abbrev pub faults_of : Program → List Fault
faults_of program =
    functions_faults program.functions 0 [] program.functions
    ++ input_faults_after [] (all_taken program)
    ++ main_faults program

-- a program without a fault
abbrev pub IsTyped : Program → Type 0
IsTyped program = faults_of program ≡ []

-- the fault that is told
abbrev pub least_fault : Program → Option Fault
least_fault program = least_of (faults_of program)
