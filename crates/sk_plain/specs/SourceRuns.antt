-- What the run of a compiled function's code has in common with its source.
use Rattle.std.specs.Prelude.{◌≡◌, ℕ, List, take, Some, slice_get}
use Rattle.sk_meaning.specs.Evaluation.{Argument, apply_of, callables_of}
use Rattle.sk_tree.specs.declared.tree.Function.{Function}
use Rattle.sk_tree.specs.declared.tree.Program.{Program}
use Rattle.sk_isa.specs.Configurations.{Ended}
use Rattle.sk_isa.specs.Coded.{callees_below, outcome_of, routine_of, start_of}
use Rattle.sk_scheme.specs.Plans.{functions_before_main, functions_object}
use Rattle.sk_scheme.specs.Scheme.{kinds_of}
use Rattle.sk_isa.specs.Soundness.{SuitParams}
use Rattle.sk_isa.specs.declared.code.Code.{Code}
use Rattle.sk_isa.specs.declared.object.Object.{Object}

-- The run of the code of a number ends with the value of a function of the program that has this number, beside the turns
-- that are then left, or with its first trap.
pub record EndsAsSource (object : Object) (program : Program) (number : ℕ) (function : Function) (arguments : List Argument) (turns : ℕ) : Type 0 where
  pub code : Code
  pub found : slice_get object.functions number ≡ Some code
  pub steps : ℕ
  pub outcome : outcome_of (routine_of (callees_below object.signatures object.functions number) code arguments) steps (start_of code arguments turns)
      ≡ Ended (apply_of (callables_of (take number (functions_before_main program))) function arguments turns)

-- The run of the code of each function before main, for all arguments that its parameters may be given and all turns left,
-- ends with the value of its source.
abbrev pub RunsAsSource : Program → Type 0
RunsAsSource program =
    (number : ℕ) (function : Function) → slice_get (functions_before_main program) number ≡ Some function
    → (arguments : List Argument) → SuitParams (kinds_of function.params) arguments → (turns : ℕ)
    → EndsAsSource (functions_object program) program number function arguments turns
