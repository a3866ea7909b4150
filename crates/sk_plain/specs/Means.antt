-- What compiled functions have in common with their source.
use Rattle.std.specs.Prelude.{◌≡◌, ℕ, List, take, Some, slice_get}
use Rattle.sk_meaning.specs.Evaluation.{Argument, apply_of, callables_of}
use Rattle.sk_tree.specs.declared.tree.Function.{Function}
use Rattle.sk_tree.specs.declared.tree.Program.{Program}
use Rattle.sk_isa.specs.Coded.{function_of}
use Rattle.sk_scheme.specs.Plans.{functions_before_main}
use Rattle.sk_scheme.specs.Scheme.{kinds_of}
use Rattle.sk_isa.specs.Soundness.{SuitParams}
use Rattle.sk_isa.specs.declared.object.Object.{Object}

-- Each function before main has, for all arguments that its parameters may be given and all turns left, the value of its
-- source beside the turns that are then left, or its first trap.
abbrev pub MeansSource : Program → Object → Type 0
MeansSource program object =
    (number : ℕ) (function : Function) → slice_get (functions_before_main program) number ≡ Some function
    → (arguments : List Argument) → SuitParams (kinds_of function.params) arguments → (turns : ℕ)
    → function_of object number arguments turns ≡ apply_of (callables_of (take number (functions_before_main program))) function arguments turns
