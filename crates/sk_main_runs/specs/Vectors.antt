-- Programs of vectors: user functions take scalars alone, instances are Maps, and containers take no input.
use Rattle.std.specs.Prelude.{◌≡◌, ℕ, Bool, true, List, length, Some, slice_get}
use Rattle.std.specs.List.{list_all}
use Rattle.sk_isa.specs.Objects.{function_at, is_marked, signature_at}
use Rattle.sk_isa.specs.declared.object.Object.{Object}
use Rattle.sk_isa.specs.declared.object.Plan.{Plan}
use Rattle.sk_main_code.specs.MainSoundness.{names_in_main}
use Rattle.sk_main_code.specs.MainSteps.{coded_of}
use Rattle.sk_main_fits.specs.Mains.{known_in, main_of}
use Rattle.sk_main_fits.specs.Vectors.{IsOfVectors}
use Rattle.sk_main_run.specs.MainRun.{run_of_program}
use Rattle.sk_main_runs.specs.RunsAlike.{IsOver, judgements_in}
use Rattle.sk_main_scheme.specs.Objects.{object_of}
use Rattle.sk_names.specs.Bindings.{bound_to}
use Rattle.sk_plain.specs.Means.{MeansSource}
use Rattle.sk_safety.specs.Safety.{safe_in}
use Rattle.sk_scheme.specs.Plans.{functions_before_main, functions_object}
use Rattle.sk_scheme.specs.Scheme.{Known, kinds_of}
use Rattle.sk_tree.specs.Skeletons.{elements_of}
use Rattle.sk_tree.specs.declared.tree.Function.{Function}
use Rattle.sk_tree.specs.declared.tree.Instance as instances
use Rattle.sk_tree.specs.declared.tree.Program.{Program}
use Rattle.sk_world.specs.World.{Input}

-- the object's functions have the parameters and the types of the program's
pub record HasSignatures (object : Object) (program : Program) : Type 0 where
  pub each : (number : ℕ) (function : Function) → slice_get (functions_before_main program) number ≡ Some function
      → ((signature_at object number).params ≡ kinds_of function.params) × ((signature_at object number).ret ≡ function.ret)

-- an instance of the object is the one that is declared, with the mark of its function
pub record IsPlanOf (object : Object) (program : Program) (number : ℕ) (instance : instances.Instance) : Type 0 where
  pub plan : Plan
  pub there : slice_get object.instances number ≡ Some plan
  pub skeleton : plan.skeleton ≡ instance.skeleton
  pub function : (name : List ℕ) (known : Known) → slice_get instance.functions 0 ≡ Some name → bound_to name (known_in program) ≡ Some known
      → (function_at plan 0 ≡ known.number) × (plan.elements ≡ elements_of instance.skeleton instance.numbers known.kinds)
      × ((signature_at object known.number).params ≡ known.kinds) × ((signature_at object known.number).ret ≡ known.ret)
  pub safe : list_all (is_marked object) plan.functions ≡ list_all (safe_in (judgements_in program)) instance.functions

-- The object has the program's functions, instances and main, with all marks, and what main's code names is there.
pub record IsCompiledFrom (program : Program) (object : Object) : Type 0 where
  pub code : object.main.instrs ≡ (main_of program).code
  pub slots : object.main.slots ≡ length (main_of program).behind.slots
  pub containers : object.containers ≡ (main_of program).behind.containers
  pub names : list_all (names_in_main object) object.main.instrs ≡ true
  pub means : MeansSource program object
  pub signatures : HasSignatures object program
  pub plans : (number : ℕ) (instance : instances.Instance) → slice_get (main_of program).behind.instances number ≡ Some instance → IsPlanOf object program number instance

-- The run of the object of a program of vectors is that of the program, events included, wherever it is over.
abbrev pub VectorsRunAsSource : Type 0
VectorsRunAsSource = (program : Program) (object : Object) → IsOfVectors program → IsCompiledFrom program object → (inputs : List Input) (bound : ℕ) (dump : Bool)
    → IsOver object inputs bound → coded_of object inputs bound dump ≡ run_of_program program inputs bound dump

-- The compiled form of a program of vectors runs as the program, events included, wherever its run is over, if its functions
-- mean what their sources mean and what main's code names is there.
abbrev pub CompiledVectorsRunAsSource : Type 0
CompiledVectorsRunAsSource = (program : Program) → IsOfVectors program → MeansSource program (object_of program)
    → list_all (names_in_main (object_of program)) (object_of program).main.instrs ≡ true → (inputs : List Input) (bound : ℕ) (dump : Bool)
    → IsOver (object_of program) inputs bound → coded_of (object_of program) inputs bound dump ≡ run_of_program program inputs bound dump

-- Where the functions of a program mean what their sources mean, they do in the object that the whole program is compiled to.
abbrev pub FunctionsMeanAlike : Type 0
FunctionsMeanAlike = (program : Program) → MeansSource program (functions_object program) → MeansSource program (object_of program)
