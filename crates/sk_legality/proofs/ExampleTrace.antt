-- A trace of a recorded Map whose second tile alone is computed, for the element that is read.
use Rattle.std.proofs.Common.{List, [], ◌∷◌, ◌++◌, Some, None, true, pos, codes}
use Rattle.sk_base.specs.declared.choice.EdgeMode.TheVariants.{Duplicate}
use Rattle.sk_base.specs.declared.choice.Variant.TheVariants.{Sequential, Chunked, Cluster}
use Rattle.sk_base.specs.declared.number.Op.TheVariants.{Add}
use Rattle.sk_base.specs.declared.number.Ty.TheVariants.{Int}
use Rattle.sk_isa.specs.declared.code.Code.{Code}
use Rattle.sk_isa.specs.declared.code.Instr.TheVariants.{Push, Load, Binary, Ret}
use Rattle.sk_isa.specs.declared.object.Object.{Object}
use Rattle.sk_isa.specs.declared.object.Plan.{Plan}
use Rattle.sk_spaces.specs.declared.step.CallMode.TheVariants.{Absent}
use Rattle.sk_spaces.specs.declared.step.KernelKind.TheVariants.{Element}
use Rattle.sk_spaces.specs.declared.step.Step.{Step}
use Rattle.sk_spaces.specs.declared.step.Step.TheVariants as line
use Rattle.sk_tree.specs.declared.tree.ParamKind.TheVariants.{Scalar}
use Rattle.sk_tree.specs.declared.tree.Skeleton.TheVariants.{Map}

-- int inc(int a) { return a + 1; }
abbrev pub increment : Code
increment = record { instrs = Load 0 ∷ Push (pos 1) ∷ Binary Add Int ∷ Ret ∷ []; slots = 1; depth = 2 }

-- auto m = skepu::Map(inc);
abbrev pub increments : Plan
increments = record {
  name = codes "m";
  skeleton = Map;
  functions = 0 ∷ [];
  elements = 1;
  variants = Sequential ∷ Chunked ∷ Cluster ∷ [];
}

-- the program of these two; main's code, at which no trace looks, is left out
abbrev pub incrementing : Object
incrementing = record {
  functions = increment ∷ [];
  signatures = record { ret = Int; params = Scalar Int ∷ []; slots = Scalar Int ∷ [] } ∷ record { ret = Int; params = []; slots = [] } ∷ [];
  safe = true ∷ [];
  operators = None ∷ [];
  instances = increments ∷ [];
  main = record { instrs = []; slots = 0; depth = 0 };
  inputs = [];
  containers = record { name = codes "a"; kind = 1; ty = Int } ∷ [];
  names = codes "inc" ∷ [];
}

-- a vector of two fives
abbrev pub made : List Step
made = line.Memory 1 67108864 1 1024 ∷ line.Store 0 Int (2 ∷ []) ∷ line.Alloc 0 0 0 0 2 ∷ []

abbrev pub filled : Step
filled = line.Fill 0 0 2 (pos 5)

-- the call, and the kernel of its second tile
abbrev pub called : Step
called = line.Call 0 4 0 Sequential 1 true (Some 1) (0 ∷ []) []
    (record { mode = Absent; overlap = (0, 0); edge = Duplicate; pad = pos 0; start = None })

abbrev pub bound_and_called : List Step
bound_and_called = line.Bind 0 0 ∷ line.Store 1 Int (2 ∷ []) ∷ called ∷ line.Bind 0 1 ∷ line.Alloc 1 1 0 1 2 ∷ []

abbrev pub computed : Step
computed = line.Kernel 0 Element 1 1 2 1 None (0 ∷ [])

abbrev pub retired_and_read : List Step
retired_and_read = line.Stale 0 1 2 ∷ line.Read 1 1 2 ∷ []

abbrev pub whole : List Step
whole = made ++ filled ∷ bound_and_called ++ computed ∷ retired_and_read

-- the same without the line that fills the vector
abbrev pub unfilled : List Step
unfilled = made ++ bound_and_called ++ computed ∷ retired_and_read
