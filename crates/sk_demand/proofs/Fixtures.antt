-- A compiled program, tables and events of which the worked examples are made.
use Rattle.std.specs.Prelude.{ℕ, true, false, List, [], ◌∷◌, Some, codes}
use Rattle.sk_base.specs.declared.choice.Variant.TheVariants.{Sequential, Chunked, Cluster}
use Rattle.sk_base.specs.declared.number.Ty.TheVariants.{Int}
use Rattle.sk_isa.specs.declared.object.Object.{Object}
use Rattle.sk_isa.specs.declared.object.Plan.{Plan}
use Rattle.sk_select.specs.declared.tuning.Tuning.{Tuning}
use Rattle.sk_tree.specs.InstanceSettings.{default_settings}
use Rattle.sk_tree.specs.declared.declared.Declared.{Declared}
use Rattle.sk_tree.specs.declared.tree.Skeleton.{Skeleton}
use Rattle.sk_tree.specs.declared.tree.Skeleton.TheVariants.{Map, Reduce, Scan}
use Rattle.sk_world.specs.Events.{CallOf, Event, Mapped, Ran}

-- an instance of one function, whose calls may be cut into parts
abbrev pub plan_of : Skeleton → (elements : ℕ) → Plan
plan_of skeleton elements = record {
  name = codes "m";
  skeleton = skeleton;
  functions = 0 ∷ [];
  elements = elements;
  variants = Sequential ∷ Chunked ∷ Cluster ∷ [];
}

-- a vector of ints
abbrev vector : Declared
vector = record { name = codes "v"; kind = 1; ty = Int }

-- a Map of one element, a Map of two, a Reduce and a Scan, of a safe function
abbrev pub object : Object
object = record {
  functions = [];
  signatures = [];
  safe = true ∷ [];
  operators = [];
  instances = plan_of Map 1 ∷ plan_of Map 2 ∷ plan_of Reduce 0 ∷ plan_of Scan 0 ∷ [];
  main = record { instrs = []; slots = 0; depth = 0 };
  inputs = [];
  containers = vector ∷ vector ∷ vector ∷ vector ∷ [];
  names = [];
}

-- a table of one rank without rules, with tiles of so many elements and so many recorded versions
abbrev pub table_of : (size lineage : ℕ) → Tuning
table_of size lineage = record { ranks = 1; capacity = 67108864; tile = size; lineage = lineage; rules = [] }

abbrev pub call_on : (instance : ℕ) → (operands : List ℕ) → CallOf
call_on instance operands = record { line = 0; instance = instance; operands = operands; uniforms = [] }

-- a Map of one element into a result
abbrev pub mapped : (result operand : ℕ) → Event
mapped result operand = Mapped (call_on 0 (operand ∷ [])) result

-- a Scan into a result
abbrev pub scanned : (result operand : ℕ) → Event
scanned result operand = Ran (call_on 3 (operand ∷ [])) default_settings (Some result) false
