-- What a kernel gives for the cells that it reads.
use Rattle.std.specs.Prelude.{ℕ, ◌-◌, ◌==◌, if◌then◌else◌, List, [], ◌∷◌, map, ℤ, pos, Option, Some, None, Result, Ok, Err, option_map, slice_get, unwrap_or, min, max}
use Rattle.sk_arguments.specs.Arguments.{Given}
use Rattle.sk_blocks.specs.Calls.{SizedCall, sizes_of}
use Rattle.sk_blocks.specs.Kernels.{KernelRun}
use Rattle.sk_formula.specs.Calls.{units_value, part_fold, part_scan}
use Rattle.sk_formula.specs.Elements.{TrapAt, at_element}
use Rattle.sk_formula.specs.Skeletons.{Functions, value_at, scan_front}
use Rattle.sk_functions.specs.Functions.{functions_by}
use Rattle.sk_isa.specs.declared.object.Object.{Object}
use Rattle.sk_kernel.specs.Instances.{instance_meaning}
use Rattle.sk_legality.specs.CallLines.{sizes_at}
use Rattle.sk_legality.specs.KernelLines.{KernelLine, CallKernel, kernel_of, source_of, operand_store, totals_copy}
use Rattle.sk_spaces.specs.Machine.{Machine, CallLine}
use Rattle.sk_spaces.specs.declared.step.KernelKind.TheVariants.{Element, Fold, Join, Scan as ScanKernel, Value}
use Rattle.sk_tree.specs.declared.tree.Skeleton.{Skeleton}
use Rattle.sk_tree.specs.declared.tree.Skeleton.TheVariants.{Scan, MapReduce}

-- ---- by the values of the function and the operator

-- what stands in front of all that a call folds
abbrev pub first_front : SizedCall → Option ℤ
first_front call = elim call.skeleton [
  | Scan ↦ scan_front call.settings.exclusive call.settings.start
  | _ ↦ call.settings.start
]

-- the fold of the first part begins with that, and each other fold with its own first operand
abbrev pub fold_front : SizedCall → (part : ℕ) → Option ℤ
fold_front call part = if part == 0 then first_front call else None

-- the results of the first part of a Scan stand behind that, and those of each other part behind the total before it
abbrev pub results_front : SizedCall → (totals : ℕ → ℤ) → (part : ℕ) → Option ℤ
results_front call totals part = if part == 0 then first_front call else Some (totals (part - 1))

abbrev pub one_cell : Result ℤ TrapAt → Result (List ℤ) TrapAt
one_cell (Ok value) = Ok (value ∷ [])
one_cell (Err trapped) = Err trapped

-- a part that is folded has a unit
abbrev pub one_total : Result (Option ℤ) TrapAt → Result (List ℤ) TrapAt
one_total (Ok value) = Ok (unwrap_or value (pos 0) ∷ [])
one_total (Err trapped) = Err trapped

-- The cells that a kernel gives, or its trap at the least element. Of two totals that are joined the one with the lower number
-- stands on the left. An operator that joins totals is associative and does not trap; one that is wrongly marked so would trap
-- at the total that is taken in.
abbrev pub kernel_values : SizedCall → Functions → (totals : ℕ → ℤ) → KernelRun → Result (List ℤ) TrapAt
kernel_values call functions totals run = elim run.kind [
  | Element ↦ units_value call.skeleton call.settings (sizes_of call) functions run.units.lo run.units.hi
  | Fold ↦ one_total (part_fold call.skeleton functions (fold_front call run.part) run.units.lo run.units.hi)
  | Join ↦ one_cell (at_element run.lo (functions.join (totals (min run.part run.lo)) (totals (max run.part run.lo))))
  | ScanKernel ↦ part_scan functions call.settings.exclusive (results_front call totals run.part) run.units.lo run.units.hi
  | Value ↦ one_cell (at_element 0 (value_at functions 0))
]

-- ---- for the cells of the copies

-- the cell of a store at an index that a kernel reads from these copies
abbrev pub cell_read : Machine → (copies : List ℕ) → (store index : ℕ) → ℤ
cell_read m copies store index = elim (source_of m copies store index) [ Some copy ↦ m.cells copy index | None ↦ pos 0 ]

abbrev pub total_from : Machine → (copies : List ℕ) → (total : ℕ) → ℤ
total_from m copies total = elim (totals_copy copies) [ Some copy ↦ m.cells copy total | None ↦ pos 0 ]

-- indices are counted in the first operand of a MapReduce, and in the result of every other skeleton
abbrev pub counted_in : Machine → Skeleton → CallLine → Option (List ℕ)
counted_in m skeleton call = elim skeleton [
  | MapReduce ↦ option_map (sizes_at m) (slice_get call.operands 0)
  | _ ↦ option_map (sizes_at m) call.result
]

-- what the function is given
abbrev pub given_to : Machine → CallKernel → (copies : List ℕ) → Given
given_to m kernel copies = record {
  cells = λ operand index. cell_read m copies (operand_store kernel.call operand) index;
  shapes = map (sizes_at m) kernel.call.operands;
  uniforms = kernel.call.uniforms;
  over = counted_in m kernel.sized.skeleton kernel.call;
}

-- what a kernel of a call gives, that reads these copies
abbrev pub values_from : Object → Machine → CallKernel → (copies : List ℕ) → Result (List ℤ) TrapAt
values_from object m kernel copies =
    kernel_values kernel.sized (functions_by (instance_meaning object kernel.plan kernel.sized.settings) (given_to m kernel copies))
    (total_from m copies) kernel.run

-- what the kernel of a line gives, where there is one
abbrev pub values_of : Object → Machine → KernelLine → Option (Result (List ℤ) TrapAt)
values_of object m line = option_map (λ kernel. values_from object m kernel line.inputs) (kernel_of object m line)
