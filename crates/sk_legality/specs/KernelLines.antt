-- Where the line of a kernel is legal. Only states of copies are looked at, and no cell.
use Rattle.std.specs.Prelude.{◌≡◌, ℕ, suc, ◌-◌, ◌==◌, ◌&&◌, Bool, true, false, not, if◌then◌else◌, List, length, flat_map, find, Option, Some, None, IsSome, IsSomeAnd, option_map, option_and_then, option_to_list, slice_get, slice_index_or}
use Rattle.std.specs.List.{list_all, list_any}
use denote.Enum.Bare.{sameb}
use Rattle.sk_base.specs.Shape.{cells_of}
use Rattle.sk_blocks.specs.Calls.{SizedCall}
use Rattle.sk_blocks.specs.Choices.{result_cells}
use Rattle.sk_blocks.specs.Kernels.{KernelRun, call_kernels, tile_kernel, call_totals, reads_index, totals_read}
use Rattle.sk_isa.specs.declared.object.Object.{Object}
use Rattle.sk_isa.specs.declared.object.Plan.{Plan}
use Rattle.sk_legality.specs.CallLines.{first_signature, named_stores, sized_call}
use Rattle.sk_spaces.specs.Machine.{Machine, Mark, stale, valid, owner, Home, CopyState, unused, live, freed, MemoryLine, CallLine, is_copy_of}
use Rattle.sk_spaces.specs.Rules.{IsThere, Covers}
use Rattle.sk_spaces.specs.contracts.step.KernelKind as kinds
use Rattle.sk_spaces.specs.declared.step.KernelKind.{KernelKind}
use Rattle.sk_spaces.specs.declared.step.KernelKind.TheVariants.{Element, Fold, Join, Scan, Value}
use Rattle.sk_tree.specs.Parameters.{same_type}

-- what the line of a kernel says
pub record KernelLine : Type 0 where
  pub call : ℕ
  pub kind : KernelKind
  pub part : ℕ
  pub lo : ℕ
  pub hi : ℕ
  -- the copy that takes the results
  pub out : ℕ
  -- the element that trapped
  pub trapped : Option ℕ
  -- the copies that are read
  pub inputs : List ℕ

-- ---- which kernel it is

unfoldable pub same_kind : KernelKind → KernelKind → Bool
same_kind = sameb kinds.the_type

-- the line tells of this kernel, by its kind, its part and its range
abbrev pub tells_of : KernelLine → KernelRun → Bool
tells_of line run = same_kind run.kind line.kind && run.part == line.part && run.lo == line.lo && run.hi == line.hi

-- the kernels of a call: where it is recorded, that of the tile, and otherwise those of its parts
abbrev pub kernels_at : MemoryLine → CallLine → SizedCall → (part : ℕ) → List KernelRun
kernels_at memory call sized part =
    if call.recorded
    then option_to_list (tile_kernel call.variant call.parts memory.tile (result_cells sized) part)
    else flat_map (λ runs. runs) (call_kernels call.variant call.parts sized)

-- a kernel of a call: the instance, what the call's line says, its sizes, and the kernel
pub record CallKernel : Type 0 where
  pub plan : Plan
  pub call : CallLine
  pub sized : SizedCall
  pub run : KernelRun

-- the kernel that a line tells of, where the call is there and has one such
abbrev pub kernel_of : Object → Machine → KernelLine → Option CallKernel
kernel_of object m line =
    option_and_then (λ (memory : MemoryLine).
    option_and_then (λ (call : CallLine).
    option_and_then (λ (plan : Plan).
    let sized : SizedCall = sized_call m plan call in
    option_map (λ (run : KernelRun). record { plan = plan; call = call; sized = sized; run = run })
    (find (tells_of line) (kernels_at memory call sized line.part)))
    (slice_get object.instances call.instance))
    (m.calls line.call))
    m.memory

-- The cells that the results go to, from one up to but not including the other. That is the range of the line, but for a join,
-- which has the total that is taken in there.
abbrev pub first_written : KernelLine → ℕ
first_written line = elim line.kind [ Join ↦ line.part | Element ↦ line.lo | Fold ↦ line.lo | Scan ↦ line.lo | Value ↦ line.lo ]

abbrev pub written_end : KernelLine → ℕ
written_end line = elim line.kind [ Join ↦ suc line.part | Element ↦ line.hi | Fold ↦ line.hi | Scan ↦ line.hi | Value ↦ line.hi ]

-- ---- stores of totals

-- how many totals the call has
abbrev pub totals_of : CallKernel → ℕ
totals_of kernel = call_totals kernel.call.variant kernel.call.parts kernel.sized

-- a store may have the totals of the call: it has as many cells of the type of its value, and is none of the stores that the
-- call names
abbrev pub has_totals : Object → Machine → CallKernel → (store : ℕ) → Bool
has_totals object m kernel store =
    (elim (m.stores store) [
      | Some found ↦ same_type found.ty (first_signature object kernel.plan).ret && cells_of found.shape == totals_of kernel
      | None ↦ false
    ]) && not (list_any (λ other. other == store) (named_stores kernel.call))

-- ---- what is read

abbrev pub is_readable : Mark → Bool
is_readable stale = false
is_readable valid = true
is_readable owner = true

-- a copy is one of the store, and may be read at the index
abbrev pub may_be_read : Machine → (store index copy : ℕ) → Bool
may_be_read m store index copy = is_copy_of store (m.copies copy) && is_readable (m.marks copy index)

-- the copy from which an index of a store is read: the first of these that may be read there
abbrev pub source_of : Machine → (copies : List ℕ) → (store index : ℕ) → Option ℕ
source_of m copies store index = find (may_be_read m store index) copies

-- the store of an operand
abbrev pub operand_store : CallLine → (operand : ℕ) → ℕ
operand_store call operand = slice_index_or call.operands operand 0

-- the copy of the totals, where some are read, stands last
abbrev pub totals_copy : (copies : List ℕ) → Option ℕ
totals_copy copies = slice_get copies (length copies - 1)

-- a join reads the totals in the store into which it writes
abbrev pub are_its_totals : Object → Machine → CallKernel → (out : Home) → CopyState → Bool
are_its_totals object m kernel out unused = false
are_its_totals object m kernel out (live home) = elim kernel.run.kind [
  | Join ↦ home.store == out.store
  | Element ↦ false
  | Fold ↦ false
  | Scan ↦ has_totals object m kernel home.store
  | Value ↦ false
]
are_its_totals object m kernel out freed = false

-- a total is read from the copy of the totals
abbrev pub total_may_be_read : Object → Machine → CallKernel → (out : Home) → (copies : List ℕ) → (total : ℕ) → Bool
total_may_be_read object m kernel out copies total = elim (totals_copy copies) [
  | Some copy ↦ are_its_totals object m kernel out (m.copies copy) && is_readable (m.marks copy total)
  | None ↦ false
]

-- ---- where the results go, and in which space

-- the results go to the call's result, or are totals
abbrev pub may_take : Object → Machine → CallKernel → (store : ℕ) → Bool
may_take object m kernel store = elim kernel.run.kind [
  | Element ↦ elim kernel.call.result [ Some result ↦ result == store | None ↦ false ]
  | Scan ↦ elim kernel.call.result [ Some result ↦ result == store | None ↦ false ]
  | Fold ↦ has_totals object m kernel store
  | Join ↦ has_totals object m kernel store
  | Value ↦ has_totals object m kernel store
]

-- a copy is there and lies in the space
abbrev pub is_in_space : (space : ℕ) → CopyState → Bool
is_in_space space unused = false
is_in_space space (live home) = home.space == space
is_in_space space freed = false

-- The kernel may run so, where its results go to a copy that lies there: to a copy of the right store, which has the cells;
-- all copies lie in one space; and each index of an operand, and each total, that the kernel may read is readable in the
-- copies that it reads.
pub record MayRun (object : Object) (m : Machine) (kernel : CallKernel) (line : KernelLine) (out : Home) : Type 0 where
  pub taken : may_take object m kernel out.store ≡ true
  pub written : Covers (first_written line) (written_end line) out
  pub together : list_all (λ copy. is_in_space out.space (m.copies copy)) line.inputs ≡ true
  pub operands : (operand index : ℕ) → reads_index kernel.sized kernel.run operand index ≡ true
      → IsSome (source_of m line.inputs (operand_store kernel.call operand) index)
  pub totals : list_all (total_may_be_read object m kernel out line.inputs) (totals_read kernel.run) ≡ true

-- the line of a kernel is legal: the call is there and has such a kernel, and it may run so
abbrev pub IsLegalKernel : Object → Machine → KernelLine → Type 0
IsLegalKernel object m line =
    IsSomeAnd (kernel_of object m line) (λ kernel. IsThere (m.copies line.out) (λ out. MayRun object m kernel line out))
