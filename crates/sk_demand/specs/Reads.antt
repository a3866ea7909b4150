-- Which indices of which copies a step of a trace reads.
use Rattle.std.specs.Prelude.{ℕ, ◌==◌, Bool, false, ◌&&◌, ◌||◌, List, [], ◌∷◌, length, Some, None}
use Rattle.std.specs.List.{list_any}
use Rattle.sk_blocks.specs.Kernels.{reads_index, totals_read}
use Rattle.sk_blocks.specs.Ranges.{numbers_from}
use Rattle.sk_isa.specs.declared.object.Object.{Object}
use Rattle.sk_legality.specs.KernelLines.{KernelLine, CallKernel, kernel_of, is_readable, operand_store, totals_copy}
use Rattle.sk_spaces.specs.Machine.{Machine, is_copy_of, is_within}
use Rattle.sk_spaces.specs.declared.step.Step.{Step}
use Rattle.sk_spaces.specs.declared.step.Step.TheVariants as line
use Rattle.sk_demand.specs.Versions.{has}

-- a store that is not there has no cells
abbrev pub shape_in : Machine → (store : ℕ) → List ℕ
shape_in m store = elim (m.stores store) [ Some told ↦ told.shape | None ↦ 0 ∷ [] ]

-- the size of tiles
abbrev pub tile_in : Machine → ℕ
tile_in m = elim m.memory [ Some told ↦ told.tile | None ↦ 0 ]

-- this copy is the one of which totals are read
abbrev pub is_totals_copy : (inputs : List ℕ) → (copy : ℕ) → Bool
is_totals_copy inputs copy = elim (totals_copy inputs) [ Some last ↦ last == copy | None ↦ false ]

-- A kernel may read an index from a copy: where the copy is of the store of an operand of which it may read that index, or it
-- is the one of the totals, and the index is that of a total that the kernel reads.
abbrev pub may_read : Machine → CallKernel → (inputs : List ℕ) → (copy index : ℕ) → Bool
may_read m kernel inputs copy index =
    list_any (λ operand. is_copy_of (operand_store kernel.call operand) (m.copies copy) && reads_index kernel.sized kernel.run operand index)
    (numbers_from 0 (length kernel.call.operands))
    || (is_totals_copy inputs copy && has (totals_read kernel.run) index)

module _ (object : Object) where
  -- A kernel reads each index that it may read from every copy among those that its line names which may be read there.
  abbrev pub kernel_reads : Machine → KernelLine → (copy index : ℕ) → Bool
  kernel_reads m told copy index =
      has told.inputs copy && is_readable (m.marks copy index)
      && (elim (kernel_of object m told) [ Some kernel ↦ may_read m kernel told.inputs copy index | None ↦ false ])

  -- the step reads this index from this copy
  abbrev pub reads : Machine → Step → (copy index : ℕ) → Bool
  reads m (line.Kernel call kind part lo hi out trapped inputs) copy index =
      kernel_reads m (record { call = call; kind = kind; part = part; lo = lo; hi = hi; out = out; trapped = trapped; inputs = inputs }) copy index
  reads m (line.Read source lo hi) copy index = copy == source && is_within lo hi index
  reads m (line.Clone source target lo hi) copy index = copy == source && is_within lo hi index
  reads m (line.Copy source target lo hi) copy index = copy == source && is_within lo hi index
  reads m (line.Send message source target lo hi) copy index = copy == source && is_within lo hi index
  reads m step copy index = false
