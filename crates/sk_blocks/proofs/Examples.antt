-- Worked examples of parts, ranges, kernels and needs, by evaluation.
use Rattle.std.proofs.Common.{◌≡◌, ℕ, suc, List, [], ◌∷◌, length, map, true, false, Option, Some, None, refl}
use Rattle.sk_base.specs.declared.choice.EdgeMode.TheVariants.{Cyclic}
use Rattle.sk_base.specs.declared.choice.Variant.TheVariants.{Sequential, Chunked, Cluster, Lanes}
use Rattle.sk_blocks.specs.Calls.{Operand, SizedCall}
use Rattle.sk_blocks.specs.Choices.{rule_elements, chosen_of}
use Rattle.sk_blocks.specs.Kernels.{KernelRun, call_kernels, joins_of, units_of, tile_count, tile_kernel, kernel_ranges, reads_index, totals_read}
use Rattle.sk_blocks.specs.Needs.{need_of, fits}
use Rattle.sk_blocks.specs.Ranges.{range, overlap_ranges}
use Rattle.sk_parts.specs.Cut.{Part}
use Rattle.sk_tree.specs.InstanceSettings.{default_settings}
use Rattle.sk_tree.specs.declared.settings.Settings.{Settings}
use Rattle.sk_tree.specs.declared.tree.Skeleton.{Skeleton}
use Rattle.sk_spaces.specs.declared.step.KernelKind.TheVariants.{Element, Scan as ScanKernel}
use Rattle.sk_tree.specs.declared.tree.Skeleton.TheVariants.{Map, Reduce, Scan, MapReduce, MapOverlap, MapPairs, MapPairsReduce}

-- containers of these sizes, each in a store of its own
abbrev stored_from : (store : ℕ) → List (List ℕ) → List Operand
stored_from store [] = []
stored_from store (shape ∷ shapes) = record { store = store; shape = shape } ∷ stored_from (suc store) shapes

-- a call of a skeleton that takes no container whole
abbrev calling : Skeleton → (result : Option (List ℕ)) → List (List ℕ) → SizedCall
calling skeleton result shapes = record {
  skeleton = skeleton;
  settings = default_settings;
  elements = length shapes;
  operands = stored_from 0 shapes;
  result = result;
}

-- what a kernel reads of two operands
abbrev both_read : SizedCall → KernelRun → List Part × List Part
both_read call kernel = (kernel_ranges call kernel 0, kernel_ranges call kernel 1)

-- ---- a Scan of 7 elements in a cluster of 3: parts of 3, 2 and 2; two folds, one join, three scans

abbrev scanned : SizedCall
scanned = calling Scan (Some (7 ∷ [])) ((7 ∷ []) ∷ [])

pub scan-parts : map (λ part. units_of scanned 3 part) (0 ∷ 1 ∷ 2 ∷ []) ≡ range 0 3 ∷ range 3 5 ∷ range 5 7 ∷ []
scan-parts = refl

pub scan-kernels : map length (call_kernels Cluster 3 scanned) ≡ 2 ∷ 1 ∷ 3 ∷ []
scan-kernels = refl

-- the join takes in the first total, and each scan but the first reads the one before it
pub scan-totals : map (map totals_read) (call_kernels Cluster 3 scanned)
    ≡ ([] ∷ [] ∷ []) ∷ ((1 ∷ 0 ∷ []) ∷ []) ∷ ([] ∷ (0 ∷ []) ∷ (1 ∷ []) ∷ []) ∷ []
scan-totals = refl

-- the folds and the scans read their parts, and the join reads no element
pub scan-reads : map (map (λ (kernel : KernelRun). kernel_ranges scanned kernel 0)) (call_kernels Cluster 3 scanned)
    ≡ ((range 0 3 ∷ []) ∷ (range 3 5 ∷ []) ∷ []) ∷ ([] ∷ []) ∷ ((range 0 3 ∷ []) ∷ (range 3 5 ∷ []) ∷ (range 5 7 ∷ []) ∷ []) ∷ []
scan-reads = refl

-- in one part it has one scan, in its first kind: where it traps, that is the kernel that ran
pub one-part : call_kernels Sequential 1 scanned
    ≡ (record { kind = ScanKernel; part = 0; lo = 0; hi = 7; units = range 0 7; space = 0 } ∷ []) ∷ []
one-part = refl

-- ---- folds

-- a Reduce of 1,000 elements in 4 chunks: four folds and three joins
pub chunks : map length (call_kernels Chunked 4 (calling Reduce None ((1000 ∷ []) ∷ []))) ≡ 4 ∷ 3 ∷ []
chunks = refl

-- of 2 elements in 5 chunks: two folds and one join; of no elements: no kernel
pub few-units : map length (call_kernels Chunked 5 (calling Reduce None ((2 ∷ []) ∷ []))) ≡ 2 ∷ 1 ∷ []
few-units = refl

pub no-units : call_kernels Chunked 5 (calling Reduce None ((0 ∷ []) ∷ [])) ≡ []
no-units = refl

-- five totals on ranks: 0 with 1, 2 with 3, then 0 with 2, then 0 with 4
pub cluster-joins : joins_of Cluster 5 ≡ (0, 1) ∷ (2, 3) ∷ (0, 2) ∷ (0, 4) ∷ []
cluster-joins = refl

-- a MapReduce that takes a second container whole: its folds read all of that one, and its join neither
abbrev with_table : SizedCall
with_table = record (calling MapReduce None ((4 ∷ []) ∷ (3 ∷ []) ∷ [])) { elements = 1 }

pub whole-reads : map (map (both_read with_table)) (call_kernels Chunked 2 with_table)
    ≡ ((range 0 2 ∷ [], range 0 3 ∷ []) ∷ (range 2 4 ∷ [], range 0 3 ∷ []) ∷ []) ∷ (([], []) ∷ []) ∷ []
whole-reads = refl

-- ---- round places

-- an overlap of 1, with the nearest element outside, on 8 elements in two parts
abbrev near : Settings
near = record default_settings { overlap = (1, 1) }

pub left-part : overlap_ranges near (8 ∷ []) 0 4 ≡ range 0 5 ∷ []
left-part = refl

pub right-part : overlap_ranges near (8 ∷ []) 4 8 ≡ range 3 8 ∷ []
right-part = refl

-- round the ends of 8 elements: two runs
pub cyclic-part : overlap_ranges (record near { edge = Cyclic }) (8 ∷ []) 0 4 ≡ range 0 5 ∷ range 7 8 ∷ []
cyclic-part = refl

-- ---- pairs: 2 elements with 3 give a matrix of 2 by 3, of which a unit of the first operand gives a row

abbrev paired : SizedCall
paired = calling MapPairs (Some (2 ∷ 3 ∷ [])) ((2 ∷ []) ∷ (3 ∷ []) ∷ [])

-- the second of two parts writes the cells 3 to 6 and reads element 1 of the first operand, and all of the second
pub pairs-kernels : call_kernels Chunked 2 paired
    ≡ (record { kind = Element; part = 0; lo = 0; hi = 3; units = range 0 1; space = 0 }
    ∷ record { kind = Element; part = 1; lo = 3; hi = 6; units = range 1 2; space = 0 } ∷ []) ∷ []
pairs-kernels = refl

pub pairs-read : map (map (both_read paired)) (call_kernels Chunked 2 paired)
    ≡ ((range 0 1 ∷ [], range 0 3 ∷ []) ∷ (range 1 2 ∷ [], range 0 3 ∷ []) ∷ []) ∷ []
pairs-read = refl

-- with no element in the second operand nothing is computed
pub no-cells : call_kernels Chunked 2 (calling MapPairs (Some (2 ∷ 0 ∷ [])) ((2 ∷ []) ∷ (0 ∷ []) ∷ [])) ≡ []
no-cells = refl

-- a MapPairsReduce of 3 elements with 4 counts as 12
pub pairs-count : rule_elements (calling MapPairsReduce (Some (3 ∷ [])) ((3 ∷ []) ∷ (4 ∷ []) ∷ [])) ≡ 12
pairs-count = refl

-- ---- what fits

-- a MapOverlap without overlap on 16 elements in two parts fits in 16 cells, and not in 15
abbrev overlapped : SizedCall
overlapped = calling MapOverlap (Some (16 ∷ [])) ((16 ∷ []) ∷ [])

pub sixteen-cells : fits false 1024 16 overlapped 2 ≡ true
sixteen-cells = refl

pub fifteen-cells : fits false 1024 15 overlapped 2 ≡ false
fifteen-cells = refl

-- two operands that are one store need its block once
abbrev from_stores : (one other : ℕ) → SizedCall
from_stores one other = record (calling Map (Some (4 ∷ [])) ((4 ∷ []) ∷ (4 ∷ []) ∷ [])) {
  operands = record { store = one; shape = 4 ∷ [] } ∷ record { store = other; shape = 4 ∷ [] } ∷ [];
}

pub one-store : need_of (from_stores 0 0) 1 0 ≡ 8
one-store = refl

pub two-stores : need_of (from_stores 0 1) 1 0 ≡ 12
two-stores = refl

-- recorded over 4 elements and computed by tiles of 1,024, it needs 12 cells, and 8 where the stores are one
pub twelve-cells : fits true 1024 12 (from_stores 0 1) 1 ≡ true
twelve-cells = refl

pub eleven-cells : fits true 1024 11 (from_stores 0 1) 1 ≡ false
eleven-cells = refl

pub eight-cells : fits true 1024 8 (from_stores 0 0) 1 ≡ true
eight-cells = refl

-- ---- what is run

-- the MapOverlap goes to the ranks where it fits; lanes of a Reduce by rows are none
pub overlapped-runs : chosen_of false 1024 16 overlapped (Cluster, 2) ≡ (Cluster, 2)
overlapped-runs = refl

pub overlapped-stays : chosen_of false 1024 15 overlapped (Cluster, 2) ≡ (Sequential, 1)
overlapped-stays = refl

pub rows-stay : chosen_of false 1024 100 (calling Reduce (Some (2 ∷ [])) ((2 ∷ 3 ∷ []) ∷ [])) (Lanes, 1) ≡ (Sequential, 1)
rows-stay = refl

pub sum-by-lanes : chosen_of false 1024 100 (calling Reduce None ((2 ∷ 3 ∷ []) ∷ [])) (Lanes, 1) ≡ (Lanes, 1)
sum-by-lanes = refl

pub recorded-stays : chosen_of true 1024 11 (from_stores 0 1) (Cluster, 1) ≡ (Sequential, 1)
recorded-stays = refl

-- ---- tiles

-- tile 2 of 4 elements of a recorded call over 10 in a cluster of 2: two elements, in the space of the first rank
pub last-tile : tile_kernel Cluster 2 4 10 2
    ≡ Some (record { kind = Element; part = 2; lo = 8; hi = 10; units = range 8 10; space = 1 })
last-tile = refl

-- it has three tiles, and 8 elements have two: tile 2 would begin at their end, and tile 3 behind it
pub three-tiles : tile_count 4 10 ≡ 3
three-tiles = refl

pub two-tiles : tile_count 4 8 ≡ 2
two-tiles = refl

pub no-tile-at-the-end : tile_kernel Cluster 2 4 8 2 ≡ None
no-tile-at-the-end = refl

pub no-tile-behind : tile_kernel Cluster 2 4 8 3 ≡ None
no-tile-behind = refl

pub no-tile-of-nothing : tile_count 4 0 ≡ 0
no-tile-of-nothing = refl

-- ---- an operand that the call has not is not read

pub no-second-operand : reads_index overlapped (record { kind = Element; part = 0; lo = 0; hi = 8; units = range 0 8; space = 0 }) 1 0 ≡ false
no-second-operand = refl
