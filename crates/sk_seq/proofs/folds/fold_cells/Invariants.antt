use Rattle.std.proofs.Common.{◌≡◌, Ok}
use Rattle.sk_formula.specs.Elements.{folded}
use Rattle.sk_seq.proofs.folds.fold_cells.Given as goal
use Rattle.sk_seq.specs.Joinings.{MayStand, cell_in}

abbrev pub invariant-loop-k : goal.invariant-loop-k
invariant-loop-k g l =
    (g.K.Kernel.means l.kernel ≡ g.K.Kernel.means l.fn.kernel)
    × (folded (g.K.Kernel.means l.fn.kernel).join (cell_in l.fn.cells) l.fn.front 0 l.k ≡ Ok l.folded)
    × MayStand (g.K.Kernel.means l.fn.kernel) l.folded
