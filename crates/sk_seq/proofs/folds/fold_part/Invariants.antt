use Rattle.std.proofs.Common.{◌≡◌, ◌-◌, ◌≤◌, ℕ, ℤ, Ok}
use Rattle.sk_formula.specs.Elements.{folded}
use Rattle.sk_seq.proofs.folds.fold_part.Given as goal
use Rattle.sk_seq.specs.Given.{AgreeAll, functions_over}
use Rattle.sk_seq.specs.Joinings.{MayStand}
use Rattle.sk_seq.specs.Operands.{operand_of}

abbrev pub invariant-loop-done : goal.invariant-loop-done
invariant-loop-done g l =
    (g.K.Kernel.means l.kernel ≡ g.K.Kernel.means l.fn.kernel)
    × (l.fn.part.lo ≤ l.done) × (l.done ≤ l.fn.part.hi)
    × ((cells : ℕ → ℕ → ℤ) → AgreeAll (g.D.Data.means l.fn.source) cells
    → folded (g.K.Kernel.means l.fn.kernel).join (operand_of l.fn.operands (functions_over (g.K.Kernel.means l.fn.kernel) (g.D.Data.means l.fn.source) cells)) l.fn.front l.fn.part.lo (l.done - l.fn.part.lo)
    ≡ Ok l.folded)
    × MayStand (g.K.Kernel.means l.fn.kernel) l.folded

abbrev pub decreases-loop-done : goal.decreases-loop-done
decreases-loop-done g l = l.fn.part.hi - l.done
