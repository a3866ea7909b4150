use Rattle.std.proofs.Common.{◌≡◌, ℕ, ℤ, Ok}
use Rattle.sk_formula.specs.Elements.{folded}
use Rattle.sk_seq.proofs.line_folds.fold_line.Given as goal
use Rattle.sk_seq.specs.Given.{AgreeAll, functions_over}
use Rattle.sk_seq.specs.Joinings.{MayStand}
use Rattle.sk_seq.specs.Lines.{line_operand}

abbrev pub invariant-loop-k : goal.invariant-loop-k
invariant-loop-k g l =
    (g.K.Kernel.means l.kernel ≡ g.K.Kernel.means l.fn.kernel)
    × ((cells : ℕ → ℕ → ℤ) → AgreeAll (g.D.Data.means l.fn.source) cells
    → folded (g.K.Kernel.means l.fn.kernel).join (line_operand l.fn.lines (functions_over (g.K.Kernel.means l.fn.kernel) (g.D.Data.means l.fn.source) cells) l.fn.line) l.fn.front 0 l.k
    ≡ Ok l.folded)
    × MayStand (g.K.Kernel.means l.fn.kernel) l.folded
