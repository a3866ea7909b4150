use Rattle.std.proofs.Common.{◌≡◌, ◌+◌, ◌-◌, ◌*◌, ◌<◌, ℕ, ℤ, pos, Ok, length}
use Rattle.std.specs.Prelude.{slice_index_or}
use Rattle.sk_seq.proofs.pairs.rows.Given as goal
use Rattle.sk_seq.specs.Given.{AgreeAll, functions_over}
use Rattle.sk_seq.specs.Pairs.{AreOf, pair_from}

abbrev pub invariant-loop-unit : goal.invariant-loop-unit
invariant-loop-unit g l =
    (g.K.Kernel.means l.kernel ≡ g.K.Kernel.means l.fn.kernel)
    × (length l.out ≡ length l.fn.out)
    × (l.fn.units.lo * l.fn.width + l.done ≡ l.unit * l.fn.width)
    × (l.done + (l.fn.units.hi - l.unit) * l.fn.width ≡ length l.fn.out)
    × ((cells : ℕ → ℕ → ℤ) → AgreeAll (g.D.Data.means l.fn.source) cells → (k : ℕ) → k < l.done
    → pair_from (functions_over (g.K.Kernel.means l.fn.kernel) (g.D.Data.means l.fn.source) cells) l.fn.width (l.fn.units.lo * l.fn.width) k ≡ Ok (slice_index_or l.out k (pos 0)))
    × AreOf (g.K.Kernel.means l.fn.kernel).ty l.out l.done
