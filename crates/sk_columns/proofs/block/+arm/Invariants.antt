use Rattle.std.proofs.Common.{ℕ, ℤ, ◌<◌, ◌≤◌, ◌+◌, ◌-◌, ◌*◌, ◌++◌, List, length}
use Rattle.sk_columns.specs.Blocks.{Reaches, stack_of}
use Rattle.sk_columns.proofs.block.+arm.Given as goal

-- how much code is left, and within that how far a function stands from the next piece of it
abbrev pub decreases-arm : goal.decreases-arm
decreases-arm g l = 8 * (l.to - l.from) + 7

abbrev pub decreases-walk : goal.decreases-walk
decreases-walk g l = 8 * (l.to - l.from) + 6

abbrev pub decreases-choose : goal.decreases-choose
decreases-choose g l = 8 * (l.to - l.at) + 5

abbrev pub decreases-choose_at : goal.decreases-choose_at
decreases-choose_at g l = 8 * (l.choice.end - l.choice.at) + 4

abbrev pub decreases-choose_above : goal.decreases-choose_above
decreases-choose_above g l = 8 * (l.choice.end - l.choice.at) + 3

abbrev pub decreases-choose_in : goal.decreases-choose_in
decreases-choose_in g l = 8 * (l.choice.end - l.choice.at) + 2

abbrev pub invariant-walk-loop-at : goal.invariant-walk-loop-at
invariant-walk-loop-at g l =
    (l.fn.from ≤ l.at)
    × (l.height ≤ length l.levels)
    × ((place : ℕ) → place < length l.first → (rest : List ℤ)
    → Reaches l.code.instrs.now (g.L.Lanes.known l.code.lanes.now place) l.fn.from rest l.at (stack_of l.levels (l.first ++ l.above) (length l.first) place (g.L.Lanes.known l.code.lanes.now place) rest l.height))

abbrev pub decreases-walk-loop-at : goal.decreases-walk-loop-at
decreases-walk-loop-at g l = l.to - l.at
