-- Worked examples of bounds and turns, by evaluation.
use Rattle.std.proofs.Common.{◌≡◌, refl}
use Rattle.std.specs.Prelude.{true, false, [], ◌∷◌, Some, pos, negsuc, codes}
use Rattle.sk_base.specs.declared.number.Op.TheVariants.{Add, Rem, Div, And, Shl}
use Rattle.sk_base.specs.declared.number.Ty.TheVariants.{Int}
use Rattle.sk_safety.specs.Intervals.{Bounds, full, only, operation_interval, prefix_interval}
use Rattle.sk_safety.specs.Loops.{turns_to, numbers_to}
use Rattle.sk_safety.specs.Safety.{has_value, loop_turns, operation_in}
use Rattle.sk_tree.specs.declared.tree.Expr.{Expr}
use Rattle.sk_tree.specs.declared.tree.Expr.TheOpen.{Binary}
use Rattle.sk_tree.specs.declared.tree.Un.TheVariants.{Neg}

-- `a % 4 + 5` lies from 2 to 8
divisor : operation_interval Add Int (operation_interval Rem Int (full Int) (only (pos 4))) (only (pos 5))
    ≡ record { low = pos 2; high = pos 8 }
divisor = refl

-- a sum that may wrap has the whole range, and the least number's negative too
wraps : (operation_interval Add Int (full Int) (only (pos 1)) ≡ full Int) × (prefix_interval Neg Int (full Int) ≡ full Int)
wraps = (refl, refl)

-- the least number divided by -1
least : operation_interval Div Int (full Int) (only (negsuc 0)) ≡ full Int
least = refl

quotients : operation_interval Div Int (record { low = negsuc 6; high = pos 9 }) (only (pos 2)) ≡ record { low = negsuc 2; high = pos 4 }
quotients = refl

masked : operation_interval And Int (full Int) (only (pos 15)) ≡ record { low = pos 0; high = pos 15 }
masked = refl

-- from 0 below 300, up to 299, and none below 0
turns : (turns_to (record { inclusive = false; to = pos 300 }) (pos 0) ≡ 300) × (turns_to (record { inclusive = true; to = pos 299 }) (pos 0) ≡ 300)
    × (turns_to (record { inclusive = false; to = pos 0 }) (pos 0) ≡ 0) × (turns_to (record { inclusive = true; to = negsuc 0 }) (pos 0) ≡ 0)
turns = (refl, refl, refl, refl)

numbers : (numbers_to (record { inclusive = false; to = pos 3 }) (pos 1) ≡ record { low = pos 1; high = pos 2 })
    × (numbers_to (record { inclusive = false; to = pos 1 }) (pos 1) ≡ only (pos 1))
numbers = (refl, refl)

-- 300 turns inside of 300 are too many, and 200 inside of 300 are not
nested : (loop_turns (Some (record { name = codes "i"; ty = Int; interval = only (pos 0); turns = 300 })) 300 ≡ 90300)
    × (loop_turns (Some (record { name = codes "i"; ty = Int; interval = only (pos 0); turns = 300 })) 200 ≡ 60300)
nested = (refl, refl)

-- divisions and shifts are looked at, and sums are not
looked_at : (left right : Expr) → (operation_in (Binary Rem left right) ≡ record { op = Rem; left = left; right = right } ∷ [])
    × (operation_in (Binary Shl left right) ≡ record { op = Shl; left = left; right = right } ∷ [])
    × (operation_in (Binary Add left right) ≡ [])
looked_at left right = (refl, refl, refl)

-- a shift has a value whatever its operands are
shifts : (bounds : Bounds) (left right : Expr) → has_value bounds (record { op = Shl; left = left; right = right }) ≡ true
shifts bounds left right = refl
