use Rattle.std.proofs.Common.{◌≡◌, ◌<◌, ◌≤◌, ◌*◌, ◌-◌, ◌^◌}
use Rattle.sk_columns.proofs.divide.scale_of.Given as goal

abbrev pub invariant-loop-power : goal.invariant-loop-power
invariant-loop-power l = (l.power ≡ 2 ^ (l.places - 31)) × (31 ≤ l.places) × (l.places ≤ 63) × (l.power < 2 * l.divisor)

abbrev pub decreases-loop-power : goal.decreases-loop-power
decreases-loop-power l = 63 - l.places
