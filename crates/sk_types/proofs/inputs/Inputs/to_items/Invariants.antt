use Rattle.std.proofs.Common.{◌≡◌, ◌-◌, take, length}
use Rattle.sk_types.proofs.inputs.Inputs.to_items.Given as goal

abbrev pub invariant-inputs : goal.invariant-inputs
invariant-inputs l = l.items ≡ take l.index l.self

abbrev pub decreases-inputs : goal.decreases-inputs
decreases-inputs l = length l.self - l.index
