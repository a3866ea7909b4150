use Rattle.std.proofs.Common.{◌≡◌, ◌-◌, length, drop}
use Rattle.sk_scopes.proofs.scopes.Scopes.leave.Given as goal

abbrev pub invariant-loop-self : goal.invariant-loop-self
invariant-loop-self g l = drop (length l.self - l.depth) l.self ≡ drop (length l.initial.self - l.depth) l.initial.self

abbrev pub decreases-loop-self : goal.decreases-loop-self
decreases-loop-self g l = length l.self
