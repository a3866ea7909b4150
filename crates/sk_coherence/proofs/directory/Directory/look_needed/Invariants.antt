use Rattle.std.proofs.Common.{ℕ, ◌-◌, ◌≤◌, IsSome}
use Rattle.sk_coherence_laws.specs.Directory.{copy_at}
use Rattle.sk_coherence_laws.specs.Serves.{Serves, GrowsAt}
use Rattle.sk_coherence.specs.Evicts.{KeepsFar, MakesHostBlocks}
use Rattle.sk_coherence.specs.Later.{AreLeft, AreServedLater}
use Rattle.sk_coherence.proofs.directory.Directory.look_needed.Given as goal

abbrev pub invariant-parts : goal.invariant-parts
invariant-parts g l = record {
  above : l.need.lo ≤ l.lo;
  below : l.lo ≤ l.need.hi;
  serves : Serves l.fn.self l.self;
  made : MakesHostBlocks l.fn.self l.self;
  traced : AreServedLater l.fn.self l.self l.copy.id l.need.lo l.need.hi;
  grows : (q : ℕ) → IsSome (copy_at l.fn.self q) → GrowsAt l.fn.self l.self q;
  others : KeepsFar l.fn.self l.self l.copy.id;
  left : AreLeft l.self l.copy.id l.need.lo l.lo l.transfers.items;
}

abbrev pub decreases-parts : goal.decreases-parts
decreases-parts g l = l.need.hi - l.lo
