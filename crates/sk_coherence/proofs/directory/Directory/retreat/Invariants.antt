use Rattle.std.proofs.Common.{◌-◌, ◌≤◌}
use Rattle.sk_coherence_laws.specs.Directory.{copy_at}
use Rattle.sk_coherence.specs.Evicts.{OwnsNone, Retreats}
use Rattle.sk_coherence.proofs.directory.Directory.retreat.Given as goal

abbrev pub invariant-parts : goal.invariant-parts
invariant-parts g l = record {
  above : l.block.lo ≤ l.lo;
  below : l.lo ≤ l.block.hi;
  retreats : Retreats l.fn.self l.self l.copy.id;
  none : OwnsNone (copy_at l.self l.copy.id) l.block.lo l.lo;
}

abbrev pub decreases-parts : goal.decreases-parts
decreases-parts g l = l.block.hi - l.lo
