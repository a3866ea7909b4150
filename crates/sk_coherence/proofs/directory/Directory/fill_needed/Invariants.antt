use Rattle.std.proofs.Common.{◌≢◌, ℕ, ◌-◌, ◌≤◌}
use Rattle.sk_copy_states.specs.Copies.{KeepsStates}
use Rattle.sk_coherence_laws.specs.Directory.{copy_at}
use Rattle.sk_copy_states.specs.Sources.{MayRead}
use Rattle.sk_coherence_laws.specs.Serves.{Serves, GrowsAt}
use Rattle.sk_coherence_laws.specs.Steps.{AreFilled}
use Rattle.sk_coherence.proofs.directory.Directory.fill_needed.Given as goal

abbrev pub invariant-parts : goal.invariant-parts
invariant-parts g l = record {
  above : l.need.lo ≤ l.lo;
  below : l.lo ≤ l.need.hi;
  serves : Serves l.fn.self l.self;
  traced : AreFilled l.fn.self l.self l.copy.id l.need.lo l.need.hi;
  stays : GrowsAt l.fn.self l.self l.copy.id;
  grows : (q : ℕ) → GrowsAt l.fn.self l.self q;
  others : (q : ℕ) → q ≢ l.copy.id → KeepsStates (copy_at l.fn.self q) (copy_at l.self q);
  done : MayRead (copy_at l.self l.copy.id) l.need.lo l.lo;
}

abbrev pub decreases-parts : goal.decreases-parts
decreases-parts g l = l.need.hi - l.lo
