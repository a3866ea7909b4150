use Rattle.std.proofs.Common.{◌≢◌, ℕ, ◌-◌, ◌<◌, ◌≤◌}
use Rattle.sk_ranges.specs.declared.state.State.TheVariants.{Owner}
use Rattle.sk_copy_states.specs.Held.{state_of}
use Rattle.sk_copy_states.proofs.owners.owns_some.Given as goal

abbrev pub invariant-parts : goal.invariant-parts
invariant-parts l = record {
  above : l.held.lo ≤ l.lo;
  below : l.lo ≤ l.held.hi;
  none : (i : ℕ) → l.held.lo ≤ i → i < l.lo → state_of l.held i ≢ Owner;
}

abbrev pub decreases-parts : goal.decreases-parts
decreases-parts l = l.held.hi - l.lo
