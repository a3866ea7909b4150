use Rattle.std.proofs.Common.{◌≡◌, ℕ, map, take}
use Rattle.sk_spaces.specs.Machine.{Machine}
use Rattle.sk_copy_states.specs.Copies.{ExpectsMore}
use Rattle.sk_coherence_laws.specs.Directory.{copy_at}
use Rattle.sk_coherence_laws.specs.Sends.{count_in}
use Rattle.sk_coherence_laws.specs.Traced.{IsLike}
use Rattle.sk_coherence.proofs.directory.Directory.expect_each.Given as goal

abbrev pub invariant-copies : goal.invariant-copies
invariant-copies g l = record {
  each : (q : ℕ) → ExpectsMore (count_in q (map (λ copy. copy.id) (take l.at l.to))) (copy_at l.fn.self q) (copy_at l.self q);
  same : l.self ≡ record l.fn.self { copies = l.self.copies };
  traced : (m : Machine) → IsLike m l.fn.self → IsLike m l.self;
}
