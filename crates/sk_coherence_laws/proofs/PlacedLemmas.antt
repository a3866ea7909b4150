-- A machine that has a directory's stores and copies, and one that is like it.
use Rattle.std.proofs.Common.{◌≡◌, ◌≢◌, ℕ, IsSome}
use Rattle.sk_ranges.specs.declared.state.State.TheVariants.{Stale}
use Rattle.sk_spaces.specs.Machine.{Machine}
use Rattle.sk_copy_states.specs.Held.{mark_of}
use Rattle.sk_copy_states.specs.Copies.{state_in, cell_in}
use Rattle.sk_coherence_laws.specs.Directory.{DirectoryView, copy_at, cells_of_copy}
use Rattle.sk_coherence_laws.specs.Traced.{IsLike}
use Rattle.sk_coherence_laws.specs.Retires.{IsPlaced}

pub placed-like : (m : Machine) (d : DirectoryView) → IsLike m d → IsPlaced m d
placed-like m d l = record {
  memory = l.memory;
  stores = l.stores;
  new_stores = l.new_stores;
  copies = l.copies;
  new_copies = l.new_copies;
  used = l.used;
  messages = l.messages;
}

pub like-placed : (m : Machine) (d : DirectoryView) → IsPlaced m d
    → ((q i : ℕ) → IsSome (copy_at d q) → m.marks q i ≡ mark_of (state_in (copy_at d q) i))
    → ((q i : ℕ) → state_in (copy_at d q) i ≢ Stale → m.cells q i ≡ cell_in (cells_of_copy d q) i) → IsLike m d
like-placed m d p marks cells = record {
  memory = p.memory;
  stores = p.stores;
  new_stores = p.new_stores;
  copies = p.copies;
  new_copies = p.new_copies;
  marks = marks;
  cells = cells;
  used = p.used;
  messages = p.messages;
}
