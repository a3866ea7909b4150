use Rattle.std.proofs.Common.{◌≡◌, ◌+◌}
use Rattle.sk_copy_states.specs.Loose.{pinned_in}
use Rattle.sk_copy_states.proofs.room.pinned.Given as goal

abbrev pub invariant-copies : goal.invariant-copies
invariant-copies l = l.total + pinned_in l.space l.held-iterator ≡ pinned_in l.space l.copies.entries
