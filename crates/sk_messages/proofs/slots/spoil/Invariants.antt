use Rattle.std.proofs.Common.{◌≡◌, ◌≤◌, ◌++◌, map, take, drop, sum_by}
use Rattle.sk_messages.specs.Slots.{left_slot, flies_slot}
use Rattle.sk_messages.proofs.slots.spoil.Given as goal

abbrev pub invariant-slots : goal.invariant-slots
invariant-slots l = record {
  done : l.slots ≡ map (left_slot l.store l.range.lo l.range.hi) (take l.at l.fn.slots) ++ drop l.at l.fn.slots;
  counted : l.flying ≡ sum_by flies_slot (map (left_slot l.store l.range.lo l.range.hi) (take l.at l.fn.slots));
  few : l.flying ≤ l.at;
}
