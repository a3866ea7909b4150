-- The messages as they are kept: each with the place of its cells among those of all messages.
use Rattle.std.specs.Prelude.{◌≡◌, ℕ, ℤ, ◌+◌, ◌-◌, ◌<◌, ◌≤◌, ◌^◌, ◌==◌, ◌&&◌, ⊤, if◌then◌else◌, List, [], ◌∷◌, length, map, slice_get, slice_range, sum_by, nat_lt, Option, Some, None, IfSome}
use Rattle.std.specs.Option.{option_map}
use Rattle.sk_spaces.specs.Machine.{do_overlap}
use Rattle.sk_messages.specs.declared.slots.Sent.{Sent}
use Rattle.sk_messages.specs.declared.slots.Slot.{Slot}
use Rattle.sk_messages.specs.Messages.{Mail}

-- the number of cells of a message
abbrev pub len_of : Slot → ℕ
len_of slot = slot.sent.range.hi - slot.sent.range.lo

-- the message with its cells
abbrev pub mail_in : List ℤ → Slot → Mail
mail_in pool slot = record {
  store = slot.sent.store;
  target = slot.sent.target;
  lo = slot.sent.range.lo;
  hi = slot.sent.range.hi;
  cells = slice_range pool slot.at (slot.at + len_of slot);
}

-- each message with its cells
abbrev pub mails_in : List ℤ → List (Option Slot) → List (Option Mail)
mails_in pool slots = map (option_map (mail_in pool)) slots

abbrev pub slot_or_none : Option (Option Slot) → Option Slot
slot_or_none None = None
slot_or_none (Some slot) = slot

-- the message in flight with this number, where the first slot is that of the message with the number first
abbrev pub slot_of : (slots : List (Option Slot)) (first number : ℕ) → Option Slot
slot_of slots first number = if nat_lt number first then None else slot_or_none (slice_get slots (number - first))

-- 1 for a message in flight
abbrev pub flies_slot : Option Slot → ℕ
flies_slot None = 0
flies_slot (Some slot) = 1

-- what is left of a message after these indices of a store changed
abbrev pub left_slot : (store lo hi : ℕ) → Option Slot → Option Slot
left_slot store lo hi None = None
left_slot store lo hi (Some slot) =
    if (slot.sent.store == store) && do_overlap lo hi slot.sent.range.lo slot.sent.range.hi then None else Some slot

-- the cells of each message lie among the first so many
abbrev pub AreInside : ℕ → List (Option Slot) → Type 0
AreInside count [] = ⊤
AreInside count (slot ∷ slots) = IfSome slot (λ sent. sent.at + len_of sent ≤ count) × AreInside count slots

-- What is true of messages as they are kept: there is memory for what was reserved, and no number reaches 2 ^ 64.
pub record IsKept (first flying room cells : ℕ) (slots : List (Option Slot)) (pool : List ℤ) (places pool_places : ℕ) : Type 0 where
  pub counted : flying ≡ sum_by flies_slot slots
  pub inside : AreInside (length pool) slots
  pub slots_fit : length slots + room ≤ places
  pub cells_fit : length pool + cells ≤ pool_places
  pub numbers_fit : first + length slots + room < 2 ^ 64

-- what is sent is this message
pub record IsSent (mail : Mail) (sent : Sent) : Type 0 where
  pub store : sent.store ≡ mail.store
  pub target : sent.target ≡ mail.target
  pub lo : sent.range.lo ≡ mail.lo
  pub hi : sent.range.hi ≡ mail.hi
