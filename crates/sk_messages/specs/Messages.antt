-- Messages on their way between the copies of stores.
use Rattle.std.specs.Prelude.{◌≡◌, ◌≢◌, ℕ, ◌+◌, ◌-◌, ◌≤◌, ◌==◌, ◌&&◌, nat_lt, if◌then◌else◌, List, length, ℤ, Option, Some, None, slice_get, sum_by}
use Rattle.sk_spaces.specs.Machine.{do_overlap}

-- a message in flight: the cells of the indices lo ≤ i < hi of a store, on the way to a copy
pub record Mail : Type 0 where
  pub store : ℕ
  pub target : ℕ
  pub lo : ℕ
  pub hi : ℕ
  pub cells : List ℤ

-- The number of the first message that is remembered; of it and of each later one what is in flight, or nothing where it came
-- or was spoilt; and for how many more messages there is room, with how many cells in all.
pub record MessagesView : Type 0 where
  pub first : ℕ
  pub mails : List (Option Mail)
  pub room : ℕ
  pub cells : ℕ

abbrev pub mail_or_none : Option (Option Mail) → Option Mail
mail_or_none None = None
mail_or_none (Some mail) = mail

-- the message in flight with this number
abbrev pub mail_of : MessagesView → ℕ → Option Mail
mail_of messages number =
    if nat_lt number messages.first then None else mail_or_none (slice_get messages.mails (number - messages.first))

-- the number of the next message
abbrev pub next_of : MessagesView → ℕ
next_of messages = messages.first + length messages.mails

abbrev pub flies : Option Mail → ℕ
flies None = 0
flies (Some mail) = 1

abbrev pub flies_to : ℕ → Option Mail → ℕ
flies_to copy None = 0
flies_to copy (Some mail) = if mail.target == copy then 1 else 0

-- how many messages are in flight
abbrev pub flying_in : MessagesView → ℕ
flying_in messages = sum_by flies messages.mails

-- how many of them go to a copy
abbrev pub flying_to : ℕ → MessagesView → ℕ
flying_to copy messages = sum_by (flies_to copy) messages.mails

-- the same messages are in flight, and the next one has the same number
pub record IsSame (old new : MessagesView) : Type 0 where
  pub mails : (number : ℕ) → mail_of new number ≡ mail_of old number
  pub next : next_of new ≡ next_of old
  pub flying : flying_in new ≡ flying_in old
  pub flying_each : (copy : ℕ) → flying_to copy new ≡ flying_to copy old

-- one more message is in flight, with the next number, and took the room of one
pub record Puts (old new : MessagesView) (number : ℕ) (mail : Mail) : Type 0 where
  pub number_is : number ≡ next_of old
  pub here : mail_of new number ≡ Some mail
  pub others : (k : ℕ) → k ≢ number → mail_of new k ≡ mail_of old k
  pub next : next_of new ≡ next_of old + 1
  pub flying : flying_in new ≡ flying_in old + 1
  pub flying_each : (copy : ℕ) → flying_to copy new ≡ flying_to copy old + flies_to copy (Some mail)
  pub room : new.room + 1 ≡ old.room
  pub cells : new.cells + length mail.cells ≡ old.cells

-- a message is not in flight any more
pub record Takes (old new : MessagesView) (number : ℕ) (mail : Mail) : Type 0 where
  pub before : mail_of old number ≡ Some mail
  pub here : mail_of new number ≡ None
  pub others : (k : ℕ) → k ≢ number → mail_of new k ≡ mail_of old k
  pub next : next_of new ≡ next_of old
  pub flying : flying_in new + 1 ≡ flying_in old
  pub flying_each : (copy : ℕ) → flying_to copy new + flies_to copy (Some mail) ≡ flying_to copy old
  pub room : new.room ≡ old.room
  pub cells : new.cells ≡ old.cells

-- what is left of a message after these indices of a store changed: nothing where it takes one of them
abbrev pub left_of : (store lo hi : ℕ) → Option Mail → Option Mail
left_of store lo hi None = None
left_of store lo hi (Some mail) = if (mail.store == store) && do_overlap lo hi mail.lo mail.hi then None else Some mail

-- exactly the messages that take one of these indices of a store are not in flight any more
pub record Spoils (old new : MessagesView) (store lo hi : ℕ) : Type 0 where
  pub left : (number : ℕ) → mail_of new number ≡ left_of store lo hi (mail_of old number)
  pub next : next_of new ≡ next_of old
  pub flying : flying_in new ≤ flying_in old
  pub flying_each : (copy : ℕ) → flying_to copy new ≤ flying_to copy old
  pub room : new.room ≡ old.room
  pub cells : new.cells ≡ old.cells
