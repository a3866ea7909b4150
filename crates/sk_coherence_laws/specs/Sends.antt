-- Messages that are sent and come.
use Rattle.std.specs.Prelude.{◌≡◌, ◌≢◌, ℕ, ◌+◌, ◌<◌, ◌≤◌, ◌==◌, if◌then◌else◌, List, ◌∷◌, ◌++◌, length, sum_by, Some, IfSome, IsSome}
use Rattle.sk_ranges.specs.declared.state.State.TheVariants.{Owner}
use Rattle.sk_spaces.specs.declared.step.Step.TheVariants.{Send, Deliver}
use Rattle.sk_spaces.specs.Spaces.{NotesStep, OnlyNotes, Stays, used_at}
use Rattle.sk_copy_states.specs.Copies.{FillsAt, ExpectsMore, store_in, home_in, state_in, cell_in, expected_in}
use Rattle.sk_messages.specs.Messages.{Mail, Puts, Takes, IsSame, flying_in, flying_to}
use Rattle.sk_coherence_laws.specs.Directory.{DirectoryView, copy_at, cells_of_copy, mail_cell}
use Rattle.sk_coherence_laws.specs.Moves.{TakesIn}

-- how often a copy stands in a list
abbrev pub count_in : ℕ → List ℕ → ℕ
count_in copy to = sum_by (λ q. if q == copy then 1 else 0) to

-- Besides the messages in flight there is room for one message to each listed copy, with so many cells in all: for the messages
-- and their cells, for the steps of their sending and delivery, and for their changes of the copies' states.
pub record HasSends (d : DirectoryView) (to : List ℕ) (len : ℕ) : Type 0 where
  pub messages : length to ≤ d.messages.room
  pub cells : len ≤ d.messages.cells
  pub steps : flying_in d.messages + (length to + length to) ≤ d.aside
  pub deliveries : (q : ℕ) → IsSome (copy_at d q) → flying_to q d.messages + count_in q to ≤ expected_in (copy_at d q)

-- for what messages there was room there is room still
abbrev pub KeepsSends : DirectoryView → DirectoryView → Type 0
KeepsSends old new = (to : List ℕ) (cells : ℕ) → HasSends old to cells → HasSends new to cells

-- besides the messages for which there was room there is room for these
abbrev pub AddsSends : DirectoryView → DirectoryView → List ℕ → ℕ → Type 0
AddsSends old new more len = (to : List ℕ) (cells : ℕ) → HasSends old to cells → HasSends new (more ++ to) (len + cells)

-- the room of one message to a copy, with so many cells, is used up
abbrev pub UsesSend : DirectoryView → DirectoryView → ℕ → ℕ → Type 0
UsesSend old new copy len = (to : List ℕ) (cells : ℕ) → HasSends old (copy ∷ to) (len + cells) → HasSends new to cells

-- copies, stores, cells, messages in flight and steps are as before; there may be room for more messages
pub record MakesRoom (old new : DirectoryView) : Type 0 where
  pub copies : (q : ℕ) → (more : ℕ) × ExpectsMore more (copy_at old q) (copy_at new q)
  pub stores : new.stores ≡ old.stores
  pub next : new.next ≡ old.next
  pub owed : new.owed ≡ old.owed
  pub named : new.named ≡ old.named
  pub ready : old.ready ≤ new.ready
  pub messages : IsSame old.messages new.messages
  pub spaces : Stays old.spaces new.spaces old.spaces.named

-- two copies lie in two spaces
abbrev pub LieApart : DirectoryView → ℕ → ℕ → Type 0
LieApart d from to = IfSome (home_in (copy_at d from)) (λ one. IfSome (home_in (copy_at d to)) (λ other. one.space ≢ other.space))

-- a message of a copy's cells at these indices, on the way to another copy
pub record IsMailFrom (d : DirectoryView) (from to lo hi : ℕ) (mail : Mail) : Type 0 where
  pub store : store_in (copy_at d from) ≡ Some mail.store
  pub target : mail.target ≡ to
  pub lo_is : mail.lo ≡ lo
  pub hi_is : mail.hi ≡ hi
  pub whole : lo + length mail.cells ≡ hi
  pub cells : (i : ℕ) → lo ≤ i → i < hi → mail_cell mail i ≡ cell_in (cells_of_copy d from) i

-- a message is in flight with the cells that a copy has at these indices, and took the room of one; nothing else changed
pub record Sends (old new : DirectoryView) (number from to lo hi : ℕ) : Type 0 where
  pub mail : Mail
  pub is_from : IsMailFrom old from to lo hi mail
  pub puts : Puts old.messages new.messages number mail
  pub copies : new.copies ≡ old.copies
  pub stores : new.stores ≡ old.stores
  pub next : new.next ≡ old.next
  pub owed : new.owed ≡ old.owed
  pub ready : new.ready ≡ old.ready
  pub named : new.named ≡ old.named
  pub aside : new.aside + 1 ≡ old.aside
  pub spaces : OnlyNotes old.spaces new.spaces (Send number from to lo hi)

-- A message came to its copy, which is valid now where it was stale, with the message's cells; what it owns keeps its cells.
-- Nothing else changed, and the room of a delivery was used up.
pub record Delivers (old new : DirectoryView) (number : ℕ) (mail : Mail) : Type 0 where
  pub target : FillsAt (copy_at old mail.target) (copy_at new mail.target) mail.lo mail.hi
  pub others : (q : ℕ) → q ≢ mail.target → copy_at new q ≡ copy_at old q
  pub values : TakesIn (mail_cell mail) (cell_in (cells_of_copy old mail.target)) (cell_in (cells_of_copy new mail.target)) mail.lo mail.hi
  pub owned : (i : ℕ) → state_in (copy_at old mail.target) i ≡ Owner
      → cell_in (cells_of_copy new mail.target) i ≡ cell_in (cells_of_copy old mail.target) i
  pub other_values : (q : ℕ) → q ≢ mail.target → cells_of_copy new q ≡ cells_of_copy old q
  pub takes : Takes old.messages new.messages number mail
  pub stores : new.stores ≡ old.stores
  pub next : new.next ≡ old.next
  pub owed : new.owed ≡ old.owed
  pub ready : new.ready ≡ old.ready
  pub named : new.named ≡ old.named
  pub aside : new.aside + 1 ≡ old.aside
  pub next_copy : new.spaces.memories.next ≡ old.spaces.memories.next
  pub ranks : new.spaces.memories.ranks ≡ old.spaces.memories.ranks
  pub capacity : new.spaces.memories.capacity ≡ old.spaces.memories.capacity
  pub used : (space : ℕ) → used_at new.spaces space ≡ used_at old.spaces space
  pub noted : NotesStep old.spaces new.spaces (Deliver number)
