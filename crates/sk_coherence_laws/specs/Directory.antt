-- What is seen of a directory, and what is true of each.
use Rattle.std.specs.Prelude.{◌≡◌, ◌≢◌, ℕ, ℤ, pos, ◌+◌, ◌-◌, ◌≤◌, ◌<◌, List, length, slice_index, slice_index_or, Option, Some, None, IfSome, IsSome}
use Rattle.sk_ranges.specs.declared.state.State.TheVariants.{Stale, Owner}
use Rattle.sk_spaces.specs.declared.step.Step.{Step}
use Rattle.sk_spaces.specs.Machine.{Home}
use Rattle.sk_spaces.specs.Blocks.{BlockView, IsWhole}
use Rattle.sk_spaces.specs.Spaces.{SpacesView, block_at}
use Rattle.sk_copy_states.specs.declared.held.Held.{Held}
use Rattle.sk_copy_states.specs.Held.{IsFit}
use Rattle.sk_copy_states.specs.Copies.{held_in, state_in, cell_in, home_in, store_in, expected_in}
use Rattle.sk_copy_states.specs.Stores.{StoreView, store_of, copies_in, changes_in, len_in, AreRising, HasTile}
use Rattle.sk_messages.specs.Messages.{MessagesView, Mail, mail_of, flying_in, flying_to}

-- the spaces with the cells of the copies, the copies and the stores by number, the number of the next store, for how many
-- steps the journal is known to have room, how many of them are owed to calls that take no memory, the step as which the next
-- write is noted, the messages in flight, and for how many steps of messages the journal has room besides
pub record DirectoryView : Type 0 where
  pub spaces : SpacesView
  pub copies : List (ℕ × Held)
  pub stores : List (ℕ × StoreView)
  pub next : ℕ
  pub ready : ℕ
  pub owed : ℕ
  pub named : Option Step
  pub messages : MessagesView
  pub aside : ℕ

abbrev pub copy_at : DirectoryView → ℕ → Option Held
copy_at d id = held_in d.copies id

abbrev pub store_at : DirectoryView → ℕ → Option StoreView
store_at d id = store_of d.stores id

abbrev pub cells_of_copy : DirectoryView → ℕ → Option BlockView
cells_of_copy d id = block_at d.spaces id

-- the message in flight with this number
abbrev pub mail_at : DirectoryView → ℕ → Option Mail
mail_at d number = mail_of d.messages number

-- the cell of a message at an index of the store
abbrev pub mail_cell : Mail → ℕ → ℤ
mail_cell mail i = slice_index_or mail.cells (i - mail.lo) (pos 0)

-- where a block lies
abbrev pub block_home : Option BlockView → Option Home
block_home None = None
block_home (Some block) = Some (record { store = block.store; space = block.space; lo = block.lo; hi = block.hi })

-- no index of a store has two owners, and a cell that may be read is the owner's
pub record AreCoherent (held : ℕ → Option Held) (cells : ℕ → Option BlockView) : Type 0 where
  pub single : (j k i : ℕ) → store_in (held j) ≡ store_in (held k) → state_in (held j) i ≡ Owner → state_in (held k) i ≡ Owner → j ≡ k
  pub equal : (j k i : ℕ) → store_in (held j) ≡ store_in (held k) → state_in (held j) i ≡ Owner → state_in (held k) i ≢ Stale
      → cell_in (cells k) i ≡ cell_in (cells j) i

-- A message has a cell for each of its indices, goes to a copy of its store that has them, if that is there still, and each owner
-- of one of them has the message's cell. The number of its copy, and that of its store, is below the next one.
pub record IsMail (next next_store : ℕ) (held : ℕ → Option Held) (cells : ℕ → Option BlockView) (mail : Mail) : Type 0 where
  pub whole : mail.lo + length mail.cells ≡ mail.hi
  pub given : mail.target < next
  pub given_store : mail.store < next_store
  pub target : IfSome (home_in (held mail.target)) (λ home. (home.store ≡ mail.store) × (home.lo ≤ mail.lo) × (mail.hi ≤ home.hi))
  pub equal : (q i : ℕ) → store_in (held q) ≡ Some mail.store → state_in (held q) i ≡ Owner → mail.lo ≤ i → i < mail.hi
      → cell_in (cells q) i ≡ mail_cell mail i

-- the messages of a directory, each of which has the room of its delivery: a step, and a change of its copy's states
pub record AreMailed (d : DirectoryView) : Type 0 where
  pub mails : (number : ℕ) → IfSome (mail_at d number) (IsMail d.spaces.memories.next d.next (copy_at d) (cells_of_copy d))
  pub steps : flying_in d.messages ≤ d.aside
  pub deliveries : (q : ℕ) → IsSome (copy_at d q) → flying_to q d.messages ≤ expected_in (copy_at d q)
  pub unsent : (q : ℕ) → d.spaces.memories.next ≤ q → flying_to q d.messages ≡ 0

-- some indices, and all of them are among those of the store
abbrev pub LiesInside : DirectoryView → Option Home → Type 0
LiesInside d home = IfSome home (λ h. (h.lo < h.hi) × (h.hi ≤ len_in (store_at d h.store)))

-- what is true of every directory
pub record IsSound (d : DirectoryView) : Type 0 where
  -- each copy has a state for each index of its block, and a block of cells of the same number
  pub fit : (q : ℕ) → IfSome (copy_at d q) IsFit
  pub whole : (q : ℕ) → IfSome (cells_of_copy d q) IsWhole
  pub tied : (q : ℕ) → block_home (cells_of_copy d q) ≡ home_in (copy_at d q)
  pub inside : (q : ℕ) → LiesInside d (home_in (copy_at d q))
  -- a store lists its copies
  pub listed : (s k : ℕ) → k < length (copies_in (store_at d s)) → store_in (copy_at d (slice_index (copies_in (store_at d s)) k)) ≡ Some s
  pub complete : (s q : ℕ) → store_in (copy_at d q) ≡ Some s
      → (k : ℕ) × (k < length (copies_in (store_at d s))) × (slice_index (copies_in (store_at d s)) k ≡ q)
  pub rising : (s : ℕ) → AreRising (copies_in (store_at d s))
  pub tiles : (s : ℕ) → IfSome (store_at d s) HasTile
  -- the room that is owed is there
  pub room : (q : ℕ) → IfSome (copy_at d q) (λ held. changes_in (store_at d held.store) + held.expected ≤ held.states.reserved)
  pub owed : d.owed ≤ d.ready
  pub ready : d.ready + d.aside ≤ d.spaces.journal.spare
  -- numbers are given in order
  pub new_copies : (q : ℕ) → d.spaces.memories.next ≤ q → copy_at d q ≡ None
  pub new_stores : (s : ℕ) → d.next ≤ s → store_at d s ≡ None
  pub coherent : AreCoherent (copy_at d) (cells_of_copy d)
  pub mailed : AreMailed d
