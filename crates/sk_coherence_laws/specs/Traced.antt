-- A directory and the machine of a trace.
use Rattle.std.specs.Prelude.{◌≡◌, ◌≢◌, ℕ, ℤ, ◌+◌, ◌-◌, ◌≤◌, ◌<◌, List, slice_index_or, Option, Some, None, IfSome, IsSome, IsSomeAnd, pos, ◌⊎◌}
use Rattle.sk_ranges.specs.declared.state.State.TheVariants.{Stale}
use Rattle.sk_spaces.specs.Machine.{Machine, Home, CopyState, unused, live, freed, StoreLine, Message, flying, writes}
use Rattle.sk_spaces.specs.Spaces.{used_at, OnlyNotes}
use Rattle.sk_copy_states.specs.Held.{mark_of}
use Rattle.sk_copy_states.specs.Copies.{state_in, cell_in, home_in}
use Rattle.sk_spaces.specs.declared.step.Step.{Step}
use Rattle.sk_spaces.specs.declared.step.Step.TheVariants.{Store}
use Rattle.sk_spaces.specs.Rules.{IsLegal, after}
use Rattle.sk_copy_states.specs.Stores.{StoreView, PutsStore}
use Rattle.sk_messages.specs.Messages.{Mail, next_of}
use Rattle.sk_coherence_laws.specs.Directory.{DirectoryView, copy_at, store_at, cells_of_copy, mail_at, mail_cell}

-- where a live copy lies
abbrev pub live_home : CopyState → Option Home
live_home unused = None
live_home (live home) = Some home
live_home freed = None

-- the line of a store
abbrev pub IsLineOf : StoreView → StoreLine → Type 0
IsLineOf store line = (line.ty ≡ store.ty) × (line.shape ≡ store.shape)

-- the message is in flight with these cells
pub record IsMessageOf (mail : Mail) (message : Message) : Type 0 where
  pub store : message.store ≡ mail.store
  pub target : message.target ≡ mail.target
  pub lo : message.lo ≡ mail.lo
  pub hi : message.hi ≡ mail.hi
  pub fate : message.fate ≡ flying
  pub cells : (i : ℕ) → mail.lo ≤ i → i < mail.hi → message.cells i ≡ mail_cell mail i

-- the message will not come: it came or was spoilt, or its copy is gone
abbrev pub IsPast : (ℕ → CopyState) → Message → Type 0
IsPast copies message = (message.fate ≢ flying) ⊎ (live_home (copies message.target) ≡ None)

-- A machine with these messages and copies has the messages of the directory in flight, and no other one will come. The numbers
-- of its messages, and of the copies that they go to, are below the next ones of the directory.
pub record HasMessages (messages : ℕ → Option Message) (copies : ℕ → CopyState) (d : DirectoryView) : Type 0 where
  pub mails : (number : ℕ) → IfSome (mail_at d number) (λ mail. IsSomeAnd (messages number) (IsMessageOf mail))
  pub past : (number : ℕ) → mail_at d number ≡ None → IfSome (messages number) (IsPast copies)
  pub fresh : (number : ℕ) → next_of d.messages ≤ number → messages number ≡ None
  pub given : (number : ℕ) → IfSome (messages number) (λ message. message.target < d.spaces.memories.next)

-- The machine has the directory's capacity, ranks, stores, copies, states, cells that may be read, and messages. Besides it may
-- have other stores, and messages that came, were spoilt or have lost their copy. The numbers of its stores, copies and
-- messages, and of the copies that its messages go to, are below the next ones of the directory.
pub record IsLike (m : Machine) (d : DirectoryView) : Type 0 where
  pub memory : IsSomeAnd m.memory (λ line. (line.ranks ≡ d.spaces.memories.ranks) × (line.capacity ≡ d.spaces.memories.capacity))
  pub stores : (s : ℕ) → IfSome (store_at d s) (λ store. IsSomeAnd (m.stores s) (IsLineOf store))
  pub new_stores : (s : ℕ) → d.next ≤ s → m.stores s ≡ None
  pub copies : (q : ℕ) → live_home (m.copies q) ≡ home_in (copy_at d q)
  pub new_copies : (q : ℕ) → d.spaces.memories.next ≤ q → m.copies q ≡ unused
  pub marks : (q i : ℕ) → IsSome (copy_at d q) → m.marks q i ≡ mark_of (state_in (copy_at d q) i)
  pub cells : (q i : ℕ) → state_in (copy_at d q) i ≢ Stale → m.cells q i ≡ cell_in (cells_of_copy d q) i
  pub used : (space : ℕ) → 0 < space → m.used space ≡ used_at d.spaces space
  pub messages : HasMessages m.messages m.copies d

-- the machine's write of these cells leaves what is seen of the directory after it
abbrev pub TracesWrite : DirectoryView → DirectoryView → ℕ → ℕ → ℕ → List ℤ → Type 0
TracesWrite old new copy lo hi cells = (m : Machine) → IsLike m old
    → IsLike (writes copy lo hi (λ i. slice_index_or cells (i - lo) (pos 0)) m) new

-- this step is legal wherever the machine is like the directory before, and leaves what is seen of it after
abbrev pub TracesStep : DirectoryView → DirectoryView → Step → Type 0
TracesStep old new step = (m : Machine) → IsLike m old → IsLegal m step × IsLike (after m step) new

-- a store was opened: it has the next number and no copies, and nothing else changed
pub record Opens (old new : DirectoryView) (id : ℕ) (store : StoreView) : Type 0 where
  pub number : id ≡ old.next
  pub stores : PutsStore old.stores new.stores id store
  pub next : new.next ≡ old.next + 1
  pub copies : new.copies ≡ old.copies
  pub owed : new.owed ≡ old.owed
  pub ready : old.ready ≤ new.ready + 1
  pub named : new.named ≡ old.named
  pub messages : new.messages ≡ old.messages
  pub aside : new.aside ≡ old.aside
  pub spaces : OnlyNotes old.spaces new.spaces (Store id store.ty store.shape)
