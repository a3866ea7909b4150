-- The memories of a trace, index by index: what is true between two of its lines.
use Rattle.std.specs.Prelude.{◌≡◌, ℕ, ℤ, ◌+◌, ◌-◌, Bool, false, ◌==◌, ◌&&◌, List, nat_lt, nat_le, max, min, Some, None, if◌then◌else◌, pos}
use Rattle.std.specs.declared.option.Option.{Option}
use Rattle.std.specs.Option.{option_map}
use Rattle.sk_base.specs.declared.choice.Variant.{Variant}
use Rattle.sk_base.specs.declared.number.Ty.{Ty}
use Rattle.sk_spaces.specs.declared.step.CallSettings.{CallSettings}

-- what a copy has at an index: nothing that may be read, the owner's cell, or the cell that was written last
pub data Mark : Type 0 where
  stale : Mark
  valid : Mark
  owner : Mark

-- where a copy lies: the indices lo ≤ i < hi of a store, in a space
pub record Home : Type 0 where
  pub store : ℕ
  pub space : ℕ
  pub lo : ℕ
  pub hi : ℕ

-- what became of a number of a copy
pub data CopyState : Type 0 where
  unused : CopyState
  live : Home → CopyState
  freed : CopyState

-- what became of a message
pub data Fate : Type 0 where
  flying : Fate
  spoilt : Fate
  delivered : Fate

-- a message: indices of a store with their cells, on the way to a copy
pub record Message : Type 0 where
  pub store : ℕ
  pub target : ℕ
  pub lo : ℕ
  pub hi : ℕ
  pub cells : ℕ → ℤ
  pub fate : Fate

-- a store: the type of its cells, and its sizes
pub record StoreLine : Type 0 where
  pub ty : Ty
  pub shape : List ℕ

-- the first line of a run
pub record MemoryLine : Type 0 where
  pub ranks : ℕ
  pub capacity : ℕ
  pub tile : ℕ
  pub lineage : ℕ

-- a call of an instance: the line of the text in which it stands, and what is said of it
pub record CallLine : Type 0 where
  pub line : ℕ
  pub instance : ℕ
  pub variant : Variant
  pub parts : ℕ
  pub recorded : Bool
  -- the store of its result, where that is a container
  pub result : Option ℕ
  -- the stores of its operands
  pub operands : List ℕ
  pub uniforms : List ℤ
  pub settings : CallSettings

pub record Machine : Type 0 where
  -- the first line, or none before it
  pub memory : Option MemoryLine
  pub stores : ℕ → Option StoreLine
  pub copies : ℕ → CopyState
  -- the mark and the cell of a copy at an index of its store
  pub marks : ℕ → ℕ → Mark
  pub cells : ℕ → ℕ → ℤ
  -- how many cells the live copies of a space have together
  pub used : ℕ → ℕ
  pub messages : ℕ → Option Message
  -- each call so far
  pub calls : ℕ → Option CallLine
  -- the store of each container that has one
  pub bound : ℕ → Option ℕ

-- before the first line
abbrev pub start : Machine
start = record {
  memory = None;
  stores = λ store. None;
  copies = λ copy. unused;
  marks = λ copy i. stale;
  cells = λ copy i. pos 0;
  used = λ space. 0;
  messages = λ message. None;
  calls = λ call. None;
  bound = λ container. None;
}

-- f with x at k
abbrev pub replaced : {A : Type 0} → (ℕ → A) → ℕ → A → ℕ → A
replaced f k x q = if q == k then x else f q

-- whether lo ≤ i < hi
abbrev pub is_within : ℕ → ℕ → ℕ → Bool
is_within lo hi i = nat_le lo i && nat_lt i hi

-- whether some index is in both ranges
abbrev pub do_overlap : ℕ → ℕ → ℕ → ℕ → Bool
do_overlap lo hi from to = nat_lt (max lo from) (min hi to)

-- whether a copy is there and is one of the store
abbrev pub is_copy_of : ℕ → CopyState → Bool
is_copy_of store unused = false
is_copy_of store (live home) = home.store == store
is_copy_of store freed = false

-- a message that was in flight will not come
abbrev pub spoilt_fate : Fate → Fate
spoilt_fate flying = spoilt
spoilt_fate spoilt = spoilt
spoilt_fate delivered = delivered

-- the message after these indices of the store changed: it is spoilt where it was in flight over one of them
abbrev pub after_change : ℕ → ℕ → ℕ → Message → Message
after_change store lo hi message =
    if (message.store == store) && do_overlap lo hi message.lo message.hi
    then record message { fate = spoilt_fate message.fate } else message

-- the messages after these indices of the store changed
abbrev pub spoils : ℕ → ℕ → ℕ → (ℕ → Option Message) → ℕ → Option Message
spoils store lo hi messages k = option_map (after_change store lo hi) (messages k)

-- every copy of the store is stale at these indices, and messages over them are spoilt
abbrev pub stales : ℕ → ℕ → ℕ → Machine → Machine
stales store lo hi m = record m {
  marks = λ q i. if is_copy_of store (m.copies q) && is_within lo hi i then stale else m.marks q i;
  messages = spoils store lo hi m.messages;
}

-- the mark of an index that was filled
abbrev pub filled_mark : Mark → Mark
filled_mark stale = valid
filled_mark valid = valid
filled_mark owner = owner

-- a copy gets these cells at these indices, and is valid there unless it is the owner
abbrev pub fills : ℕ → ℕ → ℕ → (ℕ → ℤ) → Machine → Machine
fills target lo hi cells m = record m {
  marks = λ q i. if (q == target) && is_within lo hi i then filled_mark (m.marks q i) else m.marks q i;
  cells = λ q i. if (q == target) && is_within lo hi i then cells i else m.cells q i;
}

-- the second copy has the cells of the first at these indices and owns them, and the first is valid there
abbrev pub hands_over : ℕ → ℕ → ℕ → ℕ → Machine → Machine
hands_over source target lo hi m = record m {
  marks = λ q i. if is_within lo hi i then (if q == target then owner else if q == source then valid else m.marks q i) else m.marks q i;
  cells = λ q i. if (q == target) && is_within lo hi i then m.cells source i else m.cells q i;
}

-- a copy of the store owns these indices and has these cells there, every other copy of the store is stale there, and
-- messages over them are spoilt
abbrev pub writes_in : ℕ → ℕ → ℕ → ℕ → (ℕ → ℤ) → Machine → Machine
writes_in store copy lo hi cells m = record m {
  marks = λ q i. if is_copy_of store (m.copies q) && is_within lo hi i then (if q == copy then owner else stale) else m.marks q i;
  cells = λ q i. if (q == copy) && is_within lo hi i then cells i else m.cells q i;
  messages = spoils store lo hi m.messages;
}

-- a write of these cells at these indices of a copy, which lies so
abbrev pub writes_at : CopyState → ℕ → ℕ → ℕ → (ℕ → ℤ) → Machine → Machine
writes_at unused copy lo hi cells m = m
writes_at (live home) copy lo hi cells m = writes_in home.store copy lo hi cells m
writes_at freed copy lo hi cells m = m

-- a write of these cells at these indices of a copy
abbrev pub writes : ℕ → ℕ → ℕ → (ℕ → ℤ) → Machine → Machine
writes copy lo hi cells m = writes_at (m.copies copy) copy lo hi cells m

-- a new copy, all stale
abbrev pub allocates : ℕ → Home → Machine → Machine
allocates copy home m = record m {
  copies = replaced m.copies copy (live home);
  marks = λ q i. if q == copy then stale else m.marks q i;
  used = λ space. if space == home.space then m.used space + (home.hi - home.lo) else m.used space;
}

-- the copy, which lies so, is gone
abbrev pub frees_at : CopyState → ℕ → Machine → Machine
frees_at unused copy m = m
frees_at (live home) copy m = record m {
  copies = replaced m.copies copy freed;
  used = λ space. if space == home.space then m.used space - (home.hi - home.lo) else m.used space;
}
frees_at freed copy m = m

-- the copy is gone
abbrev pub frees : ℕ → Machine → Machine
frees copy m = frees_at (m.copies copy) copy m

-- a message in flight with the cells of a copy, which lies so, at these indices
abbrev pub sends_at : CopyState → ℕ → ℕ → ℕ → ℕ → ℕ → Machine → Machine
sends_at unused number source target lo hi m = m
sends_at (live home) number source target lo hi m = record m {
  messages = replaced m.messages number (Some (record {
    store = home.store;
    target = target;
    lo = lo;
    hi = hi;
    cells = m.cells source;
    fate = flying;
  }));
}
sends_at freed number source target lo hi m = m

-- a message in flight with the cells of a copy at these indices
abbrev pub sends : ℕ → ℕ → ℕ → ℕ → ℕ → Machine → Machine
sends number source target lo hi m = sends_at (m.copies source) number source target lo hi m

-- this message comes to its copy
abbrev pub delivers_it : Option Message → ℕ → Machine → Machine
delivers_it None number m = m
delivers_it (Some message) number m = fills message.target message.lo message.hi message.cells
    (record m { messages = replaced m.messages number (Some (record message { fate = delivered })) })

-- a message comes to its copy
abbrev pub delivers : ℕ → Machine → Machine
delivers number m = delivers_it (m.messages number) number m
