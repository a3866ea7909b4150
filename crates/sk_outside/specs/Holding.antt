-- What an object of the outside holds, where it tells that, and how often its calls have failed.
use Rattle.std.specs.Prelude.{◌≡◌, ◌≢◌, ◌<◌, ◌≤◌, ℕ, List, length, take, Some, None, ⊤, IfSome, IsNone, IsSomeAnd}
use Rattle.std.specs.declared.option.Option.{Option}
use Rattle.std.specs.Io.KnownBytes.{Appends}
use Rattle.sk_outside.specs.Faults.{Faults}

-- the contents of each name, or none where there is no such file
abbrev pub Contents : Type 0
Contents = List ℕ → Option (List ℕ)

-- files, with the faults of reading and of writing them
pub record FilesHolding : Type 0 where
  pub contents : Option Contents
  pub reads : Faults
  pub writes : Faults

-- a sink: the bytes that it has taken, and how often a put has failed
pub record SinkHolding : Type 0 where
  pub taken : Option (List ℕ)
  pub faults : ℕ

-- where contents are told, the name's are these bytes
abbrev pub Tells : Option Contents → List ℕ → List ℕ → Type 0
Tells contents name bytes = IfSome contents (λ find. find name ≡ Some bytes)

-- where contents are told, the name's are longer than the limit
abbrev pub TellsLonger : Option Contents → List ℕ → ℕ → Type 0
TellsLonger contents name limit = IfSome contents (λ find. IsSomeAnd (find name) (λ bytes. limit < length bytes))

-- contents are told, and the name is absent
abbrev pub TellsAbsent : Option Contents → List ℕ → Type 0
TellsAbsent contents name = IsSomeAnd contents (λ find. IsNone (find name))

-- told contents are told still, and stay at every other name
abbrev pub KeepsOthers : List ℕ → Option Contents → Option Contents → Type 0
KeepsOthers name None now = ⊤
KeepsOthers name (Some before) None = ⊥
KeepsOthers name (Some before) (Some now) = (other : List ℕ) → other ≢ name → now other ≡ before other

-- known bytes grow by a prefix of the piece
abbrev pub AppendsPrefix : Option (List ℕ) → Option (List ℕ) → List ℕ → Type 0
AppendsPrefix before now piece = (k : ℕ) × (k ≤ length piece) × Appends before now (take k piece)
