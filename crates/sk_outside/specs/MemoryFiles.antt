-- Files in memory.
use Rattle.std.specs.Prelude.{◌≡◌, ℕ, ◌==◌, Bool, true, ◌&&◌, is_none, List, [], ◌∷◌, map, length, nat_le, None, Some, Ok, Err, ⊤, if◌then◌else◌, string_bytes}
use Rattle.std.specs.declared.option.Option.{Option}
use Rattle.std.specs.declared.result.Result.{Result}
use Rattle.std.specs.declared.string.String.{String}
use Rattle.std.specs.declared.vec.Vec.{Vec}
use Rattle.std.specs.List.{list_any}
use Rattle.std.specs.Str.{bytes_eq}
use Rattle.sk_outside.specs.declared.answers.FileAnswer.{FileAnswer}
use Rattle.sk_outside.specs.declared.answers.FileAnswer.TheVariants.{Failed, Long, Memory}
use Rattle.sk_outside.specs.declared.answers.WriteAnswer.{WriteAnswer}
use Rattle.sk_outside.specs.declared.answers.WriteAnswer.TheVariants.{Failed as Refused}
use Rattle.sk_outside.specs.Faults.{Faults, one_more}
use Rattle.sk_outside.specs.Holding.{Contents, FilesHolding}

-- what files in memory are made of
pub record MemoryFiles : Type 0 where
  -- each name, and its bytes
  pub files : List (List ℕ × List ℕ)
  -- the numbers of the calls that fail
  pub failing : List ℕ
  -- how many calls there have been
  pub calls : ℕ
  pub reads : Faults
  pub writes : Faults

-- names and bytes, as lists
abbrev pub listed : {Z : Type 0} → List (String Z × Vec ℕ Z) → List (List ℕ × List ℕ)
listed files = map (λ file. (string_bytes file.0, file.1.items)) files

-- the bytes of the first file with the name
abbrev pub contents_of : List (List ℕ × List ℕ) → Contents
contents_of [] name = None
contents_of (file ∷ files) name = if bytes_eq file.0 name then Some file.1 else contents_of files name

-- whether no two of the files have one name
abbrev pub names_differ : List (List ℕ × List ℕ) → Bool
names_differ [] = true
names_differ (file ∷ files) = is_none (contents_of files file.0) && names_differ files

-- files in memory tell their contents
abbrev pub holding_of : MemoryFiles → FilesHolding
holding_of memory = record { contents = Some (contents_of memory.files); reads = memory.reads; writes = memory.writes }

-- whether the next call is one of those that fail
abbrev pub is_failing : MemoryFiles → Bool
is_failing memory = list_any (λ number. number == memory.calls) memory.failing

-- what a read of these contents answers where memory does not run out
abbrev pub within_limit : Option (List ℕ) → ℕ → Result (List ℕ) FileAnswer
within_limit None limit = Err Failed
within_limit (Some bytes) limit = if nat_le (length bytes) limit then Ok bytes else Err Long

-- what the next read answers where memory does not run out
abbrev pub read_answer : MemoryFiles → List ℕ → ℕ → Result (List ℕ) FileAnswer
read_answer memory name limit = if is_failing memory then Err Failed else within_limit (contents_of memory.files name) limit

-- the faults of reading after a read of this name
abbrev pub reads_after : {Z : Type 0} → Result (Vec ℕ Z) FileAnswer → List ℕ → Faults → Faults
reads_after (Err Failed) name reads = one_more name reads
reads_after _ name reads = reads

-- the faults of writing after a write of this name
abbrev pub writes_after : Result (Unit {0}) WriteAnswer → List ℕ → Faults → Faults
writes_after (Err Refused) name writes = one_more name writes
writes_after _ name writes = writes

-- a read answers this, or want of memory
abbrev pub Reads : {Z : Type 0} → Result (List ℕ) FileAnswer → Result (Vec ℕ Z) FileAnswer → Type 0
Reads expected (Ok bytes) = expected ≡ Ok bytes.items
Reads expected (Err Memory) = ⊤
Reads expected (Err answer) = expected ≡ Err answer
