-- A sink in memory.
use Rattle.std.specs.Prelude.{ℕ, ◌-◌, min, List, ◌++◌, length, take, None, Some, Ok, Err}
use Rattle.std.specs.declared.option.Option.{Option}
use Rattle.std.specs.declared.result.Result.{Result}
use Rattle.sk_outside.specs.declared.answers.WriteAnswer.{WriteAnswer}
use Rattle.sk_outside.specs.declared.answers.WriteAnswer.TheVariants.{Failed, Memory}
use Rattle.sk_outside.specs.Faults.{raised}
use Rattle.sk_outside.specs.Holding.{SinkHolding}

-- what a sink in memory is made of
pub record MemorySink : Type 0 where
  -- the bytes that it has taken
  pub bytes : List ℕ
  -- how many bytes it takes in all, where that has an end
  pub room : Option ℕ
  pub faults : ℕ

-- a sink in memory tells its bytes
abbrev pub holding_of : MemorySink → SinkHolding
holding_of sink = record { taken = Some sink.bytes; faults = sink.faults }

-- how many bytes of a piece of that length fit where so many are taken
abbrev pub fitting : Option ℕ → ℕ → ℕ → ℕ
fitting None taken len = len
fitting (Some room) taken len = min len (room - taken)

-- what the sink takes of a piece
abbrev pub fitting_part : MemorySink → List ℕ → List ℕ
fitting_part sink piece = take (fitting sink.room (length sink.bytes) (length piece)) piece

-- the sink after a put that answered so
abbrev pub after_put : Result (Unit {0}) WriteAnswer → List ℕ → MemorySink → MemorySink
after_put (Ok _) piece sink = record sink { bytes = sink.bytes ++ piece }
after_put (Err Failed) piece sink = record sink { bytes = sink.bytes ++ fitting_part sink piece; faults = raised sink.faults }
after_put (Err Memory) piece sink = sink
