-- What a sink took of bytes that main prints.
use Rattle.std.specs.Prelude.{◌≡◌, ℕ, List, Result, Ok, Err}
use Rattle.std.specs.Io.KnownBytes.{Appends}
use Rattle.sk_host.specs.declared.outcome.Outcome.{Outcome}
use Rattle.sk_host.specs.declared.outcome.Outcome.TheVariants.{Memory, SinkFault}
use Rattle.sk_outside.specs.Faults.{Rose}
use Rattle.sk_outside.specs.Holding.{AppendsPrefix, SinkHolding}

-- The sink took all of the bytes, and no put failed; or it took a prefix of them where a put failed or memory was wanting.
abbrev pub IsPrinted : (bytes : List ℕ) → (before now : SinkHolding) → Result (Unit {0}) Outcome → Type 0
IsPrinted bytes before now (Ok done) = Appends before.taken now.taken bytes × (now.faults ≡ before.faults)
IsPrinted bytes before now (Err SinkFault) = Rose before.faults now.faults × AppendsPrefix before.taken now.taken bytes
IsPrinted bytes before now (Err Memory) = (now.faults ≡ before.faults) × AppendsPrefix before.taken now.taken bytes
IsPrinted bytes before now (Err other) = ⊥
