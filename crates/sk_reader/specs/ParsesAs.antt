-- What a function that reads ensures: what the definition reads, unless memory is wanting.
use Rattle.std.specs.Prelude.{◌≡◌, ◌≢◌, ℕ, Result, Ok, Err}
use Rattle.sk_refusals.specs.declared.refusal.Refusal.{Refusal}
use Rattle.sk_refusals.specs.declared.refusal.Refusal.TheVariants.{Syntax}
use Rattle.sk_reading.specs.Reading.{Place, Outcome, Read, Refused}
use Rattle.sk_reader.specs.declared.stop.Stop.{Stop}
use Rattle.sk_reader.specs.declared.stop.Stop.TheVariants as stop

-- what a stop that is no want of memory tells
abbrev pub refusal_of : Stop → Refusal
refusal_of (stop.Refused refusal left) = refusal
refusal_of stop.Memory = Syntax

abbrev pub left_of : Stop → ℕ
left_of (stop.Refused refusal left) = left
left_of stop.Memory = 0

-- the call gives the outcome: its value, with the cursor at the new place, or what is wrong, and how many tokens are left there
abbrev pub ParsesAs : {A : Type 0} → Outcome A → Result A Stop → Place → Type 0
ParsesAs outcome (Ok a) new = outcome ≡ Read (a, new)
ParsesAs outcome (Err why) new = why ≢ stop.Memory → outcome ≡ Refused (refusal_of why) (left_of why)
