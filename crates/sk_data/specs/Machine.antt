-- What a byte does inside a record: the steps of `csv` with its defaults.
use Rattle.std.specs.Prelude.{◌≡◌}
use Rattle.csv.specs.declared.parser.Action.{Action}
use Rattle.csv.specs.declared.parser.Action.TheVariants as act
use Rattle.csv.specs.declared.parser.State.{State}
use Rattle.csv.specs.declared.parser.State.TheVariants as st
use Rattle.sk_data.specs.declared.machine.Place.{Place}
use Rattle.sk_data.specs.declared.machine.Place.TheVariants.{Start, Plain, Quoted, Closed}
use Rattle.sk_data.specs.declared.machine.Step.{Step}
use Rattle.sk_data.specs.declared.machine.Step.TheVariants.{Passes, Joins, EndsField, EndsRecord}

abbrev pub state_at : Place → State
state_at Start = st.StartField
state_at Plain = st.InField
state_at Quoted = st.InQuoted
state_at Closed = st.AfterQuote

-- the step tells the state after a byte, and what the byte does
abbrev pub Tells : Step → State × Action → Type 0
Tells (Passes place) after = after ≡ (state_at place, act.Skip)
Tells (Joins place) after = after ≡ (state_at place, act.Copy)
Tells EndsField after = after ≡ (st.StartField, act.EndField)
Tells EndsRecord after = after.1 ≡ act.EndRecord
