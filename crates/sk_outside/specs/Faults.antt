-- How often calls to the outside have failed.
use Rattle.std.specs.Prelude.{ℕ, ◌+◌, ◌-◌, ◌^◌, ◌≤◌, min, max, List, None, Some}
use Rattle.std.specs.declared.option.Option.{Option}

-- how often one kind of call has failed, and the name that the last failed call was given
pub record Faults : Type 0 where
  pub count : ℕ
  pub name : Option (List ℕ)

-- A count rose in a call: it is greater than before. At its type's end it stands still, and counts as risen.
abbrev pub Rose : ℕ → ℕ → Type 0
Rose before now = min (before + 1) (2 ^ 64 - 1) ≤ now

-- one more than a count, which stands still at its type's end
abbrev pub raised : ℕ → ℕ
raised count = max count (min (count + 1) (2 ^ 64 - 1))

-- before the first call
abbrev pub no_faults : Faults
no_faults = record { count = 0; name = None }

-- after one more failed call, which was given this name
abbrev pub one_more : List ℕ → Faults → Faults
one_more name faults = record { count = raised faults.count; name = Some name }
