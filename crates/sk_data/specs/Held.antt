-- What the records so far gave the declared inputs.
use Rattle.std.specs.Prelude.{◌≡◌, List, [], ◌∷◌, map, find, Option, Some, None, option_map, Result, Ok, Err}
use Rattle.sk_tree.specs.declared.declared.Declared.{Declared}
use Rattle.sk_data.specs.Records.{Record, is_named, given_by}
use Rattle.sk_data.specs.declared.fault.InputFault.{InputFault}
use Rattle.sk_data.specs.declared.fault.InputFault.TheVariants.{Absent}
use Rattle.sk_data.specs.declared.given.Given.{Given}

-- the inputs, and what each was given
pub record Held : Type 0 where
  pub declared : List Declared
  pub given : List (Option Given)

-- what the first record of its name gives an input
abbrev pub slot_of : List Record → Declared → Option Given
slot_of earlier input = option_map (given_by input) (find (is_named input.name) earlier)

-- what each input was given is what these records give it
abbrev pub IsGivenBy : List Record → Held → Type 0
IsGivenBy earlier held = held.given ≡ map (slot_of earlier) held.declared

-- what an input's slot has, in front of what others have
abbrev pub with_slot : Declared → Option Given → Result (List Given) InputFault → Result (List Given) InputFault
with_slot input None others = Err (Absent input.name)
with_slot input (Some given) (Ok others) = Ok (given ∷ others)
with_slot input (Some given) (Err fault) = Err fault

-- what each slot has, or the first input whose slot has nothing
abbrev pub given_in : List Declared → List (Option Given) → Result (List Given) InputFault
given_in (input ∷ inputs) (slot ∷ slots) = with_slot input slot (given_in inputs slots)
given_in _ _ = Ok []
