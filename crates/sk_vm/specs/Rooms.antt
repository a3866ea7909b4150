-- Room for the calls of functions.
use Rattle.std.specs.Prelude.{◌≡◌, ℕ, zero, suc, ◌+◌, ◌-◌, max, List, [], ◌∷◌, ◌++◌, length, take, drop, map, replicate, ℤ, pos, Some, None, slice_get, slice_index_or}
use Rattle.sk_meaning.specs.Evaluation.{Argument, number_in}
use Rattle.sk_isa.specs.Objects.{signature_at}
use Rattle.sk_isa.specs.SoundObjects.{HasSoundFunctions}
use Rattle.sk_isa.specs.Soundness.{SuitParams}
use Rattle.sk_isa.specs.declared.code.Code.{Code}
use Rattle.sk_isa.specs.declared.code.Instr.{Instr}
use Rattle.sk_isa.specs.declared.code.Instr.TheVariants.{Call}
use Rattle.sk_isa.specs.declared.object.Object.{Object}
use Rattle.sk_vm.specs.Places.{TakesPlaces, arguments_with}
use Rattle.sk_vm.specs.declared.rooms.Room.{Room}

-- the instructions of a function
abbrev pub instrs_at : List Code → (function : ℕ) → List Instr
instrs_at codes function = elim (slice_get codes function) [ Some code ↦ code.instrs | None ↦ [] ]

-- how many slots a function has
abbrev pub slots_at : List Code → (function : ℕ) → ℕ
slots_at codes function = elim (slice_get codes function) [ Some code ↦ code.slots | None ↦ 0 ]

abbrev pub no_room : Room
no_room = record { stack = 0; slots = 0 }

-- room that is enough for each of two
abbrev pub larger : Room → Room → Room
larger one other = record { stack = max one.stack other.stack; slots = max one.slots other.slots }

-- room that is enough for each of many
abbrev pub largest : List Room → Room
largest [] = no_room
largest (room ∷ rooms) = larger room (largest rooms)

-- the room of the function that an instruction calls, by the rooms of the functions before
abbrev pub called_room : (before : List Room) → Instr → Room
called_room before (Call callee) = slice_index_or before callee no_room
called_room before instr = no_room

-- room for a code: its own, and the largest of the functions that it calls, one of which runs at a time
abbrev pub room_after : (before : List Room) → Code → Room
room_after before code = record {
  stack = code.depth + (largest (map (called_room before) code.instrs)).stack;
  slots = code.slots + (largest (map (called_room before) code.instrs)).slots;
}

abbrev pub room_at : (before : List Room) → List Code → (function : ℕ) → Room
room_at before codes function = elim (slice_get codes function) [ Some code ↦ room_after before code | None ↦ no_room ]

-- the rooms of the functions below a number; a function calls none but functions before it
unfoldable pub rooms_below : List Code → (count : ℕ) → List Room
rooms_below codes zero = []
rooms_below codes (suc fewer) = rooms_below codes fewer ++ room_at (rooms_below codes fewer) codes fewer ∷ []

-- room for the run of a function with all its calls
unfoldable pub room_of : List Code → (function : ℕ) → Room
room_of codes function = room_at (rooms_below codes function) codes function

-- The program is sound, its parameters stand in order, and this room is the largest of any of them.
pub record AreRooms (object : Object) (room : Room) : Type 0 where
  pub sound : HasSoundFunctions object
  pub parameters : TakesPlaces object
  pub is_largest : room ≡ largest (rooms_below object.functions (length object.functions))

-- the numbers that are given to a function stand in its first slots
abbrev pub given_to : Object → (function : ℕ) → (slots : List ℤ) → List ℤ
given_to object function slots = take (length (signature_at object function).params) slots

-- the arguments of a function whose slots begin with these numbers, and which is given something else for every other parameter
abbrev pub begun_with : Object → (function : ℕ) → (other : ℕ → Argument) → (slots : List ℤ) → List Argument
begun_with object function other slots =
    arguments_with (signature_at object function).params other (given_to object function slots)

-- The slots of a function begin with numbers of its parameters' types, every other parameter has 0, and so has every other slot.
pub record Begins (object : Object) (function : ℕ) (other : ℕ → Argument) (slots : List ℤ) : Type 0 where
  pub count : length slots ≡ slots_at object.functions function
  pub suited : SuitParams (signature_at object function).params (begun_with object function other slots)
  pub numbers : map number_in (begun_with object function other slots) ≡ given_to object function slots
  pub others : drop (length (signature_at object function).params) slots
      ≡ replicate (length slots - length (signature_at object function).params) (pos 0)
