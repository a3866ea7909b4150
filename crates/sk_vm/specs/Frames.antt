-- Frames: a function with room for its calls.
use Rattle.std.specs.Prelude.{◌≡◌, ℕ, Bool, true, false, ◌≤◌, Option, Some, None}
use Rattle.sk_arguments.specs.Arguments.{Reading}
use Rattle.sk_isa.specs.Objects.{signature_at}
use Rattle.sk_isa.specs.declared.object.Object.{Object}
use Rattle.sk_tree.specs.InstanceSettings.{default_settings}
use Rattle.sk_tree.specs.Parameters.{index_dimension, leading_scalars}
use Rattle.sk_vm.specs.Entries.{MayEnter}
use Rattle.sk_vm.specs.Places.{ReadsPairs}
use Rattle.sk_vm.specs.Rooms.{room_of}
use Rattle.sk_vm.specs.declared.rooms.Room.{Room}

-- a function's number, the dimension of its index parameter if it has one, how many scalars stand before its first container,
-- how it reads its parameters, and how many values and slots there is room for
pub record Framed : Type 0 where
  pub function : ℕ
  pub index : Option ℕ
  pub leading : ℕ
  pub reading : Reading
  pub stack : ℕ
  pub slots : ℕ

-- The frame's function may be entered, with that index parameter and so many scalars, it may be read at pairs of places where it is, and there is
-- room for its calls.
pub record HasRoom (object : Object) (frame : Framed) : Type 0 where
  pub entered : MayEnter (record { object = object; function = frame.function })
  pub index : frame.index ≡ index_dimension (signature_at object frame.function).params
  pub leading : frame.leading ≡ leading_scalars (signature_at object frame.function).params
  pub pairs : ReadsPairs frame.reading.pairs frame.reading.elements (signature_at object frame.function).params
  pub stack : (room_of object.functions frame.function).stack ≤ frame.stack
  pub slots : (room_of object.functions frame.function).slots ≤ frame.slots

-- the frame has so much room
pub record Holds (room : Room) (frame : Framed) : Type 0 where
  pub stack : room.stack ≤ frame.stack
  pub slots : room.slots ≤ frame.slots

-- so many elements, at places or at pairs of places, with the settings of an instance that sets none
abbrev pub reading_by : (elements : ℕ) → (pairs : Bool) → Reading
reading_by elements pairs = record { elements = elements; pairs = pairs; settings = default_settings }

-- no index parameter, or one of two dimensions
abbrev pub CountsPairs : (index : Option ℕ) → Type 0
CountsPairs None = Unit {0}
CountsPairs (Some dimension) = dimension ≡ 2

-- no index parameter, or one of one dimension, which is not a pair
abbrev pub CountsPlaces : (index : Option ℕ) → (pairs : Bool) → Type 0
CountsPlaces None pairs = Unit {0}
CountsPlaces (Some dimension) pairs = (dimension ≡ 1) × (pairs ≡ false)

-- At pairs of places a function reads two elements, and its index parameter, if it has one, is a pair.
abbrev pub MayRead : (index : Option ℕ) → (elements : ℕ) → (pairs : Bool) → Type 0
MayRead index elements false = Unit {0}
MayRead index elements true = (elements ≡ 2) × CountsPairs index

-- a frame of a function, all of whose scalars are uniform arguments
abbrev pub IsUnread : (function : ℕ) → Framed → Type 0
IsUnread function frame = (frame.function ≡ function) × (frame.reading ≡ reading_by 0 false)
