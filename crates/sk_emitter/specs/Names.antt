-- What is kept of names, in the words of the code scheme.
use Rattle.std.specs.Prelude.{ℕ, List, [], ◌∷◌, map, Option, Some, None}
use Rattle.sk_base.specs.declared.number.Ty.TheVariants.{Int}
use Rattle.sk_meaning.specs.Evaluation.{kind_type}
use Rattle.sk_tree.specs.declared.tree.ParamKind.TheVariants as kinds
use Rattle.sk_scheme.specs.Scheme.{Slot, Known, known_of}
use Rattle.sk_emitter.specs.declared.applied.Applied.{Applied}
use Rattle.sk_emitter.specs.declared.applied.Use.{Use}
use Rattle.sk_emitter.specs.declared.applied.Use.TheVariants.{Left, Item, Region, Call}
use Rattle.sk_emitter.specs.declared.names.Place.{Place}
use Rattle.sk_emitter.specs.declared.names.Callee.{Callee}

abbrev pub slot_of : Place → Slot
slot_of place = record { number = place.number; kind = place.kind }

abbrev pub callee_of : Callee → Known
callee_of callee = known_of callee.number callee.function.now

abbrev pub slots_in : List (List ℕ × Place) → List (List ℕ × Slot)
slots_in scope = map (λ binding. (binding.0, slot_of binding.1)) scope

abbrev pub known_in : List (List ℕ × Callee) → List (List ℕ × Known)
known_in functions = map (λ binding. (binding.0, callee_of binding.1)) functions

-- what is done with the places of an element of a parameter; where there are no elements, they are left
abbrev pub use_of : Slot → Use
use_of slot = elim slot.kind [
  | kinds.Scalar ty ↦ Left
  | kinds.Index dimension ↦ Left
  | kinds.Proxy dimension ty ↦ Item slot.number
  | kinds.Region dimension ty ↦ Region slot.number
]

abbrev pub place_application : Slot → Applied
place_application slot = record { ty = kind_type slot.kind; passed = 0; kinds = []; used = use_of slot }

-- what an application is in a function: an element of a parameter, or a call of a function
abbrev pub application_of : Option Slot → Option Known → Applied
application_of (Some slot) known = place_application slot
application_of None (Some known) = record { ty = known.ret; passed = 0; kinds = known.kinds; used = Call known.number }
application_of None None = record { ty = Int; passed = 0; kinds = []; used = Left }
