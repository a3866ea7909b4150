-- Room for functions and for those that they call.
use Rattle.std.proofs.Common.{◌≡◌, ℕ, zero, suc, ◌+◌, ◌<◌, ◌≤◌, max, List, [], ◌∷◌, ◌++◌, length, take, map, Option, Some, None, false, slice_get, slice_index_or, inl, inr, ◌⊎◌, refl, sym, ap, subst, ◌∙◌, arith, length-append}
use Rattle.std.proofs.lemmas.List.{map-append, take_more}
use Rattle.std.proofs.lemmas.Option.{get_or_from_slice_get}
use Rattle.std.proofs.Math.ListN.{get_or-append}
use Rattle.std.proofs.Math.Nat.{le-max_left, le-max_right}
use Rattle.std.proofs.Math.Seq.{get_or-append_seam}
use Rattle.sk_isa.specs.declared.code.Code.{Code}
use Rattle.sk_isa.specs.declared.code.Instr.{Instr}
use Rattle.sk_isa.specs.declared.code.Instr.TheVariants.{Call}
use Rattle.sk_isa_laws.proofs.Callees.{there}
use Rattle.sk_isa.specs.declared.object.Object.{Object}
use Rattle.sk_isa.specs.Objects.{signature_at}
use Rattle.sk_tree.specs.Parameters.{index_dimension, leading_scalars}
use Rattle.sk_vm.specs.Frames.{Framed, HasRoom, Holds, reading_by}
use Rattle.sk_vm.specs.Rooms.{AreRooms, called_room, larger, largest, no_room, room_after, room_at, room_of, rooms_below, slots_at}
use Rattle.sk_vm.specs.declared.rooms.Room.{Room}

-- a room is enough where another one is
pub record Fits (room most : Room) : Type 0 where
  pub stack : room.stack ≤ most.stack
  pub slots : room.slots ≤ most.slots

-- the largest of rooms is enough for each
pub largest-fits : (f : Instr → Room) (instrs : List Instr) (at : ℕ) (instr : Instr) → slice_get instrs at ≡ Some instr → Fits (f instr) (largest (map f instrs))
largest-fits f [] at instr is = cc
largest-fits f (first ∷ instrs) zero instr is =
    let same : first ≡ instr = cc in
    subst (λ (i : Instr). Fits (f i) (largest (map f (first ∷ instrs)))) same
    (record { stack = le-max_left (f first).stack (largest (map f instrs)).stack; slots = le-max_left (f first).slots (largest (map f instrs)).slots })
largest-fits f (first ∷ instrs) (suc at) instr is =
    let below = largest-fits f instrs at instr is in
    let stack = le-max_right (f first).stack (largest (map f instrs)).stack in
    let slots = le-max_right (f first).slots (largest (map f instrs)).slots in
    let in_stack = below.stack in
    let in_slots = below.slots in
    record { stack = omega arith; slots = omega arith }

-- which of three is the largest does not depend on how they are grouped
larger_assoc : (a b c : Room) → larger a (larger b c) ≡ larger (larger a b) c
larger_assoc a b c =
    let stack : max a.stack (max b.stack c.stack) ≡ max (max a.stack b.stack) c.stack = omega arith in
    let slots : max a.slots (max b.slots c.slots) ≡ max (max a.slots b.slots) c.slots = omega arith in
    cc

larger-none : (room : Room) → larger room no_room ≡ larger no_room room
larger-none room =
    let stack : max room.stack 0 ≡ max 0 room.stack = omega arith in
    let slots : max room.slots 0 ≡ max 0 room.slots = omega arith in
    cc

-- one more room
pub largest-push : (rooms : List Room) (room : Room) → largest (rooms ++ room ∷ []) ≡ larger (largest rooms) room
largest-push [] room = larger-none room
largest-push (first ∷ rooms) room = ap (larger first) (largest-push rooms room) ∙ larger_assoc first (largest rooms) room

length-rooms_below : (codes : List Code) (count : ℕ) → length (rooms_below codes count) ≡ count
unfolding rooms_below
length-rooms_below codes zero = refl
length-rooms_below codes (suc count) =
    length-append (rooms_below codes count) (room_at (rooms_below codes count) codes count ∷ []) ∙ omega (arith, length-rooms_below codes count)

-- the rooms of the functions below a number are those of the functions
pub room-below : (codes : List Code) (count function : ℕ) → function < count → slice_index_or (rooms_below codes count) function no_room ≡ room_of codes function
unfolding rooms_below room_of
room-below codes zero function less = absurd (omega arith)
room-below codes (suc count) function less = by (λ earlier. room-below codes count function earlier) (last_or_not function count less)
  where
    before : List Room
    before = rooms_below codes count

    last_or_not : (a b : ℕ) → a < suc b → (a < b) ⊎ (b ≡ a)
    last_or_not a b h = grind arith

    by : (function < count → slice_index_or (rooms_below codes count) function no_room ≡ room_of codes function) → (function < count) ⊎ (count ≡ function)
        → slice_index_or (rooms_below codes (suc count)) function no_room ≡ room_of codes function
    by earlier_is (inl earlier) =
        let count_is = length-rooms_below codes count in
        get_or-append before (room_at before codes count ∷ []) no_room function (omega arith) ∙ earlier_is earlier
    by earlier_is (inr same) =
        ap (λ (n : ℕ). slice_index_or (before ++ room_at before codes count ∷ []) n no_room) (sym (length-rooms_below codes count ∙ same))
        ∙ get_or-append_seam before (room_at before codes count) [] no_room
        ∙ ap (λ (n : ℕ). room_at (rooms_below codes n) codes n) same

pub room_of-code : (codes : List Code) (function : ℕ) (code : Code) → slice_get codes function ≡ Some code → room_of codes function ≡ room_after (rooms_below codes function) code
unfolding room_of
room_of-code codes function code is = ap (λ (o : Option Code). elim o [ Some code ↦ room_after (rooms_below codes function) code | None ↦ no_room ]) is

-- A function's room has its own, and behind it that of each function which it calls.
pub record HasCallee (codes : List Code) (function : ℕ) (code : Code) (callee : ℕ) : Type 0 where
  pub stack : code.depth + (room_of codes callee).stack ≤ (room_of codes function).stack
  pub slots : code.slots + (room_of codes callee).slots ≤ (room_of codes function).slots

pub room-callee : (codes : List Code) (function : ℕ) (code : Code) → slice_get codes function ≡ Some code → (at callee : ℕ) → slice_get code.instrs at ≡ Some (Call callee) → callee < function
    → HasCallee codes function code callee
room-callee codes function code is at callee found less =
    let before = rooms_below codes function in
    let fits : Fits (room_of codes callee) (largest (map (called_room before) code.instrs)) =
    subst (λ (r : Room). Fits r (largest (map (called_room before) code.instrs))) (room-below codes function callee less)
    (largest-fits (called_room before) code.instrs at (Call callee) found) in
    let stack : (room_of codes function).stack ≡ code.depth + (largest (map (called_room before) code.instrs)).stack = ap (λ (r : Room). r.stack) (room_of-code codes function code is) in
    let slots : (room_of codes function).slots ≡ code.slots + (largest (map (called_room before) code.instrs)).slots = ap (λ (r : Room). r.slots) (room_of-code codes function code is) in
    let in_stack = fits.stack in
    let in_slots = fits.slots in
    record { stack = omega arith; slots = omega arith }

-- a function's room has its own
pub record HasOwn (codes : List Code) (function : ℕ) (code : Code) : Type 0 where
  pub stack : code.depth ≤ (room_of codes function).stack
  pub slots : code.slots ≤ (room_of codes function).slots

pub room-own : (codes : List Code) (function : ℕ) (code : Code) → slice_get codes function ≡ Some code → HasOwn codes function code
room-own codes function code is =
    let below = largest (map (called_room (rooms_below codes function)) code.instrs) in
    let stack : (room_of codes function).stack ≡ code.depth + below.stack = ap (λ (r : Room). r.stack) (room_of-code codes function code is) in
    let slots : (room_of codes function).slots ≡ code.slots + below.slots = ap (λ (r : Room). r.slots) (room_of-code codes function code is) in
    record { stack = omega arith; slots = omega arith }

-- a function's slots are within its room
pub slots-within : (codes : List Code) (function : ℕ) → slots_at codes function ≤ (room_of codes function).slots
unfolding room_of
slots-within codes function = by (slice_get codes function)
  where
    by : (found : Option Code) → elim found [ Some code ↦ code.slots | None ↦ 0 ]
        ≤ (elim found as (λ o. Room) [ Some code ↦ room_after (rooms_below codes function) code | None ↦ no_room ]).slots
    by (Some code) = omega arith
    by None = omega arith

-- one more was looked at, whose room is known
pub largest-more : {A : Type 0} (f : A → Room) (xs : List A) (at : ℕ) (x : A) (before : Room) → at < length xs → before ≡ largest (map f (take at xs))
    → larger before (f (slice_index_or xs at x)) ≡ largest (map f (take (at + 1) xs))
largest-more f xs at x before less so_far =
    ap (λ (r : Room). larger r (f (slice_index_or xs at x))) so_far
    ∙ sym (largest-push (map f (take at xs)) (f (slice_index_or xs at x)))
    ∙ sym (ap (λ ys. largest (map f ys)) (take_more xs at x less) ∙ ap largest (map-append f (take at xs) (slice_index_or xs at x ∷ [])))

-- the largest of rooms is enough where any of them is
pub largest-at : (rooms : List Room) (at : ℕ) → at < length rooms → Fits (slice_index_or rooms at no_room) (largest rooms)
largest-at [] at less = absurd (omega arith)
largest-at (room ∷ rooms) zero less = record { stack = le-max_left room.stack (largest rooms).stack; slots = le-max_left room.slots (largest rooms).slots }
largest-at (room ∷ rooms) (suc at) less =
    let below = largest-at rooms at (omega arith) in
    let stack = le-max_right room.stack (largest rooms).stack in
    let slots = le-max_right room.slots (largest rooms).slots in
    let in_stack = below.stack in
    let in_slots = below.slots in
    record { stack = omega arith; slots = omega arith }

-- a frame that holds the largest room holds that of each function
pub holds-each : (object : Object) (room : Room) (frame : Framed) → AreRooms object room → Holds room frame → (function : ℕ) → function < length object.functions
    → Holds (room_of object.functions function) frame
holds-each object room frame are holds function there =
    let rooms = rooms_below object.functions (length object.functions) in
    let count = length-rooms_below object.functions (length object.functions) in
    let fits : Fits (room_of object.functions function) (largest rooms) =
    subst (λ (r : Room). Fits r (largest rooms)) (room-below object.functions (length object.functions) function there) (largest-at rooms function (omega arith)) in
    let all : Holds (largest rooms) frame = subst (λ (r : Room). Holds r frame) are.is_largest holds in
    let in_stack = fits.stack in
    let in_slots = fits.slots in
    let stack = all.stack in
    let slots = all.slots in
    record { stack = omega arith; slots = omega arith }

-- a frame that is turned to a function has room for it
pub turned : (object : Object) (room : Room) (frame after : Framed) (function : ℕ) → AreRooms object room → Holds room frame → function < length object.functions
    → after ≡ record frame { function = function; index = index_dimension (signature_at object function).params; leading = leading_scalars (signature_at object function).params; reading = reading_by 0 false } → HasRoom object after
turned object room frame after function are holds there is =
    let own = holds-each object room frame are holds function there in
    subst (HasRoom object) (sym is) (record {
      entered = record { sound = are.sound; parameters = are.parameters; there = there };
      index = refl;
      leading = refl;
      pairs = tt;
      stack = own.stack;
      slots = own.slots;
    })

-- the code that stands there
code-there : (codes : List Code) (function : ℕ) (code : Code) → function < length codes → code ≡ slice_index_or codes function code → slice_get codes function ≡ Some code
code-there codes function code less is =
    let found = there codes function less in
    found.1 ∙ ap Some (sym (get_or_from_slice_get codes function found.0 code found.1) ∙ sym is)

pub room_of-there : (codes : List Code) (function : ℕ) (code : Code) → function < length codes → code ≡ slice_index_or codes function code
    → room_after (rooms_below codes function) code ≡ room_of codes function
room_of-there codes function code less is = sym (room_of-code codes function code (code-there codes function code less is))

-- the room of one more function
pub rooms_below-more : (codes : List Code) (function : ℕ) (code : Code) (before after : List Room) (room : Room) → function < length codes → code ≡ slice_index_or codes function code
    → before ≡ rooms_below codes function → room ≡ room_after before code → after ≡ before ++ room ∷ [] → after ≡ rooms_below codes (function + 1)
unfolding rooms_below
rooms_below-more codes function code before after room less is so_far own pushed =
    let here : room_at (rooms_below codes function) codes function ≡ room_after (rooms_below codes function) code =
    ap (λ (o : Option Code). elim o [ Some code ↦ room_after (rooms_below codes function) code | None ↦ no_room ]) (code-there codes function code less is) in
    let same : room ≡ room_at (rooms_below codes function) codes function = own ∙ ap (λ (rs : List Room). room_after rs code) so_far ∙ sym here in
    pushed ∙ ap (λ (rs : List Room). rs ++ room ∷ []) so_far ∙ ap (λ (r : Room). rooms_below codes function ++ r ∷ []) same
    ∙ ap (λ (n : ℕ). rooms_below codes n) (suc-is function)
  where
    suc-is : (n : ℕ) → suc n ≡ n + 1
    suc-is n = omega arith

pub rooms_below-none : (codes : List Code) → rooms_below codes 0 ≡ []
unfolding rooms_below
rooms_below-none codes = refl
