-- What an instruction needs of the buffers in which a stack and slots lie.
use Rattle.std.specs.Prelude.{◌≡◌, ℕ, ◌+◌, ◌-◌, ◌<◌, ◌≤◌, false, List, length, ℤ, pos, slice_index_or}
use Rattle.sk_base.specs.Arithmetic.{InRange, is_shift}
use Rattle.sk_isa.specs.declared.code.Instr.{Instr}
use Rattle.sk_isa.specs.declared.code.Instr.TheVariants.{Push, Pop, Load, Store, Field, Item, Neg, Inv, Not, Wrap, Binary, Jump, Zero, Turn, Call, Ret}
use Rattle.sk_meaning.specs.Evaluation.{Argument}
use Rattle.sk_vm.specs.Places.{FieldIn, IsWhole}

-- An instruction finds its values, its slot and its field there, room for what it pushes, the operands of its type, and a
-- container that may be read.
abbrev pub Needs : Instr → (other : ℕ → Argument) → (Readable : ℕ → Type 0) → (top : ℕ) → (stack slots : List ℤ) → Type 0
Needs (Push number) other Readable top stack slots = top < length stack
Needs Pop other Readable top stack slots = 0 < top
Needs (Load slot) other Readable top stack slots = (slot < length slots) × (top < length stack)
Needs (Store slot) other Readable top stack slots = (slot < length slots) × (0 < top)
Needs (Field slot name) other Readable top stack slots = (top < length stack) × FieldIn (other slot) name × (IsWhole (other slot) → Readable slot)
Needs (Item slot places) other Readable top stack slots = (places ≤ top) × (top < length stack + places) × IsWhole (other slot) × Readable slot
Needs (Neg ty) other Readable top stack slots = 0 < top
Needs (Inv ty) other Readable top stack slots = 0 < top
Needs Not other Readable top stack slots = 0 < top
Needs Wrap other Readable top stack slots = 0 < top
Needs (Binary op ty) other Readable top stack slots =
    (1 < top) × InRange ty (slice_index_or stack (top - 2) (pos 0))
    × (is_shift op ≡ false → InRange ty (slice_index_or stack (top - 1) (pos 0)))
Needs (Jump to) other Readable top stack slots = Unit {0}
Needs (Zero to) other Readable top stack slots = 0 < top
Needs Turn other Readable top stack slots = Unit {0}
Needs (Call function) other Readable top stack slots = Unit {0}
Needs Ret other Readable top stack slots = 0 < top
Needs instr other Readable top stack slots = ⊥
