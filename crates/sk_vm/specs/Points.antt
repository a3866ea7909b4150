-- Runs whose stack lies in a buffer.
use Rattle.std.specs.Prelude.{◌≡◌, ℕ, zero, suc, List, [], ◌∷◌, ℤ, pos, Some, Result, Ok, Err, slice_get, slice_index_or}
use Rattle.sk_base.specs.declared.number.Op.{Op}
use Rattle.sk_base.specs.declared.number.Ty.{Ty}
use Rattle.sk_base.specs.declared.number.Trap.{Trap}
use Rattle.sk_isa.specs.Coded.{Point, Routine, Next, next_of}
use Rattle.sk_isa.specs.Configurations.{Goes, Ends}
use Rattle.sk_isa.specs.declared.code.Instr.{Instr}
use Rattle.sk_isa.specs.declared.code.Instr.TheVariants.{Field, Item, Call, Binary}
use Rattle.sk_meaning.specs.Evaluation.{Argument}
use Rattle.sk_vm.specs.declared.stack.Stand.{Stand}
use Rattle.sk_vm.specs.declared.step.Lead.{Lead}
use Rattle.sk_vm.specs.declared.step.Lead.TheVariants as lead

-- the first places of a buffer, the latest first
unfoldable pub values_in : List ℤ → (top : ℕ) → List ℤ
values_in buffer zero = []
values_in buffer (suc fewer) = slice_index_or buffer fewer (pos 0) ∷ values_in buffer fewer

-- where a run stands whose stack and slots lie in these buffers
abbrev pub point_at : Stand → (stack slots : List ℤ) → Point
point_at stand stack slots =
    record { at = stand.at; stack = values_in stack stand.top; slots = slots; kept = stand.turns }

-- where an instruction reads a parameter that is no scalar, the function is given what stands for it
abbrev pub FindsOther : Instr → (other : ℕ → Argument) → Routine → Type 0
FindsOther (Field slot name) other routine = slice_get routine.arguments slot ≡ Some (other slot)
FindsOther (Item slot places) other routine = slice_get routine.arguments slot ≡ Some (other slot)
FindsOther instr other routine = Unit {0}

-- An instruction leads from a point to where it is said to lead, whatever functions and arguments there are, but for the parameter
-- that it reads; a call is left to be done.
abbrev pub LeadsTo : Instr → (other : ℕ → Argument) → Point → Lead → (stack slots : List ℤ) → Type 0
LeadsTo instr other before (lead.Goes stand) stack slots =
    (routine : Routine) → FindsOther instr other routine → next_of routine instr before ≡ Goes (point_at stand stack slots)
LeadsTo instr other before (lead.Ends value turns) stack slots =
    (routine : Routine) → FindsOther instr other routine → next_of routine instr before ≡ Ends (Ok (value, turns))
LeadsTo instr other before (lead.Traps trap) stack slots =
    (routine : Routine) → FindsOther instr other routine → next_of routine instr before ≡ Ends (Err trap)
LeadsTo instr other before (lead.Calls function) stack slots = instr ≡ Call function

-- an instruction that calls a function leaves the stack and the slots as they are
abbrev pub KeepsForCall : Lead → (stack_before stack slots_before slots : List ℤ) → Type 0
KeepsForCall (lead.Calls function) stack_before stack slots_before slots = (stack ≡ stack_before) × (slots ≡ slots_before)
KeepsForCall lead stack_before stack slots_before slots = Unit {0}

-- an operator's value stands in place of its operands, or there is its trap
abbrev pub Combines : Op → Ty → Stand → (before after : List ℤ) → Lead → Type 0
Combines op ty stand before after result =
    (other : ℕ → Argument) (slots : List ℤ) → LeadsTo (Binary op ty) other (point_at stand before slots) result after slots

-- an element stands in place of its coordinates, or there is its trap
abbrev pub ReadsItem : (slot places : ℕ) → (other : ℕ → Argument) → Stand → (before after : List ℤ) → Lead → Type 0
ReadsItem slot places other stand before after result =
    (slots : List ℤ) → LeadsTo (Item slot places) other (point_at stand before slots) result after slots

-- where a call leads that went well, or its trap
abbrev pub led_to : Result Stand Trap → (stack slots : List ℤ) → Next
led_to (Ok stand) stack slots = Goes (point_at stand stack slots)
led_to (Err trap) stack slots = Ends (Err trap)
