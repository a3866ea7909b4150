-- What an instruction of main needs of the buffers in which a stack and slots lie, and of the containers that are kept.
use Rattle.std.specs.Prelude.{◌≡◌, ℕ, ◌+◌, ◌-◌, ◌<◌, ◌≤◌, suc, false, List, length, map, reverse, take, ℤ, pos, Option, IsSome, slice_get, slice_index_or}
use Rattle.sk_base.specs.Arithmetic.{InRange, is_shift}
use Rattle.sk_host.specs.MapCalls.{IsMapCall}
use Rattle.sk_host.specs.Stores.{Kept, kept_at}
use Rattle.sk_isa.specs.Objects.{signature_at}
use Rattle.sk_isa.specs.Soundness.{SuitParams}
use Rattle.sk_isa.specs.declared.code.Instr.{Instr}
use Rattle.sk_isa.specs.declared.code.Instr.TheVariants.{Push, Pop, Load, Store, Size, Item, Neg, Inv, Not, Wrap, Binary, Jump, Zero, Call, Count, Make, Drop, Do, Poke, Print, Text, Endl, Halt}
use Rattle.sk_isa.specs.declared.object.Object.{Object}
use Rattle.sk_meaning.specs.Evaluation.{Value}
use Rattle.sk_vm.specs.Points.{values_in}

-- An instruction that main and functions share finds its values and its slot there, room for what it pushes, and the operands
-- of its type.
abbrev pub Needs : Instr → (top : ℕ) → (stack slots : List ℤ) → Type 0
Needs (Push number) top stack slots = top < length stack
Needs Pop top stack slots = 0 < top
Needs (Load slot) top stack slots = (slot < length slots) × (top < length stack)
Needs (Store slot) top stack slots = (slot < length slots) × (0 < top)
Needs (Neg ty) top stack slots = 0 < top
Needs (Inv ty) top stack slots = 0 < top
Needs Not top stack slots = 0 < top
Needs Wrap top stack slots = 0 < top
Needs (Binary op ty) top stack slots =
    (1 < top) × InRange ty (slice_index_or stack (top - 2) (pos 0))
    × (is_shift op ≡ false → InRange ty (slice_index_or stack (top - 1) (pos 0)))
Needs (Jump to) top stack slots = Unit {0}
Needs (Zero to) top stack slots = 0 < top
Needs instr top stack slots = ⊥

-- a function is called with the topmost values, and there is room for its value
pub record IsCall (object : Object) (function top : ℕ) (stack : List ℤ) : Type 0 where
  pub there : function < length object.functions
  pub takes : length (signature_at object function).params ≤ top
  pub room : top < length stack + length (signature_at object function).params
  pub suited : SuitParams (signature_at object function).params (map Value (reverse (take (length (signature_at object function).params) (values_in stack top))))

-- an instance is called for live containers, with the topmost values as uniform arguments
pub record IsDone (object : Object) (instance : ℕ) (containers : List ℕ) (uniforms top : ℕ) (store : List (Option Kept)) : Type 0 where
  pub there : instance < length object.instances
  pub takes : uniforms ≤ top
  pub call : IsMapCall object instance containers uniforms store

-- An instruction of main that neither prints nor counts finds its values there, room for what it pushes, and the containers,
-- the function and the instance that it names.
abbrev pub MayAct : Object → Instr → (top : ℕ) → (stack slots : List ℤ) → List (Option Kept) → Type 0
MayAct object (Size container name) top stack slots store = (top < length stack) × IsSome (kept_at store container)
MayAct object (Item container places) top stack slots store =
    (places ≤ top) × (top < length stack + places) × IsSome (kept_at store container)
MayAct object (Call function) top stack slots store = IsCall object function top stack
MayAct object (Make container kind ty sizes) top stack slots store =
    (suc sizes ≤ top) × (container < length store) × IsSome (slice_get object.containers container)
MayAct object (Drop container) top stack slots store = container < length store
MayAct object (Do instance containers uniforms) top stack slots store = IsDone object instance containers uniforms top store
MayAct object (Poke container places) top stack slots store = (suc places ≤ top) × IsSome (kept_at store container)
MayAct object instr top stack slots store = Needs instr top stack slots

-- every instruction of main
abbrev pub MayTurn : Object → Instr → (top : ℕ) → (stack slots : List ℤ) → List (Option Kept) → Type 0
MayTurn object (Count line) top stack slots store = Unit {0}
MayTurn object Print top stack slots store = 0 < top
MayTurn object (Text text) top stack slots store = Unit {0}
MayTurn object Endl top stack slots store = Unit {0}
MayTurn object Halt top stack slots store = Unit {0}
MayTurn object instr top stack slots store = MayAct object instr top stack slots store
