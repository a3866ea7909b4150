-- Code that never lacks what an instruction needs, and whose loops all take turns.
use Rattle.std.specs.Prelude.{◌≡◌, ◌^◌, ◌⊎◌, ℕ, suc, ◌<◌, ◌≤◌, Bool, true, false, ◌&&◌, ◌||◌, ◌==◌, nat_le, nat_lt, if◌then◌else◌, List, [], ◌∷◌, length, take, drop, reverse, All, ℤ, pos, negsuc, Option, Some, None, Result, Ok, Err, IsSomeAnd, slice_get, int_le}
use Rattle.std.specs.Cmp.Lexicographic.{pointwise}
use Rattle.std.specs.List.{list_all}
use Rattle.sk_base.specs.declared.number.Ty.{Ty}
use Rattle.sk_base.specs.declared.number.Ty.TheVariants.{Int, Long}
use Rattle.sk_base.specs.declared.number.Trap.{Trap}
use Rattle.sk_base.specs.Arithmetic.{InRange, is_shift}
use Rattle.sk_base.specs.Shape.{IsShape, cells_of}
use Rattle.sk_tree.specs.Parameters.{is_field}
use Rattle.sk_meaning.specs.Evaluation.{Argument, Value, Place, Whole, Neighbours}
use Rattle.sk_meaning.specs.Expressions.{result_type}
pub use Rattle.sk_tree.specs.Parameters.{is_scalar}
use Rattle.sk_tree.specs.declared.tree.ParamKind.{ParamKind}
use Rattle.sk_tree.specs.declared.tree.ParamKind.TheVariants.{Scalar, Index, Proxy, Region as RegionKind}
use Rattle.sk_isa.specs.declared.code.Code.{Code}
use Rattle.sk_isa.specs.declared.code.Instr.{Instr}
use Rattle.sk_isa.specs.declared.code.Instr.TheVariants.{Push, Pop, Load, Store, Field, Item, Region, Neg, Inv, Not, Wrap, Binary, Jump, Zero, Turn, Call, Ret, Halt}
use Rattle.sk_isa.specs.declared.object.Signature.{Signature}

-- an int serves where a long is wanted
abbrev pub serves : (given wanted : Ty) → Bool
serves Int wanted = true
serves Long Int = false
serves Long Long = true

-- the type of a number that is pushed: int where it is in int's range
abbrev pub number_type : ℤ → Ty
number_type number = if int_le (negsuc 2147483647) number && int_le number (pos 2147483647) then Int else Long

-- the numbers that can be pushed: those of 64 bits
abbrev pub is_number : ℤ → Bool
is_number number = int_le (negsuc 9223372036854775807) number && int_le number (pos 9223372036854775807)

-- What the code of a function may name: the signatures of all functions, its own number, below which those are that it may
-- call, and its own signature.
pub record Named : Type 0 where
  pub signatures : List Signature
  pub function : ℕ
  pub own : Signature

-- The types on the stack, the latest first, that an instruction leaves, or none where it does not find what it needs.
abbrev pub Left : Type 0
Left = Option (List Ty)

abbrev pub of_one : List Ty → (Ty → List Ty → Left) → Left
of_one [] next = None
of_one (ty ∷ rest) next = next ty rest

-- the two topmost types, the right operand's above the left one's
abbrev pub of_two : List Ty → (Ty → Ty → List Ty → Left) → Left
of_two [] next = None
of_two (right ∷ []) next = None
of_two (right ∷ left ∷ rest) next = next left right rest

-- so many of the topmost types, in the order in which they were pushed
abbrev pub of_many : ℕ → List Ty → (List Ty → List Ty → Left) → Left
of_many count types next = if nat_le count (length types) then next (reverse (take count types)) (drop count types) else None

abbrev pub left_if : Bool → List Ty → Left
left_if test types = if test then Some types else None

-- the type of a scalar slot
abbrev pub scalar_in : Named → (slot : ℕ) → Option Ty
scalar_in named slot = elim (slice_get named.own.slots slot) [
  | Some kind ↦ elim kind [ Scalar ty ↦ Some ty | Index dimension ↦ None | Proxy dimension ty ↦ None | RegionKind dimension ty ↦ None ]
  | None ↦ None
]

-- a parameter has a field of that name
abbrev pub has_field : Named → (slot : ℕ) → List ℕ → Bool
has_field named slot field =
    elim (slice_get named.own.params slot) [ Some kind ↦ is_field kind field | None ↦ false ]

-- the type of an element of a proxy with that many places
abbrev pub item_type : Named → (slot places : ℕ) → Option Ty
item_type named slot places = elim (slice_get named.own.params slot) [
  | Some kind ↦ elim kind [
    | Scalar ty ↦ None
    | Index dimension ↦ None
    | Proxy dimension ty ↦ if dimension == places then Some ty else None
    | RegionKind dimension ty ↦ None
  ]
  | None ↦ None
]

-- the type of an element of a region with that many distances
abbrev pub region_type : Named → (slot places : ℕ) → Option Ty
region_type named slot places = elim (slice_get named.own.params slot) [
  | Some kind ↦ elim kind [
    | Scalar ty ↦ None
    | Index dimension ↦ None
    | Proxy dimension ty ↦ None
    | RegionKind dimension ty ↦ if dimension == places then Some ty else None
  ]
  | None ↦ None
]

-- a type in front of the rest, where there is one
abbrev pub left_with : Option Ty → List Ty → Left
left_with (Some ty) rest = Some (ty ∷ rest)
left_with None rest = None

-- the types serve for parameters, which are all scalars
abbrev pub serve_for : List Ty → List ParamKind → Bool
serve_for [] [] = true
serve_for [] (kind ∷ kinds) = false
serve_for (ty ∷ types) [] = false
serve_for (ty ∷ types) (Scalar wanted ∷ kinds) = serves ty wanted && serve_for types kinds
serve_for (ty ∷ types) (Index dimension ∷ kinds) = false
serve_for (ty ∷ types) (Proxy dimension element ∷ kinds) = false
serve_for (ty ∷ types) (RegionKind dimension element ∷ kinds) = false

-- a function below, whose arguments are on the stack
abbrev pub left_by_call : Option Signature → List Ty → Left
left_by_call (Some signature) types =
    of_many (length signature.params) types (λ given rest. left_if (serve_for given signature.params) (signature.ret ∷ rest))
left_by_call None types = None

-- exactly one value, of the function's type
abbrev pub left_by_ret : Ty → List Ty → Left
left_by_ret ret [] = None
left_by_ret ret (ty ∷ []) = left_if (serves ty ret) []
left_by_ret ret (ty ∷ under ∷ rest) = None

-- What an instruction leaves that functions and main share, given the types of the scalar slots and what the other
-- instructions leave. With type int an operator finds ints alone, and with type long either; the count of a shift may be
-- either for both.
abbrev pub left_sharing : (scalar : ℕ → Option Ty) → (own : Instr → List Ty → Left) → Instr → List Ty → Left
left_sharing scalar own (Push number) types = left_if (is_number number) (number_type number ∷ types)
left_sharing scalar own Pop types = of_one types (λ ty rest. Some rest)
left_sharing scalar own (Load slot) types = left_with (scalar slot) types
left_sharing scalar own (Store slot) types = of_one types (λ ty rest.
    elim (scalar slot) [ Some wanted ↦ left_if (serves ty wanted) rest | None ↦ None ])
left_sharing scalar own (Neg ty) types = of_one types (λ given rest. left_if (serves given ty) (ty ∷ rest))
left_sharing scalar own (Inv ty) types = of_one types (λ given rest. left_if (serves given ty) (ty ∷ rest))
left_sharing scalar own Not types = of_one types (λ given rest. Some (Int ∷ rest))
left_sharing scalar own Wrap types = of_one types (λ given rest. Some (Int ∷ rest))
left_sharing scalar own (Binary op ty) types = of_two types (λ left right rest.
    left_if (serves left ty && (is_shift op || serves right ty)) (result_type op ty ty ∷ rest))
left_sharing scalar own (Jump to) types = Some types
left_sharing scalar own (Zero to) types = of_one types (λ given rest. Some rest)
left_sharing scalar own instr types = own instr types

-- what the instructions leave that functions have of their own; those of main alone have no place in a function
abbrev pub left_in_function : Named → Instr → List Ty → Left
left_in_function named (Field slot name) types = left_if (has_field named slot name) (Int ∷ types)
left_in_function named (Item slot places) types = of_many places types (λ given rest. left_with (item_type named slot places) rest)
left_in_function named (Region slot places) types = of_many places types (λ given rest. left_with (region_type named slot places) rest)
left_in_function named Turn types = Some types
left_in_function named (Call function) types =
    if nat_lt function named.function then left_by_call (slice_get named.signatures function) types else None
left_in_function named Ret types = left_by_ret named.own.ret types
left_in_function named instr types = None

-- what an instruction of a function leaves
abbrev pub left_by : Named → Instr → List Ty → Left
left_by named = left_sharing (scalar_in named) (left_in_function named)

abbrev pub is_there : Option Ty → Bool
is_there (Some ty) = true
is_there None = false

abbrev pub takes_scalars : Option Signature → Bool
takes_scalars (Some signature) = list_all is_scalar signature.params
takes_scalars None = false

-- What an instruction names that functions and main share is there and of the right kind, whether the instruction can be
-- reached or not, given which slots are scalars and what counts for the other instructions.
abbrev pub names_sharing : (scalar : ℕ → Option Ty) → (own : Instr → Bool) → Instr → Bool
names_sharing scalar own (Load slot) = is_there (scalar slot)
names_sharing scalar own (Store slot) = is_there (scalar slot)
names_sharing scalar own (Push number) = true
names_sharing scalar own Pop = true
names_sharing scalar own (Neg ty) = true
names_sharing scalar own (Inv ty) = true
names_sharing scalar own Not = true
names_sharing scalar own Wrap = true
names_sharing scalar own (Binary op ty) = true
names_sharing scalar own (Jump to) = true
names_sharing scalar own (Zero to) = true
names_sharing scalar own instr = own instr

-- Of the instructions of a function: fields and places of parameters, and functions before this one that take scalars
-- alone. Instructions of main have no place in a function.
abbrev pub names_in_function : Named → Instr → Bool
names_in_function named (Field slot name) = has_field named slot name
names_in_function named (Item slot places) = is_there (item_type named slot places)
names_in_function named (Region slot places) = is_there (region_type named slot places)
names_in_function named (Call function) =
    nat_lt function named.function && takes_scalars (slice_get named.signatures function)
names_in_function named Turn = true
names_in_function named Ret = true
names_in_function named instr = false

abbrev pub names_what_is_there : Named → Instr → Bool
names_what_is_there named = names_sharing (scalar_in named) (names_in_function named)

-- the addresses to which an instruction leads
abbrev pub leads_to : Instr → (at : ℕ) → List ℕ
leads_to (Jump to) at = to ∷ []
leads_to (Zero to) at = suc at ∷ to ∷ []
leads_to Ret at = []
leads_to Halt at = []
leads_to instr at = suc at ∷ []

-- the chosen types of the stack at an address, if it is among those that can be reached
abbrev pub Types : Type 0
Types = ℕ → Option (List Ty)

-- The instruction at an address finds what it needs, the stack is no higher than the code says, and each address to which
-- it leads has been chosen with the types that it leaves, or with long in place of some int.
pub record IsFineAt (effect_of : Instr → List Ty → Left) (code : Code) (chosen : Types) (at : ℕ) (types : List Ty) : Type 0 where
  pub instr : Instr
  pub found : slice_get code.instrs at ≡ Some instr
  pub bounded : length types ≤ code.depth
  pub left : List Ty
  pub effect : effect_of instr types ≡ Some left
  pub leads : All (λ to. IsSomeAnd (chosen to) (λ after. pointwise serves left after ≡ true)) (leads_to instr at)

-- One list of types can be chosen for each address that can be reached, the empty one at the first address.
pub record HasTypes (effect_of : Instr → List Ty → Left) (code : Code) : Type 0 where
  pub chosen : Types
  pub start : chosen 0 ≡ Some []
  pub each : (at : ℕ) (types : List Ty) → chosen at ≡ Some types → IsFineAt effect_of code chosen at types

-- there is a jump at an address to a target, with or without a test
abbrev pub JumpsTo : List Instr → (at target : ℕ) → Type 0
JumpsTo instrs at target = (slice_get instrs at ≡ Some (Jump target)) ⊎ (slice_get instrs at ≡ Some (Zero target))

-- On the way from the target of a jump back to the jump stands a mark over which nothing jumps.
pub record PassesMark (IsMark : Option Instr → Type 0) (instrs : List Instr) (at target : ℕ) : Type 0 where
  pub mark : ℕ
  pub from : target ≤ mark
  pub upto : mark ≤ at
  pub is_mark : IsMark (slice_get instrs mark)
  pub none_over : (before behind : ℕ) → JumpsTo instrs before behind → before < mark → mark < behind → behind ≤ at → ⊥

-- each way round a loop passes a mark
abbrev pub LoopsPass : (IsMark : Option Instr → Type 0) → List Instr → Type 0
LoopsPass IsMark instrs = (at target : ℕ) → JumpsTo instrs at target → target ≤ at → PassesMark IsMark instrs at target

-- the mark of a function's loops: a turn is taken
abbrev pub IsTurn : Option Instr → Type 0
IsTurn found = found ≡ Some Turn

-- each way round a loop of a function takes a turn
abbrev pub LoopsTakeTurns : List Instr → Type 0
LoopsTakeTurns = LoopsPass IsTurn

-- the dimensions that kinds of parameters may have
abbrev pub is_dimension : (most : ℕ) → ℕ → Bool
is_dimension most dimension = nat_le 1 dimension && nat_le dimension most

abbrev pub is_kind : ParamKind → Bool
is_kind (Scalar ty) = true
is_kind (Index dimension) = is_dimension 4 dimension
is_kind (Proxy dimension ty) = is_dimension 4 dimension
is_kind (RegionKind dimension ty) = is_dimension 2 dimension

-- the parameters are the first slots, and the others are scalars
abbrev pub AreSlots : (params slots : List ParamKind) → Type 0
AreSlots [] [] = Unit {0}
AreSlots [] (Scalar ty ∷ slots) = AreSlots [] slots
AreSlots [] (Index dimension ∷ slots) = ⊥
AreSlots [] (Proxy dimension ty ∷ slots) = ⊥
AreSlots [] (RegionKind dimension ty ∷ slots) = ⊥
AreSlots (param ∷ params) [] = ⊥
AreSlots (param ∷ params) (slot ∷ slots) = (param ≡ slot) × AreSlots params slots

-- a function's code, by its number
pub record IsSoundCode (signatures : List Signature) (function : ℕ) (own : Signature) (code : Code) : Type 0 where
  pub types : HasTypes (left_by (record { signatures = signatures; function = function; own = own })) code
  pub names : list_all (names_what_is_there (record { signatures = signatures; function = function; own = own })) code.instrs ≡ true
  pub loops : LoopsTakeTurns code.instrs
  pub slots : AreSlots own.params own.slots
  pub kinds : list_all is_kind own.params ≡ true
  pub count : code.slots ≡ length own.slots
  pub params : length own.params ≤ 64

-- a value of a type, or a trap
abbrev pub IsOfType : Ty → Result ℤ Trap → Type 0
IsOfType ty (Ok value) = InRange ty value
IsOfType ty (Err trap) = Unit {0}

-- a parameter may be given an argument
abbrev pub SuitsParam : ParamKind → Argument → Type 0
SuitsParam (Scalar ty) (Value value) = InRange ty value
SuitsParam (Index dimension) (Place place) = (length place ≡ dimension) × All (λ coordinate. coordinate < 2 ^ 24) place
SuitsParam (Proxy dimension ty) (Whole sizes cells) =
    (length sizes ≡ dimension) × IsShape sizes × (length cells ≡ cells_of sizes) × All (InRange ty) cells
SuitsParam (RegionKind dimension ty) (Neighbours overlaps at) =
    (length overlaps ≡ dimension) × All (λ overlap. overlap ≤ 65536) overlaps × ((distances : List ℤ) → IsOfType ty (at distances))
SuitsParam kind argument = ⊥

abbrev pub SuitParams : List ParamKind → List Argument → Type 0
SuitParams [] [] = Unit {0}
SuitParams [] (argument ∷ arguments) = ⊥
SuitParams (kind ∷ kinds) [] = ⊥
SuitParams (kind ∷ kinds) (argument ∷ arguments) = SuitsParam kind argument × SuitParams kinds arguments

abbrev pub is_container : ParamKind → Bool
is_container (Proxy dimension ty) = true
is_container (RegionKind dimension ty) = true
is_container (Scalar ty) = false
is_container (Index dimension) = false
