-- Code of main that never lacks what an instruction needs, and whose loops all count statements.
use Rattle.std.specs.Prelude.{◌≡◌, ℕ, suc, Bool, true, false, not, ◌&&◌, ◌||◌, ◌==◌, nat_lt, if◌then◌else◌, List, [], ◌∷◌, ◌++◌, length, All, Option, Some, None, IsSomeAnd, slice_get}
use Rattle.std.specs.List.{list_all, list_any}
use Rattle.sk_base.specs.declared.number.Ty.{Ty}
use Rattle.sk_base.specs.declared.number.Ty.TheVariants.{Int}
use Rattle.sk_isa.specs.Objects.{signature_at, function_at}
use Rattle.sk_isa.specs.Soundness.{Left, HasTypes, LoopsPass, left_sharing, left_by_call, left_if, of_many, names_sharing, takes_scalars, leads_to}
use Rattle.sk_isa.specs.declared.code.Instr.{Instr}
use Rattle.sk_isa.specs.declared.code.Instr.TheVariants.{Size, Item, Call, Count, Make, Take, Drop, Set, Do, Get, Poke, Print, Text, Endl, Halt}
use Rattle.sk_isa.specs.declared.object.Object.{Object}
use Rattle.sk_isa.specs.declared.object.Plan.{Plan}
use Rattle.sk_isa.specs.declared.object.Signature.{Signature}
use Rattle.sk_call_shapes.specs.CallShapes.{Container, fits_statement, fits_value, uniform_count, may_be_set}
use Rattle.sk_names.specs.Bytes.{same_bytes}
use Rattle.sk_tree.specs.Parameters.{is_container_method, same_type}
use Rattle.sk_tree.specs.declared.declared.Declared.{Declared}
use Rattle.sk_tree.specs.declared.tree.ParamKind.TheVariants.{Scalar}

-- main has the last signature
abbrev pub main_signature : Object → Signature
main_signature object = signature_at object (length object.functions)

-- the type of a scalar slot of main
abbrev pub main_scalar : Object → (slot : ℕ) → Option Ty
main_scalar object slot = elim (slice_get (main_signature object).slots slot) [
  | Some kind ↦ elim kind [ Scalar ty ↦ Some ty | _ ↦ None ]
  | None ↦ None
]

-- what a test says of a container that is declared
abbrev pub is_declared : Object → (container : ℕ) → (Declared → Bool) → Bool
is_declared object container test = elim (slice_get object.containers container) [ Some declared ↦ test declared | None ↦ false ]

-- a declared container or input has this kind and type
abbrev pub is_so : (kind : ℕ) → Ty → Declared → Bool
is_so kind ty declared = declared.kind == kind && same_type declared.ty ty

abbrev pub is_input : Object → (name : List ℕ) → (kind : ℕ) → Ty → Bool
is_input object name kind ty = list_any (λ (input : Declared). same_bytes input.name name && is_so kind ty input) object.inputs

-- what a call is given: a container's kind and type by its number
abbrev pub container_of : Declared → Container
container_of declared = record { kind = declared.kind; ty = declared.ty }

abbrev pub containers_of : Object → List ℕ → Option (List Container)
containers_of object [] = Some []
containers_of object (number ∷ numbers) = elim (slice_get object.containers number) [
  | Some declared ↦ elim (containers_of object numbers) [ Some rest ↦ Some (container_of declared ∷ rest) | None ↦ None ]
  | None ↦ None
]

-- what a test says of an instance, of its first function and of what it is called with
abbrev pub calls_fit : Object → (instance : ℕ) → (containers : List ℕ) → (uniforms : ℕ)
    → (Plan → Signature → List Container → Bool) → Bool
calls_fit object instance containers uniforms test = elim (slice_get object.instances instance) [
  | Some plan ↦ elim (containers_of object containers) [
    | Some given ↦
        test plan (signature_at object (function_at plan 0)) given
        && uniforms == uniform_count plan (signature_at object (function_at plan 0))
    | None ↦ false
  ]
  | None ↦ false
]

-- What an instruction of main names is there and of the right kind, whether the instruction can be reached or not.
-- Instructions of functions alone have no place in main.
abbrev pub names_of_main : Object → Instr → Bool
names_of_main object (Size container name) = is_declared object container (λ declared. is_container_method declared.kind name)
names_of_main object (Item container places) = is_declared object container (λ declared. declared.kind == places)
names_of_main object (Call function) =
    nat_lt function (length object.functions) && takes_scalars (slice_get object.signatures function)
names_of_main object (Count line) = true
names_of_main object (Make container kind ty sizes) = is_declared object container (is_so kind ty) && sizes == kind
names_of_main object (Take container kind ty input) = is_declared object container (is_so kind ty) && is_input object input kind ty
names_of_main object (Drop container) = is_declared object container (λ declared. true)
names_of_main object (Set instance word values) = elim (slice_get object.instances instance) [
  | Some plan ↦ may_be_set plan (signature_at object (function_at plan 0)) word values
  | None ↦ false
]
names_of_main object (Do instance containers uniforms) = calls_fit object instance containers uniforms fits_statement
names_of_main object (Get instance containers uniforms) = calls_fit object instance containers uniforms fits_value
names_of_main object (Poke container places) = is_declared object container (λ declared. declared.kind == places)
names_of_main object Print = true
names_of_main object (Text text) = true
names_of_main object Endl = true
names_of_main object Halt = true
names_of_main object instr = false

abbrev pub names_in_main : Object → Instr → Bool
names_in_main object = names_sharing (main_scalar object) (names_of_main object)

-- how many values an instruction of main takes
abbrev pub taken_in_main : Instr → ℕ
taken_in_main (Item container places) = places
taken_in_main (Make container kind ty sizes) = suc sizes
taken_in_main (Set instance word values) = values
taken_in_main (Do instance containers uniforms) = uniforms
taken_in_main (Get instance containers uniforms) = uniforms
taken_in_main (Poke container places) = suc places
taken_in_main Print = 1
taken_in_main instr = 0

-- the types of the values that it gives
abbrev pub given_in_main : Object → Instr → List Ty
given_in_main object (Size container name) = Int ∷ []
given_in_main object (Item container places) = elim (slice_get object.containers container) [ Some declared ↦ declared.ty ∷ [] | None ↦ [] ]
given_in_main object (Get instance containers uniforms) = elim (slice_get object.instances instance) [
  | Some plan ↦ (signature_at object (function_at plan 0)).ret ∷ []
  | None ↦ []
]
given_in_main object instr = []

-- What the instructions leave that main has of its own. The values that they take may be of either type, but a function's
-- arguments.
abbrev pub left_of_main : Object → Instr → List Ty → Left
left_of_main object (Call function) types =
    if nat_lt function (length object.functions) then left_by_call (slice_get object.signatures function) types else None
left_of_main object instr types = of_many (taken_in_main instr) types (λ given rest.
    left_if (names_of_main object instr) (given_in_main object instr ++ rest))

abbrev pub left_in_main : Object → Instr → List Ty → Left
left_in_main object = left_sharing (main_scalar object) (left_of_main object)

-- the mark of main's loops: a statement is counted
abbrev pub IsCount : Option Instr → Type 0
IsCount found = (line : ℕ) × (found ≡ Some (Count line))

-- whether each container is live at an address, which is chosen if it is among those that can be reached
abbrev pub Lives : Type 0
Lives = ℕ → Option (ℕ → Bool)

-- the containers that an instruction uses, beside making or ending them
abbrev pub used_by : Instr → List ℕ
used_by (Size container name) = container ∷ []
used_by (Item container places) = container ∷ []
used_by (Do instance containers uniforms) = containers
used_by (Get instance containers uniforms) = containers
used_by (Poke container places) = container ∷ []
used_by (Drop container) = container ∷ []
used_by instr = []

-- the container that an instruction makes
abbrev pub made_by : Instr → Option ℕ
made_by (Make container kind ty sizes) = Some container
made_by (Take container kind ty input) = Some container
made_by instr = None

-- whether a container is live behind an instruction
abbrev pub lives_after : Instr → (ℕ → Bool) → ℕ → Bool
lives_after (Make container kind ty sizes) live other = live other || other == container
lives_after (Take container kind ty input) live other = live other || other == container
lives_after (Drop container) live other = live other && not (other == container)
lives_after instr live other = live other

-- The instruction at an address makes a container that is not live, uses and ends live ones alone, and each address to which
-- it leads has been chosen with the containers that are then live.
pub record LivesAt (instrs : List Instr) (chosen : Lives) (at : ℕ) (live : ℕ → Bool) : Type 0 where
  pub instr : Instr
  pub found : slice_get instrs at ≡ Some instr
  pub made : (container : ℕ) → made_by instr ≡ Some container → live container ≡ false
  pub used : All (λ container. live container ≡ true) (used_by instr)
  pub leads : All (λ to. IsSomeAnd (chosen to) (λ after. (container : ℕ) → after container ≡ lives_after instr live container)) (leads_to instr at)

-- One set of live containers can be chosen for each address that can be reached, the empty one at the first address.
pub record HasLives (instrs : List Instr) : Type 0 where
  pub chosen : Lives
  pub start : IsSomeAnd (chosen 0) (λ live. (container : ℕ) → live container ≡ false)
  pub each : (at : ℕ) (live : ℕ → Bool) → chosen at ≡ Some live → LivesAt instrs chosen at live

-- Main's code is sound as a function's is, but with its own instructions, with counted statements in place of turns, and with
-- one set of live containers at each address that can be reached.
pub record IsSoundMain (object : Object) : Type 0 where
  pub types : HasTypes (left_in_main object) object.main
  pub names : list_all (names_in_main object) object.main.instrs ≡ true
  pub loops : LoopsPass IsCount object.main.instrs
  pub lives : HasLives object.main.instrs
  pub params : (main_signature object).params ≡ []
  pub ret : (main_signature object).ret ≡ Int
  pub slots : All (λ kind. (ty : Ty) × (kind ≡ Scalar ty)) (main_signature object).slots
  pub count : object.main.slots ≡ length (main_signature object).slots
