-- What a skeleton needs of an instance, and of the data that it works on.
use Rattle.std.specs.Prelude.{◌≡◌, ℕ, suc, ◌<◌, ◌+◌, ◌==◌, ◌&&◌, Bool, true, if◌then◌else◌, List, [], ◌∷◌, length, ℤ, pos, Option, Some, None, Result, Ok, Err, IsSome, IsSomeAnd, IsOk, slice_get, slice_index_or}
use Rattle.sk_base.specs.declared.number.Ty.{Ty}
use Rattle.sk_base.specs.declared.number.Ty.TheVariants.{Int}
use Rattle.sk_base.specs.declared.number.Trap.{Trap}
use Rattle.sk_base.specs.Arithmetic.{InRange}
use Rattle.sk_base.specs.Shape.{IsShape, cells_of}
use Rattle.sk_arguments.specs.Arguments.{Given}
use Rattle.sk_meaning.specs.Evaluation.{kind_type}
use Rattle.sk_tree.specs.declared.tree.ParamKind.{ParamKind}
use Rattle.sk_tree.specs.declared.tree.ParamKind.TheVariants.{Scalar, Index, Proxy, Region}
use Rattle.sk_tree.specs.declared.tree.Skeleton.{Skeleton}
use Rattle.sk_tree.specs.declared.tree.Skeleton.TheVariants.{Reduce, Scan}
use Rattle.sk_kernel.specs.declared.kernel.RunTrap.{RunTrap}

-- What data holds: some of the cells of each operand, by operand and index; the sizes of each operand; the uniform
-- arguments; and the sizes of the container in which indices are counted, where there is one.
pub record Source : Type 0 where
  pub held : ℕ → ℕ → Option ℤ
  pub shapes : List (List ℕ)
  pub uniforms : List ℤ
  pub over : Option (List ℕ)

-- each cell that is held lies inside its operand
abbrev pub HoldsInside : Source → Type 0
HoldsInside source =
    (operand index : ℕ) → IsSome (source.held operand index) → IsSomeAnd (slice_get source.shapes operand) (λ sizes. index < cells_of sizes)

-- data with these cells
abbrev pub given_by : Source → (cells : ℕ → ℕ → ℤ) → Given
given_by source cells =
    record { cells = cells; shapes = source.shapes; uniforms = source.uniforms; over = source.over }

-- data that holds every cell
abbrev pub holding_all : Given → Source
holding_all given =
    record { held = λ operand index. Some (given.cells operand index); shapes = given.shapes; uniforms = given.uniforms; over = given.over }

-- What an instance means.
pub record Meaning : Type 0 where
  -- what its function takes: of each operand, that it is read by elements (a scalar), round a place or whole, with the type
  -- of its cells and the dimension
  pub operands : List ParamKind
  -- the types of the uniform arguments
  pub uniforms : List Ty
  -- the dimension of the container in which its index is counted, where it asks for that
  pub over : Option ℕ
  -- the type of its value
  pub ty : Ty
  -- whether it is evaluated at pairs of places, of which the second one lies in the second operand
  pub pairs : Bool
  -- the function's value at a place, or at a pair of places
  pub value : Given → (place pair : ℕ) → Result ℤ Trap
  -- the indices of operands on which the value at a place may depend
  pub reads : (shapes : List (List ℕ)) → (place pair : ℕ) → (operand index : ℕ) → Bool
  -- the type of its operator, where it has one, and the operator's value
  pub operator : Option Ty
  pub join : ℤ → ℤ → Result ℤ Trap
  -- neither of them ever traps
  pub safe : Bool

-- the place at which an operand is read by elements, or round which it is read
abbrev pub place_in : (pairs : Bool) → (place pair operand : ℕ) → ℕ
place_in pairs place pair operand = if pairs && operand == 1 then pair else place

-- A container with these sizes may be an operand of this kind, where this is the place in it. The place lies in it, where the
-- operand is read there.
abbrev pub SuitsKind : ParamKind → List ℕ → (place : ℕ) → Type 0
SuitsKind (Scalar ty) sizes place = IsShape sizes × (place < cells_of sizes)
SuitsKind (Index dimension) sizes place = ⊥
SuitsKind (Proxy dimension ty) sizes place = IsShape sizes × (length sizes ≡ dimension)
SuitsKind (Region dimension ty) sizes place = IsShape sizes × (length sizes ≡ dimension) × (place < cells_of sizes)

-- containers with these sizes may be the operands of these kinds, each with its place by its number
abbrev pub SuitKinds : List ParamKind → List (List ℕ) → (places : ℕ → ℕ) → Type 0
SuitKinds [] [] places = Unit {0}
SuitKinds [] (sizes ∷ shapes) places = ⊥
SuitKinds (kind ∷ kinds) [] places = ⊥
SuitKinds (kind ∷ kinds) (sizes ∷ shapes) places =
    SuitsKind kind sizes (places 0) × SuitKinds kinds shapes (λ operand. places (suc operand))

-- numbers of these types
abbrev pub AreOfTypes : List Ty → List ℤ → Type 0
AreOfTypes [] [] = Unit {0}
AreOfTypes [] (number ∷ numbers) = ⊥
AreOfTypes (ty ∷ types) [] = ⊥
AreOfTypes (ty ∷ types) (number ∷ numbers) = InRange ty number × AreOfTypes types numbers

-- the place lies in the container in which it is counted
abbrev pub SuitsOver : Option ℕ → Option (List ℕ) → (place : ℕ) → Type 0
SuitsOver None over place = Unit {0}
SuitsOver (Some dimension) over place = IsSomeAnd over (λ sizes. IsShape sizes × (length sizes ≡ dimension) × (place < cells_of sizes))

abbrev pub operand_type : List ParamKind → (operand : ℕ) → Ty
operand_type kinds operand = elim (slice_get kinds operand) [ Some kind ↦ kind_type kind | None ↦ Int ]

-- the data has what the function takes, and holds each cell on which its value at the place may depend
pub record Suits (meaning : Meaning) (source : Source) (place pair : ℕ) : Type 0 where
  pub operands : SuitKinds meaning.operands source.shapes (place_in meaning.pairs place pair)
  pub uniforms : AreOfTypes meaning.uniforms source.uniforms
  pub over : SuitsOver meaning.over source.over place
  pub held : (operand index : ℕ) → meaning.reads source.shapes place pair operand index ≡ true
      → IsSomeAnd (source.held operand index) (InRange (operand_type meaning.operands operand))

-- these cells are those that the data holds, wherever the value at the place may depend on them
abbrev pub Agree : Meaning → Source → (place pair : ℕ) → (cells : ℕ → ℕ → ℤ) → Type 0
Agree meaning source place pair cells =
    (operand index : ℕ) → meaning.reads source.shapes place pair operand index ≡ true
    → source.held operand index ≡ Some (cells operand index)

-- two numbers that the operator takes
abbrev pub AreJoined : Meaning → ℤ → ℤ → Type 0
AreJoined meaning a b = IsSomeAnd meaning.operator (λ ty. InRange ty a × InRange ty b)

-- a value of the operator's type
abbrev pub IsJoined : Meaning → ℤ → Type 0
IsJoined meaning value = IsSomeAnd meaning.operator (λ ty. InRange ty value)

-- a safe function has a value wherever the data suits it
abbrev pub NeverTraps : Meaning → Type 0
NeverTraps meaning =
    meaning.safe ≡ true → (given : Given) (place pair : ℕ) → Suits meaning (holding_all given) place pair
    → IsOk (meaning.value given place pair)

-- a safe operator has a value for all numbers of its type
abbrev pub NeverTrapsJoining : Meaning → Type 0
NeverTrapsJoining meaning = meaning.safe ≡ true → (a b : ℤ) → AreJoined meaning a b → IsOk (meaning.join a b)

-- the same data but for cells
pub record IsAlike (one other : Given) : Type 0 where
  pub shapes : one.shapes ≡ other.shapes
  pub uniforms : one.uniforms ≡ other.uniforms
  pub over : one.over ≡ other.over

-- the value at a place depends on the sizes, the uniform arguments and the cells that the meaning says alone
abbrev pub DependsOnReads : Meaning → Type 0
DependsOnReads meaning =
    (one other : Given) (place pair : ℕ) → IsAlike one other
    → ((operand index : ℕ) → meaning.reads one.shapes place pair operand index ≡ true → one.cells operand index ≡ other.cells operand index)
    → Suits meaning (holding_all one) place pair
    → meaning.value one place pair ≡ meaning.value other place pair

-- The place, or the pair, that is so many behind a first one. Over pairs the place stays, and the pair goes on.
abbrev pub run_place : Meaning → (place behind : ℕ) → ℕ
run_place meaning place behind = if meaning.pairs then place else place + behind

abbrev pub run_pair : Meaning → (pair behind : ℕ) → ℕ
run_pair meaning pair behind = if meaning.pairs then pair + behind else pair

-- data that suits at each of so many places one behind another
abbrev pub SuitsRun : Meaning → Source → (place pair count : ℕ) → Type 0
SuitsRun meaning source place pair count =
    (behind : ℕ) → behind < count → Suits meaning source (run_place meaning place behind) (run_pair meaning pair behind)

abbrev pub AgreeRun : Meaning → Source → (place pair count : ℕ) → (cells : ℕ → ℕ → ℤ) → Type 0
AgreeRun meaning source place pair count cells =
    (behind : ℕ) → behind < count → Agree meaning source (run_place meaning place behind) (run_pair meaning pair behind) cells

-- the values at places one behind another
abbrev pub run_value : Meaning → Given → (place pair behind : ℕ) → Result ℤ Trap
run_value meaning given place pair behind = meaning.value given (run_place meaning place behind) (run_pair meaning pair behind)

-- Cells are the values at places one behind another; or at one of these places there is a trap, and values at all before it.
abbrev pub AreValues : (values : ℕ → Result ℤ Trap) → (cells : List ℤ) → Result (Unit {0}) RunTrap → Type 0
AreValues values cells (Ok done) = (behind : ℕ) → behind < length cells → values behind ≡ Ok (slice_index_or cells behind (pos 0))
AreValues values cells (Err trapped) =
    (trapped.offset < length cells) × (values trapped.offset ≡ Err trapped.trap) × ((behind : ℕ) → behind < trapped.offset → IsOk (values behind))

-- What a skeleton takes of an instance: operands and uniform arguments. A Reduce and a Scan fold the cells of one operand by
-- their operator, and the others evaluate their function.
pub record Taken : Type 0 where
  pub operands : List ParamKind
  pub uniforms : List Ty

abbrev pub folded_by : Option Ty → Taken
folded_by (Some ty) = record { operands = Scalar ty ∷ []; uniforms = [] }
folded_by None = record { operands = []; uniforms = [] }

abbrev pub taken_by : Skeleton → Meaning → Taken
taken_by Reduce meaning = folded_by meaning.operator
taken_by Scan meaning = folded_by meaning.operator
taken_by skeleton meaning = record { operands = meaning.operands; uniforms = meaning.uniforms }
