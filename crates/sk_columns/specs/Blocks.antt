-- Code at the places of a block.
use Rattle.std.specs.Prelude.{◌≡◌, ℕ, zero, suc, ◌+◌, ◌*◌, ◌<◌, ◌≤◌, Bool, true, false, List, [], ◌∷◌, length, ℤ, pos, Result, Ok, slice_set, slice_index_or}
use Rattle.sk_base.specs.declared.number.Trap.{Trap}
use Rattle.sk_isa.specs.Coded.{Point, Routine, next_of, outcome_of}
use Rattle.sk_isa.specs.Configurations.{Goes, Ended}
use Rattle.sk_isa.specs.declared.code.Instr.{Instr}
use Rattle.sk_isa.specs.declared.code.Instr.TheVariants.{Push, Load, Store, Field, Neg, Inv, Not, Wrap, Binary, Jump, Zero, Ret}
use Rattle.sk_columns.specs.Cells.{cell_of, made_by}
use Rattle.sk_columns.specs.declared.combine.Action.{Action}
use Rattle.sk_columns.specs.declared.level.Level.{Level}
use Rattle.sk_columns.specs.declared.level.Level.TheVariants.{Here}
use Rattle.sk_columns.specs.Known.{Have, Known}

-- the instructions of straight code, of code that chooses between values, and of code that stores them
abbrev pub is_straight : Instr → Bool
is_straight (Push number) = true
is_straight (Load slot) = true
is_straight (Store slot) = true
is_straight (Field slot name) = true
is_straight (Neg ty) = true
is_straight (Inv ty) = true
is_straight Not = true
is_straight Wrap = true
is_straight (Binary op ty) = true
is_straight (Jump to) = true
is_straight (Zero to) = true
is_straight Ret = true
is_straight instr = false

abbrev pub point_of : (at : ℕ) → (stack slots : List ℤ) → (turns : ℕ) → Point
point_of at stack slots turns = record { at = at; stack = stack; slots = slots; kept = turns }

-- A run of the code ends with the number: whatever functions it may call, and whatever its turns, if it begins with arguments
-- and slots of which this is known. It takes no turn.
pub record Gives (instrs : List Instr) (known : Known) (number : ℤ) : Type 0 where
  pub ends : (routine : Routine) (slots : List ℤ) (turns : ℕ) → routine.instrs ≡ instrs → Have known routine.arguments slots
      → (steps : ℕ) × (outcome_of routine steps (point_of 0 [] slots turns) ≡ Ended (Ok (number, turns)))

-- a run from a point comes to this result
abbrev pub Comes : Routine → Point → Result (ℤ × ℕ) Trap → Type 0
Comes routine point result = (steps : ℕ) × (outcome_of routine steps point ≡ Ended result)

-- Code leads from an address with one stack to another address with another stack: with what runs end from there, they end
-- from here.
pub record Reaches (instrs : List Instr) (known : Known) (from : ℕ) (before : List ℤ) (to : ℕ) (after : List ℤ) : Type 0 where
  pub comes : (routine : Routine) (slots : List ℤ) (turns : ℕ) (result : Result (ℤ × ℕ) Trap) → routine.instrs ≡ instrs → Have known routine.arguments slots
      → Comes routine (point_of to after slots turns) result → Comes routine (point_of from before slots turns) result

-- Code leads from an address with slots of which one thing is known to another address with slots of which another thing is,
-- with nothing on the stack at both: with what all runs end from there, they end from here.
pub record Proceeds (instrs : List Instr) (known : Known) (from : ℕ) (known_after : Known) (to : ℕ) : Type 0 where
  pub comes : (routine : Routine) (turns : ℕ) (result : Result (ℤ × ℕ) Trap) → routine.instrs ≡ instrs
      → ((slots : List ℤ) → Have known_after routine.arguments slots → Comes routine (point_of to [] slots turns) result)
      → (slots : List ℤ) → Have known routine.arguments slots → Comes routine (point_of from [] slots turns) result

-- the stack at a place of a block: the cells of so many levels there, the latest first, on those that stood there before
abbrev pub stack_of : List Level → (rows : List ℤ) → (block place : ℕ) → (known : Known) → (rest : List ℤ) → (height : ℕ) → List ℤ
stack_of levels rows block place known rest zero = rest
stack_of levels rows block place known rest (suc fewer) =
    cell_of (slice_index_or levels fewer Here) rows (fewer * block + place) known ∷ stack_of levels rows block place known rest fewer

-- an instruction leads from one stack to another, at the next address, whatever else there is
pub record Leads (instr : Instr) (known : Known) (before after : List ℤ) : Type 0 where
  pub goes : (routine : Routine) (at : ℕ) (slots : List ℤ) (turns : ℕ) → Have known routine.arguments slots
      → next_of routine instr (point_of at before slots turns) ≡ Goes (point_of (suc at) after slots turns)

-- An instruction was done at all places of a block: it leads from the stack of so many levels at each place to that of
-- another number of levels.
pub record IsDone (instr : Instr) (known : ℕ → Known) (block height : ℕ) (levels : List Level) (rows : List ℤ) (after : ℕ)
    (levels_after : List Level) (rows_after : List ℤ) : Type 0 where
  pub inside : after ≤ length levels_after
  pub leads : (place : ℕ) → place < block → (rest : List ℤ)
      → Leads instr (known place) (stack_of levels rows block place (known place) rest height)
      (stack_of levels_after rows_after block place (known place) rest after)

-- A choice was done at all places of a block: the code leads from the stack of so many levels at each place to another one of
-- as many, at an address behind the choice.
pub record IsChosen (instrs : List Instr) (known : ℕ → Known) (block at height : ℕ) (levels : List Level) (rows : List ℤ) (end : ℕ)
    (levels_after : List Level) (rows_after : List ℤ) : Type 0 where
  pub reaches : (place : ℕ) → place < block → (rest : List ℤ)
      → Reaches instrs (known place) at (stack_of levels rows block place (known place) rest height)
      end (stack_of levels_after rows_after block place (known place) rest height)

-- an instruction puts what an action makes of the two topmost cells in their place
pub record TakesTwo (instr : Instr) (action : Action) : Type 0 where
  pub leads : (known : Known) (a b value : ℤ) (rest : List ℤ) → made_by action a b ≡ Ok value
      → Leads instr known (b ∷ a ∷ rest) (value ∷ rest)

-- an instruction puts what an action makes of the topmost cell in its place
pub record TakesOne (instr : Instr) (action : Action) : Type 0 where
  pub leads : (known : Known) (a value : ℤ) (rest : List ℤ) → made_by action a (pos 0) ≡ Ok value
      → Leads instr known (a ∷ rest) (value ∷ rest)

-- one more level stands on so many of them
pub record IsPushed (level : Level) (height : ℕ) (levels : List Level) (after : ℕ) (levels_after : List Level) : Type 0 where
  pub more : after ≡ suc height
  pub room : height < length levels
  pub levels_are : levels_after ≡ slice_set levels height level
