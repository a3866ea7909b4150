-- How many steps code can take from an address before a turn.
use Rattle.std.specs.Prelude.{ℕ, zero, suc, ◌^◌, max, List, [], ◌∷◌, length, Option, Some, None, slice_get}
use Rattle.sk_isa.specs.declared.code.Instr.{Instr}
use Rattle.sk_isa.specs.declared.code.Instr.TheVariants.{Turn}
use Rattle.sk_isa.specs.Soundness.{leads_to}

-- the addresses to which an instruction leads without a turn
abbrev pub without_turn : Option Instr → (at : ℕ) → List ℕ
without_turn (Some Turn) at = []
without_turn (Some instr) at = leads_to instr at
without_turn None at = []

-- one more than the highest value at these addresses, and 0 where there are none
abbrev pub above : (ℕ → ℕ) → List ℕ → ℕ
above value [] = 0
above value (to ∷ others) = max (suc (value to)) (above value others)

-- the most steps from an address before a turn, as far as the fuel reaches
unfoldable pub most_steps : List Instr → (fuel : ℕ) → (at : ℕ) → ℕ
most_steps instrs zero at = 0
most_steps instrs (suc fuel) at = above (most_steps instrs fuel) (without_turn (slice_get instrs at) at)

-- The most steps from an address before a turn. Code whose loops all take turns has no more addresses than fuel is given
-- for, so none of its ways is cut short.
unfoldable pub rank : List Instr → (at : ℕ) → ℕ
rank instrs at = most_steps instrs (2 ^ length instrs) at
