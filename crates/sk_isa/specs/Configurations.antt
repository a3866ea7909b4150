-- How the instructions that functions and main share change a configuration, one after another. What a run keeps beside its
-- stack and slots is open here: functions keep their turns, and main keeps the world; so are the values of operators, how a
-- run may stop, and what the other instructions do.
use Rattle.std.specs.Prelude.{ℕ, zero, suc, nat_le, nat_lt, if◌then◌else◌, List, [], ◌∷◌, length, take, drop, reverse, ℤ, Some, None, Result, Ok, Err, slice_get, slice_set}
use Rattle.sk_base.specs.Arithmetic.{wrapped}
use Rattle.sk_base.specs.declared.number.Trap.{Trap}
use Rattle.sk_base.specs.declared.number.Ty.TheVariants.{Int}
use Rattle.sk_meaning.specs.Expressions.{Arithmetic, holds, prefix_of}
use Rattle.sk_tree.specs.declared.tree.Un.TheVariants as prefix
use Rattle.sk_isa.specs.declared.code.Instr.{Instr}
use Rattle.sk_isa.specs.declared.code.Instr.TheVariants.{Push, Pop, Load, Store, Neg, Inv, Not, Wrap, Binary, Jump, Zero}

-- Where the run of a code stands: the address of the next instruction, the values on the stack, the latest first, the value
-- of each slot (0 where it holds no number), and what is kept beside them.
pub record Configuration (S : Type 0) : Type 0 where
  pub at : ℕ
  pub stack : List ℤ
  pub slots : List ℤ
  pub kept : S

-- What an instruction leads to: a configuration from which the run goes on, or its end, with a value or by a stop. It is
-- stuck where it lacks what it names or needs.
pub data Transition (S F : Type 0) : Type 0 where
  Goes : Configuration S → Transition S F
  Ends : Result (ℤ × S) F → Transition S F
  Stuck : Transition S F

module _ {S F : Type 0} where
  -- the next address, with these values on the stack
  abbrev pub going : Configuration S → List ℤ → Transition S F
  going point stack = Goes (record point { at = suc point.at; stack = stack })

  -- the topmost value
  abbrev pub with_one : List ℤ → (ℤ → List ℤ → Transition S F) → Transition S F
  with_one [] next = Stuck
  with_one (a ∷ rest) next = next a rest

  -- the two topmost values, of which the right operand is the upper one
  abbrev pub with_two : List ℤ → (ℤ → ℤ → List ℤ → Transition S F) → Transition S F
  with_two [] next = Stuck
  with_two (b ∷ []) next = Stuck
  with_two (b ∷ a ∷ rest) next = next a b rest

  -- so many of the topmost values, in the order in which they were pushed
  abbrev pub with_many : ℕ → List ℤ → (List ℤ → List ℤ → Transition S F) → Transition S F
  with_many count stack next = if nat_le count (length stack) then next (reverse (take count stack)) (drop count stack) else Stuck

  -- a value is pushed, and a trap ends the run
  abbrev pub giving : (stop : Trap → S → F) → Configuration S → List ℤ → Result ℤ Trap → Transition S F
  giving stop point rest (Ok value) = going point (value ∷ rest)
  giving stop point rest (Err trap) = Ends (Err (stop trap point.kept))

  -- the value of a call is pushed, beside what it kept, and its stop ends the run
  abbrev pub returning : Configuration S → List ℤ → Result (ℤ × S) F → Transition S F
  returning point rest (Ok done) = Goes (record point { at = suc point.at; stack = done.0 ∷ rest; kept = done.1 })
  returning point rest (Err stop) = Ends (Err stop)

  abbrev pub stored : Configuration S → ℕ → ℤ → List ℤ → Transition S F
  stored point slot value rest =
      if nat_lt slot (length point.slots)
      then Goes (record point { at = suc point.at; stack = rest; slots = slice_set point.slots slot value }) else Stuck

  -- What an instruction leads to, given the values of operators, how a trap stops the run, and what the instructions do that
  -- are not shared.
  abbrev pub next_by : Arithmetic → (stop : Trap → S → F) → (own : Instr → Configuration S → Transition S F) → Instr → Configuration S → Transition S F
  next_by arithmetic stop own (Push x) point = going point (x ∷ point.stack)
  next_by arithmetic stop own Pop point = with_one point.stack (λ a rest. going point rest)
  next_by arithmetic stop own (Load slot) point = elim (slice_get point.slots slot) [ Some value ↦ going point (value ∷ point.stack) | None ↦ Stuck ]
  next_by arithmetic stop own (Store slot) point = with_one point.stack (λ a rest. stored point slot a rest)
  next_by arithmetic stop own (Neg ty) point = with_one point.stack (λ a rest. going point (prefix_of prefix.Neg ty a ∷ rest))
  next_by arithmetic stop own (Inv ty) point = with_one point.stack (λ a rest. going point (prefix_of prefix.Inv ty a ∷ rest))
  next_by arithmetic stop own Not point = with_one point.stack (λ a rest. going point (prefix_of prefix.Not Int a ∷ rest))
  next_by arithmetic stop own Wrap point = with_one point.stack (λ a rest. going point (wrapped Int a ∷ rest))
  next_by arithmetic stop own (Binary op ty) point = with_two point.stack (λ a b rest. giving stop point rest (arithmetic op ty a b))
  next_by arithmetic stop own (Jump to) point = Goes (record point { at = to })
  next_by arithmetic stop own (Zero to) point = with_one point.stack (λ a rest.
      Goes (record point { at = if holds a then suc point.at else to; stack = rest }))
  next_by arithmetic stop own instr point = own instr point

-- how far a run has come
pub data Outcome (S F : Type 0) : Type 0 where
  Ended : Result (ℤ × S) F → Outcome S F
  Unfinished : Outcome S F
  Lost : Outcome S F

abbrev pub followed : {S F : Type 0} → Transition S F → (Configuration S → Outcome S F) → Outcome S F
followed (Goes point) next = next point
followed (Ends result) next = Ended result
followed Stuck next = Lost

module _ {S F : Type 0} (next : Instr → Configuration S → Transition S F) (instrs : List Instr) where
  -- the outcome from a configuration on, after at most that many instructions
  unfoldable pub run_of : (steps : ℕ) → Configuration S → Outcome S F
  run_of zero point = Unfinished
  run_of (suc fewer) point = elim (slice_get instrs point.at) [
    | Some instr ↦ followed (next instr point) (run_of fewer)
    | None ↦ Lost
  ]
