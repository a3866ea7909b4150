-- What compiled functions compute, one instruction after another.
use Rattle.std.specs.Prelude.{ℕ, zero, suc, ◌-◌, ◌*◌, ◌^◌, List, [], ◌∷◌, ◌++◌, length, map, replicate, ℤ, pos, Option, Some, None, Result, Ok, Err, slice_get}
use Rattle.sk_base.specs.Arithmetic.{op_of}
use Rattle.sk_base.specs.declared.number.Trap.{Trap}
use Rattle.sk_base.specs.declared.number.Trap.TheVariants.{Turns}
use Rattle.sk_meaning.specs.Evaluation.{Argument, Value, field_of, element_at, number_in}
use Rattle.sk_isa.specs.Configurations.{Configuration, Transition, Goes, Ends, Stuck, Outcome, Ended, Unfinished, Lost, going, with_one, with_many, giving, returning, next_by, run_of}
use Rattle.sk_isa.specs.declared.code.Code.{Code}
use Rattle.sk_isa.specs.declared.code.Instr.{Instr}
use Rattle.sk_isa.specs.declared.code.Instr.TheVariants.{Field, Item, Region, Turn, Call, Ret}
use Rattle.sk_isa.specs.declared.object.Object.{Object}
use Rattle.sk_isa.specs.declared.object.Signature.{Signature}

-- a function's run keeps the turns that are left, and stops by traps
abbrev pub Point : Type 0
Point = Configuration ℕ

abbrev pub Next : Type 0
Next = Transition ℕ Trap

-- a function that may be called: how many arguments it takes, and its value for arguments and the turns left
pub record Callee : Type 0 where
  pub takes : ℕ
  pub call : List ℤ → ℕ → Result (ℤ × ℕ) Trap

-- what stays the same while a code runs: the functions that it may call, its arguments, and its instructions
pub record Routine : Type 0 where
  pub callees : List Callee
  pub arguments : List Argument
  pub instrs : List Instr

-- a trap stops the run as it is
abbrev pub by_trap : Trap → (turns : ℕ) → Trap
by_trap trap turns = trap

-- one of the turns that are left
abbrev pub turning : Point → ℕ → Next
turning point zero = Ends (Err Turns)
turning point (suc left) = Goes (record point { at = suc point.at; kept = left })

-- What the instructions lead to that functions have of their own. Those of main alone have no meaning here.
abbrev pub function_next : Routine → Instr → Point → Next
function_next routine (Field slot name) point =
    elim (slice_get routine.arguments slot) [ Some argument ↦ going point (field_of argument name ∷ point.stack) | None ↦ Stuck ]
function_next routine (Item slot places) point = with_many places point.stack (λ place rest.
    elim (slice_get routine.arguments slot) [ Some argument ↦ giving by_trap point rest (element_at argument place) | None ↦ Stuck ])
function_next routine (Region slot places) point = with_many places point.stack (λ place rest.
    elim (slice_get routine.arguments slot) [ Some argument ↦ giving by_trap point rest (element_at argument place) | None ↦ Stuck ])
function_next routine Turn point = turning point point.kept
function_next routine (Call function) point = elim (slice_get routine.callees function) [
  | Some callee ↦ with_many callee.takes point.stack (λ values rest. returning point rest (callee.call values point.kept))
  | None ↦ Stuck
]
function_next routine Ret point = with_one point.stack (λ a rest. Ends (Ok (a, point.kept)))
function_next routine instr point = Stuck

-- what an instruction of a function leads to
abbrev pub next_of : Routine → Instr → Point → Next
next_of routine = next_by op_of by_trap (function_next routine)

-- the outcome from a point on, after at most that many instructions
abbrev pub outcome_of : Routine → (steps : ℕ) → Point → Outcome ℕ Trap
outcome_of routine = run_of (next_of routine) routine.instrs

-- More steps than any run of sound code takes: each way round a loop passes a turn, so between two turns no instruction is
-- executed twice. A power is far more than that, and easier to prove.
unfoldable pub step_limit : List Instr → (turns : ℕ) → ℕ
step_limit instrs turns = suc turns * 2 ^ length instrs

-- The result of a run. Runs of sound code end; for every other the value is 0.
abbrev pub result_of : Outcome ℕ Trap → Result (ℤ × ℕ) Trap
result_of (Ended result) = result
result_of Unfinished = Ok (pos 0, 0)
result_of Lost = Ok (pos 0, 0)

-- the first address, with an empty stack; parameters begin with their arguments, and every other slot with 0
abbrev pub start_of : Code → List Argument → (turns : ℕ) → Point
start_of code arguments turns = record {
  at = 0;
  stack = [];
  slots = map number_in arguments ++ replicate (code.slots - length arguments) (pos 0);
  kept = turns;
}

abbrev pub routine_of : List Callee → Code → List Argument → Routine
routine_of callees code arguments = record { callees = callees; arguments = arguments; instrs = code.instrs }

-- the value of a code for arguments and the turns left, beside the turns that are then left, or its first trap
unfoldable pub code_value : List Callee → Code → List Argument → (turns : ℕ) → Result (ℤ × ℕ) Trap
code_value callees code arguments turns =
    result_of (outcome_of (routine_of callees code arguments) (step_limit code.instrs turns) (start_of code arguments turns))

abbrev pub callee_of : List Callee → Signature → Code → Callee
callee_of callees signature code =
    record { takes = length signature.params; call = λ values turns. code_value callees code (map Value values) turns }

abbrev pub with_callee : List Callee → Option Signature → Option Code → List Callee
with_callee callees (Some signature) (Some code) = callees ++ callee_of callees signature code ∷ []
with_callee callees (Some signature) None = callees
with_callee callees None code = callees

-- the functions below a number, each of which may call those below it
unfoldable pub callees_below : List Signature → List Code → ℕ → List Callee
callees_below signatures codes zero = []
callees_below signatures codes (suc fewer) =
    with_callee (callees_below signatures codes fewer) (slice_get signatures fewer) (slice_get codes fewer)

-- the value of a function of a compiled program, by its number
abbrev pub function_of : Object → (function : ℕ) → List Argument → (turns : ℕ) → Result (ℤ × ℕ) Trap
function_of object function arguments turns = elim (slice_get object.functions function) [
  | Some code ↦ code_value (callees_below object.signatures object.functions function) code arguments turns
  | None ↦ Ok (pos 0, turns)
]
