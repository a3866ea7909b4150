-- How many steps main can take from an address before it counts a statement.
use Rattle.std.specs.Prelude.{ℕ, ◌+◌, ◌*◌, ◌^◌, List, length, map}
use Rattle.sk_isa.specs.declared.code.Instr.{Instr}
use Rattle.sk_isa.specs.declared.code.Instr.TheVariants.{Count, Endl, Turn}
use Rattle.sk_isa_laws.specs.Ranks.{rank}
use Rattle.sk_main_code.specs.MainSteps.{MainPoint}

-- Main counts statements where a function takes turns: with turns in place of counts its code has the jumps of a function.
abbrev pub with_turns : Instr → Instr
with_turns (Count line) = Turn
with_turns Turn = Endl
with_turns instr = instr

-- the most steps from an address before a statement is counted
unfoldable pub main_rank : List Instr → (at : ℕ) → ℕ
main_rank instrs at = rank (map with_turns instrs) at

-- what falls with each step: the statements that are left, and then the rank
abbrev pub measure_of : List Instr → MainPoint → ℕ
measure_of instrs point = point.kept.statements_left * 2 ^ length instrs + main_rank instrs point.at
