-- The text of a trace, and the first line of a text that has no reading.
use Rattle.std.specs.Prelude.{◌≡◌, ◌≢◌, ℕ, ◌+◌, List, [], ◌++◌, length, All, codes, ⊤}
use Rattle.std.specs.List.{flat_map}
use Rattle.sk_spaces.specs.declared.step.Step.{Step}
use Rattle.sk_trace.specs.declared.fault.TraceFault.{TraceFault}
use Rattle.sk_trace.specs.declared.fault.TraceFault.TheVariants.{Line, Memory}
use Rattle.sk_trace.specs.Fits.{IsStep}
use Rattle.sk_trace.specs.Lines.{line_of}

-- the first line, with its line feed
abbrev pub first_line : List ℕ
first_line = codes "skepu-trace 1\n"

-- the line of a step, with its line feed
abbrev pub ended_line : Step → List ℕ
ended_line s = line_of s ++ codes "\n"

-- the first line, then the line of each step
abbrev pub written_of : List Step → List ℕ
written_of steps = first_line ++ flat_map ended_line steps

-- the text does not begin with the first line of a trace
abbrev pub LacksFirstLine : List ℕ → Type 0
LacksFirstLine text = (rest : List ℕ) → text ≢ first_line ++ rest

-- the text does not begin with the line of a step: its first line is that of none, or has no line feed
abbrev pub LacksStep : List ℕ → Type 0
LacksStep text = (s : Step) → IsStep s → (rest : List ℕ) → text ≢ ended_line s ++ rest

-- a trace of some steps stands in front, and behind it is a line that has no reading
pub record IsBroken (text : List ℕ) (number : ℕ) : Type 0 where
  pub steps : List Step
  pub fit : All IsStep steps
  pub rest : List ℕ
  pub split : text ≡ written_of steps ++ rest
  pub numbered : length steps + 2 ≡ number
  pub some : rest ≢ []
  pub unread : LacksStep rest

-- this is the number of the first line without a reading; lines count from 1
pub data IsUnread (text : List ℕ) : ℕ → Type 0 where
  first : LacksFirstLine text → IsUnread text 1
  later : {number : ℕ} → IsBroken text number → IsUnread text number

-- why a text is no trace: its first line without a reading, or memory is wanting
abbrev pub IsTraceFault : List ℕ → TraceFault → Type 0
IsTraceFault text (Line number) = IsUnread text number
IsTraceFault text Memory = ⊤
