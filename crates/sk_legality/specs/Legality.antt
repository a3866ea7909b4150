-- Where traces of an object are legal. Only states of copies are looked at, and no cell.
use Rattle.std.specs.Prelude.{ℕ, ◌-◌, ◌<◌, List, take, pos, ℤ, Option, Some, None, IsSomeAnd, slice_get}
use Rattle.sk_isa.specs.declared.object.Object.{Object}
use Rattle.sk_legality.specs.CallLines.{IsLegalCall}
use Rattle.sk_legality.specs.KernelLines.{KernelLine, IsLegalKernel, first_written, written_end}
use Rattle.sk_spaces.specs.Machine.{Machine, start, writes}
use Rattle.sk_spaces.specs.Rules.{IsLegalBy, AreLegalBy, after_all_by}
use Rattle.sk_spaces.specs.declared.step.Step.{Step}
use Rattle.sk_spaces.specs.declared.step.Step.TheVariants as line

-- where the line of a call or of a kernel is legal
abbrev pub IsJudged : Object → Machine → Step → Type 0
IsJudged object m (line.Call call text instance variant parts recorded result operands uniforms settings) =
    IsLegalCall object m call (record {
      line = text;
      instance = instance;
      variant = variant;
      parts = parts;
      recorded = recorded;
      result = result;
      operands = operands;
      uniforms = uniforms;
      settings = settings;
    })
IsJudged object m (line.Kernel call kind part lo hi out trapped inputs) =
    IsLegalKernel object m (record {
      call = call;
      kind = kind;
      part = part;
      lo = lo;
      hi = hi;
      out = out;
      trapped = trapped;
      inputs = inputs;
    })
IsJudged object m step = ⊥

-- what a step says, where it is the line of a kernel
abbrev pub kernel_line : Step → Option KernelLine
kernel_line (line.Kernel call kind part lo hi out trapped inputs) = Some (record {
  call = call;
  kind = kind;
  part = part;
  lo = lo;
  hi = hi;
  out = out;
  trapped = trapped;
  inputs = inputs;
})
kernel_line step = None

-- a kernel that did not trap writes these cells
abbrev pub writes_results : KernelLine → (cells : ℕ → ℤ) → Machine → Machine
writes_results line cells m = elim line.trapped [
  | Some element ↦ m
  | None ↦ writes line.out (first_written line) (written_end line) cells m
]

-- what the line of a kernel does, given the cells that a kernel has
abbrev pub after_giving : (cells : Machine → KernelLine → ℕ → ℤ) → Machine → Step → Machine
after_giving cells m step = elim (kernel_line step) [ Some line ↦ writes_results line (cells m line) m | None ↦ m ]

-- what it does to states, for which cells do not matter
abbrev pub after_states : Machine → Step → Machine
after_states = after_giving (λ m line i. pos 0)

-- where a step is legal
abbrev pub IsLegalStep : Object → Machine → Step → Type 0
IsLegalStep object = IsLegalBy (IsJudged object)

-- the states after some steps, beginning with empty memories
abbrev pub states_after : List Step → Machine
states_after = after_all_by after_states start

-- each step of a trace is legal, one after another
abbrev pub IsLegal : Object → List Step → Type 0
IsLegal object = AreLegalBy (IsJudged object) after_states start

-- The first step of a trace that is not legal, counted from 1: those before it are legal one after another.
pub record IsIllegalAt (object : Object) (trace : List Step) (number : ℕ) : Type 0 where
  pub counted : 0 < number
  pub before : IsLegal object (take (number - 1) trace)
  pub here : IsSomeAnd (slice_get trace (number - 1)) (λ step. IsLegalStep object (states_after (take (number - 1) trace)) step → ⊥)
