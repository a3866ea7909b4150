-- Main's run, from its start to its end.
use Rattle.std.proofs.Common.{◌≡◌, ℕ, suc, List, ℤ, Option, Some, None, Result, Ok, Err, IsSomeAnd, slice_get, ap, refl, subst, ◌∙◌}
use Rattle.sk_isa.specs.Configurations.{Ended, Ends, Goes, Stuck, followed}
use Rattle.sk_isa.specs.declared.code.Instr.{Instr}
use Rattle.sk_isa.specs.declared.object.Object.{Object}
use Rattle.sk_main_code.specs.MainSteps.{MainNext, MainPoint, main_start, next_in_main}
use Rattle.sk_main_code.specs.Sound.{IsSound}
use Rattle.sk_main_laws.proofs.Instructions.{steps_are_fine}
use Rattle.sk_main_laws.proofs.Ranks.{main_measure_falls}
use Rattle.sk_main_laws.proofs.Runs.{begins_fine, run-next, run_ends}
use Rattle.sk_main_laws.specs.FinePoints.{IsFineNext}
use Rattle.sk_main_code.specs.Inputs.{AnswerAll}
use Rattle.sk_main_laws.specs.Laws.{RunEnds, main_outcome}
use Rattle.sk_main_laws.specs.Running.{IsMeaning, IsRunning, IsRunningNext, RunsOn}
use Rattle.sk_world.specs.World.{Input, Over, World}

begins : (object : Object) (sound : IsSound object) (inputs : List Input) (bound : ℕ) → AnswerAll object.inputs inputs
    → IsRunning object sound inputs bound (main_start object inputs bound)
begins object sound inputs bound answers = record { fine = begins_fine object sound inputs answers bound; comes_to = comes (run_ends object sound inputs answers bound) }
  where
    comes : RunEnds object inputs bound → (steps : ℕ) (over : Over) → main_outcome object steps (main_start object inputs bound) ≡ Ended (Err over)
        → IsMeaning object inputs bound over
    comes run steps over ended = subst (λ (one : Over). IsMeaning object inputs bound one) (same run.over over (run.alone steps (Err over) ended)) run.coded
      where
        same : (one other : Over) → ◌≡◌ {A = Result (ℤ × World) Over} (Err one) (Err other) → one ≡ other
        same one other e = cc

next_runs : (object : Object) (sound : IsSound object) (inputs : List Input) (bound : ℕ) (point : MainPoint) (instr : Instr)
    → slice_get object.main.instrs point.at ≡ Some instr → IsRunning object sound inputs bound point
    → (next : MainNext) → next_in_main object instr point ≡ next → IsFineNext object sound.main.types.chosen sound.main.lives.chosen instr point next
    → IsRunningNext object sound inputs bound point next
next_runs object sound inputs bound point instr found running (Goes behind) is step = (
  record {
    fine = step.point;
    comes_to = λ steps over ended. running.comes_to (suc steps) over
        (run-next (next_in_main object) object.main.instrs steps point instr found
        ∙ ap (λ (next : MainNext). followed next (main_outcome object steps)) is ∙ ended);
  },
  main_measure_falls object sound.main instr point behind found step,
)
next_runs object sound inputs bound point instr found running (Ends (Ok done)) is fine = fine
next_runs object sound inputs bound point instr found running (Ends (Err over)) is fine = (
  fine,
  running.comes_to 1 over (run-next (next_in_main object) object.main.instrs 0 point instr found
      ∙ ap (λ (next : MainNext). followed next (main_outcome object 0)) is),
)
next_runs object sound inputs bound point instr found running Stuck is fine = fine

pub runs_on : (object : Object) (sound : IsSound object) (inputs : List Input) (bound : ℕ) → RunsOn object sound inputs bound
runs_on object sound inputs bound = record {
  begins = begins object sound inputs bound;
  goes_on = λ point running. at (slice_get object.main.instrs point.at) point running refl (steps_are_fine object sound point running.fine);
}
  where
    at : (found : Option Instr) (point : MainPoint) → IsRunning object sound inputs bound point → slice_get object.main.instrs point.at ≡ found
        → IsSomeAnd found (λ instr. IsFineNext object sound.main.types.chosen sound.main.lives.chosen instr point (next_in_main object instr point))
        → IsSomeAnd found (λ instr. IsRunningNext object sound inputs bound point (next_in_main object instr point))
    at None point running is fine = absurd fine
    at (Some instr) point running is fine =
        next_runs object sound inputs bound point instr is running (next_in_main object instr point) refl fine
