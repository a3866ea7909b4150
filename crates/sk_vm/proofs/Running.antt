-- Where the run of a function stands in the middle.
use Rattle.std.proofs.Common.{◌≡◌, ℕ, suc, ◌+◌, ◌*◌, ◌^◌, ◌<◌, List, length, ℤ, Option, Some, Result, IsSomeAnd, slice_get, sym, ap, subst, ◌∙◌}
use Rattle.sk_base.specs.declared.number.Trap.{Trap}
use Rattle.sk_base.specs.declared.number.Ty.{Ty}
use Rattle.sk_meaning.specs.Evaluation.{Argument}
use Rattle.sk_isa.specs.declared.code.Code.{Code}
use Rattle.sk_isa.specs.declared.code.Instr.{Instr}
use Rattle.sk_isa.specs.declared.object.Object.{Object}
use Rattle.sk_isa.specs.declared.object.Signature.{Signature}
use Rattle.sk_isa.specs.Coded.{Point, Routine, Next, next_of, outcome_of, routine_of, callees_below, function_of}
use Rattle.sk_isa.specs.Configurations.{Goes, Ends, Ended, followed}
use Rattle.sk_isa_laws.specs.Ranks.{rank}
use Rattle.sk_isa.specs.Soundness.{IsSoundCode, SuitParams}
use Rattle.sk_isa_laws.specs.Steps.{IsFineNext, IsFinePoint, IsFineStep}
use Rattle.sk_isa_laws.proofs.Runs.{measure_falls, outcome-next}
use Rattle.sk_vm.specs.declared.stack.Stand.{Stand}
use Rattle.sk_vm.specs.Points.{point_at}
use Rattle.sk_vm.specs.Rooms.{begun_with}

-- what stays the same in the run of a function
abbrev pub routine_at : Object → (function : ℕ) → Code → (other : ℕ → Argument) → (begun : List ℤ) → Routine
routine_at object function code other begun =
    routine_of (callees_below object.signatures object.functions function) code (begun_with object function other begun)

-- The run stands at a fine point, and what it comes to from there is the function's value.
pub record Running (object : Object) (function : ℕ) (other : ℕ → Argument) (begun : List ℤ) (turns : ℕ) (instrs : List Instr) (stand : Stand) (stack slots : List ℤ) : Type 0 where
  pub code : Code
  pub own : Signature
  pub code_at : slice_get object.functions function ≡ Some code
  pub own_at : slice_get object.signatures function ≡ Some own
  pub instrs_are : instrs ≡ code.instrs
  pub sound : IsSoundCode object.signatures function own code
  pub suits : SuitParams own.params (begun_with object function other begun)
  pub fine : (point : Point) → IsFinePoint own sound.types.chosen point
      → IsSomeAnd (slice_get code.instrs point.at) (λ instr. IsFineNext own sound.types.chosen instr point (next_of (routine_at object function code other begun) instr point))
  pub point : IsFinePoint own sound.types.chosen (point_at stand stack slots)
  pub comes_to : (steps : ℕ) (result : Result (ℤ × ℕ) Trap)
      → outcome_of (routine_at object function code other begun) steps (point_at stand stack slots) ≡ Ended result
      → function_of object function (begun_with object function other begun) turns ≡ result

-- what a step leads to, where it is known
step_fine : (own : Signature) (chosen : ℕ → Option (List Ty)) (routine : Routine) (instr found : Instr) (point : Point) (next : Next) (at : Option Instr)
    → at ≡ Some instr → IsSomeAnd at (λ instr. IsFineNext own chosen instr point (next_of routine instr point)) → next_of routine instr point ≡ next
    → IsFineNext own chosen instr point next
step_fine own chosen routine instr found point next at is fine leads =
    subst (λ (n : Next). IsFineNext own chosen instr point n) leads
    (subst (λ (o : Option Instr). IsSomeAnd o (λ instr. IsFineNext own chosen instr point (next_of routine instr point))) is fine)

-- A step that goes on
pub goes_on : (object : Object) (function : ℕ) (other : ℕ → Argument) (begun : List ℤ) (turns : ℕ) (instrs : List Instr) (stand next : Stand) (stack after slots slots_after : List ℤ) (instr : Instr)
    → slice_get instrs stand.at ≡ Some instr
    → (running : Running object function other begun turns instrs stand stack slots)
    → next_of (routine_at object function running.code other begun) instr (point_at stand stack slots) ≡ Goes (point_at next after slots_after)
    → Running object function other begun turns instrs next after slots_after
    × (next.turns * 2 ^ length instrs + rank instrs next.at < stand.turns * 2 ^ length instrs + rank instrs stand.at)
goes_on object function other begun turns instrs stand next stack after slots slots_after instr found running leads =
    let routine = routine_at object function running.code other begun in
    let at : slice_get running.code.instrs stand.at ≡ Some instr = ap (λ (is : List Instr). slice_get is stand.at) (sym running.instrs_are) ∙ found in
    let step : IsFineStep running.own running.sound.types.chosen instr (point_at stand stack slots) (point_at next after slots_after) =
    step_fine running.own running.sound.types.chosen routine instr instr (point_at stand stack slots) (Goes (point_at next after slots_after))
    (slice_get running.code.instrs stand.at) at (running.fine (point_at stand stack slots) running.point) leads in (
      record {
        code = running.code;
        own = running.own;
        code_at = running.code_at;
        own_at = running.own_at;
        instrs_are = running.instrs_are;
        sound = running.sound;
        suits = running.suits;
        fine = running.fine;
        point = step.point;
        comes_to = λ steps result ended. running.comes_to (suc steps) result
            (outcome-next routine steps (point_at stand stack slots) instr at ∙ ap (λ (n : Next). followed n (outcome_of routine steps)) leads ∙ ended);
      },
      subst (λ (is : List Instr). next.turns * 2 ^ length is + rank is next.at < stand.turns * 2 ^ length is + rank is stand.at) (sym running.instrs_are)
          (measure_falls running.code.instrs running.sound.loops instr stand.at next.at stand.turns next.turns at step.led step.turns),
    )

-- a step that ends the run
pub ends_with : (object : Object) (function : ℕ) (other : ℕ → Argument) (begun : List ℤ) (turns : ℕ) (instrs : List Instr) (stand : Stand) (stack slots : List ℤ) (instr : Instr) (result : Result (ℤ × ℕ) Trap)
    → slice_get instrs stand.at ≡ Some instr
    → (running : Running object function other begun turns instrs stand stack slots)
    → next_of (routine_at object function running.code other begun) instr (point_at stand stack slots) ≡ Ends result
    → function_of object function (begun_with object function other begun) turns ≡ result
ends_with object function other begun turns instrs stand stack slots instr result found running leads =
    let routine = routine_at object function running.code other begun in
    let at : slice_get running.code.instrs stand.at ≡ Some instr = ap (λ (is : List Instr). slice_get is stand.at) (sym running.instrs_are) ∙ found in
    running.comes_to 1 result
    (outcome-next routine 0 (point_at stand stack slots) instr at ∙ ap (λ (n : Next). followed n (outcome_of routine 0)) leads)
