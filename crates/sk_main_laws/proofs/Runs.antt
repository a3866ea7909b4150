-- Main's run begins at a fine point, and ends.
use Rattle.std.proofs.Common.{◌≡◌, ℕ, zero, suc, ◌+◌, ◌*◌, ◌^◌, ◌<◌, ◌≤◌, ◌⊎◌, Bool, false, List, [], ◌∷◌, length, map, replicate, ℤ, pos, Option, Some, None, Result, Ok, Err, IsSomeAnd, slice_get, arith, ap, sym, refl, subst, ◌∙◌, inl, inr}
use Rattle.sk_isa.specs.Coded.{step_limit}
use Rattle.sk_isa.specs.Configurations.{Configuration, Ended, Ends, Goes, Lost, Outcome, Stuck, Transition, followed, run_of}
use Rattle.sk_isa.specs.declared.code.Instr.{Instr}
use Rattle.sk_isa.specs.declared.object.Object.{Object}
use Rattle.sk_isa_laws.proofs.Values.{zero-in_range}
use Rattle.sk_kernel.specs.Kernels.{AreOfTypes}
use Rattle.sk_main_code.specs.MainSoundness.{IsSoundMain, main_signature}
use Rattle.sk_main_code.specs.MainSteps.{MainNext, MainPoint, linked_plan, main_start, next_in_main, over_from}
use Rattle.sk_main_code.specs.Sound.{IsSound}
use Rattle.sk_main_laws.proofs.Instructions.{steps_are_fine}
use Rattle.sk_main_laws.proofs.Ranks.{main_measure_falls, main_rank_bound}
use Rattle.sk_main_laws.specs.FinePoints.{IsFineEnd, IsFineNext, IsFineStep}
use Rattle.sk_main_code.specs.Inputs.{AnswerAll}
use Rattle.sk_main_laws.specs.FineWorlds.{IsFineWorld}
use Rattle.sk_main_laws.specs.Laws.{IsFineIn, RunEnds, StepsAreFine, main_outcome}
use Rattle.sk_main_laws.specs.Ranks.{main_rank, measure_of}
use Rattle.sk_meaning.specs.Evaluation.{kind_type}
use Rattle.sk_tree.specs.declared.tree.ParamKind.{ParamKind}
use Rattle.sk_world.specs.InstanceSettings.{region_type}
use Rattle.sk_world.specs.Runs.{run_over, world_before}
use Rattle.sk_world.specs.World.{Input, Over, World}

-- the first point
zeros : (slots : List ParamKind) → AreOfTypes (map kind_type slots) (replicate (length slots) (pos 0))
zeros [] = tt
zeros (slot ∷ slots) = (zero-in_range (kind_type slot), zeros slots)

fine_before : (object : Object) (inputs : List Input) (bound : ℕ) (live : ℕ → Bool) → AnswerAll object.inputs inputs → ((container : ℕ) → live container ≡ false)
    → IsFineWorld object live (world_before inputs bound)
fine_before object inputs bound live answers none = record {
  containers = tt;
  lives = λ number. sym (none number);
  settings = λ number plan is. record {
    start = tt;
    rows = omega arith;
    columns = omega arith;
    pad = zero-in_range (region_type (linked_plan object number plan));
  };
  inputs = answers;
}

pub begins_fine : (object : Object) → (sound : IsSound object) → (inputs : List Input) → AnswerAll object.inputs inputs → (bound : ℕ)
    → IsFineIn object sound.main (main_start object inputs bound)
begins_fine object sound inputs answers bound = alive (sound.main.lives.chosen 0) refl sound.main.lives.start
  where
    alive : (found : Option (ℕ → Bool)) → sound.main.lives.chosen 0 ≡ found → IsSomeAnd found (λ live. (container : ℕ) → live container ≡ false)
        → IsFineIn object sound.main (main_start object inputs bound)
    alive None is h = absurd h
    alive (Some live) is h = record {
      types = [];
      there = sound.main.types.start;
      stack = tt;
      slots = subst (λ (count : ℕ). AreOfTypes (map kind_type (main_signature object).slots) (replicate count (pos 0))) (sym sound.main.count)
          (zeros (main_signature object).slots);
      live = live;
      lives_there = is;
      world = fine_before object inputs bound live answers h;
    }

-- runs of a code, whatever they keep
module _ {S F : Type 0} (next : Instr → Configuration S → Transition S F) (instrs : List Instr) where
  pub run-next : (steps : ℕ) (point : Configuration S) (instr : Instr) → slice_get instrs point.at ≡ Some instr
      → run_of next instrs (suc steps) point ≡ followed (next instr point) (run_of next instrs steps)
  unfolding run_of
  run-next steps point instr found =
      ap (λ (f : Option Instr). elim f [ Some instr ↦ followed (next instr point) (run_of next instrs steps) | None ↦ Lost ]) found

  -- a run that has ended has the same end after more steps
  followed_more : (to : Transition S F) (few many : Configuration S → Outcome S F) (result : Result (ℤ × S) F)
      → ((point : Configuration S) → few point ≡ Ended result → many point ≡ Ended result) → followed to few ≡ Ended result → followed to many ≡ Ended result
  followed_more (Goes point) few many result more h = more point h
  followed_more (Ends given) few many result more h = h
  followed_more Stuck few many result more h = h

  pub run_more : (few many : ℕ) (point : Configuration S) (result : Result (ℤ × S) F) → few ≤ many
      → run_of next instrs few point ≡ Ended result → run_of next instrs many point ≡ Ended result
  unfolding run_of
  run_more zero many point result upto h = cc
  run_more (suc few) zero point result upto h = absurd (omega arith)
  run_more (suc few) (suc many) point result upto h =
      found (slice_get instrs point.at) (λ to e. run_more few many to result (omega arith) e) h
    where
      found : (instr : Option Instr) → ((to : Configuration S) → run_of next instrs few to ≡ Ended result → run_of next instrs many to ≡ Ended result)
          → elim instr [ Some instr ↦ followed (next instr point) (run_of next instrs few) | None ↦ Lost ] ≡ Ended result
          → elim instr [ Some instr ↦ followed (next instr point) (run_of next instrs many) | None ↦ Lost ] ≡ Ended result
      found None more e = e
      found (Some instr) more e = followed_more (next instr point) (run_of next instrs few) (run_of next instrs many) result more e

  -- two runs from one point that have ended have one end
  pub run_alone : (few many : ℕ) (point : Configuration S) (one other : Result (ℤ × S) F)
      → run_of next instrs few point ≡ Ended one → run_of next instrs many point ≡ Ended other → one ≡ other
  run_alone few many point one other h g = elim (order few many) [
    | inl upto ↦ (let same : Ended one ≡ Ended other = sym (run_more few many point one upto h) ∙ g in cc)
    | inr upto ↦ (let same : Ended one ≡ Ended other = sym h ∙ run_more many few point other upto g in cc)
  ]
    where
      order : (a b : ℕ) → (a ≤ b) ⊎ (b ≤ a)
      order a b = grind arith

-- a run of main that is over after so many steps
pub record EndsFrom (object : Object) (steps : ℕ) (point : MainPoint) : Type 0 where
  pub over : Over
  pub outcome : main_outcome object steps point ≡ Ended (Err over)
  pub fine : IsFineEnd object over

ends_with : (object : Object) (main : IsSoundMain object) (steps : ℕ) (before : MainPoint) (instr : Instr) → slice_get object.main.instrs before.at ≡ Some instr
    → ((behind : MainPoint) → IsFineStep object main.types.chosen main.lives.chosen instr before behind → EndsFrom object steps behind)
    → (next : MainNext) → next_in_main object instr before ≡ next → IsFineNext object main.types.chosen main.lives.chosen instr before next
    → EndsFrom object (suc steps) before
ends_with object main steps before instr found onward (Goes behind) is fine =
    let rest : EndsFrom object steps behind = onward behind fine in
    record {
      over = rest.over;
      outcome = run-next (next_in_main object) object.main.instrs steps before instr found
          ∙ ap (λ (next : MainNext). followed next (main_outcome object steps)) is ∙ rest.outcome;
      fine = rest.fine;
    }
ends_with object main steps before instr found onward (Ends (Ok done)) is fine = absurd fine
ends_with object main steps before instr found onward (Ends (Err over)) is fine = record {
  over = over;
  outcome = run-next (next_in_main object) object.main.instrs steps before instr found
      ∙ ap (λ (next : MainNext). followed next (main_outcome object steps)) is;
  fine = fine;
}
ends_with object main steps before instr found onward Stuck is fine = absurd fine

-- code that keeps to fine points, and whose loops count statements, ends within its measure
pub ends_from : (object : Object) (main : IsSoundMain object) → StepsAreFine object main → (steps : ℕ) (point : MainPoint) → IsFineIn object main point
    → measure_of object.main.instrs point < steps → EndsFrom object steps point
ends_from object main are_fine zero point fine less = absurd (omega arith)
ends_from object main are_fine (suc steps) point fine less =
    at_instr (slice_get object.main.instrs point.at) refl (are_fine point fine) (λ behind fine less. ends_from object main are_fine steps behind fine less)
  where
    at_instr : (found : Option Instr) → slice_get object.main.instrs point.at ≡ found
        → IsSomeAnd found (λ instr. IsFineNext object main.types.chosen main.lives.chosen instr point (next_in_main object instr point))
        → ((behind : MainPoint) → IsFineIn object main behind → measure_of object.main.instrs behind < steps → EndsFrom object steps behind)
        → EndsFrom object (suc steps) point
    at_instr None found h again = absurd h
    at_instr (Some instr) found h again =
        ends_with object main steps point instr found
        (λ behind step. again behind step.point (lower (measure_of object.main.instrs behind) (main_measure_falls object main instr point behind found step)))
        (next_in_main object instr point) refl h
      where
        lower : (a : ℕ) → a < measure_of object.main.instrs point → a < steps
        lower a h = omega arith

below_limit : (object : Object) (main : IsSoundMain object) (inputs : List Input) (bound : ℕ)
    → measure_of object.main.instrs (main_start object inputs bound) < step_limit object.main.instrs bound
unfolding step_limit
below_limit object main inputs bound =
    under bound (2 ^ length object.main.instrs) (main_rank object.main.instrs 0) (main_rank_bound object.main.instrs main.loops 0)
  where
    under : (t p r : ℕ) → r < p → t * p + r < suc t * p
    under t p r less = let h : suc t * p ≡ t * p + p = omega arith in omega arith

pub run_ends : (object : Object) → IsSound object → (inputs : List Input) → AnswerAll object.inputs inputs → (bound : ℕ)
    → RunEnds object inputs bound
run_ends object sound inputs answers bound =
    all (ends_from object sound.main (steps_are_fine object sound) (step_limit object.main.instrs bound) (main_start object inputs bound)
    (begins_fine object sound inputs answers bound) (below_limit object sound.main inputs bound))
  where
    all : EndsFrom object (step_limit object.main.instrs bound) (main_start object inputs bound) → RunEnds object inputs bound
    all run = record {
      over = run.over;
      ends = λ steps upto. run_more (next_in_main object) object.main.instrs (step_limit object.main.instrs bound) steps (main_start object inputs bound)
          (Err run.over) upto run.outcome;
      alone = λ steps result h. run_alone (next_in_main object) object.main.instrs (step_limit object.main.instrs bound) steps (main_start object inputs bound)
          (Err run.over) result run.outcome h;
      fine = run.fine;
      coded = λ dump. ap (λ (outcome : Outcome World Over). run_over dump (over_from (world_before inputs bound) outcome)) run.outcome;
    }
