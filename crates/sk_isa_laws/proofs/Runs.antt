-- Sound code is never stuck, and its runs end.
use Rattle.std.proofs.Common.{◌≡◌, ℕ, zero, suc, ◌+◌, ◌-◌, ◌*◌, ◌^◌, ◌<◌, ◌≤◌, ◌⊎◌, true, List, [], ◌++◌, length, map, replicate, All, Contains, ℤ, pos, Option, Some, None, Result, Ok, Err, IsSomeAnd, slice_get, arith, ap, sym, refl, subst, ◌∙◌, inl, inr}
use Rattle.std.proofs.lemmas.Nat.{mul-le}
use Rattle.std.specs.Cmp.Lexicographic.{pointwise}
use Rattle.sk_base.specs.declared.number.Trap.{Trap}
use Rattle.sk_base.specs.declared.number.Ty.{Ty}
use Rattle.sk_meaning.specs.Evaluation.{Argument, kind_type, number_in}
use Rattle.sk_isa.specs.declared.code.Code.{Code}
use Rattle.sk_isa.specs.declared.code.Instr.{Instr}
use Rattle.sk_isa.specs.declared.code.Instr.TheVariants.{Turn}
use Rattle.sk_isa.specs.declared.object.Signature.{Signature}
use Rattle.sk_isa.specs.Coded.{Callee, Next, Point, Routine, code_value, next_of, outcome_of, result_of, routine_of, start_of, step_limit}
use Rattle.sk_isa.specs.Configurations.{Ended, Ends, Goes, Lost, Outcome, Stuck, followed, run_of}
use Rattle.sk_kernel.specs.Kernels.{AreOfTypes}
use Rattle.sk_isa_laws.specs.Laws.{IsReady, RunEnds, StepsAreFine}
use Rattle.sk_isa_laws.specs.Ranks.{rank}
use Rattle.sk_isa.specs.Soundness.{IsSoundCode, LoopsTakeTurns, SuitParams, Types, leads_to, serves}
use Rattle.sk_isa_laws.specs.Steps.{IsFineNext, IsFinePoint, IsFineStep, IsGiven, TakesTurns}
use Rattle.sk_isa_laws.proofs.Instructions.{instruction_so}
use Rattle.sk_isa_laws.proofs.Ranks.{rank_bound, rank_falls}
use Rattle.sk_isa_laws.proofs.Steps.{IsLeftBy}
use Rattle.sk_isa_laws.proofs.TypedLists.{first_slots, typed-served}

-- where the types that were left serve for those that are chosen
fine_behind : (own : Signature) (chosen : Types) (left : List Ty) (behind : Point) → AreOfTypes left behind.stack → AreOfTypes (map kind_type own.slots) behind.slots
    → (found : Option (List Ty)) → chosen behind.at ≡ found → IsSomeAnd found (λ wanted. pointwise serves left wanted ≡ true) → IsFinePoint own chosen behind
fine_behind own chosen left behind stack slots None is h = absurd h
fine_behind own chosen left behind stack slots (Some wanted) is h =
    record { types = wanted; there = is; stack = typed-served left wanted behind.stack h stack; slots = slots }

fine_next : (own : Signature) (chosen : Types) (left : List Ty) (instr : Instr) (before : Point)
    → All (λ to. IsSomeAnd (chosen to) (λ wanted. pointwise serves left wanted ≡ true)) (leads_to instr before.at)
    → (next : Next) → IsLeftBy own left (leads_to instr before.at) (TakesTurns instr) before next → IsFineNext own chosen instr before next
fine_next own chosen left instr before leads (Goes behind) h = record {
  point = fine_behind own chosen left behind h.stack h.slots (chosen behind.at) refl
      (subst (λ (to : ℕ). IsSomeAnd (chosen to) (λ wanted. pointwise serves left wanted ≡ true)) h.led.2 (leads h.led.0 behind.at h.led.1));
  led = h.led;
  turns = h.turns;
}
fine_next own chosen left instr before leads (Ends result) h = h
fine_next own chosen left instr before leads Stuck h = absurd h

pub steps_are_fine : (signatures : List Signature) (function : ℕ) (own : Signature) (code : Code) (callees : List Callee) (arguments : List Argument)
    → (ready : IsReady signatures function own code callees arguments) → StepsAreFine own code callees arguments ready.sound.types.chosen
steps_are_fine signatures function own code callees arguments ready point fine =
    let here = ready.sound.types.each point.at fine.types fine.there in
    subst (λ (found : Option Instr). IsSomeAnd found (λ instr. IsFineNext own ready.sound.types.chosen instr point (next_of (routine_of callees code arguments) instr point)))
    (sym here.found)
    (fine_next own ready.sound.types.chosen here.left here.instr point here.leads (next_of (routine_of callees code arguments) here.instr point)
    (instruction_so (record { signatures = signatures; function = function; own = own }) (routine_of callees code arguments) point
    (record { callees = ready.can_call; arguments = ready.suits; slots = fine.slots })
    fine.types here.left fine.stack here.instr here.effect))

-- the first point
pub start_is_fine : (signatures : List Signature) (function : ℕ) (own : Signature) (code : Code) (arguments : List Argument) (turns : ℕ)
    → (sound : IsSoundCode signatures function own code) → SuitParams own.params arguments → IsFinePoint own sound.types.chosen (start_of code arguments turns)
start_is_fine signatures function own code arguments turns sound suits = record {
  types = [];
  there = sound.types.start;
  stack = tt;
  slots = subst (λ (count : ℕ). AreOfTypes (map kind_type own.slots) (map number_in arguments ++ replicate (count - length arguments) (pos 0)))
      (sym sound.count) (first_slots own.params own.slots arguments sound.slots suits);
}

-- turns and rank together fall with each step
falls_without : (a b p r s : ℕ) → b ≤ a → s < r → b * p + s < a * p + r
falls_without a b p r s upto less = let h : b * p ≤ a * p = mul-le b p a p upto (omega arith) in omega arith

falls_with : (a b p r s : ℕ) → a ≡ suc b → s < p → b * p + s < a * p + r
falls_with a b p r s is less = let h : a * p ≡ b * p + p = ap (λ n. n * p) is ∙ omega arith in omega arith

pub measure_falls : (instrs : List Instr) → LoopsTakeTurns instrs → (instr : Instr) (at to before behind : ℕ) → slice_get instrs at ≡ Some instr
    → Contains (leads_to instr at) to → TakesTurns instr before behind
    → behind * 2 ^ length instrs + rank instrs to < before * 2 ^ length instrs + rank instrs at
measure_falls instrs loops Turn at to before behind found led turns =
    falls_with before behind (2 ^ length instrs) (rank instrs at) (rank instrs to) turns (rank_bound instrs loops to)
measure_falls instrs loops instr at to before behind found led turns =
    falls_without before behind (2 ^ length instrs) (rank instrs at) (rank instrs to) turns
    (subst (λ (t : ℕ). rank instrs t < rank instrs at) led.2 (rank_falls instrs loops at instr found (λ e. cc) led.0 to led.1))

no_more : (instr : Instr) (before behind : ℕ) → TakesTurns instr before behind → behind ≤ before
no_more Turn before behind h = omega arith
no_more instr before behind h = h

given_less : (own : Ty) (turns fewer : ℕ) (result : Result (ℤ × ℕ) Trap) → fewer ≤ turns → IsGiven own fewer result → IsGiven own turns result
given_less own turns fewer (Ok done) less h = (h.0, upto done.1 h.1)
  where
    upto : (left : ℕ) → left ≤ fewer → left ≤ turns
    upto left h = omega arith
given_less own turns fewer (Err trap) less h = tt

-- one step of a run
pub outcome-next : (routine : Routine) (steps : ℕ) (point : Point) (instr : Instr) → slice_get routine.instrs point.at ≡ Some instr
    → outcome_of routine (suc steps) point ≡ followed (next_of routine instr point) (outcome_of routine steps)
unfolding run_of
outcome-next routine steps point instr found =
    ap (λ (f : Option Instr). elim f [ Some instr ↦ followed (next_of routine instr point) (outcome_of routine steps) | None ↦ Lost ]) found

-- a run that ends from a point, with a value that may be given there
pub record EndsFrom (own : Signature) (routine : Routine) (steps : ℕ) (point : Point) : Type 0 where
  pub result : Result (ℤ × ℕ) Trap
  pub outcome : outcome_of routine steps point ≡ Ended result
  pub given : IsGiven own.ret point.kept result

ends_with : (own : Signature) (routine : Routine) (steps : ℕ) (before : Point) (instr : Instr) (chosen : Types)
    → slice_get routine.instrs before.at ≡ Some instr
    → ((behind : Point) → IsFineStep own chosen instr before behind → EndsFrom own routine steps behind)
    → (next : Next) → next_of routine instr before ≡ next → IsFineNext own chosen instr before next → EndsFrom own routine (suc steps) before
ends_with own routine steps before instr chosen found onward (Goes behind) is fine =
    let rest : EndsFrom own routine steps behind = onward behind fine in
    record {
      result = rest.result;
      outcome = outcome-next routine steps before instr found ∙ ap (λ next. followed next (outcome_of routine steps)) is ∙ rest.outcome;
      given = given_less own.ret before.kept behind.kept rest.result (no_more instr before.kept behind.kept fine.turns) rest.given;
    }
ends_with own routine steps before instr chosen found onward (Ends result) is fine = record {
  result = result;
  outcome = outcome-next routine steps before instr found ∙ ap (λ next. followed next (outcome_of routine steps)) is;
  given = fine;
}
ends_with own routine steps before instr chosen found onward Stuck is fine = absurd fine

-- code that keeps to fine points, and whose loops take turns, ends within its measure
ends_from : (own : Signature) (code : Code) (callees : List Callee) (arguments : List Argument) (chosen : Types)
    → StepsAreFine own code callees arguments chosen → LoopsTakeTurns code.instrs → (steps : ℕ) (point : Point) → IsFinePoint own chosen point
    → point.kept * 2 ^ length code.instrs + rank code.instrs point.at < steps → EndsFrom own (routine_of callees code arguments) steps point
ends_from own code callees arguments chosen are_fine loops zero point fine less = absurd (omega arith)
ends_from own code callees arguments chosen are_fine loops (suc steps) point fine less =
    at_instr (slice_get code.instrs point.at) refl (are_fine point fine) (λ behind fine less. ends_from own code callees arguments chosen are_fine loops steps behind fine less)
  where
    at_instr : (found : Option Instr) → slice_get code.instrs point.at ≡ found
        → IsSomeAnd found (λ instr. IsFineNext own chosen instr point (next_of (routine_of callees code arguments) instr point))
        → ((behind : Point) → IsFinePoint own chosen behind → behind.kept * 2 ^ length code.instrs + rank code.instrs behind.at < steps
        → EndsFrom own (routine_of callees code arguments) steps behind)
        → EndsFrom own (routine_of callees code arguments) (suc steps) point
    at_instr None found h again = absurd h
    at_instr (Some instr) found h again =
        ends_with own (routine_of callees code arguments) steps point instr chosen found
        (λ behind step. again behind step.point (lower (measure_falls code.instrs loops instr point.at behind.at point.kept behind.kept found step.led step.turns)))
        (next_of (routine_of callees code arguments) instr point) refl h
      where
        lower : {a : ℕ} → a < point.kept * 2 ^ length code.instrs + rank code.instrs point.at → a < steps
        lower h = omega arith

-- a run that has ended has the same end after more steps
followed_more : (next : Next) (few many : Point → Outcome ℕ Trap) (result : Result (ℤ × ℕ) Trap)
    → ((point : Point) → few point ≡ Ended result → many point ≡ Ended result) → followed next few ≡ Ended result → followed next many ≡ Ended result
followed_more (Goes point) few many result more h = more point h
followed_more (Ends given) few many result more h = h
followed_more Stuck few many result more h = h

pub outcome_more : (routine : Routine) (few many : ℕ) (point : Point) (result : Result (ℤ × ℕ) Trap) → few ≤ many
    → outcome_of routine few point ≡ Ended result → outcome_of routine many point ≡ Ended result
unfolding run_of
outcome_more routine zero many point result upto h = cc
outcome_more routine (suc few) zero point result upto h = absurd (omega arith)
outcome_more routine (suc few) (suc many) point result upto h =
    found (slice_get routine.instrs point.at) (λ to e. outcome_more routine few many to result (omega arith) e) h
  where
    found : (instr : Option Instr) → ((to : Point) → outcome_of routine few to ≡ Ended result → outcome_of routine many to ≡ Ended result)
        → elim instr [ Some instr ↦ followed (next_of routine instr point) (outcome_of routine few) | None ↦ Lost ] ≡ Ended result
        → elim instr [ Some instr ↦ followed (next_of routine instr point) (outcome_of routine many) | None ↦ Lost ] ≡ Ended result
    found None more e = e
    found (Some instr) more e = followed_more (next_of routine instr point) (outcome_of routine few) (outcome_of routine many) result more e

-- two runs from one point that have ended have one end
outcome_alone : (routine : Routine) (few many : ℕ) (point : Point) (one other : Result (ℤ × ℕ) Trap)
    → outcome_of routine few point ≡ Ended one → outcome_of routine many point ≡ Ended other → one ≡ other
outcome_alone routine few many point one other h g = elim (order few many) [
  | inl upto ↦ (let same : Ended one ≡ Ended other = sym (outcome_more routine few many point one upto h) ∙ g in cc)
  | inr upto ↦ (let same : Ended one ≡ Ended other = sym h ∙ outcome_more routine many few point other upto g in cc)
]
  where
    order : (a b : ℕ) → (a ≤ b) ⊎ (b ≤ a)
    order a b = grind arith

pub code_value-is : (callees : List Callee) (code : Code) (arguments : List Argument) (turns : ℕ) (result : Result (ℤ × ℕ) Trap)
    → outcome_of (routine_of callees code arguments) (step_limit code.instrs turns) (start_of code arguments turns) ≡ Ended result
    → code_value callees code arguments turns ≡ result
unfolding code_value
code_value-is callees code arguments turns result h = ap result_of h

pub below_limit : (instrs : List Instr) → LoopsTakeTurns instrs → (turns at : ℕ) → turns * 2 ^ length instrs + rank instrs at < step_limit instrs turns
unfolding step_limit
below_limit instrs loops turns at = under turns (2 ^ length instrs) (rank instrs at) (rank_bound instrs loops at)
  where
    under : (t p r : ℕ) → r < p → t * p + r < suc t * p
    under t p r less = let h : suc t * p ≡ t * p + p = omega arith in omega arith

-- The run of sound code ends within its limit, with the code's value.
pub run_ends : (signatures : List Signature) (function : ℕ) (own : Signature) (code : Code) (callees : List Callee) (arguments : List Argument) (turns : ℕ)
    → IsReady signatures function own code callees arguments
    → RunEnds own (routine_of callees code arguments) (start_of code arguments turns) (step_limit code.instrs turns) turns (code_value callees code arguments turns)
run_ends signatures function own code callees arguments turns ready =
    all (ends_from own code callees arguments ready.sound.types.chosen (steps_are_fine signatures function own code callees arguments ready) ready.sound.loops
    (step_limit code.instrs turns) (start_of code arguments turns) (start_is_fine signatures function own code arguments turns ready.sound ready.suits)
    (below_limit code.instrs ready.sound.loops turns 0))
  where
    all : EndsFrom own (routine_of callees code arguments) (step_limit code.instrs turns) (start_of code arguments turns)
        → RunEnds own (routine_of callees code arguments) (start_of code arguments turns) (step_limit code.instrs turns) turns (code_value callees code arguments turns)
    all run =
        let is : code_value callees code arguments turns ≡ run.result = code_value-is callees code arguments turns run.result run.outcome in
        let ended : outcome_of (routine_of callees code arguments) (step_limit code.instrs turns) (start_of code arguments turns) ≡ Ended (code_value callees code arguments turns) =
        run.outcome ∙ ap Ended (sym is) in
        record {
          ends = λ steps upto. outcome_more (routine_of callees code arguments) (step_limit code.instrs turns) steps (start_of code arguments turns)
              (code_value callees code arguments turns) upto ended;
          given = subst (λ r. IsGiven own.ret turns r) (sym is) run.given;
          alone = λ steps result h. outcome_alone (routine_of callees code arguments) (step_limit code.instrs turns) steps (start_of code arguments turns)
              (code_value callees code arguments turns) result ended h;
        }

-- However many steps a run ends after, it ends with the code's value.
pub value_by_steps : (signatures : List Signature) (function : ℕ) (own : Signature) (code : Code) (callees : List Callee) (arguments : List Argument) (turns : ℕ)
    → IsReady signatures function own code callees arguments → (steps : ℕ) (result : Result (ℤ × ℕ) Trap)
    → outcome_of (routine_of callees code arguments) steps (start_of code arguments turns) ≡ Ended result → code_value callees code arguments turns ≡ result
value_by_steps signatures function own code callees arguments turns ready steps result h =
    (run_ends signatures function own code callees arguments turns ready).alone steps result h
