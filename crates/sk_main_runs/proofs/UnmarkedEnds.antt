-- Runs of objects that lack marks, and of all objects that stand for a program of vectors.
use Rattle.std.proofs.Common.{◌≡◌, ℕ, zero, suc, List, [], ◌∷◌, replicate, ℤ, pos, Option, Some, None, refl, sym, ap, ◌∙◌, subst}
use Rattle.std.specs.Prelude.{Result, Ok, Err, slice_get}
use Rattle.sk_isa.specs.Coded.{step_limit}
use Rattle.sk_isa.specs.Configurations.{Goes, Ends, Stuck, Outcome, Ended, Unfinished, Lost, followed, run_of}
use Rattle.sk_isa.specs.declared.code.Code.{Code}
use Rattle.sk_isa.specs.declared.code.Instr.{Instr}
use Rattle.sk_isa.specs.declared.object.Object.{Object}
use Rattle.sk_isa.specs.declared.object.Plan.{Plan}
use Rattle.sk_main_code.specs.MainSteps.{MainNext, coded_of, next_in_main, over_from}
use Rattle.sk_main_means.specs.MainMeans.{IsSameRun}
use Rattle.sk_main_names.proofs.Objects.{compiled_have_names}
use Rattle.sk_main_runs.proofs.Runs.{stands}
use Rattle.sk_main_runs.proofs.SameFunctions.{means_alike}
use Rattle.sk_main_runs.proofs.UnmarkedRuns.{next-same}
use Rattle.sk_main_runs.proofs.Untold.{untold, untold_over, untold_value, untold_next}
use Rattle.sk_main_runs.proofs.VectorRuns.{compiled_vectors_run}
use Rattle.sk_main_runs.specs.Unmarked.{ArePlans, IsUnmarked, StandingEndsAlike, StandingVectorsRunAsSource, UnmarkedRunAlike, VectorsRun}
use Rattle.sk_main_scheme.specs.Objects.{AreSomePlans, object_of}
use Rattle.sk_world.specs.Runs.{ProgramRun, world_before}
use Rattle.sk_world.specs.World.{World, Over}

abbrev untold_outcome : Outcome World Over → Outcome World Over
untold_outcome (Ended result) = Ended (untold_value result)
untold_outcome Unfinished = Unfinished
untold_outcome Lost = Lost

value-twice : (o : Result (ℤ × World) Over) → untold_value o ≡ untold_value (untold_value o)
value-twice (Ok done) = refl
value-twice (Err over) = refl

plans-self : (o : Option Plan) → ArePlans o o
plans-self (Some plan) = refl
plans-self None = tt

self : (object : Object) → IsUnmarked object object
self object = record { same = refl; plans = λ number. plans-self (slice_get object.instances number) }

module _ (instrs : List Instr) where
  -- runs of so many steps end alike
  abbrev RunAlike : ℕ → Object → Object → Type 0
  RunAlike k object all = (at : ℕ) (stack slots : List ℤ) (w : World)
      → untold_outcome (run_of (next_in_main object) instrs k (stands at stack slots w)) ≡ untold_outcome (run_of (next_in_main all) instrs k (stands at stack slots (untold w)))

  follow-untold : (object all : Object) (k : ℕ) → RunAlike k object all → (t : MainNext)
      → untold_outcome (followed t (run_of (next_in_main object) instrs k)) ≡ untold_outcome (followed (untold_next t) (run_of (next_in_main all) instrs k))
  follow-untold object all k alike (Goes point) = alike point.at point.stack point.slots point.kept
  follow-untold object all k alike (Ends result) = ap (λ (r : Result (ℤ × World) Over). Ended r) (value-twice result)
  follow-untold object all k alike Stuck = refl

  found-alike : (object all : Object) → IsUnmarked object all → (k : ℕ) → RunAlike k object all → RunAlike k all all → (at : ℕ) (stack slots : List ℤ) (w : World) (found : Option Instr)
      → untold_outcome (elim found as (λ x. Outcome World Over) [ Some i ↦ followed (next_in_main object i (stands at stack slots w)) (run_of (next_in_main object) instrs k) | None ↦ Lost ])
      ≡ untold_outcome (elim found as (λ x. Outcome World Over) [ Some i ↦ followed (next_in_main all i (stands at stack slots (untold w))) (run_of (next_in_main all) instrs k) | None ↦ Lost ])
  found-alike object all h k alike own at stack slots w (Some i) =
      follow-untold object all k alike (next_in_main object i (stands at stack slots w))
      ∙ ap (λ (t : MainNext). untold_outcome (followed t (run_of (next_in_main all) instrs k))) (next-same object all h i at stack slots w)
      ∙ sym (follow-untold all all k own (next_in_main all i (stands at stack slots (untold w))))
  found-alike object all h k alike own at stack slots w None = refl

  run-alike : (k : ℕ) (object all : Object) → IsUnmarked object all → RunAlike k object all
  unfolding run_of
  run-alike zero object all h at stack slots w = refl
  run-alike (suc k) object all h at stack slots w =
      found-alike object all h k (run-alike k object all h) (run-alike k all all (self all)) at stack slots w (slice_get instrs at)

over-alike : (world : World) (o : Outcome World Over) → untold_over (over_from world o) ≡ untold_over (over_from world (untold_outcome o))
over-alike world (Ended (Ok done)) = refl
over-alike world (Ended (Err over)) = refl
over-alike world Unfinished = refl
over-alike world Lost = refl

-- an object that lacks marks
pub unmarked_run : UnmarkedRunAlike
unmarked_run object all h inputs bound dump =
    let world : World = world_before inputs bound in
    let outcome : Object → Code → Outcome World Over = λ o code.
    run_of (next_in_main o) code.instrs (step_limit code.instrs bound) (stands 0 [] (replicate code.slots (pos 0)) world) in
    let first : untold_outcome (outcome object object.main) ≡ untold_outcome (outcome all object.main) =
    run-alike object.main.instrs (step_limit object.main.instrs bound) object all h 0 [] (replicate object.main.slots (pos 0)) world in
    let second : outcome all object.main ≡ outcome all all.main = ap (λ (o : Object). outcome all o.main) h.same in
    let same : untold_over (over_from world (outcome object object.main)) ≡ untold_over (over_from world (outcome all all.main)) =
    over-alike world (outcome object object.main) ∙ ap (λ (o : Outcome World Over). untold_over (over_from world o)) first
    ∙ sym (over-alike world (outcome all object.main)) ∙ ap (λ (o : Outcome World Over). untold_over (over_from world o)) second in
    record {
      printed = ap (λ (o : Over). o.world.printed) same;
      containers = ap (λ (o : Over). o.world.containers) same;
      ending = ap (λ (o : Over). o.ending) same;
    }

plans-at : (plans all : List Plan) → AreSomePlans plans all → (number : ℕ) → ArePlans (slice_get plans number) (slice_get all number)
plans-at [] [] h number = tt
plans-at [] (one ∷ all) h number = absurd h
plans-at (plan ∷ plans) [] h number = absurd h
plans-at (plan ∷ plans) (one ∷ all) h zero = h.0.same
plans-at (plan ∷ plans) (one ∷ all) h (suc number) = plans-at plans all h.1 number

-- each object that stands for a program of vectors
pub standing_vectors_run : StandingVectorsRunAsSource
standing_vectors_run program vectors means names object stands_for inputs bound dump over =
    let less : IsUnmarked object (object_of program) = record { same = stands_for.same; plans = plans-at object.instances (object_of program).instances stands_for.instances } in
    subst (λ (run : ProgramRun). IsSameRun (coded_of object inputs bound dump) run)
    (compiled_vectors_run program vectors (means_alike program means) names inputs bound dump over)
    (unmarked_run object (object_of program) less inputs bound dump)

pub standing_run : VectorsRun
standing_run program vectors means object stands_for inputs bound dump over =
    standing_vectors_run program vectors means (compiled_have_names program vectors) object stands_for inputs bound dump over

-- ---- where a run is over

ended_alike : (one other : Outcome World Over) → untold_outcome one ≡ untold_outcome other → (result : Result (ℤ × World) Over) → one ≡ Ended result → (r : Result (ℤ × World) Over) × (other ≡ Ended r)
ended_alike one (Ended r) same result e = (r, refl)
ended_alike one Unfinished same result e = let no : ⊥ = cc (same, ap untold_outcome e) in absurd no
ended_alike one Lost same result e = let no : ⊥ = cc (same, ap untold_outcome e) in absurd no

pub standing_ends : StandingEndsAlike
standing_ends program object stands_for inputs bound over =
    let all : Object = object_of program in
    let less : IsUnmarked object all = record { same = stands_for.same; plans = plans-at object.instances all.instances stands_for.instances } in
    let outcome : Object → Code → Outcome World Over = λ o code.
    run_of (next_in_main o) code.instrs (step_limit code.instrs bound) (stands 0 [] (replicate code.slots (pos 0)) (world_before inputs bound)) in
    let first : untold_outcome (outcome object object.main) ≡ untold_outcome (outcome all object.main) =
    run-alike object.main.instrs (step_limit object.main.instrs bound) object all less 0 [] (replicate object.main.slots (pos 0)) (world_before inputs bound) in
    let second : outcome all object.main ≡ outcome all all.main = ap (λ (o : Object). outcome all o.main) less.same in
    ended_alike (outcome object object.main) (outcome all all.main) (first ∙ ap untold_outcome second) over.0 over.1
