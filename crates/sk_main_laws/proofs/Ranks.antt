-- Ranks of main's addresses: those of the code with turns in place of counts.
use Rattle.std.proofs.Common.{◌≡◌, ℕ, ◌^◌, ◌+◌, ◌*◌, ◌<◌, ◌≤◌, List, length, map, All, Contains, Option, Some, None, option_map, slice_get, ap, sym, refl, subst, ◌∙◌, inl, inr, arith}
use Rattle.std.proofs.lemmas.List.{length-map}
use Rattle.std.proofs.lemmas.Option.{slice_get-map}
use Rattle.sk_isa.specs.Soundness.{JumpsTo, LoopsPass, LoopsTakeTurns, PassesMark, IsTurn, leads_to}
use Rattle.sk_isa.specs.declared.code.Instr.{Instr}
use Rattle.sk_isa.specs.declared.code.Instr.TheVariants.{Count, Jump, Turn, Zero}
use Rattle.sk_isa.specs.declared.object.Object.{Object}
use Rattle.sk_isa_laws.proofs.Ranks.{rank_bound, rank_falls, rank_outside}
use Rattle.sk_isa_laws.proofs.Runs.{measure_falls}
use Rattle.sk_isa_laws.specs.Steps.{TakesTurns}
use Rattle.sk_main_code.specs.MainSoundness.{IsCount, IsSoundMain}
use Rattle.sk_main_code.specs.MainSteps.{MainPoint}
use Rattle.sk_main_laws.specs.FinePoints.{Counts, IsFineStep}
use Rattle.sk_main_laws.specs.Laws.{RanksFall}
use Rattle.sk_main_laws.specs.Ranks.{main_rank, measure_of, with_turns}

-- the jumps are the same
same_jump : (found : Option Instr) (target : ℕ) → option_map with_turns found ≡ Some (Jump target) → found ≡ Some (Jump target)
same_jump None target e = cc
same_jump (Some (Count line)) target e = cc
same_jump (Some Turn) target e = cc
same_jump (Some instr) target e = e

same_zero : (found : Option Instr) (target : ℕ) → option_map with_turns found ≡ Some (Zero target) → found ≡ Some (Zero target)
same_zero None target e = cc
same_zero (Some (Count line)) target e = cc
same_zero (Some Turn) target e = cc
same_zero (Some instr) target e = e

same_jumps : (instrs : List Instr) (at target : ℕ) → JumpsTo (map with_turns instrs) at target → JumpsTo instrs at target
same_jumps instrs at target (inl jump) = inl (same_jump (slice_get instrs at) target (sym (slice_get-map with_turns instrs at) ∙ jump))
same_jumps instrs at target (inr zero) = inr (same_zero (slice_get instrs at) target (sym (slice_get-map with_turns instrs at) ∙ zero))

-- so each way round a loop that counts a statement takes a turn there
pub loops_take_turns : (instrs : List Instr) → LoopsPass IsCount instrs → LoopsTakeTurns (map with_turns instrs)
loops_take_turns instrs loops at target jump upto = turned (loops at target (same_jumps instrs at target jump) upto)
  where
    turned : PassesMark IsCount instrs at target → PassesMark IsTurn (map with_turns instrs) at target
    turned passes = record {
      mark = passes.mark;
      from = passes.from;
      upto = passes.upto;
      is_mark = slice_get-map with_turns instrs passes.mark ∙ ap (option_map with_turns) passes.is_mark.1;
      none_over = λ before behind jumps. passes.none_over before behind (same_jumps instrs before behind jumps);
    }

found_with_turns : (instrs : List Instr) (at : ℕ) (instr : Instr) → slice_get instrs at ≡ Some instr → slice_get (map with_turns instrs) at ≡ Some (with_turns instr)
found_with_turns instrs at instr found = slice_get-map with_turns instrs at ∙ ap (option_map with_turns) found

same_leads : (instr : Instr) (at : ℕ) → leads_to (with_turns instr) at ≡ leads_to instr at
same_leads (Count line) at = refl
same_leads Turn at = refl
same_leads instr at = refl

no_turn : (instr : Instr) → ((line : ℕ) → instr ≡ Count line → ⊥) → with_turns instr ≡ Turn → ⊥
no_turn (Count line) counts e = counts line refl
no_turn Turn counts e = cc
no_turn instr counts e = cc

same_power : (instrs : List Instr) → 2 ^ length (map with_turns instrs) ≡ 2 ^ length instrs
same_power instrs = ap (λ (n : ℕ). 2 ^ n) (length-map instrs with_turns)

pub main_rank_bound : (instrs : List Instr) → LoopsPass IsCount instrs → (at : ℕ) → main_rank instrs at < 2 ^ length instrs
unfolding main_rank
main_rank_bound instrs loops at =
    subst (λ (bound : ℕ). main_rank instrs at < bound) (same_power instrs) (rank_bound (map with_turns instrs) (loops_take_turns instrs loops) at)

pub main_rank_falls : (instrs : List Instr) → LoopsPass IsCount instrs → (at : ℕ) (instr : Instr) → slice_get instrs at ≡ Some instr
    → ((line : ℕ) → instr ≡ Count line → ⊥) → All (λ to. main_rank instrs to < main_rank instrs at) (leads_to instr at)
unfolding main_rank
main_rank_falls instrs loops at instr found counts =
    subst (λ (places : List ℕ). All (λ to. main_rank instrs to < main_rank instrs at) places) (same_leads instr at)
    (rank_falls (map with_turns instrs) (loops_take_turns instrs loops) at (with_turns instr) (found_with_turns instrs at instr found) (no_turn instr counts))

main_rank_outside : (instrs : List Instr) (at : ℕ) → slice_get instrs at ≡ None → main_rank instrs at ≡ 0
unfolding main_rank
main_rank_outside instrs at outside =
    rank_outside (map with_turns instrs) at (slice_get-map with_turns instrs at ∙ ap (option_map with_turns) outside)

pub ranks_fall : (instrs : List Instr) → LoopsPass IsCount instrs → RanksFall instrs
ranks_fall instrs loops =
    record { falls = main_rank_falls instrs loops; bounded = main_rank_bound instrs loops; outside = main_rank_outside instrs }

-- a count is a turn
as_turns : (instr : Instr) (before behind : ℕ) → Counts instr before behind → TakesTurns (with_turns instr) before behind
as_turns (Count line) before behind h = h
as_turns Turn before behind h = as_many before behind h
  where
    as_many : (a b : ℕ) → b ≡ a → b ≤ a
    as_many a b e = omega arith
as_turns instr before behind h = as_many before behind h
  where
    as_many : (a b : ℕ) → b ≡ a → b ≤ a
    as_many a b e = omega arith

pub main_measure_falls : (object : Object) (main : IsSoundMain object) (instr : Instr) (before behind : MainPoint) → slice_get object.main.instrs before.at ≡ Some instr
    → IsFineStep object main.types.chosen main.lives.chosen instr before behind
    → measure_of object.main.instrs behind < measure_of object.main.instrs before
unfolding main_rank
main_measure_falls object main instr before behind found step =
    subst (λ (power : ℕ). behind.kept.statements_left * power + main_rank object.main.instrs behind.at
    < before.kept.statements_left * power + main_rank object.main.instrs before.at) (same_power object.main.instrs)
    (measure_falls (map with_turns object.main.instrs) (loops_take_turns object.main.instrs main.loops) (with_turns instr) before.at behind.at
    before.kept.statements_left behind.kept.statements_left (found_with_turns object.main.instrs before.at instr found)
    (subst (λ (places : List ℕ). Contains places behind.at) (sym (same_leads instr before.at)) step.led)
    (as_turns instr before.kept.statements_left behind.kept.statements_left step.statements))
