-- What the code of loops does, from what the code of their parts does.
use Rattle.std.proofs.Common.{◌≡◌, ℕ, zero, suc, ◌+◌, ◌≤◌, List, [], ◌∷◌, ◌++◌, length, ℤ, Some, refl, sym, ap, subst, arith, length-append}
use Rattle.std.specs.Prelude.{slice_get, Result, Ok, Err, if◌then◌else◌}
use Rattle.sk_base.specs.declared.number.Trap.{Trap}
use Rattle.sk_base.specs.declared.number.Trap.TheVariants.{Turns}
use Rattle.sk_meaning.specs.Evaluation.{Callables, Scope, Flow, Going, Doing, and_then, in_block, looped, value_in}
use Rattle.sk_meaning.specs.Expressions.{holds}
use Rattle.sk_tree.specs.declared.tree.Expr.{Expr}
use Rattle.sk_isa.specs.Coded.{Routine, turning}
use Rattle.sk_scheme.specs.Scheme.{Slot, compiled_of, Within, Standing, Emitted, Emitting, around_in, block_emitted, loop_emitted}
use Rattle.sk_isa.specs.declared.code.Instr.{Instr}
use Rattle.sk_isa.specs.declared.code.Instr.TheVariants as instr
use Rattle.sk_plain.specs.Plain.{Parameters, Plainness}
use Rattle.sk_scheme_runs.proofs.Runs.{HasAt, has_front, has_back, stands, last_step}
use Rattle.sk_scheme_runs.proofs.ExpressionNodes.{jump_leads}
use Rattle.sk_plain.proofs.Bindings.{names_of}
use Rattle.sk_scheme_runs.proofs.Agreement.{Agree, agree_wider, agree_lower}
use Rattle.sk_scheme_runs.proofs.ExpressionRuns.{IsRun}
use Rattle.sk_scheme_runs.proofs.Flows.{Runs, runs_after, runs_then, runs_value, runs_branch, runs_nothing, runs_turn}
use Rattle.sk_scheme_runs.proofs.StatementNodes.{expression_gives}
use Rattle.sk_plain.proofs.PlainParts.{IsLoop, plain_block}
use Rattle.sk_scheme_runs.proofs.Choices.{IsBlock, IsFollowing}

module _ (routine : Routine) (parameters : Parameters) (within : Within) (callables : Callables) (test : Expr) (ds : List Doing) (es : List Emitting) (js : List Plainness) (step : Doing) (emits : Emitting) (judged : Plainness) where
  -- the parts of a loop's code
  abbrev pub first_at : Standing → List Instr
  first_at st = (compiled_of test).code (around_in within st) st.at

  abbrev pub body_stands : Standing → Standing
  body_stands st = record { at = st.at + length (first_at st) + 2; scope = st.scope; slots = st.slots }

  abbrev pub body_at : Standing → Emitted
  body_at st = block_emitted es within (body_stands st)

  abbrev pub step_stands : Standing → Standing
  step_stands st = record { at = st.at + length (first_at st) + 2 + length (body_at st).code; scope = st.scope; slots = (body_at st).slots }

  abbrev pub step_at : Standing → Emitted
  step_at st = emits within (step_stands st)

  abbrev pub loop_at : Standing → Emitted
  loop_at st = loop_emitted (compiled_of test) (block_emitted es) emits within st

  pub loop_slots : IsBlock routine parameters within callables ds es js → IsFollowing routine parameters within callables step emits judged → (st : Standing)
      → (length st.slots ≤ length (body_at st).slots) × (length (body_at st).slots ≤ length (loop_at st).slots)
  loop_slots f g st = (f.keeps.slots (body_stands st), g.keeps.slots (step_stands st))

  module _ (is : IsRun routine parameters within.functions callables test) (f : IsBlock routine parameters within callables ds es js) (g : IsFollowing routine parameters within callables step emits judged)
      (st : Standing) (fine : IsLoop parameters (names_of st.scope) test js judged) (has : HasAt routine.instrs st.at (loop_at st).code) where
    abbrev pub end_at : ℕ
    end_at = st.at + length (loop_at st).code

    abbrev pub test_end : ℕ
    test_end = st.at + length (first_at st)

    abbrev pub ends : ℕ
    ends = st.at + length (first_at st) + length (body_at st).code + length (step_at st).code + 3

    abbrev pub head : List Instr
    head = first_at st ++ instr.Zero ends ∷ instr.Turn ∷ (body_at st).code

    abbrev pub bound : ℕ
    bound = length (loop_at st).slots

    head_size : length head ≡ length (first_at st) + length (body_at st).code + 2
    head_size = omega (arith, length-append (first_at st) (instr.Zero ends ∷ instr.Turn ∷ (body_at st).code))

    loop_size : length (loop_at st).code ≡ length (first_at st) + length (body_at st).code + length (step_at st).code + 3
    loop_size = omega (arith, head_size, length-append head (step_at st).code, length-append (head ++ (step_at st).code) (instr.Jump st.at ∷ []))

    ends_at : ends ≡ end_at
    ends_at = omega (arith, loop_size)

    has_front_part : HasAt routine.instrs st.at (head ++ (step_at st).code)
    has_front_part = has_front routine.instrs st.at (head ++ (step_at st).code) (instr.Jump st.at ∷ []) has

    has_head : HasAt routine.instrs st.at head
    has_head = has_front routine.instrs st.at head (step_at st).code has_front_part

    has_test : HasAt routine.instrs st.at (first_at st)
    has_test = has_front routine.instrs st.at (first_at st) (instr.Zero ends ∷ instr.Turn ∷ (body_at st).code) has_head

    has_turn : HasAt routine.instrs test_end (instr.Zero ends ∷ instr.Turn ∷ (body_at st).code)
    has_turn = has_back routine.instrs st.at (first_at st) (instr.Zero ends ∷ instr.Turn ∷ (body_at st).code) has_head

    body_begins : suc (suc test_end) ≡ (body_stands st).at
    body_begins = omega arith

    has_body : HasAt routine.instrs (body_stands st).at (body_at st).code
    has_body = subst (λ n. HasAt routine.instrs n (body_at st).code) body_begins has_turn.1.1

    step_begins : st.at + length head ≡ (step_stands st).at
    step_begins = omega (arith, head_size)

    has_step : HasAt routine.instrs (step_stands st).at (step_at st).code
    has_step = subst (λ n. HasAt routine.instrs n (step_at st).code) step_begins (has_back routine.instrs st.at head (step_at st).code has_front_part)

    jump_begins : st.at + length (head ++ (step_at st).code) ≡ (step_stands st).at + length (step_at st).code
    jump_begins = omega (arith, head_size, length-append head (step_at st).code)

    has_jump : slice_get routine.instrs ((step_stands st).at + length (step_at st).code) ≡ Some (instr.Jump st.at)
    has_jump =
        subst (λ n. slice_get routine.instrs n ≡ Some (instr.Jump st.at)) jump_begins
        (has_back routine.instrs st.at (head ++ (step_at st).code) (instr.Jump st.at ∷ []) has).0

    -- a turn: the body, the step, and the way back to the test
    turn_runs : (next : Scope → ℕ → Result (Flow × ℕ) Trap) (values : Scope) (slots : List ℤ) (left : ℕ) → Agree routine.arguments st.scope values slots (length st.slots) → bound ≤ length slots
        → ((values : Scope) (slots : List ℤ) (turns : ℕ) → turns ≤ left → Agree routine.arguments st.scope values slots (length st.slots) → bound ≤ length slots
        → Runs routine within.ret slots st.at [] turns end_at st.scope bound (next values turns))
        → Runs routine within.ret slots (body_stands st).at [] left end_at st.scope bound
        (and_then (in_block ds callables values left) (λ scope turns. and_then (step callables scope turns) (λ scope turns. next scope turns)))
    turn_runs next values slots left agree room again =
        let l = loop_slots f g st in
        let names = names_of st.scope in
        runs_then routine within.ret slots (body_stands st).at [] left (step_stands st).at end_at st.scope st.scope (length (body_at st).slots) bound (in_block ds callables values left) _
        (f.runs (body_stands st) values slots left names (plain_block parameters js names fine.body_plain) agree (omega (arith, room, l.1)) has_body)
        (λ values2 slots2 left2 fewer2 size2 agree2.
        let same = g.keeps.assigns fine.assigns (step_stands st) in
        runs_then routine within.ret slots2 (step_stands st).at [] left2 ((step_stands st).at + length (step_at st).code) end_at st.scope st.scope bound bound (step callables values2 left2) _
        (subst (λ (s : List (List ℕ × Slot)). Runs routine within.ret slots2 (step_stands st).at [] left2 ((step_stands st).at + length (step_at st).code) s bound (step callables values2 left2)) same
        (g.runs (step_stands st) values2 slots2 left2 fine.after fine.step_plain agree2 (omega (arith, room, size2)) has_step))
        (λ values3 slots3 left3 fewer3 size3 agree3.
        runs_after routine within.ret slots3 slots3 ((step_stands st).at + length (step_at st).code) st.at [] [] left3 left3 end_at st.scope bound (next values3 left3) (omega arith) refl
        (jump_leads routine st.at ((step_stands st).at + length (step_at st).code) [] slots3 left3 has_jump)
        (again values3 slots3 left3 (omega (arith, fewer2, fewer3)) (agree_lower routine.arguments st.scope values3 values slots3 slots bound (length st.slots) agree3 agree) (omega (arith, room, size2, size3)))))

    -- the loop from its test on
    pub loop_runs : (most : ℕ) (values : Scope) (slots : List ℤ) (turns : ℕ) → turns ≤ most → Agree routine.arguments st.scope values slots (length st.slots) → bound ≤ length slots
        → Runs routine within.ret slots st.at [] turns end_at st.scope bound (looped most test (in_block ds) step callables values turns)
    unfolding looped
    loop_runs zero values slots turns le agree room =
        let l = loop_slots f g st in
        runs_value routine within.ret ((compiled_of test).ty (around_in within st)) slots st.at turns test_end end_at st.scope bound (value_in test callables values turns)
        (λ value turns. if holds value then Err Turns else Ok (Going values, turns))
        (expression_gives routine parameters within callables test is st values slots turns fine.test_plain agree has_test)
        (λ v left fewer fits.
        let none : left ≡ 0 = omega (arith, le, fewer) in
        runs_branch routine within.ret slots test_end left ends end_at st.scope bound v (λ b. if b then Err Turns else Ok (Going values, left)) has_turn.0
        (last_step routine instr.Turn (stands (suc test_end) [] slots left) (Err Turns) has_turn.1.0 (ap (turning (stands (suc test_end) [] slots left)) none))
        (runs_nothing routine within.ret slots ends left end_at st.scope bound values ends_at (agree_wider routine.arguments st.scope values slots (length st.slots) bound (omega (arith, l.0, l.1)) agree)))
    loop_runs (suc fewer) values slots turns le agree room =
        let l = loop_slots f g st in
        runs_value routine within.ret ((compiled_of test).ty (around_in within st)) slots st.at turns test_end end_at st.scope bound (value_in test callables values turns) _
        (expression_gives routine parameters within callables test is st values slots turns fine.test_plain agree has_test)
        (λ v left less fits.
        runs_branch routine within.ret slots test_end left ends end_at st.scope bound v
        (λ b. if b then elim left as (λ x. Result (Flow × ℕ) Trap) [
          | zero ↦ Err Turns
          | suc left ↦ and_then (in_block ds callables values left) (λ scope turns. and_then (step callables scope turns) (λ scope turns. looped fewer test (in_block ds) step callables scope turns))
        ] else Ok (Going values, left)) has_turn.0
        (runs_turn routine within.ret slots (suc test_end) left end_at st.scope bound
        (λ left. and_then (in_block ds callables values left) (λ scope turns. and_then (step callables scope turns) (λ scope turns. looped fewer test (in_block ds) step callables scope turns))) has_turn.1.0
        (λ left2 lt. subst (λ n. Runs routine within.ret slots n [] left2 end_at st.scope bound
        (and_then (in_block ds callables values left2) (λ scope turns. and_then (step callables scope turns) (λ scope turns. looped fewer test (in_block ds) step callables scope turns)))) (sym body_begins)
        (turn_runs (looped fewer test (in_block ds) step callables) values slots left2 agree room
        (λ values3 slots3 turns3 le3 agree3 room3. loop_runs fewer values3 slots3 turns3 (omega (arith, le, less, lt, le3)) agree3 room3))))
        (runs_nothing routine within.ret slots ends left end_at st.scope bound values ends_at (agree_wider routine.arguments st.scope values slots (length st.slots) bound (omega (arith, l.0, l.1)) agree)))
