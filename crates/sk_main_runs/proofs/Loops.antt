-- What the code of loops does, from what the code of their parts does.
use Rattle.std.proofs.Common.{◌≡◌, ℕ, zero, suc, ◌+◌, ◌≤◌, List, [], ◌∷◌, ◌++◌, length, ℤ, Some, refl, sym, subst, arith, length-append}
use Rattle.std.specs.Prelude.{slice_get, true, false, Bool, ◌&&◌, if◌then◌else◌, Ok, Result}
use Rattle.sk_isa.specs.declared.code.Instr.{Instr}
use Rattle.sk_isa.specs.declared.code.Instr.TheVariants as instr
use Rattle.sk_isa.specs.declared.object.Object.{Object}
use Rattle.sk_main_fits.specs.Fits.{fits}
use Rattle.sk_main_fits.specs.StatementFits.{Judged, all_emits, sequence_fits, behind_loop_test, loop_fits}
use Rattle.sk_main_run.specs.MainNames.{Scope, State, main_names, evaluated}
use Rattle.sk_main_run.specs.MainRun.{Running, Numbers, Numbered, plus, all_declared, and_run, in_block, looped}
use Rattle.sk_main_runs.proofs.Agreement.{agree_wider, agree_lower}
use Rattle.sk_main_runs.proofs.Choices.{block_numbered, block_judged}
use Rattle.sk_main_runs.proofs.ExpressionNodes.{jump_leads}
use Rattle.sk_main_runs.proofs.Flows.{Runs, runs_after, runs_then, runs_value, runs_branch, runs_nothing, runs_counted, runs_bound}
use Rattle.sk_main_runs.proofs.Runs.{like_same}
use Rattle.sk_main_runs.proofs.StatementNodes.{Holds, IsAt, Follows, holds_before, at_next, value_gives}
use Rattle.sk_main_runs.proofs.Tidy.{tidy_like}
use Rattle.sk_main_runs.specs.SameMeaning.{Agree, FunctionsAgree, IsHeld, IsTidy}
use Rattle.sk_main_scheme.specs.MainScheme.{Named, Standing, Emitted, around_at, block_emitted, loop_emitted, main_piece}
use Rattle.sk_meaning.specs.Expressions.{holds, meaning_of}
use Rattle.sk_plain.proofs.Truths.{and_left, and_right}
use Rattle.sk_safety.specs.Safety.{Judgements}
use Rattle.sk_scheme.specs.Scheme.{Known}
use Rattle.sk_scheme_runs.proofs.Runs.{HasAt, has_front, has_back, has_rest}
use Rattle.sk_tree.specs.declared.tree.Expr.{Expr}
use Rattle.sk_world.specs.World.{World, Container}

module _ (object : Object) (functions : List (List ℕ × Known)) (judgements : Judgements) (line : ℕ) (test : Expr) (ns : List Numbered) (js : List Judged) (step : Numbered) (judged : Judged) where
  abbrev IsFollowing : Numbered → Judged → Type 0
  IsFollowing = Follows object functions judgements

  -- the parts of a loop's code
  abbrev pub test_at : Standing → List Instr
  test_at st = (main_piece test).code (around_at functions st) (st.at + 1)

  abbrev pub first_at : Standing → List Instr
  first_at st = instr.Count line ∷ test_at st

  abbrev pub body_stands : Standing → Standing
  body_stands st = behind_loop_test test functions st

  abbrev pub body_at : Standing → Emitted
  body_at st = block_emitted (all_emits js) functions (body_stands st)

  abbrev pub step_at : Standing → Emitted
  step_at st = judged.emits functions (body_at st).behind

  abbrev pub loop_at : Standing → Emitted
  loop_at st = loop_emitted line (main_piece test) (block_emitted (all_emits js)) judged.emits functions st

  -- the body and the step
  abbrev pub inner_code : Standing → List Instr
  inner_code st = (body_at st).code ++ (step_at st).code

  abbrev pub ends : Standing → ℕ
  ends st = (step_at st).behind.at + 1

  module _ (f : Follows object functions judgements (block_numbered ns) (block_judged js)) (g : Follows object functions judgements step judged) where
    inner_ends : (st : Standing) → (step_at st).behind.at ≡ st.at + length (first_at st) + 1 + length (inner_code st)
    inner_ends st = omega (arith, f.keeps.at (body_stands st), g.keeps.at (body_at st).behind, length-append (body_at st).code (step_at st).code)

    pub loop_size : (st : Standing) → ends st ≡ st.at + length (loop_at st).code
    loop_size st =
        omega (
          arith,
          inner_ends st,
          length-append (first_at st) (instr.Zero (ends st) ∷ inner_code st),
          length-append (first_at st ++ instr.Zero (ends st) ∷ inner_code st) (instr.Jump st.at ∷ []),
        )

    module _ (before : Numbers) (st : Standing) (fine : loop_fits test js judged functions st ≡ true) (held : Holds object functions judgements (loop_at st).behind)
        (has : HasAt object.main.instrs st.at (loop_at st).code) (c : before.containers ≡ length st.containers) (i : before.instances ≡ length st.instances)
        (values0 : Scope) (slots0 : List ℤ) (agree0 : Agree object st.scope values0 slots0 (length st.slots)) where
      abbrev bound : ℕ
      bound = length (loop_at st).behind.slots

      head : List Instr
      head = first_at st ++ instr.Zero (ends st) ∷ inner_code st

      fine_test : fits test (around_at functions st) ≡ true
      fine_test =
          and_left (fits test (around_at functions st)) (sequence_fits js functions (body_stands st))
          (and_left (fits test (around_at functions st) && sequence_fits js functions (body_stands st)) judged.is_step
          (and_left (fits test (around_at functions st) && sequence_fits js functions (body_stands st) && judged.is_step) (judged.fits functions (body_at st).behind) fine))

      fine_body : sequence_fits js functions (body_stands st) ≡ true
      fine_body =
          and_right (fits test (around_at functions st)) (sequence_fits js functions (body_stands st))
          (and_left (fits test (around_at functions st) && sequence_fits js functions (body_stands st)) judged.is_step
          (and_left (fits test (around_at functions st) && sequence_fits js functions (body_stands st) && judged.is_step) (judged.fits functions (body_at st).behind) fine))

      fine_assigns : judged.is_step ≡ true
      fine_assigns =
          and_right (fits test (around_at functions st) && sequence_fits js functions (body_stands st)) judged.is_step
          (and_left (fits test (around_at functions st) && sequence_fits js functions (body_stands st) && judged.is_step) (judged.fits functions (body_at st).behind) fine)

      fine_step : judged.fits functions (body_at st).behind ≡ true
      fine_step = and_right (fits test (around_at functions st) && sequence_fits js functions (body_stands st) && judged.is_step) (judged.fits functions (body_at st).behind) fine

      has_head : HasAt object.main.instrs st.at (first_at st ++ instr.Zero (ends st) ∷ inner_code st)
      has_head = has_front object.main.instrs st.at (first_at st ++ instr.Zero (ends st) ∷ inner_code st) (instr.Jump st.at ∷ []) has

      has_first : HasAt object.main.instrs st.at (first_at st)
      has_first = has_front object.main.instrs st.at (first_at st) (instr.Zero (ends st) ∷ inner_code st) has_head

      test_end : ℕ
      test_end = st.at + 1 + length (test_at st)

      has_test : HasAt object.main.instrs (st.at + 1) (test_at st)
      has_test = has_rest object.main.instrs st.at (st.at + 1) (instr.Count line) (test_at st) (omega arith) has_first

      has_zero : HasAt object.main.instrs (st.at + 1 + length (test_at st)) (instr.Zero (ends st) ∷ inner_code st)
      has_zero =
          let e : st.at + length (first_at st) ≡ st.at + 1 + length (test_at st) = omega arith in
          subst (λ n. HasAt object.main.instrs n (instr.Zero (ends st) ∷ inner_code st)) e
          (has_back object.main.instrs st.at (first_at st) (instr.Zero (ends st) ∷ inner_code st) has_head)

      has_inner : HasAt object.main.instrs (body_stands st).at (inner_code st)
      has_inner = has_rest object.main.instrs (st.at + 1 + length (test_at st)) (body_stands st).at (instr.Zero (ends st)) (inner_code st) (omega arith) has_zero

      has_body : HasAt object.main.instrs (body_stands st).at (body_at st).code
      has_body = has_front object.main.instrs (body_stands st).at (body_at st).code (step_at st).code has_inner

      has_step : HasAt object.main.instrs (body_at st).behind.at (step_at st).code
      has_step =
          subst (λ n. HasAt object.main.instrs n (step_at st).code) (sym (f.keeps.at (body_stands st)))
          (has_back object.main.instrs (body_stands st).at (body_at st).code (step_at st).code has_inner)

      has_jump : slice_get object.main.instrs (step_at st).behind.at ≡ Some (instr.Jump st.at)
      has_jump =
          let e : st.at + length (first_at st ++ instr.Zero (ends st) ∷ inner_code st) ≡ (step_at st).behind.at =
          omega (arith, inner_ends st, length-append (first_at st) (instr.Zero (ends st) ∷ inner_code st)) in
          subst (λ n. slice_get object.main.instrs n ≡ Some (instr.Jump st.at)) e
          (has_back object.main.instrs st.at (first_at st ++ instr.Zero (ends st) ∷ inner_code st) (instr.Jump st.at ∷ []) has).0

      held_step : Holds object functions judgements (step_at st).behind
      held_step = record { containers = held.containers; instances = held.instances }

      held_body : Holds object functions judgements (body_at st).behind
      held_body = holds_before object functions judgements step.declares judged g.keeps (body_at st).behind held_step

      -- a turn: the body, the step, and the way back to the test
      turn_runs : (next : Running) (state : State) (slots : List ℤ) → IsAt object functions judgements (body_stands st) state before slots → bound ≤ length slots
          → ((state2 : State) (slots2 : List ℤ) → state2.world.statements_left ≤ state.world.statements_left → Agree object st.scope state2.scope slots2 (length st.slots)
          → FunctionsAgree object functions state2.callables → IsTidy object state2.world → bound ≤ length slots2
          → Runs object functions slots2 st.at [] state2.world (ends st) st.scope bound (next state2))
          → Runs object functions slots (body_stands st).at [] state.world (ends st) st.scope bound
          (and_run (in_block ns before state) (λ now. and_run (step.run before now) next))
      turn_runs next state slots is room again =
          let at2 : ℕ = (body_at st).behind.at in
          let less = g.keeps.slots (body_at st).behind in
          let same = g.keeps.step fine_assigns (body_at st).behind in
          runs_then object functions slots (body_stands st).at [] state.world at2 (ends st) st.scope st.scope (length (body_at st).behind.slots) bound (in_block ns before state) (λ now. and_run (step.run before now) next)
          (f.does (body_stands st) state before slots fine_body is held_body (omega (arith, room, less)) has_body)
          (λ state2 slots2 size2 agree2 callables2 tidy2 fewer2.
          let is2 = at_next object functions judgements (all_declared ns) (block_judged js) f.keeps (body_stands st) before state2 slots2 is.containers is.instances agree2 callables2 tidy2 in
          let runs = g.does (body_at st).behind state2 (plus before (all_declared ns)) slots2 fine_step is2 held_step (omega (arith, room, size2)) has_step in
          runs_then object functions slots2 at2 [] state2.world (step_at st).behind.at (ends st) st.scope st.scope bound bound (step.run before state2) next
          (subst (λ (o : Result State Rattle.sk_world.specs.World.Over). Runs object functions slots2 at2 [] state2.world (step_at st).behind.at st.scope bound o) (g.anywhere fine_assigns (plus before (all_declared ns)) before state2)
          (subst (λ (s : List (List ℕ × Named)). Runs object functions slots2 at2 [] state2.world (step_at st).behind.at s bound (step.run (plus before (all_declared ns)) state2)) same runs))
          (λ state3 slots3 size3 agree3 callables3 tidy3 fewer3.
          runs_after object functions slots3 slots3 (step_at st).behind.at st.at [] [] state3.world state3.world (ends st) st.scope bound (next state3) (omega arith) refl
          (jump_leads object st.at (step_at st).behind.at [] slots3 state3.world has_jump)
          (again state3 slots3 (omega (arith, fewer2, fewer3)) (agree_lower object st.scope state3.scope values0 slots3 slots0 bound (length st.slots) agree3 agree0)
          callables3 tidy3 (omega (arith, room, size2, size3)))))

      -- the loop from its test on
      pub loop_runs : (most : ℕ) (state : State) (slots : List ℤ) → state.world.statements_left ≤ most → Agree object st.scope state.scope slots (length st.slots)
          → FunctionsAgree object functions state.callables → IsTidy object state.world → bound ≤ length slots
          → Runs object functions slots st.at [] state.world (ends st) st.scope bound (looped most line test (in_block ns before) (step.run before) state)
      loop_runs zero state slots le agree callables tidy room = runs_bound object functions slots st.at state (ends st) st.scope bound line has_first.0 (omega (arith, le))
      loop_runs (suc fewer) state slots le agree callables tidy room =
          let less = f.keeps.slots (body_stands st) in
          let less2 = g.keeps.slots (body_at st).behind in
          runs_counted object functions slots st.at state (st.at + 1) (ends st) st.scope bound line
          (λ now. and_run (evaluated test now) (λ done.
          if holds done.0 then and_run (in_block ns before done.1) (λ now. and_run (step.run before now) (looped fewer line test (in_block ns before) (step.run before))) else Ok done.1))
          has_first.0 (omega arith)
          (λ world same left.
          let s1 : State = record state { world = world } in
          let tidy1 : IsTidy object world = record { each = subst (λ (cs : List Container). Rattle.std.specs.Prelude.All (IsHeld object) cs) (sym same) tidy.each } in
          let is1 : IsAt object functions judgements st s1 before slots = record { agree = agree; callables = callables; tidy = tidy1; containers = c; instances = i } in
          runs_value object functions ((main_piece test).ty (around_at functions st)) slots (st.at + 1) s1 (st.at + 1 + length (test_at st)) (ends st) st.scope bound ((meaning_of test).value (main_names s1) world)
          (λ done. if holds done.0 then and_run (in_block ns before done.1) (λ now. and_run (step.run before now) (looped fewer line test (in_block ns before) (step.run before))) else Ok done.1)
          (value_gives object functions judgements test st s1 before slots fine_test is1 (st.at + 1) [] world (like_same world) has_test)
          (λ v w like range.
          let s2 : State = record state { world = w } in
          let tidy2 = tidy_like object world w like tidy1 in
          let is2 : IsAt object functions judgements (body_stands st) s2 before slots = record { agree = agree; callables = callables; tidy = tidy2; containers = c; instances = i } in
          let e1 : (body_stands st).at ≡ suc (st.at + 1 + length (test_at st)) = omega arith in
          runs_branch object functions slots (st.at + 1 + length (test_at st)) w (ends st) (ends st) st.scope bound v
          (λ b. if b then and_run (in_block ns before s2) (λ now. and_run (step.run before now) (looped fewer line test (in_block ns before) (step.run before))) else Ok s2) has_zero.0
          (subst (λ n. Runs object functions slots n [] w (ends st) st.scope bound
          (and_run (in_block ns before s2) (λ now. and_run (step.run before now) (looped fewer line test (in_block ns before) (step.run before))))) e1
          (turn_runs (looped fewer line test (in_block ns before) (step.run before)) s2 slots is2 room
          (λ s3 slots3 le3 agree3 callables3 tidy3 room3. loop_runs fewer s3 slots3 (omega (arith, le, left, like.left, le3)) agree3 callables3 tidy3 room3)))
          (runs_nothing object functions slots (ends st) (ends st) st.scope bound s2 refl
          (agree_wider object st.scope state.scope slots (length st.slots) bound (omega (arith, less, less2)) agree) callables tidy2)))
