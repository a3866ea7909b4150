-- What the code of choices does, from what the code of their parts does.
use Rattle.std.proofs.Common.{◌≡◌, ℕ, suc, ◌+◌, ◌≤◌, List, [], ◌∷◌, ◌++◌, length, ℤ, refl, ap, ◌∙◌, subst, arith, append_assoc, length-append}
use Rattle.std.specs.Prelude.{true, false, ◌&&◌, if◌then◌else◌}
use Rattle.sk_isa.specs.declared.code.Instr.{Instr}
use Rattle.sk_isa.specs.declared.code.Instr.TheVariants as instr
use Rattle.sk_isa.specs.declared.object.Object.{Object}
use Rattle.sk_main_fits.specs.Fits.{fits}
use Rattle.sk_main_fits.specs.StatementFits.{Judged, Test, all_emits, sequence_fits, judge_step, judged_by, behind_line, behind_test, if_fits}
use Rattle.sk_main_run.specs.MainNames.{State, main_names, evaluated}
use Rattle.sk_main_run.specs.MainRun.{Running, Numbers, Numbered, plus, all_declared, and_run, in_block, running_step}
use Rattle.sk_main_run.specs.MainRunLaws.{at_line}
use Rattle.sk_main_runs.proofs.Agreement.{agree_wider, agree_length}
use Rattle.sk_main_runs.proofs.BlockEnds.{left_runs}
use Rattle.sk_main_runs.proofs.ExpressionNodes.{jump_leads}
use Rattle.sk_main_runs.proofs.Flows.{Runs, runs_before, runs_wider, runs_value, runs_branch}
use Rattle.sk_main_runs.proofs.Runs.{IsLike, like_same}
use Rattle.sk_main_runs.proofs.StatementNodes.{Holds, IsAt, Does, Follows, Keeps, holds_before, at_next, counted_does, value_gives}
use Rattle.sk_main_runs.proofs.Tidy.{tidy_like}
use Rattle.sk_main_scheme.specs.MainScheme.{Around, Named, Standing, Emitted, Emitting, around_at, block_emitted, if_emitted, placed_behind, main_piece}
use Rattle.sk_main_scheme.specs.MainScheme as scheme
use Rattle.sk_meaning.specs.Expressions.{holds, meaning_of}
use Rattle.sk_plain.proofs.Truths.{and_left, and_right}
use Rattle.sk_safety.specs.Safety.{Judgements}
use Rattle.sk_scheme.specs.Scheme.{Known}
use Rattle.sk_scheme_runs.proofs.Runs.{HasAt, has_front, has_back, has_rest}
use Rattle.sk_tree.specs.declared.declared.Declared.{Declared}
use Rattle.sk_tree.specs.declared.tree.Expr.{Expr}
use Rattle.sk_tree.specs.declared.tree.Instance as instances
use Rattle.sk_tree.specs.declared.tree.What.TheOpen as what
use Rattle.sk_world.specs.World.{World}

abbrev pub block_numbered : List Numbered → Numbered
block_numbered ns = record { declares = all_declared ns; run = in_block ns }

abbrev pub block_judged : List Judged → Judged
block_judged js = record { emits = block_emitted (all_emits js); fits = sequence_fits js; is_light = false; is_step = false }

module _ (object : Object) (functions : List (List ℕ × Known)) (judgements : Judgements) where
  abbrev pub IsBlock : List Numbered → List Judged → Type 0
  IsBlock ns js = Follows object functions judgements (block_numbered ns) (block_judged js)

  -- the same place at another address
  pub is_moved : (st : Standing) (state : State) (before : Numbers) (slots : List ℤ) → IsAt object functions judgements st state before slots → (more : ℕ) (world : World) → IsLike state.world world
      → IsAt object functions judgements (placed_behind st more) (record state { world = world }) before slots
  is_moved st state before slots is more world like = record {
    agree = is.agree;
    callables = is.callables;
    tidy = tidy_like object state.world world like is.tidy;
    containers = is.containers;
    instances = is.instances;
  }

  -- a counted statement that declares what its parts declare
  pub counted_follows : (line : ℕ) (declares : Numbers) (run : Numbers → Running) (emits : Emitting) (test : Test) → Keeps object functions judgements declares (judged_by emits false false test)
      → Does object functions judgements run emits test
      → Follows object functions judgements (record { declares = declares; run = λ before. Rattle.sk_main_run.specs.MainRun.counted line (run before) })
      (judged_by (scheme.counted line emits) false false (λ fs st. test fs (behind_line st)))
  counted_follows line declares run emits test keeps does = record {
    keeps = record {
      at = λ st. omega (arith, keeps.at (behind_line st));
      scope = λ st. keeps.scope (behind_line st);
      slots = λ st. keeps.slots (behind_line st);
      containers = λ st. keeps.containers (behind_line st);
      instances = λ st. keeps.instances (behind_line st);
      light = λ e. let no : ⊥ = cc in absurd no;
      step = λ e st. let no : ⊥ = cc in absurd no;
      plain = λ e st. let no : ⊥ = cc in absurd no;
    };
    anywhere = λ e before other state. let no : ⊥ = cc in absurd no;
    does = counted_does object functions judgements line run emits test does;
  }

  abbrev if_run : Expr → (ns ns2 : List Numbered) → Numbers → Running
  if_run test ns ns2 before state = and_run (evaluated test state) (λ done.
      if holds done.0 then in_block ns before done.1 else in_block ns2 (plus before (all_declared ns)) done.1)

  if_does : (test : Expr) (ns : List Numbered) (js : List Judged) → IsBlock ns js
      → Does object functions judgements (if_run test ns []) (if_emitted (main_piece test) (all_emits js) []) (if_fits test js [])
  if_does test ns js f st state before slots fit is held room has =
      let code = object.main.instrs in
      let a : Around = around_at functions st in
      let st1 : Standing = behind_test test functions st in
      let first : List Instr = (main_piece test).code a st.at in
      let at1 : ℕ = st.at + length first in
      let inner : Emitted = block_emitted (all_emits js) functions st1 in
      let end : ℕ = inner.behind.at in
      let bound : ℕ = length inner.behind.slots in
      let two = and_left (fits test a && sequence_fits js functions st1) true fit in
      let fit1 = and_left (fits test a) (sequence_fits js functions st1) two in
      let fit2 = and_right (fits test a) (sequence_fits js functions st1) two in
      let has1 = has_back code st.at first (instr.Zero end ∷ inner.code) has in
      let has2 = has_rest code at1 st1.at (instr.Zero end) inner.code (omega arith) has1 in
      let e1 : st1.at ≡ suc at1 = omega arith in
      runs_value object functions ((main_piece test).ty a) slots st.at state at1 end st.scope bound ((meaning_of test).value (main_names state) state.world)
      (λ done. if holds done.0 then in_block ns before done.1 else in_block [] (plus before (all_declared ns)) done.1)
      (value_gives object functions judgements test st state before slots fit1 is st.at [] state.world (like_same state.world) (has_front code st.at first (instr.Zero end ∷ inner.code) has))
      (λ v world like range.
      let s1 : State = record state { world = world } in
      let is1 = is_moved st state before slots is (length first + 1) world like in
      runs_branch object functions slots at1 world end end st.scope bound v (λ b. if b then in_block ns before s1 else in_block [] (plus before (all_declared ns)) s1) has1.0
      (subst (λ n. Runs object functions slots n [] world end st.scope bound (in_block ns before s1)) e1 (f.does st1 s1 before slots fit2 is1 held room has2))
      (left_runs object functions [] st.scope state.scope slots bound end end s1 (agree_length object st.scope state.scope slots (length st.slots) is.agree)
      (agree_wider object st.scope state.scope slots (length st.slots) bound (f.keeps.slots st1) is.agree) is.callables is1.tidy tt (omega arith)))

  if_keeps : (test : Expr) (ns : List Numbered) (js : List Judged) → IsBlock ns js
      → Keeps object functions judgements (plus (all_declared ns) (all_declared [])) (judged_by (if_emitted (main_piece test) (all_emits js) []) false false (if_fits test js []))
  if_keeps test ns js f = record {
    at = λ st.
        let st1 : Standing = behind_test test functions st in
        let first : List Instr = (main_piece test).code (around_at functions st) st.at in
        let inner : Emitted = block_emitted (all_emits js) functions st1 in
        omega (arith, f.keeps.at st1, length-append first (instr.Zero inner.behind.at ∷ inner.code));
    scope = λ st. ([], refl);
    slots = λ st. f.keeps.slots (behind_test test functions st);
    containers = λ st. let c = f.keeps.containers (behind_test test functions st) in (c.0, c.1, omega (arith, c.2));
    instances = λ st. let c = f.keeps.instances (behind_test test functions st) in (c.0, c.1, omega (arith, c.2));
    light = λ e. let no : ⊥ = cc in absurd no;
    step = λ e st. let no : ⊥ = cc in absurd no;
    plain = λ e st. let no : ⊥ = cc in absurd no;
  }

  -- a test, and where it holds a block
  pub if_follows : (test : Expr) (ns : List Numbered) (js : List Judged) (line : ℕ) → IsBlock ns js
      → Follows object functions judgements (at_line (running_step judgements (what.If test ns [])) line) (judge_step (what.If test js []) line)
  if_follows test ns js line f =
      counted_follows line (plus (all_declared ns) (all_declared [])) (if_run test ns []) (if_emitted (main_piece test) (all_emits js) []) (if_fits test js []) (if_keeps test ns js f) (if_does test ns js f)

  module _ (test : Expr) (ns ns2 : List Numbered) (js : List Judged) (j : Judged) (rest : List Judged) (f : IsBlock ns js) (g : IsBlock ns2 (j ∷ rest)) where
    abbrev inner_at : Standing → Emitted
    inner_at st = block_emitted (all_emits js) functions (behind_test test functions st)

    abbrev third_at : Standing → Standing
    third_at st = placed_behind (inner_at st).behind 1

    abbrev last_at : Standing → Emitted
    last_at st = block_emitted (all_emits (j ∷ rest)) functions (third_at st)

    else_does : Does object functions judgements (if_run test ns ns2) (if_emitted (main_piece test) (all_emits js) (all_emits (j ∷ rest))) (if_fits test js (j ∷ rest))
    else_does st state before slots fit is held room has =
        let code = object.main.instrs in
        let a : Around = around_at functions st in
        let st1 : Standing = behind_test test functions st in
        let first : List Instr = (main_piece test).code a st.at in
        let at1 : ℕ = st.at + length first in
        let inner : Emitted = inner_at st in
        let third : Standing = third_at st in
        let last : Emitted = last_at st in
        let jump : Instr = instr.Jump last.behind.at in
        let end : ℕ = last.behind.at in
        let body : List Instr = first ++ instr.Zero third.at ∷ inner.code in
        let size : length body ≡ length first + length inner.code + 1 = omega (arith, length-append first (instr.Zero third.at ∷ inner.code)) in
        let bound : ℕ = length last.behind.slots in
        let two = and_left (fits test a && sequence_fits js functions st1) (sequence_fits (j ∷ rest) functions third) fit in
        let fit1 = and_left (fits test a) (sequence_fits js functions st1) two in
        let fit2 = and_right (fits test a) (sequence_fits js functions st1) two in
        let fit3 = and_right (fits test a && sequence_fits js functions st1) (sequence_fits (j ∷ rest) functions third) fit in
        let has_body = has_front code st.at body (jump ∷ last.code) has in
        let has1 = has_back code st.at first (instr.Zero third.at ∷ inner.code) has_body in
        let has2 = has_rest code at1 st1.at (instr.Zero third.at) inner.code (omega arith) has1 in
        let inner_end = f.keeps.at st1 in
        let e3 : st.at + length body ≡ inner.behind.at = omega (arith, size, inner_end) in
        let has3 = subst (λ n. HasAt code n (jump ∷ last.code)) e3 (has_back code st.at body (jump ∷ last.code) has) in
        let has4 = has_rest code inner.behind.at third.at jump last.code (omega arith) has3 in
        let e1 : st1.at ≡ suc at1 = omega arith in
        let less : length inner.behind.slots ≤ bound = g.keeps.slots third in
        let less0 : length st.slots ≤ length inner.behind.slots = f.keeps.slots st1 in
        let holds3 : Holds object functions judgements third = holds_before object functions judgements (all_declared ns2) (block_judged (j ∷ rest)) g.keeps third held in
        let holds1 : Holds object functions judgements inner.behind = record { containers = holds3.containers; instances = holds3.instances } in
        runs_value object functions ((main_piece test).ty a) slots st.at state at1 end st.scope bound ((meaning_of test).value (main_names state) state.world)
        (λ done. if holds done.0 then in_block ns before done.1 else in_block ns2 (plus before (all_declared ns)) done.1)
        (value_gives object functions judgements test st state before slots fit1 is st.at [] state.world (like_same state.world) (has_front code st.at first (instr.Zero third.at ∷ inner.code) has_body))
        (λ v world like range.
        let s1 : State = record state { world = world } in
        let is1 = is_moved st state before slots is (length first + 1) world like in
        let next = at_next object functions judgements (all_declared ns) (block_judged js) f.keeps st1 before s1 slots is.containers is.instances
        (agree_wider object st.scope state.scope slots (length st.slots) (length inner.behind.slots) less0 is.agree) is.callables is1.tidy in
        let is3 : IsAt object functions judgements third s1 (plus before (all_declared ns)) slots =
        record { agree = next.agree; callables = next.callables; tidy = next.tidy; containers = next.containers; instances = next.instances } in
        runs_branch object functions slots at1 world third.at end st.scope bound v (λ b. if b then in_block ns before s1 else in_block ns2 (plus before (all_declared ns)) s1) has1.0
        (subst (λ n. Runs object functions slots n [] world end st.scope bound (in_block ns before s1)) e1
        (runs_wider object functions slots st1.at [] world end st.scope (length inner.behind.slots) bound (in_block ns before s1) less
        (runs_before object functions slots st1.at [] world inner.behind.at end st.scope (length inner.behind.slots) (in_block ns before s1)
        (λ after w. jump_leads object end inner.behind.at [] after w has3.0)
        (f.does st1 s1 before slots fit2 is1 holds1 (omega (arith, room, less)) has2))))
        (g.does third s1 (plus before (all_declared ns)) slots fit3 is3 held room has4))

    else_keeps : Keeps object functions judgements (plus (all_declared ns) (all_declared ns2))
        (judged_by (if_emitted (main_piece test) (all_emits js) (all_emits (j ∷ rest))) false false (if_fits test js (j ∷ rest)))
    else_keeps = record {
      at = λ st.
          let first : List Instr = (main_piece test).code (around_at functions st) st.at in
          let inner : Emitted = inner_at st in
          let last : Emitted = last_at st in
          let third : Standing = third_at st in
          omega (
            arith,
            f.keeps.at (behind_test test functions st),
            g.keeps.at third,
            length-append first (instr.Zero third.at ∷ inner.code),
            length-append (first ++ instr.Zero third.at ∷ inner.code) (instr.Jump last.behind.at ∷ last.code),
          );
      scope = λ st. ([], refl);
      slots = λ st. omega (arith, f.keeps.slots (behind_test test functions st), g.keeps.slots (third_at st));
      containers = λ st.
          let a = f.keeps.containers (behind_test test functions st) in
          let b = g.keeps.containers (third_at st) in
          (a.0 ++ b.0, b.1 ∙ ap (λ (l : List Declared). l ++ b.0) a.1 ∙ append_assoc st.containers a.0 b.0, omega (arith, length-append a.0 b.0, a.2, b.2));
      instances = λ st.
          let a = f.keeps.instances (behind_test test functions st) in
          let b = g.keeps.instances (third_at st) in
          (a.0 ++ b.0, b.1 ∙ ap (λ (l : List instances.Instance). l ++ b.0) a.1 ∙ append_assoc st.instances a.0 b.0, omega (arith, length-append a.0 b.0, a.2, b.2));
      light = λ e. let no : ⊥ = cc in absurd no;
      step = λ e st. let no : ⊥ = cc in absurd no;
      plain = λ e st. let no : ⊥ = cc in absurd no;
    }

    -- a test, and one of two blocks
    pub if_else_follows : (line : ℕ) → Follows object functions judgements (at_line (running_step judgements (what.If test ns ns2)) line) (judge_step (what.If test js (j ∷ rest)) line)
    if_else_follows line =
        counted_follows line (plus (all_declared ns) (all_declared ns2)) (if_run test ns ns2) (if_emitted (main_piece test) (all_emits js) (all_emits (j ∷ rest))) (if_fits test js (j ∷ rest)) else_keeps else_does
