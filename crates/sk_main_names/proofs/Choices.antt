-- What the code of choices and loops of main names is there.
use Rattle.std.proofs.Common.{◌≡◌, ℕ, ◌+◌, List, [], ◌∷◌, ◌++◌, refl}
use Rattle.std.specs.Prelude.{true, Bool, ◌&&◌}
use Rattle.sk_isa.specs.declared.code.Instr.{Instr}
use Rattle.sk_isa.specs.declared.code.Instr.TheVariants as instr
use Rattle.sk_isa.specs.declared.object.Object.{Object}
use Rattle.sk_main_fits.specs.Fits.{fits}
use Rattle.sk_main_fits.specs.StatementFits.{Judged, all_emits, behind_line, behind_loop_test, behind_test, if_fits, judge_step, loop_fits, sequence_fits}
use Rattle.sk_main_names.proofs.Expressions.{HasCalls, expression_named}
use Rattle.sk_main_names.proofs.Scopes.{InScope, Names, names_append}
use Rattle.sk_main_names.proofs.StatementNodes.{Held, IsNamed, Naming, block_judged, counted_naming}
use Rattle.sk_main_scheme.specs.MainScheme.{Emitted, Standing, around_at, block_emitted, if_emitted, loop_emitted, main_piece, placed_behind}
use Rattle.sk_plain.proofs.Truths.{and_left, and_right}
use Rattle.sk_scheme.specs.Scheme.{Known}
use Rattle.sk_tree.specs.declared.tree.Expr.{Expr}
use Rattle.sk_tree.specs.declared.tree.What.TheOpen as what

module _ (object : Object) (functions : List (List ℕ × Known)) (calls : HasCalls object functions) where
  test_named : (test : Expr) (st : Standing) → InScope object st.scope → fits test (around_at functions st) ≡ true → (at : ℕ) → Names object ((main_piece test).code (around_at functions st) at)
  test_named test st s fit at = (expression_named object functions calls test).named st.scope s fit at

  -- a test, and a block
  if_naming : (test : Expr) (js : List Judged) → IsNamed object functions (block_judged js) → Naming object functions (if_emitted (main_piece test) (all_emits js) []) (if_fits test js [])
  if_naming test js b st fit s held =
      let a = around_at functions st in
      let inner_st : Standing = behind_test test functions st in
      let first : List Instr = (main_piece test).code a st.at in
      let inner : Emitted = block_emitted (all_emits js) functions inner_st in
      let both = and_left (fits test a && sequence_fits js functions inner_st) true fit in
      let r = b.naming inner_st (and_right (fits test a) (sequence_fits js functions inner_st) both) s held in
      (names_append object first (instr.Zero inner.behind.at ∷ inner.code) (test_named test st s (and_left (fits test a) (sequence_fits js functions inner_st) both) st.at) r.0, s)

  pub if_named : (test : Expr) (js : List Judged) (line : ℕ) → IsNamed object functions (block_judged js) → IsNamed object functions (judge_step (what.If test js []) line)
  if_named test js line b = record {
    before = λ st held. b.before (behind_test test functions (behind_line st)) held;
    naming = counted_naming object functions line (if_emitted (main_piece test) (all_emits js) []) (if_fits test js []) (if_naming test js b);
  }

  -- a test, and one of two blocks
  if_else_naming : (test : Expr) (js : List Judged) (k : Judged) (ks : List Judged) → IsNamed object functions (block_judged js) → IsNamed object functions (block_judged (k ∷ ks))
      → Naming object functions (if_emitted (main_piece test) (all_emits js) (all_emits (k ∷ ks))) (if_fits test js (k ∷ ks))
  if_else_naming test js k ks b c st fit s held =
      let a = around_at functions st in
      let inner_st : Standing = behind_test test functions st in
      let first : List Instr = (main_piece test).code a st.at in
      let inner : Emitted = block_emitted (all_emits js) functions inner_st in
      let third : Standing = placed_behind inner.behind 1 in
      let last : Emitted = block_emitted (all_emits (k ∷ ks)) functions third in
      let one : Bool = sequence_fits js functions inner_st in
      let other : Bool = sequence_fits (k ∷ ks) functions third in
      let both = and_left (fits test a && one) other fit in
      let r1 = b.naming inner_st (and_right (fits test a) one both) s (c.before third held) in
      let r2 = c.naming third (and_right (fits test a && one) other fit) s held in (
        names_append object (first ++ instr.Zero third.at ∷ inner.code) (instr.Jump last.behind.at ∷ last.code)
            (names_append object first (instr.Zero third.at ∷ inner.code) (test_named test st s (and_left (fits test a) one both) st.at) r1.0) r2.0,
        s,
      )

  pub if_else_named : (test : Expr) (js : List Judged) (k : Judged) (ks : List Judged) (line : ℕ) → IsNamed object functions (block_judged js)
      → IsNamed object functions (block_judged (k ∷ ks)) → IsNamed object functions (judge_step (what.If test js (k ∷ ks)) line)
  if_else_named test js k ks line b c = record {
    before = λ st held.
        let inner_st : Standing = behind_test test functions (behind_line st) in
        b.before inner_st (c.before (placed_behind (block_emitted (all_emits js) functions inner_st).behind 1) held);
    naming = counted_naming object functions line (if_emitted (main_piece test) (all_emits js) (all_emits (k ∷ ks))) (if_fits test js (k ∷ ks)) (if_else_naming test js k ks b c);
  }

  -- ---- loops

  module _ (line : ℕ) (test : Expr) (js : List Judged) (step : Judged) (b : IsNamed object functions (block_judged js)) (g : IsNamed object functions step) where
    abbrev body_at : Standing → Emitted
    body_at st = block_emitted (all_emits js) functions (behind_loop_test test functions st)

    abbrev loop_at : Standing → Emitted
    loop_at st = loop_emitted line (main_piece test) (block_emitted (all_emits js)) step.emits functions st

    loop_before : (st : Standing) → Held object functions (loop_at st).behind → Held object functions st
    loop_before st held = b.before (behind_loop_test test functions st) (g.before (body_at st).behind held)

    loop_named : (st : Standing) → loop_fits test js step functions st ≡ true → InScope object st.scope → Held object functions (loop_at st).behind → Names object (loop_at st).code
    loop_named st fit s held =
        let a = around_at functions st in
        let inner_st : Standing = behind_loop_test test functions st in
        let code : List Instr = (main_piece test).code a (st.at + 1) in
        let body : Emitted = body_at st in
        let last : Emitted = step.emits functions body.behind in
        let inner : List Instr = body.code ++ last.code in
        let block : Bool = sequence_fits js functions inner_st in
        let three = and_left (fits test a && block && step.is_step) (step.fits functions body.behind) fit in
        let fine_step = and_right (fits test a && block && step.is_step) (step.fits functions body.behind) fit in
        let two = and_left (fits test a && block) step.is_step three in
        let r1 = b.naming inner_st (and_right (fits test a) block two) s (g.before body.behind held) in
        let r2 = g.naming body.behind fine_step r1.1 held in
        let first : List Instr = instr.Count line ∷ code in
        let end : ℕ = last.behind.at + 1 in
        names_append object (first ++ instr.Zero end ∷ inner) (instr.Jump st.at ∷ [])
        (names_append object first (instr.Zero end ∷ inner) (test_named test st s (and_left (fits test a) block two) (st.at + 1)) (names_append object body.code last.code r1.0 r2.0)) refl

    -- the head, the turns, and the end of the scope
    pub for_named : (first : Judged) → IsNamed object functions first → IsNamed object functions (judge_step (what.For first test step js) line)
    for_named first f = record {
      before = λ st held. f.before st (loop_before (first.emits functions st).behind held);
      naming = λ st fit s held.
          let one : Emitted = first.emits functions st in
          let loop : Emitted = loop_at one.behind in
          let head = and_left (first.is_light && first.fits functions st) (loop_fits test js step functions one.behind) fit in
          let fine_loop = and_right (first.is_light && first.fits functions st) (loop_fits test js step functions one.behind) fit in
          let r = f.naming st (and_right first.is_light (first.fits functions st) head) s (loop_before one.behind held) in
          (names_append object one.code loop.code r.0 (loop_named one.behind fine_loop r.1 held), s);
    }
