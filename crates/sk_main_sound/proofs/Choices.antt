-- The code of choices and loops of main, from the code of their parts.
use Rattle.std.proofs.Common.{◌≡◌, ℕ, suc, ◌+◌, ◌≤◌, List, [], ◌∷◌, ◌++◌, length, refl, sym, ap, ◌∙◌, arith, append_assoc, length-append}
use Rattle.std.specs.Prelude.{true, ◌&&◌}
use Rattle.sk_base.specs.declared.number.Ty.{Ty}
use Rattle.sk_isa.specs.declared.code.Instr.{Instr}
use Rattle.sk_isa.specs.declared.code.Instr.TheVariants as instr
use Rattle.sk_isa.specs.declared.object.Object.{Object}
use Rattle.sk_main_fits.specs.Fits.{fits}
use Rattle.sk_main_fits.specs.StatementFits.{Judged, all_emits, behind_line, behind_loop_test, behind_test, if_fits, judge_step, loop_fits, sequence_fits}
use Rattle.sk_main_scheme.specs.MainScheme.{Emitted, Standing, around_at, block_emitted, if_emitted, loop_emitted, main_piece, placed_behind}
use Rattle.sk_main_sound.proofs.Expressions.{HasKnown, IsSound as IsSoundValue, expression_sound}
use Rattle.sk_main_sound.proofs.Parts.{Part, choice_part, if_part, loop_part, part_at, part_same, part_to, then_part}
use Rattle.sk_main_sound.proofs.Scopes.{Scope, below_wider, live_in}
use Rattle.sk_main_sound.proofs.StatementNodes.{Holds, IsPlaced, IsSound, Sounds, block_judged, containers_grow, counted_sounds, holds_before}
use Rattle.sk_main_sound.proofs.Values.{piece_at}
use Rattle.sk_plain.proofs.Truths.{and_left, and_right}
use Rattle.sk_scheme.specs.Scheme.{Known}
use Rattle.sk_tree.specs.declared.declared.Declared.{Declared}
use Rattle.sk_tree.specs.declared.tree.Expr.{Expr}
use Rattle.sk_tree.specs.declared.tree.What.TheOpen as what

module _ (object : Object) (depth : ℕ) (functions : List (List ℕ × Known)) (known : HasKnown object functions) where
  abbrev Sound : Judged → Type 0
  Sound judged = IsSound object depth functions judged

  abbrev Stood : Standing → Type 0
  Stood st = Holds object depth functions st

  abbrev value_of : (e : Expr) → IsSoundValue object depth functions e
  value_of e = expression_sound object depth functions known e

  -- a test, and where it holds a block
  if_sounds : (test : Expr) (js : List Judged) → Sound (block_judged js)
      → Sounds object depth functions (if_emitted (main_piece test) (all_emits js) []) (if_fits test js [])
  if_sounds test js b st fit placed holds low =
      let a = around_at functions st in
      let inner_st : Standing = behind_test test functions st in
      let first : List Instr = (main_piece test).code a st.at in
      let p : ℕ = st.at + length first in
      let inner : Emitted = block_emitted (all_emits js) functions inner_st in
      let live = live_in st.scope in
      let both = and_left (fits test a && sequence_fits js functions inner_st) true fit in
      let fine = and_left (fits test a) (sequence_fits js functions inner_st) both in
      let fine_block = and_right (fits test a) (sequence_fits js functions inner_st) both in
      let high = (value_of test).high st.scope placed.scoped fine in
      let here : st.at + (length first + 1) ≡ suc p = omega arith in
      let r = b.part inner_st fine_block (record { scoped = placed.scoped; below = placed.below }) holds (omega (arith, low)) in (
        if_part object depth ((main_piece test).ty a) st.at p inner.behind.at inner.behind.at first inner.code live (omega (arith, low, high))
            ((value_of test).stretch st.scope placed.scoped fine st.at [] (omega (arith, low))) (part_at object depth (st.at + (length first + 1)) (suc p) inner.behind.at inner.code live live here r.0) refl,
        r.1,
      )

  pub if_sound : (test : Expr) (js : List Judged) (line : ℕ) → Sound (block_judged js) → Sound (judge_step (what.If test js []) line)
  if_sound test js line b = record {
    grows = record {
      at = λ st.
          let st1 : Standing = behind_line st in
          let first : List Instr = (main_piece test).code (around_at functions st1) st1.at in
          let inner : Emitted = block_emitted (all_emits js) functions (behind_test test functions st1) in
          let e = b.grows.at (behind_test test functions st1) in
          omega (arith, e, length-append first (instr.Zero inner.behind.at ∷ inner.code));
      scope = λ st. ([], refl);
      slots = λ st. b.grows.slots (behind_test test functions (behind_line st));
      containers = λ st. b.grows.containers (behind_test test functions (behind_line st));
      light = λ e st. let no : ⊥ = cc in absurd no;
      step = λ e st. let no : ⊥ = cc in absurd no;
    };
    part = counted_sounds object depth functions line (if_emitted (main_piece test) (all_emits js) []) (if_fits test js []) (if_sounds test js b);
  }

  -- a test, and one of two blocks
  if_else_sounds : (test : Expr) (js : List Judged) (k : Judged) (ks : List Judged) → Sound (block_judged js) → Sound (block_judged (k ∷ ks))
      → Sounds object depth functions (if_emitted (main_piece test) (all_emits js) (all_emits (k ∷ ks))) (if_fits test js (k ∷ ks))
  if_else_sounds test js k ks b c st fit placed holds low =
      let a = around_at functions st in
      let inner_st : Standing = behind_test test functions st in
      let first : List Instr = (main_piece test).code a st.at in
      let p : ℕ = st.at + length first in
      let inner : Emitted = block_emitted (all_emits js) functions inner_st in
      let third : Standing = placed_behind inner.behind 1 in
      let last : Emitted = block_emitted (all_emits (k ∷ ks)) functions third in
      let live = live_in st.scope in
      let both = and_left (fits test a && sequence_fits js functions inner_st) (sequence_fits (k ∷ ks) functions third) fit in
      let fine = and_left (fits test a) (sequence_fits js functions inner_st) both in
      let fine_block = and_right (fits test a) (sequence_fits js functions inner_st) both in
      let fine_last = and_right (fits test a && sequence_fits js functions inner_st) (sequence_fits (k ∷ ks) functions third) fit in
      let high = (value_of test).high st.scope placed.scoped fine in
      let here : st.at + (length first + 1) ≡ suc p = omega arith in
      let there : inner.behind.at + 1 ≡ suc inner.behind.at = omega arith in
      let before = holds_before object depth functions (block_judged (k ∷ ks)) c.grows third holds in
      let r = b.part inner_st fine_block (record { scoped = placed.scoped; below = placed.below }) (record { slots = before.slots; containers = before.containers }) (omega (arith, low)) in
      let s = c.part third fine_last (record { scoped = r.1.scoped; below = r.1.below }) holds (omega (arith, low)) in (
        choice_part object depth ((main_piece test).ty a) st.at p inner.behind.at third.at last.behind.at last.behind.at first inner.code last.code live (omega (arith, low, high))
            ((value_of test).stretch st.scope placed.scoped fine st.at [] (omega (arith, low))) (part_at object depth (st.at + (length first + 1)) (suc p) inner.behind.at inner.code live live here r.0)
            (part_at object depth third.at (suc inner.behind.at) last.behind.at last.code live live there s.0) there refl,
        s.1,
      )

  pub if_else_sound : (test : Expr) (js : List Judged) (k : Judged) (ks : List Judged) (line : ℕ) → Sound (block_judged js) → Sound (block_judged (k ∷ ks)) → Sound (judge_step (what.If test js (k ∷ ks)) line)
  if_else_sound test js k ks line b c = record {
    grows = record {
      at = λ st.
          let st1 : Standing = behind_line st in
          let first : List Instr = (main_piece test).code (around_at functions st1) st1.at in
          let inner : Emitted = block_emitted (all_emits js) functions (behind_test test functions st1) in
          let third : Standing = placed_behind inner.behind 1 in
          let last : Emitted = block_emitted (all_emits (k ∷ ks)) functions third in
          let e = b.grows.at (behind_test test functions st1) in
          let f = c.grows.at third in
          omega (
            arith,
            e,
            f,
            length-append first (instr.Zero third.at ∷ inner.code),
            length-append (first ++ instr.Zero third.at ∷ inner.code) (instr.Jump last.behind.at ∷ last.code),
          );
      scope = λ st. ([], refl);
      slots = λ st.
          let x = b.grows.slots (behind_test test functions (behind_line st)) in
          let y = c.grows.slots (placed_behind (block_emitted (all_emits js) functions (behind_test test functions (behind_line st))).behind 1) in
          (x.0 ++ y.0, y.1 ∙ ap (λ (l : List Ty). l ++ y.0) x.1 ∙ append_assoc st.slots x.0 y.0);
      containers = λ st.
          let x = b.grows.containers (behind_test test functions (behind_line st)) in
          let y = c.grows.containers (placed_behind (block_emitted (all_emits js) functions (behind_test test functions (behind_line st))).behind 1) in
          (x.0 ++ y.0, y.1 ∙ ap (λ (l : List Declared). l ++ y.0) x.1 ∙ append_assoc st.containers x.0 y.0);
      light = λ e st. let no : ⊥ = cc in absurd no;
      step = λ e st. let no : ⊥ = cc in absurd no;
    };
    part = counted_sounds object depth functions line (if_emitted (main_piece test) (all_emits js) (all_emits (k ∷ ks))) (if_fits test js (k ∷ ks)) (if_else_sounds test js k ks b c);
  }

  -- ---- loops

  module _ (line : ℕ) (test : Expr) (js : List Judged) (step : Judged) (b : Sound (block_judged js)) (g : Sound step) where
    abbrev body_stands : Standing → Standing
    body_stands st = behind_loop_test test functions st

    abbrev body_at : Standing → Emitted
    body_at st = block_emitted (all_emits js) functions (body_stands st)

    abbrev step_at : Standing → Emitted
    step_at st = step.emits functions (body_at st).behind

    abbrev loop_at : Standing → Emitted
    loop_at st = loop_emitted line (main_piece test) (block_emitted (all_emits js)) step.emits functions st

    -- what holds behind a loop holds before it
    loop_before : (st : Standing) → Stood (loop_at st).behind → Stood st
    loop_before st holds =
        let h1 = holds_before object depth functions step g.grows (body_at st).behind (record { slots = holds.slots; containers = holds.containers }) in
        let h2 = holds_before object depth functions (block_judged js) b.grows (body_stands st) h1 in
        record { slots = h2.slots; containers = h2.containers }

    loop_long : (st : Standing) → (loop_at st).behind.at ≡ st.at + length (loop_at st).code
    loop_long st =
        let first : List Instr = instr.Count line ∷ (main_piece test).code (around_at functions st) (st.at + 1) in
        let inner : List Instr = (body_at st).code ++ (step_at st).code in
        let end : ℕ = (step_at st).behind.at + 1 in
        let e = b.grows.at (body_stands st) in
        let f = g.grows.at (body_at st).behind in
        omega (
          arith,
          e,
          f,
          length-append (body_at st).code (step_at st).code,
          length-append first (instr.Zero end ∷ inner),
          length-append (first ++ instr.Zero end ∷ inner) (instr.Jump st.at ∷ []),
        )

    loop_containers : (st : Standing) → length st.containers ≤ length (loop_at st).behind.containers
    loop_containers st =
        let e = containers_grow object depth functions (block_judged js) b.grows (body_stands st) in
        let f = containers_grow object depth functions step g.grows (body_at st).behind in
        omega (arith, e, f)

    loop_sounds : (st : Standing) → loop_fits test js step functions st ≡ true → IsPlaced object depth functions st → Stood (loop_at st).behind → (loop_at st).depth ≤ depth
        → Part object depth st.at (loop_at st).code (loop_at st).behind.at (live_in st.scope) (live_in st.scope)
    loop_sounds st fit placed holds low =
        let a = around_at functions st in
        let inner_st : Standing = body_stands st in
        let code : List Instr = (main_piece test).code a (st.at + 1) in
        let body : Emitted = body_at st in
        let last : Emitted = step_at st in
        let live = live_in st.scope in
        let p : ℕ = st.at + 1 + length code in
        let inner : List Instr = body.code ++ last.code in
        let three = and_left (fits test a && sequence_fits js functions inner_st && step.is_step) (step.fits functions body.behind) fit in
        let fine_step = and_right (fits test a && sequence_fits js functions inner_st && step.is_step) (step.fits functions body.behind) fit in
        let two = and_left (fits test a && sequence_fits js functions inner_st) step.is_step three in
        let is_step = and_right (fits test a && sequence_fits js functions inner_st) step.is_step three in
        let fine = and_left (fits test a) (sequence_fits js functions inner_st) two in
        let fine_body = and_right (fits test a) (sequence_fits js functions inner_st) two in
        let high = (value_of test).high st.scope placed.scoped fine in
        let held_step : Stood last.behind = record { slots = holds.slots; containers = holds.containers } in
        let held_body = holds_before object depth functions step g.grows body.behind held_step in
        let r = b.part inner_st fine_body (record { scoped = placed.scoped; below = placed.below }) held_body (omega (arith, low)) in
        let s = g.part body.behind fine_step r.1 held_step (omega (arith, low)) in
        let same : last.behind.scope ≡ st.scope = g.grows.step is_step body.behind in
        let turn : Part object depth inner_st.at inner last.behind.at live (live_in last.behind.scope) =
        then_part object depth inner_st.at body.behind.at last.behind.at body.code last.code live live (live_in last.behind.scope) r.0 s.0 in
        let turn' : Part object depth inner_st.at inner last.behind.at live live =
        part_same object depth inner_st.at last.behind.at inner live (live_in last.behind.scope) live (λ container. ap (λ (s : Scope). live_in s container) (sym same)) turn in
        let here : st.at + (suc (length code) + 1) ≡ suc p = omega arith in
        let next : st.at + 1 ≡ suc st.at = omega arith in
        let end_is : last.behind.at + 1 ≡ suc last.behind.at = omega arith in
        part_to object depth st.at (suc last.behind.at) (last.behind.at + 1) (loop_at st).code live live (sym end_is)
        (loop_part object depth ((main_piece test).ty a) line st.at p last.behind.at (last.behind.at + 1) code inner live (omega (arith, low, high))
        (piece_at object depth live (st.at + 1) (suc st.at) code p [] ((main_piece test).ty a ∷ []) next ((value_of test).stretch st.scope placed.scoped fine (st.at + 1) [] (omega (arith, low))))
        (part_at object depth inner_st.at (suc p) last.behind.at inner live live here turn') end_is)

    -- the head, the turns, and the end of the scope
    pub for_sound : (first : Judged) → Sound first → Sound (judge_step (what.For first test step js) line)
    for_sound first f = record {
      grows = record {
        at = λ st.
            let one : Emitted = first.emits functions st in
            let e = f.grows.at st in
            let l = loop_long one.behind in
            omega (arith, e, l, length-append one.code (loop_at one.behind).code);
        scope = λ st. ([], refl);
        slots = λ st.
            let st1 : Standing = (first.emits functions st).behind in
            let x = f.grows.slots st in
            let y = b.grows.slots (body_stands st1) in
            let z = g.grows.slots (body_at st1).behind in
            ((x.0 ++ y.0) ++ z.0, z.1 ∙ ap (λ (l : List Ty). l ++ z.0) (y.1 ∙ ap (λ (l : List Ty). l ++ y.0) x.1 ∙ append_assoc st.slots x.0 y.0) ∙ append_assoc st.slots (x.0 ++ y.0) z.0);
        containers = λ st.
            let st1 : Standing = (first.emits functions st).behind in
            let x = f.grows.containers st in
            let y = b.grows.containers (body_stands st1) in
            let z = g.grows.containers (body_at st1).behind in
            ((x.0 ++ y.0) ++ z.0, z.1 ∙ ap (λ (l : List Declared). l ++ z.0) (y.1 ∙ ap (λ (l : List Declared). l ++ y.0) x.1 ∙ append_assoc st.containers x.0 y.0) ∙ append_assoc st.containers (x.0 ++ y.0) z.0);
        light = λ e st. let no : ⊥ = cc in absurd no;
        step = λ e st. let no : ⊥ = cc in absurd no;
      };
      part = λ st fit placed holds low.
          let one : Emitted = first.emits functions st in
          let st1 : Standing = one.behind in
          let loop : Emitted = loop_at st1 in
          let live = live_in st.scope in
          let live1 = live_in st1.scope in
          let head = and_left (first.is_light && first.fits functions st) (loop_fits test js step functions st1) fit in
          let fine_loop = and_right (first.is_light && first.fits functions st) (loop_fits test js step functions st1) fit in
          let light = and_left first.is_light (first.fits functions st) head in
          let fine = and_right first.is_light (first.fits functions st) head in
          let held : Stood loop.behind = record { slots = holds.slots; containers = holds.containers } in
          let r = f.part st fine placed (loop_before st1 held) (omega (arith, low)) in
          let s = loop_sounds st1 fine_loop r.1 held (omega (arith, low)) in
          let e = containers_grow object depth functions first f.grows st in
          let more = loop_containers st1 in (
            part_same object depth st.at loop.behind.at (one.code ++ loop.code) live live1 live (λ container. sym (f.grows.light light st container))
                (then_part object depth st.at st1.at loop.behind.at one.code loop.code live live1 live1 r.0 s),
            record { scoped = placed.scoped; below = below_wider (length st.containers) (length loop.behind.containers) st.scope (omega (arith, e, more)) placed.below },
          );
    }
