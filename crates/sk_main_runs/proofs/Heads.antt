-- What the code of a `for` does with its head, and that of a declaration of an instance.
use Rattle.std.proofs.Common.{ℕ, ◌+◌, List, [], ◌∷◌, ◌++◌, length, refl, sym, ap, ◌∙◌, subst, arith, append_assoc, length-append}
use Rattle.std.proofs.lemmas.List.{append-nil}
use Rattle.std.specs.Prelude.{◌&&◌, Ok}
use Rattle.sk_isa.specs.declared.code.Instr.{Instr}
use Rattle.sk_isa.specs.declared.object.Object.{Object}
use Rattle.sk_main_fits.specs.StatementFits.{Judged, judge_step, loop_fits}
use Rattle.sk_main_run.specs.MainNames.{Meant, State}
use Rattle.sk_main_run.specs.MainNames as tree
use Rattle.sk_main_run.specs.MainRun.{Numbers, Numbered, plus, all_declared, and_run, in_block, left_block, looped, linked, declaring, running_step}
use Rattle.sk_main_run.specs.MainRunLaws.{at_line}
use Rattle.sk_main_runs.proofs.Agreement.{agree_length}
use Rattle.sk_main_runs.proofs.BlockEnds.{left_runs}
use Rattle.sk_main_runs.proofs.Choices.{block_numbered, block_judged}
use Rattle.sk_main_runs.proofs.Flows.{runs_then, runs_counted, runs_nothing}
use Rattle.sk_main_runs.proofs.Loops.{loop_at, loop_size, loop_runs, body_stands, body_at, step_at, ends}
use Rattle.sk_main_runs.proofs.StatementNodes.{Holds, Follows, Keeps, holds_before, at_next, is_counted}
use Rattle.sk_main_runs.specs.SameMeaning.{Agree, IsInstance}
use Rattle.sk_main_scheme.specs.MainScheme.{Named, Called, Standing, Emitted, made_of}
use Rattle.sk_plain.proofs.Lists.{slice_get-seam}
use Rattle.sk_plain.proofs.Truths.{and_left, and_right}
use Rattle.sk_safety.specs.Safety.{Judgements}
use Rattle.sk_scheme.specs.Scheme.{Known}
use Rattle.sk_scheme_runs.proofs.Runs.{HasAt, has_front, has_back}
use Rattle.sk_tree.specs.declared.declared.Declared.{Declared}
use Rattle.sk_tree.specs.declared.tree.Expr.{Expr}
use Rattle.sk_tree.specs.declared.tree.Instance as instances
use Rattle.sk_tree.specs.declared.tree.What.TheOpen as what

module _ (object : Object) (functions : List (List ℕ × Known)) (judgements : Judgements) where
  abbrev IsFollowing : Numbered → Judged → Type 0
  IsFollowing = Follows object functions judgements

  module _ (line : ℕ) (nf : Numbered) (jf : Judged) (test : Expr) (step : Numbered) (judged : Judged) (ns : List Numbered) (js : List Judged)
      (f : IsFollowing nf jf) (g : IsFollowing step judged) (b : IsFollowing (block_numbered ns) (block_judged js)) where
    abbrev head_at : Standing → Standing
    head_at st = (jf.emits functions st).behind

    for_keeps : Keeps object functions judgements (plus nf.declares (plus step.declares (all_declared ns))) (judge_step (what.For jf test judged js) line)
    for_keeps = record {
      at = λ st.
          let one : List Instr = (jf.emits functions st).code in
          let loop : Emitted = loop_at object functions judgements line test ns js step judged (head_at st) in
          omega (arith, f.keeps.at st, loop_size object functions judgements line test ns js step judged b g (head_at st), length-append one loop.code);
      scope = λ st. ([], refl);
      slots = λ st.
          omega (
            arith,
            f.keeps.slots st,
            b.keeps.slots (body_stands object functions judgements line test ns js step judged (head_at st)),
            g.keeps.slots (body_at object functions judgements line test ns js step judged (head_at st)).behind,
          );
      containers = λ st.
          let x = f.keeps.containers st in
          let y = b.keeps.containers (body_stands object functions judgements line test ns js step judged (head_at st)) in
          let z = g.keeps.containers (body_at object functions judgements line test ns js step judged (head_at st)).behind in (
            (x.0 ++ y.0) ++ z.0,
            z.1 ∙ ap (λ (l : List Declared). l ++ z.0) (y.1 ∙ ap (λ (l : List Declared). l ++ y.0) x.1 ∙ append_assoc st.containers x.0 y.0) ∙ append_assoc st.containers (x.0 ++ y.0) z.0,
            omega (arith, length-append x.0 y.0, length-append (x.0 ++ y.0) z.0, x.2, y.2, z.2),
          );
      instances = λ st.
          let x = f.keeps.instances st in
          let y = b.keeps.instances (body_stands object functions judgements line test ns js step judged (head_at st)) in
          let z = g.keeps.instances (body_at object functions judgements line test ns js step judged (head_at st)).behind in (
            (x.0 ++ y.0) ++ z.0,
            z.1 ∙ ap (λ (l : List instances.Instance). l ++ z.0) (y.1 ∙ ap (λ (l : List instances.Instance). l ++ y.0) x.1 ∙ append_assoc st.instances x.0 y.0) ∙ append_assoc st.instances (x.0 ++ y.0) z.0,
            omega (arith, length-append x.0 y.0, length-append (x.0 ++ y.0) z.0, x.2, y.2, z.2),
          );
      light = λ e. let no : ⊥ = cc in absurd no;
      step = λ e st. let no : ⊥ = cc in absurd no;
      plain = λ e st. let no : ⊥ = cc in absurd no;
    }

    -- the head, the turns, and the end of the scope
    pub for_follows : IsFollowing (at_line (running_step judgements (what.For nf test step ns)) line) (judge_step (what.For jf test judged js) line)
    for_follows = record {
      keeps = for_keeps;
      anywhere = λ e before other state. let no : ⊥ = cc in absurd no;
      does = λ st state before slots fit is held room has.
          let one : Emitted = jf.emits functions st in
          let st1 : Standing = one.behind in
          let loop : Emitted = loop_at object functions judgements line test ns js step judged st1 in
          let end : ℕ = ends object functions judgements line test ns js step judged st1 in
          let bound : ℕ = length loop.behind.slots in
          let fit1 = and_left (jf.is_light && jf.fits functions st) (loop_fits test js judged functions st1) fit in
          let light = and_left jf.is_light (jf.fits functions st) fit1 in
          let fit2 = and_right jf.is_light (jf.fits functions st) fit1 in
          let fit3 = and_right (jf.is_light && jf.fits functions st) (loop_fits test js judged functions st1) fit in
          let held_loop : Holds object functions judgements loop.behind = record { containers = held.containers; instances = held.instances } in
          let held_step : Holds object functions judgements (step_at object functions judgements line test ns js step judged st1).behind = record { containers = held.containers; instances = held.instances } in
          let held_body = holds_before object functions judgements step.declares judged g.keeps (body_at object functions judgements line test ns js step judged st1).behind held_step in
          let held_stands = holds_before object functions judgements (all_declared ns) (block_judged js) b.keeps (body_stands object functions judgements line test ns js step judged st1) held_body in
          let held_one : Holds object functions judgements st1 = record { containers = held_stands.containers; instances = held_stands.instances } in
          let more = b.keeps.slots (body_stands object functions judgements line test ns js step judged st1) in
          let more2 = g.keeps.slots (body_at object functions judgements line test ns js step judged st1).behind in
          let has_loop = subst (λ n. HasAt object.main.instrs n loop.code) (sym (f.keeps.at st)) (has_back object.main.instrs st.at one.code loop.code has) in
          let new = f.keeps.scope st in
          runs_then object functions slots st.at [] state.world st1.at end st1.scope st.scope (length st1.slots) bound (nf.run before state)
          (λ inner. and_run (looped inner.world.statements_left line test (in_block ns before) (step.run before) inner) (left_block state.scope))
          (f.does st state before slots fit2 is held_one (omega (arith, room, more, more2)) (has_front object.main.instrs st.at one.code loop.code has))
          (λ state2 slots2 size2 agree2 callables2 tidy2 fewer2.
          let is2 = at_next object functions judgements nf.declares jf f.keeps st before state2 slots2 is.containers is.instances agree2 callables2 tidy2 in
          let none = f.keeps.light light in
          runs_then object functions slots2 st1.at [] state2.world end end st1.scope st.scope bound bound
          (looped state2.world.statements_left line test (in_block ns before) (step.run before) state2) (left_block state.scope)
          (loop_runs object functions judgements line test ns js step judged b g before st1 fit3 held_loop has_loop
          (omega (arith, is2.containers, ap (λ (n : Numbers). n.containers) none)) (omega (arith, is2.instances, ap (λ (n : Numbers). n.instances) none))
          state2.scope slots2 agree2 state2.world.statements_left state2 slots2 (omega arith) agree2 callables2 tidy2 (omega (arith, room, size2)))
          (λ state3 slots3 size3 agree3 callables3 tidy3 fewer3.
          left_runs object functions new.0 st.scope state.scope slots3 bound end end state3 (agree_length object st.scope state.scope slots (length st.slots) is.agree)
          (subst (λ (s : List (List ℕ × Named)). Agree object s state3.scope slots3 bound) new.1 agree3) callables3 tidy3
          (subst (λ (l : List Instr). HasAt object.main.instrs end l) (sym (f.keeps.plain light st)) tt) (omega (arith, ap length (f.keeps.plain light st)))));
    }

  -- an instance comes into scope
  pub instance_follows : (instance : instances.Instance) (line : ℕ) → IsFollowing (at_line (running_step judgements (what.Instance instance)) line) (judge_step (what.Instance instance) line)
  instance_follows instance line = record {
    keeps = record {
      at = λ st. omega arith;
      scope = λ st. ((instance.name, Called (made_of functions (length st.instances) instance)) ∷ [], refl);
      slots = λ st. omega arith;
      containers = λ st. ([], sym (append-nil st.containers), refl);
      instances = λ st. (instance ∷ [], refl, refl);
      light = λ e. let no : ⊥ = cc in absurd no;
      step = λ e st. let no : ⊥ = cc in absurd no;
      plain = λ e st. let no : ⊥ = cc in absurd no;
    };
    anywhere = λ e before other state. let no : ⊥ = cc in absurd no;
    does = λ st state before slots fit is held room has.
        let made : Named = Called (made_of functions (length st.instances) instance) in
        let is_one = held.instances (length st.instances) instance (slice_get-seam st.instances instance []) state.callables is.callables in
        let same : IsInstance object (made_of functions (length st.instances) instance) (linked judgements state.callables before.instances instance) =
        subst (λ n. IsInstance object (made_of functions (length st.instances) instance) (linked judgements state.callables n instance)) (sym is.instances) is_one in
        runs_counted object functions slots st.at state (st.at + 1) (st.at + 1 + 0) ((instance.name, made) ∷ st.scope) (length st.slots) line
        (λ now. Ok (declaring instance.name (tree.Called (linked judgements now.callables before.instances instance)) now)) has.0 (omega arith)
        (λ world eq less.
        let is1 = is_counted object functions judgements st state before slots is world eq in
        runs_nothing object functions slots (st.at + 1) (st.at + 1 + 0) ((instance.name, made) ∷ st.scope) (length st.slots)
        (declaring instance.name (tree.Called (linked judgements state.callables before.instances instance)) (record state { world = world })) (omega arith)
        (refl, same, is1.agree) is1.callables is1.tidy);
  }
