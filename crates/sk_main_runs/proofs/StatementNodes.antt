-- What the code of a statement of main does, from what the code of its parts does: what is asked, sequences, and blocks.
use Rattle.std.proofs.Common.{◌≡◌, ℕ, suc, ◌+◌, ◌-◌, ◌≤◌, List, [], ◌∷◌, ◌++◌, length, take, ℤ, Some, refl, sym, ap, ◌∙◌, subst, arith, append_assoc, length-append}
use Rattle.std.proofs.lemmas.List.{append-nil}
use Rattle.std.proofs.Math.Seq.{take-append_seam}
use Rattle.std.specs.Prelude.{All, slice_get, true, false, ◌&&◌, Ok}
use Rattle.sk_base.specs.declared.number.Ty.{Ty}
use Rattle.sk_isa.specs.declared.code.Instr.{Instr}
use Rattle.sk_isa.specs.declared.object.Object.{Object}
use Rattle.sk_main_fits.specs.Fits.{fits}
use Rattle.sk_main_fits.specs.StatementFits.{Judged, Test, all_emits, sequence_fits, behind_line}
use Rattle.sk_main_run.specs.MainNames.{State, main_names}
use Rattle.sk_main_run.specs.MainRun.{Running, Numbers, Numbered, none_declared, plus, all_declared, and_run, counted, in_sequence, in_block, left_block, linked}
use Rattle.sk_main_runs.proofs.Agreement.{agree_length}
use Rattle.sk_main_runs.proofs.BlockEnds.{left_runs}
use Rattle.sk_main_runs.proofs.ExpressionNodes.{wanted_gives}
use Rattle.sk_main_runs.proofs.ExpressionRuns.{expression_runs}
use Rattle.sk_main_runs.proofs.Flows.{Runs, runs_then, runs_nothing, runs_counted}
use Rattle.sk_main_runs.proofs.Runs.{IsLike, Gives}
use Rattle.sk_main_runs.specs.SameMeaning.{Agree, FunctionsAgree, IsHeld, IsInstance, IsTidy}
use Rattle.sk_main_scheme.specs.MainScheme.{Named, Standing, Emitted, Emitting, around_at, all_emitted, block_emitted, then_emitted, dropped, main_piece, made_of}
use Rattle.sk_main_scheme.specs.MainScheme as scheme
use Rattle.sk_meaning.specs.Evaluation.{Callables}
use Rattle.sk_meaning.specs.Expressions.{meaning_of, then_do}
use Rattle.sk_plain.proofs.Lists.{slice_get-front}
use Rattle.sk_plain.proofs.Truths.{and_left, and_right}
use Rattle.sk_safety.specs.Safety.{Judgements}
use Rattle.sk_scheme.specs.Pieces.{wanted_code, narrowed}
use Rattle.sk_scheme.specs.Scheme.{Known}
use Rattle.sk_scheme_runs.proofs.Runs.{HasAt, has_front, has_back}
use Rattle.sk_tree.specs.declared.declared.Declared.{Declared}
use Rattle.sk_tree.specs.declared.tree.Expr.{Expr}
use Rattle.sk_tree.specs.declared.tree.Instance as instances
use Rattle.sk_world.specs.World.{World, Container}

module _ (object : Object) (functions : List (List ℕ × Known)) (judgements : Judgements) where
  -- the containers that were declared so far are the object's first ones, and each instance does what it does in the tree
  pub record Holds (st : Standing) : Type 0 where
    pub containers : (number : ℕ) (declared : Declared) → slice_get st.containers number ≡ Some declared → slice_get object.containers number ≡ Some declared
    pub instances : (number : ℕ) (instance : instances.Instance) → slice_get st.instances number ≡ Some instance → (callables : Callables) → FunctionsAgree object functions callables
        → IsInstance object (made_of functions number instance) (linked judgements callables number instance)

  -- code and a statement stand alike
  pub record IsAt (st : Standing) (state : State) (before : Numbers) (slots : List ℤ) : Type 0 where
    pub agree : Agree object st.scope state.scope slots (length st.slots)
    pub callables : FunctionsAgree object functions state.callables
    pub tidy : IsTidy object state.world
    pub containers : before.containers ≡ length st.containers
    pub instances : before.instances ≡ length st.instances

  -- what stands behind a statement
  pub record Keeps (declares : Numbers) (judged : Judged) : Type 0 where
    pub at : (st : Standing) → (judged.emits functions st).behind.at ≡ st.at + length (judged.emits functions st).code
    pub scope : (st : Standing) → (new : List (List ℕ × Named)) × ((judged.emits functions st).behind.scope ≡ new ++ st.scope)
    pub slots : (st : Standing) → length st.slots ≤ length (judged.emits functions st).behind.slots
    pub containers : (st : Standing) → (new : List Declared) × ((judged.emits functions st).behind.containers ≡ st.containers ++ new) × (length new ≡ declares.containers)
    pub instances : (st : Standing) → (new : List instances.Instance) × ((judged.emits functions st).behind.instances ≡ st.instances ++ new) × (length new ≡ declares.instances)
    pub light : judged.is_light ≡ true → declares ≡ none_declared
    pub step : judged.is_step ≡ true → (st : Standing) → (judged.emits functions st).behind.scope ≡ st.scope
    pub plain : judged.is_light ≡ true → (st : Standing) → dropped (scope st).0 ≡ []

  -- the code of a statement that fits does what the statement does
  abbrev pub Does : (Numbers → Running) → Emitting → Test → Type 0
  Does run emits test =
      (st : Standing) (state : State) (before : Numbers) (slots : List ℤ) → test functions st ≡ true → IsAt st state before slots → Holds (emits functions st).behind
      → length (emits functions st).behind.slots ≤ length slots → HasAt object.main.instrs st.at (emits functions st).code
      → Runs object functions slots st.at [] state.world (emits functions st).behind.at (emits functions st).behind.scope (length (emits functions st).behind.slots) (run before state)

  pub record Follows (numbered : Numbered) (judged : Judged) : Type 0 where
    pub keeps : Keeps numbered.declares judged
    -- a step does not depend on what is declared before it
    pub anywhere : judged.is_step ≡ true → (before other : Numbers) (state : State) → numbered.run before state ≡ numbered.run other state
    pub does : Does numbered.run judged.emits judged.fits

  -- code that declares nothing
  pub keeps_same : (judged : Judged) → ((st : Standing) → (judged.emits functions st).behind.at ≡ st.at + length (judged.emits functions st).code)
      → ((st : Standing) → (judged.emits functions st).behind.scope ≡ st.scope) → ((st : Standing) → length st.slots ≤ length (judged.emits functions st).behind.slots)
      → ((st : Standing) → (judged.emits functions st).behind.containers ≡ st.containers) → ((st : Standing) → (judged.emits functions st).behind.instances ≡ st.instances)
      → Keeps none_declared judged
  keeps_same judged at scope slots containers instances = record {
    at = at;
    scope = λ st. ([], scope st);
    slots = slots;
    containers = λ st. ([], containers st ∙ sym (append-nil st.containers), refl);
    instances = λ st. ([], instances st ∙ sym (append-nil st.instances), refl);
    light = λ e. refl;
    step = λ e st. scope st;
    plain = λ e st. refl;
  }

  -- what holds behind code holds before it
  pub holds_before : (declares : Numbers) (judged : Judged) → Keeps declares judged → (st : Standing) → Holds (judged.emits functions st).behind → Holds st
  holds_before declares judged keeps st h = record {
    containers = λ number declared e.
        let c = keeps.containers st in
        h.containers number declared (subst (λ (l : List Declared). slice_get l number ≡ Some declared) (sym c.1) (slice_get-front st.containers c.0 number declared e));
    instances = λ number instance e.
        let c = keeps.instances st in
        h.instances number instance (subst (λ (l : List instances.Instance). slice_get l number ≡ Some instance) (sym c.1) (slice_get-front st.instances c.0 number instance e));
  }

  -- where the next statement stands
  pub at_next : (declares : Numbers) (judged : Judged) → Keeps declares judged → (st : Standing) (before : Numbers) (state : State) (slots : List ℤ)
      → before.containers ≡ length st.containers → before.instances ≡ length st.instances
      → Agree object (judged.emits functions st).behind.scope state.scope slots (length (judged.emits functions st).behind.slots)
      → FunctionsAgree object functions state.callables → IsTidy object state.world → IsAt (judged.emits functions st).behind state (plus before declares) slots
  at_next declares judged keeps st before state slots c i agree callables tidy =
      let d = keeps.containers st in
      let j = keeps.instances st in
      record {
        agree = agree;
        callables = callables;
        tidy = tidy;
        containers = omega (arith, c, ap length d.1, length-append st.containers d.0, d.2);
        instances = omega (arith, i, ap length j.1, length-append st.instances j.0, j.2);
      }

  -- no statement
  pub none_follows : Follows (record { declares = all_declared []; run = in_sequence [] }) (record { emits = all_emitted []; fits = sequence_fits []; is_light = false; is_step = false })
  none_follows = record {
    keeps = keeps_same (record { emits = all_emitted []; fits = sequence_fits []; is_light = false; is_step = false }) (λ st. refl) (λ st. refl) (λ st. omega arith) (λ st. refl) (λ st. refl);
    anywhere = λ e before other state. refl;
    does = λ st state before slots fit is holds room has. runs_nothing object functions slots st.at (st.at + 0) st.scope (length st.slots) state (omega arith) is.agree is.callables is.tidy;
  }

  -- a statement, and what follows it
  pub pair_follows : (n1 n2 : Numbered) (j1 j2 : Judged) → Follows n1 j1 → Follows n2 j2
      → Follows (record { declares = plus n1.declares n2.declares; run = λ before state. and_run (n1.run before state) (n2.run (plus before n1.declares)) })
      (record { emits = then_emitted j1.emits j2.emits; fits = λ fs st. j1.fits fs st && j2.fits fs (j1.emits fs st).behind; is_light = false; is_step = false })
  pair_follows n1 n2 j1 j2 f1 f2 = record {
    keeps = record {
      at = λ st.
          let one : Emitted = j1.emits functions st in
          let two : Emitted = j2.emits functions one.behind in
          omega (arith, f1.keeps.at st, f2.keeps.at one.behind, length-append one.code two.code);
      scope = λ st.
          let a = f1.keeps.scope st in
          let b = f2.keeps.scope (j1.emits functions st).behind in
          (b.0 ++ a.0, b.1 ∙ ap (λ l. b.0 ++ l) a.1 ∙ sym (append_assoc b.0 a.0 st.scope));
      slots = λ st. omega (arith, f1.keeps.slots st, f2.keeps.slots (j1.emits functions st).behind);
      containers = λ st.
          let a = f1.keeps.containers st in
          let b = f2.keeps.containers (j1.emits functions st).behind in
          (a.0 ++ b.0, b.1 ∙ ap (λ (l : List Declared). l ++ b.0) a.1 ∙ append_assoc st.containers a.0 b.0, omega (arith, length-append a.0 b.0, a.2, b.2));
      instances = λ st.
          let a = f1.keeps.instances st in
          let b = f2.keeps.instances (j1.emits functions st).behind in
          (a.0 ++ b.0, b.1 ∙ ap (λ (l : List instances.Instance). l ++ b.0) a.1 ∙ append_assoc st.instances a.0 b.0, omega (arith, length-append a.0 b.0, a.2, b.2));
      light = λ e. let no : ⊥ = cc in absurd no;
      step = λ e st. let no : ⊥ = cc in absurd no;
      plain = λ e st. let no : ⊥ = cc in absurd no;
    };
    anywhere = λ e before other state. let no : ⊥ = cc in absurd no;
    does = λ st state before slots fit is holds room has.
        let one : Emitted = j1.emits functions st in
        let st2 : Standing = one.behind in
        let two : Emitted = j2.emits functions st2 in
        let more = f2.keeps.slots st2 in
        let fit1 = and_left (j1.fits functions st) (j2.fits functions st2) fit in
        let fit2 = and_right (j1.fits functions st) (j2.fits functions st2) fit in
        let has2 = subst (λ n. HasAt object.main.instrs n two.code) (sym (f1.keeps.at st)) (has_back object.main.instrs st.at one.code two.code has) in
        runs_then object functions slots st.at [] state.world st2.at two.behind.at one.behind.scope two.behind.scope (length one.behind.slots) (length two.behind.slots)
        (n1.run before state) (n2.run (plus before n1.declares))
        (f1.does st state before slots fit1 is (holds_before n2.declares j2 f2.keeps st2 holds) (omega (arith, more, room)) (has_front object.main.instrs st.at one.code two.code has))
        (λ state2 after size agree callables tidy fewer.
        f2.does st2 state2 (plus before n1.declares) after fit2 (at_next n1.declares j1 f1.keeps st before state2 after is.containers is.instances agree callables tidy) holds (omega (arith, room, size)) has2);
  }

  -- a block, whose names end with it
  pub block_follows : (ns : List Numbered) (js : List Judged)
      → Follows (record { declares = all_declared ns; run = in_sequence ns }) (record { emits = all_emitted (all_emits js); fits = sequence_fits js; is_light = false; is_step = false })
      → Follows (record { declares = all_declared ns; run = in_block ns }) (record { emits = block_emitted (all_emits js); fits = sequence_fits js; is_light = false; is_step = false })
  block_follows ns js f = record {
    keeps = record {
      at = λ st.
          let inner : Emitted = all_emitted (all_emits js) functions st in
          let drops : List Instr = dropped (take (length inner.behind.scope - length st.scope) inner.behind.scope) in
          omega (arith, f.keeps.at st, length-append inner.code drops);
      scope = λ st. ([], refl);
      slots = λ st. f.keeps.slots st;
      containers = λ st. f.keeps.containers st;
      instances = λ st. f.keeps.instances st;
      light = λ e. let no : ⊥ = cc in absurd no;
      step = λ e st. let no : ⊥ = cc in absurd no;
      plain = λ e st. let no : ⊥ = cc in absurd no;
    };
    anywhere = λ e before other state. let no : ⊥ = cc in absurd no;
    does = λ st state before slots fit is holds room has.
        let inner : Emitted = all_emitted (all_emits js) functions st in
        let g = f.keeps.scope st in
        let count : length inner.behind.scope - length st.scope ≡ length g.0 = omega (arith, ap length g.1, length-append g.0 st.scope) in
        let drops : List Instr = dropped (take (length inner.behind.scope - length st.scope) inner.behind.scope) in
        let new_is : take (length inner.behind.scope - length st.scope) inner.behind.scope ≡ g.0 =
        ap (λ n. take n inner.behind.scope) count ∙ ap (λ (l : List (List ℕ × Named)). take (length g.0) l) g.1 ∙ take-append_seam g.0 st.scope in
        let drops_are : drops ≡ dropped g.0 = ap dropped new_is in
        let has2 = subst (λ n. HasAt object.main.instrs n drops) (sym (f.keeps.at st)) (has_back object.main.instrs st.at inner.code drops has) in
        let has3 = subst (λ (l : List Instr). HasAt object.main.instrs inner.behind.at l) drops_are has2 in
        let holds' : Holds inner.behind = record { containers = holds.containers; instances = holds.instances } in
        runs_then object functions slots st.at [] state.world inner.behind.at (inner.behind.at + length drops) inner.behind.scope st.scope (length inner.behind.slots) (length inner.behind.slots)
        (in_sequence ns before state) (left_block state.scope)
        (f.does st state before slots fit is holds' room (has_front object.main.instrs st.at inner.code drops has))
        (λ state2 after size agree callables tidy fewer.
        left_runs object functions g.0 st.scope state.scope after (length inner.behind.slots) inner.behind.at (inner.behind.at + length drops) state2
        (agree_length object st.scope state.scope slots (length st.slots) is.agree)
        (subst (λ (s : List (List ℕ × Named)). Agree object s state2.scope after (length inner.behind.slots)) g.1 agree) callables tidy has3 (ap (λ (l : List Instr). inner.behind.at + length l) (sym drops_are)));
  }

  -- a statement stands behind its line, with one statement less that is left
  pub is_counted : (st : Standing) (state : State) (before : Numbers) (slots : List ℤ) → IsAt st state before slots → (world : World) → world.containers ≡ state.world.containers
      → IsAt (behind_line st) (record state { world = world }) before slots
  is_counted st state before slots is world same = record {
    agree = is.agree;
    callables = is.callables;
    tidy = record { each = subst (λ (cs : List Container). All (IsHeld object) cs) (sym same) is.tidy.each };
    containers = is.containers;
    instances = is.instances;
  }

  -- a statement that is counted first
  pub counted_does : (line : ℕ) (run : Numbers → Running) (emits : Emitting) (test : Test) → Does run emits test
      → Does (λ before. counted line (run before)) (scheme.counted line emits) (λ fs st. test fs (behind_line st))
  counted_does line run emits test f st state before slots fit is holds room has =
      let st1 : Standing = behind_line st in
      let emitted : Emitted = emits functions st1 in
      let e : suc st.at ≡ st.at + 1 = omega arith in
      let has1 : HasAt object.main.instrs st1.at emitted.code = subst (λ n. HasAt object.main.instrs n emitted.code) e has.1 in
      runs_counted object functions slots st.at state st1.at emitted.behind.at emitted.behind.scope (length emitted.behind.slots) line (run before) has.0 e
      (λ world same less. f st1 (record state { world = world }) before slots fit (is_counted st state before slots is world same) holds room has1)

  -- the value of an expression in a statement, with other values on the stack
  pub value_gives : (e : Expr) (st : Standing) (state : State) (before : Numbers) (slots : List ℤ) → fits e (around_at functions st) ≡ true → IsAt st state before slots
      → (at : ℕ) (stack : List ℤ) (world : World) → IsLike state.world world → HasAt object.main.instrs at ((main_piece e).code (around_at functions st) at)
      → Gives object ((main_piece e).ty (around_at functions st)) slots at stack world (at + length ((main_piece e).code (around_at functions st) at)) stack ((meaning_of e).value (main_names state) world)
  value_gives e st state before slots fit is at stack world like has =
      (expression_runs object functions e).gives
      (record { scope = st.scope; state = state; slots = slots; bound = length st.slots; agree = is.agree; callables = is.callables; tidy = is.tidy }) fit at stack world like has

  -- the same where a value of a type is wanted
  pub wanted_value : (ty : Ty) (e : Expr) (st : Standing) (state : State) (before : Numbers) (slots : List ℤ) → fits e (around_at functions st) ≡ true → IsAt st state before slots
      → (at : ℕ) (stack : List ℤ) (world : World) → IsLike state.world world → HasAt object.main.instrs at (wanted_code ty (main_piece e) (around_at functions st) at)
      → Gives object ty slots at stack world (at + length (wanted_code ty (main_piece e) (around_at functions st) at)) stack
      (then_do ((meaning_of e).value (main_names state) world) (λ a w. Ok (Rattle.sk_base.specs.Arithmetic.wrapped ty a, w)))
  wanted_value ty e st state before slots fit is at stack world like has =
      let a = around_at functions st in
      let c = main_piece e in
      wanted_gives object ty (c.ty a) (c.code a at) slots at stack world ((meaning_of e).value (main_names state) world) has
      (value_gives e st state before slots fit is at stack world like (has_front object.main.instrs at (c.code a at) (narrowed ty (c.ty a)) has))
