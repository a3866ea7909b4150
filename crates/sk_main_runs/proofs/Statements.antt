-- What the code of single statements of main does: declarations and assignments of scalars, printing, and returning.
use Rattle.std.proofs.Common.{◌≡◌, ℕ, suc, ◌+◌, ◌<◌, List, [], ◌∷◌, ◌++◌, length, map, Option, Some, None, refl, sym, subst, arith, length-append}
use Rattle.std.proofs.lemmas.List.{append-nil}
use Rattle.std.specs.Fmt.{signed_decimal}
use Rattle.std.specs.Prelude.{slice_set, true, false, ◌&&◌, Ok, Err}
use Rattle.sk_base.specs.Arithmetic.{wrapped}
use Rattle.sk_base.specs.ArithmeticLaws.{wrapped-in_range}
use Rattle.sk_base.specs.declared.number.Ty.{Ty}
use Rattle.sk_isa.specs.declared.code.Instr.{Instr}
use Rattle.sk_isa.specs.declared.code.Instr.TheVariants as instr
use Rattle.sk_isa.specs.declared.object.Object.{Object}
use Rattle.sk_main_fits.specs.Fits.{fits, is_number}
use Rattle.sk_main_fits.specs.StatementFits.{Judged, Test, judge_step, judged_by, behind_line, item_fits, items_fit}
use Rattle.sk_main_run.specs.MainNames.{State, main_names, evaluated}
use Rattle.sk_main_run.specs.MainNames as tree
use Rattle.sk_main_run.specs.MainRun.{Running, Numbers, Numbered, none_declared, and_run, assigned, declaring, item_run, items_run, running_step}
use Rattle.sk_main_run.specs.MainRunLaws.{at_line}
use Rattle.sk_main_runs.proofs.Agreement.{IsSet, agree_declare, name_set}
use Rattle.sk_main_runs.proofs.Flows.{Runs, runs_nothing, runs_value, runs_counted, runs_one, runs_store}
use Rattle.sk_main_runs.proofs.Runs.{like_same, stands, step, last_step}
use Rattle.sk_main_runs.proofs.StatementNodes.{Does, Follows, keeps_same, pair_follows, is_counted, counted_does, value_gives, wanted_value}
use Rattle.sk_main_runs.proofs.Tidy.{tidy_like}
use Rattle.sk_main_runs.specs.SameMeaning.{Agree}
use Rattle.sk_main_scheme.specs.MainScheme.{Around, Named, Number, Whole, Called, Standing, Emitting, around_at, all_emitted, main_piece, named_type, store_code, type_in, item_emitted, taking}
use Rattle.sk_meaning.specs.Expressions.{meaning_of}
use Rattle.sk_names.specs.Bindings.{bound_to, rebound}
use Rattle.sk_plain.proofs.Truths.{and_left, and_right}
use Rattle.sk_safety.specs.Safety.{Judgements}
use Rattle.sk_scheme.specs.Pieces.{wanted_code}
use Rattle.sk_scheme.specs.Scheme.{Known}
use Rattle.sk_scheme_runs.proofs.Runs.{HasAt, has_front, has_back}
use Rattle.sk_tree.specs.declared.tree.Expr.{Expr}
use Rattle.sk_tree.specs.declared.tree.Item.{Item}
use Rattle.sk_tree.specs.declared.tree.Item.TheVariants.{Value, Text, End}
use Rattle.sk_tree.specs.declared.tree.What.TheOpen as what
use Rattle.sk_world.specs.World.{World, print}
use Rattle.sk_world.specs.World as worlds

module _ (object : Object) (functions : List (List ℕ × Known)) (judgements : Judgements) where
  abbrev IsFollowing : Numbered → Judged → Type 0
  IsFollowing = Follows object functions judgements

  pub declare_follows : (ty : Ty) (name : List ℕ) (e : Expr) (line : ℕ)
      → IsFollowing (at_line (running_step judgements (what.Declare ty name e)) line) (judge_step (what.Declare ty name e) line)
  declare_follows ty name e line = record {
    keeps = record {
      at = λ st. omega arith;
      scope = λ st. ((name, Number (length st.slots) ty) ∷ [], refl);
      slots = λ st. omega (arith, length-append st.slots (ty ∷ []));
      containers = λ st. ([], sym (append-nil st.containers), refl);
      instances = λ st. ([], sym (append-nil st.instances), refl);
      light = λ e. refl;
      step = λ e st. let no : ⊥ = cc in absurd no;
      plain = λ e st. refl;
    };
    anywhere = λ e before other state. refl;
    does = λ st state before slots fit is holds room has.
        let st1 : Standing = behind_line st in
        let code : List Instr = wanted_code ty (main_piece e) (around_at functions st1) st1.at in
        let last : Instr = instr.Store (length st.slots) in
        let here_is : suc st.at ≡ st1.at = omega arith in
        let has1 : HasAt object.main.instrs st1.at (code ++ last ∷ []) = subst (λ n. HasAt object.main.instrs n (code ++ last ∷ [])) here_is has.1 in
        let more : length (st.slots ++ ty ∷ []) ≡ suc (length st.slots) = omega (arith, length-append st.slots (ty ∷ [])) in
        let low : length st.slots < length slots = omega (arith, more, room) in
        let scope : List (List ℕ × Named) = (name, Number (length st.slots) ty) ∷ st.scope in
        let end : ℕ = st1.at + length (code ++ last ∷ []) in
        runs_counted object functions slots st.at state st1.at end scope (length (st.slots ++ ty ∷ [])) line
        (λ state. and_run (evaluated e state) (λ done. Ok (declaring name (tree.Scalar ty (wrapped ty done.0)) done.1))) has.0 here_is
        (λ world same less.
        let state1 : State = record state { world = world } in
        let is1 = is_counted object functions judgements st state before slots is world same in
        runs_store object functions ty slots st1.at state1 (st1.at + length code) end (length st.slots) scope (length (st.slots ++ ty ∷ []))
        ((meaning_of e).value (main_names state1) world) (λ v values. (name, tree.Scalar ty (wrapped ty v)) ∷ values)
        (wanted_value object functions judgements ty e st1 state1 before slots fit is1 st1.at [] world (like_same world) (has_front object.main.instrs st1.at code (last ∷ []) has1))
        (has_back object.main.instrs st1.at code (last ∷ []) has1).0 (omega (arith, length-append code (last ∷ []))) low
        (λ v. subst (λ n. Agree object scope ((name, tree.Scalar ty (wrapped ty v)) ∷ state.scope) (slice_set slots (length st.slots) (wrapped ty v)) n) (sym more)
        (agree_declare object st.scope state.scope slots (length st.slots) name ty (wrapped ty v) low (wrapped-in_range ty v) is.agree)) is1.callables is1.tidy);
  }

  abbrev assign_run : List ℕ → Expr → Numbers → Running
  assign_run name e before state = and_run (evaluated e state) (λ done. Ok (record done.1 { scope = rebound name (assigned done.0) done.1.scope }))

  abbrev assign_emits : List ℕ → Expr → Emitting
  assign_emits name e = taking (λ around at. wanted_code (type_in around name) (main_piece e) around at) (main_piece e).depth (λ around standing. store_code (bound_to name around.scope))

  abbrev assign_test : List ℕ → Expr → Test
  assign_test name e fs st = is_number (bound_to name st.scope) && fits e (around_at fs st)

  assign_does : (name : List ℕ) (e : Expr) → Does object functions judgements (assign_run name e) (assign_emits name e) (assign_test name e)
  assign_does name e st state before slots fit is holds room has =
      by_named (bound_to name st.scope) (name_set object name st.scope state.scope slots (length st.slots) is.agree)
      (and_left (is_number (bound_to name st.scope)) (fits e a) fit) has
    where
      a : Around
      a = around_at functions st

      by_named : (n : Option Named) → IsSet object n st.scope name state.scope slots (length st.slots) → is_number n ≡ true
          → HasAt object.main.instrs st.at (wanted_code (named_type n) (main_piece e) (around_at functions st) st.at ++ store_code n)
          → Runs object functions slots st.at [] state.world (st.at + length (wanted_code (named_type n) (main_piece e) (around_at functions st) st.at ++ store_code n)) st.scope (length st.slots)
          (and_run (evaluated e state) (λ done. Ok (record done.1 { scope = rebound name (assigned done.0) done.1.scope })))
      by_named (Some (Number slot ty)) set e1 has =
          let code : List Instr = wanted_code ty (main_piece e) (around_at functions st) st.at in
          let last : Instr = instr.Store slot in
          let low : slot < length slots = omega (arith, set.0, room) in
          runs_store object functions ty slots st.at state (st.at + length code) (st.at + length (code ++ last ∷ [])) slot st.scope (length st.slots)
          ((meaning_of e).value (main_names state) state.world) (λ v values. rebound name (assigned v) values)
          (wanted_value object functions judgements ty e st state before slots (and_right (is_number (bound_to name st.scope)) (fits e (around_at functions st)) fit) is st.at [] state.world (like_same state.world)
          (has_front object.main.instrs st.at code (last ∷ []) has))
          (has_back object.main.instrs st.at code (last ∷ []) has).0 (omega (arith, length-append code (last ∷ []))) low (λ v. set.1 v low) is.callables is.tidy
      by_named (Some (Whole container ty)) set e1 has = let no : ⊥ = cc in absurd no
      by_named (Some (Called made)) set e1 has = let no : ⊥ = cc in absurd no
      by_named None set e1 has = let no : ⊥ = cc in absurd no

  pub assign_follows : (name : List ℕ) (e : Expr) (line : ℕ)
      → IsFollowing (at_line (running_step judgements (what.Assign name e)) line) (judge_step (what.Assign name e) line)
  assign_follows name e line = record {
    keeps = keeps_same object functions judgements (judge_step (what.Assign name e) line) (λ st. omega arith) (λ st. refl) (λ st. omega arith) (λ st. refl) (λ st. refl);
    anywhere = λ e before other state. refl;
    does = counted_does object functions judgements line (assign_run name e) (assign_emits name e) (assign_test name e) (assign_does name e);
  }

  abbrev return_run : Expr → Numbers → Running
  return_run e before state = and_run (evaluated e state) (λ done. Err (record { ending = worlds.End; world = done.1.world }))

  abbrev return_emits : Expr → Emitting
  return_emits e = taking (main_piece e).code (main_piece e).depth (λ around standing. instr.Pop ∷ instr.Halt ∷ [])

  abbrev return_test : Expr → Test
  return_test e fs st = fits e (around_at fs st)

  return_does : (e : Expr) → Does object functions judgements (return_run e) (return_emits e) (return_test e)
  return_does e st state before slots fit is holds room has =
      let code : List Instr = (main_piece e).code (around_at functions st) st.at in
      let at1 : ℕ = st.at + length code in
      let last : List Instr = instr.Pop ∷ instr.Halt ∷ [] in
      let here = has_back object.main.instrs st.at code last has in
      runs_value object functions ((main_piece e).ty (around_at functions st)) slots st.at state at1 (st.at + length (code ++ last)) st.scope (length st.slots)
      ((meaning_of e).value (main_names state) state.world) (λ done. Err (record { ending = worlds.End; world = done.1.world }))
      (value_gives object functions judgements e st state before slots fit is st.at [] state.world (like_same state.world) (has_front object.main.instrs st.at code last has))
      (λ v world like range. (step object instr.Pop (stands at1 (v ∷ []) slots world) (stands (suc at1) [] slots world) here.0 refl).by _
      (last_step object instr.Halt (stands (suc at1) [] slots world) (Err (record { ending = worlds.End; world = world })) here.1.0 refl))

  pub return_follows : (e : Expr) (line : ℕ) → IsFollowing (at_line (running_step judgements (what.Return e)) line) (judge_step (what.Return e) line)
  return_follows e line = record {
    keeps = keeps_same object functions judgements (judge_step (what.Return e) line) (λ st. omega arith) (λ st. refl) (λ st. omega arith) (λ st. refl) (λ st. refl);
    anywhere = λ e before other state. refl;
    does = counted_does object functions judgements line (return_run e) (return_emits e) (return_test e) (return_does e);
  }

  -- ---- printing

  abbrev item_judged : Item → Judged
  item_judged item = judged_by (item_emitted item) false false (λ fs st. item_fits item (around_at fs st))

  item_follows : (item : Item) → IsFollowing (record { declares = none_declared; run = λ before. item_run item }) (item_judged item)
  item_follows (Value e) = record {
    keeps = keeps_same object functions judgements (item_judged (Value e)) (λ st. refl) (λ st. refl) (λ st. omega arith) (λ st. refl) (λ st. refl);
    anywhere = λ e before other state. refl;
    does = λ st state before slots fit is holds room has.
        let code : List Instr = (main_piece e).code (around_at functions st) st.at in
        let at1 : ℕ = st.at + length code in
        let last : List Instr = instr.Print ∷ [] in
        let to : ℕ = st.at + length (code ++ last) in
        runs_value object functions ((main_piece e).ty (around_at functions st)) slots st.at state at1 to st.scope (length st.slots)
        ((meaning_of e).value (main_names state) state.world) (λ done. Ok (record done.1 { world = print (signed_decimal done.0) done.1.world }))
        (value_gives object functions judgements e st state before slots fit is st.at [] state.world (like_same state.world) (has_front object.main.instrs st.at code last has))
        (λ v world like range.
        runs_one object functions slots at1 (v ∷ []) world (record state { world = print (signed_decimal v) world }) to st.scope (length st.slots) instr.Print
        (has_back object.main.instrs st.at code last has).0 (omega (arith, length-append code last)) refl is.agree is.callables (record { each = (tidy_like object state.world world like is.tidy).each }) (omega arith));
  }
  item_follows (Text text) = record {
    keeps = keeps_same object functions judgements (item_judged (Text text)) (λ st. refl) (λ st. refl) (λ st. omega arith) (λ st. refl) (λ st. refl);
    anywhere = λ e before other state. refl;
    does = λ st state before slots fit is holds room has.
        runs_one object functions slots st.at [] state.world (record state { world = print text state.world }) (st.at + 1) st.scope (length st.slots) (instr.Text text)
        has.0 (omega arith) refl is.agree is.callables (record { each = is.tidy.each }) (omega arith);
  }
  item_follows End = record {
    keeps = keeps_same object functions judgements (item_judged End) (λ st. refl) (λ st. refl) (λ st. omega arith) (λ st. refl) (λ st. refl);
    anywhere = λ e before other state. refl;
    does = λ st state before slots fit is holds room has.
        runs_one object functions slots st.at [] state.world (record state { world = print (10 ∷ []) state.world }) (st.at + 1) st.scope (length st.slots) instr.Endl
        has.0 (omega arith) refl is.agree is.callables (record { each = is.tidy.each }) (omega arith);
  }

  item_scope : (item : Item) (st : Standing) → (item_emitted item functions st).behind.scope ≡ st.scope
  item_scope (Value e) st = refl
  item_scope (Text text) st = refl
  item_scope End st = refl

  abbrev items_judged : List Item → Judged
  items_judged items = judged_by (all_emitted (map item_emitted items)) false false (λ fs st. items_fit items (around_at fs st))

  items_follow : (items : List Item) → IsFollowing (record { declares = none_declared; run = λ before. items_run items }) (items_judged items)
  items_follow [] = record {
    keeps = keeps_same object functions judgements (items_judged []) (λ st. refl) (λ st. refl) (λ st. omega arith) (λ st. refl) (λ st. refl);
    anywhere = λ e before other state. refl;
    does = λ st state before slots fit is holds room has. runs_nothing object functions slots st.at (st.at + 0) st.scope (length st.slots) state (omega arith) is.agree is.callables is.tidy;
  }
  items_follow (item ∷ items) =
      let p = pair_follows object functions judgements (record { declares = none_declared; run = λ before. item_run item }) (record { declares = none_declared; run = λ before. items_run items })
      (item_judged item) (items_judged items) (item_follows item) (items_follow items) in
      record {
        keeps = record {
          at = p.keeps.at;
          scope = p.keeps.scope;
          slots = p.keeps.slots;
          containers = p.keeps.containers;
          instances = p.keeps.instances;
          light = λ e. refl;
          step = λ e st. let no : ⊥ = cc in absurd no;
          plain = λ e st. let no : ⊥ = cc in absurd no;
        };
        anywhere = λ e before other state. refl;
        does = λ st state before slots fit is holds room has.
            p.does st state before slots
            (subst (λ (s : List (List ℕ × Named)). (item_fits item (around_at functions st) && items_fit items (record { functions = functions; scope = s })) ≡ true) (sym (item_scope item st)) fit) is holds room has;
      }

  pub print_follows : (items : List Item) (line : ℕ) → IsFollowing (at_line (running_step judgements (what.Print items)) line) (judge_step (what.Print items) line)
  print_follows items line =
      let f = items_follow items in
      record {
        keeps = record {
          at = λ st. omega (arith, f.keeps.at (behind_line st));
          scope = λ st. f.keeps.scope (behind_line st);
          slots = λ st. f.keeps.slots (behind_line st);
          containers = λ st. f.keeps.containers (behind_line st);
          instances = λ st. f.keeps.instances (behind_line st);
          light = λ e. refl;
          step = λ e st. let no : ⊥ = cc in absurd no;
          plain = λ e st. let no : ⊥ = cc in absurd no;
        };
        anywhere = λ e before other state. refl;
        does = counted_does object functions judgements line (λ before. items_run items) (all_emitted (map item_emitted items)) (λ fs st. items_fit items (around_at fs st)) f.does;
      }
