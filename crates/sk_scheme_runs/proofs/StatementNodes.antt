-- What the code of each kind of statement does, from what the code of its parts does.
use Rattle.std.proofs.Common.{◌≡◌, ℕ, suc, ◌+◌, ◌<◌, ◌≤◌, List, [], ◌∷◌, ◌++◌, length, ℤ, Option, Some, refl, sym, ap, ◌∙◌, subst, arith, append_assoc, length-append}
use Rattle.std.specs.Prelude.{slice_set, Ok, true, false, Bool, ◌&&◌}
use Rattle.std.specs.Option.{option_and_then}
use Rattle.sk_base.specs.declared.number.Ty.{Ty}
use Rattle.sk_base.specs.Arithmetic.{wrapped}
use Rattle.sk_base.specs.ArithmeticLaws.{wrapped-in_range}
use Rattle.sk_names.specs.Bindings.{bound_to}
use Rattle.sk_meaning.specs.Evaluation.{Callables, Scope, Going, Doing, and_then, in_block, in_sequence, left_behind, value_in, doing_step, kind_type, assigned, scalar_binding}
use Rattle.sk_meaning.specs.Expressions.{then_do}
use Rattle.sk_tree.specs.declared.tree.Expr.{Expr}
use Rattle.sk_tree.specs.declared.tree.ParamKind.TheVariants.{Scalar}
use Rattle.sk_tree.specs.declared.tree.What.TheOpen as what
use Rattle.sk_isa.specs.Coded.{Routine}
use Rattle.sk_scheme.specs.Pieces.{wanted_code, narrowed}
use Rattle.sk_scheme.specs.Scheme.{Slot, Around, Compiled, compiled_of, Within, Standing, Emitted, Emitting, around_in, behind, joined, all_emitted, block_emitted, assigned_code, emitting_step}
use Rattle.sk_isa.specs.declared.code.Instr.{Instr}
use Rattle.sk_isa.specs.declared.code.Instr.TheVariants as instr
use Rattle.sk_plain.specs.Plain.{Parameters, NamedKinds, is_plain_expression, is_scalar_name, Plainness, plainness_step, plainness_if, behind_if, all_behind, block_is_plain}
use Rattle.sk_scheme_runs.proofs.Runs.{HasAt, has_front, has_back, leads_same, Gives}
use Rattle.sk_scheme_runs.proofs.ExpressionNodes.{wanted_gives}
use Rattle.sk_plain.proofs.Bindings.{names_of}
use Rattle.sk_plain.proofs.Slots.{scalar_slot}
use Rattle.sk_scheme_runs.proofs.Agreement.{Agree, name_bound, agree_declare, agree_behind, agree_length}
use Rattle.sk_plain.proofs.Truths.{and_left, and_right, is_some_is, and_then_is}
use Rattle.sk_plain.proofs.PlainParts.{behind_if_is}
use Rattle.sk_scheme.proofs.Declared.{assigned_scope, assigned_slots}
use Rattle.sk_scheme_runs.proofs.ExpressionRuns.{IsRun}
use Rattle.sk_scheme_runs.proofs.Flows.{Runs, runs_before, runs_then, runs_nothing, runs_store, runs_return}

module _ (routine : Routine) (parameters : Parameters) (within : Within) (callables : Callables) where
  -- what the names in scope and the slots are behind a statement
  pub record Keeps (emitting : Emitting) (judged : Plainness) : Type 0 where
    pub names : (st : Standing) (after : NamedKinds) → judged.behind parameters (names_of st.scope) ≡ Some after → after ≡ names_of (emitting within st).scope
    pub grows : (st : Standing) → (new : List (List ℕ × Slot)) × ((emitting within st).scope ≡ new ++ st.scope)
    pub slots : (st : Standing) → length st.slots ≤ length (emitting within st).slots
    pub assigns : judged.assigns ≡ true → (st : Standing) → (emitting within st).scope ≡ st.scope

  -- a statement's code does what the statement does where it is plain
  pub record Follows (doing : Doing) (emitting : Emitting) (judged : Plainness) : Type 0 where
    pub keeps : Keeps emitting judged
    pub runs : (st : Standing) (values : Scope) (slots : List ℤ) (turns : ℕ) (after : NamedKinds) → judged.behind parameters (names_of st.scope) ≡ Some after
        → Agree routine.arguments st.scope values slots (length st.slots) → length (emitting within st).slots ≤ length slots → HasAt routine.instrs st.at (emitting within st).code
        → Runs routine within.ret slots st.at [] turns (st.at + length (emitting within st).code) (emitting within st).scope (length (emitting within st).slots) (doing callables values turns)

  -- code that declares nothing
  pub same_scope : (judged : Plainness) (test : Parameters → NamedKinds → Bool) (emitting : Emitting) → judged.behind ≡ (λ parameters names. behind_if (test parameters names) names)
      → ((st : Standing) → (emitting within st).scope ≡ st.scope) → ((st : Standing) → length st.slots ≤ length (emitting within st).slots) → Keeps emitting judged
  same_scope judged test emitting behind_is scope_is slots_are = record {
    names = λ st after e.
        let e' = sym (ap (λ (b : Parameters → NamedKinds → Option NamedKinds). b parameters (names_of st.scope)) behind_is) ∙ e in
        sym (behind_if_is (test parameters (names_of st.scope)) (names_of st.scope) after e').1 ∙ sym (ap names_of (scope_is st));
    grows = λ st. ([], scope_is st);
    slots = slots_are;
    assigns = λ e st. scope_is st;
  }

  -- statements one after another
  pub pair_follows : (d1 d2 : Doing) (e1 e2 : Emitting) (j1 j2 : Plainness) → Follows d1 e1 j1 → Follows d2 e2 j2
      → Follows (λ callables scope turns. and_then (d1 callables scope turns) (λ scope turns. d2 callables scope turns))
      (λ within st. joined (e1 within st) (e2 within (behind st (e1 within st))))
      (record { behind = λ parameters names. option_and_then (λ inner. j2.behind parameters inner) (j1.behind parameters names); assigns = false; declares = false })
  pair_follows d1 d2 e1 e2 j1 j2 f1 f2 = record {
    keeps = record {
      names = λ st after e.
          let p = and_then_is (λ inner. j2.behind parameters inner) (j1.behind parameters (names_of st.scope)) after e in
          f2.keeps.names (behind st (e1 within st)) after (ap (j2.behind parameters) (sym (f1.keeps.names st p.0 p.1)) ∙ p.2);
      grows = λ st.
          let a = f1.keeps.grows st in
          let b = f2.keeps.grows (behind st (e1 within st)) in
          (b.0 ++ a.0, b.1 ∙ ap (λ l. b.0 ++ l) a.1 ∙ sym (append_assoc b.0 a.0 st.scope));
      slots = λ st. omega (arith, f1.keeps.slots st, f2.keeps.slots (behind st (e1 within st)));
      assigns = λ e st. let no : ⊥ = cc in absurd no;
    };
    runs = λ st values slots turns after e agree room has.
        let one : Emitted = e1 within st in
        let st2 : Standing = behind st one in
        let two : Emitted = e2 within st2 in
        let p = and_then_is (λ inner. j2.behind parameters inner) (j1.behind parameters (names_of st.scope)) after e in
        let plain2 : j2.behind parameters (names_of one.scope) ≡ Some after = ap (j2.behind parameters) (sym (f1.keeps.names st p.0 p.1)) ∙ p.2 in
        let more = f2.keeps.slots st2 in
        let to : ℕ = st.at + length (one.code ++ two.code) in
        let len : st2.at + length two.code ≡ to = omega (arith, length-append one.code two.code) in
        runs_then routine within.ret slots st.at [] turns st2.at to one.scope two.scope (length one.slots) (length two.slots) (d1 callables values turns) (λ scope turns. d2 callables scope turns)
        (f1.runs st values slots turns p.0 p.1 agree (omega (arith, more, room)) (has_front routine.instrs st.at one.code two.code has))
        (λ values2 after2 left fewer size agree2.
        runs_before routine within.ret after2 st2.at [] left (st2.at + length two.code) to two.scope (length two.slots) (length two.slots) (d2 callables values2 left) (omega arith)
        (λ a l. leads_same routine (st2.at + length two.code) to [] a l len)
        (f2.runs st2 values2 after2 left after plain2 agree2 (omega (arith, room, size)) (has_back routine.instrs st.at one.code two.code has)));
  }

  -- no statement
  pub none_follows : Follows (in_sequence []) (all_emitted []) (record { behind = all_behind []; assigns = false; declares = false })
  none_follows = record {
    keeps = record {
      names = λ st after e. let same : names_of st.scope ≡ after = cc in sym same;
      grows = λ st. ([], refl);
      slots = λ st. omega arith;
      assigns = λ e st. refl;
    };
    runs = λ st values slots turns after e agree room has. runs_nothing routine within.ret slots st.at turns (st.at + 0) st.scope (length st.slots) values (omega arith) agree;
  }

  -- a block, whose names end with it
  pub block_follows : (ds : List Doing) (es : List Emitting) (js : List Plainness) → Follows (in_sequence ds) (all_emitted es) (record { behind = all_behind js; assigns = false; declares = false })
      → Follows (in_block ds) (block_emitted es) (plainness_if (block_is_plain js))
  block_follows ds es js f = record {
    keeps = same_scope (plainness_if (block_is_plain js)) (block_is_plain js) (block_emitted es) refl (λ st. refl) (λ st. f.keeps.slots st);
    runs = λ st values slots turns after e agree room has.
        let all : Emitted = all_emitted es within st in
        let plain = is_some_is (all_behind js parameters (names_of st.scope)) (behind_if_is (block_is_plain js parameters (names_of st.scope)) (names_of st.scope) after e).0 in
        let to : ℕ = st.at + length all.code in
        let g = f.keeps.grows st in
        runs_then routine within.ret slots st.at [] turns to to all.scope st.scope (length all.slots) (length all.slots) (in_sequence ds callables values turns)
        (λ inner turns. Ok (Going (left_behind values inner), turns))
        (f.runs st values slots turns plain.0 plain.1 agree room has)
        (λ inner after2 left fewer size agree2.
        runs_nothing routine within.ret after2 to left to st.scope (length all.slots) (left_behind values inner) refl
        (agree_behind routine.arguments g.0 st.scope inner values after2 (length all.slots) (agree_length routine.arguments st.scope values slots (length st.slots) agree)
        (subst (λ (s : List (List ℕ × Slot)). Agree routine.arguments s inner after2 (length all.slots)) g.1 agree2)));
  }

  abbrev IsRunning : Expr → Type 0
  IsRunning e = IsRun routine parameters within.functions callables e

  -- an expression's code in a statement
  pub expression_gives : (e : Expr) → IsRunning e → (st : Standing) (values : Scope) (slots : List ℤ) (turns : ℕ) → is_plain_expression e parameters (names_of st.scope) ≡ true
      → Agree routine.arguments st.scope values slots (length st.slots) → HasAt routine.instrs st.at ((compiled_of e).code (around_in within st) st.at)
      → Gives routine ((compiled_of e).ty (around_in within st)) slots st.at [] turns (st.at + length ((compiled_of e).code (around_in within st) st.at)) [] (value_in e callables values turns)
  expression_gives e is st values slots turns plain agree has =
      is.gives (record { scope = st.scope; values = values; slots = slots; bound = length st.slots; agree = agree }) plain st.at [] turns has

  -- the same where a value of a type is wanted
  wanted_value : (ty : Ty) (e : Expr) → IsRunning e → (st : Standing) (values : Scope) (slots : List ℤ) (turns : ℕ) (last : Instr) → is_plain_expression e parameters (names_of st.scope) ≡ true
      → Agree routine.arguments st.scope values slots (length st.slots) → HasAt routine.instrs st.at (wanted_code ty (compiled_of e) (around_in within st) st.at ++ last ∷ [])
      → Gives routine ty slots st.at [] turns (st.at + length (wanted_code ty (compiled_of e) (around_in within st) st.at)) [] (then_do (value_in e callables values turns) (λ a s. Ok (wrapped ty a, s)))
  wanted_value ty e is st values slots turns last plain agree has =
      let a : Around = around_in within st in
      let c : Compiled = compiled_of e in
      let has1 = has_front routine.instrs st.at (wanted_code ty c a st.at) (last ∷ []) has in
      wanted_gives routine ty (c.ty a) (c.code a st.at) slots st.at [] turns (value_in e callables values turns) has1
      (expression_gives e is st values slots turns plain agree (has_front routine.instrs st.at (c.code a st.at) (narrowed ty (c.ty a)) has1))

  pub declare_follows : (ty : Ty) (name : List ℕ) (e : Expr) → IsRunning e
      → Follows (doing_step (what.Declare ty name e)) (emitting_step (what.Declare ty name e)) (plainness_step (what.Declare ty name e))
  declare_follows ty name e is = record {
    keeps = record {
      names = λ st after h. sym (behind_if_is (is_plain_expression e parameters (names_of st.scope)) ((name, Scalar ty) ∷ names_of st.scope) after h).1;
      grows = λ st. ((name, record { number = length st.slots; kind = Scalar ty }) ∷ [], refl);
      slots = λ st. omega (arith, length-append st.slots (Scalar ty ∷ []));
      assigns = λ h st. let no : ⊥ = cc in absurd no;
    };
    runs = λ st values slots turns after h agree room has.
        let plain = (behind_if_is (is_plain_expression e parameters (names_of st.scope)) ((name, Scalar ty) ∷ names_of st.scope) after h).0 in
        let code : List Instr = wanted_code ty (compiled_of e) (around_in within st) st.at in
        let last : Instr = instr.Store (length st.slots) in
        let more : length (st.slots ++ Scalar ty ∷ []) ≡ suc (length st.slots) = omega (arith, length-append st.slots (Scalar ty ∷ [])) in
        let within_slots : length st.slots < length slots = omega (arith, more, room) in
        let here = (has_back routine.instrs st.at code (last ∷ []) has).0 in
        let end : ℕ = st.at + length (code ++ last ∷ []) in
        runs_store routine within.ret ty slots st.at turns (st.at + length code) end (length st.slots) _ (length (st.slots ++ Scalar ty ∷ []))
        (value_in e callables values turns) (λ v. (name, scalar_binding ty v) ∷ values)
        (wanted_value ty e is st values slots turns last plain agree has) here (omega (arith, length-append code (last ∷ []))) within_slots
        (λ v. subst (λ n. Agree routine.arguments ((name, record { number = length st.slots; kind = Scalar ty }) ∷ st.scope) ((name, scalar_binding ty v) ∷ values) (slice_set slots (length st.slots) (wrapped ty v)) n) (sym more)
        (agree_declare routine.arguments st.scope values slots (length st.slots) name ty (wrapped ty v) within_slots (wrapped-in_range ty v) agree));
  }

  pub return_follows : (e : Expr) → IsRunning e → Follows (doing_step (what.Return e)) (emitting_step (what.Return e)) (plainness_step (what.Return e))
  return_follows e is = record {
    keeps = same_scope (plainness_step (what.Return e)) (is_plain_expression e) (emitting_step (what.Return e)) refl (λ st. refl) (λ st. omega arith);
    runs = λ st values slots turns after h agree room has.
        let plain = (behind_if_is (is_plain_expression e parameters (names_of st.scope)) (names_of st.scope) after h).0 in
        let code : List Instr = wanted_code within.ret (compiled_of e) (around_in within st) st.at in
        let here = (has_back routine.instrs st.at code (instr.Ret ∷ []) has).0 in
        runs_return routine within.ret slots st.at turns (st.at + length code) (st.at + length (code ++ instr.Ret ∷ [])) st.scope (length st.slots) (value_in e callables values turns)
        (wanted_value within.ret e is st values slots turns instr.Ret plain agree has) here;
  }

  pub assign_follows : (name : List ℕ) (e : Expr) → IsRunning e → Follows (doing_step (what.Assign name e)) (emitting_step (what.Assign name e)) (plainness_step (what.Assign name e))
  assign_follows name e is = record {
    keeps = same_scope (plainness_step (what.Assign name e)) (λ parameters names. is_scalar_name name names && is_plain_expression e parameters names) (emitting_step (what.Assign name e)) refl
        (λ st. assigned_scope (bound_to name st.scope) (compiled_of e) within st)
        (λ st. omega (arith, ap length (assigned_slots (bound_to name st.scope) (compiled_of e) within st)));
    runs = λ st values slots turns after h agree room has. stores st values slots turns agree
        (behind_if_is (is_scalar_name name (names_of st.scope) && is_plain_expression e parameters (names_of st.scope)) (names_of st.scope) after h).0 room has;
  }
    where
      stores : (st : Standing) (values : Scope) (slots : List ℤ) (turns : ℕ) → Agree routine.arguments st.scope values slots (length st.slots)
          → (is_scalar_name name (names_of st.scope) && is_plain_expression e parameters (names_of st.scope)) ≡ true
          → length (assigned_code (bound_to name st.scope) (compiled_of e) within st).slots ≤ length slots
          → HasAt routine.instrs st.at (assigned_code (bound_to name st.scope) (compiled_of e) within st).code
          → Runs routine within.ret slots st.at [] turns (st.at + length (assigned_code (bound_to name st.scope) (compiled_of e) within st).code)
          (assigned_code (bound_to name st.scope) (compiled_of e) within st).scope (length (assigned_code (bound_to name st.scope) (compiled_of e) within st).slots)
          (doing_step (what.Assign name e) callables values turns)
      stores st values slots turns agree fine =
          let among = and_left (is_scalar_name name (names_of st.scope)) (is_plain_expression e parameters (names_of st.scope)) fine in
          let plain = and_right (is_scalar_name name (names_of st.scope)) (is_plain_expression e parameters (names_of st.scope)) fine in
          let b = scalar_slot name st.scope among in
          let local = name_bound routine.arguments name b.slot st.scope values slots (length st.slots) agree b.is in
          let ty : Ty = kind_type b.slot.kind in
          let ty_is : b.ty ≡ ty = sym (ap kind_type b.kind) in
          let code : List Instr = wanted_code ty (compiled_of e) (around_in within st) st.at in
          let last : Instr = instr.Store b.slot.number in
          let end : ℕ = st.at + length (code ++ last ∷ []) in
          subst (λ (o : Option Slot). length (assigned_code o (compiled_of e) within st).slots ≤ length slots → HasAt routine.instrs st.at (assigned_code o (compiled_of e) within st).code
          → Runs routine within.ret slots st.at [] turns (st.at + length (assigned_code o (compiled_of e) within st).code)
          (assigned_code o (compiled_of e) within st).scope (length (assigned_code o (compiled_of e) within st).slots) (doing_step (what.Assign name e) callables values turns)) (sym b.is)
          (λ room has.
          let within_slots : b.slot.number < length slots = omega (arith, local.below, room) in
          let here = (has_back routine.instrs st.at code (last ∷ []) has).0 in
          runs_store routine within.ret ty slots st.at turns (st.at + length code) end b.slot.number st.scope (length st.slots)
          (value_in e callables values turns) (λ v. assigned name v values)
          (wanted_value ty e is st values slots turns last plain agree has) here (omega (arith, length-append code (last ∷ []))) within_slots
          (λ v. subst (λ (t : Ty). Agree routine.arguments st.scope (assigned name v values) (slice_set slots b.slot.number (wrapped t v)) (length st.slots)) ty_is (local.set b.ty b.kind v within_slots)))
