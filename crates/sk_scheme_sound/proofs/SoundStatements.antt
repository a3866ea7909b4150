-- The code of each kind of statement is sound, where that of its parts is.
use Rattle.std.proofs.Common.{◌≡◌, ℕ, suc, ◌+◌, ◌≤◌, List, [], ◌∷◌, ◌++◌, length, Option, Some, refl, sym, ap, ◌∙◌, subst, arith}
use Rattle.std.specs.Prelude.{true, false, Bool, ◌&&◌, ◌||◌}
use Rattle.std.specs.Option.{option_and_then}
use Rattle.sk_base.specs.declared.number.Ty.{Ty}
use Rattle.sk_names.specs.Bindings.{bound_to}
use Rattle.sk_meaning.specs.Evaluation.{kind_type}
use Rattle.sk_tree.specs.declared.tree.Expr.{Expr}
use Rattle.sk_tree.specs.declared.tree.ParamKind.{ParamKind}
use Rattle.sk_tree.specs.declared.tree.ParamKind.TheVariants.{Scalar}
use Rattle.sk_tree.specs.declared.tree.What.TheOpen as what
use Rattle.sk_scheme.specs.Pieces.{wanted_code}
use Rattle.sk_scheme.specs.Scheme.{Slot, Compiled, compiled_of, Within, Standing, Emitted, Emitting, around_in, behind, joined, only_code, all_emitted, block_emitted, assigned_code, if_emitted, if_else_emitted, loop_emitted, emitting_step}
use Rattle.sk_isa.specs.Soundness.{Named}
use Rattle.sk_isa.specs.declared.code.Instr.{Instr}
use Rattle.sk_plain.specs.Plain.{Parameters, NamedKinds, is_plain_expression, is_scalar_name, Plainness, plainness_step, plainness_if, all_behind, block_is_plain, loop_is_plain}
use Rattle.sk_plain.proofs.Truths.{and_left, and_right, is_some_is, and_then_is}
use Rattle.sk_plain.proofs.Lists.{slice_get-seam}
use Rattle.sk_plain.proofs.PlainParts.{behind_if_is, plain_block, if_parts, IsLoop, for_parts}
use Rattle.sk_scheme.proofs.Declared.{assigned_scope, assigned_slots}
use Rattle.sk_plain.proofs.Bindings.{names_of}
use Rattle.sk_plain.proofs.Slots.{scalar_slot}
use Rattle.sk_plain.proofs.Parts.{moved}
use Rattle.sk_scheme_sound.proofs.SoundScopes.{InScope, HasSlot, IsGrown, grown_none, grown_one, grown_on, slot_there, scope_grown, slot_grown, AreCallees}
use Rattle.sk_scheme_sound.proofs.SoundValues.{Piece}
use Rattle.sk_scheme_sound.proofs.SoundExpressions.{IsSound, wanted_value, expression_sound}
use Rattle.sk_scheme_sound.proofs.SoundParts.{Part, exit_of, part_at, going_part, nothing_part, store_part, return_part, then_part, if_part, if_else_part, loop_part}

module _ (named : Named) (depth : ℕ) (parameters : Parameters) (within : Within) (callees : AreCallees named.signatures named.function parameters within.functions) (ret_is : within.ret ≡ named.own.ret) where
  abbrev Own : List ParamKind
  Own = named.own.slots

  -- a statement's code is sound where it is plain
  pub record IsStatement (emitting : Emitting) (judged : Plainness) (returns : Bool) : Type 0 where
    pub names : (st : Standing) (after : NamedKinds) → judged.behind parameters (names_of st.scope) ≡ Some after → after ≡ names_of (emitting within st).scope
    pub grown : (st : Standing) → IsGrown st.slots (emitting within st).slots
    pub scoped : (st : Standing) → InScope named.own.params st.slots st.scope → InScope named.own.params (emitting within st).slots (emitting within st).scope
    pub part : (st : Standing) (after : NamedKinds) → judged.behind parameters (names_of st.scope) ≡ Some after → InScope named.own.params st.slots st.scope
        → IsGrown (emitting within st).slots Own → (emitting within st).depth ≤ depth
        → Part named depth st.at (emitting within st).code (st.at + length (emitting within st).code) (exit_of returns)

  -- an expression's code in a statement
  abbrev code_at : Expr → Standing → List Instr
  code_at e st = (compiled_of e).code (around_in within st) st.at

  -- the code of an expression, before which the stack is empty
  record IsAt (e : Expr) (st : Standing) : Type 0 where
    high : 1 ≤ depth
    piece : Piece named depth st.at (code_at e st) (st.at + length (code_at e st)) (Some []) (Some ((compiled_of e).ty (around_in within st) ∷ []))
    wanted : (ty : Ty) → Piece named depth st.at (wanted_code ty (compiled_of e) (around_in within st) st.at) (st.at + length (wanted_code ty (compiled_of e) (around_in within st) st.at)) (Some []) (Some (ty ∷ []))

  expression_at : (e : Expr) (st : Standing) → InScope named.own.params st.slots st.scope → IsGrown st.slots Own → is_plain_expression e parameters (names_of st.scope) ≡ true → (compiled_of e).depth (around_in within st) ≤ depth → IsAt e st
  expression_at e st scoped grown plain low =
      let is : IsSound named depth parameters within.functions e = expression_sound named depth parameters within.functions callees e in
      let own = scope_grown named.own.params st.slots Own st.scope grown scoped in
      let high = is.high st.scope own plain in
      record {
        high = omega (arith, high, low);
        piece = is.piece st.scope own plain st.at [] (omega (arith, low));
        wanted = λ ty. wanted_value named depth parameters within.functions ty (compiled_of e) (is_plain_expression e) is st.scope own plain st.at [] (omega (arith, low));
      }

  pub declare_statement : (ty : Ty) (name : List ℕ) (e : Expr) → IsStatement (emitting_step (what.Declare ty name e)) (plainness_step (what.Declare ty name e)) false
  declare_statement ty name e = record {
    names = λ st after h. sym (behind_if_is (is_plain_expression e parameters (names_of st.scope)) ((name, Scalar ty) ∷ names_of st.scope) after h).1;
    grown = λ st. grown_one st.slots ty;
    scoped = λ st h. (own_slot st, scope_grown named.own.params st.slots (st.slots ++ Scalar ty ∷ []) st.scope (grown_one st.slots ty) h);
    part = λ st after h scoped grown low.
        let plain = (behind_if_is (is_plain_expression e parameters (names_of st.scope)) ((name, Scalar ty) ∷ names_of st.scope) after h).0 in
        let at = expression_at e st scoped (grown_on st.slots (st.slots ++ Scalar ty ∷ []) Own (grown_one st.slots ty) grown) plain low in
        let code : List Instr = wanted_code ty (compiled_of e) (around_in within st) st.at in
        store_part named depth (slot_in st) ty st.at (st.at + length code) code refl (slot_grown named.own.params (st.slots ++ Scalar ty ∷ []) Own (slot_in st) grown (own_slot st)) at.high (at.wanted ty);
  }
    where
      slot_in : Standing → Slot
      slot_in st = record { number = length st.slots; kind = Scalar ty }

      own_slot : (st : Standing) → HasSlot named.own.params (st.slots ++ Scalar ty ∷ []) (slot_in st)
      own_slot st = record { there = slice_get-seam st.slots (Scalar ty) []; param = λ e. let no : ⊥ = cc in absurd no }

  pub assign_statement : (name : List ℕ) (e : Expr) → IsStatement (emitting_step (what.Assign name e)) (plainness_step (what.Assign name e)) false
  assign_statement name e = record {
    names = λ st after h.
        let c = compiled_of e in
        sym (behind_if_is (is_scalar_name name (names_of st.scope) && is_plain_expression e parameters (names_of st.scope)) (names_of st.scope) after h).1
        ∙ sym (ap names_of (assigned_scope (bound_to name st.scope) c within st));
    grown = λ st. subst (λ (l : List ParamKind). IsGrown st.slots l) (sym (assigned_slots (bound_to name st.scope) (compiled_of e) within st)) (grown_none st.slots);
    scoped = λ st h.
        let o = bound_to name st.scope in
        let c = compiled_of e in
        subst (λ (l : List ParamKind). InScope named.own.params l (assigned_code o c within st).scope) (sym (assigned_slots o c within st))
        (subst (λ (s : List (List ℕ × Slot)). InScope named.own.params st.slots s) (sym (assigned_scope o c within st)) h);
    part = λ st after h scoped grown low.
        let c : Compiled = compiled_of e in
        let o = bound_to name st.scope in
        let names = names_of st.scope in
        let both = (behind_if_is (is_scalar_name name names && is_plain_expression e parameters names) names after h).0 in
        let among = and_left (is_scalar_name name names) (is_plain_expression e parameters names) both in
        let plain = and_right (is_scalar_name name names) (is_plain_expression e parameters names) both in
        let b = scalar_slot name st.scope among in
        let has = slot_there named.own.params st.slots name b.slot st.scope scoped b.is in
        let grown' : IsGrown st.slots Own = subst (λ (l : List ParamKind). IsGrown l Own) (assigned_slots o c within st) grown in
        let low' : c.depth (around_in within st) ≤ depth = subst (λ (o : Option Slot). (assigned_code o c within st).depth ≤ depth) b.is low in
        let at = expression_at e st scoped grown' plain low' in
        let code : List Instr = wanted_code (kind_type b.slot.kind) c (around_in within st) st.at in
        subst (λ (o : Option Slot). Part named depth st.at (assigned_code o c within st).code (st.at + length (assigned_code o c within st).code) (Some [])) (sym b.is)
        (store_part named depth b.slot b.ty st.at (st.at + length code) code b.kind (slot_grown named.own.params st.slots Own b.slot grown' has) at.high (at.wanted (kind_type b.slot.kind)));
  }

  pub return_statement : (e : Expr) → IsStatement (emitting_step (what.Return e)) (plainness_step (what.Return e)) true
  return_statement e = record {
    names = λ st after h. sym (behind_if_is (is_plain_expression e parameters (names_of st.scope)) (names_of st.scope) after h).1;
    grown = λ st. grown_none st.slots;
    scoped = λ st h. h;
    part = λ st after h scoped grown low.
        let plain = (behind_if_is (is_plain_expression e parameters (names_of st.scope)) (names_of st.scope) after h).0 in
        let at = expression_at e st scoped grown plain low in
        let code : List Instr = wanted_code within.ret (compiled_of e) (around_in within st) st.at in
        return_part named depth st.at (st.at + length code) code at.high
        (subst (λ (ty : Ty). Piece named depth st.at code (st.at + length code) (Some []) (Some (ty ∷ []))) ret_is (at.wanted within.ret));
  }

  pub never_statement : (returns : Bool) → IsStatement (λ within st. only_code st [] 0) (plainness_if (λ parameters names. false)) returns
  never_statement returns = record {
    names = λ st after h. let no : ⊥ = cc in absurd no;
    grown = λ st. grown_none st.slots;
    scoped = λ st h. h;
    part = λ st after h scoped grown low. let no : ⊥ = cc in absurd no;
  }

  pub none_statement : IsStatement (all_emitted []) (record { behind = all_behind []; assigns = false; declares = false }) false
  none_statement = record {
    names = λ st after h. let same : names_of st.scope ≡ after = cc in sym same;
    grown = λ st. grown_none st.slots;
    scoped = λ st h. h;
    part = λ st after h scoped grown low. nothing_part named depth st.at;
  }

  -- statements one after another
  pub pair_statement : (e1 e2 : Emitting) (j1 j2 : Plainness) (r1 r2 : Bool) → IsStatement e1 j1 r1 → IsStatement e2 j2 r2
      → IsStatement (λ within st. joined (e1 within st) (e2 within (behind st (e1 within st))))
      (record { behind = λ parameters names. option_and_then (λ inner. j2.behind parameters inner) (j1.behind parameters names); assigns = false; declares = false }) (r1 || r2)
  pair_statement e1 e2 j1 j2 r1 r2 f g = record {
    names = λ st after e.
        let p = and_then_is (λ inner. j2.behind parameters inner) (j1.behind parameters (names_of st.scope)) after e in
        g.names (behind st (e1 within st)) after (ap (j2.behind parameters) (sym (f.names st p.0 p.1)) ∙ p.2);
    grown = λ st. grown_on st.slots (e1 within st).slots (e2 within (behind st (e1 within st))).slots (f.grown st) (g.grown (behind st (e1 within st)));
    scoped = λ st h. g.scoped (behind st (e1 within st)) (f.scoped st h);
    part = λ st after e scoped grown low.
        let one : Emitted = e1 within st in
        let st2 : Standing = behind st one in
        let two : Emitted = e2 within st2 in
        let p = and_then_is (λ inner. j2.behind parameters inner) (j1.behind parameters (names_of st.scope)) after e in
        let plain2 : j2.behind parameters (names_of one.scope) ≡ Some after = ap (j2.behind parameters) (sym (f.names st p.0 p.1)) ∙ p.2 in
        let fine1 = f.part st p.0 p.1 scoped (grown_on one.slots two.slots Own (g.grown st2) grown) (omega (arith, low)) in
        let fine2 = g.part st2 after plain2 (f.scoped st scoped) grown (omega (arith, low)) in
        then_part named depth r1 r2 st.at st2.at (st2.at + length two.code) one.code two.code fine1 fine2;
  }

  abbrev pub IsBlock : List Emitting → List Plainness → Bool → Type 0
  IsBlock es js returns = IsStatement (block_emitted es) (plainness_if (block_is_plain js)) returns

  -- a block, whose names end with it
  pub block_statement : (es : List Emitting) (js : List Plainness) (returns : Bool) → IsStatement (all_emitted es) (record { behind = all_behind js; assigns = false; declares = false }) returns → IsBlock es js returns
  block_statement es js returns f = record {
    names = λ st after e. sym (behind_if_is (block_is_plain js parameters (names_of st.scope)) (names_of st.scope) after e).1;
    grown = λ st. f.grown st;
    scoped = λ st h. scope_grown named.own.params st.slots (all_emitted es within st).slots st.scope (f.grown st) h;
    part = λ st after e scoped grown low.
        let plain = is_some_is (all_behind js parameters (names_of st.scope)) (behind_if_is (block_is_plain js parameters (names_of st.scope)) (names_of st.scope) after e).0 in
        f.part st plain.0 plain.1 scoped grown low;
  }

  pub if_statement : (test : Expr) (es : List Emitting) (js : List Plainness) (returns : Bool) → IsBlock es js returns → IsStatement (if_emitted (compiled_of test) es) (plainness_step (what.If test js [])) false
  if_statement test es js returns f = record {
    names = λ st after h. sym (behind_if_is (is_plain_expression test parameters (names_of st.scope) && block_is_plain js parameters (names_of st.scope) && block_is_plain [] parameters (names_of st.scope)) (names_of st.scope) after h).1;
    grown = λ st. f.grown (inside st);
    scoped = λ st h. scope_grown named.own.params st.slots (block_emitted es within (inside st)).slots st.scope (f.grown (inside st)) h;
    part = λ st after h scoped grown low.
        let names = names_of st.scope in
        let plain = if_parts parameters test js [] names after h in
        let first : List Instr = code_at test st in
        let p : ℕ = st.at + length first in
        let st1 : Standing = moved st (p + 1) st.slots in
        let inner : Emitted = block_emitted es within st1 in
        let end : ℕ = p + 1 + length inner.code in
        let at = expression_at test st scoped (grown_on st.slots inner.slots Own (f.grown st1) grown) plain.test_plain (omega (arith, low)) in
        let body = going_part named depth (p + 1) end inner.code returns (f.part st1 names (plain_block parameters js names plain.body_plain) scoped grown (omega (arith, low))) in
        if_part named depth ((compiled_of test).ty (around_in within st)) st.at p end end first inner.code at.high at.piece
        (part_at named depth (p + 1) (suc p) end inner.code (Some []) (omega arith) body) refl;
  }
    where
      inside : Standing → Standing
      inside st = record { at = st.at + length (code_at test st) + 1; scope = st.scope; slots = st.slots }

  pub if_else_statement : (test : Expr) (es es2 : List Emitting) (js js2 : List Plainness) (r1 r2 : Bool) → IsBlock es js r1 → IsBlock es2 js2 r2
      → IsStatement (if_else_emitted (compiled_of test) es es2) (plainness_step (what.If test js js2)) (r1 && r2)
  if_else_statement test es es2 js js2 r1 r2 f g = record {
    names = λ st after h. sym (behind_if_is (is_plain_expression test parameters (names_of st.scope) && block_is_plain js parameters (names_of st.scope) && block_is_plain js2 parameters (names_of st.scope)) (names_of st.scope) after h).1;
    grown = λ st. all_grown st;
    scoped = λ st h. scope_grown named.own.params st.slots (if_else_emitted (compiled_of test) es es2 within st).slots st.scope (all_grown st) h;
    part = λ st after h scoped grown low.
        let names = names_of st.scope in
        let plain = if_parts parameters test js js2 names after h in
        let first : List Instr = code_at test st in
        let p : ℕ = st.at + length first in
        let st1 : Standing = moved st (p + 1) st.slots in
        let inner : Emitted = block_emitted es within st1 in
        let q : ℕ = p + 1 + length inner.code in
        let third : ℕ = p + length inner.code + 2 in
        let st2 : Standing = moved st third inner.slots in
        let last : Emitted = block_emitted es2 within st2 in
        let end : ℕ = third + length last.code in
        let grown1 = grown_on inner.slots last.slots Own (g.grown st2) grown in
        let at = expression_at test st scoped (grown_on st.slots inner.slots Own (f.grown st1) grown1) plain.test_plain (omega (arith, low)) in
        let body = f.part st1 names (plain_block parameters js names plain.body_plain) scoped grown1 (omega (arith, low)) in
        let other = g.part st2 names (plain_block parameters js2 names plain.other_plain) (scope_grown named.own.params st.slots inner.slots st.scope (f.grown st1) scoped) grown (omega (arith, low)) in
        if_else_part named depth r1 r2 ((compiled_of test).ty (around_in within st)) st.at p q third end end first inner.code last.code at.high at.piece
        (part_at named depth (p + 1) (suc p) q inner.code (exit_of r1) (omega arith) body)
        (part_at named depth third (suc q) end last.code (exit_of r2) (omega arith) other) (omega arith) refl;
  }
    where
      all_grown : (st : Standing) → IsGrown st.slots (if_else_emitted (compiled_of test) es es2 within st).slots
      all_grown st =
          let p : ℕ = st.at + length (code_at test st) in
          let st1 : Standing = moved st (p + 1) st.slots in
          let inner : Emitted = block_emitted es within st1 in
          let st2 : Standing = moved st (p + length inner.code + 2) inner.slots in
          grown_on st.slots inner.slots (block_emitted es2 within st2).slots (f.grown st1) (g.grown st2)

  loop_slots : (test : Expr) (es : List Emitting) (js : List Plainness) (emits : Emitting) (judged : Plainness) (r1 r2 : Bool) → IsBlock es js r1 → IsStatement emits judged r2
      → (st : Standing) → IsGrown st.slots (loop_emitted (compiled_of test) (block_emitted es) emits within st).slots
  loop_slots test es js emits judged r1 r2 f g st =
      let p : ℕ = st.at + length (code_at test st) in
      let st1 : Standing = moved st (p + 2) st.slots in
      let inner : Emitted = block_emitted es within st1 in
      let st2 : Standing = moved st (p + 2 + length inner.code) inner.slots in
      grown_on st.slots inner.slots (emits within st2).slots (f.grown st1) (g.grown st2)

  loop_sound : (test : Expr) (es : List Emitting) (js : List Plainness) (emits : Emitting) (judged : Plainness) (r1 r2 : Bool) → IsBlock es js r1 → IsStatement emits judged r2
      → (st : Standing) → IsLoop parameters (names_of st.scope) test js judged → InScope named.own.params st.slots st.scope → IsGrown (loop_emitted (compiled_of test) (block_emitted es) emits within st).slots Own
      → (loop_emitted (compiled_of test) (block_emitted es) emits within st).depth ≤ depth
      → Part named depth st.at (loop_emitted (compiled_of test) (block_emitted es) emits within st).code
      (st.at + length (loop_emitted (compiled_of test) (block_emitted es) emits within st).code) (Some [])
  loop_sound test es js emits judged r1 r2 f g st plain scoped grown low =
      let names = names_of st.scope in
      let first : List Instr = code_at test st in
      let p : ℕ = st.at + length first in
      let st1 : Standing = moved st (p + 2) st.slots in
      let inner : Emitted = block_emitted es within st1 in
      let q : ℕ = p + 2 + length inner.code in
      let st2 : Standing = moved st q inner.slots in
      let last : Emitted = emits within st2 in
      let r : ℕ = q + length last.code in
      let ends : ℕ = p + length inner.code + length last.code + 3 in
      let grown1 = grown_on inner.slots last.slots Own (g.grown st2) grown in
      let at = expression_at test st scoped (grown_on st.slots inner.slots Own (f.grown st1) grown1) plain.test_plain (omega (arith, low)) in
      let body = going_part named depth (p + 2) q inner.code r1 (f.part st1 names (plain_block parameters js names plain.body_plain) scoped grown1 (omega (arith, low))) in
      let step = going_part named depth q r last.code r2 (g.part st2 plain.after plain.step_plain (scope_grown named.own.params st.slots inner.slots st.scope (f.grown st1) scoped) grown (omega (arith, low))) in
      loop_part named depth ((compiled_of test).ty (around_in within st)) st.at p q r ends first inner.code last.code at.high at.piece
      (part_at named depth (p + 2) (suc (suc p)) q inner.code (Some []) (omega arith) body) step (omega arith)

  pub for_statement : (ef : Emitting) (jf : Plainness) (rf : Bool) (test : Expr) (emits : Emitting) (judged : Plainness) (rs : Bool) (es : List Emitting) (js : List Plainness) (rb : Bool)
      → IsStatement ef jf rf → IsStatement emits judged rs → IsBlock es js rb
      → IsStatement (emitting_step (what.For ef test emits es)) (plainness_step (what.For jf test judged js)) false
  for_statement ef jf rf test emits judged rs es js rb f g b = record {
    names = λ st after h. sym (behind_if_is (loop_is_plain jf test judged js parameters (names_of st.scope)) (names_of st.scope) after h).1;
    grown = λ st. all_grown st;
    scoped = λ st h. scope_grown named.own.params st.slots (emitting_step (what.For ef test emits es) within st).slots st.scope (all_grown st) h;
    part = λ st after h scoped grown low.
        let names = names_of st.scope in
        let p = for_parts parameters jf test judged js names (behind_if_is (loop_is_plain jf test judged js parameters names) names after h).0 in
        let one : Emitted = ef within st in
        let st1 : Standing = behind st one in
        let loop : Emitted = loop_emitted (compiled_of test) (block_emitted es) emits within st1 in
        let plain : IsLoop parameters (names_of one.scope) test js judged = subst (λ (n : NamedKinds). IsLoop parameters n test js judged) (f.names st p.0 p.1) p.2 in
        let fine1 = going_part named depth st.at st1.at one.code rf (f.part st p.0 p.1 scoped (grown_on one.slots loop.slots Own (loop_slots test es js emits judged rb rs b g st1) grown) (omega (arith, low))) in
        let fine2 = loop_sound test es js emits judged rb rs b g st1 plain (f.scoped st scoped) grown (omega (arith, low)) in
        then_part named depth false false st.at st1.at (st1.at + length loop.code) one.code loop.code fine1 fine2;
  }
    where
      all_grown : (st : Standing) → IsGrown st.slots (emitting_step (what.For ef test emits es) within st).slots
      all_grown st =
          let one : Emitted = ef within st in
          let st1 : Standing = behind st one in
          grown_on st.slots one.slots (loop_emitted (compiled_of test) (block_emitted es) emits within st1).slots (f.grown st) (loop_slots test es js emits judged rb rs b g st1)
