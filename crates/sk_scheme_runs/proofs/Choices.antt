-- What the code of choices and loops does, from what the code of their parts does.
use Rattle.std.proofs.Common.{◌≡◌, ℕ, suc, ◌+◌, ◌≤◌, List, [], ◌∷◌, ◌++◌, length, refl, subst, arith, length-append}
use Rattle.std.specs.Prelude.{if◌then◌else◌, ◌&&◌}
use Rattle.sk_meaning.specs.Evaluation.{Callables, Doing, in_block, left_behind, value_in, doing_step}
use Rattle.sk_meaning.specs.Expressions.{holds}
use Rattle.sk_tree.specs.declared.tree.Expr.{Expr}
use Rattle.sk_plain.proofs.Parts.{moved}
use Rattle.sk_tree.specs.declared.tree.What.TheOpen as what
use Rattle.sk_isa.specs.Coded.{Routine}
use Rattle.sk_scheme.specs.Scheme.{Around, Compiled, compiled_of, Within, Standing, Emitted, Emitting, around_in, block_emitted, if_emitted, if_else_emitted}
use Rattle.sk_isa.specs.declared.code.Instr.{Instr}
use Rattle.sk_isa.specs.declared.code.Instr.TheVariants as instr
use Rattle.sk_plain.specs.Plain.{Parameters, is_plain_expression, Plainness, plainness_step, plainness_if, block_is_plain}
use Rattle.sk_scheme_runs.proofs.Runs.{HasAt, has_front, has_back, has_rest, leads_on, leads_same}
use Rattle.sk_scheme_runs.proofs.ExpressionNodes.{jump_leads}
use Rattle.sk_plain.proofs.Bindings.{names_of}
use Rattle.sk_scheme_runs.proofs.Agreement.{agree_wider, agree_same, agree_length}
use Rattle.sk_plain.proofs.PlainParts.{plain_block, if_parts}
use Rattle.sk_scheme_runs.proofs.ExpressionRuns.{IsRun}
use Rattle.sk_scheme_runs.proofs.Flows.{Runs, runs_before, runs_value, runs_branch, runs_nothing}
use Rattle.sk_scheme_runs.proofs.StatementNodes.{Follows, same_scope, expression_gives}

module _ (routine : Routine) (parameters : Parameters) (within : Within) (callables : Callables) where
  abbrev pub IsBlock : List Doing → List Emitting → List Plainness → Type 0
  IsBlock ds es js = Follows routine parameters within callables (in_block ds) (block_emitted es) (plainness_if (block_is_plain js))

  abbrev pub IsFollowing : Doing → Emitting → Plainness → Type 0
  IsFollowing = Follows routine parameters within callables

  pub if_follows : (test : Expr) (ds : List Doing) (es : List Emitting) (js : List Plainness) → IsRun routine parameters within.functions callables test → IsBlock ds es js
      → IsFollowing (doing_step (what.If test ds [])) (if_emitted (compiled_of test) es) (plainness_step (what.If test js []))
  if_follows test ds es js is f = record {
    keeps = same_scope routine parameters within callables (plainness_step (what.If test js [])) (λ parameters names. is_plain_expression test parameters names && block_is_plain js parameters names && block_is_plain [] parameters names)
        (if_emitted (compiled_of test) es) refl (λ st. refl) (λ st. f.keeps.slots (moved st (st.at + length ((compiled_of test).code (around_in within st) st.at) + 1) st.slots));
    runs = λ st values slots turns after h agree room has.
        let names = names_of st.scope in
        let code = routine.instrs in
        let plain = if_parts parameters test js [] names after h in
        let a : Around = around_in within st in
        let c : Compiled = compiled_of test in
        let first : List Instr = c.code a st.at in
        let at1 : ℕ = st.at + length first in
        let st1 : Standing = moved st (at1 + 1) st.slots in
        let inner : Emitted = block_emitted es within st1 in
        let end0 : ℕ = at1 + 1 + length inner.code in
        let all : List Instr = first ++ instr.Zero end0 ∷ inner.code in
        let end : ℕ = st.at + length all in
        let len : end0 ≡ end = omega (arith, length-append first (instr.Zero end0 ∷ inner.code)) in
        let has1 = has_back code st.at first (instr.Zero end0 ∷ inner.code) has in
        let has2 = has_rest code at1 (at1 + 1) (instr.Zero end0) inner.code (omega arith) has1 in
        let e1 : at1 + 1 ≡ suc at1 = omega arith in
        let bound : ℕ = length inner.slots in
        runs_value routine within.ret (c.ty a) slots st.at turns at1 end st.scope bound (value_in test callables values turns) (λ value turns. in_block (if holds value then ds else []) callables values turns)
        (expression_gives routine parameters within callables test is st values slots turns plain.test_plain agree (has_front code st.at first (instr.Zero end0 ∷ inner.code) has))
        (λ v left fewer fits. runs_branch routine within.ret slots at1 left end0 end st.scope bound v (λ b. in_block (if b then ds else []) callables values left) has1.0
        (subst (λ n. Runs routine within.ret slots n [] left end st.scope bound (in_block ds callables values left)) e1
        (runs_before routine within.ret slots (at1 + 1) [] left end0 end st.scope bound bound (in_block ds callables values left) (omega arith) (λ s l. leads_same routine end0 end [] s l len)
        (f.runs st1 values slots left names (plain_block parameters js names plain.body_plain) agree room has2)))
        (runs_nothing routine within.ret slots end0 left end st.scope bound (left_behind values values) len
        (agree_wider routine.arguments st.scope (left_behind values values) slots (length st.slots) bound (f.keeps.slots st1)
        (agree_same routine.arguments st.scope values values slots (length st.slots) (agree_length routine.arguments st.scope values slots (length st.slots) agree) agree))));
  }

  pub if_else_follows : (test : Expr) (ds ds2 : List Doing) (es es2 : List Emitting) (js js2 : List Plainness) → IsRun routine parameters within.functions callables test → IsBlock ds es js → IsBlock ds2 es2 js2
      → IsFollowing (doing_step (what.If test ds ds2)) (if_else_emitted (compiled_of test) es es2) (plainness_step (what.If test js js2))
  if_else_follows test ds ds2 es es2 js js2 is f g = record {
    keeps = same_scope routine parameters within callables (plainness_step (what.If test js js2)) (λ parameters names. is_plain_expression test parameters names && block_is_plain js parameters names && block_is_plain js2 parameters names)
        (if_else_emitted (compiled_of test) es es2) refl (λ st. refl)
        (λ st.
        let at1 : ℕ = st.at + length ((compiled_of test).code (around_in within st) st.at) in
        let st1 : Standing = moved st (at1 + 1) st.slots in
        let inner : Emitted = block_emitted es within st1 in
        omega (arith, f.keeps.slots st1, g.keeps.slots (moved st (at1 + length inner.code + 2) inner.slots)));
    runs = λ st values slots turns after h agree room has.
        let names = names_of st.scope in
        let code = routine.instrs in
        let plain = if_parts parameters test js js2 names after h in
        let a : Around = around_in within st in
        let c : Compiled = compiled_of test in
        let first : List Instr = c.code a st.at in
        let at1 : ℕ = st.at + length first in
        let st1 : Standing = moved st (at1 + 1) st.slots in
        let inner : Emitted = block_emitted es within st1 in
        let third : ℕ = at1 + length inner.code + 2 in
        let st2 : Standing = moved st third inner.slots in
        let last : Emitted = block_emitted es2 within st2 in
        let jump : Instr = instr.Jump (third + length last.code) in
        let body : List Instr = first ++ instr.Zero third ∷ inner.code in
        let end : ℕ = st.at + length (body ++ jump ∷ last.code) in
        let size : length body ≡ length first + length inner.code + 1 = omega (arith, length-append first (instr.Zero third ∷ inner.code)) in
        let len : third + length last.code ≡ end = omega (arith, length-append body (jump ∷ last.code), size) in
        let has_body = has_front code st.at body (jump ∷ last.code) has in
        let has1 = has_back code st.at first (instr.Zero third ∷ inner.code) has_body in
        let has2 = has_rest code at1 (at1 + 1) (instr.Zero third) inner.code (omega arith) has1 in
        let at3 : ℕ = at1 + 1 + length inner.code in
        let e3 : st.at + length body ≡ at3 = omega (arith, size) in
        let has3 = subst (λ n. HasAt code n (jump ∷ last.code)) e3 (has_back code st.at body (jump ∷ last.code) has) in
        let has4 = has_rest code at3 third jump last.code (omega arith) has3 in
        let e1 : at1 + 1 ≡ suc at1 = omega arith in
        let bound : ℕ = length last.slots in
        let less : length inner.slots ≤ bound = g.keeps.slots st2 in
        let less0 : length st.slots ≤ length inner.slots = f.keeps.slots st1 in
        runs_value routine within.ret (c.ty a) slots st.at turns at1 end st.scope bound (value_in test callables values turns) (λ value turns. in_block (if holds value then ds else ds2) callables values turns)
        (expression_gives routine parameters within callables test is st values slots turns plain.test_plain agree (has_front code st.at first (instr.Zero third ∷ inner.code) has_body))
        (λ v left fewer fits. runs_branch routine within.ret slots at1 left third end st.scope bound v (λ b. in_block (if b then ds else ds2) callables values left) has1.0
        (subst (λ n. Runs routine within.ret slots n [] left end st.scope bound (in_block ds callables values left)) e1
        (runs_before routine within.ret slots (at1 + 1) [] left at3 end st.scope (length inner.slots) bound (in_block ds callables values left) less
        (λ s l. leads_on routine _ _ _ (jump_leads routine (third + length last.code) at3 [] s l has3.0) (leads_same routine (third + length last.code) end [] s l len))
        (f.runs st1 values slots left names (plain_block parameters js names plain.body_plain) agree (omega (arith, room, less)) has2)))
        (runs_before routine within.ret slots third [] left (third + length last.code) end st.scope bound bound (in_block ds2 callables values left) (omega arith)
        (λ s l. leads_same routine (third + length last.code) end [] s l len)
        (g.runs st2 values slots left names (plain_block parameters js2 names plain.other_plain) (agree_wider routine.arguments st.scope values slots (length st.slots) (length inner.slots) less0 agree) room has4)));
  }
