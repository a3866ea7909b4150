-- What the code of a statement does, and how such code is joined.
use Rattle.std.proofs.Common.{◌≡◌, ℕ, zero, suc, ◌<◌, ◌≤◌, List, [], ◌∷◌, length, ℤ, Some, refl, ap, ◌∙◌, arith, length-set}
use Rattle.std.specs.Prelude.{slice_get, slice_set, Result, Ok, Err, if◌then◌else◌, true, false, Bool}
use Rattle.std.proofs.lemmas.Bool.{lt-ltb}
use Rattle.sk_base.specs.declared.number.Ty.{Ty}
use Rattle.sk_base.specs.declared.number.Trap.{Trap}
use Rattle.sk_base.specs.declared.number.Trap.TheVariants.{Turns}
use Rattle.sk_base.specs.Arithmetic.{InRange, wrapped}
use Rattle.sk_meaning.specs.Evaluation.{Scope, Flow, Going, Returned, and_then}
use Rattle.sk_meaning.specs.Expressions.{holds, then_do}
use Rattle.sk_isa.specs.Coded.{Routine}
use Rattle.sk_isa.specs.Configurations.{Goes, Stuck}
use Rattle.sk_scheme.specs.Scheme.{Slot}
use Rattle.sk_isa.specs.declared.code.Instr.TheVariants as instr
use Rattle.sk_scheme_runs.proofs.Runs.{stands, Finishes, Leads, leads_on, step, last_step, leads_same, Gives}
use Rattle.sk_scheme_runs.proofs.ExpressionNodes.{zero_holds, zero_fails}
use Rattle.sk_scheme_runs.proofs.Agreement.{Agree, agree_wider}

module _ (routine : Routine) (ret : Ty) where
  -- the run comes to an address with an empty stack, with other values in the slots, and no more turns
  pub record GoesOn (slots : List ℤ) (at : ℕ) (stack : List ℤ) (turns to : ℕ) (scope : List (List ℕ × Slot)) (bound : ℕ) (values : Scope) (left : ℕ) : Type 0 where
    pub after : List ℤ
    pub size : length after ≡ length slots
    pub agree : Agree routine.arguments scope values after bound
    pub fewer : left ≤ turns
    pub leads : Leads routine (stands at stack slots turns) (stands to [] after left)

  abbrev pub RunsFlow : List ℤ → ℕ → List ℤ → ℕ → ℕ → List (List ℕ × Slot) → ℕ → Flow → ℕ → Type 0
  RunsFlow slots at stack turns to scope bound (Going values) left = GoesOn slots at stack turns to scope bound values left
  RunsFlow slots at stack turns to scope bound (Returned value) left =
      (left ≤ turns) × Finishes routine (stands at stack slots turns) (Ok (wrapped ret value, left))

  -- What a statement's code does: it goes on, or returns the value in the function's type, or ends with the trap.
  abbrev pub Runs : List ℤ → ℕ → List ℤ → ℕ → ℕ → List (List ℕ × Slot) → ℕ → Result (Flow × ℕ) Trap → Type 0
  Runs slots at stack turns to scope bound (Ok done) = RunsFlow slots at stack turns to scope bound done.0 done.1
  Runs slots at stack turns to scope bound (Err trap) = Finishes routine (stands at stack slots turns) (Err trap)

  flow_after : (slots slots1 : List ℤ) (at at1 : ℕ) (stack stack1 : List ℤ) (turns turns1 to : ℕ) (scope : List (List ℕ × Slot)) (bound : ℕ) (flow : Flow) (left : ℕ)
      → turns1 ≤ turns → length slots1 ≡ length slots → Leads routine (stands at stack slots turns) (stands at1 stack1 slots1 turns1)
      → RunsFlow slots1 at1 stack1 turns1 to scope bound flow left → RunsFlow slots at stack turns to scope bound flow left
  flow_after slots slots1 at at1 stack stack1 turns turns1 to scope bound (Going values) left fewer size l r = record {
    after = r.after;
    size = r.size ∙ size;
    agree = r.agree;
    fewer = omega (arith, r.fewer, fewer);
    leads = leads_on routine _ _ _ l r.leads;
  }
  flow_after slots slots1 at at1 stack stack1 turns turns1 to scope bound (Returned value) left fewer size l r = (omega (arith, r.0, fewer), l.by _ r.1)

  -- behind a stretch of code
  pub runs_after : (slots slots1 : List ℤ) (at at1 : ℕ) (stack stack1 : List ℤ) (turns turns1 to : ℕ) (scope : List (List ℕ × Slot)) (bound : ℕ) (o : Result (Flow × ℕ) Trap)
      → turns1 ≤ turns → length slots1 ≡ length slots → Leads routine (stands at stack slots turns) (stands at1 stack1 slots1 turns1)
      → Runs slots1 at1 stack1 turns1 to scope bound o → Runs slots at stack turns to scope bound o
  runs_after slots slots1 at at1 stack stack1 turns turns1 to scope bound (Ok done) fewer size l r =
      flow_after slots slots1 at at1 stack stack1 turns turns1 to scope bound done.0 done.1 fewer size l r
  runs_after slots slots1 at at1 stack stack1 turns turns1 to scope bound (Err trap) fewer size l r = l.by _ r

  flow_before : (slots : List ℤ) (at : ℕ) (stack : List ℤ) (turns to to' : ℕ) (scope : List (List ℕ × Slot)) (bound more : ℕ) (flow : Flow) (left : ℕ)
      → bound ≤ more → ((after : List ℤ) (left : ℕ) → Leads routine (stands to [] after left) (stands to' [] after left))
      → RunsFlow slots at stack turns to scope bound flow left → RunsFlow slots at stack turns to' scope more flow left
  flow_before slots at stack turns to to' scope bound more (Going values) left le l r = record {
    after = r.after;
    size = r.size;
    agree = agree_wider routine.arguments scope values r.after bound more le r.agree;
    fewer = r.fewer;
    leads = leads_on routine _ _ _ r.leads (l r.after left);
  }
  flow_before slots at stack turns to to' scope bound more (Returned value) left le l r = r

  -- before a stretch of code that keeps all, and with more slots
  pub runs_before : (slots : List ℤ) (at : ℕ) (stack : List ℤ) (turns to to' : ℕ) (scope : List (List ℕ × Slot)) (bound more : ℕ) (o : Result (Flow × ℕ) Trap)
      → bound ≤ more → ((after : List ℤ) (left : ℕ) → Leads routine (stands to [] after left) (stands to' [] after left))
      → Runs slots at stack turns to scope bound o → Runs slots at stack turns to' scope more o
  runs_before slots at stack turns to to' scope bound more (Ok done) le l r = flow_before slots at stack turns to to' scope bound more done.0 done.1 le l r
  runs_before slots at stack turns to to' scope bound more (Err trap) le l r = r

  flow_then : (slots : List ℤ) (at : ℕ) (stack : List ℤ) (turns at1 to : ℕ) (scope scope2 : List (List ℕ × Slot)) (bound bound2 : ℕ) (flow : Flow) (left : ℕ)
      (next : Scope → ℕ → Result (Flow × ℕ) Trap) → RunsFlow slots at stack turns at1 scope bound flow left
      → ((values : Scope) (after : List ℤ) (left : ℕ) → left ≤ turns → length after ≡ length slots → Agree routine.arguments scope values after bound → Runs after at1 [] left to scope2 bound2 (next values left))
      → Runs slots at stack turns to scope2 bound2 (and_then (Ok (flow, left)) next)
  flow_then slots at stack turns at1 to scope scope2 bound bound2 (Going values) left next r f =
      runs_after slots r.after at at1 stack [] turns left to scope2 bound2 (next values left) r.fewer r.size r.leads (f values r.after left r.fewer r.size r.agree)
  flow_then slots at stack turns at1 to scope scope2 bound bound2 (Returned value) left next r f = r

  -- statements one after another
  pub runs_then : (slots : List ℤ) (at : ℕ) (stack : List ℤ) (turns at1 to : ℕ) (scope scope2 : List (List ℕ × Slot)) (bound bound2 : ℕ) (o : Result (Flow × ℕ) Trap)
      (next : Scope → ℕ → Result (Flow × ℕ) Trap) → Runs slots at stack turns at1 scope bound o
      → ((values : Scope) (after : List ℤ) (left : ℕ) → left ≤ turns → length after ≡ length slots → Agree routine.arguments scope values after bound → Runs after at1 [] left to scope2 bound2 (next values left))
      → Runs slots at stack turns to scope2 bound2 (and_then o next)
  runs_then slots at stack turns at1 to scope scope2 bound bound2 (Ok done) next r f =
      flow_then slots at stack turns at1 to scope scope2 bound bound2 done.0 done.1 next r f
  runs_then slots at stack turns at1 to scope scope2 bound bound2 (Err trap) next r f = r

  -- goes on with a value
  pub runs_value : (ty : Ty) (slots : List ℤ) (at turns at1 to : ℕ) (scope : List (List ℕ × Slot)) (bound : ℕ) (o : Result (ℤ × ℕ) Trap)
      (next : ℤ → ℕ → Result (Flow × ℕ) Trap) → Gives routine ty slots at [] turns at1 [] o
      → ((v : ℤ) (left : ℕ) → left ≤ turns → InRange ty v → Runs slots at1 (v ∷ []) left to scope bound (next v left))
      → Runs slots at [] turns to scope bound (then_do o next)
  runs_value ty slots at turns at1 to scope bound (Ok done) next g f =
      runs_after slots slots at at1 [] (done.0 ∷ []) turns done.1 to scope bound (next done.0 done.1) g.1 refl g.2 (f done.0 done.1 g.1 g.0)
  runs_value ty slots at turns at1 to scope bound (Err trap) next g f = g

  -- a test, and what follows where it holds and where it does not
  pub runs_branch : (slots : List ℤ) (at turns to end : ℕ) (scope : List (List ℕ × Slot)) (bound : ℕ) (a : ℤ) (next : Bool → Result (Flow × ℕ) Trap)
      → slice_get routine.instrs at ≡ Some (instr.Zero to) → Runs slots (suc at) [] turns end scope bound (next true) → Runs slots to [] turns end scope bound (next false)
      → Runs slots at (a ∷ []) turns end scope bound (next (holds a))
  runs_branch slots at turns to end scope bound a next here r q = by_test (holds a) refl
    where
      by_test : (b : Bool) → holds a ≡ b → Runs slots at (a ∷ []) turns end scope bound (next b)
      by_test true e = runs_after slots slots at (suc at) (a ∷ []) [] turns turns end scope bound (next true) (omega arith) refl (zero_holds routine to at a [] slots turns here e) r
      by_test false e = runs_after slots slots at to (a ∷ []) [] turns turns end scope bound (next false) (omega arith) refl (zero_fails routine to at a [] slots turns here e) q

  -- nothing is done
  pub runs_nothing : (slots : List ℤ) (at turns to : ℕ) (scope : List (List ℕ × Slot)) (bound : ℕ) (values : Scope) → at ≡ to → Agree routine.arguments scope values slots bound
      → Runs slots at [] turns to scope bound (Ok (Going values, turns))
  runs_nothing slots at turns to scope bound values e agree =
      record { after = slots; size = refl; agree = agree; fewer = omega arith; leads = leads_same routine at to [] slots turns e }

  -- a value is stored
  pub runs_store : (ty : Ty) (slots : List ℤ) (at turns at1 to slot : ℕ) (scope : List (List ℕ × Slot)) (bound : ℕ) (o : Result (ℤ × ℕ) Trap) (values : ℤ → Scope)
      → Gives routine ty slots at [] turns at1 [] (then_do o (λ a s. Ok (wrapped ty a, s))) → slice_get routine.instrs at1 ≡ Some (instr.Store slot) → suc at1 ≡ to → slot < length slots
      → ((v : ℤ) → Agree routine.arguments scope (values v) (slice_set slots slot (wrapped ty v)) bound)
      → Runs slots at [] turns to scope bound (then_do o (λ v s. Ok (Going (values v), s)))
  runs_store ty slots at turns at1 to slot scope bound (Ok done) values g here e within agree =
      let w : ℤ = wrapped ty done.0 in
      let does = ap (λ (b : Bool). if b then Goes (stands (suc at1) [] (slice_set slots slot w) done.1) else Stuck) (lt-ltb slot (length slots) within) in
      let l = step routine (instr.Store slot) (stands at1 (w ∷ []) slots done.1) (stands (suc at1) [] (slice_set slots slot w) done.1) here does in
      record {
        after = slice_set slots slot w;
        size = length-set slots slot w;
        agree = agree done.0;
        fewer = g.1;
        leads = leads_on routine _ _ _ g.2 (leads_on routine _ _ _ l (leads_same routine (suc at1) to [] (slice_set slots slot w) done.1 e));
      }
  runs_store ty slots at turns at1 to slot scope bound (Err trap) values g here e within agree = g

  -- a value is returned
  pub runs_return : (slots : List ℤ) (at turns at1 to : ℕ) (scope : List (List ℕ × Slot)) (bound : ℕ) (o : Result (ℤ × ℕ) Trap)
      → Gives routine ret slots at [] turns at1 [] (then_do o (λ a s. Ok (wrapped ret a, s))) → slice_get routine.instrs at1 ≡ Some instr.Ret
      → Runs slots at [] turns to scope bound (then_do o (λ v s. Ok (Returned v, s)))
  runs_return slots at turns at1 to scope bound (Ok done) g here =
      (g.1, g.2.by _ (last_step routine instr.Ret (stands at1 (wrapped ret done.0 ∷ []) slots done.1) (Ok (wrapped ret done.0, done.1)) here refl))
  runs_return slots at turns at1 to scope bound (Err trap) g here = g

  -- a turn of a loop
  pub runs_turn : (slots : List ℤ) (at turns to : ℕ) (scope : List (List ℕ × Slot)) (bound : ℕ) (next : ℕ → Result (Flow × ℕ) Trap)
      → slice_get routine.instrs at ≡ Some instr.Turn → ((left : ℕ) → suc left ≤ turns → Runs slots (suc at) [] left to scope bound (next left))
      → Runs slots at [] turns to scope bound (elim turns as (λ x. Result (Flow × ℕ) Trap) [ zero ↦ Err Turns | suc left ↦ next left ])
  runs_turn slots at zero to scope bound next here f = last_step routine instr.Turn (stands at [] slots 0) (Err Turns) here refl
  runs_turn slots at (suc left) to scope bound next here f =
      runs_after slots slots at (suc at) [] [] (suc left) left to scope bound (next left) (omega arith) refl
      (step routine instr.Turn (stands at [] slots (suc left)) (stands (suc at) [] slots left) here refl) (f left (omega arith))
