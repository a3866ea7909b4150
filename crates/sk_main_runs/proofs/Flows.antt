-- What the code of a statement of main does, and how such code is joined.
use Rattle.std.proofs.Common.{◌≡◌, ℕ, zero, suc, ◌<◌, ◌≤◌, List, [], ◌∷◌, ◌++◌, length, reverse, ℤ, Some, refl, sym, ap, ◌∙◌, subst, arith, length-set}
use Rattle.std.proofs.lemmas.Bool.{lt-ltb}
use Rattle.std.specs.Prelude.{slice_get, slice_set, if◌then◌else◌, Result, Ok, Err, true, false, Bool}
use Rattle.sk_base.specs.Arithmetic.{InRange, wrapped}
use Rattle.sk_base.specs.declared.number.Ty.{Ty}
use Rattle.sk_isa.specs.Configurations.{Goes, Stuck}
use Rattle.sk_isa.specs.declared.code.Instr.{Instr}
use Rattle.sk_isa.specs.declared.code.Instr.TheVariants as instr
use Rattle.sk_isa.specs.declared.object.Object.{Object}
use Rattle.sk_main_code.specs.MainSteps.{going_in, next_in_main}
use Rattle.sk_main_run.specs.MainNames.{Scope, State, in_state}
use Rattle.sk_main_run.specs.MainRun.{Running, and_run, in_world, counted}
use Rattle.sk_main_runs.proofs.Agreement.{agree_wider}
use Rattle.sk_main_runs.proofs.Arguments.{GivesMany}
use Rattle.sk_main_runs.proofs.ExpressionNodes.{zero_holds, zero_fails}
use Rattle.sk_main_runs.proofs.Runs.{IsLike, stands, Finishes, Leads, leads_on, step, last_step, leads_same, Gives}
use Rattle.sk_main_runs.proofs.Tidy.{tidy_like}
use Rattle.sk_main_runs.specs.SameMeaning.{Agree, FunctionsAgree, IsTidy}
use Rattle.sk_main_scheme.specs.MainScheme.{Named}
use Rattle.sk_meaning.specs.Expressions.{holds, then_do}
use Rattle.sk_scheme.specs.Scheme.{Known}
use Rattle.sk_world.specs.World.{World, Over, Bound, count}

-- what counting a statement does where so many are left
abbrev counting : (line : ℕ) → World → (left : ℕ) → Result World Over
counting line world left = elim left as (λ x. Result World Over) [
  | zero ↦ Err (record { ending = Bound; world = world })
  | suc fewer ↦ Ok (record world { statements_left = fewer; line = line })
]

module _ (object : Object) (functions : List (List ℕ × Known)) where
  -- The run comes to an address with an empty stack and other values in the slots, where names, functions and containers are
  -- those of the state.
  pub record GoesOn (slots : List ℤ) (at : ℕ) (stack : List ℤ) (world : World) (to : ℕ) (scope : List (List ℕ × Named)) (bound : ℕ) (state : State) : Type 0 where
    pub after : List ℤ
    pub size : length after ≡ length slots
    pub agree : Agree object scope state.scope after bound
    pub callables : FunctionsAgree object functions state.callables
    pub tidy : IsTidy object state.world
    pub fewer : state.world.statements_left ≤ world.statements_left
    pub leads : Leads object (stands at stack slots world) (stands to [] after state.world)

  -- What a statement's code does: it goes on, or ends the run.
  abbrev pub Runs : List ℤ → ℕ → List ℤ → World → ℕ → List (List ℕ × Named) → ℕ → Result State Over → Type 0
  Runs slots at stack world to scope bound (Ok state) = GoesOn slots at stack world to scope bound state
  Runs slots at stack world to scope bound (Err over) = Finishes object (stands at stack slots world) (Err over)

  -- behind a stretch of code
  pub runs_after : (slots slots1 : List ℤ) (at at1 : ℕ) (stack stack1 : List ℤ) (world world1 : World) (to : ℕ) (scope : List (List ℕ × Named)) (bound : ℕ) (o : Result State Over)
      → world1.statements_left ≤ world.statements_left → length slots1 ≡ length slots → Leads object (stands at stack slots world) (stands at1 stack1 slots1 world1)
      → Runs slots1 at1 stack1 world1 to scope bound o → Runs slots at stack world to scope bound o
  runs_after slots slots1 at at1 stack stack1 world world1 to scope bound (Ok state) fewer size l r = record {
    after = r.after;
    size = r.size ∙ size;
    agree = r.agree;
    callables = r.callables;
    tidy = r.tidy;
    fewer = omega (arith, r.fewer, fewer);
    leads = leads_on object _ _ _ l r.leads;
  }
  runs_after slots slots1 at at1 stack stack1 world world1 to scope bound (Err over) fewer size l r = l.by _ r

  -- before a stretch of code that keeps slots and world, where names stay as they are
  pub runs_before : (slots : List ℤ) (at : ℕ) (stack : List ℤ) (world : World) (to to' : ℕ) (scope : List (List ℕ × Named)) (bound : ℕ) (o : Result State Over)
      → ((after : List ℤ) (w : World) → Leads object (stands to [] after w) (stands to' [] after w))
      → Runs slots at stack world to scope bound o → Runs slots at stack world to' scope bound o
  runs_before slots at stack world to to' scope bound (Ok state) l r = record {
    after = r.after;
    size = r.size;
    agree = r.agree;
    callables = r.callables;
    tidy = r.tidy;
    fewer = r.fewer;
    leads = leads_on object _ _ _ r.leads (l r.after state.world);
  }
  runs_before slots at stack world to to' scope bound (Err over) l r = r

  -- the same, at another address
  pub runs_to : (slots : List ℤ) (at : ℕ) (stack : List ℤ) (world : World) (to to' : ℕ) (scope : List (List ℕ × Named)) (bound : ℕ) (o : Result State Over) → to ≡ to'
      → Runs slots at stack world to scope bound o → Runs slots at stack world to' scope bound o
  runs_to slots at stack world to to' scope bound o e r = subst (λ n. Runs slots at stack world n scope bound o) e r

  -- the same, with higher slots
  pub runs_wider : (slots : List ℤ) (at : ℕ) (stack : List ℤ) (world : World) (to : ℕ) (scope : List (List ℕ × Named)) (bound more : ℕ) (o : Result State Over) → bound ≤ more
      → Runs slots at stack world to scope bound o → Runs slots at stack world to scope more o
  runs_wider slots at stack world to scope bound more (Ok state) le r = record {
    after = r.after;
    size = r.size;
    agree = agree_wider object scope state.scope r.after bound more le r.agree;
    callables = r.callables;
    tidy = r.tidy;
    fewer = r.fewer;
    leads = r.leads;
  }
  runs_wider slots at stack world to scope bound more (Err over) le r = r

  -- goes on where a statement did not end the run
  pub runs_then : (slots : List ℤ) (at : ℕ) (stack : List ℤ) (world : World) (at1 to : ℕ) (scope scope2 : List (List ℕ × Named)) (bound bound2 : ℕ) (o : Result State Over) (next : Running)
      → Runs slots at stack world at1 scope bound o
      → ((state : State) (after : List ℤ) → length after ≡ length slots → Agree object scope state.scope after bound → FunctionsAgree object functions state.callables
      → IsTidy object state.world → state.world.statements_left ≤ world.statements_left → Runs after at1 [] state.world to scope2 bound2 (next state))
      → Runs slots at stack world to scope2 bound2 (and_run o next)
  runs_then slots at stack world at1 to scope scope2 bound bound2 (Ok state) next r f =
      runs_after slots r.after at at1 stack [] world state.world to scope2 bound2 (next state) r.fewer r.size r.leads
      (f state r.after r.size r.agree r.callables r.tidy r.fewer)
  runs_then slots at stack world at1 to scope scope2 bound bound2 (Err over) next r f = r

  -- goes on with the value of an expression
  pub runs_value : (ty : Ty) (slots : List ℤ) (at : ℕ) (state : State) (at1 to : ℕ) (scope : List (List ℕ × Named)) (bound : ℕ) (o : Result (ℤ × World) Over)
      (next : ℤ × State → Result State Over) → Gives object ty slots at [] state.world at1 [] o
      → ((v : ℤ) (world : World) → IsLike state.world world → InRange ty v → Runs slots at1 (v ∷ []) world to scope bound (next (v, record state { world = world })))
      → Runs slots at [] state.world to scope bound (and_run (in_state state o) next)
  runs_value ty slots at state at1 to scope bound (Ok done) next g f =
      runs_after slots slots at at1 [] (done.0 ∷ []) state.world done.1 to scope bound (next (done.0, record state { world = done.1 }))
      (omega (arith, g.1.left)) refl g.2 (f done.0 done.1 g.1 g.0)
  runs_value ty slots at state at1 to scope bound (Err over) next g f = g

  -- a test, and what follows where it holds and where it does not
  pub runs_branch : (slots : List ℤ) (at : ℕ) (world : World) (to end : ℕ) (scope : List (List ℕ × Named)) (bound : ℕ) (a : ℤ) (next : Bool → Result State Over)
      → slice_get object.main.instrs at ≡ Some (instr.Zero to) → Runs slots (suc at) [] world end scope bound (next true) → Runs slots to [] world end scope bound (next false)
      → Runs slots at (a ∷ []) world end scope bound (next (holds a))
  runs_branch slots at world to end scope bound a next here r q = by_test (holds a) refl
    where
      by_test : (b : Bool) → holds a ≡ b → Runs slots at (a ∷ []) world end scope bound (next b)
      by_test true e = runs_after slots slots at (suc at) (a ∷ []) [] world world end scope bound (next true) (omega arith) refl (zero_holds object to at a [] slots world here e) r
      by_test false e = runs_after slots slots at to (a ∷ []) [] world world end scope bound (next false) (omega arith) refl (zero_fails object to at a [] slots world here e) q

  -- nothing is done
  pub runs_nothing : (slots : List ℤ) (at : ℕ) (to : ℕ) (scope : List (List ℕ × Named)) (bound : ℕ) (state : State) → at ≡ to → Agree object scope state.scope slots bound
      → FunctionsAgree object functions state.callables → IsTidy object state.world → Runs slots at [] state.world to scope bound (Ok state)
  runs_nothing slots at to scope bound state e agree callables tidy = record {
    after = slots;
    size = refl;
    agree = agree;
    callables = callables;
    tidy = tidy;
    fewer = omega arith;
    leads = leads_same object at to [] slots state.world e;
  }

  -- an instruction that changes the world, or ends the run
  pub runs_in_world : (slots : List ℤ) (at : ℕ) (stack : List ℤ) (state : State) (at1 to : ℕ) (scope : List (List ℕ × Named)) (bound : ℕ) (i : Instr) (o : Result World Over) (next : Running)
      → slice_get object.main.instrs at ≡ Some i → suc at ≡ at1 → next_in_main object i (stands at stack slots state.world) ≡ going_in (stands at stack slots state.world) [] o
      → ((world : World) → o ≡ Ok world → (world.statements_left ≤ state.world.statements_left) × Runs slots at1 [] world to scope bound (next (record state { world = world })))
      → Runs slots at stack state.world to scope bound (and_run (elim o as (λ x. Result State Over) [ Ok world ↦ Ok (record state { world = world }) | Err over ↦ Err over ]) next)
  runs_in_world slots at stack state at1 to scope bound i (Ok world) next here e does f =
      let r = f world refl in
      let l = leads_on object _ _ _ (step object i (stands at stack slots state.world) (stands (suc at) [] slots world) here does) (leads_same object (suc at) at1 [] slots world e) in
      runs_after slots slots at at1 stack [] state.world world to scope bound (next (record state { world = world })) r.0 refl l r.1
  runs_in_world slots at stack state at1 to scope bound i (Err over) next here e does f = last_step object i (stands at stack slots state.world) (Err over) here does

  -- a statement is counted
  pub runs_counted : (slots : List ℤ) (at : ℕ) (state : State) (at1 to : ℕ) (scope : List (List ℕ × Named)) (bound : ℕ) (line : ℕ) (next : Running)
      → slice_get object.main.instrs at ≡ Some (instr.Count line) → suc at ≡ at1
      → ((world : World) → world.containers ≡ state.world.containers → suc world.statements_left ≤ state.world.statements_left → Runs slots at1 [] world to scope bound (next (record state { world = world })))
      → Runs slots at [] state.world to scope bound (counted line next state)
  runs_counted slots at state at1 to scope bound line next here e f = by_left state.world.statements_left refl
    where
      by_left : (left : ℕ) → state.world.statements_left ≡ left → Runs slots at [] state.world to scope bound (counted line next state)
      by_left zero none = subst (λ n. Runs slots at [] state.world to scope bound
          (and_run (elim (counting line state.world n) as (λ x. Result State Over) [ Ok world ↦ Ok (record state { world = world }) | Err over ↦ Err over ]) next)) (sym none)
          (last_step object (instr.Count line) (stands at [] slots state.world) (Err (record { ending = Bound; world = state.world })) here
          (ap (λ n. going_in (stands at [] slots state.world) [] (counting line state.world n)) none))
      by_left (suc fewer) some = subst (λ n. Runs slots at [] state.world to scope bound
          (and_run (elim (counting line state.world n) as (λ x. Result State Over) [ Ok world ↦ Ok (record state { world = world }) | Err over ↦ Err over ]) next)) (sym some)
          (runs_in_world slots at [] state at1 to scope bound (instr.Count line) (counting line state.world (suc fewer)) next here e
          (ap (λ n. going_in (stands at [] slots state.world) [] (counting line state.world n)) some)
          (λ world same.
          let is : record state.world { statements_left = fewer; line = line } ≡ world = cc in
          subst (λ (w : World). (w.statements_left ≤ state.world.statements_left) × Runs slots at1 [] w to scope bound (next (record state { world = w }))) is
          (omega (arith, some), f (record state.world { statements_left = fewer; line = line }) refl (omega (arith, some)))))

  -- no statement is left
  pub runs_bound : (slots : List ℤ) (at : ℕ) (state : State) (to : ℕ) (scope : List (List ℕ × Named)) (bound : ℕ) (line : ℕ)
      → slice_get object.main.instrs at ≡ Some (instr.Count line) → state.world.statements_left ≡ 0
      → Runs slots at [] state.world to scope bound (in_world (count line) state)
  runs_bound slots at state to scope bound line here none =
      subst (λ n. Runs slots at [] state.world to scope bound
      (elim (counting line state.world n) as (λ x. Result State Over) [ Ok world ↦ Ok (record state { world = world }) | Err over ↦ Err over ])) (sym none)
      (last_step object (instr.Count line) (stands at [] slots state.world) (Err (record { ending = Bound; world = state.world })) here
      (ap (λ n. going_in (stands at [] slots state.world) [] (counting line state.world n)) none))

  -- one instruction, behind which a state stands
  pub runs_one : (slots : List ℤ) (at : ℕ) (stack : List ℤ) (world : World) (state : State) (to : ℕ) (scope : List (List ℕ × Named)) (bound : ℕ) (i : Instr)
      → slice_get object.main.instrs at ≡ Some i → suc at ≡ to → next_in_main object i (stands at stack slots world) ≡ Goes (stands (suc at) [] slots state.world)
      → Agree object scope state.scope slots bound → FunctionsAgree object functions state.callables → IsTidy object state.world → state.world.statements_left ≤ world.statements_left
      → Runs slots at stack world to scope bound (Ok state)
  runs_one slots at stack world state to scope bound i here e does agree callables tidy fewer = record {
    after = slots;
    size = refl;
    agree = agree;
    callables = callables;
    tidy = tidy;
    fewer = fewer;
    leads = leads_on object _ _ _ (step object i (stands at stack slots world) (stands (suc at) [] slots state.world) here does) (leads_same object (suc at) to [] slots state.world e);
  }

  -- a value is stored
  pub runs_store : (ty : Ty) (slots : List ℤ) (at : ℕ) (state : State) (at1 to slot : ℕ) (scope : List (List ℕ × Named)) (bound : ℕ) (o : Result (ℤ × World) Over) (values : ℤ → Scope → Scope)
      → Gives object ty slots at [] state.world at1 [] (then_do o (λ a w. Ok (wrapped ty a, w))) → slice_get object.main.instrs at1 ≡ Some (instr.Store slot) → suc at1 ≡ to → slot < length slots
      → ((v : ℤ) → Agree object scope (values v state.scope) (slice_set slots slot (wrapped ty v)) bound) → FunctionsAgree object functions state.callables → IsTidy object state.world
      → Runs slots at [] state.world to scope bound (and_run (in_state state o) (λ done. Ok (record done.1 { scope = values done.0 done.1.scope })))
  runs_store ty slots at state at1 to slot scope bound (Ok done) values g here e room agree callables tidy =
      let w : ℤ = wrapped ty done.0 in
      let does = ap (λ (b : Bool). if b then Goes (stands (suc at1) [] (slice_set slots slot w) done.1) else Stuck) (lt-ltb slot (length slots) room) in
      let l = step object (instr.Store slot) (stands at1 (w ∷ []) slots done.1) (stands (suc at1) [] (slice_set slots slot w) done.1) here does in
      record {
        after = slice_set slots slot w;
        size = length-set slots slot w;
        agree = agree done.0;
        callables = callables;
        tidy = tidy_like object state.world done.1 g.1 tidy;
        fewer = omega (arith, g.1.left);
        leads = leads_on object _ _ _ g.2 (leads_on object _ _ _ l (leads_same object (suc at1) to [] (slice_set slots slot w) done.1 e));
      }
  runs_store ty slots at state at1 to slot scope bound (Err over) values g here e room agree callables tidy = g

  -- an instruction that changes the world alone, or ends the run
  pub runs_world : (slots : List ℤ) (at : ℕ) (stack : List ℤ) (state : State) (to : ℕ) (scope : List (List ℕ × Named)) (bound : ℕ) (i : Instr) (o : Result World Over)
      → slice_get object.main.instrs at ≡ Some i → suc at ≡ to → next_in_main object i (stands at stack slots state.world) ≡ going_in (stands at stack slots state.world) [] o
      → Agree object scope state.scope slots bound → FunctionsAgree object functions state.callables
      → ((world : World) → o ≡ Ok world → IsTidy object world × (world.statements_left ≤ state.world.statements_left))
      → Runs slots at stack state.world to scope bound (elim o as (λ x. Result State Over) [ Ok world ↦ Ok (record state { world = world }) | Err over ↦ Err over ])
  runs_world slots at stack state to scope bound i (Ok world) here e does agree callables f =
      let r = f world refl in
      runs_one slots at stack state.world (record state { world = world }) to scope bound i here e does agree callables r.0 r.1
  runs_world slots at stack state to scope bound i (Err over) here e does agree callables f = last_step object i (stands at stack slots state.world) (Err over) here does

  -- goes on with the values of expressions
  pub runs_values : (shape : List ℤ → List ℤ) (count : ℕ) (slots : List ℤ) (at : ℕ) (state : State) (at1 to : ℕ) (scope : List (List ℕ × Named)) (bound : ℕ) (o : Result (List ℤ × World) Over)
      (next : List ℤ × State → Result State Over) → GivesMany object shape count slots at [] state.world at1 o
      → ((values : List ℤ) (world : World) → length values ≡ count → IsLike state.world world
      → Runs slots at1 (reverse (shape values) ++ []) world to scope bound (next (values, record state { world = world })))
      → Runs slots at [] state.world to scope bound (and_run (in_state state o) next)
  runs_values shape count slots at state at1 to scope bound (Ok done) next g f =
      runs_after slots slots at at1 [] (reverse (shape done.0) ++ []) state.world done.1 to scope bound (next (done.0, record state { world = done.1 }))
      (omega (arith, g.1.left)) refl g.2 (f done.0 done.1 g.0 g.1)
  runs_values shape count slots at state at1 to scope bound (Err over) next g f = g

  -- goes on with a converted value above others on the stack
  pub runs_wanted : (ty : Ty) (slots : List ℤ) (at : ℕ) (stack : List ℤ) (state : State) (at1 to : ℕ) (scope : List (List ℕ × Named)) (bound : ℕ) (o : Result (ℤ × World) Over)
      (next : ℤ × State → Result State Over) → Gives object ty slots at stack state.world at1 stack (then_do o (λ a w. Ok (wrapped ty a, w)))
      → ((v : ℤ) (world : World) → IsLike state.world world → Runs slots at1 (wrapped ty v ∷ stack) world to scope bound (next (v, record state { world = world })))
      → Runs slots at stack state.world to scope bound (and_run (in_state state o) next)
  runs_wanted ty slots at stack state at1 to scope bound (Ok done) next g f =
      runs_after slots slots at at1 stack (wrapped ty done.0 ∷ stack) state.world done.1 to scope bound (next (done.0, record state { world = done.1 }))
      (omega (arith, g.1.left)) refl g.2 (f done.0 done.1 g.1)
  runs_wanted ty slots at stack state at1 to scope bound (Err over) next g f = g
