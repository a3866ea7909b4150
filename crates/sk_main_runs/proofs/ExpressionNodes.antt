-- What the code of each kind of expression gives in main, from what the code of its parts gives.
use Rattle.std.proofs.Common.{◌≡◌, ℕ, suc, ◌+◌, List, [], ◌∷◌, ◌++◌, length, ℤ, pos, Some, refl, sym, ap, subst, arith, length-append}
use Rattle.std.specs.Prelude.{slice_get, Result, Ok, Err, IfOk, if◌then◌else◌, true, false, Bool}
use Rattle.sk_base.specs.declared.number.Ty.{Ty}
use Rattle.sk_base.specs.declared.number.Ty.TheVariants.{Int, Long}
use Rattle.sk_base.specs.declared.number.Op.{Op}
use Rattle.sk_base.specs.declared.number.Op.TheVariants.{Add, Sub, Mul, Div, Rem, Shl, Shr, And, Or, Xor, Lt, Le, Gt, Ge, Eq, Ne}
use Rattle.sk_base.specs.declared.number.Trap.{Trap}
use Rattle.sk_base.specs.Arithmetic.{InRange, wrapped, flag, op_of}
use Rattle.sk_base.specs.ArithmeticLaws.{wrapped-in_range, wrapped-same, InRange-Long, flag-in_range, op_of-in_range}
use Rattle.sk_tree.specs.declared.tree.Un.{Un}
use Rattle.sk_tree.specs.declared.tree.Un.TheVariants as prefix
use Rattle.sk_main_code.specs.MainSteps.{next_in_main, over_by}
use Rattle.sk_main_run.specs.MainNames.{State, main_names}
use Rattle.sk_main_runs.proofs.Runs.{IsLike, like_same, stands, Leads, leads_on, step, last_step, leads_same, Gives, after, before, then_gives, one_gives}
use Rattle.sk_meaning.specs.Expressions.{raised, holds, then_do, prefix_type, prefix_of, wider, operation_type, result_type}
use Rattle.sk_isa.specs.Configurations.{Goes, giving}
use Rattle.sk_isa.specs.declared.code.Instr.{Instr}
use Rattle.sk_isa.specs.declared.code.Instr.TheVariants as instr
use Rattle.sk_isa.specs.declared.object.Object.{Object}
use Rattle.sk_scheme.specs.Pieces.{Placed, narrowed, prefix_code, then_code, both_code, either_code, choice_code}
use Rattle.sk_scheme_runs.proofs.ExpressionNodes.{prefix-in_range, wider_left}
use Rattle.sk_scheme_runs.proofs.Runs.{HasAt, has_front, has_back, has_rest}
use Rattle.sk_world.specs.World.{World, Over}

operated-in_range : (op : Op) (left right : Ty) (a b : ℤ) → InRange left a → IfOk (op_of op (operation_type op left right) a b) (λ c. InRange (result_type op left right) c)
operated-in_range Add left right a b fits = op_of-in_range Add (wider left right) a b (wider_left left right a fits)
operated-in_range Sub left right a b fits = op_of-in_range Sub (wider left right) a b (wider_left left right a fits)
operated-in_range Mul left right a b fits = op_of-in_range Mul (wider left right) a b (wider_left left right a fits)
operated-in_range Div left right a b fits = op_of-in_range Div (wider left right) a b (wider_left left right a fits)
operated-in_range Rem left right a b fits = op_of-in_range Rem (wider left right) a b (wider_left left right a fits)
operated-in_range Shl left right a b fits = op_of-in_range Shl left a b fits
operated-in_range Shr left right a b fits = op_of-in_range Shr left a b fits
operated-in_range And left right a b fits = op_of-in_range And (wider left right) a b (wider_left left right a fits)
operated-in_range Or left right a b fits = op_of-in_range Or (wider left right) a b (wider_left left right a fits)
operated-in_range Xor left right a b fits = op_of-in_range Xor (wider left right) a b (wider_left left right a fits)
operated-in_range Lt left right a b fits = flag-in_range Int _
operated-in_range Le left right a b fits = flag-in_range Int _
operated-in_range Gt left right a b fits = flag-in_range Int _
operated-in_range Ge left right a b fits = flag-in_range Int _
operated-in_range Eq left right a b fits = flag-in_range Int _
operated-in_range Ne left right a b fits = flag-in_range Int _

module _ (object : Object) where
  -- a value and one instruction that changes it
  pub unary_gives : (ty ty2 : Ty) (i : Instr) (f : ℤ → ℤ) (code : List Instr) (slots : List ℤ) (at : ℕ) (stack : List ℤ) (world : World) (o : Result (ℤ × World) Over)
      → ((a : ℤ) → InRange ty a → InRange ty2 (f a))
      → ((at : ℕ) (a : ℤ) (world : World) → next_in_main object i (stands at (a ∷ stack) slots world) ≡ Goes (stands (suc at) (f a ∷ stack) slots world))
      → HasAt object.main.instrs at (code ++ i ∷ []) → Gives object ty slots at stack world (at + length code) stack o
      → Gives object ty2 slots at stack world (at + length (code ++ i ∷ [])) stack (then_do o (λ a w. Ok (f a, w)))
  unary_gives ty ty2 i f code slots at stack world o range does has g =
      let here = (has_back object.main.instrs at code (i ∷ []) has).0 in
      let e : suc (at + length code) ≡ at + length (code ++ i ∷ []) = omega (arith, length-append code (i ∷ [])) in
      then_gives object ty ty2 slots at (at + length code) _ stack stack stack world o (λ a w. Ok (f a, w)) g
      (λ a w like fits. one_gives object ty2 i slots (at + length code) _ (a ∷ stack) stack w (f a) here e (range a fits) (does (at + length code) a w))

  pub prefix_gives : (op : Un) (ty : Ty) (code : List Instr) (slots : List ℤ) (at : ℕ) (stack : List ℤ) (world : World) (o : Result (ℤ × World) Over)
      → HasAt object.main.instrs at (code ++ prefix_code op ty ∷ []) → Gives object ty slots at stack world (at + length code) stack o
      → Gives object (prefix_type op ty) slots at stack world (at + length (code ++ prefix_code op ty ∷ [])) stack (then_do o (λ a w. Ok (prefix_of op ty a, w)))
  prefix_gives prefix.Neg ty code slots at stack world o has g =
      unary_gives ty ty (instr.Neg ty) (prefix_of prefix.Neg ty) code slots at stack world o (prefix-in_range prefix.Neg ty) (λ at a world. refl) has g
  prefix_gives prefix.Inv ty code slots at stack world o has g =
      unary_gives ty ty (instr.Inv ty) (prefix_of prefix.Inv ty) code slots at stack world o (prefix-in_range prefix.Inv ty) (λ at a world. refl) has g
  prefix_gives prefix.Not ty code slots at stack world o has g =
      unary_gives ty Int instr.Not (prefix_of prefix.Not ty) code slots at stack world o (prefix-in_range prefix.Not ty) (λ at a world. refl) has g

  -- a value that wrapping leaves as it is
  kept_gives : (ty wanted : Ty) (code : List Instr) (slots : List ℤ) (at : ℕ) (stack : List ℤ) (world : World) (o : Result (ℤ × World) Over)
      → ((a : ℤ) → InRange ty a → InRange wanted a) → Gives object ty slots at stack world (at + length code) stack o
      → Gives object wanted slots at stack world (at + length (code ++ [])) stack (then_do o (λ a w. Ok (wrapped wanted a, w)))
  kept_gives ty wanted code slots at stack world (Ok done) range g =
      let e : at + length code ≡ at + length (code ++ []) = omega (arith, length-append code []) in
      let same : wrapped wanted done.0 ≡ done.0 = wrapped-same wanted done.0 (range done.0 g.0) in
      let l = leads_on object _ _ _ g.2 (leads_same object (at + length code) (at + length (code ++ [])) (done.0 ∷ stack) slots done.1 e) in
      subst (λ (v : ℤ). Gives object wanted slots at stack world (at + length (code ++ [])) stack (Ok (v, done.1))) (sym same)
      (range done.0 g.0, g.1, l)
  kept_gives ty wanted code slots at stack world (Err over) range g = g

  -- an expression where a value of a type is wanted
  pub wanted_gives : (wanted given : Ty) (code : List Instr) (slots : List ℤ) (at : ℕ) (stack : List ℤ) (world : World) (o : Result (ℤ × World) Over)
      → HasAt object.main.instrs at (code ++ narrowed wanted given) → Gives object given slots at stack world (at + length code) stack o
      → Gives object wanted slots at stack world (at + length (code ++ narrowed wanted given)) stack (then_do o (λ a w. Ok (wrapped wanted a, w)))
  wanted_gives Int Int code slots at stack world o has g = kept_gives Int Int code slots at stack world o (λ a fits. fits) g
  wanted_gives Int Long code slots at stack world o has g =
      unary_gives Long Int instr.Wrap (wrapped Int) code slots at stack world o (λ a fits. wrapped-in_range Int a) (λ at a world. refl) has g
  wanted_gives Long given code slots at stack world o has g = kept_gives given Long code slots at stack world o (λ a fits. InRange-Long given a fits) g

  -- the topmost value decides which way the run goes
  pub zero_holds : (to at : ℕ) (a : ℤ) (stack slots : List ℤ) (world : World) → slice_get object.main.instrs at ≡ Some (instr.Zero to) → holds a ≡ true
      → Leads object (stands at (a ∷ stack) slots world) (stands (suc at) stack slots world)
  zero_holds to at a stack slots world here h =
      step object (instr.Zero to) _ _ here (ap (λ (b : Bool). Goes (stands (if b then suc at else to) stack slots world)) h)

  pub zero_fails : (to at : ℕ) (a : ℤ) (stack slots : List ℤ) (world : World) → slice_get object.main.instrs at ≡ Some (instr.Zero to) → holds a ≡ false
      → Leads object (stands at (a ∷ stack) slots world) (stands to stack slots world)
  zero_fails to at a stack slots world here h =
      step object (instr.Zero to) _ _ here (ap (λ (b : Bool). Goes (stands (if b then suc at else to) stack slots world)) h)

  pub branch_gives : (ty : Ty) (slots : List ℤ) (to at end : ℕ) (a : ℤ) (stack : List ℤ) (world : World) (one other : Result (ℤ × World) Over)
      → slice_get object.main.instrs at ≡ Some (instr.Zero to) → Gives object ty slots (suc at) stack world end stack one → Gives object ty slots to stack world end stack other
      → Gives object ty slots at (a ∷ stack) world end stack (if holds a then one else other)
  branch_gives ty slots to at end a stack world one other here g h = by_test (holds a) refl
    where
      by_test : (b : Bool) → holds a ≡ b → Gives object ty slots at (a ∷ stack) world end stack (if b then one else other)
      by_test true e = after object ty slots at (suc at) end (a ∷ stack) stack stack world world one (like_same world) (zero_holds to at a stack slots world here e) g
      by_test false e = after object ty slots at to end (a ∷ stack) stack stack world world other (like_same world) (zero_fails to at a stack slots world here e) h

  pub push_gives : (ty : Ty) (v : ℤ) (slots : List ℤ) (at to : ℕ) (stack : List ℤ) (world : World) → slice_get object.main.instrs at ≡ Some (instr.Push v) → suc at ≡ to → InRange ty v
      → Gives object ty slots at stack world to stack (Ok (v, world))
  push_gives ty v slots at to stack world here e fits = one_gives object ty (instr.Push v) slots at to stack stack world v here e fits refl

  pub jump_leads : (to at : ℕ) (stack slots : List ℤ) (world : World) → slice_get object.main.instrs at ≡ Some (instr.Jump to)
      → Leads object (stands at stack slots world) (stands to stack slots world)
  jump_leads to at stack slots world here = step object (instr.Jump to) _ _ here refl

  -- 1 where a value holds, and else 0
  flag_gives : (slots : List ℤ) (fails after_it at end : ℕ) (a : ℤ) (stack : List ℤ) (world : World) → fails ≡ at + 3 → after_it ≡ end → at + 4 ≡ end
      → HasAt object.main.instrs at (instr.Zero fails ∷ instr.Push (pos 1) ∷ instr.Jump after_it ∷ instr.Push (pos 0) ∷ [])
      → Gives object Int slots at (a ∷ stack) world end stack (Ok (flag (holds a), world))
  flag_gives slots fails after_it at end a stack world e1 e2 e3 has = by_test (holds a) refl
    where
      by_test : (b : Bool) → holds a ≡ b → Gives object Int slots at (a ∷ stack) world end stack (Ok (flag b, world))
      by_test true e =
          let pushed = push_gives Int (pos 1) slots (suc at) (suc (suc at)) stack world has.1.0 refl (flag-in_range Int true) in
          let jumps : (v : ℤ) (w : World) → Leads object (stands (suc (suc at)) (v ∷ stack) slots w) (stands end (v ∷ stack) slots w) =
          λ v w. leads_on object _ _ _ (jump_leads after_it (suc (suc at)) (v ∷ stack) slots w has.1.1.0) (leads_same object after_it end (v ∷ stack) slots w e2) in
          after object Int slots at (suc at) end (a ∷ stack) stack stack world world (Ok (pos 1, world)) (like_same world) (zero_holds fails at a stack slots world has.0 e)
          (before object Int slots (suc at) (suc (suc at)) end stack stack world (Ok (pos 1, world)) pushed jumps)
      by_test false e =
          let there : suc (suc (suc at)) ≡ fails = omega (arith, e1) in
          let here = subst (λ n. slice_get object.main.instrs n ≡ Some (instr.Push (pos 0))) there has.1.1.1.0 in
          after object Int slots at fails end (a ∷ stack) stack stack world world (Ok (pos 0, world)) (like_same world) (zero_fails fails at a stack slots world has.0 e)
          (push_gives Int (pos 0) slots fails end stack world here (omega (arith, e1, e3)) (flag-in_range Int false))

  pub both_gives : (left_ty right_ty : Ty) (left right : Placed) (slots : List ℤ) (at : ℕ) (stack : List ℤ) (world : World) (o : Result (ℤ × World) Over) (p : World → Result (ℤ × World) Over)
      → HasAt object.main.instrs at (both_code left right at)
      → (HasAt object.main.instrs at (left at) → Gives object left_ty slots at stack world (at + length (left at)) stack o)
      → ((to : ℕ) (w : World) → IsLike world w → HasAt object.main.instrs to (right to) → Gives object right_ty slots to stack w (to + length (right to)) stack (p w))
      → Gives object Int slots at stack world (at + length (both_code left right at)) stack
      (then_do o (λ a s. if holds a then then_do (p s) (λ b s. Ok (flag (holds b), s)) else Ok (pos 0, s)))
  both_gives left_ty right_ty left right slots at stack world o p has g h =
      let code = object.main.instrs in
      let one : List Instr = left at in
      let at2 : ℕ = at + length one + 1 in
      let other : List Instr = right at2 in
      let fails : ℕ = at + length one + length other + 4 in
      let body : List Instr = one ++ instr.Zero fails ∷ other in
      let tail : List Instr = instr.Zero fails ∷ instr.Push (pos 1) ∷ instr.Jump (fails + 1) ∷ instr.Push (pos 0) ∷ [] in
      let size : length body ≡ length one + length other + 1 = omega (arith, length-append one (instr.Zero fails ∷ other)) in
      let len : length (both_code left right at) ≡ length one + length other + 5 = omega (arith, length-append body tail, size) in
      let end : ℕ = at + length (both_code left right at) in
      let at3 : ℕ = at2 + length other in
      let has_body = has_front code at body tail has in
      let has1 = has_back code at one (instr.Zero fails ∷ other) has_body in
      let has2 = has_rest code (at + length one) at2 (instr.Zero fails) other (omega arith) has1 in
      let e3 : at + length body ≡ at3 = omega (arith, size) in
      let has3 = subst (λ n. HasAt code n tail) e3 (has_back code at body tail has) in
      let e4 : suc (suc (suc at3)) ≡ fails = omega arith in
      let here4 : slice_get code fails ≡ Some (instr.Push (pos 0)) = subst (λ n. slice_get code n ≡ Some (instr.Push (pos 0))) e4 has3.1.1.1.0 in
      let e2 : at2 ≡ suc (at + length one) = omega arith in
      then_gives object left_ty Int slots at (at + length one) end stack stack stack world o _ (g (has_front code at one (instr.Zero fails ∷ other) has_body))
      (λ a w like fits. branch_gives Int slots fails (at + length one) end a stack w (then_do (p w) (λ b s. Ok (flag (holds b), s))) (Ok (pos 0, w)) has1.0
      (subst (λ n. Gives object Int slots n stack w end stack (then_do (p w) (λ b s. Ok (flag (holds b), s)))) e2
      (then_gives object right_ty Int slots at2 at3 end stack stack stack w (p w) (λ b s. Ok (flag (holds b), s)) (h at2 w like has2)
      (λ b w2 like2 fits2. flag_gives slots fails (fails + 1) at3 end b stack w2 (omega arith) (omega (arith, len)) (omega (arith, len)) has3)))
      (push_gives Int (pos 0) slots fails end stack w here4 (omega (arith, len)) (flag-in_range Int false)))

  pub either_gives : (left_ty right_ty : Ty) (left right : Placed) (slots : List ℤ) (at : ℕ) (stack : List ℤ) (world : World) (o : Result (ℤ × World) Over) (p : World → Result (ℤ × World) Over)
      → HasAt object.main.instrs at (either_code left right at)
      → (HasAt object.main.instrs at (left at) → Gives object left_ty slots at stack world (at + length (left at)) stack o)
      → ((to : ℕ) (w : World) → IsLike world w → HasAt object.main.instrs to (right to) → Gives object right_ty slots to stack w (to + length (right to)) stack (p w))
      → Gives object Int slots at stack world (at + length (either_code left right at)) stack
      (then_do o (λ a s. if holds a then Ok (pos 1, s) else then_do (p s) (λ b s. Ok (flag (holds b), s))))
  either_gives left_ty right_ty left right slots at stack world o p has g h =
      let code = object.main.instrs in
      let one : List Instr = left at in
      let second : ℕ = at + length one + 3 in
      let other : List Instr = right second in
      let fails : ℕ = second + length other + 3 in
      let first : List Instr = instr.Zero second ∷ instr.Push (pos 1) ∷ instr.Jump (fails + 1) ∷ other in
      let body : List Instr = one ++ first in
      let tail : List Instr = instr.Zero fails ∷ instr.Push (pos 1) ∷ instr.Jump (fails + 1) ∷ instr.Push (pos 0) ∷ [] in
      let size : length body ≡ length one + length other + 3 = omega (arith, length-append one first) in
      let len : length (either_code left right at) ≡ length one + length other + 7 = omega (arith, length-append body tail, size) in
      let end : ℕ = at + length (either_code left right at) in
      let at3 : ℕ = second + length other in
      let has_body = has_front code at body tail has in
      let has1 = has_back code at one first has_body in
      let at1 : ℕ = at + length one in
      let e2 : suc (suc (suc at1)) ≡ second = omega arith in
      let has2 = subst (λ n. HasAt code n other) e2 has1.1.1.1 in
      let e3 : at + length body ≡ at3 = omega (arith, size) in
      let has3 = subst (λ n. HasAt code n tail) e3 (has_back code at body tail has) in
      let jumps : (v : ℤ) (w : World) → Leads object (stands (suc (suc at1)) (v ∷ stack) slots w) (stands end (v ∷ stack) slots w) =
      λ v w. leads_on object _ _ _ (jump_leads (fails + 1) (suc (suc at1)) (v ∷ stack) slots w has1.1.1.0) (leads_same object (fails + 1) end (v ∷ stack) slots w (omega (arith, len))) in
      then_gives object left_ty Int slots at at1 end stack stack stack world o _ (g (has_front code at one first has_body))
      (λ a w like fits. branch_gives Int slots second at1 end a stack w (Ok (pos 1, w)) (then_do (p w) (λ b s. Ok (flag (holds b), s))) has1.0
      (before object Int slots (suc at1) (suc (suc at1)) end stack stack w (Ok (pos 1, w)) (push_gives Int (pos 1) slots (suc at1) (suc (suc at1)) stack w has1.1.0 refl (flag-in_range Int true)) jumps)
      (then_gives object right_ty Int slots second at3 end stack stack stack w (p w) (λ b s. Ok (flag (holds b), s)) (h second w like has2)
      (λ b w2 like2 fits2. flag_gives slots fails (fails + 1) at3 end b stack w2 (omega arith) (omega (arith, len)) (omega (arith, len)) has3)))

  pub choice_gives : (test_ty ty : Ty) (test one other : Placed) (slots : List ℤ) (at : ℕ) (stack : List ℤ) (world : World) (o : Result (ℤ × World) Over) (p q : World → Result (ℤ × World) Over)
      → HasAt object.main.instrs at (choice_code test one other at)
      → (HasAt object.main.instrs at (test at) → Gives object test_ty slots at stack world (at + length (test at)) stack o)
      → ((to : ℕ) (w : World) → IsLike world w → HasAt object.main.instrs to (one to) → Gives object ty slots to stack w (to + length (one to)) stack (p w))
      → ((to : ℕ) (w : World) → IsLike world w → HasAt object.main.instrs to (other to) → Gives object ty slots to stack w (to + length (other to)) stack (q w))
      → Gives object ty slots at stack world (at + length (choice_code test one other at)) stack (then_do o (λ a s. if holds a then p s else q s))
  choice_gives test_ty ty test one other slots at stack world o p q has g h k =
      let code = object.main.instrs in
      let first : List Instr = test at in
      let at2 : ℕ = at + length first + 1 in
      let second : List Instr = one at2 in
      let third : ℕ = at + length first + length second + 2 in
      let last : List Instr = other third in
      let jump : Instr = instr.Jump (third + length last) in
      let body : List Instr = first ++ instr.Zero third ∷ second in
      let size : length body ≡ length first + length second + 1 = omega (arith, length-append first (instr.Zero third ∷ second)) in
      let len : length (choice_code test one other at) ≡ length first + length second + length last + 2 = omega (arith, length-append body (jump ∷ last), size) in
      let end : ℕ = at + length (choice_code test one other at) in
      let has_body = has_front code at body (jump ∷ last) has in
      let has1 = has_back code at first (instr.Zero third ∷ second) has_body in
      let has2 = has_rest code (at + length first) at2 (instr.Zero third) second (omega arith) has1 in
      let at3 : ℕ = at2 + length second in
      let e3 : at + length body ≡ at3 = omega (arith, size) in
      let has3 = subst (λ n. HasAt code n (jump ∷ last)) e3 (has_back code at body (jump ∷ last) has) in
      let has4 = has_rest code at3 third jump last (omega arith) has3 in
      let jumps : (v : ℤ) (w : World) → Leads object (stands at3 (v ∷ stack) slots w) (stands end (v ∷ stack) slots w) =
      λ v w. leads_on object _ _ _ (jump_leads (third + length last) at3 (v ∷ stack) slots w has3.0) (leads_same object (third + length last) end (v ∷ stack) slots w (omega (arith, len))) in
      let stays : (v : ℤ) (w : World) → Leads object (stands (third + length last) (v ∷ stack) slots w) (stands end (v ∷ stack) slots w) =
      λ v w. leads_same object (third + length last) end (v ∷ stack) slots w (omega (arith, len)) in
      let e2 : at2 ≡ suc (at + length first) = omega arith in
      then_gives object test_ty ty slots at (at + length first) end stack stack stack world o _ (g (has_front code at first (instr.Zero third ∷ second) has_body))
      (λ a w like fits. branch_gives ty slots third (at + length first) end a stack w (p w) (q w) has1.0
      (subst (λ n. Gives object ty slots n stack w end stack (p w)) e2 (before object ty slots at2 at3 end stack stack w (p w) (h at2 w like has2) jumps))
      (before object ty slots third (third + length last) end stack stack w (q w) (k third w like has4) stays))

  -- an operator's value, or its trap
  operator_gives : (state : State) (op : Op) (ty result : Ty) (slots : List ℤ) (at to : ℕ) (stack : List ℤ) (world : World) (a b : ℤ) (o : Result ℤ Trap)
      → slice_get object.main.instrs at ≡ Some (instr.Binary op ty) → suc at ≡ to → op_of op ty a b ≡ o → IfOk o (λ c. InRange result c)
      → Gives object result slots at (b ∷ a ∷ stack) world to stack (raised (main_names state) o world)
  operator_gives state op ty result slots at to stack world a b (Ok v) here e does fits =
      one_gives object result (instr.Binary op ty) slots at to (b ∷ a ∷ stack) stack world v here e fits
      (ap (λ (r : Result ℤ Trap). giving over_by (stands at (b ∷ a ∷ stack) slots world) stack r) does)
  operator_gives state op ty result slots at to stack world a b (Err trap) here e does fits =
      last_step object (instr.Binary op ty) _ (Err (over_by trap world)) here (ap (λ (r : Result ℤ Trap). giving over_by (stands at (b ∷ a ∷ stack) slots world) stack r) does)

  pub binary_gives : (state : State) (op : Op) (left_ty right_ty : Ty) (left right : Placed) (slots : List ℤ) (at : ℕ) (stack : List ℤ) (world : World) (o : Result (ℤ × World) Over) (p : World → Result (ℤ × World) Over)
      → HasAt object.main.instrs at (then_code (left at) right at ++ instr.Binary op (operation_type op left_ty right_ty) ∷ [])
      → (HasAt object.main.instrs at (left at) → Gives object left_ty slots at stack world (at + length (left at)) stack o)
      → ((to : ℕ) (w : World) (a : ℤ) → IsLike world w → HasAt object.main.instrs to (right to) → Gives object right_ty slots to (a ∷ stack) w (to + length (right to)) (a ∷ stack) (p w))
      → Gives object (result_type op left_ty right_ty) slots at stack world
      (at + length (then_code (left at) right at ++ instr.Binary op (operation_type op left_ty right_ty) ∷ [])) stack
      (then_do o (λ a s. then_do (p s) (λ b s. raised (main_names state) (op_of op (operation_type op left_ty right_ty) a b) s)))
  binary_gives state op left_ty right_ty left right slots at stack world o p has g h =
      let code = object.main.instrs in
      let one : List Instr = left at in
      let at2 : ℕ = at + length one in
      let other : List Instr = right at2 in
      let last : Instr = instr.Binary op (operation_type op left_ty right_ty) in
      let has_parts = has_front code at (one ++ other) (last ∷ []) has in
      let e3 : at + length (one ++ other) ≡ at2 + length other = omega (arith, length-append one other) in
      let here = subst (λ n. slice_get code n ≡ Some last) e3 (has_back code at (one ++ other) (last ∷ []) has).0 in
      let end : ℕ = at + length ((one ++ other) ++ last ∷ []) in
      let e4 : suc (at2 + length other) ≡ end = omega (arith, length-append one other, length-append (one ++ other) (last ∷ [])) in
      let result : Ty = result_type op left_ty right_ty in
      then_gives object left_ty result slots at at2 end stack stack stack world o _ (g (has_front code at one other has_parts))
      (λ a w like fits. then_gives object right_ty result slots at2 (at2 + length other) end (a ∷ stack) (a ∷ stack) stack w (p w) _
      (h at2 w a like (has_back code at one other has_parts))
      (λ b w2 like2 fits2. operator_gives state op (operation_type op left_ty right_ty) result slots (at2 + length other) end stack w2 a b
      (op_of op (operation_type op left_ty right_ty) a b) here e4 refl (operated-in_range op left_ty right_ty a b fits)))
