-- What the code of each kind of expression gives, from what the code of its parts gives.
use Rattle.std.proofs.Common.{◌≡◌, ℕ, zero, suc, ◌+◌, List, [], ◌∷◌, ◌++◌, length, ℤ, pos, negsuc, Some, refl, sym, ap, subst, arith, length-append}
use Rattle.std.proofs.lemmas.Int.{ints}
use native.Mathlib.Numerals.{unary_clauses}
use Rattle.std.specs.Prelude.{slice_get, Result, Ok, Err, IfOk, if◌then◌else◌, true, false, Bool, neg_ℤ, ◌-ℤ◌}
use Rattle.sk_base.specs.declared.number.Ty.{Ty}
use Rattle.sk_base.specs.declared.number.Ty.TheVariants.{Int, Long}
use Rattle.sk_base.specs.declared.number.Op.{Op}
use Rattle.sk_base.specs.declared.number.Op.TheVariants.{Add, Sub, Mul, Div, Rem, Shl, Shr, And, Or, Xor, Lt, Le, Gt, Ge, Eq, Ne}
use Rattle.sk_base.specs.declared.number.Trap.{Trap}
use Rattle.sk_base.specs.Arithmetic.{InRange, wrapped, flag, op_of}
use Rattle.sk_base.specs.ArithmeticLaws.{wrapped-in_range, wrapped-same, InRange-Long, flag-in_range, op_of-in_range}
use Rattle.sk_tree.specs.declared.tree.Un.{Un}
use Rattle.sk_tree.specs.declared.tree.Un.TheVariants as prefix
use Rattle.sk_meaning.specs.Evaluation.{Callables, Scope, names_in}
use Rattle.sk_meaning.specs.Expressions.{raised, holds, then_do, prefix_type, prefix_of, wider, operation_type, result_type}
use Rattle.sk_isa.specs.Coded.{Routine, by_trap, next_of}
use Rattle.sk_isa.specs.Configurations.{Goes, giving}
use Rattle.sk_scheme.specs.Pieces.{Placed, narrowed, prefix_code, then_code, both_code, either_code, choice_code}
use Rattle.sk_isa.specs.declared.code.Instr.{Instr}
use Rattle.sk_isa.specs.declared.code.Instr.TheVariants as instr
use Rattle.sk_scheme_runs.proofs.Runs.{HasAt, has_front, has_back, has_rest, stands, Leads, leads_on, step, last_step, leads_same, Gives, after, before, then_gives, one_gives}

inverse-in_range : (ty : Ty) (a : ℤ) → InRange ty a → InRange ty (neg_ℤ a -ℤ pos 1)
inverse-in_range ty (pos zero) fits = record { sfits = fits.sfits }
inverse-in_range ty (pos (suc n)) fits = record { sfits = simp unary_clauses fits.sfits }
inverse-in_range ty (negsuc n) fits =
    let back : pos (suc n) -ℤ pos 1 ≡ pos n = omega (arith, ints) in
    subst (λ (z : ℤ). InRange ty z) (sym back) (record { sfits = fits.sfits })

pub prefix-in_range : (op : Un) (ty : Ty) (a : ℤ) → InRange ty a → InRange (prefix_type op ty) (prefix_of op ty a)
prefix-in_range prefix.Neg ty a fits = wrapped-in_range ty _
prefix-in_range prefix.Inv ty a fits = inverse-in_range ty a fits
prefix-in_range prefix.Not ty a fits = flag-in_range Int _

-- values of either operand are of the wider type
pub wider_left : (left right : Ty) (a : ℤ) → InRange left a → InRange (wider left right) a
wider_left Int Int a fits = fits
wider_left Int Long a fits = InRange-Long Int a fits
wider_left Long right a fits = fits

pub wider_right : (left right : Ty) (a : ℤ) → InRange right a → InRange (wider left right) a
wider_right Int right a fits = fits
wider_right Long right a fits = InRange-Long right a fits

operated-in_range : (op : Op) (left right : Ty) (a b : ℤ) → InRange left a → IfOk (op_of op (operation_type op left right) a b) (λ c. InRange (result_type op left right) c)
operated-in_range Add left right a b fits = op_of-in_range Add (wider left right) a b (wider_left left right a fits)
operated-in_range Sub left right a b fits = op_of-in_range Sub (wider left right) a b (wider_left left right a fits)
operated-in_range Mul left right a b fits = op_of-in_range Mul (wider left right) a b (wider_left left right a fits)
operated-in_range Div left right a b fits = op_of-in_range Div (wider left right) a b (wider_left left right a fits)
operated-in_range Rem left right a b fits = op_of-in_range Rem (wider left right) a b (wider_left left right a fits)
operated-in_range Shl left right a b fits = op_of-in_range Shl left a b fits
operated-in_range Shr left right a b fits = op_of-in_range Shr left a b fits
operated-in_range And left right a b fits = op_of-in_range And (wider left right) a b (wider_left left right a fits)
operated-in_range Or left right a b fits = op_of-in_range Or (wider left right) a b (wider_left left right a fits)
operated-in_range Xor left right a b fits = op_of-in_range Xor (wider left right) a b (wider_left left right a fits)
operated-in_range Lt left right a b fits = flag-in_range Int _
operated-in_range Le left right a b fits = flag-in_range Int _
operated-in_range Gt left right a b fits = flag-in_range Int _
operated-in_range Ge left right a b fits = flag-in_range Int _
operated-in_range Eq left right a b fits = flag-in_range Int _
operated-in_range Ne left right a b fits = flag-in_range Int _

module _ (routine : Routine) where
  -- a value and one instruction that changes it
  pub unary_gives : (ty ty2 : Ty) (i : Instr) (f : ℤ → ℤ) (code : List Instr) (slots : List ℤ) (at : ℕ) (stack : List ℤ) (turns : ℕ) (o : Result (ℤ × ℕ) Trap)
      → ((a : ℤ) → InRange ty a → InRange ty2 (f a))
      → ((at : ℕ) (a : ℤ) (turns : ℕ) → next_of routine i (stands at (a ∷ stack) slots turns) ≡ Goes (stands (suc at) (f a ∷ stack) slots turns))
      → HasAt routine.instrs at (code ++ i ∷ []) → Gives routine ty slots at stack turns (at + length code) stack o
      → Gives routine ty2 slots at stack turns (at + length (code ++ i ∷ [])) stack (then_do o (λ a s. Ok (f a, s)))
  unary_gives ty ty2 i f code slots at stack turns o range does has g =
      let here = (has_back routine.instrs at code (i ∷ []) has).0 in
      let e : suc (at + length code) ≡ at + length (code ++ i ∷ []) = omega (arith, length-append code (i ∷ [])) in
      then_gives routine ty ty2 slots at (at + length code) _ stack stack stack turns o (λ a s. Ok (f a, s)) g
      (λ a t fits. one_gives routine ty2 i slots (at + length code) _ (a ∷ stack) stack t (f a) here e (range a fits) (does (at + length code) a t))

  pub prefix_gives : (op : Un) (ty : Ty) (code : List Instr) (slots : List ℤ) (at : ℕ) (stack : List ℤ) (turns : ℕ) (o : Result (ℤ × ℕ) Trap)
      → HasAt routine.instrs at (code ++ prefix_code op ty ∷ []) → Gives routine ty slots at stack turns (at + length code) stack o
      → Gives routine (prefix_type op ty) slots at stack turns (at + length (code ++ prefix_code op ty ∷ [])) stack (then_do o (λ a s. Ok (prefix_of op ty a, s)))
  prefix_gives prefix.Neg ty code slots at stack turns o has g =
      unary_gives ty ty (instr.Neg ty) (prefix_of prefix.Neg ty) code slots at stack turns o (prefix-in_range prefix.Neg ty) (λ at a turns. refl) has g
  prefix_gives prefix.Inv ty code slots at stack turns o has g =
      unary_gives ty ty (instr.Inv ty) (prefix_of prefix.Inv ty) code slots at stack turns o (prefix-in_range prefix.Inv ty) (λ at a turns. refl) has g
  prefix_gives prefix.Not ty code slots at stack turns o has g =
      unary_gives ty Int instr.Not (prefix_of prefix.Not ty) code slots at stack turns o (prefix-in_range prefix.Not ty) (λ at a turns. refl) has g

  -- a value that wrapping leaves as it is
  kept_gives : (ty wanted : Ty) (code : List Instr) (slots : List ℤ) (at : ℕ) (stack : List ℤ) (turns : ℕ) (o : Result (ℤ × ℕ) Trap)
      → ((a : ℤ) → InRange ty a → InRange wanted a) → Gives routine ty slots at stack turns (at + length code) stack o
      → Gives routine wanted slots at stack turns (at + length (code ++ [])) stack (then_do o (λ a s. Ok (wrapped wanted a, s)))
  kept_gives ty wanted code slots at stack turns (Ok done) range g =
      let e : at + length code ≡ at + length (code ++ []) = omega (arith, length-append code []) in
      let same : wrapped wanted done.0 ≡ done.0 = wrapped-same wanted done.0 (range done.0 g.0) in
      let l = leads_on routine _ _ _ g.2 (leads_same routine (at + length code) (at + length (code ++ [])) (done.0 ∷ stack) slots done.1 e) in
      subst (λ (v : ℤ). Gives routine wanted slots at stack turns (at + length (code ++ [])) stack (Ok (v, done.1))) (sym same)
      (range done.0 g.0, g.1, l)
  kept_gives ty wanted code slots at stack turns (Err trap) range g = g

  -- an expression where a value of a type is wanted
  pub wanted_gives : (wanted given : Ty) (code : List Instr) (slots : List ℤ) (at : ℕ) (stack : List ℤ) (turns : ℕ) (o : Result (ℤ × ℕ) Trap)
      → HasAt routine.instrs at (code ++ narrowed wanted given) → Gives routine given slots at stack turns (at + length code) stack o
      → Gives routine wanted slots at stack turns (at + length (code ++ narrowed wanted given)) stack (then_do o (λ a s. Ok (wrapped wanted a, s)))
  wanted_gives Int Int code slots at stack turns o has g = kept_gives Int Int code slots at stack turns o (λ a fits. fits) g
  wanted_gives Int Long code slots at stack turns o has g =
      unary_gives Long Int instr.Wrap (wrapped Int) code slots at stack turns o (λ a fits. wrapped-in_range Int a) (λ at a turns. refl) has g
  wanted_gives Long given code slots at stack turns o has g = kept_gives given Long code slots at stack turns o (λ a fits. InRange-Long given a fits) g

  -- the topmost value decides which way the run goes
  pub zero_holds : (to at : ℕ) (a : ℤ) (stack slots : List ℤ) (turns : ℕ) → slice_get routine.instrs at ≡ Some (instr.Zero to) → holds a ≡ true
      → Leads routine (stands at (a ∷ stack) slots turns) (stands (suc at) stack slots turns)
  zero_holds to at a stack slots turns here h =
      step routine (instr.Zero to) _ _ here (ap (λ (b : Bool). Goes (stands (if b then suc at else to) stack slots turns)) h)

  pub zero_fails : (to at : ℕ) (a : ℤ) (stack slots : List ℤ) (turns : ℕ) → slice_get routine.instrs at ≡ Some (instr.Zero to) → holds a ≡ false
      → Leads routine (stands at (a ∷ stack) slots turns) (stands to stack slots turns)
  zero_fails to at a stack slots turns here h =
      step routine (instr.Zero to) _ _ here (ap (λ (b : Bool). Goes (stands (if b then suc at else to) stack slots turns)) h)

  pub branch_gives : (ty : Ty) (slots : List ℤ) (to at end : ℕ) (a : ℤ) (stack : List ℤ) (turns : ℕ) (one other : Result (ℤ × ℕ) Trap)
      → slice_get routine.instrs at ≡ Some (instr.Zero to) → Gives routine ty slots (suc at) stack turns end stack one → Gives routine ty slots to stack turns end stack other
      → Gives routine ty slots at (a ∷ stack) turns end stack (if holds a then one else other)
  branch_gives ty slots to at end a stack turns one other here g h = by_test (holds a) refl
    where
      by_test : (b : Bool) → holds a ≡ b → Gives routine ty slots at (a ∷ stack) turns end stack (if b then one else other)
      by_test true e = after routine ty slots at (suc at) end (a ∷ stack) stack stack turns turns one (omega arith) (zero_holds to at a stack slots turns here e) g
      by_test false e = after routine ty slots at to end (a ∷ stack) stack stack turns turns other (omega arith) (zero_fails to at a stack slots turns here e) h

  pub push_gives : (ty : Ty) (v : ℤ) (slots : List ℤ) (at to : ℕ) (stack : List ℤ) (turns : ℕ) → slice_get routine.instrs at ≡ Some (instr.Push v) → suc at ≡ to → InRange ty v
      → Gives routine ty slots at stack turns to stack (Ok (v, turns))
  push_gives ty v slots at to stack turns here e fits = one_gives routine ty (instr.Push v) slots at to stack stack turns v here e fits refl

  pub jump_leads : (to at : ℕ) (stack slots : List ℤ) (turns : ℕ) → slice_get routine.instrs at ≡ Some (instr.Jump to)
      → Leads routine (stands at stack slots turns) (stands to stack slots turns)
  jump_leads to at stack slots turns here = step routine (instr.Jump to) _ _ here refl

  -- 1 where a value holds, and else 0
  flag_gives : (slots : List ℤ) (fails after_it at end : ℕ) (a : ℤ) (stack : List ℤ) (turns : ℕ) → fails ≡ at + 3 → after_it ≡ end → at + 4 ≡ end
      → HasAt routine.instrs at (instr.Zero fails ∷ instr.Push (pos 1) ∷ instr.Jump after_it ∷ instr.Push (pos 0) ∷ [])
      → Gives routine Int slots at (a ∷ stack) turns end stack (Ok (flag (holds a), turns))
  flag_gives slots fails after_it at end a stack turns e1 e2 e3 has = by_test (holds a) refl
    where
      by_test : (b : Bool) → holds a ≡ b → Gives routine Int slots at (a ∷ stack) turns end stack (Ok (flag b, turns))
      by_test true e =
          let pushed = push_gives Int (pos 1) slots (suc at) (suc (suc at)) stack turns has.1.0 refl (flag-in_range Int true) in
          let jumps : (v : ℤ) (t : ℕ) → Leads routine (stands (suc (suc at)) (v ∷ stack) slots t) (stands end (v ∷ stack) slots t) =
          λ v t. leads_on routine _ _ _ (jump_leads after_it (suc (suc at)) (v ∷ stack) slots t has.1.1.0) (leads_same routine after_it end (v ∷ stack) slots t e2) in
          after routine Int slots at (suc at) end (a ∷ stack) stack stack turns turns (Ok (pos 1, turns)) (omega arith) (zero_holds fails at a stack slots turns has.0 e)
          (before routine Int slots (suc at) (suc (suc at)) end stack stack turns (Ok (pos 1, turns)) pushed jumps)
      by_test false e =
          let there : suc (suc (suc at)) ≡ fails = omega (arith, e1) in
          let here = subst (λ n. slice_get routine.instrs n ≡ Some (instr.Push (pos 0))) there has.1.1.1.0 in
          after routine Int slots at fails end (a ∷ stack) stack stack turns turns (Ok (pos 0, turns)) (omega arith) (zero_fails fails at a stack slots turns has.0 e)
          (push_gives Int (pos 0) slots fails end stack turns here (omega (arith, e1, e3)) (flag-in_range Int false))

  pub both_gives : (left_ty right_ty : Ty) (left right : Placed) (slots : List ℤ) (at : ℕ) (stack : List ℤ) (turns : ℕ) (o : Result (ℤ × ℕ) Trap) (p : ℕ → Result (ℤ × ℕ) Trap)
      → HasAt routine.instrs at (both_code left right at)
      → (HasAt routine.instrs at (left at) → Gives routine left_ty slots at stack turns (at + length (left at)) stack o)
      → ((to t : ℕ) → HasAt routine.instrs to (right to) → Gives routine right_ty slots to stack t (to + length (right to)) stack (p t))
      → Gives routine Int slots at stack turns (at + length (both_code left right at)) stack
      (then_do o (λ a s. if holds a then then_do (p s) (λ b s. Ok (flag (holds b), s)) else Ok (pos 0, s)))
  both_gives left_ty right_ty left right slots at stack turns o p has g h =
      let code = routine.instrs in
      let one : List Instr = left at in
      let at2 : ℕ = at + length one + 1 in
      let other : List Instr = right at2 in
      let fails : ℕ = at + length one + length other + 4 in
      let body : List Instr = one ++ instr.Zero fails ∷ other in
      let tail : List Instr = instr.Zero fails ∷ instr.Push (pos 1) ∷ instr.Jump (fails + 1) ∷ instr.Push (pos 0) ∷ [] in
      let size : length body ≡ length one + length other + 1 = omega (arith, length-append one (instr.Zero fails ∷ other)) in
      let len : length (both_code left right at) ≡ length one + length other + 5 = omega (arith, length-append body tail, size) in
      let end : ℕ = at + length (both_code left right at) in
      let at3 : ℕ = at2 + length other in
      let has_body = has_front code at body tail has in
      let has1 = has_back code at one (instr.Zero fails ∷ other) has_body in
      let has2 = has_rest code (at + length one) at2 (instr.Zero fails) other (omega arith) has1 in
      let e3 : at + length body ≡ at3 = omega (arith, size) in
      let has3 = subst (λ n. HasAt code n tail) e3 (has_back code at body tail has) in
      let e4 : suc (suc (suc at3)) ≡ fails = omega arith in
      let here4 : slice_get code fails ≡ Some (instr.Push (pos 0)) = subst (λ n. slice_get code n ≡ Some (instr.Push (pos 0))) e4 has3.1.1.1.0 in
      let e2 : at2 ≡ suc (at + length one) = omega arith in
      then_gives routine left_ty Int slots at (at + length one) end stack stack stack turns o _ (g (has_front code at one (instr.Zero fails ∷ other) has_body))
      (λ a t fits. branch_gives Int slots fails (at + length one) end a stack t (then_do (p t) (λ b s. Ok (flag (holds b), s))) (Ok (pos 0, t)) has1.0
      (subst (λ n. Gives routine Int slots n stack t end stack (then_do (p t) (λ b s. Ok (flag (holds b), s)))) e2
      (then_gives routine right_ty Int slots at2 at3 end stack stack stack t (p t) (λ b s. Ok (flag (holds b), s)) (h at2 t has2)
      (λ b t2 fits2. flag_gives slots fails (fails + 1) at3 end b stack t2 (omega arith) (omega (arith, len)) (omega (arith, len)) has3)))
      (push_gives Int (pos 0) slots fails end stack t here4 (omega (arith, len)) (flag-in_range Int false)))

  pub either_gives : (left_ty right_ty : Ty) (left right : Placed) (slots : List ℤ) (at : ℕ) (stack : List ℤ) (turns : ℕ) (o : Result (ℤ × ℕ) Trap) (p : ℕ → Result (ℤ × ℕ) Trap)
      → HasAt routine.instrs at (either_code left right at)
      → (HasAt routine.instrs at (left at) → Gives routine left_ty slots at stack turns (at + length (left at)) stack o)
      → ((to t : ℕ) → HasAt routine.instrs to (right to) → Gives routine right_ty slots to stack t (to + length (right to)) stack (p t))
      → Gives routine Int slots at stack turns (at + length (either_code left right at)) stack
      (then_do o (λ a s. if holds a then Ok (pos 1, s) else then_do (p s) (λ b s. Ok (flag (holds b), s))))
  either_gives left_ty right_ty left right slots at stack turns o p has g h =
      let code = routine.instrs in
      let one : List Instr = left at in
      let second : ℕ = at + length one + 3 in
      let other : List Instr = right second in
      let fails : ℕ = second + length other + 3 in
      let first : List Instr = instr.Zero second ∷ instr.Push (pos 1) ∷ instr.Jump (fails + 1) ∷ other in
      let body : List Instr = one ++ first in
      let tail : List Instr = instr.Zero fails ∷ instr.Push (pos 1) ∷ instr.Jump (fails + 1) ∷ instr.Push (pos 0) ∷ [] in
      let size : length body ≡ length one + length other + 3 = omega (arith, length-append one first) in
      let len : length (either_code left right at) ≡ length one + length other + 7 = omega (arith, length-append body tail, size) in
      let end : ℕ = at + length (either_code left right at) in
      let at3 : ℕ = second + length other in
      let has_body = has_front code at body tail has in
      let has1 = has_back code at one first has_body in
      let at1 : ℕ = at + length one in
      let e2 : suc (suc (suc at1)) ≡ second = omega arith in
      let has2 = subst (λ n. HasAt code n other) e2 has1.1.1.1 in
      let e3 : at + length body ≡ at3 = omega (arith, size) in
      let has3 = subst (λ n. HasAt code n tail) e3 (has_back code at body tail has) in
      let jumps : (v : ℤ) (t : ℕ) → Leads routine (stands (suc (suc at1)) (v ∷ stack) slots t) (stands end (v ∷ stack) slots t) =
      λ v t. leads_on routine _ _ _ (jump_leads (fails + 1) (suc (suc at1)) (v ∷ stack) slots t has1.1.1.0) (leads_same routine (fails + 1) end (v ∷ stack) slots t (omega (arith, len))) in
      then_gives routine left_ty Int slots at at1 end stack stack stack turns o _ (g (has_front code at one first has_body))
      (λ a t fits. branch_gives Int slots second at1 end a stack t (Ok (pos 1, t)) (then_do (p t) (λ b s. Ok (flag (holds b), s))) has1.0
      (before routine Int slots (suc at1) (suc (suc at1)) end stack stack t (Ok (pos 1, t)) (push_gives Int (pos 1) slots (suc at1) (suc (suc at1)) stack t has1.1.0 refl (flag-in_range Int true)) jumps)
      (then_gives routine right_ty Int slots second at3 end stack stack stack t (p t) (λ b s. Ok (flag (holds b), s)) (h second t has2)
      (λ b t2 fits2. flag_gives slots fails (fails + 1) at3 end b stack t2 (omega arith) (omega (arith, len)) (omega (arith, len)) has3)))

  pub choice_gives : (test_ty ty : Ty) (test one other : Placed) (slots : List ℤ) (at : ℕ) (stack : List ℤ) (turns : ℕ) (o : Result (ℤ × ℕ) Trap) (p q : ℕ → Result (ℤ × ℕ) Trap)
      → HasAt routine.instrs at (choice_code test one other at)
      → (HasAt routine.instrs at (test at) → Gives routine test_ty slots at stack turns (at + length (test at)) stack o)
      → ((to t : ℕ) → HasAt routine.instrs to (one to) → Gives routine ty slots to stack t (to + length (one to)) stack (p t))
      → ((to t : ℕ) → HasAt routine.instrs to (other to) → Gives routine ty slots to stack t (to + length (other to)) stack (q t))
      → Gives routine ty slots at stack turns (at + length (choice_code test one other at)) stack (then_do o (λ a s. if holds a then p s else q s))
  choice_gives test_ty ty test one other slots at stack turns o p q has g h k =
      let code = routine.instrs in
      let first : List Instr = test at in
      let at2 : ℕ = at + length first + 1 in
      let second : List Instr = one at2 in
      let third : ℕ = at + length first + length second + 2 in
      let last : List Instr = other third in
      let jump : Instr = instr.Jump (third + length last) in
      let body : List Instr = first ++ instr.Zero third ∷ second in
      let size : length body ≡ length first + length second + 1 = omega (arith, length-append first (instr.Zero third ∷ second)) in
      let len : length (choice_code test one other at) ≡ length first + length second + length last + 2 = omega (arith, length-append body (jump ∷ last), size) in
      let end : ℕ = at + length (choice_code test one other at) in
      let has_body = has_front code at body (jump ∷ last) has in
      let has1 = has_back code at first (instr.Zero third ∷ second) has_body in
      let has2 = has_rest code (at + length first) at2 (instr.Zero third) second (omega arith) has1 in
      let at3 : ℕ = at2 + length second in
      let e3 : at + length body ≡ at3 = omega (arith, size) in
      let has3 = subst (λ n. HasAt code n (jump ∷ last)) e3 (has_back code at body (jump ∷ last) has) in
      let has4 = has_rest code at3 third jump last (omega arith) has3 in
      let jumps : (v : ℤ) (t : ℕ) → Leads routine (stands at3 (v ∷ stack) slots t) (stands end (v ∷ stack) slots t) =
      λ v t. leads_on routine _ _ _ (jump_leads (third + length last) at3 (v ∷ stack) slots t has3.0) (leads_same routine (third + length last) end (v ∷ stack) slots t (omega (arith, len))) in
      let stays : (v : ℤ) (t : ℕ) → Leads routine (stands (third + length last) (v ∷ stack) slots t) (stands end (v ∷ stack) slots t) =
      λ v t. leads_same routine (third + length last) end (v ∷ stack) slots t (omega (arith, len)) in
      let e2 : at2 ≡ suc (at + length first) = omega arith in
      then_gives routine test_ty ty slots at (at + length first) end stack stack stack turns o _ (g (has_front code at first (instr.Zero third ∷ second) has_body))
      (λ a t fits. branch_gives ty slots third (at + length first) end a stack t (p t) (q t) has1.0
      (subst (λ n. Gives routine ty slots n stack t end stack (p t)) e2 (before routine ty slots at2 at3 end stack stack t (p t) (h at2 t has2) jumps))
      (before routine ty slots third (third + length last) end stack stack t (q t) (k third t has4) stays))

  -- an operator's value, or its trap
  operator_gives : (callables : Callables) (values : Scope) (op : Op) (ty result : Ty) (slots : List ℤ) (at to : ℕ) (stack : List ℤ) (turns : ℕ) (a b : ℤ) (o : Result ℤ Trap)
      → slice_get routine.instrs at ≡ Some (instr.Binary op ty) → suc at ≡ to → op_of op ty a b ≡ o → IfOk o (λ c. InRange result c)
      → Gives routine result slots at (b ∷ a ∷ stack) turns to stack (raised (names_in callables values) o turns)
  operator_gives callables values op ty result slots at to stack turns a b (Ok v) here e does fits =
      one_gives routine result (instr.Binary op ty) slots at to (b ∷ a ∷ stack) stack turns v here e fits
      (ap (λ (r : Result ℤ Trap). giving by_trap (stands at (b ∷ a ∷ stack) slots turns) stack r) does)
  operator_gives callables values op ty result slots at to stack turns a b (Err trap) here e does fits =
      last_step routine (instr.Binary op ty) _ (Err trap) here (ap (λ (r : Result ℤ Trap). giving by_trap (stands at (b ∷ a ∷ stack) slots turns) stack r) does)

  pub binary_gives : (callables : Callables) (values : Scope) (op : Op) (left_ty right_ty : Ty) (left right : Placed) (slots : List ℤ) (at : ℕ) (stack : List ℤ) (turns : ℕ) (o : Result (ℤ × ℕ) Trap) (p : ℕ → Result (ℤ × ℕ) Trap)
      → HasAt routine.instrs at (then_code (left at) right at ++ instr.Binary op (operation_type op left_ty right_ty) ∷ [])
      → (HasAt routine.instrs at (left at) → Gives routine left_ty slots at stack turns (at + length (left at)) stack o)
      → ((to t : ℕ) (a : ℤ) → HasAt routine.instrs to (right to) → Gives routine right_ty slots to (a ∷ stack) t (to + length (right to)) (a ∷ stack) (p t))
      → Gives routine (result_type op left_ty right_ty) slots at stack turns
      (at + length (then_code (left at) right at ++ instr.Binary op (operation_type op left_ty right_ty) ∷ [])) stack
      (then_do o (λ a s. then_do (p s) (λ b s. raised (names_in callables values) (op_of op (operation_type op left_ty right_ty) a b) s)))
  binary_gives callables values op left_ty right_ty left right slots at stack turns o p has g h =
      let code = routine.instrs in
      let one : List Instr = left at in
      let at2 : ℕ = at + length one in
      let other : List Instr = right at2 in
      let last : Instr = instr.Binary op (operation_type op left_ty right_ty) in
      let has_parts = has_front code at (one ++ other) (last ∷ []) has in
      let e3 : at + length (one ++ other) ≡ at2 + length other = omega (arith, length-append one other) in
      let here = subst (λ n. slice_get code n ≡ Some last) e3 (has_back code at (one ++ other) (last ∷ []) has).0 in
      let end : ℕ = at + length ((one ++ other) ++ last ∷ []) in
      let e4 : suc (at2 + length other) ≡ end = omega (arith, length-append one other, length-append (one ++ other) (last ∷ [])) in
      let result : Ty = result_type op left_ty right_ty in
      then_gives routine left_ty result slots at at2 end stack stack stack turns o _ (g (has_front code at one other has_parts))
      (λ a t fits. then_gives routine right_ty result slots at2 (at2 + length other) end (a ∷ stack) (a ∷ stack) stack t (p t) _
      (h at2 t a (has_back code at one other has_parts))
      (λ b t2 fits2. operator_gives callables values op (operation_type op left_ty right_ty) result slots (at2 + length other) end stack t2 a b
      (op_of op (operation_type op left_ty right_ty) a b) here e4 refl (operated-in_range op left_ty right_ty a b fits)))
