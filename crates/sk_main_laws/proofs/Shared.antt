-- The instructions that main shares with functions, where they find what they need.
use Rattle.std.proofs.Common.{◌≡◌, ℕ, suc, ◌<◌, Bool, true, false, ◌&&◌, ◌||◌, nat_lt, if◌then◌else◌, List, [], ◌∷◌, length, map, ℤ, Option, Some, None, Result, Ok, Err, IfOk, IsSomeAnd, Contains, slice_get, slice_set, arith, sym, refl, subst}
use Rattle.std.proofs.lemmas.Bool.Decides.{nat_tests}
use Rattle.std.proofs.lemmas.Option.{slice_get_within, same_Some}
use Rattle.std.specs.Cmp.{first_so}
use Rattle.sk_base.specs.Arithmetic.{InRange, wrapped, op_of, is_shift}
use Rattle.sk_base.specs.ArithmeticLaws.{wrapped-in_range, flag-in_range}
use Rattle.sk_base.specs.declared.number.Op.{Op}
use Rattle.sk_base.specs.declared.number.Trap.{Trap}
use Rattle.sk_base.specs.declared.number.Ty.{Ty}
use Rattle.sk_base.specs.declared.number.Ty.TheVariants.{Int}
use Rattle.sk_isa.specs.Configurations.{Goes, Stuck, giving, going, stored, with_one}
use Rattle.sk_isa.specs.Soundness.{IsOfType, is_number, left_if, number_type, of_one, serves}
use Rattle.sk_isa.specs.declared.code.Instr.{Instr}
use Rattle.sk_isa.specs.declared.code.Instr.TheVariants.{Push, Pop, Load, Store, Neg, Inv, Not, Wrap, Binary, Jump, Zero}
use Rattle.sk_isa.specs.declared.object.Object.{Object}
use Rattle.sk_isa_laws.proofs.Steps.{left_if_so, left_with_so, pushed, scalar_so, slot_type}
use Rattle.sk_isa_laws.proofs.TypedLists.{typed-length, typed-set, typed_at}
use Rattle.sk_isa_laws.proofs.Values.{inverse-in_range, number-in_range, operator-in_range, served}
use Rattle.sk_kernel.specs.Kernels.{AreOfTypes}
use Rattle.sk_main_code.specs.MainSoundness.{left_in_main, main_scalar, main_signature}
use Rattle.sk_main_code.specs.MainSteps.{MainNext, MainPoint, next_in_main, over_by}
use Rattle.sk_main_laws.proofs.Steps.{IsLeftBy, IsLeftNext, as_many, giving_so, going_so, of_one_so, of_two_so}
use Rattle.sk_main_laws.specs.FineWorlds.{IsFineWorld}
use Rattle.sk_meaning.specs.Evaluation.{kind_type}
use Rattle.sk_meaning.specs.Expressions.{holds, prefix_of, result_type}
use Rattle.sk_tree.specs.declared.tree.Un.TheVariants as prefix

-- what is found is not stuck
pub found_so : {A : Type 0} (P : MainNext → Type 0) (Q : A → Type 0) (found : Option A) (next : A → MainNext) → IsSomeAnd found Q → ((x : A) → Q x → P (next x))
    → P (elim found [ Some x ↦ next x | None ↦ Stuck ])
found_so P Q None next h so = absurd h
found_so P Q (Some x) next h so = so x h

module _ (object : Object) (point : MainPoint) (live : ℕ → Bool) (slots : AreOfTypes (map kind_type (main_signature object).slots) point.slots)
    (fine : IsFineWorld object live point.kept) (types left : List Ty) (typed : AreOfTypes types point.stack) where
  abbrev kinds : List Ty
  kinds = map kind_type (main_signature object).slots

  -- an instruction that leads to the next address, and leaves what it should leave
  abbrev Follows : Instr → Type 0
  Follows instr = left_in_main object instr types ≡ Some left → IsLeftNext object left live point (next_in_main object instr point)

  going_on : (stack : List ℤ) → AreOfTypes left stack → IsLeftNext object left live point (going point stack)
  going_on stack h = going_so object left live point slots stack fine h

  pub push_so : (number : ℤ) → Follows (Push number)
  push_so number e =
      let parts : (is_number number ≡ true) × (number_type number ∷ types ≡ left) = left_if_so (is_number number) (number_type number ∷ types) left e in
      going_on (number ∷ point.stack) (pushed (number_type number) types left number point.stack (number-in_range number parts.0) typed parts.1)

  pub pop_so : Follows Pop
  pop_so e = of_one_so (IsLeftNext object left live point) types point.stack (λ ty rest. Some rest) (λ a rest. going point rest) left typed e
      (λ ty rest a others fits h is. going_on others (subst (λ (l : List Ty). AreOfTypes l others) (same_Some rest left is) h))

  pub load_so : (slot : ℕ) → Follows (Load slot)
  load_so slot e = loaded (left_with_so (main_scalar object slot) types left e)
    where
      loaded : ((ty : Ty) × (main_scalar object slot ≡ Some ty) × (ty ∷ types ≡ left)) → IsLeftNext object left live point (next_in_main object (Load slot) point)
      loaded (ty, scalar, is) =
          found_so (IsLeftNext object left live point) (InRange ty) (slice_get point.slots slot) (λ value. going point (value ∷ point.stack))
          (typed_at kinds point.slots slot ty slots (slot_type (main_signature object).slots slot ty (scalar_so (slice_get (main_signature object).slots slot) ty scalar)))
          (λ value fits. going_on (value ∷ point.stack) (pushed ty types left value point.stack fits typed is))

  stored_so : (slot : ℕ) (wanted : Ty) (value : ℤ) (others : List ℤ) → slice_get kinds slot ≡ Some wanted → InRange wanted value
      → AreOfTypes left others → IsLeftNext object left live point (stored point slot value others)
  stored_so slot wanted value others there fits h =
      subst (λ (test : Bool). IsLeftNext object left live point (if test then Goes (record point { at = suc point.at; stack = others; slots = slice_set point.slots slot value }) else Stuck))
      (sym inside)
      (record {
        stack = h;
        slots = typed-set kinds point.slots slot wanted value slots there fits;
        led = (0, omega arith, refl);
        statements = refl;
        world = fine;
      })
    where
      within : (a b c : ℕ) → a < b → b ≡ c → nat_lt a c ≡ true
      within a b c less same = grind (arith, nat_tests)

      inside : nat_lt slot (length point.slots) ≡ true
      inside = within slot (length kinds) (length point.slots) (slice_get_within kinds slot wanted there) (typed-length kinds point.slots slots)

  pub store_so : (slot : ℕ) → Follows (Store slot)
  store_so slot e = of_one_so (IsLeftNext object left live point) types point.stack
      (λ ty rest. elim (main_scalar object slot) [ Some wanted ↦ left_if (serves ty wanted) rest | None ↦ None ])
      (λ a rest. stored point slot a rest) left typed e
      (λ ty rest a others fits h is. stored_at ty rest a others fits h (main_scalar object slot) refl is)
    where
      stored_at : (ty : Ty) (rest : List Ty) (a : ℤ) (others : List ℤ) → InRange ty a → AreOfTypes rest others
          → (found : Option Ty) → main_scalar object slot ≡ found
          → elim found [ Some wanted ↦ left_if (serves ty wanted) rest | None ↦ None ] ≡ Some left
          → IsLeftNext object left live point (stored point slot a others)
      stored_at ty rest a others fits h None scalar is = cc
      stored_at ty rest a others fits h (Some wanted) scalar is =
          let parts : (serves ty wanted ≡ true) × (rest ≡ left) = left_if_so (serves ty wanted) rest left is in
          stored_so slot wanted a others (slot_type (main_signature object).slots slot wanted (scalar_so (slice_get (main_signature object).slots slot) wanted scalar))
          (served ty wanted a parts.0 fits) (subst (λ (l : List Ty). AreOfTypes l others) parts.1 h)

  -- one value in place of another
  changed_so : (wanted : Ty) (test : Ty → Bool) (value : ℤ → ℤ) → ((ty : Ty) (a : ℤ) → test ty ≡ true → InRange ty a → InRange wanted (value a))
      → of_one types (λ given rest. left_if (test given) (wanted ∷ rest)) ≡ Some left
      → IsLeftNext object left live point (with_one point.stack (λ a rest. going point (value a ∷ rest)))
  changed_so wanted test value suits e = of_one_so (IsLeftNext object left live point) types point.stack (λ given rest. left_if (test given) (wanted ∷ rest))
      (λ a rest. going point (value a ∷ rest)) left typed e (λ ty rest a others fits h is.
      changed ty rest a others fits h (left_if_so (test ty) (wanted ∷ rest) left is))
    where
      changed : (ty : Ty) (rest : List Ty) (a : ℤ) (others : List ℤ) → InRange ty a → AreOfTypes rest others → ((test ty ≡ true) × (wanted ∷ rest ≡ left))
          → IsLeftNext object left live point (going point (value a ∷ others))
      changed ty rest a others fits h (so, is) = going_on (value a ∷ others) (pushed wanted rest left (value a) others (suits ty a so fits) h is)

  pub negated_so : (ty : Ty) → Follows (Neg ty)
  negated_so ty e = changed_so ty (λ given. serves given ty) (prefix_of prefix.Neg ty) (λ given a so fits. wrapped-in_range ty _) e

  pub inverted_so : (ty : Ty) → Follows (Inv ty)
  inverted_so ty e = changed_so ty (λ given. serves given ty) (prefix_of prefix.Inv ty) (λ given a so fits. inverse-in_range ty a (served given ty a so fits)) e

  pub not_so : Follows Not
  not_so e = changed_so Int (λ given. true) (prefix_of prefix.Not Int) (λ given a so fits. flag-in_range Int _) e

  pub wrap_so : Follows Wrap
  wrap_so e = changed_so Int (λ given. true) (wrapped Int) (λ given a so fits. wrapped-in_range Int a) e

  pub binary_so : (op : Op) (ty : Ty) → Follows (Binary op ty)
  binary_so op ty e = of_two_so (IsLeftNext object left live point) types point.stack
      (λ one other rest. left_if (serves one ty && (is_shift op || serves other ty)) (result_type op ty ty ∷ rest))
      (λ a b rest. giving over_by point rest (op_of op ty a b)) left typed e
      (λ one other rest a b others fits fit h is.
      both one other rest a b others fits h (left_if_so (serves one ty && (is_shift op || serves other ty)) (result_type op ty ty ∷ rest) left is))
    where
      of_type : (result : Result ℤ Trap) (wanted : Ty) → IfOk result (InRange wanted) → IsOfType wanted result
      of_type (Ok value) wanted fits = fits
      of_type (Err trap) wanted fits = tt

      both : (one other : Ty) (rest : List Ty) (a b : ℤ) (others : List ℤ) → InRange one a → AreOfTypes rest others
          → ((serves one ty && (is_shift op || serves other ty)) ≡ true) × (result_type op ty ty ∷ rest ≡ left)
          → IsLeftNext object left live point (giving over_by point others (op_of op ty a b))
      both one other rest a b others fits h (so, is) = giving_so object left live point slots (result_type op ty ty) rest others (op_of op ty a b) fine h
          (of_type (op_of op ty a b) (result_type op ty ty)
          (operator-in_range op ty a b (served one ty a (first_so (serves one ty) (is_shift op || serves other ty) so) fits))) is

  pub jump_so : (to : ℕ) → left_in_main object (Jump to) types ≡ Some left → IsLeftBy object left (to ∷ []) live as_many point (next_in_main object (Jump to) point)
  jump_so to e = record {
    stack = subst (λ (l : List Ty). AreOfTypes l point.stack) (same_Some types left e) typed;
    slots = slots;
    led = (0, omega arith, refl);
    statements = refl;
    world = fine;
  }

  pub zero_so : (to : ℕ) → left_in_main object (Zero to) types ≡ Some left
      → IsLeftBy object left (suc point.at ∷ to ∷ []) live as_many point (next_in_main object (Zero to) point)
  zero_so to e = of_one_so (IsLeftBy object left (suc point.at ∷ to ∷ []) live as_many point) types point.stack (λ ty rest. Some rest)
      (λ a rest. Goes (record point { at = if holds a then suc point.at else to; stack = rest })) left typed e
      (λ ty rest a others fits h is. record {
        stack = subst (λ (l : List Ty). AreOfTypes l others) (same_Some rest left is) h;
        slots = slots;
        led = either (holds a);
        statements = refl;
        world = fine;
      })
    where
      either : (test : Bool) → Contains (suc point.at ∷ to ∷ []) (if test then suc point.at else to)
      either true = (0, omega arith, refl)
      either false = (1, omega arith, refl)
