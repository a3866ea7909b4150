-- Each instruction of a function, where it finds what it needs.
use Rattle.std.proofs.Common.{◌≡◌, ℕ, zero, suc, ◌<◌, ◌≤◌, Bool, true, false, ◌&&◌, ◌||◌, nat_lt, if◌then◌else◌, List, [], ◌∷◌, length, map, ℤ, Option, Some, None, Result, Ok, Err, IfOk, Contains, slice_get, slice_set, arith, sym, refl, subst}
use Rattle.std.proofs.lemmas.Bool.Decides.{nat_tests}
use Rattle.std.proofs.lemmas.Option.{slice_get_within, same_Some}
use Rattle.std.specs.Cmp.{first_so}
use Rattle.sk_base.specs.declared.number.Op.{Op}
use Rattle.sk_base.specs.declared.number.Trap.{Trap}
use Rattle.sk_base.specs.declared.number.Ty.{Ty}
use Rattle.sk_base.specs.declared.number.Ty.TheVariants.{Int}
use Rattle.sk_base.specs.Arithmetic.{InRange, wrapped, op_of, is_shift}
use Rattle.sk_base.specs.ArithmeticLaws.{wrapped-in_range, flag-in_range}
use Rattle.sk_meaning.specs.Evaluation.{element_at, field_of, kind_type}
use Rattle.sk_meaning.specs.Expressions.{holds, prefix_of, result_type}
use Rattle.sk_tree.specs.Parameters.{is_field}
use Rattle.sk_tree.specs.declared.tree.ParamKind.{ParamKind}
use Rattle.sk_tree.specs.declared.tree.ParamKind.TheVariants.{Proxy, Region as RegionKind}
use Rattle.sk_tree.specs.declared.tree.Un.TheVariants as prefix
use Rattle.sk_isa.specs.declared.code.Instr.{Instr}
use Rattle.sk_isa.specs.declared.code.Instr.TheVariants.{Push, Pop, Load, Store, Field, Item, Region, Neg, Inv, Not, Wrap, Binary, Jump, Zero, Turn, Call, Ret}
use Rattle.sk_isa.specs.declared.object.Signature.{Signature}
use Rattle.sk_isa.specs.Coded.{Callee, Point, Routine, next_of, turning, by_trap}
use Rattle.sk_isa.specs.Configurations.{Ends, Goes, Stuck, giving, going, returning, stored, with_many, with_one}
use Rattle.sk_kernel.specs.Kernels.{AreOfTypes}
use Rattle.sk_isa.specs.Soundness.{IsOfType, Named, SuitsParam, has_field, is_number, item_type, leads_to, left_by, left_by_call, left_by_ret, left_if, left_with, number_type, of_many, of_one, region_type, scalar_in, serve_for, serves}
use Rattle.sk_isa_laws.specs.Steps.{IsSoundCallee, TakesTurns}
use Rattle.sk_isa_laws.proofs.Steps.{IsLeftBy, IsLeftNext, Standing, found_so, giving_so, going_so, item_so, left_if_so, left_with_so, of_many_so, of_one_so, of_two_so, pushed, region_so, returning_so, scalar_so, slot_type}
use Rattle.sk_isa_laws.proofs.TypedLists.{suited_at, typed-length, typed-set, typed_arguments, typed_at}
use Rattle.sk_isa_laws.proofs.Values.{field-in_range, inverse-in_range, item-of_type, number-in_range, operator-in_range, region-of_type, served}

module _ (named : Named) (routine : Routine) (point : Point) (standing : Standing named routine point) (types left : List Ty) (typed : AreOfTypes types point.stack) where
  -- an instruction that leads to the next address, and leaves what it should leave
  abbrev pub Follows : Instr → Type 0
  Follows instr = left_by named instr types ≡ Some left → IsLeftNext named.own left point (next_of routine instr point)

  push_so : (number : ℤ) → Follows (Push number)
  push_so number e =
      let parts : (is_number number ≡ true) × (number_type number ∷ types ≡ left) = left_if_so (is_number number) (number_type number ∷ types) left e in
      going_so named.own left point (number ∷ point.stack) standing.slots
      (pushed (number_type number) types left number point.stack (number-in_range number parts.0) typed parts.1)

  pop_so : Follows Pop
  pop_so e = of_one_so (IsLeftNext named.own left point) types point.stack (λ ty rest. Some rest) (λ a rest. going point rest) left typed e
      (λ ty rest a others fits h is. going_so named.own left point others standing.slots
      (subst (λ (l : List Ty). AreOfTypes l others) (same_Some rest left is) h))

  load_so : (slot : ℕ) → Follows (Load slot)
  load_so slot e = loaded (left_with_so (scalar_in named slot) types left e)
    where
      loaded : ((ty : Ty) × (scalar_in named slot ≡ Some ty) × (ty ∷ types ≡ left)) → IsLeftNext named.own left point (next_of routine (Load slot) point)
      loaded (ty, scalar, is) =
          found_so (IsLeftNext named.own left point) (InRange ty) (slice_get point.slots slot) (λ value. going point (value ∷ point.stack))
          (typed_at (map kind_type named.own.slots) point.slots slot ty standing.slots
          (slot_type named.own.slots slot ty (scalar_so (slice_get named.own.slots slot) ty scalar)))
          (λ value fits. going_so named.own left point (value ∷ point.stack) standing.slots (pushed ty types left value point.stack fits typed is))

  stored_so : (slot : ℕ) (wanted : Ty) (value : ℤ) (others : List ℤ) → slice_get (map kind_type named.own.slots) slot ≡ Some wanted → InRange wanted value
      → AreOfTypes left others → IsLeftNext named.own left point (stored point slot value others)
  stored_so slot wanted value others there fits h =
      subst (λ (test : Bool). IsLeftNext named.own left point (if test then Goes (record point { at = suc point.at; stack = others; slots = slice_set point.slots slot value }) else Stuck))
      (sym inside)
      (record {
        stack = h;
        slots = typed-set (map kind_type named.own.slots) point.slots slot wanted value standing.slots there fits;
        led = (0, omega arith, refl);
        turns = omega arith;
      })
    where
      within : (a b c : ℕ) → a < b → b ≡ c → nat_lt a c ≡ true
      within a b c less same = grind (arith, nat_tests)

      inside : nat_lt slot (length point.slots) ≡ true
      inside = within slot (length (map kind_type named.own.slots)) (length point.slots) (slice_get_within (map kind_type named.own.slots) slot wanted there)
          (typed-length (map kind_type named.own.slots) point.slots standing.slots)

  store_so : (slot : ℕ) → Follows (Store slot)
  store_so slot e = of_one_so (IsLeftNext named.own left point) types point.stack
      (λ ty rest. elim (scalar_in named slot) [ Some wanted ↦ left_if (serves ty wanted) rest | None ↦ None ])
      (λ a rest. stored point slot a rest) left typed e
      (λ ty rest a others fits h is. stored_at ty rest a others fits h (scalar_in named slot) refl is)
    where
      stored_at : (ty : Ty) (rest : List Ty) (a : ℤ) (others : List ℤ) → InRange ty a → AreOfTypes rest others
          → (found : Option Ty) → scalar_in named slot ≡ found
          → elim found [ Some wanted ↦ left_if (serves ty wanted) rest | None ↦ None ] ≡ Some left
          → IsLeftNext named.own left point (stored point slot a others)
      stored_at ty rest a others fits h None scalar is = cc
      stored_at ty rest a others fits h (Some wanted) scalar is =
          let parts : (serves ty wanted ≡ true) × (rest ≡ left) = left_if_so (serves ty wanted) rest left is in
          stored_so slot wanted a others (slot_type named.own.slots slot wanted (scalar_so (slice_get named.own.slots slot) wanted scalar))
          (served ty wanted a parts.0 fits) (subst (λ (l : List Ty). AreOfTypes l others) parts.1 h)

  field_so : (slot : ℕ) (name : List ℕ) → Follows (Field slot name)
  field_so slot name e =
      let parts : (has_field named slot name ≡ true) × (Int ∷ types ≡ left) = left_if_so (has_field named slot name) (Int ∷ types) left e in
      there (slice_get named.own.params slot) refl parts.0 parts.1
    where
      there : (found : Option ParamKind) → slice_get named.own.params slot ≡ found
          → elim found [ Some kind ↦ is_field kind name | None ↦ false ] ≡ true → Int ∷ types ≡ left
          → IsLeftNext named.own left point (next_of routine (Field slot name) point)
      there None is test same = cc
      there (Some kind) is test same =
          found_so (IsLeftNext named.own left point) (SuitsParam kind) (slice_get routine.arguments slot) (λ argument. going point (field_of argument name ∷ point.stack))
          (suited_at named.own.params routine.arguments slot kind standing.arguments is)
          (λ argument suits. going_so named.own left point (field_of argument name ∷ point.stack) standing.slots
          (pushed Int types left (field_of argument name) point.stack (field-in_range kind argument name suits) typed same))

  item_there : (slot places : ℕ) → Follows (Item slot places)
  item_there slot places e = of_many_so (IsLeftNext named.own left point) places types point.stack
      (λ given rest. left_with (item_type named slot places) rest)
      (λ place rest. elim (slice_get routine.arguments slot) [ Some argument ↦ giving by_trap point rest (element_at argument place) | None ↦ Stuck ]) left typed e
      (λ given rest place others fit h is. item_at rest place others h (left_with_so (item_type named slot places) rest left is))
    where
      item_at : (rest : List Ty) (place others : List ℤ) → AreOfTypes rest others → ((ty : Ty) × (item_type named slot places ≡ Some ty) × (ty ∷ rest ≡ left))
          → IsLeftNext named.own left point (elim (slice_get routine.arguments slot) [ Some argument ↦ giving by_trap point others (element_at argument place) | None ↦ Stuck ])
      item_at rest place others h (ty, item, is) =
          let kind : (dimension : ℕ) × (slice_get named.own.params slot ≡ Some (Proxy dimension ty)) = item_so (slice_get named.own.params slot) places ty item in
          found_so (IsLeftNext named.own left point) (SuitsParam (Proxy kind.0 ty)) (slice_get routine.arguments slot) (λ argument. giving by_trap point others (element_at argument place))
          (suited_at named.own.params routine.arguments slot (Proxy kind.0 ty) standing.arguments kind.1)
          (λ argument suits. giving_so named.own ty rest left point others (element_at argument place) standing.slots h
          (item-of_type kind.0 ty argument place suits) is)

  region_there : (slot places : ℕ) → Follows (Region slot places)
  region_there slot places e = of_many_so (IsLeftNext named.own left point) places types point.stack
      (λ given rest. left_with (region_type named slot places) rest)
      (λ place rest. elim (slice_get routine.arguments slot) [ Some argument ↦ giving by_trap point rest (element_at argument place) | None ↦ Stuck ]) left typed e
      (λ given rest place others fit h is. region_at rest place others h (left_with_so (region_type named slot places) rest left is))
    where
      region_at : (rest : List Ty) (place others : List ℤ) → AreOfTypes rest others → ((ty : Ty) × (region_type named slot places ≡ Some ty) × (ty ∷ rest ≡ left))
          → IsLeftNext named.own left point (elim (slice_get routine.arguments slot) [ Some argument ↦ giving by_trap point others (element_at argument place) | None ↦ Stuck ])
      region_at rest place others h (ty, item, is) =
          let kind : (dimension : ℕ) × (slice_get named.own.params slot ≡ Some (RegionKind dimension ty)) = region_so (slice_get named.own.params slot) places ty item in
          found_so (IsLeftNext named.own left point) (SuitsParam (RegionKind kind.0 ty)) (slice_get routine.arguments slot) (λ argument. giving by_trap point others (element_at argument place))
          (suited_at named.own.params routine.arguments slot (RegionKind kind.0 ty) standing.arguments kind.1)
          (λ argument suits. giving_so named.own ty rest left point others (element_at argument place) standing.slots h
          (region-of_type kind.0 ty argument place suits) is)

  -- one value in place of another
  changed_so : (wanted : Ty) (test : Ty → Bool) (value : ℤ → ℤ) → ((ty : Ty) (a : ℤ) → test ty ≡ true → InRange ty a → InRange wanted (value a))
      → of_one types (λ given rest. left_if (test given) (wanted ∷ rest)) ≡ Some left
      → IsLeftNext named.own left point (with_one point.stack (λ a rest. going point (value a ∷ rest)))
  changed_so wanted test value fine e = of_one_so (IsLeftNext named.own left point) types point.stack (λ given rest. left_if (test given) (wanted ∷ rest))
      (λ a rest. going point (value a ∷ rest)) left typed e (λ ty rest a others fits h is.
      changed ty rest a others fits h (left_if_so (test ty) (wanted ∷ rest) left is))
    where
      changed : (ty : Ty) (rest : List Ty) (a : ℤ) (others : List ℤ) → InRange ty a → AreOfTypes rest others → ((test ty ≡ true) × (wanted ∷ rest ≡ left))
          → IsLeftNext named.own left point (going point (value a ∷ others))
      changed ty rest a others fits h (so, is) =
          going_so named.own left point (value a ∷ others) standing.slots (pushed wanted rest left (value a) others (fine ty a so fits) h is)

  negated_so : (ty : Ty) → Follows (Neg ty)
  negated_so ty e = changed_so ty (λ given. serves given ty) (prefix_of prefix.Neg ty) (λ given a so fits. wrapped-in_range ty _) e

  inverted_so : (ty : Ty) → Follows (Inv ty)
  inverted_so ty e = changed_so ty (λ given. serves given ty) (prefix_of prefix.Inv ty) (λ given a so fits. inverse-in_range ty a (served given ty a so fits)) e

  not_so : Follows Not
  not_so e = changed_so Int (λ given. true) (prefix_of prefix.Not Int) (λ given a so fits. flag-in_range Int _) e

  wrap_so : Follows Wrap
  wrap_so e = changed_so Int (λ given. true) (wrapped Int) (λ given a so fits. wrapped-in_range Int a) e

  binary_so : (op : Op) (ty : Ty) → Follows (Binary op ty)
  binary_so op ty e = of_two_so (IsLeftNext named.own left point) types point.stack
      (λ one other rest. left_if (serves one ty && (is_shift op || serves other ty)) (result_type op ty ty ∷ rest))
      (λ a b rest. giving by_trap point rest (op_of op ty a b)) left typed e
      (λ one other rest a b others fits fit h is.
      both one other rest a b others fits h (left_if_so (serves one ty && (is_shift op || serves other ty)) (result_type op ty ty ∷ rest) left is))
    where
      of_type : (result : Result ℤ Trap) (wanted : Ty) → IfOk result (InRange wanted) → IsOfType wanted result
      of_type (Ok value) wanted fits = fits
      of_type (Err trap) wanted fits = tt

      both : (one other : Ty) (rest : List Ty) (a b : ℤ) (others : List ℤ) → InRange one a → AreOfTypes rest others
          → ((serves one ty && (is_shift op || serves other ty)) ≡ true) × (result_type op ty ty ∷ rest ≡ left)
          → IsLeftNext named.own left point (giving by_trap point others (op_of op ty a b))
      both one other rest a b others fits h (so, is) = giving_so named.own (result_type op ty ty) rest left point others (op_of op ty a b) standing.slots h
          (of_type (op_of op ty a b) (result_type op ty ty)
          (operator-in_range op ty a b (served one ty a (first_so (serves one ty) (is_shift op || serves other ty) so) fits))) is

  call_so : (function : ℕ) → Follows (Call function)
  call_so function e = below (nat_lt function named.function) refl e
    where
      gives : (signature : Signature) (callee : Callee) → IsSoundCallee signature callee
          → of_many (length signature.params) types (λ given rest. left_if (serve_for given signature.params) (signature.ret ∷ rest)) ≡ Some left
          → IsLeftNext named.own left point (with_many callee.takes point.stack (λ values rest. returning point rest (callee.call values point.kept)))
      gives signature callee sound e =
          subst (λ (count : ℕ). IsLeftNext named.own left point (with_many count point.stack (λ values rest. returning point rest (callee.call values point.kept))))
          (sym sound.takes)
          (of_many_so (IsLeftNext named.own left point) (length signature.params) types point.stack
          (λ given rest. left_if (serve_for given signature.params) (signature.ret ∷ rest))
          (λ values rest. returning point rest (callee.call values point.kept)) left typed e
          (λ given rest values others fit h is. given_back given rest values others fit h
          (left_if_so (serve_for given signature.params) (signature.ret ∷ rest) left is)))
        where
          given_back : (given rest : List Ty) (values others : List ℤ) → AreOfTypes given values → AreOfTypes rest others
              → ((serve_for given signature.params ≡ true) × (signature.ret ∷ rest ≡ left))
              → IsLeftNext named.own left point (returning point others (callee.call values point.kept))
          given_back given rest values others fit h (serve, is) =
              returning_so named.own signature.ret rest left point others (callee.call values point.kept) standing.slots h
              (sound.gives values point.kept (typed_arguments given signature.params values serve fit)) is

      there : nat_lt function named.function ≡ true → (found : Option Signature) → slice_get named.signatures function ≡ found
          → left_by_call found types ≡ Some left → IsLeftNext named.own left point (next_of routine (Call function) point)
      there less None is e = cc
      there less (Some signature) is e =
          found_so (IsLeftNext named.own left point) (IsSoundCallee signature) (slice_get routine.callees function)
          (λ callee. with_many callee.takes point.stack (λ values rest. returning point rest (callee.call values point.kept)))
          (standing.callees.each function signature (earlier function named.function less) is)
          (λ callee sound. gives signature callee sound e)
        where
          earlier : (a b : ℕ) → nat_lt a b ≡ true → a < b
          earlier a b test = grind (arith, nat_tests)

      below : (test : Bool) → nat_lt function named.function ≡ test
          → (if test then left_by_call (slice_get named.signatures function) types else None) ≡ Some left
          → IsLeftNext named.own left point (next_of routine (Call function) point)
      below true less e = there less (slice_get named.signatures function) refl e
      below false less e = cc

  -- what an instruction leaves wherever it leads
  abbrev pub Leaves : Instr → Type 0
  Leaves instr = left_by named instr types ≡ Some left
      → IsLeftBy named.own left (leads_to instr point.at) (TakesTurns instr) point (next_of routine instr point)

  kept : Some types ≡ Some left → AreOfTypes left point.stack
  kept e = subst (λ (l : List Ty). AreOfTypes l point.stack) (same_Some types left e) typed

  jump_so : (to : ℕ) → Leaves (Jump to)
  jump_so to e = record { stack = kept e; slots = standing.slots; led = (0, omega arith, refl); turns = omega arith }

  zero_so : (to : ℕ) → Leaves (Zero to)
  zero_so to e = of_one_so (IsLeftBy named.own left (suc point.at ∷ to ∷ []) (λ turns fewer. fewer ≤ turns) point) types point.stack (λ ty rest. Some rest)
      (λ a rest. Goes (record point { at = if holds a then suc point.at else to; stack = rest })) left typed e
      (λ ty rest a others fits h is. record {
        stack = subst (λ (l : List Ty). AreOfTypes l others) (same_Some rest left is) h;
        slots = standing.slots;
        led = either (holds a);
        turns = omega arith;
      })
    where
      either : (test : Bool) → Contains (suc point.at ∷ to ∷ []) (if test then suc point.at else to)
      either true = (0, omega arith, refl)
      either false = (1, omega arith, refl)

  turn_so : Leaves Turn
  turn_so e = turned point.kept refl
    where
      turned : (turns : ℕ) → point.kept ≡ turns
          → IsLeftBy named.own left (suc point.at ∷ []) (λ before behind. before ≡ suc behind) point (turning point turns)
      turned zero is = tt
      turned (suc fewer) is = record { stack = kept e; slots = standing.slots; led = (0, omega arith, refl); turns = is }

ret_of : (ret : Ty) (types : List Ty) (stack : List ℤ) (left : List Ty) (turns : ℕ) → AreOfTypes types stack → left_by_ret ret types ≡ Some left
    → (own : Signature) (before : Point) → own.ret ≡ ret → before.kept ≡ turns
    → IsLeftBy own left [] (λ turns fewer. fewer ≤ turns) before (with_one stack (λ a rest. Ends (Ok (a, turns))))
ret_of ret [] stack left turns h e own before same is = cc
ret_of ret (ty ∷ []) [] left turns h e own before same is = absurd h
ret_of ret (ty ∷ []) (a ∷ others) left turns h e own before same is =
    let parts : (serves ty ret ≡ true) × ([] ≡ left) = left_if_so (serves ty ret) [] left e in
    (subst (λ (t : Ty). InRange t a) (sym same) (served ty ret a parts.0 h.0), omega arith)
ret_of ret (ty ∷ under ∷ rest) stack left turns h e own before same is = cc

-- Every instruction of a function that finds what it needs.
pub instruction_so : (named : Named) (routine : Routine) (point : Point) → Standing named routine point → (types left : List Ty)
    → AreOfTypes types point.stack → (instr : Instr) → left_by named instr types ≡ Some left
    → IsLeftBy named.own left (leads_to instr point.at) (TakesTurns instr) point (next_of routine instr point)
instruction_so named routine point standing types left typed (Push number) e = push_so named routine point standing types left typed number e
instruction_so named routine point standing types left typed Pop e = pop_so named routine point standing types left typed e
instruction_so named routine point standing types left typed (Load slot) e = load_so named routine point standing types left typed slot e
instruction_so named routine point standing types left typed (Store slot) e = store_so named routine point standing types left typed slot e
instruction_so named routine point standing types left typed (Field slot name) e = field_so named routine point standing types left typed slot name e
instruction_so named routine point standing types left typed (Item slot places) e = item_there named routine point standing types left typed slot places e
instruction_so named routine point standing types left typed (Region slot places) e = region_there named routine point standing types left typed slot places e
instruction_so named routine point standing types left typed (Neg ty) e = negated_so named routine point standing types left typed ty e
instruction_so named routine point standing types left typed (Inv ty) e = inverted_so named routine point standing types left typed ty e
instruction_so named routine point standing types left typed Not e = not_so named routine point standing types left typed e
instruction_so named routine point standing types left typed Wrap e = wrap_so named routine point standing types left typed e
instruction_so named routine point standing types left typed (Binary op ty) e = binary_so named routine point standing types left typed op ty e
instruction_so named routine point standing types left typed (Jump to) e = jump_so named routine point standing types left typed to e
instruction_so named routine point standing types left typed (Zero to) e = zero_so named routine point standing types left typed to e
instruction_so named routine point standing types left typed Turn e = turn_so named routine point standing types left typed e
instruction_so named routine point standing types left typed (Call function) e = call_so named routine point standing types left typed function e
instruction_so named routine point standing types left typed Ret e = ret_of named.own.ret types point.stack left point.kept typed e named.own point refl refl
instruction_so named routine point standing types left typed instr e = cc
