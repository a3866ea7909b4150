-- The code of a plain expression gives the expression's value.
use Rattle.std.proofs.Common.{◌≡◌, ℕ, suc, ◌+◌, List, [], ◌∷◌, ◌++◌, length, map, ℤ, pos, negsuc, Option, Some, None, refl, sym, ap, ◌∙◌, subst, arith, length-append}
use Rattle.std.proofs.lemmas.Bool.{leb-true}
use Rattle.std.specs.Prelude.{Result, Ok, true, false, Bool, ◌&&◌}
use Rattle.std.specs.List.{list_all}
use Rattle.sk_base.specs.declared.number.Ty.{Ty}
use Rattle.sk_base.specs.declared.number.Ty.TheVariants.{Int, Long}
use Rattle.sk_base.specs.declared.number.Op.{Op}
use Rattle.sk_base.specs.declared.number.Trap.{Trap}
use Rattle.sk_base.specs.Arithmetic.{InRange}
use Rattle.sk_names.specs.Bindings.{bound_to}
use Rattle.sk_meaning.specs.Evaluation.{Argument, Callables, Callable, Scope, Value, field_of, Binding, names_in, kind_type, number_in, keeping, element_at}
use Rattle.sk_meaning.specs.Expressions.{ExpressionMeaning, Names, meaning_of, meaning_step, values_of, then_do, wider, operation_type, result_type, prefix_type}
use Rattle.sk_tree.specs.declared.tree.ParamKind.{ParamKind}
use Rattle.sk_tree.specs.declared.tree.ParamKind.TheVariants.{Scalar, Index, Proxy, Region}
use Rattle.sk_tree.specs.declared.tree.Un.{Un}
use Rattle.sk_tree.specs.declared.tree.Expr.{Expr, Expr-F, roll-Expr, map-Expr, fold-roll-Expr, ind-Expr}
use Rattle.sk_tree.specs.declared.tree.Expr.TheOpen as layer
use Rattle.sk_isa.specs.Coded.{Routine, Next}
use Rattle.sk_isa.specs.Configurations.{Goes, Stuck}
use Rattle.sk_scheme.specs.Pieces.{narrowed, wanted_code, places_code, arguments_code, prefix_code}
use Rattle.sk_scheme.specs.Scheme.{Slot, Known, Around, Compiled, compiled_of, compiled_step, applied_code, applied_type, field_code, name_code, name_type}
use Rattle.sk_scheme.proofs.ScalarNames.{scalar-code}
use Rattle.sk_isa.specs.declared.code.Instr.{Instr}
use Rattle.sk_isa.specs.declared.code.Instr.TheVariants as instr
use Rattle.sk_plain.specs.Plain.{Parameters, NamedKinds, is_plain_expression, plain_expression_step, fits_type, has_places, is_applied, is_scalar_name, takes}
use Rattle.sk_scheme_runs.proofs.Runs.{HasAt, has_front, has_back, stands, leads_same, Gives, widened, one_gives}
use Rattle.sk_scheme_runs.proofs.ExpressionNodes.{prefix_gives, wanted_gives, push_gives, both_gives, either_gives, choice_gives, binary_gives, wider_left, wider_right}
use Rattle.sk_scheme_runs.proofs.Calls.{GivesMany, more_gives, apply_gives, GivesPlace, place_gives, element_gives}
use Rattle.sk_plain.proofs.Truths.{and_left, and_right}
use Rattle.sk_plain.proofs.PlainParts.{kinds_taken}
use Rattle.sk_plain.proofs.Parts.{exprs_of, codes_at, codes_length, plains, plains_length, parts_plain}
use Rattle.sk_plain.proofs.Bindings.{names_of}
use Rattle.sk_plain.proofs.Slots.{IsScalarSlot, IsFieldSlot, scalar_slot, field_slot, slot_of, no_slot}
use Rattle.sk_isa_laws.proofs.Values.{field-in_range, item-of_type, region-of_type}
use Rattle.sk_isa.specs.Soundness.{is_scalar}
use Rattle.sk_scheme_runs.proofs.Agreement.{Agree, AreCallees, IsHeld, name_bound, name_unbound, callee_found, scalar_held, other_held}

pub number-in_range : (ty : Ty) (number : ℤ) → fits_type ty number ≡ true → InRange ty number
number-in_range Int (pos n) e = record { sfits = omega (arith, leb-true n 2147483647 e) }
number-in_range Int (negsuc n) e = record { sfits = omega (arith, leb-true n 2147483647 (and_left _ true e)) }
number-in_range Long (pos n) e = record { sfits = omega (arith, leb-true n 9223372036854775807 e) }
number-in_range Long (negsuc n) e = record { sfits = omega (arith, leb-true n 9223372036854775807 (and_left _ true e)) }

-- where an expression stands: the scopes of the scheme and of evaluation, and the slots, for a function's arguments
pub record Situation (arguments : List Argument) : Type 0 where
  pub scope : List (List ℕ × Slot)
  pub values : Scope
  pub slots : List ℤ
  pub bound : ℕ
  pub agree : Agree arguments scope values slots bound

module _ (routine : Routine) (parameters : Parameters) (functions : List (List ℕ × Known)) (callables : Callables) where
  abbrev pub around_of : Situation routine.arguments → Around
  around_of s = record { functions = functions; scope = s.scope }

  abbrev pub names_at : Situation routine.arguments → Names ℕ Trap
  names_at s = names_in callables s.values

  -- an expression's code gives its value where it is plain
  pub record IsCompiled (m : ExpressionMeaning ℕ Trap) (c : Compiled) (plain : Parameters → NamedKinds → Bool) : Type 0 where
    pub ty : (s : Situation routine.arguments) → plain parameters (names_of s.scope) ≡ true → m.ty (names_at s) ≡ c.ty (around_of s)
    pub gives : (s : Situation routine.arguments) → plain parameters (names_of s.scope) ≡ true → (at : ℕ) (stack : List ℤ) (turns : ℕ) → HasAt routine.instrs at (c.code (around_of s) at)
        → Gives routine (c.ty (around_of s)) s.slots at stack turns (at + length (c.code (around_of s) at)) stack (m.value (names_at s) turns)

  number_compiled : (ty : Ty) (number : ℤ) → IsCompiled (meaning_step (layer.Number ty number)) (compiled_step (layer.Number ty number)) (plain_expression_step (layer.Number ty number))
  number_compiled ty number = record {
    ty = λ s plain. refl;
    gives = λ s plain at stack turns has. push_gives routine ty number s.slots at (at + 1) stack turns has.0 (omega arith) (number-in_range ty number plain);
  }

  name_compiled : (name : List ℕ) → IsCompiled (meaning_step (layer.Name name)) (compiled_step (layer.Name name)) (plain_expression_step (layer.Name name))
  name_compiled name = record { ty = types; gives = λ s plain at stack turns has. loads s (scalar_slot name s.scope plain) at stack turns has }
    where
      types : (s : Situation routine.arguments) → is_scalar_name name (names_of s.scope) ≡ true → ((names_at s).scalar name).0 ≡ name_type (bound_to name s.scope)
      types s plain =
          let b = scalar_slot name s.scope plain in
          let local = name_bound routine.arguments name b.slot s.scope s.values s.slots s.bound s.agree b.is in
          ap (λ (o : Option Binding). (elim o as (λ x. Ty × ℤ) [ Some binding ↦ (kind_type binding.kind, number_in binding.argument) | None ↦ (Int, pos 0) ]).0) local.binding_is
          ∙ sym (ap kind_type local.kind_is) ∙ sym (ap name_type b.is)

      loads : (s : Situation routine.arguments) (b : IsScalarSlot name s.scope) (at : ℕ) (stack : List ℤ) (turns : ℕ) → HasAt routine.instrs at (name_code (bound_to name s.scope))
          → Gives routine (name_type (bound_to name s.scope)) s.slots at stack turns (at + length (name_code (bound_to name s.scope))) stack (Ok (((names_at s).scalar name).1, turns))
      loads s b at stack turns has =
          let local = name_bound routine.arguments name b.slot s.scope s.values s.slots s.bound s.agree b.is in
          let scalar = scalar_held routine.arguments s.slots b.slot.number b.slot.kind local.binding.argument b.ty b.kind local.held in
          let value_is : ((names_at s).scalar name).1 ≡ scalar.value =
          ap (λ (o : Option Binding). (elim o as (λ x. Ty × ℤ) [ Some binding ↦ (kind_type binding.kind, number_in binding.argument) | None ↦ (Int, pos 0) ]).1) local.binding_is
          ∙ ap number_in scalar.argument_is in
          let has' : HasAt routine.instrs at (instr.Load b.slot.number ∷ []) =
          subst (λ (c : List Instr). HasAt routine.instrs at c) (scalar-code b.slot b.ty b.kind)
          (subst (λ (o : Option Slot). HasAt routine.instrs at (name_code o)) b.is has) in
          let does = ap (λ (o : Option ℤ). elim o as (λ x. Next) [ Some value ↦ Goes (stands (suc at) (value ∷ stack) s.slots turns) | None ↦ Stuck ]) scalar.held in
          let fits : InRange (kind_type b.slot.kind) scalar.value = subst (λ k. InRange (kind_type k) scalar.value) (sym b.kind) scalar.fits in
          let g = one_gives routine (kind_type b.slot.kind) (instr.Load b.slot.number) s.slots at (at + 1) stack stack turns scalar.value has'.0 (omega arith) fits does in
          let g' = subst (λ (v : ℤ). Gives routine (kind_type b.slot.kind) s.slots at stack turns (at + 1) stack (Ok (v, turns))) (sym value_is) g in
          let g'' = subst (λ (c : List Instr). Gives routine (kind_type b.slot.kind) s.slots at stack turns (at + length c) stack (Ok (((names_at s).scalar name).1, turns)))
          (sym (scalar-code b.slot b.ty b.kind)) g' in
          subst (λ (o : Option Slot). Gives routine (name_type o) s.slots at stack turns (at + length (name_code o)) stack (Ok (((names_at s).scalar name).1, turns))) (sym b.is) g''

  -- a field of a parameter
  field_compiled : (name field : List ℕ) → IsCompiled (meaning_step (layer.Field name field)) (compiled_step (layer.Field name field)) (plain_expression_step (layer.Field name field))
  field_compiled name field = record { ty = λ s plain. refl; gives = λ s plain at stack turns has. reads s (field_slot name field s.scope plain) at stack turns has }
    where
      reads : (s : Situation routine.arguments) (b : IsFieldSlot name field s.scope) (at : ℕ) (stack : List ℤ) (turns : ℕ) → HasAt routine.instrs at (field_code (bound_to name s.scope) field)
          → Gives routine Int s.slots at stack turns (at + length (field_code (bound_to name s.scope) field)) stack (Ok ((names_at s).field name field, turns))
      reads s b at stack turns has =
          let local = name_bound routine.arguments name b.slot s.scope s.values s.slots s.bound s.agree b.is in
          let argument : Argument = local.binding.argument in
          let given = other_held routine.arguments s.slots b.slot.number b.slot.kind argument b.other local.held in
          let value_is : (names_at s).field name field ≡ field_of argument field =
          ap (λ (o : Option Binding). elim o as (λ x. ℤ) [ Some binding ↦ field_of binding.argument field | None ↦ pos 0 ]) local.binding_is in
          let has' : HasAt routine.instrs at (instr.Field b.slot.number field ∷ []) = subst (λ (o : Option Slot). HasAt routine.instrs at (field_code o field)) b.is has in
          let does = ap (λ (o : Option Argument). elim o as (λ x. Next) [ Some argument ↦ Goes (stands (suc at) (field_of argument field ∷ stack) s.slots turns) | None ↦ Stuck ]) given.0 in
          let g = one_gives routine Int (instr.Field b.slot.number field) s.slots at (at + 1) stack stack turns (field_of argument field) has'.0 (omega arith)
          (field-in_range b.slot.kind argument field given.1) does in
          let g' = subst (λ (v : ℤ). Gives routine Int s.slots at stack turns (at + 1) stack (Ok (v, turns))) (sym value_is) g in
          subst (λ (o : Option Slot). Gives routine Int s.slots at stack turns (at + length (field_code o field)) stack (Ok ((names_at s).field name field, turns))) (sym b.is) g'

  unary_compiled : (op : Un) (m : ExpressionMeaning ℕ Trap) (c : Compiled) (p : Parameters → NamedKinds → Bool) → IsCompiled m c p
      → IsCompiled (meaning_step (layer.Unary op m)) (compiled_step (layer.Unary op c)) (plain_expression_step (layer.Unary op p))
  unary_compiled op m c p is = record {
    ty = λ s plain. ap (prefix_type op) (is.ty s plain);
    gives = λ s plain at stack turns has.
        let code = c.code (around_of s) at in
        subst (λ (t : Ty). Gives routine (prefix_type op (c.ty (around_of s))) s.slots at stack turns (at + length (code ++ prefix_code op (c.ty (around_of s)) ∷ [])) stack
        (then_do (m.value (names_at s) turns) (λ a s. Ok (Rattle.sk_meaning.specs.Expressions.prefix_of op t a, s)))) (sym (is.ty s plain))
        (prefix_gives routine op (c.ty (around_of s)) code s.slots at stack turns (m.value (names_at s) turns) has
        (is.gives s plain at stack turns (has_front routine.instrs at code _ has)));
  }

  cast_compiled : (ty : Ty) (m : ExpressionMeaning ℕ Trap) (c : Compiled) (p : Parameters → NamedKinds → Bool) → IsCompiled m c p
      → IsCompiled (meaning_step (layer.Cast ty m)) (compiled_step (layer.Cast ty c)) (plain_expression_step (layer.Cast ty p))
  cast_compiled ty m c p is = record {
    ty = λ s plain. refl;
    gives = λ s plain at stack turns has.
        let code = c.code (around_of s) at in
        wanted_gives routine ty (c.ty (around_of s)) code s.slots at stack turns (m.value (names_at s) turns) has
        (is.gives s plain at stack turns (has_front routine.instrs at code _ has));
  }

  binary_compiled : (op : Op) (ml mr : ExpressionMeaning ℕ Trap) (cl cr : Compiled) (pl pr : Parameters → NamedKinds → Bool) → IsCompiled ml cl pl → IsCompiled mr cr pr
      → IsCompiled (meaning_step (layer.Binary op ml mr)) (compiled_step (layer.Binary op cl cr)) (plain_expression_step (layer.Binary op pl pr))
  binary_compiled op ml mr cl cr pl pr is_l is_r = record { ty = types; gives = computes }
    where
      left_plain : (s : Situation routine.arguments) → (pl parameters (names_of s.scope) && pr parameters (names_of s.scope)) ≡ true → pl parameters (names_of s.scope) ≡ true
      left_plain s plain = and_left (pl parameters (names_of s.scope)) (pr parameters (names_of s.scope)) plain

      right_plain : (s : Situation routine.arguments) → (pl parameters (names_of s.scope) && pr parameters (names_of s.scope)) ≡ true → pr parameters (names_of s.scope) ≡ true
      right_plain s plain = and_right (pl parameters (names_of s.scope)) (pr parameters (names_of s.scope)) plain

      types : (s : Situation routine.arguments) → (pl parameters (names_of s.scope) && pr parameters (names_of s.scope)) ≡ true
          → result_type op (ml.ty (names_at s)) (mr.ty (names_at s)) ≡ result_type op (cl.ty (around_of s)) (cr.ty (around_of s))
      types s plain =
          ap (λ t. result_type op t (mr.ty (names_at s))) (is_l.ty s (left_plain s plain)) ∙ ap (result_type op (cl.ty (around_of s))) (is_r.ty s (right_plain s plain))

      computes : (s : Situation routine.arguments) → (pl parameters (names_of s.scope) && pr parameters (names_of s.scope)) ≡ true → (at : ℕ) (stack : List ℤ) (turns : ℕ)
          → HasAt routine.instrs at ((compiled_step (layer.Binary op cl cr)).code (around_of s) at)
          → Gives routine (result_type op (cl.ty (around_of s)) (cr.ty (around_of s))) s.slots at stack turns (at + length ((compiled_step (layer.Binary op cl cr)).code (around_of s) at)) stack
          ((meaning_step (layer.Binary op ml mr)).value (names_at s) turns)
      computes s plain at stack turns has =
          let a = around_of s in
          let e : operation_type op (ml.ty (names_at s)) (mr.ty (names_at s)) ≡ operation_type op (cl.ty a) (cr.ty a) =
          ap (λ t. operation_type op t (mr.ty (names_at s))) (is_l.ty s (left_plain s plain)) ∙ ap (operation_type op (cl.ty a)) (is_r.ty s (right_plain s plain)) in
          subst (λ (t : Ty). Gives routine (result_type op (cl.ty a) (cr.ty a)) s.slots at stack turns (at + length ((compiled_step (layer.Binary op cl cr)).code a at)) stack
          (then_do (ml.value (names_at s) turns) (λ x s'. then_do (mr.value (names_at s) s') (λ y s'.
          Rattle.sk_meaning.specs.Expressions.raised (names_at s) (Rattle.sk_base.specs.Arithmetic.op_of op t x y) s')))) (sym e)
          (binary_gives routine callables s.values op (cl.ty a) (cr.ty a) (cl.code a) (cr.code a) s.slots at stack turns (ml.value (names_at s) turns) (mr.value (names_at s)) has
          (λ h. is_l.gives s (left_plain s plain) at stack turns h)
          (λ to t x h. is_r.gives s (right_plain s plain) to (x ∷ stack) t h))

  both_compiled : (ml mr : ExpressionMeaning ℕ Trap) (cl cr : Compiled) (pl pr : Parameters → NamedKinds → Bool) → IsCompiled ml cl pl → IsCompiled mr cr pr
      → IsCompiled (meaning_step (layer.Both ml mr)) (compiled_step (layer.Both cl cr)) (plain_expression_step (layer.Both pl pr))
  both_compiled ml mr cl cr pl pr is_l is_r = record {
    ty = λ s plain. refl;
    gives = λ s plain at stack turns has.
        let l = and_left (pl parameters (names_of s.scope)) (pr parameters (names_of s.scope)) plain in
        let r = and_right (pl parameters (names_of s.scope)) (pr parameters (names_of s.scope)) plain in
        let a = around_of s in
        both_gives routine (cl.ty a) (cr.ty a) (cl.code a) (cr.code a) s.slots at stack turns (ml.value (names_at s) turns) (mr.value (names_at s)) has
        (λ h. is_l.gives s l at stack turns h) (λ to t h. is_r.gives s r to stack t h);
  }

  either_compiled : (ml mr : ExpressionMeaning ℕ Trap) (cl cr : Compiled) (pl pr : Parameters → NamedKinds → Bool) → IsCompiled ml cl pl → IsCompiled mr cr pr
      → IsCompiled (meaning_step (layer.Either ml mr)) (compiled_step (layer.Either cl cr)) (plain_expression_step (layer.Either pl pr))
  either_compiled ml mr cl cr pl pr is_l is_r = record {
    ty = λ s plain. refl;
    gives = λ s plain at stack turns has.
        let l = and_left (pl parameters (names_of s.scope)) (pr parameters (names_of s.scope)) plain in
        let r = and_right (pl parameters (names_of s.scope)) (pr parameters (names_of s.scope)) plain in
        let a = around_of s in
        either_gives routine (cl.ty a) (cr.ty a) (cl.code a) (cr.code a) s.slots at stack turns (ml.value (names_at s) turns) (mr.value (names_at s)) has
        (λ h. is_l.gives s l at stack turns h) (λ to t h. is_r.gives s r to stack t h);
  }

  choose_compiled : (mt m1 m2 : ExpressionMeaning ℕ Trap) (ct c1 c2 : Compiled) (pt p1 p2 : Parameters → NamedKinds → Bool) → IsCompiled mt ct pt → IsCompiled m1 c1 p1 → IsCompiled m2 c2 p2
      → IsCompiled (meaning_step (layer.Choose mt m1 m2)) (compiled_step (layer.Choose ct c1 c2)) (plain_expression_step (layer.Choose pt p1 p2))
  choose_compiled mt m1 m2 ct c1 c2 pt p1 p2 is_t is_1 is_2 = record {
    ty = λ s plain.
        let x = and_left (pt parameters (names_of s.scope) && p1 parameters (names_of s.scope)) (p2 parameters (names_of s.scope)) plain in
        let y = and_right (pt parameters (names_of s.scope)) (p1 parameters (names_of s.scope)) x in
        let z = and_right (pt parameters (names_of s.scope) && p1 parameters (names_of s.scope)) (p2 parameters (names_of s.scope)) plain in
        ap (λ t. wider t (m2.ty (names_at s))) (is_1.ty s y) ∙ ap (wider (c1.ty (around_of s))) (is_2.ty s z);
    gives = λ s plain at stack turns has.
        let x = and_left (pt parameters (names_of s.scope) && p1 parameters (names_of s.scope)) (p2 parameters (names_of s.scope)) plain in
        let w = and_left (pt parameters (names_of s.scope)) (p1 parameters (names_of s.scope)) x in
        let y = and_right (pt parameters (names_of s.scope)) (p1 parameters (names_of s.scope)) x in
        let z = and_right (pt parameters (names_of s.scope) && p1 parameters (names_of s.scope)) (p2 parameters (names_of s.scope)) plain in
        let a = around_of s in
        choice_gives routine (ct.ty a) (wider (c1.ty a) (c2.ty a)) (ct.code a) (c1.code a) (c2.code a) s.slots at stack turns (mt.value (names_at s) turns) (m1.value (names_at s)) (m2.value (names_at s)) has
        (λ h. is_t.gives s w at stack turns h)
        (λ to t h. widened routine (c1.ty a) (wider (c1.ty a) (c2.ty a)) s.slots to _ stack stack t (m1.value (names_at s) t) (wider_left (c1.ty a) (c2.ty a)) (is_1.gives s y to stack t h))
        (λ to t h. widened routine (c2.ty a) (wider (c1.ty a) (c2.ty a)) s.slots to _ stack stack t (m2.value (names_at s) t) (wider_right (c1.ty a) (c2.ty a)) (is_2.gives s z to stack t h));
  }

  -- the code of an expression gives its value
  abbrev pub IsRun : Expr → Type 0
  IsRun e = IsCompiled (meaning_of e) (compiled_of e) (is_plain_expression e)

  abbrev Parts : Type 0
  Parts = List ((e : Expr) × IsRun e)

  arguments_compiled : (ys : Parts) (kinds : List ParamKind) (s : Situation routine.arguments) → parts_plain parameters ys (names_of s.scope) ≡ true → length kinds ≡ length ys
      → (at : ℕ) (stack : List ℤ) (turns : ℕ) → HasAt routine.instrs at (arguments_code kinds (codes_at ys) (around_of s) at)
      → GivesMany routine kinds s.slots at stack turns (at + length (arguments_code kinds (codes_at ys) (around_of s) at)) (values_of (map meaning_of (exprs_of ys)) (names_at s) turns)
  arguments_compiled [] [] s plain n at stack turns has = (refl, omega arith, leads_same routine at (at + 0) stack s.slots turns (omega arith))
  arguments_compiled [] (kind ∷ kinds) s plain n at stack turns has = absurd (omega (arith, n))
  arguments_compiled (y ∷ ys) [] s plain n at stack turns has = absurd (omega (arith, n))
  arguments_compiled (y ∷ ys) (kind ∷ kinds) s plain n at stack turns has =
      let names = names_of s.scope in
      let a = around_of s in
      let first_plain : is_plain_expression y.0 parameters names ≡ true = and_left (is_plain_expression y.0 parameters names) (parts_plain parameters ys names) plain in
      let rest_plain : parts_plain parameters ys names ≡ true = and_right (is_plain_expression y.0 parameters names) (parts_plain parameters ys names) plain in
      let c = compiled_of y.0 in
      let first : List Instr = wanted_code (kind_type kind) c a at in
      let at1 : ℕ = at + length first in
      let rest : List Instr = arguments_code kinds (codes_at ys) a at1 in
      let to : ℕ = at + length (first ++ rest) in
      let e : at1 + length rest ≡ to = omega (arith, length-append first rest) in
      let has1 = has_front routine.instrs at first rest has in
      let g = wanted_gives routine (kind_type kind) (c.ty a) (c.code a at) s.slots at stack turns ((meaning_of y.0).value (names_at s) turns) has1
      (y.1.gives s first_plain at stack turns (has_front routine.instrs at (c.code a at) (narrowed (kind_type kind) (c.ty a)) has1)) in
      more_gives routine kind kinds s.slots at to stack turns ((meaning_of y.0).value (names_at s) turns) (values_of (map meaning_of (exprs_of ys)) (names_at s)) (kind_type kind) at1 g
      (λ v t. subst (λ m. GivesMany routine kinds s.slots at1 (v ∷ stack) t m (values_of (map meaning_of (exprs_of ys)) (names_at s) t)) e
      (arguments_compiled ys kinds s rest_plain (omega (arith, n)) at1 (v ∷ stack) t (has_back routine.instrs at first rest has)))

  -- the code of a place gives its coordinates
  places_compiled : (ys : Parts) (s : Situation routine.arguments) → parts_plain parameters ys (names_of s.scope) ≡ true
      → (at : ℕ) (stack : List ℤ) (turns : ℕ) → HasAt routine.instrs at (places_code (codes_at ys) (around_of s) at)
      → GivesPlace routine (length (codes_at ys)) s.slots at stack turns (at + length (places_code (codes_at ys) (around_of s) at)) (values_of (map meaning_of (exprs_of ys)) (names_at s) turns)
  places_compiled [] s plain at stack turns has = (refl, omega arith, leads_same routine at (at + 0) stack s.slots turns (omega arith))
  places_compiled (y ∷ ys) s plain at stack turns has =
      let names = names_of s.scope in
      let a = around_of s in
      let first_plain : is_plain_expression y.0 parameters names ≡ true = and_left (is_plain_expression y.0 parameters names) (parts_plain parameters ys names) plain in
      let rest_plain : parts_plain parameters ys names ≡ true = and_right (is_plain_expression y.0 parameters names) (parts_plain parameters ys names) plain in
      let c = compiled_of y.0 in
      let first : List Instr = c.code a at in
      let at1 : ℕ = at + length first in
      let rest : List Instr = places_code (codes_at ys) a at1 in
      let to : ℕ = at + length (first ++ rest) in
      let e : at1 + length rest ≡ to = omega (arith, length-append first rest) in
      let g = y.1.gives s first_plain at stack turns (has_front routine.instrs at first rest has) in
      place_gives routine (length (codes_at ys)) s.slots at at1 to stack turns ((meaning_of y.0).value (names_at s) turns) (values_of (map meaning_of (exprs_of ys)) (names_at s)) (c.ty a) g
      (λ v t. subst (λ m. GivesPlace routine (length (codes_at ys)) s.slots at1 (v ∷ stack) t m (values_of (map meaning_of (exprs_of ys)) (names_at s) t)) e
      (places_compiled ys s rest_plain at1 (v ∷ stack) t (has_back routine.instrs at first rest has)))

  -- the value of what is applied, by what its name stands for
  abbrev AppliedValue : List ℕ → Parts → Situation routine.arguments → Option Binding → Option Callable → ℕ → Result (ℤ × ℕ) Trap
  AppliedValue name ys s binding callable turns = then_do (values_of (map meaning_of (exprs_of ys)) (names_at s) turns) (λ values turns. elim binding as (λ x. Result (ℤ × ℕ) Trap) [
    | Some binding ↦ keeping (element_at binding.argument values) turns
    | None ↦ elim callable as (λ x. Result (ℤ × ℕ) Trap) [ Some callable ↦ callable.call (map Value values) turns | None ↦ Ok (pos 0, turns) ]
  ])

  -- the code of what is applied gives a value
  abbrev AppliedGives : Parts → Situation routine.arguments → Option Slot → Option Known → (at : ℕ) → List ℤ → ℕ → Result (ℤ × ℕ) Trap → Type 0
  AppliedGives ys s slot known at stack turns value = HasAt routine.instrs at (applied_code slot known (codes_at ys) (around_of s) at)
      → Gives routine (applied_type slot known) s.slots at stack turns (at + length (applied_code slot known (codes_at ys) (around_of s) at)) stack value

  element_compiled : (number : ℕ) (kind : ParamKind) (known : Option Known) (argument : Argument) (ys : Parts) (s : Situation routine.arguments) → parts_plain parameters ys (names_of s.scope) ≡ true
      → has_places kind (length (codes_at ys)) ≡ true → IsHeld routine.arguments s.slots number kind argument → (at : ℕ) (stack : List ℤ) (turns : ℕ)
      → AppliedGives ys s (Some (record { number = number; kind = kind })) known at stack turns
      (then_do (values_of (map meaning_of (exprs_of ys)) (names_at s) turns) (λ values turns. keeping (element_at argument values) turns))
  element_compiled number (Scalar ty) known argument ys s plain e held at stack turns has = let no : ⊥ = cc in absurd no
  element_compiled number (Index dimension) known argument ys s plain e held at stack turns has = let no : ⊥ = cc in absurd no
  element_compiled number (Proxy dimension ty) known argument ys s plain e held at stack turns has =
      let code : List Instr = places_code (codes_at ys) (around_of s) at in
      element_gives routine number (length (codes_at ys)) (instr.Item number (length (codes_at ys))) argument ty s.slots at stack turns code (values_of (map meaning_of (exprs_of ys)) (names_at s) turns)
      (λ point. refl) held.0 (λ place. item-of_type dimension ty argument place held.1) has
      (places_compiled ys s plain at stack turns (has_front routine.instrs at code (instr.Item number (length (codes_at ys)) ∷ []) has))
  element_compiled number (Region dimension ty) known argument ys s plain e held at stack turns has =
      let code : List Instr = places_code (codes_at ys) (around_of s) at in
      element_gives routine number (length (codes_at ys)) (instr.Region number (length (codes_at ys))) argument ty s.slots at stack turns code (values_of (map meaning_of (exprs_of ys)) (names_at s) turns)
      (λ point. refl) held.0 (λ place. region-of_type dimension ty argument place held.1) has
      (places_compiled ys s plain at stack turns (has_front routine.instrs at code (instr.Region number (length (codes_at ys)) ∷ []) has))

  -- what is said of something applied where it stands
  record IsAppliedThere (name : List ℕ) (ys : Parts) (s : Situation routine.arguments) : Type 0 where
    ty : (names_at s).applied name ≡ applied_type (bound_to name s.scope) (bound_to name functions)
    gives : (at : ℕ) (stack : List ℤ) (turns : ℕ)
        → AppliedGives ys s (bound_to name s.scope) (bound_to name functions) at stack turns (AppliedValue name ys s (bound_to name s.values) (bound_to name callables) turns)

  abbrev applied_kind : Option Binding → Option Callable → Ty
  applied_kind binding callable = elim binding as (λ x. Ty) [
    | Some binding ↦ kind_type binding.kind
    | None ↦ elim callable as (λ x. Ty) [ Some callable ↦ callable.ret | None ↦ Int ]
  ]

  element_there : (name : List ℕ) (ys : Parts) (s : Situation routine.arguments) (kind : ParamKind) → parts_plain parameters ys (names_of s.scope) ≡ true
      → bound_to name (names_of s.scope) ≡ Some kind → has_places kind (length (plains ys)) ≡ true → IsAppliedThere name ys s
  element_there name ys s kind plain is e =
      let b = slot_of name kind s.scope is in
      let local = name_bound routine.arguments name b.slot s.scope s.values s.slots s.bound s.agree b.is in
      let many : has_places b.slot.kind (length (codes_at ys)) ≡ true =
      ap (λ (k : ParamKind). has_places k (length (codes_at ys))) b.kind_is ∙ ap (has_places kind) (codes_length ys ∙ sym (plains_length ys)) ∙ e in
      record {
        ty = ap (λ (o : Option Binding). applied_kind o (bound_to name callables)) local.binding_is ∙ sym (ap kind_type local.kind_is) ∙ sym (ap (λ (o : Option Slot). applied_type o (bound_to name functions)) b.is);
        gives = λ at stack turns.
            subst (λ (o : Option Slot). AppliedGives ys s o (bound_to name functions) at stack turns (AppliedValue name ys s (bound_to name s.values) (bound_to name callables) turns)) (sym b.is)
            (subst (λ (o : Option Binding). AppliedGives ys s (Some b.slot) (bound_to name functions) at stack turns (AppliedValue name ys s o (bound_to name callables) turns)) (sym local.binding_is)
            (element_compiled b.slot.number b.slot.kind (bound_to name functions) local.binding.argument ys s plain many local.held at stack turns));
      }

  call_there : AreCallees routine.callees parameters functions callables → (name : List ℕ) (ys : Parts) (s : Situation routine.arguments) → parts_plain parameters ys (names_of s.scope) ≡ true
      → bound_to name (names_of s.scope) ≡ None → takes (bound_to name parameters) (length (plains ys)) ≡ true → IsAppliedThere name ys s
  call_there callees name ys s plain is e =
      let none = no_slot name s.scope is in
      let none' = name_unbound routine.arguments name s.scope s.values s.slots s.bound s.agree none in
      let c = kinds_taken (bound_to name parameters) (length (plains ys)) e in
      let f = callee_found routine.callees name c.kinds parameters functions callables callees c.is in
      let n : length f.known.kinds ≡ length ys = ap length f.same.kinds_are ∙ c.many ∙ plains_length ys in
      let same = f.same.called (ap (list_all is_scalar) f.same.kinds_are ∙ c.scalars) in
      record {
        ty = ap (λ (o : Option Binding). applied_kind o (bound_to name callables)) none' ∙ ap (λ (o : Option Callable). applied_kind None o) f.callable_is ∙ f.same.ret
            ∙ sym (ap (λ (o : Option Slot). applied_type o (bound_to name functions)) none ∙ ap (λ (o : Option Known). applied_type None o) f.known_is);
        gives = λ at stack turns.
            let values = values_of (map meaning_of (exprs_of ys)) (names_at s) turns in
            let code : List Instr = arguments_code f.known.kinds (codes_at ys) (around_of s) at in
            let g : AppliedGives ys s None (Some f.known) at stack turns (AppliedValue name ys s None (Some f.callable) turns) =
            λ has. apply_gives routine f.known f.callable same s.slots at stack turns code values has
            (arguments_compiled ys f.known.kinds s plain n at stack turns (has_front routine.instrs at code (instr.Call f.known.number ∷ []) has)) in
            subst (λ (o : Option Slot). AppliedGives ys s o (bound_to name functions) at stack turns (AppliedValue name ys s (bound_to name s.values) (bound_to name callables) turns)) (sym none)
            (subst (λ (o : Option Known). AppliedGives ys s None o at stack turns (AppliedValue name ys s (bound_to name s.values) (bound_to name callables) turns)) (sym f.known_is)
            (subst (λ (o : Option Binding). AppliedGives ys s None (Some f.known) at stack turns (AppliedValue name ys s o (bound_to name callables) turns)) (sym none')
            (subst (λ (o : Option Callable). AppliedGives ys s None (Some f.known) at stack turns (AppliedValue name ys s None o turns)) (sym f.callable_is) g)));
      }

  applied_there : AreCallees routine.callees parameters functions callables → (name : List ℕ) (ys : Parts) (s : Situation routine.arguments)
      → (is_applied (bound_to name (names_of s.scope)) (bound_to name parameters) (length (plains ys)) && parts_plain parameters ys (names_of s.scope)) ≡ true → IsAppliedThere name ys s
  applied_there callees name ys s plain =
      let names = names_of s.scope in
      let test : Bool = is_applied (bound_to name names) (bound_to name parameters) (length (plains ys)) in
      by_name (and_right test (parts_plain parameters ys names) plain) (bound_to name names) refl (and_left test (parts_plain parameters ys names) plain)
    where
      by_name : parts_plain parameters ys (names_of s.scope) ≡ true → (found : Option ParamKind) → bound_to name (names_of s.scope) ≡ found
          → is_applied found (bound_to name parameters) (length (plains ys)) ≡ true → IsAppliedThere name ys s
      by_name parts (Some kind) is e = element_there name ys s kind parts is e
      by_name parts None is e = call_there callees name ys s parts is e

  apply_compiled : AreCallees routine.callees parameters functions callables → (name : List ℕ) (ys : Parts)
      → IsCompiled (meaning_step (layer.Apply name (map meaning_of (exprs_of ys)))) (compiled_step (layer.Apply name (codes_at ys))) (plain_expression_step (layer.Apply name (map is_plain_expression (exprs_of ys))))
  apply_compiled callees name ys = record {
    ty = λ s plain. (applied_there callees name ys s plain).ty;
    gives = λ s plain at stack turns has. (applied_there callees name ys s plain).gives at stack turns has;
  }

  never_plain : (m : ExpressionMeaning ℕ Trap) (c : Compiled) → IsCompiled m c (λ parameters names. false)
  never_plain m c = record {
    ty = λ s plain. let no : ⊥ = cc in absurd no;
    gives = λ s plain at stack turns has. let no : ⊥ = cc in absurd no;
  }

  -- one level
  level_compiled : AreCallees routine.callees parameters functions callables → (y : Expr-F ((e : Expr) × IsRun e))
      → IsCompiled (meaning_step (map-Expr Expr (ExpressionMeaning ℕ Trap) meaning_of (map-Expr ((e : Expr) × IsRun e) Expr (λ e. e.0) y)))
      (compiled_step (map-Expr Expr Compiled compiled_of (map-Expr ((e : Expr) × IsRun e) Expr (λ e. e.0) y)))
      (plain_expression_step (map-Expr Expr (Parameters → NamedKinds → Bool) is_plain_expression (map-Expr ((e : Expr) × IsRun e) Expr (λ e. e.0) y)))
  level_compiled callees (layer.Number ty number) = number_compiled ty number
  level_compiled callees (layer.Name name) = name_compiled name
  level_compiled callees (layer.Field name field) = field_compiled name field
  level_compiled callees (layer.Method name method) = never_plain _ _
  level_compiled callees (layer.Unary op y) = unary_compiled op _ _ _ y.1
  level_compiled callees (layer.Cast ty y) = cast_compiled ty _ _ _ y.1
  level_compiled callees (layer.Binary op y z) = binary_compiled op _ _ _ _ _ _ y.1 z.1
  level_compiled callees (layer.Both y z) = both_compiled _ _ _ _ _ _ y.1 z.1
  level_compiled callees (layer.Either y z) = either_compiled _ _ _ _ _ _ y.1 z.1
  level_compiled callees (layer.Choose x y z) = choose_compiled _ _ _ _ _ _ _ _ _ x.1 y.1 z.1
  level_compiled callees (layer.Apply name ys) = apply_compiled callees name ys

  rolled : (x : Expr-F Expr) → IsCompiled (meaning_step (map-Expr Expr (ExpressionMeaning ℕ Trap) meaning_of x)) (compiled_step (map-Expr Expr Compiled compiled_of x))
      (plain_expression_step (map-Expr Expr (Parameters → NamedKinds → Bool) is_plain_expression x)) → IsRun (roll-Expr x)
  rolled x is =
      subst (λ (m : ExpressionMeaning ℕ Trap). IsCompiled m (compiled_of (roll-Expr x)) (is_plain_expression (roll-Expr x))) (sym (fold-roll-Expr (ExpressionMeaning ℕ Trap) meaning_step x))
      (subst (λ (c : Compiled). IsCompiled (meaning_step (map-Expr Expr (ExpressionMeaning ℕ Trap) meaning_of x)) c (is_plain_expression (roll-Expr x))) (sym (fold-roll-Expr Compiled compiled_step x))
      (subst (λ (p : Parameters → NamedKinds → Bool). IsCompiled (meaning_step (map-Expr Expr (ExpressionMeaning ℕ Trap) meaning_of x)) (compiled_step (map-Expr Expr Compiled compiled_of x)) p)
      (sym (fold-roll-Expr (Parameters → NamedKinds → Bool) plain_expression_step x)) is))

  -- the code of each expression gives its value where it is plain
  pub expression_runs : AreCallees routine.callees parameters functions callables → (e : Expr) → IsRun e
  expression_runs callees = ind-Expr IsRun (λ x y is. subst (λ z. IsRun (roll-Expr z)) is (rolled (map-Expr ((e : Expr) × IsRun e) Expr (λ e. e.0) y) (level_compiled callees y)))
