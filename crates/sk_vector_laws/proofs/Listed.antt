-- An expression over two numbers that is on the list of associative operators has the operator's value.
use Rattle.std.proofs.Common.{◌≡◌, ◌∙◌, ℕ, Bool, true, false, List, [], ◌∷◌, ℤ, pos, negsuc, Option, Some, None, if◌then◌else◌, refl, sym, ap, subst, arith}
use Rattle.std.proofs.Math.IntN.{*ℤ_comm, +ℤ_comm}
use Rattle.std.proofs.lemmas.Bool.{ltb-true, ltb-false}
use Rattle.std.proofs.lemmas.Nat.{and_comm, or_comm, xor_comm}
use Rattle.std.specs.Int.{cast_signed, cast_unsigned}
use Rattle.std.specs.Prelude.{◌&&◌, Ok, Result, int_lt, nat_lt}
use Rattle.sk_base.specs.Arithmetic.{InRange, flag, op_of, width_of, wrapped}
use Rattle.sk_base.specs.ArithmeticLaws.{op_of-in_range, wrapped-in_range, wrapped-same}
use Rattle.sk_base.specs.declared.number.Op.{Op}
use Rattle.sk_base.specs.declared.number.Op.TheVariants as op
use Rattle.sk_base.specs.declared.number.Trap.{Trap}
use Rattle.sk_base.specs.declared.number.Ty.{Ty}
use Rattle.sk_base.specs.declared.number.Ty.TheVariants.{Int, Long}
use Rattle.sk_meaning.specs.Evaluation.{Binding, Callables, Scope, kind_type, names_in, number_in, scalar_binding}
use Rattle.sk_meaning.specs.Expressions.{ExpressionMeaning, Names, holds, meaning_of, meaning_step, operation_type, raised, result_type, then_do, wider}
use Rattle.sk_names.specs.Bindings.{bound_to}
use Rattle.sk_names.specs.Bytes.{same_bytes}
use Rattle.sk_names.specs.BytesLaws.{same_bytes-same, same_bytes-true}
use Rattle.sk_plain.proofs.Bindings.{bound_to-here}
use Rattle.sk_plain.proofs.Truths.{some_same}
use Rattle.sk_safety.specs.Operators.{Left, Neither, Right, Side, are_both, choice_of, chosen_kind, commutative_of, comparison_of, kind_of_node, same_side, side_kind, side_of, side_of_node}
use Rattle.sk_tree.specs.Operators.{operator_value}
use Rattle.sk_tree.specs.declared.operator.OperatorKind.{OperatorKind}
use Rattle.sk_tree.specs.declared.operator.OperatorKind.TheVariants as listed
use Rattle.sk_tree.specs.declared.tree.Expr.{Expr, Expr-F, fold-roll-Expr, out-Expr, roll-Expr, roll-out-Expr}
use Rattle.sk_tree.specs.declared.tree.Expr.TheOpen as layer

-- ---- the lesser and the greater of two numbers

module _ {A : Type 0} (f : ℕ → A) where
  lesser_of : (m n : ℕ) → (if nat_lt n m then f n else f m) ≡ (if nat_lt m n then f m else f n)
  lesser_of m n = by_tests (nat_lt m n) (nat_lt n m) refl refl
    where
      by_tests : (t u : Bool) → nat_lt m n ≡ t → nat_lt n m ≡ u → (if u then f n else f m) ≡ (if t then f m else f n)
      by_tests true true e g = let x = ltb-true m n e in let y = ltb-true n m g in absurd (omega (arith, x, y))
      by_tests true false e g = refl
      by_tests false true e g = refl
      by_tests false false e g = let x = ltb-false m n e in let y = ltb-false n m g in let same : m ≡ n = omega (arith, x, y) in ap f same

  greater_of : (m n : ℕ) → (if nat_lt m n then f n else f m) ≡ (if nat_lt n m then f m else f n)
  greater_of m n = by_tests (nat_lt m n) (nat_lt n m) refl refl
    where
      by_tests : (t u : Bool) → nat_lt m n ≡ t → nat_lt n m ≡ u → (if t then f n else f m) ≡ (if u then f m else f n)
      by_tests true true e g = let x = ltb-true m n e in let y = ltb-true n m g in absurd (omega (arith, x, y))
      by_tests true false e g = refl
      by_tests false true e g = refl
      by_tests false false e g = let x = ltb-false m n e in let y = ltb-false n m g in let same : m ≡ n = omega (arith, x, y) in ap f same

lesser_same : (a b : ℤ) → (if int_lt b a then b else a) ≡ (if int_lt a b then a else b)
lesser_same (pos m) (pos n) = lesser_of pos m n
lesser_same (pos m) (negsuc n) = refl
lesser_same (negsuc m) (pos n) = refl
lesser_same (negsuc m) (negsuc n) = greater_of negsuc m n

greater_same : (a b : ℤ) → (if int_lt a b then b else a) ≡ (if int_lt b a then a else b)
greater_same (pos m) (pos n) = greater_of pos m n
greater_same (pos m) (negsuc n) = refl
greater_same (negsuc m) (pos n) = refl
greater_same (negsuc m) (negsuc n) = lesser_of negsuc m n

holds_flag : (t : Bool) → holds (flag t) ≡ t
holds_flag true = refl
holds_flag false = refl

wide_same : (ty : Ty) → wider ty ty ≡ ty
wide_same Int = refl
wide_same Long = refl

-- ---- two numbers of a type in scope

module _ (ty : Ty) (left right : List ℕ) (apart : same_bytes left right ≡ false) (callables : Callables) (a b : ℤ) (fits_a : InRange ty a) (fits_b : InRange ty b) where
  -- the latest first
  abbrev pub pair_scope : Scope
  pair_scope = (right, scalar_binding ty b) ∷ (left, scalar_binding ty a) ∷ []

  abbrev names : Names ℕ Trap
  names = names_in callables pair_scope

  abbrev value_by : OperatorKind → ℤ
  value_by kind = operator_value (record { kind = kind; ty = ty }) a b

  -- an expression of the type with this value
  pub record Gives (meaning : ExpressionMeaning ℕ Trap) (value : ℤ) : Type 0 where
    pub typed : meaning.ty names ≡ ty
    pub gives : (turns : ℕ) → meaning.value names turns ≡ Ok (value, turns)

  -- ---- names

  found_right : (name : List ℕ) → same_bytes name right ≡ true → bound_to name pair_scope ≡ Some (scalar_binding ty b)
  found_right name e =
      let same : name ≡ right = same_bytes-true name right e in
      let here : same_bytes right name ≡ true = ap (same_bytes right) same ∙ same_bytes-same right in
      bound_to-here name right (right, scalar_binding ty b) ((left, scalar_binding ty a) ∷ []) true refl here

  found_left : (name : List ℕ) → same_bytes name left ≡ true → bound_to name pair_scope ≡ Some (scalar_binding ty a)
  found_left name e =
      let same : name ≡ left = same_bytes-true name left e in
      let here : same_bytes left name ≡ true = ap (same_bytes left) same ∙ same_bytes-same left in
      bound_to-here name right (right, scalar_binding ty b) ((left, scalar_binding ty a) ∷ []) false refl (other (same_bytes right name) refl)
      ∙ bound_to-here name left (left, scalar_binding ty a) [] true refl here
    where
      other : (t : Bool) → same_bytes right name ≡ t → same_bytes right name ≡ false
      other false h = h
      other true h =
          let same : right ≡ left = same_bytes-true right name h ∙ same_bytes-true name left e in
          let no : true ≡ false = sym (same_bytes-same left) ∙ sym (ap (same_bytes left) same) ∙ apart in
          absurd (cc no)

  name_gives : (name : List ℕ) (value : ℤ) → InRange ty value → bound_to name pair_scope ≡ Some (scalar_binding ty value) → Gives (meaning_of (roll-Expr (layer.Name name))) value
  name_gives name value fits found =
      subst (λ (m : ExpressionMeaning ℕ Trap). Gives m value) (sym (fold-roll-Expr (ExpressionMeaning ℕ Trap) meaning_step (layer.Name name)))
      (record {
        typed = ap (λ (o : Option Binding). (elim o as (λ _. Ty × ℤ) [ Some binding ↦ (kind_type binding.kind, number_in binding.argument) | None ↦ (Int, pos 0) ]).0) found;
        gives = λ turns.
            ap (λ (o : Option Binding). (let r : Result (ℤ × ℕ) Trap = Ok ((elim o as (λ _. Ty × ℤ) [ Some binding ↦ (kind_type binding.kind, number_in binding.argument) | None ↦ (Int, pos 0) ]).1, turns) in r)) found
            ∙ ap (λ (v : ℤ). (let r : Result (ℤ × ℕ) Trap = Ok (v, turns) in r)) (wrapped-same ty value fits);
      })

  abbrev Reads : Side → Expr → Type 0
  Reads Left expr = Gives (meaning_of expr) a
  Reads Right expr = Gives (meaning_of expr) b
  Reads Neither expr = Unit {0}

  level_reads : (level : Expr-F Expr) → Reads (side_of_node left right level) (roll-Expr level)
  level_reads (layer.Name name) = by_tests (same_bytes name left) (same_bytes name right) refl refl
    where
      by_tests : (t u : Bool) → same_bytes name left ≡ t → same_bytes name right ≡ u → Reads (if t then Left else if u then Right else Neither) (roll-Expr (layer.Name name))
      by_tests true u e g = name_gives name a fits_a (found_left name e)
      by_tests false true e g = name_gives name b fits_b (found_right name g)
      by_tests false false e g = tt
  level_reads (layer.Number of number) = tt
  level_reads (layer.Field name field) = tt
  level_reads (layer.Method name method) = tt
  level_reads (layer.Unary operation part) = tt
  level_reads (layer.Cast of part) = tt
  level_reads (layer.Binary operation one other) = tt
  level_reads (layer.Both one other) = tt
  level_reads (layer.Either one other) = tt
  level_reads (layer.Choose test one other) = tt
  level_reads (layer.Apply name arguments) = tt

  side_reads : (expr : Expr) → Reads (side_of left right expr) expr
  side_reads expr = subst (λ (e : Expr). Reads (side_of left right expr) e) (roll-out-Expr expr) (level_reads (out-Expr expr))

  -- ---- operators with two operands

  straight : (operation : Op) (kind : OperatorKind) → commutative_of operation ≡ Some kind → op_of operation ty a b ≡ Ok (value_by kind)
  straight op.Add kind e = ap (λ (k : OperatorKind). (let r : Result ℤ Trap = Ok (value_by k) in r)) (some_same listed.Add kind e)
  straight op.Mul kind e = ap (λ (k : OperatorKind). (let r : Result ℤ Trap = Ok (value_by k) in r)) (some_same listed.Mul kind e)
  straight op.And kind e = ap (λ (k : OperatorKind). (let r : Result ℤ Trap = Ok (value_by k) in r)) (some_same listed.And kind e)
  straight op.Or kind e = ap (λ (k : OperatorKind). (let r : Result ℤ Trap = Ok (value_by k) in r)) (some_same listed.Or kind e)
  straight op.Xor kind e = ap (λ (k : OperatorKind). (let r : Result ℤ Trap = Ok (value_by k) in r)) (some_same listed.Xor kind e)
  straight operation kind e = absurd (cc e)

  swapped : (operation : Op) (kind : OperatorKind) → commutative_of operation ≡ Some kind → op_of operation ty b a ≡ Ok (value_by kind)
  swapped op.Add kind e = ap (λ (z : ℤ). (let r : Result ℤ Trap = Ok (wrapped ty z) in r)) (+ℤ_comm b a) ∙ straight op.Add kind e
  swapped op.Mul kind e = ap (λ (z : ℤ). (let r : Result ℤ Trap = Ok (wrapped ty z) in r)) (*ℤ_comm b a) ∙ straight op.Mul kind e
  swapped op.And kind e =
      ap (λ n. (let r : Result ℤ Trap = Ok (cast_signed (width_of ty) n) in r)) (and_comm (cast_unsigned (width_of ty) b) (cast_unsigned (width_of ty) a)) ∙ straight op.And kind e
  swapped op.Or kind e =
      ap (λ n. (let r : Result ℤ Trap = Ok (cast_signed (width_of ty) n) in r)) (or_comm (cast_unsigned (width_of ty) b) (cast_unsigned (width_of ty) a)) ∙ straight op.Or kind e
  swapped op.Xor kind e =
      ap (λ n. (let r : Result ℤ Trap = Ok (cast_signed (width_of ty) n) in r)) (xor_comm (cast_unsigned (width_of ty) b) (cast_unsigned (width_of ty) a)) ∙ straight op.Xor kind e
  swapped operation kind e = absurd (cc e)

  types_same : (operation : Op) (kind : OperatorKind) → commutative_of operation ≡ Some kind → (operation_type operation ty ty ≡ ty) × (result_type operation ty ty ≡ ty)
  types_same op.Add kind e = (wide_same ty, wide_same ty)
  types_same op.Mul kind e = (wide_same ty, wide_same ty)
  types_same op.And kind e = (wide_same ty, wide_same ty)
  types_same op.Or kind e = (wide_same ty, wide_same ty)
  types_same op.Xor kind e = (wide_same ty, wide_same ty)
  types_same operation kind e = absurd (cc e)

  abbrev Meaning : Type 0
  Meaning = ExpressionMeaning ℕ Trap

  -- two values one after another
  then_two : (one other : Meaning) (x y : ℤ) → Gives one x → Gives other y → (next : ℤ → ℤ → ℕ → Result (ℤ × ℕ) Trap) (turns : ℕ)
      → then_do (one.value names turns) (λ v s. then_do (other.value names s) (λ w s. next v w s)) ≡ next x y turns
  then_two one other x y h g next turns =
      ap (λ (r : Result (ℤ × ℕ) Trap). then_do r (λ v s. then_do (other.value names s) (λ w s. next v w s))) (h.gives turns)
      ∙ ap (λ (r : Result (ℤ × ℕ) Trap). then_do r (λ w s. next x w s)) (g.gives turns)

  binary_gives : (operation : Op) (kind : OperatorKind) → commutative_of operation ≡ Some kind → (one other : Meaning) (x y : ℤ) → Gives one x → Gives other y
      → op_of operation ty x y ≡ Ok (value_by kind) → Gives (meaning_step (layer.Binary operation one other)) (value_by kind)
  binary_gives operation kind e one other x y h g is =
      let types = types_same operation kind e in
      record {
        typed = ap (λ t. result_type operation t (other.ty names)) h.typed ∙ ap (λ t. result_type operation ty t) g.typed ∙ types.1;
        gives = λ turns.
            then_two one other x y h g (λ v w s. raised names (op_of operation (operation_type operation (one.ty names) (other.ty names)) v w) s) turns
            ∙ ap (λ t. raised names (op_of operation t x y) turns) (ap (λ t. operation_type operation t (other.ty names)) h.typed ∙ ap (λ t. operation_type operation ty t) g.typed ∙ types.0)
            ∙ ap (λ (r : Result ℤ Trap). raised names r turns) is;
      }

  sides_give : (one_side other_side : Side) (operation : Op) (kind : OperatorKind) (one other : Expr) → Reads one_side one → Reads other_side other
      → (if are_both one_side other_side then commutative_of operation else None) ≡ Some kind → Gives (meaning_step (layer.Binary operation (meaning_of one) (meaning_of other))) (value_by kind)
  sides_give Left Right operation kind one other h g e = binary_gives operation kind e (meaning_of one) (meaning_of other) a b h g (straight operation kind e)
  sides_give Right Left operation kind one other h g e = binary_gives operation kind e (meaning_of one) (meaning_of other) b a h g (swapped operation kind e)
  sides_give one_side other_side operation kind one other h g e = absurd (cc e)

  -- ---- choices by a comparison

  record Tests (meaning : Meaning) (holding : Bool) : Type 0 where
    tests : (turns : ℕ) → meaning.value names turns ≡ Ok (flag holding, turns)

  choose_gives : (test one other : Meaning) (t : Bool) (x y z : ℤ) → Tests test t → Gives one x → Gives other y → (if t then x else y) ≡ z → Gives (meaning_step (layer.Choose test one other)) z
  choose_gives test one other t x y z q h g e = record {
    typed = ap (λ u. wider u (other.ty names)) h.typed ∙ ap (λ u. wider ty u) g.typed ∙ wide_same ty;
    gives = λ turns.
        ap (λ (r : Result (ℤ × ℕ) Trap). then_do r (λ v s. if holds v then one.value names s else other.value names s)) (q.tests turns)
        ∙ ap (λ u. if u then one.value names turns else other.value names turns) (holds_flag t)
        ∙ by_test t turns ∙ ap (λ (v : ℤ). (let r : Result (ℤ × ℕ) Trap = Ok (v, turns) in r)) e;
  }
    where
      by_test : (t : Bool) (turns : ℕ) → (if t then one.value names turns else other.value names turns) ≡ Ok ((if t then x else y), turns)
      by_test true turns = h.gives turns
      by_test false turns = g.gives turns

  less_tests : (one other : Meaning) (x y : ℤ) → Gives one x → Gives other y → Tests (meaning_step (layer.Binary op.Lt one other)) (int_lt x y)
  less_tests one other x y h g = record {
    tests = λ turns. then_two one other x y h g (λ v w s. raised names (op_of op.Lt (operation_type op.Lt (one.ty names) (other.ty names)) v w) s) turns;
  }

  greater_tests : (one other : Meaning) (x y : ℤ) → Gives one x → Gives other y → Tests (meaning_step (layer.Binary op.Gt one other)) (int_lt y x)
  greater_tests one other x y h g = record {
    tests = λ turns. then_two one other x y h g (λ v w s. raised names (op_of op.Gt (operation_type op.Gt (one.ty names) (other.ty names)) v w) s) turns;
  }

  straight_choice : (operation : Op) (kind : OperatorKind) (c d one other : Expr) → Gives (meaning_of c) a → Gives (meaning_of d) b → Gives (meaning_of one) a → Gives (meaning_of other) b
      → choice_of operation ≡ Some kind → Gives (meaning_step (layer.Choose (meaning_step (layer.Binary operation (meaning_of c) (meaning_of d))) (meaning_of one) (meaning_of other))) (value_by kind)
  straight_choice op.Lt kind c d one other p q h g e =
      choose_gives _ (meaning_of one) (meaning_of other) (int_lt a b) a b (value_by kind) (less_tests (meaning_of c) (meaning_of d) a b p q) h g (ap value_by (some_same listed.Min kind e))
  straight_choice op.Gt kind c d one other p q h g e =
      choose_gives _ (meaning_of one) (meaning_of other) (int_lt b a) a b (value_by kind) (greater_tests (meaning_of c) (meaning_of d) a b p q) h g (ap value_by (some_same listed.Max kind e))
  straight_choice operation kind c d one other p q h g e = absurd (cc e)

  swapped_choice : (operation : Op) (kind : OperatorKind) (c d one other : Expr) → Gives (meaning_of c) b → Gives (meaning_of d) a → Gives (meaning_of one) b → Gives (meaning_of other) a
      → choice_of operation ≡ Some kind → Gives (meaning_step (layer.Choose (meaning_step (layer.Binary operation (meaning_of c) (meaning_of d))) (meaning_of one) (meaning_of other))) (value_by kind)
  swapped_choice op.Lt kind c d one other p q h g e =
      choose_gives _ (meaning_of one) (meaning_of other) (int_lt b a) b a (value_by kind) (less_tests (meaning_of c) (meaning_of d) b a p q) h g (lesser_same a b ∙ ap value_by (some_same listed.Min kind e))
  swapped_choice op.Gt kind c d one other p q h g e =
      choose_gives _ (meaning_of one) (meaning_of other) (int_lt a b) b a (value_by kind) (greater_tests (meaning_of c) (meaning_of d) b a p q) h g (greater_same a b ∙ ap value_by (some_same listed.Max kind e))
  swapped_choice operation kind c d one other p q h g e = absurd (cc e)

  choices_give : (c_side d_side one_side other_side : Side) (operation : Op) (kind : OperatorKind) (c d one other : Expr) → Reads c_side c → Reads d_side d → Reads one_side one → Reads other_side other
      → (if are_both c_side d_side && same_side c_side one_side && same_side d_side other_side then choice_of operation else None) ≡ Some kind
      → Gives (meaning_step (layer.Choose (meaning_step (layer.Binary operation (meaning_of c) (meaning_of d))) (meaning_of one) (meaning_of other))) (value_by kind)
  choices_give Left Right Left Right operation kind c d one other p q h g e = straight_choice operation kind c d one other p q h g e
  choices_give Right Left Right Left operation kind c d one other p q h g e = swapped_choice operation kind c d one other p q h g e
  choices_give c_side d_side one_side other_side operation kind c d one other p q h g e = absurd (cc e)

  level_choice : (level : Expr-F Expr) (kind : OperatorKind) (one other : Expr) → chosen_kind (side_of left right) (comparison_of level) one other ≡ Some kind
      → Gives (meaning_step (layer.Choose (meaning_of (roll-Expr level)) (meaning_of one) (meaning_of other))) (value_by kind)
  level_choice (layer.Binary operation c d) kind one other e =
      subst (λ (m : Meaning). Gives (meaning_step (layer.Choose m (meaning_of one) (meaning_of other))) (value_by kind)) (sym (fold-roll-Expr Meaning meaning_step (layer.Binary operation c d)))
      (choices_give (side_of left right c) (side_of left right d) (side_of left right one) (side_of left right other) operation kind c d one other (side_reads c) (side_reads d) (side_reads one) (side_reads other) e)
  level_choice (layer.Name name) kind one other e = absurd (cc e)
  level_choice (layer.Number of number) kind one other e = absurd (cc e)
  level_choice (layer.Field name field) kind one other e = absurd (cc e)
  level_choice (layer.Method name method) kind one other e = absurd (cc e)
  level_choice (layer.Unary operation part) kind one other e = absurd (cc e)
  level_choice (layer.Cast of part) kind one other e = absurd (cc e)
  level_choice (layer.Both c d) kind one other e = absurd (cc e)
  level_choice (layer.Either c d) kind one other e = absurd (cc e)
  level_choice (layer.Choose test c d) kind one other e = absurd (cc e)
  level_choice (layer.Apply name arguments) kind one other e = absurd (cc e)

  test_choice : (test one other : Expr) (kind : OperatorKind) → chosen_kind (side_of left right) (comparison_of (out-Expr test)) one other ≡ Some kind
      → Gives (meaning_step (layer.Choose (meaning_of test) (meaning_of one) (meaning_of other))) (value_by kind)
  test_choice test one other kind e =
      subst (λ (t : Expr). Gives (meaning_step (layer.Choose (meaning_of t) (meaning_of one) (meaning_of other))) (value_by kind)) (roll-out-Expr test) (level_choice (out-Expr test) kind one other e)

  -- ---- an expression on the list

  side_gives : (side : Side) (kind : OperatorKind) (expr : Expr) → Reads side expr → side_kind side ≡ Some kind → Gives (meaning_of expr) (value_by kind)
  side_gives Left kind expr h e = subst (λ (k : OperatorKind). Gives (meaning_of expr) (value_by k)) (some_same listed.First kind e) h
  side_gives Right kind expr h e = subst (λ (k : OperatorKind). Gives (meaning_of expr) (value_by k)) (some_same listed.Last kind e) h
  side_gives Neither kind expr h e = absurd (cc e)

  level_gives : (level : Expr-F Expr) (kind : OperatorKind) → kind_of_node left right level ≡ Some kind → Gives (meaning_of (roll-Expr level)) (value_by kind)
  level_gives (layer.Binary operation one other) kind e =
      subst (λ (m : Meaning). Gives m (value_by kind)) (sym (fold-roll-Expr Meaning meaning_step (layer.Binary operation one other)))
      (sides_give (side_of left right one) (side_of left right other) operation kind one other (side_reads one) (side_reads other) e)
  level_gives (layer.Choose test one other) kind e =
      subst (λ (m : Meaning). Gives m (value_by kind)) (sym (fold-roll-Expr Meaning meaning_step (layer.Choose test one other))) (test_choice test one other kind e)
  level_gives (layer.Name name) kind e = side_gives (side_of_node left right (layer.Name name)) kind (roll-Expr (layer.Name name)) (level_reads (layer.Name name)) e
  level_gives (layer.Number of number) kind e = absurd (cc e)
  level_gives (layer.Field name field) kind e = absurd (cc e)
  level_gives (layer.Method name method) kind e = absurd (cc e)
  level_gives (layer.Unary operation part) kind e = absurd (cc e)
  level_gives (layer.Cast of part) kind e = absurd (cc e)
  level_gives (layer.Both one other) kind e = absurd (cc e)
  level_gives (layer.Either one other) kind e = absurd (cc e)
  level_gives (layer.Apply name arguments) kind e = absurd (cc e)

  pub listed_gives : (expr : Expr) (kind : OperatorKind) → kind_of_node left right (out-Expr expr) ≡ Some kind → Gives (meaning_of expr) (value_by kind)
  listed_gives expr kind e = subst (λ (x : Expr). Gives (meaning_of x) (value_by kind)) (roll-out-Expr expr) (level_gives (out-Expr expr) kind e)

  if_in_range : (t : Bool) (x y : ℤ) → InRange ty x → InRange ty y → InRange ty (if t then x else y)
  if_in_range true x y h g = h
  if_in_range false x y h g = g

  pub listed_in_range : (kind : OperatorKind) → InRange ty (value_by kind)
  listed_in_range listed.Add = wrapped-in_range ty _
  listed_in_range listed.Mul = wrapped-in_range ty _
  listed_in_range listed.And = op_of-in_range op.And ty a b fits_a
  listed_in_range listed.Or = op_of-in_range op.Or ty a b fits_a
  listed_in_range listed.Xor = op_of-in_range op.Xor ty a b fits_a
  listed_in_range listed.Min = if_in_range (int_lt a b) a b fits_a fits_b
  listed_in_range listed.Max = if_in_range (int_lt b a) a b fits_a fits_b
  listed_in_range listed.First = fits_a
  listed_in_range listed.Last = fits_b
