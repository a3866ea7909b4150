-- An expression of a function is plain, where no fault is told of it and its numbers fit their types.
use Rattle.std.proofs.Common.{◌≡◌, ℕ, zero, suc, Bool, true, false, ◌&&◌, ◌==◌, List, [], ◌∷◌, ◌++◌, length, map, Option, Some, None, if◌then◌else◌, refl, sym, ap, ◌∙◌, subst, arith}
use Rattle.std.proofs.lemmas.List.{length-map}
use Rattle.std.proofs.lemmas.Bool.{and_from, eqb-true, eq-eqb}
use Rattle.std.specs.Prelude.{nat_lt, slice_get}
use Rattle.std.specs.List.{list_all}
use Rattle.sk_names.specs.Bindings.{bound_to}
use Rattle.sk_plain.proofs.Parts.{exprs_of}
use Rattle.sk_plain.proofs.Truths.{and_left, and_right}
use Rattle.sk_plain.specs.Plain.{Parameters, NamedKinds, has_places, is_applied, is_some_and, takes, is_plain_expression, plain_expression_step}
use Rattle.sk_tree.specs.Functions.{kinds_of}
use Rattle.sk_tree.specs.Parameters.{is_scalar, is_field, is_method}
use Rattle.sk_tree.specs.declared.tree.Expr.{Expr, Expr-F, roll-Expr, map-Expr, fold-roll-Expr, ind-Expr}
use Rattle.sk_tree.specs.declared.tree.Expr.TheOpen as layer
use Rattle.sk_tree.specs.declared.tree.Function.{Function}
use Rattle.sk_tree.specs.declared.tree.ParamKind.{ParamKind}
use Rattle.sk_tree.specs.declared.tree.ParamKind.TheVariants.{Scalar, Index, Proxy, Region}
use Rattle.sk_typed_laws.proofs.Meant.{IsMeant, Agree}
use Rattle.sk_typed_laws.proofs.Untold.{no_faults, past, unless_kept}
use Rattle.sk_typed_laws.specs.Forms.{is_sized, sized_step}
use Rattle.sk_typing.specs.TypingExpressions.{Judged, Judging, judged_of, judging_step, all_judged, all_part_faults, applied_faults, applied_use, function_use, use_faults, each_argument_faults, first_dimension}
use Rattle.sk_typing.specs.TypingNames.{Knowns, Around, fault, scalar_faults, variable_faults, numbers}
use Rattle.sk_typing.specs.declared.names.Known.{Known}
use Rattle.sk_typing.specs.declared.names.Known.TheVariants.{Variable, Function as FunctionName, Instance as InstanceName, Broken}
use Rattle.sk_typing.specs.declared.names.FaultKind.TheVariants.{Mismatch, Arity}
use Rattle.sk_typing.specs.declared.names.Use.TheVariants.{Takes, Wrong}

-- a name without a fault is a scalar
pub scalar_meant : (around : Around) (kind : Option ParamKind) (kinds : Option (List ParamKind)) (known : Option Known) → IsMeant around.functions around.number kind kinds known
    → scalar_faults around known ≡ [] → is_some_and is_scalar kind ≡ true
scalar_meant around kind kinds None h e = let no : ⊥ = cc in absurd no
scalar_meant around kind kinds (Some (Variable (Scalar ty))) h e = ap (λ (k : Option ParamKind). is_some_and is_scalar k) h
scalar_meant around kind kinds (Some (Variable (Index dimension))) h e = let no : ⊥ = cc in absurd no
scalar_meant around kind kinds (Some (Variable (Proxy dimension ty))) h e = let no : ⊥ = cc in absurd no
scalar_meant around kind kinds (Some (Variable (Region dimension ty))) h e = let no : ⊥ = cc in absurd no
scalar_meant around kind kinds (Some (FunctionName number)) h e = let no : ⊥ = cc in absurd no
scalar_meant around kind kinds (Some (InstanceName made)) h e = absurd h
scalar_meant around kind kinds (Some Broken) h e = absurd h

-- a variable that passes a test is in scope with its kind
pub tested_meant : (around : Around) (kind : Option ParamKind) (kinds : Option (List ParamKind)) (known : Option Known) (test : ParamKind → Bool)
    → IsMeant around.functions around.number kind kinds known → variable_faults around known test ≡ [] → is_some_and test kind ≡ true
tested_meant around kind kinds None test h e = let no : ⊥ = cc in absurd no
tested_meant around kind kinds (Some (Variable given)) test h e =
    ap (λ (k : Option ParamKind). is_some_and test k) h ∙ unless_kept (test given) around Mismatch e
tested_meant around kind kinds (Some (FunctionName number)) test h e = let no : ⊥ = cc in absurd no
tested_meant around kind kinds (Some (InstanceName made)) test h e = absurd h
tested_meant around kind kinds (Some Broken) test h e = absurd h

-- nothing is at fault in these
abbrev pub AreFine : List Judged → Type 0
AreFine [] = Unit {0}
AreFine (argument ∷ arguments) = (argument.faults ≡ []) × AreFine arguments

-- as many values as are taken, none at fault
pub record AreTaken (count : ℕ) (arguments : List Judged) : Type 0 where
  pub size : length arguments ≡ count
  pub fine : AreFine arguments

each_fine : (around : Around) (count : ℕ) (arguments : List Judged) → length arguments ≡ count
    → each_argument_faults around (numbers count) arguments ≡ [] → AreFine arguments
each_fine around count [] n e = tt
each_fine around zero (argument ∷ arguments) n e = absurd (omega (arith, n))
each_fine around (suc count) (argument ∷ arguments) n e =
    let parts = no_faults argument.faults (each_argument_faults around (numbers count) arguments) e in
    (parts.0, each_fine around count arguments (omega (arith, n)) parts.1)

numbers-length : (count : ℕ) → length (numbers count) ≡ count
numbers-length zero = refl
numbers-length (suc count) = ap suc (numbers-length count)

pub numbers_taken : (around : Around) (count : ℕ) (arguments : List Judged) → use_faults around (Takes (numbers count)) arguments ≡ [] → AreTaken count arguments
numbers_taken around count arguments e = by_test (length arguments == length (numbers count)) refl e
  where
    by_test : (b : Bool) → (length arguments == length (numbers count)) ≡ b
        → (if b then each_argument_faults around (numbers count) arguments else fault around Arity ++ all_part_faults around arguments) ≡ [] → AreTaken count arguments
    by_test true is e =
        let n : length arguments ≡ count = eqb-true (length arguments) (length (numbers count)) is ∙ numbers-length count in
        record { size = n; fine = each_fine around count arguments n e }
    by_test false is e = let no : ⊥ = cc in absurd no

-- an element of a container, or a call of a function before this one
pub record IsApplied (kind : Option ParamKind) (kinds : Option (List ParamKind)) (arguments : List Judged) : Type 0 where
  pub is : is_applied kind kinds (length arguments) ≡ true
  pub fine : AreFine arguments

module _ (around : Around) (kind : Option ParamKind) (kinds : Option (List ParamKind)) (arguments : List Judged) where
  function_called : (function : Function) → kind ≡ None → kinds ≡ Some (kinds_of function) → use_faults around (function_use (Some function)) arguments ≡ []
      → IsApplied kind kinds arguments
  function_called function other is e = by_test (list_all is_scalar (kinds_of function)) refl e
    where
      by_test : (b : Bool) → list_all is_scalar (kinds_of function) ≡ b → use_faults around (if b then Takes (numbers (length function.params)) else Wrong Mismatch) arguments ≡ [] → IsApplied kind kinds arguments
      by_test true scalars e =
          let taken = numbers_taken around (length function.params) arguments e in
          let many : length (kinds_of function) ≡ length arguments = length-map function.params (λ param. param.kind) ∙ sym taken.size in
          let fits : (list_all is_scalar (kinds_of function) && length (kinds_of function) == length arguments) ≡ true =
          and_from (list_all is_scalar (kinds_of function)) (length (kinds_of function) == length arguments) scalars (eq-eqb (length (kinds_of function)) (length arguments) many) in
          record {
            is = ap (λ (k : Option ParamKind). is_applied k kinds (length arguments)) other ∙ ap (λ (o : Option (List ParamKind)). takes o (length arguments)) is ∙ fits;
            fine = taken.fine;
          }
      by_test false scalars e = let no : ⊥ = cc in absurd no

  number_called : (number : ℕ) → IsMeant around.functions around.number kind kinds (Some (FunctionName number))
      → use_faults around (if nat_lt number around.number then function_use (slice_get around.functions number) else Wrong Mismatch) arguments ≡ []
      → IsApplied kind kinds arguments
  number_called number h e = by_test (nat_lt number around.number) refl (slice_get around.functions number) refl e
    where
      by_test : (b : Bool) → nat_lt number around.number ≡ b → (found : Option Function) → slice_get around.functions number ≡ found
          → use_faults around (if b then function_use found else Wrong Mismatch) arguments ≡ [] → IsApplied kind kinds arguments
      by_test true below (Some function) is e = function_called function h.0 (h.1 below function is) e
      by_test true below None is e = let no : ⊥ = cc in absurd no
      by_test false below found is e = let no : ⊥ = cc in absurd no

  -- an element, whose coordinates or distances are values
  element_taken : (container : ParamKind) (dimension : ℕ) → ((given : ℕ) → has_places container given ≡ (dimension == given)) → kind ≡ Some container
      → use_faults around (Takes (numbers dimension)) arguments ≡ [] → IsApplied kind kinds arguments
  element_taken container dimension places h e =
      let taken = numbers_taken around dimension arguments e in
      record {
        is = ap (λ (k : Option ParamKind). is_applied k kinds (length arguments)) h ∙ places (length arguments) ∙ eq-eqb dimension (length arguments) (sym taken.size);
        fine = taken.fine;
      }

  used : (known : Known) → applied_faults around (Some known) arguments ≡ [] → use_faults around (applied_use around (length arguments) (first_dimension arguments) known) arguments ≡ []
  used known e = past (all_part_faults around arguments) (use_faults around (applied_use around (length arguments) (first_dimension arguments) known) arguments) e

  pub applied_called : (known : Option Known) → IsMeant around.functions around.number kind kinds known → applied_faults around known arguments ≡ []
      → IsApplied kind kinds arguments
  applied_called None h e = let no : ⊥ = cc in absurd no
  applied_called (Some (Variable (Scalar ty))) h e = let told : use_faults around (Wrong Mismatch) arguments ≡ [] = used (Variable (Scalar ty)) e in let no : ⊥ = cc in absurd no
  applied_called (Some (Variable (Index dimension))) h e = let told : use_faults around (Wrong Mismatch) arguments ≡ [] = used (Variable (Index dimension)) e in let no : ⊥ = cc in absurd no
  applied_called (Some (Variable (Proxy dimension ty))) h e = element_taken (Proxy dimension ty) dimension (λ given. refl) h (used (Variable (Proxy dimension ty)) e)
  applied_called (Some (Variable (Region dimension ty))) h e = element_taken (Region dimension ty) dimension (λ given. refl) h (used (Variable (Region dimension ty)) e)
  applied_called (Some (FunctionName number)) h e = number_called number h (used (FunctionName number) e)
  applied_called (Some (InstanceName made)) h e = absurd h
  applied_called (Some Broken) h e = absurd h

module _ (parameters : Parameters) where
  -- an expression without a fault is plain
  pub record IsClear (judging : Judging) (sized : Bool) (plain : Parameters → NamedKinds → Bool) : Type 0 where
    pub plain_is : (around : Around) (names : Knowns) (scalars : NamedKinds) → around.in_main ≡ false → Agree around.functions around.number parameters names scalars
        → sized ≡ true → (judging around names).faults ≡ [] → plain parameters scalars ≡ true

  abbrev pub IsClearly : Expr → Type 0
  IsClearly e = IsClear (judged_of e) (is_sized e) (is_plain_expression e)

  name_clear : (name : List ℕ) → IsClear (judging_step (layer.Name name)) (sized_step (layer.Name name)) (plain_expression_step (layer.Name name))
  name_clear name = record {
    plain_is = λ around names scalars m a s e. scalar_meant around (bound_to name scalars) (bound_to name parameters) (bound_to name names) (a.meant name) e;
  }

  field_clear : (name field : List ℕ) → IsClear (judging_step (layer.Field name field)) (sized_step (layer.Field name field)) (plain_expression_step (layer.Field name field))
  field_clear name field = record {
    plain_is = λ around names scalars m a s e.
        subst (λ (b : Bool). is_some_and (λ kind. if b then false else is_field kind field) (bound_to name scalars) ≡ true) m
        (tested_meant around (bound_to name scalars) (bound_to name parameters) (bound_to name names) (λ kind. if around.in_main then false else is_field kind field) (a.meant name) e);
  }

  never_passed : (found : Option ParamKind) → is_some_and (λ kind. false) found ≡ true → ⊥
  never_passed (Some kind) e = cc
  never_passed None e = cc

  method_clear : (name method : List ℕ) → IsClear (judging_step (layer.Method name method)) (sized_step (layer.Method name method)) (plain_expression_step (layer.Method name method))
  method_clear name method = record {
    plain_is = λ around names scalars m a s e.
        absurd (never_passed (bound_to name scalars)
        (subst (λ (b : Bool). is_some_and (λ kind. if b then is_method kind method else false) (bound_to name scalars) ≡ true) m
        (tested_meant around (bound_to name scalars) (bound_to name parameters) (bound_to name names) (λ kind. if around.in_main then is_method kind method else false) (a.meant name) e)));
  }

  two_clear : (one other : Judging) (s t : Bool) (p q : Parameters → NamedKinds → Bool) → IsClear one s p → IsClear other t q
      → (around : Around) (names : Knowns) (scalars : NamedKinds) → around.in_main ≡ false → Agree around.functions around.number parameters names scalars
      → (s && t) ≡ true → (one around names).faults ++ (other around names).faults ≡ [] → (p parameters scalars && q parameters scalars) ≡ true
  two_clear one other s t p q f g around names scalars m a e told =
      let parts = no_faults (one around names).faults (other around names).faults told in
      and_from (p parameters scalars) (q parameters scalars) (f.plain_is around names scalars m a (and_left s t e) parts.0) (g.plain_is around names scalars m a (and_right s t e) parts.1)

  three_clear : (test one other : Judging) (r s t : Bool) (o p q : Parameters → NamedKinds → Bool) → IsClear test r o → IsClear one s p → IsClear other t q
      → (around : Around) (names : Knowns) (scalars : NamedKinds) → around.in_main ≡ false → Agree around.functions around.number parameters names scalars
      → (r && s && t) ≡ true → (test around names).faults ++ (one around names).faults ++ (other around names).faults ≡ []
      → (o parameters scalars && p parameters scalars && q parameters scalars) ≡ true
  three_clear test one other r s t o p q f g h around names scalars m a e told =
      let parts = no_faults ((test around names).faults ++ (one around names).faults) (other around names).faults told in
      let more = no_faults (test around names).faults (one around names).faults parts.0 in
      let two = and_left (r && s) t e in
      and_from (o parameters scalars && p parameters scalars) (q parameters scalars)
      (and_from (o parameters scalars) (p parameters scalars) (f.plain_is around names scalars m a (and_left r s two) more.0) (g.plain_is around names scalars m a (and_right r s two) more.1))
      (h.plain_is around names scalars m a (and_right (r && s) t e) parts.1)

  abbrev Parts : Type 0
  Parts = List ((e : Expr) × IsClearly e)

  abbrev said_of : Around → Knowns → Parts → List Judged
  said_of around names ys = all_judged around names (map judged_of (exprs_of ys))

  lengths : (around : Around) (names : Knowns) (ys : Parts) → length (said_of around names ys) ≡ length (map is_plain_expression (exprs_of ys))
  lengths around names [] = refl
  lengths around names (y ∷ ys) = ap suc (lengths around names ys)

  parts_clear : (around : Around) (names : Knowns) (scalars : NamedKinds) → around.in_main ≡ false → Agree around.functions around.number parameters names scalars → (ys : Parts)
      → list_all (λ part. part) (map is_sized (exprs_of ys)) ≡ true → AreFine (said_of around names ys)
      → list_all (λ part. part parameters scalars) (map is_plain_expression (exprs_of ys)) ≡ true
  parts_clear around names scalars m a [] e fine = refl
  parts_clear around names scalars m a (y ∷ ys) e fine =
      let rest : Bool = list_all (λ part. part) (map is_sized (exprs_of ys)) in
      and_from (is_plain_expression y.0 parameters scalars) (list_all (λ part. part parameters scalars) (map is_plain_expression (exprs_of ys)))
      (y.1.plain_is around names scalars m a (and_left (is_sized y.0) rest e) fine.0)
      (parts_clear around names scalars m a ys (and_right (is_sized y.0) rest e) fine.1)

  apply_clear : (name : List ℕ) (ys : Parts) → IsClear (judging_step (layer.Apply name (map judged_of (exprs_of ys)))) (sized_step (layer.Apply name (map is_sized (exprs_of ys))))
      (plain_expression_step (layer.Apply name (map is_plain_expression (exprs_of ys))))
  apply_clear name ys = record {
    plain_is = λ around names scalars m a s e.
        let parts : List (Parameters → NamedKinds → Bool) = map is_plain_expression (exprs_of ys) in
        let c = applied_called around (bound_to name scalars) (bound_to name parameters) (said_of around names ys) (bound_to name names) (a.meant name) e in
        let size : is_applied (bound_to name scalars) (bound_to name parameters) (length parts) ≡ true =
        ap (λ n. is_applied (bound_to name scalars) (bound_to name parameters) n) (sym (lengths around names ys)) ∙ c.is in
        and_from (is_applied (bound_to name scalars) (bound_to name parameters) (length parts)) (list_all (λ part. part parameters scalars) parts) size
        (parts_clear around names scalars m a ys s c.fine);
  }

  level_clear : (y : Expr-F ((e : Expr) × IsClearly e))
      → IsClear (judging_step (map-Expr Expr Judging judged_of (map-Expr ((e : Expr) × IsClearly e) Expr (λ e. e.0) y)))
      (sized_step (map-Expr Expr Bool is_sized (map-Expr ((e : Expr) × IsClearly e) Expr (λ e. e.0) y)))
      (plain_expression_step (map-Expr Expr (Parameters → NamedKinds → Bool) is_plain_expression (map-Expr ((e : Expr) × IsClearly e) Expr (λ e. e.0) y)))
  level_clear (layer.Number ty number) = record { plain_is = λ around names scalars m a s e. s }
  level_clear (layer.Name name) = name_clear name
  level_clear (layer.Field name field) = field_clear name field
  level_clear (layer.Method name method) = method_clear name method
  level_clear (layer.Unary op y) = record { plain_is = y.1.plain_is }
  level_clear (layer.Cast ty y) = record { plain_is = y.1.plain_is }
  level_clear (layer.Binary op y z) = record { plain_is = two_clear _ _ _ _ _ _ y.1 z.1 }
  level_clear (layer.Both y z) = record { plain_is = two_clear _ _ _ _ _ _ y.1 z.1 }
  level_clear (layer.Either y z) = record { plain_is = two_clear _ _ _ _ _ _ y.1 z.1 }
  level_clear (layer.Choose x y z) = record { plain_is = three_clear _ _ _ _ _ _ _ _ _ x.1 y.1 z.1 }
  level_clear (layer.Apply name ys) = apply_clear name ys

  rolled : (x : Expr-F Expr) → IsClear (judging_step (map-Expr Expr Judging judged_of x)) (sized_step (map-Expr Expr Bool is_sized x))
      (plain_expression_step (map-Expr Expr (Parameters → NamedKinds → Bool) is_plain_expression x)) → IsClearly (roll-Expr x)
  rolled x is =
      subst (λ (j : Judging). IsClear j (is_sized (roll-Expr x)) (is_plain_expression (roll-Expr x))) (sym (fold-roll-Expr Judging judging_step x))
      (subst (λ (b : Bool). IsClear (judging_step (map-Expr Expr Judging judged_of x)) b (is_plain_expression (roll-Expr x))) (sym (fold-roll-Expr Bool sized_step x))
      (subst (λ (p : Parameters → NamedKinds → Bool). IsClear (judging_step (map-Expr Expr Judging judged_of x)) (sized_step (map-Expr Expr Bool is_sized x)) p)
      (sym (fold-roll-Expr (Parameters → NamedKinds → Bool) plain_expression_step x)) is))

  -- each expression without a fault is plain
  pub expression_clear : (e : Expr) → IsClearly e
  expression_clear = ind-Expr IsClearly (λ x y is. subst (λ z. IsClearly (roll-Expr z)) is (rolled (map-Expr ((e : Expr) × IsClearly e) Expr (λ e. e.0) y) (level_clear y)))
