-- An expression of main fits the names in scope, where no fault is told of it and its numbers fit their types.
use Rattle.std.proofs.Common.{◌≡◌, ℕ, suc, Bool, true, false, ◌&&◌, ◌==◌, List, [], ◌∷◌, ◌++◌, length, map, Option, Some, None, if◌then◌else◌, refl, sym, ap, ◌∙◌, subst}
use Rattle.std.proofs.lemmas.Bool.{and_from, eq-eqb}
use Rattle.std.proofs.lemmas.List.{length-map}
use Rattle.std.specs.Prelude.{nat_lt, slice_get}
use Rattle.std.specs.List.{list_all}
use Rattle.sk_base.specs.declared.number.Ty.{Ty}
use Rattle.sk_main_fits.specs.Fits.{Fit, fits, fit_step, is_number, is_whole, all_fit, applied_fits}
use Rattle.sk_main_fits.specs.StatementFits.{is_whole_of}
use Rattle.sk_main_scheme.specs.MainScheme.{Named, Number, Whole, Called}
use Rattle.sk_main_scheme.specs.MainScheme as scheme
use Rattle.sk_names.specs.Bindings.{bound_to}
use Rattle.sk_plain.proofs.Parts.{exprs_of}
use Rattle.sk_plain.proofs.Truths.{and_left, and_right}
use Rattle.sk_scheme.specs.Scheme.{Known as Callee, known_of}
use Rattle.sk_tree.specs.Functions.{kinds_of}
use Rattle.sk_tree.specs.Parameters.{is_scalar, is_field, is_method, is_container_method}
use Rattle.sk_tree.specs.declared.tree.Expr.{Expr, Expr-F, roll-Expr, map-Expr, fold-roll-Expr, ind-Expr}
use Rattle.sk_tree.specs.declared.tree.Expr.TheOpen as layer
use Rattle.sk_tree.specs.declared.tree.Function.{Function}
use Rattle.sk_tree.specs.declared.tree.ParamKind.{ParamKind}
use Rattle.sk_tree.specs.declared.tree.ParamKind.TheVariants.{Scalar, Index, Proxy, Region}
use Rattle.sk_typed_laws.proofs.Expressions.{AreFine, numbers_taken}
use Rattle.sk_typed_laws.proofs.KnownNames.{IsKnownAs}
use Rattle.sk_typed_laws.proofs.Untold.{no_faults, past, unless_kept}
use Rattle.sk_typed_laws.specs.Forms.{is_sized, sized_step}
use Rattle.sk_typed_main_laws.proofs.Named.{AgreeInMain, IsMapNamed, IsNamedAs, map_made, whole_is}
use Rattle.sk_typing.specs.TypingExpressions.{Judged, Judging, judged_of, judging_step, all_judged, all_part_faults, applied_faults, applied_use, function_use, use_faults, first_dimension}
use Rattle.sk_typing.specs.TypingInstances.{value_use}
use Rattle.sk_typing.specs.TypingNames.{Knowns, Around, fault, unless, scalar_faults, variable_faults, numbers}
use Rattle.sk_typing.specs.declared.names.Fault.{Fault}
use Rattle.sk_typing.specs.declared.names.FaultKind.TheVariants.{Mismatch}
use Rattle.sk_typing.specs.declared.names.Known.{Known}
use Rattle.sk_typing.specs.declared.names.Known.TheVariants.{Variable, Function as FunctionName, Instance as InstanceName, Broken}
use Rattle.sk_typing.specs.declared.names.Made.{Made}
use Rattle.sk_typing.specs.declared.names.Use.{Use}
use Rattle.sk_typing.specs.declared.names.Use.TheVariants.{Takes, Wrong, Free}

-- ---- names alone

number_named : (around : Around) (named : Option Named) (known : Option Known) → IsNamedAs around.functions named known → scalar_faults around known ≡ [] → is_number named ≡ true
number_named around named None h e = let no : ⊥ = cc in absurd no
number_named around named (Some (Variable (Scalar ty))) h e = h
number_named around named (Some (Variable (Index dimension))) h e = absurd h
number_named around named (Some (Variable (Proxy dimension ty))) h e = let no : ⊥ = cc in absurd no
number_named around named (Some (Variable (Region dimension ty))) h e = absurd h
number_named around named (Some (FunctionName number)) h e = let no : ⊥ = cc in absurd no
number_named around named (Some (InstanceName made)) h e = let no : ⊥ = cc in absurd no
number_named around named (Some Broken) h e = absurd h

-- a test that fails is told
refused : (around : Around) (rule : Bool) → rule ≡ false → unless rule around Mismatch ≡ [] → ⊥
refused around rule e told = let some : fault around Mismatch ≡ [] = sym (ap (λ b. unless b around Mismatch) e) ∙ told in cc

abbrev method_test : Around → (method : List ℕ) → ParamKind → Bool
method_test around method kind = if around.in_main then is_method kind method else false

method_named : (around : Around) (method : List ℕ) (named : Option Named) (known : Option Known) → around.in_main ≡ true → IsNamedAs around.functions named known
    → variable_faults around known (method_test around method) ≡ [] → (is_whole named && is_container_method 1 method) ≡ true
method_named around method named None m h e = let no : ⊥ = cc in absurd no
method_named around method named (Some (Variable (Scalar ty))) m h e =
    absurd (refused around (method_test around method (Scalar ty)) (ap (λ b. if b then false else false) m) e)
method_named around method named (Some (Variable (Index dimension))) m h e = absurd h
method_named around method named (Some (Variable (Proxy dimension ty))) m h e =
    let kept : method_test around method (Proxy dimension ty) ≡ true = unless_kept (method_test around method (Proxy dimension ty)) around Mismatch e in
    let has : is_container_method dimension method ≡ true = sym (ap (λ b. if b then is_container_method dimension method else false) m) ∙ kept in
    and_from (is_whole named) (is_container_method 1 method) (whole_is ty named h.1) (subst (λ n. is_container_method n method ≡ true) h.0 has)
method_named around method named (Some (Variable (Region dimension ty))) m h e = absurd h
method_named around method named (Some (FunctionName number)) m h e = let no : ⊥ = cc in absurd no
method_named around method named (Some (InstanceName made)) m h e = let no : ⊥ = cc in absurd no
method_named around method named (Some Broken) m h e = absurd h

field_never : (around : Around) (known : Option Known) (test : ParamKind → Bool) → ((kind : ParamKind) → test kind ≡ false) → variable_faults around known test ≡ [] → ⊥
field_never around None test t e = cc
field_never around (Some (Variable kind)) test t e = refused around (test kind) (t kind) e
field_never around (Some (FunctionName number)) test t e = cc
field_never around (Some (InstanceName made)) test t e = cc
field_never around (Some Broken) test t e = cc

-- ---- names with arguments

module _ (around : Around) (arguments : List Judged) (callee : Option Callee) (parts : List Fit) (there : scheme.Around)
    (size : length arguments ≡ length parts) (all : AreFine arguments → all_fit parts there ≡ true) where
  whole_applied : (ty : Ty) (named : Option Named) → is_whole_of ty named ≡ true → length arguments ≡ 1 → AreFine arguments → applied_fits named callee parts there ≡ true
  whole_applied ty (Some (Whole container other)) e n fine =
      and_from (length parts == 1) (all_fit parts there) (eq-eqb (length parts) 1 (sym size ∙ n)) (all fine)
  whole_applied ty (Some (Number slot other)) e n fine = let no : ⊥ = cc in absurd no
  whole_applied ty (Some (Called made)) e n fine = let no : ⊥ = cc in absurd no
  whole_applied ty None e n fine = let no : ⊥ = cc in absurd no

  function_applied : (named : Option Named) (number : ℕ) (function : Function) → named ≡ None → callee ≡ Some (known_of number function)
      → use_faults around (function_use (Some function)) arguments ≡ [] → applied_fits named callee parts there ≡ true
  function_applied named number function unnamed is e = by_test (list_all is_scalar (kinds_of function)) e
    where
      by_test : (b : Bool) → use_faults around (if b then Takes (numbers (length function.params)) else Wrong Mismatch) arguments ≡ [] → applied_fits named callee parts there ≡ true
      by_test true e =
          let taken = numbers_taken around (length function.params) arguments e in
          let kinds = kinds_of function in
          let count : length kinds ≡ length parts = length-map function.params (λ param. param.kind) ∙ sym taken.size ∙ size in
          ap (λ n. applied_fits n callee parts there) unnamed ∙ ap (λ c. applied_fits None c parts there) is
          ∙ and_from (length kinds == length parts) (all_fit parts there) (eq-eqb (length kinds) (length parts) count) (all taken.fine)
      by_test false e = let no : ⊥ = cc in absurd no

  number_applied : (named : Option Named) (number : ℕ) → named ≡ None → IsKnownAs around.functions around.number (Some (FunctionName number)) callee
      → use_faults around (if nat_lt number around.number then function_use (slice_get around.functions number) else Wrong Mismatch) arguments ≡ []
      → applied_fits named callee parts there ≡ true
  number_applied named number unnamed k e = by_test (nat_lt number around.number) refl (slice_get around.functions number) refl e
    where
      by_test : (b : Bool) → nat_lt number around.number ≡ b → (found : Option Function) → slice_get around.functions number ≡ found
          → use_faults around (if b then function_use found else Wrong Mismatch) arguments ≡ [] → applied_fits named callee parts there ≡ true
      by_test true below (Some function) is e = function_applied named number function unnamed (k below function is) e
      by_test true below None is e = let no : ⊥ = cc in absurd no
      by_test false below found is e = let no : ⊥ = cc in absurd no

  abbrev use_of_applied : Known → List Fault
  use_of_applied known = use_faults around (applied_use around (length arguments) (first_dimension arguments) known) arguments

  -- a Map is called by a statement alone
  map_never : (named : Option Named) (made : Made) → IsMapNamed around.functions named made → use_of_applied (InstanceName made) ≡ [] → ⊥
  map_never named made h e =
      let one = subst (λ (m : Made). use_of_applied (InstanceName m) ≡ []) h.made_is e in
      let wrong = ap (λ o. elim o as (λ _. Use) [
        | Some function ↦ value_use (map_made h.place h.elements) (length arguments) (first_dimension arguments) function
        | None ↦ Free
      ]) h.there in
      let told : use_faults around (Wrong Mismatch) arguments ≡ [] = sym (ap (λ u. use_faults around u arguments) wrong) ∙ one in
      cc

  pub known_applied : (named : Option Named) (known : Option Known) → IsNamedAs around.functions named known → IsKnownAs around.functions around.number known callee
      → applied_faults around known arguments ≡ [] → applied_fits named callee parts there ≡ true
  known_applied named None h k e = let no : ⊥ = cc in absurd no
  known_applied named (Some (Variable (Scalar ty))) h k e =
      let used = past (all_part_faults around arguments) (use_of_applied (Variable (Scalar ty))) e in
      let no : ⊥ = cc in absurd no
  known_applied named (Some (Variable (Index dimension))) h k e = absurd h
  known_applied named (Some (Variable (Proxy dimension ty))) h k e =
      let taken = numbers_taken around dimension arguments (past (all_part_faults around arguments) (use_of_applied (Variable (Proxy dimension ty))) e) in
      whole_applied ty named h.1 (taken.size ∙ h.0) taken.fine
  known_applied named (Some (Variable (Region dimension ty))) h k e = absurd h
  known_applied named (Some (FunctionName number)) h k e =
      number_applied named number h k (past (all_part_faults around arguments) (use_of_applied (FunctionName number)) e)
  known_applied named (Some (InstanceName made)) h k e =
      absurd (map_never named made h (past (all_part_faults around arguments) (use_of_applied (InstanceName made)) e))
  known_applied named (Some Broken) h k e = absurd h

-- ---- expressions

-- an expression without a fault fits
pub record IsFitting (judging : Judging) (sized : Bool) (fit : Fit) : Type 0 where
  pub fits_is : (around : Around) (names : Knowns) (there : scheme.Around) → around.in_main ≡ true
      → AgreeInMain around.functions around.number there.functions names there.scope → sized ≡ true → (judging around names).faults ≡ [] → fit there ≡ true

abbrev pub IsFittingly : Expr → Type 0
IsFittingly e = IsFitting (judged_of e) (is_sized e) (fits e)

two_fit : (one other : Judging) (s t : Bool) (p q : Fit) → IsFitting one s p → IsFitting other t q
    → (around : Around) (names : Knowns) (there : scheme.Around) → around.in_main ≡ true → AgreeInMain around.functions around.number there.functions names there.scope
    → (s && t) ≡ true → (one around names).faults ++ (other around names).faults ≡ [] → (p there && q there) ≡ true
two_fit one other s t p q f g around names there m a e told =
    let parts = no_faults (one around names).faults (other around names).faults told in
    and_from (p there) (q there) (f.fits_is around names there m a (and_left s t e) parts.0) (g.fits_is around names there m a (and_right s t e) parts.1)

three_fit : (test one other : Judging) (r s t : Bool) (o p q : Fit) → IsFitting test r o → IsFitting one s p → IsFitting other t q
    → (around : Around) (names : Knowns) (there : scheme.Around) → around.in_main ≡ true → AgreeInMain around.functions around.number there.functions names there.scope
    → (r && s && t) ≡ true → (test around names).faults ++ (one around names).faults ++ (other around names).faults ≡ [] → (o there && p there && q there) ≡ true
three_fit test one other r s t o p q f g h around names there m a e told =
    let parts = no_faults ((test around names).faults ++ (one around names).faults) (other around names).faults told in
    let more = no_faults (test around names).faults (one around names).faults parts.0 in
    let two = and_left (r && s) t e in
    and_from (o there && p there) (q there)
    (and_from (o there) (p there) (f.fits_is around names there m a (and_left r s two) more.0) (g.fits_is around names there m a (and_right r s two) more.1))
    (h.fits_is around names there m a (and_right (r && s) t e) parts.1)

abbrev Parts : Type 0
Parts = List ((e : Expr) × IsFittingly e)

abbrev said_of : Around → Knowns → Parts → List Judged
said_of around names ys = all_judged around names (map judged_of (exprs_of ys))

lengths : (around : Around) (names : Knowns) (ys : Parts) → length (said_of around names ys) ≡ length (map fits (exprs_of ys))
lengths around names [] = refl
lengths around names (y ∷ ys) = ap suc (lengths around names ys)

parts_fit : (around : Around) (names : Knowns) (there : scheme.Around) → around.in_main ≡ true → AgreeInMain around.functions around.number there.functions names there.scope
    → (ys : Parts) → list_all (λ part. part) (map is_sized (exprs_of ys)) ≡ true → AreFine (said_of around names ys) → all_fit (map fits (exprs_of ys)) there ≡ true
parts_fit around names there m a [] e fine = refl
parts_fit around names there m a (y ∷ ys) e fine =
    let rest : Bool = list_all (λ part. part) (map is_sized (exprs_of ys)) in
    and_from (fits y.0 there) (all_fit (map fits (exprs_of ys)) there) (y.1.fits_is around names there m a (and_left (is_sized y.0) rest e) fine.0)
    (parts_fit around names there m a ys (and_right (is_sized y.0) rest e) fine.1)

level_fits : (y : Expr-F ((e : Expr) × IsFittingly e))
    → IsFitting (judging_step (map-Expr Expr Judging judged_of (map-Expr ((e : Expr) × IsFittingly e) Expr (λ e. e.0) y)))
    (sized_step (map-Expr Expr Bool is_sized (map-Expr ((e : Expr) × IsFittingly e) Expr (λ e. e.0) y)))
    (fit_step (map-Expr Expr Fit fits (map-Expr ((e : Expr) × IsFittingly e) Expr (λ e. e.0) y)))
level_fits (layer.Number ty number) = record { fits_is = λ around names there m a s e. s }
level_fits (layer.Name name) = record {
  fits_is = λ around names there m a s e. number_named around (bound_to name there.scope) (bound_to name names) (a.named name) e;
}
level_fits (layer.Field name field) = record {
  fits_is = λ around names there m a s e.
      absurd (field_never around (bound_to name names) (λ kind. if around.in_main then false else is_field kind field)
      (λ kind. ap (λ b. if b then false else is_field kind field) m) e);
}
level_fits (layer.Method name method) = record {
  fits_is = λ around names there m a s e. method_named around method (bound_to name there.scope) (bound_to name names) m (a.named name) e;
}
level_fits (layer.Unary op y) = record { fits_is = y.1.fits_is }
level_fits (layer.Cast ty y) = record { fits_is = y.1.fits_is }
level_fits (layer.Binary op y z) = record { fits_is = two_fit _ _ _ _ _ _ y.1 z.1 }
level_fits (layer.Both y z) = record { fits_is = two_fit _ _ _ _ _ _ y.1 z.1 }
level_fits (layer.Either y z) = record { fits_is = two_fit _ _ _ _ _ _ y.1 z.1 }
level_fits (layer.Choose x y z) = record { fits_is = three_fit _ _ _ _ _ _ _ _ _ x.1 y.1 z.1 }
level_fits (layer.Apply name ys) = record {
  fits_is = λ around names there m a s e.
      known_applied around (said_of around names ys) (bound_to name there.functions) (map fits (exprs_of ys)) there (lengths around names ys)
      (parts_fit around names there m a ys s) (bound_to name there.scope) (bound_to name names) (a.named name) (a.known.known name) e;
}

rolled : (x : Expr-F Expr) → IsFitting (judging_step (map-Expr Expr Judging judged_of x)) (sized_step (map-Expr Expr Bool is_sized x)) (fit_step (map-Expr Expr Fit fits x)) → IsFittingly (roll-Expr x)
rolled x is =
    subst (λ (j : Judging). IsFitting j (is_sized (roll-Expr x)) (fits (roll-Expr x))) (sym (fold-roll-Expr Judging judging_step x))
    (subst (λ (b : Bool). IsFitting (judging_step (map-Expr Expr Judging judged_of x)) b (fits (roll-Expr x))) (sym (fold-roll-Expr Bool sized_step x))
    (subst (λ (f : Fit). IsFitting (judging_step (map-Expr Expr Judging judged_of x)) (sized_step (map-Expr Expr Bool is_sized x)) f) (sym (fold-roll-Expr Fit fit_step x)) is))

-- each expression without a fault fits
pub expression_fits : (e : Expr) → IsFittingly e
expression_fits = ind-Expr IsFittingly (λ x y is. subst (λ z. IsFittingly (roll-Expr z)) is (rolled (map-Expr ((e : Expr) × IsFittingly e) Expr (λ e. e.0) y) (level_fits y)))
