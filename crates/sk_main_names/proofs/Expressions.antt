-- What the code of an expression of main names is there, where the expression fits.
use Rattle.std.proofs.Common.{◌≡◌, ℕ, suc, ◌+◌, List, [], ◌∷◌, ◌++◌, length, map, Option, Some, None, pos, refl, sym, ap, ◌∙◌, subst}
use Rattle.std.specs.Prelude.{true, ◌&&◌, ◌==◌}
use Rattle.sk_base.specs.declared.number.Op.{Op}
use Rattle.sk_base.specs.declared.number.Ty.{Ty}
use Rattle.sk_base.specs.declared.number.Ty.TheVariants.{Int, Long}
use Rattle.sk_isa.specs.Soundness.{is_there}
use Rattle.sk_isa.specs.declared.code.Instr.{Instr}
use Rattle.sk_isa.specs.declared.code.Instr.TheVariants as instr
use Rattle.sk_isa.specs.declared.object.Object.{Object}
use Rattle.sk_main_code.specs.MainSoundness.{names_in_main}
use Rattle.sk_main_fits.specs.Fits.{Fit, fits, fit_step, all_fit, applied_fits, is_number, is_whole}
use Rattle.sk_main_names.proofs.Scopes.{Scope, InScope, IsFound, Names, declared_passes, name_found, names_append, one_named}
use Rattle.sk_main_names.proofs.Tests.{same_number}
use Rattle.sk_main_scheme.specs.MainScheme.{Around, Named, Number, Whole, Called, applied_code, main_leaves, main_piece, method_leaf, name_leaf}
use Rattle.sk_meaning.specs.Evaluation.{kind_type}
use Rattle.sk_meaning.specs.Expressions.{operation_type}
use Rattle.sk_names.specs.Bindings.{bound_to}
use Rattle.sk_plain.proofs.Parts.{exprs_of}
use Rattle.sk_plain.proofs.Truths.{and_left, and_right}
use Rattle.sk_scheme.specs.Pieces.{Piece, arguments_code, narrowed, piece_step, places_code, prefix_code, wanted_code}
use Rattle.sk_scheme.specs.Scheme.{Known}
use Rattle.sk_tree.specs.Parameters.{is_container_method}
use Rattle.sk_tree.specs.declared.tree.Expr.{Expr, Expr-F, roll-Expr, map-Expr, fold-roll-Expr, ind-Expr}
use Rattle.sk_tree.specs.declared.tree.Expr.TheOpen as layer
use Rattle.sk_tree.specs.declared.tree.ParamKind.{ParamKind}
use Rattle.sk_tree.specs.declared.tree.Un.{Un}
use Rattle.sk_tree.specs.declared.tree.Un.TheVariants as prefix

-- Functions that are known may be called.
pub record HasCalls (object : Object) (functions : List (List ℕ × Known)) : Type 0 where
  pub each : (name : List ℕ) (known : Known) → bound_to name functions ≡ Some known → names_in_main object (instr.Call known.number) ≡ true

module _ (object : Object) where
  name_named : (n : Option Named) → IsFound object n → is_number n ≡ true → Names object (name_leaf n).code
  name_named (Some (Number slot ty)) h e = one_named object (instr.Load slot) (ap is_there h)
  name_named (Some (Whole container ty)) h e = refl
  name_named (Some (Called made)) h e = refl
  name_named None h e = refl

  method_named : (n : Option Named) (method : List ℕ) → IsFound object n → is_container_method 1 method ≡ true → Names object (method_leaf n method).code
  method_named (Some (Whole container ty)) method h e =
      one_named object (instr.Size container method)
      (declared_passes object container (λ declared. is_container_method declared.kind method) h.declared h.there (ap (λ kind. is_container_method kind method) h.kind ∙ e))
  method_named (Some (Number slot ty)) method h e = refl
  method_named (Some (Called made)) method h e = refl
  method_named None method h e = refl

  prefix_named : (op : Un) (ty : Ty) → Names object (prefix_code op ty ∷ [])
  prefix_named prefix.Neg ty = refl
  prefix_named prefix.Inv ty = refl
  prefix_named prefix.Not ty = refl

  narrowed_named : (wanted given : Ty) → Names object (narrowed wanted given)
  narrowed_named Int Int = refl
  narrowed_named Int Long = refl
  narrowed_named Long given = refl

  module _ (functions : List (List ℕ × Known)) where
    abbrev pub around_of : Scope → Around
    around_of scope = record { functions = functions; scope = scope }

    -- code that names what is there, where it fits
    pub record IsValue (c : Piece Around) (fit : Fit) : Type 0 where
      pub named : (scope : Scope) → InScope object scope → fit (around_of scope) ≡ true → (at : ℕ) → Names object (c.code (around_of scope) at)

    pub wanted_named : (wanted : Ty) (c : Piece Around) (p : Fit) → IsValue c p → (scope : Scope) → InScope object scope → p (around_of scope) ≡ true
        → (at : ℕ) → Names object (wanted_code wanted c (around_of scope) at)
    wanted_named wanted c p is scope s fit at =
        let a = around_of scope in
        names_append object (c.code a at) (narrowed wanted (c.ty a)) (is.named scope s fit at) (narrowed_named wanted (c.ty a))

    unary_value : (op : Un) (c : Piece Around) (p : Fit) → IsValue c p → IsValue (piece_step main_leaves (layer.Unary op c)) (fit_step (layer.Unary op p))
    unary_value op c p is = record {
      named = λ scope s fit at.
          let a = around_of scope in
          names_append object (c.code a at) (prefix_code op (c.ty a) ∷ []) (is.named scope s fit at) (prefix_named op (c.ty a));
    }

    binary_value : (op : Op) (cl cr : Piece Around) (pl pr : Fit) → IsValue cl pl → IsValue cr pr → IsValue (piece_step main_leaves (layer.Binary op cl cr)) (fit_step (layer.Binary op pl pr))
    binary_value op cl cr pl pr is_l is_r = record {
      named = λ scope s fit at.
          let a = around_of scope in
          let one : List Instr = cl.code a at in
          let other : List Instr = cr.code a (at + length one) in
          let last : List Instr = instr.Binary op (operation_type op (cl.ty a) (cr.ty a)) ∷ [] in
          names_append object (one ++ other) last
          (names_append object one other (is_l.named scope s (and_left (pl a) (pr a) fit) at) (is_r.named scope s (and_right (pl a) (pr a) fit) (at + length one))) refl;
    }

    both_value : (cl cr : Piece Around) (pl pr : Fit) → IsValue cl pl → IsValue cr pr → IsValue (piece_step main_leaves (layer.Both cl cr)) (fit_step (layer.Both pl pr))
    both_value cl cr pl pr is_l is_r = record {
      named = λ scope s fit at.
          let a = around_of scope in
          let one : List Instr = cl.code a at in
          let second : ℕ = at + length one + 1 in
          let other : List Instr = cr.code a second in
          let fails : ℕ = at + length one + length other + 4 in
          let flags : List Instr = instr.Zero fails ∷ instr.Push (pos 1) ∷ instr.Jump (fails + 1) ∷ instr.Push (pos 0) ∷ [] in
          names_append object (one ++ instr.Zero fails ∷ other) flags
          (names_append object one (instr.Zero fails ∷ other) (is_l.named scope s (and_left (pl a) (pr a) fit) at) (is_r.named scope s (and_right (pl a) (pr a) fit) second)) refl;
    }

    either_value : (cl cr : Piece Around) (pl pr : Fit) → IsValue cl pl → IsValue cr pr → IsValue (piece_step main_leaves (layer.Either cl cr)) (fit_step (layer.Either pl pr))
    either_value cl cr pl pr is_l is_r = record {
      named = λ scope s fit at.
          let a = around_of scope in
          let one : List Instr = cl.code a at in
          let second : ℕ = at + length one + 3 in
          let other : List Instr = cr.code a second in
          let fails : ℕ = second + length other + 3 in
          let further : List Instr = instr.Zero second ∷ instr.Push (pos 1) ∷ instr.Jump (fails + 1) ∷ other in
          let flags : List Instr = instr.Zero fails ∷ instr.Push (pos 1) ∷ instr.Jump (fails + 1) ∷ instr.Push (pos 0) ∷ [] in
          names_append object (one ++ further) flags
          (names_append object one further (is_l.named scope s (and_left (pl a) (pr a) fit) at) (is_r.named scope s (and_right (pl a) (pr a) fit) second)) refl;
    }

    choose_value : (ct c1 c2 : Piece Around) (pt p1 p2 : Fit) → IsValue ct pt → IsValue c1 p1 → IsValue c2 p2
        → IsValue (piece_step main_leaves (layer.Choose ct c1 c2)) (fit_step (layer.Choose pt p1 p2))
    choose_value ct c1 c2 pt p1 p2 is_t is_1 is_2 = record {
      named = λ scope s fit at.
          let a = around_of scope in
          let two = and_left (pt a && p1 a) (p2 a) fit in
          let first : List Instr = ct.code a at in
          let next : ℕ = at + length first + 1 in
          let second : List Instr = c1.code a next in
          let third : ℕ = at + length first + length second + 2 in
          let last : List Instr = c2.code a third in
          names_append object (first ++ instr.Zero third ∷ second) (instr.Jump (third + length last) ∷ last)
          (names_append object first (instr.Zero third ∷ second) (is_t.named scope s (and_left (pt a) (p1 a) two) at) (is_1.named scope s (and_right (pt a) (p1 a) two) next))
          (is_2.named scope s (and_right (pt a && p1 a) (p2 a) fit) third);
    }

    -- ---- several values

    -- each piece is that of a value
    abbrev pub AreValues : List (Piece Around) → List Fit → Type 0
    AreValues [] [] = Unit {0}
    AreValues [] (p ∷ ps) = ⊥
    AreValues (c ∷ cs) [] = ⊥
    AreValues (c ∷ cs) (p ∷ ps) = IsValue c p × AreValues cs ps

    values_length : (cs : List (Piece Around)) (ps : List Fit) → AreValues cs ps → length cs ≡ length ps
    values_length [] [] h = refl
    values_length [] (p ∷ ps) h = absurd h
    values_length (c ∷ cs) [] h = absurd h
    values_length (c ∷ cs) (p ∷ ps) h = ap suc (values_length cs ps h.1)

    pub places_named : (cs : List (Piece Around)) (ps : List Fit) → AreValues cs ps → (scope : Scope) → InScope object scope → all_fit ps (around_of scope) ≡ true
        → (at : ℕ) → Names object (places_code cs (around_of scope) at)
    places_named [] ps h scope s fit at = refl
    places_named (c ∷ cs) [] h scope s fit at = absurd h
    places_named (c ∷ cs) (p ∷ ps) h scope s fit at =
        let a = around_of scope in
        let first : List Instr = c.code a at in
        names_append object first (places_code cs a (at + length first)) (h.0.named scope s (and_left (p a) (all_fit ps a) fit) at)
        (places_named cs ps h.1 scope s (and_right (p a) (all_fit ps a) fit) (at + length first))

    pub arguments_named : (kinds : List ParamKind) (cs : List (Piece Around)) (ps : List Fit) → AreValues cs ps → (scope : Scope) → InScope object scope
        → all_fit ps (around_of scope) ≡ true → (at : ℕ) → Names object (arguments_code kinds cs (around_of scope) at)
    arguments_named kinds [] ps h scope s fit at = refl
    arguments_named kinds (c ∷ cs) [] h scope s fit at = absurd h
    arguments_named [] (c ∷ cs) (p ∷ ps) h scope s fit at = places_named (c ∷ cs) (p ∷ ps) h scope s fit at
    arguments_named (kind ∷ kinds) (c ∷ cs) (p ∷ ps) h scope s fit at =
        let a = around_of scope in
        let first : List Instr = wanted_code (kind_type kind) c a at in
        names_append object first (arguments_code kinds cs a (at + length first))
        (wanted_named (kind_type kind) c p h.0 scope s (and_left (p a) (all_fit ps a) fit) at)
        (arguments_named kinds cs ps h.1 scope s (and_right (p a) (all_fit ps a) fit) (at + length first))

    applied_named : (cs : List (Piece Around)) (ps : List Fit) → AreValues cs ps → (scope : Scope) → InScope object scope
        → (n : Option Named) → IsFound object n
        → (k : Option Known) → ((known : Known) → k ≡ Some known → names_in_main object (instr.Call known.number) ≡ true)
        → applied_fits n k ps (around_of scope) ≡ true → (at : ℕ) → Names object (applied_code n k cs (around_of scope) at)
    applied_named cs ps h scope s (Some (Whole container ty)) there k calls fit at =
        let a = around_of scope in
        let one : length cs ≡ 1 = values_length cs ps h ∙ same_number (length ps) 1 (and_left (length ps == 1) (all_fit ps a) fit) in
        let passes : (there.declared.kind == length cs) ≡ true = ap (λ kind. kind == length cs) there.kind ∙ ap (λ n. 1 == n) one in
        names_append object (places_code cs a at) (instr.Item container (length cs) ∷ [])
        (places_named cs ps h scope s (and_right (length ps == 1) (all_fit ps a) fit) at)
        (one_named object (instr.Item container (length cs)) (declared_passes object container (λ declared. declared.kind == length cs) there.declared there.there passes))
    applied_named cs ps h scope s (Some (Called made)) there k calls fit at = let no : ⊥ = cc in absurd no
    applied_named cs ps h scope s (Some (Number slot ty)) there k calls fit at = refl
    applied_named cs ps h scope s None there (Some known) calls fit at =
        let a = around_of scope in
        names_append object (arguments_code known.kinds cs a at) (instr.Call known.number ∷ [])
        (arguments_named known.kinds cs ps h scope s (and_right (length known.kinds == length ps) (all_fit ps a) fit) at)
        (one_named object (instr.Call known.number) (calls known refl))
    applied_named cs ps h scope s None there None calls fit at = refl

    -- ---- all expressions

    -- what the code of an expression names is there
    abbrev pub IsNamed : Expr → Type 0
    IsNamed e = IsValue (main_piece e) (fits e)

    parts_values : (ys : List ((e : Expr) × IsNamed e)) → AreValues (map main_piece (exprs_of ys)) (map fits (exprs_of ys))
    parts_values [] = tt
    parts_values (y ∷ ys) = (y.1, parts_values ys)

    -- one level
    level_value : HasCalls object functions → (y : Expr-F ((e : Expr) × IsNamed e))
        → IsValue (piece_step main_leaves (map-Expr Expr (Piece Around) main_piece (map-Expr ((e : Expr) × IsNamed e) Expr (λ e. e.0) y)))
        (fit_step (map-Expr Expr Fit fits (map-Expr ((e : Expr) × IsNamed e) Expr (λ e. e.0) y)))
    level_value calls (layer.Number ty number) = record { named = λ scope s fit at. refl }
    level_value calls (layer.Name name) = record { named = λ scope s fit at. name_named (bound_to name scope) (name_found object name scope s) fit }
    level_value calls (layer.Field name field) = record { named = λ scope s fit at. refl }
    level_value calls (layer.Method name method) = record {
      named = λ scope s fit at.
          method_named (bound_to name scope) method (name_found object name scope s) (and_right (is_whole (bound_to name scope)) (is_container_method 1 method) fit);
    }
    level_value calls (layer.Unary op y) = unary_value op _ _ y.1
    level_value calls (layer.Cast ty y) = record { named = λ scope s fit at. wanted_named ty (main_piece y.0) (fits y.0) y.1 scope s fit at }
    level_value calls (layer.Binary op y z) = binary_value op _ _ _ _ y.1 z.1
    level_value calls (layer.Both y z) = both_value _ _ _ _ y.1 z.1
    level_value calls (layer.Either y z) = either_value _ _ _ _ y.1 z.1
    level_value calls (layer.Choose x y z) = choose_value _ _ _ _ _ _ x.1 y.1 z.1
    level_value calls (layer.Apply name ys) = record {
      named = λ scope s fit at.
          applied_named (map main_piece (exprs_of ys)) (map fits (exprs_of ys)) (parts_values ys) scope s (bound_to name scope) (name_found object name scope s)
          (bound_to name functions) (calls.each name) fit at;
    }

    rolled : (x : Expr-F Expr) → IsValue (piece_step main_leaves (map-Expr Expr (Piece Around) main_piece x)) (fit_step (map-Expr Expr Fit fits x)) → IsNamed (roll-Expr x)
    rolled x is =
        subst (λ (c : Piece Around). IsValue c (fits (roll-Expr x))) (sym (fold-roll-Expr (Piece Around) (piece_step main_leaves) x))
        (subst (λ (p : Fit). IsValue (piece_step main_leaves (map-Expr Expr (Piece Around) main_piece x)) p) (sym (fold-roll-Expr Fit fit_step x)) is)

    -- what the code of each expression names is there, where it fits
    pub expression_named : HasCalls object functions → (e : Expr) → IsNamed e
    expression_named calls =
        ind-Expr IsNamed (λ x y is. subst (λ z. IsNamed (roll-Expr z)) is (rolled (map-Expr ((e : Expr) × IsNamed e) Expr (λ e. e.0) y) (level_value calls y)))

    -- and of several
    pub expressions_named : HasCalls object functions → (es : List Expr) → AreValues (map main_piece es) (map fits es)
    expressions_named calls [] = tt
    expressions_named calls (e ∷ es) = (expression_named calls e, expressions_named calls es)
