-- The code of an expression of main that fits is a sound stretch of code, which leaves a value of the expression's type.
use Rattle.std.proofs.Common.{◌≡◌, ℕ, suc, ◌+◌, ◌≤◌, List, [], ◌∷◌, ◌++◌, length, map, reverse, Option, Some, None, ℤ, slice_get, refl, sym, ap, ◌∙◌, subst, arith, length-append}
use Rattle.std.proofs.lemmas.Bool.{and_from}
use Rattle.std.proofs.lemmas.List.{length-map, length-reverse}
use Rattle.std.specs.List.{list_all}
use Rattle.std.specs.Prelude.{true, false, Bool, ◌&&◌, ◌==◌, if◌then◌else◌, nat_lt}
use Rattle.sk_base.specs.declared.number.Op.{Op}
use Rattle.sk_base.specs.declared.number.Ty.{Ty}
use Rattle.sk_base.specs.declared.number.Ty.TheVariants.{Int}
use Rattle.sk_isa.specs.Objects.{no_signature, signature_at}
use Rattle.sk_isa.specs.Soundness.{left_by_call, left_if, left_with, serve_for, serves, takes_scalars, is_scalar}
use Rattle.sk_isa.specs.declared.code.Instr.{Instr}
use Rattle.sk_isa.specs.declared.code.Instr.TheVariants as instr
use Rattle.sk_isa.specs.declared.object.Object.{Object}
use Rattle.sk_isa.specs.declared.object.Signature.{Signature}
use Rattle.sk_main_code.specs.MainSoundness.{given_in_main, names_of_main}
use Rattle.sk_main_fits.specs.Fits.{Fit, fits, fit_step, all_fit, applied_fits, is_number, is_whole}
use Rattle.sk_main_names.proofs.Tests.{same_number}
use Rattle.sk_main_scheme.specs.MainScheme.{Around, Named, Number, Whole, Called, applied_code, applied_depth, applied_type, main_leaves, main_piece, name_leaf, method_leaf}
use Rattle.sk_main_sound.proofs.Scopes.{Scope, IsFound, InScope, live_in, name_found}
use Rattle.sk_main_sound.proofs.Values.{Stretch, binary_piece, both_piece, choice_piece, either_piece, many_taken, nothing_piece, number_piece, one_piece, piece_end, prefix_piece, quiet, then_one, then_piece, wanted_piece, wider_top}
use Rattle.sk_meaning.specs.Evaluation.{kind_type}
use Rattle.sk_meaning.specs.Expressions.{wider}
use Rattle.sk_names.specs.Bindings.{bound_to}
use Rattle.sk_plain.proofs.Lists.{all_one, reverse-onto}
use Rattle.sk_plain.proofs.Parts.{exprs_of}
use Rattle.sk_plain.proofs.Truths.{and_left, and_right}
use Rattle.sk_scheme.specs.Pieces.{Piece, arguments_code, parts_depth, piece_step, places_code, wanted_code}
use Rattle.sk_scheme.specs.Scheme.{Known}
use Rattle.sk_scheme_sound.proofs.SoundPieces.{type_serves}
use Rattle.sk_scheme_sound.proofs.SoundValues.{pushed, pushed-more, serves_left, serves_right}
use Rattle.sk_tree.specs.Parameters.{is_container_method}
use Rattle.sk_tree.specs.declared.declared.Declared.{Declared}
use Rattle.sk_tree.specs.declared.tree.Expr.{Expr, Expr-F, roll-Expr, map-Expr, fold-roll-Expr, ind-Expr}
use Rattle.sk_tree.specs.declared.tree.Expr.TheOpen as layer
use Rattle.sk_tree.specs.declared.tree.ParamKind.{ParamKind}
use Rattle.sk_tree.specs.declared.tree.ParamKind.TheVariants.{Scalar, Index, Proxy, Region}
use Rattle.sk_tree.specs.declared.tree.Un.{Un}

kinds_serve : (kinds : List ParamKind) → list_all is_scalar kinds ≡ true → serve_for (map kind_type kinds) kinds ≡ true
kinds_serve [] e = refl
kinds_serve (Scalar ty ∷ kinds) e = and_from (serves ty ty) (serve_for (map kind_type kinds) kinds) (type_serves ty) (kinds_serve kinds e)
kinds_serve (Index dimension ∷ kinds) e = let no : ⊥ = cc in absurd no
kinds_serve (Proxy dimension ty ∷ kinds) e = let no : ⊥ = cc in absurd no
kinds_serve (Region dimension ty ∷ kinds) e = let no : ⊥ = cc in absurd no

-- what a call leaves, where what it names is there
call_effect : (o : Option Signature) (b : Bool) (kinds : List ParamKind) (ret : Ty) (types : List Ty) → (b && takes_scalars o) ≡ true
    → (elim o as (λ x. Signature) [ Some signature ↦ signature | None ↦ no_signature ]).params ≡ kinds
    → (elim o as (λ x. Signature) [ Some signature ↦ signature | None ↦ no_signature ]).ret ≡ ret
    → (if b then left_by_call o (pushed kinds types) else None) ≡ Some (ret ∷ types)
call_effect (Some signature) true kinds ret types names params_is ret_is =
    let fs : List Ty = map kind_type kinds in
    let n : length signature.params ≡ length fs = ap length params_is ∙ sym (length-map kinds kind_type) in
    let scalars : list_all is_scalar kinds ≡ true = ap (list_all is_scalar) (sym params_is) ∙ names in
    let serve : serve_for fs signature.params ≡ true = ap (serve_for fs) params_is ∙ kinds_serve kinds scalars in
    many_taken fs types (length signature.params) (λ given rest. left_if (serve_for given signature.params) (signature.ret ∷ rest)) n
    ∙ ap (λ (b : Bool). left_if b (signature.ret ∷ types)) serve
    ∙ ap (λ (t : Ty). Some (t ∷ types)) ret_is
call_effect (Some signature) false kinds ret types names params_is ret_is = let no : ⊥ = cc in absurd no
call_effect None true kinds ret types names params_is ret_is = let no : ⊥ = cc in absurd no
call_effect None false kinds ret types names params_is ret_is = let no : ⊥ = cc in absurd no

-- The functions that are known have their parameters and types in the object.
pub record HasKnown (object : Object) (functions : List (List ℕ × Known)) : Type 0 where
  pub each : (name : List ℕ) (known : Known) → bound_to name functions ≡ Some known
      → ((signature_at object known.number).params ≡ known.kinds) × ((signature_at object known.number).ret ≡ known.ret)

module _ (object : Object) (depth : ℕ) where
  -- the type of a container's elements
  given_type : (container places : ℕ) (ty : Ty) (declared : Declared) → slice_get object.containers container ≡ Some declared → declared.ty ≡ ty
      → given_in_main object (instr.Item container places) ≡ ty ∷ []
  given_type container places ty declared there is =
      ap (λ (o : Option Declared). elim o as (λ x. List Ty) [ Some declared ↦ declared.ty ∷ [] | None ↦ [] ]) there ∙ ap (λ (t : Ty). t ∷ []) is

  name_stretch : (live : ℕ → Bool) (n : Option Named) → IsFound object live n → is_number n ≡ true → (at : ℕ) (types : List Ty) → length types + (name_leaf n).depth ≤ depth
      → Stretch object depth live at (name_leaf n).code (at + length (name_leaf n).code) types ((name_leaf n).ty ∷ types)
  name_stretch live (Some (Number slot ty)) h e at types low =
      piece_end object depth live at (suc at) (instr.Load slot ∷ []) types (ty ∷ types)
      (one_piece object depth live (instr.Load slot) at types (ty ∷ types) (λ names. ap (λ (o : Option Ty). left_with o types) h) (omega (arith, low))
      (quiet live (instr.Load slot) refl refl (λ container. refl)) refl tt)
  name_stretch live (Some (Whole container ty)) h e at types low = let no : ⊥ = cc in absurd no
  name_stretch live (Some (Called made)) h e at types low = let no : ⊥ = cc in absurd no
  name_stretch live None h e at types low = let no : ⊥ = cc in absurd no

  name_high : (n : Option Named) → is_number n ≡ true → 1 ≤ (name_leaf n).depth
  name_high (Some (Number slot ty)) e = omega arith
  name_high (Some (Whole container ty)) e = let no : ⊥ = cc in absurd no
  name_high (Some (Called made)) e = let no : ⊥ = cc in absurd no
  name_high None e = let no : ⊥ = cc in absurd no

  method_stretch : (live : ℕ → Bool) (n : Option Named) (method : List ℕ) → IsFound object live n → is_whole n ≡ true → (at : ℕ) (types : List Ty) → length types + (method_leaf n method).depth ≤ depth
      → Stretch object depth live at (method_leaf n method).code (at + length (method_leaf n method).code) types ((method_leaf n method).ty ∷ types)
  method_stretch live (Some (Whole container ty)) method h e at types low =
      let i : Instr = instr.Size container method in
      piece_end object depth live at (suc at) (i ∷ []) types (Int ∷ types)
      (one_piece object depth live i at types (Int ∷ types)
      (λ names. many_taken [] types 0 (λ given rest. left_if (names_of_main object i) (Int ∷ rest)) refl ∙ ap (λ (b : Bool). left_if b (Int ∷ types)) names)
      (omega (arith, low)) (record { made = refl; used = all_one (λ c. live c ≡ true) container h.3; lives = λ c. refl }) refl tt)
  method_stretch live (Some (Number slot ty)) method h e at types low = let no : ⊥ = cc in absurd no
  method_stretch live (Some (Called made)) method h e at types low = let no : ⊥ = cc in absurd no
  method_stretch live None method h e at types low = let no : ⊥ = cc in absurd no

  method_high : (n : Option Named) (method : List ℕ) → is_whole n ≡ true → 1 ≤ (method_leaf n method).depth
  method_high (Some (Whole container ty)) method e = omega arith
  method_high (Some (Number slot ty)) method e = let no : ⊥ = cc in absurd no
  method_high (Some (Called made)) method e = let no : ⊥ = cc in absurd no
  method_high None method e = let no : ⊥ = cc in absurd no

  module _ (functions : List (List ℕ × Known)) where
    abbrev pub around_of : Scope → Around
    around_of scope = record { functions = functions; scope = scope }

    -- code that leaves a value of its type where it fits
    pub record IsValue (c : Piece Around) (fit : Fit) : Type 0 where
      pub high : (scope : Scope) → InScope object scope → fit (around_of scope) ≡ true → 1 ≤ c.depth (around_of scope)
      pub stretch : (scope : Scope) → InScope object scope → fit (around_of scope) ≡ true → (at : ℕ) (types : List Ty) → length types + c.depth (around_of scope) ≤ depth
          → Stretch object depth (live_in scope) at (c.code (around_of scope) at) (at + length (c.code (around_of scope) at)) types (c.ty (around_of scope) ∷ types)

    number_value : (ty : Ty) (number : ℤ) → IsValue (piece_step main_leaves (layer.Number ty number)) (fit_step (layer.Number ty number))
    number_value ty number = record {
      high = λ scope s fit. omega arith;
      stretch = λ scope s fit at types low. number_piece object depth (live_in scope) ty number at types (omega (arith, low)) fit;
    }

    name_value : (name : List ℕ) → IsValue (piece_step main_leaves (layer.Name name)) (fit_step (layer.Name name))
    name_value name = record {
      high = λ scope s fit. name_high (bound_to name scope) fit;
      stretch = λ scope s fit at types low. name_stretch (live_in scope) (bound_to name scope) (name_found object name scope s) fit at types low;
    }

    method_value : (name method : List ℕ) → IsValue (piece_step main_leaves (layer.Method name method)) (fit_step (layer.Method name method))
    method_value name method = record {
      high = λ scope s fit. method_high (bound_to name scope) method (and_left (is_whole (bound_to name scope)) (is_container_method 1 method) fit);
      stretch = λ scope s fit at types low.
          method_stretch (live_in scope) (bound_to name scope) method (name_found object name scope s) (and_left (is_whole (bound_to name scope)) (is_container_method 1 method) fit) at types low;
    }

    never_value : (c : Piece Around) → IsValue c (λ around. false)
    never_value c = record {
      high = λ scope s fit. let no : ⊥ = cc in absurd no;
      stretch = λ scope s fit at types low. let no : ⊥ = cc in absurd no;
    }

    unary_value : (op : Un) (c : Piece Around) (p : Fit) → IsValue c p → IsValue (piece_step main_leaves (layer.Unary op c)) (fit_step (layer.Unary op p))
    unary_value op c p is = record {
      high = λ scope s fit. is.high scope s fit;
      stretch = λ scope s fit at types low.
          let high = is.high scope s fit in
          let a = around_of scope in
          prefix_piece object depth (live_in scope) op (c.ty a) at (at + length (c.code a at)) (c.code a at) types types (omega (arith, low, high)) (is.stretch scope s fit at types low);
    }

    -- an expression where a value of a type is wanted
    pub wanted_value : (wanted : Ty) (c : Piece Around) (p : Fit) → IsValue c p → (scope : Scope) → InScope object scope → p (around_of scope) ≡ true → (at : ℕ) (types : List Ty)
        → length types + c.depth (around_of scope) ≤ depth
        → Stretch object depth (live_in scope) at (wanted_code wanted c (around_of scope) at) (at + length (wanted_code wanted c (around_of scope) at)) types (wanted ∷ types)
    wanted_value wanted c p is scope s fit at types low =
        let high = is.high scope s fit in
        let a = around_of scope in
        wanted_piece object depth (live_in scope) wanted (c.ty a) at (at + length (c.code a at)) (c.code a at) types types (omega (arith, low, high)) (is.stretch scope s fit at types low)

    cast_value : (ty : Ty) (c : Piece Around) (p : Fit) → IsValue c p → IsValue (piece_step main_leaves (layer.Cast ty c)) (fit_step (layer.Cast ty p))
    cast_value ty c p is = record {
      high = λ scope s fit. is.high scope s fit;
      stretch = λ scope s fit at types low. wanted_value ty c p is scope s fit at types low;
    }

    binary_value : (op : Op) (cl cr : Piece Around) (pl pr : Fit) → IsValue cl pl → IsValue cr pr → IsValue (piece_step main_leaves (layer.Binary op cl cr)) (fit_step (layer.Binary op pl pr))
    binary_value op cl cr pl pr is_l is_r = record {
      high = λ scope s fit.
          let high = is_l.high scope s (and_left (pl (around_of scope)) (pr (around_of scope)) fit) in
          omega (arith, high);
      stretch = λ scope s fit at types low.
          let a = around_of scope in
          let l = and_left (pl a) (pr a) fit in
          let r = and_right (pl a) (pr a) fit in
          let one : List Instr = cl.code a at in
          let mid : ℕ = at + length one in
          let other : List Instr = cr.code a mid in
          let high = is_r.high scope s r in
          let f = is_l.stretch scope s l at types (omega (arith, low)) in
          let g = is_r.stretch scope s r mid (cl.ty a ∷ types) (omega (arith, low)) in
          let both = then_piece object depth (live_in scope) at mid (mid + length other) one other types (cl.ty a ∷ types) (cr.ty a ∷ cl.ty a ∷ types) f g in
          binary_piece object depth (live_in scope) op (cl.ty a) (cr.ty a) at (at + length (one ++ other)) (one ++ other) types types (omega (arith, low, high)) both;
    }

    both_value : (cl cr : Piece Around) (pl pr : Fit) → IsValue cl pl → IsValue cr pr → IsValue (piece_step main_leaves (layer.Both cl cr)) (fit_step (layer.Both pl pr))
    both_value cl cr pl pr is_l is_r = record {
      high = λ scope s fit.
          let high = is_l.high scope s (and_left (pl (around_of scope)) (pr (around_of scope)) fit) in
          omega (arith, high);
      stretch = λ scope s fit at types low.
          let a = around_of scope in
          let l = and_left (pl a) (pr a) fit in
          let r = and_right (pl a) (pr a) fit in
          let high = is_l.high scope s l in
          both_piece object depth (live_in scope) (cl.code a) (cr.code a) (cl.ty a) (cr.ty a) at types (omega (arith, low, high))
          (is_l.stretch scope s l at types (omega (arith, low))) (λ to. is_r.stretch scope s r to types (omega (arith, low)));
    }

    either_value : (cl cr : Piece Around) (pl pr : Fit) → IsValue cl pl → IsValue cr pr → IsValue (piece_step main_leaves (layer.Either cl cr)) (fit_step (layer.Either pl pr))
    either_value cl cr pl pr is_l is_r = record {
      high = λ scope s fit.
          let high = is_l.high scope s (and_left (pl (around_of scope)) (pr (around_of scope)) fit) in
          omega (arith, high);
      stretch = λ scope s fit at types low.
          let a = around_of scope in
          let l = and_left (pl a) (pr a) fit in
          let r = and_right (pl a) (pr a) fit in
          let high = is_l.high scope s l in
          either_piece object depth (live_in scope) (cl.code a) (cr.code a) (cl.ty a) (cr.ty a) at types (omega (arith, low, high))
          (is_l.stretch scope s l at types (omega (arith, low))) (λ to. is_r.stretch scope s r to types (omega (arith, low)));
    }

    choose_value : (ct c1 c2 : Piece Around) (pt p1 p2 : Fit) → IsValue ct pt → IsValue c1 p1 → IsValue c2 p2
        → IsValue (piece_step main_leaves (layer.Choose ct c1 c2)) (fit_step (layer.Choose pt p1 p2))
    choose_value ct c1 c2 pt p1 p2 is_t is_1 is_2 = record {
      high = λ scope s fit.
          let a = around_of scope in
          let x = and_left (pt a && p1 a) (p2 a) fit in
          let high = is_t.high scope s (and_left (pt a) (p1 a) x) in
          omega (arith, high);
      stretch = λ scope s fit at types low.
          let a = around_of scope in
          let x = and_left (pt a && p1 a) (p2 a) fit in
          let w = and_left (pt a) (p1 a) x in
          let y = and_right (pt a) (p1 a) x in
          let z = and_right (pt a && p1 a) (p2 a) fit in
          let high = is_t.high scope s w in
          let ty : Ty = wider (c1.ty a) (c2.ty a) in
          choice_piece object depth (live_in scope) (ct.code a) (c1.code a) (c2.code a) (ct.ty a) ty at types (omega (arith, low, high))
          (is_t.stretch scope s w at types (omega (arith, low)))
          (λ to. wider_top object depth (live_in scope) to _ (c1.code a to) types (c1.ty a) ty types (serves_left (c1.ty a) (c2.ty a)) (is_1.stretch scope s y to types (omega (arith, low))))
          (λ to. wider_top object depth (live_in scope) to _ (c2.code a to) types (c2.ty a) ty types (serves_right (c1.ty a) (c2.ty a)) (is_2.stretch scope s z to types (omega (arith, low))));
    }

    -- ---- several values

    -- each piece is that of a value
    abbrev pub AreValues : List (Piece Around) → List Fit → Type 0
    AreValues [] [] = Unit {0}
    AreValues [] (p ∷ ps) = ⊥
    AreValues (c ∷ cs) [] = ⊥
    AreValues (c ∷ cs) (p ∷ ps) = IsValue c p × AreValues cs ps

    pub values_length : (cs : List (Piece Around)) (ps : List Fit) → AreValues cs ps → length cs ≡ length ps
    values_length [] [] h = refl
    values_length [] (p ∷ ps) h = absurd h
    values_length (c ∷ cs) [] h = absurd h
    values_length (c ∷ cs) (p ∷ ps) h = ap suc (values_length cs ps h.1)

    -- each value stays on the stack
    pub parts_high : (cs : List (Piece Around)) (a : Around) → length cs ≤ parts_depth cs a
    parts_high [] a = omega arith
    parts_high (c ∷ cs) a = let rest = parts_high cs a in omega (arith, rest)

    -- the types of values as they are
    abbrev pub own_types : List (Piece Around) → Around → List Ty
    own_types cs a = map (λ (c : Piece Around). c.ty a) cs

    pub places_stretch : (cs : List (Piece Around)) (ps : List Fit) → AreValues cs ps → (scope : Scope) → InScope object scope → all_fit ps (around_of scope) ≡ true
        → (at : ℕ) (types : List Ty) → length types + parts_depth cs (around_of scope) ≤ depth
        → Stretch object depth (live_in scope) at (places_code cs (around_of scope) at) (at + length (places_code cs (around_of scope) at)) types (reverse (own_types cs (around_of scope)) ++ types)
    places_stretch [] [] h scope s fit at types low = nothing_piece object depth (live_in scope) at types
    places_stretch [] (p ∷ ps) h scope s fit at types low = absurd h
    places_stretch (c ∷ cs) [] h scope s fit at types low = absurd h
    places_stretch (c ∷ cs) (p ∷ ps) h scope s fit at types low =
        let a = around_of scope in
        let first : List Instr = c.code a at in
        let mid : ℕ = at + length first in
        let rest : List Instr = places_code cs a mid in
        let f = h.0.stretch scope s (and_left (p a) (all_fit ps a) fit) at types (omega (arith, low)) in
        let g = places_stretch cs ps h.1 scope s (and_right (p a) (all_fit ps a) fit) mid (c.ty a ∷ types) (omega (arith, low)) in
        subst (λ (l : List Ty). Stretch object depth (live_in scope) at (first ++ rest) (at + length (first ++ rest)) types l) (reverse-onto (c.ty a) (own_types cs a) types)
        (then_piece object depth (live_in scope) at mid (mid + length rest) first rest types (c.ty a ∷ types) (reverse (own_types cs a) ++ c.ty a ∷ types) f g)

    pub arguments_stretch : (cs : List (Piece Around)) (ps : List Fit) → AreValues cs ps → (kinds : List ParamKind) → length kinds ≡ length cs → (scope : Scope) → InScope object scope
        → all_fit ps (around_of scope) ≡ true → (at : ℕ) (types : List Ty) → length types + parts_depth cs (around_of scope) ≤ depth
        → Stretch object depth (live_in scope) at (arguments_code kinds cs (around_of scope) at) (at + length (arguments_code kinds cs (around_of scope) at)) types (pushed kinds types)
    arguments_stretch [] [] h [] n scope s fit at types low = nothing_piece object depth (live_in scope) at types
    arguments_stretch [] [] h (kind ∷ kinds) n scope s fit at types low = absurd (omega (arith, n))
    arguments_stretch [] (p ∷ ps) h kinds n scope s fit at types low = absurd h
    arguments_stretch (c ∷ cs) [] h kinds n scope s fit at types low = absurd h
    arguments_stretch (c ∷ cs) (p ∷ ps) h [] n scope s fit at types low = absurd (omega (arith, n))
    arguments_stretch (c ∷ cs) (p ∷ ps) h (kind ∷ kinds) n scope s fit at types low =
        let a = around_of scope in
        let ty : Ty = kind_type kind in
        let first : List Instr = wanted_code ty c a at in
        let mid : ℕ = at + length first in
        let rest : List Instr = arguments_code kinds cs a mid in
        let f = wanted_value ty c p h.0 scope s (and_left (p a) (all_fit ps a) fit) at types (omega (arith, low)) in
        let g = arguments_stretch cs ps h.1 kinds (omega (arith, n)) scope s (and_right (p a) (all_fit ps a) fit) mid (ty ∷ types) (omega (arith, low)) in
        subst (λ (l : List Ty). Stretch object depth (live_in scope) at (first ++ rest) (at + length (first ++ rest)) types l) (pushed-more kind kinds types)
        (then_piece object depth (live_in scope) at mid (mid + length rest) first rest types (ty ∷ types) (pushed kinds (ty ∷ types)) f g)

    applied_stretch : HasKnown object functions → (cs : List (Piece Around)) (ps : List Fit) → AreValues cs ps → (scope : Scope) → InScope object scope
        → (n : Option Named) → IsFound object (live_in scope) n
        → (k : Option Known) → ((known : Known) → k ≡ Some known → ((signature_at object known.number).params ≡ known.kinds) × ((signature_at object known.number).ret ≡ known.ret))
        → applied_fits n k ps (around_of scope) ≡ true → (at : ℕ) (types : List Ty) → length types + suc (length cs) ≤ suc depth → length types + parts_depth cs (around_of scope) ≤ depth
        → Stretch object depth (live_in scope) at (applied_code n k cs (around_of scope) at) (at + length (applied_code n k cs (around_of scope) at)) types (applied_type n k ∷ types)
    applied_stretch known_is cs ps h scope s (Some (Whole container ty)) there k known fit at types few low =
        let a = around_of scope in
        let live = live_in scope in
        let code : List Instr = places_code cs a at in
        let i : Instr = instr.Item container (length cs) in
        let tys : List Ty = own_types cs a in
        let given : given_in_main object i ≡ ty ∷ [] = given_type container (length cs) ty there.0 there.1 there.2 in
        then_one object depth live at (at + length code) code i types (reverse tys ++ types) (ty ∷ types)
        (places_stretch cs ps h scope s (and_right (length ps == 1) (all_fit ps a) fit) at types low)
        (λ names. many_taken tys types (length cs) (λ taken rest. left_if (names_of_main object i) (given_in_main object i ++ rest)) (sym (length-map cs (λ (c : Piece Around). c.ty a)))
        ∙ ap (λ (b : Bool). left_if b (given_in_main object i ++ types)) names ∙ ap (λ (l : List Ty). Some (l ++ types)) given)
        (omega (arith, few, length-append (reverse tys) types, length-reverse tys, length-map cs (λ (c : Piece Around). c.ty a)))
        (record { made = refl; used = all_one (λ c. live c ≡ true) container there.3; lives = λ c. refl }) refl tt
    applied_stretch known_is cs ps h scope s (Some (Called made)) there k known fit at types few low = let no : ⊥ = cc in absurd no
    applied_stretch known_is cs ps h scope s (Some (Number slot ty)) there k known fit at types few low = let no : ⊥ = cc in absurd no
    applied_stretch known_is cs ps h scope s None there (Some f) known fit at types few low =
        let a = around_of scope in
        let live = live_in scope in
        let kinds : List ParamKind = f.kinds in
        let n : length kinds ≡ length cs = same_number (length kinds) (length ps) (and_left (length kinds == length ps) (all_fit ps a) fit) ∙ sym (values_length cs ps h) in
        let fine = and_right (length kinds == length ps) (all_fit ps a) fit in
        let code : List Instr = arguments_code kinds cs a at in
        let i : Instr = instr.Call f.number in
        let signature = known f refl in
        then_one object depth live at (at + length code) code i types (pushed kinds types) (f.ret ∷ types) (arguments_stretch cs ps h kinds n scope s fine at types low)
        (λ names. call_effect (slice_get object.signatures f.number) (nat_lt f.number (length object.functions)) kinds f.ret types names signature.0 signature.1)
        (omega (arith, few, n, length-append (reverse (map kind_type kinds)) types, length-reverse (map kind_type kinds), length-map kinds kind_type))
        (quiet live i refl refl (λ c. refl)) refl tt
    applied_stretch known_is cs ps h scope s None there None known fit at types few low = let no : ⊥ = cc in absurd no

    applied_deep : (cs : List (Piece Around)) (ps : List Fit) (scope : Scope) (n : Option Named) (k : Option Known) → applied_fits n k ps (around_of scope) ≡ true
        → applied_depth n cs (around_of scope) ≡ parts_depth cs (around_of scope)
    applied_deep cs ps scope (Some (Whole container ty)) k e = refl
    applied_deep cs ps scope (Some (Number slot ty)) k e = refl
    applied_deep cs ps scope (Some (Called made)) k e = let no : ⊥ = cc in absurd no
    applied_deep cs ps scope None k e = refl

    apply_value : HasKnown object functions → (name : List ℕ) (cs : List (Piece Around)) (ps : List Fit) → AreValues cs ps
        → IsValue (piece_step main_leaves (layer.Apply name cs)) (fit_step (layer.Apply name ps))
    apply_value known name cs ps h = record {
      high = λ scope s fit. omega arith;
      stretch = λ scope s fit at types low.
          let deep = applied_deep cs ps scope (bound_to name scope) (bound_to name functions) fit in
          let high = parts_high cs (around_of scope) in
          applied_stretch known cs ps h scope s (bound_to name scope) (name_found object name scope s) (bound_to name functions) (known.each name) fit at types
          (omega (arith, low, deep, high)) (omega (arith, low, deep));
    }

    -- ---- all expressions

    -- the code of an expression leaves its value
    abbrev pub IsSound : Expr → Type 0
    IsSound e = IsValue (main_piece e) (fits e)

    parts_values : (ys : List ((e : Expr) × IsSound e)) → AreValues (map main_piece (exprs_of ys)) (map fits (exprs_of ys))
    parts_values [] = tt
    parts_values (y ∷ ys) = (y.1, parts_values ys)

    -- one level
    level_value : HasKnown object functions → (y : Expr-F ((e : Expr) × IsSound e))
        → IsValue (piece_step main_leaves (map-Expr Expr (Piece Around) main_piece (map-Expr ((e : Expr) × IsSound e) Expr (λ e. e.0) y)))
        (fit_step (map-Expr Expr Fit fits (map-Expr ((e : Expr) × IsSound e) Expr (λ e. e.0) y)))
    level_value known (layer.Number ty number) = number_value ty number
    level_value known (layer.Name name) = name_value name
    level_value known (layer.Field name field) = never_value _
    level_value known (layer.Method name method) = method_value name method
    level_value known (layer.Unary op y) = unary_value op _ _ y.1
    level_value known (layer.Cast ty y) = cast_value ty _ _ y.1
    level_value known (layer.Binary op y z) = binary_value op _ _ _ _ y.1 z.1
    level_value known (layer.Both y z) = both_value _ _ _ _ y.1 z.1
    level_value known (layer.Either y z) = either_value _ _ _ _ y.1 z.1
    level_value known (layer.Choose x y z) = choose_value _ _ _ _ _ _ x.1 y.1 z.1
    level_value known (layer.Apply name ys) = apply_value known name (map main_piece (exprs_of ys)) (map fits (exprs_of ys)) (parts_values ys)

    rolled : (x : Expr-F Expr) → IsValue (piece_step main_leaves (map-Expr Expr (Piece Around) main_piece x)) (fit_step (map-Expr Expr Fit fits x)) → IsSound (roll-Expr x)
    rolled x is =
        subst (λ (c : Piece Around). IsValue c (fits (roll-Expr x))) (sym (fold-roll-Expr (Piece Around) (piece_step main_leaves) x))
        (subst (λ (p : Fit). IsValue (piece_step main_leaves (map-Expr Expr (Piece Around) main_piece x)) p) (sym (fold-roll-Expr Fit fit_step x)) is)

    -- the code of each expression is sound where it fits
    pub expression_sound : HasKnown object functions → (e : Expr) → IsSound e
    expression_sound known =
        ind-Expr IsSound (λ x y is. subst (λ z. IsSound (roll-Expr z)) is (rolled (map-Expr ((e : Expr) × IsSound e) Expr (λ e. e.0) y) (level_value known y)))

    -- and of several
    pub expressions_sound : HasKnown object functions → (es : List Expr) → AreValues (map main_piece es) (map fits es)
    expressions_sound known [] = tt
    expressions_sound known (e ∷ es) = (expression_sound known e, expressions_sound known es)
