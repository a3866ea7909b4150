-- The code of a plain expression is a sound piece of code, which leaves a value of the expression's type.
use Rattle.std.proofs.Common.{◌≡◌, ℕ, ◌+◌, ◌≤◌, List, [], ◌∷◌, ◌++◌, suc, length, map, reverse, Option, Some, None, ℤ, refl, sym, ap, ◌∙◌, subst, arith}
use Rattle.std.specs.Prelude.{true, false, Bool, max, ◌&&◌}
use Rattle.std.specs.List.{list_all}
use Rattle.sk_base.specs.declared.number.Op.{Op}
use Rattle.sk_base.specs.declared.number.Ty.{Ty}
use Rattle.sk_base.specs.declared.number.Ty.TheVariants.{Int}
use Rattle.sk_names.specs.Bindings.{bound_to}
use Rattle.sk_meaning.specs.Evaluation.{kind_type}
use Rattle.sk_meaning.specs.Expressions.{wider}
use Rattle.sk_tree.specs.declared.tree.ParamKind.{ParamKind}
use Rattle.sk_tree.specs.declared.tree.ParamKind.TheVariants.{Scalar, Index, Proxy, Region}
use Rattle.sk_tree.specs.declared.tree.Un.{Un}
use Rattle.sk_tree.specs.declared.tree.Expr.{Expr, Expr-F, roll-Expr, map-Expr, fold-roll-Expr, ind-Expr}
use Rattle.sk_tree.specs.declared.tree.Expr.TheOpen as layer
use Rattle.sk_scheme.specs.Pieces.{wanted_code, places_code, arguments_code, parts_depth}
use Rattle.sk_scheme.specs.Scheme.{Slot, Known, Around, Compiled, compiled_of, compiled_step, applied_code, applied_type, field_code, name_code, name_depth, name_type}
use Rattle.sk_scheme.proofs.ScalarNames.{scalar-code, scalar-depth}
use Rattle.sk_isa.specs.Soundness.{Named, is_scalar}
use Rattle.sk_isa.specs.declared.code.Instr.{Instr}
use Rattle.sk_plain.specs.Plain.{Parameters, NamedKinds, is_plain_expression, plain_expression_step, has_places, is_applied, takes}
use Rattle.sk_plain.proofs.Truths.{and_left, and_right}
use Rattle.sk_plain.proofs.Bindings.{names_of}
use Rattle.sk_plain.proofs.Lists.{reverse-onto}
use Rattle.sk_plain.proofs.Slots.{scalar_slot, field_slot, slot_of, no_slot}
use Rattle.sk_plain.proofs.PlainParts.{kinds_taken}
use Rattle.sk_plain.proofs.Parts.{exprs_of, codes_at, codes_length, plains, plains_length, parts_plain}
use Rattle.sk_scheme_sound.proofs.SoundScopes.{HasSlot, InScope, slot_there, AreCallees, callee_found}
use Rattle.sk_scheme_sound.proofs.SoundValues.{Piece, then_piece, nothing_piece, wider_top, number_piece, load_piece, field_piece, item_piece, region_piece, prefix_piece, wanted_piece, binary_piece, call_piece, both_piece, either_piece, choice_piece, serves_left, serves_right, pushed, pushed-more}

module _ (named : Named) (depth : ℕ) (parameters : Parameters) (functions : List (List ℕ × Known)) where
  abbrev pub around_of : List (List ℕ × Slot) → Around
  around_of scope = record { functions = functions; scope = scope }

  abbrev pub Scoped : List (List ℕ × Slot) → Type 0
  Scoped scope = InScope named.own.params named.own.slots scope

  -- code that leaves a value of its type where it is plain
  pub record IsValue (c : Compiled) (plain : Parameters → NamedKinds → Bool) : Type 0 where
    pub high : (scope : List (List ℕ × Slot)) → Scoped scope → plain parameters (names_of scope) ≡ true → 1 ≤ c.depth (around_of scope)
    pub piece : (scope : List (List ℕ × Slot)) → Scoped scope → plain parameters (names_of scope) ≡ true → (at : ℕ) (types : List Ty) → length types + c.depth (around_of scope) ≤ depth
        → Piece named depth at (c.code (around_of scope) at) (at + length (c.code (around_of scope) at)) (Some types) (Some (c.ty (around_of scope) ∷ types))

  number_value : (ty : Ty) (number : ℤ) → IsValue (compiled_step (layer.Number ty number)) (plain_expression_step (layer.Number ty number))
  number_value ty number = record {
    high = λ scope s plain. omega arith;
    piece = λ scope s plain at types low. number_piece named depth ty number at types (omega (arith, low)) plain;
  }

  name_value : (name : List ℕ) → IsValue (compiled_step (layer.Name name)) (plain_expression_step (layer.Name name))
  name_value name = record {
    high = λ scope s plain.
        let b = scalar_slot name scope plain in
        subst (λ (o : Option Slot). 1 ≤ name_depth o) (sym b.is) (subst (λ (n : ℕ). 1 ≤ n) (sym (scalar-depth b.slot b.ty b.kind)) (omega arith));
    piece = λ scope s plain at types low.
        let b = scalar_slot name scope plain in
        let has = slot_there named.own.params named.own.slots name b.slot scope s b.is in
        subst (λ (o : Option Slot). Piece named depth at (name_code o) (at + length (name_code o)) (Some types) (Some (name_type o ∷ types))) (sym b.is)
        (subst (λ (c : List Instr). Piece named depth at c (at + length c) (Some types) (Some (kind_type b.slot.kind ∷ types)))
        (sym (scalar-code b.slot b.ty b.kind))
        (load_piece named depth b.slot b.ty at types b.kind has (omega (arith, low))));
  }

  field_value : (name field : List ℕ) → IsValue (compiled_step (layer.Field name field)) (plain_expression_step (layer.Field name field))
  field_value name field = record {
    high = λ scope s plain. omega arith;
    piece = λ scope s plain at types low.
        let b = field_slot name field scope plain in
        let has = slot_there named.own.params named.own.slots name b.slot scope s b.is in
        subst (λ (o : Option Slot). Piece named depth at (field_code o field) (at + length (field_code o field)) (Some types) (Some (Int ∷ types))) (sym b.is)
        (field_piece named depth b.slot field at types b.has_field (has.param b.other) (omega (arith, low)));
  }

  never_value : (c : Compiled) → IsValue c (λ parameters names. false)
  never_value c = record {
    high = λ scope s plain. let no : ⊥ = cc in absurd no;
    piece = λ scope s plain at types low. let no : ⊥ = cc in absurd no;
  }

  unary_value : (op : Un) (c : Compiled) (p : Parameters → NamedKinds → Bool) → IsValue c p → IsValue (compiled_step (layer.Unary op c)) (plain_expression_step (layer.Unary op p))
  unary_value op c p is = record {
    high = λ scope s plain. is.high scope s plain;
    piece = λ scope s plain at types low.
        let high = is.high scope s plain in
        let code = c.code (around_of scope) at in
        prefix_piece named depth op (c.ty (around_of scope)) at (at + length code) code (Some types) types (omega (arith, low, high)) (is.piece scope s plain at types low);
  }

  -- an expression where a value of a type is wanted
  pub wanted_value : (wanted : Ty) (c : Compiled) (p : Parameters → NamedKinds → Bool) → IsValue c p → (scope : List (List ℕ × Slot)) → Scoped scope → p parameters (names_of scope) ≡ true → (at : ℕ) (types : List Ty)
      → length types + c.depth (around_of scope) ≤ depth
      → Piece named depth at (wanted_code wanted c (around_of scope) at) (at + length (wanted_code wanted c (around_of scope) at)) (Some types) (Some (wanted ∷ types))
  wanted_value wanted c p is scope s plain at types low =
      let high = is.high scope s plain in
      let code = c.code (around_of scope) at in
      wanted_piece named depth wanted (c.ty (around_of scope)) at (at + length code) code (Some types) types (omega (arith, low, high)) (is.piece scope s plain at types low)

  cast_value : (ty : Ty) (c : Compiled) (p : Parameters → NamedKinds → Bool) → IsValue c p → IsValue (compiled_step (layer.Cast ty c)) (plain_expression_step (layer.Cast ty p))
  cast_value ty c p is = record {
    high = λ scope s plain. is.high scope s plain;
    piece = λ scope s plain at types low. wanted_value ty c p is scope s plain at types low;
  }

  binary_value : (op : Op) (cl cr : Compiled) (pl pr : Parameters → NamedKinds → Bool) → IsValue cl pl → IsValue cr pr
      → IsValue (compiled_step (layer.Binary op cl cr)) (plain_expression_step (layer.Binary op pl pr))
  binary_value op cl cr pl pr is_l is_r = record {
    high = λ scope s plain.
        let high = is_l.high scope s (and_left (pl parameters (names_of scope)) (pr parameters (names_of scope)) plain) in
        omega (arith, high);
    piece = λ scope s plain at types low.
        let l = and_left (pl parameters (names_of scope)) (pr parameters (names_of scope)) plain in
        let r = and_right (pl parameters (names_of scope)) (pr parameters (names_of scope)) plain in
        let a = around_of scope in
        let one : List Instr = cl.code a at in
        let mid : ℕ = at + length one in
        let other : List Instr = cr.code a mid in
        let high = is_r.high scope s r in
        let f = is_l.piece scope s l at types (omega (arith, low)) in
        let g = is_r.piece scope s r mid (cl.ty a ∷ types) (omega (arith, low)) in
        let both = then_piece named depth at mid (mid + length other) one other (Some types) (Some (cl.ty a ∷ types)) (Some (cr.ty a ∷ cl.ty a ∷ types)) f g in
        binary_piece named depth op (cl.ty a) (cr.ty a) at (at + length (one ++ other)) (one ++ other) (Some types) types (omega (arith, low, high)) both;
  }

  both_value : (cl cr : Compiled) (pl pr : Parameters → NamedKinds → Bool) → IsValue cl pl → IsValue cr pr
      → IsValue (compiled_step (layer.Both cl cr)) (plain_expression_step (layer.Both pl pr))
  both_value cl cr pl pr is_l is_r = record {
    high = λ scope s plain.
        let high = is_l.high scope s (and_left (pl parameters (names_of scope)) (pr parameters (names_of scope)) plain) in
        omega (arith, high);
    piece = λ scope s plain at types low.
        let l = and_left (pl parameters (names_of scope)) (pr parameters (names_of scope)) plain in
        let r = and_right (pl parameters (names_of scope)) (pr parameters (names_of scope)) plain in
        let a = around_of scope in
        let high = is_l.high scope s l in
        both_piece named depth (cl.code a) (cr.code a) (cl.ty a) (cr.ty a) at types (omega (arith, low, high))
        (is_l.piece scope s l at types (omega (arith, low))) (λ to. is_r.piece scope s r to types (omega (arith, low)));
  }

  either_value : (cl cr : Compiled) (pl pr : Parameters → NamedKinds → Bool) → IsValue cl pl → IsValue cr pr
      → IsValue (compiled_step (layer.Either cl cr)) (plain_expression_step (layer.Either pl pr))
  either_value cl cr pl pr is_l is_r = record {
    high = λ scope s plain.
        let high = is_l.high scope s (and_left (pl parameters (names_of scope)) (pr parameters (names_of scope)) plain) in
        omega (arith, high);
    piece = λ scope s plain at types low.
        let l = and_left (pl parameters (names_of scope)) (pr parameters (names_of scope)) plain in
        let r = and_right (pl parameters (names_of scope)) (pr parameters (names_of scope)) plain in
        let a = around_of scope in
        let high = is_l.high scope s l in
        either_piece named depth (cl.code a) (cr.code a) (cl.ty a) (cr.ty a) at types (omega (arith, low, high))
        (is_l.piece scope s l at types (omega (arith, low))) (λ to. is_r.piece scope s r to types (omega (arith, low)));
  }

  choose_value : (ct c1 c2 : Compiled) (pt p1 p2 : Parameters → NamedKinds → Bool) → IsValue ct pt → IsValue c1 p1 → IsValue c2 p2
      → IsValue (compiled_step (layer.Choose ct c1 c2)) (plain_expression_step (layer.Choose pt p1 p2))
  choose_value ct c1 c2 pt p1 p2 is_t is_1 is_2 = record {
    high = λ scope s plain.
        let x = and_left (pt parameters (names_of scope) && p1 parameters (names_of scope)) (p2 parameters (names_of scope)) plain in
        let high = is_t.high scope s (and_left (pt parameters (names_of scope)) (p1 parameters (names_of scope)) x) in
        omega (arith, high);
    piece = λ scope s plain at types low.
        let x = and_left (pt parameters (names_of scope) && p1 parameters (names_of scope)) (p2 parameters (names_of scope)) plain in
        let w = and_left (pt parameters (names_of scope)) (p1 parameters (names_of scope)) x in
        let y = and_right (pt parameters (names_of scope)) (p1 parameters (names_of scope)) x in
        let z = and_right (pt parameters (names_of scope) && p1 parameters (names_of scope)) (p2 parameters (names_of scope)) plain in
        let a = around_of scope in
        let high = is_t.high scope s w in
        let ty : Ty = wider (c1.ty a) (c2.ty a) in
        choice_piece named depth (ct.code a) (c1.code a) (c2.code a) (ct.ty a) ty at types (omega (arith, low, high))
        (is_t.piece scope s w at types (omega (arith, low)))
        (λ to. wider_top named depth to _ (c1.code a to) (Some types) (c1.ty a) ty types (serves_left (c1.ty a) (c2.ty a)) (is_1.piece scope s y to types (omega (arith, low))))
        (λ to. wider_top named depth to _ (c2.code a to) (Some types) (c2.ty a) ty types (serves_right (c1.ty a) (c2.ty a)) (is_2.piece scope s z to types (omega (arith, low))));
  }

  -- the code of an expression leaves its value
  abbrev pub IsSound : Expr → Type 0
  IsSound e = IsValue (compiled_of e) (is_plain_expression e)

  abbrev Parts : Type 0
  Parts = List ((e : Expr) × IsSound e)

  arguments_piece : (ys : Parts) (kinds : List ParamKind) (scope : List (List ℕ × Slot)) → Scoped scope → parts_plain parameters ys (names_of scope) ≡ true → length kinds ≡ length ys
      → (at : ℕ) (types : List Ty) → length types + parts_depth (codes_at ys) (around_of scope) ≤ depth
      → Piece named depth at (arguments_code kinds (codes_at ys) (around_of scope) at) (at + length (arguments_code kinds (codes_at ys) (around_of scope) at)) (Some types) (Some (pushed kinds types))
  arguments_piece [] [] scope s plain n at types low = nothing_piece named depth at (Some types)
  arguments_piece [] (kind ∷ kinds) scope s plain n at types low = absurd (omega (arith, n))
  arguments_piece (y ∷ ys) [] scope s plain n at types low = absurd (omega (arith, n))
  arguments_piece (y ∷ ys) (kind ∷ kinds) scope s plain n at types low =
      let names = names_of scope in
      let a = around_of scope in
      let first_plain : is_plain_expression y.0 parameters names ≡ true = and_left (is_plain_expression y.0 parameters names) (parts_plain parameters ys names) plain in
      let rest_plain : parts_plain parameters ys names ≡ true = and_right (is_plain_expression y.0 parameters names) (parts_plain parameters ys names) plain in
      let c = compiled_of y.0 in
      let ty : Ty = kind_type kind in
      let first : List Instr = wanted_code ty c a at in
      let mid : ℕ = at + length first in
      let rest : List Instr = arguments_code kinds (codes_at ys) a mid in
      let f = wanted_value ty c (is_plain_expression y.0) y.1 scope s first_plain at types (omega (arith, low)) in
      let g = arguments_piece ys kinds scope s rest_plain (omega (arith, n)) mid (ty ∷ types) (omega (arith, low)) in
      subst (λ (l : List Ty). Piece named depth at (first ++ rest) (at + length (first ++ rest)) (Some types) (Some l)) (pushed-more kind kinds types)
      (then_piece named depth at mid (mid + length rest) first rest (Some types) (Some (ty ∷ types)) (Some (pushed kinds (ty ∷ types))) f g)

  -- each value stays on the stack
  parts_high : (ys : Parts) (a : Around) → length ys ≤ parts_depth (codes_at ys) a
  parts_high [] a = omega arith
  parts_high (y ∷ ys) a = let rest = parts_high ys a in omega (arith, rest)

  -- the types of values, each as it is
  abbrev types_at : Parts → Around → List Ty
  types_at [] a = []
  types_at (y ∷ ys) a = (compiled_of y.0).ty a ∷ types_at ys a

  types_many : (ys : Parts) (a : Around) → length (types_at ys a) ≡ length ys
  types_many [] a = refl
  types_many (y ∷ ys) a = ap suc (types_many ys a)

  -- the code of a place leaves its coordinates
  places_piece : (ys : Parts) (scope : List (List ℕ × Slot)) → Scoped scope → parts_plain parameters ys (names_of scope) ≡ true
      → (at : ℕ) (types : List Ty) → length types + parts_depth (codes_at ys) (around_of scope) ≤ depth
      → Piece named depth at (places_code (codes_at ys) (around_of scope) at) (at + length (places_code (codes_at ys) (around_of scope) at)) (Some types) (Some (reverse (types_at ys (around_of scope)) ++ types))
  places_piece [] scope s plain at types low = nothing_piece named depth at (Some types)
  places_piece (y ∷ ys) scope s plain at types low =
      let names = names_of scope in
      let a = around_of scope in
      let first_plain : is_plain_expression y.0 parameters names ≡ true = and_left (is_plain_expression y.0 parameters names) (parts_plain parameters ys names) plain in
      let rest_plain : parts_plain parameters ys names ≡ true = and_right (is_plain_expression y.0 parameters names) (parts_plain parameters ys names) plain in
      let ty : Ty = (compiled_of y.0).ty a in
      let first : List Instr = (compiled_of y.0).code a at in
      let mid : ℕ = at + length first in
      let rest : List Instr = places_code (codes_at ys) a mid in
      let f = y.1.piece scope s first_plain at types (omega (arith, low)) in
      let g = places_piece ys scope s rest_plain mid (ty ∷ types) (omega (arith, low)) in
      subst (λ (l : List Ty). Piece named depth at (first ++ rest) (at + length (first ++ rest)) (Some types) (Some l)) (reverse-onto ty (types_at ys a) types)
      (then_piece named depth at mid (mid + length rest) first rest (Some types) (Some (ty ∷ types)) (Some (reverse (types_at ys a) ++ ty ∷ types)) f g)

  -- what the code of something applied is
  abbrev AppliedPiece : Parts → (scope : List (List ℕ × Slot)) → Option Slot → Option Known → (at : ℕ) → (types : List Ty) → Type 0
  AppliedPiece ys scope slot known at types =
      Piece named depth at (applied_code slot known (codes_at ys) (around_of scope) at) (at + length (applied_code slot known (codes_at ys) (around_of scope) at))
      (Some types) (Some (applied_type slot known ∷ types))

  element_piece : (number : ℕ) (kind : ParamKind) (known : Option Known) (ys : Parts) (scope : List (List ℕ × Slot)) → Scoped scope → parts_plain parameters ys (names_of scope) ≡ true
      → has_places kind (length (codes_at ys)) ≡ true → HasSlot named.own.params named.own.slots (record { number = number; kind = kind })
      → (at : ℕ) (types : List Ty) → length types + max 1 (parts_depth (codes_at ys) (around_of scope)) ≤ depth
      → AppliedPiece ys scope (Some (record { number = number; kind = kind })) known at types
  element_piece number (Scalar ty) known ys scope s plain e has at types low = let no : ⊥ = cc in absurd no
  element_piece number (Index dimension) known ys scope s plain e has at types low = let no : ⊥ = cc in absurd no
  element_piece number (Proxy dimension ty) known ys scope s plain e has at types low =
      let a = around_of scope in
      let code : List Instr = places_code (codes_at ys) a at in
      let high = parts_high ys a in
      item_piece named depth number dimension (length (codes_at ys)) ty at (at + length code) code (Some types) (types_at ys a) types (has.param refl) e
      (types_many ys a ∙ sym (codes_length ys)) (omega (arith, low, high, codes_length ys)) (places_piece ys scope s plain at types (omega (arith, low)))
  element_piece number (Region dimension ty) known ys scope s plain e has at types low =
      let a = around_of scope in
      let code : List Instr = places_code (codes_at ys) a at in
      let high = parts_high ys a in
      region_piece named depth number dimension (length (codes_at ys)) ty at (at + length code) code (Some types) (types_at ys a) types (has.param refl) e
      (types_many ys a ∙ sym (codes_length ys)) (omega (arith, low, high, codes_length ys)) (places_piece ys scope s plain at types (omega (arith, low)))

  calling_piece : AreCallees named.signatures named.function parameters functions → (name : List ℕ) (ys : Parts) (scope : List (List ℕ × Slot)) → Scoped scope → parts_plain parameters ys (names_of scope) ≡ true
      → takes (bound_to name parameters) (length (plains ys)) ≡ true → (at : ℕ) (types : List Ty) → length types + max 1 (parts_depth (codes_at ys) (around_of scope)) ≤ depth
      → AppliedPiece ys scope None (bound_to name functions) at types
  calling_piece callees name ys scope s plain e at types low =
      let a = around_of scope in
      let c = kinds_taken (bound_to name parameters) (length (plains ys)) e in
      let f = callee_found named.signatures named.function name c.kinds parameters functions callees c.is in
      let n : length f.known.kinds ≡ length ys = ap length f.callee.kinds_are ∙ c.many ∙ plains_length ys in
      let scalars : list_all is_scalar f.known.kinds ≡ true = ap (list_all is_scalar) f.callee.kinds_are ∙ c.scalars in
      let code : List Instr = arguments_code f.known.kinds (codes_at ys) a at in
      let high = parts_high ys a in
      let g = call_piece named depth c.kinds f.known f.callee at (at + length code) code (Some types) types scalars (omega (arith, low, n, high))
      (arguments_piece ys f.known.kinds scope s plain n at types (omega (arith, low))) in
      subst (λ (o : Option Known). AppliedPiece ys scope None o at types) (sym f.is) g

  apply_value : AreCallees named.signatures named.function parameters functions → (name : List ℕ) (ys : Parts)
      → IsValue (compiled_step (layer.Apply name (codes_at ys))) (plain_expression_step (layer.Apply name (map is_plain_expression (exprs_of ys))))
  apply_value callees name ys = record { high = λ scope s plain. omega arith; piece = pieces }
    where
      by_name : (scope : List (List ℕ × Slot)) → Scoped scope → parts_plain parameters ys (names_of scope) ≡ true
          → (found : Option ParamKind) → bound_to name (names_of scope) ≡ found → is_applied found (bound_to name parameters) (length (plains ys)) ≡ true
          → (at : ℕ) (types : List Ty) → length types + max 1 (parts_depth (codes_at ys) (around_of scope)) ≤ depth
          → AppliedPiece ys scope (bound_to name scope) (bound_to name functions) at types
      by_name scope s plain (Some kind) is e at types low =
          let b = slot_of name kind scope is in
          let has = slot_there named.own.params named.own.slots name b.slot scope s b.is in
          let many : has_places b.slot.kind (length (codes_at ys)) ≡ true =
          ap (λ (k : ParamKind). has_places k (length (codes_at ys))) b.kind_is ∙ ap (has_places kind) (codes_length ys ∙ sym (plains_length ys)) ∙ e in
          subst (λ (o : Option Slot). AppliedPiece ys scope o (bound_to name functions) at types) (sym b.is)
          (element_piece b.slot.number b.slot.kind (bound_to name functions) ys scope s plain many has at types low)
      by_name scope s plain None is e at types low =
          subst (λ (o : Option Slot). AppliedPiece ys scope o (bound_to name functions) at types) (sym (no_slot name scope is))
          (calling_piece callees name ys scope s plain e at types low)

      pieces : (scope : List (List ℕ × Slot)) → Scoped scope
          → (is_applied (bound_to name (names_of scope)) (bound_to name parameters) (length (plains ys)) && parts_plain parameters ys (names_of scope)) ≡ true
          → (at : ℕ) (types : List Ty) → length types + max 1 (parts_depth (codes_at ys) (around_of scope)) ≤ depth
          → AppliedPiece ys scope (bound_to name scope) (bound_to name functions) at types
      pieces scope s plain at types low =
          let names = names_of scope in
          let test : Bool = is_applied (bound_to name names) (bound_to name parameters) (length (plains ys)) in
          by_name scope s (and_right test (parts_plain parameters ys names) plain) (bound_to name names) refl (and_left test (parts_plain parameters ys names) plain) at types low

  -- one level
  level_value : AreCallees named.signatures named.function parameters functions → (y : Expr-F ((e : Expr) × IsSound e))
      → IsValue (compiled_step (map-Expr Expr Compiled compiled_of (map-Expr ((e : Expr) × IsSound e) Expr (λ e. e.0) y)))
      (plain_expression_step (map-Expr Expr (Parameters → NamedKinds → Bool) is_plain_expression (map-Expr ((e : Expr) × IsSound e) Expr (λ e. e.0) y)))
  level_value callees (layer.Number ty number) = number_value ty number
  level_value callees (layer.Name name) = name_value name
  level_value callees (layer.Field name field) = field_value name field
  level_value callees (layer.Method name method) = never_value _
  level_value callees (layer.Unary op y) = unary_value op _ _ y.1
  level_value callees (layer.Cast ty y) = cast_value ty _ _ y.1
  level_value callees (layer.Binary op y z) = binary_value op _ _ _ _ y.1 z.1
  level_value callees (layer.Both y z) = both_value _ _ _ _ y.1 z.1
  level_value callees (layer.Either y z) = either_value _ _ _ _ y.1 z.1
  level_value callees (layer.Choose x y z) = choose_value _ _ _ _ _ _ x.1 y.1 z.1
  level_value callees (layer.Apply name ys) = apply_value callees name ys

  rolled : (x : Expr-F Expr) → IsValue (compiled_step (map-Expr Expr Compiled compiled_of x)) (plain_expression_step (map-Expr Expr (Parameters → NamedKinds → Bool) is_plain_expression x))
      → IsSound (roll-Expr x)
  rolled x is =
      subst (λ (c : Compiled). IsValue c (is_plain_expression (roll-Expr x))) (sym (fold-roll-Expr Compiled compiled_step x))
      (subst (λ (p : Parameters → NamedKinds → Bool). IsValue (compiled_step (map-Expr Expr Compiled compiled_of x)) p) (sym (fold-roll-Expr (Parameters → NamedKinds → Bool) plain_expression_step x)) is)

  -- the code of each expression is sound where it is plain
  pub expression_sound : AreCallees named.signatures named.function parameters functions → (e : Expr) → IsSound e
  expression_sound callees =
      ind-Expr IsSound (λ x y is. subst (λ z. IsSound (roll-Expr z)) is (rolled (map-Expr ((e : Expr) × IsSound e) Expr (λ e. e.0) y) (level_value callees y)))
