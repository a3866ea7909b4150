-- The parts of trees, each with what is known of it: the parts alone, and what becomes of them.
use Rattle.std.proofs.Common.{◌≡◌, List, [], ◌∷◌, ℕ, length, map, refl, ap, suc}
use Rattle.std.specs.Prelude.{Bool}
use Rattle.std.specs.List.{list_all, list_any}
use Rattle.sk_tree.specs.declared.tree.Expr.{Expr}
use Rattle.sk_tree.specs.declared.tree.ParamKind.{ParamKind}
use Rattle.sk_tree.specs.declared.tree.Statement.{Statement}
use Rattle.sk_tree.specs.declared.tree.What.{What, What-F, map-What}
use Rattle.sk_scheme.specs.Scheme.{Compiled, compiled_of, Emitting, emitting_of, Standing}
use Rattle.sk_plain.specs.Plain.{Parameters, NamedKinds, is_plain_expression, Plainness, plainness_of, returns_of}

-- the address of a statement's code is another
abbrev pub moved : Standing → ℕ → List ParamKind → Standing
moved st at slots = record { at = at; scope = st.scope; slots = slots }

module _ {P : Expr → Type 0} where
  abbrev pub exprs_of : List ((e : Expr) × P e) → List Expr
  exprs_of ys = map (λ y. y.0) ys

  abbrev pub codes_at : List ((e : Expr) × P e) → List Compiled
  codes_at ys = map compiled_of (exprs_of ys)

  abbrev pub plains : List ((e : Expr) × P e) → List (Parameters → NamedKinds → Bool)
  plains ys = map is_plain_expression (exprs_of ys)

  pub plains_length : (ys : List ((e : Expr) × P e)) → length (plains ys) ≡ length ys
  plains_length [] = refl
  plains_length (y ∷ ys) = ap suc (plains_length ys)

  pub codes_length : (ys : List ((e : Expr) × P e)) → length (codes_at ys) ≡ length ys
  codes_length [] = refl
  codes_length (y ∷ ys) = ap suc (codes_length ys)

  -- all of them are plain
  abbrev pub parts_plain : Parameters → List ((e : Expr) × P e) → NamedKinds → Bool
  parts_plain parameters ys names = list_all (λ part. part parameters names) (plains ys)

module _ {Q : Statement → Type 0} where
  abbrev pub statements_of : List ((s : Statement) × Q s) → List Statement
  statements_of ys = map (λ y. y.0) ys

  abbrev pub emittings : List ((s : Statement) × Q s) → List Emitting
  emittings ys = map emitting_of (statements_of ys)

  abbrev pub plainnesses : List ((s : Statement) × Q s) → List Plainness
  plainnesses ys = map plainness_of (statements_of ys)

  -- one of them returns
  abbrev pub returning : List ((s : Statement) × Q s) → Bool
  returning ys = list_any (λ part. part) (map returns_of (statements_of ys))

  module _ {P : What → Type 0} where
    -- one level alone
    abbrev pub plain_level : What-F ((w : What) × P w) ((s : Statement) × Q s) → What-F What Statement
    plain_level y = map-What ((w : What) × P w) ((s : Statement) × Q s) What Statement (λ w. w.0) (λ s. s.0) y
