-- What a walk over trees gives for each kind of expression, and for a statement, in terms of its parts.
use Rattle.std.proofs.Common.{◌≡◌, ℕ, ℤ, List, map}
use Rattle.sk_base.specs.declared.number.Op.{Op}
use Rattle.sk_base.specs.declared.number.Ty.{Ty}
use Rattle.sk_tree.specs.declared.tree.Un.{Un}
use Rattle.sk_tree.specs.declared.tree.Expr.{Expr, Expr-F, fold-Expr, fold-roll-Expr}
use Rattle.sk_tree.specs.declared.tree.Expr.TheVariants as expression
use Rattle.sk_tree.specs.declared.tree.Expr.TheOpen as layer
use Rattle.sk_tree.specs.declared.tree.Statement.{Statement, Statement-F, rolls-Statement', fold-Statement, fold-roll-Statement}
use Rattle.sk_tree.specs.declared.tree.What.{What, What-F, roll-What, map-What, fold-What, fold-roll-What}

-- a walk over expressions, which says what a node gives once its parts are replaced by what they give
module _ {X : Type 0} (step : Expr-F X → X) where
  pub folds-Number : (ty : Ty) (number : ℤ) → fold-Expr X step (expression.Number ty number) ≡ step (layer.Number ty number)
  folds-Number ty number = rw (← expression.rolls-Number ty number) (fold-roll-Expr X step (layer.Number ty number))

  pub folds-Name : (name : List ℕ) → fold-Expr X step (expression.Name name) ≡ step (layer.Name name)
  folds-Name name = rw (← expression.rolls-Name name) (fold-roll-Expr X step (layer.Name name))

  pub folds-Field : (name field : List ℕ) → fold-Expr X step (expression.Field name field) ≡ step (layer.Field name field)
  folds-Field name field = rw (← expression.rolls-Field name field) (fold-roll-Expr X step (layer.Field name field))

  pub folds-Method : (name method : List ℕ) → fold-Expr X step (expression.Method name method) ≡ step (layer.Method name method)
  folds-Method name method = rw (← expression.rolls-Method name method) (fold-roll-Expr X step (layer.Method name method))

  pub folds-Unary : (op : Un) (part : Expr) → fold-Expr X step (expression.Unary op part) ≡ step (layer.Unary op (fold-Expr X step part))
  folds-Unary op part = rw (← expression.rolls-Unary op part) (fold-roll-Expr X step (layer.Unary op part))

  pub folds-Cast : (ty : Ty) (part : Expr) → fold-Expr X step (expression.Cast ty part) ≡ step (layer.Cast ty (fold-Expr X step part))
  folds-Cast ty part = rw (← expression.rolls-Cast ty part) (fold-roll-Expr X step (layer.Cast ty part))

  pub folds-Binary : (op : Op) (left right : Expr)
      → fold-Expr X step (expression.Binary op left right) ≡ step (layer.Binary op (fold-Expr X step left) (fold-Expr X step right))
  folds-Binary op left right = rw (← expression.rolls-Binary op left right) (fold-roll-Expr X step (layer.Binary op left right))

  pub folds-Both : (left right : Expr)
      → fold-Expr X step (expression.Both left right) ≡ step (layer.Both (fold-Expr X step left) (fold-Expr X step right))
  folds-Both left right = rw (← expression.rolls-Both left right) (fold-roll-Expr X step (layer.Both left right))

  pub folds-Either : (left right : Expr)
      → fold-Expr X step (expression.Either left right) ≡ step (layer.Either (fold-Expr X step left) (fold-Expr X step right))
  folds-Either left right = rw (← expression.rolls-Either left right) (fold-roll-Expr X step (layer.Either left right))

  pub folds-Choose : (test one other : Expr)
      → fold-Expr X step (expression.Choose test one other)
      ≡ step (layer.Choose (fold-Expr X step test) (fold-Expr X step one) (fold-Expr X step other))
  folds-Choose test one other = rw (← expression.rolls-Choose test one other) (fold-roll-Expr X step (layer.Choose test one other))

  pub folds-Apply : (name : List ℕ) (arguments : List Expr)
      → fold-Expr X step (expression.Apply name arguments) ≡ step (layer.Apply name (map (fold-Expr X step) arguments))
  folds-Apply name arguments = rw (← expression.rolls-Apply name arguments) (fold-roll-Expr X step (layer.Apply name arguments))

-- a walk over statements: what a statement's own part gives, and what the statement gives with its line
module _ {W S : Type 0} (step : What-F W S → W) (at : Statement-F W S → S) where
  pub folds-Statement : (line : ℕ) (what : What)
      → fold-Statement W S step at (record { line = line; what = what }) ≡ at (record { line = line; what = fold-What W S step at what })
  folds-Statement line what =
      rw (← rolls-Statement' (record { line = line; what = what })) (fold-roll-Statement W S step at (record { line = line; what = what }))

  pub folds-What : (level : What-F What Statement)
      → fold-What W S step at (roll-What level) ≡ step (map-What What Statement W S (fold-What W S step at) (fold-Statement W S step at) level)
  folds-What level = fold-roll-What W S step at level
