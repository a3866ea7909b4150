-- What is judged of expressions and statements, in terms of their parts.
use Rattle.std.proofs.Common.{◌≡◌, ◌∙◌, ℕ, ℤ, List, Bool, map}
use Rattle.sk_base.specs.declared.number.Op.{Op}
use Rattle.sk_base.specs.declared.number.Ty.{Ty}
use Rattle.sk_tree.specs.FoldLaws.{folds-Number, folds-Name, folds-Binary, folds-Statement, folds-What}
use Rattle.sk_tree.specs.declared.tree.Expr.{Expr}
use Rattle.sk_tree.specs.declared.tree.Expr.TheVariants as expression
use Rattle.sk_tree.specs.declared.tree.Expr.TheOpen as layer
use Rattle.sk_tree.specs.declared.tree.Statement.{Statement, fold-Statement}
use Rattle.sk_tree.specs.declared.tree.What.{What, What-F, roll-What, map-What, fold-What}
use Rattle.sk_tree.specs.declared.tree.What.TheVariants as what
use Rattle.sk_tree.specs.declared.tree.What.TheOpen as parts
use Rattle.sk_plain.specs.Plain.{Plainness, is_plain_expression, plain_expression_step, plainness_of, plainness_step, returns_of, returns_step}

pub plain-Number : (ty : Ty) (number : ℤ) → is_plain_expression (expression.Number ty number) ≡ plain_expression_step (layer.Number ty number)
plain-Number ty number = folds-Number plain_expression_step ty number

pub plain-Name : (name : List ℕ) → is_plain_expression (expression.Name name) ≡ plain_expression_step (layer.Name name)
plain-Name name = folds-Name plain_expression_step name

pub plain-Binary : (op : Op) (left right : Expr)
    → is_plain_expression (expression.Binary op left right) ≡ plain_expression_step (layer.Binary op (is_plain_expression left) (is_plain_expression right))
plain-Binary op left right = folds-Binary plain_expression_step op left right

-- what is judged of a statement, apart from its line
abbrev pub plainness_what : What → Plainness
plainness_what = fold-What Plainness Plainness plainness_step (λ statement. statement.what)

pub plainness-statement : (line : ℕ) (what : What) → plainness_of (record { line = line; what = what }) ≡ plainness_what what
plainness-statement line what = folds-Statement plainness_step (λ statement. statement.what) line what

pub plainness-roll : (level : What-F What Statement)
    → plainness_what (roll-What level) ≡ plainness_step (map-What What Statement Plainness Plainness plainness_what plainness_of level)
plainness-roll level = folds-What plainness_step (λ statement. statement.what) level

-- whether a statement returns, apart from its line
abbrev pub returns_what : What → Bool
returns_what = fold-What Bool Bool returns_step (λ statement. statement.what)

pub returns-statement : (line : ℕ) (what : What) → returns_of (record { line = line; what = what }) ≡ returns_what what
returns-statement line what = folds-Statement returns_step (λ statement. statement.what) line what

pub returns-roll : (level : What-F What Statement)
    → returns_what (roll-What level) ≡ returns_step (map-What What Statement Bool Bool returns_what returns_of level)
returns-roll level = folds-What returns_step (λ statement. statement.what) level

-- a walk over statements that keeps nothing of their lines: what it gives for each kind of statement that a function has
module _ {X : Type 0} (step : What-F X X → X) where
  abbrev walked : Statement → X
  walked = fold-Statement X X step (λ statement. statement.what)

  walks : (line : ℕ) (level : What-F What Statement)
      → walked (record { line = line; what = roll-What level }) ≡ step (map-What What Statement X X (fold-What X X step (λ statement. statement.what)) walked level)
  walks line level =
      folds-Statement step (λ statement. statement.what) line (roll-What level) ∙ folds-What step (λ statement. statement.what) level

  pub walks-Declare : (line : ℕ) (ty : Ty) (name : List ℕ) (expr : Expr)
      → walked (record { line = line; what = what.Declare ty name expr }) ≡ step (parts.Declare ty name expr)
  walks-Declare line ty name expr = rw (← what.rolls-Declare ty name expr) (walks line (parts.Declare ty name expr))

  pub walks-Assign : (line : ℕ) (name : List ℕ) (expr : Expr)
      → walked (record { line = line; what = what.Assign name expr }) ≡ step (parts.Assign name expr)
  walks-Assign line name expr = rw (← what.rolls-Assign name expr) (walks line (parts.Assign name expr))

  pub walks-For : (line : ℕ) (first : Statement) (test : Expr) (after : Statement) (body : List Statement)
      → walked (record { line = line; what = what.For first test after body }) ≡ step (parts.For (walked first) test (walked after) (map walked body))
  walks-For line first test after body = rw (← what.rolls-For first test after body) (walks line (parts.For first test after body))

  pub walks-Return : (line : ℕ) (expr : Expr) → walked (record { line = line; what = what.Return expr }) ≡ step (parts.Return expr)
  walks-Return line expr = rw (← what.rolls-Return expr) (walks line (parts.Return expr))
