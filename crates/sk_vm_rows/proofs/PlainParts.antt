-- Programs whose parts are plain are plain, node by node.
use Rattle.std.proofs.Common.{◌≡◌, refl, ℕ, ℤ, List, [], ◌∷◌, map, true, Some}
use Rattle.sk_base.specs.declared.number.Op.{Op}
use Rattle.sk_base.specs.declared.number.Ty.{Ty}
use Rattle.sk_names.specs.Bindings.{bound_to}
use Rattle.sk_tree.specs.declared.tree.Un.{Un}
use Rattle.sk_tree.specs.FoldLaws.{folds-Number, folds-Name, folds-Unary, folds-Binary, folds-Both, folds-Choose, folds-Apply}
use Rattle.sk_tree.specs.declared.tree.Expr.{Expr}
use Rattle.sk_tree.specs.declared.tree.Expr.TheVariants as expression
use Rattle.sk_tree.specs.declared.tree.Statement.{Statement}
use Rattle.sk_tree.specs.declared.tree.ParamKind.TheVariants.{Scalar}
use Rattle.sk_tree.specs.declared.tree.What.TheVariants as what
use Rattle.sk_plain.specs.Plain.{Parameters, NamedKinds, is_scalar_name, fits_type, is_applied, block_is_plain, is_plain_expression, plain_expression_step, plainness_of, plainness_step}
use Rattle.sk_plain.specs.PlainLaws.{walks-Declare, walks-Assign, walks-For, walks-Return}

-- plain parts make plain wholes
module _ (parameters : Parameters) (names : NamedKinds) where
  pub number-is-plain : (ty : Ty) (number : ℤ) → fits_type ty number ≡ true → is_plain_expression (expression.Number ty number) parameters names ≡ true
  number-is-plain ty number fits = rw (folds-Number plain_expression_step ty number) fits

  pub name-is-plain : (name : List ℕ) → is_scalar_name name names ≡ true → is_plain_expression (expression.Name name) parameters names ≡ true
  name-is-plain name among = rw (folds-Name plain_expression_step name) among

  pub unary-is-plain : (op : Un) (part : Expr) → is_plain_expression part parameters names ≡ true
      → is_plain_expression (expression.Unary op part) parameters names ≡ true
  unary-is-plain op part plain = rw (folds-Unary plain_expression_step op part) plain

  module _ (left right : Expr) (one : is_plain_expression left parameters names ≡ true) (other : is_plain_expression right parameters names ≡ true) where
    pub binary-is-plain : (op : Op) → is_plain_expression (expression.Binary op left right) parameters names ≡ true
    binary-is-plain op = rw (folds-Binary plain_expression_step op left right, one, other) refl

    pub both-is-plain : is_plain_expression (expression.Both left right) parameters names ≡ true
    both-is-plain = rw (folds-Both plain_expression_step left right, one, other) refl

    pub choose-is-plain : (test : Expr) → is_plain_expression test parameters names ≡ true
        → is_plain_expression (expression.Choose test left right) parameters names ≡ true
    choose-is-plain test plain = rw (folds-Choose plain_expression_step test left right, plain, one, other) refl

  -- a call with one argument
  pub call-is-plain : (name : List ℕ) (part : Expr) → is_applied (bound_to name names) (bound_to name parameters) 1 ≡ true
      → is_plain_expression part parameters names ≡ true → is_plain_expression (expression.Apply name (part ∷ [])) parameters names ≡ true
  call-is-plain name part there plain = rw (folds-Apply plain_expression_step name (part ∷ []), there, plain) refl

  pub declaration-is-plain : (line : ℕ) (ty : Ty) (name : List ℕ) (expr : Expr) → is_plain_expression expr parameters names ≡ true
      → (plainness_of (record { line = line; what = what.Declare ty name expr })).behind parameters names ≡ Some ((name, Scalar ty) ∷ names)
  declaration-is-plain line ty name expr plain = rw (walks-Declare plainness_step line ty name expr, plain) refl

  pub assignment-is-plain : (line : ℕ) (name : List ℕ) (expr : Expr) → is_scalar_name name names ≡ true → is_plain_expression expr parameters names ≡ true
      → (plainness_of (record { line = line; what = what.Assign name expr })).behind parameters names ≡ Some names
  assignment-is-plain line name expr among plain = rw (walks-Assign plainness_step line name expr, among, plain) refl

  pub return-is-plain : (line : ℕ) (expr : Expr) → is_plain_expression expr parameters names ≡ true
      → (plainness_of (record { line = line; what = what.Return expr })).behind parameters names ≡ Some names
  return-is-plain line expr plain = rw (walks-Return plainness_step line expr, plain) refl

  -- a loop that declares its counter
  pub loop-is-plain : (line : ℕ) (first : Statement) (test : Expr) (step : Statement) (body : List Statement) (inner : NamedKinds)
      → (plainness_of first).declares ≡ true → (plainness_of step).assigns ≡ true → (plainness_of first).behind parameters names ≡ Some inner
      → is_plain_expression test parameters inner ≡ true → block_is_plain (map plainness_of body) parameters inner ≡ true
      → (plainness_of step).behind parameters inner ≡ Some inner
      → (plainness_of (record { line = line; what = what.For first test step body })).behind parameters names ≡ Some names
  loop-is-plain line first test step body inner declares assigns begins tested around goes =
      rw (walks-For plainness_step line first test step body, declares, assigns, begins, tested, around, goes) refl

  -- statements one after another
  pub then-is-plain : (first : Statement) (rest : List Statement) (inner : NamedKinds) → (plainness_of first).behind parameters names ≡ Some inner
      → block_is_plain (map plainness_of rest) parameters inner ≡ true → block_is_plain (map plainness_of (first ∷ rest)) parameters names ≡ true
  then-is-plain first rest inner begins goes = rw begins goes
