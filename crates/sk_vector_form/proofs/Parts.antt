-- The form of a statement with parts.
use Rattle.std.proofs.Common.{◌≡◌, ◌∙◌, Bool, true, false, ◌&&◌, List, [], ◌∷◌, map, refl, ap, sym}
use Rattle.std.specs.List.{list_all}
use Rattle.sk_tree.specs.FoldLaws.{folds-Statement, folds-What}
use Rattle.sk_tree.specs.declared.tree.Expr.{Expr}
use Rattle.sk_tree.specs.declared.tree.Statement.{Statement}
use Rattle.sk_tree.specs.declared.tree.What.{What, fold-What}
use Rattle.sk_tree.specs.declared.tree.What.TheOpen as layer
use Rattle.sk_tree.specs.declared.tree.What.TheVariants as variant
use Rattle.sk_vector_form.specs.VectorForm.{all_hold, form_step, is_of_vectors}

all_hold-map : {A : Type 0} (test : A → Bool) (xs : List A) → all_hold (map test xs) ≡ list_all test xs
all_hold-map test [] = refl
all_hold-map test (x ∷ xs) = ap (λ (rest : Bool). test x && rest) (all_hold-map test xs)

abbrev form_of : What → Bool
form_of = fold-What Bool Bool form_step (λ statement. statement.what)

form-statement : (statement : Statement) (what : What) → statement.what ≡ what → is_of_vectors statement ≡ form_of what
form-statement statement what is =
    folds-Statement form_step (λ part. part.what) statement.line statement.what ∙ ap form_of is

pub form-if : (statement : Statement) (test : Expr) (one other : List Statement) → statement.what ≡ variant.If test one other
    → is_of_vectors statement ≡ (list_all is_of_vectors one && list_all is_of_vectors other)
form-if statement test one other is =
    form-statement statement (variant.If test one other) is
    ∙ ap form_of (sym (variant.rolls-If test one other))
    ∙ folds-What form_step (λ part. part.what) (layer.If test one other)
    ∙ ap (λ (holds : Bool). holds && all_hold (map is_of_vectors other)) (all_hold-map is_of_vectors one)
    ∙ ap (λ (holds : Bool). list_all is_of_vectors one && holds) (all_hold-map is_of_vectors other)

pub form-for : (statement first : Statement) (test : Expr) (step : Statement) (body : List Statement)
    → statement.what ≡ variant.For first test step body
    → is_of_vectors statement ≡ (is_of_vectors first && is_of_vectors step && list_all is_of_vectors body)
form-for statement first test step body is =
    form-statement statement (variant.For first test step body) is
    ∙ ap form_of (sym (variant.rolls-For first test step body))
    ∙ folds-What form_step (λ part. part.what) (layer.For first test step body)
    ∙ ap (λ (holds : Bool). is_of_vectors first && is_of_vectors step && holds) (all_hold-map is_of_vectors body)
