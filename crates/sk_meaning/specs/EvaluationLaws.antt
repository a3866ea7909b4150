-- What each statement of a function does, in terms of its parts.
use Rattle.std.proofs.Common.{◌≡◌, ℕ}
use Rattle.sk_meaning.specs.Evaluation.{Doing, doing_of, doing_step}
use Rattle.sk_tree.specs.FoldLaws.{folds-Statement, folds-What}
use Rattle.sk_tree.specs.declared.tree.Statement.{Statement}
use Rattle.sk_tree.specs.declared.tree.What.{What, What-F, roll-What, map-What, fold-What}

-- what a statement of a function does, apart from its line
abbrev pub doing_what : What → Doing
doing_what = fold-What Doing Doing doing_step (λ statement. statement.what)

pub doing-statement : (line : ℕ) (what : What) → doing_of (record { line = line; what = what }) ≡ doing_what what
doing-statement line what = folds-Statement doing_step (λ statement. statement.what) line what

-- of one level, its parts are replaced by what they do
pub doing-roll : (level : What-F What Statement)
    → doing_what (roll-What level) ≡ doing_step (map-What What Statement Doing Doing doing_what doing_of level)
doing-roll level = folds-What doing_step (λ statement. statement.what) level
