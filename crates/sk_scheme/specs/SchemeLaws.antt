-- What each statement is compiled to, in terms of its parts.
use Rattle.std.proofs.Common.{◌≡◌}
use Rattle.sk_tree.specs.FoldLaws.{folds-What}
use Rattle.sk_tree.specs.declared.tree.Statement.{Statement}
use Rattle.sk_tree.specs.declared.tree.What.{What, What-F, roll-What, map-What, fold-What}
use Rattle.sk_scheme.specs.Scheme.{Emitting, emitting_of, emitting_step}

-- what a statement of a function is compiled to, apart from its line
abbrev pub emitting_what : What → Emitting
emitting_what = fold-What Emitting Emitting emitting_step (λ statement. statement.what)

-- of one level, its parts are replaced by what they are compiled to
pub emitting-roll : (level : What-F What Statement)
    → emitting_what (roll-What level) ≡ emitting_step (map-What What Statement Emitting Emitting emitting_what emitting_of level)
emitting-roll level = folds-What emitting_step (λ statement. statement.what) level
