-- What each statement of main does, in terms of its parts.
use Rattle.std.proofs.Common.{◌≡◌, ◌∙◌, ℕ, ap}
use Rattle.sk_main_run.specs.MainRun.{Numbered, Lineless, running_of, running_step}
use Rattle.sk_safety.specs.Safety.{Judgements}
use Rattle.sk_tree.specs.FoldLaws.{folds-Statement, folds-What}
use Rattle.sk_tree.specs.declared.tree.What.{What, What-F, roll-What, map-What, fold-What}
use Rattle.sk_tree.specs.declared.tree.Statement.{Statement}

-- a statement with its line
abbrev pub at_line : Lineless → (line : ℕ) → Numbered
at_line lineless line = record { declares = lineless.declares; run = λ before. lineless.run before line }

-- what a statement of main does, apart from its line
abbrev pub running_what : Judgements → What → Lineless
running_what judgements = fold-What Lineless Numbered (running_step judgements) (λ statement. at_line statement.what statement.line)

pub running-statement : (judgements : Judgements) (line : ℕ) (what : What)
    → running_of judgements (record { line = line; what = what }) ≡ at_line (running_what judgements what) line
running-statement judgements line what = folds-Statement (running_step judgements) (λ statement. at_line statement.what statement.line) line what

-- of one level, its parts are replaced by what they do
pub running-roll : (judgements : Judgements) (line : ℕ) (level : What-F What Statement)
    → running_of judgements (record { line = line; what = roll-What level })
    ≡ at_line (running_step judgements (map-What What Statement Lineless Numbered (running_what judgements) (running_of judgements) level)) line
running-roll judgements line level =
    running-statement judgements line (roll-What level)
    ∙ ap (λ (lineless : Lineless). at_line lineless line)
    (folds-What (running_step judgements) (λ statement. at_line statement.what statement.line) level)
