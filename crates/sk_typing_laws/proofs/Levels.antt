-- What is said of each statement, in terms of its parts.
use Rattle.std.proofs.Common.{◌≡◌, ℕ, List, Bool}
use Rattle.sk_typing.specs.Inputs.{Taken, taken_of, taking_step}
use Rattle.sk_typing.specs.TypingStatements.{Walking, walking_of, walking_step, returning_of, returning_step}
use Rattle.sk_tree.specs.FoldLaws.{folds-Statement, folds-What}
use Rattle.sk_tree.specs.declared.tree.Statement.{Statement}
use Rattle.sk_tree.specs.declared.tree.What.{What, What-F, roll-What, map-What, fold-What}

-- the faults of what a statement is, apart from its line
abbrev pub walking_what : What → ℕ → Walking
walking_what = fold-What (ℕ → Walking) Walking walking_step (λ statement. statement.what statement.line)

pub walking-statement : (line : ℕ) (what : What) → walking_of (record { line = line; what = what }) ≡ walking_what what line
walking-statement line what = folds-Statement walking_step (λ statement. statement.what statement.line) line what

pub walking-roll : (level : What-F What Statement)
    → walking_what (roll-What level) ≡ walking_step (map-What What Statement (ℕ → Walking) Walking walking_what walking_of level)
walking-roll level = folds-What walking_step (λ statement. statement.what statement.line) level

-- whether what a statement is returns
abbrev pub returning_what : What → Bool
returning_what = fold-What Bool Bool returning_step (λ statement. statement.what)

pub returning-statement : (line : ℕ) (what : What) → returning_of (record { line = line; what = what }) ≡ returning_what what
returning-statement line what = folds-Statement returning_step (λ statement. statement.what) line what

pub returning-roll : (level : What-F What Statement)
    → returning_what (roll-What level) ≡ returning_step (map-What What Statement Bool Bool returning_what returning_of level)
returning-roll level = folds-What returning_step (λ statement. statement.what) level

-- what a statement takes, apart from its line
abbrev pub taking_what : What → ℕ → List Taken
taking_what = fold-What (ℕ → List Taken) (List Taken) taking_step (λ statement. statement.what statement.line)

pub taking-statement : (line : ℕ) (what : What) → taken_of (record { line = line; what = what }) ≡ taking_what what line
taking-statement line what = folds-Statement taking_step (λ statement. statement.what statement.line) line what

pub taking-roll : (level : What-F What Statement)
    → taking_what (roll-What level) ≡ taking_step (map-What What Statement (ℕ → List Taken) (List Taken) taking_what taken_of level)
taking-roll level = folds-What taking_step (λ statement. statement.what statement.line) level
