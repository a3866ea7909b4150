-- Words have one answer.
use Rattle.std.specs.Prelude.{◌≡◌, ℕ, List, Some}
use Rattle.sk_cli.specs.Answer.{Answer, IsAnswer}
use Rattle.sk_outside.specs.Holding.{Contents}

-- where the contents of files are told, the words and the files leave no choice of the answer
abbrev pub AnswersAreOne : Type 0
AnswersAreOne = (words : List (List ℕ)) (contents : Contents) (one other : Answer)
    → IsAnswer words (Some contents) one → IsAnswer words (Some contents) other → one ≡ other
