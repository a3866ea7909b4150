use Rattle.sk_cli.proofs.OneAnswer.{answers_are_one}
use Rattle.sk_cli.proofs.laws.words_have_one_answer.Goals as goal

pub returns : goal.returns
returns c = answers_are_one
