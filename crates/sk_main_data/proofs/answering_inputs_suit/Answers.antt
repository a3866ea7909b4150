use Rattle.sk_main_data.proofs.Answering.{answering_suit}
use Rattle.sk_main_data.proofs.answering_inputs_suit.Goals as goal

pub returns : goal.returns
returns c = answering_suit
