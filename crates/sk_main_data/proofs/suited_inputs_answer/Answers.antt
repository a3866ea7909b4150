use Rattle.sk_main_data.proofs.Answering.{suited_answer}
use Rattle.sk_main_data.proofs.suited_inputs_answer.Goals as goal

pub returns : goal.returns
returns c = suited_answer
