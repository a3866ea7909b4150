use Rattle.sk_typed_laws.proofs.Tokens.{tokens_sized}
use Rattle.sk_typed_laws.proofs.laws.numbers_of_texts_fit.Goals as goal

pub returns : goal.returns
returns c = tokens_sized
