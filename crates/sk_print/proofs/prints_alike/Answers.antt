use Rattle.sk_printed_laws.proofs.LinesLeft as lemmas
use Rattle.sk_print.proofs.prints_alike.Goals as goal

pub returns : goal.returns
returns c = lemmas.prints_alike
