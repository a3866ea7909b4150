use Rattle.sk_main_laws.proofs.Finds.{finds}
use Rattle.sk_main_laws.proofs.laws.main_finds_what_it_needs.Goals as goal

pub returns : goal.returns
returns c = finds
