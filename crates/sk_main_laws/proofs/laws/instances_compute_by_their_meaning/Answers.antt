use Rattle.std.proofs.Common.{refl}
use Rattle.sk_main_laws.proofs.laws.instances_compute_by_their_meaning.Goals as goal

pub returns : goal.returns
returns c object number plan settings given = refl
