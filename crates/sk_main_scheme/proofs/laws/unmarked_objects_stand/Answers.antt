use Rattle.sk_main_scheme.proofs.UnmarkedObjects.{unmarked_stands}
use Rattle.sk_main_scheme.proofs.laws.unmarked_objects_stand.Goals as goal

pub returns : goal.returns
returns c = unmarked_stands
