use Rattle.sk_vector_laws.proofs.Marks.{absent_true}
use Rattle.sk_vector_laws.proofs.laws.absent_marks_are_true.Goals as goal

pub returns : goal.returns
returns c = absent_true
