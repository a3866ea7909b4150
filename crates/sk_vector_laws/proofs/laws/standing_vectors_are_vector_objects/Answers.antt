use Rattle.sk_vector_laws.proofs.Sound.{is_vector_object}
use Rattle.sk_vector_laws.proofs.laws.standing_vectors_are_vector_objects.Goals as goal

pub returns : goal.returns
returns c = λ program h object stands. is_vector_object program h object stands
