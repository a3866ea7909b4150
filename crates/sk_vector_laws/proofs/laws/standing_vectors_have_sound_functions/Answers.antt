use Rattle.sk_vector_laws.proofs.Sound.{has_sound_functions}
use Rattle.sk_vector_laws.proofs.laws.standing_vectors_have_sound_functions.Goals as goal

pub returns : goal.returns
returns c = λ program h object stands marks. has_sound_functions program h object stands marks
