-- The functions of a typed program of vectors have the values of their sources.
use Rattle.sk_main_runs.proofs.SameFunctions.{means_alike}
use Rattle.sk_main_scheme.specs.Objects.{object_of}
use Rattle.sk_plain.specs.Means.{MeansSource}
use Rattle.sk_scheme.specs.Plans.{functions_object}
use Rattle.sk_scheme_runs.proofs.MeansSource.{means_source}
use Rattle.sk_scheme_sound.proofs.SoundObjects.{plain_is_sound}
use Rattle.sk_tree.specs.declared.tree.Program.{Program}
use Rattle.sk_vector_laws.proofs.Plain.{IsPlainly, vectors_plain}
use Rattle.sk_vector_laws.specs.Vectors.{IsTypedOfVectors}

pub plainly_of : (program : Program) → IsTypedOfVectors program → IsPlainly program
plainly_of program h = vectors_plain program h.typed h.from h.vectors

pub vectors_mean : (program : Program) → IsTypedOfVectors program → MeansSource program (functions_object program)
vectors_mean program h = let plainly = plainly_of program h in means_source program plainly.plain (plain_is_sound program plainly.plain)

-- in the object of the whole program too
pub object_means : (program : Program) → IsTypedOfVectors program → MeansSource program (object_of program)
object_means program h = means_alike program (vectors_mean program h)
