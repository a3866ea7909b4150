-- Compiled main is sound: what is asked of the program and the object.
use Rattle.sk_isa.specs.declared.object.Object.{Object}
use Rattle.sk_main_code.specs.MainSoundness.{IsSoundMain}
use Rattle.sk_main_fits.specs.Vectors.{IsOfVectors}
use Rattle.sk_main_scheme.specs.Objects.{StandsFor, object_of}
use Rattle.sk_tree.specs.declared.tree.Program.{Program}

-- The main of the object that a program of vectors is compiled to is sound.
abbrev pub CompiledVectorsAreSound : Type 0
CompiledVectorsAreSound = (program : Program) → IsOfVectors program → IsSoundMain (object_of program)

-- The same of each object that stands for the program.
abbrev pub StandingVectorsAreSound : Type 0
StandingVectorsAreSound = (program : Program) → IsOfVectors program → (object : Object) → StandsFor object program → IsSoundMain object
