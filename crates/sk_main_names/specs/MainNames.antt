-- What main's code names is there: slots, containers, instances and functions, each of the right kind.
use Rattle.std.specs.Prelude.{◌≡◌, true}
use Rattle.std.specs.List.{list_all}
use Rattle.sk_isa.specs.declared.object.Object.{Object}
use Rattle.sk_main_code.specs.MainSoundness.{names_in_main}
use Rattle.sk_main_fits.specs.Vectors.{IsOfVectors}
use Rattle.sk_main_scheme.specs.Objects.{StandsFor, object_of}
use Rattle.sk_tree.specs.declared.tree.Program.{Program}

-- What main's code names is there in the object that a program of vectors is compiled to.
abbrev pub CompiledVectorsHaveNames : Type 0
CompiledVectorsHaveNames = (program : Program) → IsOfVectors program
    → list_all (names_in_main (object_of program)) (object_of program).main.instrs ≡ true

-- The same of each object that stands for the program.
abbrev pub StandingVectorsHaveNames : Type 0
StandingVectorsHaveNames = (program : Program) → IsOfVectors program → (object : Object) → StandsFor object program
    → list_all (names_in_main object) object.main.instrs ≡ true
