-- Objects of typed programs of vectors.
use Rattle.std.specs.Prelude.{◌≡◌, ℕ, true, Some}
use Rattle.sk_grammar.specs.Limits.{IsFromTextWithin}
use Rattle.sk_isa.specs.Objects.{operator_at}
use Rattle.sk_isa.specs.SoundObjects.{IsMarkedOperator}
use Rattle.sk_isa.specs.declared.object.Object.{Object}
use Rattle.sk_main_code.specs.Sound.{HasNames, IsSound}
use Rattle.sk_main_code.specs.Vectors.{IsVectorObject}
use Rattle.sk_main_fits.specs.Vectors.{IsOfVectors}
use Rattle.sk_main_means.specs.MainMeans.{RunsAs}
use Rattle.sk_main_scheme.specs.Objects.{StandsFor, unmarked_of, object_of}
use Rattle.sk_tree.specs.declared.operator.Operator.{Operator}
use Rattle.sk_tree.specs.declared.tree.Program.{Program}
use Rattle.sk_typing.specs.Typing.{IsTyped}
use Rattle.sk_vector_form.specs.VectorForm.{has_vector_form}
use Rattle.sk_vector_laws.specs.Marks.{HasTrueMarks}

-- a program of vectors that a text has within the limits, and that keeps the rules of names and types
pub record IsTypedOfVectors (program : Program) : Type 0 where
  pub typed : IsTyped program
  pub from : IsFromTextWithin program
  pub vectors : IsOfVectors program

-- Each operator that is marked in an object that stands for such a program is the one that the function computes.
abbrev pub StandingOperatorsAreTrue : Type 0
StandingOperatorsAreTrue = (program : Program) → IsTypedOfVectors program → (object : Object) → StandsFor object program
    → (function : ℕ) (operator : Operator) → operator_at object function ≡ Some operator → IsMarkedOperator object function operator

-- a compiled program of vectors is sound, and runs as its source
pub record IsRunnable (object : Object) (program : Program) : Type 0 where
  pub sound : IsSound object
  pub vectors : IsVectorObject object
  pub runs : RunsAs object program

-- Each object that stands for a program that a text has within the limits has names of the language, and texts that strings
-- stand for.
abbrev pub StandingObjectsAreNamed : Type 0
StandingObjectsAreNamed = (program : Program) → IsFromTextWithin program → (object : Object) → StandsFor object program → HasNames object

-- Each object that stands for a typed program of vectors runs as the program.
abbrev pub StandingVectorsRun : Type 0
StandingVectorsRun = (program : Program) → IsTypedOfVectors program → (object : Object) → StandsFor object program → RunsAs object program

-- Each with true marks is sound too.
abbrev pub StandingVectorsAreRunnable : Type 0
StandingVectorsAreRunnable = (program : Program) → IsTypedOfVectors program → (object : Object) → StandsFor object program → HasTrueMarks object → IsRunnable object program

-- Each that is sound is one of vectors, and runs as the program;
abbrev pub SoundVectorsAreRunnable : Type 0
SoundVectorsAreRunnable = (program : Program) → IsTypedOfVectors program → (object : Object) → StandsFor object program → IsSound object → IsRunnable object program

-- and so is, and does, the one that is compiled, which has no marks.
abbrev pub CompiledVectorsAreRunnable : Type 0
CompiledVectorsAreRunnable = (program : Program) → IsTypedOfVectors program → IsRunnable (unmarked_of (object_of program)) program

-- Each object that stands for a typed program that a text has, and whose text shows the form of one of vectors, runs as the
-- program.
abbrev pub TypedVectorsRunAsSource : Type 0
TypedVectorsRunAsSource = (program : Program) → IsTyped program → IsFromTextWithin program → has_vector_form program ≡ true
    → (object : Object) → StandsFor object program → RunsAs object program

-- Each with true marks is sound too.
abbrev pub TypedVectorsRun : Type 0
TypedVectorsRun = (program : Program) → IsTyped program → IsFromTextWithin program → has_vector_form program ≡ true
    → (object : Object) → StandsFor object program → HasTrueMarks object → IsRunnable object program

-- Each that is sound is one of vectors, and runs as the program;
abbrev pub SoundTypedVectorsRun : Type 0
SoundTypedVectorsRun = (program : Program) → IsTyped program → IsFromTextWithin program → has_vector_form program ≡ true
    → (object : Object) → StandsFor object program → IsSound object → IsRunnable object program

-- and so is, and does, the one that is compiled.
abbrev pub CompiledTypedVectorsRun : Type 0
CompiledTypedVectorsRun = (program : Program) → IsTyped program → IsFromTextWithin program → has_vector_form program ≡ true
    → IsRunnable (unmarked_of (object_of program)) program
