-- Objects that stand for a typed program of vectors are sound, and run as the program.
use Rattle.std.proofs.Common.{◌≡◌, true, ℕ, List, ap, arith, subst}
use Rattle.std.specs.Prelude.{Err}
use Rattle.sk_grammar.specs.Limits.{IsFromTextWithin}
use Rattle.sk_isa.specs.Coded.{step_limit}
use Rattle.sk_isa.specs.declared.object.Object.{Object}
use Rattle.sk_main_code.specs.Inputs.{AnswerAll}
use Rattle.sk_main_code.specs.Sound.{IsSound}
use Rattle.sk_main_laws.proofs.Runs.{run_ends}
use Rattle.sk_main_runs.proofs.UnmarkedEnds.{standing_ends, standing_run}
use Rattle.sk_main_runs.specs.RunsAlike.{IsOver}
use Rattle.sk_main_scheme.proofs.UnmarkedObjects.{unmarked_stands}
use Rattle.sk_main_scheme.specs.Objects.{unmarked_of, object_of}
use Rattle.sk_main_sound.proofs.Objects.{standing_are_sound}
use Rattle.sk_tree.specs.declared.declared.Declared.{Declared}
use Rattle.sk_tree.specs.declared.tree.Program.{Program}
use Rattle.sk_typed_main_laws.proofs.Programs.{vectors_fit}
use Rattle.sk_typing.specs.Typing.{IsTyped}
use Rattle.sk_vector_form.specs.VectorForm.{has_vector_form}
use Rattle.sk_vector_laws.proofs.Marks.{absent_true}
use Rattle.sk_vector_laws.proofs.Means.{vectors_mean}
use Rattle.sk_vector_laws.proofs.Sound.{is_sound, is_vector_object}
use Rattle.sk_vector_laws.specs.Vectors.{CompiledTypedVectorsRun, CompiledVectorsAreRunnable, IsTypedOfVectors, SoundTypedVectorsRun, SoundVectorsAreRunnable, StandingVectorsAreRunnable, StandingVectorsRun, TypedVectorsRun, TypedVectorsRunAsSource}
use Rattle.sk_world.specs.World.{Input}

-- the run of a sound object is over
sound_is_over : (object : Object) → IsSound object → (inputs : List Input) → AnswerAll object.inputs inputs → (bound : ℕ) → IsOver object inputs bound
sound_is_over object sound inputs answers bound =
    let ends = run_ends object sound inputs answers bound in
    (Err ends.over, ends.ends (step_limit object.main.instrs bound) (omega arith))

-- the object without marks is sound
unmarked_sound : (program : Program) → IsTypedOfVectors program → IsSound (unmarked_of (object_of program))
unmarked_sound program h =
    let unmarked : Object = unmarked_of (object_of program) in
    is_sound program h unmarked (unmarked_stands program) (absent_true program) (standing_are_sound program h.vectors unmarked (unmarked_stands program))

-- so its run is over, and that of each object that stands for the program is the program's
pub standing_runs : StandingVectorsRun
standing_runs program h object stands inputs answers bound dump =
    let unmarked : Object = unmarked_of (object_of program) in
    let same : AnswerAll unmarked.inputs inputs = subst (λ (l : List Declared). AnswerAll l inputs) (ap (λ (o : Object). o.inputs) stands.same) answers in
    let over : IsOver (object_of program) inputs bound =
    standing_ends program unmarked (unmarked_stands program) inputs bound (sound_is_over unmarked (unmarked_sound program h) inputs same bound) in
    standing_run program h.vectors (vectors_mean program h) object stands inputs bound dump over

pub sound_runnable : SoundVectorsAreRunnable
sound_runnable program h object stands sound = record {
  sound = sound;
  vectors = is_vector_object program h object stands;
  runs = standing_runs program h object stands;
}

pub standing_runnable : StandingVectorsAreRunnable
standing_runnable program h object stands marks =
    sound_runnable program h object stands (is_sound program h object stands marks (standing_are_sound program h.vectors object stands))

pub compiled_runnable : CompiledVectorsAreRunnable
compiled_runnable program h = sound_runnable program h (unmarked_of (object_of program)) (unmarked_stands program) (unmarked_sound program h)

-- ---- the form that the text shows

of_vectors : (program : Program) → IsTyped program → IsFromTextWithin program → has_vector_form program ≡ true → IsTypedOfVectors program
of_vectors program typed from form = record { typed = typed; from = from; vectors = vectors_fit program typed from form }

pub runs_as_source : TypedVectorsRunAsSource
runs_as_source program typed from form = standing_runs program (of_vectors program typed from form)

pub typed_run : TypedVectorsRun
typed_run program typed from form = standing_runnable program (of_vectors program typed from form)

pub sound_typed_run : SoundTypedVectorsRun
sound_typed_run program typed from form = sound_runnable program (of_vectors program typed from form)

pub compiled_typed_run : CompiledTypedVectorsRun
compiled_typed_run program typed from form = compiled_runnable program (of_vectors program typed from form)
