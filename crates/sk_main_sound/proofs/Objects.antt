-- The objects that stand for a program of vectors have a sound main.
use Rattle.std.proofs.Common.{◌≡◌, length, refl, ap, ◌∙◌}
use Rattle.std.specs.List.{list_all}
use Rattle.std.specs.Prelude.{true}
use Rattle.sk_isa.specs.declared.code.Code.{Code}
use Rattle.sk_isa.specs.declared.object.Object.{Object}
use Rattle.sk_isa.specs.declared.object.Signature.{Signature}
use Rattle.sk_main_code.specs.MainSoundness.{names_in_main}
use Rattle.sk_main_fits.specs.Vectors.{IsOfVectors}
use Rattle.sk_main_names.proofs.Functions.{known_there, main_is, main_signature_is, signature_is}
use Rattle.sk_main_names.proofs.Objects.{compiled_have_names, standing_have_names}
use Rattle.sk_main_scheme.specs.MainScheme.{Emitted}
use Rattle.sk_main_scheme.specs.Objects.{object_of}
use Rattle.sk_main_sound.proofs.Whole.{HasMain, main_is_sound}
use Rattle.sk_main_sound.specs.MainSound.{CompiledVectorsAreSound, StandingVectorsAreSound}
use Rattle.sk_tree.specs.declared.tree.Program.{Program}

-- an object with the same main, containers, functions and signatures
has_main : (program : Program) → IsOfVectors program → (object : Object) → object.main ≡ (object_of program).main → object.containers ≡ (object_of program).containers
    → object.functions ≡ (object_of program).functions → object.signatures ≡ (object_of program).signatures
    → list_all (names_in_main object) object.main.instrs ≡ true → HasMain object program
has_main program vectors object same_main same_containers same_functions same_signatures names = record {
  main = same_main ∙ ap (λ (e : Emitted). let code : Code = record { instrs = e.code; slots = length e.behind.slots; depth = e.depth } in code) (main_is program);
  signature = main_signature_is program object same_functions same_signatures;
  containers = same_containers ∙ ap (λ (e : Emitted). e.behind.containers) (main_is program);
  known = record {
    each = λ name known e.
        let k = known_there program object same_functions same_signatures vectors name known e in
        let s = signature_is object known k in
        (ap (λ (s : Signature). s.params) s ∙ k.params, ap (λ (s : Signature). s.ret) s ∙ k.ret);
  };
  names = names;
}

pub compiled_are_sound : CompiledVectorsAreSound
compiled_are_sound program vectors =
    main_is_sound program (object_of program) vectors (has_main program vectors (object_of program) refl refl refl refl (compiled_have_names program vectors))

pub standing_are_sound : StandingVectorsAreSound
standing_are_sound program vectors object stands =
    main_is_sound program object vectors
    (has_main program vectors object (ap (λ (o : Object). o.main) stands.same) (ap (λ (o : Object). o.containers) stands.same)
    (ap (λ (o : Object). o.functions) stands.same) (ap (λ (o : Object). o.signatures) stands.same) (standing_have_names program vectors object stands))
