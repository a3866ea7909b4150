-- The functions of a typed program's compiled form are sound, and mean their sources.
use Rattle.std.proofs.Common.{◌≡◌, suc, List, [], ◌∷◌, ◌++◌, length, arith, length-append}
use Rattle.sk_grammar.specs.Limits.{IsFromTextWithin}
use Rattle.sk_isa.specs.declared.object.Signature.{Signature}
use Rattle.sk_main_runs.proofs.SameFunctions.{means_alike}
use Rattle.sk_main_scheme.specs.Objects.{object_of, unmarked_of}
use Rattle.sk_plain.specs.Codes.{HasFunctionsOf}
use Rattle.sk_plain.specs.Plain.{ArePlain}
use Rattle.sk_scheme.specs.Plans.{functions_before_main}
use Rattle.sk_scheme.specs.Scheme.{codes_of, signatures_of}
use Rattle.sk_scheme_runs.proofs.MeansSource.{functions_mean_source}
use Rattle.sk_scheme_sound.proofs.SoundObjects.{alone_is_sound}
use Rattle.sk_tree.specs.declared.tree.Function.{Function}
use Rattle.sk_tree.specs.declared.tree.Program.{Program}
use Rattle.sk_typed_laws.proofs.Functions.{typed_functions_plain}
use Rattle.sk_typed_laws.proofs.WrittenPrograms.{texts_formed}
use Rattle.sk_typing.specs.Typing.{IsTyped}
use Rattle.sk_vector_laws.proofs.Functions.{code_is_sound, codes-length, signatures-length}

-- main's signature stands behind those of the functions
signatures_many : (functions : List Function) (main : Signature) → length (signatures_of functions ++ main ∷ []) ≡ suc (length (codes_of functions))
signatures_many functions main =
    omega (arith, length-append (signatures_of functions) (main ∷ []), codes-length 0 [] functions, signatures-length 0 [] functions)

plain_functions : (program : Program) → ArePlain [] (functions_before_main program) → HasFunctionsOf program (unmarked_of (object_of program))
plain_functions program plain = record {
  sound = record {
    functions = code_is_sound (functions_before_main program) plain _;
    signatures = signatures_many (functions_before_main program) _;
  };
  means = means_alike program (functions_mean_source program plain (alone_is_sound program plain));
}

pub compiled_functions : (program : Program) → IsTyped program → IsFromTextWithin program → HasFunctionsOf program (unmarked_of (object_of program))
compiled_functions program typed from = plain_functions program (typed_functions_plain program typed (texts_formed program from))
