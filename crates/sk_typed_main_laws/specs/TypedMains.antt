-- Typed programs of vectors.
use Rattle.std.specs.Prelude.{◌≡◌, true}
use Rattle.sk_grammar.specs.Limits.{IsFromTextWithin}
use Rattle.sk_main_fits.specs.Vectors.{IsOfVectors}
use Rattle.sk_tree.specs.declared.tree.Program.{Program}
use Rattle.sk_typing.specs.Typing.{IsTyped}
use Rattle.sk_vector_form.specs.VectorForm.{has_vector_form}

-- A typed program of vectors that a text has within the limits fits: the statements of its main fit the names in scope.
abbrev pub TypedVectorsFit : Type 0
TypedVectorsFit = (program : Program) → IsTyped program → IsFromTextWithin program → has_vector_form program ≡ true → IsOfVectors program
