use Rattle.std.proofs.Common.{◌≡◌, drop}
use Rattle.std.specs.List.{list_all}
use Rattle.sk_vector_form.specs.VectorForm.{function_of_vectors}
use Rattle.sk_vector_form.proofs.vector_form.has_vector_form.Given as goal

abbrev pub invariant-loop-function : goal.invariant-loop-function
invariant-loop-function l = list_all function_of_vectors (drop l.function-index l.program.functions) ≡ list_all function_of_vectors l.program.functions
