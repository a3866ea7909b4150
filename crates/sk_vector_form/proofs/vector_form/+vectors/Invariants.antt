use Rattle.std.proofs.Common.{◌≡◌, drop}
use Rattle.std.specs.List.{list_all}
use Rattle.sk_vector_form.specs.VectorForm.{is_of_vectors}
use Rattle.sk_vector_form.proofs.vector_form.+vectors.Given as goal

abbrev pub invariant-are_of_vectors-loop-next : goal.invariant-are_of_vectors-loop-next
invariant-are_of_vectors-loop-next l = list_all is_of_vectors (drop l.next-index l.statements) ≡ list_all is_of_vectors l.statements
