use Rattle.std.proofs.Common.{◌≡◌, ◌∙◌, Bool, true, false, ◌&&◌, sym, ap, cond, subst}
use Rattle.std.specs.List.{list_all}
use Rattle.sk_vector_form.specs.VectorForm.{is_of_vectors}
use Rattle.sk_vector_form.proofs.Parts.{form-if, form-for}
use Rattle.sk_vector_form.proofs.vector_form.+vectors.Goals as goal
use Rattle.sk_vector_form.proofs.vector_form.+vectors.Goals.{is_of_vectors-then-is_of_vectors, is_of_vectors-else-is_of_vectors}

true-false : true ≡ false → ⊥
true-false is = subst (λ (b : Bool). cond b (Unit {0}) ⊥) is tt

pub is_of_vectors-returns-then-are_of_vectors : goal.is_of_vectors-returns-then-are_of_vectors
is_of_vectors-returns-then-are_of_vectors t c =
    let one : list_all is_of_vectors c.in-If.one ≡ true =
    ap (list_all is_of_vectors) (sym c.as_slice.ensures) ∙ sym c.are_of_vectors.ensures ∙ c.if-are_of_vectors.true in
    let other : c.are_of_vectors-then-are_of_vectors.result ≡ list_all is_of_vectors c.in-If.other =
    c.are_of_vectors-then-are_of_vectors.ensures ∙ ap (list_all is_of_vectors) c.as_slice-then-are_of_vectors.ensures in
    other
    ∙ ap (λ (holds : Bool). holds && list_all is_of_vectors c.in-If.other) (sym one)
    ∙ sym (form-if c.args.statement.now c.in-If.field-0 c.in-If.one c.in-If.other c.in-If.is)

pub is_of_vectors-returns-else-are_of_vectors : goal.is_of_vectors-returns-else-are_of_vectors
is_of_vectors-returns-else-are_of_vectors t c =
    let one : list_all is_of_vectors c.in-If.one ≡ false =
    ap (list_all is_of_vectors) (sym c.as_slice.ensures) ∙ sym c.are_of_vectors.ensures ∙ c.if-are_of_vectors.false in
    c.if-are_of_vectors.false
    ∙ ap (λ (holds : Bool). holds && list_all is_of_vectors c.in-If.other) (sym one)
    ∙ sym (form-if c.args.statement.now c.in-If.field-0 c.in-If.one c.in-If.other c.in-If.is)

-- a loop whose first statement and step have the form
for-body : (first step body whole : Bool) (holds : Bool) → whole ≡ (first && step && body) → first ≡ true → step ≡ true → holds ≡ body → holds ≡ whole
for-body first step body whole holds is first-is step-is body-is =
    body-is ∙ sym (is ∙ ap (λ (test : Bool). test && step && body) first-is ∙ ap (λ (test : Bool). test && body) step-is)

pub is_of_vectors-returns-then-is_of_vectors-2 : goal.is_of_vectors-returns-then-is_of_vectors-2
is_of_vectors-returns-then-is_of_vectors-2 t c = elim c.if-is_of_vectors.branch [
  | is_of_vectors-then-is_of_vectors w ↦
      for-body (is_of_vectors c.in-For.first) (is_of_vectors c.in-For.step) (list_all is_of_vectors c.in-For.body) (is_of_vectors c.args.statement.now)
      c.are_of_vectors-then-is_of_vectors-2.result
      (form-for c.args.statement.now c.in-For.first c.in-For.field-1 c.in-For.step c.in-For.body c.in-For.is)
      (ap is_of_vectors (sym c.get.ensures) ∙ sym c.is_of_vectors.ensures ∙ w.if-is_of_vectors.true)
      (ap is_of_vectors (sym w.get-then-is_of_vectors.ensures) ∙ sym w.is_of_vectors-then-is_of_vectors.ensures ∙ sym w.value-is ∙ c.if-is_of_vectors-2.true)
      (c.are_of_vectors-then-is_of_vectors-2.ensures ∙ ap (list_all is_of_vectors) c.as_slice-then-is_of_vectors-2.ensures)
  | is_of_vectors-else-is_of_vectors w ↦ absurd (true-false (sym c.if-is_of_vectors-2.true ∙ w.value-is ∙ w.if-is_of_vectors.false))
]
