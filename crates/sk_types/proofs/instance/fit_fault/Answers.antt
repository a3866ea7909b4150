use Rattle.std.proofs.Common.{◌≡◌, ◌∙◌, ◌==◌, length, sym, ap, true}
use Rattle.std.proofs.lemmas.Bool.{eq-eqb}
use Rattle.sk_types.proofs.instance.fit_fault.Goals as goal
use Rattle.sk_tree.specs.Skeletons as skeletons

pub returns-then-functions-function_count : goal.returns-then-functions-function_count
returns-then-functions-function_count c =
    let same : (length c.args.instance.now.functions == skeletons.function_count c.args.instance.now.skeleton) ≡ true =
    eq-eqb (length c.args.instance.now.functions) (skeletons.function_count c.args.instance.now.skeleton)
    (ap length (sym c.as_slice-functions.ensures) ∙ c.if-functions-function_count.true ∙ c.function_count.ensures) in
    rw (same, ← c.as_slice.ensures, ← c.as_slice-functions.ensures) c.form_fault.ensures
