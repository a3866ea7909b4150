use Rattle.sk_types.specs.Told.{seen}
use Rattle.sk_types.proofs.ToldLemmas.{form_first}
use Rattle.sk_types.proofs.instance.form_fault.Goals as goal

pub returns-in-Some : goal.returns-in-Some
returns-in-Some c =
    form_first (seen c.args.around.now) c.args.scopes.now c.args.skeleton c.args.numbers.now c.args.functions.now c.first-item.result
    c.in-Some.function.now c.first_fault.result c.in-len1-up.len_at_least c.first-item.is
    (rw (← c.as_bytes.ensures, ← c.find.ensures) c.in-Some.ensures)
    c.first_fault.ensures
