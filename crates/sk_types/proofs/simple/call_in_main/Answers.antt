use Rattle.std.proofs.Common.{◌∙◌}
use Rattle.sk_names.specs.Bindings.{bound_to}
use Rattle.sk_typing.specs.TypingExpressions as expressions
use Rattle.sk_types.specs.Told.{seen}
use Rattle.sk_types.proofs.ToldLemmas.{call_kept}
use Rattle.sk_types.proofs.simple.call_in_main.Goals as goal

pub returns : goal.returns
returns c =
    c.use_fault.ensures
    ∙ call_kept (seen c.args.around.now) (bound_to c.args.name.now c.args.scopes.now) c.in_ok-used.used
    (expressions.judged_all (seen c.args.around.now) c.args.scopes.now c.args.arguments.now) c.as_slice-judged.result.now
    (c.as_slice-judged.ensures ∙ c.in_ok-kept.ensures)
    (rw (← c.as_bytes.ensures, ← c.find.ensures) c.in_ok-used.ensures)
