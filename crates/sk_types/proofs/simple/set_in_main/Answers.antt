use Rattle.std.proofs.Common.{◌∙◌}
use Rattle.sk_names.specs.Bindings.{bound_to}
use Rattle.sk_typing.specs.TypingExpressions as expressions
use Rattle.sk_typing.specs.TypingInstances as instances
use Rattle.sk_types.specs.Told.{seen}
use Rattle.sk_types.proofs.ToldLemmas.{use_kept}
use Rattle.sk_types.proofs.simple.set_in_main.Goals as goal

pub returns : goal.returns
returns c =
    c.use_fault.ensures
    ∙ use_kept (seen c.args.around.now) c.in_ok-used.used
    (expressions.use_of (bound_to c.args.name.now c.args.scopes.now) (expressions.set_use (seen c.args.around.now) c.args.setting.now))
    (expressions.judged_all (seen c.args.around.now) c.args.scopes.now (instances.setting_values c.args.setting.now)) c.as_slice.result.now
    (c.as_slice.ensures ∙ c.in_ok-kept.ensures)
    (rw (← c.as_bytes.ensures, ← c.find.ensures) c.in_ok-used.ensures)
