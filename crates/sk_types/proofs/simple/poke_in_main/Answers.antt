use Rattle.std.proofs.Common.{◌∙◌}
use Rattle.sk_names.specs.Bindings.{bound_to}
use Rattle.sk_typing.specs.TypingExpressions as expressions
use Rattle.sk_types.specs.Told.{seen}
use Rattle.sk_typing_laws.proofs.Least.{joined}
use Rattle.sk_types.proofs.simple.poke_in_main.Goals as goal

pub returns : goal.returns
returns c =
    c.earlier.ensures
    ∙ joined
    (expressions.use_faults (seen c.args.around.now) (expressions.use_of (bound_to c.args.name.now c.args.scopes.now) expressions.poked_use)
    (expressions.judged_all (seen c.args.around.now) c.args.scopes.now c.args.places.now))
    (expressions.value_faults (seen c.args.around.now) c.args.scopes.now c.args.expr.now)
    c.in_ok-target.target c.in_ok-value.value
    (rw (← c.as_bytes.ensures, ← c.find.ensures, ← c.in_ok-used.ensures) c.in_ok-target.ensures)
    c.in_ok-value.ensures
