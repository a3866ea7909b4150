use Rattle.std.proofs.Common.{◌∙◌}
use Rattle.sk_types.specs.Told.{seen}
use Rattle.sk_typing_laws.proofs.Functions.{body_told, body_names}
use Rattle.sk_types.proofs.function.body_fault.Goals as goal

pub returns-clause-told : goal.returns-clause-told
returns-clause-told c =
    body_told (seen c.args.around.now) c.args.scopes.now c.args.function.now
    c.in_ok-declared.declared c.unless-ordered.result c.in_ok-body.body c.unless-ended.result c.earlier-3.result
    (rw (← c.as_slice-params.ensures) c.in_ok-declared.ensures.told)
    (rw (← c.as_slice-params.ensures, ← c.are_ordered.ensures) c.unless-ordered.ensures)
    (rw (← c.as_slice-statements.ensures, ← c.as_slice-params.ensures, ← c.in_ok-declared.ensures.names) c.in_ok-body.ensures.told)
    (rw (← c.as_slice-statements.ensures, ← c.may_end.ensures) c.unless-ended.ensures)
    (rw (← c.earlier.ensures, ← c.earlier-2.ensures) c.earlier-3.ensures)

pub returns-clause-names : goal.returns-clause-names
returns-clause-names c =
    body_names (seen c.args.around.now) c.args.scopes.now c.as_slice-params.result.now c.walk_block.new.scopes c.leave.new.self
    (c.in_ok-body.ensures.names ∙ c.in_ok-declared.ensures.names)
    (rw (← c.depth-depth.ensures) c.leave.ensures)
