use Rattle.sk_scopes.proofs.scopes.rebind.Goals as goal

pub returns-in-Ok : goal.returns-in-Ok
returns-in-Ok g c _ = λ name. c.in-Ok.ensures.updates.0 (record c.args.name { now = name })
