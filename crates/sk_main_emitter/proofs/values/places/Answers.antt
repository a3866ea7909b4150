use Rattle.std.proofs.Common.{◌∙◌, ◌++◌, ap, length, map}
use Rattle.sk_emitter.proofs.PartsAppended.{arguments-none}
use Rattle.sk_main_scheme.specs.MainScheme.{main_piece}
use Rattle.sk_main_emitter.proofs.values.places.Goals as goal

pub returns-clause-code : goal.returns-clause-code
returns-clause-code c =
    c.in_ok-depth.ensures.code
    ∙ ap (λ rest. c.args.code.now.items ++ rest) (arguments-none (map main_piece c.args.places.now) c.args.names.now (length c.args.code.now.items))
