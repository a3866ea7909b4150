use Rattle.std.proofs.Common.{◌∙◌, ap}
use Rattle.sk_main_emitter.specs.Statements.{container_of}
use Rattle.sk_main_emitter.proofs.MainLeaves.{numbered}
use Rattle.sk_main_emitter.proofs.leaves.InMainSurrounding.container.Goals as goal

pub returns : goal.returns
returns c = c.container.ensures ∙ ap container_of c.named.ensures ∙ numbered c.args.self.now c.args.name.now
