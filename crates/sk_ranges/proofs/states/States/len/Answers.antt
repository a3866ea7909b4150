use Rattle.std.proofs.Common.{◌∙◌, ap}
use Rattle.sk_ranges.specs.Pieces.{end_of}
use Rattle.sk_ranges.proofs.ViewLemmas.{seen_length}
use Rattle.sk_ranges.proofs.states.States.len.Goals as goal

pub returns : goal.returns
returns c = c.end.ensures ∙ ap (end_of 0) c.deref.ensures.value ∙ seen_length c.self.inside.pieces.items c.args.self.now.states (ap (λ v. v.states) c.self.view_is)
