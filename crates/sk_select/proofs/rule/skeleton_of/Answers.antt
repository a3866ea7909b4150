use Rattle.std.proofs.Common.{◌≡◌, ap, ◌∙◌}
use Rattle.serde_json.specs.View.{view}
use Rattle.sk_select.specs.Fields.{word_in}
use Rattle.sk_select.specs.Table.{skeleton_in}
use Rattle.sk_select.specs.declared.fault.FieldName.TheVariants.{Skeleton}
use Rattle.sk_select.proofs.rule.skeleton_of.Goals as goal

pub returns : goal.returns
unfolding skeleton_in
returns c = c.word.ensures ∙ ap (λ words. word_in Skeleton words (view c.args.value.now)) c.skeletons.ensures
