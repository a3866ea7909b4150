use Rattle.std.proofs.Common.{◌≡◌, ap, ◌∙◌}
use Rattle.serde_json.specs.View.{view}
use Rattle.sk_select.specs.Fields.{word_in}
use Rattle.sk_select.specs.Table.{variant_in}
use Rattle.sk_select.specs.declared.fault.FieldName.TheVariants.{Variant}
use Rattle.sk_select.proofs.rule.variant_of.Goals as goal

pub returns : goal.returns
unfolding variant_in
returns c = c.word.ensures ∙ ap (λ words. word_in Variant words (view c.args.value.now)) c.variants.ensures
