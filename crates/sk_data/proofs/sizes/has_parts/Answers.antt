use Rattle.std.proofs.Common.{◌==◌}
use Rattle.std.proofs.lemmas.List.Splits.{length-slice_split}
use Rattle.sk_data.specs.Sizes.{letter_x}
use Rattle.sk_data.proofs.sizes.has_parts.Goals as goal

pub returns : goal.returns
returns c = rw (length-slice_split (λ byte. byte == letter_x) c.args.text.now, c.separators.ensures.value, c.from.ensures)
