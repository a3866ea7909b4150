use Rattle.std.proofs.Common.{ap, rules, ◌∙◌}
use Rattle.std.specs.Slice.Iter as slice
use Rattle.std.specs.Prelude.{◌==◌}
use Rattle.std.proofs.lemmas.Iterator.{YieldsList-from_take}
use Rattle.std.proofs.lemmas.Iterator.Consumers.{map_from_collect}
use Rattle.std.proofs.lemmas.Iterator.Splits.{YieldsList-from_slice_split}
use Rattle.sk_trace.proofs.split.first_words.Goals as goal

pub returns : goal.returns
returns c =
    map_from_collect _ c.collect.ensures.ran
    (YieldsList-from_take 11
    (YieldsList-from_slice_split _ (λ byte. byte == c.args.mark) c.args.text.now (cc) (cc)
    (ap slice.split_callee c.take.ensures.source ∙ c.split.ensures.closure) (λ x b q k. search rules))
    (cc))
