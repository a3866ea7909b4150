use Rattle.std.proofs.Common.{rules}
use Rattle.std.specs.Prelude.{◌==◌}
use Rattle.std.proofs.lemmas.Iterator.{YieldsList-from_map, items_from_collect}
use Rattle.std.proofs.lemmas.Iterator.Splits.{YieldsList-from_slice_split}
use Rattle.sk_trace.specs.Candidates.{wide_in}
use Rattle.sk_trace.proofs.split.numbers_between.Goals as goal

pub returns : goal.returns
returns c =
    items_from_collect _ c.collect.ensures.ran
    (YieldsList-from_map _ wide_in
    (YieldsList-from_slice_split _ (λ byte. byte == 44) c.args.text.now (cc) (cc) (cc) (λ x b q k. search rules))
    (cc) (λ x r q k. search rules))
