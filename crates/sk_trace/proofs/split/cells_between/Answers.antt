use Rattle.std.proofs.Common.{ap, rules, ◌∙◌}
use Rattle.std.specs.Slice.Iter as slice
use Rattle.std.specs.Iterator.Adapters.{skip_source}
use Rattle.std.specs.Prelude.{◌==◌}
use Rattle.std.proofs.lemmas.Iterator.{YieldsList-from_map, items_from_collect}
use Rattle.std.proofs.lemmas.Iterator.Adapters.{YieldsList-from_skip}
use Rattle.std.proofs.lemmas.Iterator.Splits.{YieldsList-from_slice_split}
use Rattle.sk_trace.specs.Candidates.{cell_in}
use Rattle.sk_trace.proofs.split.cells_between.Goals as goal

pub returns : goal.returns
returns c =
    items_from_collect _ c.collect.ensures.ran
    (YieldsList-from_map _ cell_in
    (YieldsList-from_skip c.args.passed_over
    (YieldsList-from_slice_split _ (λ byte. byte == c.args.mark) c.args.text.now (cc) (cc)
    (ap (λ s. slice.split_callee (skip_source s)) c.map.ensures.source ∙ ap slice.split_callee c.skip.ensures.source ∙ c.split.ensures.closure)
    (λ x b q k. search rules))
    (cc))
    c.map.ensures.closure (λ x r q k. search rules))
