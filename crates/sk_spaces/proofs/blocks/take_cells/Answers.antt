use Rattle.std.proofs.Common.{ℕ, List, ap, sym, ◌∙◌}
use Rattle.sk_spaces.specs.Blocks.{BlockView, used_in, len_in}
use Rattle.sk_spaces.proofs.UsedLemmas.{used-set}
use Rattle.sk_spaces.proofs.blocks.take_cells.Goals as goal

pub returns-in-Some-clause-used : goal.returns-in-Some-clause-used
returns-in-Some-clause-used c = λ space.
    ap (λ (es : List (ℕ × BlockView)). used_in es space) (c.get_mut.follows.holds c.take_cells.new.self).0
    ∙ used-set c.args.blocks.now.entries c.args.id c.take_cells.new.self c.in-Some.held.now space
    (ap (len_in space) c.take_cells.ensures.left) (sym c.in-Some.ensures.value)
