use Rattle.std.proofs.Common.{ap, slice_set, Option}
use Rattle.sk_host.proofs.Kept.{end-goes}
use Rattle.sk_host.proofs.containers.end.Goals as goal
use Rattle.sk_host.specs.Stores.{Kept}
use Rattle.sk_host.specs.declared.machine.Stand.{Stand}

pub returns : goal.returns
returns c object stack slots world mirrors =
    end-goes object c.args.stand stack slots c.args.store.now world mirrors c.args.container c.past.result _ c.requires.there
    (ap (λ (one : Option Kept). slice_set c.args.store.now c.args.container one) c.take.ensures.after)
    (ap (λ (s : Stand). s.at) c.past.ensures) (ap (λ (s : Stand). s.top) c.past.ensures)
