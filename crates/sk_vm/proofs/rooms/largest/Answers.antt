use Rattle.std.proofs.Common.{List, arith, ap, map, ◌∙◌}
use Rattle.std.proofs.lemmas.List.{map-id, take_all}
use Rattle.sk_vm.specs.Rooms.{largest}
use Rattle.sk_vm.specs.declared.rooms.Room.{Room}
use Rattle.sk_vm.proofs.Chains.{largest-more}
use Rattle.sk_vm.proofs.rooms.largest.Goals as goal

pub loop-other-preserved : goal.loop-other-preserved
loop-other-preserved c =
    c.larger-room.ensures
    ∙ largest-more (λ (room : Room). room) c.args.rooms.now c.loop-other.other-index _ c.loop-other.room c.loop-other-test.true c.loop-other.invariant

pub returns : goal.returns
returns c =
    c.loop-other.invariant
    ∙ ap (λ (rooms : List Room). largest (map (λ (room : Room). room) rooms)) (take_all c.loop-other.other-index c.args.rooms.now (omega arith))
    ∙ ap largest (map-id c.args.rooms.now)
