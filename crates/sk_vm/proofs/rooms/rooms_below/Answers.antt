use Rattle.std.proofs.Common.{◌≡◌, ◌∙◌, List, arith, ap, sym}
use Rattle.sk_vm.specs.Rooms.{room_after}
use Rattle.sk_vm.specs.declared.rooms.Room.{Room}
use Rattle.sk_vm.proofs.Chains.{rooms_below-more, rooms_below-none}
use Rattle.sk_vm.proofs.rooms.rooms_below.Goals as goal

pub loop-k-init : goal.loop-k-init
loop-k-init c = c.new-rooms.ensures.items ∙ sym (rooms_below-none c.args.codes.now)

pub loop-k-preserved : goal.loop-k-preserved
loop-k-preserved c =
    let room : c.in_ok-room.room ≡ room_after c.loop-k.rooms.items c.index-codes-k.result =
    c.in_ok-room.ensures ∙ ap (λ (rs : List Room). room_after rs c.index-codes-k.result) c.deref.ensures.value in
    rooms_below-more c.args.codes.now c.loop-k.k c.index-codes-k.result c.loop-k.rooms.items c.push.new.self.items c.in_ok-room.room
    (omega arith) c.index-codes-k.is c.loop-k.invariant room c.in_ok-push.ensures.items
