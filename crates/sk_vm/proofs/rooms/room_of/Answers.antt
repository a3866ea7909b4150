use Rattle.std.proofs.Common.{◌≡◌, ◌∙◌, List, IfOk, ap, subst}
use Rattle.sk_vm.specs.Rooms.{room_after}
use Rattle.sk_vm.specs.declared.rooms.Room.{Room}
use Rattle.sk_vm.proofs.Chains.{room_of-there}
use Rattle.sk_vm.proofs.rooms.room_of.Goals as goal

pub returns : goal.returns
returns c =
    subst (λ (r : Room). IfOk c.room_after.result (λ room. room ≡ r))
    (ap (λ (rs : List Room). room_after rs c.index-codes-function.result) (c.deref.ensures.value ∙ c.in_ok-before.ensures)
    ∙ room_of-there c.args.codes.now c.args.function c.index-codes-function.result c.requires c.index-codes-function.is) c.room_after.ensures
