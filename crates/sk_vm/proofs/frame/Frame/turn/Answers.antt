use Rattle.sk_vm.proofs.Chains.{turned}
use Rattle.sk_vm.proofs.frame.Frame.turn.Goals as goal

pub returns-clause-room : goal.returns-clause-room
returns-clause-room c =
    turned c.args.object.now c.args.rooms.now c.make_ready.new.self c.turn_to.new.self c.args.function c.requires.rooms c.in_ok-make_ready.ensures.holds c.requires.there c.turn_to.ensures
