use Rattle.sk_vm.proofs.Lawful.{serves-each}
use Rattle.sk_vm.proofs.sharing.Sharing.new.Goals as goal

pub invariant_of-result : goal.invariant_of-result
invariant_of-result c =
    serves-each c.args.object.now c.args.rooms.now c.make_ready.new.self c.args.instance c.of-instance.result c.requires.rooms c.in_ok-make_ready.ensures.holds c.of-instance.ensures
