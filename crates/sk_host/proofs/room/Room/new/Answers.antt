use Rattle.sk_vm.proofs.Places.{scalars_are_places}
use Rattle.sk_host.proofs.room.Room.new.Goals as goal

pub of-requires-clause-parameters : goal.of-requires-clause-parameters
of-requires-clause-parameters c = scalars_are_places c.args.object.now c.requires.scalars
