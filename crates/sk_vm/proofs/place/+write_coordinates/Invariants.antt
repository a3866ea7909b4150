use Rattle.std.proofs.Common.{length}
use Rattle.sk_vm.proofs.place.+write_coordinates.Given as goal

abbrev pub decreases-write_coordinates : goal.decreases-write_coordinates
decreases-write_coordinates l = length l.sizes.now
