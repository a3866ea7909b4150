use Rattle.std.proofs.Common.{length}
use Rattle.sk_vm.proofs.place.+product.Given as goal

abbrev pub decreases-product : goal.decreases-product
decreases-product l = length l.sizes.now
