use Rattle.std.proofs.Common.{◌≡◌, length, arith}
use Rattle.sk_vm.proofs.Places.{one_written}
use Rattle.sk_vm.proofs.place.+write_coordinates.Goals as goal

pub returns-in-len1 : goal.returns-in-len1
returns-in-len1 t c =
    let least = c.in-len1.len_at_least in
    let most = c.in-len1.len_below in
    let one : length c.args.sizes.now ≡ 1 = omega arith in
    one_written c.args.sizes.now c.args.out.now c.args.index one c.requires.count
