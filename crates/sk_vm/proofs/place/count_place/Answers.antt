use Rattle.std.proofs.Common.{rules, ◌≡◌, ◌∙◌, Bool, true, length, ap, sym, arith}
use Rattle.sk_vm.specs.Places.{counted_at}
use Rattle.sk_vm.proofs.Places.{two_written}
use Rattle.sk_vm.proofs.place.count_place.Goals as goal

pub returns-then-reading-clause-place : goal.returns-then-reading-clause-place
returns-then-reading-clause-place g c some =
    let size : length c.args.out.now ≡ 4 = search rules in
    let pairs : c.args.reading.pairs ≡ true = search rules in
    two_written c.args.out.now c.args.at.place c.args.at.pair (omega arith)
    ∙ sym (ap (λ (p : Bool). counted_at (g.D.Data.means c.args.source.now) p c.args.at.place c.args.at.pair) pairs)
