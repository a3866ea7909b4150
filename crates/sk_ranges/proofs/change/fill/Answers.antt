use Rattle.std.proofs.Common.{◌≡◌, arith}
use Rattle.sk_ranges.proofs.VecLemmas.{inserted, take-insert, drop-insert}
use Rattle.sk_ranges.proofs.change.fill.Goals as goal

pub returns-clause-before : goal.returns-clause-before
returns-clause-before c =
    let grown = inserted c.args.pieces.now.items c.insert.new.self.items c.args.gap.from c.in-Some.piece c.insert.result c.insert.ensures.items (c.insert.ensures.succeeds c.requires.room) in
    rw (grown, c.in-Some.is) (take-insert c.args.pieces.now.items c.args.gap.from c.in-Some.piece (omega arith))

pub returns-clause-after : goal.returns-clause-after
returns-clause-after c =
    let grown = inserted c.args.pieces.now.items c.insert.new.self.items c.args.gap.from c.in-Some.piece c.insert.result c.insert.ensures.items (c.insert.ensures.succeeds c.requires.room) in
    let same : c.args.gap.to ≡ c.args.gap.from = omega arith in
    rw (grown, same) (drop-insert c.args.pieces.now.items c.args.gap.from c.in-Some.piece (omega arith))
