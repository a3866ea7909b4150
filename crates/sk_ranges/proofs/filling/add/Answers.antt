use Rattle.std.proofs.Common.{arith}
use Rattle.sk_ranges.proofs.StateLemmas.{states_same, states_differ}
use Rattle.sk_ranges.proofs.FillLemmas.{side_joined, side_behind}
use Rattle.sk_ranges.proofs.filling.add.Goals as goal

pub returns-then-eq-clause-added : goal.returns-then-eq-clause-added
returns-then-eq-clause-added c = side_joined c.args.pieces.now.items c.args.side c.in-Some.last c.args.piece c.in-Some.is c.requires.tidy c.requires.rises (states_same _ _ _ c.eq.ensures c.if-eq.true)

pub returns-clause-added : goal.returns-clause-added
returns-clause-added c = side_behind c.args.pieces.now.items c.args.side c.in-Some.last c.args.piece c.in-Some.is (omega arith) c.requires.tidy c.requires.rises (states_differ _ _ _ c.eq.ensures c.if-eq.false)
