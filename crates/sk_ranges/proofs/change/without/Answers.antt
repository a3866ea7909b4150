use Rattle.std.proofs.lemmas.List.{append-nil}
use Rattle.sk_ranges.proofs.StateLemmas.{states_same, states_differ}
use Rattle.sk_ranges.proofs.SideLemmas.{without_joined, without_kept}
use Rattle.sk_ranges.proofs.change.without.Goals as goal

pub returns-then-eq-clause-left : goal.returns-then-eq-clause-left
returns-then-eq-clause-left c = λ ps t. rw append-nil (without_joined ps c.args.side c.in-Some.last c.args.state c.in-Some.is (states_same _ _ _ c.eq.ensures c.if-eq.true) t)

pub returns-clause-left : goal.returns-clause-left
returns-clause-left c = λ ps t. without_kept ps c.args.side c.in-Some.last c.args.state c.in-Some.is (states_differ _ _ _ c.eq.ensures c.if-eq.false) t
