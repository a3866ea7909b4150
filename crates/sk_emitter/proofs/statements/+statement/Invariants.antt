use Rattle.std.proofs.Common.{◌+◌, ◌*◌, drop, max}
use denote.Param.Weighed.{most}
use Rattle.sk_tree.specs.declared.tree.Statement.{size-Statement}
use Rattle.sk_emitter.proofs.Writers.{Continues}
use Rattle.sk_emitter.proofs.statements.+statement.Given as goal

-- the depth of the tree, and within one depth how far a function stands from the next statement
abbrev pub decreases-statement : goal.decreases-statement
decreases-statement l = 6 * goal.size-statement l

abbrev pub decreases-all : goal.decreases-all
decreases-all l = 6 * goal.size-all l + 1

abbrev pub decreases-block : goal.decreases-block
decreases-block l = 6 * goal.size-block l + 2

abbrev pub decreases-only : goal.decreases-only
decreases-only l = 6 * most size-Statement l.one.now + 3

abbrev pub decreases-choice : goal.decreases-choice
decreases-choice l = 6 * max (most size-Statement l.one.now) (most size-Statement l.other.now) + 3

abbrev pub decreases-turn : goal.decreases-turn
decreases-turn l = 6 * max (size-Statement l.step.now) (most size-Statement l.body.now) + 3

abbrev pub decreases-turns : goal.decreases-turns
decreases-turns l = 6 * max (size-Statement l.first.now) (max (size-Statement l.step.now) (most size-Statement l.body.now)) + 4

abbrev pub invariant-all-loop-one : goal.invariant-all-loop-one
invariant-all-loop-one l = Continues l.statements (drop l.one-index l.statements) l.initial.writer l.writer l.depth
