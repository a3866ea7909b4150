use Rattle.std.proofs.Common.{◌+◌, ◌*◌, drop, map, max}
use denote.Param.Weighed.{most}
use Rattle.sk_main_scheme.specs.MainScheme.{emitting_of}
use Rattle.sk_tree.specs.declared.tree.Statement.{size-Statement}
use Rattle.sk_main_emitter.proofs.MainWriters.{Continues}
use Rattle.sk_main_emitter.proofs.statements.+statement.Given as goal

-- the depth of the tree, and within one depth how far a function stands from the next statement
abbrev pub decreases-statement : goal.decreases-statement
decreases-statement l = 7 * goal.size-statement l

abbrev pub decreases-all : goal.decreases-all
decreases-all l = 7 * goal.size-all l + 1

abbrev pub decreases-block : goal.decreases-block
decreases-block l = 7 * goal.size-block l + 2

abbrev pub decreases-only : goal.decreases-only
decreases-only l = 7 * most size-Statement l.one.now + 3

abbrev pub decreases-choice : goal.decreases-choice
decreases-choice l = 7 * max (most size-Statement l.one.now) (most size-Statement l.other.now) + 3

abbrev pub decreases-blocks : goal.decreases-blocks
decreases-blocks l = 7 * max (most size-Statement l.one.now) (most size-Statement l.other.now) + 4

abbrev pub decreases-branch : goal.decreases-branch
decreases-branch l = 7 * max (most size-Statement l.one.now) (most size-Statement l.other.now) + 5

abbrev pub decreases-turn : goal.decreases-turn
decreases-turn l = 7 * max (size-Statement l.step.now) (most size-Statement l.body.now) + 3

abbrev pub decreases-turns : goal.decreases-turns
decreases-turns l = 7 * max (size-Statement l.first.now) (max (size-Statement l.step.now) (most size-Statement l.body.now)) + 4

abbrev pub invariant-all-loop-one : goal.invariant-all-loop-one
invariant-all-loop-one l =
    Continues (map emitting_of l.statements) (map emitting_of (drop l.one-index l.statements)) l.initial.writer l.writer l.depth
