use Rattle.std.proofs.Common.{◌≡◌, ◌++◌, ◌+◌, ◌*◌, drop, map, max, length}
use Rattle.sk_scheme.specs.Pieces.{arguments_code, parts_depth}
use Rattle.sk_emitter.specs.Applications.{piece_of}
use Rattle.sk_tree.specs.declared.tree.Expr.{size-Expr}
use Rattle.sk_emitter.proofs.expressions.+expression.Given as goal

-- the depth of the tree, and within one depth how far a function stands from the next expression
abbrev pub decreases-expression : goal.decreases-expression
decreases-expression g l = 5 * goal.size-expression g l

abbrev pub decreases-wanted : goal.decreases-wanted
decreases-wanted g l = 5 * goal.size-wanted g l + 1

abbrev pub decreases-binary : goal.decreases-binary
decreases-binary g l = 5 * max (size-Expr l.left.now) (size-Expr l.right.now) + 1

abbrev pub decreases-both : goal.decreases-both
decreases-both g l = 5 * max (size-Expr l.left.now) (size-Expr l.right.now) + 1

abbrev pub decreases-either : goal.decreases-either
decreases-either g l = 5 * max (size-Expr l.left.now) (size-Expr l.right.now) + 1

abbrev pub decreases-choose : goal.decreases-choose
decreases-choose g l = 5 * max (size-Expr l.test.now) (max (size-Expr l.one.now) (size-Expr l.other.now)) + 1

abbrev pub decreases-argument : goal.decreases-argument
decreases-argument g l = 5 * goal.size-argument g l + 2

abbrev pub decreases-arguments : goal.decreases-arguments
decreases-arguments g l = 5 * goal.size-arguments g l + 3

abbrev pub decreases-apply : goal.decreases-apply
decreases-apply g l = 5 * goal.size-apply g l + 4

-- what is appended and what is left are the whole, and so are their depths
abbrev pub invariant-arguments-loop-i : goal.invariant-arguments-loop-i
invariant-arguments-loop-i g l =
    (l.code.items ++ arguments_code (drop l.i l.kinds) (map (piece_of g.N.Surrounding.leaves) (drop l.i l.parts)) l.names (length l.code.items)
    ≡ l.initial.code.items ++ arguments_code l.kinds (map (piece_of g.N.Surrounding.leaves) l.parts) l.names (length l.initial.code.items))
    × (max l.depth (l.i + parts_depth (map (piece_of g.N.Surrounding.leaves) (drop l.i l.parts)) l.names) ≡ parts_depth (map (piece_of g.N.Surrounding.leaves) l.parts) l.names)
