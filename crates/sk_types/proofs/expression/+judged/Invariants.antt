use Rattle.std.proofs.Common.{◌≡◌, map, take}
use Rattle.sk_typing.specs.TypingExpressions as expressions
use Rattle.sk_types.specs.Told.{seen, argument_of}
use Rattle.sk_types.proofs.expression.+judged.Given as goal

abbrev pub invariant-judge_all-loop-expr : goal.invariant-judge_all-loop-expr
invariant-judge_all-loop-expr l =
    l.kept ≡ map argument_of (expressions.judged_all (seen l.around) l.scopes (take l.expr-index l.exprs))
