use Rattle.std.proofs.Common.{rules, arith}
use Rattle.sk_reader.proofs.Turns.{below-some}
use Rattle.sk_reader.proofs.expression.Expressions.inner.Goals as goal

pub inner-requires : goal.inner-requires
inner-requires g c = search (rules, c.requires.callable (omega arith))

pub returns : goal.returns
returns g c =
    rw (below-some c.args.self.now.left c.args.reach c.args.cursor.now (omega arith))
    (search (rules, c.requires.reads (omega arith)))
