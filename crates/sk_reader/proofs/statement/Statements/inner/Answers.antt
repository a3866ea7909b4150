use Rattle.std.proofs.Common.{rules, arith}
use Rattle.sk_reader.proofs.Turns.{part-some}
use Rattle.sk_reader.proofs.statement.Statements.inner.Goals as goal

pub inner-requires : goal.inner-requires
inner-requires g c = search (rules, c.requires.callable (omega arith))

pub returns : goal.returns
returns g c =
    rw (part-some c.args.self.now.left c.args.part c.args.cursor.now (omega arith))
    (search (rules, c.requires.reads (omega arith)))
