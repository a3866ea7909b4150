use Rattle.sk_reader.proofs.operators.+expression.Given as goal

abbrev pub decreases-expression : goal.decreases-expression
decreases-expression l = l.left
