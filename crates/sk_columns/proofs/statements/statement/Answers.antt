use Rattle.sk_columns.proofs.Proceeding.{stays}
use Rattle.sk_columns.proofs.statements.statement.Goals as goal

pub returns-in_default : goal.returns-in_default
returns-in_default g c = λ place inside. stays _ _ _
