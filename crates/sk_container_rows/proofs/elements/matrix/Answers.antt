use Rattle.sk_container_rows.proofs.Rows.{held-new}
use Rattle.sk_container_rows.proofs.elements.matrix.Goals as goal

pub returns : goal.returns
returns c = held-new _ _ _ _ _ c.matrix.result c.matrix.ensures.ok
