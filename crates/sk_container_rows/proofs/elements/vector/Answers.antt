use Rattle.sk_container_rows.proofs.Rows.{held-new}
use Rattle.sk_container_rows.proofs.elements.vector.Goals as goal

pub returns : goal.returns
returns c = held-new _ _ _ _ _ c.vector.result c.vector.ensures.ok
