use Rattle.sk_index_rows.proofs.IndexedObject.{is-indexed}
use Rattle.sk_index_rows.proofs.indexed.sound_object.Goals as goal

pub returns : goal.returns
returns c = is-indexed c.in_ok-object.object c.in_ok-object.ensures
