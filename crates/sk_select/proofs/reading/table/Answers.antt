use Rattle.std.proofs.Common.{◌≡◌, ◌≢◌, Err}
use Rattle.serde_json.specs.View.{view}
use Rattle.sk_select.specs.Table.{table_of}
use Rattle.sk_select.specs.declared.fault.TableFault.TheVariants.{Json, Memory}
use Rattle.sk_select.proofs.FaultLemmas.{read-not-Json}
use Rattle.sk_select.proofs.reading.table.Goals as goal

pub returns-in-Ok-clause-json : goal.returns-in-Ok-clause-json
returns-in-Ok-clause-json c = λ is value read.
    let refused = rw is at c.tuning.ensures.refused in
    read-not-Json (view c.in-Ok.value) (refused (λ same. cc))
