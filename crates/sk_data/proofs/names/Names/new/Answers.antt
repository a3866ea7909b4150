use Rattle.sk_data.proofs.NamesKept.{name_more}
use Rattle.sk_data.proofs.names.Names.new.Goals as goal

pub inputs-preserved : goal.inputs-preserved
inputs-preserved c =
    name_more c.args.declared.now c.inputs.input-index c.inputs.names.keys c.insert_full.new.self.keys c.as_bytes.result c.input-item.result
    c.requires c.inputs-test.true c.input-item.is c.as_bytes.ensures c.inputs.invariant c.in_ok-insert_full.ensures.keys
