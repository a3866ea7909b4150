use Rattle.std.proofs.Common.{[], get_or, arith}
use Rattle.sk_data.specs.RecordText.{fields_of, most_of}
use Rattle.sk_data.proofs.KeptBytes.{kept_at}
use Rattle.sk_data.proofs.record.TextRecord.name.Goals as goal

pub returns : goal.returns
returns c =
    let held = c.args.self.now.held in
    kept_at (most_of c.args.self.now) (fields_of c.args.self.now) 0 _ (let some = held.some in let counted = held.counted in omega (arith, some, counted))
    (c.text.ensures (get_or (fields_of c.args.self.now) 0 []) held.named)
