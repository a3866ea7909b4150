use Rattle.std.proofs.Common.{[], ◌∙◌, ap, get_or, arith}
use Rattle.sk_data.specs.Fields.{within}
use Rattle.sk_data.specs.RecordText.{fields_of, most_of}
use Rattle.sk_data.proofs.KeptBytes.{kept_at, kept_nowhere}
use Rattle.sk_data.proofs.record.TextRecord.shape.Goals as goal

pub returns-then-self-lt2 : goal.returns-then-self-lt2
returns-then-self-lt2 c =
    let held = c.args.self.now.held in
    kept_nowhere (most_of c.args.self.now) (fields_of c.args.self.now) 1 (let few = c.if-self-lt2.true in let counted = held.counted in omega (arith, few, counted))

pub returns-else-self-lt2 : goal.returns-else-self-lt2
returns-else-self-lt2 c =
    let held = c.args.self.now.held in
    let some = c.if-self-lt2.false in
    kept_at (most_of c.args.self.now) (fields_of c.args.self.now) 1 _ (let counted = held.counted in omega (arith, some, counted))
    (c.text.ensures (get_or (fields_of c.args.self.now) 1 []) (held.shaped (omega (arith, some)))
    ∙ ap (λ most. within most (get_or (fields_of c.args.self.now) 1 [])) held.same_room)
