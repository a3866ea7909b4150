use Rattle.std.proofs.Common.{append_assoc}
use Rattle.sk_data.proofs.Joins.{join-apart}
use Rattle.sk_data.proofs.joined.put_joined.Goals as goal

pub returns-in_ok-put_number-in-len1-up : goal.returns-in_ok-put_number-in-len1-up
returns-in_ok-put_number-in-len1-up g c =
    let joined = join-apart c.args.separator g.I.Integer.text c.args.numbers.now c.first-item.result c.in-len1-up.len_at_least c.first-item.is in
    let number = c.in_ok-put_number-in-len1-up.ensures in
    rw (joined, ← append_assoc, ← number) c.put_behind.ensures
