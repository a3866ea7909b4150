use Rattle.sk_data.proofs.NumbersRead.{other_refuses}
use Rattle.sk_data.proofs.number.Number.with_other.Goals as goal

pub returns-in_default : goal.returns-in_default
returns-in_default c = λ bytes read. other_refuses c.args.self bytes c.args.byte c.in_default.not-Empty c.requires read
