use Rattle.sk_data.proofs.NumbersRead.{none_read}
use Rattle.sk_data.proofs.number.Number.value.Goals as goal

pub returns-in-Empty : goal.returns-in-Empty
returns-in-Empty c = λ bytes read. none_read c.args.self c.args.bound bytes c.in-Empty.is read
