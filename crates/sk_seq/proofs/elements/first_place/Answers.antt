use Rattle.std.proofs.Common.{◌≡◌, ◌-◌, ◌*◌, ◌+◌, arith}
use Rattle.sk_seq.proofs.Mapped.{units_end}
use Rattle.sk_seq.proofs.elements.first_place.Goals as goal

pub overflow_mul-result : goal.overflow_mul-result
overflow_mul-result c =
    let end : c.args.units.lo * c.args.width + (c.args.units.hi - c.args.units.lo) * c.args.width ≡ c.args.units.hi * c.args.width =
    units_end c.args.units.lo c.args.units.hi c.args.width c.args.units.ordered in
    record { fits = omega arith }

pub returns-clause-end : goal.returns-clause-end
returns-clause-end c = units_end c.args.units.lo c.args.units.hi c.args.width c.args.units.ordered
