use Rattle.std.proofs.Common.{◌≡◌, ◌-◌, ◌*◌, length, arith}
use Rattle.sk_formula.specs.Skeletons.{value_at}
use Rattle.sk_seq.proofs.Mapped.{of_units}
use Rattle.sk_seq.proofs.elements.map.Goals as goal
use Rattle.sk_seq.specs.Given.{functions_over}

pub returns-clause-values : goal.returns-clause-values
returns-clause-values g c cells agree =
    let long : length c.args.out.now ≡ c.args.units.hi - c.args.units.lo = c.requires.count in
    of_units (value_at (functions_over (g.K.Kernel.means c.args.kernel.now) (g.D.Data.means c.args.source.now) cells))
    (c.args.units.lo * 1) c.args.units.lo ((c.args.units.hi - c.args.units.lo) * 1) (length c.args.out.now)
    c.at_places.new.out c.at_places.result (omega arith) (omega arith) (c.at_places.ensures.values cells agree)
