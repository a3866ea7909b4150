use Rattle.std.proofs.Common.{◌≡◌, ◌∙◌, ◌*◌, ◌<◌, length, arith, rules, sym, subst}
use Rattle.sk_kernel.specs.Kernels.{Meaning, SuitsRun}
use Rattle.sk_seq.proofs.Mapped.{units_end}
use Rattle.sk_seq.proofs.PairLemmas.{none_left, place_fits, range_more, row_left, row_next, rows_more, rows_trapped}
use Rattle.sk_seq.proofs.pairs.rows.Goals as goal

pub row-requires-clause-within : goal.row-requires-clause-within
row-requires-clause-within g c =
    let left = row_left c.args.units.hi c.loop-unit.unit c.args.width c.loop-unit-test.true in
    let size : length c.loop-unit.out ≡ length c.args.out.now = c.loop-unit.invariant.1 in
    omega (arith, left, c.loop-unit.invariant.3)

pub row-requires-clause-place : goal.row-requires-clause-place
row-requires-clause-place g c =
    let small : c.loop-unit.unit < 4294967296 = search rules in
    place_fits c.loop-unit.unit c.args.units.hi c.args.width 4294967296 c.loop-unit-test.true c.requires.places small

pub row-requires-clause-few : goal.row-requires-clause-few
row-requires-clause-few g c =
    let end = units_end c.args.units.lo c.args.units.hi c.args.width c.args.units.ordered in
    let size : length c.loop-unit.out ≡ length c.args.out.now = c.loop-unit.invariant.1 in
    omega (arith, end, c.requires.count, c.requires.places)

pub row-requires-clause-suits : goal.row-requires-clause-suits
row-requires-clause-suits g c =
    subst (λ (m : Meaning). SuitsRun m (g.D.Data.means c.args.source.now) c.loop-unit.unit 0 c.args.width) (sym c.loop-unit.invariant.0)
    (c.requires.suits c.loop-unit.unit (omega arith) c.loop-unit-test.true)

pub loop-unit-preserved : goal.loop-unit-preserved
loop-unit-preserved g c =
    let left = row_left c.args.units.hi c.loop-unit.unit c.args.width c.loop-unit-test.true in
    let next = row_next c.loop-unit.unit c.args.width in (
      c.row.ensures.same ∙ c.loop-unit.invariant.0,
      c.row.ensures.count ∙ c.loop-unit.invariant.1,
      omega (arith, next, c.loop-unit.invariant.2),
      omega (arith, left, c.loop-unit.invariant.3),
      λ cells agree.
          rows_more (g.K.Kernel.means c.loop-unit.kernel) (g.K.Kernel.means c.args.kernel.now) (g.D.Data.means c.args.source.now) cells c.loop-unit.unit c.args.width (c.args.units.lo * c.args.width) c.loop-unit.done
          c.loop-unit.out c.row.new.out c.loop-unit.invariant.0 c.loop-unit.invariant.2 (c.loop-unit.invariant.4 cells agree) c.row.ensures.before (c.in-Ok.ensures.values cells agree),
      range_more (g.K.Kernel.means c.loop-unit.kernel) (g.K.Kernel.means c.args.kernel.now) c.loop-unit.out c.row.new.out c.loop-unit.done c.args.width
          c.loop-unit.invariant.0 c.loop-unit.invariant.5 c.row.ensures.before c.in-Ok.ensures.range,
    )

pub returns-in-Err-clause-values : goal.returns-in-Err-clause-values
returns-in-Err-clause-values g c cells agree =
    let size : length c.loop-unit.out ≡ length c.args.out.now = c.loop-unit.invariant.1 in
    let kept : length c.row.new.out ≡ length c.loop-unit.out = c.row.ensures.count in
    let inside : c.in-Err.trapped.offset < length c.row.new.out = omega (arith, c.in-Err.ensures.inside) in
    rows_trapped (g.K.Kernel.means c.loop-unit.kernel) (g.K.Kernel.means c.args.kernel.now) (g.D.Data.means c.args.source.now) cells c.loop-unit.unit c.args.width (c.args.units.lo * c.args.width) c.loop-unit.done
    c.loop-unit.out c.row.new.out c.loop-unit.invariant.0 c.loop-unit.invariant.2 (c.loop-unit.invariant.4 cells agree) c.in-Err.trapped inside (c.in-Err.ensures.values cells agree)

pub returns-clause-values : goal.returns-clause-values
returns-clause-values g c cells agree k less =
    let none = none_left c.args.units.hi c.loop-unit.unit c.args.width c.loop-unit-test.false in
    let size : length c.loop-unit.out ≡ length c.args.out.now = c.loop-unit.invariant.1 in
    c.loop-unit.invariant.4 cells agree k (omega (arith, none, c.loop-unit.invariant.3))

pub returns-clause-range : goal.returns-clause-range
returns-clause-range g c k less =
    let none = none_left c.args.units.hi c.loop-unit.unit c.args.width c.loop-unit-test.false in
    c.loop-unit.invariant.5 k (omega (arith, none, c.loop-unit.invariant.3))
