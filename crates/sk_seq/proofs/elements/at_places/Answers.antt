use Rattle.std.proofs.Common.{◌≡◌, ◌<◌, length, arith}
use Rattle.sk_seq.proofs.Mapped.{agree_held, agree_run, cells_held, places_done, places_trapped}
use Rattle.sk_seq.proofs.elements.at_places.Goals as goal

pub overflow_add-result : goal.overflow_add-result
overflow_add-result g c =
    let meaning = g.K.Kernel.means c.args.kernel.now in
    let source = g.D.Data.means c.args.source.now in
    let values = c.in-Err.ensures.values (cells_held source)
    (agree_run meaning source c.args.first 0 (length c.args.out.now) (cells_held source) c.requires.suits (agree_held source)) in
    let less : c.in-Err.trapped.offset < length c.apply_each.new.out = values.0 in
    let long : length c.apply_each.new.out ≡ length c.args.out.now = c.apply_each.ensures.count in
    record { fits = omega arith }

pub returns-in-Ok-clause-values : goal.returns-in-Ok-clause-values
returns-in-Ok-clause-values g c cells agree =
    let meaning = g.K.Kernel.means c.args.kernel.now in
    let source = g.D.Data.means c.args.source.now in
    places_done meaning source cells c.args.first (length c.args.out.now) c.apply_each.new.out c.requires.single c.apply_each.ensures.count
    (c.in-Ok.ensures.values cells (agree_run meaning source c.args.first 0 (length c.args.out.now) cells c.requires.suits agree))

pub returns-in-Err-clause-values : goal.returns-in-Err-clause-values
returns-in-Err-clause-values g c cells agree =
    let meaning = g.K.Kernel.means c.args.kernel.now in
    let source = g.D.Data.means c.args.source.now in
    places_trapped meaning source cells c.args.first (length c.args.out.now) c.apply_each.new.out c.requires.single c.apply_each.ensures.count c.in-Err.trapped
    (c.in-Err.ensures.values cells (agree_run meaning source c.args.first 0 (length c.args.out.now) cells c.requires.suits agree))
