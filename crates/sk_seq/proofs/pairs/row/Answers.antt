use Rattle.std.proofs.Common.{◌≡◌, ◌<◌, ◌∙◌, length, arith, sym, subst}
use Rattle.sk_kernel.specs.Kernels.{SuitsRun}
use Rattle.sk_seq.proofs.Mapped.{agree_held, agree_run, cells_held}
use Rattle.sk_seq.proofs.PairLemmas.{row_done, row_range, row_trapped}
use Rattle.sk_seq.proofs.pairs.row.Goals as goal
use Rattle.std.proofs.Common.{ℕ}

pub apply_each-requires-clause-suits : goal.apply_each-requires-clause-suits
apply_each-requires-clause-suits g c =
    subst (λ (n : ℕ). SuitsRun (g.K.Kernel.means c.args.kernel.now) (g.D.Data.means c.args.source.now) c.args.unit 0 n) (sym c.split_at_mut-line.ensures.front_len) c.requires.suits

pub apply_each-requires-clause-places : goal.apply_each-requires-clause-places
apply_each-requires-clause-places g c =
    let size : length c.split_at_mut-line.result.0.now ≡ c.args.width = c.split_at_mut-line.ensures.front_len in
    omega (arith, c.requires.place)

pub overflow_add-result : goal.overflow_add-result
overflow_add-result g c =
    let meaning = g.K.Kernel.means c.args.kernel.now in
    let source = g.D.Data.means c.args.source.now in
    let size : length c.split_at_mut-line.result.0.now ≡ c.args.width = c.split_at_mut-line.ensures.front_len in
    let values = c.in-Err.ensures.values (cells_held source)
    (agree_run meaning source c.args.unit 0 (length c.split_at_mut-line.result.0.now) (cells_held source)
    (subst (λ (n : ℕ). SuitsRun meaning source c.args.unit 0 n) (sym size) c.requires.suits) (agree_held source)) in
    let less : c.in-Err.trapped.offset < length c.apply_each.new.out = values.0 in
    let long : length c.apply_each.new.out ≡ length c.split_at_mut-line.result.0.now = c.apply_each.ensures.count in
    record { fits = omega arith }

pub returns-in-Ok-clause-values : goal.returns-in-Ok-clause-values
returns-in-Ok-clause-values g c cells agree =
    let meaning = g.K.Kernel.means c.args.kernel.now in
    let source = g.D.Data.means c.args.source.now in
    let size : length c.split_at_mut-line.result.0.now ≡ c.args.width = c.split_at_mut-line.ensures.front_len in
    row_done meaning source cells c.args.unit c.args.width c.args.done c.split_at_mut-rest.result.0.now c.apply_each.new.out c.split_at_mut-line.result.1.now
    c.requires.pairs c.split_at_mut-rest.ensures.front_len (c.apply_each.ensures.count ∙ size)
    (c.in-Ok.ensures.values cells (agree_run meaning source c.args.unit 0 (length c.split_at_mut-line.result.0.now) cells
    (subst (λ (n : ℕ). SuitsRun meaning source c.args.unit 0 n) (sym size) c.requires.suits) agree))

pub returns-in-Err-clause-values : goal.returns-in-Err-clause-values
returns-in-Err-clause-values g c cells agree =
    let meaning = g.K.Kernel.means c.args.kernel.now in
    let source = g.D.Data.means c.args.source.now in
    let size : length c.split_at_mut-line.result.0.now ≡ c.args.width = c.split_at_mut-line.ensures.front_len in
    row_trapped meaning source cells c.args.unit c.args.width c.args.done c.split_at_mut-rest.result.0.now c.apply_each.new.out c.split_at_mut-line.result.1.now
    c.requires.pairs c.split_at_mut-rest.ensures.front_len (c.apply_each.ensures.count ∙ size) c.in-Err.trapped
    (c.in-Err.ensures.values cells (agree_run meaning source c.args.unit 0 (length c.split_at_mut-line.result.0.now) cells
    (subst (λ (n : ℕ). SuitsRun meaning source c.args.unit 0 n) (sym size) c.requires.suits) agree))

pub returns-in-Err-clause-inside : goal.returns-in-Err-clause-inside
returns-in-Err-clause-inside g c =
    let meaning = g.K.Kernel.means c.args.kernel.now in
    let source = g.D.Data.means c.args.source.now in
    let size : length c.split_at_mut-line.result.0.now ≡ c.args.width = c.split_at_mut-line.ensures.front_len in
    let values = c.in-Err.ensures.values (cells_held source)
    (agree_run meaning source c.args.unit 0 (length c.split_at_mut-line.result.0.now) (cells_held source)
    (subst (λ (n : ℕ). SuitsRun meaning source c.args.unit 0 n) (sym size) c.requires.suits) (agree_held source)) in
    let less : c.in-Err.trapped.offset < length c.apply_each.new.out = values.0 in
    let long : length c.apply_each.new.out ≡ length c.split_at_mut-line.result.0.now = c.apply_each.ensures.count in
    omega arith

pub returns-in-Ok-clause-range : goal.returns-in-Ok-clause-range
returns-in-Ok-clause-range g c =
    let meaning = g.K.Kernel.means c.args.kernel.now in
    let source = g.D.Data.means c.args.source.now in
    let size : length c.split_at_mut-line.result.0.now ≡ c.args.width = c.split_at_mut-line.ensures.front_len in
    row_range meaning source (cells_held source) c.args.unit c.args.width c.args.done c.split_at_mut-rest.result.0.now c.apply_each.new.out c.split_at_mut-line.result.1.now
    c.requires.pairs c.split_at_mut-rest.ensures.front_len (c.apply_each.ensures.count ∙ size) meaning.ty c.in-Ok.ensures.range
