use Rattle.std.proofs.Common.{◌≡◌, ◌∙◌, ◌++◌, ap, sym, subst, List, length, take, drop, ℕ, ℤ, Ok, arith}
use Rattle.std.proofs.Math.Seq.{take-append_seam}
use Rattle.sk_base.specs.Shape.{cells_of}
use Rattle.sk_host.proofs.Mapped.{map_ok, map_traps}
use Rattle.sk_host.proofs.maps.values.Goals as goal
use Rattle.sk_host.specs.Passed.{call_source}
use Rattle.sk_kernel.specs.Kernels.{AgreeRun, given_by}

pub returns-in-Ok-clause-values : goal.returns-in-Ok-clause-values
returns-in-Ok-clause-values g c cells agree =
    let made = c.in_ok-cells.ensures.count in
    let sized = c.in_ok-cells.cells.ok.0 in
    let count = c.cells-count.ensures.value in
    let seen = c.deref_mut.ensures.len in
    let kept = c.apply_each.ensures.count in
    let whole : c.in_ok-cells.cells.len ≡ length c.apply_each.new.out = omega arith in
    let before : length c.deref_mut.result.now ≡ cells_of c.args.call.now.over.now = omega arith in
    let long : length c.apply_each.new.out ≡ cells_of c.args.call.now.over.now = omega arith in
    map_ok (g.K.Kernel.means c.args.kernel.now) (given_by (call_source c.args.call.now.store.now c.args.call.now.operands.now c.args.call.now.kinds.now c.args.call.now.uniforms.now c.args.call.now.over.now) cells) c.apply_each.new.out (cells_of c.args.call.now.over.now) c.requires.single long
    (c.in-Ok.ensures.values cells (subst (λ (n : ℕ). AgreeRun (g.K.Kernel.means c.args.kernel.now) (call_source c.args.call.now.store.now c.args.call.now.operands.now c.args.call.now.kinds.now c.args.call.now.uniforms.now c.args.call.now.over.now) 0 0 n cells) (sym before) agree))
    ∙ ap (λ (xs : List ℤ). Ok xs) (sym (ap (λ (n : ℕ). take n (c.apply_each.new.out ++ drop (length c.apply_each.new.out) c.in_ok-cells.cells.items)) whole
    ∙ take-append_seam c.apply_each.new.out (drop (length c.apply_each.new.out) c.in_ok-cells.cells.items)))

pub returns-in-Err-clause-values : goal.returns-in-Err-clause-values
returns-in-Err-clause-values g c cells agree =
    let made = c.in_ok-cells.ensures.count in
    let sized = c.in_ok-cells.cells.ok.0 in
    let count = c.cells-count.ensures.value in
    let seen = c.deref_mut.ensures.len in
    let kept = c.apply_each.ensures.count in
    let before : length c.deref_mut.result.now ≡ cells_of c.args.call.now.over.now = omega arith in
    let values = c.in-Err.ensures.values cells (subst (λ (n : ℕ). AgreeRun (g.K.Kernel.means c.args.kernel.now) (call_source c.args.call.now.store.now c.args.call.now.operands.now c.args.call.now.kinds.now c.args.call.now.uniforms.now c.args.call.now.over.now) 0 0 n cells) (sym before) agree) in
    let small = values.0 in
    map_traps (g.K.Kernel.means c.args.kernel.now) (given_by (call_source c.args.call.now.store.now c.args.call.now.operands.now c.args.call.now.kinds.now c.args.call.now.uniforms.now c.args.call.now.over.now) cells) c.in-Err.trapped.offset c.in-Err.trapped.trap (cells_of c.args.call.now.over.now) c.requires.single
    (omega arith) values.1 values.2
