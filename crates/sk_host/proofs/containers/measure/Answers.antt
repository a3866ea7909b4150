use Rattle.std.proofs.Common.{rules, ◌≡◌, ◌+◌, ◌∷◌, ◌∙◌, ap, suc, ℕ, ℤ, List, pos, FitsSigned, w64, arith}
use Rattle.std.proofs.lemmas.Int.{to_z-of_z}
use Rattle.std.specs.Prelude.{codes}
use Rattle.sk_base.specs.Shape.{cells_of}
use Rattle.sk_host.proofs.Kept.{size-goes}
use Rattle.sk_host.proofs.containers.measure.Goals as goal
use Rattle.sk_host.specs.declared.machine.Stand.{Stand}
use Rattle.sk_meaning.specs.Evaluation.{named}
use Rattle.sk_vm.specs.Points.{values_in}
use Rattle.sk_world.specs.World.{size_methods}

pub returns : goal.returns
returns c object slots world mirrors =
    let above : c.args.stand.top + 1 ≡ suc c.args.stand.top = omega arith in
    let fits : FitsSigned w64 c.from.result = search rules in
    let same : c.from.result ≡ pos c.size-value.result = search rules in
    size-goes object c.args.stand c.args.stack.now slots c.args.store.now world mirrors c.args.container c.args.method.now c.past.result c.put.new.stack c.held.result.now c.size-value.result
    c.held.ensures
    (c.size-value.ensures ∙ ap (λ (sizes : List ℕ). named (codes "size" ∷ size_methods sizes) (cells_of sizes ∷ sizes) c.args.method.now) c.shape.ensures)
    (ap (λ (s : Stand). s.at) c.past.ensures)
    (ap (λ (s : Stand). values_in c.put.new.stack s.top) c.past.ensures ∙ ap (values_in c.put.new.stack) above
    ∙ c.put.ensures.values ∙ ap (λ (x : ℤ). x ∷ values_in c.args.stack.now c.args.stand.top) (to_z-of_z w64 c.from.result fits ∙ same))
