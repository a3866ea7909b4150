use Rattle.std.proofs.Common.{◌≡◌, ◌+◌, ◌≤◌, ◌∙◌, ap, arith, ℕ, length}
use Rattle.std.proofs.lemmas.Bool.{eqb-true}
use Rattle.sk_isa.specs.Objects.{signature_at}
use Rattle.sk_tree.specs.Parameters.{leading_scalars}
use Rattle.sk_vm.specs.Frames.{Framed}
use Rattle.sk_vm.specs.Places.{count_of, indices_in}
use Rattle.sk_vm.proofs.Coordinates.{columns_by_count, leading_within}
use Rattle.sk_vm.proofs.Given.{places_only}
use Rattle.sk_vm.proofs.frame.Frame.takes_columns.Goals as goal

pub overflow_add-result : goal.overflow_add-result
overflow_add-result c =
    let room = c.requires in
    let params = (signature_at c.args.object.now c.args.self.now.function).params in
    let few = (places_only c.args.object.now room.entered.sound room.entered.parameters c.args.self.now.function room.entered.there).1 in
    let within = leading_within params in
    let indices : c.count_of.result ≡ indices_in params = c.count_of.ensures ∙ ap count_of (ap (λ (f : Framed). f.index) c.self.view_is ∙ room.index) in
    let leading : c.self.inside.leading ≡ leading_scalars params = ap (λ (f : Framed). f.leading) c.self.view_is ∙ room.leading in
    record { fits = omega arith }

pub returns : goal.returns
returns c test =
    let room = c.requires in
    let params = (signature_at c.args.object.now c.args.self.now.function).params in
    let indices : c.count_of.result ≡ indices_in params = c.count_of.ensures ∙ ap count_of (ap (λ (f : Framed). f.index) c.self.view_is ∙ room.index) in
    let leading : c.self.inside.leading ≡ leading_scalars params = ap (λ (f : Framed). f.leading) c.self.view_is ∙ room.leading in
    let count : c.param_count.result ≡ length params = c.param_count.ensures ∙ ap (λ (f : Framed). length (signature_at c.args.object.now f.function).params) c.self.view_is in
    let same : c.count_of.result + c.self.inside.leading ≡ c.param_count.result = eqb-true (c.count_of.result + c.self.inside.leading) c.param_count.result test in
    columns_by_count params (omega arith)
