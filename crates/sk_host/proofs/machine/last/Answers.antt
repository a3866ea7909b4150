use Rattle.std.proofs.Common.{rules, ◌-◌, ◌∷◌, ◌∙◌, sym, ap, pos, ℤ, FitsSigned, w64, slice_index_or}
use Rattle.std.proofs.lemmas.Int.{to_z-of_z}
use Rattle.sk_vm.specs.Points.{values_in}
use Rattle.sk_vm.proofs.Values.{values_in-last}
use Rattle.sk_host.proofs.machine.last.Goals as goal

pub returns : goal.returns
returns c =
    let value = slice_index_or c.args.stack.now (c.args.top - 1) (pos 0) in
    let fits : FitsSigned w64 value = search rules in
    values_in-last c.args.stack.now c.args.top c.requires.some
    ∙ ap (λ (x : ℤ). x ∷ values_in c.args.stack.now (c.args.top - 1)) (sym (to_z-of_z w64 value fits))
