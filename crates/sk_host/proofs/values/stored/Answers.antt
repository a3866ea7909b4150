use Rattle.std.proofs.Common.{rules, ◌∙◌, ap, ℤ, FitsSigned, w64, slice_set}
use Rattle.std.proofs.lemmas.Int.{to_z-of_z}
use Rattle.sk_vm.proofs.Values.{last-is}
use Rattle.sk_host.proofs.values.stored.Goals as goal

pub returns-clause-slots : goal.returns-clause-slots
returns-clause-slots c =
    let fits : FitsSigned w64 c.last.result = search rules in
    ap (λ (x : ℤ). slice_set c.args.slots.now c.args.slot x)
    (to_z-of_z w64 c.last.result fits ∙ last-is c.args.stack.now c.args.stand.top c.last.result _ c.requires.some c.last.ensures)
