use Rattle.std.proofs.Common.{ap, refl, subst, sym, List, ℕ, slice_index_or}
use Rattle.sk_vm.specs.Instantiated.{Instantiated, IsAtFirst, Serves}
use Rattle.sk_vm.proofs.Lawful.{at_first}
use Rattle.sk_vm.proofs.instance.Instance.turn_to_first.Goals as goal

pub returns-clause-first : goal.returns-clause-first
returns-clause-first c =
    let made : Instantiated = record { object = c.self.inside.object.now; plan = c.self.inside.plan.now; lawful = c.self.inside.lawful } in
    subst (λ (i : Instantiated). IsAtFirst i c.elements.new.self) c.self.view_is
    (at_first made c.args.frame.now c.turn_to.new.self c.elements.new.self c.self.inside.object.now (slice_index_or c.as_slice.result.now 0 0) c.self.inside.plan.now.elements
    c.goes_over_pairs.result refl (ap (λ (functions : List ℕ). slice_index_or functions 0 0) c.as_slice.ensures) refl c.goes_over_pairs.ensures c.turn_to.ensures c.elements.ensures
    c.self.invariant.sound c.self.invariant.parameters c.self.invariant.fits
    (subst (λ (i : Instantiated). Serves i c.args.frame.now) (sym c.self.view_is) c.requires))
