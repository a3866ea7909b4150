use Rattle.std.proofs.Common.{◌∷◌, [], ℤ, sym, ap, subst, w64, to_z, of_z}
use Rattle.std.proofs.lemmas.Int.{to_z-of_z}
use Rattle.sk_isa.specs.Objects.{signature_at}
use Rattle.sk_isa.specs.SoundObjects.{IsSoundPlan}
use Rattle.sk_isa.specs.Soundness.{SuitParams}
use Rattle.sk_isa.specs.declared.object.Object.{Object}
use Rattle.sk_meaning.specs.Evaluation.{Value}
use Rattle.sk_vm.specs.Instantiated.{Instantiated}
use Rattle.sk_vm.proofs.Lawful.{operator_suits}
use Rattle.sk_vm.proofs.instance.Instance.combine.Goals as goal

pub run_with-requires-clause-suits : goal.run_with-requires-clause-suits
run_with-requires-clause-suits c =
    let frame = c.turn_to_operator.new.frame in
    let suit = operator_suits c.args.self.now frame (subst (λ (i : Instantiated). IsSoundPlan i.object i.plan) c.self.view_is c.self.invariant.fits)
    c.turn_to_operator.ensures.operator c.args.a c.args.b c.requires.joined in
    subst (λ (o : Object). SuitParams (signature_at o frame.function).params (Value (to_z w64 (of_z w64 c.args.a)) ∷ Value (to_z w64 (of_z w64 c.args.b)) ∷ []))
    (sym (ap (λ (i : Instantiated). i.object) c.self.view_is))
    (subst (λ (x : ℤ). SuitParams (signature_at c.args.self.now.object frame.function).params (Value x ∷ Value (to_z w64 (of_z w64 c.args.b)) ∷ [])) (sym (to_z-of_z w64 c.args.a c.ranges.a))
    (subst (λ (x : ℤ). SuitParams (signature_at c.args.self.now.object frame.function).params (Value c.args.a ∷ Value x ∷ [])) (sym (to_z-of_z w64 c.args.b c.ranges.b)) suit))
