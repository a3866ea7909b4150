use Rattle.std.proofs.Common.{rules, refl, sym}
use Rattle.sk_coherence_laws.proofs.FillSums.{traces-idle}
use Rattle.sk_coherence_laws.proofs.ServesLemmas.{idle-none}
use Rattle.sk_coherence_laws.proofs.NamedMoves.{if_err_of}
use Rattle.sk_container.specs.declared.faults.ContainerFault.TheVariants as container
use Rattle.sk_container.specs.Made.{IsMaking, IsNotMade}
use Rattle.sk_container.proofs.MadeLemmas.{undoes-none, not-made}
use Rattle.sk_container.proofs.made.make.Goals as goal

pub returns-in_err-store-clause-err : goal.returns-in_err-store-clause-err
returns-in_err-store-clause-err g c =
    let d = c.args.dir.now in let n = c.open_filled.new.dir in
    if_err_of c.from_residual.result container.Memory (IsNotMade d n c.args.sizes.now c.args.ty) (search rules)
    (not-made d n c.args.ty c.args.sizes.now _ (sym c.in-Some.ensures.value) c.in_err-store.ensures.err c.in_err-store.ensures.traced)

pub returns-in_default-clause-err : goal.returns-in_default-clause-err
returns-in_default-clause-err g c = let d = c.args.dir.now in record {
  cause = search rules;
  early = λ none. refl;
  undoes = undoes-none d c.is_sound.ensures;
  notes = traces-idle (IsMaking d.next c.args.ty c.args.sizes.now) d d (idle-none d);
}
