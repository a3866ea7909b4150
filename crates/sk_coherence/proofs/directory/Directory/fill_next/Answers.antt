use Rattle.std.proofs.Common.{◌≡◌, ℕ, arith, sym, subst}
use Rattle.sk_ranges.specs.declared.state.State.TheVariants.{Stale}
use Rattle.sk_copy_states.specs.Copies.{state_in}
use Rattle.sk_copy_states.specs.Sources.{MayRead}
use Rattle.sk_coherence_laws.specs.Directory.{copy_at}
use Rattle.sk_coherence_laws.specs.Moves.{CanMove, IsSourceAt}
use Rattle.sk_coherence_laws.specs.Steps.{IsFill, AreFilled}
use Rattle.sk_coherence_laws.proofs.FillSums.{read-more, traces-idle}
use Rattle.sk_coherence_laws.proofs.ServesLemmas.{idle-none}
use Rattle.sk_coherence_laws.proofs.TracesLemmas.{filled-wider}
use Rattle.sk_coherence.proofs.directory.Directory.fill_next.Goals as goal

pub fill_from-requires-clause-can : goal.fill_from-requires-clause-can
fill_from-requires-clause-can g c =
    let a = c.args.self.now in
    let t = c.in-Some-source.transfer in
    let e = c.in-Some-source.ensures in
    subst (λ (x : ℕ). CanMove a t.from.id x t.range.lo t.range.hi) (sym e.to)
    (subst (λ (x : ℕ). CanMove a t.from.id c.args.copy.id x t.range.hi) (sym e.begins) e.can)

pub fill_from-requires-clause-missing : goal.fill_from-requires-clause-missing
fill_from-requires-clause-missing g c =
    let a = c.args.self.now in
    let e = c.in-Some-source.ensures in
    λ k above below. subst (λ (x : ℕ). state_in (copy_at a x) k ≡ Stale) (sym e.to)
    (c.in-Some.ensures.stale k (omega (arith, above, e.begins)) (omega (arith, below, e.within.1)))

pub fill_from-requires-clause-source : goal.fill_from-requires-clause-source
fill_from-requires-clause-source g c =
    let a = c.args.self.now in
    let t = c.in-Some-source.transfer in
    let e = c.in-Some-source.ensures in
    subst (λ (x : ℕ). IsSourceAt a t.from.id x t.range.lo t.range.hi) (sym e.to)
    (subst (λ (x : ℕ). IsSourceAt a t.from.id c.args.copy.id x t.range.hi) (sym e.begins) e.source)

pub returns-clause-part : goal.returns-clause-part
returns-clause-part g c =
    let a = c.args.self.now in
    let n = c.fill_from.new.self in
    let t = c.in-Some-source.transfer in
    let e = c.in-Some-source.ensures in
    let run = c.in-Some.run' in
    let filled : MayRead (copy_at n c.args.copy.id) run.lo t.range.hi
    = subst (λ (x : ℕ). MayRead (copy_at n x) run.lo t.range.hi) e.to (subst (λ (x : ℕ). MayRead (copy_at n t.to.id) x t.range.hi) e.begins c.in_ok-fill_from.ensures.ok) in (
      omega (arith, c.in-Some.ensures.within.0, e.within.0),
      omega (arith, c.in-Some.ensures.within.1, e.within.1),
      read-more a n c.args.copy.id c.args.need.lo run.lo t.range.hi (c.fill_from.ensures.grows c.args.copy.id) c.in-Some.ensures.earlier filled,
    )

pub fill_from-requires-clause-some : goal.fill_from-requires-clause-some
fill_from-requires-clause-some g c = let e = c.in-Some-source.ensures in omega (arith, e.begins, e.within.0)

pub returns-in_err-fill_from-clause-traced : goal.returns-in_err-fill_from-clause-traced
returns-in_err-fill_from-clause-traced g c =
    let a = c.args.self.now in
    let n = c.fill_from.new.self in
    let t = c.in-Some-source.transfer in
    let e = c.in-Some-source.ensures in
    filled-wider a n c.args.copy.id t.range.lo t.range.hi c.args.need.lo c.args.need.hi (omega (arith, c.in-Some.ensures.within.0, e.begins)) (omega (arith, c.in-Some.ensures.within.1, e.within.1))
    (subst (λ (x : ℕ). AreFilled a n x t.range.lo t.range.hi) e.to c.fill_from.ensures.traced)

pub returns-clause-traced : goal.returns-clause-traced
returns-clause-traced g c =
    let a = c.args.self.now in
    let n = c.fill_from.new.self in
    let t = c.in-Some-source.transfer in
    let e = c.in-Some-source.ensures in
    filled-wider a n c.args.copy.id t.range.lo t.range.hi c.args.need.lo c.args.need.hi (omega (arith, c.in-Some.ensures.within.0, e.begins)) (omega (arith, c.in-Some.ensures.within.1, e.within.1))
    (subst (λ (x : ℕ). AreFilled a n x t.range.lo t.range.hi) e.to c.fill_from.ensures.traced)

pub returns-in_default-clause-traced : goal.returns-in_default-clause-traced
returns-in_default-clause-traced g c = λ home lies. traces-idle (IsFill home c.args.need.lo c.args.need.hi) c.args.self.now c.args.self.now (idle-none c.args.self.now)

pub returns-in_default-source-clause-traced : goal.returns-in_default-source-clause-traced
returns-in_default-source-clause-traced g c = λ home lies. traces-idle (IsFill home c.args.need.lo c.args.need.hi) c.args.self.now c.args.self.now (idle-none c.args.self.now)
