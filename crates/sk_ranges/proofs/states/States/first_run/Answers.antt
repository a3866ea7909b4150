use Rattle.std.proofs.Common.{ℕ, ap, subst, arith}
use Rattle.sk_ranges.specs.declared.state.State.{State}
use Rattle.sk_ranges.specs.States.{IsRun}
use Rattle.sk_ranges.proofs.ViewLemmas.{seen_at, seen_length}
use Rattle.sk_ranges.proofs.states.States.first_run.Goals as goal

pub first_run-requires-clause-inside : goal.first_run-requires-clause-inside
first_run-requires-clause-inside c = rw c.deref.ensures.value (omega (arith, seen_length c.self.inside.pieces.items c.args.self.now.states (ap (λ v. v.states) c.self.view_is)))

pub returns-clause-run : goal.returns-clause-run
returns-clause-run c =
    let seen = seen_at c.self.inside.pieces.items c.args.self.now.states c.self.invariant (ap (λ v. v.states) c.self.view_is) in
    subst (λ (f : ℕ → State). IsRun f c.first_run.result.state c.args.range.lo c.first_run.result.range.hi c.args.range.hi) seen (rw c.deref.ensures.value at c.first_run.ensures.run)
