use Rattle.std.proofs.Common.{ℕ, IfNone, IfSome, ap, subst, arith}
use Rattle.sk_ranges.specs.declared.state.State.{State}
use Rattle.sk_ranges.specs.States.{IsFirstMissing, NoneMissing}
use Rattle.sk_ranges.proofs.ViewLemmas.{seen_at, seen_length}
use Rattle.sk_ranges.proofs.states.States.missing.Goals as goal

pub missing-requires-clause-inside : goal.missing-requires-clause-inside
missing-requires-clause-inside c = rw c.deref.ensures.value (omega (arith, seen_length c.self.inside.pieces.items c.args.self.now.states (ap (λ v. v.states) c.self.view_is)))

pub returns-clause-none : goal.returns-clause-none
returns-clause-none c =
    let seen = seen_at c.self.inside.pieces.items c.args.self.now.states c.self.invariant (ap (λ v. v.states) c.self.view_is) in
    subst (λ (f : ℕ → State). IfNone c.missing.result (NoneMissing f c.args.range.lo c.args.range.hi)) seen (rw c.deref.ensures.value at c.missing.ensures.none)

pub returns-clause-first : goal.returns-clause-first
returns-clause-first c =
    let seen = seen_at c.self.inside.pieces.items c.args.self.now.states c.self.invariant (ap (λ v. v.states) c.self.view_is) in
    subst (λ (f : ℕ → State). IfSome c.missing.result (λ run. IsFirstMissing f c.args.range.lo c.args.range.hi run.lo run.hi)) seen (rw c.deref.ensures.value at c.missing.ensures.first)
