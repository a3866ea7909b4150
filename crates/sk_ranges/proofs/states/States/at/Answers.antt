use Rattle.std.proofs.Common.{◌∙◌, ℕ, ap, arith}
use Rattle.sk_ranges.specs.declared.state.State.{State}
use Rattle.sk_ranges.proofs.ViewLemmas.{seen_at, seen_length}
use Rattle.sk_ranges.proofs.states.States.at.Goals as goal

pub at-requires-clause-inside : goal.at-requires-clause-inside
at-requires-clause-inside c = rw c.deref.ensures.value (omega (arith, seen_length c.self.inside.pieces.items c.args.self.now.states (ap (λ v. v.states) c.self.view_is)))

pub returns : goal.returns
returns c =
    let seen = seen_at c.self.inside.pieces.items c.args.self.now.states c.self.invariant (ap (λ v. v.states) c.self.view_is) in
    (rw c.deref.ensures.value at c.at.ensures) ∙ ap (λ (f : ℕ → State). f c.args.index) seen
