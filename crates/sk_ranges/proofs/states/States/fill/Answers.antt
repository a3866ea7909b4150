use Rattle.std.proofs.Common.{ℕ, refl, ap, subst, arith}
use Rattle.sk_ranges.specs.declared.state.State.{State}
use Rattle.sk_ranges.specs.Pieces.{state_of, states_of}
use Rattle.sk_ranges.specs.States.{FillsIn, state_at}
use Rattle.sk_ranges.proofs.ViewLemmas.{seen_at, seen_length}
use Rattle.sk_ranges.proofs.states.States.fill.Goals as goal

pub fill-requires-clause-inside : goal.fill-requires-clause-inside
fill-requires-clause-inside c = omega (arith, seen_length c.self.inside.pieces.items c.args.self.now.states (ap (λ v. v.states) c.self.view_is))

pub returns-then-not-is_empty-clause-fills : goal.returns-then-not-is_empty-clause-fills
returns-then-not-is_empty-clause-fills c =
    let was = c.self.inside.pieces.items in
    let is = c.fill.new.pieces.items in
    let seen = seen_at was c.args.self.now.states c.self.invariant (ap (λ v. v.states) c.self.view_is) in
    let then = seen_at is (states_of is) c.fill.ensures.tidy refl in
    subst (λ (f : ℕ → State). FillsIn f (state_at (states_of is)) c.args.range.lo c.args.range.hi) seen
    (subst (λ (f : ℕ → State). FillsIn (state_of was) f c.args.range.lo c.args.range.hi) then c.fill.ensures.fills)
