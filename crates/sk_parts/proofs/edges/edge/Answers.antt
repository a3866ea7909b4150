use Rattle.std.proofs.Common.{◌≡◌, ◌∙◌, ap, sym, ℕ, ◌<◌, true, ℤ, pos, negsuc, unsigned_abs, w64, arith}
use Rattle.std.specs.Prelude.{int_lt, int_le, if◌then◌else◌}
use Rattle.std.proofs.Math.Nat.{mod-eq_of_lt}
use Rattle.std.proofs.lemmas.Int.{to_z-of_z}
use Rattle.std.proofs.lemmas.Bool.{ltb-true, lt-ltb, true≢false}
use Rattle.sk_base.specs.declared.choice.EdgeMode.{EdgeMode}
use Rattle.sk_base.specs.declared.choice.EdgeMode.TheVariants as mode
use Rattle.sk_parts.specs.declared.edges.EdgePlace.TheVariants as place
use Rattle.sk_parts.specs.Edge.{edge_of}
use Rattle.sk_parts.proofs.edges.edge.Goals as goal

-- an index inside is itself, whatever the mode
at-inside : (m : EdgeMode) (n i : ℕ) → i < n → place.At i ≡ edge_of m n (pos i)
at-inside mode.Duplicate n i below = ap (λ k. place.At k) (omega arith)
at-inside mode.Cyclic n i below = ap (λ k. place.At k) (sym (mod-eq_of_lt below))
at-inside mode.Pad n i below = ap (λ test. if test then place.At i else place.Pad) (sym (lt-ltb i n below))

inside : (m : EdgeMode) (n : ℕ) (i bound : ℤ) → int_le (pos 0) i ≡ true → int_lt i bound ≡ true → bound ≡ pos n → place.At (unsigned_abs i) ≡ edge_of m n i
inside m n (pos i) bound low high is = at-inside m n i (ltb-true i n (ap (λ (b : ℤ). int_lt (pos i) b) (sym is) ∙ high))
inside m n (negsuc i) bound low high is = absurd (true≢false (sym low))

pub returns-then-i-from-clause-value : goal.returns-then-i-from-clause-value
returns-then-i-from-clause-value c =
    let i_is = to_z-of_z w64 c.args.i c.ranges.i in
    let bound_is = to_z-of_z w64 c.from.result (record { sfits = c.from.type_inv }) ∙ c.from.ensures in
    inside c.args.mode c.args.n _ _ c.if-i-ge0.true c.if-i-from.true bound_is ∙ ap (edge_of c.args.mode c.args.n) i_is
