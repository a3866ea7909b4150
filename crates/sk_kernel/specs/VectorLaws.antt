-- A vector as an operand holds nothing outside of itself.
use Rattle.std.proofs.Common.{◌≡◌, ℕ, Bool, true, false, ◌&&◌, ◌==◌, cond, ◌<◌, List, [], ◌∷◌, ℤ, None, IsSome, IsSomeAnd, slice_get, refl, sym, subst}
use Rattle.std.specs.Prelude.{nat_lt}
use Rattle.std.proofs.lemmas.Bool.{ltb-true, eqb-true}
use Rattle.sk_base.specs.Shape.{cells_of}
use Rattle.sk_kernel.specs.Kernels.{HoldsInside}
use Rattle.sk_kernel.specs.Vectors.{vector_source}

nothing : (false ≡ true) → ⊥
nothing is = subst (λ (b : Bool). cond b ⊥ (Unit {0})) is tt

held-inside : (cells : List ℤ) (sizes : List ℕ) (operand index : ℕ) (first within : Bool) → (operand == 0) ≡ first → nat_lt index (cells_of sizes) ≡ within
    → IsSome (cond (first && within) (slice_get cells index) None) → IsSomeAnd (slice_get (sizes ∷ []) operand) (λ one. index < cells_of one)
held-inside cells sizes operand index true true is below held =
    subst (λ (o : ℕ). IsSomeAnd (slice_get (sizes ∷ []) o) (λ one. index < cells_of one)) (sym (eqb-true operand 0 is)) (ltb-true index (cells_of sizes) below)
held-inside cells sizes operand index true false is below held = absurd (nothing held)
held-inside cells sizes operand index false within is below held = absurd (nothing held)

pub vector-holds-inside : (cells : List ℤ) (sizes : List ℕ) (uniforms : List ℤ) → HoldsInside (vector_source cells sizes uniforms)
vector-holds-inside cells sizes uniforms operand index held =
    held-inside cells sizes operand index (operand == 0) (nat_lt index (cells_of sizes)) refl refl held
