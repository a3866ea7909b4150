-- The index of a place is among those of the shape.
use Rattle.std.proofs.Common.{◌≡◌, ℕ, ℤ, ◌+◌, ◌*◌, ◌<◌, ◌≤◌, Bool, true, false, List, [], ◌∷◌, pos, negsuc, Option, Some, None, IsSomeAnd, nat_lt, if◌then◌else◌, arith, refl, ap}
use Rattle.std.proofs.lemmas.Nat.{mul-le}
use Rattle.sk_base.specs.Shape.{cells_of, flat_from, flat_of}
use Rattle.sk_copy_states.specs.Stores.{StoreView}

some_nat : (a b : ℕ) → Some a ≡ Some b → a ≡ b
some_nat a b e = cc

assoc : (a b c : ℕ) → a * b * c ≡ a * (b * c)
assoc a b c = omega arith

pub flat_from-below : (before : ℕ) (sizes : List ℕ) (place : List ℤ) (i : ℕ) → flat_from before sizes place ≡ Some i → i < (before + 1) * cells_of sizes
flat_from-below before [] [] i is = omega (arith, some_nat before i is)
flat_from-below before [] (at ∷ place) i is = cc
flat_from-below before (size ∷ sizes) [] i is = cc
flat_from-below before (size ∷ sizes) (negsuc at ∷ place) i is = cc
flat_from-below before (size ∷ sizes) (pos at ∷ place) i is = by (λ (rest : flat_from (before * size + at) sizes place ≡ Some i). flat_from-below (before * size + at) sizes place i rest) (nat_lt at size) refl is
  where
    by : (flat_from (before * size + at) sizes place ≡ Some i → i < (before * size + at + 1) * cells_of sizes) → (test : Bool) → nat_lt at size ≡ test → (if test then flat_from (before * size + at) sizes place else None) ≡ Some i → i < (before + 1) * (size * cells_of sizes)
    by more false t is = cc
    by more true t is =
        let inside : at < size = grind arith in
        let row : before * size + at + 1 ≤ (before + 1) * size = omega (arith, inside) in
        let low : i < (before * size + at + 1) * cells_of sizes = more is in
        let high : (before * size + at + 1) * cells_of sizes ≤ (before + 1) * size * cells_of sizes = mul-le (before * size + at + 1) (cells_of sizes) ((before + 1) * size) (cells_of sizes) row (omega arith) in
        omega (arith, low, high, assoc (before + 1) size (cells_of sizes))

-- the index of a place inside is one of the store's
pub flat-inside : (o : Option StoreView) (shape : List ℕ) (place : List ℤ) (i : ℕ) → IsSomeAnd o (λ store. store.shape ≡ shape) → flat_of shape place ≡ Some i
    → IsSomeAnd o (λ store. i < cells_of store.shape)
flat-inside None shape place i has is = absurd has
flat-inside (Some store) shape place i has is =
    let low : i < (0 + 1) * cells_of shape = flat_from-below 0 shape place i is in
    omega (arith, low, ap cells_of has)
