-- Places inside shapes.
use Rattle.std.proofs.Common.{◌≡◌, ℕ, suc, ◌+◌, ◌*◌, ◌<◌, ◌≤◌, Bool, true, false, if◌then◌else◌, nat_lt, List, [], ◌∷◌, ℤ, pos, negsuc, Some, None, arith, ap, refl}
use Rattle.std.proofs.lemmas.Bool.{ltb-true}
use Rattle.std.proofs.Math.Nat.{mul-le-mul_left}
use Rattle.std.specs.Prelude.{option_map, slice_index_or}
use Rattle.sk_base.specs.Shape.{cells_of, flat_from, flat_of}
use Rattle.sk_host.specs.Stores.{Kept, element_of}

-- a place's index is among so many that the rest of the sizes has behind what is read
flat_under : (before : ℕ) (sizes : List ℕ) (place : List ℤ) (index : ℕ) → flat_from before sizes place ≡ Some index → suc index ≤ suc before * cells_of sizes
flat_under before [] [] index e = let same : before ≡ index = cc in omega arith
flat_under before [] (at ∷ place) index e = cc
flat_under before (size ∷ sizes) [] index e = cc
flat_under before (size ∷ sizes) (negsuc at ∷ place) index e = cc
flat_under before (size ∷ sizes) (pos at ∷ place) index e =
    pick (nat_lt at size) refl (λ is. flat_under (before * size + at) sizes place index is) e
  where
    wider : (b s a c : ℕ) → a < s → suc index ≤ suc (b * s + a) * c → suc index ≤ suc b * (s * c)
    wider b s a c less under =
        let up : suc (b * s + a) ≤ suc b * s = omega arith in
        let more : c * suc (b * s + a) ≤ c * (suc b * s) = mul-le-mul_left c up in
        let one : c * suc (b * s + a) ≡ suc (b * s + a) * c = omega arith in
        let other : c * (suc b * s) ≡ suc b * (s * c) = omega arith in
        omega arith

    pick : (test : Bool) → nat_lt at size ≡ test
        → (flat_from (before * size + at) sizes place ≡ Some index → suc index ≤ suc (before * size + at) * cells_of sizes)
        → (if test then flat_from (before * size + at) sizes place else None) ≡ Some index → suc index ≤ suc before * (size * cells_of sizes)
    pick true test later e = wider before size at (cells_of sizes) (ltb-true at size test) (later e)
    pick false test later e = cc

-- the index of a place lies inside the shape
pub flat_inside : (sizes : List ℕ) (place : List ℤ) (index : ℕ) → flat_of sizes place ≡ Some index → index < cells_of sizes
flat_inside sizes place index e = let under = flat_under 0 sizes place index e in omega arith

-- the element at a place inside
pub element-is : (kept : Kept) (place : List ℤ) (index : ℕ) → flat_of kept.sizes place ≡ Some index
    → element_of kept place ≡ Some (slice_index_or kept.cells index (pos 0))
element-is kept place index e = ap (option_map (λ index. slice_index_or kept.cells index (pos 0))) e
