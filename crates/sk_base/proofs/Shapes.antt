-- Steps of the loops over sizes and places.
use Rattle.std.specs.Prelude.{◌≡◌, ℕ, zero, suc, ◌+◌, ◌*◌, ◌%◌, ◌^◌, ◌<◌, ◌≤◌, min, Bool, true, false, List, [], ◌∷◌, length, map, take, drop, get_or, All, ℤ, pos, negsuc, ◌≤ℤ◌, unsigned_abs, int_lt, int_le, Option, Some, None, nat_lt, if◌then◌else◌}
use Rattle.std.proofs.Common.{arith, refl, sym, ◌∙◌, ap, subst, inl, inr}
use Rattle.std.proofs.lemmas.Bool.{cases_lt, lt-ltb, le-ltb, leb-false, leb-true, ltb-true, true≢false}
use Rattle.std.proofs.lemmas.List.{take_more, drop_more, length-map}
use Rattle.std.proofs.lemmas.List.Elements.{All-nil, All-cons, All-head, All-tail, All-map, All-weaker}
use Rattle.std.proofs.lemmas.Int.{ints}
use Rattle.std.proofs.lemmas.Nat.{mul-le, mul-mod_first}
use Rattle.std.proofs.Math.Nat.{mul-le-mul_left}
use Rattle.std.proofs.Math.ListN.{drop_of_length-le}
use Rattle.std.proofs.Math.Seq.{take-length, drop-length}
use Rattle.sk_base.specs.Shape.{cells_of, IsShape, AreSizes, shape_of, flat_from, flat_of}
use Rattle.sk_base.specs.ShapeLaws.{cells_of-append, shape_of-pos, shape_of-some}

pub cells_of-more : (sizes : List ℕ) (i : ℕ) → i < length sizes → cells_of (take (i + 1) sizes) ≡ cells_of (take i sizes) * get_or sizes i 0
cells_of-more sizes i within = ap cells_of (take_more sizes i 0 within) ∙ cells_of-append (take i sizes) (get_or sizes i 0 ∷ []) ∙ omega arith

-- a product may be cut to a bound on the way
pub min-step : (product size bound : ℕ) → min (min product bound * size) bound ≡ min (product * size) bound
min-step product size bound = elim (cases_lt product bound) [ inl below ↦ ap (λ n. min (n * size) bound) (omega arith) | inr above ↦ cut size above ]
  where
    cut : (size : ℕ) → bound ≤ product → min (min product bound * size) bound ≡ min (product * size) bound
    cut zero above = omega arith
    cut (suc k) above = let low : min product bound ≡ bound = omega arith in ap (λ n. min (n * suc k) bound) low ∙ omega (arith, mul-le-mul_left bound above)

pub flat_from-lengths : (before : ℕ) (sizes : List ℕ) (place : List ℤ) → (length place ≡ length sizes → ⊥) → None ≡ flat_from before sizes place
flat_from-lengths before [] [] differ = absurd (differ refl)
flat_from-lengths before [] (at ∷ place) differ = refl
flat_from-lengths before (size ∷ sizes) [] differ = refl
flat_from-lengths before (size ∷ sizes) (pos at ∷ place) differ = by (nat_lt at size) (flat_from-lengths (before * size + at) sizes place (λ e. differ (ap suc e)))
  where
    by : (test : Bool) → None ≡ flat_from (before * size + at) sizes place → None ≡ (if test then flat_from (before * size + at) sizes place else None)
    by true e = e
    by false e = refl
flat_from-lengths before (size ∷ sizes) (negsuc at ∷ place) differ = refl

-- the first i coordinates are read: `index` is the row-major index among the first i sizes, but for multiples of 2^32
pub record IsWalked (index i : ℕ) (sizes : List ℕ) (place : List ℤ) : Type 0 where
  pub exact : ℕ
  pub wraps : index ≡ exact % 2 ^ 32
  pub below : exact < cells_of (take i sizes)
  pub same : flat_from exact (drop i sizes) (drop i place) ≡ flat_of sizes place

pub walked-none : (sizes : List ℕ) (place : List ℤ) → IsWalked 0 0 sizes place
walked-none sizes place = record { exact = 0; wraps = omega arith; below = omega arith; same = refl }

-- one coordinate further in the definition
flat_from-more : (exact i : ℕ) (sizes : List ℕ) (place : List ℤ) → i < length sizes → i < length place → flat_from exact (drop i sizes) (drop i place) ≡ flat_from exact (get_or sizes i 0 ∷ drop (i + 1) sizes) (get_or place i (pos 0) ∷ drop (i + 1) place)
flat_from-more exact i sizes place within within_place =
    ap (λ rest. flat_from exact rest (drop i place)) (drop_more sizes i 0 within)
    ∙ ap (flat_from exact (get_or sizes i 0 ∷ drop (i + 1) sizes)) (drop_more place i (pos 0) within_place)

pub walked-more : (index i : ℕ) (sizes : List ℕ) (place : List ℤ) (at : ℕ) → IsWalked index i sizes place → i < length sizes → i < length place → get_or place i (pos 0) ≡ pos at → at < get_or sizes i 0 → IsWalked ((index * get_or sizes i 0 % 2 ^ 32 + at) % 2 ^ 32) (i + 1) sizes place
walked-more index i sizes place at walked within within_place is in_range =
    let size = get_or sizes i 0 in
    let exact = walked.exact in
    let rest = flat_from (exact * size + at) (drop (i + 1) sizes) (drop (i + 1) place) in
    let product : index * size % 2 ^ 32 ≡ exact * size % 2 ^ 32 = ap (λ n. n * size % 2 ^ 32) walked.wraps ∙ mul-mod_first exact size (2 ^ 32) in
    let room : exact * size + size ≤ cells_of (take i sizes) * size = omega (arith, mul-le (suc exact) size (cells_of (take i sizes)) size walked.below (omega arith)) in
    record {
      exact = exact * size + at;
      wraps = ap (λ n. (n + at) % 2 ^ 32) product ∙ omega arith;
      below = omega (arith, cells_of-more sizes i within);
      same =
          ap (λ test. if test then rest else None) (sym (lt-ltb at size in_range))
          ∙ sym (ap (λ z. flat_from exact (size ∷ drop (i + 1) sizes) (z ∷ drop (i + 1) place)) is)
          ∙ sym (flat_from-more exact i sizes place within within_place)
          ∙ walked.same;
    }

pub walked-negative : (index i : ℕ) (sizes : List ℕ) (place : List ℤ) (n : ℕ) → IsWalked index i sizes place → i < length sizes → i < length place → get_or place i (pos 0) ≡ negsuc n → None ≡ flat_of sizes place
walked-negative index i sizes place n walked within within_place is =
    sym (ap (λ z. flat_from walked.exact (get_or sizes i 0 ∷ drop (i + 1) sizes) (z ∷ drop (i + 1) place)) is)
    ∙ sym (flat_from-more walked.exact i sizes place within within_place)
    ∙ walked.same

pub walked-above : (index i : ℕ) (sizes : List ℕ) (place : List ℤ) (at : ℕ) → IsWalked index i sizes place → i < length sizes → i < length place → get_or place i (pos 0) ≡ pos at → get_or sizes i 0 ≤ at → None ≡ flat_of sizes place
walked-above index i sizes place at walked within within_place is above =
    let rest = flat_from (walked.exact * get_or sizes i 0 + at) (drop (i + 1) sizes) (drop (i + 1) place) in
    ap (λ test. if test then rest else None) (sym (le-ltb at (get_or sizes i 0) above))
    ∙ sym (ap (λ z. flat_from walked.exact (get_or sizes i 0 ∷ drop (i + 1) sizes) (z ∷ drop (i + 1) place)) is)
    ∙ sym (flat_from-more walked.exact i sizes place within within_place)
    ∙ walked.same

pub walked-all : (index : ℕ) (sizes : List ℕ) (place : List ℤ) → IsWalked index (length sizes) sizes place → length place ≡ length sizes → IsShape sizes → Some index ≡ flat_of sizes place
walked-all index sizes place walked counts shape =
    let whole : cells_of (take (length sizes) sizes) ≡ cells_of sizes = ap cells_of (take-length sizes) in
    let small : walked.exact < 2 ^ 32 = omega (arith, shape.product, walked.below) in
    let index_is : index ≡ walked.exact = walked.wraps ∙ omega arith in
    ap Some index_is
    ∙ sym (ap (λ rest. flat_from walked.exact rest (drop (length sizes) place)) (drop-length sizes)
    ∙ ap (flat_from walked.exact []) (drop_of_length-le place (omega arith)))
    ∙ walked.same

-- the same steps, as the tests of a coordinate leave them
pub walked-next : (index i : ℕ) (sizes : List ℕ) (place : List ℤ) (at bound : ℤ) → IsWalked index i sizes place → i < length sizes → i < length place → get_or place i (pos 0) ≡ at → bound ≡ pos (get_or sizes i 0) → int_lt at (pos 0) ≡ false → int_le bound at ≡ false → IsWalked ((index * get_or sizes i 0 % 2 ^ 32 + unsigned_abs at) % 2 ^ 32) (i + 1) sizes place
walked-next index i sizes place (pos at) bound walked within within_place is bound_is low high =
    walked-more index i sizes place at walked within within_place is (leb-false (get_or sizes i 0) at (ap (λ (b : ℤ). int_le b (pos at)) (sym bound_is) ∙ high))
walked-next index i sizes place (negsuc at) bound walked within within_place is bound_is low high = absurd (true≢false low)

pub walked-low : (index i : ℕ) (sizes : List ℕ) (place : List ℤ) (at : ℤ) → IsWalked index i sizes place → i < length sizes → i < length place → get_or place i (pos 0) ≡ at → int_lt at (pos 0) ≡ true → None ≡ flat_of sizes place
walked-low index i sizes place (pos at) walked within within_place is low = absurd (omega (arith, ltb-true at 0 low))
walked-low index i sizes place (negsuc at) walked within within_place is low =
    walked-negative index i sizes place at walked within within_place is

pub walked-high : (index i : ℕ) (sizes : List ℕ) (place : List ℤ) (at bound : ℤ) → IsWalked index i sizes place → i < length sizes → i < length place → get_or place i (pos 0) ≡ at → bound ≡ pos (get_or sizes i 0) → int_le bound at ≡ true → None ≡ flat_of sizes place
walked-high index i sizes place (pos at) bound walked within within_place is bound_is high =
    walked-above index i sizes place at walked within within_place is (leb-true (get_or sizes i 0) at (ap (λ (b : ℤ). int_le b (pos at)) (sym bound_is) ∙ high))
walked-high index i sizes place (negsuc at) bound walked within within_place is bound_is high =
    walked-negative index i sizes place at walked within within_place is

abbrev IsSize : ℤ → Type 0
IsSize size = (pos 0 ≤ℤ size) × (size ≤ℤ pos (2 ^ 24))

pub map-pos-unsigned_abs : (zs : List ℤ) → All IsSize zs → map pos (map unsigned_abs zs) ≡ zs
map-pos-unsigned_abs [] each = refl
map-pos-unsigned_abs (pos n ∷ zs) each = ap (λ rest. pos n ∷ rest) (map-pos-unsigned_abs zs (All-tail IsSize (pos n) zs each))
map-pos-unsigned_abs (negsuc n ∷ zs) each = absurd (omega (arith, ints, (All-head IsSize (negsuc n) zs each).0))

sizes_bounded : (zs : List ℤ) → All IsSize zs → All (λ size. size ≤ 2 ^ 24) (map unsigned_abs zs)
sizes_bounded [] each = All-nil (λ size. size ≤ 2 ^ 24)
sizes_bounded (z ∷ zs) each = All-cons (λ size. size ≤ 2 ^ 24) (unsigned_abs z) (map unsigned_abs zs) (bounded z (All-head IsSize z zs each)) (sizes_bounded zs (All-tail IsSize z zs each))
  where
    bounded : (z : ℤ) → IsSize z → unsigned_abs z ≤ 2 ^ 24
    bounded (pos n) h = omega (arith, ints, h.1)
    bounded (negsuc n) h = absurd (omega (arith, ints, h.0))

pub IsShape-unsigned_abs : (zs : List ℤ) → AreSizes zs → cells_of (map unsigned_abs zs) ≤ 2 ^ 24 → IsShape (map unsigned_abs zs)
IsShape-unsigned_abs zs are product =
    let counts = length-map zs unsigned_abs in
    record { some = omega (arith, counts); few = omega (arith, counts); each = sizes_bounded zs are.each; product = product }

pub shape_found : (zs : List ℤ) → AreSizes zs → cells_of (map unsigned_abs zs) ≤ 2 ^ 24 → Some (map unsigned_abs zs) ≡ shape_of zs
shape_found zs are product =
    sym (shape_of-pos (map unsigned_abs zs) (IsShape-unsigned_abs zs are product)) ∙ ap shape_of (map-pos-unsigned_abs zs are.each)

-- no shape is found, where no shape has these sizes
no_shape : (zs : List ℤ) → ((sizes : List ℕ) → IsShape sizes → map pos sizes ≡ zs → ⊥) → None ≡ shape_of zs
no_shape zs none = by (shape_of zs) refl
  where
    by : (o : Option (List ℕ)) → shape_of zs ≡ o → None ≡ shape_of zs
    by None e = sym e
    by (Some sizes) e = let found = shape_of-some zs sizes e in absurd (none sizes found.0 found.1)

pub no_shape-sizes : (zs : List ℤ) → (AreSizes zs → ⊥) → None ≡ shape_of zs
no_shape-sizes zs wrong =
    no_shape zs (λ sizes shape same.
    let counts = length-map sizes pos in
    let are : AreSizes (map pos sizes) =
    record {
      some = omega (arith, counts, shape.some);
      few = omega (arith, counts, shape.few);
      each = All-map IsSize pos sizes (All-weaker (λ size. size ≤ 2 ^ 24) (λ size. IsSize (pos size)) (λ size h. (omega (arith, ints), omega (arith, ints))) sizes shape.each);
    } in
    wrong (subst AreSizes same are))

pub no_shape-product : (zs : List ℤ) → 2 ^ 24 < cells_of (map unsigned_abs zs) → None ≡ shape_of zs
no_shape-product zs large =
    no_shape zs (λ sizes shape same.
    let back : map unsigned_abs zs ≡ sizes = ap (map unsigned_abs) (sym same) ∙ unsigned_abs-pos sizes in
    omega (arith, shape.product, ap cells_of back))
  where
    unsigned_abs-pos : (sizes : List ℕ) → map unsigned_abs (map pos sizes) ≡ sizes
    unsigned_abs-pos [] = refl
    unsigned_abs-pos (size ∷ sizes) = ap (λ rest. size ∷ rest) (unsigned_abs-pos sizes)
