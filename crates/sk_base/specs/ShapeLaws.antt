-- What follows from the definitions of shapes.
use Rattle.std.specs.Prelude.{◌≡◌, ℕ, ◌*◌, ◌^◌, ◌≤◌, Bool, true, false, List, [], ◌∷◌, ◌++◌, length, map, All, ℤ, pos, negsuc, Option, Some, None, nat_le, option_map, option_and_then, if◌then◌else◌}
use Rattle.std.specs.List.{list_all}
use Rattle.std.proofs.Common.{arith, refl, sym, ◌∙◌, ap, subst}
use Rattle.std.proofs.lemmas.Bool.{and_parts, and_from, leb-true, le-leb, cond-true}
use Rattle.std.proofs.lemmas.List.Elements.{All-nil, All-cons, All-head, All-tail}
use Rattle.sk_base.specs.Shape.{cells_of, IsShape, is_shape, sizes_of, shape_of}

pub cells_of-append : (xs ys : List ℕ) → cells_of (xs ++ ys) ≡ cells_of xs * cells_of ys
cells_of-append [] ys = omega arith
cells_of-append (x ∷ xs) ys = ap (λ n. x * n) (cells_of-append xs ys) ∙ omega arith

-- the test finds what the definition says
each-from_test : (sizes : List ℕ) → list_all (λ size. nat_le size (2 ^ 24)) sizes ≡ true → All (λ size. size ≤ 2 ^ 24) sizes
each-from_test [] passes = All-nil (λ size. size ≤ 2 ^ 24)
each-from_test (size ∷ sizes) passes =
    let parts = and_parts (nat_le size (2 ^ 24)) _ passes in
    All-cons (λ size. size ≤ 2 ^ 24) size sizes (leb-true size (2 ^ 24) parts.0) (each-from_test sizes parts.1)

test-from_each : (sizes : List ℕ) → All (λ size. size ≤ 2 ^ 24) sizes → list_all (λ size. nat_le size (2 ^ 24)) sizes ≡ true
test-from_each [] each = refl
test-from_each (size ∷ sizes) each =
    and_from (nat_le size (2 ^ 24)) _ (le-leb size (2 ^ 24) (All-head (λ size. size ≤ 2 ^ 24) size sizes each)) (test-from_each sizes (All-tail (λ size. size ≤ 2 ^ 24) size sizes each))

pub IsShape-from_test : (sizes : List ℕ) → is_shape sizes ≡ true → IsShape sizes
IsShape-from_test sizes passes =
    let all = and_parts _ (nat_le (cells_of sizes) (2 ^ 24)) passes in
    let counts = and_parts _ (list_all (λ size. nat_le size (2 ^ 24)) sizes) all.0 in
    let ends = and_parts (nat_le 1 (length sizes)) (nat_le (length sizes) 4) counts.0 in
    record {
      some = leb-true 1 (length sizes) ends.0;
      few = leb-true (length sizes) 4 ends.1;
      each = each-from_test sizes counts.1;
      product = leb-true (cells_of sizes) (2 ^ 24) all.1;
    }

pub is_shape-true : (sizes : List ℕ) → IsShape sizes → is_shape sizes ≡ true
is_shape-true sizes is =
    and_from _ (nat_le (cells_of sizes) (2 ^ 24))
    (and_from _ (list_all (λ size. nat_le size (2 ^ 24)) sizes)
    (and_from (nat_le 1 (length sizes)) (nat_le (length sizes) 4) (le-leb 1 (length sizes) is.some) (le-leb (length sizes) 4 is.few))
    (test-from_each sizes is.each))
    (le-leb (cells_of sizes) (2 ^ 24) is.product)

sizes_of-pos : (sizes : List ℕ) → sizes_of (map pos sizes) ≡ Some sizes
sizes_of-pos [] = refl
sizes_of-pos (size ∷ sizes) = ap (option_map (λ rest. size ∷ rest)) (sizes_of-pos sizes)

sizes_of-some : (zs : List ℤ) (sizes : List ℕ) → sizes_of zs ≡ Some sizes → map pos sizes ≡ zs
sizes_of-some [] sizes found = let none : sizes ≡ [] = cc in ap (map pos) none
sizes_of-some (pos size ∷ zs) sizes found = by (sizes_of zs) refl (sizes_of-some zs)
  where
    by : (o : Option (List ℕ)) → sizes_of zs ≡ o → ((rest : List ℕ) → sizes_of zs ≡ Some rest → map pos rest ≡ zs) → map pos sizes ≡ pos size ∷ zs
    by None e below = let not_found : None ≡ Some sizes = sym (ap (option_map (λ rest. size ∷ rest)) e) ∙ found in cc
    by (Some rest) e below =
        let both : Some (size ∷ rest) ≡ Some sizes = sym (ap (option_map (λ rest. size ∷ rest)) e) ∙ found in
        let same : sizes ≡ size ∷ rest = cc in
        ap (map pos) same ∙ ap (λ zs. pos size ∷ zs) (below rest e)
sizes_of-some (negsuc size ∷ zs) sizes found = cc

-- a shape is found from its own sizes
pub shape_of-pos : (sizes : List ℕ) → IsShape sizes → shape_of (map pos sizes) ≡ Some sizes
shape_of-pos sizes is = ap (option_and_then (λ shape. if is_shape shape then Some shape else None)) (sizes_of-pos sizes) ∙ cond-true (is_shape sizes) (Some sizes) None (is_shape-true sizes is)

-- what is found is a shape, with these very sizes
pub shape_of-some : (zs : List ℤ) (sizes : List ℕ) → shape_of zs ≡ Some sizes → IsShape sizes × (map pos sizes ≡ zs)
shape_of-some zs sizes found = by (sizes_of zs) refl
  where
    tested : (rest : List ℕ) (passes : Bool) → sizes_of zs ≡ Some rest → is_shape rest ≡ passes → (if passes then Some rest else None) ≡ Some sizes → IsShape sizes × (map pos sizes ≡ zs)
    tested rest true e passed both =
        let same : rest ≡ sizes = cc in
        (subst IsShape same (IsShape-from_test rest passed), ap (map pos) (sym same) ∙ sizes_of-some zs rest e)
    tested rest false e passed both = cc

    by : (o : Option (List ℕ)) → sizes_of zs ≡ o → IsShape sizes × (map pos sizes ≡ zs)
    by None e =
        let not_found : None ≡ Some sizes = sym (ap (option_and_then (λ shape. if is_shape shape then Some shape else None)) e) ∙ found in
        cc
    by (Some rest) e =
        tested rest (is_shape rest) e refl (sym (ap (option_and_then (λ shape. if is_shape shape then Some shape else None)) e) ∙ found)
