-- Fields and elements of containers.
use Rattle.std.proofs.Common.{◌≡◌, ℕ, suc, zero, ◌+◌, ◌*◌, ◌<◌, ◌≤◌, Bool, true, false, ◌&&◌, ◌||◌, List, [], ◌∷◌, length, ℤ, pos, negsuc, Option, Some, None, IsSome, slice_index_or, slice_get, unwrap_or, refl, sym, ap, subst, ◌∙◌, arith}
use Rattle.std.specs.Prelude.{Ok, Err, Result, codes, nat_le, nat_lt, if◌then◌else◌}
use Rattle.std.proofs.lemmas.Nat.{mul-le}
use Rattle.sk_base.specs.Shape.{cells_of, flat_from, flat_of}
use Rattle.sk_arguments.specs.Arguments.{first_cells, shape_of, whole_of}
use Rattle.sk_base.specs.declared.number.Trap.{Trap}
use Rattle.sk_base.specs.declared.number.Trap.TheVariants.{Index as OutOfRange}
use Rattle.sk_kernel.specs.Kernels.{Source}
use Rattle.sk_meaning.specs.Evaluation.{element_at, named, size_fields}
use Rattle.sk_vm.specs.Surroundings.{held_by}
use Rattle.sk_vm.proofs.Suited.{get-first}
use Rattle.sk_names.specs.Bytes.{same_bytes}
use Rattle.sk_names.specs.BytesLaws.{same_bytes-true}
use Rattle.sk_tree.specs.Parameters.{is_proxy_field, is_size}
use Rattle.sk_vm.specs.Places.{side_of}

some_nat : (a b : ℕ) → Some a ≡ Some b → a ≡ b
some_nat a b e = cc

assoc : (a b c : ℕ) → a * b * c ≡ a * (b * c)
assoc a b c = omega arith

-- the index of a place is among those of the container
pub flat_from-below : (before : ℕ) (sizes : List ℕ) (place : List ℤ) (i : ℕ) → flat_from before sizes place ≡ Some i → i < (before + 1) * cells_of sizes
flat_from-below before [] [] i is = omega (arith, some_nat before i is)
flat_from-below before [] (at ∷ place) i is = cc
flat_from-below before (size ∷ sizes) [] i is = cc
flat_from-below before (size ∷ sizes) (negsuc at ∷ place) i is = cc
flat_from-below before (size ∷ sizes) (pos at ∷ place) i is = by (λ (rest : flat_from (before * size + at) sizes place ≡ Some i). flat_from-below (before * size + at) sizes place i rest) (nat_lt at size) refl is
  where
    by : (flat_from (before * size + at) sizes place ≡ Some i → i < (before * size + at + 1) * cells_of sizes) → (test : Bool) → nat_lt at size ≡ test → (if test then flat_from (before * size + at) sizes place else None) ≡ Some i → i < (before + 1) * (size * cells_of sizes)
    by more false t is = cc
    by more true t is =
        let inside : at < size = grind arith in
        let row : before * size + at + 1 ≤ (before + 1) * size = omega (arith, inside) in
        let low : i < (before * size + at + 1) * cells_of sizes = more is in
        let high : (before * size + at + 1) * cells_of sizes ≤ (before + 1) * size * cells_of sizes = mul-le (before * size + at + 1) (cells_of sizes) ((before + 1) * size) (cells_of sizes) row (omega arith) in
        omega (arith, low, high, assoc (before + 1) size (cells_of sizes))

pub flat-below : (sizes : List ℕ) (place : List ℤ) (i : ℕ) → flat_of sizes place ≡ Some i → i < cells_of sizes
flat-below sizes place i is = let below = flat_from-below 0 sizes place i is in omega arith

-- a name reads a size by its letters, or the number of all cells
pub data SideIs (sizes : List ℕ) (value : ℕ) : Option ℕ → Type 0 where
  side : {axis : ℕ} → axis < length sizes → value ≡ slice_index_or sizes axis 0 → SideIs sizes value (Some axis)
  all : value ≡ cells_of sizes → SideIs sizes value None

abbrev pub Reads : (sizes name : List ℕ) → Type 0
Reads sizes name = SideIs sizes (named (codes "size" ∷ size_fields sizes) (cells_of sizes ∷ sizes) name) (side_of name)

by_name : (sizes name word : List ℕ) → Reads sizes word → same_bytes name word ≡ true → Reads sizes name
by_name sizes name word reads same = subst (λ (n : List ℕ). Reads sizes n) (sym (same_bytes-true name word same)) reads

either : (P : Type 0) (a b : Bool) → (a || b) ≡ true → (a ≡ true → P) → (b ≡ true → P) → P
either P true b e first second = first refl
either P false true e first second = second refl
either P false false e first second = cc

third_of : (P : Type 0) (size i j k : Bool) → (size || (i || j || k || false)) ≡ true → (size ≡ true → P) → (i ≡ true → P) → (j ≡ true → P) → (k ≡ true → P) → P
third_of P true i j k e a b c d = a refl
third_of P false true j k e a b c d = b refl
third_of P false false true k e a b c d = c refl
third_of P false false false true e a b c d = d refl
third_of P false false false false e a b c d = cc

fourth_of : (P : Type 0) (size i j k l : Bool) → (size || (i || j || k || l)) ≡ true → (size ≡ true → P) → (i ≡ true → P) → (j ≡ true → P) → (k ≡ true → P) → (l ≡ true → P) → P
fourth_of P true i j k l e a b c d f = a refl
fourth_of P false true j k l e a b c d f = b refl
fourth_of P false false true k l e a b c d f = c refl
fourth_of P false false false true l e a b c d f = d refl
fourth_of P false false false false true e a b c d f = f refl
fourth_of P false false false false false e a b c d f = cc

pub reads_size : (sizes name : List ℕ) → 1 ≤ length sizes → length sizes ≤ 4 → is_proxy_field (length sizes) name ≡ true → Reads sizes name
reads_size [] name some few field = absurd (omega arith)
reads_size (n ∷ []) name some few field = by_name (n ∷ []) name (codes "size") (all refl) field
reads_size (rows ∷ cols ∷ []) name some few field =
    let sizes = rows ∷ cols ∷ [] in
    either (Reads sizes name) (is_size name || same_bytes name (codes "rows")) (same_bytes name (codes "cols")) field
    (λ e. either (Reads sizes name) (is_size name) (same_bytes name (codes "rows")) e
    (by_name sizes name (codes "size") (all refl))
    (by_name sizes name (codes "rows") (side (omega arith) refl)))
    (by_name sizes name (codes "cols") (side (omega arith) refl))
reads_size (i ∷ j ∷ k ∷ []) name some few field =
    let sizes = i ∷ j ∷ k ∷ [] in
    third_of (Reads sizes name) (is_size name) (same_bytes name (codes "size_i")) (same_bytes name (codes "size_j")) (same_bytes name (codes "size_k")) field
    (by_name sizes name (codes "size") (all refl))
    (by_name sizes name (codes "size_i") (side (omega arith) refl))
    (by_name sizes name (codes "size_j") (side (omega arith) refl))
    (by_name sizes name (codes "size_k") (side (omega arith) refl))
reads_size (i ∷ j ∷ k ∷ l ∷ []) name some few field =
    let sizes = i ∷ j ∷ k ∷ l ∷ [] in
    fourth_of (Reads sizes name) (is_size name) (same_bytes name (codes "size_i")) (same_bytes name (codes "size_j")) (same_bytes name (codes "size_k")) (same_bytes name (codes "size_l")) field
    (by_name sizes name (codes "size") (all refl))
    (by_name sizes name (codes "size_i") (side (omega arith) refl))
    (by_name sizes name (codes "size_j") (side (omega arith) refl))
    (by_name sizes name (codes "size_k") (side (omega arith) refl))
    (by_name sizes name (codes "size_l") (side (omega arith) refl))
reads_size (i ∷ j ∷ k ∷ l ∷ m ∷ more) name some few field =
    let upto : suc (suc (suc (suc (suc (length more))))) ≤ 4 = few in absurd (omega arith)

-- the same, where the side is known
pub record HasSide (sizes : List ℕ) (value axis : ℕ) : Type 0 where
  pub inside : axis < length sizes
  pub is : value ≡ slice_index_or sizes axis 0

pub with_side : (sizes : List ℕ) (value : ℕ) (found : Option ℕ) (axis : ℕ) → SideIs sizes value found → found ≡ Some axis → HasSide sizes value axis
with_side sizes value found axis (side {axis = own} inside value_is) is =
    let same : own ≡ axis = some_nat own axis is in
    record { inside = subst (λ (n : ℕ). n < length sizes) same inside; is = value_is ∙ ap (λ (n : ℕ). slice_index_or sizes n 0) same }
with_side sizes value found axis (all value_is) is = cc

pub with_all : (sizes : List ℕ) (value : ℕ) (found : Option ℕ) → SideIs sizes value found → found ≡ None → value ≡ cells_of sizes
with_all sizes value found (side inside value_is) is = cc
with_all sizes value found (all value_is) is = value_is

-- the element that is found
pub element_found : (source : Source) (operand : ℕ) (sizes : List ℕ) (place : List ℤ) (index : ℕ) (cell : ℤ) → slice_get source.shapes operand ≡ Some sizes
    → flat_of sizes place ≡ Some index → source.held operand index ≡ Some cell → Ok cell ≡ element_at (whole_of (held_by source) operand) place
element_found source operand sizes place index cell shape flat held =
    let given = held_by source in
    let cells = first_cells (given.cells operand) (cells_of (shape_of given operand)) in
    let shape_is : shape_of given operand ≡ sizes = ap (λ (o : Option (List ℕ)). unwrap_or o []) shape in
    let flat_is : flat_of (shape_of given operand) place ≡ Some index = ap (λ (s : List ℕ). flat_of s place) shape_is ∙ flat in
    let less : index < cells_of (shape_of given operand) = flat-below (shape_of given operand) place index flat_is in
    let here : slice_index_or cells index (pos 0) ≡ cell =
    get-first (given.cells operand) (cells_of (shape_of given operand)) index less ∙ ap (λ (o : Option ℤ). unwrap_or o (pos 0)) held in
    ap (λ (x : ℤ). Ok x) (sym here) ∙ sym (ap (λ (o : Option ℕ). elim o as (λ o. Result ℤ Trap) [ Some i ↦ Ok (slice_index_or cells i (pos 0)) | None ↦ Err OutOfRange ]) flat_is)
