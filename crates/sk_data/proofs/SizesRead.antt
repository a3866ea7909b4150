-- Sizes read one after another.
use Rattle.std.proofs.Math.Seq.{drop-cons}
use Rattle.std.proofs.lemmas.List.{append-nil, drop_all}
use Rattle.std.proofs.Common.{add-one, ◌+◌, ◌≡◌, ℕ, ◌^◌, ◌-◌, ◌<◌, ◌≤◌, ◌++◌, ◌∷◌, [], List, Bool, true, false, length, map, drop, get_or, refl, sym, ap, ◌∙◌, arith, append_assoc}
use Rattle.std.specs.Prelude.{◌==◌, ℤ, pos, Option, Some, None, option_map, option_and_then, min, nat_le, if◌then◌else◌}
use Rattle.std.proofs.lemmas.Str.Parse.{numerals_by_value, tells_all_ascii_digits, digits_value_short}
use Rattle.std.specs.Str.{all_ascii_digits}
use Rattle.std.specs.Str.Parse.{digits_value}
use Rattle.std.proofs.lemmas.Bool.{le-leb}
use Rattle.sk_data.specs.Decimals.{natural_of}
use Rattle.sk_base.specs.Shape.{shape_of}
use Rattle.sk_data.specs.Sizes.{each_some, parts_of, shape_in, size_of}

-- a number of few digits is small
pub natural_of-lt : (text : List ℕ) (number most : ℕ) → natural_of text ≡ Some number → length text ≤ most → number < 10 ^ most
natural_of-lt [] number most is few = cc
natural_of-lt (c ∷ cs) number most is few = by (all_ascii_digits (c ∷ cs)) refl is
  where
    by : (digits : Bool) → all_ascii_digits (c ∷ cs) ≡ digits → (if digits then Some (digits_value 10 (c ∷ cs)) else None) ≡ Some number → number < 10 ^ most
    by true digits is =
        let below = digits_value_short (numerals_by_value (λ ds. all_ascii_digits ds ≡ true) tells_all_ascii_digits) (c ∷ cs) most digits few in
        let same : digits_value 10 (c ∷ cs) ≡ number = cc in
        omega (arith, below, same)
    by false digits is = cc

-- the sizes so far and those that are left are all of them
abbrev pub wanted_of : List ℤ → List (Option ℕ) → Option (List ℤ)
wanted_of before left = option_map (λ sizes. before ++ map pos sizes) (each_some left)

pub wanted_more : (before : List ℤ) (size : ℕ) (left : List (Option ℕ))
    → wanted_of before (Some size ∷ left) ≡ wanted_of (before ++ pos size ∷ []) left
wanted_more before size left = by (each_some left)
  where
    by : (rest : Option (List ℕ)) → option_map (λ sizes. before ++ map pos sizes) (option_map (λ sizes. size ∷ sizes) rest)
        ≡ option_map (λ sizes. (before ++ pos size ∷ []) ++ map pos sizes) rest
    by None = refl
    by (Some sizes) = ap (λ zs. Some zs) (sym (append_assoc before (pos size ∷ []) (map pos sizes)))

-- the size that a part of few digits writes
pub size_read : (part : List ℕ) (capped : ℕ) → length part ≤ 8 → Some capped ≡ option_map (λ number. min number (2 ^ 64 - 1)) (natural_of part)
    → (capped < 2 ^ 63) × (size_of part ≡ Some capped)
size_read part capped few read = by (natural_of part) refl read
  where
    by : (found : Option ℕ) → natural_of part ≡ found → Some capped ≡ option_map (λ number. min number (2 ^ 64 - 1)) found
        → (capped < 2 ^ 63) × (size_of part ≡ Some capped)
    by None here read = cc
    by (Some number) here read =
        let below : number < 10 ^ 8 = natural_of-lt part number 8 here few in
        let capped_is : capped ≡ min number (2 ^ 64 - 1) = cc in
        let same : number ≡ capped = omega arith in
        let tested : nat_le (length part) 8 ≡ true = le-leb (length part) 8 few in
        (omega arith, rw tested (here ∙ ap (λ n. Some n) same))

-- the shape of the sizes that were read, and none without them
pub shape_found : (kind : ℕ) (text : List ℕ) (sizes : Option (List ℤ)) → length (parts_of text) == kind ≡ true
    → sizes ≡ option_map (map pos) (each_some (map size_of (parts_of text))) → option_and_then shape_of sizes ≡ shape_in kind text
shape_found kind text sizes counted read = rw (counted, read) (by (each_some (map size_of (parts_of text))))
  where
    by : (found : Option (List ℕ)) → option_and_then shape_of (option_map (map pos) found) ≡ option_and_then (λ sizes. shape_of (map pos sizes)) found
    by None = refl
    by (Some list) = refl

-- the part at a place, and those behind it
parts-drop : (parts : List (List ℕ)) (i : ℕ) → i < length parts → map size_of (drop i parts) ≡ size_of (get_or parts i []) ∷ map size_of (drop (i + 1) parts)
parts-drop parts i below = rw add-one (ap (map size_of) (drop-cons parts i [] below))

-- a part that writes a size
pub part_more : (before : List ℤ) (parts : List (List ℕ)) (i : ℕ) (size : ℤ) → i < length parts
    → Some size ≡ option_map pos (size_of (get_or parts i []))
    → wanted_of before (map size_of (drop i parts)) ≡ wanted_of (before ++ size ∷ []) (map size_of (drop (i + 1) parts))
part_more before parts i size below read = by (size_of (get_or parts i [])) refl read
  where
    by : (found : Option ℕ) → size_of (get_or parts i []) ≡ found → Some size ≡ option_map pos found
        → wanted_of before (map size_of (drop i parts)) ≡ wanted_of (before ++ size ∷ []) (map size_of (drop (i + 1) parts))
    by None here read = cc
    by (Some number) here read =
        let same : size ≡ pos number = cc in
        rw (parts-drop parts i below, here, same) (wanted_more before number (map size_of (drop (i + 1) parts)))

-- a part that writes none
pub part_none : (before : List ℤ) (parts : List (List ℕ)) (i : ℕ) → i < length parts
    → None ≡ option_map pos (size_of (get_or parts i [])) → wanted_of before (map size_of (drop i parts)) ≡ None
part_none before parts i below read = by (size_of (get_or parts i [])) refl read
  where
    by : (found : Option ℕ) → size_of (get_or parts i []) ≡ found → None ≡ option_map pos found → wanted_of before (map size_of (drop i parts)) ≡ None
    by None here read = rw (parts-drop parts i below, here) refl
    by (Some number) here read = cc

-- behind the last part
pub parts_end : (before : List ℤ) (parts : List (List ℕ)) (i : ℕ) → length parts ≤ i → wanted_of before (map size_of (drop i parts)) ≡ Some before
parts_end before parts i past = rw (drop_all i parts past) (ap Some (append-nil before))
