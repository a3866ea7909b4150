-- Names and shapes are short.
use Rattle.std.proofs.Common.{◌≡◌, ℕ, suc, ◌+◌, ◌*◌, ◌<◌, ◌≤◌, ◌∷◌, [], List, Bool, true, false, length, map, refl, sym, ap, ◌∙◌, arith, inl, inr, get_or, take, subst}
use Rattle.std.proofs.lemmas.Bool.{cases_Bool, leb-true}
use Rattle.std.proofs.lemmas.Bool.Decides.{nat_tests}
use Rattle.std.proofs.lemmas.List.Elements.{All-head, All-more, All-tail}
use Rattle.std.proofs.lemmas.List.{take_all}
use Rattle.std.specs.Cmp.Lexicographic.{same_text}
use Rattle.std.specs.List.{onto_first}
use Rattle.std.specs.Prelude.{cond, ◌==◌, ◌⊎◌, pos, Option, Some, None, nat_le, option_map, option_and_then, position, if◌then◌else◌}
use Rattle.csv.specs.Records.{field_at}
use Rattle.sk_base.specs.Shape.{shape_of}
use Rattle.sk_tree.specs.declared.declared.Declared.{Declared}
use Rattle.sk_data.specs.Fields.{longest_shape, short_at, within}
use Rattle.sk_data.specs.Reading.{NamesFit}
use Rattle.sk_data.specs.Records.{Record, is_named, same_name, shape_given}
use Rattle.sk_data.specs.Sizes.{each_some, letter_x, parts_of, shape_in, size_of}
use Rattle.sk_data.proofs.Fields.{shape_second, no_second}
use Rattle.sk_data.proofs.Places.{place_nameless, place_of, position-place_of}

-- a field at a place, where it is short
pub short_some : (most : ℕ) (fields : Record) (place : ℕ) (field : List ℕ) → Some field ≡ short_at most fields place → Some field ≡ field_at fields place
short_some most fields place field is = by (field_at fields place) is
  where
    by : (o : Option (List ℕ)) → Some field ≡ option_and_then (within most) o → Some field ≡ o
    by None e = cc
    by (Some f) e = elim (cases_Bool (nat_le (length f) most)) [
      | inl few ↦ let same : Some field ≡ Some f = rw few at e in same
      | inr many ↦ let none : Some field ≡ None = rw many at e in cc
    ]

-- there is no such field, or it is longer
pub record IsLong (most : ℕ) (fields : Record) (place : ℕ) : Type 0 where
  pub field : List ℕ
  pub there : Some field ≡ field_at fields place
  pub more : most < length field

pub short_none : (most : ℕ) (fields : Record) (place : ℕ) → None ≡ short_at most fields place
    → (None ≡ field_at fields place) ⊎ IsLong most fields place
short_none most fields place is = by (field_at fields place) refl is
  where
    by : (o : Option (List ℕ)) → field_at fields place ≡ o → None ≡ option_and_then (within most) o → (None ≡ field_at fields place) ⊎ IsLong most fields place
    by None at e = inl (sym at)
    by (Some f) at e = elim (cases_Bool (nat_le (length f) most)) [
      | inl few ↦ let some : None ≡ Some f = rw few at e in cc
      | inr many ↦ inr (record { field = f; there = sym at; more = grind (arith, nat_tests) })
    ]

-- the bytes of parts, and one behind each
abbrev total : List (List ℕ) → ℕ
total [] = 0
total (part ∷ parts) = length part + 1 + total parts

total-parts : (text : List ℕ) → total (parts_of text) ≡ length text + 1
total-parts [] = refl
total-parts (c ∷ text) = by (c == letter_x) (parts_of text) (total-parts text)
  where
    by : (t : Bool) (parts : List (List ℕ)) → total parts ≡ length text + 1
        → total (cond t ([] ∷ parts) (onto_first c parts)) ≡ length (c ∷ text) + 1
    by true parts e = omega (arith, e)
    by false [] e = absurd (omega (arith, e))
    by false (part ∷ parts) e = omega (arith, e)

sized_short : (part : List ℕ) (size : ℕ) → size_of part ≡ Some size → length part ≤ 8
sized_short part size is = elim (cases_Bool (nat_le (length part) 8)) [
  | inl few ↦ leb-true (length part) 8 few
  | inr many ↦ let none : None ≡ Some size = rw many at is in cc
]

total-sized : (parts : List (List ℕ)) (sizes : List ℕ) → each_some (map size_of parts) ≡ Some sizes → total parts ≤ 9 * length parts
total-sized [] sizes is = omega arith
total-sized (part ∷ parts) sizes is =
    by (size_of part) (each_some (map size_of parts)) refl refl is (λ found others. total-sized parts found others)
  where
    by : (first : Option ℕ) (rest : Option (List ℕ)) → size_of part ≡ first → each_some (map size_of parts) ≡ rest
        → option_and_then (λ f. option_map (λ r. f ∷ r) rest) first ≡ Some sizes
        → ((found : List ℕ) → each_some (map size_of parts) ≡ Some found → total parts ≤ 9 * length parts)
        → total (part ∷ parts) ≤ 9 * length (part ∷ parts)
    by None rest one others e more = cc
    by (Some size) None one others e more = cc
    by (Some size) (Some found) one others e more =
        let short = sized_short part size one in
        let below = more found others in
        omega (arith, short, below)

-- a long text is no shape
pub long_no_shape : (kind : ℕ) (text : List ℕ) → kind ≤ 255 → longest_shape < length text → None ≡ shape_in kind text
long_no_shape kind text small long = by (length (parts_of text) == kind) (each_some (map size_of (parts_of text))) refl refl
  where
    by : (t : Bool) (found : Option (List ℕ)) → (length (parts_of text) == kind) ≡ t → each_some (map size_of (parts_of text)) ≡ found
        → None ≡ (if t then option_and_then (λ sizes. shape_of (map pos sizes)) found else None)
    by false found counted sized = refl
    by true None counted sized = refl
    by true (Some sizes) counted sized =
        let same : length (parts_of text) ≡ kind = grind (arith, nat_tests) in
        let whole = total-parts text in
        let few = total-sized (parts_of text) sizes sized in
        absurd (omega (arith, same, whole, few, small, long))

pub shape_short : (input : Declared) (fields : Record) (most : ℕ) → longest_shape ≤ most → input.kind ≤ 255
    → None ≡ short_at most fields 1 → None ≡ shape_given input fields
shape_short input fields most roomy small none = elim (short_none most fields 1 none) [
  | inl absent ↦ no_second input fields absent
  | inr long ↦ long_no_shape input.kind long.field small (let more = long.more in omega (arith, more)) ∙ shape_second input fields long.field long.there
]

-- a name longer than all that are declared is none of them
long_no_name : (declared : List Declared) (most : ℕ) (first : List ℕ) (fields : Record) → NamesFit declared most → most < length first
    → place_of (λ input. is_named input.name (first ∷ fields)) declared ≡ None
long_no_name [] most first fields fit long = refl
long_no_name (input ∷ declared) most first fields fit long =
    by (same_name first input.name) refl (long_no_name declared most first fields (All-tail (λ (d : Declared). length d.name ≤ most) input declared fit) long)
  where
    by : (t : Bool) → same_name first input.name ≡ t → place_of (λ input. is_named input.name (first ∷ fields)) declared ≡ None
        → (if t then Some 0 else option_map (λ place. suc place) (place_of (λ input. is_named input.name (first ∷ fields)) declared)) ≡ None
    by true same below =
        let equal : first ≡ input.name = same_text first input.name (sym same) in
        let few = All-head (λ (d : Declared). length d.name ≤ most) input declared fit in
        let as_long = ap length equal in
        absurd (omega (arith, few, as_long, long))
    by false other below = ap (option_map (λ place. suc place)) below

named_long : (declared : List Declared) (most : ℕ) (fields : Record) → NamesFit declared most → IsLong most fields 0
    → None ≡ position (λ input. is_named input.name fields) declared
unfolding field_at
named_long declared most [] fit long = let there = long.there in cc
named_long declared most (first ∷ fields) fit long =
    let same : long.field ≡ first = let there = long.there in cc in
    let longer : most < length first = let more = long.more in let as_long = ap length same in omega (arith, more, as_long) in
    sym (position-place_of (λ input. is_named input.name (first ∷ fields)) declared ∙ long_no_name declared most first fields fit longer)

pub name_short : (declared : List Declared) (most : ℕ) (fields : Record) → NamesFit declared most
    → None ≡ short_at most fields 0 → None ≡ position (λ input. is_named input.name fields) declared
name_short declared most fields fit none = elim (short_none most fields 0 none) [
  | inl absent ↦ place_nameless declared fields absent
  | inr long ↦ named_long declared most fields fit long
]

-- room for one name more, and for all
pub fit_more : (declared : List Declared) (i most next : ℕ) (input : Declared) → i < length declared → input ≡ get_or declared i input
    → NamesFit (take i declared) most → most ≤ next → length input.name ≤ next → NamesFit (take (i + 1) declared) next
fit_more declared i most next input below is fit more here =
    let wider : NamesFit (take i declared) next = λ k d l. let few = fit k d l in omega (arith, few, more) in
    let P : Declared → Type 0 = λ d. length d.name ≤ next in
    All-more P declared i input below wider (subst P is here)

pub fit_all : (declared : List Declared) (i most : ℕ) → length declared ≤ i → NamesFit (take i declared) most → NamesFit declared most
fit_all declared i most past fit = let P : List Declared → Type 0 = λ ds. NamesFit ds most in subst P (take_all i declared past) fit
