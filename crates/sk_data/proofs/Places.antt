-- The place of the first element that passes a test.
use Rattle.std.proofs.Common.{◌≡◌, ℕ, suc, ◌+◌, ◌<◌, ◌∷◌, [], List, Bool, true, false, length, map, get_or, refl, sym, ap, ◌∙◌, arith, inl, inr, subst}
use Rattle.std.proofs.lemmas.Bool.{cases_Bool}
use Rattle.std.proofs.lemmas.Bool.Decides.{nat_tests}
use Rattle.std.specs.Prelude.{Option, Some, None, option_map, nat_lt, position, find, if◌then◌else◌}
use Rattle.std.specs.List.{position_or_len}
use Rattle.csv.specs.Records.{field_at}
use Rattle.sk_tree.specs.declared.declared.Declared.{Declared}
use Rattle.sk_data.specs.Records.{Record, is_named, same_name}

pub length-mapped : {X Y : Type 0} (f : X → Y) (xs : List X) → length (map f xs) ≡ length xs
length-mapped {X} {Y} f [] = refl
length-mapped {X} {Y} f (x ∷ xs) = ap (λ n. suc n) (length-mapped f xs)

-- the same by recursion
abbrev pub place_of : {X : Type 0} → (X → Bool) → List X → Option ℕ
place_of test [] = None
place_of test (x ∷ xs) = if test x then Some 0 else option_map (λ place. suc place) (place_of test xs)

later : (n m : ℕ) → (if nat_lt (1 + n) (suc m) then Some (1 + n) else None) ≡ option_map (λ place. suc place) (if nat_lt n m then Some n else None)
later n m = elim (cases_Bool (nat_lt n m)) [
  | inl below ↦ let too : nat_lt (1 + n) (suc m) ≡ true = grind (arith, nat_tests) in rw (below, too) (ap Some (omega arith))
  | inr past ↦ let too : nat_lt (1 + n) (suc m) ≡ false = grind (arith, nat_tests) in rw (past, too) refl
]

pub position-place_of : {X : Type 0} (test : X → Bool) (xs : List X) → position test xs ≡ place_of test xs
position-place_of {X} test [] = refl
position-place_of {X} test (x ∷ xs) = elim (cases_Bool (test x)) [
  | inl here ↦ let first : nat_lt 0 (suc (length xs)) ≡ true = grind (arith, nat_tests) in rw (here, first) refl
  | inr other ↦ rw other (later (position_or_len test xs) (length xs) ∙ ap (option_map (λ place. suc place)) (position-place_of test xs))
]

pub place_of-map : {X Y : Type 0} (test : Y → Bool) (f : X → Y) (xs : List X) → place_of test (map f xs) ≡ place_of (λ x. test (f x)) xs
place_of-map {X} {Y} test f [] = refl
place_of-map {X} {Y} test f (x ∷ xs) = ap (λ (o : Option ℕ). if test (f x) then Some 0 else option_map (λ place. suc place) o) (place_of-map test f xs)

-- the element at the place is the one that is found
found_later : {X : Type 0} (test : X → Bool) (xs : List X) (place : ℕ) (found : X) (o : Option ℕ)
    → ((n : ℕ) → o ≡ Some n → found ≡ get_or xs n found → (n < length xs) × (find test xs ≡ Some found))
    → option_map (λ n. suc n) o ≡ Some place → (x : X) → found ≡ get_or (x ∷ xs) place found → (place < suc (length xs)) × (find test xs ≡ Some found)
found_later {X} test xs place found None below e x is = cc
found_later {X} test xs place found (Some n) below e x is =
    let next : suc n ≡ place = cc in
    let P : ℕ → Type 0 = λ k. found ≡ get_or (x ∷ xs) k found in
    let rest = below n refl (subst P (sym next) is) in
    (omega (arith, rest.0, next), rest.1)

pub find-place : {X : Type 0} (test : X → Bool) (xs : List X) (place : ℕ) (found : X) → place_of test xs ≡ Some place → found ≡ get_or xs place found
    → (place < length xs) × (find test xs ≡ Some found)
find-place {X} test [] place found at is = cc
find-place {X} test (x ∷ xs) place found at is = by (test x) refl at (λ n e s. find-place test xs n found e s)
  where
    by : (t : Bool) → test x ≡ t → (if t then Some 0 else option_map (λ n. suc n) (place_of test xs)) ≡ Some place
        → ((n : ℕ) → place_of test xs ≡ Some n → found ≡ get_or xs n found → (n < length xs) × (find test xs ≡ Some found))
        → (place < suc (length xs)) × ((if test x then Some x else find test xs) ≡ Some found)
    by true here e below =
        let first : 0 ≡ place = cc in
        let P : ℕ → Type 0 = λ k. found ≡ get_or (x ∷ xs) k found in
        let same : found ≡ x = subst P (sym first) is in
        (omega (arith, first), rw here (ap (λ y. Some y) (sym same)))
    by false other e below =
        let rest = found_later test xs place found (place_of test xs) below e x is in
        (rest.0, rw other rest.1)

nowhere_later : (o : Option ℕ) → option_map (λ n. suc n) o ≡ None → o ≡ None
nowhere_later None e = refl
nowhere_later (Some n) e = cc

pub find-no_place : {X : Type 0} (test : X → Bool) (xs : List X) → place_of test xs ≡ None → find test xs ≡ None
find-no_place {X} test [] at = refl
find-no_place {X} test (x ∷ xs) at = by (test x) refl at (λ e. find-no_place test xs e)
  where
    by : (t : Bool) → test x ≡ t → (if t then Some 0 else option_map (λ n. suc n) (place_of test xs)) ≡ None
        → (place_of test xs ≡ None → find test xs ≡ None) → (if test x then Some x else find test xs) ≡ None
    by true here e below = cc
    by false other e below = rw other (below (nowhere_later (place_of test xs) e))

-- the place of the input that a record names, by its name
pub place_named : (declared : List Declared) (names : List (List ℕ)) (fields : Record) (name : List ℕ) (told : Option ℕ)
    → names ≡ map (λ input. input.name) declared → Some name ≡ field_at fields 0 → told ≡ position (same_name name) names
    → told ≡ position (λ input. is_named input.name fields) declared
unfolding field_at
place_named declared names [] name told all named is = cc
place_named declared names (first ∷ fields) name told all named is =
    let same : name ≡ first = cc in
    is ∙ rw (all, same) (position-place_of (same_name first) (map (λ input. input.name) declared)
    ∙ place_of-map (same_name first) (λ input. input.name) declared
    ∙ sym (position-place_of (λ input. same_name first input.name) declared))

none_named : (declared : List Declared) → place_of (λ input. is_named input.name []) declared ≡ None
none_named [] = refl
none_named (input ∷ declared) = ap (option_map (λ place. suc place)) (none_named declared)

-- a record without a field names none
pub place_nameless : (declared : List Declared) (fields : Record) → None ≡ field_at fields 0
    → None ≡ position (λ input. is_named input.name fields) declared
unfolding field_at
place_nameless declared [] none = sym (position-place_of (λ input. is_named input.name []) declared ∙ none_named declared)
place_nameless declared (first ∷ fields) none = cc

pub position-map : {X Y : Type 0} (test : Y → Bool) (f : X → Y) (xs : List X) → position test (map f xs) ≡ position (λ x. test (f x)) xs
position-map {X} {Y} test f xs =
    position-place_of test (map f xs) ∙ place_of-map test f xs ∙ sym (position-place_of (λ x. test (f x)) xs)
