-- The fault that is told of several lists of faults.
use Rattle.std.proofs.Common.{◌≡◌, ◌≢◌, ◌<◌, ◌≤◌, ◌+◌, ◌*◌, ◌++◌, ◌==◌, ◌||◌, ◌&&◌, ltb, ℕ, Bool, true, false, List, [], ◌∷◌, length, take, get_or, Option, Some, None, if◌then◌else◌, refl, sym, ◌∙◌, ap, arith, flat_map}
use Rattle.std.proofs.lemmas.List.{take_more, take_all}
use Rattle.std.proofs.lemmas.Bool.{lt-ltb, ltb-true, le-ltb, ltb-false, eqb-true, eqb-false}
use Rattle.sk_typing.specs.TypingFaults.{rank, comes_before, earlier, least_of, first_told}
use Rattle.sk_typing.specs.declared.names.Fault.{Fault}
use Rattle.sk_typing.specs.declared.names.Fault.TheVariants.{At, NoMain}
use Rattle.sk_typing.specs.declared.names.FaultKind.{FaultKind}
use Rattle.sk_typing.specs.declared.names.FaultKind.TheVariants.{Unknown, Twice, Mismatch, Arity, NoReturn}

rank-below : (kind : FaultKind) → rank kind < 5
rank-below Unknown = omega arith
rank-below Twice = omega arith
rank-below Mismatch = omega arith
rank-below Arity = omega arith
rank-below NoReturn = omega arith

-- lines and then kinds, as one number
lexicographic : (l k m j : ℕ) → k < 5 → j < 5 → (ltb l m || (l == m && ltb k j)) ≡ ltb (l * 5 + k) (m * 5 + j)
lexicographic l k m j small small' = by (ltb l m) refl
  where
    same : (t u : Bool) → (l == m) ≡ t → ltb k j ≡ u → m ≤ l → (t && u) ≡ ltb (l * 5 + k) (m * 5 + j)
    same true true is less below =
        sym (lt-ltb (l * 5 + k) (m * 5 + j) (let e : l ≡ m = eqb-true l m is in let x : k < j = ltb-true k j less in omega (arith, e, x)))
    same true false is more below =
        sym (le-ltb (l * 5 + k) (m * 5 + j) (let e : l ≡ m = eqb-true l m is in let x : j ≤ k = ltb-false k j more in omega (arith, e, x)))
    same false u is other below =
        sym (le-ltb (l * 5 + k) (m * 5 + j) (let e : l ≢ m = eqb-false l m is in omega (arith, e, below, small, small')))

    by : (t : Bool) → ltb l m ≡ t → (t || (l == m && ltb k j)) ≡ ltb (l * 5 + k) (m * 5 + j)
    by true is = sym (lt-ltb (l * 5 + k) (m * 5 + j) (let less : l < m = ltb-true l m is in omega (arith, less, small, small')))
    by false is = same (l == m) (ltb k j) refl refl (ltb-false l m is)

place-trans : (a b c : ℕ) → ltb b a ≡ true → ltb c b ≡ true → ltb c a ≡ true
place-trans a b c first second =
    let x : b < a = ltb-true b a first in
    let y : c < b = ltb-true c b second in
    lt-ltb c a (omega (arith, x, y))

place-neg : (a b c : ℕ) → ltb b a ≡ false → ltb c b ≡ false → ltb c a ≡ false
place-neg a b c first second =
    let x : a ≤ b = ltb-false b a first in
    let y : b ≤ c = ltb-false c b second in
    le-ltb c a (omega (arith, x, y))

place : ℕ → FaultKind → ℕ
place line kind = line * 5 + rank kind

placed : (l : ℕ) (k : FaultKind) (m : ℕ) (j : FaultKind) → comes_before (At l k) (At m j) ≡ ltb (l * 5 + rank k) (m * 5 + rank j)
placed l k m j = lexicographic l (rank k) m (rank j) (rank-below k) (rank-below j)

before-trans : (a b c : Fault) → comes_before b a ≡ true → comes_before c b ≡ true → comes_before c a ≡ true
before-trans a NoMain c first second = absurd (cc first)
before-trans a b NoMain first second = absurd (cc second)
before-trans NoMain (At m j) (At n h) first second = refl
before-trans (At l k) (At m j) (At n h) first second =
    placed n h l k ∙ place-trans (l * 5 + rank k) (m * 5 + rank j) (n * 5 + rank h)
    (sym (placed m j l k) ∙ first) (sym (placed n h m j) ∙ second)

before-neg : (a b c : Fault) → comes_before b a ≡ false → comes_before c b ≡ false → comes_before c a ≡ false
before-neg a b NoMain first second = refl
before-neg a NoMain (At n h) first second = absurd (cc second)
before-neg NoMain (At m j) (At n h) first second = absurd (cc first)
before-neg (At l k) (At m j) (At n h) first second =
    placed n h l k ∙ place-neg (l * 5 + rank k) (m * 5 + rank j) (n * 5 + rank h)
    (sym (placed m j l k) ∙ first) (sym (placed n h m j) ∙ second)

three : (a b c : Fault) (ba cb ca : Bool) → comes_before b a ≡ ba → comes_before c b ≡ cb → comes_before c a ≡ ca
    → earlier (earlier (Some a) (Some b)) (Some c) ≡ earlier (Some a) (earlier (Some b) (Some c))
three a b c true true ca ba-is cb-is ca-is =
    let ends : comes_before c a ≡ true = before-trans a b c ba-is cb-is in rw (ba-is, cb-is, ends) refl
three a b c true false ca ba-is cb-is ca-is = rw (ba-is, cb-is, ba-is) refl
three a b c false true ca ba-is cb-is ca-is = rw (ba-is, cb-is) refl
three a b c false false ca ba-is cb-is ca-is =
    let ends : comes_before c a ≡ false = before-neg a b c ba-is cb-is in rw (ba-is, cb-is, ends, ba-is) refl

pub earlier_none : (a : Option Fault) → earlier a None ≡ a
earlier_none None = refl
earlier_none (Some a) = refl

pub earlier_assoc : (a b c : Option Fault) → earlier (earlier a b) c ≡ earlier a (earlier b c)
earlier_assoc None b c = refl
earlier_assoc (Some a) None c = refl
earlier_assoc (Some a) (Some b) None = earlier_none (if comes_before b a then Some b else Some a)
earlier_assoc (Some a) (Some b) (Some c) =
    three a b c (comes_before b a) (comes_before c b) (comes_before c a) refl refl refl

pub least_of_append : (xs ys : List Fault) → least_of (xs ++ ys) ≡ earlier (least_of xs) (least_of ys)
least_of_append [] ys = refl
least_of_append (x ∷ xs) ys =
    ap (λ rest. earlier (Some x) rest) (least_of_append xs ys) ∙ sym (earlier_assoc (Some x) (least_of xs) (least_of ys))

pub first_told_append : {X : Type 0} (told : X → Option Fault) (xs ys : List X)
    → first_told told (xs ++ ys) ≡ earlier (first_told told xs) (first_told told ys)
first_told_append told [] ys = refl
first_told_append told (x ∷ xs) ys =
    ap (earlier (told x)) (first_told_append told xs ys) ∙ sym (earlier_assoc (told x) (first_told told xs) (first_told told ys))

-- one more in a loop
pub first_told_more : {X : Type 0} (told : X → Option Fault) (xs : List X) (i : ℕ) (d : X) → i < length xs
    → first_told told (take (i + 1) xs) ≡ earlier (first_told told (take i xs)) (told (get_or xs i d))
first_told_more told xs i d below =
    ap (first_told told) (take_more xs i d below) ∙ first_told_append told (take i xs) (get_or xs i d ∷ [])
    ∙ ap (earlier (first_told told (take i xs))) (earlier_none (told (get_or xs i d)))

pub least_of_flat_map : {X : Type 0} (faults : X → List Fault) (xs : List X)
    → least_of (flat_map faults xs) ≡ first_told (λ x. least_of (faults x)) xs
least_of_flat_map faults [] = refl
least_of_flat_map faults (x ∷ xs) =
    least_of_append (faults x) (flat_map faults xs) ∙ ap (earlier (least_of (faults x))) (least_of_flat_map faults xs)

-- a list of faults from which none is told has none
pub none_told : {X : Type 0} (faults : List Fault) (none some : X)
    → elim faults as (λ _. X) [ [] ↦ none | fault ∷ more ↦ some ] ≡ elim (least_of faults) as (λ _. X) [ None ↦ none | Some fault ↦ some ]
none_told [] none some = refl
none_told {X} (fault ∷ faults) none some = by (least_of faults)
  where
    by : (t : Option Fault) → some ≡ elim (earlier (Some fault) t) as (λ _. X) [ None ↦ none | Some fault ↦ some ]
    by None = refl
    by (Some other) = on (comes_before other fault)
      where
        on : (t : Bool) → some ≡ elim (if t then Some other else Some fault) as (λ _. X) [ None ↦ none | Some fault ↦ some ]
        on true = refl
        on false = refl

-- one turn of a loop over elements
pub told_turn : {X : Type 0} (told : X → Option Fault) (xs : List X) (i : ℕ) (d : X) (least next : Option Fault)
    → least ≡ first_told told (take i xs) → next ≡ earlier least (told (get_or xs i d)) → i < length xs
    → next ≡ first_told told (take (i + 1) xs)
told_turn told xs i d least next before turn below =
    turn ∙ ap (λ (l : Option Fault). earlier l (told (get_or xs i d))) before ∙ sym (first_told_more told xs i d below)

-- two faults that are told, as the one of both lists
pub joined : (xs ys : List Fault) (a b : Option Fault) → a ≡ least_of xs → b ≡ least_of ys → earlier a b ≡ least_of (xs ++ ys)
joined xs ys a b a-is b-is =
    ap (λ (l : Option Fault). earlier l b) a-is ∙ ap (earlier (least_of xs)) b-is ∙ sym (least_of_append xs ys)

-- the same, where the element is known by name
pub told_item : {X : Type 0} (told : X → Option Fault) (xs : List X) (i : ℕ) (x : X) (least next : Option Fault)
    → x ≡ get_or xs i x → least ≡ first_told told (take i xs) → next ≡ earlier least (told x) → i < length xs
    → next ≡ first_told told (take (i + 1) xs)
told_item told xs i x least next is before turn below =
    told_turn told xs i x least next before (turn ∙ ap (λ y. earlier least (told y)) is) below

-- the end of such a loop
pub told_end : {X : Type 0} (told : X → Option Fault) (xs : List X) (i : ℕ) (least : Option Fault)
    → least ≡ first_told told (take i xs) → length xs ≤ i → least ≡ first_told told xs
told_end told xs i least before end = before ∙ ap (first_told told) (take_all i xs end)

-- where no fault is told there is none
pub no_faults : (faults : List Fault) → least_of faults ≡ None → faults ≡ []
no_faults [] none = refl
no_faults (fault ∷ faults) none = absurd (some_not fault (least_of faults) none)
  where
    some_not : (fault : Fault) (more : Option Fault) → earlier (Some fault) more ≡ None → ⊥
    some_not fault None is = cc is
    some_not fault (Some other) is = by (comes_before other fault) is
      where
        by : (t : Bool) → (if t then Some other else Some fault) ≡ None → ⊥
        by true is = cc is
        by false is = cc is
