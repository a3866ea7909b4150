-- What records give the declared inputs, one record after another.
use Rattle.std.proofs.Common.{◌≡◌, ◌≢◌, ℕ, zero, suc, ◌+◌, ◌<◌, ◌++◌, ◌∷◌, [], List, Bool, true, false, length, map, drop, get_or, set, refl, sym, ap, ◌∙◌, arith, append_assoc, inl, inr, subst}
use Rattle.std.proofs.Math.Seq.{drop-cons}
use Rattle.std.proofs.lemmas.Bool.{cases_Bool}
use Rattle.std.proofs.lemmas.List.{drop-set-lt, get_or-map, length-set}
use Rattle.std.proofs.lemmas.Map.Keys.{IsDistinct-head, IsDistinct-tail}
use Rattle.std.specs.Cmp.Lexicographic.{same_text}
use Rattle.std.specs.Prelude.{Option, Some, None, is_some, option_map, position, find, ◌||◌, Result, Ok, Err, IfOk, IfErr, if◌then◌else◌}
use Rattle.std.specs.List.{AllByRecursion, list_any}
use Rattle.sk_tree.specs.declared.declared.Declared.{Declared}
use Rattle.sk_data.specs.Held.{Held, IsGivenBy, slot_of, given_in, with_slot}
use Rattle.sk_data.specs.Records.{HaveDistinctNames, Record, is_named, same_name, given_by, given_to, with_given, fault_for, form_fault, record_fault}
use Rattle.sk_data.specs.declared.fault.InputFault.{InputFault}
use Rattle.sk_data.specs.declared.fault.InputFault.TheVariants.{Doubled, Memory}
use Rattle.sk_data.specs.declared.given.Given.{Given}
use Rattle.sk_data.proofs.NamesKept.{same_name-flip}
use Rattle.sk_data.proofs.Places.{place_of, position-place_of, find-place, find-no_place}

pub is_some-find : {X : Type 0} (test : X → Bool) (xs : List X) → is_some (find test xs) ≡ list_any test xs
is_some-find {X} test [] = refl
is_some-find {X} test (x ∷ xs) = elim (cases_Bool (test x)) [
  | inl here ↦ rw here refl
  | inr other ↦ rw other (is_some-find test xs)
]

-- a slot has something where an earlier record has the name
pub slot-some : (earlier : List Record) (input : Declared) → is_some (slot_of earlier input) ≡ list_any (is_named input.name) earlier
slot-some earlier input = by (find (is_named input.name) earlier) refl
  where
    by : (found : Option Record) → find (is_named input.name) earlier ≡ found → is_some (option_map (given_by input) found) ≡ list_any (is_named input.name) earlier
    by None e = ap is_some (sym e) ∙ is_some-find (is_named input.name) earlier
    by (Some first) e = ap is_some (sym e) ∙ is_some-find (is_named input.name) earlier

-- a record of another name gives an input nothing
slot-other : (earlier : List Record) (fields : Record) (input : Declared) → is_named input.name fields ≡ false
    → slot_of (earlier ++ fields ∷ []) input ≡ slot_of earlier input
slot-other [] fields input other = rw other refl
slot-other (first ∷ earlier) fields input other = elim (cases_Bool (is_named input.name first)) [
  | inl here ↦ rw here refl
  | inr not_here ↦ rw not_here (slot-other earlier fields input other)
]

-- the first record of its name gives it what it has
slot-first : (earlier : List Record) (fields : Record) (input : Declared) → is_named input.name fields ≡ true
    → list_any (is_named input.name) earlier ≡ false → slot_of (earlier ++ fields ∷ []) input ≡ Some (given_by input fields)
slot-first [] fields input named none = rw named refl
slot-first (first ∷ earlier) fields input named none = by (is_named input.name first) refl none (λ e. slot-first earlier fields input named e)
  where
    by : (t : Bool) → is_named input.name first ≡ t → (t || list_any (is_named input.name) earlier) ≡ false
        → (list_any (is_named input.name) earlier ≡ false → slot_of (earlier ++ fields ∷ []) input ≡ Some (given_by input fields))
        → slot_of ((first ∷ earlier) ++ fields ∷ []) input ≡ Some (given_by input fields)
    by true here e below = cc
    by false other e below = rw other (below e)

-- a record that names no input gives none anything
pub slots-passed : (earlier : List Record) (fields : Record) (declared : List Declared) → find (λ input. is_named input.name fields) declared ≡ None
    → map (slot_of (earlier ++ fields ∷ [])) declared ≡ map (slot_of earlier) declared
slots-passed earlier fields [] none = refl
slots-passed earlier fields (input ∷ declared) none = by (is_named input.name fields) refl none (λ e. slots-passed earlier fields declared e)
  where
    by : (t : Bool) → is_named input.name fields ≡ t → (if t then Some input else find (λ input. is_named input.name fields) declared) ≡ None
        → (find (λ input. is_named input.name fields) declared ≡ None → map (slot_of (earlier ++ fields ∷ [])) declared ≡ map (slot_of earlier) declared)
        → map (slot_of (earlier ++ fields ∷ [])) (input ∷ declared) ≡ map (slot_of earlier) (input ∷ declared)
    by true here e below = cc
    by false other e below = cc (slot-other earlier fields input other, below e)

-- where a record has one name, it has no other
one_name : (name other : List ℕ) (fields : Record) → same_name name other ≡ false → is_named name fields ≡ true → is_named other fields ≡ false
one_name name other [] differs named = refl
one_name name other (first ∷ fields) differs named =
    let same : first ≡ name = same_text first name (sym named) in
    rw same differs

others-passed : (name : List ℕ) (fields : Record) (declared : List Declared) → is_named name fields ≡ true
    → AllByRecursion (λ other. same_name name other ≡ false) (map (λ input. input.name) declared)
    → find (λ input. is_named input.name fields) declared ≡ None
others-passed name fields [] named apart = refl
others-passed name fields (input ∷ declared) named apart =
    rw (one_name name input.name fields apart.0 named) (others-passed name fields declared named apart.1)

-- the input that a record names, behind inputs of other names
pub find_named : (before : List Declared) (input : Declared) (later : List Declared) (fields : Record) → is_named input.name fields ≡ true
    → AllByRecursion (λ (d : Declared). same_name input.name d.name ≡ false) before
    → find (λ d. is_named d.name fields) (before ++ input ∷ later) ≡ Some input
find_named [] input later fields named others = rw named refl
find_named (first ∷ before) input later fields named others =
    rw (one_name input.name first.name fields others.0 named) (find_named before input later fields named others.1)

-- inputs with a name more before them
pub others_more : (before : List Declared) (input : Declared) (later : List Declared)
    → AllByRecursion (λ (l : Declared). AllByRecursion (λ (d : Declared). same_name l.name d.name ≡ false) before) later
    → AllByRecursion (λ other. same_name input.name other ≡ false) (map (λ d. d.name) later)
    → AllByRecursion (λ (l : Declared). AllByRecursion (λ (d : Declared). same_name l.name d.name ≡ false) (before ++ input ∷ [])) later
others_more before input [] others apart = tt
others_more before input (l ∷ later) others apart = (
  pushed before others.0,
  others_more before input later others.1 apart.1,
)
  where
    pushed : (ds : List Declared) → AllByRecursion (λ (d : Declared). same_name l.name d.name ≡ false) ds
        → AllByRecursion (λ (d : Declared). same_name l.name d.name ≡ false) (ds ++ input ∷ [])
    pushed [] all = (same_name-flip input.name l.name apart.0, tt)
    pushed (d ∷ ds) all = (all.0, pushed ds all.1)

-- no input stands before the first
pub others_start : (declared : List Declared) → AllByRecursion (λ (l : Declared). AllByRecursion (λ (d : Declared). same_name l.name d.name ≡ false) []) declared
others_start [] = tt
others_start (input ∷ declared) = (tt, others_start declared)

-- a record that names an input gives that one alone something
put_later : (earlier : List Record) (fields : Record) (first : Declared) (declared : List Declared) (place : ℕ) (input : Declared) (o : Option ℕ)
    → ((n : ℕ) → o ≡ Some n → input ≡ get_or declared n input
    → map (slot_of (earlier ++ fields ∷ [])) declared ≡ set (map (slot_of earlier) declared) n (Some (given_by input fields)))
    → option_map (λ n. suc n) o ≡ Some place → input ≡ get_or (first ∷ declared) place input → is_named first.name fields ≡ false
    → map (slot_of (earlier ++ fields ∷ [])) (first ∷ declared) ≡ set (map (slot_of earlier) (first ∷ declared)) place (Some (given_by input fields))
put_later earlier fields first declared place input None below e is other = cc
put_later earlier fields first declared place input (Some n) below e is other =
    let next : suc n ≡ place = cc in
    let P : ℕ → Type 0 = λ k. input ≡ get_or (first ∷ declared) k input in
    let rest = below n refl (subst P (sym next) is) in
    let head = slot-other earlier fields first other in
    let Q : ℕ → Type 0 = λ k. map (slot_of (earlier ++ fields ∷ [])) (first ∷ declared)
    ≡ set (map (slot_of earlier) (first ∷ declared)) k (Some (given_by input fields)) in
    subst Q next (cc (head, rest))

pub slots-put : (earlier : List Record) (fields : Record) (declared : List Declared) (place : ℕ) (input : Declared)
    → HaveDistinctNames declared → place_of (λ input. is_named input.name fields) declared ≡ Some place → input ≡ get_or declared place input
    → list_any (is_named input.name) earlier ≡ false
    → map (slot_of (earlier ++ fields ∷ [])) declared ≡ set (map (slot_of earlier) declared) place (Some (given_by input fields))
slots-put earlier fields [] place input distinct at is none = cc
slots-put earlier fields (first ∷ declared) place input distinct at is none =
    by (is_named first.name fields) refl at (λ n e s. slots-put earlier fields declared n input (IsDistinct-tail same_name first.name (map (λ input. input.name) declared) distinct) e s none)
  where
    by : (t : Bool) → is_named first.name fields ≡ t
        → (if t then Some 0 else option_map (λ n. suc n) (place_of (λ input. is_named input.name fields) declared)) ≡ Some place
        → ((n : ℕ) → place_of (λ input. is_named input.name fields) declared ≡ Some n → input ≡ get_or declared n input
        → map (slot_of (earlier ++ fields ∷ [])) declared ≡ set (map (slot_of earlier) declared) n (Some (given_by input fields)))
        → map (slot_of (earlier ++ fields ∷ [])) (first ∷ declared) ≡ set (map (slot_of earlier) (first ∷ declared)) place (Some (given_by input fields))
    by true here e below =
        let start : 0 ≡ place = cc in
        let P : ℕ → Type 0 = λ k. input ≡ get_or (first ∷ declared) k input in
        let same : input ≡ first = subst P (sym start) is in
        let unheard : list_any (is_named first.name) earlier ≡ false = ap (λ (d : Declared). list_any (is_named d.name) earlier) (sym same) ∙ none in
        let apart = others-passed first.name fields declared here (IsDistinct-head same_name first.name (map (λ input. input.name) declared) distinct) in
        let others = slots-passed earlier fields declared apart in
        let head = slot-first earlier fields first here unheard ∙ ap (λ (d : Declared). Some (given_by d fields)) (sym same) in
        let Q : ℕ → Type 0 = λ k. map (slot_of (earlier ++ fields ∷ [])) (first ∷ declared)
        ≡ set (map (slot_of earlier) (first ∷ declared)) k (Some (given_by input fields)) in
        subst Q start (cc (head, others))
    by false other e below = put_later earlier fields first declared place input (place_of (λ input. is_named input.name fields) declared) below e is other

-- the fault of a record, by the input that it names
pub fault-passed : (declared : List Declared) (earlier : List Record) (row : ℕ) (fields : Record)
    → find (λ input. is_named input.name fields) declared ≡ None → record_fault declared earlier row fields ≡ None
fault-passed declared earlier row fields none = ap (fault_for earlier row fields) none

pub fault-doubled : (declared : List Declared) (earlier : List Record) (row : ℕ) (fields : Record) (input : Declared)
    → find (λ input. is_named input.name fields) declared ≡ Some input → list_any (is_named input.name) earlier ≡ true
    → record_fault declared earlier row fields ≡ Some (Doubled input.name)
fault-doubled declared earlier row fields input found any =
    ap (fault_for earlier row fields) found
    ∙ ap (λ (t : Bool). if t then Some (Doubled input.name) else form_fault input row fields) any

pub fault-form : (declared : List Declared) (earlier : List Record) (row : ℕ) (fields : Record) (input : Declared)
    → find (λ input. is_named input.name fields) declared ≡ Some input → list_any (is_named input.name) earlier ≡ false
    → record_fault declared earlier row fields ≡ form_fault input row fields
fault-form declared earlier row fields input found none =
    ap (fault_for earlier row fields) found
    ∙ ap (λ (t : Bool). if t then Some (Doubled input.name) else form_fault input row fields) none

-- the slots at the end are what the records give
slot-given : (input : Declared) (found : Option Record) (others : Result (List Given) InputFault)
    → with_slot input (option_map (given_by input) found) others ≡ with_given input found others
slot-given input None others = refl
slot-given input (Some fields) (Ok others) = refl
slot-given input (Some fields) (Err fault) = refl

pub given_in-slots : (all : List Record) (declared : List Declared) → given_in declared (map (slot_of all) declared) ≡ given_to all declared
given_in-slots all [] = refl
given_in-slots all (input ∷ declared) =
    slot-given input (find (is_named input.name) all) (given_in declared (map (slot_of all) declared))
    ∙ ap (with_given input (find (is_named input.name) all)) (given_in-slots all declared)

-- the slot of an input is what the earlier records give it
slot_at : (held : Held) (earlier : List Record) (place : ℕ) (input : Declared) (slot : Option Given) → place < length held.declared
    → input ≡ get_or held.declared place input → slot ≡ get_or held.given place slot → IsGivenBy earlier held → slot ≡ slot_of earlier input
slot_at held earlier place input slot below is has given =
    has ∙ ap (λ (slots : List (Option Given)). get_or slots place slot) given
    ∙ get_or-map (slot_of earlier) held.declared place input slot below ∙ ap (slot_of earlier) (sym is)

heard : (held : Held) (earlier : List Record) (place : ℕ) (input : Declared) (slot : Option Given) (t : Bool) → place < length held.declared
    → input ≡ get_or held.declared place input → slot ≡ get_or held.given place slot → is_some slot ≡ t → IsGivenBy earlier held
    → list_any (is_named input.name) earlier ≡ t
heard held earlier place input slot t below is has some given =
    sym (slot-some earlier input) ∙ ap is_some (sym (slot_at held earlier place input slot below is has given)) ∙ some

-- a record that names no input is passed over
pub passed-given : (held : Held) (fields : Record) (earlier : List Record) → position (λ input. is_named input.name fields) held.declared ≡ None
    → IsGivenBy earlier held → held.given ≡ map (slot_of (earlier ++ fields ∷ [])) held.declared
passed-given held fields earlier none given =
    given ∙ sym (slots-passed earlier fields held.declared
    (find-no_place (λ input. is_named input.name fields) held.declared (sym (position-place_of (λ input. is_named input.name fields) held.declared) ∙ none)))

pub passed-faultless : (declared : List Declared) (row : ℕ) (fields : Record) (earlier : List Record)
    → position (λ input. is_named input.name fields) declared ≡ None → record_fault declared earlier row fields ≡ None
passed-faultless declared row fields earlier none =
    fault-passed declared earlier row fields
    (find-no_place (λ input. is_named input.name fields) declared (sym (position-place_of (λ input. is_named input.name fields) declared) ∙ none))

-- what is found of a record that names an input
named_at : (declared : List Declared) (fields : Record) (place : ℕ) (input : Declared)
    → position (λ input. is_named input.name fields) declared ≡ Some place → input ≡ get_or declared place input
    → (place < length declared) × (find (λ input. is_named input.name fields) declared ≡ Some input)
named_at declared fields place input at is =
    find-place (λ input. is_named input.name fields) declared place input (sym (position-place_of (λ input. is_named input.name fields) declared) ∙ at) is

-- a second record of a name
pub doubled-fault : (held : Held) (row : ℕ) (fields : Record) (earlier : List Record) (place : ℕ) (input : Declared) (slot : Option Given) (name : List ℕ)
    → position (λ input. is_named input.name fields) held.declared ≡ Some place → input ≡ get_or held.declared place input
    → slot ≡ get_or held.given place slot → is_some slot ≡ true → name ≡ input.name → IsGivenBy earlier held
    → record_fault held.declared earlier row fields ≡ Some (Doubled name)
doubled-fault held row fields earlier place input slot name at is has some named given =
    let found = named_at held.declared fields place input at is in
    fault-doubled held.declared earlier row fields input found.1 (heard held earlier place input slot true found.0 is has some given)
    ∙ ap (λ n. Some (Doubled n)) (sym named)

-- the first record of a name
pub first-form : (held : Held) (row : ℕ) (fields : Record) (earlier : List Record) (place : ℕ) (input : Declared) (slot : Option Given)
    → position (λ input. is_named input.name fields) held.declared ≡ Some place → input ≡ get_or held.declared place input
    → slot ≡ get_or held.given place slot → is_some slot ≡ false → IsGivenBy earlier held
    → record_fault held.declared earlier row fields ≡ form_fault input row fields
first-form held row fields earlier place input slot at is has none given =
    let found = named_at held.declared fields place input at is in
    fault-form held.declared earlier row fields input found.1 (heard held earlier place input slot false found.0 is has none given)

pub first-given : (held : Held) (fields : Record) (earlier : List Record) (place : ℕ) (input : Declared) (slot : Option Given) (given : Given)
    → HaveDistinctNames held.declared → position (λ input. is_named input.name fields) held.declared ≡ Some place → input ≡ get_or held.declared place input
    → slot ≡ get_or held.given place slot → is_some slot ≡ false → given ≡ given_by input fields → IsGivenBy earlier held
    → set held.given place (Some given) ≡ map (slot_of (earlier ++ fields ∷ [])) held.declared
first-given held fields earlier place input slot given distinct at is has none made so_far =
    let found = named_at held.declared fields place input at is in
    let put = slots-put earlier fields held.declared place input distinct (sym (position-place_of (λ input. is_named input.name fields) held.declared) ∙ at) is
    (heard held earlier place input slot false found.0 is has none so_far) in
    ap (λ (slots : List (Option Given)). set slots place (Some given)) so_far
    ∙ ap (λ g. set (map (slot_of earlier) held.declared) place (Some g)) made ∙ sym put

-- what is in the slots so far, and in those that are left
abbrev pub joined : List Given → Result (List Given) InputFault → Result (List Given) InputFault
joined before (Ok left) = Ok (before ++ left)
joined before (Err fault) = Err fault

-- the slots that are left give what is missing
pub record GivenLeft (declared : List Declared) (all slots : List (Option Given)) (at : ℕ) (before : List Given) : Type 0 where
  pub as_many : length slots ≡ length declared
  pub left : given_in declared all ≡ joined before (given_in (drop at declared) (drop at slots))

-- an element at a place, and those behind it
some_front : {X : Type 0} (xs : List X) (at : ℕ) → at < length xs → (x : X) × (drop at xs ≡ x ∷ drop (suc at) xs)
some_front {X} [] at below = absurd (omega arith)
some_front {X} (x ∷ xs) zero below = (x, refl)
some_front {X} (x ∷ xs) (suc at) below = some_front xs at (omega arith)

joined-more : (input : Declared) (before : List Given) (given : Given) (others : Result (List Given) InputFault)
    → joined before (with_slot input (Some given) others) ≡ joined (before ++ given ∷ []) others
joined-more input before given (Ok others) = ap (λ all. Ok all) (sym (append_assoc before (given ∷ []) others))
joined-more input before given (Err fault) = refl

-- a slot with something
pub given_more : (declared : List Declared) (all slots : List (Option Given)) (at : ℕ) (before : List Given) (given : Given)
    → at < length declared → Some given ≡ get_or slots at None
    → GivenLeft declared all slots at before → GivenLeft declared all (set slots at None) (at + 1) (before ++ given ∷ [])
given_more declared all slots at before given below has so_far = record {
  as_many = length-set slots at None ∙ so_far.as_many;
  left =
      let within : at < length slots = omega (arith, so_far.as_many) in
      let slot : drop at slots ≡ Some given ∷ drop (suc at) slots = drop-cons slots at None within ∙ ap (λ (s : Option Given). s ∷ drop (suc at) slots) (sym has) in
      let front = some_front declared at below in
      let input = front.0 in
      let here : drop at declared ≡ input ∷ drop (suc at) declared = front.1 in
      let later : drop (suc at) (set slots at None) ≡ drop (suc at) slots = drop-set-lt (suc at) slots at None (omega arith) in
      let next : at + 1 ≡ suc at = omega arith in
      so_far.left ∙ rw (next, slot, here, later) (joined-more input before given (given_in (drop (suc at) declared) (drop (suc at) slots)));
}

-- what is left in the slots is what the records give
pub finish-ok : {A : Type 0} (items : A → List Given) (held : Held) (result : Result A InputFault)
    → IfOk result (λ all. given_in held.declared held.given ≡ Ok (items all))
    → IfOk result (λ given. (all : List Record) → IsGivenBy all held → given_to all held.declared ≡ Ok (items given))
finish-ok {A} items held (Ok made) is = λ all given. sym (given_in-slots all held.declared) ∙ ap (given_in held.declared) (sym given) ∙ is
finish-ok {A} items held (Err fault) is = tt

pub finish-err : {A : Type 0} (held : Held) (result : Result A InputFault)
    → IfErr result (λ told. told ≢ Memory → given_in held.declared held.given ≡ Err told)
    → IfErr result (λ told. told ≢ Memory → (all : List Record) → IsGivenBy all held → given_to all held.declared ≡ Err told)
finish-err {A} held (Ok made) is = tt
finish-err {A} held (Err fault) is = λ known all given. sym (given_in-slots all held.declared) ∙ ap (given_in held.declared) (sym given) ∙ is known
