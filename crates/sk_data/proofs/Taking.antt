-- The records of a text, taken one after another.
use Rattle.std.proofs.Common.{◌≡◌, ℕ, suc, ◌+◌, ◌<◌, ◌≤◌, ◌^◌, Bool, true, false, List, [], ◌∷◌, ◌++◌, length, refl, sym, ap, ◌∙◌, arith, append_assoc, subst}
use Rattle.std.proofs.lemmas.Bool.Decides.{nat_tests}
use Rattle.std.proofs.lemmas.List.{append-nil, length-append}
use Rattle.std.specs.Prelude.{Some, None, ◌==◌}
use Rattle.std.specs.Option.{option_or}
use Rattle.csv.specs.Reading.{strip_bom}
use Rattle.sk_tree.specs.declared.declared.Declared.{Declared}
use Rattle.sk_data.specs.Fields.{fields_at, rest_at}
use Rattle.sk_data.specs.Held.{Held, IsGivenBy}
use Rattle.sk_data.specs.Reading.{IsAtRecord, records_left}
use Rattle.sk_data.specs.Records.{Record, first_fault, record_fault, records_of}
use Rattle.sk_data.specs.declared.fault.InputFault.{InputFault}
use Rattle.sk_data.proofs.ReadingOn.{nothing_left, record_leaves, records_few}

-- so many records were taken, without a fault, and the others are left
pub record IsTaking (declared : List Declared) (bytes rest : List ℕ) (held : Held) (row : ℕ) : Type 0 where
  pub earlier : List Record
  pub starts : IsAtRecord rest
  pub same : held.declared ≡ declared
  pub given : IsGivenBy earlier held
  pub counted : row ≡ length earlier
  pub all : records_of bytes ≡ earlier ++ records_left rest
  pub faultless : first_fault declared [] (records_of bytes) ≡ first_fault declared earlier (records_left rest)

pub taking_starts : (bytes bare rest : List ℕ) (held : Held) → bare ≡ strip_bom bytes → records_left rest ≡ records_left bare → IsAtRecord rest
    → IsGivenBy [] held → IsTaking held.declared bytes rest held 0
taking_starts bytes bare rest held stripped passed starts given =
    let all : records_of bytes ≡ records_left rest = ap records_left (sym stripped) ∙ sym passed in
    record {
      earlier = [];
      starts = starts;
      same = refl;
      given = given;
      counted = refl;
      all = all;
      faultless = ap (first_fault held.declared []) all;
    }

-- the number of the next record
pub next_fits : (declared : List Declared) (bytes rest : List ℕ) (held : Held) (row : ℕ)
    → IsTaking declared bytes rest held row → 0 < length rest → length bytes < 2 ^ 31 → row + 1 < 2 ^ 31
next_fits declared bytes rest held row taking some few =
    let next = (record_leaves rest some taking.starts).next in
    let whole : length (records_of bytes) ≡ length taking.earlier + suc (length (records_left (rest_at rest))) =
    ap length taking.all ∙ length-append taking.earlier (records_left rest) ∙ ap (λ (r : List Record). length taking.earlier + length r) next in
    let bounded = records_few bytes in
    omega (arith, whole, bounded, taking.counted)

-- a record more
pub taking_more : (declared : List Declared) (bytes rest behind : List ℕ) (held then : Held) (row : ℕ)
    → IsTaking declared bytes rest held row → 0 < length rest → IsAtRecord behind → records_left behind ≡ records_left (rest_at rest)
    → then.declared ≡ held.declared
    → ((earlier : List Record) → IsGivenBy earlier held → IsGivenBy (earlier ++ fields_at rest ∷ []) then)
    → ((earlier : List Record) → IsGivenBy earlier held → record_fault held.declared earlier (row + 1) (fields_at rest) ≡ None)
    → IsTaking declared bytes behind then (row + 1)
taking_more declared bytes rest behind held then row taking some starts passed same taken faultless =
    let next : records_left rest ≡ fields_at rest ∷ records_left behind =
    (record_leaves rest some taking.starts).next ∙ ap (λ (r : List Record). fields_at rest ∷ r) (sym passed) in
    record {
      earlier = taking.earlier ++ fields_at rest ∷ [];
      starts = starts;
      same = same ∙ taking.same;
      given = taken taking.earlier taking.given;
      counted = let longer = length-append taking.earlier (fields_at rest ∷ []) in omega (arith, longer, taking.counted);
      all = taking.all ∙ ap (λ (r : List Record). taking.earlier ++ r) next ∙ sym (append_assoc taking.earlier (fields_at rest ∷ []) (records_left behind));
      faultless =
          let none : record_fault declared taking.earlier (length taking.earlier + 1) (fields_at rest) ≡ None =
          rw (← taking.same, ← taking.counted) (faultless taking.earlier taking.given) in
          taking.faultless ∙ ap (first_fault declared taking.earlier) next
          ∙ ap (λ o. option_or o (first_fault declared (taking.earlier ++ fields_at rest ∷ []) (records_left behind))) none;
    }

-- the same of a record's text
pub taken_next : (declared : List Declared) (bytes rest text left behind : List ℕ) (held then : Held) (row : ℕ)
    → IsTaking declared bytes rest held row → 0 < length rest → text ≡ rest → left ≡ rest_at text → IsAtRecord behind → records_left behind ≡ records_left left
    → then.declared ≡ held.declared
    → ((earlier : List Record) → IsGivenBy earlier held → IsGivenBy (earlier ++ fields_at text ∷ []) then)
    → ((earlier : List Record) → IsGivenBy earlier held → record_fault held.declared earlier (row + 1) (fields_at text) ≡ None)
    → IsTaking declared bytes behind then (row + 1)
taken_next declared bytes rest text left behind held then row taking some is goes starts passed same taken faultless =
    let at_text = subst (λ (t : List ℕ). IsTaking declared bytes t held row) (sym is) taking in
    let more = subst (λ (t : List ℕ). 0 < length t) (sym is) some in
    taking_more declared bytes text behind held then row at_text more starts (passed ∙ ap records_left goes) same taken faultless

-- the fault of the next record is the first
pub fault_next : (declared : List Declared) (bytes rest text : List ℕ) (held : Held) (row : ℕ) (fault : InputFault)
    → IsTaking declared bytes rest held row → 0 < length rest → text ≡ rest
    → ((earlier : List Record) → IsGivenBy earlier held → record_fault held.declared earlier (row + 1) (fields_at text) ≡ Some fault)
    → first_fault declared [] (records_of bytes) ≡ Some fault
fault_next declared bytes rest text held row fault taking some is told =
    let next : records_left rest ≡ fields_at text ∷ records_left (rest_at rest) =
    (record_leaves rest some taking.starts).next ∙ ap (λ (t : List ℕ). fields_at t ∷ records_left (rest_at rest)) (sym is) in
    let here : record_fault declared taking.earlier (length taking.earlier + 1) (fields_at text) ≡ Some fault =
    rw (← taking.same, ← taking.counted) (told taking.earlier taking.given) in
    taking.faultless ∙ ap (first_fault declared taking.earlier) next
    ∙ ap (λ o. option_or o (first_fault declared (taking.earlier ++ fields_at text ∷ []) (records_left (rest_at rest)))) here

-- the next record takes a byte at least
pub smaller_next : (rest text left behind : List ℕ) → 0 < length rest → IsAtRecord rest → text ≡ rest → left ≡ rest_at text → length behind ≤ length left
    → length behind < length rest
smaller_next rest text left behind some starts is goes few =
    let fewer = (record_leaves rest some starts).fewer in
    let same : length left ≡ length (rest_at rest) = ap length (goes ∙ ap rest_at is) in
    omega (arith, fewer, same, few)

-- all records were taken
pub all_given : (declared : List Declared) (bytes rest : List ℕ) (held : Held) (row : ℕ) → IsTaking declared bytes rest held row → length rest ≤ 0
    → IsGivenBy (records_of bytes) held
all_given declared bytes rest held row taking none =
    let all : records_of bytes ≡ taking.earlier =
    taking.all ∙ ap (λ (r : List Record). taking.earlier ++ r) (nothing_left rest none) ∙ append-nil taking.earlier in
    subst (λ (r : List Record). IsGivenBy r held) (sym all) taking.given

pub all_faultless : (declared : List Declared) (bytes rest : List ℕ) (held : Held) (row : ℕ) → IsTaking declared bytes rest held row → length rest ≤ 0
    → first_fault declared [] (records_of bytes) ≡ None
all_faultless declared bytes rest held row taking none = taking.faultless ∙ ap (first_fault declared taking.earlier) (nothing_left rest none)

-- whether bytes are left
pub some_left : (xs : List ℕ) (t : Bool) → t ≡ (length xs == 0) → t ≡ false → 0 < length xs
some_left xs t is left = let test : (length xs == 0) ≡ false = sym is ∙ left in grind (arith, nat_tests)

pub none_left : (xs : List ℕ) (t : Bool) → t ≡ (length xs == 0) → t ≡ true → length xs ≤ 0
none_left xs t is none = let test : (length xs == 0) ≡ true = sym is ∙ none in grind (arith, nat_tests)
