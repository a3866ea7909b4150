-- The records that are left of a text: what one record takes of them.
use Rattle.std.proofs.Common.{◌≡◌, ℕ, zero, suc, ◌+◌, ◌<◌, ◌≤◌, ◌++◌, ◌∷◌, [], List, Bool, true, false, length, refl, sym, ap, ◌∙◌, arith, add-one, inl, inr, subst, drop, get_or}
use Rattle.std.proofs.Math.Seq.{drop-cons}
use Rattle.std.proofs.lemmas.Bool.{cases_Bool, false≢true, ne_eqb}
use Rattle.std.specs.Prelude.{Option, Some, None, ◌==◌, ◌||◌, if◌then◌else◌}
use Rattle.csv.specs.Machine.{Read, ends_at_end, after_end, field_after, fields_after, in_field, start_field, start_record, is_end, next_record, step}
use Rattle.csv.specs.Reading.{default_config, is_bom, records_from, records_next, strip_bom}
use Rattle.csv.specs.declared.parser.Action.TheVariants as act
use Rattle.csv.specs.declared.parser.State.{State}
use Rattle.csv.specs.declared.parser.State.TheVariants as st
use Rattle.csv.specs.declared.parser.Terminator.TheVariants as term
use Rattle.sk_data.proofs.FieldsRead.{IsFound, found_at}
use Rattle.sk_data.specs.declared.machine.Place.TheVariants.{Start}
use Rattle.sk_data.specs.Reading.{IsAtRecord, is_marked, records_between, records_left}
use Rattle.sk_data.specs.Fields.{fields_at, fields_read, rest_at, rest_read}
use Rattle.sk_data.specs.Records.{Record, records_of}

after_between : (c : ℕ) → ends_at_end (after_end term.CRLF c) ≡ false
after_between c = elim (cases_Bool (c == 13)) [
  | inl here ↦ rw here refl
  | inr other ↦ rw other refl
]

-- a byte that ends a record leaves the machine between two records
in_field_ends : (c : ℕ) → is_end (in_field default_config c).1 ≡ true → ends_at_end (in_field default_config c).0 ≡ false
in_field_ends c ends = elim (cases_Bool (c == 44)) [
  | inl comma ↦ absurd (false≢true (rw comma at ends))
  | inr other ↦ elim (cases_Bool ((c == 13) || (c == 10))) [
    | inl line ↦ rw (other, line) (after_between c)
    | inr inside ↦ absurd (false≢true (rw (other, inside) at ends))
  ]
]

start_field_ends : (c : ℕ) → is_end (start_field default_config c).1 ≡ true → ends_at_end (start_field default_config c).0 ≡ false
start_field_ends c ends = elim (cases_Bool (c == 34)) [
  | inl quote ↦ absurd (false≢true (rw quote at ends))
  | inr other ↦ rw other (in_field_ends c (rw other at ends))
]

-- a byte at the start of a record ends none
never : (c : ℕ) → is_end (start_record default_config c).1 ≡ false
never c = elim (cases_Bool (c == 13)) [
  | inl cr ↦ rw cr refl
  | inr not_cr ↦ elim (cases_Bool (c == 10)) [
    | inl lf ↦ rw (not_cr, lf) refl
    | inr not_lf ↦ elim (cases_Bool (c == 34)) [
      | inl quote ↦ rw (not_cr, not_lf, quote) refl
      | inr not_quote ↦ elim (cases_Bool (c == 44)) [
        | inl comma ↦ rw (not_cr, not_lf, not_quote, comma) refl
        | inr other ↦ rw (not_cr, not_lf, not_quote, other) refl
      ]
    ]
  ]
]

never_after_cr : (c : ℕ) → is_end (step default_config st.AfterCr c).1 ≡ false
never_after_cr c = elim (cases_Bool (c == 10)) [
  | inl lf ↦ rw lf refl
  | inr not_lf ↦ elim (cases_Bool (c == 13)) [
    | inl cr ↦ rw (not_lf, cr) refl
    | inr not_cr ↦ elim (cases_Bool (c == 34)) [
      | inl quote ↦ rw (not_lf, not_cr, quote) refl
      | inr not_quote ↦ elim (cases_Bool (c == 44)) [
        | inl comma ↦ rw (not_lf, not_cr, not_quote, comma) refl
        | inr other ↦ rw (not_lf, not_cr, not_quote, other) refl
      ]
    ]
  ]
]

step_ends : (s : State) (c : ℕ) → is_end (step default_config s c).1 ≡ true → ends_at_end (step default_config s c).0 ≡ false
step_ends st.StartRecord c ends = absurd (false≢true (sym (never c) ∙ ends))
step_ends st.StartField c ends = start_field_ends c ends
step_ends st.InField c ends = in_field_ends c ends
step_ends st.InQuoted c ends = elim (cases_Bool (c == 34)) [
  | inl quote ↦ absurd (false≢true (rw quote at ends))
  | inr other ↦ absurd (false≢true (rw other at ends))
]
step_ends st.InEscape c ends = absurd (false≢true ends)
step_ends st.AfterQuote c ends = elim (cases_Bool (c == 34)) [
  | inl quote ↦ absurd (false≢true (rw quote at ends))
  | inr other ↦ rw other (in_field_ends c (rw other at ends))
]
step_ends st.InComment c ends = elim (cases_Bool (c == 10)) [
  | inl line ↦ absurd (false≢true (rw line at ends))
  | inr other ↦ absurd (false≢true (rw other at ends))
]
step_ends st.AfterCr c ends = absurd (false≢true (sym (never_after_cr c) ∙ ends))

-- what is left behind a record
record IsBehind (p : Read) (most : ℕ) : Type 0 where
  between : ends_at_end p.1 ≡ false
  few : length p.2 ≤ most

behind : (q p : Read) (most : ℕ) → Some q ≡ Some p → ends_at_end q.1 ≡ false → length q.2 ≤ most → IsBehind p most
behind q p most is between few =
    let same : q ≡ p = cc in
    let P : Read → Type 0 = λ r. IsBehind r most in
    subst P same (record { between = between; few = few })

-- a record that is read leaves the machine between two records, and no byte more than there were
next_behind : (s : State) (fields : List (List ℕ)) (field xs : List ℕ) (p : Read) → next_record default_config s fields field xs ≡ Some p
    → IsBehind p (length xs)
unfolding next_record
next_behind s fields field [] p is = by (ends_at_end s) is
  where
    by : (t : Bool) → (if t then Some (fields ++ (field ∷ []), st.StartRecord, []) else None) ≡ Some p → IsBehind p 0
    by true e = behind (fields ++ (field ∷ []), st.StartRecord, []) p 0 e refl (omega arith)
    by false e = cc
next_behind s fields field (c ∷ rest) p is =
    by (is_end (step default_config s c).1) refl is (λ e. next_behind (step default_config s c).0 (fields_after (step default_config s c).1 fields field) (field_after (step default_config s c).1 c field) rest p e)
  where
    by : (t : Bool) → is_end (step default_config s c).1 ≡ t
        → (if t then Some (fields_after (step default_config s c).1 fields field, (step default_config s c).0, rest)
        else next_record default_config (step default_config s c).0 (fields_after (step default_config s c).1 fields field) (field_after (step default_config s c).1 c field) rest) ≡ Some p
        → (next_record default_config (step default_config s c).0 (fields_after (step default_config s c).1 fields field) (field_after (step default_config s c).1 c field) rest ≡ Some p → IsBehind p (length rest))
        → IsBehind p (length (c ∷ rest))
    by true ends e more = behind (fields_after (step default_config s c).1 fields field, (step default_config s c).0, rest) p (length (c ∷ rest)) e (step_ends s c ends) (omega arith)
    by false ends e more =
        let after = more e in
        record { between = after.between; few = omega (arith, after.few) }

-- between two records a record takes a byte at least
next_shorter : (s : State) (xs : List ℕ) (p : Read) → ends_at_end s ≡ false → next_record default_config s [] [] xs ≡ Some p → length p.2 < length xs
unfolding next_record
next_shorter s [] p between is = let none : None ≡ Some p = rw between at is in cc
next_shorter s (c ∷ rest) p between is = by (is_end (step default_config s c).1) is
  where
    by : (t : Bool)
        → (if t then Some (fields_after (step default_config s c).1 [] [], (step default_config s c).0, rest)
        else next_record default_config (step default_config s c).0 (fields_after (step default_config s c).1 [] []) (field_after (step default_config s c).1 c []) rest) ≡ Some p
        → length p.2 < length (c ∷ rest)
    by true e =
        let left : rest ≡ p.2 = cc in
        let same = ap length left in omega (arith, same)
    by false e =
        let more = next_behind (step default_config s c).0 (fields_after (step default_config s c).1 [] []) (field_after (step default_config s c).1 c []) rest p e in
        omega (arith, more.few)

-- as many records as a text has bytes are enough
records_enough : (n m : ℕ) (s : State) (xs : List ℕ) → ends_at_end s ≡ false → length xs < n → length xs < m
    → records_from default_config n s xs ≡ records_from default_config m s xs
unfolding records_from
records_enough zero m s xs between few some = absurd (omega arith)
records_enough (suc n) zero s xs between few some = absurd (omega arith)
records_enough (suc n) (suc m) s xs between few some =
    by (next_record default_config s [] [] xs) refl (λ p b f g. records_enough n m p.1 p.2 b f g)
  where
    by : (o : Option Read) → next_record default_config s [] [] xs ≡ o
        → ((p : Read) → ends_at_end p.1 ≡ false → length p.2 < n → length p.2 < m → records_from default_config n p.1 p.2 ≡ records_from default_config m p.1 p.2)
        → records_next (records_from default_config n) o ≡ records_next (records_from default_config m) o
    by None is more = refl
    by (Some p) is more =
        let shorter = next_shorter s xs p between is in
        let after = next_behind s [] [] xs p is in
        ap (λ rest. p.0 ∷ rest) (more p after.between (omega (arith, shorter)) (omega (arith, shorter)))

pub records_some : (s : State) (xs : List ℕ) (p : Read) → ends_at_end s ≡ false → next_record default_config s [] [] xs ≡ Some p
    → records_between s xs ≡ p.0 ∷ records_between p.1 p.2
unfolding records_from
records_some s xs p between is =
    let one : length xs + 1 ≡ suc (length xs) = omega arith in
    let shorter = next_shorter s xs p between is in
    let after = next_behind s [] [] xs p is in
    let first : records_from default_config (suc (length xs)) s xs ≡ p.0 ∷ records_from default_config (length xs) p.1 p.2 =
    ap (records_next (records_from default_config (length xs))) is in
    ap (λ n. records_from default_config n s xs) one ∙ first
    ∙ ap (λ more. p.0 ∷ more) (records_enough (length xs) (length p.2 + 1) p.1 p.2 after.between shorter (omega arith))

pub records_none : (s : State) (xs : List ℕ) → next_record default_config s [] [] xs ≡ None → records_between s xs ≡ []
unfolding records_from
records_none s xs is =
    let one : length xs + 1 ≡ suc (length xs) = omega arith in
    ap (λ n. records_from default_config n s xs) one ∙ ap (records_next (records_from default_config (length xs))) is

-- there are no more records than bytes
records_from-few : (n : ℕ) (s : State) (xs : List ℕ) → ends_at_end s ≡ false → length (records_from default_config n s xs) ≤ length xs
unfolding records_from
records_from-few zero s xs between = omega arith
records_from-few (suc n) s xs between = by (next_record default_config s [] [] xs) refl (λ p b. records_from-few n p.1 p.2 b)
  where
    by : (o : Option Read) → next_record default_config s [] [] xs ≡ o
        → ((p : Read) → ends_at_end p.1 ≡ false → length (records_from default_config n p.1 p.2) ≤ length p.2)
        → length (records_next (records_from default_config n) o) ≤ length xs
    by None is more = omega arith
    by (Some p) is more =
        let shorter = next_shorter s xs p between is in
        let after = next_behind s [] [] xs p is in
        let fewer = more p after.between in omega (arith, shorter, fewer)

strip_bom-few : (xs : List ℕ) → length (strip_bom xs) ≤ length xs
unfolding strip_bom
strip_bom-few [] = omega arith
strip_bom-few (a ∷ []) = omega arith
strip_bom-few (a ∷ b ∷ []) = omega arith
strip_bom-few (a ∷ b ∷ c ∷ rest) = elim (cases_Bool (is_bom a b c)) [
  | inl mark ↦ rw mark (omega arith)
  | inr other ↦ rw other (omega arith)
]

pub records_few : (bytes : List ℕ) → length (records_of bytes) ≤ length bytes
records_few bytes =
    let few = records_from-few (length (strip_bom bytes) + 1) st.StartRecord (strip_bom bytes) refl in
    let stripped = strip_bom-few bytes in omega arith

-- what the next record of two texts is settles the records that are left
records_same : (s t : State) (xs ys : List ℕ) → ends_at_end s ≡ false → ends_at_end t ≡ false
    → next_record default_config s [] [] xs ≡ next_record default_config t [] [] ys → records_between s xs ≡ records_between t ys
records_same s t xs ys one other same = by (next_record default_config t [] [] ys) refl
  where
    by : (o : Option Read) → next_record default_config t [] [] ys ≡ o → records_between s xs ≡ records_between t ys
    by None is = records_none s xs (same ∙ is) ∙ sym (records_none t ys is)
    by (Some p) is = records_some s xs p one (same ∙ is) ∙ sym (records_some t ys p other is)

-- the end of a line in front of a text
line_end : (c : ℕ) → ((c == 13) || (c == 10)) ≡ true → step default_config st.StartRecord c ≡ (st.StartRecord, act.Skip)
line_end c is = rw is refl

pub ends_passed : (c : ℕ) (rest : List ℕ) → ((c == 13) || (c == 10)) ≡ true → records_left (c ∷ rest) ≡ records_left rest
unfolding next_record
ends_passed c rest is = records_same st.StartRecord st.StartRecord (c ∷ rest) rest refl refl (rw (line_end c is) refl)

-- a byte that ends no line stands in front of a field
pub starts_field : (c : ℕ) (rest : List ℕ) → ((c == 13) || (c == 10)) ≡ false
    → next_record default_config st.StartRecord [] [] (c ∷ rest) ≡ next_record default_config st.StartField [] [] (c ∷ rest)
unfolding next_record
starts_field c rest is = rw is refl

-- behind a carriage return the records are those of the start of a line
after_cr : (c : ℕ) → step default_config st.AfterCr c ≡ step default_config st.StartRecord c
after_cr c = elim (cases_Bool (c == 10)) [
  | inl lf ↦ rw lf (elim (cases_Bool (c == 13)) [
    | inl cr ↦ rw cr refl
    | inr other ↦ rw other refl
  ])
  | inr other ↦ rw other refl
]

next_after_cr : (xs : List ℕ) → next_record default_config st.AfterCr [] [] xs ≡ next_record default_config st.StartRecord [] [] xs
unfolding next_record
next_after_cr [] = refl
next_after_cr (c ∷ rest) = rw (after_cr c) refl

records_after : (s : State) (xs : List ℕ) → ends_at_end s ≡ false → records_between s xs ≡ records_left xs
records_after st.StartRecord xs between = refl
records_after st.AfterCr xs between = records_same st.AfterCr st.StartRecord xs xs refl refl (next_after_cr xs)
records_after st.StartField xs between = absurd (false≢true (sym between))
records_after st.InField xs between = absurd (false≢true (sym between))
records_after st.InQuoted xs between = absurd (false≢true (sym between))
records_after st.AfterQuote xs between = absurd (false≢true (sym between))
records_after st.InEscape xs between = absurd (false≢true (sym between))
records_after st.InComment xs between = absurd (false≢true (sym between))

-- the record in front of a text, and those that are left behind it
pub record Leaves (text : List ℕ) : Type 0 where
  pub next : records_left text ≡ fields_at text ∷ records_left (rest_at text)
  pub fewer : length (rest_at text) < length text

some_next : (c : ℕ) (rest : List ℕ) (p : Read) → next_record default_config st.StartRecord [] [] (c ∷ rest) ≡ Some p
    → next_record default_config st.StartField [] [] (c ∷ rest) ≡ Some p → Leaves (c ∷ rest)
some_next c rest p at_start at_field =
    let after = next_behind st.StartRecord [] [] (c ∷ rest) p at_start in
    let shorter = next_shorter st.StartRecord (c ∷ rest) p refl at_start in
    let fields : fields_at (c ∷ rest) ≡ p.0 = ap fields_read at_field in
    let behind : rest_at (c ∷ rest) ≡ p.2 = ap rest_read at_field in
    record {
      next =
          records_some st.StartRecord (c ∷ rest) p refl at_start ∙ ap (λ more. p.0 ∷ more) (records_after p.1 p.2 after.between)
          ∙ ap (λ (f : Record). f ∷ records_left p.2) (sym fields) ∙ ap (λ (xs : List ℕ). fields_at (c ∷ rest) ∷ records_left xs) (sym behind);
      fewer = let same = ap length behind in omega (arith, same, shorter);
    }

pub record_leaves : (text : List ℕ) → 0 < length text → IsAtRecord text → Leaves text
record_leaves [] some starts = absurd (omega arith)
record_leaves (c ∷ rest) some starts =
    by (next_record default_config st.StartField [] [] (c ∷ rest)) refl (found_at Start [] [] (c ∷ rest))
  where
    by : (o : Option Read) → next_record default_config st.StartField [] [] (c ∷ rest) ≡ o → IsFound o → Leaves (c ∷ rest)
    by None is found = absurd found
    by (Some p) is found = some_next c rest p (starts some ∙ is) is

-- a text without a byte has no records left
pub nothing_left : (text : List ℕ) → length text ≤ 0 → records_left text ≡ []
unfolding next_record
nothing_left [] none = records_none st.StartRecord [] refl
nothing_left (c ∷ rest) none = absurd (omega arith)

-- the ends of lines in front of a text were passed up to this place
pub record IsPassed (text : List ℕ) (at : ℕ) : Type 0 where
  pub left : records_left (drop at text) ≡ records_left text

pub end_more : (text : List ℕ) (at : ℕ) → at < length text → ((get_or text at 0 == 13) || (get_or text at 0 == 10)) ≡ true
    → IsPassed text at → IsPassed text (at + 1)
end_more text at below is passed = record {
  left =
      let here : drop at text ≡ get_or text at 0 ∷ drop (at + 1) text = rw add-one (drop-cons text at 0 below) in
      sym (ends_passed (get_or text at 0) (drop (at + 1) text) is) ∙ ap records_left (sym here) ∙ passed.left;
}

pub record_here : (text result : List ℕ) (at : ℕ) → at < length text → ((get_or text at 0 == 13) || (get_or text at 0 == 10)) ≡ false
    → result ≡ drop at text → IsAtRecord result
record_here text result at below is same =
    let here : result ≡ get_or text at 0 ∷ drop (at + 1) text = same ∙ rw add-one (drop-cons text at 0 below) in
    subst IsAtRecord (sym here) (λ some. starts_field (get_or text at 0) (drop (at + 1) text) is)

-- the byte order mark in front of a text
pub marked_at : (bytes : List ℕ) → 3 ≤ length bytes → is_marked bytes ≡ is_bom (get_or bytes 0 0) (get_or bytes 1 0) (get_or bytes 2 0)
marked_at [] some = absurd (omega arith)
marked_at (a ∷ []) some = absurd (omega arith)
marked_at (a ∷ b ∷ []) some = absurd (omega arith)
marked_at (a ∷ b ∷ c ∷ rest) some = refl

pub few_bare : (bytes : List ℕ) → length bytes < 3 → is_marked bytes ≡ false
few_bare [] few = refl
few_bare (a ∷ []) few = refl
few_bare (a ∷ b ∷ []) few = refl
few_bare (a ∷ b ∷ c ∷ rest) few = absurd (omega arith)

pub marked_long : (bytes : List ℕ) → is_marked bytes ≡ true → 3 ≤ length bytes
marked_long [] is = absurd (false≢true is)
marked_long (a ∷ []) is = absurd (false≢true is)
marked_long (a ∷ b ∷ []) is = absurd (false≢true is)
marked_long (a ∷ b ∷ c ∷ rest) is = omega arith

pub marked_stripped : (bytes : List ℕ) → is_marked bytes ≡ true → drop 3 bytes ≡ strip_bom bytes
unfolding strip_bom
marked_stripped [] is = absurd (false≢true is)
marked_stripped (a ∷ []) is = absurd (false≢true is)
marked_stripped (a ∷ b ∷ []) is = absurd (false≢true is)
marked_stripped (a ∷ b ∷ c ∷ rest) is = rw is refl

pub bare_stripped : (bytes : List ℕ) → is_marked bytes ≡ false → bytes ≡ strip_bom bytes
unfolding strip_bom
bare_stripped [] is = refl
bare_stripped (a ∷ []) is = refl
bare_stripped (a ∷ b ∷ []) is = refl
bare_stripped (a ∷ b ∷ c ∷ rest) is = rw is refl

-- the bytes that end a line, and others
pub ends_lf : (c : ℕ) → c ≡ 10 → ((c == 13) || (c == 10)) ≡ true
ends_lf c is = rw is refl

pub ends_cr : (c : ℕ) → c ≡ 13 → ((c == 13) || (c == 10)) ≡ true
ends_cr c is = rw is refl

pub ends_none : (c : ℕ) → (c ≡ 13 → ⊥) → (c ≡ 10 → ⊥) → ((c == 13) || (c == 10)) ≡ false
ends_none c not_cr not_lf = rw (ne_eqb c 13 not_cr, ne_eqb c 10 not_lf) refl
