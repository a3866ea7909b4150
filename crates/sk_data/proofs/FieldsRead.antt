-- A field in front of a text, read byte by byte.
use Rattle.std.proofs.Common.{◌≡◌, ℕ, suc, ◌+◌, ◌-◌, ◌<◌, ◌≤◌, ◌++◌, ◌∷◌, [], List, Bool, true, false, length, drop, take, get_or, refl, sym, ap, ◌∙◌, arith, add-one, inl, inr, subst}
use Rattle.std.proofs.Math.Seq.{drop-cons}
use Rattle.std.proofs.lemmas.List.{drop_all, length-drop, take_all}
use Rattle.std.proofs.lemmas.Bool.{cases_Bool, true≢false}
use Rattle.std.specs.Prelude.{Option, Some, None, option_map, ◌==◌, ◌||◌, ⊤, if◌then◌else◌}
use Rattle.csv.specs.Machine.{Read, ends_at_end, field_after, fields_after, in_field, is_end, next_record, step}
use Rattle.csv.specs.Reading.{default_config}
use Rattle.csv.specs.declared.parser.Action.{Action}
use Rattle.csv.specs.declared.parser.Action.TheVariants as act
use Rattle.csv.specs.declared.parser.State.{State}
use Rattle.csv.specs.declared.parser.State.TheVariants as st
use Rattle.sk_data.specs.Fields.{EndsField, fields_at, fields_read, rest_at, rest_read}
use Rattle.sk_data.specs.Machine.{Tells, state_at}
use Rattle.sk_data.specs.declared.machine.Place.{Place}
use Rattle.sk_data.specs.declared.machine.Place.TheVariants.{Start, Plain, Quoted, Closed}
use Rattle.sk_data.specs.declared.machine.Step.{Step}
use Rattle.sk_data.specs.declared.machine.Step.TheVariants as does

-- one byte: it is passed over, joins the field at hand, ends it, or ends the record
next_skip : (s t : State) (fields : List (List ℕ)) (field : List ℕ) (c : ℕ) (rest : List ℕ) → step default_config s c ≡ (t, act.Skip)
    → next_record default_config s fields field (c ∷ rest) ≡ next_record default_config t fields field rest
unfolding next_record
next_skip s t fields field c rest is = rw is refl

next_copy : (s t : State) (fields : List (List ℕ)) (field : List ℕ) (c : ℕ) (rest : List ℕ) → step default_config s c ≡ (t, act.Copy)
    → next_record default_config s fields field (c ∷ rest) ≡ next_record default_config t fields (field ++ c ∷ []) rest
unfolding next_record
next_copy s t fields field c rest is = rw is refl

next_field : (s t : State) (fields : List (List ℕ)) (field : List ℕ) (c : ℕ) (rest : List ℕ) → step default_config s c ≡ (t, act.EndField)
    → next_record default_config s fields field (c ∷ rest) ≡ next_record default_config t (fields ++ field ∷ []) [] rest
unfolding next_record
next_field s t fields field c rest is = rw is refl

next_last : (s : State) (fields : List (List ℕ)) (field : List ℕ) (c : ℕ) (rest : List ℕ) → (step default_config s c).1 ≡ act.EndRecord
    → next_record default_config s fields field (c ∷ rest) ≡ Some (fields ++ field ∷ [], (step default_config s c).0, rest)
unfolding next_record
next_last s fields field c rest is = rw is refl

next_end : (s : State) (fields : List (List ℕ)) (field : List ℕ) → ends_at_end s ≡ true
    → next_record default_config s fields field [] ≡ Some (fields ++ field ∷ [], st.StartRecord, [])
unfolding next_record
next_end s fields field ends = rw ends refl

-- a field more in front of those of a record
abbrev in_front : List ℕ → Read → Read
in_front first read = (first ∷ read.0, read.1, read.2)

-- the fields before the field at hand stand in front of those behind it
next_in_front : (s : State) (first : List ℕ) (fields : List (List ℕ)) (field xs : List ℕ)
    → next_record default_config s (first ∷ fields) field xs ≡ option_map (in_front first) (next_record default_config s fields field xs)
unfolding next_record
next_in_front s first fields field [] = by (ends_at_end s)
  where
    by : (t : Bool) → (if t then Some ((first ∷ fields) ++ (field ∷ []), st.StartRecord, []) else None)
        ≡ option_map (in_front first) (if t then Some (fields ++ (field ∷ []), st.StartRecord, []) else None)
    by true = refl
    by false = refl
next_in_front s first fields field (c ∷ rest) =
    by (step default_config s c).1 (λ t fields field. next_in_front t first fields field rest)
  where
    by : (a : Action)
        → ((t : State) (fields : List (List ℕ)) (field : List ℕ) → next_record default_config t (first ∷ fields) field rest ≡ option_map (in_front first) (next_record default_config t fields field rest))
        → (if is_end a then Some (fields_after a (first ∷ fields) field, (step default_config s c).0, rest)
        else next_record default_config (step default_config s c).0 (fields_after a (first ∷ fields) field) (field_after a c field) rest)
        ≡ option_map (in_front first) (if is_end a then Some (fields_after a fields field, (step default_config s c).0, rest)
        else next_record default_config (step default_config s c).0 (fields_after a fields field) (field_after a c field) rest)
    by act.Skip more = more (step default_config s c).0 fields field
    by act.Copy more = more (step default_config s c).0 fields (field ++ c ∷ [])
    by act.EndField more = more (step default_config s c).0 (fields ++ field ∷ []) []
    by act.EndRecord more = refl

-- there is a record
abbrev pub IsFound : Option Read → Type 0
IsFound None = ⊥
IsFound (Some read) = ⊤

fields_in_front : (first : List ℕ) (o : Option Read) → IsFound o → fields_read (option_map (in_front first) o) ≡ first ∷ fields_read o
fields_in_front first None found = absurd found
fields_in_front first (Some read) found = refl

rest_in_front : (first : List ℕ) (o : Option Read) → rest_read (option_map (in_front first) o) ≡ rest_read o
rest_in_front first None = refl
rest_in_front first (Some read) = refl

place_ends : (place : Place) → ends_at_end (state_at place) ≡ true
place_ends Start = refl
place_ends Plain = refl
place_ends Quoted = refl
place_ends Closed = refl

-- what each byte does inside a record
plain_told : (c : ℕ) → (s : Step) × Tells s (in_field default_config c)
plain_told c = elim (cases_Bool (c == 44)) [
  | inl comma ↦ (does.EndsField, rw comma refl)
  | inr other ↦ elim (cases_Bool ((c == 13) || (c == 10))) [
    | inl line ↦ (does.EndsRecord, rw (other, line) refl)
    | inr inside ↦ (does.Joins Plain, rw (other, inside) refl)
  ]
]

step_told : (place : Place) (c : ℕ) → (s : Step) × Tells s (step default_config (state_at place) c)
step_told Start c = elim (cases_Bool (c == 34)) [
  | inl quote ↦ (does.Passes Quoted, rw quote refl)
  | inr other ↦ rw other (plain_told c)
]
step_told Plain c = plain_told c
step_told Quoted c = elim (cases_Bool (c == 34)) [
  | inl quote ↦ (does.Passes Closed, rw quote refl)
  | inr other ↦ (does.Joins Quoted, rw other refl)
]
step_told Closed c = elim (cases_Bool (c == 34)) [
  | inl quote ↦ (does.Joins Quoted, rw quote refl)
  | inr other ↦ rw other (plain_told c)
]

-- inside a record there is always one
pub found_at : (place : Place) (fields : List (List ℕ)) (field xs : List ℕ) → IsFound (next_record default_config (state_at place) fields field xs)
found_at place fields field [] = subst IsFound (sym (next_end (state_at place) fields field (place_ends place))) tt
found_at place fields field (c ∷ rest) =
    let told = step_told place c in
    by told.0 told.1 (λ p fs f. found_at p fs f rest)
  where
    by : (s : Step) → Tells s (step default_config (state_at place) c)
        → ((p : Place) (fs : List (List ℕ)) (f : List ℕ) → IsFound (next_record default_config (state_at p) fs f rest))
        → IsFound (next_record default_config (state_at place) fields field (c ∷ rest))
    by (does.Passes p) is more = subst IsFound (sym (next_skip (state_at place) (state_at p) fields field c rest is)) (more p fields field)
    by (does.Joins p) is more = subst IsFound (sym (next_copy (state_at place) (state_at p) fields field c rest is)) (more p fields (field ++ c ∷ []))
    by does.EndsField is more = subst IsFound (sym (next_field (state_at place) st.StartField fields field c rest is)) (more Start (fields ++ field ∷ []) [])
    by does.EndsRecord is more = subst IsFound (sym (next_last (state_at place) fields field c rest is)) tt

-- the first bytes of a field were read
pub record IsInField (Took : List ℕ → Type 0) (text : List ℕ) (at : ℕ) (place : Place) : Type 0 where
  pub so_far : List ℕ
  pub took : Took so_far
  pub same : next_record default_config st.StartField [] [] text ≡ next_record default_config (state_at place) [] so_far (drop at text)

byte_at : (text : List ℕ) (at : ℕ) → at < length text → drop at text ≡ get_or text at 0 ∷ drop (at + 1) text
byte_at text at below = rw add-one (drop-cons text at 0 below)

pub field_passes : (Took : List ℕ → Type 0) (text : List ℕ) (at : ℕ) (place next : Place) → at < length text
    → Tells (does.Passes next) (step default_config (state_at place) (get_or text at 0)) → IsInField Took text at place → IsInField Took text (at + 1) next
field_passes Took text at place next below is inside = record {
  so_far = inside.so_far;
  took = inside.took;
  same =
      inside.same ∙ ap (next_record default_config (state_at place) [] inside.so_far) (byte_at text at below)
      ∙ next_skip (state_at place) (state_at next) [] inside.so_far (get_or text at 0) (drop (at + 1) text) is;
}

pub field_joins : (Took Takes : List ℕ → Type 0) (text : List ℕ) (at : ℕ) (place next : Place) → at < length text
    → Tells (does.Joins next) (step default_config (state_at place) (get_or text at 0))
    → ((bytes : List ℕ) → Took bytes → Takes (bytes ++ get_or text at 0 ∷ [])) → IsInField Took text at place → IsInField Takes text (at + 1) next
field_joins Took Takes text at place next below is takes inside = record {
  so_far = inside.so_far ++ get_or text at 0 ∷ [];
  took = takes inside.so_far inside.took;
  same =
      inside.same ∙ ap (next_record default_config (state_at place) [] inside.so_far) (byte_at text at below)
      ∙ next_copy (state_at place) (state_at next) [] inside.so_far (get_or text at 0) (drop (at + 1) text) is;
}

-- a comma ends the field
pub field_ends : (Took : List ℕ → Type 0) (text rest : List ℕ) (at : ℕ) (place : Place) → at < length text
    → Tells does.EndsField (step default_config (state_at place) (get_or text at 0)) → rest ≡ drop (at + 1) text → IsInField Took text at place
    → (field : List ℕ) × Took field × EndsField text field rest false
field_ends Took text rest at place below is behind inside =
    let field = inside.so_far in
    let next : next_record default_config st.StartField [] [] text ≡ option_map (in_front field) (next_record default_config st.StartField [] [] rest) =
    inside.same ∙ ap (next_record default_config (state_at place) [] field) (byte_at text at below)
    ∙ next_field (state_at place) st.StartField [] field (get_or text at 0) (drop (at + 1) text) is
    ∙ next_in_front st.StartField field [] [] (drop (at + 1) text)
    ∙ ap (λ xs. option_map (in_front field) (next_record default_config st.StartField [] [] xs)) (sym behind) in
    let left : length rest ≡ length text - (at + 1) = ap length behind ∙ length-drop (at + 1) text in (
      field,
      inside.took,
      record {
        fields = ap fields_read next ∙ fields_in_front field (next_record default_config st.StartField [] [] rest) (found_at Start [] [] rest);
        behind = ap rest_read next ∙ rest_in_front field (next_record default_config st.StartField [] [] rest);
        shorter = λ not_last. omega (arith, left);
      },
    )

last_ends : (text field rest : List ℕ) (s : State) → next_record default_config st.StartField [] [] text ≡ Some (field ∷ [], s, rest)
    → EndsField text field rest true
last_ends text field rest s next = record {
  fields = ap fields_read next;
  behind = ap rest_read next;
  shorter = λ not_last. absurd (true≢false not_last);
}

-- the end of a line ends the record, and so does the end of the text
pub line_ends : (Took : List ℕ → Type 0) (text rest : List ℕ) (at : ℕ) (place : Place) → at < length text
    → Tells does.EndsRecord (step default_config (state_at place) (get_or text at 0)) → rest ≡ drop (at + 1) text → IsInField Took text at place
    → (field : List ℕ) × Took field × EndsField text field rest true
line_ends Took text rest at place below is behind inside =
    let field = inside.so_far in
    let next : next_record default_config st.StartField [] [] text ≡ Some (field ∷ [], (step default_config (state_at place) (get_or text at 0)).0, rest) =
    inside.same ∙ ap (next_record default_config (state_at place) [] field) (byte_at text at below)
    ∙ next_last (state_at place) [] field (get_or text at 0) (drop (at + 1) text) is
    ∙ ap (λ xs. Some (field ∷ [], (step default_config (state_at place) (get_or text at 0)).0, xs)) (sym behind) in
    (field, inside.took, last_ends text field rest (step default_config (state_at place) (get_or text at 0)).0 next)

pub text_ends : (Took : List ℕ → Type 0) (text rest : List ℕ) (at : ℕ) (place : Place) → length text ≤ at
    → rest ≡ drop (length text) text → IsInField Took text at place → (field : List ℕ) × Took field × EndsField text field rest true
text_ends Took text rest at place past behind inside =
    let field = inside.so_far in
    let nothing : rest ≡ [] = behind ∙ drop_all (length text) text (omega arith) in
    let next : next_record default_config st.StartField [] [] text ≡ Some (field ∷ [], st.StartRecord, rest) =
    inside.same ∙ ap (next_record default_config (state_at place) [] field) (drop_all at text past)
    ∙ next_end (state_at place) [] field (place_ends place) ∙ ap (λ xs. Some (field ∷ [], st.StartRecord, xs)) (sym nothing) in
    (field, inside.took, last_ends text field rest st.StartRecord next)

pub field_starts : (Took : List ℕ → Type 0) (text : List ℕ) → Took [] → IsInField Took text 0 Start
field_starts Took text took = record { so_far = []; took = took; same = refl }

-- the fields of a record were passed up to this one, which may be the last
pub record IsPassing (text rest : List ℕ) (count : ℕ) (last : Bool) : Type 0 where
  pub counted : length (fields_at text) ≡ count + (if last then 0 else length (fields_at rest))
  pub behind : rest_at text ≡ (if last then rest else rest_at rest)
  pub few : count + (if last then 0 else length rest) ≤ length text + (if last then 1 else 0)

pub passing_first : (text field rest : List ℕ) (last : Bool) → EndsField text field rest last → IsPassing text rest 1 last
passing_first text field rest true ends = record { counted = ap length ends.fields; behind = ends.behind; few = omega arith }
passing_first text field rest false ends = record {
  counted = let same = ap length ends.fields in omega (arith, same);
  behind = ends.behind;
  few = let shorter = ends.shorter refl in omega (arith, shorter);
}

pub passing_more : (text middle field rest : List ℕ) (count : ℕ) (was_last last : Bool) → was_last ≡ false → IsPassing text middle count was_last
    → EndsField middle field rest last → IsPassing text rest (count + 1) last
passing_more text middle field rest count true last is passing ends = absurd (true≢false is)
passing_more text middle field rest count false true is passing ends = record {
  counted = let same = ap length ends.fields in omega (arith, same, passing.counted);
  behind = passing.behind ∙ ends.behind;
  few = omega (arith, passing.few);
}
passing_more text middle field rest count false false is passing ends = record {
  counted = let same = ap length ends.fields in omega (arith, same, passing.counted);
  behind = passing.behind ∙ ends.behind;
  few = let shorter = ends.shorter refl in omega (arith, shorter, passing.few);
}

-- what a loop over the fields has before it
abbrev pub left_of : (last : Bool) → List ℕ → ℕ
left_of last rest = if last then 0 else suc (length rest)

pub left_less : (text field rest : List ℕ) (was_last last : Bool) → was_last ≡ false → EndsField text field rest last → left_of last rest < left_of was_last text
left_less text field rest true last is ends = absurd (true≢false is)
left_less text field rest false true is ends = omega arith
left_less text field rest false false is ends = let shorter = ends.shorter refl in omega (arith, shorter)

-- the end of a text as a slice of it
pub rest_all : (text : List ℕ) (n : ℕ) → take (length text - n) (drop n text) ≡ drop n text
rest_all text n = take_all (length text - n) (drop n text) (let left = length-drop n text in omega (arith, left))
