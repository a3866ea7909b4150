-- The place after one byte more.
use Rattle.std.proofs.Common.{◌≡◌, ℕ, suc, ◌+◌, ◌<◌, ◌≤◌, inl, inr, Bool, true, false, ◌&&◌, not, List, [], ◌∷◌, ◌++◌, length, take, reverse, slice_index, refl, ap, sym, ◌∙◌, arith, append_assoc}
use Rattle.std.specs.Prelude.{◌==◌, if◌then◌else◌, count_by, fold}
use Rattle.std.specs.List.{list_all, take_while}
use Rattle.std.proofs.lemmas.Bool.{cases_Bool}
use Rattle.std.proofs.lemmas.List.{length-append, reverse-append, append-nil}
use Rattle.std.proofs.lemmas.List.Sums.{take_while-cons, fold-append}
use Rattle.std.proofs.Math.Seq.{take-suc}
use Rattle.sk_tokens.specs.Lexemes.{is_blank}
use Rattle.sk_tokens.specs.Tokens.{line_after, is_line_start}
use Rattle.sk_lexer.specs.declared.place.Place.{Place}
use Rattle.sk_lexer.specs.Places.{place_after, place_then}

count_by-push : (p : ℕ → Bool) (xs : List ℕ) (x : ℕ) → count_by p (xs ++ (x ∷ [])) ≡ count_by p xs + (if p x then 1 else 0)
count_by-push p xs x = fold-append (λ n y. n + (if p y then 1 else 0)) 0 xs (x ∷ [])

reverse-push : (before : List ℕ) (byte : ℕ) → reverse (before ++ (byte ∷ [])) ≡ byte ∷ reverse before
reverse-push before byte = reverse-append before (byte ∷ [])

line_from : (test : Bool) (byte : ℕ) (line : List ℕ) → not (byte == 10) ≡ test → take_while (λ byte. not (byte == 10)) (byte ∷ line) ≡ (if test then byte ∷ take_while (λ byte. not (byte == 10)) line else [])
line_from test byte line is =
    take_while-cons (λ byte. not (byte == 10)) byte line ∙ ap (λ t. if t then byte ∷ take_while (λ byte. not (byte == 10)) line else []) is

is_line_start-push : (test : Bool) (before : List ℕ) (byte : ℕ) → not (byte == 10) ≡ test → is_line_start (before ++ (byte ∷ [])) ≡ list_all is_blank (if test then byte ∷ take_while (λ byte. not (byte == 10)) (reverse before) else [])
is_line_start-push test before byte is =
    ap (λ line. list_all is_blank (take_while (λ byte. not (byte == 10)) line)) (reverse-push before byte) ∙ ap (list_all is_blank) (line_from test byte (reverse before) is)

if-true : (test : Bool) (a b : Place) → test ≡ true → a ≡ (if test then a else b)
if-true true a b e = refl
if-true false a b e = cc

if-false : (test : Bool) (a b : Place) → test ≡ false → b ≡ (if test then a else b)
if-false true a b e = cc
if-false false a b e = refl

place_after-more : (before : List ℕ) (byte : ℕ) → place_after (before ++ (byte ∷ [])) ≡ place_then (place_after before) byte
place_after-more before byte =
    let count = count_by-push (λ byte. byte == 10) before byte in
    let at : length (before ++ (byte ∷ [])) ≡ length before + 1 = length-append before (byte ∷ []) in
    let feed : Place = record { at = length before + 1; line = line_after before + 1; begins_line = true } in
    let other : Place = record { at = length before + 1; line = line_after before; begins_line = is_blank byte && is_line_start before } in
    elim (cases_Bool (byte == 10)) [
      | inl is ↦
          let line : line_after (before ++ (byte ∷ [])) ≡ line_after before + 1 = ap (λ n. n + 1) (count ∙ ap (λ t. count_by (λ byte. byte == 10) before + (if t then 1 else 0)) is) in
          let begins : is_line_start (before ++ (byte ∷ [])) ≡ true = is_line_start-push false before byte (ap not is) in
          same at line begins ∙ if-true (byte == 10) feed other is
      | inr is ↦
          let none : count_by (λ byte. byte == 10) before + 0 ≡ count_by (λ byte. byte == 10) before = omega arith in
          let line : line_after (before ++ (byte ∷ [])) ≡ line_after before = ap (λ n. n + 1) (count ∙ ap (λ t. count_by (λ byte. byte == 10) before + (if t then 1 else 0)) is ∙ none) in
          let begins : is_line_start (before ++ (byte ∷ [])) ≡ (is_blank byte && is_line_start before) = is_line_start-push true before byte (ap not is) in
          same at line begins ∙ if-false (byte == 10) feed other is
    ]
  where
    same : {a b c d : ℕ} {e f : Bool} → a ≡ b → c ≡ d → e ≡ f → ◌≡◌ {A = Place} (record { at = a; line = c; begins_line = e }) (record { at = b; line = d; begins_line = f })
    same at line begins = λ i. record { at = at i; line = line i; begins_line = begins i }

pub place_after-append : (before bytes : List ℕ) → fold place_then (place_after before) bytes ≡ place_after (before ++ bytes)
place_after-append before [] = ap place_after (sym (append-nil before))
place_after-append before (byte ∷ bytes) =
    ap (λ place. fold place_then place bytes) (sym (place_after-more before byte)) ∙ place_after-append (before ++ (byte ∷ [])) bytes ∙ ap place_after (append_assoc before (byte ∷ []) bytes)

-- a step of the way
pub fold-place_then : (place : Place) (bytes : List ℕ) (i : ℕ) → i < length bytes → fold place_then place (take (i + 1) bytes) ≡ place_then (fold place_then place (take i bytes)) (slice_index bytes i)
fold-place_then place bytes i under =
    let e : i + 1 ≡ suc i = omega arith in
    ap (λ k. fold place_then place (take k bytes)) e ∙ ap (fold place_then place) (take-suc bytes i 0 under) ∙ fold-append place_then place (take i bytes) (slice_index bytes i ∷ [])

pub at-place_then : (place : Place) (byte : ℕ) → ((place_then place byte).at ≡ place.at + 1) × ((place_then place byte).line ≤ place.line + 1)
at-place_then place byte =
    elim (cases_Bool (byte == 10)) [
      | inl feed ↦ rw feed (refl, omega arith)
      | inr other ↦ rw other (refl, omega arith)
    ]
