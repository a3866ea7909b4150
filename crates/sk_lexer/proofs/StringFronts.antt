-- A string by the fronts of its rest, as the code reads them.
use Rattle.std.proofs.Common.{◌≡◌, ℕ, suc, ◌+◌, ◌-◌, ◌<◌, ◌≤◌, inl, inr, List, [], ◌∷◌, ◌++◌, length, take, drop, slice_index, refl, ap, subst, sym, ◌∙◌, arith}
use Rattle.std.specs.Prelude.{Option, Some, None, ◌==◌, if◌then◌else◌, IfSome}
use Rattle.std.proofs.lemmas.Bool.{cases_Bool}
use Rattle.std.proofs.lemmas.List.{length-drop, append-nil, drop_all}
use Rattle.sk_tokens.specs.Lexemes.{escape_of, string_rest_of}
use Rattle.sk_names.specs.Bytes.{is_from_to}
use Rattle.sk_lexer.specs.declared.string.Front.{Front}
use Rattle.sk_lexer.specs.declared.string.Front.TheVariants.{Quote, Stands, Foreign}
use Rattle.sk_lexer.specs.declared.string.Closed.{Closed}
use Rattle.sk_lexer.specs.Strings.{front_at, pair_at, stands_for, text_after}
use Rattle.sk_token_laws.proofs.Parts.{drop-drop}
use Rattle.sk_token_laws.proofs.Strings.{onward, after_pair, closing, text_at, string_rest_of-take, onward-onward}

-- the closing quote, by what the rest begins with
abbrev pub by_front : Front → (rest : List ℕ) → Option (ℕ × List ℕ)
by_front Quote rest = Some (1, [])
by_front (Stands bytes byte) rest = onward bytes (byte ∷ []) (closing (drop bytes rest))
by_front Foreign rest = None

closing-pair : (byte next : ℕ) (rest : List ℕ) (escaped : Option ℕ) → after_pair escaped (closing rest) ≡ by_front (stands_for escaped) (byte ∷ next ∷ rest)
closing-pair byte next rest None = refl
closing-pair byte next rest (Some escaped) = refl

closing-front : (byte : ℕ) (tail : List ℕ) → closing (byte ∷ tail) ≡ by_front (front_at byte (slice_index tail 0)) (byte ∷ tail)
closing-front byte [] =
    elim (cases_Bool (byte == 34)) [
      | inl quote ↦ rw quote refl
      | inr other ↦
          elim (cases_Bool (byte == 92)) [
            | inl pair ↦ rw (other, pair) refl
            | inr single ↦
                elim (cases_Bool (is_from_to 32 126 byte)) [
                  | inl printable ↦ rw (other, single, printable) refl
                  | inr foreign ↦ rw (other, single, foreign) refl
                ]
          ]
    ]
closing-front byte (next ∷ rest) =
    elim (cases_Bool (byte == 34)) [
      | inl quote ↦ rw quote refl
      | inr other ↦
          elim (cases_Bool (byte == 92)) [
            | inl pair ↦ rw (other, pair) (closing-pair byte next rest (escape_of next))
            | inr single ↦
                elim (cases_Bool (is_from_to 32 126 byte)) [
                  | inl printable ↦ rw (other, single, printable) refl
                  | inr foreign ↦ rw (other, single, foreign) refl
                ]
          ]
    ]

pub closing-by_front : (rest : List ℕ) → 0 < length rest → closing rest ≡ by_front (front_at (slice_index rest 0) (slice_index rest 1)) rest
closing-by_front [] some = absurd (omega arith)
closing-by_front (byte ∷ tail) some = closing-front byte tail

pair-within : (escaped : Option ℕ) (n byte : ℕ) → stands_for escaped ≡ Stands n byte → n ≡ 2
pair-within None n byte stands = cc
pair-within (Some other) n byte stands = cc

front-within : (first : ℕ) (tail : List ℕ) (n byte : ℕ) → front_at first (slice_index tail 0) ≡ Stands n byte → (0 < n) × (n ≤ suc (length tail))
front-within first tail n byte stands =
    elim (cases_Bool (first == 34)) [
      | inl quote ↦ let no : Quote ≡ Stands n byte = rw quote at stands in cc
      | inr other ↦
          elim (cases_Bool (first == 92)) [
            | inl pair ↦ pair_fits tail n byte (rw (other, pair) at stands)
            | inr single ↦
                elim (cases_Bool (is_from_to 32 126 first)) [
                  | inl printable ↦
                      let one : Stands 1 first ≡ Stands n byte = rw (other, single, printable) at stands in
                      let e : 1 ≡ n = cc in
                      (omega arith, omega arith)
                  | inr foreign ↦ let no : Foreign ≡ Stands n byte = rw (other, single, foreign) at stands in cc
                ]
          ]
    ]
  where
    pair_fits : (tail : List ℕ) (n byte : ℕ) → pair_at (slice_index tail 0) ≡ Stands n byte → (0 < n) × (n ≤ suc (length tail))
    pair_fits [] n byte stands = cc
    pair_fits (next ∷ rest) n byte stands =
        let e = pair-within (escape_of next) n byte stands in
        (omega arith, omega arith)

pub stands-within : (rest : List ℕ) (n byte : ℕ) → 0 < length rest → front_at (slice_index rest 0) (slice_index rest 1) ≡ Stands n byte → (0 < n) × (n ≤ length rest)
stands-within [] n byte some stands = absurd (omega arith)
stands-within (first ∷ tail) n byte some stands = front-within first tail n byte stands

-- a front of the rest of a string, where so many bytes are read that stand for this text
pub record HasRead (rest : List ℕ) (at : ℕ) (text : List ℕ) : Type 0 where
  pub within : at ≤ length rest
  pub onwards : closing rest ≡ onward at text (closing (drop at rest))

pub HasRead-none : (rest : List ℕ) → HasRead rest 0 []
HasRead-none rest = record { within = omega arith; onwards = none (closing rest) }
  where
    none : (closed : Option (ℕ × List ℕ)) → closed ≡ onward 0 [] closed
    none None = refl
    none (Some closed) = let e : 0 + closed.0 ≡ closed.0 = omega arith in rw e refl

pub HasRead-more : (rest part : List ℕ) (at n byte : ℕ) (text : List ℕ) → HasRead rest at text → at < length rest → part ≡ drop at rest → Stands n byte ≡ front_at (slice_index part 0) (slice_index part 1) → HasRead rest (at + n) (text ++ (byte ∷ []))
HasRead-more rest part at n byte text read under same front =
    let long : length (drop at rest) ≡ length rest - at = length-drop at rest in
    let here : Stands n byte ≡ front_at (slice_index (drop at rest) 0) (slice_index (drop at rest) 1) = subst (λ p. Stands n byte ≡ front_at (slice_index p 0) (slice_index p 1)) same front in
    let fits = stands-within (drop at rest) n byte (omega arith) (sym here) in
    let step : closing (drop at rest) ≡ onward n (byte ∷ []) (closing (drop n (drop at rest))) = closing-by_front (drop at rest) (omega arith) ∙ ap (λ f. by_front f (drop at rest)) (sym here) in
    record {
      within = omega (arith, fits.1);
      onwards = read.onwards ∙ ap (onward at text) step ∙ onward-onward at n text (byte ∷ []) (closing (drop n (drop at rest))) ∙ ap (λ r. onward (at + n) (text ++ (byte ∷ [])) (closing r)) (drop-drop rest at n);
    }

pub closes : (rest part : List ℕ) (at : ℕ) (text : List ℕ) → HasRead rest at text → at < length rest → part ≡ drop at rest → Quote ≡ front_at (slice_index part 0) (slice_index part 1) → (k : ℕ) → k ≤ length rest → string_rest_of (take k rest) ≡ (if k == at + 1 then Some text else None)
closes rest part at text read under same front k within =
    let long : length (drop at rest) ≡ length rest - at = length-drop at rest in
    let here : Quote ≡ front_at (slice_index (drop at rest) 0) (slice_index (drop at rest) 1) = subst (λ p. Quote ≡ front_at (slice_index p 0) (slice_index p 1)) same front in
    let step : closing (drop at rest) ≡ Some (1, []) = closing-by_front (drop at rest) (omega arith) ∙ ap (λ f. by_front f (drop at rest)) (sym here) in
    let closed : closing rest ≡ Some (at + 1, text ++ []) = read.onwards ∙ ap (onward at text) step in
    string_rest_of-take rest k within ∙ ap (text_at k) (closed ∙ ap (λ t. Some (at + 1, t)) (append-nil text))

pub closing-foreign : (rest part : List ℕ) (at : ℕ) (text : List ℕ) → HasRead rest at text → at < length rest → part ≡ drop at rest → Foreign ≡ front_at (slice_index part 0) (slice_index part 1) → closing rest ≡ None
closing-foreign rest part at text read under same front =
    let long : length (drop at rest) ≡ length rest - at = length-drop at rest in
    let here : Foreign ≡ front_at (slice_index (drop at rest) 0) (slice_index (drop at rest) 1) = subst (λ p. Foreign ≡ front_at (slice_index p 0) (slice_index p 1)) same front in
    let step : closing (drop at rest) ≡ None = closing-by_front (drop at rest) (omega arith) ∙ ap (λ f. by_front f (drop at rest)) (sym here) in
    read.onwards ∙ ap (onward at text) step

pub closing-end : (rest : List ℕ) (at : ℕ) (text : List ℕ) → HasRead rest at text → length rest ≤ at → closing rest ≡ None
closing-end rest at text read ended =
    read.onwards ∙ ap (λ r. onward at text (closing r)) (drop_all at rest ended)

-- what is known of the body, as a slice and as an answer
pub body_only : (rest part : List ℕ) (closed same : Option Closed) → part ≡ drop 1 rest → closed ≡ same → ((k : ℕ) → k ≤ length part → string_rest_of (take k part) ≡ text_after closed k) → (k : ℕ) → k ≤ length (drop 1 rest) → string_rest_of (take k (drop 1 rest)) ≡ text_after same k
body_only rest part closed same body is only =
    subst (λ p. (k : ℕ) → k ≤ length p → string_rest_of (take k p) ≡ text_after same k) body
    (subst (λ o. (k : ℕ) → k ≤ length part → string_rest_of (take k part) ≡ text_after o k) is only)

pub body_within : (rest part : List ℕ) (closed : Option Closed) (it : Closed) → part ≡ drop 1 rest → closed ≡ Some it → IfSome closed (λ it. it.bytes ≤ length part) → it.bytes ≤ length (drop 1 rest)
body_within rest part closed it body is within =
    subst (λ p. it.bytes ≤ length p) body (subst (λ o. IfSome o (λ it. it.bytes ≤ length part)) is within)
