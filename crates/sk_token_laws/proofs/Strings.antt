-- The string at the front of a rest that begins with a quote.
use Rattle.std.proofs.Common.{◌≡◌, ℕ, zero, suc, ◌+◌, ◌<◌, ◌≤◌, inl, inr, true, false, List, [], ◌∷◌, ◌++◌, length, take, drop, slice_index, refl, ap, subst, sym, ◌∙◌, arith, append_assoc}
use Rattle.std.specs.Prelude.{Option, Some, None, ◌==◌, if◌then◌else◌, nat_le}
use Rattle.std.specs.Option.{option_map, option_and_then}
use Rattle.std.proofs.lemmas.Bool.{cases_Bool, ne_eqb, eq-eqb}
use Rattle.std.proofs.lemmas.Bool.Decides.{nat_tests, eqb_tells}
use Rattle.sk_tokens.specs.declared.token.TokenKind.TheVariants.{Text}
use Rattle.sk_tokens.specs.Lexemes.{TextLexeme, lexeme_of, escape_of, string_rest_of}
use Rattle.sk_names.specs.Bytes.{is_from_to}
use Rattle.sk_tokens.specs.Tokens.{Found, Faulty, NoToken, LongName, token_at, longest_of}
use Rattle.sk_token_laws.proofs.Longest.{longest_of-found, longest_of-none}

-- ## The closing quote

-- so many bytes, which stand for these, and then the end of a string
abbrev pub onward : ℕ → List ℕ → Option (ℕ × List ℕ) → Option (ℕ × List ℕ)
onward bytes text None = None
onward bytes text (Some closed) = Some (bytes + closed.0, text ++ closed.1)

-- two bytes, if they are a pair, and then the end of a string
abbrev pub after_pair : Option ℕ → Option (ℕ × List ℕ) → Option (ℕ × List ℕ)
after_pair (Some escaped) closed = onward 2 (escaped ∷ []) closed
after_pair None closed = None

-- the rest of a string up to its closing quote: how many bytes, and what they stand for
abbrev pub closing : List ℕ → Option (ℕ × List ℕ)
closing [] = None
closing (byte ∷ []) = if byte == 34 then Some (1, []) else None
closing (byte ∷ next ∷ rest) =
    if byte == 34 then Some (1, [])
    else if byte == 92 then after_pair (escape_of next) (closing rest)
    else if is_from_to 32 126 byte then onward 1 (byte ∷ []) (closing (next ∷ rest))
    else None

-- what the front of so many bytes stands for
abbrev pub text_at : ℕ → Option (ℕ × List ℕ) → Option (List ℕ)
text_at bytes None = None
text_at bytes (Some closed) = if bytes == closed.0 then Some closed.1 else None

text_at-below : (k n : ℕ) (text : List ℕ) (closed : Option (ℕ × List ℕ)) → k < n → text_at k (onward n text closed) ≡ None
text_at-below k n text None below = refl
text_at-below k n text (Some closed) below =
    let e : (k == n + closed.0) ≡ false = grind (arith, nat_tests) in
    rw e refl

text_at-onward : (k j n byte : ℕ) (closed : Option (ℕ × List ℕ)) → j ≡ n + k → text_at j (onward n (byte ∷ []) closed) ≡ option_map (λ bytes. byte ∷ bytes) (text_at k closed)
text_at-onward k j n byte None same = refl
text_at-onward k j n byte (Some closed) same =
    elim (eqb_tells k closed.0) [
      | inl equal ↦
          let e : (j == n + closed.0) ≡ true = eq-eqb j (n + closed.0) (omega (arith, equal.1)) in
          rw (e, equal.0) refl
      | inr other ↦
          let e : (j == n + closed.0) ≡ false = ne_eqb j (n + closed.0) (λ h. other.1 (omega arith)) in
          rw (e, other.0) refl
    ]

one_past : (k : ℕ) → (suc (suc k) == 1) ≡ false
one_past k = grind (arith, nat_tests)

text_at-pair_below : (k : ℕ) (escaped : Option ℕ) (closed : Option (ℕ × List ℕ)) → k < 2 → text_at k (after_pair escaped closed) ≡ None
text_at-pair_below k None closed below = refl
text_at-pair_below k (Some byte) closed below = text_at-below k 2 (byte ∷ []) closed below

text_at-pair : (k : ℕ) (escaped : Option ℕ) (closed : Option (ℕ × List ℕ)) → text_at (suc (suc k)) (after_pair escaped closed) ≡ option_and_then (λ byte. option_map (λ bytes. byte ∷ bytes) (text_at k closed)) escaped
text_at-pair k None closed = refl
text_at-pair k (Some byte) closed = text_at-onward k (suc (suc k)) 2 byte closed (omega arith)

-- a front ends a string exactly where it is the one up to the closing quote
pub string_rest_of-take : (rest : List ℕ) (k : ℕ) → k ≤ length rest → string_rest_of (take k rest) ≡ text_at k (closing rest)
string_rest_of-take [] zero within = refl
string_rest_of-take [] (suc k) within = refl
string_rest_of-take (byte ∷ []) zero within =
    elim (cases_Bool (byte == 34)) [ inl quote ↦ rw quote refl | inr other ↦ rw other refl ]
string_rest_of-take (byte ∷ []) (suc zero) within =
    elim (cases_Bool (byte == 34)) [ inl quote ↦ rw quote refl | inr other ↦ rw other refl ]
string_rest_of-take (byte ∷ []) (suc (suc k)) within = absurd (omega arith)
string_rest_of-take (byte ∷ next ∷ rest) zero within =
    elim (cases_Bool (byte == 34)) [
      | inl quote ↦ rw quote refl
      | inr other ↦
          elim (cases_Bool (byte == 92)) [
            | inl pair ↦ rw (other, pair) (sym (text_at-pair_below 0 (escape_of next) (closing rest) (omega arith)))
            | inr single ↦
                elim (cases_Bool (is_from_to 32 126 byte)) [
                  | inl printable ↦ rw (other, single, printable) (sym (text_at-below 0 1 (byte ∷ []) (closing (next ∷ rest)) (omega arith)))
                  | inr foreign ↦ rw (other, single, foreign) refl
                ]
          ]
    ]
string_rest_of-take (byte ∷ next ∷ rest) (suc zero) within =
    elim (cases_Bool (byte == 34)) [
      | inl quote ↦ rw quote refl
      | inr other ↦
          elim (cases_Bool (byte == 92)) [
            | inl pair ↦ rw (other, pair) (sym (text_at-pair_below 1 (escape_of next) (closing rest) (omega arith)))
            | inr single ↦
                elim (cases_Bool (is_from_to 32 126 byte)) [
                  | inl printable ↦
                      let none = string_rest_of-take (next ∷ rest) zero (omega arith) in
                      rw (other, single, printable, text_at-onward 0 1 1 byte (closing (next ∷ rest)) (omega arith), ← none) refl
                  | inr foreign ↦ rw (other, single, foreign) refl
                ]
          ]
    ]
string_rest_of-take (byte ∷ next ∷ rest) (suc (suc k)) within =
    elim (cases_Bool (byte == 34)) [
      | inl quote ↦ rw (quote, one_past k) refl
      | inr other ↦
          elim (cases_Bool (byte == 92)) [
            | inl pair ↦
                let here = string_rest_of-take rest k (omega arith) in
                rw (other, pair, here) (sym (text_at-pair k (escape_of next) (closing rest)))
            | inr single ↦
                elim (cases_Bool (is_from_to 32 126 byte)) [
                  | inl printable ↦
                      let here = string_rest_of-take (next ∷ rest) (suc k) (omega arith) in
                      rw (other, single, printable, text_at-onward (suc k) (suc (suc k)) 1 byte (closing (next ∷ rest)) (omega arith), ← here) refl
                  | inr foreign ↦ rw (other, single, foreign) refl
                ]
          ]
    ]

pub onward-onward : (n m : ℕ) (text more : List ℕ) (closed : Option (ℕ × List ℕ)) → onward n text (onward m more closed) ≡ onward (n + m) (text ++ more) closed
onward-onward n m text more None = refl
onward-onward n m text more (Some closed) =
    let e : n + (m + closed.0) ≡ n + m + closed.0 = omega arith in
    rw (e, append_assoc) refl

-- a closing quote ends a string
pub closing-quote : (rest : List ℕ) → closing (34 ∷ rest) ≡ Some (1, [])
closing-quote [] = refl
closing-quote (byte ∷ rest) = refl

-- a byte that stands for itself
pub closing-itself : (byte : ℕ) (rest : List ℕ) → (byte == 34) ≡ false → (byte == 92) ≡ false → is_from_to 32 126 byte ≡ true → closing (byte ∷ rest) ≡ onward 1 (byte ∷ []) (closing rest)
closing-itself byte [] no_quote no_pair printable = rw no_quote refl
closing-itself byte (next ∷ rest) no_quote no_pair printable = rw (no_quote, no_pair, printable) refl

pub closes-never : (rest : List ℕ) → closing rest ≡ None → (k : ℕ) → k ≤ length rest → string_rest_of (take k rest) ≡ None
closes-never rest none k within = string_rest_of-take rest k within ∙ ap (text_at k) none

-- ## The token

lexeme_of-quote : (body : List ℕ) (k : ℕ) → lexeme_of (take (suc k) (34 ∷ body)) ≡ option_map TextLexeme (string_rest_of (take k body))
unfolding lexeme_of
lexeme_of-quote body k = refl

lexeme_of-string : (rest : List ℕ) (k : ℕ) → slice_index rest 0 ≡ 34 → lexeme_of (take (suc k) rest) ≡ option_map TextLexeme (string_rest_of (take k (drop 1 rest)))
lexeme_of-string [] k quote = absurd (omega arith)
lexeme_of-string (first ∷ body) k quote =
    subst (λ x. lexeme_of (take (suc k) (x ∷ body)) ≡ option_map TextLexeme (string_rest_of (take k body))) (sym quote) (lexeme_of-quote body k)

length-body : (rest : List ℕ) → slice_index rest 0 ≡ 34 → length rest ≡ suc (length (drop 1 rest))
length-body [] quote = absurd (omega arith)
length-body (first ∷ body) quote = refl

pub token_at-no_string : (rest : List ℕ) → slice_index rest 0 ≡ 34 → ((k : ℕ) → k ≤ length (drop 1 rest) → string_rest_of (take k (drop 1 rest)) ≡ None) → token_at rest ≡ Faulty NoToken
unfolding token_at
token_at-no_string rest quote none =
    rw (longest_of-none (length rest) rest (no_lexeme rest quote none), token_at) refl
  where
    no_lexeme : (rest : List ℕ) → slice_index rest 0 ≡ 34 → ((k : ℕ) → k ≤ length (drop 1 rest) → string_rest_of (take k (drop 1 rest)) ≡ None) → (k : ℕ) → 0 < k → k ≤ length rest → lexeme_of (take k rest) ≡ None
    no_lexeme rest quote none zero some within = absurd (omega arith)
    no_lexeme rest quote none (suc k) some within =
        rw (lexeme_of-string rest k quote, none k (omega (arith, length-body rest quote))) refl

-- the one front that ends a string
abbrev OnlyFront : List ℕ → ℕ → List ℕ → Type 0
OnlyFront body n text = (k : ℕ) → k ≤ length body → string_rest_of (take k body) ≡ (if k == n then Some text else None)

longest_of-string : (rest : List ℕ) (n : ℕ) (text : List ℕ) → slice_index rest 0 ≡ 34 → n ≤ length (drop 1 rest) → OnlyFront (drop 1 rest) n text → longest_of (length rest) rest ≡ Some (suc n, TextLexeme text)
longest_of-string rest n text quote within only =
    let long = length-body rest quote in
    let same : (n == n) ≡ true = eq-eqb n n refl in
    let here : lexeme_of (take (suc n) rest) ≡ Some (TextLexeme text) = rw (lexeme_of-string rest n quote, only n within, same) refl in
    longest_of-found (length rest) (suc n) rest (TextLexeme text) (omega arith) (omega arith) here (longer rest n text quote only)
  where
    longer : (rest : List ℕ) (n : ℕ) (text : List ℕ) → slice_index rest 0 ≡ 34 → OnlyFront (drop 1 rest) n text → (k : ℕ) → suc n < k → k ≤ length rest → lexeme_of (take k rest) ≡ None
    longer rest n text quote only zero above under = absurd (omega arith)
    longer rest n text quote only (suc k) above under =
        let other : (k == n) ≡ false = ne_eqb k n (λ h. absurd (omega arith)) in
        rw (lexeme_of-string rest k quote, only k (omega (arith, length-body rest quote)), other) refl

pub token_at-string : (rest : List ℕ) (n : ℕ) (text : List ℕ) → slice_index rest 0 ≡ 34 → n ≤ length (drop 1 rest) → OnlyFront (drop 1 rest) n text → length text ≤ 255 → token_at rest ≡ Found (n + 1) (Text text)
unfolding token_at
token_at-string rest n text quote within only short =
    let e : nat_le (length text) 255 ≡ true = grind (arith, nat_tests) in
    let one : n + 1 ≡ suc n = omega arith in
    rw (one, longest_of-string rest n text quote within only, token_at) (rw e refl)

pub token_at-long_string : (rest : List ℕ) (n : ℕ) (text : List ℕ) → slice_index rest 0 ≡ 34 → n ≤ length (drop 1 rest) → OnlyFront (drop 1 rest) n text → 255 < length text → token_at rest ≡ Faulty LongName
unfolding token_at
token_at-long_string rest n text quote within only long =
    let e : nat_le (length text) 255 ≡ false = grind (arith, nat_tests) in
    rw (longest_of-string rest n text quote within only, token_at) (rw e refl)
