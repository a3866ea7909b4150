-- What stands at the front of a rest, and how many bytes it has.
use Rattle.std.proofs.Common.{◌≡◌, ℕ, zero, suc, ◌+◌, ◌<◌, ◌≤◌, ◌⊎◌, inl, inr, Bool, true, false, ◌&&◌, not, ◌||◌, ◌^◌, pos, List, [], ◌∷◌, length, take, drop, slice_index, refl, ap, subst, sym, arith}
use Rattle.std.specs.Prelude.{Option, Some, None, ◌==◌, if◌then◌else◌, codes, nat_lt}
use Rattle.std.specs.List.{starts_with, list_all}
use Rattle.std.proofs.lemmas.Bool.Decides.{nat_tests}
use Rattle.std.proofs.lemmas.List.{length-drop}
use Rattle.std.proofs.lemmas.List.Sums.{prefix_len-le-length}
use Rattle.sk_base.specs.declared.number.Ty.TheVariants.{Int, Long}
use Rattle.sk_tokens.specs.declared.token.TokenKind.TheVariants.{Word, Number, Text}
use Rattle.sk_tokens.specs.Lexemes.{Lexeme, WordLexeme, NumberLexeme, TextLexeme, SignLexeme, lexeme_of, is_blank}
use Rattle.sk_names.specs.Bytes.{is_word_byte}
use Rattle.sk_tokens.specs.Tokens.{Piece, Passed, Found, Faulty, NoToken, Wide, LongName, line_rest, comment_rest, longest_of, judged, token_at, piece_at}
use Rattle.sk_token_laws.proofs.Comments.{comment_rest-within}
use Rattle.sk_token_laws.proofs.Prefixes.{length-take_while, prefix_len-pass}

-- a comment up to its end, if it has one
abbrev pub commented : Option ℕ → Piece
commented (Some bytes) = Passed (2 + bytes)
commented None = Faulty NoToken

abbrev pub begins : List ℕ → List ℕ → Bool
begins = starts_with (λ a b. a == b)

pub piece_at-some : (begins_line : Bool) (rest : List ℕ) → 0 < length rest → piece_at begins_line rest ≡ (if is_blank (slice_index rest 0) then Passed 1 else if begins rest (codes "//") then Passed (line_rest rest) else if begins rest (codes "/*") then commented (comment_rest (drop 2 rest)) else if slice_index rest 0 == 35 then (if begins rest (codes "#include") && begins_line then Passed (line_rest rest) else Faulty NoToken) else token_at rest)
unfolding piece_at
piece_at-some begins_line [] some = absurd (omega arith)
piece_at-some begins_line (byte ∷ rest) some = refl

-- ## How many bytes a piece has

-- a piece within the rest, with a byte at least
abbrev pub HasBytes : Piece → ℕ → Type 0
HasBytes (Passed bytes) most = (0 < bytes) × (bytes ≤ most)
HasBytes (Found bytes kind) most = (0 < bytes) × (bytes ≤ most)
HasBytes (Faulty fault) most = Unit {0}

longest_of-step : (o : Option Lexeme) (most : ℕ) (rest : List ℕ) (n : ℕ) (lexeme : Lexeme) → ◌≡◌ {A = Option (ℕ × Lexeme)} (elim o [ Some spelled ↦ Some (suc most, spelled) | None ↦ longest_of most rest ]) (Some (n, lexeme)) → (suc most ≡ n) ⊎ (longest_of most rest ≡ Some (n, lexeme))
longest_of-step None most rest n lexeme e = inr e
longest_of-step (Some spelled) most rest n lexeme e = inl (ap bytes e)
  where
    bytes : Option (ℕ × Lexeme) → ℕ
    bytes (Some found) = found.0
    bytes None = 0

longest_of-within : (most : ℕ) (rest : List ℕ) (n : ℕ) (lexeme : Lexeme) → longest_of most rest ≡ Some (n, lexeme) → (0 < n) × (n ≤ most)
longest_of-within zero rest n lexeme found = cc
longest_of-within (suc most) rest n lexeme found =
    elim (longest_of-step (lexeme_of (take (suc most) rest)) most rest n lexeme found) [
      | inl same ↦ (omega arith, omega arith)
      | inr fewer ↦
          let within = longest_of-within most rest n lexeme fewer in
          (within.0, omega (arith, within.1))
    ]

HasBytes-if : (test : Bool) (one other : Piece) (most : ℕ) → (test ≡ true → HasBytes one most) → (test ≡ false → HasBytes other most) → HasBytes (if test then one else other) most
HasBytes-if true one other most holds fails = holds refl
HasBytes-if false one other most holds fails = fails refl

judged-within : (n : ℕ) (lexeme : Lexeme) (after : List ℕ) (most : ℕ) → (0 < n) × (n ≤ most) → HasBytes (judged n lexeme after) most
judged-within n (WordLexeme name) after most within = HasBytes-if _ (Found n (Word name)) (Faulty LongName) most (λ _. within) (λ _. tt)
judged-within n (NumberLexeme value suffixed) after most within =
    HasBytes-if (not (list_all (λ byte. not (is_word_byte byte)) (take 1 after))) (Faulty NoToken) _ most (λ _. tt)
    (λ _. HasBytes-if (not (nat_lt value (2 ^ 63))) (Faulty Wide) (Found n (Number (if suffixed || nat_lt 2147483647 value then Long else Int) (pos value))) most (λ _. tt) (λ _. within))
judged-within n (TextLexeme text) after most within = HasBytes-if _ (Found n (Text text)) (Faulty LongName) most (λ _. within) (λ _. tt)
judged-within n (SignLexeme sign) after most within = within

token_at-within : (rest : List ℕ) → HasBytes (token_at rest) (length rest)
unfolding token_at
token_at-within rest = found_within (longest_of (length rest) rest) refl
  where
    found_within : (o : Option (ℕ × Lexeme)) → longest_of (length rest) rest ≡ o → HasBytes (elim o [ Some found ↦ judged found.0 found.1 (drop found.0 rest) | None ↦ Faulty NoToken ]) (length rest)
    found_within None e = tt
    found_within (Some found) e = judged-within found.0 found.1 (drop found.0 rest) (length rest) (longest_of-within (length rest) rest found.0 found.1 e)

line_rest-within : (rest : List ℕ) → 0 < length rest → is_blank (slice_index rest 0) ≡ false → (0 < line_rest rest) × (line_rest rest ≤ length rest)
line_rest-within [] some other = absurd (omega arith)
line_rest-within (byte ∷ rest) some other =
    let no_feed : not (byte == 10) ≡ true = grind (arith, nat_tests) in
    let count = length-take_while (λ byte. not (byte == 10)) (byte ∷ rest) in
    let passes = prefix_len-pass (λ byte. not (byte == 10)) byte rest no_feed in
    let fits = prefix_len-le-length (λ byte. not (byte == 10)) (byte ∷ rest) in
    (omega (arith, count, passes), omega (arith, count, fits))

commented-within : (rest : List ℕ) (o : Option ℕ) → comment_rest (drop 2 rest) ≡ o → HasBytes (commented o) (length rest)
commented-within rest None e = tt
commented-within rest (Some bytes) e =
    let within = comment_rest-within (drop 2 rest) bytes e in
    let long = length-drop 2 rest in
    (omega arith, omega (arith, within.0, within.1, long))

pub piece_at-within : (begins_line : Bool) (rest : List ℕ) → 0 < length rest → HasBytes (piece_at begins_line rest) (length rest)
piece_at-within begins_line rest some =
    subst (λ piece. HasBytes piece (length rest)) (sym (piece_at-some begins_line rest some))
    (HasBytes-if (is_blank (slice_index rest 0)) (Passed 1) _ (length rest) (λ _. (omega arith, some))
    (λ other. HasBytes-if (begins rest (codes "//")) (Passed (line_rest rest)) _ (length rest) (λ _. line_rest-within rest some other)
    (λ _. HasBytes-if (begins rest (codes "/*")) (commented (comment_rest (drop 2 rest))) _ (length rest) (λ _. commented-within rest (comment_rest (drop 2 rest)) refl)
    (λ _. HasBytes-if (slice_index rest 0 == 35) (if begins rest (codes "#include") && begins_line then Passed (line_rest rest) else Faulty NoToken) (token_at rest) (length rest)
    (λ _. HasBytes-if (begins rest (codes "#include") && begins_line) (Passed (line_rest rest)) (Faulty NoToken) (length rest) (λ _. line_rest-within rest some other) (λ _. tt))
    (λ _. token_at-within rest)))))
