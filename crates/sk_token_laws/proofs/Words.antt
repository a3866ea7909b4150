-- The word at the front of a rest that begins with a letter.
use Rattle.std.proofs.Common.{◌≡◌, ℕ, zero, suc, ◌<◌, ◌≤◌, true, false, List, [], ◌∷◌, length, take, refl, arith, slice_index}
use Rattle.std.specs.Prelude.{Some, None, nat_le}
use Rattle.std.specs.List.{list_all, prefix_len}
use Rattle.std.proofs.lemmas.List.Sums.{prefix_len-le-length}
use Rattle.std.proofs.lemmas.List.Folds.{length-prefix_len}
use Rattle.std.proofs.lemmas.Bool.Decides.{nat_tests}
use Rattle.sk_tokens.specs.Lexemes.{WordLexeme, lexeme_of}
use Rattle.sk_names.specs.Bytes.{is_letter, is_word_byte}
use Rattle.sk_tokens.specs.declared.token.TokenKind.TheVariants.{Word}
use Rattle.sk_tokens.specs.Tokens.{Found, Faulty, LongName, token_at, longest_of}
use Rattle.sk_token_laws.proofs.Longest.{longest_of-found}
use Rattle.sk_token_laws.proofs.Prefixes.{prefix_len-pass, list_all-prefix, list_all-longer}

-- what a front of such a rest spells
lexeme_of-word : (first : ℕ) (tail : List ℕ) (k : ℕ) → is_letter first ≡ true → list_all is_word_byte (take k tail) ≡ true → lexeme_of (take (suc k) (first ∷ tail)) ≡ Some (WordLexeme (take (suc k) (first ∷ tail)))
unfolding lexeme_of
lexeme_of-word first tail k letter all = rw letter (rw all refl)

lexeme_of-no_word : (first : ℕ) (tail : List ℕ) (k : ℕ) → is_letter first ≡ true → list_all is_word_byte (take k tail) ≡ false → lexeme_of (take (suc k) (first ∷ tail)) ≡ None
unfolding lexeme_of
lexeme_of-no_word first tail k letter all = rw letter (rw all refl)

is_word_byte-letter : (byte : ℕ) → is_letter byte ≡ true → is_word_byte byte ≡ true
is_word_byte-letter byte letter = rw letter refl

pub longest_of-word : (rest : List ℕ) → is_letter (slice_index rest 0) ≡ true → longest_of (length rest) rest ≡ Some (prefix_len is_word_byte rest, WordLexeme (take (prefix_len is_word_byte rest) rest))
longest_of-word [] letter = cc
longest_of-word (first ∷ tail) letter =
    let e = prefix_len-pass is_word_byte first tail (is_word_byte-letter first letter) in
    let within = prefix_len-le-length is_word_byte tail in
    rw e (longest_of-found (length (first ∷ tail)) (suc (prefix_len is_word_byte tail)) (first ∷ tail) (WordLexeme (take (suc (prefix_len is_word_byte tail)) (first ∷ tail))) (omega arith) (omega arith)
    (lexeme_of-word first tail (prefix_len is_word_byte tail) letter (list_all-prefix is_word_byte tail))
    (λ k longer under. longer_word first tail k letter longer under))
  where
    longer_word : (first : ℕ) (tail : List ℕ) (k : ℕ) → is_letter first ≡ true → suc (prefix_len is_word_byte tail) < k → k ≤ length (first ∷ tail) → lexeme_of (take k (first ∷ tail)) ≡ None
    longer_word first tail zero letter longer under = absurd (omega arith)
    longer_word first tail (suc k) letter longer under = lexeme_of-no_word first tail k letter (list_all-longer is_word_byte tail k (omega arith) (omega arith))

pub token_at-word : (rest : List ℕ) → is_letter (slice_index rest 0) ≡ true → prefix_len is_word_byte rest ≤ 255 → token_at rest ≡ Found (prefix_len is_word_byte rest) (Word (take (prefix_len is_word_byte rest) rest))
unfolding token_at
token_at-word rest letter short =
    let e : nat_le (length (take (prefix_len is_word_byte rest) rest)) 255 ≡ true = rw (length-prefix_len is_word_byte rest) (grind (arith, nat_tests)) in
    rw (longest_of-word rest letter, token_at) (rw e refl)

pub token_at-long_word : (rest : List ℕ) → is_letter (slice_index rest 0) ≡ true → 255 < prefix_len is_word_byte rest → token_at rest ≡ Faulty LongName
unfolding token_at
token_at-long_word rest letter long =
    let e : nat_le (length (take (prefix_len is_word_byte rest) rest)) 255 ≡ false = rw (length-prefix_len is_word_byte rest) (grind (arith, nat_tests)) in
    rw (longest_of-word rest letter, token_at) (rw e refl)
