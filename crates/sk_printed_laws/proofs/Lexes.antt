-- The tokens of the rest of a text, token by token.
use Rattle.std.proofs.Common.{◌≡◌, ℕ, zero, suc, ◌+◌, ◌<◌, ◌≤◌, Bool, true, false, List, [], ◌∷◌, ◌++◌, length, take, drop, Ok, refl, ap, sym, ◌∙◌, arith}
use Rattle.std.specs.Prelude.{count_by, ◌==◌, if◌then◌else◌, not, fold, codes}
use Rattle.std.specs.List.{list_all, starts_with}
use Rattle.std.specs.Cmp.Lexicographic.{pointwise}
use Rattle.std.proofs.lemmas.List.{length-append}
use Rattle.std.proofs.lemmas.List.Sums.{fold-append}
use Rattle.std.proofs.Math.Seq.{take-append_seam, drop-append_seam}
use Rattle.sk_tokens.specs.declared.token.Token.{Token}
use Rattle.sk_tokens.specs.declared.token.TokenKind.{TokenKind}
use Rattle.sk_tokens.specs.Lexemes.{is_blank}
use Rattle.sk_names.specs.Bytes.{is_word_byte}
use Rattle.sk_tokens.specs.Tokens.{Passed, Found, line_after, is_line_start, piece_at, token_at, with_token, tokens_from, tokens_of}
use Rattle.sk_token_laws.proofs.Pieces.{piece_at-some, begins}
use Rattle.sk_token_laws.proofs.Steps.{tokens_from-end, tokens_from-passed, tokens_from-found}

-- how many lines end in these bytes
abbrev pub feeds : List ℕ → ℕ
feeds bytes = count_by (λ byte. byte == 10) bytes

-- from this line on the rest of a text has these tokens
pub record Lexes (line : ℕ) (rest : List ℕ) (tokens : List Token) : Type 0 where
  pub onwards : (before : List ℕ) (pieces : ℕ) → line_after before ≡ line → length rest ≤ pieces → tokens_from pieces before rest ≡ Ok tokens

-- what stands at the front of the rest is this token
pub record Stands (bytes : List ℕ) (kind : TokenKind) (rest : List ℕ) : Type 0 where
  pub some : 0 < length bytes
  pub one_line : feeds bytes ≡ 0
  pub piece : (begins_line : Bool) → piece_at begins_line (bytes ++ rest) ≡ Found (length bytes) kind

-- no letter, digit or `_` stands at the front
pub record Ends (rest : List ℕ) : Type 0 where
  pub parted : list_all (λ byte. not (is_word_byte byte)) (take 1 rest) ≡ true

feeds-from : (n : ℕ) (bytes : List ℕ) → fold (λ m byte. m + (if byte == 10 then 1 else 0)) n bytes ≡ n + feeds bytes
feeds-from n [] = omega arith
feeds-from n (byte ∷ bytes) =
    let here = feeds-from (n + (if byte == 10 then 1 else 0)) bytes in
    let there = feeds-from (0 + (if byte == 10 then 1 else 0)) bytes in
    omega (arith, here, there)

pub feeds-append : (xs ys : List ℕ) → feeds (xs ++ ys) ≡ feeds xs + feeds ys
feeds-append xs ys = fold-append (λ m byte. m + (if byte == 10 then 1 else 0)) 0 xs ys ∙ feeds-from (feeds xs) ys

line_after-append : (before bytes : List ℕ) → line_after (before ++ bytes) ≡ line_after before + feeds bytes
line_after-append before bytes = let e = feeds-append before bytes in omega (arith, e)

pub lexes-end : (line : ℕ) → Lexes line [] []
lexes-end line = record { onwards = λ before pieces here enough. tokens_from-end pieces before }

piece_at-blank : (byte : ℕ) (rest : List ℕ) → is_blank byte ≡ true → (begins_line : Bool) → piece_at begins_line (byte ∷ rest) ≡ Passed 1
piece_at-blank byte rest blank begins_line = piece_at-some begins_line (byte ∷ rest) (omega arith) ∙ rw blank refl

lexes-blank : (line next byte : ℕ) (rest : List ℕ) (tokens : List Token) → is_blank byte ≡ true → next ≡ line + feeds (byte ∷ []) → Lexes next rest tokens → Lexes line (byte ∷ rest) tokens
lexes-blank line next byte rest tokens blank goes lexes = record { onwards = λ before pieces here enough. passed before pieces here enough }
  where
    passed : (before : List ℕ) (pieces : ℕ) → line_after before ≡ line → length (byte ∷ rest) ≤ pieces → tokens_from pieces before (byte ∷ rest) ≡ Ok tokens
    passed before zero here enough = absurd (omega arith)
    passed before (suc fewer) here enough =
        tokens_from-passed fewer before (byte ∷ rest) 1 (omega arith) (piece_at-blank byte rest blank (is_line_start before))
        ∙ lexes.onwards (before ++ (byte ∷ [])) fewer (line_after-append before (byte ∷ []) ∙ ap (λ n. n + feeds (byte ∷ [])) here ∙ sym goes) (omega arith)

pub lexes-space : (line : ℕ) (rest : List ℕ) (tokens : List Token) → Lexes line rest tokens → Lexes line (32 ∷ rest) tokens
lexes-space line rest tokens lexes = lexes-blank line line 32 rest tokens refl (let e : feeds (32 ∷ []) ≡ 0 = refl in omega arith) lexes

pub lexes-feed : (line : ℕ) (rest : List ℕ) (tokens : List Token) → Lexes (suc line) rest tokens → Lexes line (10 ∷ rest) tokens
lexes-feed line rest tokens lexes = lexes-blank line (suc line) 10 rest tokens refl (let e : feeds (10 ∷ []) ≡ 1 = refl in omega arith) lexes

pub lexes-token : (line : ℕ) (bytes rest : List ℕ) (kind : TokenKind) (tokens : List Token) → Stands bytes kind rest → Lexes line rest tokens → Lexes line (bytes ++ rest) (record { what = kind; line = line } ∷ tokens)
lexes-token line bytes rest kind tokens stands lexes = record { onwards = λ before pieces here enough. found before pieces here enough }
  where
    found : (before : List ℕ) (pieces : ℕ) → line_after before ≡ line → length (bytes ++ rest) ≤ pieces → tokens_from pieces before (bytes ++ rest) ≡ Ok (record { what = kind; line = line } ∷ tokens)
    found before zero here enough = let long = length-append bytes rest in let some = stands.some in absurd (omega arith)
    found before (suc fewer) here enough =
        let long = length-append bytes rest in
        let some = stands.some in
        let no_feed = stands.one_line in
        let same : line_after (before ++ bytes) ≡ line = line_after-append before bytes ∙ omega (arith, here, no_feed) in
        tokens_from-found fewer before (bytes ++ rest) (length bytes) kind (omega arith) (stands.piece (is_line_start before))
        ∙ ap (λ front. with_token (record { what = kind; line = line_after before }) (tokens_from fewer (before ++ front) (drop (length bytes) (bytes ++ rest)))) (take-append_seam bytes rest)
        ∙ ap (λ r. with_token (record { what = kind; line = line_after before }) (tokens_from fewer (before ++ bytes) r)) (drop-append_seam bytes rest)
        ∙ ap (λ found. with_token (record { what = kind; line = line_after before }) found) (lexes.onwards (before ++ bytes) fewer same (omega arith))
        ∙ ap (λ l. Ok (record { what = kind; line = l } ∷ tokens)) here

pub lexes-whole : (text : List ℕ) (tokens : List Token) → Lexes 1 text tokens → tokens_of text ≡ Ok tokens
unfolding tokens_of
lexes-whole text tokens lexes = lexes.onwards [] (length text) refl (omega arith)

comment : (byte : ℕ) (rest more : List ℕ) → (47 == byte) ≡ false → begins (byte ∷ rest) (47 ∷ more) ≡ false
comment byte rest more no_slash = rw (no_slash, starts_with, pointwise) refl

-- a byte that begins neither blanks nor a comment begins a token
pub piece_at-token : (byte : ℕ) (rest : List ℕ) → is_blank byte ≡ false → (47 == byte) ≡ false → (byte == 35) ≡ false → (begins_line : Bool) → piece_at begins_line (byte ∷ rest) ≡ token_at (byte ∷ rest)
piece_at-token byte rest no_blank no_slash no_hash begins_line =
    piece_at-some begins_line (byte ∷ rest) (omega arith) ∙ rw (no_blank, no_hash) (rw (comment byte rest (codes "/") no_slash, comment byte rest (codes "*") no_slash) refl)
