-- Marks in front of a rest whose tokens are known.
use Rattle.std.proofs.Common.{◌≡◌, ℕ, ◌<◌, ◌≤◌, true, false, List, [], ◌∷◌, ◌++◌, length, slice_index, arith}
use Rattle.std.specs.Prelude.{codes, ◌==◌}
use Rattle.sk_grammar.specs.ExpressionSpelling.{word, sign_at}
use Rattle.sk_names.specs.Words.{is_word}
use Rattle.sk_tokens.specs.declared.token.Sign.TheVariants as sign
use Rattle.sk_tokens.specs.declared.token.Sign.{Sign}
use Rattle.sk_tokens.specs.declared.token.Token.{Token}
use Rattle.sk_tokens.specs.declared.token.TokenKind.TheVariants as kinds
use Rattle.sk_printed_laws.proofs.Lexes.{Lexes, Stands, Ends, lexes-token, lexes-space}
use Rattle.sk_printed_laws.proofs.SignTokens.{open_stands, close_stands, comma_stands, semi_stands, dot_stands, path_stands, equals_stands, open_brace_stands, close_brace_stands, minus_stands, not_stands, less_stands}
use Rattle.sk_printed_laws.proofs.WordTokens.{word_stands}

module _ (line : ℕ) (rest : List ℕ) (tokens : List Token) (lexes : Lexes line rest tokens) where
  pub open_lexes : Lexes line (40 ∷ rest) (sign_at sign.OpenParen line ∷ tokens)
  open_lexes = lexes-token line (codes "(") rest (kinds.Sign sign.OpenParen) tokens (open_stands rest) lexes

  pub close_lexes : Lexes line (41 ∷ rest) (sign_at sign.CloseParen line ∷ tokens)
  close_lexes = lexes-token line (codes ")") rest (kinds.Sign sign.CloseParen) tokens (close_stands rest) lexes

  pub comma_lexes : Lexes line (44 ∷ 32 ∷ rest) (sign_at sign.Comma line ∷ tokens)
  comma_lexes = lexes-token line (codes ",") (32 ∷ rest) (kinds.Sign sign.Comma) tokens (comma_stands (32 ∷ rest)) (lexes-space line rest tokens lexes)

  pub semi_lexes : Lexes line (59 ∷ rest) (sign_at sign.Semi line ∷ tokens)
  semi_lexes = lexes-token line (codes ";") rest (kinds.Sign sign.Semi) tokens (semi_stands rest) lexes

  pub dot_lexes : Lexes line (46 ∷ rest) (sign_at sign.Dot line ∷ tokens)
  dot_lexes = lexes-token line (codes ".") rest (kinds.Sign sign.Dot) tokens (dot_stands rest) lexes

  pub path_lexes : Lexes line (58 ∷ 58 ∷ rest) (sign_at sign.Path line ∷ tokens)
  path_lexes = lexes-token line (codes "::") rest (kinds.Sign sign.Path) tokens (path_stands rest) lexes

  pub open_brace_lexes : Lexes line (123 ∷ rest) (sign_at sign.OpenBrace line ∷ tokens)
  open_brace_lexes = lexes-token line (codes "{") rest (kinds.Sign sign.OpenBrace) tokens (open_brace_stands rest) lexes

  pub close_brace_lexes : Lexes line (125 ∷ rest) (sign_at sign.CloseBrace line ∷ tokens)
  close_brace_lexes = lexes-token line (codes "}") rest (kinds.Sign sign.CloseBrace) tokens (close_brace_stands rest) lexes

  -- ` = `
  pub equals_lexes : Lexes line (32 ∷ 61 ∷ 32 ∷ rest) (sign_at sign.Eq line ∷ tokens)
  equals_lexes = lexes-space line (61 ∷ 32 ∷ rest) (sign_at sign.Eq line ∷ tokens)
      (lexes-token line (codes "=") (32 ∷ rest) (kinds.Sign sign.Eq) tokens (equals_stands rest) (lexes-space line rest tokens lexes))

  -- a sign between blanks
  pub spaced_lexes : (bytes : List ℕ) (s : Sign) → ((after : List ℕ) → Stands bytes (kinds.Sign s) (32 ∷ after)) → Lexes line (32 ∷ (bytes ++ (32 ∷ rest))) (sign_at s line ∷ tokens)
  spaced_lexes bytes s stands = lexes-space line (bytes ++ (32 ∷ rest)) (sign_at s line ∷ tokens)
      (lexes-token line bytes (32 ∷ rest) (kinds.Sign s) tokens (stands rest) (lexes-space line rest tokens lexes))

  pub word_lexes : (name : List ℕ) → is_word name ≡ true → length name ≤ 255 → Ends rest → Lexes line (name ++ rest) (word name line ∷ tokens)
  word_lexes name is short ends = lexes-token line name rest (kinds.Word name) tokens (word_stands name rest is short ends) lexes

-- `-`, `!`, `<` and `>` before what makes no longer sign with them
pub minus_before : (rest : List ℕ) → 0 < length rest → (45 == slice_index rest 0) ≡ false → (61 == slice_index rest 0) ≡ false → Stands (codes "-") (kinds.Sign sign.Minus) rest
minus_before [] some no_minus no_equals = absurd (omega arith)
minus_before (c ∷ rest) some no_minus no_equals = minus_stands c rest no_minus no_equals

pub not_before : (rest : List ℕ) → 0 < length rest → (61 == slice_index rest 0) ≡ false → Stands (codes "!") (kinds.Sign sign.Not) rest
not_before [] some no_equals = absurd (omega arith)
not_before (c ∷ rest) some no_equals = not_stands c rest no_equals

pub less_before : (rest : List ℕ) → 0 < length rest → (60 == slice_index rest 0) ≡ false → (61 == slice_index rest 0) ≡ false → Stands (codes "<") (kinds.Sign sign.Lt) rest
less_before [] some no_less no_equals = absurd (omega arith)
less_before (c ∷ rest) some no_less no_equals = less_stands c rest no_less no_equals
