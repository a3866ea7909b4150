-- The tokens of a rest, by the piece at its front.
use Rattle.std.proofs.Common.{◌≡◌, ℕ, zero, suc, ◌<◌, List, [], ◌∷◌, ◌++◌, length, take, drop, Ok, Err, refl, arith}
use Rattle.sk_tokens.specs.declared.token.TokenKind.{TokenKind}
use Rattle.sk_tokens.specs.Tokens.{TokenFault, Passed, Found, Faulty, line_after, is_line_start, piece_at, with_token, tokens_from}

pub tokens_from-end : (pieces : ℕ) (before : List ℕ) → tokens_from pieces before [] ≡ Ok []
tokens_from-end zero before = refl
tokens_from-end (suc pieces) before = refl

pub tokens_from-passed : (fewer : ℕ) (before rest : List ℕ) (n : ℕ) → 0 < length rest → piece_at (is_line_start before) rest ≡ Passed n → tokens_from (suc fewer) before rest ≡ tokens_from fewer (before ++ take n rest) (drop n rest)
tokens_from-passed fewer before [] n some passed = absurd (omega arith)
tokens_from-passed fewer before (byte ∷ rest) n some passed = rw (passed, tokens_from) refl

pub tokens_from-found : (fewer : ℕ) (before rest : List ℕ) (n : ℕ) (kind : TokenKind) → 0 < length rest → piece_at (is_line_start before) rest ≡ Found n kind → tokens_from (suc fewer) before rest ≡ with_token (record { what = kind; line = line_after before }) (tokens_from fewer (before ++ take n rest) (drop n rest))
tokens_from-found fewer before [] n kind some found = absurd (omega arith)
tokens_from-found fewer before (byte ∷ rest) n kind some found = rw (found, tokens_from) refl
