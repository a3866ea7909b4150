-- A text has no more tokens than bytes.
use Rattle.std.proofs.Common.{◌≡◌, ◌≤◌, ◌++◌, ℕ, zero, suc, List, [], ◌∷◌, length, take, drop, Result, Ok, Err, arith, subst}
use Rattle.std.specs.Prelude.{IfOk}
use Rattle.sk_tokens.specs.Tokens.{Piece, Passed, Found, Faulty, TokenFault, is_line_start, line_after, piece_at, tokens_from, tokens_of, with_token}
use Rattle.sk_tokens.specs.declared.token.Token.{Token}

abbrev AreFew : (pieces : ℕ) → Result (List Token) TokenFault → Type 0
AreFew pieces tokens = IfOk tokens (λ tokens. length tokens ≤ pieces)

one-more : (pieces : ℕ) (token : Token) (tokens : Result (List Token) TokenFault) → AreFew pieces tokens → AreFew (suc pieces) (with_token token tokens)
one-more pieces token (Ok tokens) few = omega (arith, few)
one-more pieces token (Err fault) few = tt

one-fewer : (pieces : ℕ) (tokens : Result (List Token) TokenFault) → AreFew pieces tokens → AreFew (suc pieces) tokens
one-fewer pieces (Ok tokens) few = omega (arith, few)
one-fewer pieces (Err fault) few = tt

few-behind : (fewer : ℕ) (before all : List ℕ) → ((bytes : ℕ) → AreFew fewer (tokens_from fewer (before ++ take bytes all) (drop bytes all)))
    → (piece : Piece) → AreFew (suc fewer) (elim piece [
      | Passed bytes ↦ tokens_from fewer (before ++ take bytes all) (drop bytes all)
      | Found bytes kind ↦ with_token (record { what = kind; line = line_after before }) (tokens_from fewer (before ++ take bytes all) (drop bytes all))
      | Faulty fault ↦ Err (fault (length before))
    ])
few-behind fewer before all further (Passed bytes) = one-fewer fewer _ (further bytes)
few-behind fewer before all further (Found bytes kind) = one-more fewer _ _ (further bytes)
few-behind fewer before all further (Faulty fault) = tt

few-from : (pieces : ℕ) (before rest : List ℕ) → AreFew pieces (tokens_from pieces before rest)
few-from pieces before [] = omega arith
few-from zero before (byte ∷ rest) = omega arith
few-from (suc fewer) before (byte ∷ rest) =
    few-behind fewer before (byte ∷ rest) (λ bytes. few-from fewer (before ++ take bytes (byte ∷ rest)) (drop bytes (byte ∷ rest)))
    (piece_at (is_line_start before) (byte ∷ rest))

pub few-tokens : (text : List ℕ) (tokens : List Token) → tokens_of text ≡ Ok tokens → length tokens ≤ length text
unfolding tokens_of
few-tokens text tokens are = subst (AreFew (length text)) are (few-from (length text) [] text)
