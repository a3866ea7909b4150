-- Tokens piece by piece: what is known where a text is read up to a place.
use Rattle.std.proofs.Common.{◌≡◌, ℕ, suc, ◌+◌, ◌-◌, ◌<◌, ◌≤◌, List, [], ◌∷◌, ◌++◌, Bool, length, take, drop, Result, Ok, Err, refl, ap, subst, sym, ◌∙◌, arith, append_assoc}
use Rattle.std.proofs.lemmas.List.{length-drop}
use Rattle.sk_tokens.specs.declared.token.Token.{Token}
use Rattle.sk_tokens.specs.declared.token.TokenKind.{TokenKind}
use Rattle.sk_tokens.specs.Tokens.{TokenFault, Passed, Found, line_after, is_line_start, piece_at, with_token, tokens_from, tokens_of}
use Rattle.sk_token_laws.proofs.Parts.{drop-drop, take-more}
use Rattle.sk_token_laws.proofs.Pieces.{HasBytes, piece_at-within}
use Rattle.sk_token_laws.proofs.Steps.{tokens_from-passed, tokens_from-found}

-- these tokens and then those of the rest, unless it has a fault
abbrev pub onto : List Token → Result (List Token) TokenFault → Result (List Token) TokenFault
onto tokens (Ok more) = Ok (tokens ++ more)
onto tokens (Err fault) = Err fault

-- the tokens of the text up to a place, and enough pieces for its rest
pub record HasLexed (text : List ℕ) (at : ℕ) (tokens : List Token) : Type 0 where
  pub within : at ≤ length text
  pub pieces : ℕ
  pub enough : length text ≤ at + pieces
  pub onwards : tokens_of text ≡ onto tokens (tokens_from pieces (take at text) (drop at text))

onto-none : (rest : Result (List Token) TokenFault) → rest ≡ onto [] rest
onto-none (Ok tokens) = refl
onto-none (Err fault) = refl

onto-with_token : (tokens : List Token) (token : Token) (rest : Result (List Token) TokenFault) → onto tokens (with_token token rest) ≡ onto (tokens ++ (token ∷ [])) rest
onto-with_token tokens token (Ok more) = ap (λ all. Ok all) (sym (append_assoc tokens (token ∷ []) more))
onto-with_token tokens token (Err fault) = refl

pub HasLexed-none : (text : List ℕ) → HasLexed text 0 []
unfolding tokens_of
HasLexed-none text = record {
  within = omega arith;
  pieces = length text;
  enough = omega arith;
  onwards = onto-none (tokens_from (length text) [] text);
}

pub HasLexed-passed : (text : List ℕ) (at n : ℕ) (tokens : List Token) → HasLexed text at tokens → at < length text → piece_at (is_line_start (take at text)) (drop at text) ≡ Passed n → HasLexed text (at + n) tokens
HasLexed-passed text at n tokens lexed under passed =
    let long = length-drop at text in
    let some : 0 < length (drop at text) = omega arith in
    let bytes = subst (λ piece. HasBytes piece (length (drop at text))) passed (piece_at-within (is_line_start (take at text)) (drop at text) some) in
    let fewer = lexed.pieces - 1 in
    let one_more : lexed.pieces ≡ suc fewer = omega (arith, lexed.enough) in
    record {
      within = omega (arith, bytes.1);
      pieces = fewer;
      enough = omega (arith, lexed.enough, bytes.0);
      onwards = lexed.onwards ∙ ap (λ k. onto tokens (tokens_from k (take at text) (drop at text))) one_more
          ∙ ap (onto tokens) (tokens_from-passed fewer (take at text) (drop at text) n some passed)
          ∙ ap (λ before. onto tokens (tokens_from fewer before (drop n (drop at text)))) (take-more text at n)
          ∙ ap (λ rest. onto tokens (tokens_from fewer (take (at + n) text) rest)) (drop-drop text at n);
    }

pub HasLexed-found : (text : List ℕ) (at n : ℕ) (kind : TokenKind) (tokens : List Token) → HasLexed text at tokens → at < length text → piece_at (is_line_start (take at text)) (drop at text) ≡ Found n kind → HasLexed text (at + n) (tokens ++ (record { what = kind; line = line_after (take at text) } ∷ []))
HasLexed-found text at n kind tokens lexed under found =
    let long = length-drop at text in
    let some : 0 < length (drop at text) = omega arith in
    let bytes = subst (λ piece. HasBytes piece (length (drop at text))) found (piece_at-within (is_line_start (take at text)) (drop at text) some) in
    let fewer = lexed.pieces - 1 in
    let token : Token = record { what = kind; line = line_after (take at text) } in
    let one_more : lexed.pieces ≡ suc fewer = omega (arith, lexed.enough) in
    record {
      within = omega (arith, bytes.1);
      pieces = fewer;
      enough = omega (arith, lexed.enough, bytes.0);
      onwards = lexed.onwards ∙ ap (λ k. onto tokens (tokens_from k (take at text) (drop at text))) one_more
          ∙ ap (onto tokens) (tokens_from-found fewer (take at text) (drop at text) n kind some found)
          ∙ ap (λ before. onto tokens (with_token token (tokens_from fewer before (drop n (drop at text))))) (take-more text at n)
          ∙ ap (λ rest. onto tokens (with_token token (tokens_from fewer (take (at + n) text) rest))) (drop-drop text at n)
          ∙ onto-with_token tokens token (tokens_from fewer (take (at + n) text) (drop (at + n) text));
    }

-- so many bytes are there
pub bytes_within : (text : List ℕ) (at n : ℕ) (begins : Bool) → at < length text → piece_at begins (drop at text) ≡ Passed n → (0 < n) × (at + n ≤ length text)
bytes_within text at n begins under passed =
    let long = length-drop at text in
    let some : 0 < length (drop at text) = omega arith in
    let bytes = subst (λ piece. HasBytes piece (length (drop at text))) passed (piece_at-within begins (drop at text) some) in
    (bytes.0, omega (arith, bytes.1))

pub found_within : (text : List ℕ) (at n : ℕ) (kind : TokenKind) (begins : Bool) → at < length text → piece_at begins (drop at text) ≡ Found n kind → (0 < n) × (at + n ≤ length text)
found_within text at n kind begins under found =
    let long = length-drop at text in
    let some : 0 < length (drop at text) = omega arith in
    let bytes = subst (λ piece. HasBytes piece (length (drop at text))) found (piece_at-within begins (drop at text) some) in
    (bytes.0, omega (arith, bytes.1))
