-- Pieces at the place that is reached.
use Rattle.std.proofs.Common.{◌≡◌, ℕ, ◌+◌, ◌≤◌, List, length, take, drop, ap, sym, ◌∙◌, arith}
use Rattle.std.specs.Prelude.{fold}
use Rattle.std.proofs.lemmas.List.{length-drop, length-take-le}
use Rattle.sk_tokens.specs.Tokens.{is_line_start, piece_at}
use Rattle.sk_lexer.specs.declared.piece.Piece as code
use Rattle.sk_lexer.specs.declared.place.Place.{Place}
use Rattle.sk_lexer.specs.Pieces.{piece_of}
use Rattle.sk_lexer.specs.Places.{place_after, place_then}
use Rattle.sk_lexer.proofs.PlaceLemmas.{place_after-append}
use Rattle.sk_token_laws.proofs.Parts.{take-more}

pub piece_at-place : (text part : List ℕ) (place : Place) (piece same : code.Piece) → part ≡ drop place.at text → place ≡ place_after (take place.at text) → piece_of piece ≡ piece_at place.begins_line part → piece ≡ same → piece_at (is_line_start (take place.at text)) (drop place.at text) ≡ piece_of same
piece_at-place text part place piece same is_rest stands found is =
    ap (λ begins. piece_at begins (drop place.at text)) (sym (ap (λ (p : Place). p.begins_line) stands)) ∙ ap (piece_at place.begins_line) (sym is_rest) ∙ sym found ∙ ap piece_of is

-- the place past so many bytes of the rest
pub record IsPast (text : List ℕ) (place : Place) (bytes : ℕ) (past : Place) : Type 0 where
  pub at : past.at ≡ place.at + bytes
  pub stands : past ≡ place_after (take past.at text)

pub IsPast-fold : (text part : List ℕ) (place past : Place) (n : ℕ) → part ≡ drop place.at text → place ≡ place_after (take place.at text) → place.at + n ≤ length text → past ≡ fold place_then place (take n part) → IsPast text place n past
IsPast-fold text part place past n is_rest stands within same =
    let whole : past ≡ place_after (take (place.at + n) text) = same ∙ ap (λ p. fold place_then place (take n p)) is_rest ∙ ap (λ (p : Place). fold place_then p (take n (drop place.at text))) stands ∙ place_after-append (take place.at text) (take n (drop place.at text)) ∙ ap place_after (take-more text place.at n) in
    let here : past.at ≡ place.at + n = ap (λ (p : Place). p.at) whole ∙ length-take-le (place.at + n) text within in
    record {
      at = here;
      stands = whole ∙ ap (λ k. place_after (take k text)) (sym here);
    }

pub length-front : (text part : List ℕ) (at n : ℕ) → part ≡ drop at text → at + n ≤ length text → n ≡ length (take n part)
length-front text part at n is_rest within =
    let long = length-drop at text in
    let e : length part ≡ length (drop at text) = ap length is_rest in
    sym (length-take-le n part (omega arith))
