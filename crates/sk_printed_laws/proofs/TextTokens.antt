-- Strings, and the bytes that they are spelled with.
use Rattle.std.proofs.Common.{◌≡◌, ℕ, suc, ◌+◌, ◌≤◌, inl, inr, Bool, true, false, ◌||◌, List, [], ◌∷◌, ◌++◌, length, refl, ap, subst, sym, ◌∙◌, arith, append_assoc}
use Rattle.std.specs.Prelude.{Some, ◌==◌}
use Rattle.std.specs.List.{list_all, flat_map}
use Rattle.std.proofs.lemmas.Bool.{and_parts}
use Rattle.std.proofs.lemmas.Bool.Decides.{eqb_tells}
use Rattle.std.proofs.lemmas.List.{length-append}
use Rattle.sk_tokens.specs.declared.token.TokenKind.TheVariants as kinds
use Rattle.sk_names.specs.Bytes.{is_from_to}
use Rattle.sk_tokens.specs.Lexemes.{escape_of}
use Rattle.sk_tokens.specs.Tokens.{Found, piece_at}
use Rattle.sk_token_laws.proofs.Strings.{closing, closing-quote, closing-itself, onward, string_rest_of-take, text_at, token_at-string}
use Rattle.sk_words.specs.Escapes.{escaped, quoted}
use Rattle.sk_printed_laws.proofs.Lexes.{Stands, feeds, feeds-append, piece_at-token}

-- ---- strings

-- a byte that a string may stand for
abbrev pub is_text_byte : ℕ → Bool
is_text_byte byte = byte == 10 || byte == 9 || is_from_to 32 126 byte

closing_pair : (second stands : ℕ) (rest : List ℕ) → escape_of second ≡ Some stands → closing (92 ∷ second ∷ rest) ≡ onward 2 (stands ∷ []) (closing rest)
closing_pair second stands rest is = rw is refl

single-printable : (byte : ℕ) → is_text_byte byte ≡ true → (byte == 10) ≡ false → (byte == 9) ≡ false → is_from_to 32 126 byte ≡ true
single-printable byte text no_feed no_tab = rw (no_feed, no_tab) at text

closing_escaped : (byte : ℕ) (rest : List ℕ) → is_text_byte byte ≡ true → closing (escaped byte ++ rest) ≡ onward (length (escaped byte)) (byte ∷ []) (closing rest)
closing_escaped byte rest text =
    elim (eqb_tells byte 10) [
      | inl feed ↦ subst (λ b. closing (escaped b ++ rest) ≡ onward (length (escaped b)) (b ∷ []) (closing rest)) (sym feed.1) (closing_pair 110 10 rest refl)
      | inr no_feed ↦
          elim (eqb_tells byte 9) [
            | inl tab ↦ subst (λ b. closing (escaped b ++ rest) ≡ onward (length (escaped b)) (b ∷ []) (closing rest)) (sym tab.1) (closing_pair 116 9 rest refl)
            | inr no_tab ↦
                elim (eqb_tells byte 92) [
                  | inl stroke ↦ subst (λ b. closing (escaped b ++ rest) ≡ onward (length (escaped b)) (b ∷ []) (closing rest)) (sym stroke.1) (closing_pair 92 92 rest refl)
                  | inr no_stroke ↦
                      elim (eqb_tells byte 34) [
                        | inl quote ↦ subst (λ b. closing (escaped b ++ rest) ≡ onward (length (escaped b)) (b ∷ []) (closing rest)) (sym quote.1) (closing_pair 34 34 rest refl)
                        | inr no_quote ↦
                            rw (no_feed.0, no_tab.0, no_stroke.0, no_quote.0)
                            (closing-itself byte rest no_quote.0 no_stroke.0 (single-printable byte text no_feed.0 no_tab.0))
                      ]
                ]
          ]
    ]

closing_text : (text rest : List ℕ) → list_all is_text_byte text ≡ true → closing (flat_map escaped text ++ (34 ∷ rest)) ≡ Some (length (flat_map escaped text) + 1, text)
closing_text [] rest all = closing-quote rest
closing_text (byte ∷ text) rest all =
    let here = and_parts (is_text_byte byte) (list_all is_text_byte text) all in
    let long = length-append (escaped byte) (flat_map escaped text) in
    let more : length (escaped byte) + (length (flat_map escaped text) + 1) ≡ length (escaped byte ++ flat_map escaped text) + 1 = omega arith in
    ap closing (append_assoc (escaped byte) (flat_map escaped text) (34 ∷ rest))
    ∙ closing_escaped byte (flat_map escaped text ++ (34 ∷ rest)) here.0
    ∙ ap (onward (length (escaped byte)) (byte ∷ [])) (closing_text text rest here.1)
    ∙ ap (λ n. Some (n, byte ∷ text)) more

-- no line ends in a string as it is spelled
feeds-escaped : (byte : ℕ) → feeds (escaped byte) ≡ 0
feeds-escaped byte =
    elim (eqb_tells byte 10) [
      | inl feed ↦ subst (λ b. feeds (escaped b) ≡ 0) (sym feed.1) refl
      | inr no_feed ↦
          elim (eqb_tells byte 9) [
            | inl tab ↦ subst (λ b. feeds (escaped b) ≡ 0) (sym tab.1) refl
            | inr no_tab ↦
                elim (eqb_tells byte 92) [
                  | inl stroke ↦ subst (λ b. feeds (escaped b) ≡ 0) (sym stroke.1) refl
                  | inr no_stroke ↦
                      elim (eqb_tells byte 34) [
                        | inl quote ↦ subst (λ b. feeds (escaped b) ≡ 0) (sym quote.1) refl
                        | inr no_quote ↦ rw (no_feed.0, no_tab.0, no_stroke.0, no_quote.0) (rw no_feed.0 refl)
                      ]
                ]
          ]
    ]

feeds-text : (text : List ℕ) → feeds (flat_map escaped text) ≡ 0
feeds-text [] = refl
feeds-text (byte ∷ text) =
    let here = feeds-escaped byte in
    let rest = feeds-text text in
    feeds-append (escaped byte) (flat_map escaped text) ∙ omega (arith, here, rest)

pub text_stands : (text rest : List ℕ) → list_all is_text_byte text ≡ true → length text ≤ 255 → Stands (quoted text) (kinds.Text text) rest
text_stands text rest all short =
    let body : List ℕ = flat_map escaped text ++ (34 ∷ rest) in
    let assoc : quoted text ++ rest ≡ 34 ∷ body = ap (λ xs. 34 ∷ xs) (append_assoc (flat_map escaped text) (34 ∷ []) rest) in
    let long : length (quoted text) ≡ suc (length (flat_map escaped text ++ (34 ∷ []))) = refl in
    let inner = length-append (flat_map escaped text) (34 ∷ []) in
    let whole = length-append (flat_map escaped text) (34 ∷ rest) in
    let token = token_at-string (34 ∷ body) (length (flat_map escaped text) + 1) text refl (omega arith)
    (λ k within. string_rest_of-take body k within ∙ ap (text_at k) (closing_text text rest all)) short in
    let no_feed = feeds-text text in
    let last : feeds (34 ∷ []) ≡ 0 = refl in
    let feed_in = feeds-append (flat_map escaped text) (34 ∷ []) in
    let feed_out = feeds-append (34 ∷ []) (flat_map escaped text ++ (34 ∷ [])) in
    let size : length (flat_map escaped text) + 1 + 1 ≡ length (quoted text) = omega arith in
    record {
      some = omega arith;
      one_line = feed_out ∙ omega (arith, no_feed, last, feed_in);
      piece = λ begins_line.
          ap (piece_at begins_line) assoc ∙ piece_at-token 34 body refl refl refl begins_line ∙ token
          ∙ ap (λ n. Found n (kinds.Text text)) size;
    }
