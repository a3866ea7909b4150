-- Lists with commas between.
use Rattle.std.proofs.Common.{◌≡◌, ℕ, suc, List, [], ◌∷◌, ◌++◌, length, map, refl, ap, subst, sym, ◌∙◌, arith, append_assoc}
use Rattle.std.specs.Prelude.{codes}
use Rattle.std.proofs.lemmas.List.{append-nil}
use Rattle.sk_grammar.specs.ExpressionSpelling.{sign_at, with_commas, each}
use Rattle.sk_tokens.specs.declared.token.Sign.TheVariants as sign
use Rattle.sk_tokens.specs.declared.token.Token.{Token}
use Rattle.sk_words.specs.Strung.{separated}
use Rattle.sk_printed_laws.proofs.ExpressionSpelt.{strung-lead}
use Rattle.sk_printed_laws.proofs.Lexes.{Lexes, Ends}
use Rattle.sk_printed_laws.proofs.Punctuation.{comma_lexes}

module _ {A M : Type 0} (in_front : A → List Token → List Token) (Lawful : A → Type 0) (meaning : A → M) (line : ℕ) where
  -- on this line, texts with commas between have the tokens of parts that mean these
  pub record SpeltWithCommas (meanings : List M) (texts : List (List ℕ)) : Type 0 where
    pub parts : List (A × ℕ)
    pub lawful : each (λ p. Lawful p.0) parts
    pub means : map (λ p. meaning p.0) parts ≡ meanings
    pub as_many : length parts ≡ length texts
    pub lexes : (rest : List ℕ) (tokens : List Token) → Ends rest → Lexes line rest tokens → Lexes line (separated texts ++ rest) (with_commas in_front parts tokens)

  pub commas_none : SpeltWithCommas [] []
  commas_none = record { parts = []; lawful = tt; means = refl; as_many = refl; lexes = λ rest tokens ends after. after }

  pub commas_more : (part : A) (m : M) (text : List ℕ) (meanings : List M) (texts : List (List ℕ)) → Lawful part → meaning part ≡ m → ((rest : List ℕ) (tokens : List Token) → Ends rest → Lexes line rest tokens → Lexes line (text ++ rest) (in_front part tokens)) → SpeltWithCommas meanings texts → SpeltWithCommas (m ∷ meanings) (text ∷ texts)
  commas_more part m text meanings texts lawful means lexes listed = by_parts listed.parts texts meanings listed.lawful listed.means listed.as_many listed.lexes
    where
      by_parts : (parts : List (A × ℕ)) (texts : List (List ℕ)) (meanings : List M) → each (λ p. Lawful p.0) parts → map (λ p. meaning p.0) parts ≡ meanings → length parts ≡ length texts → ((rest : List ℕ) (tokens : List Token) → Ends rest → Lexes line rest tokens → Lexes line (separated texts ++ rest) (with_commas in_front parts tokens)) → SpeltWithCommas (m ∷ meanings) (text ∷ texts)
      by_parts [] (other ∷ texts) meanings all same many further = cc
      by_parts (next ∷ parts) [] meanings all same many further = cc
      by_parts [] [] meanings all same many further = record {
        parts = (part, line) ∷ [];
        lawful = (lawful, tt);
        means = ap (λ x. x ∷ []) means ∙ ap (λ xs. m ∷ xs) same;
        as_many = refl;
        lexes = λ rest tokens ends after. subst (λ bytes. Lexes line (bytes ++ rest) (in_front part tokens)) (sym (append-nil text)) (lexes rest tokens ends after);
      }
      by_parts (next ∷ parts) (other ∷ texts) meanings all same many further = record {
        parts = (part, line) ∷ next ∷ parts;
        lawful = (lawful, all);
        means = ap (λ x. x ∷ map (λ p. meaning p.0) (next ∷ parts)) means ∙ ap (λ xs. m ∷ xs) same;
        as_many = ap suc many;
        lexes = λ rest tokens ends after.
            let split : separated (text ∷ other ∷ texts) ≡ text ++ (codes ", " ++ separated (other ∷ texts)) = ap (λ more. text ++ more) (strung-lead (codes ", ") (other ∷ texts) (omega arith)) in
            let e : text ++ (44 ∷ 32 ∷ (separated (other ∷ texts) ++ rest)) ≡ separated (text ∷ other ∷ texts) ++ rest =
            sym (ap (λ bytes. bytes ++ rest) split ∙ append_assoc text (codes ", " ++ separated (other ∷ texts)) rest) in
            subst (λ bytes. Lexes line bytes (in_front part (sign_at sign.Comma line ∷ with_commas in_front (next ∷ parts) tokens))) e
            (lexes (44 ∷ 32 ∷ (separated (other ∷ texts) ++ rest)) (sign_at sign.Comma line ∷ with_commas in_front (next ∷ parts) tokens) (record { parted = refl })
            (comma_lexes line (separated (other ∷ texts) ++ rest) (with_commas in_front (next ∷ parts) tokens) (further rest tokens ends after)));
      }
