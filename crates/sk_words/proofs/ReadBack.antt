-- Words read back: what is put on a line is found on it again. For decimal numbers these are laws of the library:
-- `parse-decimal` and `parse-signed_decimal`.
use Rattle.std.proofs.Common.{◌≡◌, ℕ, zero, suc, ◌<◌, ◌≤◌, inl, inr, true, false, All, List, [], ◌∷◌, ◌++◌, refl, ap, subst, sym, ◌∙◌, eqb, arith}
use Rattle.std.specs.Prelude.{Some, ◌==◌}
use Rattle.std.specs.List.{slice_split}
use Rattle.std.specs.Option.{option_map}
use Rattle.std.proofs.lemmas.Bool.Decides.{eqb_tells}
use Rattle.std.proofs.lemmas.List.{append-nil}
use Rattle.std.proofs.lemmas.List.Splits.{slice_split_none, slice_split_at}
use Rattle.sk_base.specs.declared.number.Ty.{Ty}
use Rattle.sk_base.specs.declared.number.Ty.TheVariants.{Int, Long}
use Rattle.sk_names.specs.Words.{type_word}
use Rattle.sk_words.specs.Escapes.{escaped, escaped_text, unescaped}
use Rattle.sk_words.specs.Kinds.{kind_word, type_named, kind_named}
use Rattle.sk_words.specs.Strung.{joined_by}

-- ---- types and kinds

pub type_named-word : (ty : Ty) → type_named (type_word ty) ≡ Some ty
type_named-word Int = refl
type_named-word Long = refl

pub kind_named-word : (sizes : ℕ) → 0 < sizes → sizes ≤ 4 → kind_named (kind_word sizes) ≡ Some sizes
kind_named-word zero some most = absurd (omega arith)
kind_named-word (suc zero) some most = refl
kind_named-word (suc (suc zero)) some most = refl
kind_named-word (suc (suc (suc zero))) some most = refl
kind_named-word (suc (suc (suc (suc zero)))) some most = refl
kind_named-word (suc (suc (suc (suc (suc more))))) some most = absurd (omega arith)

-- ---- words between blanks or commas

-- the byte is none of the word
abbrev pub IsFree : (mark : ℕ) → List ℕ → Type 0
IsFree mark word = All (λ byte. eqb byte mark ≡ false) word

-- words that are joined by a byte which is in none of them come apart at it
pub joined_by-split : (mark : ℕ) (word : List ℕ) (words : List (List ℕ)) → All (IsFree mark) (word ∷ words) → slice_split (λ byte. eqb byte mark) (joined_by (mark ∷ []) (word ∷ words)) ≡ word ∷ words
joined_by-split mark word [] free =
    ap (slice_split (λ byte. eqb byte mark)) (append-nil word) ∙ slice_split_none (λ byte. eqb byte mark) word (free 0 [] (omega arith))
joined_by-split mark word (next ∷ words) free =
    let same : eqb mark mark ≡ true = equal mark in
    slice_split_at (λ byte. eqb byte mark) word mark (joined_by (mark ∷ []) (next ∷ words)) (free 0 [] (omega arith)) same
    ∙ ap (λ rest. word ∷ rest) (joined_by-split mark next words (λ k d within. free (suc k) d (omega arith)))
  where
    equal : (n : ℕ) → eqb n n ≡ true
    equal n = elim (eqb_tells n n) [ inl same ↦ same.0 | inr other ↦ absurd (other.1 refl) ]

-- ---- escapes

unescaped-itself : (byte : ℕ) (rest : List ℕ) → (byte == 92) ≡ false → (byte == 34) ≡ false → unescaped (byte ∷ rest) ≡ option_map (λ text. byte ∷ text) (unescaped rest)
unescaped-itself byte [] no_stroke no_quote = rw (no_stroke, no_quote) refl
unescaped-itself byte (next ∷ rest) no_stroke no_quote = rw (no_stroke, no_quote) refl

unescaped-byte : (byte : ℕ) (rest : List ℕ) → unescaped (escaped byte ++ rest) ≡ option_map (λ text. byte ∷ text) (unescaped rest)
unescaped-byte byte rest =
    elim (eqb_tells byte 10) [
      | inl feed ↦ subst (λ b. unescaped (escaped b ++ rest) ≡ option_map (λ text. b ∷ text) (unescaped rest)) (sym feed.1) refl
      | inr no_feed ↦
          elim (eqb_tells byte 9) [
            | inl tab ↦ subst (λ b. unescaped (escaped b ++ rest) ≡ option_map (λ text. b ∷ text) (unescaped rest)) (sym tab.1) refl
            | inr no_tab ↦
                elim (eqb_tells byte 92) [
                  | inl stroke ↦ subst (λ b. unescaped (escaped b ++ rest) ≡ option_map (λ text. b ∷ text) (unescaped rest)) (sym stroke.1) refl
                  | inr no_stroke ↦
                      elim (eqb_tells byte 34) [
                        | inl quote ↦ subst (λ b. unescaped (escaped b ++ rest) ≡ option_map (λ text. b ∷ text) (unescaped rest)) (sym quote.1) refl
                        | inr no_quote ↦
                            rw (no_feed.0, no_tab.0, no_stroke.0, no_quote.0) (unescaped-itself byte rest no_stroke.0 no_quote.0)
                      ]
                ]
          ]
    ]

-- an escaped text stands for the text
pub unescaped-escaped : (text : List ℕ) → unescaped (escaped_text text) ≡ Some text
unescaped-escaped [] = refl
unescaped-escaped (byte ∷ text) =
    unescaped-byte byte (escaped_text text) ∙ ap (option_map (λ rest. byte ∷ rest)) (unescaped-escaped text)
