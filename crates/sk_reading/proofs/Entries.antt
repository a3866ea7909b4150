-- Entries of words: the word of a meaning, and entries whose meanings are mapped.
use Rattle.std.proofs.Common.{◌≡◌, ℕ, Bool, true, false, cond, ◌==◌, ◌⊎◌, inl, inr, List, [], ◌∷◌, map, Option, Some, None, option_map, refl, sym, ap, ◌∙◌, rules}
use Rattle.std.proofs.lemmas.Bool.{and_parts}
use Rattle.sk_grammar.specs.ExpressionSpelling.{each}
use Rattle.sk_names.specs.Bytes.{same_bytes}
use Rattle.sk_names.specs.BytesLaws.{same_bytes-true}
use Rattle.sk_grammar.specs.Signs.{meant_by}

-- ---- the word of a meaning

pub meant-first : {A : Type 0} (entry : List ℕ × A) (entries : List (List ℕ × A)) (w : List ℕ) (a : A) → meant_by (entry ∷ entries) w ≡ Some a
    → ((w ≡ entry.0) × (a ≡ entry.1)) ⊎ (meant_by entries w ≡ Some a)
meant-first {A} entry entries w a h = go (same_bytes entry.0 w) refl h
  where
    go : (b : Bool) → same_bytes entry.0 w ≡ b → cond b (Some entry.1) (meant_by entries w) ≡ Some a → ((w ≡ entry.0) × (a ≡ entry.1)) ⊎ (meant_by entries w ≡ Some a)
    go true is h = let same : a ≡ entry.1 = cc in inl (sym (same_bytes-true entry.0 w is), same)
    go false is h = inr h

-- each word by what it means
pub word-of : {A : Type 0} (word_for : A → List ℕ) (entries : List (List ℕ × A)) (w : List ℕ) (a : A) → each (λ e. e.0 ≡ word_for e.1) entries → meant_by entries w ≡ Some a → w ≡ word_for a
word-of word_for [] w a are h = absurd (cc)
word-of word_for (e ∷ entries) w a are h = elim (meant-first e entries w a h) [
  | inl here ↦ here.0 ∙ are.0 ∙ ap word_for (sym here.1)
  | inr later ↦ word-of word_for entries w a are.1 later
]

-- ---- entries whose meanings are mapped

meant-map : {A B : Type 0} (f : A → B) (entries : List (List ℕ × A)) (w : List ℕ) → meant_by (map (λ entry. (entry.0, f entry.1)) entries) w ≡ option_map f (meant_by entries w)
meant-map f [] w = refl
meant-map {A} {B} f (entry ∷ entries) w = go (same_bytes entry.0 w) (meant-map f entries w)
  where
    go : (c : Bool) → meant_by (map (λ entry. (entry.0, f entry.1)) entries) w ≡ option_map f (meant_by entries w)
        → cond c (Some (f entry.1)) (meant_by (map (λ entry. (entry.0, f entry.1)) entries) w) ≡ option_map f (cond c (Some entry.1) (meant_by entries w))
    go true later = refl
    go false later = later

pub mapped : {A B : Type 0} (f : A → B) (entries : List (List ℕ × A)) (w : List ℕ) (a : A) → meant_by entries w ≡ Some a → meant_by (map (λ entry. (entry.0, f entry.1)) entries) w ≡ Some (f a)
mapped f entries w a h = meant-map f entries w ∙ ap (option_map f) h

pub modes-mapped : {A B : Type 0} (f : A → B) (entries : List (List ℕ × A)) (w : List ℕ) (b : B) → meant_by (map (λ entry. (entry.0, f entry.1)) entries) w ≡ Some b
    → (a : A) × (meant_by entries w ≡ Some a) × (f a ≡ b)
modes-mapped {A} {B} f entries w b h = go (meant_by entries w) refl (sym (meant-map f entries w) ∙ h)
  where
    go : (o : Option A) → meant_by entries w ≡ o → option_map f o ≡ Some b → (a : A) × (meant_by entries w ≡ Some a) × (f a ≡ b)
    go None is h = absurd (cc)
    go (Some a) is h = let same : f a ≡ b = cc in (a, is, same)
