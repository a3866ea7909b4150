-- What words ask for, by their number and the first of them.
use Rattle.std.proofs.Common.{◌≡◌, ℕ, true, false, List, [], ◌∷◌, map, length, refl, arith, ap, sym, subst, slice_index_or, codes}
use Rattle.sk_names.specs.Bytes.{same_bytes}
use Rattle.sk_cli.specs.Answer.{Usage, Run, asked_of, run_of_file}

module _ {W : Type 0} (bytes : W → List ℕ) where
  pub asked-run : (words : List W) (first second : W) → length words ≡ 2 → first ≡ slice_index_or words 0 first
      → second ≡ slice_index_or words 1 second → same_bytes (bytes first) (codes "run") ≡ true
      → asked_of (map bytes words) ≡ Run (run_of_file (bytes second))
  asked-run [] first second two a b run = absurd (omega arith)
  asked-run (x ∷ []) first second two a b run = absurd (omega arith)
  asked-run (x ∷ y ∷ []) first second two a b run =
      let begins : same_bytes (bytes x) (codes "run") ≡ true = subst (λ (w : W). same_bytes (bytes w) (codes "run") ≡ true) a run in
      rw begins (ap (λ (w : W). Run (run_of_file (bytes w))) (sym b))
  asked-run (x ∷ y ∷ z ∷ words) first second two a b run = absurd (omega arith)

  pub asked-other : (words : List W) (first : W) → first ≡ slice_index_or words 0 first
      → same_bytes (bytes first) (codes "run") ≡ false → asked_of (map bytes words) ≡ Usage
  asked-other [] first a run = refl
  asked-other (x ∷ []) first a run = refl
  asked-other (x ∷ y ∷ []) first a run =
      let begins : same_bytes (bytes x) (codes "run") ≡ false = subst (λ (w : W). same_bytes (bytes w) (codes "run") ≡ false) a run in
      rw begins refl
  asked-other (x ∷ y ∷ z ∷ words) first a run = refl

  pub asked-count : (words : List W) → (length words ≡ 2 → ⊥) → asked_of (map bytes words) ≡ Usage
  asked-count [] other = refl
  asked-count (x ∷ []) other = refl
  asked-count (x ∷ y ∷ []) other = absurd (other refl)
  asked-count (x ∷ y ∷ z ∷ words) other = refl
