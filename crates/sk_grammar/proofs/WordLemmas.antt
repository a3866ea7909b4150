-- What a word stands for, by the first entry that has it.
use Rattle.std.proofs.Common.{◌≡◌, ℕ, Bool, true, false, cond, List, [], ◌∷◌, map, Option, Some, None, option_map, Bor, refl, sym, ap, ◌∙◌}
use Rattle.std.specs.List.{find}
use Rattle.sk_names.specs.Bytes.{same_bytes}
use Rattle.sk_grammar.specs.Signs.{meant_by}

abbrev seen : {A : Type 0} → Bor (List ℕ) × A → List ℕ × A
seen entry = (entry.0.now, entry.1)

meant-find : {A : Type 0} (entries : List (Bor (List ℕ) × A)) (word : List ℕ)
    → option_map (λ entry. entry.1) (find (λ entry. same_bytes entry.0.now word) entries) ≡ meant_by (map seen entries) word
meant-find [] word = refl
meant-find {A} (entry ∷ entries) word = step (same_bytes entry.0.now word) (meant-find entries word)
  where
    step : (here : Bool) → option_map (λ e. e.1) (find (λ e. same_bytes e.0.now word) entries) ≡ meant_by (map seen entries) word
        → option_map (λ e. e.1) (cond here (Some entry) (find (λ e. same_bytes e.0.now word) entries)) ≡ cond here (Some entry.1) (meant_by (map seen entries) word)
    step true later = refl
    step false later = later

pub meant-found : {A : Type 0} (entries : List (Bor (List ℕ) × A)) (word : List ℕ) (found at : Option (Bor (Bor (List ℕ) × A))) → found ≡ at
    → option_map (λ x. x.now) found ≡ find (λ entry. same_bytes entry.0.now word) entries → option_map (λ x. x.now.1) at ≡ meant_by (map seen entries) word
meant-found entries word found None is first = ap (λ o. option_map (λ e. e.1) (option_map (λ x. x.now) o)) (sym is) ∙ ap (option_map (λ e. e.1)) first ∙ meant-find entries word
meant-found entries word found (Some x) is first = ap (λ o. option_map (λ e. e.1) (option_map (λ x. x.now) o)) (sym is) ∙ ap (option_map (λ e. e.1)) first ∙ meant-find entries word
