-- One more word of a list.
use Rattle.std.proofs.Common.{◌≡◌, ℕ, ◌+◌, ◌<◌, List, ◌∷◌, ◌++◌, length, get_or, drop, map, refl, ap, sym, ◌∙◌, append_assoc, add-one, drop-cons}
use Rattle.sk_words.specs.Strung.{strung}

pub strung_step : {A : Type 0} (word : A → List ℕ) (out lead new between total : List ℕ) (xs : List A) (i : ℕ) (d : A) → i < length xs → out ++ strung between lead (map word (drop i xs)) ≡ total → new ≡ (out ++ lead) ++ word (get_or xs i d) → new ++ strung between between (map word (drop (i + 1) xs)) ≡ total
strung_step word out lead new between total xs i d within so_far more =
    let rest : List ℕ = strung between between (map word (drop (i + 1) xs)) in
    let split : drop i xs ≡ get_or xs i d ∷ drop (i + 1) xs = rw (add-one, drop-cons xs i d) refl in
    ap (λ front. front ++ rest) more ∙ append_assoc (out ++ lead) (word (get_or xs i d)) rest ∙ append_assoc out lead (word (get_or xs i d) ++ rest)
    ∙ ap (λ more. out ++ more) (sym (append_assoc lead (word (get_or xs i d)) rest))
    ∙ ap (λ ys. out ++ strung between lead (map word ys)) (sym split) ∙ so_far
