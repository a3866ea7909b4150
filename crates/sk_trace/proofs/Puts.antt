-- Words that are put one after another, as they stand in a line.
use Rattle.std.proofs.Common.{◌≡◌, ◌∙◌, ap, refl, sym, ℕ, ◌≤◌, List, [], ◌∷◌, ◌++◌, length, append_assoc, arith}
use Rattle.std.specs.Prelude.{codes}
use Rattle.sk_words.specs.Strung.{joined_by, spaced, strung}

pub spaced-append : (xs ys : List (List ℕ)) → spaced (xs ++ ys) ≡ spaced xs ++ spaced ys
spaced-append [] ys = refl
spaced-append (x ∷ xs) ys =
    ap (λ rest. (codes " " ++ x) ++ rest) (spaced-append xs ys) ∙ sym (append_assoc (codes " " ++ x) (spaced xs) (spaced ys))

-- one word more behind a text
pub and_spaced : (front now after : List ℕ) (xs ys : List (List ℕ)) → now ≡ front ++ spaced xs → after ≡ now ++ spaced ys
    → after ≡ front ++ spaced (xs ++ ys)
and_spaced front now after xs ys one more =
    more ∙ ap (λ text. text ++ spaced ys) one ∙ append_assoc front (spaced xs) (spaced ys)
    ∙ ap (λ text. front ++ text) (sym (spaced-append xs ys))

nil : (xs : List ℕ) → xs ++ [] ≡ xs
nil [] = refl
nil (x ∷ xs) = ap (λ rest. x ∷ rest) (nil xs)

-- words behind a blank, with something else between, are one word
pub strung-word : (between : List ℕ) (words : List (List ℕ)) → 1 ≤ length words → strung between (codes " ") words ≡ spaced (joined_by between words ∷ [])
strung-word between [] some = absurd (omega arith)
strung-word between (word ∷ words) some =
    append_assoc (codes " ") word (strung between between words) ∙ sym (nil (codes " " ++ joined_by between (word ∷ words)))

-- a store, its type and its shape
pub store-put : (old one two three digits ty ty_put : List ℕ) (sizes sizes_put : List (List ℕ)) → one ≡ old ++ spaced (digits ∷ [])
    → two ≡ one ++ (codes " " ++ ty_put) → ty_put ≡ ty → three ≡ two ++ strung (codes "x") (codes " ") sizes_put → sizes_put ≡ sizes
    → 1 ≤ length sizes → three ≡ old ++ spaced (digits ∷ ty ∷ joined_by (codes "x") sizes ∷ [])
store-put old one two three digits ty ty_put sizes sizes_put first second ty_is third sizes_are some =
    let typed : two ≡ one ++ spaced (ty ∷ []) =
    second ∙ ap (λ word. one ++ (codes " " ++ word)) ty_is ∙ ap (λ text. one ++ text) (sym (nil (codes " " ++ ty))) in
    let shaped : three ≡ two ++ spaced (joined_by (codes "x") sizes ∷ []) =
    third ∙ ap (λ s. two ++ strung (codes "x") (codes " ") s) sizes_are ∙ ap (λ text. two ++ text) (strung-word (codes "x") sizes some) in
    and_spaced old two three (digits ∷ ty ∷ []) (joined_by (codes "x") sizes ∷ [])
    (and_spaced old one two (digits ∷ []) (ty ∷ []) first typed) shaped
