-- Texts with a byte between them.
use Rattle.std.proofs.Common.{◌≡◌, ℕ, ◌-◌, ◌≤◌, ◌++◌, ◌∷◌, [], List, length, map, drop, take, get_or, sym, ap, ◌∙◌, arith, append_assoc}
use Rattle.std.specs.Prelude.{ℤ}
use Rattle.std.specs.Fmt.{signed_decimal}
use Rattle.std.specs.List.{flat_map, join_with_byte}
use Rattle.std.proofs.lemmas.List.{append-nil, take_all}

-- the first, and each of the others behind the byte
pub join-behind : {X : Type 0} (separator : ℕ) (text : X → List ℕ) (first : X) (rest : List X)
    → join_with_byte separator (map text (first ∷ rest)) ≡ text first ++ flat_map (λ x. separator ∷ text x) rest
join-behind {X} separator text first [] = sym (append-nil (text first))
join-behind {X} separator text first (next ∷ rest) =
    ap (λ (t : List ℕ). text first ++ (separator ∷ t)) (join-behind separator text next rest)

-- the same, for a list that is taken apart
pub join-apart : {X : Type 0} (separator : ℕ) (text : X → List ℕ) (numbers : List X) (first : X)
    → 1 ≤ length numbers → first ≡ get_or numbers 0 first
    → join_with_byte separator (map text numbers) ≡ text first ++ flat_map (λ x. separator ∷ text x) (take (length numbers - 1) (drop 1 numbers))
join-apart {X} separator text [] first some is = absurd (omega arith)
join-apart {X} separator text (number ∷ numbers) first some is =
    let all : take (length (number ∷ numbers) - 1) numbers ≡ numbers = take_all (length (number ∷ numbers) - 1) numbers (omega arith) in
    rw (is, all) (join-behind separator text number numbers)

values_joined : (shape : List ℕ) (cells : List ℤ)
    → join_with_byte 44 (shape ∷ map signed_decimal cells) ≡ shape ++ flat_map (λ cell. 44 ∷ signed_decimal cell) cells
values_joined shape [] = sym (append-nil shape)
values_joined shape (cell ∷ cells) = ap (λ (t : List ℕ). shape ++ 44 ∷ t) (values_joined (signed_decimal cell) cells)

-- a record as it is put together
pub record_put : (old name shape : List ℕ) (cells : List ℤ)
    → ((((old ++ name) ++ 44 ∷ []) ++ shape) ++ flat_map (λ cell. 44 ∷ signed_decimal cell) cells) ++ 10 ∷ []
    ≡ old ++ (join_with_byte 44 (name ∷ shape ∷ map signed_decimal cells) ++ 10 ∷ [])
record_put old name shape cells =
    let rest = flat_map (λ cell. 44 ∷ signed_decimal cell) cells in
    let inner : (((old ++ name) ++ 44 ∷ []) ++ shape) ++ rest ≡ old ++ join_with_byte 44 (name ∷ shape ∷ map signed_decimal cells) =
    append_assoc ((old ++ name) ++ 44 ∷ []) shape rest
    ∙ append_assoc (old ++ name) (44 ∷ []) (shape ++ rest)
    ∙ append_assoc old name (44 ∷ (shape ++ rest))
    ∙ ap (λ (t : List ℕ). old ++ (name ++ 44 ∷ t)) (sym (values_joined shape cells)) in
    ap (λ (t : List ℕ). t ++ 10 ∷ []) inner
    ∙ append_assoc old (join_with_byte 44 (name ∷ shape ∷ map signed_decimal cells)) (10 ∷ [])
