-- The numbers of the copies that may give way, gathered one after another.
use Rattle.std.proofs.Common.{◌≡◌, ℕ, ◌+◌, ◌<◌, ◌≤◌, true, List, [], ◌∷◌, ◌++◌, length, slice_index, Option, Some, IsSomeAnd, arith, ⊎_elim, refl, sym, subst, ◌∙◌, ap, append_assoc}
use Rattle.std.proofs.lemmas.Bool.{cases_lt}
use Rattle.std.proofs.lemmas.Grind.{common_steps}
use Rattle.sk_copy_states.specs.declared.held.Held.{Held}
use Rattle.sk_copy_states.specs.Copies.{held_in}
use Rattle.sk_copy_states.specs.Loose.{is_loose, loose_in}

loose_step : (space id : ℕ) (held : Held) (rest : List (ℕ × Held)) → is_loose space held ≡ true → loose_in space ((id, held) ∷ rest) ≡ id ∷ loose_in space rest
loose_step space id held rest is = rw is refl

pub list_more : (space id : ℕ) (held : Held) (ids pushed : List ℕ) (iter rest all : List (ℕ × Held)) → iter ≡ (id, held) ∷ rest → is_loose space held ≡ true
    → pushed ≡ ids ++ id ∷ [] → ids ++ loose_in space iter ≡ loose_in space all → pushed ++ loose_in space rest ≡ loose_in space all
list_more space id held ids pushed iter rest all same is more done =
    ap (λ (x : List ℕ). x ++ loose_in space rest) more ∙ append_assoc ids (id ∷ []) (loose_in space rest)
    ∙ ap (λ (x : List ℕ). ids ++ x) (sym (loose_step space id held rest is) ∙ ap (loose_in space) (sym same)) ∙ done

index_front : (ids : List ℕ) (id k : ℕ) → k < length ids → slice_index (ids ++ id ∷ []) k ≡ slice_index ids k
index_front ids id k below = grind (arith, common_steps)

index_last : (ids : List ℕ) (id : ℕ) → slice_index (ids ++ id ∷ []) (length ids) ≡ id
index_last ids id = grind (arith, common_steps)

length_more : (ids : List ℕ) (id : ℕ) → length (ids ++ id ∷ []) ≡ length ids + 1
length_more ids id = grind (arith, common_steps)

some_and : (o : Option Held) (held : Held) (P : Held → Type 0) → o ≡ Some held → P held → IsSomeAnd o P
some_and o held P same holds = subst (λ (x : Option Held). IsSomeAnd x P) (sym same) holds

each_in : (P : ℕ → Type 0) (ids : List ℕ) (id : ℕ) → P id → ((k : ℕ) → k < length ids → P (slice_index ids k)) → (k : ℕ) → k < length (ids ++ id ∷ []) → P (slice_index (ids ++ id ∷ []) k)
each_in P ids id here done k below = ⊎_elim
    (λ (front : k < length ids). subst P (sym (index_front ids id k front)) (done k front))
    (λ (back : length ids ≤ k).
    let last : k ≡ length ids = omega (arith, back, below, length_more ids id) in
    subst P (sym (ap (slice_index (ids ++ id ∷ [])) last ∙ index_last ids id)) here)
    (cases_lt k (length ids))

pub each_more : (entries : List (ℕ × Held)) (space id : ℕ) (held : Held) (ids pushed : List ℕ) → held_in entries id ≡ Some held → is_loose space held ≡ true
    → pushed ≡ ids ++ id ∷ []
    → ((k : ℕ) → k < length ids → IsSomeAnd (held_in entries (slice_index ids k)) (λ h. is_loose space h ≡ true))
    → (k : ℕ) → k < length pushed → IsSomeAnd (held_in entries (slice_index pushed k)) (λ h. is_loose space h ≡ true)
each_more entries space id held ids pushed found is more done =
    subst (λ (l : List ℕ). (k : ℕ) → k < length l → IsSomeAnd (held_in entries (slice_index l k)) (λ h. is_loose space h ≡ true)) (sym more)
    (each_in (λ q. IsSomeAnd (held_in entries q) (λ h. is_loose space h ≡ true)) ids id (some_and (held_in entries id) held (λ h. is_loose space h ≡ true) found is) done)
