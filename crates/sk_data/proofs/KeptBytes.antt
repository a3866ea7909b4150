-- The bytes of a field, kept one after another.
use Rattle.std.proofs.Common.{◌≡◌, ℕ, zero, suc, get_or, ◌+◌, ◌<◌, ◌≤◌, ◌++◌, ◌∷◌, [], List, Bool, true, false, length, take, set, refl, sym, ap, ◌∙◌, arith}
use Rattle.std.proofs.lemmas.Bool.Decides.{nat_tests}
use Rattle.std.proofs.lemmas.List.{length-append, length-take, take_all, take_more_set}
use Rattle.std.specs.Prelude.{Option, Some, None, nat_le, option_and_then, if◌then◌else◌}
use Rattle.csv.specs.Records.{field_at}
use Rattle.sk_data.specs.Fields.{short_at, within}
use Rattle.sk_data.specs.Records.{Record}
use Rattle.sk_data.proofs.Fields.{field_at-get}

pub kept_more : (room : List ℕ) (used : ℕ) (long : Bool) (bytes : List ℕ) (c : ℕ) → used < length room
    → (long ≡ false → take used room ≡ bytes) → (long ≡ false → take (used + 1) (set room used c) ≡ bytes ++ c ∷ [])
kept_more room used long bytes c below short not_long =
    take_more_set room used c below ∙ ap (λ xs. xs ++ c ∷ []) (short not_long)

pub kept_past : (room : List ℕ) (used : ℕ) (long : Bool) (bytes : List ℕ) (c : ℕ) → length room ≤ used
    → (long ≡ false → take used room ≡ bytes) → (long ≡ true → length room < length bytes) → length room < length (bytes ++ c ∷ [])
kept_past room used true bytes c past short more =
    let longer = length-append bytes (c ∷ []) in let before = more refl in omega (arith, longer, before)
kept_past room used false bytes c past short more =
    let longer = length-append bytes (c ∷ []) in
    let all : room ≡ bytes = sym (take_all used room past) ∙ short refl in
    let same = ap length all in omega (arith, longer, same)

-- what is kept is short, and what is not is longer than the room
pub kept_short : (room bytes : List ℕ) (used : ℕ) → used ≤ length room → take used room ≡ bytes → Some (take used room) ≡ within (length room) bytes
kept_short room bytes used fits same =
    let few : length bytes ≤ length room = let taken = length-take used room in let as_many = ap length same in omega (arith, taken, as_many) in
    let tested : nat_le (length bytes) (length room) ≡ true = grind (arith, nat_tests) in
    ap (λ xs. Some xs) same ∙ sym (ap (λ (t : Bool). if t then Some bytes else None) tested)

pub kept_long : (room bytes : List ℕ) → length room < length bytes → None ≡ within (length room) bytes
kept_long room bytes more =
    let tested : nat_le (length bytes) (length room) ≡ false = grind (arith, nat_tests) in
    sym (ap (λ (t : Bool). if t then Some bytes else None) tested)

-- the field at a place, where there is one
pub kept_at : (most : ℕ) (fields : Record) (place : ℕ) (told : Option (List ℕ)) → place < length fields → told ≡ within most (get_or fields place [])
    → told ≡ short_at most fields place
kept_at most fields place told below is = is ∙ sym (ap (option_and_then (within most)) (field_at-get fields place below))

pub kept_nowhere : (most : ℕ) (fields : Record) (place : ℕ) → length fields ≤ place → None ≡ short_at most fields place
unfolding field_at
kept_nowhere most [] place past = refl
kept_nowhere most (field ∷ fields) zero past = absurd (omega arith)
kept_nowhere most (field ∷ fields) (suc place) past = kept_nowhere most fields place (omega arith)
