-- The names of the inputs in the order in which they are declared.
use Rattle.std.proofs.Common.{◌≡◌, ℕ, zero, suc, ◌+◌, ◌<◌, ◌++◌, ◌∷◌, [], List, Bool, true, false, length, map, take, get_or, refl, sym, ap, ◌∙◌, arith, subst}
use Rattle.std.proofs.lemmas.Bool.{eq-eqb}
use Rattle.std.proofs.lemmas.List.{map_more, map-append, get_or-map, take-map}
use Rattle.std.proofs.lemmas.Map.Keys.{IsDistinct-head, IsDistinct-tail}
use Rattle.std.specs.Cmp.Lexicographic.{same_text}
use Rattle.std.specs.Borrow.{Bor}
use Rattle.std.specs.Prelude.{◌||◌}
use Rattle.std.specs.List.{AllByRecursion, IsDistinct, list_any}
use Rattle.indexmap.specs.IndexSet.{insert_key}
use Rattle.sk_tree.specs.declared.declared.Declared.{Declared}
use Rattle.sk_data.specs.Records.{HaveDistinctNames, same_name}
use Rattle.sk_data.proofs.Places.{length-mapped}

pub same_name-same : (name : List ℕ) → same_name name name ≡ true
same_name-same [] = refl
same_name-same (byte ∷ bytes) = rw (eq-eqb byte byte refl) (same_name-same bytes)

pub same_name-flip : (a b : List ℕ) → same_name a b ≡ false → same_name b a ≡ false
same_name-flip a b differs = by (same_name b a) refl
  where
    by : (t : Bool) → same_name b a ≡ t → same_name b a ≡ false
    by true same =
        let equal : b ≡ a = same_text b a (sym same) in
        let P : List ℕ → Type 0 = λ n. same_name n b ≡ false in
        let self : same_name b b ≡ false = subst P (sym equal) differs in
        let both : true ≡ false = sym (same_name-same b) ∙ self in cc
    by false other = other

all_at : (P : List ℕ → Type 0) (names : List (List ℕ)) (i : ℕ) → AllByRecursion P names → i < length names → P (get_or names i [])
all_at P [] i all below = absurd (omega arith)
all_at P (name ∷ names) zero all below = all.0
all_at P (name ∷ names) (suc i) all below = all_at P names i all.1 (omega arith)

-- a name is none of those before it
pub fresh : (names : List (List ℕ)) (i : ℕ) → IsDistinct same_name names → i < length names
    → list_any (same_name (get_or names i [])) (take i names) ≡ false
fresh [] i distinct below = absurd (omega arith)
fresh (name ∷ names) zero distinct below = refl
fresh (name ∷ names) (suc i) distinct below =
    let apart = all_at (λ other. same_name name other ≡ false) names i (IsDistinct-head same_name name names distinct) (omega arith) in
    rw (same_name-flip name (get_or names i []) apart) (fresh names i (IsDistinct-tail same_name name names distinct) (omega arith))

list_any-now : (name : List ℕ) (keys : List (Bor (List ℕ))) → list_any (λ key. same_name name key.now) keys ≡ list_any (same_name name) (map (λ key. key.now) keys)
list_any-now name [] = refl
list_any-now name (key ∷ keys) = ap (λ (b : Bool). same_name name key.now || b) (list_any-now name keys)

-- one name more
pub name_more : (declared : List Declared) (i : ℕ) (keys new : List (Bor (List ℕ))) (key : Bor (List ℕ)) (input : Declared)
    → HaveDistinctNames declared → i < length declared → input ≡ get_or declared i input → key.now ≡ input.name
    → map (λ name. name.now) keys ≡ map (λ input. input.name) (take i declared)
    → new ≡ insert_key (λ a b. same_name a.now b.now) keys key
    → map (λ name. name.now) new ≡ map (λ input. input.name) (take (i + 1) declared)
name_more declared i keys new key input distinct below is named so_far added =
    let at : get_or (map (λ input. input.name) declared) i [] ≡ key.now =
    get_or-map (λ input. input.name) declared i input [] below ∙ ap (λ (d : Declared). d.name) (sym is) ∙ sym named in
    let none_before : list_any (same_name key.now) (take i (map (λ input. input.name) declared)) ≡ false =
    rw (← at) (fresh (map (λ input. input.name) declared) i distinct (rw (length-mapped (λ input. input.name) declared) below)) in
    let absent : list_any (λ b. same_name key.now b.now) keys ≡ false =
    list_any-now key.now keys ∙ rw (so_far, ← take-map (λ input. input.name) i declared) none_before in
    let pushed : new ≡ keys ++ key ∷ [] = added ∙ rw absent refl in
    rw (pushed, map-append (λ name. name.now) keys (key ∷ []), so_far, map_more (λ input. input.name) declared i input below, ← is, named) refl
