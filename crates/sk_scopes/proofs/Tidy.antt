-- What follows where look-ups and declarations agree.
use Rattle.std.proofs.Common.{◌≡◌, ◌<◌, ◌-◌, suc, length, drop, arith, ◌++◌, reverse, ℕ, Bool, true, false, List, [], ◌∷◌, Option, Some, if◌then◌else◌, IsSome, refl, sym, ◌∙◌, ap, subst}
use Rattle.std.proofs.lemmas.List.{reverse-append}
use Rattle.std.specs.Cmp.Lexicographic.{same_text}
use Rattle.sk_names.specs.Bindings.{bound_to}
use Rattle.sk_names.specs.BytesLaws.{same_bytes-same}
use Rattle.sk_names.specs.Bytes.{same_bytes}
use Rattle.sk_scopes.specs.Scopes.{IsTidy, Rebinds, bindings_of}
use Rattle.sk_scopes.specs.declared.scopes.Binding.{Binding}

-- what a test on two lists of bytes chooses, by cases
by_name : {X : Type 0} (a b : List ℕ) (x y z : X)
    → (a ≡ b → x ≡ z) → (same_bytes a b ≡ false → y ≡ z) → (if same_bytes a b then x else y) ≡ z
by_name {X} a b x y z equal different = by (same_bytes a b) refl
  where
    by : (t : Bool) → same_bytes a b ≡ t → (if t then x else y) ≡ z
    by true is = equal (same_text a b (sym is))
    by false is = different is

-- look-ups that find the same are tidy alike
tidy-same : {X : Type 0} (find other : List ℕ → Option X) (declared : List (Binding X))
    → ((name : List ℕ) → other name ≡ find name) → IsTidy find declared → IsTidy other declared
tidy-same {X} find other [] same tidy = λ name. same name ∙ tidy name
tidy-same {X} find other (binding ∷ earlier) same tidy = (
  same binding.name.now ∙ tidy.0,
  tidy-same
      (λ name. if same_bytes binding.name.now name then binding.shadowed else find name)
      (λ name. if same_bytes binding.name.now name then binding.shadowed else other name)
      earlier (λ name. ap (λ (o : Option X). if same_bytes binding.name.now name then binding.shadowed else o) (same name)) tidy.1,
)

-- a look-up finds the latest declaration
pub tidy-finds : {X : Type 0} (find : List ℕ → Option X) (declared : List (Binding X))
    → IsTidy find declared → (name : List ℕ) → find name ≡ bound_to name (bindings_of declared)
tidy-finds {X} find [] tidy name = tidy name
tidy-finds {X} find (binding ∷ earlier) tidy name =
    sym (by_name binding.name.now name (Some binding.known) (bound_to name (bindings_of earlier)) (find name)
    (λ same. sym tidy.0 ∙ ap find same)
    (λ other. sym (tidy-finds
    (λ name. if same_bytes binding.name.now name then binding.shadowed else find name) earlier tidy.1 name)
    ∙ ap (λ (t : Bool). if t then binding.shadowed else find name) other))

-- one declaration more
tidy-declare : {X : Type 0} (find other : List ℕ → Option X) (binding : Binding X) (declared : List (Binding X))
    → ((name : List ℕ) → other name ≡ (if same_bytes binding.name.now name then Some binding.known else find name))
    → binding.shadowed ≡ find binding.name.now
    → IsTidy find declared → IsTidy other (binding ∷ declared)
tidy-declare {X} find other binding declared updates shadows tidy = (
  updates binding.name.now ∙ ap (λ (t : Bool). if t then Some binding.known else find binding.name.now) (same_bytes-same binding.name.now),
  tidy-same find (λ name. if same_bytes binding.name.now name then binding.shadowed else other name) declared
      (λ name. by_name binding.name.now name binding.shadowed (other name) (find name)
      (λ same. shadows ∙ ap find same)
      (λ different. updates name ∙ ap (λ (t : Bool). if t then Some binding.known else find name) different))
      tidy,
)

-- the same, for declarations in the order in which they were made
pub tidy-pushed : {X : Type 0} (find other : List ℕ → Option X) (binding : Binding X) (old new : List (Binding X))
    → new ≡ old ++ binding ∷ []
    → ((name : List ℕ) → other name ≡ (if same_bytes binding.name.now name then Some binding.known else find name))
    → binding.shadowed ≡ find binding.name.now
    → IsTidy find (reverse old) → IsTidy other (reverse new)
tidy-pushed {X} find other binding old new pushed updates shadows tidy =
    let turned : reverse (old ++ binding ∷ []) ≡ binding ∷ reverse old = reverse-append old (binding ∷ []) in
    rw (pushed, turned) (tidy-declare find other binding (reverse old) updates shadows tidy)

-- the latest declaration is taken back
pub tidy-undone : {X : Type 0} (find other : List ℕ → Option X) (binding : Binding X) (old new : List (Binding X))
    → old ≡ new ++ binding ∷ []
    → Rebinds find other binding.name.now binding.shadowed
    → IsTidy find (reverse old) → IsTidy other (reverse new)
tidy-undone {X} find other binding old new popped rebinds tidy =
    let turned : reverse (new ++ binding ∷ []) ≡ binding ∷ reverse new = reverse-append new (binding ∷ []) in
    let P : List (Binding X) → Type 0 = λ declared. IsTidy find declared in
    let before : IsTidy find (binding ∷ reverse new) = subst P (ap reverse popped ∙ turned) tidy in
    tidy-same (λ name. if same_bytes binding.name.now name then binding.shadowed else find name) other (reverse new) rebinds before.1

-- what a look-up finds of the latest declaration's name
pub tidy-latest : {X : Type 0} (find : List ℕ → Option X) (binding : Binding X) (old new : List (Binding X))
    → old ≡ new ++ binding ∷ [] → IsTidy find (reverse old) → find binding.name.now ≡ Some binding.known
tidy-latest {X} find binding old new popped tidy =
    let turned : reverse (new ++ binding ∷ []) ≡ binding ∷ reverse new = reverse-append new (binding ∷ []) in
    let P : List (Binding X) → Type 0 = λ declared. IsTidy find declared in
    let before : IsTidy find (binding ∷ reverse new) = subst P (ap reverse popped ∙ turned) tidy in
    before.0

-- one declaration fewer, and the same ones are left behind a block
pub leave-one : {X : Type 0} (depth : ℕ) (xs new : List X) → depth < length xs → new ≡ drop 1 xs
    → drop (length new - depth) new ≡ drop (length xs - depth) xs
leave-one depth [] new below is = absurd (omega (arith, below))
leave-one depth (x ∷ xs) new below is =
    let fewer : length (x ∷ xs) - depth ≡ suc (length xs - depth) = omega (arith, below) in
    let rest : new ≡ xs = is in
    rw (rest, fewer) refl

-- a name that is found is bound
pub some_found : {X : Type 0} (found : Option X) (known : X) → found ≡ Some known → IsSome found
some_found {X} found known is = let P : Option X → Type 0 = λ found. IsSome found in subst P (sym is) refl
