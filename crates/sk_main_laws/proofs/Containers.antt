-- Containers by their numbers: what is found, put in its place, and taken out.
use Rattle.std.proofs.Common.{◌≡◌, ℕ, suc, ◌≤◌, Bool, true, false, not, ◌&&◌, ◌||◌, ◌==◌, nat_lt, cond, if◌then◌else◌, List, [], ◌∷◌, Option, Some, None, is_some, IsSomeAnd, filter, find, slice_get, arith, ap, sym, refl, subst, ◌∙◌}
use Rattle.std.proofs.lemmas.Bool.{eqb-true}
use Rattle.std.proofs.lemmas.Bool.Decides.{nat_tests}
use Rattle.std.proofs.lemmas.Option.{same_Some}
use Rattle.sk_main_laws.specs.FineWorlds.{AreDeclaredFrom, IsAsDeclared}
use Rattle.sk_tree.specs.declared.declared.Declared.{Declared}
use Rattle.sk_world.specs.World.{Container, with_container}

-- the container with a number
abbrev pub with_number : (number : ℕ) → List Container → Option Container
with_number number containers = find (λ (container : Container). container.number == number) containers

-- a container is as it is declared under its number
abbrev pub IsOne : List Declared → Container → Type 0
IsOne declared container = IsSomeAnd (slice_get declared container.number) (λ one. IsAsDeclared one container)

pub found_declared : (declared : List Declared) (lowest : ℕ) (containers : List Container) → AreDeclaredFrom declared lowest containers
    → (number : ℕ) (container : Container) → with_number number containers ≡ Some container → (container.number ≡ number) × IsOne declared container
found_declared declared lowest [] h number container e = cc
found_declared declared lowest (first ∷ rest) h number container e =
    pick (first.number == number) refl (found_declared declared (suc first.number) rest h.2 number container) e
  where
    pick : (test : Bool) → (first.number == number) ≡ test
        → (with_number number rest ≡ Some container → (container.number ≡ number) × IsOne declared container)
        → cond test (Some first) (with_number number rest) ≡ Some container → (container.number ≡ number) × IsOne declared container
    pick true is later e =
        subst (λ (one : Container). (one.number ≡ number) × IsOne declared one) (same_Some first container e) (eqb-true first.number number is, h.1)
    pick false is later e = later e

pub declared_lower : (declared : List Declared) (lower lowest : ℕ) (containers : List Container) → lower ≤ lowest
    → AreDeclaredFrom declared lowest containers → AreDeclaredFrom declared lower containers
declared_lower declared lower lowest [] upto h = tt
declared_lower declared lower lowest (first ∷ rest) upto h = (upto_first first.number h.0, h.1, h.2)
  where
    upto_first : (n : ℕ) → lowest ≤ n → lower ≤ n
    upto_first n low = omega arith

-- numbers
same_way : (a b : ℕ) → (a == b) ≡ (b == a)
same_way a b = grind (arith, nat_tests)

-- a container is put in its place
pub put_declared : (declared : List Declared) (lowest : ℕ) (container : Container) (containers : List Container) → lowest ≤ container.number
    → IsOne declared container → AreDeclaredFrom declared lowest containers → AreDeclaredFrom declared lowest (with_container container containers)
put_declared declared lowest container [] low one h = (low, one, tt)
put_declared declared lowest container (first ∷ rest) low one h =
    pick (nat_lt first.number container.number) (first.number == container.number) refl refl
    (λ above. put_declared declared (suc first.number) container rest above one h.2)
  where
    above : (a b : ℕ) → nat_lt a b ≡ true → suc a ≤ b
    above a b test = grind (arith, nat_tests)

    below : (a b : ℕ) → nat_lt a b ≡ false → (a == b) ≡ false → suc b ≤ a
    below a b test other = grind (arith, nat_tests)

    pick : (less same : Bool) → nat_lt first.number container.number ≡ less → (first.number == container.number) ≡ same
        → (suc first.number ≤ container.number → AreDeclaredFrom declared (suc first.number) (with_container container rest))
        → AreDeclaredFrom declared lowest (if less then first ∷ with_container container rest else if same then container ∷ rest else container ∷ first ∷ rest)
    pick true same is e later = (h.0, h.1, later (above first.number container.number is))
    pick false true is e later =
        (low, one, subst (λ (n : ℕ). AreDeclaredFrom declared (suc n) rest) (eqb-true first.number container.number e) h.2)
    pick false false is e later = (low, one, (below first.number container.number is e, h.1, h.2))

pub put_there : (container : Container) (containers : List Container) (number : ℕ)
    → is_some (with_number number (with_container container containers)) ≡ (is_some (with_number number containers) || (number == container.number))
put_there container [] number = pick (container.number == number) refl
  where
    pick : (test : Bool) → (container.number == number) ≡ test → is_some (cond test (Some container) None) ≡ (false || (number == container.number))
    pick true is = sym is ∙ same_way container.number number
    pick false is = sym is ∙ same_way container.number number
put_there container (first ∷ rest) number =
    pick (nat_lt first.number container.number) (first.number == container.number) refl (put_there container rest number)
  where
    later : (test : Bool) → is_some (with_number number (with_container container rest)) ≡ (is_some (with_number number rest) || (number == container.number))
        → is_some (cond test (Some first) (with_number number (with_container container rest)))
        ≡ (is_some (cond test (Some first) (with_number number rest)) || (number == container.number))
    later true put = refl
    later false put = put

    or_true : (a : Bool) → true ≡ (a || true)
    or_true true = refl
    or_true false = refl

    or_false : (a : Bool) → a ≡ (a || false)
    or_false true = refl
    or_false false = refl

    front : (found : Bool) (test : Bool) → (container.number == number) ≡ test → (tail : Option Container) → (test ≡ false → is_some tail ≡ found)
        → is_some (cond test (Some container) tail) ≡ (found || (number == container.number))
    front found true is tail same = subst (λ (b : Bool). true ≡ (found || b)) (sym is ∙ same_way container.number number) (or_true found)
    front found false is tail same =
        subst (λ (b : Bool). is_some tail ≡ (found || b)) (sym is ∙ same_way container.number number) (same refl ∙ or_false found)

    behind : (container.number == number) ≡ false → (first.number == container.number) ≡ true → (test : Bool) → (first.number == number) ≡ test
        → is_some (with_number number rest) ≡ is_some (cond test (Some first) (with_number number rest))
    behind other same true is =
        absurd (differ (sym other ∙ ap (λ (n : ℕ). n == number) (sym (eqb-true first.number container.number same)) ∙ is))
      where
        differ : (false ≡ true) → ⊥
        differ e = cc
    behind other same false is = refl

    pick : (less same : Bool) → (first.number == container.number) ≡ same
        → is_some (with_number number (with_container container rest)) ≡ (is_some (with_number number rest) || (number == container.number))
        → is_some (with_number number (if less then first ∷ with_container container rest else if same then container ∷ rest else container ∷ first ∷ rest))
        ≡ (is_some (with_number number (first ∷ rest)) || (number == container.number))
    pick true same e put = later (first.number == number) put
    pick false true e put =
        front (is_some (with_number number (first ∷ rest))) (container.number == number) refl (with_number number rest)
        (λ other. behind other e (first.number == number) refl)
    pick false false e put =
        front (is_some (with_number number (first ∷ rest))) (container.number == number) refl (with_number number (first ∷ rest)) (λ other. refl)

-- a container is taken out
abbrev pub without : (number : ℕ) → List Container → List Container
without number containers = filter (λ (container : Container). not (container.number == number)) containers

pub without_declared : (declared : List Declared) (lowest number : ℕ) (containers : List Container) → AreDeclaredFrom declared lowest containers
    → AreDeclaredFrom declared lowest (without number containers)
without_declared declared lowest number [] h = tt
without_declared declared lowest number (first ∷ rest) h = pick (first.number == number) (without_declared declared (suc first.number) number rest h.2)
  where
    upto : (n : ℕ) → lowest ≤ n → lowest ≤ suc n
    upto n low = omega arith

    pick : (test : Bool) → AreDeclaredFrom declared (suc first.number) (without number rest)
        → AreDeclaredFrom declared lowest (cond (not test) (first ∷ without number rest) (without number rest))
    pick true others = declared_lower declared lowest (suc first.number) (without number rest) (upto first.number h.0) others
    pick false others = (h.0, h.1, others)

pub without_there : (number : ℕ) (containers : List Container) (other : ℕ)
    → is_some (with_number other (without number containers)) ≡ (is_some (with_number other containers) && not (other == number))
without_there number [] other = refl
without_there number (first ∷ rest) other = pick (first.number == number) (first.number == other) refl refl (without_there number rest other)
  where
    and_false : (a : Bool) → (a && false) ≡ false
    and_false true = refl
    and_false false = refl

    same_test : (test : Bool) → (first.number == number) ≡ test → (first.number == other) ≡ true → (other == number) ≡ test
    same_test test is here = ap (λ (n : ℕ). n == number) (sym (eqb-true first.number other here)) ∙ is

    pick : (test here : Bool) → (first.number == number) ≡ test → (first.number == other) ≡ here
        → is_some (with_number other (without number rest)) ≡ (is_some (with_number other rest) && not (other == number))
        → is_some (with_number other (cond (not test) (first ∷ without number rest) (without number rest)))
        ≡ (is_some (cond here (Some first) (with_number other rest)) && not (other == number))
    pick true true is e others =
        let gone : not (other == number) ≡ false = ap not (same_test true is e) in
        others ∙ subst (λ (b : Bool). (is_some (with_number other rest) && b) ≡ b) (sym gone) (and_false (is_some (with_number other rest)))
    pick true false is e others = others
    pick false true is e others =
        let stays : not (other == number) ≡ true = ap not (same_test false is e) in
        ap (λ (b : Bool). is_some (cond b (Some first) (with_number other (without number rest)))) e ∙ sym stays
    pick false false is e others =
        ap (λ (b : Bool). is_some (cond b (Some first) (with_number other (without number rest)))) e ∙ others
