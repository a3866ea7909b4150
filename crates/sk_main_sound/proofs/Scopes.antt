-- The names in scope in main: the slots and the containers that they stand for are there, and these containers are live.
use Rattle.std.proofs.Common.{◌≡◌, ℕ, ◌<◌, ◌≤◌, List, [], ◌∷◌, ◌++◌, Option, Some, None, slice_get, refl, sym, ap, ◌∙◌, subst, arith}
use Rattle.std.specs.Prelude.{true, false, Bool, not, ◌&&◌, ◌||◌, ◌==◌}
use Rattle.sk_isa.specs.declared.object.Object.{Object}
use Rattle.sk_main_code.specs.MainSoundness.{main_scalar}
use Rattle.sk_main_scheme.specs.MainScheme.{Named, Number, Whole, Called}
use Rattle.sk_names.specs.Bindings.{bound_to}
use Rattle.sk_names.specs.Bytes.{same_bytes}
use Rattle.sk_plain.proofs.Bindings.{bound_to-here}
use Rattle.sk_tree.specs.declared.declared.Declared.{Declared}

abbrev pub Scope : Type 0
Scope = List (List ℕ × Named)

-- a name stands for the container with a number
abbrev pub is_container : Named → ℕ → Bool
is_container (Number slot ty) other = false
is_container (Whole container ty) other = other == container
is_container (Called made) other = false

-- the containers in scope are live
abbrev pub live_in : Scope → ℕ → Bool
live_in [] container = false
live_in (one ∷ scope) container = live_in scope container || is_container one.1 container

-- containers have numbers below a bound, and later ones higher numbers
abbrev pub IsBelow : ℕ → Named → Type 0
IsBelow bound (Number slot ty) = Unit {0}
IsBelow bound (Whole container ty) = container < bound
IsBelow bound (Called made) = Unit {0}

abbrev pub below_it : Named → ℕ → ℕ
below_it (Number slot ty) bound = bound
below_it (Whole container ty) bound = container
below_it (Called made) bound = bound

abbrev pub AreBelow : ℕ → Scope → Type 0
AreBelow bound [] = Unit {0}
AreBelow bound (one ∷ scope) = IsBelow bound one.1 × AreBelow (below_it one.1 bound) scope

pub below_wider : (bound more : ℕ) (scope : Scope) → bound ≤ more → AreBelow bound scope → AreBelow more scope
below_wider bound more [] le h = tt
below_wider bound more (one ∷ scope) le h = by_named one.1 h (below_wider bound more scope le)
  where
    by_named : (named : Named) → IsBelow bound named × AreBelow (below_it named bound) scope → (AreBelow bound scope → AreBelow more scope) → IsBelow more named × AreBelow (below_it named more) scope
    by_named (Number slot ty) h later = (tt, later h.1)
    by_named (Whole container ty) h later = (omega (arith, h.0, le), h.1)
    by_named (Called made) h later = (tt, later h.1)

same_is : (n m : ℕ) → (n == m) ≡ true → n ≡ m
same_is n m e = grind (arith, e)

other_is : (n m : ℕ) → m < n → (n == m) ≡ false
other_is n m e = grind (arith, e)

or_none : (a b : Bool) → a ≡ false → b ≡ false → (a || b) ≡ false
or_none false false e f = refl
or_none a true e f = let no : ⊥ = cc in absurd no
or_none true b e f = let no : ⊥ = cc in absurd no

or_left_none : (a b : Bool) → (a || b) ≡ false → a ≡ false
or_left_none false b e = refl
or_left_none true b e = let no : ⊥ = cc in absurd no

or_true : (a b : Bool) → a ≡ true → (a || b) ≡ true
or_true true b e = refl
or_true false b e = let no : ⊥ = cc in absurd no

-- no container with a number from the bound on is live
pub none_live : (bound container : ℕ) (scope : Scope) → bound ≤ container → AreBelow bound scope → live_in scope container ≡ false
none_live bound container [] le h = refl
none_live bound container (one ∷ scope) le h = by_named one.1 h (none_live bound container scope le)
  where
    by_named : (named : Named) → IsBelow bound named × AreBelow (below_it named bound) scope → (AreBelow bound scope → live_in scope container ≡ false)
        → (live_in scope container || is_container named container) ≡ false
    by_named (Number slot ty) h later = or_none (live_in scope container) false (later h.1) refl
    by_named (Whole number ty) h later =
        or_none (live_in scope container) (container == number) (later (below_wider number bound scope (omega (arith, h.0)) h.1)) (other_is container number (omega (arith, h.0, le)))
    by_named (Called made) h later = or_none (live_in scope container) false (later h.1) refl

or_parts : (a b c : Bool) → ((a || b) || c) ≡ (a || (b || c))
or_parts true b c = refl
or_parts false b c = refl

-- the live containers of two parts of a scope
pub live_append : (new scope : Scope) (container : ℕ) → live_in (new ++ scope) container ≡ (live_in scope container || live_in new container)
live_append [] scope container = or_false (live_in scope container)
  where
    or_false : (a : Bool) → a ≡ (a || false)
    or_false true = refl
    or_false false = refl
live_append (one ∷ new) scope container =
    ap (λ b. b || is_container one.1 container) (live_append new scope container)
    ∙ or_parts (live_in scope container) (live_in new container) (is_container one.1 container)

-- a later container is none of those before it
pub live_apart : (bound container : ℕ) (new scope : Scope) → AreBelow bound (new ++ scope) → live_in new container ≡ true → live_in scope container ≡ false
live_apart bound container [] scope h e = let no : ⊥ = cc in absurd no
live_apart bound container (one ∷ new) scope h e = by_named one.1 h e (λ more b is. live_apart more container new scope b is)
  where
    or_false_is : (a : Bool) → (a || false) ≡ true → a ≡ true
    or_false_is true e = refl
    or_false_is false e = let no : ⊥ = cc in absurd no

    by_test : (number : ℕ) (b : Bool) → (container == number) ≡ b → AreBelow number (new ++ scope) → (live_in new container || b) ≡ true
        → ((more : ℕ) → AreBelow more (new ++ scope) → live_in new container ≡ true → live_in scope container ≡ false) → live_in scope container ≡ false
    by_test number true s below is later =
        or_left_none (live_in scope container) (live_in new container)
        (sym (live_append new scope container) ∙ none_live number container (new ++ scope) (let same = same_is container number s in omega (arith, same)) below)
    by_test number false s below is later = later number below (or_false_is (live_in new container) is)

    by_named : (named : Named) → IsBelow bound named × AreBelow (below_it named bound) (new ++ scope) → (live_in new container || is_container named container) ≡ true
        → ((more : ℕ) → AreBelow more (new ++ scope) → live_in new container ≡ true → live_in scope container ≡ false) → live_in scope container ≡ false
    by_named (Number slot ty) h e later = later bound h.1 (or_false_is (live_in new container) e)
    by_named (Whole number ty) h e later = by_test number (container == number) refl h.1 e later
    by_named (Called made) h e later = later bound h.1 (or_false_is (live_in new container) e)

-- what is left where the containers of the latest names are dropped
pub live_left : (bound : ℕ) (new scope : Scope) → AreBelow bound (new ++ scope) → (container : ℕ) → (live_in (new ++ scope) container && not (live_in new container)) ≡ live_in scope container
live_left bound new scope h container =
    ap (λ b. b && not (live_in new container)) (live_append new scope container) ∙ by_test (live_in new container) refl
  where
    left : (a : Bool) → ((a || false) && true) ≡ a
    left true = refl
    left false = refl

    by_test : (b : Bool) → live_in new container ≡ b → ((live_in scope container || b) && not b) ≡ live_in scope container
    by_test true e = none_and (live_in scope container) (live_apart bound container new scope h e)
      where
        none_and : (a : Bool) → a ≡ false → ((a || true) && false) ≡ a
        none_and true e = let no : ⊥ = cc in absurd no
        none_and false e = refl
    by_test false e = left (live_in scope container)

module _ (object : Object) where
  -- a name stands for what is there, and a container is live
  abbrev pub IsThere : (ℕ → Bool) → Named → Type 0
  IsThere live (Number slot ty) = main_scalar object slot ≡ Some ty
  IsThere live (Whole container ty) =
      (declared : Declared) × (slice_get object.containers container ≡ Some declared) × (declared.ty ≡ ty) × (live container ≡ true)
  IsThere live (Called made) = Unit {0}

  -- so do all names in scope
  abbrev pub InScope : Scope → Type 0
  InScope [] = Unit {0}
  InScope (one ∷ scope) = IsThere (is_container one.1) one.1 × InScope scope

  abbrev pub IsFound : (ℕ → Bool) → Option Named → Type 0
  IsFound live (Some named) = IsThere live named
  IsFound live None = Unit {0}

  there_wider : (named : Named) (live more : ℕ → Bool) → ((container : ℕ) → live container ≡ true → more container ≡ true) → IsThere live named → IsThere more named
  there_wider (Number slot ty) live more f h = h
  there_wider (Whole container ty) live more f h = (h.0, h.1, h.2, f container h.3)
  there_wider (Called made) live more f h = tt

  found_wider : (o : Option Named) (live more : ℕ → Bool) → ((container : ℕ) → live container ≡ true → more container ≡ true) → IsFound live o → IsFound more o
  found_wider (Some named) live more f h = there_wider named live more f h
  found_wider None live more f h = tt

  or_right : (a b : Bool) → b ≡ true → (a || b) ≡ true
  or_right true b e = refl
  or_right false b e = e

  -- a name is looked up
  pub name_found : (name : List ℕ) (scope : Scope) → InScope scope → IsFound (live_in scope) (bound_to name scope)
  name_found name [] h = tt
  name_found name (one ∷ scope) h = by_test (same_bytes one.0 name) refl (name_found name scope h.1)
    where
      by_test : (b : Bool) → same_bytes one.0 name ≡ b → IsFound (live_in scope) (bound_to name scope) → IsFound (live_in (one ∷ scope)) (bound_to name (one ∷ scope))
      by_test true s later =
          subst (λ (o : Option Named). IsFound (live_in (one ∷ scope)) o) (sym (bound_to-here name one.0 one scope true refl s))
          (there_wider one.1 (is_container one.1) (live_in (one ∷ scope)) (λ container e. or_right (live_in scope container) (is_container one.1 container) e) h.0)
      by_test false s later =
          subst (λ (o : Option Named). IsFound (live_in (one ∷ scope)) o) (sym (bound_to-here name one.0 one scope false refl s))
          (found_wider (bound_to name scope) (live_in scope) (live_in (one ∷ scope)) (λ container e. or_true (live_in scope container) (is_container one.1 container) e) later)
