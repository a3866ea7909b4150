-- What the store keeps where a container is put in its place or goes.
use Rattle.std.proofs.Common.{◌≡◌, ◌≢◌, ℕ, ◌<◌, Bool, true, false, not, ◌==◌, nat_lt, cond, if◌then◌else◌, List, [], ◌∷◌, length, Option, Some, None, filter, find, slice_set, arith, ap, sym, refl, ◌∙◌}
use Rattle.std.specs.Prelude.{option_map}
use Rattle.std.proofs.lemmas.Bool.{eqb-true}
use Rattle.std.proofs.lemmas.Bool.Decides.{nat_tests}
use Rattle.std.proofs.lemmas.List.{get_or-set_same, get_or-set_other}
use Rattle.sk_host.specs.Stores.{Kept, Mirrors, kept_at, kept_of}
use Rattle.sk_world.specs.World.{Container, World, container_in, drop_container, putting, with_container}

-- the container with a number
abbrev with_number : (number : ℕ) → List Container → Option Container
with_number number containers = find (λ (container : Container). container.number == number) containers

differ : (false ≡ true) → ⊥
differ e = cc

-- a container is found where it was put, and the others as before
put_found : (container : Container) (containers : List Container) (number : ℕ)
    → with_number number (with_container container containers) ≡ cond (container.number == number) (Some container) (with_number number containers)
put_found container [] number = refl
put_found container (first ∷ rest) number =
    pick (nat_lt first.number container.number) (first.number == container.number) refl refl (put_found container rest number)
  where
    apart : (a b n : ℕ) → nat_lt a b ≡ true → (a == n) ≡ true → (b == n) ≡ true → ⊥
    apart a b n less one other = grind (arith, nat_tests)

    swap : (f k : Bool) → (first.number == number) ≡ f → (container.number == number) ≡ k → nat_lt first.number container.number ≡ true
        → cond f (Some first) (cond k (Some container) (with_number number rest)) ≡ cond k (Some container) (cond f (Some first) (with_number number rest))
    swap true true one other less = absurd (apart first.number container.number number less one other)
    swap true false one other less = refl
    swap false k one other less = refl

    skip : (f k : Bool) → f ≡ k
        → cond k (Some container) (with_number number rest) ≡ cond k (Some container) (cond f (Some first) (with_number number rest))
    skip f true same = refl
    skip true false same = absurd (differ (sym same))
    skip false false same = refl

    pick : (less same : Bool) → nat_lt first.number container.number ≡ less → (first.number == container.number) ≡ same
        → with_number number (with_container container rest) ≡ cond (container.number == number) (Some container) (with_number number rest)
        → with_number number (if less then first ∷ with_container container rest else if same then container ∷ rest else container ∷ first ∷ rest)
        ≡ cond (container.number == number) (Some container) (with_number number (first ∷ rest))
    pick true same less e later =
        ap (λ (found : Option Container). cond (first.number == number) (Some first) found) later
        ∙ swap (first.number == number) (container.number == number) refl refl less
    pick false true less e later =
        skip (first.number == number) (container.number == number)
        (ap (λ (n : ℕ). n == number) (eqb-true first.number container.number e))
    pick false false less e later = refl

-- a container that goes is found no more, and the others as before
gone_found : (gone : ℕ) (containers : List Container) (number : ℕ)
    → with_number number (filter (λ (container : Container). not (container.number == gone)) containers)
    ≡ cond (gone == number) None (with_number number containers)
gone_found gone [] number = none (gone == number)
  where
    none : (test : Bool) → ◌≡◌ {A = Option Container} None (cond test None None)
    none true = refl
    none false = refl
gone_found gone (first ∷ rest) number = pick (first.number == gone) refl (gone_found gone rest number)
  where
    apart : (a b n : ℕ) → (a == b) ≡ false → (a == n) ≡ true → (b == n) ≡ true → ⊥
    apart a b n other one both = grind (arith, nat_tests)

    swap : (f k : Bool) → (first.number == number) ≡ f → (gone == number) ≡ k → (first.number == gone) ≡ false
        → cond f (Some first) (cond k None (with_number number rest)) ≡ cond k None (cond f (Some first) (with_number number rest))
    swap true true one both other = absurd (apart first.number gone number other one both)
    swap true false one both other = refl
    swap false k one both other = refl

    skip : (f k : Bool) → f ≡ k → cond k None (with_number number rest) ≡ cond k None (cond f (Some first) (with_number number rest))
    skip f true same = refl
    skip true false same = absurd (differ (sym same))
    skip false false same = refl

    pick : (test : Bool) → (first.number == gone) ≡ test
        → with_number number (filter (λ (container : Container). not (container.number == gone)) rest) ≡ cond (gone == number) None (with_number number rest)
        → with_number number (cond (not test) (first ∷ filter (λ (container : Container). not (container.number == gone)) rest)
        (filter (λ (container : Container). not (container.number == gone)) rest))
        ≡ cond (gone == number) None (with_number number (first ∷ rest))
    pick true is later =
        later ∙ skip (first.number == number) (gone == number) (ap (λ (n : ℕ). n == number) (eqb-true first.number gone is))
    pick false is later =
        ap (λ (found : Option Container). cond (first.number == number) (Some first) found) later
        ∙ swap (first.number == number) (gone == number) refl refl is

-- the store has something new under a number
set_at : (store : List (Option Kept)) (number : ℕ) (one : Option Kept) (other : ℕ) (before : Option Container) (found : Option Container)
    → number < length store → option_map kept_of before ≡ one
    → kept_at store other ≡ option_map kept_of found
    → kept_at (slice_set store number one) other ≡ option_map kept_of (cond (number == other) before found)
set_at store number one other before found within is same = pick (number == other) refl
  where
    unlike : (a b : ℕ) → (a == b) ≡ false → b ≢ a
    unlike a b test e = grind (arith, nat_tests)

    pick : (test : Bool) → (number == other) ≡ test
        → kept_at (slice_set store number one) other ≡ option_map kept_of (cond test before found)
    pick true test =
        ap (λ (n : ℕ). kept_at (slice_set store number one) n) (sym (eqb-true number other test))
        ∙ get_or-set_same store number one None within ∙ sym is
    pick false test = get_or-set_other store number other one None (unlike number other test) ∙ same

pub mirrors_put : (store : List (Option Kept)) (world : World) (container : Container) (number : ℕ) → Mirrors store world → container.number ≡ number
    → number < length store → Mirrors (slice_set store number (Some (kept_of container))) (putting container world)
mirrors_put store world container number mirrors is within other =
    set_at store number (Some (kept_of container)) other (Some container) (container_in world other) within refl (mirrors other)
    ∙ ap (option_map kept_of)
    (ap (λ (n : ℕ). cond (n == other) (Some container) (container_in world other)) (sym is) ∙ sym (put_found container world.containers other))

pub mirrors_drop : (store : List (Option Kept)) (world : World) (number : ℕ) → Mirrors store world → number < length store
    → Mirrors (slice_set store number None) (drop_container number world)
mirrors_drop store world number mirrors within other =
    set_at store number None other None (container_in world other) within refl (mirrors other)
    ∙ ap (option_map kept_of) (sym (gone_found number world.containers other))
