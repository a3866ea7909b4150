-- What an instruction of main leaves at the point behind it.
use Rattle.std.proofs.Common.{◌≡◌, ℕ, suc, ◌≤◌, Bool, true, false, nat_le, if◌then◌else◌, List, [], ◌∷◌, length, take, drop, map, reverse, ℤ, Some, None, Result, Ok, Err, Contains, arith, ap, refl, subst, ◌∙◌, length-take-le}
use Rattle.std.proofs.lemmas.Bool.{leb-true}
use Rattle.std.proofs.lemmas.List.{length-reverse}
use Rattle.sk_base.specs.Arithmetic.{InRange}
use Rattle.sk_base.specs.declared.number.Trap.{Trap}
use Rattle.sk_base.specs.declared.number.Ty.{Ty}
use Rattle.sk_isa.specs.Configurations.{Ends, Goes, Stuck, giving, going, returning, with_many, with_one, with_two}
use Rattle.sk_isa.specs.Soundness.{IsOfType, Left, of_many, of_one, of_two}
use Rattle.sk_isa.specs.declared.object.Object.{Object}
use Rattle.sk_isa_laws.proofs.Steps.{pushed}
use Rattle.sk_isa_laws.proofs.TypedLists.{typed-drop, typed-length, typed-reverse, typed-take}
use Rattle.sk_kernel.specs.Kernels.{AreOfTypes}
use Rattle.sk_main_code.specs.MainSoundness.{main_signature}
use Rattle.sk_main_code.specs.MainSteps.{MainNext, MainPoint, going_in, over_by}
use Rattle.sk_main_laws.specs.Calls.{IsFineCall}
use Rattle.sk_main_laws.specs.FinePoints.{IsFineEnd}
use Rattle.sk_main_laws.specs.FineWorlds.{IsFineWorld}
use Rattle.sk_meaning.specs.Evaluation.{kind_type}
use Rattle.sk_world.specs.World.{Over, World}

-- What is left: values of these types, a world in which these containers are live, and so many statements.
pub record IsLeft (object : Object) (left : List Ty) (targets : List ℕ) (after : ℕ → Bool) (counts : ℕ → ℕ → Type 0) (before behind : MainPoint) : Type 0 where
  pub stack : AreOfTypes left behind.stack
  pub slots : AreOfTypes (map kind_type (main_signature object).slots) behind.slots
  pub led : Contains targets behind.at
  pub statements : counts before.kept.statements_left behind.kept.statements_left
  pub world : IsFineWorld object after behind.kept

abbrev pub IsLeftBy : Object → List Ty → (targets : List ℕ) → (after : ℕ → Bool) → (counts : ℕ → ℕ → Type 0) → MainPoint → MainNext → Type 0
IsLeftBy object left targets after counts before (Goes behind) = IsLeft object left targets after counts before behind
IsLeftBy object left targets after counts before (Ends (Ok done)) = ⊥
IsLeftBy object left targets after counts before (Ends (Err over)) = IsFineEnd object over
IsLeftBy object left targets after counts before Stuck = ⊥

-- as many statements
abbrev pub as_many : (before behind : ℕ) → Type 0
as_many before behind = behind ≡ before

-- what an instruction leaves that leads to the next address alone, and counts no statement
abbrev pub IsLeftNext : Object → List Ty → (after : ℕ → Bool) → MainPoint → MainNext → Type 0
IsLeftNext object left after before next = IsLeftBy object left (suc before.at ∷ []) after as_many before next

-- the values that an instruction takes
pub of_one_so : (P : MainNext → Type 0) (types : List Ty) (stack : List ℤ) (f : Ty → List Ty → Left) (next : ℤ → List ℤ → MainNext) (left : List Ty)
    → AreOfTypes types stack → of_one types f ≡ Some left
    → ((ty : Ty) (rest : List Ty) (a : ℤ) (others : List ℤ) → InRange ty a → AreOfTypes rest others → f ty rest ≡ Some left → P (next a others))
    → P (with_one stack next)
of_one_so P [] stack f next left h e so = cc
of_one_so P (ty ∷ rest) [] f next left h e so = absurd h
of_one_so P (ty ∷ rest) (a ∷ others) f next left h e so = so ty rest a others h.0 h.1 e

pub of_two_so : (P : MainNext → Type 0) (types : List Ty) (stack : List ℤ) (f : Ty → Ty → List Ty → Left) (next : ℤ → ℤ → List ℤ → MainNext) (left : List Ty)
    → AreOfTypes types stack → of_two types f ≡ Some left
    → ((one other : Ty) (rest : List Ty) (a b : ℤ) (others : List ℤ) → InRange one a → InRange other b → AreOfTypes rest others
    → f one other rest ≡ Some left → P (next a b others))
    → P (with_two stack next)
of_two_so P [] stack f next left h e so = cc
of_two_so P (other ∷ []) stack f next left h e so = cc
of_two_so P (other ∷ one ∷ rest) [] f next left h e so = absurd h
of_two_so P (other ∷ one ∷ rest) (b ∷ []) f next left h e so = absurd h.1
of_two_so P (other ∷ one ∷ rest) (b ∷ a ∷ others) f next left h e so = so one other rest a b others h.1.0 h.0 h.1.1 e

pub of_many_so : (P : MainNext → Type 0) (count : ℕ) (types : List Ty) (stack : List ℤ) (f : List Ty → List Ty → Left) (next : List ℤ → List ℤ → MainNext) (left : List Ty)
    → AreOfTypes types stack → of_many count types f ≡ Some left
    → ((given rest : List Ty) (values others : List ℤ) → length values ≡ count → AreOfTypes given values → AreOfTypes rest others
    → f given rest ≡ Some left → P (next values others))
    → P (with_many count stack next)
of_many_so P count types stack f next left h e so = pick (nat_le count (length types)) refl e
  where
    tall : length types ≡ length stack
    tall = typed-length types stack h

    pick : (enough : Bool) → nat_le count (length types) ≡ enough → (if enough then f (reverse (take count types)) (drop count types) else None) ≡ Some left
        → P (with_many count stack next)
    pick true is e =
        subst (λ (test : Bool). P (if test then next (reverse (take count stack)) (drop count stack) else Stuck))
        (sym_is (ap (λ (n : ℕ). nat_le count n) tall) is)
        (so (reverse (take count types)) (drop count types) (reverse (take count stack)) (drop count stack)
        (length-reverse (take count stack) ∙ length-take-le count stack (upto (length types) (length stack) (leb-true count (length types) is) tall))
        (typed-reverse (take count types) (take count stack) (typed-take count types stack h)) (typed-drop count types stack h) e)
      where
        sym_is : {a b : Bool} → a ≡ b → a ≡ true → true ≡ b
        sym_is e f = cc

        upto : (a b : ℕ) → count ≤ a → a ≡ b → count ≤ b
        upto a b h e = omega arith
    pick false is e = cc

-- no values
pub of_none_so : (types left : List Ty) (f : List Ty → List Ty → Left) → of_many 0 types f ≡ Some left → f [] types ≡ Some left
of_none_so types left f e = pick (nat_le 0 (length types)) e
  where
    pick : (enough : Bool) → (if enough then f (reverse (take 0 types)) (drop 0 types) else None) ≡ Some left → f [] types ≡ Some left
    pick true e = e
    pick false e = cc

module _ (object : Object) (left : List Ty) (live : ℕ → Bool) (before : MainPoint)
    (slots : AreOfTypes (map kind_type (main_signature object).slots) before.slots) where
  pub going_so : (stack : List ℤ) → IsFineWorld object live before.kept → AreOfTypes left stack → IsLeftNext object left live before (going before stack)
  going_so stack fine h = record { stack = h; slots = slots; led = (0, omega arith, refl); statements = refl; world = fine }

  pub giving_so : (ty : Ty) (rest : List Ty) (others : List ℤ) (result : Result ℤ Trap) → IsFineWorld object live before.kept → AreOfTypes rest others
      → IsOfType ty result → ty ∷ rest ≡ left → IsLeftNext object left live before (giving over_by before others result)
  giving_so ty rest others (Ok value) fine h fits e = going_so (value ∷ others) fine (pushed ty rest left value others fits h e)
  giving_so ty rest others (Err trap) fine h fits e = (live, fine)

  -- a value and a world
  pub returning_so : (ty : Ty) (rest : List Ty) (others : List ℤ) (result : Result (ℤ × World) Over) → AreOfTypes rest others
      → IsFineCall object live before.kept.statements_left ty result → ty ∷ rest ≡ left → IsLeftNext object left live before (returning before others result)
  returning_so ty rest others (Ok done) h fine e = record {
    stack = pushed ty rest left done.0 others fine.0 h e;
    slots = slots;
    led = (0, omega arith, refl);
    statements = fine.2;
    world = fine.1;
  }
  returning_so ty rest others (Err over) h fine e = (live, fine)

-- a world alone
abbrev pub IsFineAfter : Object → (after : ℕ → Bool) → (counts : ℕ → Type 0) → Result World Over → Type 0
IsFineAfter object after counts (Ok world) = IsFineWorld object after world × counts world.statements_left
IsFineAfter object after counts (Err over) = IsFineEnd object over

pub going_in_so : (object : Object) (left : List Ty) (after : ℕ → Bool) (counts : ℕ → ℕ → Type 0) (before : MainPoint)
    → AreOfTypes (map kind_type (main_signature object).slots) before.slots → (others : List ℤ) (result : Result World Over) → AreOfTypes left others
    → IsFineAfter object after (counts before.kept.statements_left) result
    → IsLeftBy object left (suc before.at ∷ []) after counts before (going_in before others result)
going_in_so object left after counts before slots others (Ok world) h fine =
    record { stack = h; slots = slots; led = (0, omega arith, refl); statements = fine.1; world = fine.0 }
going_in_so object left after counts before slots others (Err over) h fine = fine
