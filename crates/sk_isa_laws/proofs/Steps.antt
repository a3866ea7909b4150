-- An instruction that finds what it needs is never stuck, and leaves values of the types that it should leave.
use Rattle.std.proofs.Common.{◌≡◌, ℕ, suc, ◌≤◌, Bool, true, false, ◌==◌, nat_le, if◌then◌else◌, List, [], ◌∷◌, length, take, drop, map, reverse, ℤ, Option, Some, None, option_map, Result, Ok, Err, IsSomeAnd, Contains, slice_get, arith, ap, refl, subst, ◌∙◌}
use Rattle.std.proofs.lemmas.Option.{same_Some, slice_get-map}
use Rattle.sk_base.specs.declared.number.Trap.{Trap}
use Rattle.sk_base.specs.declared.number.Ty.{Ty}
use Rattle.sk_base.specs.Arithmetic.{InRange}
use Rattle.sk_meaning.specs.Evaluation.{kind_type}
use Rattle.sk_tree.specs.declared.tree.ParamKind.{ParamKind}
use Rattle.sk_tree.specs.declared.tree.ParamKind.TheVariants.{Scalar, Index, Proxy, Region as RegionKind}
use Rattle.sk_isa.specs.declared.object.Signature.{Signature}
use Rattle.sk_isa.specs.Configurations.{Ends, Goes, Stuck, giving, going, returning, with_many, with_one, with_two}
use Rattle.sk_isa.specs.Coded.{Next, Point, Routine, by_trap}
use Rattle.sk_kernel.specs.Kernels.{AreOfTypes}
use Rattle.sk_isa.specs.Soundness.{IsOfType, Left, Named, SuitParams, left_if, left_with, of_many, of_one, of_two}
use Rattle.sk_isa_laws.specs.Steps.{AreSoundCallees, IsGiven}
use Rattle.sk_isa_laws.proofs.TypedLists.{typed-drop, typed-length, typed-reverse, typed-take}

-- what an instruction leaves at the point behind it
pub record IsLeft (own : Signature) (left : List Ty) (targets : List ℕ) (takes : ℕ → ℕ → Type 0) (before behind : Point) : Type 0 where
  pub stack : AreOfTypes left behind.stack
  pub slots : AreOfTypes (map kind_type own.slots) behind.slots
  pub led : Contains targets behind.at
  pub turns : takes before.kept behind.kept

abbrev pub IsLeftBy : Signature → List Ty → (targets : List ℕ) → (takes : ℕ → ℕ → Type 0) → Point → Next → Type 0
IsLeftBy own left targets takes before (Goes behind) = IsLeft own left targets takes before behind
IsLeftBy own left targets takes before (Ends result) = IsGiven own.ret before.kept result
IsLeftBy own left targets takes before Stuck = ⊥

-- what an instruction leaves that leads to the next address alone
abbrev pub IsLeftNext : Signature → List Ty → Point → Next → Type 0
IsLeftNext own left before next = IsLeftBy own left (suc before.at ∷ []) (λ turns fewer. fewer ≤ turns) before next

-- where the instruction stands: its function, and what the slots and arguments hold
pub record Standing (named : Named) (routine : Routine) (point : Point) : Type 0 where
  pub callees : AreSoundCallees named.signatures named.function routine.callees
  pub arguments : SuitParams named.own.params routine.arguments
  pub slots : AreOfTypes (map kind_type named.own.slots) point.slots

-- the parts of what is left
pub left_if_so : (test : Bool) (types left : List Ty) → left_if test types ≡ Some left → (test ≡ true) × (types ≡ left)
left_if_so true types left e = (refl, same_Some types left e)
left_if_so false types left e = cc

pub pushed : (ty : Ty) (rest left : List Ty) (value : ℤ) (others : List ℤ) → InRange ty value → AreOfTypes rest others → ty ∷ rest ≡ left → AreOfTypes left (value ∷ others)
pushed ty rest left value others fits h e = subst (λ (types : List Ty). AreOfTypes types (value ∷ others)) e (fits, h)

pub of_one_so : (P : Next → Type 0) (types : List Ty) (stack : List ℤ) (f : Ty → List Ty → Left) (next : ℤ → List ℤ → Next) (left : List Ty)
    → AreOfTypes types stack → of_one types f ≡ Some left
    → ((ty : Ty) (rest : List Ty) (a : ℤ) (others : List ℤ) → InRange ty a → AreOfTypes rest others → f ty rest ≡ Some left → P (next a others))
    → P (with_one stack next)
of_one_so P [] stack f next left h e so = cc
of_one_so P (ty ∷ rest) [] f next left h e so = absurd h
of_one_so P (ty ∷ rest) (a ∷ others) f next left h e so = so ty rest a others h.0 h.1 e

pub of_two_so : (P : Next → Type 0) (types : List Ty) (stack : List ℤ) (f : Ty → Ty → List Ty → Left) (next : ℤ → ℤ → List ℤ → Next) (left : List Ty)
    → AreOfTypes types stack → of_two types f ≡ Some left
    → ((one other : Ty) (rest : List Ty) (a b : ℤ) (others : List ℤ) → InRange one a → InRange other b → AreOfTypes rest others
    → f one other rest ≡ Some left → P (next a b others))
    → P (with_two stack next)
of_two_so P [] stack f next left h e so = cc
of_two_so P (other ∷ []) stack f next left h e so = cc
of_two_so P (other ∷ one ∷ rest) [] f next left h e so = absurd h
of_two_so P (other ∷ one ∷ rest) (b ∷ []) f next left h e so = absurd h.1
of_two_so P (other ∷ one ∷ rest) (b ∷ a ∷ others) f next left h e so = so one other rest a b others h.1.0 h.0 h.1.1 e

pub of_many_so : (P : Next → Type 0) (count : ℕ) (types : List Ty) (stack : List ℤ) (f : List Ty → List Ty → Left) (next : List ℤ → List ℤ → Next) (left : List Ty)
    → AreOfTypes types stack → of_many count types f ≡ Some left
    → ((given rest : List Ty) (values others : List ℤ) → AreOfTypes given values → AreOfTypes rest others → f given rest ≡ Some left → P (next values others))
    → P (with_many count stack next)
of_many_so P count types stack f next left h e so =
    subst (λ (n : ℕ). P (if nat_le count n then next (reverse (take count stack)) (drop count stack) else Stuck)) (typed-length types stack h)
    (pick (nat_le count (length types)) e)
  where
    pick : (enough : Bool) → (if enough then f (reverse (take count types)) (drop count types) else None) ≡ Some left
        → P (if enough then next (reverse (take count stack)) (drop count stack) else Stuck)
    pick true e = so (reverse (take count types)) (drop count types) (reverse (take count stack)) (drop count stack)
        (typed-reverse (take count types) (take count stack) (typed-take count types stack h)) (typed-drop count types stack h) e
    pick false e = cc

-- the kinds of slots and parameters
pub scalar_so : (found : Option ParamKind) (ty : Ty)
    → elim found [ Some kind ↦ elim kind [ Scalar ty ↦ Some ty | Index dimension ↦ None | Proxy dimension ty ↦ None | RegionKind dimension ty ↦ None ] | None ↦ None ] ≡ Some ty
    → found ≡ Some (Scalar ty)
scalar_so None ty e = cc
scalar_so (Some (Scalar own)) ty e = let same : own ≡ ty = cc in ap (λ (t : Ty). Some (Scalar t)) same
scalar_so (Some (Index dimension)) ty e = cc
scalar_so (Some (Proxy dimension own)) ty e = cc
scalar_so (Some (RegionKind dimension own)) ty e = cc

same_if : (test : Bool) (own ty : Ty) → (if test then Some own else None) ≡ Some ty → own ≡ ty
same_if true own ty e = same_Some own ty e
same_if false own ty e = cc

pub item_so : (found : Option ParamKind) (places : ℕ) (ty : Ty)
    → elim found [ Some kind ↦ elim kind [ Scalar ty ↦ None | Index dimension ↦ None | Proxy dimension ty ↦ if dimension == places then Some ty else None | RegionKind dimension ty ↦ None ] | None ↦ None ] ≡ Some ty
    → (dimension : ℕ) × (found ≡ Some (Proxy dimension ty))
item_so None places ty e = cc
item_so (Some (Scalar own)) places ty e = cc
item_so (Some (Index dimension)) places ty e = cc
item_so (Some (Proxy dimension own)) places ty e = (dimension, ap (λ (t : Ty). Some (Proxy dimension t)) (same_if (dimension == places) own ty e))
item_so (Some (RegionKind dimension own)) places ty e = cc

pub region_so : (found : Option ParamKind) (places : ℕ) (ty : Ty)
    → elim found [ Some kind ↦ elim kind [ Scalar ty ↦ None | Index dimension ↦ None | Proxy dimension ty ↦ None | RegionKind dimension ty ↦ if dimension == places then Some ty else None ] | None ↦ None ] ≡ Some ty
    → (dimension : ℕ) × (found ≡ Some (RegionKind dimension ty))
region_so None places ty e = cc
region_so (Some (Scalar own)) places ty e = cc
region_so (Some (Index dimension)) places ty e = cc
region_so (Some (Proxy dimension own)) places ty e = cc
region_so (Some (RegionKind dimension own)) places ty e = (dimension, ap (λ (t : Ty). Some (RegionKind dimension t)) (same_if (dimension == places) own ty e))

pub left_with_so : (found : Option Ty) (rest left : List Ty) → left_with found rest ≡ Some left → (ty : Ty) × (found ≡ Some ty) × (ty ∷ rest ≡ left)
left_with_so None rest left e = cc
left_with_so (Some ty) rest left e = (ty, refl, same_Some (ty ∷ rest) left e)

pub slot_type : (slots : List ParamKind) (slot : ℕ) (ty : Ty) → slice_get slots slot ≡ Some (Scalar ty) → slice_get (map kind_type slots) slot ≡ Some ty
slot_type slots slot ty e = slice_get-map kind_type slots slot ∙ ap (option_map kind_type) e

-- what is found is not stuck
pub found_so : {A : Type 0} (P : Next → Type 0) (Q : A → Type 0) (found : Option A) (next : A → Next) → IsSomeAnd found Q → ((x : A) → Q x → P (next x))
    → P (elim found [ Some x ↦ next x | None ↦ Stuck ])
found_so P Q None next h so = absurd h
found_so P Q (Some x) next h so = so x h

pub going_so : (own : Signature) (left : List Ty) (before : Point) (stack : List ℤ) → AreOfTypes (map kind_type own.slots) before.slots → AreOfTypes left stack
    → IsLeftNext own left before (going before stack)
going_so own left before stack slots h = record { stack = h; slots = slots; led = (0, omega arith, refl); turns = omega arith }

pub giving_so : (own : Signature) (ty : Ty) (rest left : List Ty) (before : Point) (others : List ℤ) (result : Result ℤ Trap)
    → AreOfTypes (map kind_type own.slots) before.slots → AreOfTypes rest others → IsOfType ty result → ty ∷ rest ≡ left
    → IsLeftNext own left before (giving by_trap before others result)
giving_so own ty rest left before others (Ok value) slots h fits e = going_so own left before (value ∷ others) slots (pushed ty rest left value others fits h e)
giving_so own ty rest left before others (Err trap) slots h fits e = tt

pub returning_so : (own : Signature) (ty : Ty) (rest left : List Ty) (before : Point) (others : List ℤ) (result : Result (ℤ × ℕ) Trap)
    → AreOfTypes (map kind_type own.slots) before.slots → AreOfTypes rest others → IsGiven ty before.kept result → ty ∷ rest ≡ left
    → IsLeftNext own left before (returning before others result)
returning_so own ty rest left before others (Ok done) slots h given e =
    record { stack = pushed ty rest left done.0 others given.0 h e; slots = slots; led = (0, omega arith, refl); turns = given.1 }
returning_so own ty rest left before others (Err trap) slots h given e = tt
