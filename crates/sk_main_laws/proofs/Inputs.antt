-- The input that main takes by its name is the one that its object declares.
use Rattle.std.proofs.Common.{◌≡◌, ℕ, suc, Bool, true, false, ◌&&◌, ◌||◌, ◌==◌, cond, List, [], ◌∷◌, Option, Some, None, find, slice_get, arith, ap, sym, refl, subst, ◌∙◌}
use Rattle.std.proofs.lemmas.Bool.{and_parts, eqb-true}
use Rattle.std.specs.List.{list_any}
use Rattle.sk_base.specs.declared.number.Ty.{Ty}
use Rattle.sk_base.specs.declared.number.Ty.TheVariants.{Int, Long}
use Rattle.sk_isa.specs.declared.object.Object.{Object}
use Rattle.sk_main_code.specs.MainSoundness.{is_input, is_so}
use Rattle.sk_main_code.specs.Sound.{AreDistinct}
use Rattle.sk_main_code.specs.Inputs.{AnswerAll, Answers}
use Rattle.sk_names.specs.Bytes.{same_bytes}
use Rattle.sk_names.specs.BytesLaws.{same_bytes-true}
use Rattle.sk_tree.specs.Parameters.{same_type}
use Rattle.sk_tree.specs.declared.declared.Declared.{Declared}
use Rattle.sk_world.specs.World.{Input, World, input_in}

-- equal types
pub same_type-true : (ty other : Ty) → same_type ty other ≡ true → ty ≡ other
same_type-true Int Int e = refl
same_type-true Int Long e = cc
same_type-true Long Int e = cc
same_type-true Long Long e = refl

pub so_parts : (kind : ℕ) (ty : Ty) (declared : Declared) → is_so kind ty declared ≡ true → (declared.kind ≡ kind) × (declared.ty ≡ ty)
so_parts kind ty declared e =
    let parts = and_parts (declared.kind == kind) (same_type declared.ty ty) e in
    (eqb-true declared.kind kind parts.0, same_type-true declared.ty ty parts.1)

-- an input of a name, with what was declared for it
pub record IsInput (name : List ℕ) (kind : ℕ) (ty : Ty) (found : Option Input) : Type 0 where
  pub input : Input
  pub is : found ≡ Some input
  pub declared : Declared
  pub answers : Answers declared input
  pub kind_is : declared.kind ≡ kind
  pub ty_is : declared.ty ≡ ty

abbrev has_name : List ℕ → (kind : ℕ) → Ty → Declared → Bool
has_name name kind ty input = same_bytes input.name name && is_so kind ty input

-- one of the others with that name
some_other : (inputs : List Declared) (name : List ℕ) (kind : ℕ) (ty : Ty) → list_any (has_name name kind ty) inputs ≡ true
    → (k : ℕ) × (input : Declared) × (slice_get inputs k ≡ Some input) × (input.name ≡ name)
some_other [] name kind ty e = cc
some_other (first ∷ rest) name kind ty e = pick (has_name name kind ty first) refl (some_other rest name kind ty) e
  where
    pick : (test : Bool) → has_name name kind ty first ≡ test
        → (list_any (has_name name kind ty) rest ≡ true → (k : ℕ) × (input : Declared) × (slice_get rest k ≡ Some input) × (input.name ≡ name)) → (test || list_any (has_name name kind ty) rest) ≡ true
        → (k : ℕ) × (input : Declared) × (slice_get (first ∷ rest) k ≡ Some input) × (input.name ≡ name)
    pick true is others e = (0, first, refl, same_bytes-true first.name name (and_parts (same_bytes first.name name) (is_so kind ty first) is).0)
    pick false is others e = (let other = others e in (suc other.0, other.1, other.2, other.3))

distinct_rest : (first : Declared) (rest : List Declared) → AreDistinct (first ∷ rest) → AreDistinct rest
distinct_rest first rest distinct one other a b is_one is_other same = less (distinct (suc one) (suc other) a b is_one is_other same)
  where
    less : suc one ≡ suc other → one ≡ other
    less e = omega arith

found_input : (inputs : List Declared) (given : List Input) → AreDistinct inputs → AnswerAll inputs given → (name : List ℕ) (kind : ℕ) (ty : Ty)
    → list_any (has_name name kind ty) inputs ≡ true → IsInput name kind ty (find (λ (input : Input). same_bytes input.name name) given)
found_input [] given distinct answers name kind ty e = cc
found_input (declared ∷ more) [] distinct answers name kind ty e = absurd answers
found_input (declared ∷ more) (input ∷ inputs) distinct answers name kind ty e =
    pick (same_bytes declared.name name) refl (found_input more inputs (distinct_rest declared more distinct) answers.1 name kind ty) e
  where
    same_test : same_bytes input.name name ≡ same_bytes declared.name name
    same_test = ap (λ (bytes : List ℕ). same_bytes bytes name) answers.0.name

    alone : same_bytes declared.name name ≡ true → list_any (has_name name kind ty) more ≡ true → ⊥
    alone here e =
        let other = some_other more name kind ty e in
        not_here other.0 (distinct 0 (suc other.0) declared other.1 refl other.2 (same_bytes-true declared.name name here ∙ sym other.3))
      where
        not_here : (k : ℕ) → 0 ≡ suc k → ⊥
        not_here k e = omega arith

    so : (test : Bool) → is_so kind ty declared ≡ test → same_bytes declared.name name ≡ true → (test || list_any (has_name name kind ty) more) ≡ true
        → (declared.kind ≡ kind) × (declared.ty ≡ ty)
    so true is here e = so_parts kind ty declared is
    so false is here e = absurd (alone here e)

    pick : (test : Bool) → same_bytes declared.name name ≡ test
        → (list_any (has_name name kind ty) more ≡ true → IsInput name kind ty (find (λ (input : Input). same_bytes input.name name) inputs))
        → ((test && is_so kind ty declared) || list_any (has_name name kind ty) more) ≡ true
        → IsInput name kind ty (find (λ (input : Input). same_bytes input.name name) (input ∷ inputs))
    pick true here others e =
        let parts = so (is_so kind ty declared) refl here e in
        record {
          input = input;
          is = ap (λ (test : Bool). cond test (Some input) (find (λ (input : Input). same_bytes input.name name) inputs)) (same_test ∙ here);
          declared = declared;
          answers = answers.0;
          kind_is = parts.0;
          ty_is = parts.1;
        }
    pick false here others e =
        let found = others e in
        record {
          input = found.input;
          is = ap (λ (test : Bool). cond test (Some input) (find (λ (input : Input). same_bytes input.name name) inputs)) (same_test ∙ here) ∙ found.is;
          declared = found.declared;
          answers = found.answers;
          kind_is = found.kind_is;
          ty_is = found.ty_is;
        }

-- the input that is taken
pub record IsTaken (object : Object) (world : World) (name : List ℕ) (kind : ℕ) (ty : Ty) : Type 0 where
  pub declared : Declared
  pub answers : Answers declared (input_in world name)
  pub kind_is : declared.kind ≡ kind
  pub ty_is : declared.ty ≡ ty

pub input_there : (object : Object) (world : World) → AreDistinct object.inputs → AnswerAll object.inputs world.inputs → (name : List ℕ) (kind : ℕ) (ty : Ty)
    → is_input object name kind ty ≡ true → IsTaken object world name kind ty
input_there object world distinct answers name kind ty e =
    let found = found_input object.inputs world.inputs distinct answers name kind ty e in
    record {
      declared = found.declared;
      answers = subst (λ (input : Input). Answers found.declared input) (sym (ap (λ (one : Option Input). elim one [
        | Some input ↦ input
        | None ↦ record { name = name; sizes = 0 ∷ []; cells = [] }
      ]) found.is)) found.answers;
      kind_is = found.kind_is;
      ty_is = found.ty_is;
    }
