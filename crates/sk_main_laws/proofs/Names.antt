-- What the instructions of main name.
use Rattle.std.proofs.Common.{◌≡◌, ℕ, zero, suc, Bool, true, false, ◌&&◌, ◌==◌, nat_le, if◌then◌else◌, List, [], ◌∷◌, ◌++◌, length, drop, Option, Some, None, slice_get, refl, subst}
use Rattle.std.proofs.lemmas.Bool.{and_parts, eqb-true}
use Rattle.std.proofs.lemmas.Option.{same_Some}
use Rattle.std.specs.List.{list_all}
use Rattle.sk_base.specs.declared.number.Ty.{Ty}
use Rattle.sk_isa.specs.Soundness.{left_if, of_many}
use Rattle.sk_isa.specs.declared.object.Object.{Object}
use Rattle.sk_isa.specs.declared.object.Plan.{Plan}
use Rattle.sk_isa.specs.declared.object.Signature.{Signature}
use Rattle.sk_isa_laws.proofs.Steps.{left_if_so}
use Rattle.sk_call_shapes.specs.CallShapes.{Container as Kinded, fits, fits_statement, uniform_count, wanted_whole, wanting}
use Rattle.sk_main_code.specs.MainSoundness.{calls_fit, containers_of, is_declared}
use Rattle.sk_main_laws.specs.Calls.{first_of}
use Rattle.sk_tree.specs.Parameters.{region_of}
use Rattle.sk_tree.specs.declared.declared.Declared.{Declared}
use Rattle.sk_tree.specs.declared.tree.Skeleton.{Skeleton}
use Rattle.sk_tree.specs.declared.tree.Skeleton.TheVariants as skeleton
use Rattle.sk_world.specs.World.{count}

-- what is declared under a number
pub declared_there : (object : Object) (number : ℕ) (test : Declared → Bool) → is_declared object number test ≡ true
    → (declared : Declared) × (slice_get object.containers number ≡ Some declared) × (test declared ≡ true)
declared_there object number test e = by (slice_get object.containers number) refl e
  where
    by : (found : Option Declared) → slice_get object.containers number ≡ found → elim found [ Some declared ↦ test declared | None ↦ false ] ≡ true
        → (declared : Declared) × (slice_get object.containers number ≡ Some declared) × (test declared ≡ true)
    by None is e = cc
    by (Some declared) is e = (declared, is, e)

-- a call that the names of an instruction allow
pub record Named (object : Object) (number : ℕ) (containers : List ℕ) (uniforms : ℕ) (test : Plan → Signature → List Kinded → Bool) : Type 0 where
  pub plan : Plan
  pub is : slice_get object.instances number ≡ Some plan
  pub given : List Kinded
  pub given_are : containers_of object containers ≡ Some given
  pub fits : test plan (first_of object plan) given ≡ true
  pub count : uniforms ≡ uniform_count plan (first_of object plan)

pub named_call : (object : Object) (number : ℕ) (containers : List ℕ) (uniforms : ℕ) (test : Plan → Signature → List Kinded → Bool)
    → calls_fit object number containers uniforms test ≡ true → Named object number containers uniforms test
named_call object number containers uniforms test e = by (slice_get object.instances number) refl e
  where
    for : (plan : Plan) → slice_get object.instances number ≡ Some plan → (given : Option (List Kinded)) → containers_of object containers ≡ given
        → elim given [
          | Some given ↦ test plan (first_of object plan) given && uniforms == uniform_count plan (first_of object plan)
          | None ↦ false
        ] ≡ true
        → Named object number containers uniforms test
    for plan is None are e = cc
    for plan is (Some given) are e =
        let parts = and_parts (test plan (first_of object plan) given) (uniforms == uniform_count plan (first_of object plan)) e in
        record {
          plan = plan;
          is = is;
          given = given;
          given_are = are;
          fits = parts.0;
          count = eqb-true uniforms (uniform_count plan (first_of object plan)) parts.1;
        }

    by : (found : Option Plan) → slice_get object.instances number ≡ found
        → elim found [
          | Some plan ↦ elim (containers_of object containers) [
            | Some given ↦ test plan (first_of object plan) given && uniforms == uniform_count plan (first_of object plan)
            | None ↦ false
          ]
          | None ↦ false
        ] ≡ true
        → Named object number containers uniforms test
    by None is e = cc
    by (Some plan) is e = for plan is (containers_of object containers) refl e

-- a call statement has a result
pub statement_given : (plan : Plan) (first : Signature) → fits_statement plan first [] ≡ true → ⊥
statement_given plan first e = by plan.skeleton e
  where
    region : (found : Option (ℕ × Ty)) → fits (elim found [
      | Some region ↦ Some (wanting region.0 first.ret ∷ wanting region.0 region.1 ∷ wanted_whole first.params)
      | None ↦ None
    ]) [] ≡ true → ⊥
    region None e = cc
    region (Some one) e = cc

    by : (kind : Skeleton) → fits_statement (record plan { skeleton = kind }) first [] ≡ true → ⊥
    by skeleton.Map e = cc
    by skeleton.Reduce e = cc
    by skeleton.Scan e = cc
    by skeleton.MapOverlap e = region (region_of first.params) e
    by skeleton.MapPairs e = cc
    by skeleton.MapPairsReduce e = cc
    by skeleton.MapReduce e = cc
    by skeleton.Call e = cc

-- what an instruction names, and what it leaves
pub names_so : (count : ℕ) (types left more : List Ty) (test : Bool) → of_many count types (λ given rest. left_if test (more ++ rest)) ≡ Some left → test ≡ true
names_so count types left more test e = by (nat_le count (length types)) e
  where
    by : (enough : Bool) → (if enough then left_if test (more ++ drop count types) else None) ≡ Some left → test ≡ true
    by true e = (left_if_so test (more ++ drop count types) left e).0
    by false e = cc

-- a test that each element passes
pub all_at : {A : Type 0} (test : A → Bool) (xs : List A) (k : ℕ) (x : A) → list_all test xs ≡ true → slice_get xs k ≡ Some x → test x ≡ true
all_at test [] k x all e = cc
all_at test (y ∷ xs) zero x all e = subst (λ z. test z ≡ true) (same_Some y x e) (and_parts (test y) (list_all test xs) all).0
all_at test (y ∷ xs) (suc k) x all e = all_at test xs k x (and_parts (test y) (list_all test xs) all).1 e
