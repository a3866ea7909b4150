-- Worlds whose containers hold cells of their types.
use Rattle.std.proofs.Common.{◌≡◌, ℕ, zero, suc, ◌≤◌, List, [], ◌∷◌, ℤ, pos, Option, Some, None, refl, sym, ap, ◌∙◌, subst, arith}
use Rattle.std.proofs.lemmas.List.Elements.{All-cons, All-head, All-tail}
use Rattle.std.specs.Prelude.{All, true, false, Bool, if◌then◌else◌, ◌==◌, ◌^◌, find, slice_get, slice_index_or, codes}
use Rattle.sk_base.specs.Arithmetic.{InRange}
use Rattle.sk_base.specs.Shape.{cells_of, flat_of}
use Rattle.sk_base.specs.declared.number.Ty.{Ty}
use Rattle.sk_base.specs.declared.number.Ty.TheVariants.{Int, Long}
use Rattle.sk_isa.specs.declared.object.Object.{Object}
use Rattle.sk_main_names.proofs.Tests.{same_number}
use Rattle.sk_meaning.specs.Evaluation.{named}
use Rattle.sk_names.specs.Bytes.{same_bytes}
use Rattle.sk_main_runs.proofs.Arguments.{IsGiven}
use Rattle.sk_main_runs.proofs.Runs.{IsLike}
use Rattle.sk_main_runs.specs.SameMeaning.{IsHeld, IsTidy, IsWhole}
use Rattle.sk_plain.proofs.Lists.{all_two}
use Rattle.sk_plain.proofs.Truths.{some_same}
use Rattle.sk_tree.specs.declared.declared.Declared.{Declared}
use Rattle.sk_world.specs.World.{Container, World, container_at, container_in, read, read_at, size_of, size_methods}

-- 0 is of either type
pub zero-in_range : (ty : Ty) → InRange ty (pos 0)
zero-in_range Int = record { sfits = omega arith }
zero-in_range Long = record { sfits = omega arith }

module _ {A : Type 0} (P : A → Type 0) where
  -- an element, or the value that stands for none
  pub all_at : (xs : List A) (i : ℕ) (d : A) → P d → All P xs → P (slice_index_or xs i d)
  all_at [] i d h all = h
  all_at (x ∷ xs) zero d h all = All-head P x xs all
  all_at (x ∷ xs) (suc i) d h all = all_at xs i d h (All-tail P x xs all)

  -- what is found is one of the elements, and passes the test
  pub found_passes : (test : A → Bool) (xs : List A) (x : A) → All P xs → find test xs ≡ Some x → P x × (test x ≡ true)
  found_passes test [] x all e = let no : ⊥ = cc in absurd no
  found_passes test (y ∷ xs) x all e = by_test (test y) refl (found_passes test xs x (All-tail P y xs all))
    where
      by_test : (b : Bool) → test y ≡ b → (find test xs ≡ Some x → P x × (test x ≡ true)) → P x × (test x ≡ true)
      by_test true s later =
          let same : y ≡ x = some_same y x (sym (ap (λ (b : Bool). if b then Some y else find test xs) s) ∙ e) in
          (subst P same (All-head P y xs all), subst (λ z. test z ≡ true) same s)
      by_test false s later = later (sym (ap (λ (b : Bool). if b then Some y else find test xs) s) ∙ e)

-- a value by its name is not above a limit
pub named_few : (limit : ℕ) (fields : List (List ℕ)) (values : List ℕ) (name : List ℕ) → All (λ value. value ≤ limit) values → named fields values name ≤ limit
named_few limit [] values name few = omega arith
named_few limit (field ∷ fields) [] name few = omega arith
named_few limit (field ∷ fields) (value ∷ values) name few =
    by_test (same_bytes field name) (named_few limit fields values name (All-tail (λ value. value ≤ limit) value values few))
  where
    by_test : (b : Bool) → named fields values name ≤ limit → (if b then value else named fields values name) ≤ limit
    by_test true later = All-head (λ value. value ≤ limit) value values few
    by_test false later = later

module _ (object : Object) where
  -- a world with the same containers
  pub tidy_like : (one other : World) → IsLike one other → IsTidy object one → IsTidy object other
  tidy_like one other like tidy = record { each = subst (λ (cs : List Container). All (IsHeld object) cs) (sym like.containers) tidy.each }

  -- the cells of the container with a number are of the type that is declared
  pub cells_held : (world : World) (number : ℕ) (declared : Declared) → IsTidy object world → slice_get object.containers number ≡ Some declared
      → All (InRange declared.ty) (container_at world number).cells
  cells_held world number declared tidy there = by_found (container_in world number) refl
    where
      by_found : (found : Option Container) → container_in world number ≡ found → All (InRange declared.ty) (container_at world number).cells
      by_found None e = subst (λ (o : Option Container). All (InRange declared.ty) (elim o as (λ x. Container) [
        | Some container ↦ container
        | None ↦ record { number = number; name = []; ty = Int; sizes = 0 ∷ []; cells = [] }
      ]).cells) (sym e) (λ k d lt. absurd (omega (arith, lt)))
      by_found (Some container) e =
          let h = found_passes (IsHeld object) (λ (c : Container). c.number == number) world.containers container tidy.each e in
          let number_is : container.number ≡ number = same_number container.number number h.1 in
          let same : h.0.declared ≡ declared = some_same h.0.declared declared (sym h.0.there ∙ ap (slice_get object.containers) number_is ∙ there) in
          subst (λ (o : Option Container). All (InRange declared.ty) (elim o as (λ x. Container) [
            | Some container ↦ container
            | None ↦ record { number = number; name = []; ty = Int; sizes = 0 ∷ []; cells = [] }
          ]).cells) (sym e) (subst (λ (d : Declared). All (InRange d.ty) container.cells) same h.0.cells)

  -- a size is an int
  pub size-in_range : (world : World) (number : ℕ) (method : List ℕ) → IsTidy object world → InRange Int (size_of (container_at world number) method)
  size-in_range world number method tidy = by_found (container_in world number) refl
    where
      sized : (container : Container) → All (λ size. size ≤ 2 ^ 24) (cells_of container.sizes ∷ container.sizes) → InRange Int (size_of container method)
      sized container few =
          let le = named_few (2 ^ 24) (codes "size" ∷ size_methods container.sizes) (cells_of container.sizes ∷ container.sizes) method few in
          record { sfits = omega (arith, le) }

      by_found : (found : Option Container) → container_in world number ≡ found → InRange Int (size_of (container_at world number) method)
      by_found None e = subst (λ (o : Option Container). InRange Int (size_of (elim o as (λ x. Container) [
        | Some container ↦ container
        | None ↦ record { number = number; name = []; ty = Int; sizes = 0 ∷ []; cells = [] }
      ]) method)) (sym e)
          (sized (record { number = number; name = []; ty = Int; sizes = 0 ∷ []; cells = [] }) (all_two (λ size. size ≤ 2 ^ 24) 0 0 (omega arith) (omega arith)))
      by_found (Some container) e =
          let h = found_passes (IsHeld object) (λ (c : Container). c.number == number) world.containers container tidy.each e in
          subst (λ (o : Option Container). InRange Int (size_of (elim o as (λ x. Container) [
            | Some container ↦ container
            | None ↦ record { number = number; name = []; ty = Int; sizes = 0 ∷ []; cells = [] }
          ]) method)) (sym e)
          (sized container (All-cons (λ size. size ≤ 2 ^ 24) (cells_of container.sizes) container.sizes h.0.shape.product h.0.shape.each))

  -- an element that is read
  pub read_given : (ty : Ty) (container : ℕ) (number : ℕ) (other : Ty) (place : List ℤ) (world : World) → IsWhole object container ty number other → IsTidy object world
      → IsGiven ty world (read number place world)
  read_given ty container number other place world whole tidy = by_index (flat_of (container_at world number).sizes place)
    where
      there : slice_get object.containers number ≡ Some whole.declared
      there = ap (slice_get object.containers) whole.number_is ∙ whole.there

      cells : All (InRange ty) (container_at world number).cells
      cells = subst (λ t. All (InRange t) (container_at world number).cells) whole.declared_ty (cells_held world number whole.declared tidy there)

      by_index : (index : Option ℕ) → IsGiven ty world (read_at (container_at world number) index world)
      by_index None = tt
      by_index (Some index) =
          (all_at (InRange ty) (container_at world number).cells index (pos 0) (zero-in_range ty) cells, record { containers = refl; left = refl })
