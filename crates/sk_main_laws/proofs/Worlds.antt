-- Fine worlds, and what main does to them.
use Rattle.std.proofs.Common.{◌≡◌, ℕ, zero, suc, ◌≤◌, ◌^◌, Bool, true, false, not, ◌&&◌, ◌||◌, ◌==◌, if◌then◌else◌, List, [], ◌∷◌, length, All, ℤ, pos, Option, Some, None, is_some, IsSomeAnd, codes, replicate, set, slice_get, slice_index_or, arith, ap, sym, refl, subst, ◌∙◌, length-set}
use Rattle.std.proofs.lemmas.Bool.{eqb-true}
use Rattle.std.proofs.lemmas.List.{length-replicate}
use Rattle.std.proofs.lemmas.List.Elements.{All-replicate, All-set}
use Rattle.sk_base.specs.Arithmetic.{InRange, wrapped}
use Rattle.sk_base.specs.ArithmeticLaws.{wrapped-in_range}
use Rattle.sk_base.specs.Shape.{IsShape, cells_of}
use Rattle.sk_base.specs.declared.number.Ty.{Ty}
use Rattle.sk_base.specs.declared.number.Ty.TheVariants.{Int}
use Rattle.sk_isa.specs.declared.object.Object.{Object}
use Rattle.sk_isa_laws.proofs.Values.{zero-in_range}
use Rattle.sk_main_laws.specs.FineWorlds.{IsAsDeclared, IsFineWorld}
use Rattle.sk_main_laws.proofs.Containers.{IsOne, found_declared, put_declared, put_there, without_declared, without_there}
use Rattle.sk_meaning.specs.Evaluation.{named}
use Rattle.sk_names.specs.Bytes.{same_bytes}
use Rattle.sk_tree.specs.declared.declared.Declared.{Declared}
use Rattle.sk_world.specs.Events.{Event}
use Rattle.sk_world.specs.World.{Container, World, container_at, container_in, drop_container, putting, size_methods, size_of}

-- what was printed, the statements left, the line and the events are free
pub fine_beside : (object : Object) (live : ℕ → Bool) (world : World) (printed : List ℕ) (left line : ℕ) (events : List Event) → IsFineWorld object live world
    → IsFineWorld object live (record world { printed = printed; statements_left = left; line = line; events = events })
fine_beside object live world printed left line events fine =
    record { containers = fine.containers; lives = fine.lives; settings = fine.settings; inputs = fine.inputs }

-- other live containers, the same for each number
pub fine_alike : (object : Object) (live other : ℕ → Bool) (world : World) → ((number : ℕ) → other number ≡ live number)
    → IsFineWorld object live world → IsFineWorld object other world
fine_alike object live other world same fine =
    record { containers = fine.containers; lives = λ number. fine.lives number ∙ sym (same number); settings = fine.settings; inputs = fine.inputs }

-- a live container
pub record There (object : Object) (world : World) (number : ℕ) : Type 0 where
  pub container : Container
  pub found : container_in world number ≡ Some container
  pub number_is : container.number ≡ number
  pub declared : Declared
  pub declared_there : slice_get object.containers number ≡ Some declared
  pub as_declared : IsAsDeclared declared container

some_and : {A : Type 0} (found : Option A) (P : A → Type 0) → IsSomeAnd found P → (x : A) × (found ≡ Some x) × P x
some_and None P h = absurd h
some_and (Some x) P h = (x, refl, h)

pub there : (object : Object) (live : ℕ → Bool) (world : World) → IsFineWorld object live world → (number : ℕ) → live number ≡ true → There object world number
there object live world fine number is_live = by (container_in world number) refl (fine.lives number ∙ is_live)
  where
    one : (container : Container) → container_in world number ≡ Some container → container.number ≡ number → IsOne object.containers container
        → There object world number
    one container found same is =
        let declared = some_and (slice_get object.containers number) (λ (d : Declared). IsAsDeclared d container)
        (subst (λ (n : ℕ). IsSomeAnd (slice_get object.containers n) (λ (d : Declared). IsAsDeclared d container)) same is) in
        record {
          container = container;
          found = found;
          number_is = same;
          declared = declared.0;
          declared_there = declared.1;
          as_declared = declared.2;
        }

    by : (found : Option Container) → container_in world number ≡ found → is_some found ≡ true → There object world number
    by None is some = cc
    by (Some container) is some =
        let both = found_declared object.containers 0 world.containers fine.containers number container is in
        one container is both.0 both.1

pub container_at-is : (object : Object) (world : World) (number : ℕ) (t : There object world number) → container_at world number ≡ t.container
container_at-is object world number t = ap (λ (found : Option Container). elim found [
  | Some container ↦ container
  | None ↦ record { number = number; name = []; ty = Int; sizes = 0 ∷ []; cells = [] }
]) t.found

-- a container that is as it is declared under its number is put in its place
pub fine_putting : (object : Object) (live : ℕ → Bool) (world : World) (container : Container) (number : ℕ) (declared : Declared) → IsFineWorld object live world
    → container.number ≡ number → slice_get object.containers number ≡ Some declared → IsAsDeclared declared container
    → IsFineWorld object (λ other. live other || (other == number)) (putting container world)
fine_putting object live world container number declared fine same is is_as = record {
  containers = put_declared object.containers 0 container world.containers (omega arith)
      (subst (λ (found : Option Declared). IsSomeAnd found (λ (d : Declared). IsAsDeclared d container))
      (sym (ap (λ (n : ℕ). slice_get object.containers n) same ∙ is)) is_as) fine.containers;
  lives = λ other. put_there container world.containers other ∙ ap (λ (n : ℕ). is_some (container_in world other) || (other == n)) same
      ∙ ap (λ (b : Bool). b || (other == number)) (fine.lives other);
  settings = fine.settings;
  inputs = fine.inputs;
}

-- a live container has new cells
pub fine_again : (object : Object) (live : ℕ → Bool) (world : World) (container : Container) (number : ℕ) (declared : Declared) → IsFineWorld object live world
    → live number ≡ true → container.number ≡ number → slice_get object.containers number ≡ Some declared → IsAsDeclared declared container
    → IsFineWorld object live (putting container world)
fine_again object live world container number declared fine is_live same is is_as =
    fine_alike object (λ other. live other || (other == number)) live (putting container world) (λ other. among other (other == number) refl)
    (fine_putting object live world container number declared fine same is is_as)
  where
    or_false : (a : Bool) → a ≡ (a || false)
    or_false true = refl
    or_false false = refl

    or_true : (a : Bool) → true ≡ (a || true)
    or_true true = refl
    or_true false = refl

    among : (other : ℕ) (test : Bool) → (other == number) ≡ test → live other ≡ (live other || test)
    among other true here = ap live (at_number other here) ∙ is_live ∙ or_true (live other)
      where
        at_number : (other : ℕ) → (other == number) ≡ true → other ≡ number
        at_number other test = eqb-true other number test
    among other false here = or_false (live other)

pub fine_dropping : (object : Object) (live : ℕ → Bool) (world : World) (number : ℕ) → IsFineWorld object live world
    → IsFineWorld object (λ other. live other && not (other == number)) (drop_container number world)
fine_dropping object live world number fine = record {
  containers = without_declared object.containers 0 number world.containers fine.containers;
  lives = λ other. without_there number world.containers other ∙ ap (λ (b : Bool). b && not (other == number)) (fine.lives other);
  settings = fine.settings;
  inputs = fine.inputs;
}

-- a container with the same cell everywhere
pub as_made : (declared : Declared) (number : ℕ) (ty : Ty) (sizes : List ℕ) (fill : ℤ) → IsShape sizes → length sizes ≡ declared.kind → ty ≡ declared.ty
    → IsAsDeclared declared (record { number = number; name = declared.name; ty = ty; sizes = sizes; cells = replicate (cells_of sizes) (wrapped ty fill) })
as_made declared number ty sizes fill shape kind same = record {
  name = refl;
  ty = same;
  kind = kind;
  shape = shape;
  count = length-replicate (cells_of sizes) (wrapped ty fill);
  cells = All-replicate (InRange declared.ty) (cells_of sizes) (wrapped ty fill)
      (subst (λ (t : Ty). InRange t (wrapped ty fill)) same (wrapped-in_range ty fill));
}

-- one with a new element
pub as_poked : (declared : Declared) (container : Container) (index : ℕ) (value : ℤ) → IsAsDeclared declared container
    → IsAsDeclared declared (record container { cells = set container.cells index (wrapped container.ty value) })
as_poked declared container index value is_as = record {
  name = is_as.name;
  ty = is_as.ty;
  kind = is_as.kind;
  shape = is_as.shape;
  count = length-set container.cells index (wrapped container.ty value) ∙ is_as.count;
  cells = All-set (InRange declared.ty) container.cells index (wrapped container.ty value)
      (subst (λ (t : Ty). InRange t (wrapped container.ty value)) is_as.ty (wrapped-in_range container.ty value)) is_as.cells;
}

-- one with new cells
pub as_filled : (declared : Declared) (container : Container) (cells : List ℤ) → IsAsDeclared declared container
    → length cells ≡ cells_of container.sizes → All (InRange declared.ty) cells → IsAsDeclared declared (record container { cells = cells })
as_filled declared container cells is_as count fit =
    record { name = is_as.name; ty = is_as.ty; kind = is_as.kind; shape = is_as.shape; count = count; cells = fit }

-- cells and sizes are in range
pub cell_fits : (ty : Ty) (cells : List ℤ) (index : ℕ) → All (InRange ty) cells → InRange ty (slice_index_or cells index (pos 0))
cell_fits ty [] index h = zero-in_range ty
cell_fits ty (cell ∷ cells) zero h = h 0 cell (omega arith)
cell_fits ty (cell ∷ cells) (suc index) h = cell_fits ty cells index (λ k d less. h (suc k) d (omega arith))

named_fits : (fields : List (List ℕ)) (numbers : List ℕ) (name : List ℕ) → All (λ number. number ≤ 2 ^ 24) numbers → named fields numbers name ≤ 2 ^ 24
named_fits [] numbers name h = omega arith
named_fits (field ∷ fields) [] name h = omega arith
named_fits (field ∷ fields) (number ∷ numbers) name h =
    pick (same_bytes field name) (named fields numbers name) (named_fits fields numbers name (λ k d less. h (suc k) d (omega arith)))
  where
    pick : (test : Bool) (other : ℕ) → other ≤ 2 ^ 24 → (if test then number else other) ≤ 2 ^ 24
    pick true other small = h 0 0 (omega arith)
    pick false other small = small

pub size_fits : (container : Container) (method : List ℕ) → IsShape container.sizes → InRange Int (size_of container method)
size_fits container method shape =
    small (named (codes "size" ∷ size_methods container.sizes) (cells_of container.sizes ∷ container.sizes) method)
    (named_fits (codes "size" ∷ size_methods container.sizes) (cells_of container.sizes ∷ container.sizes) method each)
  where
    small : (n : ℕ) → n ≤ 2 ^ 24 → InRange Int (pos n)
    small n h = record { sfits = omega arith }

    each : All (λ number. number ≤ 2 ^ 24) (cells_of container.sizes ∷ container.sizes)
    each zero d less = shape.product
    each (suc k) d less = shape.each k d (omega arith)
