-- What the code of statements on containers does: declarations with sizes, and writes of elements.
use Rattle.std.proofs.Common.{◌≡◌, ◌⊎◌, inl, inr, ℕ, ◌+◌, ◌*◌, List, [], ◌∷◌, replicate, ℤ, pos, negsuc, Option, Some, None, refl, sym, ap, ◌∙◌, subst, arith}
use Rattle.std.proofs.lemmas.Bool.{ltb-true}
use Rattle.std.proofs.lemmas.List.Elements.{All-cons, All-head, All-tail, All-replicate, All-set}
use Rattle.std.specs.Prelude.{All, Result, Ok, Err, true, false, Bool, ◌==◌, nat_lt, if◌then◌else◌, set, slice_get}
use Rattle.sk_base.specs.Arithmetic.{InRange, wrapped}
use Rattle.sk_base.specs.ArithmeticLaws.{wrapped-in_range}
use Rattle.sk_base.specs.Shape.{IsShape, cells_of, shape_of, sizes_of, is_shape, flat_from, flat_of}
use Rattle.sk_base.specs.ShapeLaws.{IsShape-from_test}
use Rattle.sk_base.specs.declared.number.Trap.TheVariants.{Index, Shape}
use Rattle.sk_base.specs.declared.number.Ty.{Ty}
use Rattle.sk_base.specs.declared.number.Ty.TheVariants.{Int}
use Rattle.sk_isa.specs.declared.object.Object.{Object}
use Rattle.sk_main_names.proofs.Tests.{same_number}
use Rattle.sk_main_runs.proofs.Tidy.{found_passes}
use Rattle.sk_main_runs.proofs.Values.{wrapped-twice}
use Rattle.sk_main_runs.specs.SameMeaning.{IsHeld, IsTidy}
use Rattle.sk_plain.proofs.Truths.{some_same}
use Rattle.sk_tree.specs.declared.declared.Declared.{Declared}
use Rattle.sk_world.specs.Events.{Made, Poked}
use Rattle.sk_world.specs.World.{Container, World, Over, Trapped, container_in, make, poke, poke_at, putting, told, with_container}

pub ok_same : (one other : World) (whole : Result World Over) → whole ≡ Ok one → whole ≡ Ok other → one ≡ other
ok_same one other whole e f = cc

pub never_ok : (over : Over) (other : World) (whole : Result World Over) → whole ≡ Err over → whole ≡ Ok other → ⊥
never_ok over other whole e f = cc

-- no place lies in a container without elements
flat-none : (place : List ℤ) → flat_of (0 ∷ []) place ≡ None
flat-none [] = refl
flat-none (pos at ∷ place) = by_test (nat_lt at 0) refl
  where
    by_test : (b : Bool) → nat_lt at 0 ≡ b → flat_of (0 ∷ []) (pos at ∷ place) ≡ None
    by_test true e = absurd (omega (arith, ltb-true at 0 e))
    by_test false e = ap (λ (c : Bool). if c then flat_from (0 * 0 + at) [] place else None) e
flat-none (negsuc at ∷ place) = refl

module _ (P : Container → Type 0) where
  -- a container comes to others
  pub all_with : (container : Container) (others : List Container) → P container → All P others → All P (with_container container others)
  all_with container [] h all = All-cons P container [] h all
  all_with container (first ∷ rest) h all =
      by_test (nat_lt first.number container.number) (first.number == container.number) (all_with container rest h (All-tail P first rest all))
    where
      by_test : (b c : Bool) → All P (with_container container rest)
          → All P (if b then first ∷ with_container container rest else if c then container ∷ rest else container ∷ first ∷ rest)
      by_test true c later = All-cons P first (with_container container rest) (All-head P first rest all) later
      by_test false true later = All-cons P container rest h (All-tail P first rest all)
      by_test false false later = All-cons P container (first ∷ rest) h all

module _ (object : Object) where
  pub tidy_put : (container : Container) (world : World) → IsHeld object container → IsTidy object world → IsTidy object (putting container world)
  tidy_put container world h tidy = record { each = all_with (IsHeld object) container world.containers h tidy.each }

  -- ---- making

  abbrev made_with : (number : ℕ) → (name : List ℕ) → Ty → (cell : ℤ) → World → Option (List ℕ) → Result World Over
  made_with number name ty cell world found = elim found as (λ x. Result World Over) [
    | None ↦ Err (record { ending = Trapped Shape world.line 0; world = world })
    | Some shape ↦ Ok (told (Made number shape cell) (putting (record { number = number; name = name; ty = ty; sizes = shape; cells = replicate (cells_of shape) cell }) world))
  ]

  -- the fill value may be converted before
  pub make-converted : (number : ℕ) (name : List ℕ) (ty : Ty) (sizes : List ℤ) (fill : ℤ) (world : World)
      → make number name ty sizes (wrapped ty fill) world ≡ make number name ty sizes fill world
  make-converted number name ty sizes fill world = ap (λ (cell : ℤ). made_with number name ty cell world (shape_of sizes)) (wrapped-twice ty fill)

  shape-found : (sizes : List ℤ) (shape : List ℕ) → shape_of sizes ≡ Some shape → IsShape shape
  shape-found sizes shape e = by_sizes (sizes_of sizes) refl
    where
      tested : (one : List ℕ) (b : Bool) → is_shape one ≡ b → (if b then Some one else None) ≡ Some shape → IsShape shape
      tested one true passes same = subst IsShape (some_same one shape same) (IsShape-from_test one passes)
      tested one false passes same = let no : ⊥ = cc in absurd no

      by_sizes : (found : Option (List ℕ)) → sizes_of sizes ≡ found → IsShape shape
      by_sizes (Some one) f =
          tested one (is_shape one) refl (sym (ap (λ (o : Option (List ℕ)). elim o as (λ x. Option (List ℕ)) [ Some shape ↦ if is_shape shape then Some shape else None | None ↦ None ]) f) ∙ e)
      by_sizes None f =
          let none : None ≡ Some shape = sym (ap (λ (o : Option (List ℕ)). elim o as (λ x. Option (List ℕ)) [ Some shape ↦ if is_shape shape then Some shape else None | None ↦ None ]) f) ∙ e in
          let no : ⊥ = cc in absurd no

  -- a world in which a container was made
  pub made_tidy : (number : ℕ) (name : List ℕ) (ty : Ty) (sizes : List ℤ) (fill : ℤ) (world after : World) (declared : Declared) → slice_get object.containers number ≡ Some declared → declared.ty ≡ ty
      → IsTidy object world → make number name ty sizes fill world ≡ Ok after → IsTidy object after × (after.statements_left ≡ world.statements_left)
  made_tidy number name ty sizes fill world after declared there ty_is tidy e = by_shape (shape_of sizes) refl
    where
      held : (shape : List ℕ) → IsShape shape → IsHeld object (record { number = number; name = name; ty = ty; sizes = shape; cells = replicate (cells_of shape) (wrapped ty fill) })
      held shape is = record {
        declared = declared;
        there = there;
        ty = inl (sym ty_is);
        shape = is;
        cells = All-replicate (InRange declared.ty) (cells_of shape) (wrapped ty fill) (subst (λ t. InRange t (wrapped ty fill)) (sym ty_is) (wrapped-in_range ty fill));
      }

      by_shape : (found : Option (List ℕ)) → shape_of sizes ≡ found → IsTidy object after × (after.statements_left ≡ world.statements_left)
      by_shape None f =
          let wrong : made_with number name ty (wrapped ty fill) world None ≡ Ok after = sym (ap (made_with number name ty (wrapped ty fill) world) f) ∙ e in
          let no : ⊥ = cc in absurd no
      by_shape (Some shape) f =
          let container : Container = record { number = number; name = name; ty = ty; sizes = shape; cells = replicate (cells_of shape) (wrapped ty fill) } in
          let made : World = told (Made number shape (wrapped ty fill)) (putting container world) in
          let same : made ≡ after = ok_same made after (make number name ty sizes fill world) (ap (made_with number name ty (wrapped ty fill) world) f) e in
          subst (λ (w : World). IsTidy object w × (w.statements_left ≡ world.statements_left)) same
          (record { each = (tidy_put container world (held shape (shape-found sizes shape f)) tidy).each }, refl)

  -- ---- writing

  -- what is written to a container with a number may be converted before, and leaves a tidy world
  pub record IsPokedSo (world : World) (number : ℕ) (place : List ℤ) (value other : ℤ) : Type 0 where
    pub same : poke number place value world ≡ poke number place other world
    pub tidy : (after : World) → poke number place other world ≡ Ok after → IsTidy object after × (after.statements_left ≡ world.statements_left)

  poked_at : (ty : Ty) (container : Container) (v : ℤ) (world : World) → container.ty ≡ ty → (found : Option ℕ) → poke_at container found (wrapped ty v) world ≡ poke_at container found v world
  poked_at ty container v world e None = refl
  poked_at ty container v world e (Some index) =
      let same : wrapped container.ty (wrapped ty v) ≡ wrapped container.ty v = subst (λ t. wrapped container.ty (wrapped t v) ≡ wrapped container.ty v) e (wrapped-twice container.ty v) in
      ap (λ (cell : ℤ). Ok (told (Poked container.number index cell) (putting (record container { cells = set container.cells index cell }) world))) same

  tidy_at : (container : Container) (v : ℤ) (world after : World) (h : IsHeld object container) → container.ty ≡ h.declared.ty → IsTidy object world → (found : Option ℕ) → poke_at container found v world ≡ Ok after
      → IsTidy object after × (after.statements_left ≡ world.statements_left)
  tidy_at container v world after h type_is tidy None e = let no : ⊥ = cc in absurd no
  tidy_at container v world after h type_is tidy (Some index) e =
      let cell : ℤ = wrapped container.ty v in
      let written : Container = record container { cells = set container.cells index cell } in
      let made : World = told (Poked container.number index cell) (putting written world) in
      let held : IsHeld object written = record {
        declared = h.declared;
        there = h.there;
        ty = inl type_is;
        shape = h.shape;
        cells = All-set (InRange h.declared.ty) container.cells index cell (subst (λ t. InRange t cell) type_is (wrapped-in_range container.ty v)) h.cells;
      } in
      subst (λ (w : World). IsTidy object w × (w.statements_left ≡ world.statements_left)) (ok_same made after (poke_at container (Some index) v world) refl e)
      (record { each = (tidy_put written world held tidy).each }, refl)

  abbrev container_or : (number : ℕ) → Option Container → Container
  container_or number found = elim found as (λ x. Container) [
    | Some container ↦ container
    | None ↦ record { number = number; name = []; ty = Int; sizes = 0 ∷ []; cells = [] }
  ]

  abbrev poked_to : (place : List ℤ) → (value : ℤ) → World → Container → Result World Over
  poked_to place value world container = poke_at container (flat_of container.sizes place) value world

  pub poked_so : (ty : Ty) (world : World) (number : ℕ) (place : List ℤ) (v : ℤ) (declared : Declared) → slice_get object.containers number ≡ Some declared → declared.ty ≡ ty → IsTidy object world
      → IsPokedSo world number place (wrapped ty v) v
  poked_so ty world number place v declared there ty_is tidy = by_found (container_in world number) refl
    where
      no_place : ((value : ℤ) → poke number place value world ≡ Err (record { ending = Trapped Index world.line 0; world = world })) → IsPokedSo world number place (wrapped ty v) v
      no_place nothing = record {
        same = nothing (wrapped ty v) ∙ sym (nothing v);
        tidy = λ after is. absurd (never_ok (record { ending = Trapped Index world.line 0; world = world }) after (poke number place v world) (nothing v) is);
      }

      by_type : (container : Container) (h : IsHeld object container) → h.declared.ty ≡ ty → ((value : ℤ) → poke number place value world ≡ poked_to place value world container)
          → (container.ty ≡ h.declared.ty) ⊎ (container.sizes ≡ 0 ∷ []) → IsPokedSo world number place (wrapped ty v) v
      by_type container h wanted there_is (inl type_is) = record {
        same = there_is (wrapped ty v) ∙ poked_at ty container v world (type_is ∙ wanted) (flat_of container.sizes place) ∙ sym (there_is v);
        tidy = λ after is. tidy_at container v world after h type_is tidy (flat_of container.sizes place) (sym (there_is v) ∙ is);
      }
      by_type container h wanted there_is (inr empty) =
          no_place (λ value. there_is value ∙ ap (λ (o : Option ℕ). poke_at container o value world) (ap (λ (sizes : List ℕ). flat_of sizes place) empty ∙ flat-none place))

      by_found : (found : Option Container) → container_in world number ≡ found → IsPokedSo world number place (wrapped ty v) v
      by_found None e = no_place (λ value. ap (λ (o : Option Container). poked_to place value world (container_or number o)) e
          ∙ ap (λ (o : Option ℕ). poke_at (container_or number None) o value world) (flat-none place))
      by_found (Some container) e =
          let h = found_passes (IsHeld object) (λ (c : Container). c.number == number) world.containers container tidy.each e in
          let number_is : container.number ≡ number = same_number container.number number h.1 in
          let same : h.0.declared ≡ declared = some_same h.0.declared declared (sym h.0.there ∙ ap (slice_get object.containers) number_is ∙ there) in
          by_type container h.0 (ap (λ (d : Declared). d.ty) same ∙ ty_is) (λ value. ap (λ (o : Option Container). poked_to place value world (container_or number o)) e) h.0.ty
