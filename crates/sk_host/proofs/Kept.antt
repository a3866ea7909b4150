-- What main's instructions on containers lead to, where the store mirrors the world.
use Rattle.std.proofs.Common.{◌≡◌, ℕ, zero, suc, ◌+◌, ◌<◌, ◌≤◌, Bool, true, false, ◌==◌, nat_le, cond, List, [], ◌∷◌, length, take, drop, ℤ, pos, Option, Some, None, IsSome, find, set, slice_get, slice_index_or, slice_set, replicate, arith, ap, sym, refl, subst, ◌∙◌}
use Rattle.std.specs.Prelude.{Ok, Err, Result, codes, option_map}
use Rattle.std.proofs.lemmas.Bool.{cond-true, eqb-true, le-leb}
use Rattle.std.proofs.lemmas.List.{get_or-drop}
use Rattle.std.proofs.lemmas.Option.{same_Some}
use Rattle.sk_base.specs.Arithmetic.{wrapped}
use Rattle.sk_base.specs.Shape.{cells_of, flat_of, shape_of}
use Rattle.sk_base.specs.declared.number.Trap.TheVariants.{Index, Shape}
use Rattle.sk_base.specs.declared.number.Ty.{Ty}
use Rattle.sk_base.specs.declared.number.Ty.TheVariants.{Int}
use Rattle.sk_host.specs.Points.{Does, Stays, point_at}
use Rattle.sk_host.specs.Stores.{Kept, Mirrors, element_of, kept_at, kept_of, made_of, with_cell}
use Rattle.sk_host.specs.declared.machine.Lead.TheVariants as lead
use Rattle.sk_host.specs.declared.machine.Stand.{Stand}
use Rattle.sk_host.proofs.Stores.{mirrors_drop, mirrors_put}
use Rattle.sk_isa.specs.Configurations.{Goes, Stuck, going, returning, with_many}
use Rattle.sk_isa.specs.declared.code.Instr.TheVariants as instr
use Rattle.sk_isa.specs.declared.object.Object.{Object}
use Rattle.sk_main_code.specs.MainSteps.{MainNext, going_in, last_of, next_in_main}
use Rattle.sk_meaning.specs.Evaluation.{named}
use Rattle.sk_tree.specs.declared.declared.Declared.{Declared}
use Rattle.sk_vm.proofs.Calls.{arguments-in, values_in-under}
use Rattle.sk_vm.proofs.Values.{length-values_in}
use Rattle.sk_vm.specs.Points.{values_in}
use Rattle.sk_world.specs.Events.{Made, Poked, Read}
use Rattle.sk_world.specs.World.{Container, Over, Trapped, size_methods, size_of, World, container_at, container_in, drop_container, make, poke, poke_at, putting, read, read_at, told}

-- so many of the topmost values, as they lie in the buffer
pub many-in : (count base top : ℕ) (stack : List ℤ) (next : List ℤ → List ℤ → MainNext) → base + count ≡ top → top ≤ length stack
    → with_many count (values_in stack top) next ≡ next (take count (drop base stack)) (values_in stack base)
many-in count base top stack next is inside =
    subst (λ (t : ℕ). with_many count (values_in stack t) next ≡ next (take count (drop base stack)) (values_in stack base)) is
    (cond-true (nat_le count (length (values_in stack (base + count)))) _ Stuck (le-leb count (length (values_in stack (base + count))) high)
    ∙ ap (λ (xs : List ℤ). next xs (drop count (values_in stack (base + count)))) (sym (arguments-in count base stack within))
    ∙ ap (λ (xs : List ℤ). next (take count (drop base stack)) xs) (values_in-under count base stack))
  where
    high : count ≤ length (values_in stack (base + count))
    high = omega (arith, length-values_in stack (base + count))

    within : base + count ≤ length stack
    within = omega arith

-- the next address, with these values and this world
pub goes-to : (stand next : Stand) (stack after slots values : List ℤ) (kept world : World) → next.at ≡ suc stand.at → values_in after next.top ≡ values
    → ◌≡◌ {A = MainNext} (Goes (record (point_at stand stack slots kept) { at = suc stand.at; stack = values; kept = world })) (Goes (point_at next after slots world))
goes-to stand next stack after slots values kept world at top = cc

-- a container of the world that is kept so
pub record Found (world : World) (number : ℕ) (kept : Kept) : Type 0 where
  pub container : Container
  pub found : container_in world number ≡ Some container
  pub number_is : container.number ≡ number
  pub kept_is : kept_of container ≡ kept
  pub at_is : container_at world number ≡ container

found_number : (containers : List Container) (number : ℕ) (container : Container) → find (λ (one : Container). one.number == number) containers ≡ Some container
    → container.number ≡ number
found_number [] number container e = cc
found_number (first ∷ rest) number container e = pick (first.number == number) refl (found_number rest number container) e
  where
    pick : (test : Bool) → (first.number == number) ≡ test
        → (find (λ (one : Container). one.number == number) rest ≡ Some container → container.number ≡ number)
        → cond test (Some first) (find (λ (one : Container). one.number == number) rest) ≡ Some container → container.number ≡ number
    pick true is later e = subst (λ (one : Container). one.number ≡ number) (same_Some first container e) (eqb-true first.number number is)
    pick false is later e = later e

pub found-in : (store : List (Option Kept)) (world : World) (number : ℕ) (kept : Kept) → Mirrors store world → kept_at store number ≡ Some kept → Found world number kept
found-in store world number kept mirrors is = by (container_in world number) refl (sym (mirrors number) ∙ is)
  where
    by : (found : Option Container) → container_in world number ≡ found → option_map kept_of found ≡ Some kept → Found world number kept
    by None e same = cc
    by (Some container) e same = record {
      container = container;
      found = e;
      number_is = found_number world.containers number container e;
      kept_is = same_Some (kept_of container) kept same;
      at_is = ap (λ (found : Option Container). elim found [
        | Some container ↦ container
        | None ↦ record { number = number; name = []; ty = Int; sizes = 0 ∷ []; cells = [] }
      ]) e;
    }

-- nothing but events
pub stays_told : (world now : World) → now.printed ≡ world.printed → now.statements_left ≡ world.statements_left → now.line ≡ world.line → now.settings ≡ world.settings → Stays world now
stays_told world now printed statements line settings = record { printed = printed; statements = statements; line = line; settings = settings }

flat_in : (world : World) (number : ℕ) (place : List ℤ) (kept : Kept) (f : Found world number kept) (flat : Option ℕ) → flat_of kept.sizes place ≡ flat
    → flat_of (container_at world number).sizes place ≡ flat
flat_in world number place kept f flat is =
    ap (λ (c : Container). flat_of c.sizes place) f.at_is ∙ ap (λ (k : Kept). flat_of k.sizes place) f.kept_is ∙ is

-- an element is read
module _ (world : World) (number : ℕ) (place : List ℤ) (kept : Kept) (f : Found world number kept) where
  read-some : (value : ℤ) → element_of kept place ≡ Some value → (index : ℕ) × (read number place world ≡ Ok (value, told (Read f.container.number index) world))
  read-some value e = by (flat_of kept.sizes place) refl e
    where
      by : (flat : Option ℕ) → flat_of kept.sizes place ≡ flat → option_map (λ index. slice_index_or kept.cells index (pos 0)) flat ≡ Some value
          → (index : ℕ) × (read number place world ≡ Ok (value, told (Read f.container.number index) world))
      by None is e = cc
      by (Some index) is e = (
        index,
        ap (λ (flat : Option ℕ). read_at (container_at world number) flat world) (flat_in world number place kept f (Some index) is)
            ∙ ap (λ (c : Container). read_at c (Some index) world) f.at_is
            ∙ ap (λ (k : Kept). Ok (slice_index_or k.cells index (pos 0), told (Read f.container.number index) world)) f.kept_is
            ∙ ap (λ (x : ℤ). Ok (x, told (Read f.container.number index) world)) (same_Some _ value e),
      )

  read-none : element_of kept place ≡ None → read number place world ≡ Err (record { ending = Trapped Index world.line 0; world = world })
  read-none e = by (flat_of kept.sizes place) refl e
    where
      by : (flat : Option ℕ) → flat_of kept.sizes place ≡ flat → option_map (λ index. slice_index_or kept.cells index (pos 0)) flat ≡ None
          → read number place world ≡ Err (record { ending = Trapped Index world.line 0; world = world })
      by None is e = ap (λ (flat : Option ℕ). read_at (container_at world number) flat world) (flat_in world number place kept f None is)
      by (Some index) is e = cc

  poke-some : (value : ℤ) (index : ℕ) → flat_of kept.sizes place ≡ Some index
      → poke number place value world
      ≡ Ok (told (Poked f.container.number index (wrapped f.container.ty value)) (putting (record f.container { cells = set f.container.cells index (wrapped f.container.ty value) }) world))
  poke-some value index is =
      ap (λ (flat : Option ℕ). poke_at (container_at world number) flat value world) (flat_in world number place kept f (Some index) is)
      ∙ ap (λ (c : Container). poke_at c (Some index) value world) f.at_is

  poke-none : (value : ℤ) → flat_of kept.sizes place ≡ None → poke number place value world ≡ Err (record { ending = Trapped Index world.line 0; world = world })
  poke-none value is = ap (λ (flat : Option ℕ). poke_at (container_at world number) flat value world) (flat_in world number place kept f None is)

-- where an instruction stands in main
module _ (object : Object) (stand : Stand) (stack slots : List ℤ) (store : List (Option Kept)) (world : World) (mirrors : Mirrors store world) where
  pub item-goes : (container places base : ℕ) (next : Stand) (after : List ℤ) (kept : Kept) (value : ℤ) → base + places ≡ stand.top → stand.top ≤ length stack
      → kept_at store container ≡ Some kept → element_of kept (take places (drop base stack)) ≡ Some value
      → next.at ≡ suc stand.at → values_in after next.top ≡ value ∷ values_in stack base
      → Does object (instr.Item container places) (point_at stand stack slots world) (lead.Goes next) after slots store
  item-goes container places base next after kept value tall inside is element at values =
      let f = found-in store world container kept mirrors is in
      let place = take places (drop base stack) in
      let got = read-some world container place kept f value element in
      let now = told (Read f.container.number got.0) world in (
        now,
        many-in places base stand.top stack (λ place rest. returning (point_at stand stack slots world) rest (read container place world)) tall inside
            ∙ ap (returning (point_at stand stack slots world) (values_in stack base)) got.1
            ∙ goes-to stand next stack after slots (value ∷ values_in stack base) world now at values,
        mirrors,
        stays_told world now refl refl refl refl,
      )

  pub item-traps : (container places base : ℕ) (kept : Kept) → base + places ≡ stand.top → stand.top ≤ length stack
      → kept_at store container ≡ Some kept → element_of kept (take places (drop base stack)) ≡ None
      → (after : List ℤ) → Does object (instr.Item container places) (point_at stand stack slots world) (lead.Traps Index 0) after slots store
  item-traps container places base kept tall inside is element after =
      let f = found-in store world container kept mirrors is in (
        record { ending = Trapped Index world.line 0; world = world },
        many-in places base stand.top stack (λ place rest. returning (point_at stand stack slots world) rest (read container place world)) tall inside
            ∙ ap (returning (point_at stand stack slots world) (values_in stack base)) (read-none world container (take places (drop base stack)) kept f element),
        refl,
        refl,
      )

  -- a size is pushed
  pub size-goes : (container : ℕ) (method : List ℕ) (next : Stand) (after : List ℤ) (kept : Kept) (value : ℕ)
      → kept_at store container ≡ Some kept → value ≡ named (codes "size" ∷ size_methods kept.sizes) (cells_of kept.sizes ∷ kept.sizes) method
      → next.at ≡ suc stand.at → values_in after next.top ≡ pos value ∷ values_in stack stand.top
      → Does object (instr.Size container method) (point_at stand stack slots world) (lead.Goes next) after slots store
  size-goes container method next after kept value is size_is at values =
      let f = found-in store world container kept mirrors is in
      let point = point_at stand stack slots world in (
        world,
        ap (λ (c : Container). going {F = Over} point (size_of c method ∷ values_in stack stand.top)) f.at_is
            ∙ ap (λ (k : Kept). going {F = Over} point (pos (named (codes "size" ∷ size_methods k.sizes) (cells_of k.sizes ∷ k.sizes) method) ∷ values_in stack stand.top)) f.kept_is
            ∙ ap (λ (n : ℕ). going {F = Over} point (pos n ∷ values_in stack stand.top)) (sym size_is)
            ∙ goes-to stand next stack after slots (pos value ∷ values_in stack stand.top) world world at values,
        mirrors,
        stays_told world world refl refl refl refl,
      )

  -- a value is written at a place
  abbrev poked_with : (container places : ℕ) → List ℤ → List ℤ → MainNext
  poked_with container places values rest = going_in (point_at stand stack slots world) rest (poke container (take places values) (last_of places values) world)

  pub poke-goes : (container places base : ℕ) (next : Stand) (store_after : List (Option Kept)) (kept : Kept) (place : List ℤ) (value : ℤ) (index : ℕ)
      → base + suc places ≡ stand.top → stand.top ≤ length stack → container < length store
      → kept_at store container ≡ Some kept → take places (take (suc places) (drop base stack)) ≡ place → last_of places (take (suc places) (drop base stack)) ≡ value
      → flat_of kept.sizes place ≡ Some index → store_after ≡ slice_set store container (Some (with_cell kept index value))
      → next.at ≡ suc stand.at → next.top ≡ base
      → Does object (instr.Poke container places) (point_at stand stack slots world) (lead.Goes next) stack slots store_after
  poke-goes container places base next store_after kept place value index tall inside within is place_is value_is flat set_is at top =
      let f = found-in store world container kept mirrors is in
      let point = point_at stand stack slots world in
      let one : Container = record f.container { cells = set f.container.cells index (wrapped f.container.ty value) } in
      let now = told (Poked f.container.number index (wrapped f.container.ty value)) (putting one world) in
      let same : kept_of one ≡ with_cell kept index value = ap (λ (k : Kept). with_cell k index value) f.kept_is in (
        now,
        many-in (suc places) base stand.top stack (poked_with container places) tall inside
            ∙ ap (λ (xs : List ℤ). going_in point (values_in stack base) (poke container xs (last_of places (take (suc places) (drop base stack))) world)) place_is
            ∙ ap (λ (x : ℤ). going_in point (values_in stack base) (poke container place x world)) value_is
            ∙ ap (going_in point (values_in stack base)) (poke-some world container place kept f value index flat)
            ∙ goes-to stand next stack stack slots (values_in stack base) world now at (ap (λ (n : ℕ). values_in stack n) top),
        subst (λ (s : List (Option Kept)). Mirrors s (putting one world))
            (ap (λ (k : Kept). slice_set store container (Some k)) same ∙ sym set_is)
            (mirrors_put store world one container mirrors f.number_is within),
        stays_told world now refl refl refl refl,
      )

  pub poke-traps : (container places base : ℕ) (kept : Kept) (place : List ℤ) → base + suc places ≡ stand.top → stand.top ≤ length stack
      → kept_at store container ≡ Some kept → take places (take (suc places) (drop base stack)) ≡ place → flat_of kept.sizes place ≡ None
      → (store_after : List (Option Kept)) → Does object (instr.Poke container places) (point_at stand stack slots world) (lead.Traps Index 0) stack slots store_after
  poke-traps container places base kept place tall inside is place_is flat store_after =
      let f = found-in store world container kept mirrors is in
      let point = point_at stand stack slots world in
      let value = last_of places (take (suc places) (drop base stack)) in (
        record { ending = Trapped Index world.line 0; world = world },
        many-in (suc places) base stand.top stack (poked_with container places) tall inside
            ∙ ap (λ (xs : List ℤ). going_in point (values_in stack base) (poke container xs value world)) place_is
            ∙ ap (going_in point (values_in stack base)) (poke-none world container place kept f value flat),
        refl,
        refl,
      )

  -- a container goes
  pub end-goes : (container : ℕ) (next : Stand) (store_after : List (Option Kept)) → container < length store → store_after ≡ slice_set store container None
      → next.at ≡ suc stand.at → next.top ≡ stand.top
      → Does object (instr.Drop container) (point_at stand stack slots world) (lead.Goes next) stack slots store_after
  end-goes container next store_after within set_is at top =
      let now = drop_container container world in (
        now,
        goes-to stand next stack stack slots (values_in stack stand.top) world now at (ap (λ (n : ℕ). values_in stack n) top),
        subst (λ (s : List (Option Kept)). Mirrors s now) (sym set_is) (mirrors_drop store world container mirrors within),
        stays_told world now refl refl refl refl,
      )

  -- a container is made
  abbrev made_with : (container : ℕ) (declared : Declared) (ty : Ty) (sizes : ℕ) → List ℤ → List ℤ → MainNext
  made_with container declared ty sizes values rest =
      going_in (point_at stand stack slots world) rest (make container declared.name ty (take sizes values) (last_of sizes values) world)

  make-next : (container kind : ℕ) (ty : Ty) (sizes base : ℕ) (declared : Declared) (values : List ℤ) (fill : ℤ) → base + suc sizes ≡ stand.top → stand.top ≤ length stack
      → slice_get object.containers container ≡ Some declared
      → take sizes (take (suc sizes) (drop base stack)) ≡ values → last_of sizes (take (suc sizes) (drop base stack)) ≡ fill
      → next_in_main object (instr.Make container kind ty sizes) (point_at stand stack slots world)
      ≡ going_in (point_at stand stack slots world) (values_in stack base) (make container declared.name ty values fill world)
  make-next container kind ty sizes base declared values fill tall inside is values_is fill_is =
      let point = point_at stand stack slots world in
      ap (λ (found : Option Declared). elim found [
        | Some declared ↦ with_many (suc sizes) point.stack (made_with container declared ty sizes)
        | None ↦ Stuck
      ]) is
      ∙ many-in (suc sizes) base stand.top stack (made_with container declared ty sizes) tall inside
      ∙ ap (λ (xs : List ℤ). going_in point (values_in stack base) (make container declared.name ty xs (last_of sizes (take (suc sizes) (drop base stack))) world)) values_is
      ∙ ap (λ (x : ℤ). going_in point (values_in stack base) (make container declared.name ty values x world)) fill_is

  -- the making of a container, by the shape that was found
  abbrev making : (number : ℕ) (name : List ℕ) (ty : Ty) (fill : ℤ) → Option (List ℕ) → Result World Over
  making number name ty fill found = elim found [
    | None ↦ Err (record { ending = Trapped Shape world.line 0; world = world })
    | Some shape ↦ Ok (told (Made number shape (wrapped ty fill))
        (putting (record { number = number; name = name; ty = ty; sizes = shape; cells = replicate (cells_of shape) (wrapped ty fill) }) world))
  ]

  pub make-goes : (container kind : ℕ) (ty : Ty) (sizes base : ℕ) (declared : Declared) (values : List ℤ) (fill : ℤ) (next : Stand) (kept : Kept) (store_after : List (Option Kept))
      → base + suc sizes ≡ stand.top → stand.top ≤ length stack → container < length store
      → slice_get object.containers container ≡ Some declared
      → take sizes (take (suc sizes) (drop base stack)) ≡ values → last_of sizes (take (suc sizes) (drop base stack)) ≡ fill
      → made_of ty values fill ≡ Some kept → store_after ≡ slice_set store container (Some kept)
      → next.at ≡ suc stand.at → next.top ≡ base
      → Does object (instr.Make container kind ty sizes) (point_at stand stack slots world) (lead.Goes next) stack slots store_after
  make-goes container kind ty sizes base declared values fill next kept store_after tall inside within is values_is fill_is made set_is at top =
      by (shape_of values) refl made
    where
      by : (found : Option (List ℕ)) → shape_of values ≡ found
          → option_map {U = Kept} (λ shape. record { ty = ty; sizes = shape; cells = replicate (cells_of shape) (wrapped ty fill) }) found ≡ Some kept
          → Does object (instr.Make container kind ty sizes) (point_at stand stack slots world) (lead.Goes next) stack slots store_after
      by None shape made = cc
      by (Some shape) is_shape made =
          let one : Container = record { number = container; name = declared.name; ty = ty; sizes = shape; cells = replicate (cells_of shape) (wrapped ty fill) } in
          let now = told (Made container shape (wrapped ty fill)) (putting one world) in (
            now,
            make-next container kind ty sizes base declared values fill tall inside is values_is fill_is
                ∙ ap (λ (found : Option (List ℕ)). going_in (point_at stand stack slots world) (values_in stack base) (making container declared.name ty fill found)) is_shape
                ∙ goes-to stand next stack stack slots (values_in stack base) world now at (ap (λ (n : ℕ). values_in stack n) top),
            subst (λ (s : List (Option Kept)). Mirrors s (putting one world))
                (ap (λ (k : Kept). slice_set store container (Some k)) (same_Some (kept_of one) kept made) ∙ sym set_is)
                (mirrors_put store world one container mirrors refl within),
            stays_told world now refl refl refl refl,
          )

  pub make-traps : (container kind : ℕ) (ty : Ty) (sizes base : ℕ) (declared : Declared) (values : List ℤ) (fill : ℤ)
      → base + suc sizes ≡ stand.top → stand.top ≤ length stack
      → slice_get object.containers container ≡ Some declared
      → take sizes (take (suc sizes) (drop base stack)) ≡ values → last_of sizes (take (suc sizes) (drop base stack)) ≡ fill
      → made_of ty values fill ≡ None
      → (store_after : List (Option Kept)) → Does object (instr.Make container kind ty sizes) (point_at stand stack slots world) (lead.Traps Shape 0) stack slots store_after
  make-traps container kind ty sizes base declared values fill tall inside is values_is fill_is made store_after =
      by (shape_of values) refl made
    where
      by : (found : Option (List ℕ)) → shape_of values ≡ found
          → option_map {U = Kept} (λ shape. record { ty = ty; sizes = shape; cells = replicate (cells_of shape) (wrapped ty fill) }) found ≡ None
          → Does object (instr.Make container kind ty sizes) (point_at stand stack slots world) (lead.Traps Shape 0) stack slots store_after
      by None is_shape made = (
        record { ending = Trapped Shape world.line 0; world = world },
        make-next container kind ty sizes base declared values fill tall inside is values_is fill_is
            ∙ ap (λ (found : Option (List ℕ)). going_in (point_at stand stack slots world) (values_in stack base) (making container declared.name ty fill found)) is_shape,
        refl,
        refl,
      )
      by (Some shape) is_shape made = cc

-- the first so many of one more
pub front-of : (n : ℕ) (xs : List ℤ) → take n (take (suc n) xs) ≡ take n xs
front-of zero xs = refl
front-of (suc n) [] = refl
front-of (suc n) (x ∷ xs) = ap (λ (ys : List ℤ). x ∷ ys) (front-of n xs)

-- the last of one more
pub last-of : (n : ℕ) (xs : List ℤ) → last_of n (take (suc n) xs) ≡ slice_index_or xs n (pos 0)
last-of zero [] = refl
last-of zero (x ∷ xs) = refl
last-of (suc n) [] = refl
last-of (suc n) (x ∷ xs) = last-of n xs

-- what a statement with one value above others finds in the buffer
pub front-in : (n base : ℕ) (stack : List ℤ) (count : ℕ) → n ≡ count → take n (take (suc n) (drop base stack)) ≡ take count (drop base stack)
front-in n base stack count is = front-of n (drop base stack) ∙ ap (λ (k : ℕ). take k (drop base stack)) is

pub last-in : (n base top : ℕ) (stack : List ℤ) → base + n ≡ top → last_of n (take (suc n) (drop base stack)) ≡ slice_index_or stack top (pos 0)
last-in n base top stack is =
    last-of n (drop base stack) ∙ get_or-drop base stack n (pos 0) ∙ ap (λ (k : ℕ). slice_index_or stack k (pos 0)) is

-- a container is declared
pub declared-at : (object : Object) (container : ℕ) → IsSome (slice_get object.containers container)
    → (declared : Declared) × (slice_get object.containers container ≡ Some declared)
declared-at object container there = by (slice_get object.containers container) refl there
  where
    by : (found : Option Declared) → slice_get object.containers container ≡ found → IsSome found
        → (declared : Declared) × (slice_get object.containers container ≡ Some declared)
    by None e some = cc
    by (Some declared) e some = (declared, e)

-- a container that is kept
pub kept-there : (store : List (Option Kept)) (container : ℕ) → IsSome (kept_at store container) → (kept : Kept) × (kept_at store container ≡ Some kept)
kept-there store container there = by (kept_at store container) refl there
  where
    by : (found : Option Kept) → kept_at store container ≡ found → IsSome found → (kept : Kept) × (kept_at store container ≡ Some kept)
    by None e some = cc
    by (Some kept) e some = (kept, e)

pub kept-within : (store : List (Option Kept)) (container : ℕ) → IsSome (kept_at store container) → container < length store
kept-within [] container there = cc
kept-within (one ∷ store) zero there = omega arith
kept-within (one ∷ store) (suc container) there = let h = kept-within store container there in omega arith
