-- The arguments that a function is given at a place suit its parameters.
use Rattle.std.proofs.Common.{◌≡◌, ℕ, zero, suc, ◌+◌, ◌*◌, ◌/◌, ◌%◌, ◌^◌, ◌<◌, ◌≤◌, Bool, true, false, nat_le, if◌then◌else◌, List, [], ◌∷◌, ◌++◌, length, map, take, All, ℤ, pos, Option, Some, None, IfSome, option_map, Ok, Err, slice_get, slice_index_or, unwrap_or, arith, ap, sym, refl, subst, ◌∙◌, div-lt_iff_lt-mul, mod-lt}
use Rattle.std.proofs.lemmas.Bool.{and_parts, leb-true}
use Rattle.std.proofs.lemmas.List.{length_push}
use Rattle.std.proofs.lemmas.List.Elements.{All-cons, All-nil, All-push}
use Rattle.std.proofs.lemmas.Option.{same_Some, slice_get-map}
use Rattle.std.specs.List.{list_any}
use Rattle.sk_arguments.specs.Arguments.{At, Given, Reading, arguments_after, element_index, first_cells, neighbour, operand_kinds, padded, place_of, reach_of, shape_of, uniform_types}
use Rattle.sk_arguments.specs.Places.{are_near, coordinates_of, neighbour_of}
use Rattle.sk_base.specs.Arithmetic.{InRange}
use Rattle.sk_base.specs.Shape.{IsShape, cells_of}
use Rattle.sk_base.specs.declared.number.Trap.TheVariants.{Index as OutOfRange}
use Rattle.sk_base.specs.declared.number.Ty.{Ty}
use Rattle.sk_base.specs.declared.number.Ty.TheVariants.{Int}
use Rattle.sk_isa.specs.Soundness.{IsOfType, SuitParams, SuitsParam, is_dimension}
use Rattle.sk_call_shapes.specs.CallShapes.{Wanted, wanted_whole, wanting}
use Rattle.sk_main_laws.proofs.CallWorlds.{wanted_cell}
use Rattle.sk_main_laws.specs.Calls.{AreAsWanted}
use Rattle.sk_meaning.specs.Evaluation.{Place}
use Rattle.sk_tree.specs.Parameters.{are_ordered, index_dimension, is_region, leading_scalars, proxies_then_scalars, region_of, scalar_types, scalars_only, scalars_then_proxies}
use Rattle.sk_tree.specs.declared.settings.Settings.{Settings}
use Rattle.sk_tree.specs.declared.tree.ParamKind.{ParamKind}
use Rattle.sk_tree.specs.declared.tree.ParamKind.TheVariants.{Scalar, Index, Proxy, Region}
use Rattle.sk_world.specs.Calls.{cell_of}
use Rattle.sk_world.specs.InstanceSettings.{overlap_limit}
use Rattle.sk_world.specs.World.{Container}

-- the overlaps of a region
pub reach_suits : (dimension : ℕ) (settings : Settings) → is_dimension 2 dimension ≡ true → settings.overlap.0 ≤ overlap_limit → settings.overlap.1 ≤ overlap_limit
    → (length (reach_of dimension settings) ≡ dimension) × All (λ overlap. overlap ≤ 65536) (reach_of dimension settings)
reach_suits zero settings e rows columns = absurd (none (leb-true 1 0 (and_parts (nat_le 1 0) (nat_le 0 2) e).0))
  where
    none : 1 ≤ 0 → ⊥
    none h = omega arith
reach_suits (suc zero) settings e rows columns =
    (omega arith, All-cons (λ overlap. overlap ≤ 65536) settings.overlap.0 [] rows (All-nil (λ overlap. overlap ≤ 65536)))
reach_suits (suc (suc n)) settings e rows columns = (
  two n (leb-true (suc (suc n)) 2 (and_parts (nat_le 1 (suc (suc n))) (nat_le (suc (suc n)) 2) e).1),
  All-cons (λ overlap. overlap ≤ 65536) settings.overlap.0 (settings.overlap.1 ∷ []) rows
      (All-cons (λ overlap. overlap ≤ 65536) settings.overlap.1 [] columns (All-nil (λ overlap. overlap ≤ 65536))),
)
  where
    two : (n : ℕ) → suc (suc n) ≤ 2 → length (settings.overlap.0 ∷ settings.overlap.1 ∷ []) ≡ suc (suc n)
    two n h = omega arith

-- all cells of a container
first_cells-fit : (ty : Ty) (cells : ℕ → ℤ) (count : ℕ) → ((index : ℕ) → InRange ty (cells index))
    → (length (first_cells cells count) ≡ count) × All (InRange ty) (first_cells cells count)
first_cells-fit ty cells zero fits = (refl, All-nil (InRange ty))
first_cells-fit ty cells (suc count) fits = more (first_cells-fit ty cells count fits)
  where
    longer : (n m : ℕ) → n ≡ count → m ≡ n + 1 → m ≡ suc count
    longer n m e f = omega arith

    more : (length (first_cells cells count) ≡ count) × All (InRange ty) (first_cells cells count)
        → (length (first_cells cells (suc count)) ≡ suc count) × All (InRange ty) (first_cells cells (suc count))
    more h = (
      longer (length (first_cells cells count)) (length (first_cells cells count ++ cells count ∷ [])) h.0 (length_push (first_cells cells count) (cells count)),
      All-push (InRange ty) (first_cells cells count) (cells count) h.1 (fits count),
    )

-- data in which each operand, the pad value and the place suit the parameters
module _ (reading : Reading) (given : Given) (at : At) (rows : reading.settings.overlap.0 ≤ overlap_limit) (columns : reading.settings.overlap.1 ≤ overlap_limit) where
  abbrev pub SuitsOperand : ParamKind → (operand : ℕ) → Type 0
  SuitsOperand (Scalar ty) operand = (index : ℕ) → InRange ty (given.cells operand index)
  SuitsOperand (Index dimension) operand = Unit {0}
  SuitsOperand (Proxy dimension ty) operand =
      ((index : ℕ) → InRange ty (given.cells operand index)) × IsShape (shape_of given operand) × (length (shape_of given operand) ≡ dimension)
  SuitsOperand (Region dimension ty) operand = (index : ℕ) → InRange ty (given.cells operand index)

  abbrev pub SuitsPlace : ParamKind → Type 0
  SuitsPlace (Scalar ty) = Unit {0}
  SuitsPlace (Index dimension) = SuitsParam (Index dimension) (Place (place_of reading given at))
  SuitsPlace (Proxy dimension ty) = Unit {0}
  SuitsPlace (Region dimension ty) = InRange ty reading.settings.pad × (is_dimension 2 dimension ≡ true)

  region_suits : (dimension operand : ℕ) (ty : Ty) → InRange ty reading.settings.pad → ((index : ℕ) → InRange ty (given.cells operand index)) → (overlaps : List ℕ)
      → (distances : List ℤ) → IsOfType ty (neighbour reading.settings given operand at.place overlaps distances)
  region_suits dimension operand ty pad cells overlaps distances = by (are_near overlaps distances)
    where
      found : (coordinates : Option (List ℕ)) → InRange ty (padded given operand reading.settings.pad coordinates)
      found None = pad
      found (Some coordinates) = cells _

      by : (near : Bool) → IsOfType ty (if near then
          Ok (padded given operand reading.settings.pad
          (neighbour_of reading.settings.edge (shape_of given operand) (coordinates_of (shape_of given operand) at.place) distances))
          else Err OutOfRange)
      by true = found (neighbour_of reading.settings.edge (shape_of given operand) (coordinates_of (shape_of given operand) at.place) distances)
      by false = tt

  none_more : (n : ℕ) → n + 0 ≡ n
  none_more n = omega arith

  one_more : (n k : ℕ) → n + suc k ≡ suc n + k
  one_more n k = omega arith

  pub arguments_suit : (elements operand uniform : ℕ) (kinds : List ParamKind)
      → ((k : ℕ) (kind : ParamKind) → slice_get kinds k ≡ Some kind → SuitsPlace kind)
      → ((k : ℕ) (kind : ParamKind) → slice_get (operand_kinds elements kinds) k ≡ Some kind → SuitsOperand kind (operand + k))
      → ((k : ℕ) (ty : Ty) → slice_get (uniform_types elements kinds) k ≡ Some ty → InRange ty (slice_index_or given.uniforms (uniform + k) (pos 0)))
      → SuitParams kinds (arguments_after reading given at (record { elements = elements; operands = operand; uniforms = uniform }) kinds)
  arguments_suit elements operand uniform [] places operands uniforms = tt
  arguments_suit elements operand uniform (Index dimension ∷ kinds) places operands uniforms =
      (places 0 (Index dimension) refl, arguments_suit elements operand uniform kinds (λ k kind e. places (suc k) kind e) operands uniforms)
  arguments_suit zero operand uniform (Scalar ty ∷ kinds) places operands uniforms = (
    subst (λ (n : ℕ). InRange ty (slice_index_or given.uniforms n (pos 0))) (none_more uniform) (uniforms 0 ty refl),
    arguments_suit zero operand (suc uniform) kinds (λ k kind e. places (suc k) kind e) operands
        (λ k own e. subst (λ (n : ℕ). InRange own (slice_index_or given.uniforms n (pos 0))) (one_more uniform k) (uniforms (suc k) own e)),
  )
  arguments_suit (suc elements) operand uniform (Scalar ty ∷ kinds) places operands uniforms = (
    subst (λ (n : ℕ). SuitsOperand (Scalar ty) n) (none_more operand) (operands 0 (Scalar ty) refl) (element_index reading at operand),
    arguments_suit elements (suc operand) uniform kinds (λ k kind e. places (suc k) kind e)
        (λ k kind e. subst (λ (n : ℕ). SuitsOperand kind n) (one_more operand k) (operands (suc k) kind e)) uniforms,
  )
  arguments_suit elements operand uniform (Proxy dimension ty ∷ kinds) places operands uniforms =
      let own : SuitsOperand (Proxy dimension ty) operand =
      subst (λ (n : ℕ). SuitsOperand (Proxy dimension ty) n) (none_more operand) (operands 0 (Proxy dimension ty) refl) in
      let all = first_cells-fit ty (given.cells operand) (cells_of (shape_of given operand)) own.0 in (
        (own.2, own.1, all.0, all.1),
        arguments_suit elements (suc operand) uniform kinds (λ k kind e. places (suc k) kind e)
            (λ k kind e. subst (λ (n : ℕ). SuitsOperand kind n) (one_more operand k) (operands (suc k) kind e)) uniforms,
      )
  arguments_suit elements operand uniform (Region dimension ty ∷ kinds) places operands uniforms =
      let own : SuitsOperand (Region dimension ty) operand =
      subst (λ (n : ℕ). SuitsOperand (Region dimension ty) n) (none_more operand) (operands 0 (Region dimension ty) refl) in
      let place = places 0 (Region dimension ty) refl in
      let reach = reach_suits dimension reading.settings place.1 rows columns in (
        (reach.0, reach.1, region_suits dimension operand ty place.0 own (reach_of dimension reading.settings)),
        arguments_suit elements (suc operand) uniform kinds (λ k kind e. places (suc k) kind e)
            (λ k kind e. subst (λ (n : ℕ). SuitsOperand kind n) (one_more operand k) (operands (suc k) kind e)) uniforms,
      )

-- the operands are wanted in the order of their parameters
abbrev pub wanted_for : (common : ℕ) → ParamKind → Wanted
wanted_for common (Scalar ty) = wanting common ty
wanted_for common (Index dimension) = wanting dimension Int
wanted_for common (Proxy dimension ty) = wanting dimension ty
wanted_for common (Region dimension ty) = wanting dimension ty

wanted_shape : (wanted : List Wanted) (containers : List Container) (k : ℕ) (one : Wanted) → AreAsWanted wanted containers → slice_get wanted k ≡ Some one
    → IsShape (unwrap_or (slice_get (map (λ (c : Container). c.sizes) containers) k) [])
    × IfSome one.kind (λ kind. length (unwrap_or (slice_get (map (λ (c : Container). c.sizes) containers) k) []) ≡ kind)
wanted_shape [] containers k one h e = cc
wanted_shape (wanted ∷ more) [] k one h e = absurd h
wanted_shape (wanted ∷ more) (container ∷ containers) zero one h e =
    (h.0.shape, subst (λ (w : Wanted). IfSome w.kind (λ kind. length container.sizes ≡ kind)) (same_Some wanted one e) h.0.kind)
wanted_shape (wanted ∷ more) (container ∷ containers) (suc k) one h e = wanted_shape more containers k one h.1 e

pub operand_suits : (reading : Reading) (given : Given) (at : At) (rows : reading.settings.overlap.0 ≤ overlap_limit) (columns : reading.settings.overlap.1 ≤ overlap_limit)
    (containers : List Container) → given.cells ≡ cell_of containers → given.shapes ≡ map (λ (c : Container). c.sizes) containers
    → (common : ℕ) (kinds : List ParamKind) → AreAsWanted (map (wanted_for common) kinds) containers
    → (k : ℕ) (kind : ParamKind) → slice_get kinds k ≡ Some kind → SuitsOperand reading given at rows columns kind k
operand_suits reading given at rows columns containers cells shapes common kinds are k kind e =
    by kind (slice_get-map (wanted_for common) kinds k ∙ ap (option_map (wanted_for common)) e)
  where
    wanted : List Wanted
    wanted = map (wanted_for common) kinds

    cell : (one : Wanted) → slice_get wanted k ≡ Some one → (index : ℕ) → InRange one.ty (given.cells k index)
    cell one is index = subst (λ (f : ℕ → ℕ → ℤ). InRange one.ty (f k index)) (sym cells) (wanted_cell wanted containers k one index are is)

    by : (kind : ParamKind) → slice_get wanted k ≡ Some (wanted_for common kind) → SuitsOperand reading given at rows columns kind k
    by (Scalar ty) is = cell (wanting common ty) is
    by (Index dimension) is = tt
    by (Proxy dimension ty) is =
        let shape = wanted_shape wanted containers k (wanting dimension ty) are is in (
          cell (wanting dimension ty) is,
          subst (λ (l : List (List ℕ)). IsShape (unwrap_or (slice_get l k) [])) (sym shapes) shape.0,
          subst (λ (l : List (List ℕ)). length (unwrap_or (slice_get l k) []) ≡ dimension) (sym shapes) shape.1,
        )
    by (Region dimension ty) is = cell (wanting dimension ty) is

-- elements that are scalars, and then the containers that are given whole
pub whole_alone : (common : ℕ) (kinds : List ParamKind) → list_any is_region kinds ≡ false → map (wanted_for common) (operand_kinds 0 kinds) ≡ wanted_whole kinds
whole_alone common [] none = refl
whole_alone common (Index dimension ∷ kinds) none = whole_alone common kinds none
whole_alone common (Scalar ty ∷ kinds) none = whole_alone common kinds none
whole_alone common (Proxy dimension ty ∷ kinds) none = ap (λ (l : List Wanted). wanting dimension ty ∷ l) (whole_alone common kinds none)
whole_alone common (Region dimension ty ∷ kinds) none = cc

pub wanted_in_order : (common elements : ℕ) (kinds : List ParamKind) → elements ≤ leading_scalars kinds → list_any is_region kinds ≡ false
    → map (wanted_for common) (operand_kinds elements kinds) ≡ map (wanting common) (take elements (scalar_types kinds)) ++ wanted_whole kinds
wanted_in_order common zero kinds upto none = whole_alone common kinds none
wanted_in_order common (suc elements) [] upto none = absurd (omega arith)
wanted_in_order common (suc elements) (Index dimension ∷ kinds) upto none = wanted_in_order common (suc elements) kinds upto none
wanted_in_order common (suc elements) (Scalar ty ∷ kinds) upto none =
    ap (λ (l : List Wanted). wanting common ty ∷ l) (wanted_in_order common elements kinds (omega arith) none)
wanted_in_order common (suc elements) (Proxy dimension ty ∷ kinds) upto none = absurd (omega arith)
wanted_in_order common (suc elements) (Region dimension ty ∷ kinds) upto none = cc

-- the index stands first, and the region first or behind it
abbrev IsPlain : ParamKind → Type 0
IsPlain (Scalar ty) = Unit {0}
IsPlain (Index dimension) = ⊥
IsPlain (Proxy dimension ty) = Unit {0}
IsPlain (Region dimension ty) = ⊥

at_first : (P : ParamKind → Type 0) (first kind : ParamKind) → Some first ≡ Some kind → P first → P kind
at_first P first kind e h = subst P (same_Some first kind e) h

scalars_plain : (kinds : List ParamKind) → scalars_only kinds ≡ true → (k : ℕ) (kind : ParamKind) → slice_get kinds k ≡ Some kind → IsPlain kind
scalars_plain [] ordered k kind e = cc
scalars_plain (Scalar ty ∷ kinds) ordered zero kind e = at_first IsPlain (Scalar ty) kind e tt
scalars_plain (Scalar ty ∷ kinds) ordered (suc k) kind e = scalars_plain kinds ordered k kind e
scalars_plain (Index other ∷ kinds) ordered k kind e = cc
scalars_plain (Proxy other ty ∷ kinds) ordered k kind e = cc
scalars_plain (Region other ty ∷ kinds) ordered k kind e = cc

proxies_plain : (kinds : List ParamKind) → proxies_then_scalars kinds ≡ true → (k : ℕ) (kind : ParamKind) → slice_get kinds k ≡ Some kind → IsPlain kind
proxies_plain [] ordered k kind e = cc
proxies_plain (Proxy dimension ty ∷ kinds) ordered zero kind e = at_first IsPlain (Proxy dimension ty) kind e tt
proxies_plain (Proxy dimension ty ∷ kinds) ordered (suc k) kind e = proxies_plain kinds ordered k kind e
proxies_plain (Scalar ty ∷ kinds) ordered k kind e = scalars_plain (Scalar ty ∷ kinds) ordered k kind e
proxies_plain (Index other ∷ kinds) ordered k kind e = cc
proxies_plain (Region other ty ∷ kinds) ordered k kind e = cc

both_plain : (kinds : List ParamKind) → scalars_then_proxies kinds ≡ true → (k : ℕ) (kind : ParamKind) → slice_get kinds k ≡ Some kind → IsPlain kind
both_plain [] ordered k kind e = cc
both_plain (Scalar ty ∷ kinds) ordered zero kind e = at_first IsPlain (Scalar ty) kind e tt
both_plain (Scalar ty ∷ kinds) ordered (suc k) kind e = both_plain kinds ordered k kind e
both_plain (Proxy dimension ty ∷ kinds) ordered k kind e = proxies_plain (Proxy dimension ty ∷ kinds) ordered k kind e
both_plain (Index other ∷ kinds) ordered k kind e = cc
both_plain (Region other ty ∷ kinds) ordered k kind e = cc

-- what is known of a parameter by its kind
abbrev pub IsPlaced : (kinds : List ParamKind) → ParamKind → Type 0
IsPlaced kinds (Scalar ty) = Unit {0}
IsPlaced kinds (Index dimension) = index_dimension kinds ≡ Some dimension
IsPlaced kinds (Proxy dimension ty) = Unit {0}
IsPlaced kinds (Region dimension ty) = region_of kinds ≡ Some (dimension, ty)

plain_placed : (kinds : List ParamKind) (kind : ParamKind) → IsPlain kind → IsPlaced kinds kind
plain_placed kinds (Scalar ty) h = tt
plain_placed kinds (Index dimension) h = absurd h
plain_placed kinds (Proxy dimension ty) h = tt
plain_placed kinds (Region dimension ty) h = absurd h

pub placed : (kinds : List ParamKind) → are_ordered kinds ≡ true → (k : ℕ) (kind : ParamKind) → slice_get kinds k ≡ Some kind → IsPlaced kinds kind
placed [] ordered k kind e = cc
placed (Scalar ty ∷ kinds) ordered k kind e = plain_placed (Scalar ty ∷ kinds) kind (both_plain (Scalar ty ∷ kinds) ordered k kind e)
placed (Proxy dimension ty ∷ kinds) ordered k kind e =
    plain_placed (Proxy dimension ty ∷ kinds) kind (both_plain (Proxy dimension ty ∷ kinds) ordered k kind e)
placed (Region dimension ty ∷ kinds) ordered zero kind e = at_first (IsPlaced (Region dimension ty ∷ kinds)) (Region dimension ty) kind e refl
placed (Region dimension ty ∷ kinds) ordered (suc k) kind e = plain_placed (Region dimension ty ∷ kinds) kind (proxies_plain kinds ordered k kind e)
placed (Index dimension ∷ kinds) ordered zero kind e = at_first (IsPlaced (Index dimension ∷ kinds)) (Index dimension) kind e refl
placed (Index dimension ∷ []) ordered (suc k) kind e = cc
placed (Index dimension ∷ Scalar ty ∷ kinds) ordered (suc k) kind e =
    plain_placed (Index dimension ∷ Scalar ty ∷ kinds) kind (both_plain (Scalar ty ∷ kinds) ordered k kind e)
placed (Index dimension ∷ Proxy other ty ∷ kinds) ordered (suc k) kind e =
    plain_placed (Index dimension ∷ Proxy other ty ∷ kinds) kind (both_plain (Proxy other ty ∷ kinds) ordered k kind e)
placed (Index dimension ∷ Index other ∷ kinds) ordered (suc k) kind e = cc
placed (Index dimension ∷ Region other ty ∷ kinds) ordered (suc zero) kind e =
    at_first (IsPlaced (Index dimension ∷ Region other ty ∷ kinds)) (Region other ty) kind e refl
placed (Index dimension ∷ Region other ty ∷ kinds) ordered (suc (suc k)) kind e =
    plain_placed (Index dimension ∷ Region other ty ∷ kinds) kind (proxies_plain kinds ordered k kind e)

-- the operands of a MapOverlap: its region, and the containers that are given whole
scalars_no_region : (kinds : List ParamKind) → scalars_only kinds ≡ true → list_any is_region kinds ≡ false
scalars_no_region [] ordered = refl
scalars_no_region (Scalar ty ∷ kinds) ordered = scalars_no_region kinds ordered
scalars_no_region (Index other ∷ kinds) ordered = cc
scalars_no_region (Proxy other ty ∷ kinds) ordered = cc
scalars_no_region (Region other ty ∷ kinds) ordered = cc

proxies_no_region : (kinds : List ParamKind) → proxies_then_scalars kinds ≡ true → list_any is_region kinds ≡ false
proxies_no_region [] ordered = refl
proxies_no_region (Proxy other ty ∷ kinds) ordered = proxies_no_region kinds ordered
proxies_no_region (Scalar ty ∷ kinds) ordered = scalars_no_region (Scalar ty ∷ kinds) ordered
proxies_no_region (Index other ∷ kinds) ordered = cc
proxies_no_region (Region other ty ∷ kinds) ordered = cc

pub region_in_order : (common : ℕ) (kinds : List ParamKind) (region : ℕ × Ty) → are_ordered kinds ≡ true → region_of kinds ≡ Some region
    → map (wanted_for common) (operand_kinds 0 kinds) ≡ wanting region.0 region.1 ∷ wanted_whole kinds
region_in_order common [] region ordered e = cc
region_in_order common (Scalar ty ∷ kinds) region ordered e = cc
region_in_order common (Proxy dimension ty ∷ kinds) region ordered e = cc
region_in_order common (Region dimension ty ∷ kinds) region ordered e =
    let same : (dimension, ty) ≡ region = same_Some (dimension, ty) region e in
    ap (λ (l : List Wanted). wanting dimension ty ∷ l) (whole_alone common kinds (proxies_no_region kinds ordered))
    ∙ ap (λ (r : ℕ × Ty). wanting r.0 r.1 ∷ wanted_whole kinds) same
region_in_order common (Index other ∷ Region dimension ty ∷ kinds) region ordered e =
    let same : (dimension, ty) ≡ region = same_Some (dimension, ty) region e in
    ap (λ (l : List Wanted). wanting dimension ty ∷ l) (whole_alone common kinds (proxies_no_region kinds ordered))
    ∙ ap (λ (r : ℕ × Ty). wanting r.0 r.1 ∷ wanted_whole kinds) same
region_in_order common (Index other ∷ []) region ordered e = cc
region_in_order common (Index other ∷ Scalar ty ∷ kinds) region ordered e = cc
region_in_order common (Index other ∷ Proxy dimension ty ∷ kinds) region ordered e = cc
region_in_order common (Index other ∷ Index dimension ∷ kinds) region ordered e = cc

-- a place inside of a container has small coordinates
pub coordinates_small : (sizes : List ℕ) (index : ℕ) → All (λ size. size ≤ 2 ^ 24) sizes → index < cells_of sizes
    → (length (coordinates_of sizes index) ≡ length sizes) × All (λ coordinate. coordinate < 2 ^ 24) (coordinates_of sizes index)
coordinates_small [] index small within = (refl, All-nil (λ coordinate. coordinate < 2 ^ 24))
coordinates_small (size ∷ sizes) index small within =
    more (some (cells_of sizes) within) (coordinates_small sizes (index % cells_of sizes) (λ k d less. small (suc k) d (omega arith)) (mod-lt index (some (cells_of sizes) within)))
  where
    some : (cells : ℕ) → index < size * cells → 0 < cells
    some zero h = omega arith
    some (suc n) h = omega arith

    first : (quotient : ℕ) → quotient < size → size ≤ 2 ^ 24 → quotient < 2 ^ 24
    first quotient less upto = omega arith

    more : 0 < cells_of sizes
        → (length (coordinates_of sizes (index % cells_of sizes)) ≡ length sizes) × All (λ coordinate. coordinate < 2 ^ 24) (coordinates_of sizes (index % cells_of sizes))
        → (length (coordinates_of (size ∷ sizes) index) ≡ length (size ∷ sizes)) × All (λ coordinate. coordinate < 2 ^ 24) (coordinates_of (size ∷ sizes) index)
    more positive rest = (
      ap suc rest.0,
      All-cons (λ coordinate. coordinate < 2 ^ 24) (index / cells_of sizes) (coordinates_of sizes (index % cells_of sizes))
          (first (index / cells_of sizes) ((div-lt_iff_lt-mul positive).1 within) (small 0 size (omega arith))) rest.1,
    )
