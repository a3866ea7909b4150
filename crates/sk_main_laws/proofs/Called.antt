-- The calls of a sound object leave fine worlds, by the skeletons of their instances.
use Rattle.std.proofs.Common.{◌≡◌, ℕ, suc, ◌+◌, ◌-◌, ◌*◌, ◌/◌, ◌%◌, ◌^◌, ◌<◌, ◌≤◌, Bool, true, false, not, nat_le, if◌then◌else◌, List, [], ◌∷◌, ◌++◌, length, map, All, ℤ, pos, Option, Some, None, IfSome, is_none, Result, Ok, Err, slice_get, slice_index_or, unwrap_or, arith, sym, refl, subst, ◌∙◌}
use Rattle.std.proofs.lemmas.Bool.{and_parts, eqb-true, leb-true}
use Rattle.std.specs.List.{list_any}
use Rattle.sk_arguments.specs.Arguments.{operand_kinds, uniform_types}
use Rattle.sk_arguments.specs.Operands.{uniforms_taken}
use Rattle.sk_base.specs.Arithmetic.{InRange}
use Rattle.sk_base.specs.Shape.{cells_of}
use Rattle.sk_base.specs.declared.choice.Variant.{Variant}
use Rattle.sk_base.specs.declared.number.Trap.{Trap}
use Rattle.sk_base.specs.declared.number.Ty.{Ty}
use Rattle.sk_formula.specs.Calls.{Sizes, cells_in, cells_outcome, columns_of, element_value, first_operand, number_of, number_outcome, refusal_of, rows_of}
use Rattle.sk_formula.specs.Elements.{at_element, folded, mapped}
use Rattle.sk_formula.specs.Skeletons.{Functions, column_fold, fold_value, pairs_column_fold, pairs_row_fold, row_fold, scan_front, value_at}
use Rattle.sk_isa.specs.Objects.{signature_at}
use Rattle.sk_isa.specs.SoundObjects.{HasSoundFunctions, IsSoundPlan}
use Rattle.sk_isa.specs.Soundness.{IsOfType}
use Rattle.sk_isa.specs.declared.object.Object.{Object}
use Rattle.sk_isa.specs.declared.object.Plan.{Plan}
use Rattle.sk_isa.specs.declared.object.Signature.{Signature}
use Rattle.sk_isa_laws.proofs.Values.{zero-in_range}
use Rattle.sk_call_shapes.specs.CallShapes.{Container as Kinded, Wanted, are_wanted, common_kind, fits, wanted_elements, wanted_whole, wanting}
use Rattle.sk_main_code.specs.MainSoundness.{containers_of}
use Rattle.sk_main_code.specs.MainSteps.{linked_plan}
use Rattle.sk_main_laws.proofs.Arguments.{region_in_order, wanted_for, whole_alone}
use Rattle.sk_main_laws.proofs.CallWorlds.{IsNumber, are_as, converted_fits, filled_call, mapped_cells, number_call, plan_sound, unless_refused, wanted_cell}
use Rattle.sk_main_laws.proofs.Folds.{fold_number, fold_of_type, folded_fits}
use Rattle.sk_main_laws.proofs.Orders.{PairsFit, in_shape, common_is, first_index, in_order, index_is, not_made, not_so, pairs_fit, pairs_in_order, quotient_small, rest_small, types_many}
use Rattle.sk_main_laws.proofs.Skeletons.{cells_small, index_in, join_fits, pair_in, plan_by, value_fits}
use Rattle.sk_main_laws.specs.Calls.{AreAsWanted, HasFineCalls, IsFineCall, given_to_call, wanted_by_call}
use Rattle.sk_main_laws.specs.FineWorlds.{AreInRange, IsFineWorld}
use Rattle.sk_tree.specs.Parameters.{index_dimension, index_fits, is_region, leading_scalars, region_of, scalar_types}
use Rattle.sk_tree.specs.declared.settings.Settings.{Settings}
use Rattle.sk_tree.specs.declared.tree.Skeleton.{Skeleton}
use Rattle.sk_tree.specs.declared.tree.Skeleton.TheVariants.{Map, Reduce, Scan, MapReduce, MapOverlap, MapPairs, MapPairsReduce, Call}
use Rattle.sk_world.specs.Calls.{Instance, call_of, cell_of, converted, functions_of, given_of, operands_in, ran_call, sizes_of}
use Rattle.sk_world.specs.Events.{CallOf}
use Rattle.sk_world.specs.World.{Container, World, container_at, settings_in}

-- a value that is the outcome of a call
value_number : (ty : Ty) (result : Result ℤ Trap) → IsOfType ty result → IsNumber ty (number_outcome (at_element 0 result))
value_number ty (Ok value) fits = fits
value_number ty (Err trap) fits = tt

module _ (object : Object) (sound : HasSoundFunctions object) (number : ℕ) (name : List ℕ) (functions : List ℕ) (elements : ℕ) (variants : List Variant) where
  abbrev first : Signature
  first = signature_at object (slice_index_or functions 0 0)

  abbrev plan_of : Skeleton → Plan
  plan_of = plan_by name functions elements variants

  abbrev instance_of : Skeleton → Instance
  instance_of kind = linked_plan object number (plan_of kind)

  module _ (operands : List ℕ) (uniforms : List ℤ) (live : ℕ → Bool) (world : World) (fine : IsFineWorld object live world) where
    abbrev settings : Settings
    settings = settings_in world number

    abbrev containers : List Container
    containers = operands_in world operands

    -- what is known of a call
    pub record Known (kind : Skeleton) (result : Option ℕ) (given : List Kinded) : Type 0 where
      is_sound : IsSoundPlan object (plan_of kind)
      in_range : AreInRange (instance_of kind) settings
      given_are : containers_of object (given_to_call result operands) ≡ Some given
      fits : fits (wanted_by_call result (plan_of kind) first given) given ≡ true
      live_are : All (λ container. live container ≡ true) (given_to_call result operands)

    -- what is to be shown
    abbrev Leaves : Skeleton → Option ℕ → Type 0
    Leaves kind result = IsFineCall object live world.statements_left first.ret (call_of (instance_of kind) result operands uniforms world)

    abbrev cells_for : Skeleton → List ℤ
    cells_for kind = converted (uniforms_taken kind elements first.params) uniforms

    abbrev target : ℕ → Container
    target result = container_at world result

    abbrev sizes_for : Skeleton → Option Container → Sizes
    sizes_for kind result = sizes_of (instance_of kind) result containers

    abbrev functions_for : Skeleton → Option Container → Functions
    functions_for kind result = functions_of (instance_of kind) settings (given_of (instance_of kind) result containers (cells_for kind))

    abbrev join_for : Skeleton → ℤ → ℤ → Result ℤ Trap
    join_for kind = (instance_of kind).join

    abbrev common_for : List Kinded → ℕ
    common_for given = common_kind first.params given

    abbrev element_for : Skeleton → (result index : ℕ) → Result ℤ Trap
    element_for kind result = element_value kind settings (sizes_for kind (Some (target result))) (functions_for kind (Some (target result)))

    -- how many cells the first operand of a fold to a number has, and its shape where lines are folded
    abbrev count_for : Skeleton → ℕ
    count_for kind = cells_in (sizes_for kind None) 0

    abbrev shape_for : (result : ℕ) → List ℕ
    shape_for result = first_operand (sizes_for Reduce (Some (target result)))

    -- how many elements the second operand of a MapPairs has
    abbrev columns_for : (result : ℕ) → ℕ
    columns_for result = cells_in (sizes_for MapPairs (Some (target result))) 1

    abbrev call_with : Skeleton → CallOf
    call_with kind = record { line = world.line; instance = number; operands = operands; uniforms = cells_for kind }

    -- a call with a result, where each of its elements is of the type
    filled : (kind : Skeleton) (result : ℕ) → live result ≡ true → (target result).ty ≡ first.ret
        → ((index : ℕ) → index < cells_of (target result).sizes
        → IsOfType first.ret (element_for kind result index))
        → Leaves kind (Some result)
    filled kind result is_live ty each =
        unless_refused object live world first.ret (refusal_of kind settings (sizes_for kind (Some (target result))))
        (ran_call (instance_of kind) (call_with kind) settings (Some (target result))
        (cells_outcome (mapped (element_for kind result) 0 (cells_of (target result).sizes))) world) fine
        (filled_call object live world first.ret (instance_of kind) (call_with kind) settings result
        (mapped (element_for kind result) 0 (cells_of (target result).sizes)) fine is_live ty
        (mapped_cells first.ret (element_for kind result) 0 (cells_of (target result).sizes) (λ k less.
        subst (λ (n : ℕ). IsOfType first.ret (element_for kind result n)) (plus k) (each k less))))
      where
        plus : (k : ℕ) → k ≡ 0 + k
        plus k = omega arith

    -- a call that is a number of the type
    numbered : (kind : Skeleton)
        → IsNumber first.ret (number_of kind settings (sizes_for kind None)
        (functions_for kind None))
        → Leaves kind None
    numbered kind fits =
        unless_refused object live world first.ret (refusal_of kind settings (sizes_for kind None))
        (ran_call (instance_of kind) (call_with kind) settings None
        (number_of kind settings (sizes_for kind None)
        (functions_for kind None)) world) fine
        (number_call object live world first.ret (instance_of kind) (call_with kind) settings
        (number_of kind settings (sizes_for kind None)
        (functions_for kind None)) fine fits)

    -- what a call statement is given
    statement_as : (kind : Skeleton) (result : ℕ) (given : List Kinded) (wanted : List Wanted) → Known kind (Some result) given → are_wanted wanted given ≡ true
        → AreAsWanted wanted (target result ∷ containers)
    statement_as kind result given wanted known test = are_as object live world fine (result ∷ operands) given wanted known.given_are known.live_are test

    value_as : (kind : Skeleton) (given : List Kinded) (wanted : List Wanted) → Known kind None given → are_wanted wanted given ≡ true → AreAsWanted wanted containers
    value_as kind given wanted known test = are_as object live world fine operands given wanted known.given_are known.live_are test

    result_live : (kind : Skeleton) (result : ℕ) (given : List Kinded) → Known kind (Some result) given → live result ≡ true
    result_live kind result given known = known.live_are 0 result (omega arith)

    uniforms_fit : (k : ℕ) (ty : Ty) → slice_get (uniform_types elements first.params) k ≡ Some ty
        → InRange ty (slice_index_or (converted (uniform_types elements first.params) uniforms) k (pos 0))
    uniforms_fit k ty e = converted_fits (uniform_types elements first.params) uniforms k ty e

    pub map_so : (result : Option ℕ) (given : List Kinded) → Known Map result given → Leaves Map result
    map_so None given known = not_made known.fits
    map_so (Some result) given known =
        filled Map result (result_live Map result given known) are.0.ty
        (λ index less. value_fits object sound number name functions elements variants Map known.is_sound settings known.in_range
        (Some (target result)) containers (cells_for Map) (common_for given)
        (in_order (common_for given) elements first.params (leb-true elements (leading_scalars first.params) known.is_sound.first.elements) known.is_sound.first.kinds containers are.1)
        uniforms_fit index 0
        (λ dimension is. index_in (target result).sizes dimension index are.0.shape (are.0.kind ∙ common_is first.params given dimension is) less))
      where
        are : AreAsWanted (wanting (common_for given) first.ret ∷ wanted_elements (common_for given) elements first.params ++ wanted_whole first.params) (target result ∷ containers)
        are = statement_as Map result given (wanting (common_for given) first.ret ∷ wanted_elements (common_for given) elements first.params ++ wanted_whole first.params) known known.fits

    pub pairs_so : (result : Option ℕ) (given : List Kinded) → Known MapPairs result given → Leaves MapPairs result
    pairs_so None given known = not_made known.fits
    pairs_so (Some result) given known =
        filled MapPairs result (result_live MapPairs result given known) are.0.ty
        (λ index less. value_fits object sound number name functions elements variants MapPairs known.is_sound settings known.in_range
        (Some (target result)) containers (cells_for MapPairs) 1
        (pairs_in_order elements first.params (eqb-true elements 2 known.is_sound.first.elements) pairs containers are.1) uniforms_fit (index / (columns_for result)) (index % (columns_for result))
        (λ dimension is. pair_in dimension (index / (columns_for result)) (index % (columns_for result)) (index_is first.params dimension 2 is pairs.index)
        (quotient_small index (columns_for result) (2 ^ 24) (small index less))
        (rest_small index (columns_for result) (2 ^ 24) (small index less))))
      where
        are : AreAsWanted (wanting 2 first.ret ∷ wanted_elements 1 2 first.params ++ wanted_whole first.params) (target result ∷ containers)
        are = statement_as MapPairs result given (wanting 2 first.ret ∷ wanted_elements 1 2 first.params ++ wanted_whole first.params) known known.fits

        pairs : PairsFit first.params
        pairs = pairs_fit first.params known.is_sound.first.kinds

        small : (index : ℕ) → index < cells_of (target result).sizes → index < 2 ^ 24
        small index less = in_shape index (target result).sizes are.0.shape less

    pub overlap_so : (result : Option ℕ) (given : List Kinded) → Known MapOverlap result given → Leaves MapOverlap result
    overlap_so None given known = not_made known.fits
    overlap_so (Some result) given known = by (region_of first.params) refl known.fits known.is_sound.first.kinds
      where
        with : (region : ℕ × Ty) → region_of first.params ≡ Some region
            → AreAsWanted (wanting region.0 first.ret ∷ wanting region.0 region.1 ∷ wanted_whole first.params) (target result ∷ containers)
            → index_fits first.params region.0 ≡ true → Leaves MapOverlap (Some result)
        with region is are indexed =
            filled MapOverlap result (result_live MapOverlap result given known) are.0.ty
            (λ index less. value_fits object sound number name functions elements variants MapOverlap known.is_sound settings known.in_range
            (Some (target result)) containers (cells_for MapOverlap) region.0
            (subst (λ (n : ℕ). AreAsWanted (map (wanted_for region.0) (operand_kinds n first.params)) containers)
            (sym (eqb-true elements 0 known.is_sound.first.elements))
            (subst (λ (wanted : List Wanted). AreAsWanted wanted containers) (sym (region_in_order region.0 first.params region known.is_sound.first.ordered is)) are.1))
            uniforms_fit index 0
            (λ dimension found. index_in (target result).sizes dimension index are.0.shape
            (are.0.kind ∙ sym (index_is first.params dimension region.0 found indexed)) less))

        by : (found : Option (ℕ × Ty)) → region_of first.params ≡ found
            → fits (elim found [
              | Some region ↦ Some (wanting region.0 first.ret ∷ wanting region.0 region.1 ∷ wanted_whole first.params)
              | None ↦ None
            ]) given ≡ true
            → elim found [ Some region ↦ index_fits first.params region.0 | None ↦ false ] ≡ true
            → Leaves MapOverlap (Some result)
        by None is test indexed = not_made test
        by (Some region) is test indexed =
            with region is
            (statement_as MapOverlap result given (wanting region.0 first.ret ∷ wanting region.0 region.1 ∷ wanted_whole first.params) known test) indexed

    pub reduce_so : (result : Option ℕ) (given : List Kinded) → Known Reduce result given → Leaves Reduce result
    reduce_so None given known =
        numbered Reduce (fold_number first.ret (folded (join_for Reduce) (λ index. Ok (cell_of containers 0 index)) settings.start 0 ((count_for Reduce) - 0))
        (folded_fits first.ret (join_for Reduce) (join_fits object sound number name functions elements variants Reduce known.is_sound settings known.in_range 0 refl (omega arith))
        (λ index. Ok (cell_of containers 0 index)) settings.start known.in_range.start 0 ((count_for Reduce) - 0)
        (λ k less. wanted_cell (record { kind = None; ty = first.ret } ∷ []) containers 0 (record { kind = None; ty = first.ret }) (0 + k) are refl)))
      where
        are : AreAsWanted (record { kind = None; ty = first.ret } ∷ []) containers
        are = value_as Reduce given (record { kind = None; ty = first.ret } ∷ []) known known.fits
    reduce_so (Some result) given known =
        filled Reduce result (result_live Reduce result given known) are.0.ty (λ index less. by settings.columns index)
      where
        are : AreAsWanted (wanting 1 first.ret ∷ wanting 2 first.ret ∷ []) (target result ∷ containers)
        are = statement_as Reduce result given (wanting 1 first.ret ∷ wanting 2 first.ret ∷ []) known known.fits

        fold_fits : (operand : ℕ → ℕ) (first_place count : ℕ)
            → IsOfType first.ret (fold_value (folded (join_for Reduce) (λ index. Ok (cell_of containers 0 (operand index))) settings.start first_place count))
        fold_fits operand first_place count =
            fold_of_type first.ret (folded (join_for Reduce) (λ index. Ok (cell_of containers 0 (operand index))) settings.start first_place count)
            (folded_fits first.ret (join_for Reduce)
            (join_fits object sound number name functions elements variants Reduce known.is_sound settings known.in_range 0 refl (omega arith))
            (λ index. Ok (cell_of containers 0 (operand index))) settings.start known.in_range.start first_place count
            (λ k less. wanted_cell (wanting 2 first.ret ∷ []) containers 0 (wanting 2 first.ret) (operand (first_place + k)) are.1 refl))

        by : (columns : Bool) (index : ℕ) → IsOfType first.ret ((if columns
            then column_fold (functions_for Reduce (Some (target result))) settings.start (rows_of (shape_for result)) (columns_of (shape_for result))
            else row_fold (functions_for Reduce (Some (target result))) settings.start (columns_of (shape_for result))) index)
        by true index = fold_fits (λ row. row * columns_of (shape_for result) + index) 0 (rows_of (shape_for result))
        by false index = fold_fits (λ place. place) (index * columns_of (shape_for result)) (columns_of (shape_for result))

    pub scan_so : (result : Option ℕ) (given : List Kinded) → Known Scan result given → Leaves Scan result
    scan_so None given known = not_made known.fits
    scan_so (Some result) given known =
        filled Scan result (result_live Scan result given known) are.0.ty
        (λ index less. prefix_fits (front settings.exclusive settings.start known.in_range.start)
        (if settings.exclusive then index - 0 else suc index - 0))
      where
        are : AreAsWanted (wanting 1 first.ret ∷ wanting 1 first.ret ∷ []) (target result ∷ containers)
        are = statement_as Scan result given (wanting 1 first.ret ∷ wanting 1 first.ret ∷ []) known known.fits

        prefix_fits : IfSome (scan_front settings.exclusive settings.start) (InRange first.ret) → (count : ℕ)
            → IsOfType first.ret (fold_value (folded (join_for Scan) (λ index. Ok (cell_of containers 0 index)) (scan_front settings.exclusive settings.start) 0 count))
        prefix_fits starts count =
            fold_of_type first.ret (folded (join_for Scan) (λ index. Ok (cell_of containers 0 index)) (scan_front settings.exclusive settings.start) 0 count)
            (folded_fits first.ret (join_for Scan)
            (join_fits object sound number name functions elements variants Scan known.is_sound settings known.in_range 0 refl (omega arith))
            (λ index. Ok (cell_of containers 0 index)) (scan_front settings.exclusive settings.start) starts 0 count
            (λ k less. wanted_cell (wanting 1 first.ret ∷ []) containers 0 (wanting 1 first.ret) (0 + k) are.1 refl))

        some_or_zero : (start : Option ℤ) → IfSome start (InRange first.ret) → InRange first.ret (unwrap_or start (pos 0))
        some_or_zero None h = zero-in_range first.ret
        some_or_zero (Some value) h = h

        front : (exclusive : Bool) (start : Option ℤ) → IfSome start (InRange first.ret) → IfSome (scan_front exclusive start) (InRange first.ret)
        front true start h = some_or_zero start h
        front false start h = h

    pub pairs_reduce_so : (result : Option ℕ) (given : List Kinded) → Known MapPairsReduce result given → Leaves MapPairsReduce result
    pairs_reduce_so None given known = not_made known.fits
    pairs_reduce_so (Some result) given known =
        filled MapPairsReduce result (result_live MapPairsReduce result given known) are.0.ty (λ index less. by settings.columns index (small index less))
      where
        are : AreAsWanted (wanting 1 first.ret ∷ wanted_elements 1 2 first.params ++ wanted_whole first.params) (target result ∷ containers)
        are = statement_as MapPairsReduce result given (wanting 1 first.ret ∷ wanted_elements 1 2 first.params ++ wanted_whole first.params) known known.fits

        pairs : PairsFit first.params
        pairs = pairs_fit first.params known.is_sound.first.kinds

        small : (index : ℕ) → index < cells_of (target result).sizes → index < 2 ^ 24
        small index less = in_shape index (target result).sizes are.0.shape less

        cells_upto : (operand : ℕ) → cells_in (sizes_for MapPairsReduce (Some (target result))) operand ≤ 2 ^ 24
        cells_upto operand = cells_small (wanted_elements 1 2 first.params ++ wanted_whole first.params) containers elements operand are.1

        pair_fits : (place pair : ℕ) → place < 2 ^ 24 → pair < 2 ^ 24 → IsOfType first.ret ((functions_for MapPairsReduce (Some (target result))).value place pair)
        pair_fits place pair one other =
            value_fits object sound number name functions elements variants MapPairsReduce known.is_sound settings known.in_range
            (Some (target result)) containers (cells_for MapPairsReduce) 1
            (pairs_in_order elements first.params (eqb-true elements 2 known.is_sound.first.elements) pairs containers are.1) uniforms_fit place pair
            (λ dimension is. pair_in dimension place pair (index_is first.params dimension 2 is pairs.index) one other)

        in_small : (k count : ℕ) → k < count → count ≤ 2 ^ 24 → 0 + k < 2 ^ 24
        in_small k count less upto = omega arith

        fold_fits : (operand : ℕ → Result ℤ Trap) (count : ℕ) → ((k : ℕ) → k < count → IsOfType first.ret (operand (0 + k)))
            → IsOfType first.ret (fold_value (folded (join_for MapPairsReduce) operand settings.start 0 count))
        fold_fits operand count each =
            fold_of_type first.ret (folded (join_for MapPairsReduce) operand settings.start 0 count)
            (folded_fits first.ret (join_for MapPairsReduce)
            (join_fits object sound number name functions elements variants MapPairsReduce known.is_sound settings known.in_range 1 refl (omega arith))
            operand settings.start known.in_range.start 0 count each)

        by : (columns : Bool) (index : ℕ) → index < 2 ^ 24 → IsOfType first.ret ((if columns
            then pairs_column_fold (functions_for MapPairsReduce (Some (target result))) settings.start (cells_in (sizes_for MapPairsReduce (Some (target result))) 0)
            else pairs_row_fold (functions_for MapPairsReduce (Some (target result))) settings.start (cells_in (sizes_for MapPairsReduce (Some (target result))) 1)) index)
        by true index less = fold_fits (λ row. (functions_for MapPairsReduce (Some (target result))).value row index) (cells_in (sizes_for MapPairsReduce (Some (target result))) 0)
            (λ k within. pair_fits (0 + k) index (in_small k (cells_in (sizes_for MapPairsReduce (Some (target result))) 0) within (cells_upto 0)) less)
        by false index less = fold_fits ((functions_for MapPairsReduce (Some (target result))).value index) (cells_in (sizes_for MapPairsReduce (Some (target result))) 1)
            (λ k within. pair_fits index (0 + k) less (in_small k (cells_in (sizes_for MapPairsReduce (Some (target result))) 1) within (cells_upto 1)))

    pub map_reduce_so : (result : Option ℕ) (given : List Kinded) → Known MapReduce result given → Leaves MapReduce result
    map_reduce_so (Some result) given known = not_made known.fits
    map_reduce_so None given known =
        numbered MapReduce (fold_number first.ret (folded (join_for MapReduce) (value_at (functions_for MapReduce None)) settings.start 0 ((count_for MapReduce) - 0))
        (folded_fits first.ret (join_for MapReduce)
        (join_fits object sound number name functions elements variants MapReduce known.is_sound settings known.in_range 1 refl (omega arith))
        (value_at (functions_for MapReduce None)) settings.start known.in_range.start 0 ((count_for MapReduce) - 0)
        (λ k less. value_fits object sound number name functions elements variants MapReduce known.is_sound settings known.in_range
        None containers (cells_for MapReduce) (common_for given) (in_order (common_for given) elements first.params two.1 known.is_sound.first.kinds containers are) uniforms_fit (0 + k) 0
        (λ dimension is. first_index (common_for given) elements (scalar_types first.params) (wanted_whole first.params) containers two.0
        (types_upto elements two.1 (types_many first.params)) are dimension (0 + k) (common_is first.params given dimension is) (in_all k (count_for MapReduce) less)))))
      where
        are : AreAsWanted (wanted_elements (common_for given) elements first.params ++ wanted_whole first.params) containers
        are = value_as MapReduce given (wanted_elements (common_for given) elements first.params ++ wanted_whole first.params) known known.fits

        both : (nat_le 1 elements ≡ true) × (nat_le elements (leading_scalars first.params) ≡ true)
        both = and_parts (nat_le 1 elements) (nat_le elements (leading_scalars first.params)) known.is_sound.first.elements

        two : (1 ≤ elements) × (elements ≤ leading_scalars first.params)
        two = (leb-true 1 elements both.0, leb-true elements (leading_scalars first.params) both.1)

        types_upto : (n : ℕ) → n ≤ leading_scalars first.params → leading_scalars first.params ≤ length (scalar_types first.params)
            → n ≤ length (scalar_types first.params)
        types_upto n upto many = omega arith

        in_all : (k n : ℕ) → k < n - 0 → 0 + k < n
        in_all k n less = omega arith

    pub call_so : (result : Option ℕ) (given : List Kinded) → Known Call result given → Leaves Call result
    call_so (Some result) given known = not_made known.fits
    call_so None given known =
        numbered Call (value_number first.ret (value_at (functions_for Call None) 0)
        (value_fits object sound number name functions elements variants Call known.is_sound settings known.in_range None containers (cells_for Call) 0
        (subst (λ (n : ℕ). AreAsWanted (map (wanted_for 0) (operand_kinds n first.params)) containers) (sym (eqb-true elements 0 known.is_sound.first.elements))
        (subst (λ (wanted : List Wanted). AreAsWanted wanted containers) (sym (whole_alone 0 first.params (not_so (list_any is_region first.params) both.0)))
        (value_as Call given (wanted_whole first.params) known known.fits)))
        uniforms_fit 0 0 (λ dimension is. no_index (index_dimension first.params) dimension both.1 is)))
      where
        both : (not (list_any is_region first.params) ≡ true) × (is_none (index_dimension first.params) ≡ true)
        both = and_parts (not (list_any is_region first.params)) (is_none (index_dimension first.params)) known.is_sound.first.kinds

        no_index : {A : Type 0} (found : Option ℕ) (dimension : ℕ) → is_none found ≡ true → found ≡ Some dimension → A
        no_index None dimension none is = absurd (no is)
          where
            no : (None ≡ Some dimension) → ⊥
            no e = cc
        no_index (Some other) dimension none is = not_made none

    pub called_so : (kind : Skeleton) (result : Option ℕ) (given : List Kinded) → Known kind result given → Leaves kind result
    called_so Map result given known = map_so result given known
    called_so Reduce result given known = reduce_so result given known
    called_so Scan result given known = scan_so result given known
    called_so MapReduce result given known = map_reduce_so result given known
    called_so MapOverlap result given known = overlap_so result given known
    called_so MapPairs result given known = pairs_so result given known
    called_so MapPairsReduce result given known = pairs_reduce_so result given known
    called_so Call result given known = call_so result given known

pub calls_are_fine : (object : Object) → HasSoundFunctions object → HasFineCalls object
calls_are_fine object sound number plan result operands uniforms live world called fine =
    called_so object sound number plan.name plan.functions plan.elements plan.variants operands uniforms live world fine plan.skeleton result called.given
    (record {
      is_sound = plan_sound object sound number plan called.there;
      in_range = fine.settings number plan called.there;
      given_are = called.given_are;
      fits = called.fits;
      live_are = called.live_are;
    })
