-- Marked functions never trap.
use Rattle.std.proofs.Common.{◌≡◌, ℕ, zero, suc, ◌+◌, ◌<◌, ◌≤◌, true, Bool, ◌&&◌, ◌==◌, nat_le, List, [], ◌∷◌, length, ℤ, pos, Option, Some, None, Ok, IsSomeAnd, IsOk, slice_get, slice_index_or, refl, sym, ap, subst, ◌∙◌, arith, false}
use Rattle.std.specs.Prelude.{if◌then◌else◌, not, unwrap_or}
use Rattle.std.specs.List.{list_all, list_any}
use Rattle.std.proofs.lemmas.Bool.{eqb-true, leb-true}
use Rattle.std.specs.Cmp.{first_so, second_so}
use Rattle.std.proofs.lemmas.Option.{get_or_from_slice_get, slice_get_within}
use Rattle.sk_base.specs.declared.number.Ty.{Ty}
use Rattle.sk_base.specs.declared.number.Ty.TheVariants.{Int, Long}
use Rattle.sk_base.specs.Arithmetic.{InRange}
use Rattle.sk_meaning.specs.Evaluation.{Argument, Value, Place}
use Rattle.sk_tree.specs.declared.tree.ParamKind.{ParamKind}
use Rattle.sk_tree.specs.declared.tree.ParamKind.TheVariants.{Scalar, Index, Proxy, Region}
use Rattle.sk_tree.specs.declared.tree.Skeleton.{Skeleton}
use Rattle.sk_tree.specs.declared.tree.Skeleton.TheVariants as skeleton
use Rattle.sk_tree.specs.InstanceSettings.{default_settings}
use Rattle.sk_tree.specs.Skeletons.{fits_skeleton, function_count, is_operator, is_over_pairs, operator_place}
use Rattle.sk_tree.specs.Parameters.{index_dimension, index_fits, is_region, leading_scalars, same_type}
use Rattle.sk_isa.specs.declared.object.Object.{Object}
use Rattle.sk_isa.specs.declared.object.Plan.{Plan}
use Rattle.sk_arguments.specs.Arguments.{At, Given, Reading, arguments_after, arguments_of, element_index, operand_kinds, place_of, reads_of, uniform_types}
use Rattle.sk_arguments.specs.Places.{coordinates_of}
use Rattle.sk_kernel.specs.Kernels.{AreOfTypes, DependsOnReads, IsAlike, NeverTraps, NeverTrapsJoining, SuitKinds, SuitsOver, holding_all, place_in}
use Rattle.sk_isa.specs.Objects.{function_at, invoked, is_marked, signature_at}
use Rattle.sk_kernel.specs.Instances.{function_meaning, instance_meaning, operator_type, reading_of}
use Rattle.sk_isa.specs.SoundObjects.{HasSoundFunctions, IsSoundPlan, takes_elements}
use Rattle.sk_isa.specs.Soundness.{SuitParams, is_scalar}
use Rattle.sk_isa_laws.proofs.TypedLists.{typed_at}
use Rattle.sk_vm.specs.Instantiated.{Instantiated, IsAtFirst, IsAtOperator, IsLawful, IsOf, Serves}
use Rattle.sk_vm.specs.Frames.{CountsPairs, Framed, Holds, MayRead, reading_by}
use Rattle.sk_vm.specs.Places.{ReadsPairs, TakesPlaces, takes_places}
use Rattle.sk_vm.specs.Rooms.{AreRooms, room_of}
use Rattle.sk_vm.specs.declared.rooms.Room.{Room}
use Rattle.sk_vm.proofs.Chains.{holds-each}
use Rattle.sk_vm.proofs.Begun.{index_suits, no_region_operand}
use Rattle.sk_vm.proofs.Suited.{arguments_alike, arguments_suit}
use Rattle.sk_vm.proofs.Given.{places_only}

first_function : (plan : Plan) (object : Object) → IsSoundPlan object plan → 0 < length plan.functions
first_function plan object fits = let count = fits.count in by plan.skeleton (length plan.functions) fits.count
  where
    by : (skeleton : Skeleton) (count : ℕ) → count ≡ function_count skeleton → 0 < count
    by kind count is = let some = taken kind in omega arith
      where
        taken : (skeleton : Skeleton) → 0 < function_count skeleton
        taken skeleton.Map = omega arith
        taken skeleton.Reduce = omega arith
        taken skeleton.Scan = omega arith
        taken skeleton.MapReduce = omega arith
        taken skeleton.MapOverlap = omega arith
        taken skeleton.MapPairs = omega arith
        taken skeleton.MapPairsReduce = omega arith
        taken skeleton.Call = omega arith

-- each of the functions is marked where all are
marked_at : (object : Object) (functions : List ℕ) (k : ℕ) → list_all (is_marked object) functions ≡ true → k < length functions → is_marked object (slice_index_or functions k 0) ≡ true
marked_at object [] k all less = absurd (omega arith)
marked_at object (function ∷ functions) zero all less = first_so (is_marked object function) (list_all (is_marked object) functions) all
marked_at object (function ∷ functions) (suc k) all less = marked_at object functions k (second_so (is_marked object function) (list_all (is_marked object) functions) all) (omega arith)

same_types : (one other : Ty) → same_type one other ≡ true → one ≡ other
same_types Int Int is = refl
same_types Long Long is = refl
same_types Int Long is = cc
same_types Long Int is = cc

pub two_suit : (ty : Ty) (params : List ParamKind) (a b : ℤ) → is_operator ty params ≡ true → InRange ty a → InRange ty b → SuitParams params (Value a ∷ Value b ∷ [])
two_suit ty (Scalar one ∷ Scalar other ∷ []) a b are in_a in_b =
    let first : one ≡ ty = same_types one ty (first_so (same_type one ty) (same_type other ty) are) in
    let second : other ≡ ty = same_types other ty (second_so (same_type one ty) (same_type other ty) are) in
    (subst (λ (t : Ty). InRange t a) (sym first) in_a, (subst (λ (t : Ty). InRange t b) (sym second) in_b, tt))
two_suit ty params a b are in_a in_b = cc

-- the operator is one of the functions
operator_within : (kind : Skeleton) (place : ℕ) → operator_place kind ≡ Some place → place < function_count kind
operator_within skeleton.Reduce place is = let same : 0 ≡ place = cc in omega arith
operator_within skeleton.Scan place is = let same : 0 ≡ place = cc in omega arith
operator_within skeleton.MapReduce place is = let same : 1 ≡ place = cc in omega arith
operator_within skeleton.MapPairsReduce place is = let same : 1 ≡ place = cc in omega arith
operator_within skeleton.Map place is = cc
operator_within skeleton.MapOverlap place is = cc
operator_within skeleton.MapPairs place is = cc
operator_within skeleton.Call place is = cc

-- numbers that an instance's operator takes
pub operands_suit : (object : Object) (plan : Plan) → IsSoundPlan object plan → (place : ℕ) → operator_place plan.skeleton ≡ Some place → (a b : ℤ)
    → InRange (signature_at object (function_at plan place)).ret a → InRange (signature_at object (function_at plan place)).ret b
    → SuitParams (signature_at object (function_at plan place)).params (Value a ∷ Value b ∷ [])
operands_suit object plan fits place is a b in_a in_b =
    let operator = fits.operator place is in
    two_suit (signature_at object (function_at plan 0)).ret (signature_at object (function_at plan place)).params a b operator.params
    (subst (λ (ty : Ty). InRange ty a) operator.ret in_a) (subst (λ (ty : Ty). InRange ty b) operator.ret in_b)

-- an index parameter that fits two dimensions
counts_pairs : (index : Option ℕ) → elim index [ Some dimension ↦ dimension == 2 | None ↦ true ] ≡ true → CountsPairs index
counts_pairs None e = tt
counts_pairs (Some dimension) e = eqb-true dimension 2 e

pairs_fit : (params : List ParamKind) → (not (list_any is_region params) && nat_le 2 (leading_scalars params) && index_fits params 2) ≡ true
    → CountsPairs (index_dimension params)
pairs_fit params fits =
    counts_pairs (index_dimension params) (second_so (not (list_any is_region params) && nat_le 2 (leading_scalars params)) (index_fits params 2) fits)

-- the first function of a sound plan may be read as the skeleton says
pub may_read : (object : Object) (plan : Plan) → IsSoundPlan object plan → (index : Option ℕ) → index ≡ index_dimension (signature_at object (function_at plan 0)).params
    → MayRead index plan.elements (is_over_pairs plan.skeleton)
may_read object plan fits index is =
    subst (λ (i : Option ℕ). MayRead i plan.elements (is_over_pairs plan.skeleton)) (sym is)
    (by plan.skeleton (signature_at object (function_at plan 0)).ret (signature_at object (function_at plan 0)).params fits.first.kinds fits.first.elements)
  where
    by : (kind : Skeleton) (ty : Ty) (params : List ParamKind) → fits_skeleton kind ty params ≡ true → takes_elements kind plan.elements params ≡ true
        → MayRead (index_dimension params) plan.elements (is_over_pairs kind)
    by skeleton.Map ty params kinds elements = tt
    by skeleton.Reduce ty params kinds elements = tt
    by skeleton.Scan ty params kinds elements = tt
    by skeleton.MapReduce ty params kinds elements = tt
    by skeleton.MapOverlap ty params kinds elements = tt
    by skeleton.MapPairs ty params kinds elements = (eqb-true plan.elements 2 elements, pairs_fit params kinds)
    by skeleton.MapPairsReduce ty params kinds elements = (eqb-true plan.elements 2 elements, pairs_fit params kinds)
    by skeleton.Call ty params kinds elements = tt

-- the skeletons that go over pairs take two scalars behind an index
leading_few : (kinds : List ParamKind) → leading_scalars kinds ≤ length kinds
leading_few [] = omega arith
leading_few (Scalar ty ∷ kinds) = let rest = leading_few kinds in omega arith
leading_few (Index dimension ∷ kinds) = let rest = leading_few kinds in omega arith
leading_few (Proxy dimension ty ∷ kinds) = omega arith
leading_few (Region dimension ty ∷ kinds) = omega arith

pairs_of : (params : List ParamKind) (elements : ℕ) → (elements == 2) ≡ true
    → (not (list_any is_region params) && nat_le 2 (leading_scalars params) && index_fits params 2) ≡ true → ReadsPairs true elements params
pairs_of [] elements two fits = tt
pairs_of (Scalar ty ∷ kinds) elements two fits = tt
pairs_of (Proxy dimension ty ∷ kinds) elements two fits = tt
pairs_of (Region dimension ty ∷ kinds) elements two fits = tt
pairs_of (Index dimension ∷ kinds) elements two fits =
    let params = Index dimension ∷ kinds in
    let front = first_so (not (list_any is_region params) && nat_le 2 (leading_scalars params)) (index_fits params 2) fits in
    let many = leb-true 2 (leading_scalars kinds) (second_so (not (list_any is_region params)) (nat_le 2 (leading_scalars params)) front) in
    let few = leading_few kinds in
    (pairs_fit params fits, eqb-true elements 2 two, omega arith)

pub pairs_read : (object : Object) (plan : Plan) → IsSoundPlan object plan
    → ReadsPairs (is_over_pairs plan.skeleton) plan.elements (signature_at object (function_at plan 0)).params
pairs_read object plan fits =
    by plan.skeleton (signature_at object (function_at plan 0)).ret (signature_at object (function_at plan 0)).params fits.first.kinds fits.first.elements
  where
    by : (kind : Skeleton) (ty : Ty) (params : List ParamKind) → fits_skeleton kind ty params ≡ true → takes_elements kind plan.elements params ≡ true
        → ReadsPairs (is_over_pairs kind) plan.elements params
    by skeleton.Map ty params kinds elements = tt
    by skeleton.Reduce ty params kinds elements = tt
    by skeleton.Scan ty params kinds elements = tt
    by skeleton.MapReduce ty params kinds elements = tt
    by skeleton.MapOverlap ty params kinds elements = tt
    by skeleton.MapPairs ty params kinds elements = pairs_of params plan.elements elements kinds
    by skeleton.MapPairsReduce ty params kinds elements = pairs_of params plan.elements elements kinds
    by skeleton.Call ty params kinds elements = tt

-- an instance of a program whose parameters stand in order
module _ (object : Object) (sound : HasSoundFunctions object) (parameters : TakesPlaces object) (plan : Plan) (fits : IsSoundPlan object plan) where
  abbrev params : List ParamKind
  params = (signature_at object (function_at plan 0)).params

  abbrev reading : Reading
  reading = reading_of plan default_settings

  some : 0 < length plan.functions
  some = first_function plan object fits

  takes : takes_places params ≡ true
  takes = (places_only object sound parameters (function_at plan 0) (fits.there 0 0 some)).0

  never : NeverTraps (instance_meaning object plan default_settings)
  never all given place pair suits =
      (sound.marks (function_at plan 0) (marked_at object plan.functions 0 all some)).has_value
      (arguments_of reading params given (record { place = place; pair = pair }))
      (arguments_suit params reading given place pair suits.operands suits.held
      (λ k dimension ty is. absurd (no_region_operand params reading.elements k dimension ty takes is))
      (index_suits params reading.elements reading.pairs (holding_all given) place pair takes (pairs_read object plan fits) suits.operands suits.over) suits.uniforms)

  depends : DependsOnReads (instance_meaning object plan default_settings)
  depends one other place pair alike agree suits =
      ap (λ (arguments : List Argument). invoked object (function_at plan 0) arguments)
      (arguments_alike params reading one place pair other alike agree
      (λ k dimension ty is. absurd (no_region_operand params reading.elements k dimension ty takes is)))

  joining : NeverTrapsJoining (instance_meaning object plan default_settings)
  joining all a b joined = by (operator_place plan.skeleton) refl joined
    where
      by : (found : Option ℕ) → operator_place plan.skeleton ≡ found
          → IsSomeAnd (elim found [ Some place ↦ Some (signature_at object (function_at plan place)).ret | None ↦ None ]) (λ ty. InRange ty a × InRange ty b)
          → IsOk (elim found [ Some place ↦ invoked object (function_at plan place) (Value a ∷ Value b ∷ []) | None ↦ Ok (pos 0) ])
      by None is h = absurd h
      by (Some place) is h =
          let within = operator_within plan.skeleton place is in
          let count = fits.count in
          (sound.marks (function_at plan place) (marked_at object plan.functions place all (omega arith))).has_value (Value a ∷ Value b ∷ [])
          (operands_suit object plan fits place is a b h.0 h.1)

  pub lawful : IsLawful (instance_meaning object plan default_settings)
  lawful = record { never_traps = never; never_traps_joining = joining; depends = depends }

-- what a frame means that is turned to an instance's first function
pub first_meaning : (object : Object) (instance : Instantiated) (frame : Framed) → object ≡ instance.object → IsAtFirst instance frame
    → function_meaning object frame.function frame.reading ≡ function_meaning instance.object (function_at instance.plan 0) (reading_of instance.plan default_settings)
first_meaning object instance frame same first =
    ap (λ (o : Object). function_meaning o frame.function frame.reading) same
    ∙ ap (λ (f : ℕ). function_meaning instance.object f frame.reading) first.function
    ∙ ap (λ (r : Reading). function_meaning instance.object (function_at instance.plan 0) r) first.reading

-- a frame that is turned to an instance's first function
pub at_first : (instance : Instantiated) (before turned after : Framed) (object : Object) (function elements : ℕ) (pairs : Bool) → object ≡ instance.object
    → function ≡ function_at instance.plan 0 → elements ≡ instance.plan.elements → pairs ≡ is_over_pairs instance.plan.skeleton
    → turned ≡ record before { function = function; index = index_dimension (signature_at object function).params; leading = leading_scalars (signature_at object function).params; reading = reading_by 0 false }
    → after ≡ record turned { reading = reading_by elements pairs }
    → HasSoundFunctions instance.object → TakesPlaces instance.object → IsSoundPlan instance.object instance.plan → Serves instance before → IsAtFirst instance after
at_first instance before turned after object function elements pairs object_is function_is elements_is pairs_is turned_is after_is sound parameters fits serves =
    let some = first_function instance.plan instance.object fits in
    let own = serves.room 0 some in
    let is =
    after_is
    ∙ ap (λ (t : Framed). record t { reading = reading_by elements pairs }) turned_is
    ∙ ap (λ (o : Object). record before { function = function; index = index_dimension (signature_at o function).params; leading = leading_scalars (signature_at o function).params; reading = reading_by elements pairs }) object_is
    ∙ ap (λ (f : ℕ). record before { function = f; index = index_dimension (signature_at instance.object f).params; leading = leading_scalars (signature_at instance.object f).params; reading = reading_by elements pairs }) function_is
    ∙ ap (λ (n : ℕ). record before { function = function_at instance.plan 0; index = index_dimension (signature_at instance.object (function_at instance.plan 0)).params; leading = leading_scalars (signature_at instance.object (function_at instance.plan 0)).params; reading = reading_by n pairs }) elements_is
    ∙ ap (λ (p : Bool). record before { function = function_at instance.plan 0; index = index_dimension (signature_at instance.object (function_at instance.plan 0)).params; leading = leading_scalars (signature_at instance.object (function_at instance.plan 0)).params; reading = reading_by instance.plan.elements p }) pairs_is in
    subst (IsAtFirst instance) (sym is) (record {
      room = record {
        entered = record { sound = sound; parameters = parameters; there = fits.there 0 0 some };
        index = refl;
        leading = refl;
        pairs = pairs_read instance.object instance.plan fits;
        stack = own.stack;
        slots = own.slots;
      };
      function = refl;
      reading = refl;
    })

-- numbers that a frame takes that is turned to an instance's operator
pub operator_suits : (instance : Instantiated) (frame : Framed) → IsSoundPlan instance.object instance.plan → IsAtOperator instance frame
    → (a b : ℤ) → IsSomeAnd (operator_type instance.object instance.plan) (λ ty. InRange ty a × InRange ty b)
    → SuitParams (signature_at instance.object frame.function).params (Value a ∷ Value b ∷ [])
operator_suits instance frame fits turned a b joined = by (operator_place instance.plan.skeleton) refl turned.function joined
  where
    by : (found : Option ℕ) → operator_place instance.plan.skeleton ≡ found → IsSomeAnd found (λ place. frame.function ≡ function_at instance.plan place)
        → IsSomeAnd (elim found [ Some place ↦ Some (signature_at instance.object (function_at instance.plan place)).ret | None ↦ None ]) (λ ty. InRange ty a × InRange ty b)
        → SuitParams (signature_at instance.object frame.function).params (Value a ∷ Value b ∷ [])
    by None is runs h = absurd h
    by (Some place) is runs h =
        subst (λ (f : ℕ). SuitParams (signature_at instance.object f).params (Value a ∷ Value b ∷ [])) (sym runs)
        (operands_suit instance.object instance.plan fits place is a b h.0 h.1)

-- the plan of an instance that is there
pub plan_fits : (object : Object) → HasSoundFunctions object → (number : ℕ) (plan : Plan) → slice_get object.instances number ≡ Some plan → IsSoundPlan object plan
plan_fits object sound number plan is =
    subst (IsSoundPlan object) (get_or_from_slice_get object.instances number plan plan is)
    (sound.instances number plan (slice_get_within object.instances number plan is))

-- a frame that holds the largest room of a program serves each of its instances
pub serves-each : (object : Object) (room : Room) (frame : Framed) (number : ℕ) (instance : Instantiated) → AreRooms object room → Holds room frame → IsOf object number instance
    → Serves instance frame
serves-each object room frame number instance are holds of = record {
  room = λ place within.
      subst (λ (o : Object). Holds (room_of o.functions (function_at instance.plan place)) frame) (sym of.of_object)
      (holds-each object room frame are holds (function_at instance.plan place)
      ((plan_fits object are.sound number instance.plan of.of_plan).there place 0 within));
}
