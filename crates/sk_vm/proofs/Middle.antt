-- What the types say in the middle of a run.
use Rattle.std.proofs.Common.{◌≡◌, ℕ, suc, ◌+◌, ◌<◌, ◌≤◌, true, false, Bool, ◌&&◌, List, [], ◌∷◌, length, take, drop, map, reverse, Contains, ℤ, Option, Some, None, IsSomeAnd, slice_get, refl, sym, ap, subst, ◌∙◌, arith}
use Rattle.std.specs.List.{list_all}
use Rattle.std.specs.Cmp.{first_so, second_so}
use Rattle.std.specs.Cmp.Lexicographic.{pointwise}
use Rattle.std.proofs.lemmas.Option.{get_or_from_slice_get, same_Some, slice_get_within}
use Rattle.sk_base.specs.declared.number.Ty.{Ty}
use Rattle.sk_base.specs.declared.number.Ty.TheVariants.{Int}
use Rattle.sk_meaning.specs.Evaluation.{Argument, Value}
use Rattle.sk_tree.specs.Parameters.{proxies_then_scalars, scalars_then_proxies}
use Rattle.sk_tree.specs.declared.tree.ParamKind.{ParamKind}
use Rattle.sk_tree.specs.declared.tree.ParamKind.TheVariants.{Scalar, Index, Proxy, Region}
use Rattle.sk_isa.specs.declared.code.Code.{Code}
use Rattle.sk_isa.specs.declared.code.Instr.{Instr}
use Rattle.sk_isa.specs.declared.code.Instr.TheVariants.{Field, Item, Call}
use Rattle.sk_isa.specs.declared.object.Object.{Object}
use Rattle.sk_isa.specs.declared.object.Signature.{Signature}
use Rattle.sk_isa.specs.Coded.{Next, function_of, next_of}
use Rattle.sk_isa.specs.Configurations.{returning}
use Rattle.sk_isa.specs.Objects.{signature_at}
use Rattle.sk_isa.specs.Soundness.{AreSlots, IsFineAt, Named, SuitParams, Types, has_field, is_scalar, leads_to, left_by, serves}
use Rattle.sk_isa.specs.SoundObjects.{HasSoundFunctions, TakesScalars}
use Rattle.sk_isa_laws.proofs.Steps.{left_if_so}
use Rattle.sk_isa_laws.proofs.TypedLists.{typed-length}
use Rattle.sk_vm.specs.declared.stack.Stand.{Stand}
use Rattle.sk_vm.specs.Calls.{MayCall}
use Rattle.sk_vm.specs.Needs.{Needs}
use Rattle.sk_vm.specs.Places.{OfContainers, TakesPlaces, arguments_with, takes_places}
use Rattle.sk_vm.specs.Points.{values_in, point_at, FindsOther}
use Rattle.sk_vm.specs.Rooms.{begun_with, given_to, room_of, slots_at}
use Rattle.sk_vm.proofs.Calls.{call_found, calls-next, passed}
use Rattle.sk_vm.proofs.Finds.{FieldAt, ItemAt, field_there, item_named, item_there, needs_met}
use Rattle.sk_vm.proofs.Chains.{room-callee, room-own}
use Rattle.sk_vm.proofs.Running.{Running, routine_at}
use Rattle.sk_vm.proofs.Starts.{signature_at-is, slots_at-is}
use Rattle.sk_vm.proofs.Values.{length-values_in}

pointwise-length : (given wanted : List Ty) → pointwise serves given wanted ≡ true → length given ≡ length wanted
pointwise-length [] [] e = refl
pointwise-length [] (ty ∷ wanted) e = cc
pointwise-length (ty ∷ given) [] e = cc
pointwise-length (ty ∷ given) (want ∷ wanted) e = ap suc (pointwise-length given wanted (second_so (serves ty want) (pointwise serves given wanted) e))

-- the instruction at the address, with the types before and behind it
pub record Here (named : Named) (code : Code) (instr : Instr) (at : ℕ) (types : List Ty) : Type 0 where
  pub bounded : length types ≤ code.depth
  pub left : List Ty
  pub effect : left_by named instr types ≡ Some left
  pub behind : (to : ℕ) → Contains (leads_to instr at) to → length left ≤ code.depth

here_at : (named : Named) (code : Code) (chosen : Types) (instr : Instr) (at : ℕ) (types : List Ty)
    → ((at : ℕ) (types : List Ty) → chosen at ≡ Some types → IsFineAt (left_by named) code chosen at types)
    → IsFineAt (left_by named) code chosen at types → slice_get code.instrs at ≡ Some instr → Here named code instr at types
here_at named code chosen instr at types each fine found =
    subst (λ (i : Instr). Here named code i at types) (same_Some fine.instr instr (sym fine.found ∙ found))
    (record { bounded = fine.bounded; left = fine.left; effect = fine.effect; behind = λ to led. reached to (at_target to led) })
  where
    at_target : (to : ℕ) → Contains (leads_to fine.instr at) to → IsSomeAnd (chosen to) (λ after. pointwise serves fine.left after ≡ true)
    at_target to led =
        subst (λ (n : ℕ). IsSomeAnd (chosen n) (λ after. pointwise serves fine.left after ≡ true)) led.2 (fine.leads led.0 to led.1)

    after : (to : ℕ) (found : Option (List Ty)) → chosen to ≡ found → IsSomeAnd found (λ after. pointwise serves fine.left after ≡ true) → length fine.left ≤ code.depth
    after to None is h = absurd h
    after to (Some wanted) is h =
        let count = pointwise-length fine.left wanted h in
        let upto = (each to wanted is).bounded in
        omega arith

    reached : (to : ℕ) → IsSomeAnd (chosen to) (λ after. pointwise serves fine.left after ≡ true) → length fine.left ≤ code.depth
    reached to h = after to (chosen to) refl h

pub params_scalar : (params slots : List ParamKind) → AreSlots params slots → list_all is_scalar slots ≡ true → list_all is_scalar params ≡ true
params_scalar [] slots are e = refl
params_scalar (param ∷ params) [] are e = absurd are
params_scalar (param ∷ params) (slot ∷ slots) are e =
    both (is_scalar param) (list_all is_scalar params)
    (subst (λ (kind : ParamKind). is_scalar kind ≡ true) (sym are.0) (first_so (is_scalar slot) (list_all is_scalar slots) e))
    (params_scalar params slots are.1 (second_so (is_scalar slot) (list_all is_scalar slots) e))
  where
    both : (a b : Bool) → a ≡ true → b ≡ true → (a && b) ≡ true
    both true b e f = f
    both false b e f = cc

pub scalar_slots : (object : Object) (function : ℕ) (own : Signature) → TakesScalars object → slice_get object.signatures function ≡ Some own → list_all is_scalar own.slots ≡ true
scalar_slots object function own scalars is =
    subst (λ (s : Signature). list_all is_scalar s.slots ≡ true) (get_or_from_slice_get object.signatures function own own is)
    (scalars function own (slice_get_within object.signatures function own is))

-- the same of parameters that stand in order
params_after : (params slots : List ParamKind) → AreSlots params slots → proxies_then_scalars slots ≡ true → proxies_then_scalars params ≡ true
params_after [] slots are e = refl
params_after (param ∷ params) [] are e = absurd are
params_after (param ∷ params) (Scalar ty ∷ slots) are e =
    subst (λ (kind : ParamKind). proxies_then_scalars (kind ∷ params) ≡ true) (sym are.0) (params_scalar params slots are.1 e)
params_after (param ∷ params) (Index dimension ∷ slots) are e = cc
params_after (param ∷ params) (Proxy dimension ty ∷ slots) are e =
    subst (λ (kind : ParamKind). proxies_then_scalars (kind ∷ params) ≡ true) (sym are.0) (params_after params slots are.1 e)
params_after (param ∷ params) (Region dimension ty ∷ slots) are e = cc

params_ordered : (params slots : List ParamKind) → AreSlots params slots → scalars_then_proxies slots ≡ true → scalars_then_proxies params ≡ true
params_ordered [] slots are e = refl
params_ordered (param ∷ params) [] are e = absurd are
params_ordered (param ∷ params) (Scalar ty ∷ slots) are e =
    subst (λ (kind : ParamKind). scalars_then_proxies (kind ∷ params) ≡ true) (sym are.0) (params_ordered params slots are.1 e)
params_ordered (param ∷ params) (Index dimension ∷ slots) are e = cc
params_ordered (param ∷ params) (Proxy dimension ty ∷ slots) are e =
    subst (λ (kind : ParamKind). scalars_then_proxies (kind ∷ params) ≡ true) (sym are.0) (params_after params slots are.1 e)
params_ordered (param ∷ params) (Region dimension ty ∷ slots) are e = cc

pub params_place : (params slots : List ParamKind) → AreSlots params slots → takes_places slots ≡ true → takes_places params ≡ true
params_place [] slots are e = refl
params_place (param ∷ params) [] are e = absurd are
params_place (param ∷ params) (Scalar ty ∷ slots) are e =
    subst (λ (kind : ParamKind). takes_places (kind ∷ params) ≡ true) (sym are.0) (params_ordered params slots are.1 e)
params_place (param ∷ params) (Index dimension ∷ slots) are e =
    subst (λ (kind : ParamKind). takes_places (kind ∷ params) ≡ true) (sym are.0) (params_ordered params slots are.1 e)
params_place (param ∷ params) (Proxy dimension ty ∷ slots) are e =
    subst (λ (kind : ParamKind). takes_places (kind ∷ params) ≡ true) (sym are.0) (params_after params slots are.1 e)
params_place (param ∷ params) (Region dimension ty ∷ slots) are e = cc

pub place_slots : (object : Object) (function : ℕ) (own : Signature) → TakesPlaces object → slice_get object.signatures function ≡ Some own → takes_places own.slots ≡ true
place_slots object function own parameters is =
    subst (λ (s : Signature). takes_places s.slots ≡ true) (get_or_from_slice_get object.signatures function own own is)
    (parameters function own (slice_get_within object.signatures function own is))

-- a run in the middle, with an instruction of its address
module _ (object : Object) (function : ℕ) (other : ℕ → Argument) (begun : List ℤ) (turns : ℕ) (instrs : List Instr) (stand : Stand) (stack slots : List ℤ)
    (running : Running object function other begun turns instrs stand stack slots) where
  abbrev named : Named
  named = record { signatures = object.signatures; function = function; own = running.own }

  pub within : stand.at < length instrs
  within =
      let fine = running.sound.types.each stand.at running.point.types running.point.there in
      let inside = slice_get_within running.code.instrs stand.at fine.instr fine.found in
      subst (λ (is : List Instr). stand.at < length is) (sym running.instrs_are) inside

  tall : length running.point.types ≡ stand.top
  tall = typed-length running.point.types (values_in stack stand.top) running.point.stack ∙ length-values_in stack stand.top

  deep : running.code.depth ≤ (room_of object.functions function).stack
  deep = (room-own object.functions function running.code running.code_at).stack

  pub inside : (room_of object.functions function).stack ≤ length stack → stand.top ≤ length stack
  inside room =
      let fine = running.sound.types.each stand.at running.point.types running.point.there in
      let upto = fine.bounded in
      let high = tall in
      let low = deep in
      omega arith

  here : (instr : Instr) → slice_get instrs stand.at ≡ Some instr → Here named running.code instr stand.at running.point.types
  here instr found =
      here_at named running.code running.sound.types.chosen instr stand.at running.point.types running.sound.types.each
      (running.sound.types.each stand.at running.point.types running.point.there)
      (ap (λ (is : List Instr). slice_get is stand.at) (sym running.instrs_are) ∙ found)

  takes : TakesPlaces object → takes_places running.own.params ≡ true
  takes parameters = params_place running.own.params running.own.slots running.sound.slots (place_slots object function running.own parameters running.own_at)

  abbrev Containers : (ℕ → Type 0) → Type 0
  Containers Readable = OfContainers (signature_at object function).params Readable

  own_is : signature_at object function ≡ running.own
  own_is = signature_at-is object function running.own running.own_at

  begun_is : begun_with object function other begun ≡ arguments_with running.own.params other (given_to object function begun)
  begun_is = ap (λ (s : Signature). arguments_with s.params other (given_to object function begun)) own_is

  begun_suits : SuitParams running.own.params (arguments_with running.own.params other (given_to object function begun))
  begun_suits = subst (λ (xs : List Argument). SuitParams running.own.params xs) begun_is running.suits

  own_containers : (Readable : ℕ → Type 0) → Containers Readable → OfContainers running.own.params Readable
  own_containers Readable containers = subst (λ (s : Signature). OfContainers s.params Readable) own_is containers

  -- a field is that of what stands for its parameter
  field_in : (Readable : ℕ → Type 0) → Containers Readable → TakesPlaces object → (slot : ℕ) (name : List ℕ) → has_field named slot name ≡ true
      → FieldAt other Readable name slot (begun_with object function other begun)
  field_in Readable containers parameters slot name field =
      subst (λ (xs : List Argument). FieldAt other Readable name slot xs) (sym begun_is)
      (field_there running.own.params other Readable name slot (given_to object function begun) (takes parameters) running.sound.kinds begun_suits
      (own_containers Readable containers) field)

  -- a container is that which stands for its parameter
  item_in : (Readable : ℕ → Type 0) → Containers Readable → (slot dimension : ℕ) (ty : Ty) → slice_get running.own.params slot ≡ Some (Proxy dimension ty)
      → ItemAt other Readable slot (begun_with object function other begun)
  item_in Readable containers slot dimension ty is =
      subst (λ (xs : List Argument). ItemAt other Readable slot xs) (sym begun_is)
      (item_there running.own.params other Readable slot dimension ty (given_to object function begun) begun_suits (own_containers Readable containers) is)

  pub needs : (Readable : ℕ → Type 0) → Containers Readable → (instr : Instr) → TakesPlaces object → slice_get instrs stand.at ≡ Some instr
      → (room_of object.functions function).stack ≤ length stack → Needs instr other Readable stand.top stack slots
  needs Readable containers instr parameters found room =
      let at = here instr found in
      let low = deep in
      needs_met named instr other Readable stand.at running.point.types at.left stack slots stand.top (takes parameters)
      (λ slot name field. let there = field_in Readable containers parameters slot name field in (there.has, there.readable))
      (λ slot dimension ty is. let there = item_in Readable containers slot dimension ty is in (there.whole, there.readable))
      at.effect running.point.stack running.point.slots
      (λ to led. let upto = at.behind to led in omega arith)

  pub finds : (Readable : ℕ → Type 0) → Containers Readable → (instr : Instr) → TakesPlaces object → slice_get instrs stand.at ≡ Some instr
      → FindsOther instr other (routine_at object function running.code other begun)
  finds Readable containers (Field slot name) parameters found =
      (field_in Readable containers parameters slot name
      (left_if_so (has_field named slot name) (Int ∷ running.point.types) (here (Field slot name) found).left (here (Field slot name) found).effect).0).given
  finds Readable containers (Item slot places) parameters found =
      let at = here (Item slot places) found in
      let is = item_named named slot places running.point.types at.left at.effect in
      (item_in Readable containers slot is.0 is.1 is.2).given
  finds Readable containers instr parameters found = tt

  -- what a call needs
  pub record CallReady (callee : ℕ) (rest : List ℤ) : Type 0 where
    pub before : callee < function
    pub there : callee < length object.functions
    pub may : MayCall (record { object = object; function = callee }) stand stack rest

  pub call_ready : (callee : ℕ) (rest : List ℤ) → function < length object.functions → slice_get instrs stand.at ≡ Some (Call callee)
      → (room_of object.functions function).stack ≤ length stack → (room_of object.functions function).slots ≤ slots_at object.functions function + length rest → CallReady callee rest
  call_ready callee rest upto found deep_enough wide_enough =
      let at = here (Call callee) found in
      let finds = call_found named callee running.point.types at.left (values_in stack stand.top) at.effect running.point.stack in
      let is = signature_at-is object callee finds.own finds.is_own in
      let params : length (signature_at object callee).params ≡ length finds.own.params = ap (λ (s : Signature). length s.params) is in
      let size = length-values_in stack stand.top in
      let enough = finds.enough in
      let height = finds.height in
      let before = finds.before in
      let behind = at.behind (suc stand.at) (0, omega arith, refl) in
      let low = deep in
      let found_in : slice_get running.code.instrs stand.at ≡ Some (Call callee) = ap (λ (is : List Instr). slice_get is stand.at) (sym running.instrs_are) ∙ found in
      let room = room-callee object.functions function running.code running.code_at stand.at callee found_in finds.before in
      let in_stack = room.stack in
      let in_slots = room.slots in
      let own = slots_at-is object.functions function running.code running.code_at in
      let bounded = at.bounded in
      let high = tall in
      record {
        before = finds.before;
        there = omega arith;
        may = record {
          inside = inside deep_enough;
          takes = omega arith;
          suited = subst (λ (s : Signature). SuitParams s.params (map Value (reverse (take (length s.params) (values_in stack stand.top))))) (sym is) finds.suited;
          value = omega arith;
          depth = omega arith;
          slots = omega arith;
        };
      }

  -- where a call leads, by what it gave
  pub call_leads : HasSoundFunctions object → (callee : ℕ) (rest : List ℤ) → CallReady callee rest → function < length object.functions → (instr : Instr) → instr ≡ Call callee
      → (stack_then slots_then : List ℤ) → stack_then ≡ stack → slots_then ≡ slots → (next : Next)
      → next
      ≡ returning (point_at stand stack_then slots_then) (drop (length (signature_at object callee).params) (values_in stack_then stand.top))
      (function_of object callee (map Value (passed object callee stack_then stand.top)) stand.turns)
      → next_of (routine_at object function running.code other begun) instr (point_at stand stack slots) ≡ next
  call_leads sound callee rest ready upto instr is stack_then slots_then same_stack same_slots next led =
      let size = length-values_in stack stand.top in
      let takes = ready.may.takes in
      ap (λ (i : Instr). next_of (routine_at object function running.code other begun) i (point_at stand stack slots)) is
      ∙ calls-next object sound function callee (omega arith) ready.before (routine_at object function running.code other begun) refl (point_at stand stack slots) (omega arith)
      ∙ ap (λ (xs : List ℤ). returning (point_at stand xs slots) (drop (length (signature_at object callee).params) (values_in xs stand.top))
      (function_of object callee (map Value (passed object callee xs stand.top)) stand.turns)) (sym same_stack)
      ∙ ap (λ (xs : List ℤ). returning (point_at stand stack_then xs) (drop (length (signature_at object callee).params) (values_in stack_then stand.top))
      (function_of object callee (map Value (passed object callee stack_then stand.top)) stand.turns)) (sym same_slots)
      ∙ sym led
