-- What a function that is called from an expression is given.
use Rattle.std.proofs.Common.{◌≡◌, ℕ, zero, suc, ◌+◌, ◌-◌, ◌<◌, ◌≤◌, true, false, List, [], ◌∷◌, length, map, take, drop, reverse, ℤ, pos, Option, Some, None, IsSome, slice_get, slice_index_or, refl, sym, ap, subst, ◌∙◌, arith}
use Rattle.std.specs.List.{list_all}
use Rattle.std.specs.Prelude.{Ok, Err, Result}
use Rattle.std.proofs.lemmas.Option.{same_Some, slice_get-get_or}
use Rattle.sk_base.specs.Arithmetic.{wrapped}
use Rattle.sk_base.specs.declared.number.Trap.{Trap}
use Rattle.sk_host.proofs.Kept.{goes-to, many-in}
use Rattle.sk_host.specs.Points.{point_at}
use Rattle.sk_host.specs.declared.machine.Stand.{Stand}
use Rattle.sk_isa.specs.Configurations.{Goes, Ends, returning}
use Rattle.sk_isa.specs.declared.code.Instr.TheVariants.{Call}
use Rattle.sk_main_code.specs.MainSteps.{MainNext, next_in_main}
use Rattle.sk_vm.proofs.Calls.{arguments-in}
use Rattle.sk_vm.specs.Points.{values_in}
use Rattle.sk_world.specs.World.{Trapped, World, valued}
use Rattle.sk_arguments.specs.Arguments.{operand_kinds, reads_kind, uniform_types}
use Rattle.sk_host.specs.Passed.{converted_by, uniform_source}
use Rattle.sk_isa.specs.Objects.{invoked, signature_at}
use Rattle.sk_isa.specs.SoundObjects.{HasSoundFunctions}
use Rattle.sk_isa.specs.Soundness.{SuitParams, is_scalar}
use Rattle.sk_isa.specs.declared.object.Object.{Object}
use Rattle.sk_isa.specs.declared.object.Plan.{Plan}
use Rattle.sk_isa_laws.proofs.TypedLists.{suited-length}
use Rattle.sk_kernel.specs.Instances.{function_meaning, instance_meaning}
use Rattle.sk_tree.specs.InstanceSettings.{default_settings}
use Rattle.sk_vm.specs.Instantiated.{Instantiated, IsOf, meaning_of}
use Rattle.sk_kernel.specs.Kernels.{Agree, AreOfTypes, SuitKinds, Suits, SuitsOver, given_by, place_in}
use Rattle.sk_meaning.specs.Evaluation.{Argument, Value, kind_type}
use Rattle.sk_tree.specs.declared.tree.ParamKind.{ParamKind}
use Rattle.sk_tree.specs.declared.tree.ParamKind.TheVariants.{Scalar, Index, Proxy, Region}
use Rattle.sk_vm.proofs.Arguments.{arguments-are, no_index}
use Rattle.sk_vm.proofs.Given.{places_only}
use Rattle.sk_vm.proofs.Places.{values_are_scalars}
use Rattle.sk_vm.specs.Frames.{reading_by}
use Rattle.sk_vm.specs.Places.{TakesPlaces}

-- scalars that are all uniform arguments
pub no_operands : (params : List ParamKind) → list_all is_scalar params ≡ true → operand_kinds 0 params ≡ []
no_operands [] scalars = refl
no_operands (Scalar ty ∷ kinds) scalars = no_operands kinds scalars
no_operands (Index dimension ∷ kinds) scalars = cc
no_operands (Proxy dimension ty ∷ kinds) scalars = cc
no_operands (Region dimension ty ∷ kinds) scalars = cc

typed : (params : List ParamKind) (values : List ℤ) → list_all is_scalar params ≡ true → SuitParams params (map Value values)
    → AreOfTypes (uniform_types 0 params) values
typed [] [] scalars suits = tt
typed [] (value ∷ values) scalars suits = suits
typed (Scalar ty ∷ kinds) [] scalars suits = absurd suits
typed (Scalar ty ∷ kinds) (value ∷ values) scalars suits = (suits.0, typed kinds values scalars suits.1)
typed (Index dimension ∷ kinds) values scalars suits = cc
typed (Proxy dimension ty ∷ kinds) values scalars suits = cc
typed (Region dimension ty ∷ kinds) values scalars suits = cc

length-map-values : (values : List ℤ) → length (map Value values) ≡ length values
length-map-values [] = refl
length-map-values (value ∷ values) = ap suc (length-map-values values)

-- a function with its arguments
module _ (object : Object) (sound : HasSoundFunctions object) (parameters : TakesPlaces object) (function : ℕ) (within : function < length object.functions)
    (values : List ℤ) (suits : SuitParams (signature_at object function).params (map Value values)) where
  abbrev params : List ParamKind
  params = (signature_at object function).params

  only : list_all is_scalar params ≡ true
  only = values_are_scalars params values (places_only object sound parameters function within).0 suits

  nothing : (operand index : ℕ) → (function_meaning object function (reading_by 0 false)).reads [] 0 0 operand index ≡ true → ⊥
  nothing operand index reads =
      no (subst (λ (kinds : List ParamKind). (elim (slice_get kinds operand) [
        | Some kind ↦ reads_kind (reading_by 0 false) [] (record { place = 0; pair = 0 }) operand kind index
        | None ↦ false
      ]) ≡ true) (no_operands params only) reads)
    where
      no : (false ≡ true) → ⊥
      no e = cc

  pub suits_uniforms : Suits (function_meaning object function (reading_by 0 false)) (uniform_source values) 0 0
  suits_uniforms = record {
    operands = subst (λ (kinds : List ParamKind). SuitKinds kinds [] (place_in false 0 0)) (sym (no_operands params only)) tt;
    uniforms = typed params values only suits;
    over = subst (λ (index : Option ℕ). SuitsOver index None 0) (sym (no_index params only)) tt;
    held = λ operand index reads. absurd (nothing operand index reads);
  }

  pub agrees_nothing : (cells : ℕ → ℕ → ℤ) → Agree (function_meaning object function (reading_by 0 false)) (uniform_source values) 0 0 cells
  agrees_nothing cells operand index reads = absurd (nothing operand index reads)

  pub value_of_uniforms : (cells : ℕ → ℕ → ℤ)
      → (function_meaning object function (reading_by 0 false)).value (given_by (uniform_source values) cells) 0 0 ≡ invoked object function (map Value values)
  value_of_uniforms cells =
      ap (λ (arguments : List Argument). invoked object function arguments)
      (sym (arguments-are (reading_by 0 false) (given_by (uniform_source values) cells) (record { place = 0; pair = 0 }) 0 0 0 params values only
      (suited-length params (map Value values) suits ∙ length-map-values values)
      (λ k less small. absurd (omega arith))
      (λ k less. slice_get-get_or values (0 + k) (pos 0) less)))

-- the arguments of a call, as they lie in the buffer
pub passed-in : (takes count top : ℕ) (stack : List ℤ) → takes ≡ count → count ≤ top → top ≤ length stack
    → take (top - (top - takes)) (drop (top - takes) stack) ≡ reverse (take count (values_in stack top))
passed-in takes count top stack is enough inside =
    let same : top - (top - takes) ≡ count = omega arith in
    let base : top - takes ≡ top - count = omega arith in
    let whole : top - count + count ≡ top = omega arith in
    ap (λ (n : ℕ). take n (drop (top - takes) stack)) same
    ∙ ap (λ (n : ℕ). take count (drop n stack)) base
    ∙ arguments-in count (top - count) stack (omega arith)
    ∙ ap (λ (n : ℕ). reverse (take count (values_in stack n))) whole

-- where the call of a function leads
module _ (object : Object) (function : ℕ) (stand : Stand) where
  abbrev called : (stack slots : List ℤ) → World → List ℤ → List ℤ → MainNext
  called stack slots world values rest = returning (point_at stand stack slots world) rest (valued (invoked object function (map Value values)) world)

  pub call-goes : (next : Stand) (stack after slots : List ℤ) (world : World) (base : ℕ) (value : ℤ)
      → base + length (signature_at object function).params ≡ stand.top → stand.top ≤ length stack
      → invoked object function (map Value (take (length (signature_at object function).params) (drop base stack))) ≡ Ok value
      → next.at ≡ suc stand.at → values_in after next.top ≡ value ∷ values_in stack base
      → next_in_main object (Call function) (point_at stand stack slots world) ≡ Goes (point_at next after slots world)
  call-goes next stack after slots world base value tall inside is at values =
      many-in (length (signature_at object function).params) base stand.top stack (called stack slots world) tall inside
      ∙ ap (λ (r : Result ℤ Trap). returning (point_at stand stack slots world) (values_in stack base) (valued r world)) is
      ∙ goes-to stand next stack after slots (value ∷ values_in stack base) world world at values

  pub call-traps : (stack slots : List ℤ) (world : World) (base : ℕ) (trap : Trap)
      → base + length (signature_at object function).params ≡ stand.top → stand.top ≤ length stack
      → invoked object function (map Value (take (length (signature_at object function).params) (drop base stack))) ≡ Err trap
      → next_in_main object (Call function) (point_at stand stack slots world) ≡ Ends (Err (record { ending = Trapped trap world.line 0; world = world }))
  call-traps stack slots world base trap tall inside is =
      many-in (length (signature_at object function).params) base stand.top stack (called stack slots world) tall inside
      ∙ ap (λ (r : Result ℤ Trap). returning (point_at stand stack slots world) (values_in stack base) (valued r world)) is

-- uniform arguments that are converted
pub converted-within : (kinds : List ParamKind) (values : List ℤ) (k : ℕ) → k < length (converted_by kinds values) → (k < length kinds) × (k < length values)
converted-within [] values k less = absurd (omega arith)
converted-within (kind ∷ kinds) [] k less = absurd (omega arith)
converted-within (kind ∷ kinds) (value ∷ values) zero less = (omega arith, omega arith)
converted-within (kind ∷ kinds) (value ∷ values) (suc k) less =
    let h = converted-within kinds values k (omega arith) in
    let one = h.0 in
    let other = h.1 in
    (omega arith, omega arith)

pub converted-at : (kinds : List ParamKind) (values : List ℤ) (k : ℕ) (kind : ParamKind) → slice_get kinds k ≡ Some kind → k < length values
    → slice_get (converted_by kinds values) k ≡ Some (wrapped (kind_type kind) (slice_index_or values k (pos 0)))
converted-at [] values k kind is less = cc
converted-at (one ∷ kinds) [] k kind is less = absurd (omega arith)
converted-at (one ∷ kinds) (value ∷ values) zero kind is less =
    ap (λ (kind : ParamKind). Some (wrapped (kind_type kind) value)) (same_Some one kind is)
converted-at (one ∷ kinds) (value ∷ values) (suc k) kind is less = converted-at kinds values k kind is (omega arith)

-- what is there, whatever stands for what is not
pub some-within : {A : Type 0} (xs : List (Option A)) (k : ℕ) → IsSome (slice_index_or xs k None) → k < length xs
some-within [] k there = cc
some-within (x ∷ xs) zero there = omega arith
some-within (x ∷ xs) (suc k) there = let h = some-within xs k there in omega arith

-- an instance of its number means what the instance means
pub of_means : (object : Object) (instance : ℕ) (kernel : Instantiated) → IsOf object instance kernel
    → (plan : Plan) → slice_get object.instances instance ≡ Some plan → meaning_of kernel ≡ instance_meaning object plan default_settings
of_means object instance kernel of plan is =
    ap (λ (o : Object). instance_meaning o kernel.plan default_settings) of.of_object
    ∙ ap (λ (p : Plan). instance_meaning object p default_settings) (same_Some kernel.plan plan (sym of.of_plan ∙ is))
