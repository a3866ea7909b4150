-- The value of a function that was begun with arguments from data.
use Rattle.std.proofs.Common.{◌≡◌, ℕ, suc, ◌-◌, ◌<◌, ◌≤◌, true, List, length, take, drop, replicate, ℤ, pos, Result, Ok, sym, ap, subst, arith}
use Rattle.std.specs.List.{list_all}
use Rattle.std.proofs.lemmas.List.{length-take-le}
use Rattle.sk_base.specs.declared.number.Trap.{Trap}
use Rattle.sk_base.specs.Arithmetic.{InRange}
use Rattle.sk_meaning.specs.Evaluation.{Argument, turn_limit, value_only}
use Rattle.sk_isa.specs.declared.object.Object.{Object}
use Rattle.sk_isa.specs.declared.object.Signature.{Signature}
use Rattle.sk_isa.specs.Coded.{function_of}
use Rattle.sk_arguments.specs.Arguments.{Reading}
use Rattle.sk_kernel.specs.Instances.{function_meaning}
use Rattle.sk_isa.specs.Objects.{invoked, signature_at}
use Rattle.sk_kernel.specs.Kernels.{Agree, Source, Suits, given_by}
use Rattle.sk_isa.specs.SoundObjects.{HasSoundFunctions, TakesScalars}
use Rattle.sk_isa.specs.Soundness.{SuitParams, is_scalar}
use Rattle.sk_isa_laws.specs.Steps.{IsGiven}
use Rattle.sk_isa_laws.proofs.Callees.{functions_have_values, there}
use Rattle.sk_vm.specs.Arguments.{CanPass, Passes}
use Rattle.sk_tree.specs.declared.tree.ParamKind.{ParamKind}
use Rattle.sk_vm.specs.Places.{ReadsPairs, TakesPlaces, counted_at, indices_in, takes_columns, takes_places}
use Rattle.sk_vm.specs.Rooms.{Begins, begun_with, given_to, slots_at}
use Rattle.sk_vm.proofs.Middle.{params_place, params_scalar, place_slots, scalar_slots}
use Rattle.sk_vm.proofs.Places.{can_pass_behind, defined_with, numbers_with, place_for, suited_with}
use Rattle.sk_vm.proofs.Starts.{signature_at-is}

-- the parameters of each function are scalars, and at most 64
pub scalars_only : (object : Object) → HasSoundFunctions object → TakesScalars object → (function : ℕ) → function < length object.functions
    → (list_all is_scalar (signature_at object function).params ≡ true) × (length (signature_at object function).params ≤ 64)
scalars_only object sound scalars function within =
    let count : length object.signatures ≡ suc (length object.functions) = sound.signatures in
    let code = there object.functions function within in
    let own = there object.signatures function (omega arith) in
    let is_sound = sound.functions function code.0 own.0 code.1 own.1 in
    let P : Signature → Type 0 = λ s. (list_all is_scalar s.params ≡ true) × (length s.params ≤ 64) in
    subst P (sym (signature_at-is object function own.0 own.1))
    (params_scalar own.0.params own.0.slots is_sound.slots (scalar_slots object function own.0 scalars own.1), is_sound.params)

-- a value is of the function's type
pub value-in_range : (object : Object) → HasSoundFunctions object → (function : ℕ) → function < length object.functions → (arguments : List Argument)
    → SuitParams (signature_at object function).params arguments → (value : ℤ) (left : ℕ) → function_of object function arguments turn_limit ≡ Ok (value, left)
    → InRange (signature_at object function).ret value
value-in_range object sound function within arguments suits value left is =
    let count : length object.signatures ≡ suc (length object.functions) = sound.signatures in
    let code = there object.functions function within in
    let own = there object.signatures function (omega arith) in
    let same = signature_at-is object function own.0 own.1 in
    let given = ((functions_have_values object sound).values function own.0 code.0 arguments turn_limit own.1 code.1
    (subst (λ (s : Signature). SuitParams s.params arguments) same suits)).given in
    subst (λ (s : Signature). InRange s.ret value) (sym same)
    (subst (λ (r : Result (ℤ × ℕ) Trap). IsGiven own.0.ret turn_limit r) is given).0

-- the parameters of each function stand in order, and are at most 64
pub places_only : (object : Object) → HasSoundFunctions object → TakesPlaces object → (function : ℕ) → function < length object.functions
    → (takes_places (signature_at object function).params ≡ true) × (length (signature_at object function).params ≤ 64)
places_only object sound parameters function within =
    let count : length object.signatures ≡ suc (length object.functions) = sound.signatures in
    let code = there object.functions function within in
    let own = there object.signatures function (omega arith) in
    let is_sound = sound.functions function code.0 own.0 code.1 own.1 in
    let P : Signature → Type 0 = λ s. (takes_places s.params ≡ true) × (length s.params ≤ 64) in
    subst P (sym (signature_at-is object function own.0 own.1))
    (params_place own.0.params own.0.slots is_sound.slots (place_slots object function own.0 parameters own.1), is_sound.params)

-- data that suits a function of scalars behind an index
module _ (object : Object) (sound : HasSoundFunctions object) (function : ℕ) (within : function < length object.functions)
    (takes : takes_columns (signature_at object function).params ≡ true) (reading : Reading)
    (source : Source) (place pair : ℕ) (pairs : ReadsPairs reading.pairs reading.elements (signature_at object function).params)
    (suits : Suits (function_meaning object function reading) source place pair) where
  abbrev params : List ParamKind
  params = (signature_at object function).params

  pub passable : CanPass source reading.elements reading.pairs place pair (length params - indices_in params)
  passable = can_pass_behind params reading source place pair takes suits.uniforms suits.held

  module _ (placed : List ℕ) (placed_is : 0 < indices_in params → placed ≡ counted_at source reading.pairs place pair)
      (slots : List ℤ) (fit : length params ≤ length slots)
      (passes : Passes source reading.elements reading.pairs place pair (drop (indices_in params) (given_to object function slots))) where
    count : length params ≡ length (given_to object function slots)
    count = sym (length-take-le (length params) slots fit)

    pub given_suit : SuitParams params (begun_with object function (place_for placed) slots)
    given_suit =
        suited_with params reading source place pair takes suits.uniforms suits.held pairs suits.operands suits.over placed placed_is
        (given_to object function slots) count passes

    pub begins_given : take (indices_in params) (given_to object function slots) ≡ replicate (indices_in params) (pos 0)
        → length slots ≡ slots_at object.functions function → drop (length params) slots ≡ replicate (length slots - length params) (pos 0)
        → Begins object function (place_for placed) slots
    begins_given first size others = record {
      count = size;
      suited = given_suit;
      numbers = numbers_with params placed (given_to object function slots) takes count first;
      others = others;
    }

    pub value_given : (cells : ℕ → ℕ → ℤ) → Agree (function_meaning object function reading) source place pair cells
        → value_only (function_of object function (begun_with object function (place_for placed) slots) turn_limit)
        ≡ (function_meaning object function reading).value (given_by source cells) place pair
    value_given cells agree =
        ap (λ (arguments : List Argument). invoked object function arguments)
        (defined_with params reading source place pair takes suits.uniforms suits.held placed placed_is (given_to object function slots) count passes cells agree)
