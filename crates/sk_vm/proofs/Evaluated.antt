-- Values that straight code has at places of a block.
use Rattle.std.proofs.Common.{◌≡◌, inl, inr, ℕ, ◌+◌, ◌-◌, ◌<◌, ◌≤◌, Bool, true, nat_lt, List, [], length, take, drop, replicate, ℤ, pos, Ok, refl, sym, ap, subst, ◌∙◌, arith}
use Rattle.std.specs.Prelude.{Option, Some, slice_get, slice_index_or}
use Rattle.std.proofs.lemmas.Bool.{cases_lt, cond-false, cond-true, le-ltb, lt-ltb}
use Rattle.std.proofs.lemmas.List.{get_or-drop, get_or-replicate, length-take-le}
use Rattle.std.proofs.lemmas.Option.{none-some, slice_get-get_or}
use Rattle.sk_base.specs.Arithmetic.{InRange}
use Rattle.sk_meaning.specs.Evaluation.{turn_limit, value_only}
use Rattle.sk_isa.specs.Coded.{Point, outcome_of, function_of}
use Rattle.sk_isa.specs.Configurations.{Ended}
use Rattle.sk_isa.specs.Objects.{signature_at}
use Rattle.sk_isa.specs.SoundObjects.{HasSoundFunctions}
use Rattle.sk_isa.specs.declared.object.Object.{Object}
use Rattle.sk_columns.specs.Blocks.{Gives, point_of}
use Rattle.sk_columns.specs.Known.{Have}
use Rattle.sk_kernel.specs.Instances.{function_meaning}
use Rattle.sk_kernel.specs.Kernels.{Agree, AgreeRun, Meaning, Source, Suits, SuitsRun, given_by, run_value}
use Rattle.sk_vm.specs.Arguments.{argument_at, CanPass, Passes}
use Rattle.sk_vm.specs.Frames.{CountsPlaces, reading_by}
use Rattle.sk_vm.specs.Lent.{LendsRun, begun_at, begun_in, lent_at, pair_at, place_at}
use Rattle.sk_tree.specs.Parameters.{index_dimension}
use Rattle.sk_tree.specs.declared.tree.ParamKind.{ParamKind}
use Rattle.sk_vm.specs.Places.{ReadsPairs, counted_at, indices_in, takes_columns}
use Rattle.sk_vm.specs.Points.{values_in, point_at}
use Rattle.sk_vm.specs.Rooms.{Begins, begun_with, given_to, instrs_at, slots_at}
use Rattle.sk_vm.proofs.Behind.{behind-drop, behind-first, behind-have, behind-length, behind-others, behind_zeros}
use Rattle.sk_vm.proofs.Calls.{params_fit}
use Rattle.sk_vm.proofs.Coordinates.{fields_given, places_on, reads_places}
use Rattle.sk_vm.proofs.Given.{begins_given, given_suit, passable, value-in_range, value_given}
use Rattle.sk_vm.proofs.Parameters.{lent-param, lent-within, slots, slots-have, slots-others, slots-pass, slots-size}
use Rattle.sk_vm.proofs.Places.{indices_few, place_for}
use Rattle.sk_vm.proofs.Running.{routine_at}
use Rattle.sk_vm.proofs.Starts.{starts}

no_values : (stack : List ℤ) → values_in stack 0 ≡ []
unfolding values_in
no_values stack = refl

-- data that suits a function at places one behind another lends its scalars there
pub lends : (object : Object) → HasSoundFunctions object → (function : ℕ) → function < length object.functions
    → takes_columns (signature_at object function).params ≡ true → (elements : ℕ) (pairs : Bool) → CountsPlaces (index_dimension (signature_at object function).params) pairs
    → (source : Source) (place pair count : ℕ) → SuitsRun (function_meaning object function (reading_by elements pairs)) source place pair count
    → LendsRun source elements pairs place pair (length (signature_at object function).params - indices_in (signature_at object function).params) count
lends object sound function within takes elements pairs counts source place pair count suits behind less =
    passable object sound function within takes (reading_by elements pairs) source (place_at pairs place behind) (pair_at pairs pair behind)
    (reads_places (signature_at object function).params pairs elements counts) (suits behind less)

-- the cells of a block are the values at its places, and of the function's type
pub record AllEvaluated (meaning : Meaning) (source : Source) (place pair : ℕ) (out : List ℤ) : Type 0 where
  pub values : (cells : ℕ → ℕ → ℤ) → AgreeRun meaning source place pair (length out) cells → (behind : ℕ) → behind < length out
      → run_value meaning (given_by source cells) place pair behind ≡ Ok (slice_index_or out behind (pos 0))
  pub range : (behind : ℕ) → behind < length out → InRange meaning.ty (slice_index_or out behind (pos 0))

-- slots have what is known of them
abbrev Holds : (known : ℕ → Option ℤ) → (own : List ℤ) → Type 0
Holds known own = (slot : ℕ) (number : ℤ) → known slot ≡ Some number → slice_get own slot ≡ Some number

-- slots whose first ones have what is known, and all others 0
begun-have : (params size : ℕ) (known : ℕ → Option ℤ) (own : List ℤ) → Holds known own → length own ≡ size
    → drop params own ≡ replicate (length own - params) (pos 0) → Holds (begun_in params size known) own
begun-have params size known own have long others slot number is = elim (cases_lt slot params) [
  | inl less ↦ have slot number (sym (cond-true (nat_lt slot params) _ _ (lt-ltb slot params less)) ∙ is)
  | inr upto ↦ elim (cases_lt slot size) [
    | inl inside ↦
        let back : params + (slot - params) ≡ slot = omega arith in
        let zero_there : slice_index_or own slot (pos 0) ≡ pos 0 =
        ap (λ (n : ℕ). slice_index_or own n (pos 0)) (sym back) ∙ sym (get_or-drop params own (slot - params) (pos 0))
        ∙ ap (λ (xs : List ℤ). slice_index_or xs (slot - params) (pos 0)) others
        ∙ get_or-replicate (length own - params) (slot - params) (pos 0) (pos 0) (omega (arith, long, inside, upto)) in
        let local : Some (pos 0) ≡ Some number =
        sym (cond-false (nat_lt slot params) _ _ (le-ltb slot params upto) ∙ cond-true (nat_lt slot size) _ _ (lt-ltb slot size inside)) ∙ is in
        slice_get-get_or own slot (pos 0) (omega (arith, long, inside)) ∙ ap (λ (x : ℤ). Some x) zero_there ∙ local
    | inr outside ↦ absurd (none-some number (sym (cond-false (nat_lt slot params) _ _ (le-ltb slot params upto) ∙ cond-false (nat_lt slot size) _ _ (le-ltb slot size outside)) ∙ is))
  ]
]

-- the function at one place
module _ (object : Object) (sound : HasSoundFunctions object) (function : ℕ) (within : function < length object.functions)
    (takes : takes_columns (signature_at object function).params ≡ true)
    (elements : ℕ) (pairs : Bool) (counts : CountsPlaces (index_dimension (signature_at object function).params) pairs) (source : Source) (place pair : ℕ)
    (suits : Suits (function_meaning object function (reading_by elements pairs)) source place pair) (there : ℕ)
    (at_place : 0 < indices_in (signature_at object function).params → there ≡ place) (known : ℕ → Option ℤ)
    (known_is : (slot : ℕ) (number : ℤ) → known slot ≡ Some number
    → (slot < length (signature_at object function).params - indices_in (signature_at object function).params) × (argument_at source elements pairs place pair slot ≡ Some number))
    (number : ℤ)
    (gives : Gives (instrs_at object.functions function)
    (begun_at (indices_in (signature_at object function).params) (length (signature_at object function).params - indices_in (signature_at object function).params)
    (slots_at object.functions function - indices_in (signature_at object function).params) there known) number) where
  abbrev params : List ParamKind
  params = (signature_at object function).params

  abbrev indices : ℕ
  indices = indices_in params

  abbrev scalars : ℕ
  scalars = length params - indices

  abbrev others : ℕ
  others = slots_at object.functions function - indices

  fits : length params ≤ slots_at object.functions function
  fits = params_fit object sound function within

  few : scalars ≤ others
  few = omega (arith, fits)

  all : indices + scalars ≡ length params
  all = omega (arith, indices_few params)

  reads : ReadsPairs pairs elements params
  reads = reads_places params pairs elements counts

  can : CanPass source elements pairs place pair scalars
  can = passable object sound function within takes (reading_by elements pairs) source place pair reads suits

  abbrev placed : List ℕ
  placed = counted_at source pairs place pair

  is_placed : 0 < indices → placed ≡ counted_at source pairs place pair
  is_placed some = refl

  abbrev behind : List ℤ
  behind = slots source elements pairs place pair scalars others few can

  behind_size : length behind ≡ others
  behind_size = slots-size source elements pairs place pair scalars others few can

  abbrev own : List ℤ
  own = behind_zeros indices behind

  long : length own ≡ indices + length behind
  long = behind-length indices behind

  size : length own ≡ slots_at object.functions function
  size = omega (arith, long, behind_size, fits, all)

  fit : length params ≤ length own
  fit = omega (arith, fits, size)

  passes : Passes source elements pairs place pair (drop indices (given_to object function own))
  passes =
      subst (λ (xs : List ℤ). Passes source elements pairs place pair xs)
      (sym (ap (λ (n : ℕ). drop indices (take n own)) (sym all) ∙ behind-others indices scalars behind))
      (slots-pass source elements pairs place pair scalars others few can)

  first : take indices (given_to object function own) ≡ replicate indices (pos 0)
  first = ap (λ (n : ℕ). take indices (take n own)) (sym all) ∙ behind-first indices scalars behind

  rest : drop (length params) own ≡ replicate (length own - length params) (pos 0)
  rest =
      let same : length behind - scalars ≡ length own - length params = omega (arith, long, all) in
      ap (λ (n : ℕ). drop n own) (sym all) ∙ behind-drop indices scalars behind
      ∙ slots-others source elements pairs place pair scalars others few can ∙ ap (λ (n : ℕ). replicate n (pos 0)) same

  begins : Begins object function (place_for placed) own
  begins =
      begins_given object sound function within takes (reading_by elements pairs) source place pair reads suits placed is_placed own fit passes first size rest

  have : Holds known behind
  have slot x is =
      let found = known_is slot x is in
      slots-have source elements pairs place pair scalars others few can slot x found.0 found.1

  have_begun : Have (begun_at indices scalars others there known) (begun_with object function (place_for placed) own) own
  have_begun = record {
    stored =
        behind-have indices (begun_in scalars others known) behind
        (begun-have scalars others known behind have behind_size (slots-others source elements pairs place pair scalars others few can));
    given = fields_given params pairs source place pair counts suits.over (given_to object function own) (sym (length-take-le (length params) own fit)) there at_place;
  }

  ended : function_of object function (begun_with object function (place_for placed) own) turn_limit ≡ Ok (number, turn_limit)
  ended =
      let running = starts object sound function within (place_for placed) own begins turn_limit [] (instrs_at object.functions function) refl in
      let routine = routine_at object function running.code (place_for placed) own in
      let run = gives.ends routine own turn_limit (sym running.instrs_are) have_begun in
      let start : point_of 0 [] own turn_limit ≡ point_at (record { at = 0; top = 0; turns = turn_limit }) [] own =
      ap (λ (xs : List ℤ). point_of 0 xs own turn_limit) (sym (no_values [])) in
      running.comes_to run.0 (Ok (number, turn_limit)) (subst (λ (p : Point). outcome_of routine run.0 p ≡ Ended (Ok (number, turn_limit))) start run.1)

  pub value_evaluated : (cells : ℕ → ℕ → ℤ) → Agree (function_meaning object function (reading_by elements pairs)) source place pair cells
      → (function_meaning object function (reading_by elements pairs)).value (given_by source cells) place pair ≡ Ok number
  value_evaluated cells agree =
      sym (value_given object sound function within takes (reading_by elements pairs) source place pair reads suits placed is_placed own fit passes cells agree)
      ∙ ap value_only ended

  pub range_evaluated : InRange (signature_at object function).ret number
  range_evaluated =
      value-in_range object sound function within (begun_with object function (place_for placed) own)
      (given_suit object sound function within takes (reading_by elements pairs) source place pair reads suits placed is_placed own fit passes) number turn_limit ended

-- what is known of the slots is what the data has
lent_is : (source : Source) (elements : ℕ) (pairs : Bool) (place pair scalars behind slot : ℕ) (number : ℤ)
    → lent_at source elements pairs place pair scalars behind slot ≡ Some number
    → (slot < scalars) × (argument_at source elements pairs (place_at pairs place behind) (pair_at pairs pair behind) slot ≡ Some number)
lent_is source elements pairs place pair scalars behind slot number is =
    let less = lent-within source elements pairs place pair scalars behind slot number is in
    (less, sym (lent-param source elements pairs place pair scalars behind slot less) ∙ is)

-- what is evaluated at all places has the function's values
pub all_evaluated : (object : Object) (sound : HasSoundFunctions object) (function : ℕ) (within : function < length object.functions)
    (takes : takes_columns (signature_at object function).params ≡ true)
    (elements : ℕ) (pairs : Bool) (counts : CountsPlaces (index_dimension (signature_at object function).params) pairs) (source : Source) (place pair : ℕ) (out : List ℤ)
    → SuitsRun (function_meaning object function (reading_by elements pairs)) source place pair (length out)
    → ((behind : ℕ) → behind < length out
    → Gives (instrs_at object.functions function)
    (begun_at (indices_in (signature_at object function).params) (length (signature_at object function).params - indices_in (signature_at object function).params)
    (slots_at object.functions function - indices_in (signature_at object function).params) (place + behind)
    (lent_at source elements pairs place pair (length (signature_at object function).params - indices_in (signature_at object function).params) behind))
    (slice_index_or out behind (pos 0)))
    → AllEvaluated (function_meaning object function (reading_by elements pairs)) source place pair out
all_evaluated object sound function within takes elements pairs counts source place pair out suits gives =
    let scalars : ℕ = length (signature_at object function).params - indices_in (signature_at object function).params in
    record {
      values = λ cells agree behind less.
          value_evaluated object sound function within takes elements pairs counts source (place_at pairs place behind) (pair_at pairs pair behind) (suits behind less)
          (place + behind) (places_on (signature_at object function).params pairs place behind counts)
          (lent_at source elements pairs place pair scalars behind) (lent_is source elements pairs place pair scalars behind)
          (slice_index_or out behind (pos 0)) (gives behind less) cells (agree behind less);
      range = λ behind less.
          range_evaluated object sound function within takes elements pairs counts source (place_at pairs place behind) (pair_at pairs pair behind) (suits behind less)
          (place + behind) (places_on (signature_at object function).params pairs place behind counts)
          (lent_at source elements pairs place pair scalars behind) (lent_is source elements pairs place pair scalars behind)
          (slice_index_or out behind (pos 0)) (gives behind less);
    }
