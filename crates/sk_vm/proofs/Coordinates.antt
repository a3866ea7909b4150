-- An index of one dimension, whose coordinate is the place.
use Rattle.std.proofs.Common.{◌≡◌, ℕ, ◌+◌, ◌/◌, ◌<◌, ◌≤◌, Bool, true, false, ◌&&◌, nat_lt, List, [], ◌∷◌, length, ℤ, pos, Option, Some, None, slice_get, unwrap_or, refl, sym, ap, subst, ◌∙◌, arith}
use Rattle.std.specs.Prelude.{codes, if◌then◌else◌}
use Rattle.std.specs.List.{list_all}
use Rattle.std.proofs.lemmas.Bool.{ltb-true}
use Rattle.std.proofs.lemmas.Option.{none-some, same_Some}
use Rattle.sk_arguments.specs.Places.{coordinates_of}
use Rattle.sk_columns.specs.Known.{HasField}
use Rattle.sk_kernel.specs.Kernels.{Source, SuitsOver}
use Rattle.sk_meaning.specs.Evaluation.{Place, field_of}
use Rattle.sk_names.specs.BytesLaws.{same_bytes-true}
use Rattle.sk_tree.specs.Parameters.{index_dimension, is_index_field, is_scalar, leading_scalars}
use Rattle.sk_tree.specs.declared.tree.ParamKind.{ParamKind}
use Rattle.sk_tree.specs.declared.tree.ParamKind.TheVariants.{Scalar, Index, Proxy, Region}
use Rattle.sk_vm.specs.Frames.{CountsPlaces}
use Rattle.sk_vm.specs.Lent.{coordinate_at, place_at}
use Rattle.sk_vm.specs.Places.{ReadsPairs, arguments_with, counted_at, indices_in, takes_columns}
use Rattle.sk_vm.proofs.Places.{place_for}

-- a function whose index is a place alone may be read as it is
pub reads_places : (params : List ParamKind) (pairs : Bool) (elements : ℕ) → CountsPlaces (index_dimension params) pairs → ReadsPairs pairs elements params
reads_places params false elements counts = tt
reads_places [] true elements counts = tt
reads_places (Scalar ty ∷ kinds) true elements counts = tt
reads_places (Proxy dimension ty ∷ kinds) true elements counts = tt
reads_places (Region dimension ty ∷ kinds) true elements counts = tt
reads_places (Index dimension ∷ kinds) true elements counts = let single : true ≡ false = counts.1 in cc

-- no function has more than one index
indices_one : (kinds : List ParamKind) → indices_in kinds ≤ 1
indices_one [] = omega arith
indices_one (Scalar ty ∷ kinds) = omega arith
indices_one (Index dimension ∷ kinds) = omega arith
indices_one (Proxy dimension ty ∷ kinds) = omega arith
indices_one (Region dimension ty ∷ kinds) = omega arith

-- places are counted on where there is an index
pub places_on : (params : List ParamKind) (pairs : Bool) (place behind : ℕ) → CountsPlaces (index_dimension params) pairs → 0 < indices_in params
    → place + behind ≡ place_at pairs place behind
places_on (Index dimension ∷ kinds) pairs place behind counts some = ap (λ (p : Bool). place_at p place behind) (sym counts.1)
places_on [] pairs place behind counts some = absurd (omega arith)
places_on (Scalar ty ∷ kinds) pairs place behind counts some = absurd (omega arith)
places_on (Proxy dimension ty ∷ kinds) pairs place behind counts some = absurd (omega arith)
places_on (Region dimension ty ∷ kinds) pairs place behind counts some = absurd (omega arith)

one_coordinate : (sizes : List ℕ) (place : ℕ) → length sizes ≡ 1 → coordinates_of sizes place ≡ place ∷ []
one_coordinate [] place one = absurd (omega arith)
one_coordinate (own ∷ other ∷ sizes) place one = absurd (omega arith)
one_coordinate (own ∷ []) place one = let whole : place / 1 ≡ place = omega arith in ap (λ (n : ℕ). n ∷ []) whole

one_over : (over : Option (List ℕ)) (place : ℕ) → SuitsOver (Some 1) over place → coordinates_of (unwrap_or over []) place ≡ place ∷ []
one_over None place suits = absurd suits
one_over (Some sizes) place suits = one_coordinate sizes place suits.1

-- what the index is given
counted_place : (params : List ParamKind) (pairs : Bool) (source : Source) (place pair : ℕ) → CountsPlaces (index_dimension params) pairs
    → SuitsOver (if pairs then None else index_dimension params) source.over place → 0 < indices_in params → counted_at source pairs place pair ≡ place ∷ []
counted_place (Index dimension ∷ kinds) true source place pair counts suits some = let single : true ≡ false = counts.1 in cc
counted_place (Index dimension ∷ kinds) false source place pair counts suits some =
    one_over source.over place (subst (λ (n : ℕ). SuitsOver (Some n) source.over place) counts.0 suits)
counted_place [] pairs source place pair counts suits some = absurd (omega arith)
counted_place (Scalar ty ∷ kinds) pairs source place pair counts suits some = absurd (omega arith)
counted_place (Proxy dimension ty ∷ kinds) pairs source place pair counts suits some = absurd (omega arith)
counted_place (Region dimension ty ∷ kinds) pairs source place pair counts suits some = absurd (omega arith)

argument_first : (params : List ParamKind) (placed : List ℕ) (numbers : List ℤ) → length params ≡ length numbers → 0 < indices_in params
    → slice_get (arguments_with params (place_for placed) numbers) 0 ≡ Some (Place placed)
argument_first (Index dimension ∷ kinds) placed [] count some = absurd (omega arith)
argument_first (Index dimension ∷ kinds) placed (number ∷ numbers) count some = refl
argument_first [] placed numbers count some = absurd (omega arith)
argument_first (Scalar ty ∷ kinds) placed numbers count some = absurd (omega arith)
argument_first (Proxy dimension ty ∷ kinds) placed numbers count some = absurd (omega arith)
argument_first (Region dimension ty ∷ kinds) placed numbers count some = absurd (omega arith)

one_field : (place : ℕ) (name : List ℕ) → is_index_field 1 name ≡ true → field_of (Place (place ∷ [])) name ≡ pos place
one_field place name is =
    subst (λ (n : List ℕ). field_of (Place (place ∷ [])) n ≡ pos place) (sym (same_bytes-true name (codes "i") is)) refl

both_are : (one other : Bool) (place : ℕ) (number : ℤ) → (if one && other then Some (pos place) else None) ≡ Some number
    → (one ≡ true) × (other ≡ true) × (pos place ≡ number)
both_are true true place number is = (refl, refl, same_Some _ _ is)
both_are true false place number is = absurd (none-some number is)
both_are false other place number is = absurd (none-some number is)

-- the arguments have what is known of their fields
pub fields_given : (params : List ParamKind) (pairs : Bool) (source : Source) (place pair : ℕ) → CountsPlaces (index_dimension params) pairs
    → SuitsOver (if pairs then None else index_dimension params) source.over place
    → (numbers : List ℤ) → length params ≡ length numbers → (there : ℕ) → (0 < indices_in params → there ≡ place) → (slot : ℕ) (name : List ℕ) (number : ℤ)
    → coordinate_at (indices_in params) there slot name ≡ Some number
    → HasField (arguments_with params (place_for (counted_at source pairs place pair)) numbers) slot name number
fields_given params pairs source place pair counts suits numbers count there at_place slot name number is =
    let both = both_are (nat_lt slot (indices_in params)) (is_index_field 1 name) there number is in
    let less : slot < indices_in params = ltb-true slot (indices_in params) both.0 in
    let one = indices_one params in
    let some : 0 < indices_in params = omega arith in
    let zero_slot : slot ≡ 0 = omega arith in
    let placed = counted_place params pairs source place pair counts suits some in (
      Place (counted_at source pairs place pair),
      ap (λ (n : ℕ). slice_get (arguments_with params (place_for (counted_at source pairs place pair)) numbers) n) zero_slot
          ∙ argument_first params (counted_at source pairs place pair) numbers count some,
      ap (λ (p : List ℕ). field_of (Place p) name) placed ∙ one_field place name both.1 ∙ ap (λ (n : ℕ). pos n) (sym (at_place some)) ∙ both.2,
    )

-- where as many scalars stand before a container as there are parameters, all are scalars
leading_upto : (kinds : List ParamKind) → leading_scalars kinds ≤ length kinds
leading_upto [] = omega arith
leading_upto (Scalar ty ∷ kinds) = let rest = leading_upto kinds in omega arith
leading_upto (Index dimension ∷ kinds) = let rest = leading_upto kinds in omega arith
leading_upto (Proxy dimension ty ∷ kinds) = omega arith
leading_upto (Region dimension ty ∷ kinds) = omega arith

all_leading : (kinds : List ParamKind) → leading_scalars kinds ≡ length kinds → list_all is_scalar kinds ≡ true
all_leading [] count = refl
all_leading (Scalar ty ∷ kinds) count = all_leading kinds (omega arith)
all_leading (Index dimension ∷ kinds) count = let rest = leading_upto kinds in absurd (omega arith)
all_leading (Proxy dimension ty ∷ kinds) count = absurd (omega arith)
all_leading (Region dimension ty ∷ kinds) count = absurd (omega arith)

pub columns_by_count : (params : List ParamKind) → indices_in params + leading_scalars params ≡ length params → takes_columns params ≡ true
columns_by_count [] count = refl
columns_by_count (Scalar ty ∷ kinds) count = all_leading (Scalar ty ∷ kinds) (omega arith)
columns_by_count (Index dimension ∷ kinds) count = all_leading kinds (omega arith)
columns_by_count (Proxy dimension ty ∷ kinds) count = absurd (omega arith)
columns_by_count (Region dimension ty ∷ kinds) count = absurd (omega arith)

pub leading_within : (params : List ParamKind) → indices_in params + leading_scalars params ≤ length params
leading_within [] = omega arith
leading_within (Scalar ty ∷ kinds) = let rest = leading_upto kinds in omega arith
leading_within (Index dimension ∷ kinds) = let rest = leading_upto kinds in omega arith
leading_within (Proxy dimension ty ∷ kinds) = omega arith
leading_within (Region dimension ty ∷ kinds) = omega arith
