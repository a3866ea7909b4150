-- Functions that may have an index as their first parameter, and their arguments.
use Rattle.std.proofs.Common.{◌≡◌, ℕ, zero, suc, ◌-◌, ◌/◌, ◌%◌, ◌^◌, ◌<◌, ◌≤◌, Bool, true, false, ◌&&◌, ◌||◌, List, [], ◌∷◌, length, map, take, drop, replicate, ℤ, pos, Option, Some, None, IsSomeAnd, slice_get, slice_index_or, slice_set, unwrap_or, refl, sym, ap, subst, ◌∙◌, arith}
use Rattle.std.specs.Prelude.{All, codes, if◌then◌else◌, nat_le}
use Rattle.std.specs.List.{list_all}
use Rattle.std.proofs.Math.Nat.{div-le_self, mod-le}
use Rattle.std.proofs.lemmas.List.Elements.{All-cons, All-nil}
use Rattle.sk_arguments.specs.Arguments.{Reading, arguments_of, operand_kinds, reads_of, uniform_types}
use Rattle.sk_arguments.specs.Places.{coordinates_of}
use Rattle.sk_base.specs.Arithmetic.{InRange}
use Rattle.sk_base.specs.Shape.{IsShape, cells_of}
use Rattle.sk_isa.specs.SoundObjects.{TakesScalars}
use Rattle.sk_isa.specs.Soundness.{SuitParams, SuitsParam, is_container, is_scalar}
use Rattle.sk_isa.specs.declared.object.Object.{Object}
use Rattle.sk_isa.specs.declared.object.Signature.{Signature}
use Rattle.sk_kernel.specs.Kernels.{AreOfTypes, Source, SuitKinds, SuitsOver, given_by, operand_type, place_in}
use Rattle.sk_meaning.specs.Evaluation.{Argument, Value, Place, named, number_in, place_fields}
use Rattle.sk_names.specs.Bytes.{same_bytes}
use Rattle.sk_names.specs.BytesLaws.{same_bytes-true}
use Rattle.sk_tree.specs.Parameters.{index_dimension, leading_scalars, scalars_then_proxies}
use Rattle.sk_tree.specs.declared.tree.ParamKind.{ParamKind}
use Rattle.sk_tree.specs.declared.tree.ParamKind.TheVariants.{Scalar, Index, Proxy, Region}
use Rattle.sk_vm.specs.Arguments.{CanPass, Passes}
use Rattle.sk_vm.specs.Places.{HasField, IsCounted, OfContainers, ReadsPairs, TakesPlaces, arguments_with, axis_of, counted_at, indices_in, takes_columns, takes_places}
use Rattle.sk_vm.proofs.Arguments.{as_defined, can_pass, suited}

-- scalars stand in order
pub scalars_ordered : (kinds : List ParamKind) → list_all is_scalar kinds ≡ true → scalars_then_proxies kinds ≡ true
scalars_ordered [] scalars = refl
scalars_ordered (Scalar ty ∷ kinds) scalars = scalars_ordered kinds scalars
scalars_ordered (Index dimension ∷ kinds) scalars = cc
scalars_ordered (Proxy dimension ty ∷ kinds) scalars = cc
scalars_ordered (Region dimension ty ∷ kinds) scalars = cc

pub scalars_take_places : (kinds : List ParamKind) → list_all is_scalar kinds ≡ true → takes_places kinds ≡ true
scalars_take_places [] scalars = refl
scalars_take_places (Scalar ty ∷ kinds) scalars = scalars_ordered kinds scalars
scalars_take_places (Index dimension ∷ kinds) scalars = cc
scalars_take_places (Proxy dimension ty ∷ kinds) scalars = cc
scalars_take_places (Region dimension ty ∷ kinds) scalars = cc

-- where no function takes anything but scalars
pub scalars_are_places : (object : Object) → TakesScalars object → TakesPlaces object
scalars_are_places object scalars =
    λ k own within. scalars_take_places (slice_index_or {A = Signature} object.signatures k own).slots (scalars k own within)

-- values suit nothing but scalars, so they are the arguments whatever is given beside
pub values_alone : (kinds : List ParamKind) (other : ℕ → Argument) (numbers : List ℤ) → SuitParams kinds (map Value numbers) → arguments_with kinds other numbers ≡ map Value numbers
values_alone [] other [] suits = refl
values_alone [] other (number ∷ numbers) suits = absurd suits
values_alone (kind ∷ kinds) other [] suits = absurd suits
values_alone (Scalar ty ∷ kinds) other (number ∷ numbers) suits =
    ap (λ (rest : List Argument). Value number ∷ rest) (values_alone kinds (λ slot. other (suc slot)) numbers suits.1)
values_alone (Index dimension ∷ kinds) other (number ∷ numbers) suits = absurd suits.0
values_alone (Proxy dimension ty ∷ kinds) other (number ∷ numbers) suits = absurd suits.0
values_alone (Region dimension ty ∷ kinds) other (number ∷ numbers) suits = absurd suits.0

-- and where values suit parameters, these are scalars
values_suit_scalars : (kinds : List ParamKind) (numbers : List ℤ) → SuitParams kinds (map Value numbers) → list_all is_scalar kinds ≡ true
values_suit_scalars [] numbers suits = refl
values_suit_scalars (kind ∷ kinds) [] suits = absurd suits
values_suit_scalars (Scalar ty ∷ kinds) (number ∷ numbers) suits = values_suit_scalars kinds numbers suits.1
values_suit_scalars (Index dimension ∷ kinds) (number ∷ numbers) suits = absurd suits.0
values_suit_scalars (Proxy dimension ty ∷ kinds) (number ∷ numbers) suits = absurd suits.0
values_suit_scalars (Region dimension ty ∷ kinds) (number ∷ numbers) suits = absurd suits.0

pub values_are_scalars : (kinds : List ParamKind) (numbers : List ℤ) → takes_places kinds ≡ true → SuitParams kinds (map Value numbers) → list_all is_scalar kinds ≡ true
values_are_scalars kinds numbers takes suits = values_suit_scalars kinds numbers suits

-- so none of them is a container
scalar_contained : (kinds : List ParamKind) (slot : ℕ) (kind : ParamKind) → list_all is_scalar kinds ≡ true → slice_get kinds slot ≡ Some kind → is_container kind ≡ true → ⊥
scalar_contained [] slot kind scalars is container = cc
scalar_contained (Scalar ty ∷ kinds) zero kind scalars is container =
    let same : Scalar ty ≡ kind = cc in let no : false ≡ true = ap is_container same ∙ container in cc
scalar_contained (Scalar ty ∷ kinds) (suc slot) kind scalars is container = scalar_contained kinds slot kind scalars is container
scalar_contained (Index dimension ∷ kinds) slot kind scalars is container = cc
scalar_contained (Proxy dimension ty ∷ kinds) slot kind scalars is container = cc
scalar_contained (Region dimension ty ∷ kinds) slot kind scalars is container = cc

pub no_containers : (kinds : List ParamKind) (numbers : List ℤ) (Has : ℕ → Type 0) → SuitParams kinds (map Value numbers) → OfContainers kinds Has
no_containers kinds numbers Has suits slot kind is container = absurd (scalar_contained kinds slot kind (values_suit_scalars kinds numbers suits) is container)

pub numbers_back : (numbers : List ℤ) → map number_in (map Value numbers) ≡ numbers
numbers_back [] = refl
numbers_back (number ∷ numbers) = ap (λ (xs : List ℤ). number ∷ xs) (numbers_back numbers)

-- the arguments for scalars are their numbers
scalars_with : (kinds : List ParamKind) (other : ℕ → Argument) (numbers : List ℤ) → list_all is_scalar kinds ≡ true → length kinds ≡ length numbers
    → map Value numbers ≡ arguments_with kinds other numbers
scalars_with [] other [] scalars count = refl
scalars_with [] other (number ∷ numbers) scalars count = absurd (omega arith)
scalars_with (kind ∷ kinds) other [] scalars count = absurd (omega arith)
scalars_with (Scalar ty ∷ kinds) other (number ∷ numbers) scalars count =
    ap (λ (rest : List Argument). Value number ∷ rest) (scalars_with kinds (λ slot. other (suc slot)) numbers scalars (omega arith))
scalars_with (Index dimension ∷ kinds) other (number ∷ numbers) scalars count = cc
scalars_with (Proxy dimension ty ∷ kinds) other (number ∷ numbers) scalars count = cc
scalars_with (Region dimension ty ∷ kinds) other (number ∷ numbers) scalars count = cc

-- a place stands for every parameter that is no scalar
abbrev pub place_for : (place : List ℕ) → (slot : ℕ) → Argument
place_for place slot = Place place

-- the numbers of arguments are those of the slots, where an index has 0
pub numbers_with : (kinds : List ParamKind) (place : List ℕ) (numbers : List ℤ) → takes_columns kinds ≡ true → length kinds ≡ length numbers
    → take (indices_in kinds) numbers ≡ replicate (indices_in kinds) (pos 0) → map number_in (arguments_with kinds (place_for place) numbers) ≡ numbers
numbers_with [] place numbers takes count first =
    sym (ap (λ (xs : List Argument). map number_in xs) (scalars_with [] (place_for place) numbers takes count)) ∙ numbers_back numbers
numbers_with (Scalar ty ∷ kinds) place numbers takes count first =
    sym (ap (λ (xs : List Argument). map number_in xs) (scalars_with (Scalar ty ∷ kinds) (place_for place) numbers takes count)) ∙ numbers_back numbers
numbers_with (Proxy dimension ty ∷ kinds) place numbers takes count first = cc
numbers_with (Region dimension ty ∷ kinds) place numbers takes count first = cc
numbers_with (Index dimension ∷ kinds) place [] takes count first = absurd (omega arith)
numbers_with (Index dimension ∷ kinds) place (number ∷ numbers) takes count first =
    let zero_first : pos 0 ≡ number = let same : number ∷ [] ≡ pos 0 ∷ [] = first in cc in
    ap (λ (x : ℤ). x ∷ map number_in (arguments_with kinds (place_for place) numbers)) zero_first
    ∙ ap (λ (xs : List ℤ). number ∷ xs)
    (sym (ap (λ (xs : List Argument). map number_in xs) (scalars_with kinds (place_for place) numbers takes (omega arith))) ∙ numbers_back numbers)

-- an index is a parameter
pub indices_few : (kinds : List ParamKind) → indices_in kinds ≤ length kinds
indices_few [] = omega arith
indices_few (Scalar ty ∷ kinds) = omega arith
indices_few (Index dimension ∷ kinds) = omega arith
indices_few (Proxy dimension ty ∷ kinds) = omega arith
indices_few (Region dimension ty ∷ kinds) = omega arith

-- coordinates are no greater than the index
length-coordinates : (sizes : List ℕ) (index : ℕ) → length (coordinates_of sizes index) ≡ length sizes
length-coordinates [] index = refl
length-coordinates (size ∷ sizes) index = ap suc (length-coordinates sizes (index % cells_of sizes))

coordinates-below : (sizes : List ℕ) (index bound : ℕ) → index < bound → All (λ (coordinate : ℕ). coordinate < bound) (coordinates_of sizes index)
coordinates-below [] index bound less = All-nil (λ (coordinate : ℕ). coordinate < bound)
coordinates-below (size ∷ sizes) index bound less =
    let quotient = div-le_self index (cells_of sizes) in
    let rest = mod-le index (cells_of sizes) in
    All-cons (λ (coordinate : ℕ). coordinate < bound) (index / cells_of sizes) (coordinates_of sizes (index % cells_of sizes)) (omega arith)
    (coordinates-below sizes (index % cells_of sizes) bound (omega arith))

-- what an index is given, in a container
in_container : (dimension : ℕ) (over : Option (List ℕ)) (place : ℕ) → SuitsOver (Some dimension) over place
    → SuitsParam (Index dimension) (Place (coordinates_of (unwrap_or over []) place))
in_container dimension None place suits = absurd suits
in_container dimension (Some sizes) place suits =
    let bounded = suits.0.product in
    let inside = suits.2 in
    (length-coordinates sizes place ∙ suits.1, coordinates-below sizes place (2 ^ 24) (omega arith))

-- and at a pair of places
two_below : (place pair : ℕ) → place < 2 ^ 24 → pair < 2 ^ 24 → All (λ (coordinate : ℕ). coordinate < 2 ^ 24) (place ∷ pair ∷ [])
two_below place pair first second =
    All-cons (λ (coordinate : ℕ). coordinate < 2 ^ 24) place (pair ∷ []) first
    (All-cons (λ (coordinate : ℕ). coordinate < 2 ^ 24) pair [] second (All-nil (λ (coordinate : ℕ). coordinate < 2 ^ 24)))

at_pairs : (kinds : List ParamKind) (shapes : List (List ℕ)) (place pair : ℕ) → scalars_then_proxies kinds ≡ true → 2 ≤ leading_scalars kinds
    → SuitKinds (operand_kinds 2 kinds) shapes (place_in true place pair) → SuitsParam (Index 2) (Place (place ∷ pair ∷ []))
at_pairs [] shapes place pair ordered many suits = absurd (omega arith)
at_pairs (Scalar one ∷ []) shapes place pair ordered many suits = absurd (omega arith)
at_pairs (Scalar one ∷ Scalar other ∷ kinds) [] place pair ordered many suits = absurd suits
at_pairs (Scalar one ∷ Scalar other ∷ kinds) (sizes ∷ []) place pair ordered many suits = absurd suits.1
at_pairs (Scalar one ∷ Scalar other ∷ kinds) (sizes ∷ others ∷ shapes) place pair ordered many suits =
    let first : place < cells_of sizes = suits.0.1 in
    let second : pair < cells_of others = suits.1.0.1 in
    let bounded = suits.0.0.product in
    let bounded_too = suits.1.0.0.product in
    (refl, two_below place pair (omega arith) (omega arith))
at_pairs (Scalar one ∷ Index dimension ∷ kinds) shapes place pair ordered many suits = cc
at_pairs (Scalar one ∷ Proxy dimension ty ∷ kinds) shapes place pair ordered many suits = absurd (omega arith)
at_pairs (Scalar one ∷ Region dimension ty ∷ kinds) shapes place pair ordered many suits = cc
at_pairs (Index dimension ∷ kinds) shapes place pair ordered many suits = cc
at_pairs (Proxy dimension ty ∷ kinds) shapes place pair ordered many suits = absurd (omega arith)
at_pairs (Region dimension ty ∷ kinds) shapes place pair ordered many suits = cc

pub place_suits : (dimension : ℕ) (kinds : List ParamKind) (elements : ℕ) (pairs : Bool) (source : Source) (place pair : ℕ) → scalars_then_proxies kinds ≡ true
    → ReadsPairs pairs elements (Index dimension ∷ kinds) → SuitKinds (operand_kinds elements kinds) source.shapes (place_in pairs place pair)
    → SuitsOver (if pairs then None else Some dimension) source.over place → SuitsParam (Index dimension) (Place (counted_at source pairs place pair))
place_suits dimension kinds elements false source place pair ordered reads operands over = in_container dimension source.over place over
place_suits dimension kinds elements true source place pair ordered reads operands over =
    subst (λ (d : ℕ). SuitsParam (Index d) (Place (place ∷ pair ∷ []))) (sym reads.0)
    (at_pairs kinds source.shapes place pair ordered reads.2
    (subst (λ (n : ℕ). SuitKinds (operand_kinds n kinds) source.shapes (place_in true place pair)) reads.1 operands))

-- the place of an index lies in its container
pub place_counted : (params : List ParamKind) (pairs : Bool) (over : Option (List ℕ)) (source : Source) (place : ℕ) → source.over ≡ over
    → SuitsOver (if pairs then None else index_dimension params) source.over place → 0 < indices_in params → IsCounted source pairs place
place_counted params true over source place is suits some = tt
place_counted [] false over source place is suits some = absurd (omega arith)
place_counted (Scalar ty ∷ kinds) false over source place is suits some = absurd (omega arith)
place_counted (Proxy dimension ty ∷ kinds) false over source place is suits some = absurd (omega arith)
place_counted (Region dimension ty ∷ kinds) false over source place is suits some = absurd (omega arith)
place_counted (Index dimension ∷ kinds) false None source place is suits some =
    absurd (subst (λ (o : Option (List ℕ)). SuitsOver (Some dimension) o place) is suits)
place_counted (Index dimension ∷ kinds) false (Some sizes) source place is suits some =
    let there = subst (λ (o : Option (List ℕ)). SuitsOver (Some dimension) o place) is suits in
    subst (λ (o : Option (List ℕ)). IsSomeAnd o (λ sizes. IsShape sizes × (place < cells_of sizes))) (sym is) (there.0, there.2)

-- data that suits a function at a place: what it has for the scalars
abbrev pub HoldsFor : (params : List ParamKind) → Reading → Source → (place pair : ℕ) → Type 0
HoldsFor params reading source place pair =
    (operand index : ℕ) → reads_of reading params source.shapes (record { place = place; pair = pair }) operand index ≡ true
    → IsSomeAnd (source.held operand index) (InRange (operand_type (operand_kinds reading.elements params) operand))

pub can_pass_behind : (params : List ParamKind) (reading : Reading) (source : Source) (place pair : ℕ) → takes_columns params ≡ true
    → AreOfTypes (uniform_types reading.elements params) source.uniforms → HoldsFor params reading source place pair
    → CanPass source reading.elements reading.pairs place pair (length params - indices_in params)
can_pass_behind [] reading source place pair takes uniforms held = λ k less. absurd (omega arith)
can_pass_behind (Scalar ty ∷ kinds) reading source place pair takes uniforms held =
    let same : suc (length kinds) ≡ suc (length kinds) - 0 = omega arith in
    subst (λ (n : ℕ). CanPass source reading.elements reading.pairs place pair n) same (can_pass (Scalar ty ∷ kinds) reading source place pair takes uniforms held)
can_pass_behind (Index dimension ∷ kinds) reading source place pair takes uniforms held =
    let same : length kinds ≡ suc (length kinds) - 1 = omega arith in
    subst (λ (n : ℕ). CanPass source reading.elements reading.pairs place pair n) same (can_pass kinds reading source place pair takes uniforms held)
can_pass_behind (Proxy dimension ty ∷ kinds) reading source place pair takes uniforms held = cc
can_pass_behind (Region dimension ty ∷ kinds) reading source place pair takes uniforms held = cc

-- its arguments suit it
pub suited_with : (params : List ParamKind) (reading : Reading) (source : Source) (place pair : ℕ) → takes_columns params ≡ true
    → AreOfTypes (uniform_types reading.elements params) source.uniforms → HoldsFor params reading source place pair
    → ReadsPairs reading.pairs reading.elements params → SuitKinds (operand_kinds reading.elements params) source.shapes (place_in reading.pairs place pair)
    → SuitsOver (if reading.pairs then None else index_dimension params) source.over place
    → (placed : List ℕ) → (0 < indices_in params → placed ≡ counted_at source reading.pairs place pair)
    → (numbers : List ℤ) → length params ≡ length numbers → Passes source reading.elements reading.pairs place pair (drop (indices_in params) numbers)
    → SuitParams params (arguments_with params (place_for placed) numbers)
suited_with [] reading source place pair takes uniforms held reads operands over placed is numbers count passes =
    subst (λ (xs : List Argument). SuitParams [] xs) (scalars_with [] (place_for placed) numbers takes count)
    (suited [] reading source place pair takes uniforms held numbers count passes)
suited_with (Scalar ty ∷ kinds) reading source place pair takes uniforms held reads operands over placed is numbers count passes =
    subst (λ (xs : List Argument). SuitParams (Scalar ty ∷ kinds) xs) (scalars_with (Scalar ty ∷ kinds) (place_for placed) numbers takes count)
    (suited (Scalar ty ∷ kinds) reading source place pair takes uniforms held numbers count passes)
suited_with (Index dimension ∷ kinds) reading source place pair takes uniforms held reads operands over placed is [] count passes = absurd (omega arith)
suited_with (Index dimension ∷ kinds) reading source place pair takes uniforms held reads operands over placed is (number ∷ numbers) count passes = (
  subst (λ (p : List ℕ). SuitsParam (Index dimension) (Place p)) (sym (is (omega arith)))
      (place_suits dimension kinds reading.elements reading.pairs source place pair (scalars_ordered kinds takes) reads operands over),
  subst (λ (xs : List Argument). SuitParams kinds xs) (scalars_with kinds (place_for placed) numbers takes (omega arith))
      (suited kinds reading source place pair takes uniforms held numbers (omega arith) passes),
)
suited_with (Proxy dimension ty ∷ kinds) reading source place pair takes uniforms held reads operands over placed is numbers count passes = cc
suited_with (Region dimension ty ∷ kinds) reading source place pair takes uniforms held reads operands over placed is numbers count passes = cc

-- and are those of the definition
pub defined_with : (params : List ParamKind) (reading : Reading) (source : Source) (place pair : ℕ) → takes_columns params ≡ true
    → AreOfTypes (uniform_types reading.elements params) source.uniforms → HoldsFor params reading source place pair
    → (placed : List ℕ) → (0 < indices_in params → placed ≡ counted_at source reading.pairs place pair)
    → (numbers : List ℤ) → length params ≡ length numbers → Passes source reading.elements reading.pairs place pair (drop (indices_in params) numbers)
    → (cells : ℕ → ℕ → ℤ)
    → ((operand index : ℕ) → reads_of reading params source.shapes (record { place = place; pair = pair }) operand index ≡ true → source.held operand index ≡ Some (cells operand index))
    → arguments_with params (place_for placed) numbers ≡ arguments_of reading params (given_by source cells) (record { place = place; pair = pair })
defined_with [] reading source place pair takes uniforms held placed is numbers count passes cells agree =
    sym (scalars_with [] (place_for placed) numbers takes count) ∙ as_defined [] reading source place pair takes uniforms held numbers count passes cells agree
defined_with (Scalar ty ∷ kinds) reading source place pair takes uniforms held placed is numbers count passes cells agree =
    sym (scalars_with (Scalar ty ∷ kinds) (place_for placed) numbers takes count) ∙ as_defined (Scalar ty ∷ kinds) reading source place pair takes uniforms held numbers count passes cells agree
defined_with (Index dimension ∷ kinds) reading source place pair takes uniforms held placed is [] count passes cells agree = absurd (omega arith)
defined_with (Index dimension ∷ kinds) reading source place pair takes uniforms held placed is (number ∷ numbers) count passes cells agree =
    ap (λ (rest : List Argument). Place placed ∷ rest) (sym (scalars_with kinds (place_for placed) numbers takes (omega arith)))
    ∙ ap (λ (p : List ℕ). Place p ∷ map Value numbers) (is (omega arith))
    ∙ ap (λ (rest : List Argument). Place (counted_at source reading.pairs place pair) ∷ rest)
    (as_defined kinds reading source place pair takes uniforms held numbers (omega arith) passes cells agree)
defined_with (Proxy dimension ty ∷ kinds) reading source place pair takes uniforms held placed is numbers count passes cells agree = cc
defined_with (Region dimension ty ∷ kinds) reading source place pair takes uniforms held placed is numbers count passes cells agree = cc

-- which coordinate a field reads
four_ways : (P : Type 0) (a b c d : Bool) → (a || b || c || d) ≡ true → (a ≡ true → P) → (b ≡ true → P) → (c ≡ true → P) → (d ≡ true → P) → P
four_ways P true b c d e first second third fourth = first refl
four_ways P false true c d e first second third fourth = second refl
four_ways P false false true d e first second third fourth = third refl
four_ways P false false false true e first second third fourth = fourth refl
four_ways P false false false false e first second third fourth = cc

-- a name reads the coordinate of its first letter
pub record Reads (place : List ℕ) (name : List ℕ) : Type 0 where
  pub inside : axis_of name < length place
  pub is : named (place_fields place) place name ≡ slice_index_or place (axis_of name) 0

by_name : (place : List ℕ) (name word : List ℕ) → Reads place word → same_bytes name word ≡ true → Reads place name
by_name place name word reads same = subst (λ (n : List ℕ). Reads place n) (sym (same_bytes-true name word same)) reads

two_ways : (P : Type 0) (a b : Bool) → (a || b) ≡ true → (a ≡ true → P) → (b ≡ true → P) → P
two_ways P true b e first second = first refl
two_ways P false true e first second = second refl
two_ways P false false e first second = cc

pub reads_axis : (place name : List ℕ) → HasField place name → Reads place name
reads_axis [] name has = let some : 1 ≤ 0 = has.some in absurd (omega arith)
reads_axis (i ∷ []) name has = by_name (i ∷ []) name (codes "i") (record { inside = omega arith; is = refl }) has.field
reads_axis (row ∷ col ∷ []) name has =
    let place = row ∷ col ∷ [] in
    two_ways (Reads place name) (same_bytes name (codes "row")) (same_bytes name (codes "col")) has.field
    (by_name place name (codes "row") (record { inside = omega arith; is = refl }))
    (by_name place name (codes "col") (record { inside = omega arith; is = refl }))
reads_axis (i ∷ j ∷ k ∷ []) name has =
    let place = i ∷ j ∷ k ∷ [] in
    four_ways (Reads place name) (same_bytes name (codes "i")) (same_bytes name (codes "j")) (same_bytes name (codes "k")) (nat_le 4 3 && same_bytes name (codes "l")) has.field
    (by_name place name (codes "i") (record { inside = omega arith; is = refl }))
    (by_name place name (codes "j") (record { inside = omega arith; is = refl }))
    (by_name place name (codes "k") (record { inside = omega arith; is = refl }))
    (λ no. let not_so : false ≡ true = no in cc)
reads_axis (i ∷ j ∷ k ∷ l ∷ []) name has =
    let place = i ∷ j ∷ k ∷ l ∷ [] in
    four_ways (Reads place name) (same_bytes name (codes "i")) (same_bytes name (codes "j")) (same_bytes name (codes "k")) (nat_le 4 4 && same_bytes name (codes "l")) has.field
    (by_name place name (codes "i") (record { inside = omega arith; is = refl }))
    (by_name place name (codes "j") (record { inside = omega arith; is = refl }))
    (by_name place name (codes "k") (record { inside = omega arith; is = refl }))
    (by_name place name (codes "l") (record { inside = omega arith; is = refl }))
reads_axis (i ∷ j ∷ k ∷ l ∷ m ∷ more) name has =
    let few : suc (suc (suc (suc (suc (length more))))) ≤ 4 = has.few in absurd (omega arith)

-- the one coordinate of a place in a vector, as it was written
pub one_written : (sizes numbers : List ℕ) (index : ℕ) → length sizes ≡ 1 → length numbers ≡ length sizes → slice_set numbers 0 index ≡ coordinates_of sizes index
one_written [] numbers index one size = absurd (omega arith)
one_written (own ∷ other ∷ sizes) numbers index one size = absurd (omega arith)
one_written (own ∷ []) [] index one size = absurd (omega arith)
one_written (own ∷ []) (first ∷ second ∷ numbers) index one size = absurd (omega arith)
one_written (own ∷ []) (first ∷ []) index one size = let whole : index ≡ index / 1 = omega arith in ap (λ (n : ℕ). n ∷ []) whole

-- the place and the pair, as they were written
pub two_written : (numbers : List ℕ) (place pair : ℕ) → 2 ≤ length numbers
    → take 2 (slice_set (slice_set numbers 0 place) 1 pair) ≡ place ∷ pair ∷ []
two_written [] place pair many = absurd (omega arith)
two_written (first ∷ []) place pair many = absurd (omega arith)
two_written (first ∷ second ∷ numbers) place pair many = refl
