-- The start of a function that reads its arguments from data.
use Rattle.std.proofs.Common.{◌≡◌, ℕ, zero, suc, ◌+◌, ◌-◌, ◌<◌, ◌≤◌, Bool, true, false, nat_lt, List, [], ◌∷◌, ◌++◌, length, take, drop, map, replicate, ℤ, pos, Option, Some, None, IsSome, IsSomeAnd, slice_get, slice_index_or, unwrap_or, refl, sym, ap, subst, ◌∙◌, arith}
use Rattle.std.specs.Prelude.{if◌then◌else◌}
use Rattle.std.proofs.lemmas.Bool.{cond-false, cond-true, le-ltb, lt-ltb}
use Rattle.std.proofs.lemmas.List.{length-append, length-map, length-replicate}
use Rattle.std.proofs.lemmas.Option.{slice_get_within}
use Rattle.std.proofs.Math.Seq.{drop-append_seam, take-append_seam}
use Rattle.sk_base.specs.Arithmetic.{InRange}
use Rattle.sk_base.specs.Shape.{cells_of}
use Rattle.sk_base.specs.declared.number.Ty.{Ty}
use Rattle.sk_base.specs.declared.number.Trap.{Trap}
use Rattle.sk_meaning.specs.Evaluation.{Argument, Value, Place, Whole, Neighbours, number_in}
use Rattle.sk_tree.specs.Parameters.{index_dimension, is_scalar, leading_scalars}
use Rattle.sk_tree.specs.declared.tree.ParamKind.{ParamKind}
use Rattle.sk_tree.specs.declared.tree.ParamKind.TheVariants.{Scalar, Index, Proxy, Region}
use Rattle.sk_arguments.specs.Arguments.{At, Given, Reading, arguments_of, element_index, operand_kinds, reads_of, shape_of, uniform_types, whole_of}
use Rattle.sk_kernel.specs.Instances.{function_meaning}
use Rattle.sk_kernel.specs.Kernels.{Agree, AreOfTypes, IsAlike, Source, SuitKinds, Suits, SuitsOver, given_by, operand_type, place_in}
use Rattle.sk_isa.specs.Coded.{function_of}
use Rattle.sk_isa.specs.Objects.{invoked, signature_at}
use Rattle.sk_isa.specs.Soundness.{SuitParams, SuitsParam, is_container}
use Rattle.sk_isa.specs.declared.object.Object.{Object}
use Rattle.sk_isa_laws.proofs.TypedLists.{suited-length, typed_at}
use Rattle.sk_vm.specs.Places.{OfContainers, ReadsPairs, arguments_with, counted_at, indices_in, takes_places}
use Rattle.sk_vm.specs.Rooms.{Begins, begun_with, given_to, slots_at}
use Rattle.sk_vm.specs.Surroundings.{CanRead, IsThere, held_by, other_in, skipped_by}
use Rattle.sk_vm.proofs.Arguments.{same_test, taken}
use Rattle.sk_vm.proofs.Containers.{container_stands, index_stands}
use Rattle.sk_vm.proofs.Finds.{no_neighbours}
use Rattle.sk_vm.proofs.Places.{place_suits}
use Rattle.sk_vm.proofs.Suited.{OperandSuits, arguments_alike, arguments_suit, can_read_after, from_none, kind_at, kind_reads, within_numbers}

-- arguments are those by the numbers of scalars and what stands for every other parameter
pub rebuilt : (params : List ParamKind) (arguments : List Argument) (other : ℕ → Argument) → SuitParams params arguments
    → ((slot : ℕ) (kind : ParamKind) → slice_get params slot ≡ Some kind → is_scalar kind ≡ false → slice_get arguments slot ≡ Some (other slot))
    → arguments_with params other (map number_in arguments) ≡ arguments
rebuilt [] [] other suits others = refl
rebuilt [] (argument ∷ arguments) other suits others = absurd suits
rebuilt (kind ∷ params) [] other suits others = absurd suits
rebuilt (Scalar ty ∷ params) (Value value ∷ arguments) other suits others =
    ap (λ (rest : List Argument). Value value ∷ rest) (rebuilt params arguments (λ slot. other (suc slot)) suits.1 (λ slot kind is not. others (suc slot) kind is not))
rebuilt (Scalar ty ∷ params) (Place place ∷ arguments) other suits others = absurd suits.0
rebuilt (Scalar ty ∷ params) (Whole sizes cells ∷ arguments) other suits others = absurd suits.0
rebuilt (Scalar ty ∷ params) (Neighbours overlaps at ∷ arguments) other suits others = absurd suits.0
rebuilt (Index dimension ∷ params) (argument ∷ arguments) other suits others =
    ap (λ (first : Argument). first ∷ arguments_with params (λ slot. other (suc slot)) (map number_in arguments)) (sym (same_argument argument (other 0) (others 0 (Index dimension) refl refl)))
    ∙ ap (λ (rest : List Argument). argument ∷ rest) (rebuilt params arguments (λ slot. other (suc slot)) suits.1 (λ slot kind is not. others (suc slot) kind is not))
  where
    same_argument : (one two : Argument) → Some one ≡ Some two → one ≡ two
    same_argument one two is = cc
rebuilt (Proxy dimension ty ∷ params) (argument ∷ arguments) other suits others =
    ap (λ (first : Argument). first ∷ arguments_with params (λ slot. other (suc slot)) (map number_in arguments)) (sym (same_argument argument (other 0) (others 0 (Proxy dimension ty) refl refl)))
    ∙ ap (λ (rest : List Argument). argument ∷ rest) (rebuilt params arguments (λ slot. other (suc slot)) suits.1 (λ slot kind is not. others (suc slot) kind is not))
  where
    same_argument : (one two : Argument) → Some one ≡ Some two → one ≡ two
    same_argument one two is = cc
rebuilt (Region dimension ty ∷ params) (argument ∷ arguments) other suits others =
    ap (λ (first : Argument). first ∷ arguments_with params (λ slot. other (suc slot)) (map number_in arguments)) (sym (same_argument argument (other 0) (others 0 (Region dimension ty) refl refl)))
    ∙ ap (λ (rest : List Argument). argument ∷ rest) (rebuilt params arguments (λ slot. other (suc slot)) suits.1 (λ slot kind is not. others (suc slot) kind is not))
  where
    same_argument : (one two : Argument) → Some one ≡ Some two → one ≡ two
    same_argument one two is = cc

held_is : (P : ℤ → Type 0) (found : Option ℤ) → IsSomeAnd found P → P (unwrap_or found (pos 0))
held_is P None h = absurd h
held_is P (Some x) h = h

some_of : (P : ℤ → Type 0) (found : Option ℤ) → IsSomeAnd found P → IsSome found
some_of P None h = absurd h
some_of P (Some x) h = refl

held_cell : (found : Option ℤ) (x : ℤ) → found ≡ Some x → unwrap_or found (pos 0) ≡ x
held_cell found x is = ap (λ (o : Option ℤ). unwrap_or o (pos 0)) is

-- parameters of which none is a region have no region for an operand
operand_param : (elements : ℕ) (kinds : List ParamKind) (k dimension : ℕ) (ty : Ty) → slice_get (operand_kinds elements kinds) k ≡ Some (Region dimension ty)
    → (slot : ℕ) × (slice_get kinds slot ≡ Some (Region dimension ty))
operand_param elements [] k dimension ty is = cc
operand_param elements (Index own ∷ kinds) k dimension ty is = let rest = operand_param elements kinds k dimension ty is in (suc rest.0, rest.1)
operand_param zero (Scalar own ∷ kinds) k dimension ty is = let rest = operand_param zero kinds k dimension ty is in (suc rest.0, rest.1)
operand_param (suc fewer) (Scalar own ∷ kinds) zero dimension ty is = cc
operand_param (suc fewer) (Scalar own ∷ kinds) (suc k) dimension ty is = let rest = operand_param fewer kinds k dimension ty is in (suc rest.0, rest.1)
operand_param elements (Region own element ∷ kinds) zero dimension ty is = (0, is)
operand_param elements (Region own element ∷ kinds) (suc k) dimension ty is = let rest = operand_param elements kinds k dimension ty is in (suc rest.0, rest.1)
operand_param elements (Proxy own element ∷ kinds) zero dimension ty is = cc
operand_param elements (Proxy own element ∷ kinds) (suc k) dimension ty is = let rest = operand_param elements kinds k dimension ty is in (suc rest.0, rest.1)

pub no_region_operand : (params : List ParamKind) (elements k dimension : ℕ) (ty : Ty) → takes_places params ≡ true
    → slice_get (operand_kinds elements params) k ≡ Some (Region dimension ty) → ⊥
no_region_operand params elements k dimension ty takes is =
    let found = operand_param elements params k dimension ty is in no_neighbours params found.0 dimension ty takes found.1

-- what an index is given suits it
pub index_suits : (params : List ParamKind) (elements : ℕ) (pairs : Bool) (source : Source) (place pair : ℕ) → takes_places params ≡ true → ReadsPairs pairs elements params
    → SuitKinds (operand_kinds elements params) source.shapes (place_in pairs place pair)
    → SuitsOver (if pairs then None else index_dimension params) source.over place
    → (slot dimension : ℕ) → slice_get params slot ≡ Some (Index dimension) → SuitsParam (Index dimension) (Place (counted_at source pairs place pair))
index_suits params elements pairs source place pair takes reads operands over slot dimension is =
    let stands = index_stands params slot dimension takes is in
    place_suits dimension stands.kinds elements pairs source place pair stands.ordered
    (subst (λ (ps : List ParamKind). ReadsPairs pairs elements ps) stands.is reads)
    (subst (λ (ps : List ParamKind). SuitKinds (operand_kinds elements ps) source.shapes (place_in pairs place pair)) stands.is operands)
    (subst (λ (ps : List ParamKind). SuitsOver (if pairs then None else index_dimension ps) source.over place) stands.is over)

-- data that suits a function
module _ (object : Object) (function : ℕ) (takes : takes_places (signature_at object function).params ≡ true) (reading : Reading)
    (source : Source) (place pair : ℕ) (pairs : ReadsPairs reading.pairs reading.elements (signature_at object function).params)
    (suits : Suits (function_meaning object function reading) source place pair) where
  abbrev params : List ParamKind
  params = (signature_at object function).params

  abbrev at : At
  at = record { place = place; pair = pair }

  abbrev kinds : List ParamKind
  kinds = operand_kinds reading.elements params

  abbrev pub arguments : List Argument
  arguments = arguments_of reading params (held_by source) at

  pub suited : SuitParams params arguments
  suited =
      arguments_suit params reading (held_by source) place pair suits.operands
      (λ operand index reads. held_is (InRange (operand_type kinds operand)) (source.held operand index) (suits.held operand index reads))
      (λ k dimension ty is. absurd (no_region_operand params reading.elements k dimension ty takes is))
      (index_suits params reading.elements reading.pairs source place pair takes pairs suits.operands suits.over) suits.uniforms

  pub readable : CanRead source reading at (taken reading.elements 0 0) params
  readable =
      can_read_after source reading at reading.elements 0 0 params
      (λ k ty is. subst (λ (n : ℕ). IsSome (source.held n (element_index reading at n))) (from_none k) (held_element k ty is))
      (λ k ty is. subst (λ (n : ℕ). n < length source.uniforms) (from_none k)
      (within_numbers ty source.uniforms k (typed_at (uniform_types reading.elements params) source.uniforms k ty suits.uniforms is)))
    where
      held_element : (k : ℕ) (ty : Ty) → slice_get kinds k ≡ Some (Scalar ty) → IsSome (source.held k (element_index reading at k))
      held_element k ty is =
          some_of (InRange (operand_type kinds k)) (source.held k (element_index reading at k))
          (suits.held k (element_index reading at k) (kind_reads params reading (held_by source) place pair k (Scalar ty) (element_index reading at k) is (same_test (element_index reading at k))))

  -- what stands for parameters that are no scalars
  module _ (placed : List ℕ) (indices skipped : ℕ) (placed_is : 0 < indices → placed ≡ counted_at source reading.pairs place pair)
      (indices_is : indices ≡ indices_in params) (skipped_is : skipped ≡ skipped_by (indices_in params) (leading_scalars params) reading.elements) where
    abbrev other : ℕ → Argument
    other = other_in (Some source) placed indices skipped

    index_given : (slot dimension : ℕ) → slice_get params slot ≡ Some (Index dimension) → slice_get arguments slot ≡ Some (other slot)
    index_given slot dimension is =
        let stands = index_stands params slot dimension takes is in
        let one : indices ≡ 1 = indices_is ∙ ap indices_in stands.is in
        let some : 0 < indices = omega arith in
        let here : slice_get arguments slot ≡ Some (Place (counted_at source reading.pairs place pair)) =
        ap (λ (n : ℕ). slice_get arguments n) stands.first ∙ ap (λ (ps : List ParamKind). slice_get (arguments_of reading ps (held_by source) at) 0) stands.is in
        let within : slot < indices = omega (arith, stands.first) in
        here ∙ ap (λ (p : List ℕ). Some (Place p)) (sym (placed_is some)) ∙ ap (λ (a : Argument). Some a) (sym (cond-true (nat_lt slot indices) _ _ (lt-ltb slot indices within)))

    container_given : (slot : ℕ) (kind : ParamKind) → slice_get params slot ≡ Some kind → is_container kind ≡ true → slice_get arguments slot ≡ Some (other slot)
    container_given slot kind is container =
        let stands = container_stands reading (held_by source) at params slot kind takes is container in
        let behind : indices ≤ slot = omega (arith, stands.behind) in
        stands.argument ∙ ap (λ (n : ℕ). Some (whole_of (held_by source) (slot - n))) (sym skipped_is)
        ∙ ap (λ (a : Argument). Some a) (sym (cond-false (nat_lt slot indices) _ _ (le-ltb slot indices behind)))

    others_given : (slot : ℕ) (kind : ParamKind) → slice_get params slot ≡ Some kind → is_scalar kind ≡ false → slice_get arguments slot ≡ Some (other slot)
    others_given slot (Scalar ty) is not = cc
    others_given slot (Index dimension) is not = index_given slot dimension is
    others_given slot (Proxy dimension ty) is not = container_given slot (Proxy dimension ty) is refl
    others_given slot (Region dimension ty) is not = container_given slot (Region dimension ty) is refl

    rebuilt_here : arguments_with params other (map number_in arguments) ≡ arguments
    rebuilt_here = rebuilt params arguments other suited others_given

    -- containers are there
    there_by : (operand : ℕ) (dimension : ℕ) (ty : Ty) → slice_get kinds operand ≡ Some (Proxy dimension ty) → IsThere source operand
    there_by operand dimension ty is =
        let there = kind_at kinds source.shapes (place_in reading.pairs place pair) operand (Proxy dimension ty) suits.operands is in
        record {
          inside = slice_get_within source.shapes operand there.sizes there.is;
          held = λ index less.
              some_of (InRange (operand_type kinds operand)) (source.held operand index)
              (suits.held operand index (kind_reads params reading (held_by source) place pair operand (Proxy dimension ty) index is
              (lt-ltb index (cells_of (shape_of (held_by source) operand)) less)));
        }

    there_kind : (operand : ℕ) (kind : ParamKind) → is_container kind ≡ true → slice_get kinds operand ≡ Some kind → IsThere source operand
    there_kind operand (Scalar ty) container is = cc
    there_kind operand (Index dimension) container is = cc
    there_kind operand (Proxy dimension ty) container is = there_by operand dimension ty is
    there_kind operand (Region dimension ty) container is = absurd (no_region_operand params reading.elements operand dimension ty takes is)

    pub containers_there : OfContainers params (λ slot. (indices ≤ slot) × (skipped ≤ slot) × IsThere source (slot - skipped))
    containers_there slot kind is container =
        let stands = container_stands reading (held_by source) at params slot kind takes is container in
        let enough = stands.enough in (
          omega (arith, stands.behind),
          omega arith,
          subst (λ (n : ℕ). IsThere source (slot - n)) (sym skipped_is) (there_kind _ kind container stands.kind_is),
        )

    -- slots that begin with the numbers of the arguments
    module _ (slots numbers : List ℤ) (rest : ℕ) (slots_are : slots ≡ numbers ++ replicate rest (pos 0)) (numbers_are : numbers ≡ map number_in arguments)
        (count_is : length params + rest ≡ slots_at object.functions function) where
      length_numbers : length params ≡ length numbers
      length_numbers = suited-length params arguments suited ∙ sym (length-map arguments number_in) ∙ ap length (sym numbers_are)

      given_numbers : given_to object function slots ≡ numbers
      given_numbers =
          ap (λ (xs : List ℤ). take (length params) xs) slots_are ∙ ap (λ (n : ℕ). take n (numbers ++ replicate rest (pos 0))) length_numbers
          ∙ take-append_seam numbers (replicate rest (pos 0))

      pub begun_arguments : begun_with object function other slots ≡ arguments
      begun_arguments = ap (λ (xs : List ℤ). arguments_with params other xs) (given_numbers ∙ numbers_are) ∙ rebuilt_here

      length_slots : length slots ≡ length params + rest
      length_slots =
          ap length slots_are ∙ length-append numbers (replicate rest (pos 0)) ∙ ap (λ (n : ℕ). n + length (replicate rest (pos 0))) (sym length_numbers)
          ∙ ap (λ (n : ℕ). length params + n) (length-replicate rest (pos 0))

      pub begins : Begins object function other slots
      begins = record {
        count = length_slots ∙ count_is;
        suited = subst (λ (xs : List Argument). SuitParams params xs) (sym begun_arguments) suited;
        numbers = ap (λ (xs : List Argument). map number_in xs) begun_arguments ∙ sym numbers_are ∙ sym given_numbers;
        others =
            let size = length_slots in
            let same : rest ≡ length slots - length params = omega arith in
            ap (λ (xs : List ℤ). drop (length params) xs) slots_are ∙ ap (λ (n : ℕ). drop n (numbers ++ replicate rest (pos 0))) length_numbers
            ∙ drop-append_seam numbers (replicate rest (pos 0)) ∙ ap (λ (n : ℕ). replicate n (pos 0)) same;
      }

      -- the function's value is that for all data with the cells that are held
      pub value_begun : (cells : ℕ → ℕ → ℤ) → Agree (function_meaning object function reading) source place pair cells
          → invoked object function (begun_with object function other slots) ≡ (function_meaning object function reading).value (given_by source cells) place pair
      value_begun cells agree =
          ap (λ (xs : List Argument). invoked object function xs) (begun_arguments
          ∙ arguments_alike params reading (held_by source) place pair (given_by source cells) (record { shapes = refl; uniforms = refl; over = refl })
          (λ operand index reads. held_cell (source.held operand index) (cells operand index) (agree operand index reads))
          (λ k dimension ty is. absurd (no_region_operand params reading.elements k dimension ty takes is)))

-- a function's slots begin with its arguments from data, and its value for them is that for all data with the cells that are held
pub record Started (object : Object) (function : ℕ) (reading : Reading) (source : Source) (place pair : ℕ) (other : ℕ → Argument) (slots : List ℤ) : Type 0 where
  pub begins : Begins object function other slots
  pub value : (cells : ℕ → ℕ → ℤ) → Agree (function_meaning object function reading) source place pair cells
      → invoked object function (begun_with object function other slots) ≡ (function_meaning object function reading).value (given_by source cells) place pair

pub started : (object : Object) (function : ℕ) (takes : takes_places (signature_at object function).params ≡ true) (reading : Reading)
    (source : Source) (place pair : ℕ) (pairs : ReadsPairs reading.pairs reading.elements (signature_at object function).params)
    (suits : Suits (function_meaning object function reading) source place pair)
    (placed : List ℕ) (indices skipped : ℕ) (placed_is : 0 < indices → placed ≡ counted_at source reading.pairs place pair)
    (indices_is : indices ≡ indices_in (signature_at object function).params)
    (skipped_is : skipped ≡ skipped_by (indices_in (signature_at object function).params) (leading_scalars (signature_at object function).params) reading.elements)
    (slots numbers : List ℤ) (rest : ℕ) → slots ≡ numbers ++ replicate rest (pos 0)
    → numbers ≡ map number_in (arguments_of reading (signature_at object function).params (held_by source) (record { place = place; pair = pair }))
    → length (signature_at object function).params + rest ≡ slots_at object.functions function
    → Started object function reading source place pair (other_in (Some source) placed indices skipped) slots
started object function takes reading source place pair pairs suits placed indices skipped placed_is indices_is skipped_is slots numbers rest slots_are numbers_are count_is = record {
  begins = begins object function takes reading source place pair pairs suits placed indices skipped placed_is indices_is skipped_is slots numbers rest slots_are numbers_are count_is;
  value = value_begun object function takes reading source place pair pairs suits placed indices skipped placed_is indices_is skipped_is slots numbers rest slots_are numbers_are count_is;
}
