-- The arguments that a function reads from data that suits it.
use Rattle.std.proofs.Common.{◌≡◌, ◌⊎◌, inl, inr, ℕ, zero, suc, ◌+◌, ◌-◌, ◌<◌, ◌≤◌, Bool, true, false, ◌==◌, nat_lt, List, [], ◌∷◌, length, map, ℤ, pos, Option, Some, None, IsSome, IsSomeAnd, slice_get, slice_index_or, unwrap_or, refl, sym, ap, subst, ◌∙◌, arith}
use Rattle.std.specs.List.{list_all}
use Rattle.std.proofs.lemmas.Bool.{cond-true, cond-false, lt-ltb, le-ltb}
use Rattle.std.proofs.lemmas.Bool.Decides.{nat_tests}
use Rattle.std.proofs.lemmas.Option.{get_or_from_slice_get, slice_get_within}
use Rattle.sk_base.specs.declared.number.Ty.{Ty}
use Rattle.sk_base.specs.declared.number.Ty.TheVariants.{Int}
use Rattle.sk_base.specs.Arithmetic.{InRange}
use Rattle.sk_meaning.specs.Evaluation.{Argument, Value, kind_type}
use Rattle.sk_tree.specs.Parameters.{index_dimension}
use Rattle.sk_tree.specs.declared.tree.ParamKind.{ParamKind}
use Rattle.sk_tree.specs.declared.tree.ParamKind.TheVariants.{Scalar, Index, Proxy, Region}
use Rattle.sk_arguments.specs.Arguments.{At, Given, Reading, Taken, arguments_after, arguments_of, element_index, operand_kinds, reads_of, reads_kind, uniform_types}
use Rattle.sk_kernel.specs.Kernels.{place_in, AreOfTypes, Source, given_by, operand_type}
use Rattle.sk_isa.specs.Soundness.{SuitParams, is_scalar}
use Rattle.sk_isa_laws.proofs.TypedLists.{typed_at}
use Rattle.sk_vm.specs.Arguments.{argument_at, CanPass, Passes}

-- the kinds of elements and the types of uniform arguments, by the parameter
pub element_kind : (elements : ℕ) (kinds : List ParamKind) (k : ℕ) (ty : Ty) → list_all is_scalar kinds ≡ true → slice_get kinds k ≡ Some (Scalar ty) → k < elements
    → slice_get (operand_kinds elements kinds) k ≡ Some (Scalar ty)
element_kind zero kinds k ty scalars e less = absurd (omega arith)
element_kind (suc elements) [] k ty scalars e less = cc
element_kind (suc elements) (Scalar own ∷ kinds) zero ty scalars e less = e
element_kind (suc elements) (Scalar own ∷ kinds) (suc k) ty scalars e less = element_kind elements kinds k ty scalars e (omega arith)
element_kind (suc elements) (Index dimension ∷ kinds) k ty scalars e less = cc
element_kind (suc elements) (Proxy dimension own ∷ kinds) k ty scalars e less = cc
element_kind (suc elements) (Region dimension own ∷ kinds) k ty scalars e less = cc

pub uniform_type : (elements : ℕ) (kinds : List ParamKind) (k : ℕ) (ty : Ty) → list_all is_scalar kinds ≡ true → slice_get kinds (elements + k) ≡ Some (Scalar ty)
    → slice_get (uniform_types elements kinds) k ≡ Some ty
uniform_type zero [] k ty scalars e = cc
uniform_type zero (Scalar own ∷ kinds) zero ty scalars e = let same : own ≡ ty = cc in ap Some same
uniform_type zero (Scalar own ∷ kinds) (suc k) ty scalars e =
    uniform_type zero kinds k ty scalars (ap (λ (n : ℕ). slice_get (Scalar own ∷ kinds) n) (one_less k) ∙ e)
  where
    one_less : (k : ℕ) → suc (0 + k) ≡ 0 + suc k
    one_less k = omega arith
uniform_type zero (Index dimension ∷ kinds) k ty scalars e = cc
uniform_type zero (Proxy dimension own ∷ kinds) k ty scalars e = cc
uniform_type zero (Region dimension own ∷ kinds) k ty scalars e = cc
uniform_type (suc elements) [] k ty scalars e = cc
uniform_type (suc elements) (Scalar own ∷ kinds) k ty scalars e =
    uniform_type elements kinds k ty scalars (ap (λ (n : ℕ). slice_get (Scalar own ∷ kinds) n) (one_less elements k) ∙ e)
  where
    one_less : (elements k : ℕ) → suc (elements + k) ≡ suc elements + k
    one_less elements k = omega arith
uniform_type (suc elements) (Index dimension ∷ kinds) k ty scalars e = cc
uniform_type (suc elements) (Proxy dimension own ∷ kinds) k ty scalars e = cc
uniform_type (suc elements) (Region dimension own ∷ kinds) k ty scalars e = cc

-- parameters that are all scalars have no index among them
pub no_index : (kinds : List ParamKind) → list_all is_scalar kinds ≡ true → index_dimension kinds ≡ None
no_index [] scalars = refl
no_index (Scalar ty ∷ kinds) scalars = refl
no_index (Index dimension ∷ kinds) scalars = cc
no_index (Proxy dimension own ∷ kinds) scalars = cc
no_index (Region dimension own ∷ kinds) scalars = cc

-- a parameter that is there is a scalar
scalar_at : (kinds : List ParamKind) (k : ℕ) → list_all is_scalar kinds ≡ true → k < length kinds → (ty : Ty) × (slice_get kinds k ≡ Some (Scalar ty))
scalar_at [] k scalars less = absurd (omega arith)
scalar_at (Scalar ty ∷ kinds) zero scalars less = (ty, refl)
scalar_at (Scalar ty ∷ kinds) (suc k) scalars less = scalar_at kinds k scalars (omega arith)
scalar_at (Index dimension ∷ kinds) k scalars less = cc
scalar_at (Proxy dimension own ∷ kinds) k scalars less = cc
scalar_at (Region dimension own ∷ kinds) k scalars less = cc

-- numbers that are each of their parameter's type
pub suit_from_each : (kinds : List ParamKind) (numbers : List ℤ) → list_all is_scalar kinds ≡ true → length kinds ≡ length numbers
    → ((k : ℕ) (ty : Ty) → slice_get kinds k ≡ Some (Scalar ty) → InRange ty (slice_index_or numbers k (pos 0))) → SuitParams kinds (map Value numbers)
suit_from_each [] [] scalars count each = tt
suit_from_each [] (number ∷ numbers) scalars count each = absurd (omega arith)
suit_from_each (kind ∷ kinds) [] scalars count each = absurd (omega arith)
suit_from_each (Scalar ty ∷ kinds) (number ∷ numbers) scalars count each =
    (each 0 ty refl, suit_from_each kinds numbers scalars (omega arith) (λ k ty e. each (suc k) ty e))
suit_from_each (Index dimension ∷ kinds) (number ∷ numbers) scalars count each = cc
suit_from_each (Proxy dimension own ∷ kinds) (number ∷ numbers) scalars count each = cc
suit_from_each (Region dimension own ∷ kinds) (number ∷ numbers) scalars count each = cc

-- what the data has, for an element and for a uniform argument
pub argument-element : (source : Source) (elements : ℕ) (pairs : Bool) (place pair k : ℕ) → k < elements
    → argument_at source elements pairs place pair k ≡ source.held k (place_in pairs place pair k)
argument-element source elements pairs place pair k less = cond-true (nat_lt k elements) _ _ (lt-ltb k elements less)

pub argument-uniform : (source : Source) (elements : ℕ) (pairs : Bool) (place pair k : ℕ) → elements ≤ k
    → argument_at source elements pairs place pair k ≡ slice_get source.uniforms (k - elements)
argument-uniform source elements pairs place pair k upto = cond-false (nat_lt k elements) _ _ (le-ltb k elements upto)

-- sums of numbers
pub plus_none : (n : ℕ) → n ≡ n + 0
plus_none n = omega arith

pub none_plus : (k : ℕ) → 0 + suc k ≡ suc (0 + k)
none_plus k = omega arith

pub later : (n k : ℕ) → suc n + k ≡ n + suc k
later n k = omega arith

pub one_more : (n k : ℕ) → suc n + k ≡ suc (n + k)
one_more n k = omega arith

-- so many elements left, and so many operands and uniform arguments taken
abbrev pub taken : (elements operands uniforms : ℕ) → Taken
taken elements operands uniforms = record { elements = elements; operands = operands; uniforms = uniforms }

-- the arguments of the definition
pub arguments-are : (reading : Reading) (given : Given) (at : At) (elements operand uniform : ℕ) (kinds : List ParamKind) (numbers : List ℤ)
    → list_all is_scalar kinds ≡ true → length kinds ≡ length numbers
    → ((k : ℕ) → k < length numbers → k < elements → given.cells (operand + k) (element_index reading at (operand + k)) ≡ slice_index_or numbers k (pos 0))
    → ((k : ℕ) → elements + k < length numbers → slice_get given.uniforms (uniform + k) ≡ Some (slice_index_or numbers (elements + k) (pos 0)))
    → map Value numbers ≡ arguments_after reading given at (taken elements operand uniform) kinds
arguments-are reading given at elements operand uniform [] [] scalars count cells uniforms = refl
arguments-are reading given at elements operand uniform [] (number ∷ numbers) scalars count cells uniforms = absurd (omega arith)
arguments-are reading given at elements operand uniform (kind ∷ kinds) [] scalars count cells uniforms = absurd (omega arith)
arguments-are reading given at zero operand uniform (Scalar ty ∷ kinds) (number ∷ numbers) scalars count cells uniforms =
    let first : slice_get given.uniforms uniform ≡ Some number = ap (λ (n : ℕ). slice_get given.uniforms n) (plus_none uniform) ∙ uniforms 0 (omega arith) in
    let rest : map Value numbers ≡ arguments_after reading given at (taken zero operand (suc uniform)) kinds =
    arguments-are reading given at zero operand (suc uniform) kinds numbers scalars (omega arith) (λ k less small. absurd (omega arith))
    (λ k less. ap (λ (n : ℕ). slice_get given.uniforms n) (later uniform k) ∙ uniforms (suc k) (omega arith)
    ∙ ap (λ (n : ℕ). Some (slice_index_or (number ∷ numbers) n (pos 0))) (none_plus k)) in
    ap (λ (x : ℤ). Value x ∷ map Value numbers) (sym (get_or_from_slice_get given.uniforms uniform number (pos 0) first))
    ∙ ap (λ (xs : List Argument). Value (slice_index_or given.uniforms uniform (pos 0)) ∷ xs) rest
arguments-are reading given at (suc elements) operand uniform (Scalar ty ∷ kinds) (number ∷ numbers) scalars count cells uniforms =
    let first : given.cells operand (element_index reading at operand) ≡ number =
    ap (λ (n : ℕ). given.cells n (element_index reading at n)) (plus_none operand) ∙ cells 0 (omega arith) (omega arith) in
    let rest : map Value numbers ≡ arguments_after reading given at (taken elements (suc operand) uniform) kinds =
    arguments-are reading given at elements (suc operand) uniform kinds numbers scalars (omega arith)
    (λ k less small. ap (λ (n : ℕ). given.cells n (element_index reading at n)) (later operand k) ∙ cells (suc k) (omega arith) (omega arith))
    (λ k less. uniforms k (omega arith) ∙ ap (λ (n : ℕ). Some (slice_index_or (number ∷ numbers) n (pos 0))) (one_more elements k)) in
    ap (λ (x : ℤ). Value x ∷ map Value numbers) (sym first)
    ∙ ap (λ (xs : List Argument). Value (given.cells operand (element_index reading at operand)) ∷ xs) rest
arguments-are reading given at elements operand uniform (Index dimension ∷ kinds) (number ∷ numbers) scalars count cells uniforms = cc
arguments-are reading given at elements operand uniform (Proxy dimension own ∷ kinds) (number ∷ numbers) scalars count cells uniforms = cc
arguments-are reading given at elements operand uniform (Region dimension own ∷ kinds) (number ∷ numbers) scalars count cells uniforms = cc

pub same_test : (n : ℕ) → (n == n) ≡ true
same_test n = grind (arith, nat_tests)

below_or_not : (a b : ℕ) → (a < b) ⊎ (b ≤ a)
below_or_not a b = grind arith

some_from : {A : Type 0} (P : A → Type 0) (found : Option A) → IsSomeAnd found P → IsSome found
some_from P None h = absurd h
some_from P (Some x) h = refl

pub holds_of : {A : Type 0} (P : A → Type 0) (found : Option A) (x : A) → IsSomeAnd found P → found ≡ Some x → P x
holds_of P None x h is = cc
holds_of P (Some y) x h is = let same : y ≡ x = cc in subst P same h

-- the index at which an element is read is among those that may be read
pub read_here : (reading : Reading) (params : List ParamKind) (shapes : List (List ℕ)) (at : At) (k : ℕ) (ty : Ty) → list_all is_scalar params ≡ true
    → slice_get params k ≡ Some (Scalar ty) → k < reading.elements → reads_of reading params shapes at k (element_index reading at k) ≡ true
read_here reading params shapes at k ty scalars is less =
    ap (λ (o : Option ParamKind). elim o [
      | Some kind ↦ reads_kind reading (unwrap_or (slice_get shapes k) []) at k kind (element_index reading at k)
      | None ↦ false
    ]) (element_kind reading.elements params k ty scalars is less)
    ∙ same_test (element_index reading at k)

-- the type of an element
pub element_type : (elements : ℕ) (params : List ParamKind) (k : ℕ) (ty : Ty) → list_all is_scalar params ≡ true → slice_get params k ≡ Some (Scalar ty) → k < elements
    → operand_type (operand_kinds elements params) k ≡ ty
element_type elements params k ty scalars is less =
    ap (λ (o : Option ParamKind). elim o [ Some kind ↦ kind_type kind | None ↦ Int ]) (element_kind elements params k ty scalars is less)

-- data that suits a function of scalars at a place
module _ (params : List ParamKind) (reading : Reading) (source : Source) (place pair : ℕ)
    (scalars : list_all is_scalar params ≡ true) (uniforms : AreOfTypes (uniform_types reading.elements params) source.uniforms)
    (held : (operand index : ℕ) → reads_of reading params source.shapes (record { place = place; pair = pair }) operand index ≡ true
    → IsSomeAnd (source.held operand index) (InRange (operand_type (operand_kinds reading.elements params) operand))) where
  abbrev at : At
  at = record { place = place; pair = pair }

  abbrev passed : (k : ℕ) → Option ℤ
  passed k = argument_at source reading.elements reading.pairs place pair k

  in_element : (k : ℕ) (ty : Ty) → slice_get params k ≡ Some (Scalar ty) → k < reading.elements → IsSomeAnd (passed k) (InRange ty)
  in_element k ty is less =
      subst (λ (o : Option ℤ). IsSomeAnd o (InRange ty)) (sym (argument-element source reading.elements reading.pairs place pair k less))
      (subst (λ (t : Ty). IsSomeAnd (source.held k (element_index reading at k)) (InRange t)) (element_type reading.elements params k ty scalars is less)
      (held k (element_index reading at k) (read_here reading params source.shapes at k ty scalars is less)))

  in_uniform : (k : ℕ) (ty : Ty) → slice_get params k ≡ Some (Scalar ty) → reading.elements ≤ k → IsSomeAnd (passed k) (InRange ty)
  in_uniform k ty is upto =
      let behind : reading.elements + (k - reading.elements) ≡ k = omega arith in
      subst (λ (o : Option ℤ). IsSomeAnd o (InRange ty)) (sym (argument-uniform source reading.elements reading.pairs place pair k upto))
      (typed_at (uniform_types reading.elements params) source.uniforms (k - reading.elements) ty uniforms
      (uniform_type reading.elements params (k - reading.elements) ty scalars (ap (λ (n : ℕ). slice_get params n) behind ∙ is)))

  in_range : (k : ℕ) (ty : Ty) → slice_get params k ≡ Some (Scalar ty) → IsSomeAnd (passed k) (InRange ty)
  in_range k ty is = elim (below_or_not k reading.elements) [ inl less ↦ in_element k ty is less | inr upto ↦ in_uniform k ty is upto ]

  pub can_pass : CanPass source reading.elements reading.pairs place pair (length params)
  can_pass k less =
      let scalar = scalar_at params k scalars less in
      some_from (InRange scalar.0) (passed k) (in_range k scalar.0 scalar.1)

  pub suited : (numbers : List ℤ) → length params ≡ length numbers → Passes source reading.elements reading.pairs place pair numbers
      → SuitParams params (map Value numbers)
  suited numbers count passes =
      suit_from_each params numbers scalars count (λ k ty is.
      let within = slice_get_within params k (Scalar ty) is in
      holds_of (InRange ty) (passed k) (slice_index_or numbers k (pos 0)) (in_range k ty is) (passes k (omega arith)))

  pub as_defined : (numbers : List ℤ) → length params ≡ length numbers → Passes source reading.elements reading.pairs place pair numbers → (cells : ℕ → ℕ → ℤ)
      → ((operand index : ℕ) → reads_of reading params source.shapes at operand index ≡ true → source.held operand index ≡ Some (cells operand index))
      → map Value numbers ≡ arguments_of reading params (given_by source cells) at
  as_defined numbers count passes cells agree =
      arguments-are reading (given_by source cells) at reading.elements 0 0 params numbers scalars count
      (λ k less small.
      let scalar = scalar_at params k scalars (omega arith) in
      ap (λ (n : ℕ). cells n (element_index reading at n)) (zero_plus k)
      ∙ same_some (cells k (element_index reading at k)) (slice_index_or numbers k (pos 0))
      (sym (agree k (element_index reading at k) (read_here reading params source.shapes at k scalar.0 scalars scalar.1 small))
      ∙ sym (argument-element source reading.elements reading.pairs place pair k small) ∙ passes k less))
      (λ k less.
      ap (λ (n : ℕ). slice_get source.uniforms n) (back reading.elements k)
      ∙ sym (argument-uniform source reading.elements reading.pairs place pair (reading.elements + k) (omega arith)) ∙ passes (reading.elements + k) less)
    where
      zero_plus : (k : ℕ) → 0 + k ≡ k
      zero_plus k = omega arith

      back : (n k : ℕ) → 0 + k ≡ n + k - n
      back n k = omega arith

      same_some : (x y : ℤ) → Some x ≡ Some y → x ≡ y
      same_some x y e = cc
