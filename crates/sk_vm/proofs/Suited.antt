-- The arguments that a function is given from data suit it, and depend on nothing but what it may read.
use Rattle.std.proofs.Common.{◌≡◌, inl, inr, ℕ, zero, suc, ◌+◌, ◌<◌, Bool, true, false, nat_lt, List, [], ◌∷◌, ◌++◌, length, ℤ, pos, Option, Some, None, IsSome, IsSomeAnd, slice_get, slice_index_or, unwrap_or, refl, sym, ap, subst, ◌∙◌, arith}
use Rattle.std.specs.Prelude.{All, if◌then◌else◌}
use Rattle.std.proofs.Math.ListN.{get_or-append}
use Rattle.std.proofs.Math.Seq.{get_or-append_seam}
use Rattle.std.proofs.lemmas.Bool.{cases_lt, lt-ltb}
use Rattle.std.proofs.lemmas.List.{length-append}
use Rattle.std.proofs.lemmas.List.Elements.{All-from_get_or}
use Rattle.std.proofs.lemmas.Option.{get_or_from_slice_get, slice_get_within}
use Rattle.sk_base.specs.Arithmetic.{InRange}
use Rattle.sk_base.specs.Shape.{cells_of}
use Rattle.sk_base.specs.declared.number.Ty.{Ty}
use Rattle.sk_base.specs.declared.number.Ty.TheVariants.{Int}
use Rattle.sk_meaning.specs.Evaluation.{Argument, Value, Place, Whole, kind_type}
use Rattle.sk_tree.specs.declared.tree.ParamKind.{ParamKind}
use Rattle.sk_tree.specs.declared.tree.ParamKind.TheVariants.{Scalar, Index, Proxy, Region}
use Rattle.sk_arguments.specs.Arguments.{At, Given, Reading, arguments_after, element_index, first_cells, neighbours_of, operand_kinds, place_of, reads_kind, reads_of, shape_of, uniform_types, whole_of}
use Rattle.sk_kernel.specs.Kernels.{AreOfTypes, IsAlike, Source, SuitKinds, SuitsKind, operand_type, place_in}
use Rattle.sk_isa.specs.Soundness.{SuitParams, SuitsParam}
use Rattle.sk_isa_laws.proofs.TypedLists.{typed_at}
use Rattle.sk_vm.specs.Surroundings.{CanRead}
use Rattle.sk_vm.proofs.Arguments.{later, plus_none, same_test, taken}

-- the types of uniform arguments, past a parameter that is none
uniforms-index : (elements dimension : ℕ) (kinds : List ParamKind) → uniform_types elements (Index dimension ∷ kinds) ≡ uniform_types elements kinds
uniforms-index zero dimension kinds = refl
uniforms-index (suc fewer) dimension kinds = refl

uniforms-proxy : (elements dimension : ℕ) (ty : Ty) (kinds : List ParamKind) → uniform_types elements (Proxy dimension ty ∷ kinds) ≡ uniform_types elements kinds
uniforms-proxy zero dimension ty kinds = refl
uniforms-proxy (suc fewer) dimension ty kinds = refl

uniforms-region : (elements dimension : ℕ) (ty : Ty) (kinds : List ParamKind) → uniform_types elements (Region dimension ty ∷ kinds) ≡ uniform_types elements kinds
uniforms-region zero dimension ty kinds = refl
uniforms-region (suc fewer) dimension ty kinds = refl

type_past : (types others : List Ty) (k : ℕ) (ty : Ty) → types ≡ others → slice_get others k ≡ Some ty → slice_get types k ≡ Some ty
type_past types others k ty same is = ap (λ (xs : List Ty). slice_get xs k) same ∙ is

-- what is given for an operand suits a parameter
abbrev pub OperandSuits : Reading → Given → At → (operand : ℕ) → ParamKind → Type 0
OperandSuits reading given at operand (Scalar ty) = InRange ty (given.cells operand (element_index reading at operand))
OperandSuits reading given at operand (Index dimension) = Unit {0}
OperandSuits reading given at operand (Proxy dimension ty) = SuitsParam (Proxy dimension ty) (whole_of given operand)
OperandSuits reading given at operand (Region dimension ty) = SuitsParam (Region dimension ty) (neighbours_of reading given at dimension operand)

pub suits_after : (reading : Reading) (given : Given) (at : At) (elements operand uniform : ℕ) (kinds : List ParamKind)
    → ((k dimension : ℕ) → slice_get kinds k ≡ Some (Index dimension) → SuitsParam (Index dimension) (Place (place_of reading given at)))
    → ((k : ℕ) (kind : ParamKind) → slice_get (operand_kinds elements kinds) k ≡ Some kind → OperandSuits reading given at (operand + k) kind)
    → ((k : ℕ) (ty : Ty) → slice_get (uniform_types elements kinds) k ≡ Some ty → InRange ty (slice_index_or given.uniforms (uniform + k) (pos 0)))
    → SuitParams kinds (arguments_after reading given at (taken elements operand uniform) kinds)
suits_after reading given at elements operand uniform [] placed operands uniforms = tt
suits_after reading given at elements operand uniform (Index dimension ∷ kinds) placed operands uniforms = (
  placed 0 dimension refl,
  suits_after reading given at elements operand uniform kinds (λ k own is. placed (suc k) own is) operands
      (λ k ty is. uniforms k ty (type_past _ _ k ty (uniforms-index elements dimension kinds) is)),
)
suits_after reading given at zero operand uniform (Scalar ty ∷ kinds) placed operands uniforms = (
  subst (λ (n : ℕ). InRange ty (slice_index_or given.uniforms n (pos 0))) (sym (plus_none uniform)) (uniforms 0 ty refl),
  suits_after reading given at zero operand (suc uniform) kinds (λ k own is. placed (suc k) own is) operands
      (λ k own is. subst (λ (n : ℕ). InRange own (slice_index_or given.uniforms n (pos 0))) (sym (later uniform k)) (uniforms (suc k) own is)),
)
suits_after reading given at (suc fewer) operand uniform (Scalar ty ∷ kinds) placed operands uniforms = (
  subst (λ (n : ℕ). InRange ty (given.cells n (element_index reading at n))) (sym (plus_none operand)) (operands 0 (Scalar ty) refl),
  suits_after reading given at fewer (suc operand) uniform kinds (λ k own is. placed (suc k) own is)
      (λ k kind is. subst (λ (n : ℕ). OperandSuits reading given at n kind) (sym (later operand k)) (operands (suc k) kind is)) uniforms,
)
suits_after reading given at elements operand uniform (Proxy dimension ty ∷ kinds) placed operands uniforms = (
  subst (λ (n : ℕ). OperandSuits reading given at n (Proxy dimension ty)) (sym (plus_none operand)) (operands 0 (Proxy dimension ty) refl),
  suits_after reading given at elements (suc operand) uniform kinds (λ k own is. placed (suc k) own is)
      (λ k kind is. subst (λ (n : ℕ). OperandSuits reading given at n kind) (sym (later operand k)) (operands (suc k) kind is))
      (λ k own is. uniforms k own (type_past _ _ k own (uniforms-proxy elements dimension ty kinds) is)),
)
suits_after reading given at elements operand uniform (Region dimension ty ∷ kinds) placed operands uniforms = (
  subst (λ (n : ℕ). OperandSuits reading given at n (Region dimension ty)) (sym (plus_none operand)) (operands 0 (Region dimension ty) refl),
  suits_after reading given at elements (suc operand) uniform kinds (λ k own is. placed (suc k) own is)
      (λ k kind is. subst (λ (n : ℕ). OperandSuits reading given at n kind) (sym (later operand k)) (operands (suc k) kind is))
      (λ k own is. uniforms k own (type_past _ _ k own (uniforms-region elements dimension ty kinds) is)),
)

-- data that is alike gives the same for an operand
abbrev pub OperandAlike : Reading → (one other : Given) → At → (operand : ℕ) → ParamKind → Type 0
OperandAlike reading one other at operand (Scalar ty) =
    one.cells operand (element_index reading at operand) ≡ other.cells operand (element_index reading at operand)
OperandAlike reading one other at operand (Index dimension) = Unit {0}
OperandAlike reading one other at operand (Proxy dimension ty) = whole_of one operand ≡ whole_of other operand
OperandAlike reading one other at operand (Region dimension ty) = neighbours_of reading one at dimension operand ≡ neighbours_of reading other at dimension operand

pub same_after : (reading : Reading) (one other : Given) (at : At) (elements operand uniform : ℕ) (kinds : List ParamKind)
    → place_of reading one at ≡ place_of reading other at → one.uniforms ≡ other.uniforms
    → ((k : ℕ) (kind : ParamKind) → slice_get (operand_kinds elements kinds) k ≡ Some kind → OperandAlike reading one other at (operand + k) kind)
    → arguments_after reading one at (taken elements operand uniform) kinds ≡ arguments_after reading other at (taken elements operand uniform) kinds
same_after reading one other at elements operand uniform [] placed uniforms operands = refl
same_after reading one other at elements operand uniform (Index dimension ∷ kinds) placed uniforms operands =
    ap (λ (place : List ℕ). Place place ∷ arguments_after reading one at (taken elements operand uniform) kinds) placed
    ∙ ap (λ (rest : List Argument). Place (place_of reading other at) ∷ rest) (same_after reading one other at elements operand uniform kinds placed uniforms operands)
same_after reading one other at zero operand uniform (Scalar ty ∷ kinds) placed uniforms operands =
    ap (λ (xs : List ℤ). Value (slice_index_or xs uniform (pos 0)) ∷ arguments_after reading one at (taken zero operand (suc uniform)) kinds) uniforms
    ∙ ap (λ (rest : List Argument). Value (slice_index_or other.uniforms uniform (pos 0)) ∷ rest)
    (same_after reading one other at zero operand (suc uniform) kinds placed uniforms operands)
same_after reading one other at (suc fewer) operand uniform (Scalar ty ∷ kinds) placed uniforms operands =
    ap (λ (x : ℤ). Value x ∷ arguments_after reading one at (taken fewer (suc operand) uniform) kinds)
    (subst (λ (n : ℕ). OperandAlike reading one other at n (Scalar ty)) (sym (plus_none operand)) (operands 0 (Scalar ty) refl))
    ∙ ap (λ (rest : List Argument). Value (other.cells operand (element_index reading at operand)) ∷ rest)
    (same_after reading one other at fewer (suc operand) uniform kinds placed uniforms
    (λ k kind is. subst (λ (n : ℕ). OperandAlike reading one other at n kind) (sym (later operand k)) (operands (suc k) kind is)))
same_after reading one other at elements operand uniform (Proxy dimension ty ∷ kinds) placed uniforms operands =
    ap (λ (x : Argument). x ∷ arguments_after reading one at (taken elements (suc operand) uniform) kinds)
    (subst (λ (n : ℕ). OperandAlike reading one other at n (Proxy dimension ty)) (sym (plus_none operand)) (operands 0 (Proxy dimension ty) refl))
    ∙ ap (λ (rest : List Argument). whole_of other operand ∷ rest)
    (same_after reading one other at elements (suc operand) uniform kinds placed uniforms
    (λ k kind is. subst (λ (n : ℕ). OperandAlike reading one other at n kind) (sym (later operand k)) (operands (suc k) kind is)))
same_after reading one other at elements operand uniform (Region dimension ty ∷ kinds) placed uniforms operands =
    ap (λ (x : Argument). x ∷ arguments_after reading one at (taken elements (suc operand) uniform) kinds)
    (subst (λ (n : ℕ). OperandAlike reading one other at n (Region dimension ty)) (sym (plus_none operand)) (operands 0 (Region dimension ty) refl))
    ∙ ap (λ (rest : List Argument). neighbours_of reading other at dimension operand ∷ rest)
    (same_after reading one other at elements (suc operand) uniform kinds placed uniforms
    (λ k kind is. subst (λ (n : ℕ). OperandAlike reading one other at n kind) (sym (later operand k)) (operands (suc k) kind is)))

-- the data has something for each scalar
pub can_read_after : (source : Source) (reading : Reading) (at : At) (elements operand uniform : ℕ) (kinds : List ParamKind)
    → ((k : ℕ) (ty : Ty) → slice_get (operand_kinds elements kinds) k ≡ Some (Scalar ty) → IsSome (source.held (operand + k) (element_index reading at (operand + k))))
    → ((k : ℕ) (ty : Ty) → slice_get (uniform_types elements kinds) k ≡ Some ty → uniform + k < length source.uniforms)
    → CanRead source reading at (taken elements operand uniform) kinds
can_read_after source reading at elements operand uniform [] operands uniforms = tt
can_read_after source reading at elements operand uniform (Index dimension ∷ kinds) operands uniforms =
    can_read_after source reading at elements operand uniform kinds operands (λ k ty is. uniforms k ty (type_past _ _ k ty (uniforms-index elements dimension kinds) is))
can_read_after source reading at zero operand uniform (Scalar ty ∷ kinds) operands uniforms = (
  subst (λ (n : ℕ). n < length source.uniforms) (sym (plus_none uniform)) (uniforms 0 ty refl),
  can_read_after source reading at zero operand (suc uniform) kinds operands
      (λ k own is. subst (λ (n : ℕ). n < length source.uniforms) (sym (later uniform k)) (uniforms (suc k) own is)),
)
can_read_after source reading at (suc fewer) operand uniform (Scalar ty ∷ kinds) operands uniforms = (
  subst (λ (n : ℕ). IsSome (source.held n (element_index reading at n))) (sym (plus_none operand)) (operands 0 ty refl),
  can_read_after source reading at fewer (suc operand) uniform kinds
      (λ k own is. subst (λ (n : ℕ). IsSome (source.held n (element_index reading at n))) (sym (later operand k)) (operands (suc k) own is)) uniforms,
)
can_read_after source reading at elements operand uniform (Proxy dimension ty ∷ kinds) operands uniforms =
    can_read_after source reading at elements (suc operand) uniform kinds
    (λ k own is. subst (λ (n : ℕ). IsSome (source.held n (element_index reading at n))) (sym (later operand k)) (operands (suc k) own is))
    (λ k own is. uniforms k own (type_past _ _ k own (uniforms-proxy elements dimension ty kinds) is))
can_read_after source reading at elements operand uniform (Region dimension ty ∷ kinds) operands uniforms =
    can_read_after source reading at elements (suc operand) uniform kinds
    (λ k own is. subst (λ (n : ℕ). IsSome (source.held n (element_index reading at n))) (sym (later operand k)) (operands (suc k) own is))
    (λ k own is. uniforms k own (type_past _ _ k own (uniforms-region elements dimension ty kinds) is))

-- a container for an operand
pub record KindAt (kind : ParamKind) (shapes : List (List ℕ)) (k place : ℕ) : Type 0 where
  pub sizes : List ℕ
  pub is : slice_get shapes k ≡ Some sizes
  pub suits : SuitsKind kind sizes place

pub kind_at : (kinds : List ParamKind) (shapes : List (List ℕ)) (places : ℕ → ℕ) (k : ℕ) (kind : ParamKind) → SuitKinds kinds shapes places
    → slice_get kinds k ≡ Some kind → KindAt kind shapes k (places k)
kind_at [] shapes places k kind suits e = cc
kind_at (own ∷ kinds) [] places k kind suits e = absurd suits
kind_at (own ∷ kinds) (sizes ∷ shapes) places zero kind suits e =
    let same : own ≡ kind = cc in
    record { sizes = sizes; is = refl; suits = subst (λ (p : ParamKind). SuitsKind p sizes (places 0)) same suits.0 }
kind_at (own ∷ kinds) (sizes ∷ shapes) places (suc k) kind suits e =
    let rest = kind_at kinds shapes (λ operand. places (suc operand)) k kind suits.1 e in
    record { sizes = rest.sizes; is = rest.is; suits = rest.suits }

-- the cells of an operand in order
pub length-first : (cells : ℕ → ℤ) (count : ℕ) → length (first_cells cells count) ≡ count
length-first cells zero = refl
length-first cells (suc count) =
    let fewer = length-first cells count in
    let more = length-append (first_cells cells count) (cells count ∷ []) in
    omega arith

pub get-first : (cells : ℕ → ℤ) (count k : ℕ) → k < count → slice_index_or (first_cells cells count) k (pos 0) ≡ cells k
get-first cells zero k less = absurd (omega arith)
get-first cells (suc count) k less = elim (cases_lt k count) [
  | inl small ↦
      get_or-append (first_cells cells count) (cells count ∷ []) (pos 0) k (let size = length-first cells count in omega arith) ∙ get-first cells count k small
  | inr upto ↦
      let same : k ≡ count = omega arith in
      let size = length-first cells count in
      ap (λ (n : ℕ). slice_index_or (first_cells cells count ++ cells count ∷ []) n (pos 0)) (same ∙ sym size)
      ∙ get_or-append_seam (first_cells cells count) (cells count) [] (pos 0) ∙ ap cells (sym same)
]

all-first : (ty : Ty) (cells : ℕ → ℤ) (count : ℕ) → ((k : ℕ) → k < count → InRange ty (cells k)) → All (InRange ty) (first_cells cells count)
all-first ty cells count each =
    All-from_get_or (InRange ty) (first_cells cells count) (pos 0) (λ k less.
    let size = length-first cells count in
    let within : k < count = omega arith in
    subst (InRange ty) (sym (get-first cells count k within)) (each k within))

same-first : (one other : ℕ → ℤ) (count : ℕ) → ((k : ℕ) → k < count → one k ≡ other k) → first_cells one count ≡ first_cells other count
same-first one other zero each = refl
same-first one other (suc count) each =
    ap (λ (xs : List ℤ). xs ++ one count ∷ []) (same-first one other count (λ k less. each k (omega arith)))
    ∙ ap (λ (x : ℤ). first_cells other count ++ x ∷ []) (each count (omega arith))

-- the number that is there
pub number_there : (ty : Ty) (numbers : List ℤ) (k : ℕ) → IsSomeAnd (slice_get numbers k) (InRange ty) → InRange ty (slice_index_or numbers k (pos 0))
number_there ty numbers k h = by (slice_get numbers k) refl h
  where
    by : (found : Option ℤ) → slice_get numbers k ≡ found → IsSomeAnd found (InRange ty) → InRange ty (slice_index_or numbers k (pos 0))
    by None is h = absurd h
    by (Some x) is h = subst (InRange ty) (sym (get_or_from_slice_get numbers k x (pos 0) is)) h

pub within_numbers : (ty : Ty) (numbers : List ℤ) (k : ℕ) → IsSomeAnd (slice_get numbers k) (InRange ty) → k < length numbers
within_numbers ty numbers k h = by (slice_get numbers k) refl h
  where
    by : (found : Option ℤ) → slice_get numbers k ≡ found → IsSomeAnd found (InRange ty) → k < length numbers
    by None is h = absurd h
    by (Some x) is h = slice_get_within numbers k x is

pub from_none : (k : ℕ) → k ≡ 0 + k
from_none k = omega arith

-- data at a place
module _ (params : List ParamKind) (reading : Reading) (given : Given) (place pair : ℕ) where
  abbrev at : At
  at = record { place = place; pair = pair }

  abbrev kinds : List ParamKind
  kinds = operand_kinds reading.elements params

  pub kind_reads : (k : ℕ) (kind : ParamKind) (index : ℕ) → slice_get kinds k ≡ Some kind → reads_kind reading (shape_of given k) at k kind index ≡ true
      → reads_of reading params given.shapes at k index ≡ true
  kind_reads k kind index is reads =
      ap (λ (o : Option ParamKind). elim o [ Some kind ↦ reads_kind reading (shape_of given k) at k kind index | None ↦ false ]) is ∙ reads

  type_at : (k : ℕ) (kind : ParamKind) → slice_get kinds k ≡ Some kind → operand_type kinds k ≡ kind_type kind
  type_at k kind is = ap (λ (o : Option ParamKind). elim o [ Some kind ↦ kind_type kind | None ↦ Int ]) is

  module _ (operands : SuitKinds kinds given.shapes (place_in reading.pairs place pair))
      (cells : (operand index : ℕ) → reads_of reading params given.shapes at operand index ≡ true → InRange (operand_type kinds operand) (given.cells operand index))
      (regions : (k dimension : ℕ) (ty : Ty) → slice_get kinds k ≡ Some (Region dimension ty) → OperandSuits reading given at k (Region dimension ty)) where
    pub operand_in : (k : ℕ) (kind : ParamKind) → slice_get kinds k ≡ Some kind → OperandSuits reading given at k kind
    operand_in k (Scalar ty) is =
        subst (λ (t : Ty). InRange t (given.cells k (element_index reading at k))) (type_at k (Scalar ty) is)
        (cells k (element_index reading at k) (kind_reads k (Scalar ty) (element_index reading at k) is (same_test (element_index reading at k))))
    operand_in k (Index dimension) is = tt
    operand_in k (Region dimension ty) is = regions k dimension ty is
    operand_in k (Proxy dimension ty) is =
        let there = kind_at kinds given.shapes (place_in reading.pairs place pair) k (Proxy dimension ty) operands is in
        let shape : shape_of given k ≡ there.sizes = ap (λ (o : Option (List ℕ)). unwrap_or o []) there.is in
        subst (λ (sizes : List ℕ). SuitsParam (Proxy dimension ty) (Whole sizes (first_cells (given.cells k) (cells_of sizes)))) (sym shape) (
          there.suits.1,
          there.suits.0,
          length-first (given.cells k) (cells_of there.sizes),
          all-first ty (given.cells k) (cells_of there.sizes) (λ index less.
              subst (λ (t : Ty). InRange t (given.cells k index)) (type_at k (Proxy dimension ty) is)
              (cells k index (kind_reads k (Proxy dimension ty) index is
              (lt-ltb index (cells_of (shape_of given k)) (subst (λ (sizes : List ℕ). index < cells_of sizes) (sym shape) less))))),
        )

    pub arguments_suit : ((k dimension : ℕ) → slice_get params k ≡ Some (Index dimension) → SuitsParam (Index dimension) (Place (place_of reading given at)))
        → AreOfTypes (uniform_types reading.elements params) given.uniforms
        → SuitParams params (arguments_after reading given at (taken reading.elements 0 0) params)
    arguments_suit placed uniforms =
        suits_after reading given at reading.elements 0 0 params placed
        (λ k kind is. subst (λ (n : ℕ). OperandSuits reading given at n kind) (from_none k) (operand_in k kind is))
        (λ k ty is. subst (λ (n : ℕ). InRange ty (slice_index_or given.uniforms n (pos 0))) (from_none k)
        (number_there ty given.uniforms k (typed_at (uniform_types reading.elements params) given.uniforms k ty uniforms is)))

  module _ (other : Given) (alike : IsAlike given other)
      (cells : (operand index : ℕ) → reads_of reading params given.shapes at operand index ≡ true → given.cells operand index ≡ other.cells operand index)
      (regions : (k dimension : ℕ) (ty : Ty) → slice_get kinds k ≡ Some (Region dimension ty) → OperandAlike reading given other at k (Region dimension ty)) where
    operand_alike : (k : ℕ) (kind : ParamKind) → slice_get kinds k ≡ Some kind → OperandAlike reading given other at k kind
    operand_alike k (Scalar ty) is = cells k (element_index reading at k) (kind_reads k (Scalar ty) (element_index reading at k) is (same_test (element_index reading at k)))
    operand_alike k (Index dimension) is = tt
    operand_alike k (Region dimension ty) is = regions k dimension ty is
    operand_alike k (Proxy dimension ty) is =
        ap (λ (xs : List ℤ). Whole (shape_of given k) xs)
        (same-first (given.cells k) (other.cells k) (cells_of (shape_of given k)) (λ index less.
        cells k index (kind_reads k (Proxy dimension ty) index is (lt-ltb index (cells_of (shape_of given k)) less))))
        ∙ ap (λ (shapes : List (List ℕ)). Whole (unwrap_or (slice_get shapes k) []) (first_cells (other.cells k) (cells_of (unwrap_or (slice_get shapes k) [])))) alike.shapes

    place_alike : place_of reading given at ≡ place_of reading other at
    place_alike = ap (λ (over : Option (List ℕ)). place_of reading (record given { over = over }) at) alike.over

    pub arguments_alike : arguments_after reading given at (taken reading.elements 0 0) params ≡ arguments_after reading other at (taken reading.elements 0 0) params
    arguments_alike =
        same_after reading given other at reading.elements 0 0 params place_alike alike.uniforms
        (λ k kind is. subst (λ (n : ℕ). OperandAlike reading given other at n kind) (from_none k) (operand_alike k kind is))
