-- A vector, with uniform arguments, suits a function of ints.
use Rattle.std.proofs.Common.{◌≡◌, ℕ, zero, suc, ℤ, List, [], ◌∷◌, length, replicate, true, false, arith, rules, refl, sym, ap, subst, ◌∙◌}
use Rattle.std.specs.Prelude.{All, IsSomeAnd, Bool, nat_lt, if◌then◌else◌, ◌<◌, slice_get, unwrap_or, Some, None}
use Rattle.std.proofs.lemmas.Bool.{eqb-true, lt-ltb}
use Rattle.std.proofs.lemmas.List.Elements.{All-cons, All-head, All-nil, All-tail}
use Rattle.sk_base.specs.Arithmetic.{InRange}
use Rattle.sk_base.specs.Shape.{IsShape, cells_of}
use Rattle.sk_base.specs.declared.number.Ty.TheVariants.{Int}
use Rattle.sk_tree.specs.declared.tree.ParamKind.{ParamKind}
use Rattle.sk_tree.specs.declared.tree.ParamKind.TheVariants.{Scalar}
use Rattle.sk_arguments.specs.Arguments.{Reading, operand_kinds, reads_kind, uniform_types}
use Rattle.sk_kernel.specs.Instances.{function_meaning}
use Rattle.sk_isa.specs.Objects.{signature_at}
use Rattle.sk_kernel.specs.Kernels.{AreOfTypes, Suits, SuitsRun, SuitKinds, operand_type, place_in}
use Rattle.sk_kernel.specs.Vectors.{vector_source}
use Rattle.sk_isa.specs.declared.object.Object.{Object}
use Rattle.sk_vm.specs.Frames.{reading_by}

-- a function of ints that reads the first one by elements has one operand
no-operands : (count : ℕ) → operand_kinds 0 (replicate count (Scalar Int)) ≡ []
no-operands zero = refl
no-operands (suc count) = no-operands count

ints-suit : (uniforms : List ℤ) → All (InRange Int) uniforms → AreOfTypes (uniform_types 0 (replicate (length uniforms) (Scalar Int))) uniforms
ints-suit [] range = record {}
ints-suit (first ∷ rest) range = (All-head (InRange Int) first rest range, ints-suit rest (All-tail (InRange Int) first rest range))

pub one-cell : IsShape (1 ∷ [])
one-cell = record { some = omega arith; few = omega arith; each = search rules; product = omega arith }

one-operand : (params : List ParamKind) (count : ℕ) → params ≡ replicate (suc count) (Scalar Int) → operand_kinds 1 params ≡ Scalar Int ∷ []
one-operand params count is = ap (operand_kinds 1) is ∙ ap (λ (kinds : List ParamKind). Scalar Int ∷ kinds) (no-operands count)

-- a cell that is there is an int
cell-in_range : (cells : List ℤ) (index : ℕ) → All (InRange Int) cells → index < length cells → IsSomeAnd (slice_get cells index) (InRange Int)
cell-in_range [] index range inside = absurd (omega arith)
cell-in_range (first ∷ rest) zero range inside = All-head (InRange Int) first rest range
cell-in_range (first ∷ rest) (suc index) range inside = cell-in_range rest index (All-tail (InRange Int) first rest range) (omega arith)

-- the cell at the place is read
held-element : (cells uniforms : List ℤ) (sizes shape : List ℕ) (place operand index : ℕ) → All (InRange Int) cells → cells_of sizes ≡ length cells → place < length cells
    → elim (slice_get (Scalar Int ∷ []) operand) [ Some kind ↦ reads_kind (reading_by 1 false) shape (record { place = place; pair = 0 }) operand kind index | None ↦ false ] ≡ true
    → IsSomeAnd ((vector_source cells sizes uniforms).held operand index) (InRange (operand_type (Scalar Int ∷ []) operand))
held-element cells uniforms sizes shape place zero index range count inside reads =
    let at : index ≡ place = eqb-true index place reads in
    let there : index < length cells = omega (arith, at, inside) in
    let held : nat_lt index (cells_of sizes) ≡ true = lt-ltb index (cells_of sizes) (omega (arith, there, count)) in
    subst (λ (test : Bool). IsSomeAnd (if test then slice_get cells index else None) (InRange Int)) (sym held) (cell-in_range cells index range there)
held-element cells uniforms sizes shape place (suc operand) index range count inside reads = cc

held-at : (cells uniforms : List ℤ) (sizes shape : List ℕ) (kinds : List ParamKind) (place operand index : ℕ) → kinds ≡ Scalar Int ∷ []
    → All (InRange Int) cells → cells_of sizes ≡ length cells → place < length cells
    → elim (slice_get kinds operand) [ Some kind ↦ reads_kind (reading_by 1 false) shape (record { place = place; pair = 0 }) operand kind index | None ↦ false ] ≡ true
    → IsSomeAnd ((vector_source cells sizes uniforms).held operand index) (InRange (operand_type kinds operand))
held-at cells uniforms sizes shape kinds place operand index is range count inside =
    subst (λ (ks : List ParamKind).
    elim (slice_get ks operand) [ Some kind ↦ reads_kind (reading_by 1 false) shape (record { place = place; pair = 0 }) operand kind index | None ↦ false ] ≡ true
    → IsSomeAnd ((vector_source cells sizes uniforms).held operand index) (InRange (operand_type ks operand)))
    (sym is) (held-element cells uniforms sizes shape place operand index range count inside)

pub suited : (object : Object) (function : ℕ) (reading : Reading) (cells : List ℤ) (sizes : List ℕ) (uniforms : List ℤ) (place : ℕ)
    → (signature_at object function).params ≡ replicate (suc (length uniforms)) (Scalar Int) → reading ≡ reading_by 1 false → IsShape sizes
    → cells_of sizes ≡ length cells → place < length cells → All (InRange Int) cells → All (InRange Int) uniforms
    → Suits (function_meaning object function reading) (vector_source cells sizes uniforms) place 0
suited object function reading cells sizes uniforms place params reads shape count inside range numbers = rw reads (record {
  operands = subst (λ (kinds : List ParamKind). SuitKinds kinds (sizes ∷ []) (place_in false place 0))
      (sym (one-operand (signature_at object function).params (length uniforms) params)) ((shape, omega (arith, count, inside)), record {});
  uniforms = rw params (ints-suit uniforms numbers);
  over = rw params (record {});
  held = λ operand index reads.
      held-at cells uniforms sizes (unwrap_or (slice_get (sizes ∷ []) operand) []) (operand_kinds 1 (signature_at object function).params) place operand index
      (one-operand (signature_at object function).params (length uniforms) params) range count inside reads;
})

-- a vector of one cell
pub suited-one : (object : Object) (function : ℕ) (reading : Reading) (element : ℤ) (sizes : List ℕ) (uniforms : List ℤ)
    → (signature_at object function).params ≡ replicate (suc (length uniforms)) (Scalar Int) → reading ≡ reading_by 1 false → sizes ≡ 1 ∷ []
    → InRange Int element → All (InRange Int) uniforms
    → Suits (function_meaning object function reading) (vector_source (element ∷ []) sizes uniforms) 0 0
suited-one object function reading element sizes uniforms params reads shape fits range =
    suited object function reading (element ∷ []) sizes uniforms 0 params reads (subst IsShape (sym shape) one-cell) (ap cells_of shape) (omega arith)
    (All-cons (InRange Int) element [] fits (All-nil (InRange Int))) range

-- a block of the one place
pub suited-block : (object : Object) (function : ℕ) (reading : Reading) (element : ℤ) (sizes : List ℕ) (uniforms : List ℤ)
    → (signature_at object function).params ≡ replicate (suc (length uniforms)) (Scalar Int) → reading ≡ reading_by 1 false → sizes ≡ 1 ∷ []
    → InRange Int element → All (InRange Int) uniforms
    → SuitsRun (function_meaning object function reading) (vector_source (element ∷ []) sizes uniforms) 0 0 1
suited-block object function reading element sizes uniforms params reads shape fits range zero less =
    rw reads (suited-one object function (reading_by 1 false) element sizes uniforms params refl shape fits range)
suited-block object function reading element sizes uniforms params reads shape fits range (suc behind) less = absurd (omega arith)
