-- A vector suits the functions of an index at each of its places.
use Rattle.std.proofs.Common.{◌≡◌, ◌<◌, ℕ, ℤ, zero, suc, List, [], ◌∷◌, length, map, Bool, true, false, Some, None, pos, slice_get, slice_index_or, unwrap_or, refl, sym, ap, subst, ◌∙◌, arith}
use Rattle.std.specs.Prelude.{All, IsSomeAnd, if◌then◌else◌, nat_lt, unsigned_abs}
use Rattle.std.proofs.lemmas.Bool.{eqb-true, lt-ltb}
use Rattle.std.proofs.lemmas.List.Elements.{All-head, All-tail}
use Rattle.sk_arguments.specs.Arguments.{Reading, operand_kinds, reads_kind}
use Rattle.sk_base.specs.Arithmetic.{InRange}
use Rattle.sk_base.specs.Shape.{IsShape, cells_of, shape_of}
use Rattle.sk_base.specs.ShapeLaws.{shape_of-some}
use Rattle.sk_base.specs.declared.number.Ty.TheVariants.{Int}
use Rattle.sk_isa.specs.Objects.{signature_at}
use Rattle.sk_isa.specs.declared.object.Object.{Object}
use Rattle.sk_kernel.specs.Instances.{function_meaning}
use Rattle.sk_kernel.specs.Kernels.{Suits, SuitsRun, operand_type, run_pair, run_place}
use Rattle.sk_kernel.specs.Vectors.{vector_source}
use Rattle.sk_tree.specs.declared.tree.ParamKind.{ParamKind}
use Rattle.sk_tree.specs.declared.tree.ParamKind.TheVariants.{Scalar}
use Rattle.sk_vm.specs.Frames.{Framed, reading_by}
use Rattle.sk_index_rows.specs.IndexedObject.{IsIndexed, IsReady, index_and_int, indexed_object}

-- a cell that is there is an int
cell-in_range : (cells : List ℤ) (index : ℕ) → All (InRange Int) cells → index < length cells → IsSomeAnd (slice_get cells index) (InRange Int)
cell-in_range [] index range inside = absurd (omega arith)
cell-in_range (first ∷ rest) zero range inside = All-head (InRange Int) first rest range
cell-in_range (first ∷ rest) (suc index) range inside = cell-in_range rest index (All-tail (InRange Int) first rest range) (omega arith)

-- the cell at the place is read
held-element : (cells uniforms : List ℤ) (sizes shape : List ℕ) (place operand index : ℕ) → All (InRange Int) cells → cells_of sizes ≡ length cells → place < length cells
    → elim (slice_get (Scalar Int ∷ []) operand) [ Some kind ↦ reads_kind (reading_by 1 false) shape (record { place = place; pair = 0 }) operand kind index | None ↦ false ] ≡ true
    → IsSomeAnd ((vector_source cells sizes uniforms).held operand index) (InRange (operand_type (Scalar Int ∷ []) operand))
held-element cells uniforms sizes shape place zero index range count inside reads =
    let at : index ≡ place = eqb-true index place reads in
    let there : index < length cells = omega (arith, at, inside) in
    let held : nat_lt index (cells_of sizes) ≡ true = lt-ltb index (cells_of sizes) (omega (arith, there, count)) in
    subst (λ (test : Bool). IsSomeAnd (if test then slice_get cells index else None) (InRange Int)) (sym held) (cell-in_range cells index range there)
held-element cells uniforms sizes shape place (suc operand) index range count inside reads = cc

held-at : (cells uniforms : List ℤ) (sizes shape : List ℕ) (kinds : List ParamKind) (place operand index : ℕ) → kinds ≡ Scalar Int ∷ []
    → All (InRange Int) cells → cells_of sizes ≡ length cells → place < length cells
    → elim (slice_get kinds operand) [ Some kind ↦ reads_kind (reading_by 1 false) shape (record { place = place; pair = 0 }) operand kind index | None ↦ false ] ≡ true
    → IsSomeAnd ((vector_source cells sizes uniforms).held operand index) (InRange (operand_type kinds operand))
held-at cells uniforms sizes shape kinds place operand index is range count inside =
    subst (λ (ks : List ParamKind).
    elim (slice_get ks operand) [ Some kind ↦ reads_kind (reading_by 1 false) shape (record { place = place; pair = 0 }) operand kind index | None ↦ false ] ≡ true
    → IsSomeAnd ((vector_source cells sizes uniforms).held operand index) (InRange (operand_type ks operand)))
    (sym is) (held-element cells uniforms sizes shape place operand index range count inside)

-- a shape of one size has as many cells
one-size : (n : ℕ) (sizes : List ℕ) → map pos sizes ≡ pos n ∷ [] → cells_of sizes ≡ n
one-size n [] is = absurd (omega (arith, ap length is))
one-size n (size ∷ []) is =
    let same : size ≡ n = ap (λ (xs : List ℤ). unsigned_abs (slice_index_or xs 0 (pos 0))) is in
    omega (arith, same)
one-size n (size ∷ other ∷ sizes) is = absurd (omega (arith, ap length is))

takes_index : (function : ℕ) → function < 2 → (signature_at indexed_object function).params ≡ index_and_int
takes_index zero below = refl
takes_index (suc zero) below = refl
takes_index (suc (suc more)) below = absurd (omega arith)

-- a shape of one size
one-long : (n : ℕ) (sizes : List ℕ) → map pos sizes ≡ pos n ∷ [] → length sizes ≡ 1
one-long n [] is = absurd (omega (arith, ap length is))
one-long n (size ∷ []) is = refl
one-long n (size ∷ other ∷ sizes) is = absurd (omega (arith, ap length is))

suited_at : (object : Object) (function : ℕ) (reading : Reading) (cells : List ℤ) (sizes : List ℕ) (place : ℕ)
    → (signature_at object function).params ≡ index_and_int → reading ≡ reading_by 1 false → IsShape sizes → length sizes ≡ 1
    → cells_of sizes ≡ length cells → place < length cells → All (InRange Int) cells
    → Suits (function_meaning object function reading) (vector_source cells sizes []) place 0
suited_at object function reading cells sizes place params reads shape one count inside range =
    let less : place < cells_of sizes = omega (arith, count, inside) in
    rw reads (record {
      operands = rw params ((shape, less), record {});
      uniforms = rw params (record {});
      over = rw params (shape, one, less);
      held = λ operand index reads.
          held-at cells [] sizes (unwrap_or (slice_get (sizes ∷ []) operand) []) (operand_kinds 1 (signature_at object function).params) place operand index
          (ap (operand_kinds 1) params) range count inside reads;
    })

-- a vector suits a frame of a function of the program at each of its places
pub indexed-suits : (object : Object) (function : ℕ) (frame : Framed) (cells : List ℤ) (sizes : List ℕ)
    → IsIndexed object → IsReady object function frame → function < 2 → shape_of (pos (length cells) ∷ []) ≡ Some sizes → All (InRange Int) cells
    → SuitsRun (function_meaning object frame.function frame.reading) (vector_source cells sizes []) 0 0 (length cells)
indexed-suits object function frame cells sizes indexed ready below shape range behind inside =
    let meaning = function_meaning object frame.function frame.reading in
    let source = vector_source cells sizes [] in
    let found = shape_of-some (pos (length cells) ∷ []) sizes shape in
    let place : run_place meaning 0 behind ≡ behind =
    ap (λ (r : Reading). run_place (function_meaning object frame.function r) 0 behind) ready.reading ∙ (omega arith) in
    let pair : run_pair meaning 0 behind ≡ 0 = ap (λ (r : Reading). run_pair (function_meaning object frame.function r) 0 behind) ready.reading in
    subst (λ (p : ℕ). Suits meaning source p (run_pair meaning 0 behind)) (sym place)
    (subst (λ (p : ℕ). Suits meaning source behind p) (sym pair)
    (suited_at object frame.function frame.reading cells sizes behind (rw (ready.called, indexed.same) (takes_index function below)) ready.reading
    found.0 (one-long (length cells) sizes found.1) (one-size (length cells) sizes found.1) inside range))
