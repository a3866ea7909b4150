-- From the conditions of skeletons that fold lines to those of their lines, and from the folds of lines to the elements of results.
use mathlib.Core.Path.{fun_ext}
use Rattle.std.proofs.Common.{◌≡◌, ◌∙◌, ℕ, ◌+◌, ◌-◌, ◌*◌, ◌^◌, ◌<◌, ◌≤◌, Bool, true, false, List, [], ℤ, Ok, refl, sym, ap, subst, arith}
use Rattle.std.specs.Prelude.{Result, Err, Option, Some, None, IsSome, IsSomeAnd, if◌then◌else◌, slice_get, unwrap_or}
use Rattle.sk_base.specs.Shape.{cells_of}
use Rattle.sk_base.specs.declared.number.Trap.{Trap}
use Rattle.sk_formula.specs.Calls.{cells_in, columns_of, element_value, first_operand, rows_of}
use Rattle.sk_formula.specs.Elements.{TrapAt, folded, mapped}
use Rattle.sk_formula.specs.Skeletons.{Functions, cell_at, column_fold, fold_value, pairs_column_fold, pairs_row_fold, row_fold}
use Rattle.sk_kernel.specs.Kernels.{HoldsInside, IsJoined, Meaning, Source}
use Rattle.sk_seq.proofs.Folded.{from_first, further}
use Rattle.sk_seq.proofs.Mapped.{of_units}
use Rattle.sk_seq.specs.Given.{sizes_in}
use Rattle.sk_seq.specs.Lines.{HoldsLine, MayTake, MayTakeCell, SuitsLine, line_fold, line_operand}
use Rattle.sk_seq.specs.Operands.{TakesValues}
use Rattle.sk_seq.specs.Results.{AreComputed}
use Rattle.sk_seq.specs.declared.line_folds.Lines.TheVariants.{Columns, PairColumns, PairRows, Rows}
use Rattle.sk_seq.specs.declared.trapped.Trapped.{Trapped}
use Rattle.sk_tree.specs.declared.settings.Settings.{Settings}
use Rattle.sk_tree.specs.declared.tree.Skeleton.TheVariants.{MapPairsReduce, Reduce}

some_of : (found : Option ℤ) (P : ℤ → Type 0) → IsSomeAnd found P → IsSome found
some_of (Some cell) P holds = refl
some_of None P holds = absurd holds

-- a row is folded from its first cell on, wherever that stands
fold_further : (by : ℕ) (fold : Result (Option ℤ) TrapAt) → fold_value (further by fold) ≡ fold_value fold
fold_further by (Ok value) = refl
fold_further by (Err trapped) = refl

row_line : (functions : Functions) (start : Option ℤ) (columns row : ℕ) → row_fold functions start columns row ≡ line_fold (Rows columns) functions start columns row
row_line functions start columns row =
    ap fold_value (from_first functions.join (cell_at functions) (line_operand (Rows columns) functions row) start (row * columns) columns (λ k less. refl))
    ∙ fold_further (row * columns) (folded functions.join (line_operand (Rows columns) functions row) start 0 columns)

-- lines one after another are the units of a skeleton
pub lines_computed : (value other : ℕ → Result ℤ Trap) (lo hi count : ℕ) (out : List ℤ) (result : Result (Unit {0}) Trapped) → other ≡ value → count ≡ hi - lo
    → AreComputed (mapped other lo count) out result → AreComputed (mapped value (lo * 1) ((hi - lo) * 1)) out result
lines_computed value other lo hi count out result same long computed =
    subst (λ (f : ℕ → Result ℤ Trap). AreComputed (mapped f (lo * 1) ((hi - lo) * 1)) out result) same
    (of_units other (lo * 1) lo ((hi - lo) * 1) count out result (omega arith) (omega (arith, long)) computed)

-- lines of a matrix
module _ (meaning : Meaning) (source : Source) (sizes : List ℕ) (rows columns : ℕ) (holds : HoldsInside source) (shape_is : slice_get source.shapes 0 ≡ Some sizes)
    (rows_are : rows ≡ rows_of sizes) (columns_are : columns ≡ columns_of sizes) (bounded : cells_of sizes ≤ 2 ^ 24) where
  first_is : first_operand (sizes_in source) ≡ sizes
  first_is = ap (λ (found : Option (List ℕ)). unwrap_or found []) shape_is

  rows_is : rows_of (first_operand (sizes_in source)) ≡ rows
  rows_is = ap rows_of first_is ∙ sym rows_are

  columns_is : columns_of (first_operand (sizes_in source)) ≡ columns
  columns_is = ap columns_of first_is ∙ sym columns_are

  taken : (index : ℕ) → IsSomeAnd (source.held 0 index) (IsJoined meaning) → MayTakeCell meaning source index
  taken index held =
      let inside : index < cells_of sizes =
      subst (λ (found : Option (List ℕ)). IsSomeAnd found (λ (one : List ℕ). index < cells_of one)) shape_is
      (holds 0 index (some_of (source.held 0 index) (IsJoined meaning) held)) in
      (omega (arith, inside, bounded), held)

  pub columns_taken : (by : Bool) → by ≡ true → (line : ℕ) → HoldsLine meaning source by line → (behind : ℕ) → behind < rows
      → MayTake (Columns columns) meaning source line behind
  columns_taken by is line held behind less =
      let each : HoldsLine meaning source true line = subst (λ (b : Bool). HoldsLine meaning source b line) is held in
      taken (behind * columns + line)
      (subst (λ (n : ℕ). IsSomeAnd (source.held 0 (behind * n + line)) (IsJoined meaning)) columns_is
      (each behind (subst (λ (n : ℕ). behind < n) (sym rows_is) less)))

  pub rows_taken : (by : Bool) → by ≡ false → (line : ℕ) → HoldsLine meaning source by line → (behind : ℕ) → behind < columns
      → MayTake (Rows columns) meaning source line behind
  rows_taken by is line held behind less =
      let each : HoldsLine meaning source false line = subst (λ (b : Bool). HoldsLine meaning source b line) is held in
      taken (line * columns + behind)
      (subst (λ (n : ℕ). IsSomeAnd (source.held 0 (line * n + behind)) (IsJoined meaning)) columns_is
      (each behind (subst (λ (n : ℕ). behind < n) (sym columns_is) less)))

  pub columns_same : (settings : Settings) (functions : Functions) → settings.columns ≡ true
      → line_fold (Columns columns) functions settings.start rows ≡ element_value Reduce settings (sizes_in source) functions
  columns_same settings functions is =
      subst (λ (b : Bool). line_fold (Columns columns) functions settings.start rows
      ≡ (if b then column_fold functions settings.start (rows_of (first_operand (sizes_in source))) (columns_of (first_operand (sizes_in source)))
      else row_fold functions settings.start (columns_of (first_operand (sizes_in source)))))
      (sym is)
      (sym (ap (λ (n : ℕ). column_fold functions settings.start n (columns_of (first_operand (sizes_in source)))) rows_is
      ∙ ap (λ (n : ℕ). column_fold functions settings.start rows n) columns_is))

  pub rows_same : (settings : Settings) (functions : Functions) → settings.columns ≡ false
      → line_fold (Rows columns) functions settings.start columns ≡ element_value Reduce settings (sizes_in source) functions
  rows_same settings functions is =
      subst (λ (b : Bool). line_fold (Rows columns) functions settings.start columns
      ≡ (if b then column_fold functions settings.start (rows_of (first_operand (sizes_in source))) (columns_of (first_operand (sizes_in source)))
      else row_fold functions settings.start (columns_of (first_operand (sizes_in source)))))
      (sym is)
      (sym (ap (λ (n : ℕ). row_fold functions settings.start n) columns_is ∙ fun_ext (λ row. row_line functions settings.start columns row)))

-- lines of pairs
module _ (meaning : Meaning) (source : Source) (takes : TakesValues meaning) where
  cells_are : (operand : ℕ) (sizes : List ℕ) → slice_get source.shapes operand ≡ Some sizes → cells_in (sizes_in source) operand ≡ cells_of sizes
  cells_are operand sizes shape_is = ap (λ (found : Option (List ℕ)). elim found [ Some shape ↦ cells_of shape | None ↦ 0 ]) shape_is

  pub pair_columns_taken : (by : Bool) → by ≡ true → (line : ℕ) → SuitsLine meaning source by line → (sizes : List ℕ) → slice_get source.shapes 0 ≡ Some sizes
      → (operands : ℕ) → operands ≡ cells_of sizes → (behind : ℕ) → behind < operands → MayTake PairColumns meaning source line behind
  pair_columns_taken by is line suits sizes shape_is operands operands_are behind less =
      let each : SuitsLine meaning source true line = subst (λ (b : Bool). SuitsLine meaning source b line) is suits in
      (each behind (subst (λ (n : ℕ). behind < n) (operands_are ∙ sym (cells_are 0 sizes shape_is)) less), takes)

  pub pair_rows_taken : (by : Bool) → by ≡ false → (line : ℕ) → SuitsLine meaning source by line → (sizes : List ℕ) → slice_get source.shapes 1 ≡ Some sizes
      → (operands : ℕ) → operands ≡ cells_of sizes → (behind : ℕ) → behind < operands → MayTake PairRows meaning source line behind
  pair_rows_taken by is line suits sizes shape_is operands operands_are behind less =
      let each : SuitsLine meaning source false line = subst (λ (b : Bool). SuitsLine meaning source b line) is suits in
      (each behind (subst (λ (n : ℕ). behind < n) (operands_are ∙ sym (cells_are 1 sizes shape_is)) less), takes)

  pub pair_columns_same : (settings : Settings) (functions : Functions) → settings.columns ≡ true → (sizes : List ℕ) → slice_get source.shapes 0 ≡ Some sizes
      → (operands : ℕ) → operands ≡ cells_of sizes
      → line_fold PairColumns functions settings.start operands ≡ element_value MapPairsReduce settings (sizes_in source) functions
  pair_columns_same settings functions is sizes shape_is operands operands_are =
      subst (λ (b : Bool). line_fold PairColumns functions settings.start operands
      ≡ (if b then pairs_column_fold functions settings.start (cells_in (sizes_in source) 0)
      else pairs_row_fold functions settings.start (cells_in (sizes_in source) 1)))
      (sym is) (ap (λ (n : ℕ). pairs_column_fold functions settings.start n) (operands_are ∙ sym (cells_are 0 sizes shape_is)))

  pub pair_rows_same : (settings : Settings) (functions : Functions) → settings.columns ≡ false → (sizes : List ℕ) → slice_get source.shapes 1 ≡ Some sizes
      → (operands : ℕ) → operands ≡ cells_of sizes
      → line_fold PairRows functions settings.start operands ≡ element_value MapPairsReduce settings (sizes_in source) functions
  pair_rows_same settings functions is sizes shape_is operands operands_are =
      subst (λ (b : Bool). line_fold PairRows functions settings.start operands
      ≡ (if b then pairs_column_fold functions settings.start (cells_in (sizes_in source) 0)
      else pairs_row_fold functions settings.start (cells_in (sizes_in source) 1)))
      (sym is) (ap (λ (n : ℕ). pairs_row_fold functions settings.start n) (operands_are ∙ sym (cells_are 1 sizes shape_is)))
