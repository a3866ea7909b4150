-- Rows one above another, of which the first one stands alone.
use Rattle.std.proofs.Common.{◌≡◌, inl, inr, ℕ, suc, ◌+◌, ◌-◌, ◌*◌, ◌<◌, List, ◌++◌, length, ℤ, pos, Ok, slice_index_or, refl, sym, ap, subst, ◌∙◌, arith}
use Rattle.std.proofs.lemmas.Bool.{cases_lt}
use Rattle.std.proofs.lemmas.List.{get_or_append_left, get_or-append-add}
use Rattle.sk_columns.specs.Cells.{cell_of, made_by}
use Rattle.sk_columns.specs.declared.combine.Action.{Action}
use Rattle.sk_columns.specs.declared.level.Level.{Level}
use Rattle.sk_columns.specs.declared.level.Level.TheVariants.{Here, Column, Number}
use Rattle.sk_columns.proofs.Stacks.{cell-same}
use Rattle.sk_columns.specs.Known.{Known}

in-first : (first above : List ℤ) (index : ℕ) → index < length first → slice_index_or (first ++ above) index (pos 0) ≡ slice_index_or first index (pos 0)
in-first first above index inside = get_or_append_left first above (pos 0) index inside

in-above : (first above : List ℤ) (index : ℕ) → slice_index_or (first ++ above) (length first + index) (pos 0) ≡ slice_index_or above index (pos 0)
in-above first above index = get_or-append-add first above index (pos 0)

pub cell-first : (level : Level) (first above : List ℤ) (place : ℕ) (known : Known) → place < length first
    → cell_of level (first ++ above) place known ≡ cell_of level first place known
cell-first level first above place known inside =
    cell-same level first (first ++ above) place known (in-first first above place inside)

pub cell-above : (level : Level) (first above : List ℤ) (index : ℕ) (known : Known)
    → cell_of level (first ++ above) (length first + index) known ≡ cell_of level above index known
cell-above Here first above index known = in-above first above index
cell-above (Column slot) first above index known = refl
cell-above (Number number) first above index known = refl

-- a cell of the first row
pub cell-row_first : (level : Level) (first above : List ℤ) (row place : ℕ) (known : Known) → row ≡ 0 → place < length first
    → cell_of level (first ++ above) (row * length first + place) known ≡ cell_of level first place known
cell-row_first level first above row place known none inside =
    let here : row * length first + place ≡ place = ap (λ (n : ℕ). n * length first + place) none ∙ (omega arith) in
    ap (λ (n : ℕ). cell_of level (first ++ above) n known) here ∙ cell-first level first above place known inside

-- a cell of a row above the first one
pub cell-row_above : (level : Level) (first above : List ℤ) (row lower place : ℕ) (known : Known) → row ≡ suc lower
    → cell_of level (first ++ above) (row * length first + place) known ≡ cell_of level above (lower * length first + place) known
cell-row_above level first above row lower place known is =
    let here : row * length first + place ≡ length first + (lower * length first + place) = ap (λ (n : ℕ). n * length first + place) is ∙ (grind arith) in
    ap (λ (n : ℕ). cell_of level (first ++ above) n known) here ∙ cell-above level first above (lower * length first + place) known

pub value-row_above : (first above : List ℤ) (row lower place : ℕ) → row ≡ suc lower
    → slice_index_or (first ++ above) (row * length first + place) (pos 0) ≡ slice_index_or above (lower * length first + place) (pos 0)
value-row_above first above row lower place is =
    let here : row * length first + place ≡ length first + (lower * length first + place) = ap (λ (n : ℕ). n * length first + place) is ∙ (grind arith) in
    ap (λ (n : ℕ). slice_index_or (first ++ above) n (pos 0)) here ∙ in-above first above (lower * length first + place)

-- what is made of two rows above the first one
pub made_above : (act : Action) (left right : Level) (first above after : List ℤ) (row lower place : ℕ) (known : Known) → row ≡ suc lower
    → made_by act (cell_of left above (lower * length first + place) known) (cell_of right above (lower * length first + length first + place) known)
    ≡ Ok (slice_index_or after (lower * length first + place) (pos 0))
    → made_by act (cell_of left (first ++ above) (row * length first + place) known) (cell_of right (first ++ above) (row * length first + length first + place) known)
    ≡ Ok (slice_index_or (first ++ after) (row * length first + place) (pos 0))
made_above act left right first above after row lower place known is made =
    let next : row * length first + length first + place ≡ length first + (lower * length first + length first + place) =
    ap (λ (n : ℕ). n * length first + length first + place) is ∙ (grind arith) in
    let one = cell-row_above left first above row lower place known is in
    let other : cell_of right (first ++ above) (row * length first + length first + place) known ≡ cell_of right above (lower * length first + length first + place) known =
    ap (λ (n : ℕ). cell_of right (first ++ above) n known) next ∙ cell-above right first above (lower * length first + length first + place) known in
    let value = cell-row_above Here first after row lower place known is in
    ap (λ (x : ℤ). made_by act x (cell_of right (first ++ above) (row * length first + length first + place) known)) one
    ∙ ap (made_by act (cell_of left above (lower * length first + place) known)) other ∙ made ∙ ap Ok (sym value)

-- rows above the first one that are kept are kept with it
pub kept_above : (first above after : List ℤ) (row lower : ℕ) → row ≡ suc lower
    → ((index : ℕ) → index < lower * length first → slice_index_or after index (pos 0) ≡ slice_index_or above index (pos 0))
    → (index : ℕ) → index < row * length first → slice_index_or (first ++ after) index (pos 0) ≡ slice_index_or (first ++ above) index (pos 0)
kept_above first above after row lower is kept index less = elim (cases_lt index (length first)) [
  | inl inside ↦ in-first first after index inside ∙ sym (in-first first above index inside)
  | inr behind ↦
      let back : length first + (index - length first) ≡ index = omega arith in
      let size : row * length first ≡ length first + lower * length first = ap (λ (n : ℕ). n * length first) is ∙ (grind arith) in
      subst (λ (n : ℕ). slice_index_or (first ++ after) n (pos 0) ≡ slice_index_or (first ++ above) n (pos 0)) back
      (in-above first after (index - length first) ∙ kept (index - length first) (omega arith) ∙ sym (in-above first above (index - length first)))
]
