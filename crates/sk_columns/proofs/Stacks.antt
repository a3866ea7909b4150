-- Stacks of levels.
use Rattle.std.proofs.Common.{◌≡◌, ◌≢◌, ℕ, zero, suc, ◌+◌, ◌*◌, ◌<◌, List, ◌∷◌, length, ℤ, pos, slice_set, slice_index_or, refl, ap, ◌∙◌, arith}
use Rattle.std.proofs.lemmas.List.{get_or-set_same, get_or-set_other}
use Rattle.sk_columns.specs.Blocks.{stack_of}
use Rattle.sk_columns.specs.Cells.{cell_of}
use Rattle.sk_columns.specs.declared.level.Level.{Level}
use Rattle.sk_columns.specs.declared.level.Level.TheVariants.{Here, Column, Number}
use Rattle.sk_columns.specs.Known.{Known}

-- one row lies above another
pub row_above : (row block : ℕ) → suc row * block ≡ row * block + block
row_above row block = grind arith

-- a cell depends on the one cell of its row
pub cell-same : (level : Level) (rows after : List ℤ) (index : ℕ) (known : Known)
    → slice_index_or after index (pos 0) ≡ slice_index_or rows index (pos 0) → cell_of level after index known ≡ cell_of level rows index known
cell-same Here rows after index known is = is
cell-same (Column slot) rows after index known is = refl
cell-same (Number number) rows after index known is = refl

-- a stack depends on its levels and on their rows
pub same : (levels levels_after : List Level) (rows after : List ℤ) (block place : ℕ) (known : Known) (rest : List ℤ) (height : ℕ) → place < block
    → ((level : ℕ) → level < height → slice_index_or levels_after level Here ≡ slice_index_or levels level Here)
    → ((index : ℕ) → index < height * block → slice_index_or after index (pos 0) ≡ slice_index_or rows index (pos 0))
    → stack_of levels_after after block place known rest height ≡ stack_of levels rows block place known rest height
same levels levels_after rows after block place known rest zero inside level_same kept = refl
same levels levels_after rows after block place known rest (suc fewer) inside level_same kept =
    let above : suc fewer * block ≡ fewer * block + block = row_above fewer block in
    let first : cell_of (slice_index_or levels_after fewer Here) after (fewer * block + place) known
    ≡ cell_of (slice_index_or levels fewer Here) rows (fewer * block + place) known =
    ap (λ (l : Level). cell_of l after (fewer * block + place) known) (level_same fewer (omega arith))
    ∙ cell-same (slice_index_or levels fewer Here) rows after (fewer * block + place) known (kept (fewer * block + place) (omega arith)) in
    let others : stack_of levels_after after block place known rest fewer ≡ stack_of levels rows block place known rest fewer =
    same levels levels_after rows after block place known rest fewer inside (λ level less. level_same level (omega arith)) (λ index less. kept index (omega arith)) in
    ap (λ (x : ℤ). x ∷ stack_of levels_after after block place known rest fewer) first
    ∙ ap (λ (xs : List ℤ). cell_of (slice_index_or levels fewer Here) rows (fewer * block + place) known ∷ xs) others

-- one level on those below it, which are as they were
pub on_top_by : (levels levels_after : List Level) (rows after : List ℤ) (block place : ℕ) (known : Known) (rest : List ℤ) (height : ℕ) (level : Level) → place < block
    → slice_index_or levels_after height Here ≡ level
    → ((below : ℕ) → below < height → slice_index_or levels_after below Here ≡ slice_index_or levels below Here)
    → ((index : ℕ) → index < height * block → slice_index_or after index (pos 0) ≡ slice_index_or rows index (pos 0))
    → stack_of levels_after after block place known rest (suc height)
    ≡ cell_of level after (height * block + place) known ∷ stack_of levels rows block place known rest height
on_top_by levels levels_after rows after block place known rest height level inside top others kept =
    ap (λ (l : Level). cell_of l after (height * block + place) known ∷ stack_of levels_after after block place known rest height) top
    ∙ ap (λ (xs : List ℤ). cell_of level after (height * block + place) known ∷ xs)
    (same levels levels_after rows after block place known rest height inside others kept)

-- one level on those below it
pub on_top : (levels levels_after : List Level) (rows after : List ℤ) (block place : ℕ) (known : Known) (rest : List ℤ) (height : ℕ) (level : Level) → place < block
    → height < length levels → levels_after ≡ slice_set levels height level
    → ((index : ℕ) → index < height * block → slice_index_or after index (pos 0) ≡ slice_index_or rows index (pos 0))
    → stack_of levels_after after block place known rest (suc height)
    ≡ cell_of level after (height * block + place) known ∷ stack_of levels rows block place known rest height
on_top levels levels_after rows after block place known rest height level inside room is kept =
    let top : slice_index_or levels_after height Here ≡ level =
    ap (λ (ls : List Level). slice_index_or ls height Here) is ∙ get_or-set_same levels height level Here room in
    let others : (below : ℕ) → below < height → slice_index_or levels_after below Here ≡ slice_index_or levels below Here =
    λ below less.
    let other : below ≢ height = λ e. absurd (omega (arith, e)) in
    ap (λ (ls : List Level). slice_index_or ls below Here) is ∙ get_or-set_other levels height below level Here other in
    on_top_by levels levels_after rows after block place known rest height level inside top others kept
