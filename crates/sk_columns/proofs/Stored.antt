-- Slots before and behind a store.
use Rattle.std.proofs.Common.{◌≡◌, ◌≢◌, inl, inr, ℕ, suc, ◌+◌, ◌-◌, ◌*◌, ◌<◌, ◌≤◌, nat_lt, List, length, ℤ, pos, Some, slice_get, slice_set, slice_index_or, unwrap_or, refl, sym, ap, ◌∙◌, arith}
use Rattle.std.specs.Prelude.{Option}
use Rattle.std.proofs.lemmas.Bool.{cases_lt, cond-true, cond-false, lt-ltb, le-ltb}
use Rattle.std.proofs.lemmas.List.{get_or_past, get_or-set_same, get_or-set_other, length-set}
use Rattle.std.proofs.lemmas.Nat.{mul-le}
use Rattle.std.proofs.lemmas.Option.{get_or_from_slice_get, same_Some, slice_get-get_or, slice_get_within}
use Rattle.sk_meaning.specs.Evaluation.{Argument}
use Rattle.sk_columns.specs.Cells.{cell_of}
use Rattle.sk_columns.specs.Locals.{IsKept, kept_at, level_in, stored_in}
use Rattle.sk_columns.specs.declared.level.Level.{Level}
use Rattle.sk_columns.specs.declared.level.Level.TheVariants.{Here, Column, Number}
use Rattle.sk_columns.proofs.Stacks.{row_above}
use Rattle.sk_columns.specs.Known.{Have, Known}

-- the level of a slot below the least one, and of one from there on
level-below : (least : ℕ) (levels : List Level) (slot : ℕ) → slot < least → level_in least levels slot ≡ Column slot
level-below least levels slot less = cond-true (nat_lt slot least) _ _ (lt-ltb slot least less)

level-from : (least : ℕ) (levels : List Level) (slot : ℕ) → least ≤ slot → level_in least levels slot ≡ slice_index_or levels (slot - least) (Column slot)
level-from least levels slot from = cond-false (nat_lt slot least) _ _ (le-ltb slot least from)

-- where no slot was stored, each holds what it held before
pub begun-levels : (least : ℕ) (levels : List Level) → ((row : ℕ) → row < length levels → slice_get levels row ≡ Some (Column (least + row)))
    → (slot : ℕ) → level_in least levels slot ≡ Column slot
begun-levels least levels own slot = elim (cases_lt slot least) [
  | inl less ↦ level-below least levels slot less
  | inr from ↦ level-from least levels slot from ∙ elim (cases_lt (slot - least) (length levels)) [
    | inl inside ↦
        let back : least + (slot - least) ≡ slot = omega arith in
        get_or_from_slice_get levels (slot - least) (Column (least + (slot - least))) (Column slot) (own (slot - least) inside)
        ∙ ap (λ (n : ℕ). Column n) back
    | inr outside ↦ get_or_past levels (slot - least) (Column slot) outside
  ]
]

-- what a slot holds has the cell of its level
pub kept-cell : (level : Level) (rows cells : List ℤ) (index place : ℕ) (known : Known) → level ≢ Here
    → unwrap_or (kept_at level rows index known) (pos 0) ≡ cell_of level cells place known
kept-cell Here rows cells index place known other = absurd (other refl)
kept-cell (Column slot) rows cells index place known other = refl
kept-cell (Number number) rows cells index place known other = refl

kept-value : (level : Level) (rows cells : List ℤ) (index place : ℕ) (known : Known) (number : ℤ)
    → (level ≡ Here → slice_index_or rows index (pos 0) ≡ slice_index_or cells place (pos 0))
    → kept_at level rows index known ≡ Some number → cell_of level cells place known ≡ number
kept-value Here rows cells index place known number same is = sym (same refl) ∙ same_Some (slice_index_or rows index (pos 0)) number is
kept-value (Column slot) rows cells index place known number same is = ap (λ (o : Option ℤ). unwrap_or o (pos 0)) is
kept-value (Number other) rows cells index place known number same is = same_Some other number is

-- what a slot holds depends on its level and on the one cell of its row
kept-same : (level : Level) (rows after : List ℤ) (index : ℕ) (known : Known) → slice_index_or after index (pos 0) ≡ slice_index_or rows index (pos 0)
    → kept_at level after index known ≡ kept_at level rows index known
kept-same Here rows after index known same = ap (λ (x : ℤ). Some x) same
kept-same (Column slot) rows after index known same = refl
kept-same (Number number) rows after index known same = refl

-- slots, one of which was stored
set_same : (slots : List ℤ) (slot : ℕ) (x : ℤ) → slot < length slots → slice_get (slice_set slots slot x) slot ≡ Some x
set_same slots slot x inside =
    slice_get-get_or (slice_set slots slot x) slot (pos 0) (omega (arith, inside, length-set slots slot x))
    ∙ ap (λ (y : ℤ). Some y) (get_or-set_same slots slot x (pos 0) inside)

set_other : (slots : List ℤ) (slot other : ℕ) (x y : ℤ) → other ≢ slot → slice_get slots other ≡ Some y → slice_get (slice_set slots slot x) other ≡ Some y
set_other slots slot other x y apart is =
    slice_get-get_or (slice_set slots slot x) other (pos 0) (omega (arith, slice_get_within slots other y is, length-set slots slot x))
    ∙ ap (λ (z : ℤ). Some z) (get_or-set_other slots slot other x (pos 0) apart ∙ get_or_from_slice_get slots other y (pos 0) is)

-- a place of one row lies before all places of a row above
rows-apart : (low high block place : ℕ) → low < high → low * block + block ≤ high * block + place
rows-apart low high block place less =
    let over : suc low * block ≤ high * block = mul-le (suc low) block high block (omega arith) (omega arith) in
    omega (arith, over, row_above low block)

row-before : (low high block place : ℕ) → low < high → place < block → low * block + place < high * block
row-before low high block place less inside =
    let over : suc low * block ≤ high * block = mul-le (suc low) block high block (omega arith) (omega arith) in
    omega (arith, over, row_above low block)

-- what is known behind a store
module _ (least slot : ℕ) (level : Level) (cells : List ℤ) (levels levels_after : List Level) (rows rows_after : List ℤ) (place : ℕ) (known : Known)
    (from : least ≤ slot) (inside : place < length cells) (kept : IsKept level (slot - least) cells levels rows levels_after rows_after) where
  abbrev before : Known
  before = stored_in least levels rows (length cells) place known

  abbrev after : Known
  after = stored_in least levels_after rows_after (length cells) place known

  own-level : level_in least levels_after slot ≡ level
  own-level =
      level-from least levels_after slot from ∙ ap (λ (ls : List Level). slice_index_or ls (slot - least) (Column slot)) kept.levels_are
      ∙ get_or-set_same levels (slot - least) level (Column slot) kept.inside

  own-value : (number : ℤ) → after.slots slot ≡ Some number → cell_of level cells place known ≡ number
  own-value number is =
      kept-value level rows_after cells ((slot - least) * length cells + place) place known number (λ here. kept.here here place inside)
      (sym (ap (λ (l : Level). kept_at l rows_after ((slot - least) * length cells + place) known) own-level) ∙ is)

  other-level : (other : ℕ) → least ≤ other → other ≢ slot → level_in least levels_after other ≡ level_in least levels other
  other-level other upto apart =
      let rows_apart : other - least ≢ slot - least = λ e. absurd (apart (omega (arith, e, upto, from))) in
      level-from least levels_after other upto ∙ ap (λ (ls : List Level). slice_index_or ls (other - least) (Column other)) kept.levels_are
      ∙ get_or-set_other levels (slot - least) (other - least) level (Column other) rows_apart ∙ sym (level-from least levels other upto)

  other-from : (other : ℕ) → least ≤ other → other ≢ slot
      → slice_index_or rows_after ((other - least) * length cells + place) (pos 0) ≡ slice_index_or rows ((other - least) * length cells + place) (pos 0)
      → after.slots other ≡ before.slots other
  other-from other upto apart same =
      ap (λ (l : Level). kept_at l rows_after ((other - least) * length cells + place) known) (other-level other upto apart)
      ∙ kept-same (level_in least levels other) rows rows_after ((other - least) * length cells + place) known same

  other-value : (other : ℕ) → other ≢ slot → after.slots other ≡ before.slots other
  other-value other apart = elim (cases_lt other least) [
    | inl less ↦
        ap (λ (l : Level). kept_at l rows_after ((other - least) * length cells + place) known) (level-below least levels_after other less)
        ∙ sym (ap (λ (l : Level). kept_at l rows ((other - least) * length cells + place) known) (level-below least levels other less))
    | inr upto ↦ other-from other upto apart (elim (cases_lt other slot) [
      | inl low ↦ kept.below ((other - least) * length cells + place) (row-before (other - least) (slot - least) (length cells) place (omega arith) inside)
      | inr high ↦
          let over : slot < other = omega (arith, high, apart) in
          kept.above ((other - least) * length cells + place) (rows-apart (slot - least) (other - least) (length cells) place (omega arith))
    ])
  ]

  stored-value : (slots : List ℤ) → slot < length slots → ((other : ℕ) (number : ℤ) → before.slots other ≡ Some number → slice_get slots other ≡ Some number)
      → (other : ℕ) (number : ℤ) → after.slots other ≡ Some number → slice_get (slice_set slots slot (cell_of level cells place known)) other ≡ Some number
  stored-value slots within have other number is = elim (cases_lt other slot) [
    | inl low ↦
        let apart : other ≢ slot = λ e. absurd (omega (arith, e)) in
        set_other slots slot other (cell_of level cells place known) number apart (have other number (sym (other-value other apart) ∙ is))
    | inr upto ↦ elim (cases_lt slot other) [
      | inl high ↦
          let apart : other ≢ slot = λ e. absurd (omega (arith, e)) in
          set_other slots slot other (cell_of level cells place known) number apart (have other number (sym (other-value other apart) ∙ is))
      | inr down ↦
          let same : other ≡ slot = omega arith in
          ap (λ (s : ℕ). slice_get (slice_set slots slot (cell_of level cells place known)) s) same
          ∙ set_same slots slot (cell_of level cells place known) within
          ∙ ap (λ (x : ℤ). Some x) (own-value number (ap after.slots (sym same) ∙ is))
    ]
  ]

  -- the slots then have what is known, and the arguments are as they were
  pub have-stored : (arguments : List Argument) (slots : List ℤ) → slot < length slots → Have before arguments slots
      → Have after arguments (slice_set slots slot (cell_of level cells place known))
  have-stored arguments slots within have = record { stored = stored-value slots within have.stored; given = have.given }
