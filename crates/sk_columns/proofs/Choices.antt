-- Where jumps and choices lead.
use Rattle.std.proofs.Common.{◌≡◌, ◌≢◌, ℕ, suc, ◌+◌, ◌*◌, ◌<◌, Bool, true, false, List, ◌∷◌, ◌++◌, length, ℤ, pos, sym, ap, subst, ◌∙◌, arith}
use Rattle.std.specs.Prelude.{Some, Result, if◌then◌else◌, slice_get, slice_set, slice_index_or}
use Rattle.std.proofs.lemmas.List.{get_or-set_same, get_or-set_other, get_or_append_left, length-append}
use Rattle.sk_base.specs.declared.number.Trap.{Trap}
use Rattle.sk_isa.specs.Coded.{Routine}
use Rattle.sk_isa.specs.declared.code.Instr.{Instr}
use Rattle.sk_isa.specs.declared.code.Instr.TheVariants.{Jump, Zero}
use Rattle.sk_meaning.specs.Expressions.{holds}
use Rattle.sk_columns.specs.Blocks.{Comes, Reaches, point_of, stack_of}
use Rattle.sk_columns.specs.Cells.{cell_of}
use Rattle.sk_columns.specs.declared.level.Level.{Level}
use Rattle.sk_columns.specs.declared.level.Level.TheVariants.{Here}
use Rattle.sk_columns.proofs.Rows.{cell-above, cell-first, cell-row_above, cell-row_first}
use Rattle.sk_columns.proofs.Stacks.{on_top_by}
use Rattle.sk_columns.proofs.Standing.{one_step}
use Rattle.sk_columns.specs.Known.{Have, Known}

-- a jump leads on
pub jumped : (instrs : List Instr) (known : Known) (from at to : ℕ) (start stack : List ℤ) → slice_get instrs at ≡ Some (Jump to)
    → Reaches instrs known from start at stack → Reaches instrs known from start to stack
jumped instrs known from at to start stack found reaches = record {
  comes = λ routine slots turns result is have comes.
      let here : slice_get routine.instrs at ≡ Some (Jump to) = ap (λ (xs : List Instr). slice_get xs at) is ∙ found in
      reaches.comes routine slots turns result is have (suc comes.0, one_step routine comes.0 (point_of at stack slots turns) (Jump to) here ∙ comes.1);
}

-- the way behind a test
way : (instrs : List Instr) (known : Known) (at other end : ℕ) (x y : ℤ) (rest : List ℤ)
    → Reaches instrs known (at + 1) rest end (x ∷ rest) → Reaches instrs known other rest end (y ∷ rest)
    → (routine : Routine) (slots : List ℤ) (turns : ℕ) (result : Result (ℤ × ℕ) Trap) → routine.instrs ≡ instrs → Have known routine.arguments slots → (test : Bool)
    → Comes routine (point_of end ((if test then x else y) ∷ rest) slots turns) result
    → Comes routine (point_of (if test then suc at else other) rest slots turns) result
way instrs known at other end x y rest one two routine slots turns result is have true comes =
    let next : at + 1 ≡ suc at = omega arith in
    subst (λ (n : ℕ). Comes routine (point_of n rest slots turns) result) next (one.comes routine slots turns result is have comes)
way instrs known at other end x y rest one two routine slots turns result is have false comes =
    two.comes routine slots turns result is have comes

-- a test leads to the one of two values that it chooses
pub chosen : (instrs : List Instr) (known : Known) (at other end : ℕ) (test x y : ℤ) (rest : List ℤ) → slice_get instrs at ≡ Some (Zero other)
    → Reaches instrs known (at + 1) rest end (x ∷ rest) → Reaches instrs known other rest end (y ∷ rest)
    → Reaches instrs known at (test ∷ rest) end ((if holds test then x else y) ∷ rest)
chosen instrs known at other end test x y rest found one two = record {
  comes = λ routine slots turns result is have comes.
      let here : slice_get routine.instrs at ≡ Some (Zero other) = ap (λ (xs : List Instr). slice_get xs at) is ∙ found in
      let later = way instrs known at other end x y rest one two routine slots turns result is have (holds test) comes in
      (suc later.0, one_step routine later.0 (point_of at (test ∷ rest) slots turns) (Zero other) here ∙ later.1);
}

-- code leads from one value on the stack to another one
abbrev Turns : List Instr → (known : Known) → (at end : ℕ) → (rest : List ℤ) → (before after : ℤ) → Type 0
Turns instrs known at end rest before after = Reaches instrs known at (before ∷ rest) end (after ∷ rest)

-- the same where the value stands in the first row
pub turned_first : (instrs : List Instr) (known : Known) (at end : ℕ) (rest : List ℤ) (level : Level) (first above after above_after : List ℤ) (row place : ℕ)
    → row ≡ 0 → place < length first → length after ≡ length first
    → Reaches instrs known at (cell_of level first place known ∷ rest) end (slice_index_or after place (pos 0) ∷ rest)
    → Reaches instrs known at (cell_of level (first ++ above) (row * length first + place) known ∷ rest) end (slice_index_or (after ++ above_after) (row * length first + place) (pos 0) ∷ rest)
turned_first instrs known at end rest level first above after above_after row place none inside long reaches =
    let value : slice_index_or (after ++ above_after) (row * length first + place) (pos 0) ≡ slice_index_or after place (pos 0) =
    ap (λ (n : ℕ). slice_index_or (after ++ above_after) (row * n + place) (pos 0)) (sym long)
    ∙ cell-row_first Here after above_after row place known none (omega (arith, long, inside)) in
    subst (λ (x : ℤ). Turns instrs known at end rest x (slice_index_or (after ++ above_after) (row * length first + place) (pos 0)))
    (sym (cell-row_first level first above row place known none inside))
    (subst (Turns instrs known at end rest (cell_of level first place known)) (sym value) reaches)

-- and where it stands in a row above
pub turned_above : (instrs : List Instr) (known : Known) (at end : ℕ) (rest : List ℤ) (level : Level) (first above after : List ℤ) (row lower place : ℕ)
    → row ≡ suc lower
    → Reaches instrs known at (cell_of level above (lower * length first + place) known ∷ rest) end (slice_index_or after (lower * length first + place) (pos 0) ∷ rest)
    → Reaches instrs known at (cell_of level (first ++ above) (row * length first + place) known ∷ rest) end (slice_index_or (first ++ after) (row * length first + place) (pos 0) ∷ rest)
turned_above instrs known at end rest level first above after row lower place is reaches =
    subst (λ (x : ℤ). Turns instrs known at end rest x (slice_index_or (first ++ after) (row * length first + place) (pos 0)))
    (sym (cell-row_above level first above row lower place known is))
    (subst (Turns instrs known at end rest (cell_of level above (lower * length first + place) known)) (sym (cell-row_above Here first after row lower place known is)) reaches)

-- a choice on the stack
pub chosen_on : (instrs : List Instr) (known : Known) (at end block place : ℕ) (levels levels_after : List Level) (rows after : List ℤ) (rest : List ℤ) (height below : ℕ)
    → place < block → height ≡ suc below → slice_index_or levels_after below Here ≡ Here
    → ((k : ℕ) → k < below → slice_index_or levels_after k Here ≡ slice_index_or levels k Here)
    → ((index : ℕ) → index < below * block → slice_index_or after index (pos 0) ≡ slice_index_or rows index (pos 0))
    → ((others : List ℤ) → Reaches instrs known at (cell_of (slice_index_or levels below Here) rows (below * block + place) known ∷ others)
    end (slice_index_or after (below * block + place) (pos 0) ∷ others))
    → Reaches instrs known at (stack_of levels rows block place known rest height) end (stack_of levels_after after block place known rest height)
chosen_on instrs known at end block place levels levels_after rows after rest height below inside is top same kept reaches =
    subst (λ (n : ℕ). Reaches instrs known at (stack_of levels rows block place known rest n) end (stack_of levels_after after block place known rest n)) (sym is)
    (subst (λ (xs : List ℤ). Reaches instrs known at (stack_of levels rows block place known rest (suc below)) end xs)
    (sym (on_top_by levels levels_after rows after block place known rest below Here inside top same kept))
    (reaches (stack_of levels rows block place known rest below)))

-- the level of the test becomes a row, and those below it stay
pub level_here : (front new : List Level) (height below : ℕ) → length front ≡ height → height ≡ suc below
    → slice_index_or (slice_set (front ++ new) below Here) below Here ≡ Here
level_here front new height below long is =
    get_or-set_same (front ++ new) below Here Here (omega (arith, long, is, length-append front new))

pub levels_below : (levels front fresh new : List Level) (height below k : ℕ) → levels ≡ front ++ fresh → length front ≡ height → height ≡ suc below → k < below
    → slice_index_or (slice_set (front ++ new) below Here) k Here ≡ slice_index_or levels k Here
levels_below levels front fresh new height below k split long is less =
    let other : k ≢ below = λ e. absurd (omega (arith, e)) in
    let inside : k < length front = omega (arith, long, is) in
    get_or-set_other (front ++ new) below k Here Here other ∙ get_or_append_left front new Here k inside
    ∙ sym (get_or_append_left front fresh Here k inside) ∙ ap (λ (ls : List Level). slice_index_or ls k Here) (sym split)

-- the value stands in a row among others
pub turned_among : (instrs : List Instr) (known : Known) (at end : ℕ) (rest : List ℤ) (level : Level) (rows front from to back to_after back_after : List ℤ) (index place : ℕ)
    → rows ≡ front ++ from → from ≡ to ++ back → length front + place ≡ index → length to_after ≡ length to → place < length to
    → Reaches instrs known at (cell_of level to place known ∷ rest) end (slice_index_or to_after place (pos 0) ∷ rest)
    → Reaches instrs known at (cell_of level rows index known ∷ rest) end (slice_index_or (front ++ (to_after ++ back_after)) index (pos 0) ∷ rest)
turned_among instrs known at end rest level rows front from to back to_after back_after index place one two here long inside reaches =
    let cell : cell_of level to place known ≡ cell_of level rows index known =
    sym (cell-first level to back place known inside) ∙ sym (cell-above level front (to ++ back) place known)
    ∙ ap (λ (xs : List ℤ). cell_of level (front ++ xs) (length front + place) known) (sym two) ∙ ap (λ (xs : List ℤ). cell_of level xs (length front + place) known) (sym one)
    ∙ ap (λ (n : ℕ). cell_of level rows n known) here in
    let value : slice_index_or to_after place (pos 0) ≡ slice_index_or (front ++ (to_after ++ back_after)) index (pos 0) =
    sym (cell-first Here to_after back_after place known (omega (arith, long, inside))) ∙ sym (cell-above Here front (to_after ++ back_after) place known)
    ∙ ap (λ (n : ℕ). slice_index_or (front ++ (to_after ++ back_after)) n (pos 0)) here in
    subst (λ (x : ℤ). Turns instrs known at end rest x (slice_index_or (front ++ (to_after ++ back_after)) index (pos 0))) cell
    (subst (Turns instrs known at end rest (cell_of level to place known)) value reaches)
