-- Folds in parts.
use Rattle.std.proofs.Common.{◌≡◌, ◌∙◌, ℕ, zero, suc, ◌+◌, ◌-◌, ◌<◌, ◌≤◌, Bool, List, length, ℤ, pos, Ok, refl, ap, sym, subst, arith}
use Rattle.std.specs.Prelude.{if◌then◌else◌, Result, Err, Option, Some, None, IsSomeAnd, slice_index_or}
use Rattle.sk_base.specs.declared.number.Trap.{Trap}
use Rattle.sk_formula.specs.Elements.{TrapAt, at_element, fold_last, folded, joined}
use Rattle.sk_kernel.specs.Kernels.{IsJoined, Meaning, Source, Suits, given_by, run_pair, run_place}
use Rattle.sk_seq.specs.Given.{functions_over}
use Rattle.sk_seq.specs.Joinings.{cell_in}
use Rattle.sk_seq.specs.Operands.{AreFilled, MayFold, StopsAt, operand_at, operand_of}
use Rattle.sk_seq.specs.declared.operands.Operands.{Operands}
use Rattle.sk_seq.specs.declared.operands.Operands.TheVariants.{Cells, Values}
use Rattle.sk_seq.specs.declared.operands.Filled.{Filled}

-- a fold whose trap stands so many further on
abbrev pub further : {X : Type 0} → (by : ℕ) → Result X TrapAt → Result X TrapAt
further by (Ok value) = Ok value
further by (Err trapped) = Err (record { trap = trapped.trap; element = by + trapped.element })

at_further : (by n i : ℕ) (y : Result (Option ℤ) Trap) → i ≡ by + n → at_element i y ≡ further by (at_element n y)
at_further by n i (Ok value) is = refl
at_further by n i (Err trap) is = ap (λ (m : ℕ). Err (record { trap = trap; element = m })) is

last_further : (join : ℤ → ℤ → Result ℤ Trap) (by n i : ℕ) (r : Result (Option ℤ) TrapAt) (x : Result ℤ Trap) → i ≡ by + n
    → fold_last join i (further by r) x ≡ further by (fold_last join n r x)
last_further join by n i (Err trapped) x is = refl
last_further join by n i (Ok before) (Err trap) is = ap (λ (m : ℕ). Err (record { trap = trap; element = m })) is
last_further join by n i (Ok before) (Ok last) is = at_further by n i (joined join before last) is

later : (m n : ℕ) → m + suc n ≡ suc (m + n)
later m n = omega arith

none_more : (m : ℕ) → m + 0 ≡ m
none_more m = omega arith

none_plus : (n : ℕ) → 0 + n ≡ n
none_plus n = omega arith

-- what follows a part that was folded
pub folded_follows : (join : ℤ → ℤ → Result ℤ Trap) (operand other : ℕ → Result ℤ Trap) (front before : Option ℤ) (first m n : ℕ)
    → folded join operand front first m ≡ Ok before
    → ((k : ℕ) → k < n → other k ≡ operand (first + (m + k)))
    → folded join operand front first (m + n) ≡ further (first + m) (folded join other before 0 n)
folded_follows join operand other front before first m zero is same = ap (folded join operand front first) (none_more m) ∙ is
folded_follows join operand other front before first m (suc n) is same =
    ap (folded join operand front first) (later m n)
    ∙ ap (λ (r : Result (Option ℤ) TrapAt). fold_last join (first + (m + n)) r (operand (first + (m + n))))
    (folded_follows join operand other front before first m n is (λ k less. same k (omega arith)))
    ∙ ap (λ (x : Result ℤ Trap). fold_last join (first + (m + n)) (further (first + m) (folded join other before 0 n)) x) (sym (same n (omega arith)))
    ∙ last_further join (first + m) n (first + (m + n)) (folded join other before 0 n) (other n) (omega arith)
    ∙ ap (λ (i : ℕ). further (first + m) (fold_last join i (folded join other before 0 n) (other i))) (sym (none_plus n))

-- a trap stays
pub folded_stays : (join : ℤ → ℤ → Result ℤ Trap) (operand : ℕ → Result ℤ Trap) (front : Option ℤ) (first m n : ℕ) (trapped : TrapAt)
    → folded join operand front first m ≡ Err trapped → folded join operand front first (m + n) ≡ Err trapped
folded_stays join operand front first m zero trapped is = ap (folded join operand front first) (none_more m) ∙ is
folded_stays join operand front first m (suc n) trapped is =
    ap (folded join operand front first) (later m n)
    ∙ ap (λ (r : Result (Option ℤ) TrapAt). fold_last join (first + (m + n)) r (operand (first + (m + n)))) (folded_stays join operand front first m n trapped is)

-- a trap among the first operands is that of all
pub upto_all : (join : ℤ → ℤ → Result ℤ Trap) (operand : ℕ → Result ℤ Trap) (front : Option ℤ) (first m n : ℕ) (trapped : TrapAt) → m ≤ n
    → folded join operand front first m ≡ Err trapped → folded join operand front first n ≡ Err trapped
upto_all join operand front first m n trapped upto is =
    let whole : m + (n - m) ≡ n = omega arith in
    subst (λ (k : ℕ). folded join operand front first k ≡ Err trapped) whole (folded_stays join operand front first m (n - m) trapped is)

-- operands that are the same
pub same_operands : (join : ℤ → ℤ → Result ℤ Trap) (operand other : ℕ → Result ℤ Trap) (front : Option ℤ) (n : ℕ) → ((k : ℕ) → k < n → operand k ≡ other k)
    → folded join operand front 0 n ≡ folded join other front 0 n
same_operands join operand other front zero same = refl
same_operands join operand other front (suc n) same =
    ap (λ (r : Result (Option ℤ) TrapAt). fold_last join (0 + n) r (operand (0 + n))) (same_operands join operand other front n (λ k less. same k (omega arith)))
    ∙ ap (λ (i : ℕ). fold_last join i (folded join other front 0 n) (operand i)) (none_plus n)
    ∙ ap (λ (x : Result ℤ Trap). fold_last join n (folded join other front 0 n) x) (same n (omega arith))
    ∙ ap (λ (i : ℕ). fold_last join i (folded join other front 0 n) (other i)) (sym (none_plus n))

next_is : (k : ℕ) → k + 1 ≡ suc k
next_is k = omega arith

-- one operand more
pub more_is : (join : ℤ → ℤ → Result ℤ Trap) (operand : ℕ → Result ℤ Trap) (front before : Option ℤ) (k : ℕ) (x : Result ℤ Trap)
    → folded join operand front 0 k ≡ Ok before → operand k ≡ x
    → folded join operand front 0 (k + 1) ≡ fold_last join k (Ok before) x
more_is join operand front before k x is operand_is =
    ap (folded join operand front 0) (next_is k)
    ∙ ap (λ (r : Result (Option ℤ) TrapAt). fold_last join (0 + k) r (operand (0 + k))) is
    ∙ ap (λ (i : ℕ). fold_last join i (Ok before) (operand i)) (none_plus k)
    ∙ ap (λ (y : Result ℤ Trap). fold_last join k (Ok before) y) operand_is

-- one cell more, by what the operator of a kernel means that still means the same
pub cell_more : (now meaning : Meaning) (cells : List ℤ) (front before more : Option ℤ) (k : ℕ) → now ≡ meaning
    → folded meaning.join (cell_in cells) front 0 k ≡ Ok before → joined now.join before (slice_index_or cells k (pos 0)) ≡ Ok more
    → folded meaning.join (cell_in cells) front 0 (k + 1) ≡ Ok more
cell_more now meaning cells front before more k same is joins =
    more_is meaning.join (cell_in cells) front before k (cell_in cells k) is refl
    ∙ ap (at_element k) (subst (λ (m : Meaning). joined m.join before (slice_index_or cells k (pos 0)) ≡ Ok more) same joins)

pub cell_traps : (now meaning : Meaning) (cells : List ℤ) (front before : Option ℤ) (k count : ℕ) (trap : Trap) → now ≡ meaning → k < count
    → folded meaning.join (cell_in cells) front 0 k ≡ Ok before → joined now.join before (slice_index_or cells k (pos 0)) ≡ Err trap
    → folded meaning.join (cell_in cells) front 0 count ≡ Err (record { trap = trap; element = k })
cell_traps now meaning cells front before k count trap same less is joins =
    upto_all meaning.join (cell_in cells) front 0 (k + 1) count (record { trap = trap; element = k }) (omega arith)
    (more_is meaning.join (cell_in cells) front before k (cell_in cells k) is refl
    ∙ ap (at_element k) (subst (λ (m : Meaning). joined m.join before (slice_index_or cells k (pos 0)) ≡ Err trap) same joins))

-- a block that was filled up to a trap
module _ (now meaning : Meaning) (values : ℕ → Result ℤ Trap) (cells : List ℤ) (filled : Filled) (front : Option ℤ) (n : ℕ)
    (same : now ≡ meaning) (fills : AreFilled values cells filled) (long : length cells ≡ n) where
  as_values : folded now.join (cell_in cells) front 0 filled.count ≡ folded meaning.join values front 0 filled.count
  as_values =
      ap (λ (m : Meaning). folded m.join (cell_in cells) front 0 filled.count) same
      ∙ sym (same_operands meaning.join values (cell_in cells) front filled.count fills.each)

  pub filled_whole : (value : Option ℤ) → filled.trap ≡ None → folded now.join (cell_in cells) front 0 filled.count ≡ Ok value
      → folded meaning.join values front 0 n ≡ Ok value
  filled_whole value is whole =
      let stops : filled.count ≡ length cells = subst (λ (t : Option Trap). StopsAt values cells filled.count t) is fills.stops in
      ap (folded meaning.join values front 0) (sym (stops ∙ long)) ∙ sym as_values ∙ whole

  pub filled_upto : (value : Option ℤ) (trap : Trap) → filled.trap ≡ Some trap → folded now.join (cell_in cells) front 0 filled.count ≡ Ok value
      → folded meaning.join values front 0 n ≡ Err (record { trap = trap; element = filled.count })
  filled_upto value trap is whole =
      let stops = subst (λ (t : Option Trap). StopsAt values cells filled.count t) is fills.stops in
      upto_all meaning.join values front 0 (filled.count + 1) n (record { trap = trap; element = filled.count })
      (subst (λ (m : ℕ). filled.count + 1 ≤ m) long (above filled.count (length cells) stops.0))
      (more_is meaning.join values front value filled.count (Err trap) (sym as_values ∙ whole) stops.1)
    where
      above : (a b : ℕ) → a < b → a + 1 ≤ b
      above a b less = omega arith

  pub filled_traps : (trapped : TrapAt) → filled.count ≤ n → folded now.join (cell_in cells) front 0 filled.count ≡ Err trapped
      → folded meaning.join values front 0 n ≡ Err trapped
  filled_traps trapped upto whole = upto_all meaning.join values front 0 filled.count n trapped upto (sym as_values ∙ whole)

-- the same fold, from an index on
pub from_first : (join : ℤ → ℤ → Result ℤ Trap) (operand other : ℕ → Result ℤ Trap) (front : Option ℤ) (first n : ℕ)
    → ((k : ℕ) → k < n → other k ≡ operand (first + k))
    → folded join operand front first n ≡ further first (folded join other front 0 n)
from_first join operand other front first n same =
    ap (folded join operand front first) (sym (none_plus n))
    ∙ folded_follows join operand other front front first 0 n refl (λ k less. same k less ∙ ap operand (behind_none k))
    ∙ ap (λ (by : ℕ). further by (folded join other front 0 n)) (none_more first)
  where
    behind_none : (k : ℕ) → first + k ≡ first + (0 + k)
    behind_none k = omega arith

-- a part behind another
pub behind_part : (join : ℤ → ℤ → Result ℤ Trap) (operand : ℕ → Result ℤ Trap) (front before : Option ℤ) (lo done next n : ℕ) → lo ≤ done → next ≡ done + n
    → folded join operand front lo (done - lo) ≡ Ok before
    → folded join operand front lo (next - lo) ≡ folded join operand before done n
behind_part join operand front before lo done next n upto next_is is =
    ap (folded join operand front lo) long
    ∙ folded_follows join operand (λ k. operand (done + k)) front before lo (done - lo) n is (λ k less. ap operand (place k))
    ∙ ap (λ (by : ℕ). further by (folded join (λ k. operand (done + k)) before 0 n)) at
    ∙ sym (from_first join operand (λ k. operand (done + k)) before done n (λ k less. refl))
  where
    place : (k : ℕ) → done + k ≡ lo + (done - lo + k)
    place k = omega arith

    long : next - lo ≡ done - lo + n
    long = omega arith

    at : lo + (done - lo) ≡ done
    at = omega arith

-- an operand by its index
pub operand_is : (operands : Operands) (meaning : Meaning) (source : Source) (cells : ℕ → ℕ → ℤ) (first k : ℕ)
    → operand_at operands meaning (given_by source cells) first k ≡ operand_of operands (functions_over meaning source cells) (first + k)
operand_is Cells meaning source cells first k = refl
operand_is Values meaning source cells first k = refl

module _ (meaning : Meaning) (operands : Operands) (source : Source) (cells : ℕ → ℕ → ℤ) (front : Option ℤ) (first n : ℕ) where
  piece_is : folded meaning.join (operand_of operands (functions_over meaning source cells)) front first n
      ≡ further first (folded meaning.join (operand_at operands meaning (given_by source cells) first) front 0 n)
  piece_is =
      from_first meaning.join (operand_of operands (functions_over meaning source cells)) (operand_at operands meaning (given_by source cells) first) front first n
      (λ k less. operand_is operands meaning source cells first k)

  pub piece_done : (value : Option ℤ) → folded meaning.join (operand_at operands meaning (given_by source cells) first) front 0 n ≡ Ok value
      → folded meaning.join (operand_of operands (functions_over meaning source cells)) front first n ≡ Ok value
  piece_done value is = piece_is ∙ ap (further first) is

  pub piece_trapped : (trapped : TrapAt) → folded meaning.join (operand_at operands meaning (given_by source cells) first) front 0 n ≡ Err trapped
      → folded meaning.join (operand_of operands (functions_over meaning source cells)) front first n ≡ Err (record { trap = trapped.trap; element = first + trapped.element })
  piece_trapped trapped is = piece_is ∙ ap (further first) is

-- a part of what may be folded may be folded
pub may_fold_part : (operands : Operands) (meaning : Meaning) (source : Source) (lo hi done n : ℕ) → lo ≤ done → done + n ≤ hi
    → MayFold operands meaning source lo (hi - lo) → MayFold operands meaning source done n
may_fold_part Cells meaning source lo hi done n from upto may = λ behind less.
    let place : lo + (done - lo + behind) ≡ done + behind = omega arith in
    subst (λ (i : ℕ). IsSomeAnd (source.held 0 i) (IsJoined meaning)) place (may (done - lo + behind) (omega arith))
may_fold_part Values meaning source lo hi done n from upto may = record {
  single = may.single;
  suits = λ behind less.
      subst (λ (p : ℕ). Suits meaning source p (run_pair meaning 0 behind)) (place behind)
      (subst (λ (q : ℕ). Suits meaning source (run_place meaning lo (done - lo + behind)) q) (pair behind) (may.suits (done - lo + behind) (omega arith)));
  takes = may.takes;
}
  where
    place : (behind : ℕ) → run_place meaning lo (done - lo + behind) ≡ run_place meaning done behind
    place behind =
        ap (λ (b : Bool). if b then lo else lo + (done - lo + behind)) may.single
        ∙ same_place behind
        ∙ sym (ap (λ (b : Bool). if b then done else done + behind) may.single)
      where
        same_place : (behind : ℕ) → lo + (done - lo + behind) ≡ done + behind
        same_place behind = omega arith

    pair : (behind : ℕ) → run_pair meaning 0 (done - lo + behind) ≡ run_pair meaning 0 behind
    pair behind =
        ap (λ (b : Bool). if b then 0 + (done - lo + behind) else 0) may.single
        ∙ sym (ap (λ (b : Bool). if b then 0 + behind else 0) may.single)
