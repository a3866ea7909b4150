-- Parameters at places one behind another.
use Rattle.std.specs.Prelude.{◌≡◌, ℕ, ◌+◌, ◌-◌, ◌<◌, ◌≤◌, Bool, ◌&&◌, nat_lt, if◌then◌else◌, List, ℤ, pos, Option, Some, None, Result, Ok, Err, IsOk, slice_index_or}
use Rattle.sk_base.specs.Arithmetic.{InRange}
use Rattle.sk_base.specs.declared.number.Trap.{Trap}
use Rattle.sk_base.specs.declared.number.Ty.{Ty}
use Rattle.sk_kernel.specs.declared.kernel.RunTrap.{RunTrap}
use Rattle.sk_kernel.specs.Kernels.{Source}
use Rattle.sk_vm.specs.Arguments.{CanPass, argument_at}
use Rattle.sk_columns.specs.Known.{Known}
use Rattle.sk_tree.specs.Parameters.{is_index_field}

-- The place and the pair that are so many behind the first ones. Over pairs the place stays, and the pair goes on.
abbrev pub place_at : (pairs : Bool) → (place behind : ℕ) → ℕ
place_at pairs place behind = if pairs then place else place + behind

abbrev pub pair_at : (pairs : Bool) → (pair behind : ℕ) → ℕ
pair_at pairs pair behind = if pairs then pair + behind else pair

-- what the data has for a scalar, so many places behind the first one
abbrev pub lent_at : Source → (elements : ℕ) → (pairs : Bool) → (place pair scalars : ℕ) → (behind scalar : ℕ) → Option ℤ
lent_at source elements pairs place pair scalars behind scalar =
    if nat_lt scalar scalars then argument_at source elements pairs (place_at pairs place behind) (pair_at pairs pair behind) scalar else None

-- What is known of a function's slots behind an index where it begins: what the data has for the scalars, and that every other
-- slot holds 0.
abbrev pub begun_in : (scalars slots : ℕ) → (lent : ℕ → Option ℤ) → (slot : ℕ) → Option ℤ
begun_in scalars slots lent slot = if nat_lt slot scalars then lent slot else if nat_lt slot slots then Some (pos 0) else None

-- the same of all slots: that of an index holds 0
abbrev pub begun_behind : (indices : ℕ) → (known : ℕ → Option ℤ) → (slot : ℕ) → Option ℤ
begun_behind indices known slot = if nat_lt slot indices then Some (pos 0) else known (slot - indices)

-- the one coordinate of an index is the place
abbrev pub coordinate_at : (indices place : ℕ) → (slot : ℕ) → (name : List ℕ) → Option ℤ
coordinate_at indices place slot name = if nat_lt slot indices && is_index_field 1 name then Some (pos place) else None

-- what is known where a function begins at a place
abbrev pub begun_at : (indices scalars slots place : ℕ) → (lent : ℕ → Option ℤ) → Known
begun_at indices scalars slots place lent =
    record { slots = begun_behind indices (begun_in scalars slots lent); fields = coordinate_at indices place }

-- the data has something for each of so many scalars at each of so many places
abbrev pub LendsRun : Source → (elements : ℕ) → (pairs : Bool) → (place pair scalars places : ℕ) → Type 0
LendsRun source elements pairs place pair scalars places =
    (behind : ℕ) → behind < places → CanPass source elements pairs (place_at pairs place behind) (pair_at pairs pair behind) scalars

-- The cells from one place on, so many of them, are the values there; or at one of these places there is a trap, and values
-- at all of these before it.
abbrev pub ArePart : (first count : ℕ) → (values : ℕ → Result ℤ Trap) → (cells : List ℤ) → Result (Unit {0}) RunTrap → Type 0
ArePart first count values cells (Ok done) =
    (behind : ℕ) → first ≤ behind → behind < first + count → values behind ≡ Ok (slice_index_or cells behind (pos 0))
ArePart first count values cells (Err trapped) =
    (first ≤ trapped.offset) × (trapped.offset < first + count) × (values trapped.offset ≡ Err trapped.trap)
    × ((behind : ℕ) → first ≤ behind → behind < trapped.offset → IsOk (values behind))

-- those cells are of a type
abbrev pub ArePartOfType : Ty → (first count : ℕ) → (cells : List ℤ) → Type 0
ArePartOfType ty first count cells =
    (behind : ℕ) → first ≤ behind → behind < first + count → InRange ty (slice_index_or cells behind (pos 0))
