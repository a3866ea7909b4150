-- What a plain skeleton gives, beside its formula.
use Rattle.std.specs.Prelude.{◌≡◌, List, ℤ, Option, Result, Ok, Err}
use Rattle.sk_formula.specs.Elements.{TrapAt}
use Rattle.sk_seq.specs.declared.trapped.Trapped.{Trapped}

abbrev pub trap_at : Trapped → TrapAt
trap_at trapped = record { trap = trapped.trap; element = trapped.element }

-- cells are what a formula computes, or there is its trap
abbrev pub AreComputed : (formula : Result (List ℤ) TrapAt) → (cells : List ℤ) → Result (Unit {0}) Trapped → Type 0
AreComputed formula cells (Ok done) = formula ≡ Ok cells
AreComputed formula cells (Err trapped) = formula ≡ Err (trap_at trapped)

-- a fold's value, or its trap
abbrev pub IsFold : (formula : Result (Option ℤ) TrapAt) → Result (Option ℤ) Trapped → Type 0
IsFold formula (Ok value) = formula ≡ Ok value
IsFold formula (Err trapped) = formula ≡ Err (trap_at trapped)
