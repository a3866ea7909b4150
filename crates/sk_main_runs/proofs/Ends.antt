-- A run that ends ends in one way, however many steps it is given.
use Rattle.std.proofs.Common.{◌≡◌, ℕ, zero, suc, List, ℤ, Option, Some, None}
use Rattle.std.specs.Prelude.{Result, slice_get}
use Rattle.sk_isa.specs.Configurations.{Configuration, Transition, Goes, Ends, Stuck, Outcome, Ended, Lost, followed, run_of}
use Rattle.sk_isa.specs.declared.code.Instr.{Instr}

module _ {S F : Type 0} (next : Instr → Configuration S → Transition S F) (instrs : List Instr) where
  abbrev IsSame : Outcome S F → Outcome S F → Type 0
  IsSame one other = (r s : Result (ℤ × S) F) → one ≡ Ended r → other ≡ Ended s → r ≡ s

  same_next : (t : Transition S F) (k n : ℕ) → ((point : Configuration S) → IsSame (run_of next instrs k point) (run_of next instrs n point))
      → IsSame (followed t (run_of next instrs k)) (followed t (run_of next instrs n))
  same_next (Goes point) k n later r s e f = later point r s e f
  same_next (Ends result) k n later r s e f = cc
  same_next Stuck k n later r s e f = cc

  same_found : (o : Option Instr) (point : Configuration S) (k n : ℕ) → ((point : Configuration S) → IsSame (run_of next instrs k point) (run_of next instrs n point))
      → IsSame (elim o as (λ x. Outcome S F) [ Some instr ↦ followed (next instr point) (run_of next instrs k) | None ↦ Lost ])
      (elim o as (λ x. Outcome S F) [ Some instr ↦ followed (next instr point) (run_of next instrs n) | None ↦ Lost ])
  same_found (Some i) point k n later r s e f = same_next (next i point) k n later r s e f
  same_found None point k n later r s e f = cc

  pub ends_alike : (k n : ℕ) (point : Configuration S) → IsSame (run_of next instrs k point) (run_of next instrs n point)
  unfolding run_of
  ends_alike zero n point r s e f = cc
  ends_alike (suc k) zero point r s e f = cc
  ends_alike (suc k) (suc n) point r s e f = same_found (slice_get instrs point.at) point k n (λ p. ends_alike k n p) r s e f
