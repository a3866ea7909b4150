-- A container has as many tiles as begin inside it.
use Rattle.std.proofs.Common.{◌≡◌, ◌↔◌, ℕ, ◌+◌, ◌-◌, ◌*◌, ◌<◌, ◌≤◌, true, arith, suc-mul, subst, sym}
use Rattle.std.proofs.Math.Nat.{le-div_iff_mul-le}
use Rattle.std.proofs.lemmas.Bool.{lt-ltb, ltb-true}
use Rattle.sk_blocks.specs.Kernels.{is_tile, tile_count}

below : (size cells begin : ℕ) → 0 < size → begin + size ≤ cells + (size - 1) → begin < cells
below size cells begin some fits = omega (arith, fits, some)

above : (size cells begin : ℕ) → 0 < size → begin < cells → begin + size ≤ cells + (size - 1)
above size cells begin some begins = omega (arith, begins, some)

pub tiles-begin-inside : (size cells tile : ℕ) → 0 < size → (is_tile size cells tile ≡ true) ↔ (tile < tile_count size cells)
tiles-begin-inside size cells tile some = (
  (λ inside. (le-div_iff_mul-le some).1
      (subst (λ (n : ℕ). n ≤ cells + (size - 1)) (sym (suc-mul tile size)) (above size cells (tile * size) some (ltb-true (tile * size) cells inside)))),
  (λ less. lt-ltb (tile * size) cells (below size cells (tile * size) some
      (subst (λ (n : ℕ). n ≤ cells + (size - 1)) (suc-mul tile size) ((le-div_iff_mul-le some).0 less)))),
)
