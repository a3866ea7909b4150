-- Values at places one behind another.
use Rattle.std.proofs.Common.{◌≡◌, ℕ, ◌<◌, List, ℤ, pos, Ok, slice_index_or}
use Rattle.sk_base.specs.Arithmetic.{InRange}
use Rattle.sk_kernel.specs.Kernels.{AgreeRun, Meaning, Source, given_by, run_value}

-- the first so many places have their values in a list
pub record Ran (meaning : Meaning) (source : Source) (place pair count : ℕ) (out : List ℤ) (done : ℕ) : Type 0 where
  pub values : (cells : ℕ → ℕ → ℤ) → AgreeRun meaning source place pair count cells → (behind : ℕ) → behind < done
      → run_value meaning (given_by source cells) place pair behind ≡ Ok (slice_index_or out behind (pos 0))
  pub range : (behind : ℕ) → behind < done → InRange meaning.ty (slice_index_or out behind (pos 0))
