-- The cut of the indices 0..n into p consecutive parts, the first n mod p of them one longer than the others.
use Rattle.std.specs.Prelude.{ℕ, ◌+◌, ◌*◌, ◌/◌, ◌%◌, min, nat_lt, if◌then◌else◌}

-- where part k begins
abbrev pub begin_of : ℕ → ℕ → ℕ → ℕ
begin_of n p k = k * (n / p) + min k (n % p)

-- how many indices part k has
abbrev pub size_of : ℕ → ℕ → ℕ → ℕ
size_of n p k = if nat_lt k (n % p) then n / p + 1 else n / p

-- the indices from `lo` up to but not including `hi`
pub record Part : Type 0 where
  pub lo : ℕ
  pub hi : ℕ

-- part k
abbrev pub cut_of : ℕ → ℕ → ℕ → Part
cut_of n p k = record { lo = begin_of n p k; hi = begin_of n p k + size_of n p k }
