-- Quotients by one divisor without a division.
use Rattle.std.specs.Prelude.{◌≡◌, ℕ, ◌*◌, ◌/◌, ◌^◌, ◌<◌, ◌≤◌}

-- A number up to 2^31 over a divisor is its product with a multiplier, shifted to the right by so many places.
pub record Scales (divisor multiplier places : ℕ) : Type 0 where
  pub not_one : 2 ≤ divisor
  pub small : multiplier < 2 ^ 32
  pub inside : places < 64
  pub quotient : (number : ℕ) → number ≤ 2 ^ 31 → number * multiplier / 2 ^ places ≡ number / divisor
