-- A product and a shift in place of a division.
use Rattle.std.proofs.Common.{◌≡◌, ℕ, ◌+◌, ◌-◌, ◌*◌, ◌/◌, ◌^◌, ◌<◌, ◌≤◌, sym, ap, subst, ◌∙◌, arith}
use Rattle.std.proofs.Math.Nat.{div-mul-le_self, lt-div-mul-add, lt_of_mul-lt-mul_right}
use Rattle.std.proofs.lemmas.Nat.{div_below, le-div, mul-le, pow-add}
use Rattle.sk_columns.specs.Scales.{Scales}

-- a multiplier that is a little above whole over divisor gives quotients of numbers at which the excess stays below whole
scaled : (n d m whole excess : ℕ) → 0 < d → 0 < whole → m * d ≡ whole + excess → n * excess < whole → n * m / whole ≡ n / d
scaled n d m whole excess some full above small =
    let q = n / d in
    let down : q * d ≤ n = div-mul-le_self n d in
    let up : n < q * d + d = lt-div-mul-add some in
    let wide : q * d * m ≤ n * m = mul-le (q * d) m n m down (omega arith) in
    let least : q * whole ≤ q * (m * d) = mul-le q whole q (m * d) (omega arith) (omega (arith, above)) in
    let turned : q * (m * d) ≡ q * d * m = grind arith in
    let low : q * whole ≤ n * m = omega (arith, wide, least, turned) in
    let product : n * m * d ≡ n * whole + n * excess = ((grind arith) ∙ ap (λ (x : ℕ). n * x) above) ∙ (grind arith) in
    let next : (n + 1) * whole ≤ (q * d + d) * whole = mul-le (n + 1) whole (q * d + d) whole (omega arith) (omega arith) in
    let spread : (n + 1) * whole ≡ n * whole + whole = grind arith in
    let grouped : (q * d + d) * whole ≡ (q + 1) * whole * d = grind arith in
    let high : n * m < (q + 1) * whole = lt_of_mul-lt-mul_right d (omega (arith, product, next, spread, grouped, small)) in
    let at_least : q ≤ n * m / whole = le-div q (n * m) whole full low in
    let at_most : n * m / whole < q + 1 = div_below (n * m) whole (q + 1) full high in
    omega (arith, at_least, at_most)

-- the quotient of a power of two takes 32 bits
pub small-multiplier : (divisor power : ℕ) → 2 ≤ divisor → divisor ≤ 2 ^ 31 → power < 2 * divisor → (power * 2147483648 + divisor - 1) / divisor < 2 ^ 32
small-multiplier divisor power two high below =
    let under : power * 2147483648 + divisor - 1 < 4294967296 * divisor = omega (arith, below, two, high) in
    div_below (power * 2147483648 + divisor - 1) divisor 4294967296 (omega (arith, two)) under

-- the multiplier is the quotient of a power of two, rounded up
pub scales : (divisor power places multiplier : ℕ) → 2 ≤ divisor → divisor ≤ 2 ^ 31 → divisor ≤ power → power < 2 * divisor → 31 ≤ places → places < 64
    → power ≡ 2 ^ (places - 31) → multiplier ≡ (power * 2147483648 + divisor - 1) / divisor → Scales divisor multiplier places
scales divisor power places multiplier two high upto below least most is quotient = record {
  not_one = two;
  small = subst (λ (m : ℕ). m < 2 ^ 32) (sym quotient) (small-multiplier divisor power two high below);
  inside = most;
  quotient = λ number within.
      let excess = multiplier * divisor - whole in
      let split : multiplier * divisor ≡ whole + excess = omega (arith, covers) in
      let less : excess + 1 ≤ divisor = omega (arith, split, close) in
      let spread : number * excess ≤ 2147483648 * excess = mul-le number excess 2147483648 excess (omega (arith, within)) (omega arith) in
      let bound : number * excess < whole = omega (arith, spread, less, upto) in
      ap (λ (x : ℕ). number * multiplier / x) (sym wide) ∙ scaled number divisor multiplier whole excess (omega (arith, two)) (omega (arith, upto, two)) split bound;
}
  where
    whole : ℕ
    whole = power * 2147483648

    wide : whole ≡ 2 ^ places
    wide =
        let parts : places ≡ places - 31 + 31 = omega (arith, least) in
        ap (λ (p : ℕ). p * 2147483648) is ∙ sym (pow-add 2 (places - 31) 31) ∙ ap (λ (p : ℕ). 2 ^ p) (sym parts)

    raised : (whole + divisor - 1) / divisor * divisor ≤ whole + divisor - 1
    raised = div-mul-le_self (whole + divisor - 1) divisor

    close : multiplier * divisor ≤ whole + divisor - 1
    close = subst (λ (m : ℕ). m * divisor ≤ whole + divisor - 1) (sym quotient) raised

    covers : whole ≤ multiplier * divisor
    covers =
        let over : whole + divisor - 1 < (whole + divisor - 1) / divisor * divisor + divisor = lt-div-mul-add (omega (arith, two)) in
        let same : multiplier * divisor ≡ (whole + divisor - 1) / divisor * divisor = ap (λ (m : ℕ). m * divisor) quotient in
        omega (arith, over, same, two)
