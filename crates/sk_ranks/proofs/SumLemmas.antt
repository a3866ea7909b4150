-- Sums of the levels of a tree.
use Rattle.std.proofs.Common.{◌≡◌, ◌∙◌, ap, sym, ℕ, zero, suc, ◌+◌, ◌*◌, ◌/◌, ◌<◌, ◌≤◌, List, [], ◌∷◌, length, take, drop, get_or, refl, arith, subst}
use Rattle.std.proofs.lemmas.List.{get_or-drop, length-drop}
use Rattle.sk_ranks.specs.Sums.{total, part, IsSummed, IsPower, one, double, IsTree}

-- one more of the first
pub total-take-more : (xs : List ℕ) (n m : ℕ) → m ≡ suc n → total (take m xs) ≡ total (take n xs) + get_or xs n 0
total-take-more xs n zero is = absurd (omega arith)
total-take-more [] zero (suc m) is = refl
total-take-more [] (suc n) (suc m) is = refl
total-take-more (x ∷ xs) zero (suc zero) is = omega arith
total-take-more (x ∷ xs) zero (suc (suc m)) is = absurd (omega arith)
total-take-more (x ∷ xs) (suc n) (suc m) is = let rest = total-take-more xs n m (omega arith) in omega arith

-- the first of a level, and one more
pub part-more : (sums : List ℕ) (width n m : ℕ) → m ≡ suc n → part sums width m ≡ part sums width n + get_or sums (width + n) 0
part-more sums width n m is = total-take-more (drop width sums) n m is ∙ ap (λ x. part sums width n + x) (get_or-drop width sums n 0)

-- a power of two is positive
pub IsPower-positive : (n : ℕ) → IsPower n → 1 ≤ n
IsPower-positive n (one _ is) = omega arith
IsPower-positive n (double _ half is power) = let some = IsPower-positive half power in omega arith

-- the next power of two
pub IsPower-double : (n m : ℕ) → m ≡ n * 2 → IsPower n → IsPower m
IsPower-double n m is power = double m n (omega arith) power

-- of two powers of two the greater one is at least twice the other
pub IsPower-gap : (m n : ℕ) → IsPower m → IsPower n → m < n → 2 * m ≤ n
IsPower-gap m n (one _ m_is) (one _ n_is) less = absurd (omega arith)
IsPower-gap m n (double _ low m_is low_power) (one _ n_is) less = let some = IsPower-positive low low_power in absurd (omega arith)
IsPower-gap m n (one _ m_is) (double _ high n_is high_power) less = let some = IsPower-positive high high_power in omega arith
IsPower-gap m n (double _ low m_is low_power) (double _ high n_is high_power) less =
    let below = IsPower-gap low high low_power high_power (omega arith) in omega arith

-- half of a power of two above 1
pub IsPower-half : (n half : ℕ) → half ≡ n / 2 → 1 < n → IsPower n → (n ≡ 2 * half) × IsPower half
IsPower-half n half is some (one _ n_is) = absurd (omega arith)
IsPower-half n half is some (double _ m n_is power) =
    let same : m ≡ half = omega arith in (omega arith, subst IsPower same power)

-- the first of a level have the sum of twice as many of the level below, where the level's nodes are summed
pub part-of-nodes : (sums : List ℕ) (width n : ℕ) → ((j : ℕ) → width ≤ j → j < 2 * width → IsSummed sums j) → n ≤ width → part sums width n ≡ part sums (2 * width) (2 * n)
part-of-nodes sums width zero nodes inside = refl
part-of-nodes sums width (suc n) nodes inside =
    let before = part-of-nodes sums width n nodes (omega arith) in
    let one_more = part-more sums width n (suc n) refl in
    let left = part-more sums (2 * width) (2 * n) (2 * n + 1) (omega arith) in
    let right = part-more sums (2 * width) (2 * n + 1) (2 * suc n) (omega arith) in
    let node : IsSummed sums (width + n) = nodes (width + n) (omega arith) (omega arith) in
    let first : 2 * (width + n) ≡ 2 * width + 2 * n = omega arith in
    let second : 2 * (width + n) + 1 ≡ 2 * width + (2 * n + 1) = omega arith in
    let first_is : get_or sums (2 * (width + n)) 0 ≡ get_or sums (2 * width + 2 * n) 0 = ap (λ i. get_or sums i 0) first in
    let second_is : get_or sums (2 * (width + n) + 1) 0 ≡ get_or sums (2 * width + (2 * n + 1)) 0 = ap (λ i. get_or sums i 0) second in
    let sum : get_or sums (width + n) 0 ≡ get_or sums (2 * (width + n)) 0 + get_or sums (2 * (width + n) + 1) 0 = node.is in
    omega arith

-- the same in a whole tree
pub part-below : (sums : List ℕ) (leaves width n : ℕ) → IsTree sums leaves → 1 ≤ width → 2 * width ≤ leaves → n ≤ width → part sums width n ≡ part sums (2 * width) (2 * n)
part-below sums leaves width n tree some low inside =
    part-of-nodes sums width n (λ j above below. tree.nodes j (omega arith) (omega arith)) inside

-- each level has the sum that the root has
pub level-root : (sums : List ℕ) (leaves width : ℕ) → IsTree sums leaves → IsPower width → width ≤ leaves → part sums width width ≡ get_or sums 1 0
level-root sums leaves width tree (one _ is) low =
    let first = part-more sums 1 0 1 refl in
    let same : part sums width width ≡ part sums 1 1 = ap (λ w. part sums w w) is in
    let root : part sums 1 1 ≡ get_or sums 1 0 = omega arith in
    same ∙ root
level-root sums leaves width tree (double _ half is power) low =
    let some = IsPower-positive half power in
    let same : part sums width width ≡ part sums (2 * half) (2 * half) = ap (λ w. part sums w w) is in
    same ∙ sym (part-below sums leaves half half tree some (omega arith) (omega arith)) ∙ level-root sums leaves half tree power (omega arith)

-- the whole of the leaves
pub part-all : (xs : List ℕ) (n : ℕ) → length xs ≡ n → take n xs ≡ xs
part-all [] zero is = refl
part-all [] (suc n) is = refl
part-all (x ∷ xs) zero is = absurd (omega arith)
part-all (x ∷ xs) (suc n) is = ap (λ rest. x ∷ rest) (part-all xs n (omega arith))

-- the root has the sum of the leaves
pub root-is : (sums : List ℕ) (leaves : ℕ) → IsTree sums leaves → get_or sums 1 0 ≡ total (drop leaves sums)
root-is sums leaves tree =
    let many : length (drop leaves sums) ≡ leaves = length-drop leaves sums ∙ omega (arith, tree.length) in
    sym (level-root sums leaves leaves tree tree.power (omega arith)) ∙ ap total (part-all (drop leaves sums) leaves many)
