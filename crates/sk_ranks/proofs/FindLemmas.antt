-- The way down a tree of sums to the number with a rank.
use Rattle.std.proofs.Common.{◌≡◌, ◌∙◌, ap, ℕ, ◌+◌, ◌-◌, ◌*◌, ◌<◌, ◌≤◌, List, drop, get_or, refl, arith}
use Rattle.sk_ranks.specs.Sums.{total, part, IsSummed, IsPower, one, IsTree}
use Rattle.sk_ranks.proofs.SumLemmas.{part-more, part-below, root-is, IsPower-positive, IsPower-double, IsPower-gap}

-- the number sought lies below this node of the level, with so many of its numbers before it
pub record Finds (sums : List ℕ) (leaves rank width at rest : ℕ) : Type 0 where
  pub power : IsPower width
  pub low : width ≤ leaves
  pub inside : at < width
  pub before : part sums width at + rest ≡ rank
  pub within : rest < get_or sums (width + at) 0

pub Finds-root : (sums : List ℕ) (leaves rank : ℕ) → IsTree sums leaves → rank < total (drop leaves sums) → Finds sums leaves rank 1 0 rank
Finds-root sums leaves rank tree below =
    let some = IsPower-positive leaves tree.power in
    let root = root-is sums leaves tree in
    record { power = one 1 refl; low = omega arith; inside = omega arith; before = omega arith; within = omega arith }

pub Finds-left : (sums : List ℕ) (leaves rank width at rest : ℕ) → IsTree sums leaves → Finds sums leaves rank width at rest → width < leaves → rest < get_or sums (width * 2 + at * 2) 0 → Finds sums leaves rank (width * 2) (at * 2) rest
Finds-left sums leaves rank width at rest tree finds above less =
    let some = IsPower-positive width finds.power in
    let gap = IsPower-gap width leaves finds.power tree.power above in
    let below = part-below sums leaves width at tree some gap (omega (arith, finds.inside)) in
    let same : part sums (width * 2) (at * 2) ≡ part sums (2 * width) (2 * at) =
    ap (λ w. part sums w (at * 2)) (omega arith) ∙ ap (λ n. part sums (2 * width) n) (omega arith) in
    record {
      power = IsPower-double width (width * 2) refl finds.power;
      low = omega arith;
      inside = omega (arith, finds.inside);
      before = omega (arith, finds.before);
      within = less;
    }

pub Finds-right : (sums : List ℕ) (leaves rank width at rest : ℕ) → IsTree sums leaves → Finds sums leaves rank width at rest → width < leaves → get_or sums (width * 2 + at * 2) 0 ≤ rest → Finds sums leaves rank (width * 2) (at * 2 + 1) (rest - get_or sums (width * 2 + at * 2) 0)
Finds-right sums leaves rank width at rest tree finds above more =
    let some = IsPower-positive width finds.power in
    let gap = IsPower-gap width leaves finds.power tree.power above in
    let below = part-below sums leaves width at tree some gap (omega (arith, finds.inside)) in
    let same : part sums (width * 2) (at * 2) ≡ part sums (2 * width) (2 * at) =
    ap (λ w. part sums w (at * 2)) (omega arith) ∙ ap (λ n. part sums (2 * width) n) (omega arith) in
    let one_more = part-more sums (width * 2) (at * 2) (at * 2 + 1) (omega arith) in
    let node : IsSummed sums (width + at) = tree.nodes (width + at) (omega arith) (omega (arith, finds.inside)) in
    let sum : get_or sums (width + at) 0 ≡ get_or sums (2 * (width + at)) 0 + get_or sums (2 * (width + at) + 1) 0 = node.is in
    let first_is : get_or sums (2 * (width + at)) 0 ≡ get_or sums (width * 2 + at * 2) 0 = ap (λ i. get_or sums i 0) (omega arith) in
    let second_is : get_or sums (2 * (width + at) + 1) 0 ≡ get_or sums (width * 2 + (at * 2 + 1)) 0 = ap (λ i. get_or sums i 0) (omega arith) in
    record {
      power = IsPower-double width (width * 2) refl finds.power;
      low = omega arith;
      inside = omega (arith, finds.inside);
      before = omega (arith, finds.before);
      within = omega (arith, finds.within);
    }

-- the first child of the node, in the tree
pub Finds-child : (sums : List ℕ) (leaves rank width at rest : ℕ) → IsTree sums leaves → Finds sums leaves rank width at rest → width < leaves → width * 2 + at * 2 + 1 < 2 * leaves
Finds-child sums leaves rank width at rest tree finds above =
    let gap = IsPower-gap width leaves finds.power tree.power above in
    omega (arith, finds.inside)
