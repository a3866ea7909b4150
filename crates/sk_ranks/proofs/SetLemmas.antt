-- The way up a tree of sums from a mark that was set.
use Rattle.std.proofs.Common.{◌≡◌, ◌≢◌, ◌∙◌, ap, sym, subst, ℕ, zero, suc, ◌+◌, ◌*◌, ◌/◌, ◌<◌, ◌≤◌, List, [], ◌∷◌, length, take, drop, set, get_or, refl, arith, inl, inr}
use Rattle.std.proofs.lemmas.List.{length-set, length-drop, get_or-drop, get_or-set_same, get_or-set_other, drop-set-add, drop-set-lt}
use Rattle.std.proofs.lemmas.Bool.{cases_eq}
use Rattle.sk_ranks.specs.Sums.{total, part, IsSummed, IsPower, IsTree}
use Rattle.sk_ranks.proofs.SumLemmas.{part-of-nodes, part-all, IsPower-half}

-- the tree is whole but for the parent of this node, and its leaves are these marks
pub record Rises (sums : List ℕ) (leaves : ℕ) (marks : List ℕ) (width at : ℕ) : Type 0 where
  pub powers : IsPower leaves
  pub power : IsPower width
  pub length : length sums ≡ 2 * leaves
  pub low : width ≤ leaves
  pub inside : at < width
  pub nodes : (j : ℕ) → 1 ≤ j → j < leaves → j ≢ (width + at) / 2 → IsSummed sums j
  pub leaf : drop leaves sums ≡ marks
  pub total : part sums width width ≡ total marks

-- a node whose children stay is summed as before
kept : (sums : List ℕ) (at v j : ℕ) → j ≢ at → 2 * j ≢ at → 2 * j + 1 ≢ at → IsSummed sums j → IsSummed (set sums at v) j
kept sums at v j other left right summed = record {
  is = get_or-set_other sums at j v 0 other ∙ summed.is
      ∙ sym (ap (λ x. x + get_or (set sums at v) (2 * j + 1) 0) (get_or-set_other sums at (2 * j) v 0 left)
      ∙ ap (λ x. get_or sums (2 * j) 0 + x) (get_or-set_other sums at (2 * j + 1) v 0 right));
}

pub Rises-leaf : (sums : List ℕ) (leaves number mark : ℕ) → IsTree sums leaves → number < leaves → Rises (set sums (leaves + number) mark) leaves (set (drop leaves sums) number mark) leaves number
Rises-leaf sums leaves number mark tree inside =
    let long : length (set sums (leaves + number) mark) ≡ 2 * leaves = length-set sums (leaves + number) mark ∙ tree.length in
    let marks : drop leaves (set sums (leaves + number) mark) ≡ set (drop leaves sums) number mark = drop-set-add leaves sums number mark in
    let many : length (drop leaves (set sums (leaves + number) mark)) ≡ leaves = length-drop leaves _ ∙ omega (arith, long) in
    record {
      powers = tree.power;
      power = tree.power;
      length = long;
      low = omega arith;
      inside = inside;
      nodes = λ j some below other. kept sums (leaves + number) mark j (λ e. omega arith) (λ e. other (omega arith)) (λ e. other (omega arith)) (tree.nodes j some below);
      leaf = marks;
      total = ap total (part-all _ leaves many) ∙ ap total marks;
    }

-- the whole tree, once the root is reached
pub Rises-root : (sums : List ℕ) (leaves : ℕ) (marks : List ℕ) (width at : ℕ) → Rises sums leaves marks width at → width ≤ 1 → IsTree sums leaves
Rises-root sums leaves marks width at rises top = record {
  power = rises.powers;
  length = rises.length;
  nodes = λ j some below. rises.nodes j some below (λ e. omega (arith, rises.inside));
}

-- two neighbours are within the sum
pair-le : (xs : List ℕ) (i j n : ℕ) → j ≡ suc i → j < n → get_or xs i 0 + get_or xs j 0 ≤ total (take n xs)
pair-le xs i zero n next inside = absurd (omega arith)
pair-le xs i (suc j) zero next inside = absurd (omega arith)
pair-le [] i (suc j) (suc n) next inside = omega arith
pair-le (x ∷ []) zero (suc j) (suc n) next inside = omega arith
pair-le (x ∷ y ∷ xs) zero (suc zero) (suc zero) next inside = absurd (omega arith)
pair-le (x ∷ y ∷ xs) zero (suc zero) (suc (suc n)) next inside = omega arith
pair-le (x ∷ y ∷ xs) zero (suc (suc j)) (suc n) next inside = absurd (omega arith)
pair-le (x ∷ xs) (suc i) (suc j) (suc n) next inside = let rest = pair-le xs i j n (omega arith) (omega arith) in omega arith

pub Rises-pair : (sums : List ℕ) (leaves : ℕ) (marks : List ℕ) (width at : ℕ) → Rises sums leaves marks width at → 1 < width → get_or sums (2 * (width / 2 + at / 2)) 0 + get_or sums (2 * (width / 2 + at / 2) + 1) 0 ≤ total marks
Rises-pair sums leaves marks width at rises more =
    let half = IsPower-half width (width / 2) refl more rises.power in
    let pair = pair-le (drop width sums) (2 * (at / 2)) (2 * (at / 2) + 1) width (omega arith) (omega (arith, half.0, rises.inside)) in
    let left : get_or (drop width sums) (2 * (at / 2)) 0 ≡ get_or sums (2 * (width / 2 + at / 2)) 0 =
    get_or-drop width sums (2 * (at / 2)) 0 ∙ ap (λ i. get_or sums i 0) (omega (arith, half.0)) in
    let right : get_or (drop width sums) (2 * (at / 2) + 1) 0 ≡ get_or sums (2 * (width / 2 + at / 2) + 1) 0 =
    get_or-drop width sums (2 * (at / 2) + 1) 0 ∙ ap (λ i. get_or sums i 0) (omega (arith, half.0)) in
    let whole : part sums width width ≡ total marks = rises.total in
    omega arith

-- the next level, with the parent's sum
pub Rises-parent : (sums : List ℕ) (leaves : ℕ) (marks : List ℕ) (width at : ℕ) → Rises sums leaves marks width at → 1 < width
    → Rises (set sums (width / 2 + at / 2) (get_or sums (2 * (width / 2 + at / 2)) 0 + get_or sums (2 * (width / 2 + at / 2) + 1) 0)) leaves marks (width / 2) (at / 2)
Rises-parent sums leaves marks width at rises more =
    let half = IsPower-half width (width / 2) refl more rises.power in
    let w = width / 2 in
    let node = width / 2 + at / 2 in
    let sum = get_or sums (2 * node) 0 + get_or sums (2 * node + 1) 0 in
    let new = set sums node sum in
    let low : node < leaves = omega (arith, half.0, rises.inside, rises.low) in
    let some : 1 ≤ w = omega (arith, half.0) in
    let long : length new ≡ 2 * leaves = length-set sums node sum ∙ rises.length in
    let here : IsSummed new node = record {
      is = get_or-set_same sums node sum 0 (omega (arith, rises.length))
          ∙ sym (ap (λ x. x + get_or new (2 * node + 1) 0) (get_or-set_other sums node (2 * node) sum 0 (λ e. omega arith))
          ∙ ap (λ x. get_or sums (2 * node) 0 + x) (get_or-set_other sums node (2 * node + 1) sum 0 (λ e. omega arith)));
    } in
    let parent : (width + at) / 2 ≡ node = omega (arith, half.0) in
    let nodes : (j : ℕ) → 1 ≤ j → j < leaves → j ≢ node / 2 → IsSummed new j =
    λ j positive below other. elim (cases_eq j node) [
      | inl same ↦ subst (IsSummed new) (sym same) here
      | inr differs ↦ kept sums node sum j differs (λ e. other (omega arith)) (λ e. other (omega arith)) (rises.nodes j positive below (λ e. differs (e ∙ parent)))
    ] in
    let leaves_kept : drop leaves new ≡ drop leaves sums = drop-set-lt leaves sums node sum low in
    let tree_level : part new w w ≡ part new (2 * w) (2 * w) = part-of-nodes new w w (λ j above below. nodes j (omega arith) (omega (arith, half.0, rises.low)) (λ e. omega (arith, half.0, rises.inside))) (omega arith) in
    let lower : drop width new ≡ drop width sums = drop-set-lt width sums node sum (omega (arith, half.0, rises.inside)) in
    let same_level : part new (2 * w) (2 * w) ≡ part new width width = ap (λ v. part new v v) (sym half.0) in
    record {
      powers = rises.powers;
      power = half.1;
      length = long;
      low = omega (arith, half.0, rises.low);
      inside = omega (arith, half.0, rises.inside);
      nodes = nodes;
      leaf = leaves_kept ∙ rises.leaf;
      total = tree_level ∙ same_level ∙ ap (λ xs. total (take width xs)) lower ∙ rises.total;
    }
