-- A binary tree of sums in one list: the node j has the children 2 * j and 2 * j + 1, and the root is 1.
use Rattle.std.specs.Prelude.{◌≡◌, ℕ, ◌+◌, ◌*◌, ◌<◌, ◌≤◌, List, [], ◌∷◌, length, take, drop, slice_index}

-- the sum of the numbers
abbrev pub total : List ℕ → ℕ
total [] = 0
total (x ∷ xs) = x + total xs

-- the sum of the first nodes of the level that begins at the node width
abbrev pub part : List ℕ → ℕ → ℕ → ℕ
part sums width n = total (take n (drop width sums))

-- a node has the sum of its children
pub record IsSummed (sums : List ℕ) (node : ℕ) : Type 0 where
  pub is : slice_index sums node ≡ slice_index sums (2 * node) + slice_index sums (2 * node + 1)

-- a power of two
pub data IsPower : ℕ → Type 0 where
  one : (n : ℕ) → n ≡ 1 → IsPower n
  double : (n half : ℕ) → n ≡ 2 * half → IsPower half → IsPower n

-- a whole tree: so many leaves behind as many inner nodes, the node 0 unused
pub record IsTree (sums : List ℕ) (leaves : ℕ) : Type 0 where
  pub power : IsPower leaves
  pub length : length sums ≡ 2 * leaves
  pub nodes : (j : ℕ) → 1 ≤ j → j < leaves → IsSummed sums j
