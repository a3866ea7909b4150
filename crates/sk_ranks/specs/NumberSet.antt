-- What a set of numbers keeps.
use Rattle.std.specs.Prelude.{ℕ, ◌^◌, ◌<◌, ◌≤◌, List, drop, slice_index}
use Rattle.sk_ranks.specs.declared.number_set.NumberSet.TheInside.{Inside}
use Rattle.sk_ranks.specs.Sums.{IsTree}

-- the mark of each number
abbrev pub marks_of : Inside → List ℕ
marks_of set = drop set.leaves set.sums.items

-- the sums are those of the marks, each of which is 0 or 1
pub record IsCounted (set : Inside) : Type 0 where
  pub tree : IsTree set.sums.items set.leaves
  pub short : set.leaves < 2 ^ 32
  pub marks : (i : ℕ) → slice_index (marks_of set) i ≤ 1
