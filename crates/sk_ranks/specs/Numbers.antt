-- Numbers that pass a test, and marks of numbers.
use Rattle.std.specs.Prelude.{◌≡◌, ℕ, zero, suc, ◌+◌, ◌<◌, ◌≤◌, Bool, true, false, List, [], ◌∷◌, length, filter, nat_eq, slice_index}
use Rattle.std.specs.List.{range_with_len}

-- the numbers below n that pass the test, in order
abbrev pub numbers_where : (ℕ → Bool) → ℕ → List ℕ
numbers_where test n = filter test (range_with_len 0 n)

-- the places, counted from start, at which the mark is not 0
abbrev pub marked_from : ℕ → List ℕ → List ℕ
marked_from start [] = []
marked_from start (zero ∷ marks) = marked_from (start + 1) marks
marked_from start (suc _ ∷ marks) = start ∷ marked_from (start + 1) marks

-- 1 where it is true
abbrev pub mark_of : Bool → ℕ
mark_of true = 1
mark_of false = 0

-- the numbers below n that pass the test are marked, and no others
pub record IsMarked (test : ℕ → Bool) (n : ℕ) (marks : List ℕ) : Type 0 where
  pub room : n ≤ length marks
  pub inside : (i : ℕ) → i < n → slice_index marks i ≡ mark_of (test i)
  pub outside : (i : ℕ) → n ≤ i → slice_index marks i ≡ 0

-- how many of the list pass the test
abbrev pub many : (ℕ → Bool) → List ℕ → ℕ
many test [] = 0
many test (x ∷ xs) = mark_of (test x) + many test xs

-- how often a number is in the list
abbrev pub times : ℕ → List ℕ → ℕ
times n xs = many (nat_eq n) xs

-- the numbers of a list are marked, and the marks of all others are as before
pub record Inserts (old new numbers : List ℕ) : Type 0 where
  pub len : length new ≡ length old
  pub each : (i : ℕ) → 0 < times i numbers → slice_index new i ≡ 1
  pub others : (i : ℕ) → times i numbers ≡ 0 → slice_index new i ≡ slice_index old i

-- each number of a list took one from its count, and those that reached 0 are marked
pub record CountsDown (old_counts ready new_counts new_ready numbers : List ℕ) : Type 0 where
  pub counts_len : length new_counts ≡ length old_counts
  pub ready_len : length new_ready ≡ length ready
  pub counts : (i : ℕ) → slice_index new_counts i + times i numbers ≡ slice_index old_counts i
  pub freed : (i : ℕ) → 0 < times i numbers → slice_index new_counts i ≡ 0 → slice_index new_ready i ≡ 1
  pub waiting : (i : ℕ) → 0 < slice_index new_counts i → slice_index new_ready i ≡ slice_index ready i
  pub others : (i : ℕ) → times i numbers ≡ 0 → slice_index new_ready i ≡ slice_index ready i
