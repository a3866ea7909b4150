-- Who waits for each of some things.
use Rattle.std.specs.Prelude.{◌≡◌, ℕ, ◌+◌, ◌<◌, ◌≤◌, List, [], length, map, Vec, nat_eq, if◌then◌else◌, slice_index_or}
use Rattle.std.specs.declared.alloc.Global.{Global}
use Rattle.sk_ranks.specs.Numbers.{times}

-- the numbers in each list
abbrev pub numbers_in : List (Vec ℕ Global) → List (List ℕ)
numbers_in lists = map (λ list. list.items) lists

-- how often x stands among those that wait for the thing e
abbrev pub waits : List (List ℕ) → ℕ → ℕ → ℕ
waits lists e x = times x (slice_index_or lists e [])

-- who was added to those that wait for a thing, as often as the thing is among the awaited
pub record AddsTo (old new : List (List ℕ)) (who : ℕ) (awaited : List ℕ) : Type 0 where
  pub len : length new ≡ length old
  pub each : (e x : ℕ) → waits new e x ≡ waits old e x + (if nat_eq x who then times e awaited else 0)

-- everybody stands, for each thing, as often as the thing is among what they need
pub record IsInverse (lists : List (List ℕ)) (needs : ℕ → List ℕ) : Type 0 where
  pub each : (e x : ℕ) → e < length lists → waits lists e x ≡ times e (needs x)

-- the same of those below n alone; no other stands anywhere yet
pub record IsInverseBelow (n : ℕ) (lists : List (List ℕ)) (needs : ℕ → List ℕ) : Type 0 where
  pub below : (e x : ℕ) → x < n → waits lists e x ≡ times e (needs x)
  pub above : (e x : ℕ) → n ≤ x → waits lists e x ≡ 0
