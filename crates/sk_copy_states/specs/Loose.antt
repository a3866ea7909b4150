-- Copies of a space that may give way, and what the others take.
use Rattle.std.specs.Prelude.{ℕ, ◌-◌, ◌==◌, ◌&&◌, Bool, not, List, filter, map, sum_by, if◌then◌else◌}
use Rattle.sk_copy_states.specs.declared.held.Held.{Held}

-- whether a copy lies in the space and is not pinned
abbrev pub is_loose : ℕ → Held → Bool
is_loose space held = (held.space == space) && (held.pins == 0)

-- the numbers of the copies of a space that are not pinned, in order
abbrev pub loose_in : ℕ → List (ℕ × Held) → List ℕ
loose_in space copies = map (λ entry. entry.0) (filter (λ entry. is_loose space entry.1) copies)

-- how many cells of a space a copy keeps while it is pinned
abbrev pub kept_by : ℕ → Held → ℕ
kept_by space held = if (held.space == space) && not (held.pins == 0) then held.hi - held.lo else 0

-- how many cells of a space its pinned copies have together
abbrev pub pinned_in : ℕ → List (ℕ × Held) → ℕ
pinned_in space copies = sum_by (λ entry. kept_by space entry.1) copies
