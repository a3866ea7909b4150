-- What the choosers answer, and the state that each call leaves.
use Rattle.std.specs.Prelude.{ℕ, ◌+◌, ◌*◌, ◌/◌, ◌%◌, ◌^◌, List, [], ◌∷◌}

-- the next state of the linear congruential generator
abbrev pub stepped : ℕ → ℕ
stepped x = (x * 6364136223846793005 + 1442695040888963407) % 2 ^ 64

-- the choice among `count` that a state gives
abbrev pub drawn : ℕ → ℕ → ℕ
drawn x count = x / 2 ^ 33 % count

-- the choice among `count` that a list of numbers gives: its first, or 0 at its end
abbrev pub first_of : List ℕ → ℕ → ℕ
first_of [] count = 0
first_of (number ∷ numbers) count = number % count

-- the numbers still to come
abbrev pub rest_of : List ℕ → List ℕ
rest_of [] = []
rest_of (number ∷ numbers) = numbers
