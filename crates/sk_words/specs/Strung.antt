-- Words strung together on a line.
use Rattle.std.specs.Prelude.{ℕ, List, [], ◌∷◌, ◌++◌, codes}

-- the first behind `lead` and each further one behind `between`
abbrev pub strung : (between lead : List ℕ) → List (List ℕ) → List ℕ
strung between lead [] = []
strung between lead (word ∷ words) = lead ++ word ++ strung between between words

-- with this between each two
abbrev pub joined_by : (between : List ℕ) → List (List ℕ) → List ℕ
joined_by between words = strung between [] words

-- with commas and blanks between
abbrev pub separated : List (List ℕ) → List ℕ
separated words = joined_by (codes ", ") words

-- each with a blank in front
abbrev pub spaced : List (List ℕ) → List ℕ
spaced words = strung (codes " ") (codes " ") words
