-- Words of a line that are made of others, and `-` for what is absent.
use Rattle.std.specs.Prelude.{ℕ, List, [], ◌∷◌, Option, Some, None, codes}
use Rattle.sk_words.specs.Strung.{joined_by}

-- the word of what is there, or `-`
abbrev pub or_absent : {X : Type 0} → (X → List ℕ) → Option X → List ℕ
or_absent word None = codes "-"
or_absent word (Some x) = word x

-- words with commas between, or `-` for none
abbrev pub comma_list : List (List ℕ) → List ℕ
comma_list [] = codes "-"
comma_list (word ∷ words) = joined_by (codes ",") (word ∷ words)
