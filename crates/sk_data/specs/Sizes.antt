-- Shapes as text: sizes with the letter x between them.
use Rattle.std.specs.Prelude.{ℕ, ◌==◌, List, [], ◌∷◌, length, map, decimal, pos, Option, Some, None, nat_le, option_map, option_and_then, if◌then◌else◌}
use Rattle.std.specs.List.{slice_split, join_with_byte}
use Rattle.sk_base.specs.Shape.{shape_of}
use Rattle.sk_data.specs.Decimals.{natural_of}

-- the byte between two sizes
abbrev pub letter_x : ℕ
letter_x = 120

-- the values, if none is missing
abbrev pub each_some : {X : Type 0} → List (Option X) → Option (List X)
each_some [] = Some []
each_some (value ∷ values) = option_and_then (λ first. option_map (λ rest. first ∷ rest) (each_some values)) value

-- the parts of a text between the letters x
abbrev pub parts_of : List ℕ → List (List ℕ)
parts_of text = slice_split (λ byte. byte == letter_x) text

-- the size that one to eight digits write
abbrev pub size_of : List ℕ → Option ℕ
size_of part = if nat_le (length part) 8 then natural_of part else None

-- the shape of this many sizes that a text writes
abbrev pub shape_in : (kind : ℕ) → List ℕ → Option (List ℕ)
shape_in kind text =
    if length (parts_of text) == kind then option_and_then (λ sizes. shape_of (map pos sizes)) (each_some (map size_of (parts_of text)))
    else None

-- the text of a shape
abbrev pub shape_text : List ℕ → List ℕ
shape_text sizes = join_with_byte letter_x (map decimal sizes)
