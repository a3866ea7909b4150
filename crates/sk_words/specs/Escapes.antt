-- Texts between quotes, in which a pair of `\` and a byte stands for a byte that cannot stand there itself.
use Rattle.std.specs.Prelude.{ℕ, ◌==◌, ◌||◌, if◌then◌else◌, List, [], ◌∷◌, ◌++◌, Option, Some, None, codes}
use Rattle.std.specs.List.{flat_map}
use Rattle.std.specs.Option.{option_map, option_and_then}

-- a byte of a text, as the pair that stands for it or as itself
abbrev pub escaped : ℕ → List ℕ
escaped byte =
    if byte == 10 then codes "\\n" else if byte == 9 then codes "\\t" else if byte == 92 then codes "\\\\"
    else if byte == 34 then codes "\\\"" else byte ∷ []

abbrev pub escaped_text : List ℕ → List ℕ
escaped_text text = flat_map escaped text

-- a text between its quotes
abbrev pub quoted : List ℕ → List ℕ
quoted text = codes "\"" ++ escaped_text text ++ codes "\""

-- ---- back again

-- what the pair of `\` and this byte stands for
abbrev pub pair_means : ℕ → Option ℕ
pair_means byte =
    if byte == 110 then Some 10 else if byte == 116 then Some 9 else if byte == 92 then Some 92
    else if byte == 34 then Some 34 else None

-- what escaped bytes stand for: a lone `\`, an unknown pair and a `"` of its own stand for nothing
abbrev pub unescaped : List ℕ → Option (List ℕ)
unescaped [] = Some []
unescaped (byte ∷ []) = if byte == 92 || byte == 34 then None else Some (byte ∷ [])
unescaped (byte ∷ next ∷ rest) =
    if byte == 92 then option_and_then (λ means. option_map (λ text. means ∷ text) (unescaped rest)) (pair_means next)
    else if byte == 34 then None
    else option_map (λ text. byte ∷ text) (unescaped (next ∷ rest))
