-- Words, names, the words for types, and the words that are no names.
use Rattle.std.specs.Prelude.{ℕ, Bool, false, not, ◌&&◌, List, [], ◌∷◌, codes}
use Rattle.std.specs.List.{list_all, list_any}
use Rattle.sk_base.specs.declared.number.Ty.{Ty}
use Rattle.sk_base.specs.declared.number.Ty.TheVariants.{Int, Long}
use Rattle.sk_names.specs.Bytes.{same_bytes, is_letter, is_word_byte}

-- a letter or `_`, and then letters, digits and `_`
abbrev pub is_word : List ℕ → Bool
is_word [] = false
is_word (first ∷ rest) = is_letter first && list_all is_word_byte rest

-- the word for a type
abbrev pub type_word : Ty → List ℕ
type_word Int = codes "int"
type_word Long = codes "long"

abbrev pub reserved_words : List (List ℕ)
reserved_words =
    codes "int" ∷ codes "long" ∷ codes "auto" ∷ codes "const" ∷ codes "if" ∷ codes "else" ∷ codes "for" ∷ codes "return"
    ∷ codes "skepu" ∷ codes "std" ∷ codes "skepu_input" ∷ []

-- a word that is not reserved
unfoldable pub is_name : List ℕ → Bool
is_name word = not (list_any (λ reserved. same_bytes reserved word) reserved_words)
