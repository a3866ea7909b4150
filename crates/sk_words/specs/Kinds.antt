-- The words for types and for kinds of containers, and what they name. The word for a type stands with the words of the
-- language.
use Rattle.std.specs.Prelude.{ℕ, ◌==◌, List, [], Option, Some, None, if◌then◌else◌, codes}
use Rattle.sk_base.specs.declared.number.Ty.{Ty}
use Rattle.sk_base.specs.declared.number.Ty.TheVariants.{Int, Long}
use Rattle.sk_names.specs.Bytes.{same_bytes}

-- a container's kind, by its number of sizes; there is none but those of 1 to 4
abbrev pub kind_word : (sizes : ℕ) → List ℕ
kind_word sizes =
    if sizes == 1 then codes "Vector" else if sizes == 2 then codes "Matrix" else if sizes == 3 then codes "Tensor3"
    else if sizes == 4 then codes "Tensor4" else []

-- ---- back again

-- the type with this word
abbrev pub type_named : List ℕ → Option Ty
type_named word =
    if same_bytes word (codes "int") then Some Int else if same_bytes word (codes "long") then Some Long else None

-- the number of sizes of the kind with this word
abbrev pub kind_named : List ℕ → Option ℕ
kind_named word =
    if same_bytes word (codes "Vector") then Some 1 else if same_bytes word (codes "Matrix") then Some 2
    else if same_bytes word (codes "Tensor3") then Some 3 else if same_bytes word (codes "Tensor4") then Some 4 else None
