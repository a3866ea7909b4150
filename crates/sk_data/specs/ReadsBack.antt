-- A dump, read as input where the inputs are declared as the containers are, gives the containers.
use Rattle.std.specs.Prelude.{◌≡◌, ℕ, ◌==◌, ◌&&◌, Bool, true, not, nat_lt, List, length, map, All, Ok}
use Rattle.std.specs.List.{AllZip, list_all}
use Rattle.sk_base.specs.Arithmetic.{InRange}
use Rattle.sk_base.specs.Shape.{IsShape, cells_of}
use Rattle.sk_tree.specs.declared.declared.Declared.{Declared}
use Rattle.sk_data.specs.Records.{HaveDistinctNames, inputs_of, records_of}
use Rattle.sk_data.specs.declared.given.Dumped.{Dumped}
use Rattle.sk_data.specs.declared.given.Given.{Given}

-- a byte of a name that comma-separated values do not set apart: one of ASCII, and no comma, quote or line's end
abbrev pub is_plain : ℕ → Bool
is_plain byte = nat_lt byte 128 && not (byte == 44) && not (byte == 34) && not (byte == 13) && not (byte == 10)

-- the container has the declared name, kind and type, and its name is plain
pub record IsDeclaredAs (container : Dumped) (input : Declared) : Type 0 where
  pub same_name : container.name ≡ input.name
  pub plain : list_all is_plain container.name ≡ true
  pub is_shape : IsShape container.shape
  pub same_kind : length container.shape ≡ input.kind
  pub counted : length container.cells ≡ cells_of container.shape
  pub in_range : All (λ cell. InRange input.ty cell) container.cells

-- the container as an input
abbrev pub given_back : Dumped → Given
given_back container = record { name = container.name; shape = container.shape; cells = container.cells }

abbrev pub ReadsBack : List Dumped → List ℕ → Type 0
ReadsBack containers text = (declared : List Declared) → HaveDistinctNames declared → AllZip IsDeclaredAs containers declared
    → inputs_of declared (records_of text) ≡ Ok (map given_back containers)
