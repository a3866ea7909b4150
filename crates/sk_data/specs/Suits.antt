-- What an input is given suits it.
use Rattle.std.specs.Prelude.{◌≡◌, length, All}
use Rattle.sk_base.specs.Arithmetic.{InRange}
use Rattle.sk_base.specs.Shape.{IsShape, cells_of}
use Rattle.sk_tree.specs.declared.declared.Declared.{Declared}
use Rattle.sk_data.specs.declared.given.Given.{Given}

-- the declared name, a shape of the declared kind, as many cells, and each in the range of the declared type
pub record Suits (input : Declared) (given : Given) : Type 0 where
  pub named : given.name ≡ input.name
  pub is_shape : IsShape given.shape
  pub of_kind : length given.shape ≡ input.kind
  pub counted : length given.cells ≡ cells_of given.shape
  pub in_range : All (λ cell. InRange input.ty cell) given.cells
