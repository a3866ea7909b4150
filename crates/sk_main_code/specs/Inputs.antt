-- The inputs that a run of a compiled program is given.
use Rattle.std.specs.Prelude.{◌≡◌, List, [], ◌∷◌, length, All}
use Rattle.sk_base.specs.Arithmetic.{InRange}
use Rattle.sk_base.specs.Shape.{IsShape, cells_of}
use Rattle.sk_tree.specs.declared.declared.Declared.{Declared}
use Rattle.sk_world.specs.World.{Input}

-- an input that is given for a declared one: its name, sizes of its kind, and as many cells of its type
pub record Answers (declared : Declared) (input : Input) : Type 0 where
  pub name : input.name ≡ declared.name
  pub kind : length input.sizes ≡ declared.kind
  pub shape : IsShape input.sizes
  pub count : length input.cells ≡ cells_of input.sizes
  pub cells : All (InRange declared.ty) input.cells

-- one for each that is declared, in their order
abbrev pub AnswerAll : List Declared → List Input → Type 0
AnswerAll [] [] = Unit {0}
AnswerAll [] (input ∷ inputs) = ⊥
AnswerAll (declared ∷ more) [] = ⊥
AnswerAll (declared ∷ more) (input ∷ inputs) = Answers declared input × AnswerAll more inputs
