-- Expressions over what names are compiled to, and what an application is by its name.
use Rattle.std.specs.Prelude.{◌≡◌, ℕ, max, List, [], ◌∷◌, ◌++◌, length, map, take, drop, Option, Some, None}
use Rattle.sk_isa.specs.declared.code.Instr.{Instr}
use Rattle.sk_isa.specs.declared.code.Instr.TheVariants as instr
use Rattle.sk_meaning.specs.Evaluation.{kind_type}
use Rattle.sk_scheme.specs.Pieces.{Placed, Piece, Leaves, wanted_code, arguments_code, parts_depth, piece_step}
use Rattle.sk_tree.specs.declared.tree.Expr.{Expr, fold-Expr}
use Rattle.sk_tree.specs.declared.tree.ParamKind.{ParamKind}
use Rattle.sk_emitter.specs.declared.applied.Applied.{Applied}
use Rattle.sk_emitter.specs.declared.applied.Use.{Use}
use Rattle.sk_emitter.specs.declared.applied.Use.TheVariants.{Nothing, Left, Item, Region, Call, Get}

module _ {A : Type 0} where
  -- what an expression is compiled to
  abbrev pub piece_of : Leaves A → Expr → Piece A
  piece_of leaves = fold-Expr (Piece A) (piece_step leaves)

  -- the numbers of the containers that parts name
  abbrev pub numbers_in : (A → List ℕ → ℕ) → List (Piece A) → A → List ℕ
  numbers_in number parts around = map (λ (part : Piece A). number around part.name) parts

  -- what is applied, where so many parts are containers and the others are for parameters of these kinds
  abbrev pub use_code : Use → (passed : ℕ) → List ParamKind → (A → List ℕ → ℕ) → List (Piece A) → A → Placed
  use_code Nothing passed kinds number parts around at = []
  use_code Left passed kinds number parts around at = arguments_code kinds (drop passed parts) around at
  use_code (Item slot) passed kinds number parts around at =
      arguments_code kinds (drop passed parts) around at ++ instr.Item slot (length (drop passed parts)) ∷ []
  use_code (Region slot) passed kinds number parts around at =
      arguments_code kinds (drop passed parts) around at ++ instr.Region slot (length (drop passed parts)) ∷ []
  use_code (Call function) passed kinds number parts around at =
      arguments_code kinds (drop passed parts) around at ++ instr.Call function ∷ []
  use_code (Get made) passed kinds number parts around at =
      arguments_code kinds (drop passed parts) around at
      ++ instr.Get made (numbers_in number (take passed parts) around) (length (drop passed parts)) ∷ []

  -- an argument for a parameter of a kind, or as it is
  abbrev pub argument_code : Option ParamKind → Piece A → A → Placed
  argument_code (Some kind) part = wanted_code (kind_type kind) part
  argument_code None part = part.code

  abbrev pub application_code : Applied → (A → List ℕ → ℕ) → List (Piece A) → A → Placed
  application_code applied number parts around at = use_code applied.used applied.passed applied.kinds number parts around at

  abbrev pub application_depth : Applied → List (Piece A) → A → ℕ
  application_depth applied parts around = max 1 (parts_depth (drop applied.passed parts) around)

  -- an application of a name to parts is what is said of the name
  pub record Applies (leaves : Leaves A) (number : A → List ℕ → ℕ) (name : List ℕ) (parts : List (Piece A)) (around : A)
      (applied : Applied) : Type 0 where
    pub ty : (leaves.applied name parts).ty around ≡ applied.ty
    pub code : (at : ℕ) → (leaves.applied name parts).code around at ≡ application_code applied number parts around at
    pub depth : (leaves.applied name parts).depth around ≡ application_depth applied parts around

-- The code behind the values of parts, of which the code before them ends at a start: they are used, or taken back.
abbrev pub used_code : Use → (start : ℕ) → List Instr → (containers : List ℕ) → (count : ℕ) → List Instr
used_code Nothing start code containers count = take start code
used_code Left start code containers count = code
used_code (Item slot) start code containers count = code ++ instr.Item slot count ∷ []
used_code (Region slot) start code containers count = code ++ instr.Region slot count ∷ []
used_code (Call function) start code containers count = code ++ instr.Call function ∷ []
used_code (Get made) start code containers count = code ++ instr.Get made containers count ∷ []
