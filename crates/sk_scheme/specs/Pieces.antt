-- Pieces of code, and the code of expressions. What names are compiled to where an expression stands is open here: functions
-- and main give it each their own.
use Rattle.std.specs.Prelude.{ℕ, suc, ◌+◌, max, List, [], ◌∷◌, ◌++◌, length, pos}
use Rattle.sk_base.specs.declared.number.Ty.{Ty}
use Rattle.sk_base.specs.declared.number.Ty.TheVariants.{Int, Long}
use Rattle.sk_meaning.specs.Evaluation.{kind_type}
use Rattle.sk_meaning.specs.Expressions.{wider, operation_type, result_type, prefix_type}
use Rattle.sk_tree.specs.declared.tree.Un.{Un}
use Rattle.sk_tree.specs.declared.tree.Un.TheVariants as prefix
use Rattle.sk_tree.specs.declared.tree.Expr.TheOpen.{Expr-F, Number, Name, Field, Method, Unary, Cast, Binary, Both, Either, Choose, Apply}
use Rattle.sk_tree.specs.declared.tree.ParamKind.{ParamKind}
use Rattle.sk_isa.specs.declared.code.Instr.{Instr}
use Rattle.sk_isa.specs.declared.code.Instr.TheVariants as instr

-- code that may be placed at any address
abbrev pub Placed : Type 0
Placed = (at : ℕ) → List Instr

-- A piece of code in its surroundings: the name that it is, or nothing; its type; its code; and the most values that stand on
-- the stack while it is evaluated and after it. A container that is given to a call is a name without code and depth.
pub record Piece (A : Type 0) : Type 0 where
  pub name : List ℕ
  pub ty : A → Ty
  pub code : A → Placed
  pub depth : A → ℕ

-- a name, a field or a method: its type, its code and its depth
pub record Leaf : Type 0 where
  pub ty : Ty
  pub code : List Instr
  pub depth : ℕ

-- What is compiled otherwise in functions than in main: a name alone, `name.field`, `name.method()` and `name(..)`.
pub record Leaves (A : Type 0) : Type 0 where
  pub scalar : A → List ℕ → Leaf
  pub field : A → List ℕ → List ℕ → Leaf
  pub method : A → List ℕ → List ℕ → Leaf
  pub applied : List ℕ → List (Piece A) → Piece A

-- where an int is wanted and the value is long, it is reduced
abbrev pub narrowed : (wanted given : Ty) → List Instr
narrowed Int Int = []
narrowed Int Long = instr.Wrap ∷ []
narrowed Long given = []

-- code, and behind it code of another place
abbrev pub then_code : List Instr → Placed → Placed
then_code first second at = first ++ second (at + length first)

abbrev pub prefix_code : Un → Ty → Instr
prefix_code prefix.Neg ty = instr.Neg ty
prefix_code prefix.Inv ty = instr.Inv ty
prefix_code prefix.Not ty = instr.Not

-- the right operand is evaluated only where the left one holds
abbrev pub both_code : (left right : Placed) → Placed
both_code left right at =
    let one : List Instr = left at in
    let other : List Instr = right (at + length one + 1) in
    let fails : ℕ = at + length one + length other + 4 in
    one ++ instr.Zero fails ∷ other ++ instr.Zero fails ∷ instr.Push (pos 1) ∷ instr.Jump (fails + 1) ∷ instr.Push (pos 0) ∷ []

-- the right operand is evaluated only where the left one does not hold
abbrev pub either_code : (left right : Placed) → Placed
either_code left right at =
    let one : List Instr = left at in
    let second : ℕ = at + length one + 3 in
    let other : List Instr = right second in
    let fails : ℕ = second + length other + 3 in
    one ++ instr.Zero second ∷ instr.Push (pos 1) ∷ instr.Jump (fails + 1)
    ∷ other ++ instr.Zero fails ∷ instr.Push (pos 1) ∷ instr.Jump (fails + 1) ∷ instr.Push (pos 0) ∷ []

-- a test, and one of two pieces of code
abbrev pub choice_code : (test one other : Placed) → Placed
choice_code test one other at =
    let first : List Instr = test at in
    let second : List Instr = one (at + length first + 1) in
    let third : ℕ = at + length first + length second + 2 in
    let last : List Instr = other third in
    first ++ instr.Zero third ∷ second ++ instr.Jump (third + length last) ∷ last

module _ {A : Type 0} where
  -- an expression where a value of a type is wanted
  abbrev pub wanted_code : Ty → Piece A → A → Placed
  wanted_code ty part around at = part.code around at ++ narrowed ty (part.ty around)

  -- expressions from left to right, each as it is
  abbrev pub places_code : List (Piece A) → A → Placed
  places_code [] around at = []
  places_code (part ∷ parts) around at = then_code (part.code around at) (places_code parts around) at

  -- arguments from left to right, for parameters of these kinds
  abbrev pub arguments_code : List ParamKind → List (Piece A) → A → Placed
  arguments_code kinds [] around at = []
  arguments_code [] (part ∷ parts) around at = places_code (part ∷ parts) around at
  arguments_code (kind ∷ kinds) (part ∷ parts) around at =
      then_code (wanted_code (kind_type kind) part around at) (arguments_code kinds parts around) at

  -- each value stays on the stack while those behind it are evaluated
  abbrev pub parts_depth : List (Piece A) → A → ℕ
  parts_depth [] around = 0
  parts_depth (part ∷ parts) around = max (part.depth around) (suc (parts_depth parts around))

  -- a leaf, which may be a name
  abbrev pub leaf_piece : List ℕ → (A → Leaf) → Piece A
  leaf_piece name leaf = record {
    name = name;
    ty = λ around. (leaf around).ty;
    code = λ around at. (leaf around).code;
    depth = λ around. (leaf around).depth;
  }

  -- what an expression is compiled to, its parts being replaced by what they are compiled to
  abbrev pub piece_step : Leaves A → Expr-F (Piece A) → Piece A
  piece_step leaves (Number ty number) = leaf_piece [] (λ around. record { ty = ty; code = instr.Push number ∷ []; depth = 1 })
  piece_step leaves (Name name) = leaf_piece name (λ around. leaves.scalar around name)
  piece_step leaves (Field name field) = leaf_piece [] (λ around. leaves.field around name field)
  piece_step leaves (Method name method) = leaf_piece [] (λ around. leaves.method around name method)
  piece_step leaves (Unary op part) = record {
    name = [];
    ty = λ around. prefix_type op (part.ty around);
    code = λ around at. part.code around at ++ prefix_code op (part.ty around) ∷ [];
    depth = part.depth;
  }
  piece_step leaves (Cast ty part) = record { name = []; ty = λ around. ty; code = wanted_code ty part; depth = part.depth }
  piece_step leaves (Binary op left right) = record {
    name = [];
    ty = λ around. result_type op (left.ty around) (right.ty around);
    code = λ around at. then_code (left.code around at) (right.code around) at
        ++ instr.Binary op (operation_type op (left.ty around) (right.ty around)) ∷ [];
    depth = λ around. max (left.depth around) (suc (right.depth around));
  }
  piece_step leaves (Both left right) = record {
    name = [];
    ty = λ around. Int;
    code = λ around. both_code (left.code around) (right.code around);
    depth = λ around. max (left.depth around) (right.depth around);
  }
  piece_step leaves (Either left right) = record {
    name = [];
    ty = λ around. Int;
    code = λ around. either_code (left.code around) (right.code around);
    depth = λ around. max (left.depth around) (right.depth around);
  }
  piece_step leaves (Choose test one other) = record {
    name = [];
    ty = λ around. wider (one.ty around) (other.ty around);
    code = λ around. choice_code (test.code around) (one.code around) (other.code around);
    depth = λ around. max (test.depth around) (max (one.depth around) (other.depth around));
  }
  piece_step leaves (Apply name parts) = leaves.applied name parts
