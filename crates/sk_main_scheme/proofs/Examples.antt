-- Worked examples of the code of main, by evaluation. Parts of expressions are given as pieces.
use Rattle.std.proofs.Common.{◌≡◌, ℕ, List, [], ◌∷◌, ℤ, pos, refl}
use Rattle.std.specs.Prelude.{codes}
use Rattle.sk_base.specs.declared.number.Op.TheVariants.{Add}
use Rattle.sk_base.specs.declared.number.Ty.TheVariants.{Int, Long}
use Rattle.sk_isa.specs.declared.code.Instr.TheVariants as instr
use Rattle.sk_main_scheme.specs.MainScheme.{Around, Number, Whole, Called, Made, Standing, Emitting, main_leaves, main_piece, counted, taking, loop_emitted, block_emitted, holding, operands_of, uniforms_code, emitting_step}
use Rattle.sk_scheme.specs.Pieces.{Piece, leaf_piece, piece_step, wanted_code}
use Rattle.sk_scheme.specs.Scheme.{Known}
use Rattle.sk_tree.specs.FoldLaws.{folds-Number}
use Rattle.sk_tree.specs.declared.tree.Expr.TheOpen as layer
use Rattle.sk_tree.specs.declared.tree.Expr.TheVariants as expression
use Rattle.sk_tree.specs.declared.tree.ParamKind.TheVariants.{Scalar}
use Rattle.sk_tree.specs.declared.tree.Skeleton.TheVariants.{Map, MapReduce}
use Rattle.sk_tree.specs.declared.tree.What.TheOpen.{Return}

-- a number is pushed
pub number-piece : (n : ℤ) → main_piece (expression.Number Int n) ≡ leaf_piece [] (λ around. record { ty = Int; code = instr.Push n ∷ []; depth = 1 })
number-piece n = folds-Number (piece_step main_leaves) Int n

-- `return 0;` on line 2
pub return-zero : (functions : List (List ℕ × Known)) (standing : Standing)
    → (emitting_step (Return (expression.Number Int (pos 0))) 2 functions standing).code
    ≡ instr.Count 2 ∷ instr.Push (pos 0) ∷ instr.Pop ∷ instr.Halt ∷ []
return-zero functions standing = rw (number-piece (pos 0)) refl

abbrev number : ℤ → Piece Around
number n = piece_step main_leaves (layer.Number Int n)

abbrev name : List ℕ → Piece Around
name of = piece_step main_leaves (layer.Name of)

-- a `long` scalar in slot 0, and vectors of ints with the numbers 3 and 4
abbrev around : Around
around = record { functions = []; scope = (codes "x", Number 0 Long) ∷ (codes "v", Whole 3 Int) ∷ (codes "w", Whole 4 Int) ∷ [] }

-- `v(x) + 1`: the place is taken as it is
pub element-and-one : (at : ℕ)
    → (piece_step main_leaves (layer.Binary Add (piece_step main_leaves (layer.Apply (codes "v") (name (codes "x") ∷ []))) (number (pos 1)))).code around at
    ≡ instr.Load 0 ∷ instr.Item 3 1 ∷ instr.Push (pos 1) ∷ instr.Binary Add Int ∷ []
element-and-one at = refl

-- it has two values on the stack at most
pub element-depth :
    (piece_step main_leaves (layer.Binary Add (piece_step main_leaves (layer.Apply (codes "v") (name (codes "x") ∷ []))) (number (pos 1)))).depth around ≡ 2
element-depth = refl

-- a container alone has no code
pub container-alone : (at : ℕ) → (name (codes "w")).code around at ≡ []
container-alone at = refl

-- a `long` value for an `int` place is reduced
pub narrowed-value : (at : ℕ) → wanted_code Int (name (codes "x")) around at ≡ instr.Load 0 ∷ instr.Wrap ∷ []
narrowed-value at = refl

abbrev standing : Standing
standing = record { at = 10; scope = around.scope; slots = Long ∷ []; containers = []; instances = [] }

-- a vector that is declared in the body of a loop is dropped before the step; the test is counted at each turn
abbrev body : Emitting
body = block_emitted (holding (codes "u") 1 Int (counted 6 (taking (λ around at. instr.Push (pos 2) ∷ instr.Push (pos 0) ∷ []) (λ around. 2)
    (λ around standing. instr.Make 0 1 Int 1 ∷ []))) ∷ [])

abbrev step : Emitting
step = counted 5 (taking (λ around at. instr.Push (pos 1) ∷ []) (λ around. 1) (λ around standing. instr.Store 0 ∷ []))

pub loop-with-a-vector : (loop_emitted 5 (name (codes "x")) body step [] standing).code
    ≡ instr.Count 5 ∷ instr.Load 0 ∷ instr.Zero 22
    ∷ instr.Count 6 ∷ instr.Push (pos 2) ∷ instr.Push (pos 0) ∷ instr.Make 0 1 Int 1 ∷ instr.Drop 0
    ∷ instr.Count 5 ∷ instr.Push (pos 1) ∷ instr.Store 0 ∷ instr.Jump 10 ∷ []
loop-with-a-vector = refl

pub behind-the-loop : (loop_emitted 5 (name (codes "x")) body step [] standing).behind.at ≡ 22
behind-the-loop = refl

-- an instance of a Map of two elements and a uniform argument, and a call of a MapReduce of one element
abbrev mapping : Made
mapping = record { number = 0; skeleton = Map; elements = 2; kinds = Scalar Int ∷ Scalar Int ∷ Scalar Int ∷ []; ret = Int }

abbrev reducing : Made
reducing = record { number = 1; skeleton = MapReduce; elements = 1; kinds = Scalar Int ∷ []; ret = Int }

abbrev instances : Around
instances = record {
  functions = [];
  scope = (codes "m", Called mapping) ∷ (codes "s", Called reducing) ∷ (codes "v", Whole 3 Int) ∷ (codes "w", Whole 4 Int) ∷ [];
}

-- `1 + s(v)`: the container pushes nothing
pub one-and-call :
    (piece_step main_leaves (layer.Binary Add (number (pos 1)) (piece_step main_leaves (layer.Apply (codes "s") (name (codes "v") ∷ []))))).code instances 0
    ≡ instr.Push (pos 1) ∷ instr.Get 1 (3 ∷ []) 0 ∷ instr.Binary Add Int ∷ []
one-and-call = refl

pub one-and-call-depth :
    (piece_step main_leaves (layer.Binary Add (number (pos 1)) (piece_step main_leaves (layer.Apply (codes "s") (name (codes "v") ∷ []))))).depth instances ≡ 2
one-and-call-depth = refl

-- `m(w, v, v, 3)`: the result and two elements are containers, and 3 is a uniform argument
pub call-with-a-uniform : uniforms_code mapping (number (pos 3) ∷ []) instances 0 ≡ instr.Push (pos 3) ∷ []
call-with-a-uniform = refl

pub operands-of-a-map : operands_of mapping ≡ 2
operands-of-a-map = refl
