-- The program whose functions are compiled and run.
use Rattle.std.specs.Prelude.{ℕ, List, [], ◌∷◌, pos, codes}
use Rattle.sk_base.specs.declared.number.Op.TheVariants.{Add, Mul, Div, Lt, Gt}
use Rattle.sk_base.specs.declared.number.Ty.{Ty}
use Rattle.sk_base.specs.declared.number.Ty.TheVariants.{Int, Long}
use Rattle.sk_tree.specs.declared.tree.Expr.{Expr}
use Rattle.sk_tree.specs.declared.tree.Expr.TheVariants.{Number, Name, Unary, Binary, Both, Choose, Apply}
use Rattle.sk_tree.specs.declared.tree.Function.{Function}
use Rattle.sk_tree.specs.declared.tree.Param.{Param}
use Rattle.sk_tree.specs.declared.tree.ParamKind.TheVariants.{Scalar}
use Rattle.sk_tree.specs.declared.tree.Program.{Program}
use Rattle.sk_tree.specs.declared.tree.Skeleton.{Skeleton}
use Rattle.sk_tree.specs.declared.tree.Skeleton.TheVariants.{Map, MapReduce}
use Rattle.sk_tree.specs.declared.tree.Statement.{Statement}
use Rattle.sk_tree.specs.declared.tree.Un.TheVariants.{Neg}
use Rattle.sk_tree.specs.declared.tree.What.{What}
use Rattle.sk_tree.specs.declared.tree.What.TheVariants.{Declare, Assign, Instance, For, Return}

-- an int as it is written
abbrev pub int : ℕ → Expr
int number = Number Int (pos number)

-- a long as it is written
abbrev pub long : ℕ → Expr
long number = Number Long (pos number)

abbrev pub named : List ℕ → Expr
named name = Name name

-- a statement of a function that stands on one line
abbrev pub stated : What → Statement
stated what = record { line = 1; what = what }

abbrev pub int_param : List ℕ → Param
int_param name = record { kind = Scalar Int; name = name }

abbrev pub function : Ty → List ℕ → List Param → List Statement → Function
function ret name params body = record { line = 1; ret = ret; name = name; params = params; body = body }

-- name = name + 1
abbrev pub grown : List ℕ → Statement
grown name = stated (Assign name (Binary Add (named name) (int 1)))

-- for (int i = 0; i < a; i++) { s = s + 1; }
abbrev pub counting_loop : Statement
counting_loop =
    stated (For (stated (Declare Int (codes "i") (int 0))) (Binary Lt (named (codes "i")) (named (codes "a"))) (grown (codes "i"))
    (grown (codes "s") ∷ []))

-- int f(int a) { int s = 0; for (int i = 0; i < a; i++) { s = s + 1; } return s; }
abbrev pub counting_body : List Statement
counting_body = stated (Declare Int (codes "s") (int 0)) ∷ counting_loop ∷ stated (Return (named (codes "s"))) ∷ []

abbrev pub counting : Function
counting = function Int (codes "f") (int_param (codes "a") ∷ []) counting_body

-- a / b
abbrev pub quotient : Expr
quotient = Binary Div (named (codes "a")) (named (codes "b"))

-- int d(int a, int b) { return a / b; }
abbrev pub dividing : Function
dividing = function Int (codes "d") (int_param (codes "a") ∷ int_param (codes "b") ∷ []) (stated (Return quotient) ∷ [])

-- f(a)
abbrev pub counted : Expr
counted = Apply (codes "f") (named (codes "a") ∷ [])

-- int g(int a) { return f(a) + f(a); }
abbrev pub calling : Function
calling = function Int (codes "g") (int_param (codes "a") ∷ []) (stated (Return (Binary Add counted counted)) ∷ [])

-- 10 / a
abbrev pub inverse : Expr
inverse = Binary Div (int 10) (named (codes "a"))

-- a > 0 && 10 / a > 2
abbrev pub guarded : Expr
guarded = Both (Binary Gt (named (codes "a")) (int 0)) (Binary Gt inverse (int 2))

-- int n(int a) { return a > 0 && 10 / a > 2; }
abbrev pub guarding : Function
guarding = function Int (codes "n") (int_param (codes "a") ∷ []) (stated (Return guarded) ∷ [])

-- a < 0 ? -a : a
abbrev pub distance : Expr
distance = Choose (Binary Lt (named (codes "a")) (int 0)) (Unary Neg (named (codes "a"))) (named (codes "a"))

-- int c(int a) { return a < 0 ? -a : a; }
abbrev pub choosing : Function
choosing = function Int (codes "c") (int_param (codes "a") ∷ []) (stated (Return distance) ∷ [])

-- long x = a
abbrev pub widened : Statement
widened = stated (Declare Long (codes "x") (named (codes "a")))

-- long w(int a) { long x = a; return x * 4294967296L; }
abbrev pub widening_body : List Statement
widening_body = widened ∷ stated (Return (Binary Mul (named (codes "x")) (long 4294967296))) ∷ []

abbrev pub widening : Function
widening = function Long (codes "w") (int_param (codes "a") ∷ []) widening_body

-- int t(int a) { long x = a; int y = x + 2147483647L; return y; }
abbrev pub truncating_body : List Statement
truncating_body =
    widened ∷ stated (Declare Int (codes "y") (Binary Add (named (codes "x")) (long 2147483647)))
    ∷ stated (Return (named (codes "y"))) ∷ []

abbrev pub truncating : Function
truncating = function Int (codes "t") (int_param (codes "a") ∷ []) truncating_body

-- int v(int a) { return 10 / a; }
abbrev pub inverting : Function
inverting = function Int (codes "v") (int_param (codes "a") ∷ []) (stated (Return inverse) ∷ [])

-- auto name = Skeleton<1>(functions);
abbrev pub instance : List ℕ → Skeleton → (functions : List (List ℕ)) → Statement
instance name skeleton functions =
    stated (Instance (record { name = name; skeleton = skeleton; numbers = pos 1 ∷ []; functions = functions }))

-- int main() { auto m = Map<1>(g); auto r = MapReduce<1>(c, d); return 0; }
abbrev pub main_body : List Statement
main_body =
    instance (codes "m") Map (codes "g" ∷ []) ∷ instance (codes "r") MapReduce (codes "c" ∷ codes "d" ∷ [])
    ∷ stated (Return (int 0)) ∷ []

abbrev pub main : Function
main = function Int (codes "main") [] main_body

-- the functions in text order
abbrev pub rows_program : Program
rows_program = record {
  functions =
      counting ∷ dividing ∷ calling ∷ guarding ∷ choosing ∷ widening ∷ truncating ∷ inverting ∷ main ∷ [];
}
