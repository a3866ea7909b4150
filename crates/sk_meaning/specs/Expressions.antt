-- Types and values of expressions. What a name means where an expression stands, and what a run keeps beside, is open
-- here: functions and main give it each their own.
use Rattle.std.specs.Prelude.{ℕ, zero, suc, Bool, true, false, not, if◌then◌else◌, List, [], ◌∷◌, map, ℤ, pos, negsuc, ◌-ℤ◌, neg_ℤ, Result, Ok, Err}
use Rattle.sk_base.specs.declared.number.Ty.{Ty}
use Rattle.sk_base.specs.declared.number.Ty.TheVariants.{Int, Long}
use Rattle.sk_base.specs.declared.number.Op.{Op}
use Rattle.sk_base.specs.declared.number.Op.TheVariants.{Shl, Shr, Lt, Le, Gt, Ge, Eq, Ne}
use Rattle.sk_base.specs.declared.number.Trap.{Trap}
use Rattle.sk_base.specs.Arithmetic.{wrapped, flag}
use Rattle.sk_tree.specs.declared.tree.Un.{Un}
use Rattle.sk_tree.specs.declared.tree.Un.TheVariants.{Neg, Inv, Not}
use Rattle.sk_tree.specs.declared.tree.Expr.{Expr, fold-Expr}
use Rattle.sk_tree.specs.declared.tree.Expr.TheOpen.{Expr-F, Number, Name, Field, Method, Unary, Cast, Binary, Both, Either, Choose, Apply}

-- long where either side is long
abbrev pub wider : Ty → Ty → Ty
wider Int ty = ty
wider Long ty = Long

-- the type in which an operator computes: a shift in the left operand's, and every other in the wider one
abbrev pub operation_type : Op → Ty → Ty → Ty
operation_type Shl left right = left
operation_type Shr left right = left
operation_type op left right = wider left right

-- the type of an operator's value: a comparison gives an int
abbrev pub result_type : Op → Ty → Ty → Ty
result_type Lt left right = Int
result_type Le left right = Int
result_type Gt left right = Int
result_type Ge left right = Int
result_type Eq left right = Int
result_type Ne left right = Int
result_type op left right = operation_type op left right

abbrev pub prefix_type : Un → Ty → Ty
prefix_type Not ty = Int
prefix_type op ty = ty

-- a condition holds where its value is not 0
abbrev pub holds : ℤ → Bool
holds (pos zero) = false
holds (pos (suc n)) = true
holds (negsuc n) = true

abbrev pub prefix_of : Un → Ty → ℤ → ℤ
prefix_of Neg ty a = wrapped ty (neg_ℤ a)
prefix_of Inv ty a = neg_ℤ a -ℤ pos 1
prefix_of Not ty a = flag (not (holds a))

module _ {S F : Type 0} where
  -- goes on with a value and what is kept beside it, unless the run stops
  abbrev pub then_do : {A B : Type 0} → Result (A × S) F → (A → S → Result (B × S) F) → Result (B × S) F
  then_do (Ok done) next = next done.0 done.1
  then_do (Err stop) next = Err stop

-- the values of operators: of a type and two numbers the result, or its trap
abbrev pub Arithmetic : Type 0
Arithmetic = Op → Ty → ℤ → ℤ → Result ℤ Trap

-- What names and operators mean where an expression stands: S is what a run keeps beside values, and F is how it may stop.
pub record Names (S F : Type 0) : Type 0 where
  pub arithmetic : Arithmetic
  -- a scalar's type and value
  pub scalar : List ℕ → Ty × ℤ
  -- `name.field`
  pub field : List ℕ → List ℕ → ℤ
  -- `name.method()`
  pub method : List ℕ → List ℕ → ℤ
  -- the type of `name(..)`
  pub applied : List ℕ → Ty
  -- the value of `name(..)`, a call or an element, for arguments that are names or have values
  pub apply : List ℕ → (names : List (List ℕ)) → (values : List ℤ) → S → Result (ℤ × S) F
  -- a trap of the expression itself
  pub stop : Trap → S → F

-- what an expression means: the name that it is, or nothing; its type; and its value
pub record ExpressionMeaning (S F : Type 0) : Type 0 where
  pub name : List ℕ
  pub ty : Names S F → Ty
  pub value : Names S F → S → Result (ℤ × S) F

module _ {S F : Type 0} where
  -- the values of several expressions, from left to right
  abbrev pub values_of : List (ExpressionMeaning S F) → Names S F → S → Result (List ℤ × S) F
  values_of [] names s = Ok ([], s)
  values_of (part ∷ parts) names s =
      then_do (part.value names s) (λ value s. then_do (values_of parts names s) (λ values s. Ok (value ∷ values, s)))

  -- an operator's value, or its trap
  abbrev pub raised : Names S F → Result ℤ Trap → S → Result (ℤ × S) F
  raised names (Ok value) s = Ok (value, s)
  raised names (Err trap) s = Err (names.stop trap s)

  -- What an expression means, its parts being replaced by what they mean. `&&`, `||` and `?:` evaluate only what they
  -- need; everything else goes from left to right.
  abbrev pub meaning_step : Expr-F (ExpressionMeaning S F) → ExpressionMeaning S F
  meaning_step (Number ty number) = record { name = []; ty = λ names. ty; value = λ names s. Ok (number, s) }
  meaning_step (Name name) =
      record { name = name; ty = λ names. (names.scalar name).0; value = λ names s. Ok ((names.scalar name).1, s) }
  meaning_step (Field name field) = record { name = []; ty = λ names. Int; value = λ names s. Ok (names.field name field, s) }
  meaning_step (Method name method) = record { name = []; ty = λ names. Int; value = λ names s. Ok (names.method name method, s) }
  meaning_step (Unary op part) = record {
    name = [];
    ty = λ names. prefix_type op (part.ty names);
    value = λ names s. then_do (part.value names s) (λ a s. Ok (prefix_of op (part.ty names) a, s));
  }
  meaning_step (Cast ty part) =
      record { name = []; ty = λ names. ty; value = λ names s. then_do (part.value names s) (λ a s. Ok (wrapped ty a, s)) }
  meaning_step (Binary op left right) = record {
    name = [];
    ty = λ names. result_type op (left.ty names) (right.ty names);
    value = λ names s. then_do (left.value names s) (λ a s. then_do (right.value names s) (λ b s.
        raised names (names.arithmetic op (operation_type op (left.ty names) (right.ty names)) a b) s));
  }
  meaning_step (Both left right) = record {
    name = [];
    ty = λ names. Int;
    value = λ names s. then_do (left.value names s) (λ a s.
        if holds a then then_do (right.value names s) (λ b s. Ok (flag (holds b), s)) else Ok (pos 0, s));
  }
  meaning_step (Either left right) = record {
    name = [];
    ty = λ names. Int;
    value = λ names s. then_do (left.value names s) (λ a s.
        if holds a then Ok (pos 1, s) else then_do (right.value names s) (λ b s. Ok (flag (holds b), s)));
  }
  meaning_step (Choose test one other) = record {
    name = [];
    ty = λ names. wider (one.ty names) (other.ty names);
    value = λ names s. then_do (test.value names s) (λ a s. if holds a then one.value names s else other.value names s);
  }
  meaning_step (Apply name arguments) = record {
    name = [];
    ty = λ names. names.applied name;
    value = λ names s. then_do (values_of arguments names s) (λ values s.
        names.apply name (map (λ part. part.name) arguments) values s);
  }

-- what an expression means
abbrev pub meaning_of : {S F : Type 0} → Expr → ExpressionMeaning S F
meaning_of {S} {F} = fold-Expr (ExpressionMeaning S F) meaning_step
