-- What the associative operators compute.
use Rattle.std.specs.Prelude.{if◌then◌else◌, ℤ, ◌+ℤ◌, ◌*ℤ◌, int_lt}
use Rattle.std.specs.Int.{int_bit_and, int_bit_or, int_bit_xor}
use Rattle.sk_base.specs.Arithmetic.{wrapped, width_of}
use Rattle.sk_tree.specs.declared.operator.Operator.{Operator}
use Rattle.sk_tree.specs.declared.operator.OperatorKind.TheVariants.{Add, Mul, And, Or, Xor, Min, Max, First, Last}

-- what an operator gives for two numbers of its type
abbrev pub operator_value : Operator → ℤ → ℤ → ℤ
operator_value operator a b = elim operator.kind [
  | Add ↦ wrapped operator.ty (a +ℤ b)
  | Mul ↦ wrapped operator.ty (a *ℤ b)
  | And ↦ int_bit_and (width_of operator.ty) a b
  | Or ↦ int_bit_or (width_of operator.ty) a b
  | Xor ↦ int_bit_xor (width_of operator.ty) a b
  | Min ↦ if int_lt a b then a else b
  | Max ↦ if int_lt b a then a else b
  | First ↦ a
  | Last ↦ b
]
