use Rattle.std.proofs.Common.{◌∙◌, ap, sym, subst, ℤ, Ok, IfOk, int_div}
use Rattle.sk_base.specs.Arithmetic.{InRange, op_of, is_shift}
use Rattle.sk_base.specs.ArithmeticLaws.{divided-in_range, read-in_range}
use Rattle.sk_base.proofs.arithmetic.binary.Goals as goal
use Rattle.sk_base.proofs.Wrapping.{stored-in_range}
use Rattle.sk_base.proofs.Bitwise.{int_bit_and-Long, int_bit_or-Long, int_bit_xor-Long}

pub returns-in-Add-clause-range : goal.returns-in-Add-clause-range
returns-in-Add-clause-range c = stored-in_range c.args.ty c.sum.result _ c.sum.ensures

pub returns-in-Sub-clause-range : goal.returns-in-Sub-clause-range
returns-in-Sub-clause-range c = stored-in_range c.args.ty c.difference.result _ c.difference.ensures

pub returns-in-Mul-clause-range : goal.returns-in-Mul-clause-range
returns-in-Mul-clause-range c = stored-in_range c.args.ty c.product.result _ c.product.ensures

pub returns-in-Shl-clause-range : goal.returns-in-Shl-clause-range
returns-in-Shl-clause-range c = stored-in_range c.args.ty c.shifted_left.result _ c.shifted_left.ensures

pub returns-in-Div-clause-range : goal.returns-in-Div-clause-range
returns-in-Div-clause-range c = subst (λ r. IfOk r (λ x. InRange c.args.ty x)) (sym c.quotient.ensures) (divided-in_range int_div c.args.ty _ _)

pub returns-in-And-clause-value : goal.returns-in-And-clause-value
returns-in-And-clause-value c =
    let right = c.requires.right (ap is_shift c.in-And.is) in
    ap Ok (int_bit_and-Long c.args.ty c.args.a c.args.b c.requires.left right) ∙ ap (λ op. op_of op c.args.ty c.args.a c.args.b) (sym c.in-And.is)

pub returns-in-And-clause-range : goal.returns-in-And-clause-range
returns-in-And-clause-range c =
    let right = c.requires.right (ap is_shift c.in-And.is) in
    subst (λ (x : ℤ). InRange c.args.ty x) (sym (int_bit_and-Long c.args.ty c.args.a c.args.b c.requires.left right)) (read-in_range c.args.ty _)

pub returns-in-Or-clause-value : goal.returns-in-Or-clause-value
returns-in-Or-clause-value c =
    let right = c.requires.right (ap is_shift c.in-Or.is) in
    ap Ok (int_bit_or-Long c.args.ty c.args.a c.args.b c.requires.left right) ∙ ap (λ op. op_of op c.args.ty c.args.a c.args.b) (sym c.in-Or.is)

pub returns-in-Or-clause-range : goal.returns-in-Or-clause-range
returns-in-Or-clause-range c =
    let right = c.requires.right (ap is_shift c.in-Or.is) in
    subst (λ (x : ℤ). InRange c.args.ty x) (sym (int_bit_or-Long c.args.ty c.args.a c.args.b c.requires.left right)) (read-in_range c.args.ty _)

pub returns-in-Xor-clause-value : goal.returns-in-Xor-clause-value
returns-in-Xor-clause-value c =
    let right = c.requires.right (ap is_shift c.in-Xor.is) in
    ap Ok (int_bit_xor-Long c.args.ty c.args.a c.args.b c.requires.left right) ∙ ap (λ op. op_of op c.args.ty c.args.a c.args.b) (sym c.in-Xor.is)

pub returns-in-Xor-clause-range : goal.returns-in-Xor-clause-range
returns-in-Xor-clause-range c =
    let right = c.requires.right (ap is_shift c.in-Xor.is) in
    subst (λ (x : ℤ). InRange c.args.ty x) (sym (int_bit_xor-Long c.args.ty c.args.a c.args.b c.requires.left right)) (read-in_range c.args.ty _)
