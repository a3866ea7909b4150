-- A scalar's name alone is its value.
use Rattle.std.proofs.Common.{◌≡◌, ℕ, List, [], ◌∷◌, cond, Some, ap}
use Rattle.sk_base.specs.declared.number.Ty.{Ty}
use Rattle.sk_isa.specs.declared.code.Instr.{Instr}
use Rattle.sk_isa.specs.declared.code.Instr.TheVariants as instr
use Rattle.sk_scheme.specs.Scheme.{Slot, name_code, name_depth}
use Rattle.sk_tree.specs.Parameters.{is_scalar}
use Rattle.sk_tree.specs.declared.tree.ParamKind.{ParamKind}
use Rattle.sk_tree.specs.declared.tree.ParamKind.TheVariants.{Scalar}

pub scalar-code : (slot : Slot) (ty : Ty) → slot.kind ≡ Scalar ty → name_code (Some slot) ≡ instr.Load slot.number ∷ []
scalar-code slot ty scalar = ap (λ (kind : ParamKind). cond (is_scalar kind) (instr.Load slot.number ∷ []) []) scalar

pub scalar-depth : (slot : Slot) (ty : Ty) → slot.kind ≡ Scalar ty → name_depth (Some slot) ≡ 1
scalar-depth slot ty scalar = ap (λ (kind : ParamKind). cond (is_scalar kind) 1 0) scalar
