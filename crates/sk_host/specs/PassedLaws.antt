-- What calls are given holds nothing outside of itself.
use Rattle.std.proofs.Common.{◌≡◌, ℕ, Bool, true, false, cond, ◌<◌, List, [], ◌∷◌, zero, suc, ℤ, Option, Some, None, IsSome, slice_get, refl, subst}
use Rattle.std.specs.Prelude.{nat_lt}
use Rattle.std.proofs.lemmas.Bool.{ltb-true}
use Rattle.sk_base.specs.Shape.{cells_of}
use Rattle.sk_host.specs.Passed.{call_source, cell_held, passed_source, sizes_held, uniform_source}
use Rattle.sk_host.specs.declared.passed.Passed.{Passed}
use Rattle.sk_host.specs.declared.passed.Passed.TheVariants.{Function, Map}
use Rattle.sk_host.specs.Stores.{Kept, kept_at}
use Rattle.sk_tree.specs.declared.tree.ParamKind.{ParamKind}
use Rattle.sk_kernel.specs.Kernels.{HoldsInside}

nothing : (false ≡ true) → ⊥
nothing is = subst (λ (b : Bool). cond b ⊥ (Unit {0})) is tt

uniforms-hold-inside : (values : List ℤ) → HoldsInside (uniform_source values)
uniforms-hold-inside values operand index held = absurd (nothing held)

-- a cell that is held lies inside its container
within : (sizes : List ℕ) (cells : List ℤ) (index : ℕ) (test : Bool) → nat_lt index (cells_of sizes) ≡ test → IsSome (cond test (slice_get cells index) None) → index < cells_of sizes
within sizes cells index true is held = ltb-true index (cells_of sizes) is
within sizes cells index false is held = absurd (nothing held)

one-inside : (over : List ℕ) (found : Option Kept) (index : ℕ) → IsSome (cell_held found index) → index < cells_of (sizes_held over found)
one-inside over None index held = absurd (nothing held)
one-inside over (Some kept) index held = within kept.sizes kept.cells index (nat_lt index (cells_of kept.sizes)) refl held

call-holds-inside : (store : List (Option Kept)) (operands : List ℕ) (kinds : List ParamKind) (uniforms : List ℤ) (over : List ℕ)
    → HoldsInside (call_source store operands kinds uniforms over)
call-holds-inside store [] kinds uniforms over operand index held = absurd (nothing held)
call-holds-inside store (number ∷ operands) kinds uniforms over zero index held = one-inside over (kept_at store number) index held
call-holds-inside store (number ∷ operands) kinds uniforms over (suc operand) index held = call-holds-inside store operands kinds uniforms over operand index held

pub passed-holds-inside : (passed : Passed) → HoldsInside (passed_source passed)
passed-holds-inside (Function arguments) = uniforms-hold-inside arguments.now
passed-holds-inside (Map call) = call-holds-inside call.now.store.now call.now.operands.now call.now.kinds.now call.now.uniforms.now call.now.over.now
