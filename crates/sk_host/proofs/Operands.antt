-- Values of main that lie in a buffer.
use Rattle.std.proofs.Common.{◌≡◌, ℕ, suc, ◌<◌, ◌-◌, List, ◌∷◌, ℤ, pos, slice_index_or, refl, ap, ◌∙◌, arith}
use Rattle.std.specs.Prelude.{Ok, Err}
use Rattle.sk_base.specs.Arithmetic.{op_of}
use Rattle.sk_base.specs.declared.number.Op.{Op}
use Rattle.sk_base.specs.declared.number.Trap.{Trap}
use Rattle.sk_base.specs.declared.number.Ty.{Ty}
use Rattle.sk_host.specs.Points.{point_at}
use Rattle.sk_host.specs.declared.machine.Stand.{Stand}
use Rattle.sk_isa.specs.Configurations.{Goes, Ends, going, giving, with_two}
use Rattle.sk_isa.specs.declared.code.Instr.TheVariants.{Binary}
use Rattle.sk_isa.specs.declared.object.Object.{Object}
use Rattle.sk_main_code.specs.MainSteps.{MainNext, next_in_main, over_by}
use Rattle.sk_vm.proofs.Values.{values_in-last}
use Rattle.sk_vm.specs.Points.{values_in}
use Rattle.sk_world.specs.World.{Over, World}

-- an operator finds its two operands
pub with_two-in : (buffer : List ℤ) (top : ℕ) (next : ℤ → ℤ → List ℤ → MainNext) → 1 < top
    → with_two (values_in buffer top) next ≡ next (slice_index_or buffer (top - 2) (pos 0)) (slice_index_or buffer (top - 1) (pos 0)) (values_in buffer (top - 2))
with_two-in buffer top next two =
    let less : top - 1 - 1 ≡ top - 2 = omega arith in
    let under : values_in buffer (top - 1) ≡ slice_index_or buffer (top - 2) (pos 0) ∷ values_in buffer (top - 2) =
    values_in-last buffer (top - 1) (omega arith) ∙ ap (λ (n : ℕ). slice_index_or buffer n (pos 0) ∷ values_in buffer n) less in
    ap (λ (xs : List ℤ). with_two xs next)
    (values_in-last buffer top (omega arith) ∙ ap (λ (xs : List ℤ). slice_index_or buffer (top - 1) (pos 0) ∷ xs) under)

-- an instruction that only moves values leads to the next address
pub going-in : (stand next : Stand) (stack after slots slots_after values : List ℤ) (world : World) → next.at ≡ suc stand.at → slots_after ≡ slots → values_in after next.top ≡ values
    → going {F = Over} (point_at stand stack slots world) values ≡ Goes (point_at next after slots_after world)
going-in stand next stack after slots slots_after values world at same top = cc

-- an operator's value in place of its operands
pub combines : (object : Object) (world : World) (op : Op) (ty : Ty) (stand next : Stand) (stack after slots : List ℤ) (value : ℤ) → 1 < stand.top
    → op_of op ty (slice_index_or stack (stand.top - 2) (pos 0)) (slice_index_or stack (stand.top - 1) (pos 0)) ≡ Ok value
    → next ≡ record { at = suc stand.at; top = stand.top - 1 }
    → values_in after (stand.top - 1) ≡ value ∷ values_in stack (stand.top - 2)
    → next_in_main object (Binary op ty) (point_at stand stack slots world) ≡ Goes (point_at next after slots world)
combines object world op ty stand next stack after slots value two is to top =
    with_two-in stack stand.top _ two
    ∙ ap (giving over_by (point_at stand stack slots world) (values_in stack (stand.top - 2))) is
    ∙ going-in stand next stack after slots slots (value ∷ values_in stack (stand.top - 2)) world (ap (λ (s : Stand). s.at) to) refl
    (ap (λ (s : Stand). values_in after s.top) to ∙ top)

pub combining_traps : (object : Object) (world : World) (op : Op) (ty : Ty) (stand : Stand) (stack slots : List ℤ) (trap : Trap) → 1 < stand.top
    → op_of op ty (slice_index_or stack (stand.top - 2) (pos 0)) (slice_index_or stack (stand.top - 1) (pos 0)) ≡ Err trap
    → next_in_main object (Binary op ty) (point_at stand stack slots world) ≡ Ends (Err (over_by trap world))
combining_traps object world op ty stand stack slots trap two is =
    with_two-in stack stand.top _ two ∙ ap (giving over_by (point_at stand stack slots world) (values_in stack (stand.top - 2))) is
