use Rattle.std.proofs.Common.{rules, ◌≡◌, ◌-◌, ◌∷◌, ◌∙◌, sym, ap, suc, pos, ℕ, ℤ, Ok, Err, FitsSigned, w64, slice_index_or, arith}
use Rattle.std.proofs.lemmas.Int.{to_z-of_z}
use Rattle.sk_base.specs.Arithmetic.{op_of}
use Rattle.sk_vm.specs.Points.{values_in}
use Rattle.sk_vm.proofs.Values.{combines, combining_traps}
use Rattle.sk_vm.proofs.step.combined.Goals as goal

pub returns-in-Ok : goal.returns-in-Ok
returns-in-Ok c place slots routine finds =
    let stack = c.args.stack.now in
    let top = c.args.stand.top in
    let left_fits : FitsSigned w64 (slice_index_or stack (top - 2) (pos 0)) = search rules in
    let right_fits : FitsSigned w64 (slice_index_or stack (top - 1) (pos 0)) = search rules in
    let value_fits : FitsSigned w64 c.in-Ok.value = search rules in
    let is : op_of c.args.op c.args.ty (slice_index_or stack (top - 2) (pos 0)) (slice_index_or stack (top - 1) (pos 0)) ≡ Ok c.in-Ok.value =
    simp to_z-of_z at (sym c.binary.ensures.value ∙ c.in-Ok.is) in
    let above : suc (top - 2) ≡ top - 1 = omega arith in
    let values : values_in c.put.new.stack (top - 1) ≡ c.in-Ok.value ∷ values_in stack (top - 2) =
    ap (λ (n : ℕ). values_in c.put.new.stack n) (sym above) ∙ c.put.ensures.values
    ∙ ap (λ (x : ℤ). x ∷ values_in stack (top - 2)) (to_z-of_z w64 c.in-Ok.value value_fits) in
    combines c.args.op c.args.ty c.args.stand c.past.result stack c.put.new.stack slots routine c.in-Ok.value c.requires.two is c.past.ensures values

pub returns-in-Err : goal.returns-in-Err
returns-in-Err c place slots routine finds =
    let stack = c.args.stack.now in
    let top = c.args.stand.top in
    let left_fits : FitsSigned w64 (slice_index_or stack (top - 2) (pos 0)) = search rules in
    let right_fits : FitsSigned w64 (slice_index_or stack (top - 1) (pos 0)) = search rules in
    let is : op_of c.args.op c.args.ty (slice_index_or stack (top - 2) (pos 0)) (slice_index_or stack (top - 1) (pos 0)) ≡ Err c.in-Err.trap =
    simp to_z-of_z at (sym c.binary.ensures.value ∙ c.in-Err.is) in
    combining_traps c.args.op c.args.ty c.args.stand stack slots routine c.in-Err.trap c.requires.two is
