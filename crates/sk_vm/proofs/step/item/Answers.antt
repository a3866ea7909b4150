use Rattle.std.proofs.Common.{rules, ◌≡◌, ◌-◌, ◌∙◌, ◌∷◌, suc, ap, sym, refl, arith, ℕ, ℤ, take, drop, FitsSigned, w64}
use Rattle.std.proofs.lemmas.Int.{to_z-of_z}
use Rattle.sk_vm.specs.Points.{values_in}
use Rattle.sk_vm.proofs.Items.{item-goes, item-traps}
use Rattle.sk_vm.proofs.step.item.Goals as goal

pub returns-in-Ok : goal.returns-in-Ok
returns-in-Ok g c =
    let enough = c.requires.enough in
    let base = c.args.stand.top - c.args.places in
    let count : c.args.stand.top - base ≡ c.args.places = omega arith in
    let fits : FitsSigned w64 c.in-Ok.value = search rules in
    item-goes c.args.slot c.args.places (g.S.Surroundings.other c.args.given.now) c.args.stand c.args.stack.now base refl c.requires.enough c.requires.inside
    (take (c.args.stand.top - base) (drop base c.args.stack.now)) (ap (λ (n : ℕ). take n (drop base c.args.stack.now)) count) c.put.new.stack c.in-Ok.value c.past.result
    (sym c.item.ensures ∙ c.in-Ok.is) c.past.ensures
    (c.put.ensures.values ∙ ap (λ (x : ℤ). x ∷ values_in c.args.stack.now base) (to_z-of_z w64 c.in-Ok.value fits))

pub returns-in-Err : goal.returns-in-Err
returns-in-Err g c =
    let enough = c.requires.enough in
    let base = c.args.stand.top - c.args.places in
    let count : c.args.stand.top - base ≡ c.args.places = omega arith in
    item-traps c.args.slot c.args.places (g.S.Surroundings.other c.args.given.now) c.args.stand c.args.stack.now base refl c.requires.enough c.requires.inside
    (take (c.args.stand.top - base) (drop base c.args.stack.now)) (ap (λ (n : ℕ). take n (drop base c.args.stack.now)) count) c.args.stack.now c.in-Err.trap
    (sym c.item.ensures ∙ c.in-Err.is)
