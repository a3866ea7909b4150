use Rattle.std.proofs.Common.{rules, ◌≡◌, ◌+◌, ◌-◌, ◌∷◌, ◌∙◌, ap, sym, suc, ℕ, ℤ, take, drop, FitsSigned, w64, arith}
use Rattle.std.proofs.lemmas.Int.{to_z-of_z}
use Rattle.sk_host.proofs.Kept.{item-goes, item-traps}
use Rattle.sk_host.proofs.containers.item.Goals as goal
use Rattle.sk_host.specs.Stores.{element_of}
use Rattle.sk_host.specs.declared.machine.Stand.{Stand}
use Rattle.sk_vm.specs.Points.{values_in}

pub returns-in-Some : goal.returns-in-Some
returns-in-Some c object slots world mirrors =
    let within = c.requires.places in
    let base = c.args.stand.top - c.args.places in
    let tall : base + c.args.places ≡ c.args.stand.top = omega arith in
    let count : c.args.places ≡ c.args.stand.top - base = omega arith in
    let above : base + 1 ≡ suc base = omega arith in
    let fits : FitsSigned w64 c.in-Some.value = search rules in
    item-goes object c.args.stand c.args.stack.now slots c.args.store.now world mirrors c.args.container c.args.places base c.past.result c.put.new.stack c.held.result.now c.in-Some.value
    tall c.requires.inside c.held.ensures
    (ap (λ (n : ℕ). element_of c.held.result.now (take n (drop base c.args.stack.now))) count ∙ sym c.element.ensures ∙ c.in-Some.is)
    (ap (λ (s : Stand). s.at) c.past.ensures)
    (ap (λ (s : Stand). values_in c.put.new.stack s.top) c.past.ensures ∙ ap (values_in c.put.new.stack) above
    ∙ c.put.ensures.values ∙ ap (λ (x : ℤ). x ∷ values_in c.args.stack.now base) (to_z-of_z w64 c.in-Some.value fits))

pub returns-in-None : goal.returns-in-None
returns-in-None c object slots world mirrors =
    let within = c.requires.places in
    let base = c.args.stand.top - c.args.places in
    let tall : base + c.args.places ≡ c.args.stand.top = omega arith in
    let count : c.args.places ≡ c.args.stand.top - base = omega arith in
    item-traps object c.args.stand c.args.stack.now slots c.args.store.now world mirrors c.args.container c.args.places base c.held.result.now
    tall c.requires.inside c.held.ensures
    (ap (λ (n : ℕ). element_of c.held.result.now (take n (drop base c.args.stack.now))) count ∙ sym c.element.ensures ∙ c.in-None.is)
    c.args.stack.now
