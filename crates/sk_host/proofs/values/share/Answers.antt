use Rattle.std.proofs.Common.{rules, ◌∷◌, ◌-◌, ◌∙◌, ap, subst, refl, pos, ℤ, FitsSigned, w64, slice_index_or}
use Rattle.std.proofs.lemmas.Int.{to_z-of_z}
use Rattle.sk_host.proofs.Arms.{pop-leads, load-leads, store-leads, neg-leads, zero-leads}
use Rattle.sk_host.proofs.values.share.Goals as goal
use Rattle.sk_host.specs.Needs.{Needs}
use Rattle.sk_isa.specs.declared.code.Instr.{Instr}
use Rattle.sk_isa.specs.declared.code.Instr.TheVariants.{Neg}
use Rattle.sk_meaning.specs.Expressions.{prefix_of}
use Rattle.sk_tree.specs.declared.tree.Un.TheVariants as prefix
use Rattle.sk_vm.specs.Points.{values_in}

pub returns-in-Pop : goal.returns-in-Pop
returns-in-Pop c =
    let needs = subst (λ (i : Instr). Needs i c.args.stand.top c.args.stack.now c.args.slots.now) c.in-Pop.is c.requires.needs in
    pop-leads c.args.instr.now c.args.stand c.past.result c.args.stack.now c.args.slots.now c.in-Pop.is needs c.past.ensures

pub returns-in-Load : goal.returns-in-Load
returns-in-Load c =
    let slots = c.args.slots.now in
    let needs = subst (λ (i : Instr). Needs i c.args.stand.top c.args.stack.now slots) c.in-Load.is c.requires.needs in
    let fits : FitsSigned w64 (slice_index_or slots c.in-Load.slot (pos 0)) = search rules in
    load-leads c.in-Load.slot c.args.instr.now c.args.stand c.args.stack.now c.pushed-in-Load.new.stack slots c.pushed-in-Load.result
    c.in-Load.is needs.0 c.pushed-in-Load.ensures.goes
    (c.pushed-in-Load.ensures.values ∙ ap (λ (x : ℤ). x ∷ values_in c.args.stack.now c.args.stand.top) (to_z-of_z w64 _ fits))

pub returns-in-Store : goal.returns-in-Store
returns-in-Store c =
    let needs = subst (λ (i : Instr). Needs i c.args.stand.top c.args.stack.now c.args.slots.now) c.in-Store.is c.requires.needs in
    store-leads c.in-Store.slot c.args.instr.now c.args.stand c.args.stack.now c.args.slots.now c.stored.new.slots c.stored.result
    c.in-Store.is needs.0 needs.1 c.stored.ensures.goes c.stored.ensures.slots

pub returns-in-Neg : goal.returns-in-Neg
returns-in-Neg c =
    let needs = subst (λ (i : Instr). Needs i c.args.stand.top c.args.stack.now c.args.slots.now) c.in-Neg.is c.requires.needs in
    let fits : FitsSigned w64 c.negated.result = search rules in
    let last_fits : FitsSigned w64 c.last-value.result = search rules in
    neg-leads (prefix_of prefix.Neg c.in-Neg.ty) c.args.instr.now (Neg c.in-Neg.ty) c.args.stand c.args.stack.now c.replaced.new.stack c.args.slots.now c.last-value.result c.replaced.result
    (λ object world. refl) c.in-Neg.is needs c.replaced.ensures.goes c.last-value.ensures
    (c.replaced.ensures.values ∙ ap (λ (x : ℤ). x ∷ values_in c.args.stack.now (c.args.stand.top - 1)) (to_z-of_z w64 c.negated.result fits ∙ c.negated.ensures ∙ ap (prefix_of prefix.Neg c.in-Neg.ty) (to_z-of_z w64 c.last-value.result last_fits)))

pub returns-in-Zero : goal.returns-in-Zero
returns-in-Zero c =
    let needs = subst (λ (i : Instr). Needs i c.args.stand.top c.args.stack.now c.args.slots.now) c.in-Zero.is c.requires.needs in
    zero-leads c.in-Zero.to c.args.instr.now c.args.stand _ c.args.stack.now c.args.slots.now c.tested.result c.in-Zero.is needs refl c.tested.ensures
