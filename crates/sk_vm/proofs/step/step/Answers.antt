use Rattle.std.proofs.Common.{rules, ◌∷◌, ◌-◌, ◌∙◌, ap, sym, subst, refl, pos, ℕ, ℤ, List, FitsSigned, w64, slice_index_or}
use Rattle.std.proofs.lemmas.Int.{to_z-of_z}
use Rattle.sk_tree.specs.declared.tree.Un.TheVariants as prefix
use Rattle.sk_meaning.specs.Evaluation.{field_of}
use Rattle.sk_meaning.specs.Expressions.{prefix_of}
use Rattle.sk_isa.specs.declared.code.Instr.{Instr}
use Rattle.sk_isa.specs.declared.code.Instr.TheVariants.{Neg}
use Rattle.sk_vm.specs.Needs.{Needs}
use Rattle.sk_vm.specs.Places.{FieldIn}
use Rattle.sk_vm.specs.Points.{LeadsTo, point_at, values_in}
use Rattle.sk_vm.proofs.Arms.{kept-combined, kept-going, field-leads, pop-leads, load-leads, store-leads, neg-leads, zero-leads}
use Rattle.sk_vm.proofs.Items.{kept-item}
use Rattle.sk_vm.proofs.step.step.Goals as goal

pub returns-in-Pop : goal.returns-in-Pop
returns-in-Pop g c =
    let needs = subst (λ (i : Instr). Needs i (g.S.Surroundings.other c.args.given.now) (g.S.Surroundings.readable c.args.given.now) c.args.stand.top c.args.stack.now c.args.slots.now) c.in-Pop.is c.requires.needs in
    record { leads = pop-leads c.args.instr.now (g.S.Surroundings.other c.args.given.now) c.args.stand c.past.result c.args.stack.now c.args.slots.now c.in-Pop.is needs c.past.ensures; kept = tt }

pub returns-in-Load : goal.returns-in-Load
returns-in-Load g c =
    let slots = c.args.slots.now in
    let needs = subst (λ (i : Instr). Needs i (g.S.Surroundings.other c.args.given.now) (g.S.Surroundings.readable c.args.given.now) c.args.stand.top c.args.stack.now slots) c.in-Load.is c.requires.needs in
    let fits : FitsSigned w64 (slice_index_or slots c.in-Load.slot (pos 0)) = search rules in
    record {
      leads = load-leads c.in-Load.slot c.args.instr.now (g.S.Surroundings.other c.args.given.now) c.args.stand c.args.stack.now c.pushed-in-Load.new.stack slots c.pushed-in-Load.result
          c.in-Load.is needs.0 c.pushed-in-Load.ensures.goes
          (c.pushed-in-Load.ensures.values ∙ ap (λ (x : ℤ). x ∷ values_in c.args.stack.now c.args.stand.top) (to_z-of_z w64 _ fits));
      kept = kept-going c.pushed-in-Load.result _ _ _ _ _ c.pushed-in-Load.ensures.goes;
    }

pub field-requires : goal.field-requires
field-requires g c =
    let needs = subst (λ (i : Instr). Needs i (g.S.Surroundings.other c.args.given.now) (g.S.Surroundings.readable c.args.given.now) c.args.stand.top c.args.stack.now c.args.slots.now) c.in-Field.is c.requires.needs in
    record { there = subst (λ (name : List ℕ). FieldIn (g.S.Surroundings.other c.args.given.now c.in-Field.slot) name) (sym c.as_bytes.ensures) needs.1; readable = needs.2 }

pub pushed-requires-in-Field-clause-room : goal.pushed-requires-in-Field-clause-room
pushed-requires-in-Field-clause-room g c =
    (subst (λ (i : Instr). Needs i (g.S.Surroundings.other c.args.given.now) (g.S.Surroundings.readable c.args.given.now) c.args.stand.top c.args.stack.now c.args.slots.now) c.in-Field.is c.requires.needs).0

pub returns-in-Field : goal.returns-in-Field
returns-in-Field g c =
    let fits : FitsSigned w64 c.field.result = search rules in
    record {
      leads = field-leads c.in-Field.slot c.in-Field.name c.args.instr.now (g.S.Surroundings.other c.args.given.now) c.args.stand c.args.stack.now c.pushed-in-Field.new.stack c.args.slots.now c.pushed-in-Field.result
          c.in-Field.is c.pushed-in-Field.ensures.goes
          (c.pushed-in-Field.ensures.values ∙ ap (λ (x : ℤ). x ∷ values_in c.args.stack.now c.args.stand.top) (to_z-of_z w64 _ fits ∙ c.field.ensures ∙ ap (λ (name : List ℕ). field_of (g.S.Surroundings.other c.args.given.now c.in-Field.slot) name) c.as_bytes.ensures));
      kept = kept-going c.pushed-in-Field.result _ _ _ _ _ c.pushed-in-Field.ensures.goes;
    }

pub returns-in-Store : goal.returns-in-Store
returns-in-Store g c =
    let needs = subst (λ (i : Instr). Needs i (g.S.Surroundings.other c.args.given.now) (g.S.Surroundings.readable c.args.given.now) c.args.stand.top c.args.stack.now c.args.slots.now) c.in-Store.is c.requires.needs in
    record {
      leads = store-leads c.in-Store.slot c.args.instr.now (g.S.Surroundings.other c.args.given.now) c.args.stand c.args.stack.now c.args.slots.now c.stored.new.slots c.stored.result
          c.in-Store.is needs.0 needs.1 c.stored.ensures.goes c.stored.ensures.slots;
      kept = kept-going c.stored.result _ _ _ _ _ c.stored.ensures.goes;
    }

pub returns-in-Neg : goal.returns-in-Neg
returns-in-Neg g c =
    let needs = subst (λ (i : Instr). Needs i (g.S.Surroundings.other c.args.given.now) (g.S.Surroundings.readable c.args.given.now) c.args.stand.top c.args.stack.now c.args.slots.now) c.in-Neg.is c.requires.needs in
    let fits : FitsSigned w64 c.negated.result = search rules in
    let last_fits : FitsSigned w64 c.last-value.result = search rules in
    record {
      leads = neg-leads (prefix_of prefix.Neg c.in-Neg.ty) c.args.instr.now (Neg c.in-Neg.ty) (g.S.Surroundings.other c.args.given.now) c.args.stand c.args.stack.now c.replaced.new.stack c.args.slots.now c.last-value.result c.replaced.result
          (λ routine. refl) c.in-Neg.is needs c.replaced.ensures.goes c.last-value.ensures
          (c.replaced.ensures.values ∙ ap (λ (x : ℤ). x ∷ values_in c.args.stack.now (c.args.stand.top - 1)) (to_z-of_z w64 c.negated.result fits ∙ c.negated.ensures ∙ ap (prefix_of prefix.Neg c.in-Neg.ty) (to_z-of_z w64 c.last-value.result last_fits)));
      kept = kept-going c.replaced.result _ _ _ _ _ c.replaced.ensures.goes;
    }

pub returns-in-Zero : goal.returns-in-Zero
returns-in-Zero g c =
    let needs = subst (λ (i : Instr). Needs i (g.S.Surroundings.other c.args.given.now) (g.S.Surroundings.readable c.args.given.now) c.args.stand.top c.args.stack.now c.args.slots.now) c.in-Zero.is c.requires.needs in
    record {
      leads = zero-leads c.in-Zero.to c.args.instr.now (g.S.Surroundings.other c.args.given.now) c.args.stand _ c.args.stack.now c.args.slots.now c.tested.result c.in-Zero.is needs refl c.tested.ensures;
      kept = kept-going c.tested.result _ _ _ _ _ c.tested.ensures;
    }

pub returns-in-Binary-clause-kept : goal.returns-in-Binary-clause-kept
returns-in-Binary-clause-kept g c = kept-combined c.in-Binary.op c.in-Binary.ty c.args.stand c.args.stack.now _ c.args.slots.now c.combined.result c.combined.ensures

pub item-requires : goal.item-requires
item-requires g c =
    let needs = subst (λ (i : Instr). Needs i (g.S.Surroundings.other c.args.given.now) (g.S.Surroundings.readable c.args.given.now) c.args.stand.top c.args.stack.now c.args.slots.now) c.in-Item.is c.requires.needs in
    record {
      address = c.requires.address;
      enough = needs.0;
      inside = c.requires.inside;
      room = needs.1;
      whole = needs.2;
      readable = needs.3;
    }

pub returns-in-Item-clause-leads : goal.returns-in-Item-clause-leads
returns-in-Item-clause-leads g c =
    subst (λ (i : Instr). LeadsTo i (g.S.Surroundings.other c.args.given.now) (point_at c.args.stand c.args.stack.now c.args.slots.now) c.item.result c.item.new.stack c.args.slots.now) (sym c.in-Item.is)
    (c.item.ensures c.args.slots.now)

pub returns-in-Item-clause-kept : goal.returns-in-Item-clause-kept
returns-in-Item-clause-kept g c =
    kept-item c.in-Item.slot c.in-Item.places (g.S.Surroundings.other c.args.given.now) c.args.stand c.args.stack.now _ c.args.slots.now c.item.result c.item.ensures
