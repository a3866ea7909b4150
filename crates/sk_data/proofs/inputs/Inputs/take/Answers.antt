use Rattle.std.proofs.Common.{◌≡◌, ◌++◌, ◌∷◌, [], Some, get_or, map, set, subst, sym, ap, ◌∙◌}
use Rattle.sk_data.specs.RecordText.{fields_of}
use Rattle.sk_data.specs.Held.{Held, slot_of}
use Rattle.sk_tree.specs.declared.declared.Declared.{Declared}
use Rattle.sk_data.specs.Records.{HaveDistinctNames, form_fault, given_by}
use Rattle.sk_data.proofs.Slots.{passed-given, passed-faultless, doubled-fault, first-form, first-given}
use Rattle.sk_data.proofs.inputs.Inputs.take.Goals as goal

pub returns-in_default-clause-taken : goal.returns-in_default-clause-taken
returns-in_default-clause-taken c = λ earlier given.
    passed-given c.args.self.now (fields_of c.args.fields.now) earlier (sym c.place.ensures ∙ c.in_default.is) given

pub returns-in_default-clause-faultless : goal.returns-in_default-clause-faultless
returns-in_default-clause-faultless c = λ earlier given.
    passed-faultless c.args.self.now.declared c.args.row (fields_of c.args.fields.now) earlier (sym c.place.ensures ∙ c.in_default.is)

pub returns-then-is_some-clause-fault : goal.returns-then-is_some-clause-fault
returns-then-is_some-clause-fault c = λ known earlier given.
    let inside : Held = record { declared = c.self.inside.declared.now; given = c.self.inside.given.items } in
    let same : inside ≡ c.args.self.now = cc (c.self.view_is) in
    let Is : Held → Type 0 = λ h. c.index-self-place.result ≡ get_or h.declared c.in-Some.place c.index-self-place.result in
    let Has : Held → Type 0 = λ h. c.index.result.now ≡ get_or h.given c.in-Some.place c.index.result.now in
    let is = subst Is same c.index-self-place.is in
    let has = subst Has same c.index.ensures in
    doubled-fault c.args.self.now c.args.row (fields_of c.args.fields.now) earlier c.in-Some.place c.index-self-place.result c.index.result.now c.in_ok-name.name
    (sym c.place.ensures ∙ c.in-Some.is) is has (sym c.is_some.ensures ∙ c.if-is_some.true) (c.in_ok-name.ensures ∙ ap (λ (d : Declared). d.name) (sym c.index-self-place.is)) given

pub returns-in-Err-clause-fault : goal.returns-in-Err-clause-fault
returns-in-Err-clause-fault c = λ known earlier given.
    let inside : Held = record { declared = c.self.inside.declared.now; given = c.self.inside.given.items } in
    let same : inside ≡ c.args.self.now = cc (c.self.view_is) in
    let Is : Held → Type 0 = λ h. c.index-self-place.result ≡ get_or h.declared c.in-Some.place c.index-self-place.result in
    let Has : Held → Type 0 = λ h. c.index.result.now ≡ get_or h.given c.in-Some.place c.index.result.now in
    let is = subst Is same c.index-self-place.is in
    let has = subst Has same c.index.ensures in
    first-form c.args.self.now c.args.row (fields_of c.args.fields.now) earlier c.in-Some.place c.index-self-place.result c.index.result.now
    (sym c.place.ensures ∙ c.in-Some.is) is has (sym c.is_some.ensures ∙ c.if-is_some.false) given
    ∙ ap (λ (d : Declared). form_fault d c.args.row (fields_of c.args.fields.now)) c.index-self-place.is ∙ c.in-Err.ensures.fault known

pub returns-in-Ok-clause-taken : goal.returns-in-Ok-clause-taken
returns-in-Ok-clause-taken c = λ earlier given.
    let inside : Held = record { declared = c.self.inside.declared.now; given = c.self.inside.given.items } in
    let same : inside ≡ c.args.self.now = cc (c.self.view_is) in
    let Is : Held → Type 0 = λ h. c.index-self-place.result ≡ get_or h.declared c.in-Some.place c.index-self-place.result in
    let Has : Held → Type 0 = λ h. c.index.result.now ≡ get_or h.given c.in-Some.place c.index.result.now in
    let is = subst Is same c.index-self-place.is in
    let has = subst Has same c.index.ensures in
    let Distinct : Held → Type 0 = λ h. HaveDistinctNames h.declared in
    let distinct = subst Distinct same c.self.invariant.2 in
    let put = first-given c.args.self.now (fields_of c.args.fields.now) earlier c.in-Some.place c.index-self-place.result c.index.result.now c.in-Ok.given distinct
    (sym c.place.ensures ∙ c.in-Some.is) is has (sym c.is_some.ensures ∙ c.if-is_some.false) (c.in-Ok.ensures.given ∙ ap (λ (d : Declared). given_by d (fields_of c.args.fields.now)) (sym c.index-self-place.is)) given in
    let Put : Held → Type 0 = λ h. set h.given c.in-Some.place (Some c.in-Ok.given) ≡ map (slot_of (earlier ++ fields_of c.args.fields.now ∷ [])) h.declared in
    subst Put (sym same) put

pub returns-in-Ok-clause-faultless : goal.returns-in-Ok-clause-faultless
returns-in-Ok-clause-faultless c = λ earlier given.
    let inside : Held = record { declared = c.self.inside.declared.now; given = c.self.inside.given.items } in
    let same : inside ≡ c.args.self.now = cc (c.self.view_is) in
    let Is : Held → Type 0 = λ h. c.index-self-place.result ≡ get_or h.declared c.in-Some.place c.index-self-place.result in
    let Has : Held → Type 0 = λ h. c.index.result.now ≡ get_or h.given c.in-Some.place c.index.result.now in
    let is = subst Is same c.index-self-place.is in
    let has = subst Has same c.index.ensures in
    first-form c.args.self.now c.args.row (fields_of c.args.fields.now) earlier c.in-Some.place c.index-self-place.result c.index.result.now
    (sym c.place.ensures ∙ c.in-Some.is) is has (sym c.is_some.ensures ∙ c.if-is_some.false) given
    ∙ ap (λ (d : Declared). form_fault d c.args.row (fields_of c.args.fields.now)) c.index-self-place.is ∙ c.in-Ok.ensures.faultless
