use Rattle.std.proofs.Common.{rules, ◌≡◌, ◌+◌, ◌-◌, ◌∙◌, ap, sym, refl, suc, pos, take, drop, slice_index_or, FitsSigned, w64, arith}
use Rattle.std.proofs.lemmas.Int.{to_z-of_z}
use Rattle.sk_host.proofs.Kept.{declared-at, front-in, last-in, make-goes, make-traps}
use Rattle.sk_host.proofs.containers.make.Goals as goal
use Rattle.sk_host.specs.Stores.{made_of}
use Rattle.sk_host.specs.declared.machine.Stand.{Stand}

pub returns-in-Some : goal.returns-in-Some
returns-in-Some c object kind slots world there mirrors =
    let enough = c.requires.values in
    let top = c.args.stand.top - 1 in
    let base = top - c.args.sizes in
    let tall : base + suc c.args.sizes ≡ c.args.stand.top = omega arith in
    let under : base + c.args.sizes ≡ top = omega arith in
    let count : c.args.sizes ≡ top - base = omega arith in
    let fill = slice_index_or c.args.stack.now top (pos 0) in
    let fits : FitsSigned w64 fill = search rules in
    let declared = declared-at object c.args.container there in
    make-goes object c.args.stand c.args.stack.now slots c.args.store.now world mirrors c.args.container kind c.args.ty c.args.sizes base declared.0
    (take (top - base) (drop base c.args.stack.now)) fill c.past.result c.in-Some.held _
    tall c.requires.inside c.requires.there declared.1 (front-in c.args.sizes base c.args.stack.now (top - base) count) (last-in c.args.sizes base top c.args.stack.now under)
    (ap (made_of c.args.ty (take (top - base) (drop base c.args.stack.now))) (sym (to_z-of_z w64 fill fits)) ∙ sym c.in_ok-held.ensures ∙ c.in-Some.is) refl
    (ap (λ (s : Stand). s.at) c.past.ensures) (ap (λ (s : Stand). s.top) c.past.ensures)

pub returns-in-None : goal.returns-in-None
returns-in-None c object kind slots world there mirrors =
    let enough = c.requires.values in
    let top = c.args.stand.top - 1 in
    let base = top - c.args.sizes in
    let tall : base + suc c.args.sizes ≡ c.args.stand.top = omega arith in
    let under : base + c.args.sizes ≡ top = omega arith in
    let count : c.args.sizes ≡ top - base = omega arith in
    let fill = slice_index_or c.args.stack.now top (pos 0) in
    let fits : FitsSigned w64 fill = search rules in
    let declared = declared-at object c.args.container there in
    make-traps object c.args.stand c.args.stack.now slots c.args.store.now world mirrors c.args.container kind c.args.ty c.args.sizes base declared.0
    (take (top - base) (drop base c.args.stack.now)) fill
    tall c.requires.inside declared.1 (front-in c.args.sizes base c.args.stack.now (top - base) count) (last-in c.args.sizes base top c.args.stack.now under)
    (ap (made_of c.args.ty (take (top - base) (drop base c.args.stack.now))) (sym (to_z-of_z w64 fill fits)) ∙ sym c.in_ok-held.ensures ∙ c.in-None.is)
    c.args.store.now
