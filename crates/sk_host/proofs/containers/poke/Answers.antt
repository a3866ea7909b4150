use Rattle.std.proofs.Common.{rules, ◌≡◌, ◌+◌, ◌-◌, ◌∙◌, ap, subst, suc, Bool, true, false, ℤ, pos, take, drop, slice_index_or, slice_set, FitsSigned, w64, to_z, of_z, arith, Some}
use Rattle.std.proofs.lemmas.Int.{to_z-of_z}
use Rattle.sk_host.proofs.Kept.{front-in, kept-there, kept-within, last-in, poke-goes, poke-traps}
use Rattle.sk_host.proofs.containers.poke.Goals as goal
use Rattle.sk_host.specs.Stores.{IsPoked, Kept}
use Rattle.sk_host.specs.declared.machine.Stand.{Stand}

pub returns-then-write : goal.returns-then-write
returns-then-write c object slots world mirrors =
    let enough = c.requires.values in
    let top = c.args.stand.top - 1 in
    let base = top - c.args.places in
    let tall : base + suc c.args.places ≡ c.args.stand.top = omega arith in
    let under : base + c.args.places ≡ top = omega arith in
    let count : c.args.places ≡ top - base = omega arith in
    let value = slice_index_or c.args.stack.now top (pos 0) in
    let fits : FitsSigned w64 value = search rules in
    let place = take (top - base) (drop base c.args.stack.now) in
    let kept = kept-there c.args.store.now c.args.container c.requires.there in
    let written = c.write.ensures kept.0 kept.1 in
    let poked : IsPoked kept.0 place value true written.0 =
    subst (λ (x : ℤ). IsPoked kept.0 place x true written.0) (to_z-of_z w64 value fits)
    (subst (λ (b : Bool). IsPoked kept.0 place (to_z w64 (of_z w64 value)) b written.0) c.if-write.true written.1) in
    poke-goes object c.args.stand c.args.stack.now slots c.args.store.now world mirrors c.args.container c.args.places base c.past.result c.write.new.store kept.0 place value poked.0
    tall c.requires.inside (kept-within c.args.store.now c.args.container c.requires.there) kept.1
    (front-in c.args.places base c.args.stack.now (top - base) count) (last-in c.args.places base top c.args.stack.now under) poked.1
    (written.2 ∙ ap (λ (k : Kept). slice_set c.args.store.now c.args.container (Some k)) poked.2)
    (ap (λ (s : Stand). s.at) c.past.ensures) (ap (λ (s : Stand). s.top) c.past.ensures)

pub returns-else-write : goal.returns-else-write
returns-else-write c object slots world mirrors =
    let enough = c.requires.values in
    let top = c.args.stand.top - 1 in
    let base = top - c.args.places in
    let tall : base + suc c.args.places ≡ c.args.stand.top = omega arith in
    let under : base + c.args.places ≡ top = omega arith in
    let count : c.args.places ≡ top - base = omega arith in
    let value = slice_index_or c.args.stack.now top (pos 0) in
    let fits : FitsSigned w64 value = search rules in
    let place = take (top - base) (drop base c.args.stack.now) in
    let kept = kept-there c.args.store.now c.args.container c.requires.there in
    let written = c.write.ensures kept.0 kept.1 in
    let poked : IsPoked kept.0 place value false written.0 =
    subst (λ (x : ℤ). IsPoked kept.0 place x false written.0) (to_z-of_z w64 value fits)
    (subst (λ (b : Bool). IsPoked kept.0 place (to_z w64 (of_z w64 value)) b written.0) c.if-write.false written.1) in
    poke-traps object c.args.stand c.args.stack.now slots c.args.store.now world mirrors c.args.container c.args.places base kept.0 place
    tall c.requires.inside kept.1 (front-in c.args.places base c.args.stack.now (top - base) count) poked.0 c.write.new.store
