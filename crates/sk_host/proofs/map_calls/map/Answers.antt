use Rattle.std.proofs.Common.{◌-◌, ◌∙◌, ap, subst, take, drop, slice_set, ℕ, Some}
use Rattle.sk_host.proofs.Computing.{first_is}
use Rattle.sk_host.proofs.Doing.{do-goes, do-traps}
use Rattle.sk_host.proofs.map_calls.map.Goals as goal
use Rattle.sk_host.specs.MapCalls.{IsComputed}
use Rattle.sk_host.specs.Stores.{kept_at}
use Rattle.sk_host.specs.declared.machine.Stand.{Stand}

pub returns-in-Ok : goal.returns-in-Ok
returns-in-Ok c slots world mirrors unset =
    let call = c.requires.calls in
    let base = c.args.stand.top - c.args.uniforms in
    let given = take (c.args.stand.top - base) (drop base c.args.stack.now) in
    let is_computed = subst (λ made. IsComputed c.args.program.now.object.now c.args.instance c.args.containers.now given c.args.store.now made) c.in-Ok.is c.in_ok-cells.ensures.values in
    let comes = is_computed call.plan call.result call.operands world call.plan_is call.containers_are mirrors unset in
    let first = first_is c.args.containers.now call.result call.operands call.containers_are in
    do-goes c.args.program.now.object.now c.args.instance c.args.containers.now c.args.uniforms c.args.store.now call c.args.stand c.args.stack.now slots world mirrors c.requires.values c.requires.inside
    c.past.result c.refill.new.store c.in-Ok.cells.items comes.0 comes.1
    (c.refill.ensures call.kept (ap (kept_at c.args.store.now) first ∙ call.kept_is)
    ∙ ap (λ (n : ℕ). slice_set c.args.store.now n (Some (record call.kept { cells = c.in-Ok.cells.items }))) first)
    (ap (λ (s : Stand). s.at) c.past.ensures) (ap (λ (s : Stand). s.top) c.past.ensures)

pub returns-in-Err : goal.returns-in-Err
returns-in-Err c slots world mirrors unset =
    let call = c.requires.calls in
    let base = c.args.stand.top - c.args.uniforms in
    let given = take (c.args.stand.top - base) (drop base c.args.stack.now) in
    let is_computed = subst (λ made. IsComputed c.args.program.now.object.now c.args.instance c.args.containers.now given c.args.store.now made) c.in-Err.is c.in_ok-cells.ensures.values in
    let comes = is_computed call.plan call.result call.operands world call.plan_is call.containers_are mirrors unset in
    do-traps c.args.program.now.object.now c.args.instance c.args.containers.now c.args.uniforms c.args.store.now call c.args.stand c.args.stack.now slots world mirrors c.requires.values c.requires.inside
    c.in-Err.trapped.trap c.in-Err.trapped.offset comes.0 comes.1 comes.2 comes.3 c.args.store.now
