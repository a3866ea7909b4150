use Rattle.std.proofs.Common.{◌-◌, ◌∙◌, sym, refl, length, take, drop, Global}
use Rattle.sk_host.proofs.Computing.{alike_is, first_is, is_computed, may_compute, over-is, refuses, rest_is}
use Rattle.sk_host.proofs.map_calls.compute.Goals as goal

pub returns-else-are_alike-clause-values : goal.returns-else-are_alike-clause-values
returns-else-are_alike-clause-values c =
    let call = c.requires.calls in
    let first = first_is c.args.containers.now call.result call.operands call.containers_are in
    let rest = rest_is c.args.containers.now call.result call.operands call.containers_are in
    let over = c.shape-over.ensures ∙ over-is c.args.store.now _ call.result c.held.result.now call.kept first c.held.ensures call.kept_is in
    refuses c.args.program.now.object.now c.args.instance c.args.containers.now c.args.store.now c.args.uniforms.now c.requires.calls Global (sym (alike_is c.args.program.now.object.now c.args.instance c.args.containers.now c.args.store.now c.args.uniforms.now c.requires.calls (take (length c.args.containers.now - 1) (drop 1 c.args.containers.now)) _ c.shape-over.result.now rest refl over) ∙ sym c.are_alike.ensures ∙ c.if-are_alike.false)

pub computed-requires-clause-may : goal.computed-requires-clause-may
computed-requires-clause-may c =
    let call = c.requires.calls in
    let first = first_is c.args.containers.now call.result call.operands call.containers_are in
    let rest = rest_is c.args.containers.now call.result call.operands call.containers_are in
    let over = c.shape-over.ensures ∙ over-is c.args.store.now _ call.result c.held.result.now call.kept first c.held.ensures call.kept_is in
    may_compute c.args.program.now.object.now c.args.instance c.args.containers.now c.args.store.now c.args.uniforms.now c.requires.calls (take (length c.args.containers.now - 1) (drop 1 c.args.containers.now)) c.uniform_kinds.result.now c.shape-over.result.now rest (c.uniform_kinds.ensures call.plan call.plan_is) over (sym c.are_alike.ensures ∙ c.if-are_alike.true)

pub returns-then-are_alike-clause-values : goal.returns-then-are_alike-clause-values
returns-then-are_alike-clause-values c =
    let call = c.requires.calls in
    let first = first_is c.args.containers.now call.result call.operands call.containers_are in
    let rest = rest_is c.args.containers.now call.result call.operands call.containers_are in
    let over = c.shape-over.ensures ∙ over-is c.args.store.now _ call.result c.held.result.now call.kept first c.held.ensures call.kept_is in
    is_computed c.args.program.now.object.now c.args.instance c.args.containers.now c.args.store.now c.args.uniforms.now c.requires.calls (take (length c.args.containers.now - 1) (drop 1 c.args.containers.now)) c.uniform_kinds.result.now c.shape-over.result.now rest (c.uniform_kinds.ensures call.plan call.plan_is) over c.computed.result
    (λ cells agree. c.computed.ensures.values call.plan cells call.plan_is agree) (sym c.are_alike.ensures ∙ c.if-are_alike.true)
