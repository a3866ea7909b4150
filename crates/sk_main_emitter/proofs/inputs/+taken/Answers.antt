use Rattle.std.proofs.Common.{◌≡◌, ◌∙◌, List, flat_map, ap}
use Rattle.std.proofs.lemmas.Result.{on_ok_weaker}
use Rattle.sk_tree.specs.declared.tree.Statement.{Statement}
use Rattle.sk_typing.specs.Inputs.{distinct_after, taken_of}
use Rattle.sk_main_emitter.proofs.MainInputs.{if_found, for_found, found_turn, found_end}
use Rattle.sk_main_emitter.proofs.inputs.+taken.Goals as goal

pub take_all-loop-next-preserved : goal.take_all-loop-next-preserved
take_all-loop-next-preserved t c =
    found_turn c.args.statements.now c.args.inputs.now c.loop-next.inputs c.take_one.new.inputs c.loop-next.next-index c.next-item.result
    c.loop-next.invariant c.next-item.is c.loop-next-test.true c.in_ok-take_one.ensures

pub take_all-returns : goal.take_all-returns
take_all-returns t c =
    found_end c.args.statements.now c.args.inputs.now c.loop-next.inputs c.loop-next.next-index c.loop-next.invariant c.loop-next-test.false

pub take_one-returns-in_ok-take_all-in-If : goal.take_one-returns-in_ok-take_all-in-If
take_one-returns-in_ok-take_all-in-If t c =
    let begin = c.args.inputs.now in
    let between = c.take_all.new.inputs in
    let after = c.take_all-in-If.new.inputs in
    on_ok_weaker c.take_all-in-If.result
    (λ (found : after ≡ distinct_after between (flat_map taken_of c.as_slice-in-If.result.now)).
    if_found begin between after c.args.statement.now c.in-If.field-0 c.in-If.one c.in-If.other c.in-If.is
    (c.in_ok-take_all-in-If.ensures ∙ ap (λ (ss : List Statement). distinct_after begin (flat_map taken_of ss)) c.as_slice.ensures)
    (found ∙ ap (λ (ss : List Statement). distinct_after between (flat_map taken_of ss)) c.as_slice-in-If.ensures))
    c.take_all-in-If.ensures

pub take_one-returns-in-For : goal.take_one-returns-in-For
take_one-returns-in-For t c =
    let begin = c.args.inputs.now in
    let after = c.take_all-in-For.new.inputs in
    on_ok_weaker c.take_all-in-For.result
    (λ (found : after ≡ distinct_after begin (flat_map taken_of c.as_slice-in-For.result.now)).
    for_found begin after c.args.statement.now c.in-For.field-0 c.in-For.field-1 c.in-For.field-2 c.in-For.body c.in-For.is
    (found ∙ ap (λ (ss : List Statement). distinct_after begin (flat_map taken_of ss)) c.as_slice-in-For.ensures))
    c.take_all-in-For.ensures
