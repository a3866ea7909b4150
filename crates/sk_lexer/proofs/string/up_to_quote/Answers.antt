use Rattle.std.proofs.lemmas.List.{take_rest}
use Rattle.sk_token_laws.proofs.Strings.{closes-never}
use Rattle.sk_lexer.proofs.StringFronts.{HasRead-none, HasRead-more, closes, closing-foreign, closing-end}
use Rattle.sk_lexer.proofs.string.up_to_quote.Goals as goal

pub loop-at-init : goal.loop-at-init
loop-at-init c = rw c.new-text.ensures.items (HasRead-none c.args.rest.now)

pub returns-in-Quote-clause-only : goal.returns-in-Quote-clause-only
returns-in-Quote-clause-only c =
    closes c.args.rest.now _ c.loop-at.at c.loop-at.text.items c.loop-at.invariant c.loop-at-test.true (take_rest c.args.rest.now c.loop-at.at) (c.in-Quote.ensures {u = tt})

pub loop-at-preserved : goal.loop-at-preserved
loop-at-preserved c =
    let more = HasRead-more c.args.rest.now _ c.loop-at.at c.in-Stands.bytes c.in-Stands.byte c.loop-at.text.items c.loop-at.invariant c.loop-at-test.true (take_rest c.args.rest.now c.loop-at.at) (c.in-Stands.ensures {u = tt}) in
    let pushed = c.in_ok-push-in-Stands.ensures {u = tt} in
    rw pushed.items more

pub returns-in-Foreign-clause-only : goal.returns-in-Foreign-clause-only
returns-in-Foreign-clause-only c =
    closes-never c.args.rest.now (closing-foreign c.args.rest.now _ c.loop-at.at c.loop-at.text.items c.loop-at.invariant c.loop-at-test.true (take_rest c.args.rest.now c.loop-at.at) (c.in-Foreign.ensures {u = tt}))

pub returns-clause-only : goal.returns-clause-only
returns-clause-only c =
    closes-never c.args.rest.now (closing-end c.args.rest.now c.loop-at.at c.loop-at.text.items c.loop-at.invariant c.loop-at-test.false)
