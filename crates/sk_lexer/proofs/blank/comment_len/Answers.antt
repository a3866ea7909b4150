use Rattle.std.proofs.Common.{◌∙◌, sym}
use Rattle.std.proofs.lemmas.List.{take_rest}
use Rattle.sk_token_laws.proofs.Comments.{HasPassed-none, HasPassed-more, comment_rest-unclosed}
use Rattle.sk_lexer.proofs.blank.comment_len.Goals as goal

pub loop-at-init : goal.loop-at-init
loop-at-init c = HasPassed-none c.args.rest.now

pub loop-at-preserved : goal.loop-at-preserved
loop-at-preserved c =
    HasPassed-more c.args.rest.now _ c.loop-at.at c.loop-at.invariant c.loop-at-test.true (take_rest c.args.rest.now c.loop-at.at) (sym c.starts_with.ensures.value ∙ c.if-starts_with.false)

pub returns : goal.returns
returns c = sym (comment_rest-unclosed c.args.rest.now c.loop-at.at c.loop-at.invariant c.loop-at-test.false)
