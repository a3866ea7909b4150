use Rattle.std.proofs.Common.{◌-◌, length}
use Rattle.sk_lexer.proofs.StringFronts.{HasRead}
use Rattle.sk_lexer.proofs.string.up_to_quote.Given as goal

abbrev pub invariant-loop-at : goal.invariant-loop-at
invariant-loop-at l = HasRead l.rest l.at l.text.items

abbrev pub decreases-loop-at : goal.decreases-loop-at
decreases-loop-at l = length l.rest - l.at
