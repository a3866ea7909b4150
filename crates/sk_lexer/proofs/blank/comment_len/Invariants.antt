use Rattle.std.proofs.Common.{◌-◌, length}
use Rattle.sk_token_laws.proofs.Comments.{HasPassed}
use Rattle.sk_lexer.proofs.blank.comment_len.Given as goal

abbrev pub invariant-loop-at : goal.invariant-loop-at
invariant-loop-at l = HasPassed l.rest l.at

abbrev pub decreases-loop-at : goal.decreases-loop-at
decreases-loop-at l = length l.rest - l.at
