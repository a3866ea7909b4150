use Rattle.sk_types.specs.Told.{seen}
use Rattle.sk_typing_laws.proofs.Walks.{IsWalked}
use Rattle.sk_types.proofs.statement.+walked.Given as goal

abbrev pub invariant-walk_block-loop-next : goal.invariant-walk_block-loop-next
invariant-walk_block-loop-next l = IsWalked (seen l.around) l.statements l.fn.scopes l.next-index l.least l.scopes
