use Rattle.std.proofs.Common.{◌≡◌, drop}
use Rattle.sk_typing.specs.TypingStatements as walks
use Rattle.sk_types.proofs.returning.+returning.Given as goal

abbrev pub invariant-block_returns-loop-next : goal.invariant-block_returns-loop-next
invariant-block_returns-loop-next l = walks.block_returns (drop l.next-index l.statements) ≡ walks.block_returns l.statements
