-- What stands between two statements is text.
use denote.Text.{Utf8}
use denote.Shadow.{shadow}
use Rattle.sk_grammar_rows.proofs.written.+statement.Given as goal

abbrev pub invariant-put_block-loop-statement : goal.invariant-put_block-loop-statement
invariant-put_block-loop-statement l = shadow (Utf8 l.lead)
