-- What stands between two values is text.
use denote.Text.{Utf8}
use denote.Shadow.{shadow}
use Rattle.sk_grammar_rows.proofs.written.+expression.Given as goal

abbrev pub invariant-put_all-loop-value : goal.invariant-put_all-loop-value
invariant-put_all-loop-value l = shadow (Utf8 l.lead)
