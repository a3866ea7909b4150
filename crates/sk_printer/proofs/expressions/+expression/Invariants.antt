use Rattle.std.proofs.Common.{◌≡◌, ◌++◌, [], drop, map, codes}
use Rattle.sk_words.specs.Strung.{strung}
use Rattle.sk_printed.specs.ExpressionText.{texts_in, shown_of}
use Rattle.sk_printer.proofs.expressions.+expression.Given as goal

-- what is appended and what is left are the whole
abbrev pub invariant-put_arguments-loop-argument : goal.invariant-put_arguments-loop-argument
invariant-put_arguments-loop-argument l =
    l.out.items ++ strung (codes ", ") l.lead (texts_in (map shown_of (drop l.argument-index l.arguments)))
    ≡ l.initial.out.items ++ strung (codes ", ") [] (texts_in (map shown_of l.arguments))
