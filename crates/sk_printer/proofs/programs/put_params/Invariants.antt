use Rattle.std.proofs.Common.{◌≡◌, ◌++◌, [], drop, map, codes}
use Rattle.sk_words.specs.Strung.{strung}
use Rattle.sk_printed.specs.ProgramText.{param_text}
use Rattle.sk_printer.proofs.programs.put_params.Given as goal

-- what is appended and what is left are the whole
abbrev pub invariant-loop-param : goal.invariant-loop-param
invariant-loop-param l =
    l.out.items ++ strung (codes ", ") l.lead (map param_text (drop l.param-index l.params))
    ≡ l.initial.out.items ++ strung (codes ", ") [] (map param_text l.params)
