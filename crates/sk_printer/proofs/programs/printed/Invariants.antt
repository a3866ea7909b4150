use Rattle.std.proofs.Common.{◌≡◌, ◌++◌, [], drop, map, codes}
use Rattle.sk_words.specs.Strung.{strung}
use Rattle.sk_printed.specs.ProgramText.{function_text}
use Rattle.sk_printer.proofs.programs.printed.Given as goal

-- what is appended and what is left are the whole
abbrev pub invariant-loop-function : goal.invariant-loop-function
invariant-loop-function l =
    l.out.items ++ strung (codes "\n") l.lead (map function_text (drop l.function-index l.program.functions))
    ≡ strung (codes "\n") [] (map function_text l.program.functions)
