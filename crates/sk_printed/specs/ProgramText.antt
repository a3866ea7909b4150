-- What a program is printed as: its functions, with an empty line between.
use Rattle.std.specs.Prelude.{ℕ, List, [], ◌++◌, map, codes}
use Rattle.sk_names.specs.Words.{type_word}
use Rattle.sk_tree.specs.declared.tree.Function.{Function}
use Rattle.sk_tree.specs.declared.tree.Param.{Param}
use Rattle.sk_tree.specs.declared.tree.Program.{Program}
use Rattle.sk_printed.specs.WordText.{kind_text}
use Rattle.sk_words.specs.Strung.{strung, separated}
use Rattle.sk_printed.specs.StatementText.{block_text, shown_statement}

abbrev pub param_text : Param → List ℕ
param_text param = kind_text param.kind ++ codes " " ++ param.name

abbrev pub function_text : Function → List ℕ
function_text function =
    type_word function.ret ++ codes " " ++ function.name ++ codes "(" ++ separated (map param_text function.params) ++ codes ") "
    ++ block_text [] (map shown_statement function.body) ++ codes "\n"

abbrev pub printed_of : Program → List ℕ
printed_of program = strung (codes "\n") [] (map function_text program.functions)
