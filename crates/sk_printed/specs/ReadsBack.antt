-- What it means that a printed program reads back.
use Rattle.std.specs.Prelude.{◌≡◌, ℕ, List, map, Ok}
use Rattle.sk_grammar.specs.Grammar.{Reads}
use Rattle.sk_tokens.specs.Tokens.{tokens_of}
use Rattle.sk_tokens.specs.declared.token.Token.{Token}
use Rattle.sk_tree.specs.declared.tree.Function.{Function}
use Rattle.sk_tree.specs.declared.tree.Program.{Program}
use Rattle.sk_tree.specs.declared.tree.Statement.{Statement, fold-Statement}
use Rattle.sk_tree.specs.declared.tree.What.{What, roll-What}

-- with line 0 everywhere
abbrev pub unlined : Statement → Statement
unlined = fold-Statement What Statement roll-What (λ statement. record { line = 0; what = statement.what })

abbrev pub unlined_function : Function → Function
unlined_function function = record {
  line = 0;
  ret = function.ret;
  name = function.name;
  params = function.params;
  body = map unlined function.body;
}

abbrev pub without_lines : Program → Program
without_lines program = record { functions = map unlined_function program.functions }

-- the same programs but for their lines
abbrev pub IsSameButLines : Program → Program → Type 0
IsSameButLines one other = without_lines one ≡ without_lines other

-- the text has tokens that read as this program, but for its lines
pub record ReadsAs (text : List ℕ) (program : Program) : Type 0 where
  pub tokens : List Token
  pub again : Program
  pub lexed : tokens_of text ≡ Ok tokens
  pub reads : Reads tokens again
  pub same : IsSameButLines program again
