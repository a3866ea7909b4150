-- A program that was read within the limits is the program of a text.
use Rattle.std.specs.Prelude.{◌≡◌, ℕ, List, Ok}
use Rattle.sk_grammar.specs.Grammar.{IsFromText}
use Rattle.sk_grammar.specs.Limits.{ReadsWithin}
use Rattle.sk_tokens.specs.Tokens.{tokens_of}
use Rattle.sk_tokens.specs.declared.token.Token.{Token}
use Rattle.sk_tree.specs.declared.tree.Program.{Program}

pub from_text : (bytes : List ℕ) (tokens : List Token) (program : Program) → tokens_of bytes ≡ Ok tokens → ReadsWithin tokens program → IsFromText program
from_text bytes tokens program lexed within = record {
  text = bytes;
  tokens = tokens;
  lexed = lexed;
  reads = record { spelling = within.spelling; lawful = within.lawful; tokens_are = within.tokens_are; program_is = within.program_is };
}
