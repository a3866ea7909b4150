-- What a lexer's fault says of the tokens of a text.
use Rattle.std.specs.Prelude.{◌≡◌, List, Result, Err}
use Rattle.sk_tokens.specs.declared.token.Token.{Token}
use Rattle.sk_tokens.specs.Tokens.{TokenFault}
use Rattle.sk_tokens.specs.Tokens as definition
use Rattle.sk_lexer.specs.declared.fault.LexFault.{LexFault}
use Rattle.sk_lexer.specs.declared.fault.LexFault.TheVariants.{NoToken, Wide, LongName, Memory}

-- The text has no tokens, for this reason and at this byte. Want of memory says nothing.
abbrev pub Tells : LexFault → Result (List Token) TokenFault → Type 0
Tells (NoToken at) tokens = tokens ≡ Err (definition.NoToken at)
Tells (Wide at) tokens = tokens ≡ Err (definition.Wide at)
Tells (LongName at) tokens = tokens ≡ Err (definition.LongName at)
Tells Memory tokens = Unit {0}
