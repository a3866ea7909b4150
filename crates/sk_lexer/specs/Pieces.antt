-- Pieces as the definition of tokens has them.
use Rattle.std.specs.Prelude.{ℕ}
use Rattle.sk_tokens.specs.Tokens as definition
use Rattle.sk_lexer.specs.declared.piece.Piece.{Piece}
use Rattle.sk_lexer.specs.declared.piece.Piece.TheVariants.{Passed, Found, Faulty}
use Rattle.sk_lexer.specs.declared.piece.Flaw.{Flaw}
use Rattle.sk_lexer.specs.declared.piece.Flaw.TheVariants.{NoToken, Wide, LongName}

-- the fault that stands at the first byte of what has the flaw
abbrev pub fault_of : Flaw → ℕ → definition.TokenFault
fault_of NoToken at = definition.NoToken at
fault_of Wide at = definition.Wide at
fault_of LongName at = definition.LongName at

abbrev pub piece_of : Piece → definition.Piece
piece_of (Passed bytes) = definition.Passed bytes
piece_of (Found bytes kind) = definition.Found bytes kind
piece_of (Faulty flaw) = definition.Faulty (fault_of flaw)
