-- What a block and its statements begin with.
use Rattle.std.proofs.Common.{◌≡◌, ℕ, suc, false, List, ◌∷◌, refl}
use Rattle.sk_grammar.specs.ExpressionSpelling.{sign_at}
use Rattle.sk_reading.specs.declared.part.Part.{Part}
use Rattle.sk_grammar.specs.StatementSpelling.{Block, Statements, block_in_front, statements_in_front, AreLawfulStatements}
use Rattle.sk_tokens.specs.declared.token.Sign.TheVariants as sign
use Rattle.sk_tokens.specs.declared.token.Token.{Token}
use Rattle.sk_reading.specs.declared.keyword.Keyword.TheVariants as key
use Rattle.sk_reading.specs.Reading.{Place, front_of, is_keyword}
use Rattle.sk_reading.specs.ReadingStatements as reading
use Rattle.sk_reading_complete_laws.proofs.statements.Short.{NoElse}
use Rattle.sk_reading_complete_laws.proofs.statements.Tokens.{begins}

pub part-inside : (left : ℕ) (kind : Part) (p : Place) → reading.part_below (suc left) kind p ≡ reading.part left (reading.part_below left) kind p
unfolding reading.part_below
part-inside left kind p = refl

pub no-else : (ss : Statements) → AreLawfulStatements ss → (line : ℕ) (r : List Token) → NoElse (statements_in_front ss (sign_at sign.CloseBrace line ∷ r))
no-else Statements.Done lawful line r = refl
no-else (Statements.Then w ss) lawful line r = (begins w (statements_in_front ss (sign_at sign.CloseBrace line ∷ r)) lawful.0).1

pub block-first : (b : Block) (r : List Token) → is_keyword key.If (front_of (block_in_front b r)) ≡ false
block-first (Block.Braces lines ss) r = refl
