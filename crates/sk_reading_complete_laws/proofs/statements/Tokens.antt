-- A lawful spelling of a statement has a token, and it begins neither with the end of a block nor with an `else`.
use Rattle.std.proofs.Common.{◌≡◌, ℕ, ◌<◌, ◌≤◌, false, List, ◌∷◌, length, refl, ap, arith}
use Rattle.sk_base.specs.declared.number.Ty.{Ty}
use Rattle.sk_base.specs.declared.number.Ty.TheVariants.{Int, Long}
use Rattle.sk_grammar.specs.ExpressionSpelling.{in_front, sign_at, word, typed, with_commas}
use Rattle.sk_grammar.specs.StatementSpelling
use Rattle.sk_grammar.specs.StatementSpelling.{Written, Branch, Otherwise, Block, Statements, Simple, Assignment, Target, Numbers, written_in_front, branch_in_front, otherwise_in_front, block_in_front, statements_in_front, IsLawfulStatement, IsLawfulBranch, IsLawfulOtherwise, IsLawfulBlock, AreLawfulStatements}
use Rattle.sk_tokens.specs.declared.token.Sign.TheVariants as sign
use Rattle.sk_tokens.specs.declared.token.Token.{Token}
use Rattle.sk_reading.specs.declared.next.Next.{Next}
use Rattle.sk_reading.specs.declared.next.Next.TheVariants as next
use Rattle.sk_reading.specs.declared.keyword.Keyword.TheVariants as key
use Rattle.sk_reading.specs.declared.update.Update.TheVariants.{Step}
use Rattle.sk_reading.specs.Reading.{keyword_of, front_of, word_next, same_keyword, is_sign, is_keyword}
use Rattle.sk_reading_complete_laws.proofs.statements.Forms.{items-tokens, names-tokens, numbers-tokens}
use Rattle.sk_reading_complete_laws.proofs.statements.Assignments.{is-update, step-update, target-name}
use Rattle.sk_reading_complete_laws.proofs.Steps.{keyword-none}
use Rattle.sk_reading_complete_laws.proofs.expressions.Tokens.{longer, arguments_longer}

-- ---- each statement has a token

target_longer : (t : Target) (r : List Token) → length r < length (StatementSpelling.target_in_front t r)
target_longer (Target.Variable line w) r = omega arith
target_longer (Target.Element lines w ss) r = omega (arith, arguments_longer ss (sign_at sign.CloseParen (lines 2) ∷ r))
target_longer (Target.Bracketed lines w s) r = omega (arith, longer s (sign_at sign.CloseBracket (lines 2) ∷ r))

assignment_longer : (a : Assignment) (r : List Token) → length r < length (StatementSpelling.assignment_in_front a r)
assignment_longer (Assignment.Assign t line sg how s) r = omega (arith, target_longer t (sign_at sg line ∷ in_front s r), longer s r)
assignment_longer (Assignment.StepAfter t line sg op) r = omega (arith, target_longer t (sign_at sg line ∷ r))
assignment_longer (Assignment.StepBefore line sg op t) r = omega (arith, target_longer t r)

simple_longer : (s : Simple) (r : List Token) → length r < length (StatementSpelling.simple_in_front s r)
simple_longer (Simple.Declare lines t w s) r = omega (arith, longer s r)
simple_longer (Simple.Assigning a) r = assignment_longer a r

numbers_longer : (ns : Numbers) (r : List Token) → StatementSpelling.AreLawfulNumbers ns → length r ≤ length (StatementSpelling.numbers_in_front ns r)
numbers_longer Numbers.NoNumbers r lawful = omega arith
numbers_longer (Numbers.Between lines l) r lawful = omega (arith, numbers-tokens l (sign_at sign.Gt (lines 1) ∷ r) lawful)

mutual
  pub written_longer : (w : Written) (r : List Token) → IsLawfulStatement w → length r < length (written_in_front w r)
  written_longer (Written.Simply s line) r lawful = omega (arith, simple_longer s (sign_at sign.Semi line ∷ r))
  written_longer (Written.Make lines k sizes t w ss) r lawful = omega (arith, arguments_longer ss (sign_at sign.CloseParen (lines 8) ∷ sign_at sign.Semi (lines 9) ∷ r))
  written_longer (Written.Take lines k sizes t w input) r lawful = omega arith
  written_longer (Written.Instantiate lines w k skeleton ns fs) r lawful =
      omega (
        arith,
        numbers_longer ns (sign_at sign.OpenParen (lines 6) ∷ with_commas StatementSpelling.a_name fs (sign_at sign.CloseParen (lines 7) ∷ sign_at sign.Semi (lines 8) ∷ r)) lawful.2,
        names-tokens fs (sign_at sign.CloseParen (lines 7) ∷ sign_at sign.Semi (lines 8) ∷ r) lawful.3,
      )
  written_longer (Written.SetValue lines w k sets s) r lawful = omega (arith, longer s (sign_at sign.CloseParen (lines 4) ∷ sign_at sign.Semi (lines 5) ∷ r))
  written_longer (Written.SetOverlap lines w ss) r lawful = omega (arith, arguments_longer ss (sign_at sign.CloseParen (lines 4) ∷ sign_at sign.Semi (lines 5) ∷ r))
  written_longer (Written.SetMode lines w k family m made) r lawful = omega arith
  written_longer (Written.Call lines w ss) r lawful = omega (arith, arguments_longer ss (sign_at sign.CloseParen (lines 2) ∷ sign_at sign.Semi (lines 3) ∷ r))
  written_longer (Written.Print lines l) r lawful = omega (arith, items-tokens l (sign_at sign.Semi (lines 3) ∷ r) lawful.1)
  written_longer (Written.Return lines s) r lawful = omega (arith, longer s (sign_at sign.Semi (lines 1) ∷ r))
  written_longer (Written.If line b) r lawful = omega (arith, branch_longer b r lawful)
  written_longer (Written.For lines first test step body) r lawful =
      omega (
        arith,
        simple_longer first (sign_at sign.Semi (lines 2) ∷ in_front test (sign_at sign.Semi (lines 3) ∷ StatementSpelling.assignment_in_front step (sign_at sign.CloseParen (lines 4) ∷ block_in_front body r))),
        longer test (sign_at sign.Semi (lines 3) ∷ StatementSpelling.assignment_in_front step (sign_at sign.CloseParen (lines 4) ∷ block_in_front body r)),
        assignment_longer step (sign_at sign.CloseParen (lines 4) ∷ block_in_front body r),
        block_longer body r lawful.3,
      )

  branch_longer : (b : Branch) (r : List Token) → IsLawfulBranch b → length r < length (branch_in_front b r)
  branch_longer (Branch.Test lines test then_block other) r lawful =
      omega (
        arith,
        longer test (sign_at sign.CloseParen (lines 1) ∷ block_in_front then_block (otherwise_in_front other r)),
        block_longer then_block (otherwise_in_front other r) lawful.1,
        otherwise_longer other r lawful.2,
      )

  otherwise_longer : (o : Otherwise) (r : List Token) → IsLawfulOtherwise o → length r ≤ length (otherwise_in_front o r)
  otherwise_longer Otherwise.Nothing r lawful = omega arith
  otherwise_longer (Otherwise.Else line b) r lawful = omega (arith, block_longer b r lawful)
  otherwise_longer (Otherwise.ElseIf lines b) r lawful = omega (arith, branch_longer b r lawful)

  pub block_longer : (b : Block) (r : List Token) → IsLawfulBlock b → length r < length (block_in_front b r)
  block_longer (Block.Braces lines ss) r lawful = omega (arith, statements_longer ss (sign_at sign.CloseBrace (lines 1) ∷ r) lawful)

  statements_longer : (ss : Statements) (r : List Token) → AreLawfulStatements ss → length r ≤ length (statements_in_front ss r)
  statements_longer Statements.Done r lawful = omega arith
  statements_longer (Statements.Then w ss) r lawful = omega (arith, written_longer w (statements_in_front ss r) lawful.0, statements_longer ss r lawful.1)

-- ---- what a statement begins with

-- neither the end of a block nor an `else`
abbrev pub Begins : Next → Type 0
Begins nx = (is_sign sign.CloseBrace nx ≡ false) × (is_keyword key.Else nx ≡ false)

named-begins : (nx : Next) → nx ≡ next.Name → Begins nx
named-begins nx is = (ap (is_sign sign.CloseBrace) is, ap (is_keyword key.Else) is)

typed-begins : (t : Ty) (line : ℕ) (r : List Token) → Begins (front_of (typed t line ∷ r))
unfolding keyword_of same_keyword
typed-begins Int line r = (refl, refl)
typed-begins Long line r = (refl, refl)

assignment-begins : (a : Assignment) (r : List Token) → StatementSpelling.IsLawfulAssignment a → Begins (front_of (StatementSpelling.assignment_in_front a r))
assignment-begins (Assignment.Assign t line sg how s) r lawful = named-begins _ (target-name t lawful.0 (sign_at sg line ∷ in_front s r))
assignment-begins (Assignment.StepAfter t line sg op) r lawful = named-begins _ (target-name t lawful.0 (sign_at sg line ∷ r))
assignment-begins (Assignment.StepBefore line sg op t) r lawful = ((is-update sg (Step op) (step-update sg op lawful.0)).brace, refl)

pub begins : (w : Written) (r : List Token) → IsLawfulStatement w → Begins (front_of (written_in_front w r))
unfolding keyword_of same_keyword
begins (Written.Simply (Simple.Declare lines t w s) line) r lawful = typed-begins t (lines 0) (word w (lines 1) ∷ sign_at sign.Eq (lines 2) ∷ in_front s (sign_at sign.Semi line ∷ r))
begins (Written.Simply (Simple.Assigning a) line) r lawful = assignment-begins a (sign_at sign.Semi line ∷ r) lawful
begins (Written.Make lines k sizes t w ss) r lawful = (refl, refl)
begins (Written.Take lines k sizes t w input) r lawful = (refl, refl)
begins (Written.Instantiate lines w k skeleton ns fs) r lawful = (refl, refl)
begins (Written.SetValue lines w k sets s) r lawful = named-begins _ (ap word_next (keyword-none w lawful.0))
begins (Written.SetOverlap lines w ss) r lawful = named-begins _ (ap word_next (keyword-none w lawful.0))
begins (Written.SetMode lines w k family m made) r lawful = named-begins _ (ap word_next (keyword-none w lawful.0))
begins (Written.Call lines w ss) r lawful = named-begins _ (ap word_next (keyword-none w lawful.0))
begins (Written.Print lines l) r lawful = (refl, refl)
begins (Written.Return lines s) r lawful = (refl, refl)
begins (Written.If line b) r lawful = (refl, refl)
begins (Written.For lines first test step body) r lawful = (refl, refl)
