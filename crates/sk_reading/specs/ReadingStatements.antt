-- What the parser reads as statements: blocks, branches and loops.
use Rattle.std.specs.Prelude.{ℕ, zero, suc, if◌then◌else◌, List, [], ◌∷◌, ◌++◌, length}
use Rattle.sk_grammar.specs.StatementSpelling.{at_line}
use Rattle.sk_refusals.specs.declared.refusal.Refusal.TheVariants.{Syntax, Deep}
use Rattle.sk_tokens.specs.declared.token.Sign.TheVariants as sign
use Rattle.sk_tree.specs.declared.tree.Statement.{Statement}
use Rattle.sk_tree.specs.declared.tree.What.{What}
use Rattle.sk_tree.specs.declared.tree.What.TheVariants as what
use Rattle.sk_reading.specs.declared.next.Next.{Next}
use Rattle.sk_reading.specs.declared.next.Next.TheVariants as next
use Rattle.sk_reading.specs.declared.reach.Reach.TheVariants.{Whole}
use Rattle.sk_reading.specs.declared.keyword.Keyword.TheVariants as key
use Rattle.sk_reading.specs.declared.head.Head.{Head}
use Rattle.sk_reading.specs.declared.part.Part.{Part}
use Rattle.sk_reading.specs.declared.part.Part.TheVariants.{Statements, Branch}
use Rattle.sk_reading.specs.Reading.{Parser, Read, ◌>>=◌, ◌>>◌, pure, refuse, peek, take, sees, sees_keyword, expect, opened, opened_by, line}
use Rattle.sk_reading.specs.ReadingAssignments.{value, value_inside, assignment, simple}
use Rattle.sk_reading.specs.ReadingForms.{short}

-- what stands between the parentheses of a `for`, whose first statement and step have this line
unfoldable pub head : (left of : ℕ) → Parser Head
head left of = do
  first ← simple left
  expect sign.Semi
  test ← value left Whole
  expect sign.Semi
  step ← assignment left
  pure (record { first = at_line of first; test = test; step = at_line of step })

abbrev pub head_inside : (left of : ℕ) → Parser Head
head_inside zero of = refuse Deep
head_inside (suc left) of = head left of

-- What stands inside of what is opened is read by `inner`.
module _ (left : ℕ) (inner : Part → Parser (List Statement)) where
  unfoldable pub block : Parser (List Statement)
  block = do
    opened_by sign.OpenBrace left
    found ← inner Statements
    expect sign.CloseBrace
    pure found

  unfoldable pub other_branch : Parser (List Statement)
  other_branch = do
    take
    (λ p. if sees_keyword key.If p then ((opened left) >> inner Branch) p else block p)

  unfoldable pub otherwise : Parser (List Statement)
  otherwise = λ p. if sees_keyword key.Else p then other_branch p else Read ([], p)

  -- from `if` on
  unfoldable pub branch : Parser What
  branch = do
    take
    opened_by sign.OpenParen left
    test ← value_inside left
    expect sign.CloseParen
    then_block ← block
    other ← otherwise
    pure (what.If test then_block other)

  -- from `for` on
  unfoldable pub turned : ℕ → Parser What
  turned of = do
    take
    opened_by sign.OpenParen left
    found ← head_inside left of
    expect sign.CloseParen
    body ← block
    pure (what.For found.first found.test found.step body)

  abbrev pub statement_by : ℕ → Next → Parser What
  statement_by of (next.Keyword key.If) = branch
  statement_by of (next.Keyword key.For) = turned of
  statement_by of other = short left

  unfoldable pub doing : ℕ → Parser What
  doing of = peek >>= statement_by of

  unfoldable pub statement : Parser Statement
  statement = do
    of ← line
    does ← doing of
    pure (at_line of does)

  unfoldable pub statements_from : (turns : ℕ) → List Statement → Parser (List Statement)
  statements_from zero found = refuse Syntax
  statements_from (suc turns) found = λ p. if sees sign.CloseBrace p then Read (found, p)
      else (statement >>= (λ next. statements_from turns (found ++ next ∷ []))) p

  -- the statement that an `else if` stands for
  unfoldable pub alone : Parser (List Statement)
  alone = do
    of ← line
    does ← branch
    pure (at_line of does ∷ [])

  abbrev pub part : Part → Parser (List Statement)
  part Statements = λ p. statements_from (length p.rest) [] p
  part Branch = alone

-- the statements inside what is opened here
unfoldable pub part_below : (left : ℕ) → Part → Parser (List Statement)
part_below zero kind = refuse Deep
part_below (suc left) kind = part left (part_below left) kind

-- statements, where that many more may be opened
unfoldable pub part_of : (left : ℕ) → Part → Parser (List Statement)
part_of left kind = part left (part_below left) kind
