-- There is one mark for each token.
use Rattle.std.proofs.Common.{◌≡◌, ℕ, suc, ◌+◌, List, [], ◌∷◌, length, refl, arith}
use Rattle.sk_grammar.specs.ExpressionSpelling.{Expression, Arguments, in_front, arguments_in_front, sign_at, with_commas, in_sequence}
use Rattle.sk_grammar.specs.StatementSpelling.{Numbers, Printed, a_number, a_name, numbers_in_front, shifted_in_front, Target, Assignment, Simple, Written, Branch, Otherwise, Block, Statements, target_in_front, assignment_in_front, simple_in_front, written_in_front, branch_in_front, otherwise_in_front, block_in_front, statements_in_front}
use Rattle.sk_grammar.specs.Grammar.{Parameter, Definition, Spelling, parameter_in_front, definition_in_front, tokens_in}
use Rattle.sk_grammar.specs.Limits.{nodes_in, written_instances, block_instances}
use Rattle.sk_refusals.specs.Marks.{Marks, mark, node, marks, expression_marks, arguments_marks, each_own_marks, listed_marks, numbers_marks, shifted_marks, sequence_marks, own_marks, between_marks, target_marks, assignment_marks, simple_marks, written_marks, branch_marks, otherwise_marks, block_marks, statements_marks, counting, parameter_marks, parameters_marks, definition_marks, definitions_marks}
use Rattle.sk_refusals.specs.declared.refusal.Limited.TheVariants.{Parameters}
use Rattle.sk_tokens.specs.declared.token.Sign.TheVariants as sign
use Rattle.sk_tokens.specs.declared.token.Token.{Token}

mutual
  pub expression-length : (s : Expression) (depth before : ℕ) (r : List Token) (rest : Marks) → length r ≡ length rest → length (in_front s r) ≡ length (expression_marks s depth before rest)
  expression-length (Expression.Number line t v) depth before r rest same = omega arith
  expression-length (Expression.Name line w) depth before r rest same = omega arith
  expression-length (Expression.Field lines w v) depth before r rest same = omega arith
  expression-length (Expression.Method lines w v) depth before r rest same = omega arith
  expression-length (Expression.Alone lines w) depth before r rest same = omega arith
  expression-length (Expression.Apply lines w ss) depth before r rest same =
      omega (arith, arguments-length ss (suc depth) (suc before) (sign_at sign.CloseParen (lines 2) ∷ r) (mark (suc depth) ∷ rest) (omega arith))
  expression-length (Expression.Index lines w s) depth before r rest same =
      omega (arith, expression-length s (suc depth) (suc before) (sign_at sign.CloseBracket (lines 2) ∷ r) (mark (suc depth) ∷ rest) (omega arith))
  expression-length (Expression.Paren lines s) depth before r rest same =
      omega (arith, expression-length s (suc depth) before (sign_at sign.CloseParen (lines 1) ∷ r) (mark (suc depth) ∷ rest) (omega arith))
  expression-length (Expression.Prefix line sg op s) depth before r rest same = omega (arith, expression-length s (suc depth) (suc before) r rest same)
  expression-length (Expression.Convert lines t s) depth before r rest same = omega (arith, expression-length s (suc depth) (suc before) r rest same)
  expression-length (Expression.Join line sg j a b) depth before r rest same =
      let k = suc (before + nodes_in a) in
      expression-length a depth before (sign_at sg line ∷ in_front b r) (node depth k ∷ expression_marks b depth k rest) (omega (arith, expression-length b depth k r rest same))
  expression-length (Expression.Choose lines a b c) depth before r rest same =
      let k = suc (before + nodes_in a) in
      let last = expression-length c (suc depth) (k + nodes_in b) r rest same in
      let middle = expression-length b depth k (sign_at sign.Colon (lines 1) ∷ in_front c r) (mark depth ∷ expression_marks c (suc depth) (k + nodes_in b) rest) (omega (arith, last)) in
      expression-length a depth before (sign_at sign.Question (lines 0) ∷ in_front b (sign_at sign.Colon (lines 1) ∷ in_front c r))
      (node depth k ∷ expression_marks b depth k (mark depth ∷ expression_marks c (suc depth) (k + nodes_in b) rest)) (omega (arith, middle))

  pub arguments-length : (ss : Arguments) (depth before : ℕ) (r : List Token) (rest : Marks) → length r ≡ length rest
      → length (arguments_in_front ss r) ≡ length (arguments_marks ss depth before rest)
  arguments-length (Arguments.Last s) depth before r rest same = expression-length s depth before r rest same
  arguments-length (Arguments.More s line ss) depth before r rest same =
      expression-length s depth before (sign_at sign.Comma line ∷ arguments_in_front ss r) (mark depth ∷ arguments_marks ss depth (before + nodes_in s) rest)
      (omega (arith, arguments-length ss depth (before + nodes_in s) r rest same))

pub each_own-length : (ss : Arguments) (depth : ℕ) (r : List Token) (rest : Marks) → length r ≡ length rest → length (arguments_in_front ss r) ≡ length (each_own_marks ss depth rest)
each_own-length (Arguments.Last s) depth r rest same = expression-length s depth 0 r rest same
each_own-length (Arguments.More s line ss) depth r rest same =
    expression-length s depth 0 (sign_at sign.Comma line ∷ arguments_in_front ss r) (mark depth ∷ each_own_marks ss depth rest) (omega (arith, each_own-length ss depth r rest same))

-- ---- lists

pub listed-length : {A : Type 0} (front : A → List Token → List Token) → ((a : A) (r : List Token) → length (front a r) ≡ suc (length r)) → (l : List (A × ℕ)) (depth : ℕ) (r : List Token) (rest : Marks)
    → length r ≡ length rest → length (with_commas front l r) ≡ length (listed_marks l depth rest)
listed-length front one [] depth r rest same = same
listed-length front one (a ∷ []) depth r rest same = omega (arith, one a.0 r)
listed-length front one (a ∷ b ∷ l) depth r rest same =
    omega (arith, one a.0 (sign_at sign.Comma a.1 ∷ with_commas front (b ∷ l) r), listed-length front one (b ∷ l) depth r rest same)

pub numbers-length : (ns : Numbers) (depth : ℕ) (r : List Token) (rest : Marks) → length r ≡ length rest → length (numbers_in_front ns r) ≡ length (numbers_marks ns depth rest)
numbers-length Numbers.NoNumbers depth r rest same = same
numbers-length (Numbers.Between lines l) depth r rest same =
    omega (arith, listed-length a_number (λ a r. refl) l depth (sign_at sign.Gt (lines 1) ∷ r) (mark depth ∷ rest) (omega arith))

printed-length : (a : ℕ × Printed) (depth : ℕ) (r : List Token) (rest : Marks) → length r ≡ length rest → length (shifted_in_front a r) ≡ length (shifted_marks depth a rest)
printed-length (line, Printed.PrintedText line' t) depth r rest same = omega arith
printed-length (line, Printed.PrintedEnd lines) depth r rest same = omega arith
printed-length (line, Printed.PrintedValue s) depth r rest same = omega (arith, expression-length s depth 0 r rest same)

pub items-length : (l : List (ℕ × Printed)) (depth : ℕ) (r : List Token) (rest : Marks) → length r ≡ length rest
    → length (in_sequence shifted_in_front l r) ≡ length (sequence_marks (shifted_marks depth) l rest)
items-length [] depth r rest same = same
items-length (a ∷ l) depth r rest same = printed-length a depth (in_sequence shifted_in_front l r) (sequence_marks (shifted_marks depth) l rest) (items-length l depth r rest same)

-- ---- statements

target-length : (t : Target) (depth : ℕ) (r : List Token) (rest : Marks) → length r ≡ length rest → length (target_in_front t r) ≡ length (target_marks t depth rest)
target-length (Target.Variable line w) depth r rest same = omega arith
target-length (Target.Element lines w ss) depth r rest same =
    omega (arith, each_own-length ss (suc depth) (sign_at sign.CloseParen (lines 2) ∷ r) (mark (suc depth) ∷ rest) (omega arith))
target-length (Target.Bracketed lines w s) depth r rest same =
    omega (arith, expression-length s (suc depth) 0 (sign_at sign.CloseBracket (lines 2) ∷ r) (mark (suc depth) ∷ rest) (omega arith))

pub assignment-length : (a : Assignment) (depth : ℕ) (r : List Token) (rest : Marks) → length r ≡ length rest → length (assignment_in_front a r) ≡ length (assignment_marks a depth rest)
assignment-length (Assignment.Assign t line sg how s) depth r rest same =
    target-length t depth (sign_at sg line ∷ in_front s r) (mark depth ∷ own_marks s depth rest) (omega (arith, expression-length s depth 0 r rest same))
assignment-length (Assignment.StepAfter t line sg op) depth r rest same = target-length t depth (sign_at sg line ∷ r) (mark depth ∷ rest) (omega arith)
assignment-length (Assignment.StepBefore line sg op t) depth r rest same = omega (arith, target-length t depth r rest same)

pub simple-length : (s : Simple) (depth : ℕ) (r : List Token) (rest : Marks) → length r ≡ length rest → length (simple_in_front s r) ≡ length (simple_marks s depth rest)
simple-length (Simple.Declare lines t w s) depth r rest same = omega (arith, expression-length s depth 0 r rest same)
simple-length (Simple.Assigning a) depth r rest same = assignment-length a depth r rest same

between-length : (ss : Arguments) (depth line line' : ℕ) (r : List Token) (rest : Marks) → length r ≡ length rest
    → length (sign_at sign.OpenParen line ∷ arguments_in_front ss (sign_at sign.CloseParen line' ∷ r)) ≡ length (between_marks ss depth rest)
between-length ss depth line line' r rest same =
    omega (arith, each_own-length ss (suc depth) (sign_at sign.CloseParen line' ∷ r) (mark (suc depth) ∷ rest) (omega arith))

mutual
  pub written-length : (w : Written) (depth before : ℕ) (r : List Token) (rest : Marks) → length r ≡ length rest → length (written_in_front w r) ≡ length (written_marks w depth before rest)
  written-length (Written.Simply s line) depth before r rest same = simple-length s depth (sign_at sign.Semi line ∷ r) (mark depth ∷ rest) (omega arith)
  written-length (Written.Make lines k sizes t w ss) depth before r rest same =
      omega (arith, between-length ss depth (lines 7) (lines 8) (sign_at sign.Semi (lines 9) ∷ r) (mark depth ∷ rest) (omega arith))
  written-length (Written.Take lines k sizes t w input) depth before r rest same = omega arith
  written-length (Written.Instantiate lines w k skeleton ns fs) depth before r rest same =
      let end = sign_at sign.CloseParen (lines 7) ∷ sign_at sign.Semi (lines 8) ∷ r in
      let inner = mark (suc depth) in
      let few = listed-length a_name (λ a r. refl) fs (suc depth) end (inner ∷ mark depth ∷ rest) (omega arith) in
      omega (arith, numbers-length ns depth (sign_at sign.OpenParen (lines 6) ∷ with_commas a_name fs end) (inner ∷ listed_marks fs (suc depth) (inner ∷ mark depth ∷ rest)) (omega (arith, few)))
  written-length (Written.SetValue lines w k sets s) depth before r rest same =
      omega (arith, expression-length s (suc depth) 0 (sign_at sign.CloseParen (lines 4) ∷ sign_at sign.Semi (lines 5) ∷ r) (mark (suc depth) ∷ mark depth ∷ rest) (omega arith))
  written-length (Written.SetOverlap lines w ss) depth before r rest same =
      omega (arith, between-length ss depth (lines 3) (lines 4) (sign_at sign.Semi (lines 5) ∷ r) (mark depth ∷ rest) (omega arith))
  written-length (Written.SetMode lines w k family m made) depth before r rest same = omega arith
  written-length (Written.Call lines w ss) depth before r rest same =
      omega (arith, between-length ss depth (lines 1) (lines 2) (sign_at sign.Semi (lines 3) ∷ r) (mark depth ∷ rest) (omega arith))
  written-length (Written.Print lines l) depth before r rest same = omega (arith, items-length l depth (sign_at sign.Semi (lines 3) ∷ r) (mark depth ∷ rest) (omega arith))
  written-length (Written.Return lines s) depth before r rest same = omega (arith, expression-length s depth 0 (sign_at sign.Semi (lines 1) ∷ r) (mark depth ∷ rest) (omega arith))
  written-length (Written.If line b) depth before r rest same = omega (arith, branch-length b depth before r rest same)
  written-length (Written.For lines first test step body) depth before r rest same =
      let inner = mark (suc depth) in
      let close = sign_at sign.CloseParen (lines 4) ∷ block_in_front body r in
      let closed = inner ∷ block_marks body depth before rest in
      let last = block-length body depth before r rest same in
      let steps = assignment-length step (suc depth) close closed (omega (arith, last)) in
      let tests = expression-length test (suc depth) 0 (sign_at sign.Semi (lines 3) ∷ assignment_in_front step close) (inner ∷ assignment_marks step (suc depth) closed) (omega (arith, steps)) in
      omega (
        arith,
        simple-length first (suc depth) (sign_at sign.Semi (lines 2) ∷ in_front test (sign_at sign.Semi (lines 3) ∷ assignment_in_front step close))
            (inner ∷ own_marks test (suc depth) (inner ∷ assignment_marks step (suc depth) closed)) (omega (arith, tests)),
      )

  pub branch-length : (b : Branch) (depth before : ℕ) (r : List Token) (rest : Marks) → length r ≡ length rest → length (branch_in_front b r) ≡ length (branch_marks b depth before rest)
  branch-length (Branch.Test lines test then_block other) depth before r rest same =
      let last = otherwise-length other depth (before + block_instances then_block) r rest same in
      let blocks = block-length then_block depth before (otherwise_in_front other r) (otherwise_marks other depth (before + block_instances then_block) rest) last in
      omega (
        arith,
        expression-length test (suc depth) 0 (sign_at sign.CloseParen (lines 1) ∷ block_in_front then_block (otherwise_in_front other r))
            (mark (suc depth) ∷ block_marks then_block depth before (otherwise_marks other depth (before + block_instances then_block) rest)) (omega (arith, blocks)),
      )

  pub otherwise-length : (o : Otherwise) (depth before : ℕ) (r : List Token) (rest : Marks) → length r ≡ length rest → length (otherwise_in_front o r) ≡ length (otherwise_marks o depth before rest)
  otherwise-length Otherwise.Nothing depth before r rest same = same
  otherwise-length (Otherwise.Else line b) depth before r rest same = omega (arith, block-length b depth before r rest same)
  otherwise-length (Otherwise.ElseIf lines b) depth before r rest same = omega (arith, branch-length b (suc depth) before r rest same)

  pub block-length : (b : Block) (depth before : ℕ) (r : List Token) (rest : Marks) → length r ≡ length rest → length (block_in_front b r) ≡ length (block_marks b depth before rest)
  block-length (Block.Braces lines ss) depth before r rest same =
      omega (arith, statements-length ss (suc depth) before (sign_at sign.CloseBrace (lines 1) ∷ r) (mark (suc depth) ∷ rest) (omega arith))

  pub statements-length : (ss : Statements) (depth before : ℕ) (r : List Token) (rest : Marks) → length r ≡ length rest → length (statements_in_front ss r) ≡ length (statements_marks ss depth before rest)
  statements-length Statements.Done depth before r rest same = same
  statements-length (Statements.Then w ss) depth before r rest same =
      written-length w depth before (statements_in_front ss r) (statements_marks ss depth (before + written_instances w) rest) (statements-length ss depth (before + written_instances w) r rest same)

-- ---- functions

-- what is behind the first mark of a parameter
abbrev pub behind_first : Parameter → ℕ
behind_first (Parameter.ScalarParameter lines t w) = 1
behind_first (Parameter.IndexParameter lines k meant w) = 3
behind_first (Parameter.ViewParameter lines k meant t w) = 6
behind_first (Parameter.ConstParameter line lines k meant t w) = 7

pub parameter-marked : (number : ℕ) (a : Parameter) (rest : Marks) → parameter_marks number a rest ≡ counting 1 Parameters number ∷ marks (behind_first a) 1 rest
parameter-marked number (Parameter.ScalarParameter lines t w) rest = refl
parameter-marked number (Parameter.IndexParameter lines k meant w) rest = refl
parameter-marked number (Parameter.ViewParameter lines k meant t w) rest = refl
parameter-marked number (Parameter.ConstParameter line lines k meant t w) rest = refl

pub parameter-length : (number : ℕ) (a : Parameter) (r : List Token) (rest : Marks) → length r ≡ length rest → length (parameter_in_front a r) ≡ length (parameter_marks number a rest)
parameter-length number (Parameter.ScalarParameter lines t w) r rest same = omega arith
parameter-length number (Parameter.IndexParameter lines k meant w) r rest same = omega arith
parameter-length number (Parameter.ViewParameter lines k meant t w) r rest same = omega arith
parameter-length number (Parameter.ConstParameter line lines k meant t w) r rest same = omega arith

pub parameters-length : (number : ℕ) (l : List (Parameter × ℕ)) (r : List Token) (rest : Marks) → length r ≡ length rest
    → length (with_commas parameter_in_front l r) ≡ length (parameters_marks number l rest)
parameters-length number [] r rest same = same
parameters-length number (a ∷ []) r rest same = parameter-length number a.0 r rest same
parameters-length number (a ∷ b ∷ l) r rest same =
    parameter-length number a.0 (sign_at sign.Comma a.1 ∷ with_commas parameter_in_front (b ∷ l) r) (mark 1 ∷ parameters_marks (suc number) (b ∷ l) rest)
    (omega (arith, parameters-length (suc number) (b ∷ l) r rest same))

pub definition-length : (number before : ℕ) (d : Definition) (r : List Token) (rest : Marks) → length r ≡ length rest → length (definition_in_front d r) ≡ length (definition_marks number before d rest)
definition-length number before d r rest same =
    omega (
      arith,
      parameters-length 1 d.params (sign_at sign.CloseParen (d.at 3) ∷ block_in_front d.body r) (mark 1 ∷ block_marks d.body 0 before rest)
          (omega (arith, block-length d.body 0 before r rest same)),
    )

pub definitions-length : (number before : ℕ) (l : Spelling) → length (tokens_in l) ≡ length (definitions_marks number before l)
definitions-length number before [] = refl
definitions-length number before (d ∷ l) =
    definition-length number before d (tokens_in l) (definitions_marks (suc number) (before + block_instances d.body) l) (definitions-length (suc number) (before + block_instances d.body) l)
