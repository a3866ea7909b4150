-- The limits of programs: how deep their parts nest, and how many functions, instances, parameters and nodes they have.
--
-- They are stated on spellings of whole programs. Each part of one stands for a stretch of tokens, and what is open at a
-- token is what stands round it: in `-a + b` the prefix is open at `-` and at `a`.
use Rattle.std.specs.Prelude.{◌≡◌, ℕ, zero, suc, ◌+◌, ◌≤◌, List, [], ◌∷◌, length, Ok}
use Rattle.sk_tokens.specs.Tokens.{tokens_of}
use Rattle.sk_tokens.specs.declared.token.Token.{Token}
use Rattle.sk_tree.specs.declared.tree.Program.{Program}
use Rattle.sk_grammar.specs.ExpressionSpelling.{Expression, Arguments, each}
use Rattle.sk_grammar.specs.Grammar.{Definition, Spelling, tokens_in, program_in, IsLawfulSpelling}
use Rattle.sk_grammar.specs.StatementSpelling.{Target, Assignment, Simple, Printed, Written, Branch, Otherwise, Block, Statements}

abbrev pub most_nesting : ℕ
most_nesting = 64

abbrev pub most_nodes : ℕ
most_nodes = 1024

abbrev pub most_parameters : ℕ
most_parameters = 64

abbrev pub most_instances : ℕ
most_instances = 1024

abbrev pub most_functions : ℕ
most_functions = 1024

-- ---- nesting: `left` is how many more may be opened

-- this, where one less may be opened; nothing, where none may be
abbrev pub Opened : (ℕ → Type 0) → (left : ℕ) → Type 0
Opened P zero = ⊥
Opened P (suc left) = P left

-- nothing is opened inside
abbrev pub Flat : (left : ℕ) → Type 0
Flat left = Unit {0}

-- What is opened in an expression: parentheses, square brackets, each prefix or conversion up to its operand's end, and
-- the part of `?:` after its `:`. A conversion's own parentheses open nothing.
abbrev mutual
  pub IsShallow : Expression → (left : ℕ) → Type 0
  IsShallow (Expression.Number line ty value) left = Unit {0}
  IsShallow (Expression.Name line name) left = Unit {0}
  IsShallow (Expression.Field at name field) left = Unit {0}
  IsShallow (Expression.Method at name method) left = Opened Flat left
  IsShallow (Expression.Alone at name) left = Opened Flat left
  IsShallow (Expression.Apply at name arguments) left = Opened (AreShallow arguments) left
  IsShallow (Expression.Index at name place) left = Opened (IsShallow place) left
  IsShallow (Expression.Paren at inner) left = Opened (IsShallow inner) left
  IsShallow (Expression.Prefix line s op operand) left = Opened (IsShallow operand) left
  IsShallow (Expression.Convert at ty operand) left = Opened (IsShallow operand) left
  IsShallow (Expression.Join line s joint one other) left = IsShallow one left × IsShallow other left
  IsShallow (Expression.Choose at test one other) left = IsShallow test left × IsShallow one left × Opened (IsShallow other) left

  pub AreShallow : Arguments → (left : ℕ) → Type 0
  AreShallow (Arguments.Last argument) left = IsShallow argument left
  AreShallow (Arguments.More argument line arguments) left = IsShallow argument left × AreShallow arguments left

-- ---- nodes: each number, each part that begins with a name, each prefix or conversion, each operator, and each `?`

abbrev mutual
  pub nodes_in : Expression → ℕ
  nodes_in (Expression.Number line ty value) = 1
  nodes_in (Expression.Name line name) = 1
  nodes_in (Expression.Field at name field) = 1
  nodes_in (Expression.Method at name method) = 1
  nodes_in (Expression.Alone at name) = 1
  nodes_in (Expression.Apply at name arguments) = 1 + nodes_of arguments
  nodes_in (Expression.Index at name place) = 1 + nodes_in place
  nodes_in (Expression.Paren at inner) = nodes_in inner
  nodes_in (Expression.Prefix line s op operand) = 1 + nodes_in operand
  nodes_in (Expression.Convert at ty operand) = 1 + nodes_in operand
  nodes_in (Expression.Join line s joint left right) = nodes_in left + 1 + nodes_in right
  nodes_in (Expression.Choose at test one other) = nodes_in test + 1 + nodes_in one + nodes_in other

  pub nodes_of : Arguments → ℕ
  nodes_of (Arguments.Last argument) = nodes_in argument
  nodes_of (Arguments.More argument line arguments) = nodes_in argument + nodes_of arguments

-- an expression that is part of no other
abbrev pub IsSmall : Expression → (left : ℕ) → Type 0
IsSmall value left = IsShallow value left × (nodes_in value ≤ most_nodes)

-- each of these is part of no other
abbrev pub AreSmall : Arguments → (left : ℕ) → Type 0
AreSmall (Arguments.Last argument) left = IsSmall argument left
AreSmall (Arguments.More argument line arguments) left = IsSmall argument left × AreSmall arguments left

-- ---- statements

-- the places of a target are expressions of their own
abbrev pub TargetFits : Target → (left : ℕ) → Type 0
TargetFits (Target.Variable line name) left = Unit {0}
TargetFits (Target.Element at name places) left = Opened (AreSmall places) left
TargetFits (Target.Bracketed at name place) left = Opened (IsSmall place) left

abbrev pub AssignmentFits : Assignment → (left : ℕ) → Type 0
AssignmentFits (Assignment.Assign target line s how value) left = TargetFits target left × IsSmall value left
AssignmentFits (Assignment.StepAfter target line s op) left = TargetFits target left
AssignmentFits (Assignment.StepBefore line s op target) left = TargetFits target left

abbrev pub SimpleFits : Simple → (left : ℕ) → Type 0
SimpleFits (Simple.Declare at ty name value) left = IsSmall value left
SimpleFits (Simple.Assigning assignment) left = AssignmentFits assignment left

abbrev pub PrintedFits : Printed → (left : ℕ) → Type 0
PrintedFits (Printed.PrintedText line text) left = Unit {0}
PrintedFits (Printed.PrintedEnd at) left = Unit {0}
PrintedFits (Printed.PrintedValue value) left = IsSmall value left

-- Blocks, parentheses, and an `else` followed by `if`, from that `if` on, are opened here.
abbrev mutual
  pub WrittenFits : Written → (left : ℕ) → Type 0
  WrittenFits (Written.Simply simple line) left = SimpleFits simple left
  WrittenFits (Written.Make at kind sizes ty name arguments) left = Opened (AreSmall arguments) left
  WrittenFits (Written.Take at kind sizes ty name input) left = Opened Flat left
  WrittenFits (Written.Instantiate at name kind skeleton counts functions) left = Opened Flat left
  WrittenFits (Written.SetValue at name setting sets value) left = Opened (IsSmall value) left
  WrittenFits (Written.SetOverlap at name arguments) left = Opened (AreSmall arguments) left
  WrittenFits (Written.SetMode at name setting family mode sets) left = Opened Flat left
  WrittenFits (Written.Call at name arguments) left = Opened (AreSmall arguments) left
  WrittenFits (Written.Print at items) left = each (λ printed. PrintedFits printed.1 left) items
  WrittenFits (Written.Return at value) left = IsSmall value left
  WrittenFits (Written.If line branch) left = BranchFits branch left
  WrittenFits (Written.For at first test step body) left =
      Opened (λ inside. SimpleFits first inside × IsSmall test inside × AssignmentFits step inside) left × BlockFits body left

  pub BranchFits : Branch → (left : ℕ) → Type 0
  BranchFits (Branch.Test at test then otherwise) left = Opened (IsSmall test) left × BlockFits then left × OtherwiseFits otherwise left

  pub OtherwiseFits : Otherwise → (left : ℕ) → Type 0
  OtherwiseFits Otherwise.Nothing left = Unit {0}
  OtherwiseFits (Otherwise.Else line block) left = BlockFits block left
  OtherwiseFits (Otherwise.ElseIf at branch) left = Opened (BranchFits branch) left

  pub BlockFits : Block → (left : ℕ) → Type 0
  BlockFits (Block.Braces at statements) left = Opened (StatementsFit statements) left

  pub StatementsFit : Statements → (left : ℕ) → Type 0
  StatementsFit Statements.Done left = Unit {0}
  StatementsFit (Statements.Then statement statements) left = WrittenFits statement left × StatementsFit statements left

-- ---- the counts of a program

abbrev mutual
  pub written_instances : Written → ℕ
  written_instances (Written.Instantiate at name kind skeleton counts functions) = 1
  written_instances (Written.If line branch) = branch_instances branch
  written_instances (Written.For at first test step body) = block_instances body
  written_instances other = 0

  pub branch_instances : Branch → ℕ
  branch_instances (Branch.Test at test then otherwise) = block_instances then + otherwise_instances otherwise

  pub otherwise_instances : Otherwise → ℕ
  otherwise_instances Otherwise.Nothing = 0
  otherwise_instances (Otherwise.Else line block) = block_instances block
  otherwise_instances (Otherwise.ElseIf at branch) = branch_instances branch

  pub block_instances : Block → ℕ
  block_instances (Block.Braces at statements) = instances_in statements

  pub instances_in : Statements → ℕ
  instances_in Statements.Done = 0
  instances_in (Statements.Then statement statements) = written_instances statement + instances_in statements

-- The parentheses round the parameters are one alone, which is always within the limit, so nothing is asked of them.
abbrev pub DefinitionFits : Definition → Type 0
DefinitionFits d = (length d.params ≤ most_parameters) × BlockFits d.body most_nesting

abbrev pub instances_of : Spelling → ℕ
instances_of [] = 0
instances_of (definition ∷ definitions) = block_instances definition.body + instances_of definitions

pub record KeepsLimits (spelling : Spelling) : Type 0 where
  pub functions : length spelling ≤ most_functions
  pub instances : instances_of spelling ≤ most_instances
  pub each_fits : each DefinitionFits spelling

-- these tokens read as this program, by a spelling that keeps the limits
pub record ReadsWithin (tokens : List Token) (program : Program) : Type 0 where
  pub spelling : Spelling
  pub lawful : IsLawfulSpelling spelling
  pub tokens_are : tokens_in spelling ≡ tokens
  pub program_is : program_in spelling ≡ program
  pub keeps : KeepsLimits spelling

-- a text has tokens that read as this program, by a spelling that keeps the limits
pub record IsFromTextWithin (program : Program) : Type 0 where
  pub text : List ℕ
  pub tokens : List Token
  pub lexed : tokens_of text ≡ Ok tokens
  pub reads : ReadsWithin tokens program
