-- What a spelling of a program has at each of its tokens: how many parts are open there, and what is counted there.
--
-- The walks go as those that set tokens in front of others: each gives one mark for each token, in front of the marks of
-- what follows. `depth` is how many parts are open round what is walked over. A part is open from its first token to its
-- last one.
use Rattle.std.specs.Prelude.{ℕ, zero, suc, ◌+◌, List, [], ◌∷◌, length, Option, Some, None}
use Rattle.sk_grammar.specs.ExpressionSpelling.{Expression, Arguments, with_commas, in_sequence}
use Rattle.sk_grammar.specs.Grammar.{Parameter, Definition, Spelling}
use Rattle.sk_grammar.specs.Limits.{nodes_in, nodes_of, written_instances, block_instances}
use Rattle.sk_grammar.specs.StatementSpelling.{Target, Assignment, Simple, Printed, Numbers, Written, Branch, Otherwise, Block, Statements}
use Rattle.sk_refusals.specs.declared.refusal.Limited.{Limited}
use Rattle.sk_refusals.specs.declared.refusal.Limited.TheVariants.{Functions, Instances, Parameters, Nodes}

-- one of a kind that is counted, with its number among those of its kind, from 1
pub record Counted : Type 0 where
  pub what : Limited
  pub number : ℕ

-- what there is at a token
pub record Mark : Type 0 where
  -- how many parts are open
  pub depth : ℕ
  pub counted : Option Counted

abbrev pub Marks : Type 0
Marks = List Mark

-- a token at which nothing is counted
abbrev pub mark : (depth : ℕ) → Mark
mark depth = record { depth = depth; counted = None }

abbrev pub counting : (depth : ℕ) → Limited → (number : ℕ) → Mark
counting depth what number = record { depth = depth; counted = Some (record { what = what; number = number }) }

abbrev pub node : (depth number : ℕ) → Mark
node depth = counting depth Nodes

-- so many tokens at which nothing is counted
abbrev pub marks : (count depth : ℕ) → Marks → Marks
marks zero depth rest = rest
marks (suc count) depth rest = mark depth ∷ marks count depth rest

-- ---- expressions; `before` is how many nodes stand before this part in the expression that is part of no other

abbrev mutual
  pub expression_marks : Expression → (depth before : ℕ) → Marks → Marks
  expression_marks (Expression.Number line ty value) depth before rest = node depth (suc before) ∷ rest
  expression_marks (Expression.Name line name) depth before rest = node depth (suc before) ∷ rest
  expression_marks (Expression.Field at name field) depth before rest = node depth (suc before) ∷ marks 2 depth rest
  expression_marks (Expression.Method at name method) depth before rest = node depth (suc before) ∷ marks 2 depth (marks 2 (suc depth) rest)
  expression_marks (Expression.Alone at name) depth before rest = node depth (suc before) ∷ marks 2 (suc depth) rest
  expression_marks (Expression.Apply at name arguments) depth before rest =
      node depth (suc before) ∷ mark (suc depth) ∷ arguments_marks arguments (suc depth) (suc before) (mark (suc depth) ∷ rest)
  expression_marks (Expression.Index at name place) depth before rest =
      node depth (suc before) ∷ mark (suc depth) ∷ expression_marks place (suc depth) (suc before) (mark (suc depth) ∷ rest)
  expression_marks (Expression.Paren at inner) depth before rest =
      mark (suc depth) ∷ expression_marks inner (suc depth) before (mark (suc depth) ∷ rest)
  expression_marks (Expression.Prefix line s op operand) depth before rest =
      node (suc depth) (suc before) ∷ expression_marks operand (suc depth) (suc before) rest
  expression_marks (Expression.Convert at ty operand) depth before rest =
      node (suc depth) (suc before) ∷ marks 2 (suc depth) (expression_marks operand (suc depth) (suc before) rest)
  expression_marks (Expression.Join line s joint left right) depth before rest =
      expression_marks left depth before (node depth (suc (before + nodes_in left))
      ∷ expression_marks right depth (suc (before + nodes_in left)) rest)
  expression_marks (Expression.Choose at test one other) depth before rest =
      expression_marks test depth before (node depth (suc (before + nodes_in test))
      ∷ expression_marks one depth (suc (before + nodes_in test)) (mark depth
      ∷ expression_marks other (suc depth) (suc (before + nodes_in test) + nodes_in one) rest))

  pub arguments_marks : Arguments → (depth before : ℕ) → Marks → Marks
  arguments_marks (Arguments.Last argument) depth before rest = expression_marks argument depth before rest
  arguments_marks (Arguments.More argument line arguments) depth before rest =
      expression_marks argument depth before (mark depth ∷ arguments_marks arguments depth (before + nodes_in argument) rest)

-- an expression that is part of no other
abbrev pub own_marks : Expression → (depth : ℕ) → Marks → Marks
own_marks value depth = expression_marks value depth 0

-- each of these is part of no other
abbrev pub each_own_marks : Arguments → (depth : ℕ) → Marks → Marks
each_own_marks (Arguments.Last argument) depth rest = own_marks argument depth rest
each_own_marks (Arguments.More argument line arguments) depth rest = own_marks argument depth (mark depth ∷ each_own_marks arguments depth rest)

-- arguments between parentheses
abbrev pub between_marks : Arguments → (depth : ℕ) → Marks → Marks
between_marks arguments depth rest = mark (suc depth) ∷ each_own_marks arguments (suc depth) (mark (suc depth) ∷ rest)

-- ---- declarations, assignments and printed items

abbrev pub target_marks : Target → (depth : ℕ) → Marks → Marks
target_marks (Target.Variable line name) depth rest = mark depth ∷ rest
target_marks (Target.Element at name places) depth rest = mark depth ∷ between_marks places depth rest
target_marks (Target.Bracketed at name place) depth rest =
    mark depth ∷ mark (suc depth) ∷ own_marks place (suc depth) (mark (suc depth) ∷ rest)

abbrev pub assignment_marks : Assignment → (depth : ℕ) → Marks → Marks
assignment_marks (Assignment.Assign target line s how value) depth rest = target_marks target depth (mark depth ∷ own_marks value depth rest)
assignment_marks (Assignment.StepAfter target line s op) depth rest = target_marks target depth (mark depth ∷ rest)
assignment_marks (Assignment.StepBefore line s op target) depth rest = mark depth ∷ target_marks target depth rest

abbrev pub simple_marks : Simple → (depth : ℕ) → Marks → Marks
simple_marks (Simple.Declare at ty name value) depth rest = marks 3 depth (own_marks value depth rest)
simple_marks (Simple.Assigning assignment) depth rest = assignment_marks assignment depth rest

abbrev pub printed_marks : Printed → (depth : ℕ) → Marks → Marks
printed_marks (Printed.PrintedText line text) depth rest = mark depth ∷ rest
printed_marks (Printed.PrintedEnd at) depth rest = marks 3 depth rest
printed_marks (Printed.PrintedValue value) depth rest = own_marks value depth rest

-- an item with the "<<" before it
abbrev pub shifted_marks : (depth : ℕ) → (ℕ × Printed) → Marks → Marks
shifted_marks depth printed rest = mark depth ∷ printed_marks printed.1 depth rest

-- parts one after another
abbrev pub sequence_marks : {A : Type 0} → (A → Marks → Marks) → List A → Marks → Marks
sequence_marks in_front [] rest = rest
sequence_marks in_front (part ∷ parts) rest = in_front part (sequence_marks in_front parts rest)

-- single tokens with commas between
abbrev pub listed_marks : {A : Type 0} → List A → (depth : ℕ) → Marks → Marks
listed_marks [] depth rest = rest
listed_marks (part ∷ []) depth rest = mark depth ∷ rest
listed_marks (part ∷ next ∷ parts) depth rest = marks 2 depth (listed_marks (next ∷ parts) depth rest)

abbrev pub numbers_marks : Numbers → (depth : ℕ) → Marks → Marks
numbers_marks Numbers.NoNumbers depth rest = rest
numbers_marks (Numbers.Between at numbers) depth rest = mark depth ∷ listed_marks numbers depth (mark depth ∷ rest)

-- ---- statements; `before` is how many instances stand before in the text

abbrev mutual
  pub written_marks : Written → (depth before : ℕ) → Marks → Marks
  written_marks (Written.Simply simple line) depth before rest = simple_marks simple depth (mark depth ∷ rest)
  written_marks (Written.Make at kind sizes ty name arguments) depth before rest =
      marks 7 depth (between_marks arguments depth (mark depth ∷ rest))
  written_marks (Written.Take at kind sizes ty name input) depth before rest = marks 9 depth (marks 3 (suc depth) (mark depth ∷ rest))
  written_marks (Written.Instantiate at name kind skeleton numbers functions) depth before rest =
      counting depth Instances (suc before) ∷ marks 5 depth (numbers_marks numbers depth (mark (suc depth)
      ∷ listed_marks functions (suc depth) (mark (suc depth) ∷ mark depth ∷ rest)))
  written_marks (Written.SetValue at name setting sets value) depth before rest =
      marks 3 depth (mark (suc depth) ∷ own_marks value (suc depth) (mark (suc depth) ∷ mark depth ∷ rest))
  written_marks (Written.SetOverlap at name arguments) depth before rest = marks 3 depth (between_marks arguments depth (mark depth ∷ rest))
  written_marks (Written.SetMode at name setting family mode sets) depth before rest = marks 3 depth (marks 7 (suc depth) (mark depth ∷ rest))
  written_marks (Written.Call at name arguments) depth before rest = mark depth ∷ between_marks arguments depth (mark depth ∷ rest)
  written_marks (Written.Print at items) depth before rest = marks 3 depth (sequence_marks (shifted_marks depth) items (mark depth ∷ rest))
  written_marks (Written.Return at value) depth before rest = mark depth ∷ own_marks value depth (mark depth ∷ rest)
  written_marks (Written.If line branch) depth before rest = mark depth ∷ branch_marks branch depth before rest
  written_marks (Written.For at first test step body) depth before rest =
      mark depth ∷ mark (suc depth) ∷ simple_marks first (suc depth) (mark (suc depth)
      ∷ own_marks test (suc depth) (mark (suc depth)
      ∷ assignment_marks step (suc depth) (mark (suc depth) ∷ block_marks body depth before rest)))

  pub branch_marks : Branch → (depth before : ℕ) → Marks → Marks
  branch_marks (Branch.Test at test then otherwise) depth before rest =
      mark (suc depth) ∷ own_marks test (suc depth) (mark (suc depth)
      ∷ block_marks then depth before (otherwise_marks otherwise depth (before + block_instances then) rest))

  -- an `else` followed by `if` is open from that `if` on
  pub otherwise_marks : Otherwise → (depth before : ℕ) → Marks → Marks
  otherwise_marks Otherwise.Nothing depth before rest = rest
  otherwise_marks (Otherwise.Else line block) depth before rest = mark depth ∷ block_marks block depth before rest
  otherwise_marks (Otherwise.ElseIf at branch) depth before rest = mark depth ∷ mark (suc depth) ∷ branch_marks branch (suc depth) before rest

  pub block_marks : Block → (depth before : ℕ) → Marks → Marks
  block_marks (Block.Braces at statements) depth before rest =
      mark (suc depth) ∷ statements_marks statements (suc depth) before (mark (suc depth) ∷ rest)

  pub statements_marks : Statements → (depth before : ℕ) → Marks → Marks
  statements_marks Statements.Done depth before rest = rest
  statements_marks (Statements.Then statement statements) depth before rest =
      written_marks statement depth before (statements_marks statements depth (before + written_instances statement) rest)

-- ---- functions and programs

-- the parameter that has a number, and the comma behind it, stand between parentheses; a parameter counts at its first token
abbrev pub parameter_marks : (number : ℕ) → Parameter → Marks → Marks
parameter_marks number (Parameter.ScalarParameter at ty name) rest = counting 1 Parameters number ∷ marks 1 1 rest
parameter_marks number (Parameter.IndexParameter at kind meant name) rest = counting 1 Parameters number ∷ marks 3 1 rest
parameter_marks number (Parameter.ViewParameter at kind meant ty name) rest = counting 1 Parameters number ∷ marks 6 1 rest
parameter_marks number (Parameter.ConstParameter line at kind meant ty name) rest = counting 1 Parameters number ∷ marks 7 1 rest

abbrev pub parameters_marks : (number : ℕ) → List (Parameter × ℕ) → Marks → Marks
parameters_marks number [] rest = rest
parameters_marks number (written ∷ []) rest = parameter_marks number written.0 rest
parameters_marks number (written ∷ next ∷ more) rest =
    parameter_marks number written.0 (mark 1 ∷ parameters_marks (suc number) (next ∷ more) rest)

-- the function that has a number, with so many instances before it
abbrev pub definition_marks : (number before : ℕ) → Definition → Marks → Marks
definition_marks number before d rest =
    counting 0 Functions number ∷ mark 0 ∷ mark 1 ∷ parameters_marks 1 d.params (mark 1 ∷ block_marks d.body 0 before rest)

abbrev pub definitions_marks : (number before : ℕ) → Spelling → Marks
definitions_marks number before [] = []
definitions_marks number before (definition ∷ definitions) =
    definition_marks number before definition (definitions_marks (suc number) (before + block_instances definition.body) definitions)

-- the marks of a whole program, one for each of its tokens
abbrev pub marks_in : Spelling → Marks
marks_in = definitions_marks 1 0
