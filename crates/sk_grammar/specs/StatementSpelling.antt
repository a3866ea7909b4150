-- How statements are written down. A short form of an assignment has the tree of the long one.
use Rattle.std.specs.Prelude.{◌≡◌, ℕ, ◌≤◌, ◌<◌, List, [], ◌∷◌, length, map, ℤ, pos, Some, codes}
use Rattle.sk_base.specs.declared.number.Op.{Op}
use Rattle.sk_base.specs.declared.number.Ty.TheVariants.{Int}
use Rattle.sk_base.specs.declared.number.Ty.{Ty}
use Rattle.sk_grammar.specs.ExpressionSpelling.{word, sign_at, number, string, typed, TokenLines, IsName, with_commas, in_sequence, each, Expression, Arguments, in_front, arguments_in_front, tree_in, trees_in, level_in, IsLawful, AreLawful}
use Rattle.sk_grammar.specs.Signs.{sum_level, Assigns, Plainly, Joining, assigns_of, step_of, meant_by, container_words, skeleton_words, value_words, Family, mode_words}
use Rattle.sk_tokens.specs.declared.token.Sign.TheVariants as sign
use Rattle.sk_tokens.specs.declared.token.Sign.{Sign}
use Rattle.sk_tokens.specs.declared.token.Token.{Token}
use Rattle.sk_tree.specs.declared.tree.Expr.TheVariants as tree
use Rattle.sk_tree.specs.declared.tree.Expr.{Expr}
use Rattle.sk_tree.specs.declared.tree.Item.TheVariants as item
use Rattle.sk_tree.specs.declared.tree.Item.{Item}
use Rattle.sk_tree.specs.declared.tree.Setting.TheVariants.{Overlap}
use Rattle.sk_tree.specs.declared.tree.Setting.{Setting}
use Rattle.sk_tree.specs.declared.tree.Skeleton.{Skeleton}
use Rattle.sk_tree.specs.declared.tree.Statement.{Statement}
use Rattle.sk_tree.specs.declared.tree.What.TheVariants as what
use Rattle.sk_tree.specs.declared.tree.What.{What}

-- ---- declarations and assignments

pub data Target : Type 0 where
  -- NAME
  Variable : (line : ℕ) → (name : List ℕ) → Target
  -- NAME "(" args ")"
  Element : (at : TokenLines) → (name : List ℕ) → Arguments → Target
  -- NAME "[" expr "]"
  Bracketed : (at : TokenLines) → (name : List ℕ) → Expression → Target

pub data Assignment : Type 0 where
  -- target aop expr
  Assign : Target → (line : ℕ) → Sign → Assigns → Expression → Assignment
  -- target "++" or "--"
  StepAfter : Target → (line : ℕ) → Sign → Op → Assignment
  -- "++" or "--" and target
  StepBefore : (line : ℕ) → Sign → Op → Target → Assignment

-- what a `for` may begin with
pub data Simple : Type 0 where
  -- decl: type NAME "=" expr
  Declare : (at : TokenLines) → Ty → (name : List ℕ) → Expression → Simple
  -- assign
  Assigning : Assignment → Simple

abbrev pub target_in_front : Target → List Token → List Token
target_in_front (Variable line name) rest = word name line ∷ rest
target_in_front (Element at name places) rest =
    word name (at 0) ∷ sign_at sign.OpenParen (at 1) ∷ arguments_in_front places (sign_at sign.CloseParen (at 2) ∷ rest)
target_in_front (Bracketed at name place) rest =
    word name (at 0) ∷ sign_at sign.OpenBracket (at 1) ∷ in_front place (sign_at sign.CloseBracket (at 2) ∷ rest)

abbrev pub assignment_in_front : Assignment → List Token → List Token
assignment_in_front (Assign target line s how value) rest = target_in_front target (sign_at s line ∷ in_front value rest)
assignment_in_front (StepAfter target line s op) rest = target_in_front target (sign_at s line ∷ rest)
assignment_in_front (StepBefore line s op target) rest = sign_at s line ∷ target_in_front target rest

abbrev pub simple_in_front : Simple → List Token → List Token
simple_in_front (Declare at ty name value) rest = typed ty (at 0) ∷ word name (at 1) ∷ sign_at sign.Eq (at 2) ∷ in_front value rest
simple_in_front (Assigning assignment) rest = assignment_in_front assignment rest

-- the value that a target has before
abbrev pub old_value : Target → Expr
old_value (Variable line name) = tree.Name name
old_value (Element at name places) = tree.Apply name (trees_in places)
old_value (Bracketed at name place) = tree.Apply name (tree_in place ∷ [])

abbrev pub new_value : Assigns → (old value : Expr) → Expr
new_value Plainly old value = value
new_value (Joining op) old value = tree.Binary op old value

abbrev pub assigned : Target → Expr → What
assigned (Variable line name) value = what.Assign name value
assigned (Element at name places) value = what.Poke name (trees_in places) value
assigned (Bracketed at name place) value = what.Poke name (tree_in place ∷ []) value

abbrev pub one : Expr
one = tree.Number Int (pos 1)

abbrev pub assignment_tree : Assignment → What
assignment_tree (Assign target line s how value) = assigned target (new_value how (old_value target) (tree_in value))
assignment_tree (StepAfter target line s op) = assigned target (tree.Binary op (old_value target) one)
assignment_tree (StepBefore line s op target) = assigned target (tree.Binary op (old_value target) one)

abbrev pub simple_tree : Simple → What
simple_tree (Declare at ty name value) = what.Declare ty name (tree_in value)
simple_tree (Assigning assignment) = assignment_tree assignment

abbrev pub IsLawfulTarget : Target → Type 0
IsLawfulTarget (Variable line name) = IsName name
IsLawfulTarget (Element at name places) = IsName name × AreLawful places
IsLawfulTarget (Bracketed at name place) = IsName name × IsLawful place

abbrev pub IsLawfulAssignment : Assignment → Type 0
IsLawfulAssignment (Assign target line s how value) = IsLawfulTarget target × (assigns_of s ≡ Some how) × IsLawful value
IsLawfulAssignment (StepAfter target line s op) = IsLawfulTarget target × (step_of s ≡ Some op)
IsLawfulAssignment (StepBefore line s op target) = (step_of s ≡ Some op) × IsLawfulTarget target

abbrev pub IsLawfulSimple : Simple → Type 0
IsLawfulSimple (Declare at ty name value) = IsName name × IsLawful value
IsLawfulSimple (Assigning assignment) = IsLawfulAssignment assignment

-- ---- printed items

-- item: STRING, "std" "::" "endl", or an expression of the level of sums
pub data Printed : Type 0 where
  PrintedText : (line : ℕ) → List ℕ → Printed
  PrintedEnd : (at : TokenLines) → Printed
  PrintedValue : Expression → Printed

abbrev pub printed_in_front : Printed → List Token → List Token
printed_in_front (PrintedText line text) rest = string text line ∷ rest
printed_in_front (PrintedEnd at) rest = word (codes "std") (at 0) ∷ sign_at sign.Path (at 1) ∷ word (codes "endl") (at 2) ∷ rest
printed_in_front (PrintedValue value) rest = in_front value rest

-- an item with the line of the "<<" before it
abbrev pub shifted_in_front : (ℕ × Printed) → List Token → List Token
shifted_in_front printed rest = sign_at sign.Shl printed.0 ∷ printed_in_front printed.1 rest

abbrev pub printed_tree : Printed → Item
printed_tree (PrintedText line text) = item.Text text
printed_tree (PrintedEnd at) = item.End
printed_tree (PrintedValue value) = item.Value (tree_in value)

abbrev pub IsLawfulPrinted : Printed → Type 0
IsLawfulPrinted (PrintedText line text) = Unit {0}
IsLawfulPrinted (PrintedEnd at) = Unit {0}
IsLawfulPrinted (PrintedValue value) = (sum_level ≤ level_in value) × IsLawful value

-- ---- statements

abbrev pub a_number : (ℕ × Ty × ℤ) → List Token → List Token
a_number written rest = number written.1 written.2 written.0 ∷ rest

abbrev pub a_name : (ℕ × List ℕ) → List Token → List Token
a_name written rest = word written.1 written.0 ∷ rest

-- [ "<" NUMBER { "," NUMBER } ">" ]
pub data Numbers : Type 0 where
  NoNumbers : Numbers
  Between : (at : TokenLines) → List ((ℕ × Ty × ℤ) × ℕ) → Numbers

abbrev pub numbers_in_front : Numbers → List Token → List Token
numbers_in_front NoNumbers rest = rest
numbers_in_front (Between at numbers) rest = sign_at sign.Lt (at 0) ∷ with_commas a_number numbers (sign_at sign.Gt (at 1) ∷ rest)

abbrev pub numbers_tree : Numbers → List ℤ
numbers_tree NoNumbers = []
numbers_tree (Between at numbers) = map (λ written. written.0.2) numbers

abbrev pub AreLawfulNumbers : Numbers → Type 0
AreLawfulNumbers NoNumbers = Unit {0}
AreLawfulNumbers (Between at numbers) = 0 < length numbers

mutual
  pub data Written : Type 0 where
    -- decl ";" | assign ";", with the line of the ";"
    Simply : Simple → (line : ℕ) → Written
    -- "skepu" "::" KIND "<" type ">" NAME "(" args ")" ";"
    Make : (at : TokenLines) → (kind : List ℕ) → (sizes : ℕ) → Ty → (name : List ℕ) → Arguments → Written
    -- "skepu" "::" KIND "<" type ">" NAME "=" "skepu_input" "(" STRING ")" ";"
    Take : (at : TokenLines) → (kind : List ℕ) → (sizes : ℕ) → Ty → (name input : List ℕ) → Written
    -- "auto" NAME "=" "skepu" "::" SKELETON numbers "(" NAME { "," NAME } ")" ";"
    Instantiate : (at : TokenLines) → (name kind : List ℕ) → Skeleton → Numbers → List ((ℕ × List ℕ) × ℕ) → Written
    -- NAME "." SETTING "(" expr ")" ";"
    SetValue : (at : TokenLines) → (name setting : List ℕ) → (Expr → Setting) → Expression → Written
    -- NAME "." "setOverlap" "(" args ")" ";"
    SetOverlap : (at : TokenLines) → (name : List ℕ) → Arguments → Written
    -- NAME "." SETTING "(" "skepu" "::" FAMILY "::" MODE ")" ";"
    SetMode : (at : TokenLines) → (name setting : List ℕ) → Family → (mode : List ℕ) → Setting → Written
    -- NAME "(" args ")" ";"
    Call : (at : TokenLines) → (name : List ℕ) → Arguments → Written
    -- "std" "::" "cout" "<<" item { "<<" item } ";"
    Print : (at : TokenLines) → List (ℕ × Printed) → Written
    -- "return" expr ";"
    Return : (at : TokenLines) → Expression → Written
    -- "if", whose line it has, and what follows it
    If : (line : ℕ) → Branch → Written
    -- "for" "(" simple ";" expr ";" assign ")" block
    For : (at : TokenLines) → Simple → Expression → Assignment → Block → Written

  -- what follows "if": "(" expr ")" block and what stands otherwise
  pub data Branch : Type 0 where
    Test : (at : TokenLines) → Expression → Block → Otherwise → Branch

  -- [ "else" ( block | iff ) ]
  pub data Otherwise : Type 0 where
    Nothing : Otherwise
    Else : (line : ℕ) → Block → Otherwise
    ElseIf : (at : TokenLines) → Branch → Otherwise

  -- "{" { stmt } "}"
  pub data Block : Type 0 where
    Braces : (at : TokenLines) → Statements → Block

  pub data Statements : Type 0 where
    Done : Statements
    Then : Written → Statements → Statements

abbrev mutual
  pub written_in_front : Written → List Token → List Token
  written_in_front (Simply simple line) rest = simple_in_front simple (sign_at sign.Semi line ∷ rest)
  written_in_front (Make at kind sizes ty name arguments) rest =
      word (codes "skepu") (at 0) ∷ sign_at sign.Path (at 1) ∷ word kind (at 2) ∷ sign_at sign.Lt (at 3) ∷ typed ty (at 4)
      ∷ sign_at sign.Gt (at 5) ∷ word name (at 6) ∷ sign_at sign.OpenParen (at 7)
      ∷ arguments_in_front arguments (sign_at sign.CloseParen (at 8) ∷ sign_at sign.Semi (at 9) ∷ rest)
  written_in_front (Take at kind sizes ty name input) rest =
      word (codes "skepu") (at 0) ∷ sign_at sign.Path (at 1) ∷ word kind (at 2) ∷ sign_at sign.Lt (at 3) ∷ typed ty (at 4)
      ∷ sign_at sign.Gt (at 5) ∷ word name (at 6) ∷ sign_at sign.Eq (at 7) ∷ word (codes "skepu_input") (at 8)
      ∷ sign_at sign.OpenParen (at 9) ∷ string input (at 10) ∷ sign_at sign.CloseParen (at 11) ∷ sign_at sign.Semi (at 12) ∷ rest
  written_in_front (Instantiate at name kind skeleton numbers functions) rest =
      word (codes "auto") (at 0) ∷ word name (at 1) ∷ sign_at sign.Eq (at 2) ∷ word (codes "skepu") (at 3)
      ∷ sign_at sign.Path (at 4) ∷ word kind (at 5)
      ∷ numbers_in_front numbers (sign_at sign.OpenParen (at 6)
      ∷ with_commas a_name functions (sign_at sign.CloseParen (at 7) ∷ sign_at sign.Semi (at 8) ∷ rest))
  written_in_front (SetValue at name setting sets value) rest =
      word name (at 0) ∷ sign_at sign.Dot (at 1) ∷ word setting (at 2) ∷ sign_at sign.OpenParen (at 3)
      ∷ in_front value (sign_at sign.CloseParen (at 4) ∷ sign_at sign.Semi (at 5) ∷ rest)
  written_in_front (SetOverlap at name arguments) rest =
      word name (at 0) ∷ sign_at sign.Dot (at 1) ∷ word (codes "setOverlap") (at 2) ∷ sign_at sign.OpenParen (at 3)
      ∷ arguments_in_front arguments (sign_at sign.CloseParen (at 4) ∷ sign_at sign.Semi (at 5) ∷ rest)
  written_in_front (SetMode at name setting family mode sets) rest =
      word name (at 0) ∷ sign_at sign.Dot (at 1) ∷ word setting (at 2) ∷ sign_at sign.OpenParen (at 3)
      ∷ word (codes "skepu") (at 4) ∷ sign_at sign.Path (at 5) ∷ word family.name (at 6) ∷ sign_at sign.Path (at 7)
      ∷ word mode (at 8) ∷ sign_at sign.CloseParen (at 9) ∷ sign_at sign.Semi (at 10) ∷ rest
  written_in_front (Call at name arguments) rest =
      word name (at 0) ∷ sign_at sign.OpenParen (at 1)
      ∷ arguments_in_front arguments (sign_at sign.CloseParen (at 2) ∷ sign_at sign.Semi (at 3) ∷ rest)
  written_in_front (Print at items) rest =
      word (codes "std") (at 0) ∷ sign_at sign.Path (at 1) ∷ word (codes "cout") (at 2)
      ∷ in_sequence shifted_in_front items (sign_at sign.Semi (at 3) ∷ rest)
  written_in_front (Return at value) rest = word (codes "return") (at 0) ∷ in_front value (sign_at sign.Semi (at 1) ∷ rest)
  written_in_front (If line branch) rest = word (codes "if") line ∷ branch_in_front branch rest
  written_in_front (For at first test step body) rest =
      word (codes "for") (at 0) ∷ sign_at sign.OpenParen (at 1) ∷ simple_in_front first (sign_at sign.Semi (at 2)
      ∷ in_front test (sign_at sign.Semi (at 3) ∷ assignment_in_front step (sign_at sign.CloseParen (at 4) ∷ block_in_front body rest)))

  pub branch_in_front : Branch → List Token → List Token
  branch_in_front (Test at test then otherwise) rest =
      sign_at sign.OpenParen (at 0) ∷ in_front test (sign_at sign.CloseParen (at 1) ∷ block_in_front then (otherwise_in_front otherwise rest))

  pub otherwise_in_front : Otherwise → List Token → List Token
  otherwise_in_front Nothing rest = rest
  otherwise_in_front (Else line block) rest = word (codes "else") line ∷ block_in_front block rest
  otherwise_in_front (ElseIf at branch) rest = word (codes "else") (at 0) ∷ word (codes "if") (at 1) ∷ branch_in_front branch rest

  pub block_in_front : Block → List Token → List Token
  block_in_front (Braces at statements) rest = sign_at sign.OpenBrace (at 0) ∷ statements_in_front statements (sign_at sign.CloseBrace (at 1) ∷ rest)

  pub statements_in_front : Statements → List Token → List Token
  statements_in_front Done rest = rest
  statements_in_front (Then statement statements) rest = written_in_front statement (statements_in_front statements rest)

-- A statement has the line of its first token; the first statement and the step of a `for` have that of its keyword. In
-- place of `else if` there is an else block with that statement alone.
abbrev pub at_line : ℕ → What → Statement
at_line line does = record { line = line; what = does }

abbrev pub target_line : Target → ℕ
target_line (Variable line name) = line
target_line (Element at name places) = at 0
target_line (Bracketed at name place) = at 0

abbrev pub simple_line : Simple → ℕ
simple_line (Declare at ty name value) = at 0
simple_line (Assigning (Assign target line s how value)) = target_line target
simple_line (Assigning (StepAfter target line s op)) = target_line target
simple_line (Assigning (StepBefore line s op target)) = line

abbrev mutual
  pub written_tree : Written → Statement
  written_tree (Simply simple line) = at_line (simple_line simple) (simple_tree simple)
  written_tree (Make at kind sizes ty name arguments) = at_line (at 0) (what.Make sizes ty name (trees_in arguments))
  written_tree (Take at kind sizes ty name input) = at_line (at 0) (what.Take sizes ty name input)
  written_tree (Instantiate at name kind skeleton numbers functions) = at_line (at 0) (what.Instance (record {
    name = name;
    skeleton = skeleton;
    numbers = numbers_tree numbers;
    functions = map (λ written. written.0.1) functions;
  }))
  written_tree (SetValue at name setting sets value) = at_line (at 0) (what.Set name (sets (tree_in value)))
  written_tree (SetOverlap at name arguments) = at_line (at 0) (what.Set name (Overlap (trees_in arguments)))
  written_tree (SetMode at name setting family mode sets) = at_line (at 0) (what.Set name sets)
  written_tree (Call at name arguments) = at_line (at 0) (what.Call name (trees_in arguments))
  written_tree (Print at items) = at_line (at 0) (what.Print (map (λ printed. printed_tree printed.1) items))
  written_tree (Return at value) = at_line (at 0) (what.Return (tree_in value))
  written_tree (If line branch) = at_line line (branch_tree branch)
  written_tree (For at first test step body) =
      at_line (at 0) (what.For (at_line (at 0) (simple_tree first)) (tree_in test) (at_line (at 0) (assignment_tree step)) (block_tree body))

  pub branch_tree : Branch → What
  branch_tree (Test at test then otherwise) = what.If (tree_in test) (block_tree then) (otherwise_tree otherwise)

  pub otherwise_tree : Otherwise → List Statement
  otherwise_tree Nothing = []
  otherwise_tree (Else line block) = block_tree block
  otherwise_tree (ElseIf at branch) = at_line (at 1) (branch_tree branch) ∷ []

  pub block_tree : Block → List Statement
  block_tree (Braces at statements) = statements_tree statements

  pub statements_tree : Statements → List Statement
  statements_tree Done = []
  statements_tree (Then statement statements) = written_tree statement ∷ statements_tree statements

abbrev mutual
  pub IsLawfulStatement : Written → Type 0
  IsLawfulStatement (Simply simple line) = IsLawfulSimple simple
  IsLawfulStatement (Make at kind sizes ty name arguments) = (meant_by container_words kind ≡ Some sizes) × IsName name × AreLawful arguments
  IsLawfulStatement (Take at kind sizes ty name input) = (meant_by container_words kind ≡ Some sizes) × IsName name
  IsLawfulStatement (Instantiate at name kind skeleton numbers functions) =
      IsName name × (meant_by skeleton_words kind ≡ Some skeleton) × AreLawfulNumbers numbers × (0 < length functions)
      × each (λ written. IsName written.0.1) functions
  IsLawfulStatement (SetValue at name setting sets value) = IsName name × (meant_by value_words setting ≡ Some sets) × IsLawful value
  IsLawfulStatement (SetOverlap at name arguments) = IsName name × AreLawful arguments
  IsLawfulStatement (SetMode at name setting family mode sets) =
      IsName name × (meant_by mode_words setting ≡ Some family) × (meant_by family.modes mode ≡ Some sets)
  IsLawfulStatement (Call at name arguments) = IsName name × AreLawful arguments
  IsLawfulStatement (Print at items) = (0 < length items) × each (λ printed. IsLawfulPrinted printed.1) items
  IsLawfulStatement (Return at value) = IsLawful value
  IsLawfulStatement (If line branch) = IsLawfulBranch branch
  IsLawfulStatement (For at first test step body) = IsLawfulSimple first × IsLawful test × IsLawfulAssignment step × IsLawfulBlock body

  pub IsLawfulBranch : Branch → Type 0
  IsLawfulBranch (Test at test then otherwise) = IsLawful test × IsLawfulBlock then × IsLawfulOtherwise otherwise

  pub IsLawfulOtherwise : Otherwise → Type 0
  IsLawfulOtherwise Nothing = Unit {0}
  IsLawfulOtherwise (Else line block) = IsLawfulBlock block
  IsLawfulOtherwise (ElseIf at branch) = IsLawfulBranch branch

  pub IsLawfulBlock : Block → Type 0
  IsLawfulBlock (Braces at statements) = AreLawfulStatements statements

  pub AreLawfulStatements : Statements → Type 0
  AreLawfulStatements Done = Unit {0}
  AreLawfulStatements (Then statement statements) = IsLawfulStatement statement × AreLawfulStatements statements
