-- A statement names shortly where the words and texts among its tokens are short.
use Rattle.std.proofs.Common.{◌≡◌, ◌∙◌, ℕ, ℤ, Bool, true, List, [], ◌∷◌, length, map, refl}
use Rattle.std.proofs.lemmas.Bool.{and_from}
use Rattle.std.specs.Prelude.{◌&&◌, nat_le}
use Rattle.std.specs.List.{list_all}
use Rattle.sk_base.specs.declared.number.Ty.{Ty}
use Rattle.sk_grammar.specs.ExpressionSpelling.{IsName, in_front, tree_in, trees_in, sign_at, with_commas, in_sequence}
use Rattle.sk_grammar.specs.StatementSpelling.{Target, Assignment, Simple, Printed, Written, Branch, Otherwise, Block, Statements, Numbers, target_in_front, assignment_in_front, simple_in_front, printed_in_front, shifted_in_front, numbers_in_front, a_number, a_name, written_in_front, branch_in_front, otherwise_in_front, block_in_front, statements_in_front, assigned, assignment_tree, simple_tree, simple_line, printed_tree, at_line, written_tree, branch_tree, otherwise_tree, block_tree, statements_tree, IsLawfulStatement, IsLawfulBranch, IsLawfulOtherwise, IsLawfulBlock, AreLawfulStatements}
use Rattle.sk_main_code.specs.Sound.{is_short_name, is_short_text, most_bytes}
use Rattle.sk_names.specs.Words.{is_name, is_word}
use Rattle.sk_plain.proofs.Truths.{and_left, and_right}
use Rattle.sk_tokens.specs.declared.token.Sign.TheVariants as sign
use Rattle.sk_tokens.specs.declared.token.Token.{Token}
use Rattle.sk_tree.specs.declared.tree.Expr.{Expr}
use Rattle.sk_tree.specs.declared.tree.Instance.{Instance}
use Rattle.sk_tree.specs.declared.tree.Item.{Item}
use Rattle.sk_tree.specs.declared.tree.Setting.{Setting}
use Rattle.sk_tree.specs.declared.tree.Statement.{Statement}
use Rattle.sk_tree.specs.declared.tree.What.{What, What-F, roll-What, map-What, fold-What}
use Rattle.sk_tree.specs.declared.tree.What.TheOpen as layer
use Rattle.sk_tree.specs.declared.tree.What.TheVariants as what
use Rattle.sk_vector_laws.proofs.Levels.{folds-level}
use Rattle.sk_vector_laws.proofs.WrittenExpressions.{behind_expression, behind_arguments, behind_commas}
use Rattle.sk_vector_laws.specs.Names.{AreShort, all_hold, item_short, names_shortly, names_step}

-- a word that is a name
pub short_name : (name : List ℕ) → IsName name → (is_word name && nat_le (length name) most_bytes) ≡ true → is_short_name name ≡ true
short_name name named short =
    and_from (is_word name && is_name name) (nat_le (length name) most_bytes)
    (and_from (is_word name) (is_name name) (and_left (is_word name) (nat_le (length name) most_bytes) short) named)
    (and_right (is_word name) (nat_le (length name) most_bytes) short)

-- ---- what each kind of statement names

abbrev names_what : What → Bool
names_what = fold-What Bool Bool names_step (λ statement. statement.what)

named : (line : ℕ) (level : What-F What Statement) → names_shortly (at_line line (roll-What level)) ≡ names_step (map-What What Statement Bool Bool names_what names_shortly level)
named line level = folds-level names_step (λ statement. statement.what) line level

named-Declare : (line : ℕ) (ty : Ty) (name : List ℕ) (expr : Expr) → names_shortly (at_line line (what.Declare ty name expr)) ≡ true
named-Declare line ty name expr = rw (← what.rolls-Declare ty name expr) (named line (layer.Declare ty name expr))

named-Assign : (line : ℕ) (name : List ℕ) (expr : Expr) → names_shortly (at_line line (what.Assign name expr)) ≡ true
named-Assign line name expr = rw (← what.rolls-Assign name expr) (named line (layer.Assign name expr))

named-Poke : (line : ℕ) (name : List ℕ) (places : List Expr) (expr : Expr) → names_shortly (at_line line (what.Poke name places expr)) ≡ true
named-Poke line name places expr = rw (← what.rolls-Poke name places expr) (named line (layer.Poke name places expr))

named-Make : (line dimension : ℕ) (ty : Ty) (name : List ℕ) (arguments : List Expr) → names_shortly (at_line line (what.Make dimension ty name arguments)) ≡ is_short_name name
named-Make line dimension ty name arguments = rw (← what.rolls-Make dimension ty name arguments) (named line (layer.Make dimension ty name arguments))

named-Take : (line dimension : ℕ) (ty : Ty) (name input : List ℕ) → names_shortly (at_line line (what.Take dimension ty name input)) ≡ (is_short_name name && is_short_text input)
named-Take line dimension ty name input = rw (← what.rolls-Take dimension ty name input) (named line (layer.Take dimension ty name input))

named-Instance : (line : ℕ) (instance : Instance) → names_shortly (at_line line (what.Instance instance)) ≡ is_short_name instance.name
named-Instance line instance = rw (← what.rolls-Instance instance) (named line (layer.Instance instance))

named-Set : (line : ℕ) (name : List ℕ) (setting : Setting) → names_shortly (at_line line (what.Set name setting)) ≡ true
named-Set line name setting = rw (← what.rolls-Set name setting) (named line (layer.Set name setting))

named-Call : (line : ℕ) (name : List ℕ) (arguments : List Expr) → names_shortly (at_line line (what.Call name arguments)) ≡ true
named-Call line name arguments = rw (← what.rolls-Call name arguments) (named line (layer.Call name arguments))

named-Print : (line : ℕ) (items : List Item) → names_shortly (at_line line (what.Print items)) ≡ list_all item_short items
named-Print line items = rw (← what.rolls-Print items) (named line (layer.Print items))

named-If : (line : ℕ) (test : Expr) (one other : List Statement)
    → names_shortly (at_line line (what.If test one other)) ≡ (all_hold (map names_shortly one) && all_hold (map names_shortly other))
named-If line test one other = rw (← what.rolls-If test one other) (named line (layer.If test one other))

named-For : (line : ℕ) (first : Statement) (test : Expr) (step : Statement) (body : List Statement)
    → names_shortly (at_line line (what.For first test step body)) ≡ (names_shortly first && names_shortly step && all_hold (map names_shortly body))
named-For line first test step body = rw (← what.rolls-For first test step body) (named line (layer.For first test step body))

named-Return : (line : ℕ) (expr : Expr) → names_shortly (at_line line (what.Return expr)) ≡ true
named-Return line expr = rw (← what.rolls-Return expr) (named line (layer.Return expr))

-- ---- declarations and assignments

behind_target : (target : Target) (r : List Token) → AreShort (target_in_front target r) → AreShort r
behind_target (Target.Variable line name) r h = h.1
behind_target (Target.Element at name places) r h = (behind_arguments places (sign_at sign.CloseParen (at 2) ∷ r) h.1.1).1
behind_target (Target.Bracketed at name place) r h = (behind_expression place (sign_at sign.CloseBracket (at 2) ∷ r) h.1.1).1

behind_assignment : (assignment : Assignment) (r : List Token) → AreShort (assignment_in_front assignment r) → AreShort r
behind_assignment (Assignment.Assign target l s how value) r h = behind_expression value r (behind_target target (sign_at s l ∷ in_front value r) h).1
behind_assignment (Assignment.StepAfter target l s op) r h = (behind_target target (sign_at s l ∷ r) h).1
behind_assignment (Assignment.StepBefore l s op target) r h = behind_target target r h.1

behind_simple : (simple : Simple) (r : List Token) → AreShort (simple_in_front simple r) → AreShort r
behind_simple (Simple.Declare at ty name value) r h = behind_expression value r h.1.1.1
behind_simple (Simple.Assigning assignment) r h = behind_assignment assignment r h

assigned_named : (target : Target) (value : Expr) (line : ℕ) → names_shortly (at_line line (assigned target value)) ≡ true
assigned_named (Target.Variable l name) value line = named-Assign line name value
assigned_named (Target.Element at name places) value line = named-Poke line name (trees_in places) value
assigned_named (Target.Bracketed at name place) value line = named-Poke line name (tree_in place ∷ []) value

assignment_named : (assignment : Assignment) (line : ℕ) → names_shortly (at_line line (assignment_tree assignment)) ≡ true
assignment_named (Assignment.Assign target l s how value) line = assigned_named target _ line
assignment_named (Assignment.StepAfter target l s op) line = assigned_named target _ line
assignment_named (Assignment.StepBefore l s op target) line = assigned_named target _ line

simple_named : (simple : Simple) (line : ℕ) → names_shortly (at_line line (simple_tree simple)) ≡ true
simple_named (Simple.Declare at ty name value) line = named-Declare line ty name (tree_in value)
simple_named (Simple.Assigning assignment) line = assignment_named assignment line

-- ---- the other statements

behind_number : (x : ℕ × Ty × ℤ) (r : List Token) → AreShort (a_number x r) → AreShort r
behind_number x r h = h.1

behind_name : (x : ℕ × List ℕ) (r : List Token) → AreShort (a_name x r) → AreShort r
behind_name x r h = h.1

behind_numbers : (numbers : Numbers) (r : List Token) → AreShort (numbers_in_front numbers r) → AreShort r
behind_numbers Numbers.NoNumbers r h = h
behind_numbers (Numbers.Between at numbers) r h = (behind_commas a_number behind_number numbers (sign_at sign.Gt (at 1) ∷ r) h.1).1

printed_short : (printed : Printed) (r : List Token) → AreShort (printed_in_front printed r) → (item_short (printed_tree printed) ≡ true) × AreShort r
printed_short (Printed.PrintedText line text) r h = (h.0, h.1)
printed_short (Printed.PrintedEnd at) r h = (refl, h.1.1.1)
printed_short (Printed.PrintedValue value) r h = (refl, behind_expression value r h)

items_short : (items : List (ℕ × Printed)) (r : List Token) → AreShort (in_sequence shifted_in_front items r)
    → (list_all item_short (map (λ printed. printed_tree printed.1) items) ≡ true) × AreShort r
items_short [] r h = (refl, h)
items_short (item ∷ items) r h =
    let a = printed_short item.1 (in_sequence shifted_in_front items r) h.1 in
    let b = items_short items r a.1 in
    (and_from (item_short (printed_tree item.1)) (list_all item_short (map (λ (printed : ℕ × Printed). printed_tree printed.1) items)) a.0 b.0, b.1)

three_hold : (a b c : Bool) → a ≡ true → b ≡ true → c ≡ true → (a && b && c) ≡ true
three_hold a b c e f g = and_from (a && b) c (and_from a b e f) g

mutual
  pub written_named : (w : Written) (r : List Token) → IsLawfulStatement w → AreShort (written_in_front w r) → (names_shortly (written_tree w) ≡ true) × AreShort r
  written_named (Written.Simply simple line) r lawful h =
      (simple_named simple (simple_line simple), (behind_simple simple (sign_at sign.Semi line ∷ r) h).1)
  written_named (Written.Make at kind sizes ty name arguments) r lawful h =
      let a = behind_arguments arguments (sign_at sign.CloseParen (at 8) ∷ sign_at sign.Semi (at 9) ∷ r) h.1.1.1.1.1.1.1.1 in
      (named-Make (at 0) sizes ty name (trees_in arguments) ∙ short_name name lawful.1 h.1.1.1.1.1.1.0, a.1.1)
  written_named (Written.Take at kind sizes ty name input) r lawful h = (
    named-Take (at 0) sizes ty name input ∙ and_from (is_short_name name) (is_short_text input) (short_name name lawful.1 h.1.1.1.1.1.1.0) h.1.1.1.1.1.1.1.1.1.1.0,
    h.1.1.1.1.1.1.1.1.1.1.1.1.1,
  )
  written_named (Written.Instantiate at name kind skeleton numbers functions) r lawful h =
      let close : List Token = sign_at sign.CloseParen (at 7) ∷ sign_at sign.Semi (at 8) ∷ r in
      let a = behind_numbers numbers (sign_at sign.OpenParen (at 6) ∷ with_commas a_name functions close) h.1.1.1.1.1.1 in
      let b = behind_commas a_name behind_name functions close a.1 in
      (named-Instance (at 0) _ ∙ short_name name lawful.0 h.1.0, b.1.1)
  written_named (Written.SetValue at name setting sets value) r lawful h =
      let a = behind_expression value (sign_at sign.CloseParen (at 4) ∷ sign_at sign.Semi (at 5) ∷ r) h.1.1.1.1 in
      (named-Set (at 0) name _, a.1.1)
  written_named (Written.SetOverlap at name arguments) r lawful h =
      let a = behind_arguments arguments (sign_at sign.CloseParen (at 4) ∷ sign_at sign.Semi (at 5) ∷ r) h.1.1.1.1 in
      (named-Set (at 0) name _, a.1.1)
  written_named (Written.SetMode at name setting family mode sets) r lawful h = (named-Set (at 0) name sets, h.1.1.1.1.1.1.1.1.1.1.1)
  written_named (Written.Call at name arguments) r lawful h =
      let a = behind_arguments arguments (sign_at sign.CloseParen (at 2) ∷ sign_at sign.Semi (at 3) ∷ r) h.1.1 in
      (named-Call (at 0) name (trees_in arguments), a.1.1)
  written_named (Written.Print at items) r lawful h =
      let a = items_short items (sign_at sign.Semi (at 3) ∷ r) h.1.1.1 in
      (named-Print (at 0) _ ∙ a.0, a.1.1)
  written_named (Written.Return at value) r lawful h =
      (named-Return (at 0) (tree_in value), (behind_expression value (sign_at sign.Semi (at 1) ∷ r) h.1).1)
  written_named (Written.If line branch) r lawful h = branch_named branch line r lawful h.1
  written_named (Written.For at first test step body) r lawful h =
      let rest : List Token = assignment_in_front step (sign_at sign.CloseParen (at 4) ∷ block_in_front body r) in
      let a = behind_simple first (sign_at sign.Semi (at 2) ∷ in_front test (sign_at sign.Semi (at 3) ∷ rest)) h.1.1 in
      let b = behind_expression test (sign_at sign.Semi (at 3) ∷ rest) a.1 in
      let c = behind_assignment step (sign_at sign.CloseParen (at 4) ∷ block_in_front body r) b.1 in
      let d = block_named body r lawful.3 c.1 in (
        named-For (at 0) (at_line (at 0) (simple_tree first)) (tree_in test) (at_line (at 0) (assignment_tree step)) (block_tree body)
            ∙ three_hold (names_shortly (at_line (at 0) (simple_tree first))) (names_shortly (at_line (at 0) (assignment_tree step))) (all_hold (map names_shortly (block_tree body)))
            (simple_named first (at 0)) (assignment_named step (at 0)) d.0,
        d.1,
      )

  branch_named : (branch : Branch) (line : ℕ) (r : List Token) → IsLawfulBranch branch → AreShort (branch_in_front branch r) → (names_shortly (at_line line (branch_tree branch)) ≡ true) × AreShort r
  branch_named (Branch.Test at test block otherwise) line r lawful h =
      let rest : List Token = otherwise_in_front otherwise r in
      let a = behind_expression test (sign_at sign.CloseParen (at 1) ∷ block_in_front block rest) h.1 in
      let b = block_named block rest lawful.1 a.1 in
      let c = otherwise_named otherwise r lawful.2 b.1 in (
        named-If line (tree_in test) (block_tree block) (otherwise_tree otherwise)
            ∙ and_from (all_hold (map names_shortly (block_tree block))) (all_hold (map names_shortly (otherwise_tree otherwise))) b.0 c.0,
        c.1,
      )

  otherwise_named : (otherwise : Otherwise) (r : List Token) → IsLawfulOtherwise otherwise → AreShort (otherwise_in_front otherwise r)
      → (all_hold (map names_shortly (otherwise_tree otherwise)) ≡ true) × AreShort r
  otherwise_named Otherwise.Nothing r lawful h = (refl, h)
  otherwise_named (Otherwise.Else line block) r lawful h = block_named block r lawful h.1
  otherwise_named (Otherwise.ElseIf at branch) r lawful h =
      let a = branch_named branch (at 1) r lawful h.1.1 in
      (and_from (names_shortly (at_line (at 1) (branch_tree branch))) true a.0 refl, a.1)

  pub block_named : (block : Block) (r : List Token) → IsLawfulBlock block → AreShort (block_in_front block r) → (all_hold (map names_shortly (block_tree block)) ≡ true) × AreShort r
  block_named (Block.Braces at statements) r lawful h =
      let a = statements_named statements (sign_at sign.CloseBrace (at 1) ∷ r) lawful h.1 in (a.0, a.1.1)

  statements_named : (statements : Statements) (r : List Token) → AreLawfulStatements statements → AreShort (statements_in_front statements r)
      → (all_hold (map names_shortly (statements_tree statements)) ≡ true) × AreShort r
  statements_named Statements.Done r lawful h = (refl, h)
  statements_named (Statements.Then statement statements) r lawful h =
      let a = written_named statement (statements_in_front statements r) lawful.0 h in
      let b = statements_named statements r lawful.1 a.1 in
      (and_from (names_shortly (written_tree statement)) (all_hold (map names_shortly (statements_tree statements))) a.0 b.0, b.1)
