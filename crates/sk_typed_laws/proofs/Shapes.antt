-- What the text says of each kind of statement, in terms of its parts.
use Rattle.std.proofs.Common.{◌≡◌, ◌∙◌, ℕ, List, map}
use Rattle.sk_base.specs.declared.number.Ty.{Ty}
use Rattle.sk_grammar.specs.StatementSpelling.{at_line}
use Rattle.sk_tree.specs.FoldLaws.{folds-Statement, folds-What}
use Rattle.sk_tree.specs.declared.tree.Expr.{Expr}
use Rattle.sk_tree.specs.declared.tree.Instance.{Instance}
use Rattle.sk_tree.specs.declared.tree.Item.{Item}
use Rattle.sk_tree.specs.declared.tree.Setting.{Setting}
use Rattle.sk_tree.specs.declared.tree.Statement.{Statement}
use Rattle.sk_tree.specs.declared.tree.What.{What, What-F, roll-What, map-What}
use Rattle.sk_tree.specs.declared.tree.What.TheOpen as layer
use Rattle.sk_tree.specs.declared.tree.What.TheVariants as what
use Rattle.sk_typed_laws.proofs.Statements.{formed_what}
use Rattle.sk_typed_laws.specs.Forms.{Formed, formed_of, formed_step}

shape : (line : ℕ) (level : What-F What Statement) → formed_of (at_line line (roll-What level)) ≡ formed_step (map-What What Statement Formed Formed formed_what formed_of level)
shape line level = folds-Statement formed_step (λ statement. statement.what) line (roll-What level) ∙ folds-What formed_step (λ statement. statement.what) level

pub shape-Declare : (line : ℕ) (ty : Ty) (name : List ℕ) (expr : Expr) → formed_of (at_line line (what.Declare ty name expr)) ≡ formed_step (layer.Declare ty name expr)
shape-Declare line ty name expr = rw (← what.rolls-Declare ty name expr) (shape line (layer.Declare ty name expr))

pub shape-Assign : (line : ℕ) (name : List ℕ) (expr : Expr) → formed_of (at_line line (what.Assign name expr)) ≡ formed_step (layer.Assign name expr)
shape-Assign line name expr = rw (← what.rolls-Assign name expr) (shape line (layer.Assign name expr))

pub shape-Poke : (line : ℕ) (name : List ℕ) (places : List Expr) (expr : Expr) → formed_of (at_line line (what.Poke name places expr)) ≡ formed_step (layer.Poke name places expr)
shape-Poke line name places expr = rw (← what.rolls-Poke name places expr) (shape line (layer.Poke name places expr))

pub shape-Make : (line dimension : ℕ) (ty : Ty) (name : List ℕ) (arguments : List Expr) → formed_of (at_line line (what.Make dimension ty name arguments)) ≡ formed_step (layer.Make dimension ty name arguments)
shape-Make line dimension ty name arguments = rw (← what.rolls-Make dimension ty name arguments) (shape line (layer.Make dimension ty name arguments))

pub shape-Take : (line dimension : ℕ) (ty : Ty) (name input : List ℕ) → formed_of (at_line line (what.Take dimension ty name input)) ≡ formed_step (layer.Take dimension ty name input)
shape-Take line dimension ty name input = rw (← what.rolls-Take dimension ty name input) (shape line (layer.Take dimension ty name input))

pub shape-Instance : (line : ℕ) (instance : Instance) → formed_of (at_line line (what.Instance instance)) ≡ formed_step (layer.Instance instance)
shape-Instance line instance = rw (← what.rolls-Instance instance) (shape line (layer.Instance instance))

pub shape-Set : (line : ℕ) (name : List ℕ) (setting : Setting) → formed_of (at_line line (what.Set name setting)) ≡ formed_step (layer.Set name setting)
shape-Set line name setting = rw (← what.rolls-Set name setting) (shape line (layer.Set name setting))

pub shape-Call : (line : ℕ) (name : List ℕ) (arguments : List Expr) → formed_of (at_line line (what.Call name arguments)) ≡ formed_step (layer.Call name arguments)
shape-Call line name arguments = rw (← what.rolls-Call name arguments) (shape line (layer.Call name arguments))

pub shape-Print : (line : ℕ) (items : List Item) → formed_of (at_line line (what.Print items)) ≡ formed_step (layer.Print items)
shape-Print line items = rw (← what.rolls-Print items) (shape line (layer.Print items))

pub shape-If : (line : ℕ) (test : Expr) (one other : List Statement)
    → formed_of (at_line line (what.If test one other)) ≡ formed_step (layer.If test (map formed_of one) (map formed_of other))
shape-If line test one other = rw (← what.rolls-If test one other) (shape line (layer.If test one other))

pub shape-For : (line : ℕ) (first : Statement) (test : Expr) (step : Statement) (body : List Statement)
    → formed_of (at_line line (what.For first test step body)) ≡ formed_step (layer.For (formed_of first) test (formed_of step) (map formed_of body))
shape-For line first test step body = rw (← what.rolls-For first test step body) (shape line (layer.For first test step body))

pub shape-Return : (line : ℕ) (expr : Expr) → formed_of (at_line line (what.Return expr)) ≡ formed_step (layer.Return expr)
shape-Return line expr = rw (← what.rolls-Return expr) (shape line (layer.Return expr))
