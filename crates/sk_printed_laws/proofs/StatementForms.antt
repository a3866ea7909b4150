-- What each statement is printed as, and what it is without its line, in terms of its parts.
use Rattle.std.proofs.Common.{◌≡◌, ℕ, List, map}
use Rattle.sk_base.specs.declared.number.Ty.{Ty}
use Rattle.sk_tree.specs.declared.tree.Expr.{Expr}
use Rattle.sk_tree.specs.declared.tree.Instance.{Instance}
use Rattle.sk_tree.specs.declared.tree.Item.{Item}
use Rattle.sk_tree.specs.declared.tree.Setting.{Setting}
use Rattle.sk_tree.specs.declared.tree.Statement.{Statement, rolls-Statement', fold-roll-Statement}
use Rattle.sk_tree.specs.declared.tree.What.{What, What-F, roll-What, map-What, fold-What, fold-roll-What}
use Rattle.sk_tree.specs.declared.tree.What.TheVariants as what
use Rattle.sk_tree.specs.declared.tree.What.TheOpen as layer
use Rattle.sk_printed.specs.StatementText.{ShownStatement, shown_what, shown_statement, shown_statement_step}
use Rattle.sk_printed.specs.ReadsBack.{unlined}

pub shown-statement : (line : ℕ) (does : What) → shown_statement (record { line = line; what = does }) ≡ shown_what does
shown-statement line does =
    rw (← rolls-Statement' (record { line = line; what = does }))
    (fold-roll-Statement ShownStatement ShownStatement shown_statement_step (λ statement. statement.what) (record { line = line; what = does }))

pub shown-roll : (level : What-F What Statement) → shown_what (roll-What level) ≡ shown_statement_step (map-What What Statement ShownStatement ShownStatement shown_what shown_statement level)
shown-roll level = fold-roll-What ShownStatement ShownStatement shown_statement_step (λ statement. statement.what) level

-- with line 0 everywhere inside
abbrev pub unlined_what : What → What
unlined_what = fold-What What Statement roll-What (λ statement. record { line = 0; what = statement.what })

pub unlined-statement : (line : ℕ) (does : What) → unlined (record { line = line; what = does }) ≡ record { line = 0; what = unlined_what does }
unlined-statement line does =
    rw (← rolls-Statement' (record { line = line; what = does }))
    (fold-roll-Statement What Statement roll-What (λ statement. record { line = 0; what = statement.what }) (record { line = line; what = does }))

pub unlined-roll : (level : What-F What Statement) → unlined_what (roll-What level) ≡ roll-What (map-What What Statement What Statement unlined_what unlined level)
unlined-roll level = fold-roll-What What Statement roll-What (λ statement. record { line = 0; what = statement.what }) level

pub shown-Declare : (ty : Ty) (name : List ℕ) (value : Expr) → shown_what (what.Declare ty name value) ≡ shown_statement_step (layer.Declare ty name value)
shown-Declare ty name value = rw (← what.rolls-Declare ty name value) (shown-roll (layer.Declare ty name value))

pub shown-Assign : (name : List ℕ) (value : Expr) → shown_what (what.Assign name value) ≡ shown_statement_step (layer.Assign name value)
shown-Assign name value = rw (← what.rolls-Assign name value) (shown-roll (layer.Assign name value))

pub shown-Poke : (name : List ℕ) (places : List Expr) (value : Expr) → shown_what (what.Poke name places value) ≡ shown_statement_step (layer.Poke name places value)
shown-Poke name places value = rw (← what.rolls-Poke name places value) (shown-roll (layer.Poke name places value))

pub shown-Make : (sizes : ℕ) (ty : Ty) (name : List ℕ) (arguments : List Expr) → shown_what (what.Make sizes ty name arguments) ≡ shown_statement_step (layer.Make sizes ty name arguments)
shown-Make sizes ty name arguments = rw (← what.rolls-Make sizes ty name arguments) (shown-roll (layer.Make sizes ty name arguments))

pub shown-Take : (sizes : ℕ) (ty : Ty) (name input : List ℕ) → shown_what (what.Take sizes ty name input) ≡ shown_statement_step (layer.Take sizes ty name input)
shown-Take sizes ty name input = rw (← what.rolls-Take sizes ty name input) (shown-roll (layer.Take sizes ty name input))

pub shown-Instance : (instance : Instance) → shown_what (what.Instance instance) ≡ shown_statement_step (layer.Instance instance)
shown-Instance instance = rw (← what.rolls-Instance instance) (shown-roll (layer.Instance instance))

pub shown-Set : (name : List ℕ) (setting : Setting) → shown_what (what.Set name setting) ≡ shown_statement_step (layer.Set name setting)
shown-Set name setting = rw (← what.rolls-Set name setting) (shown-roll (layer.Set name setting))

pub shown-Call : (name : List ℕ) (arguments : List Expr) → shown_what (what.Call name arguments) ≡ shown_statement_step (layer.Call name arguments)
shown-Call name arguments = rw (← what.rolls-Call name arguments) (shown-roll (layer.Call name arguments))

pub shown-Print : (items : List Item) → shown_what (what.Print items) ≡ shown_statement_step (layer.Print items)
shown-Print items = rw (← what.rolls-Print items) (shown-roll (layer.Print items))

pub shown-If : (test : Expr) (one other : List Statement) → shown_what (what.If test one other) ≡ shown_statement_step (layer.If test (map shown_statement one) (map shown_statement other))
shown-If test one other = rw (← what.rolls-If test one other) (shown-roll (layer.If test one other))

pub shown-For : (first : Statement) (test : Expr) (step : Statement) (body : List Statement) → shown_what (what.For first test step body) ≡ shown_statement_step (layer.For (shown_statement first) test (shown_statement step) (map shown_statement body))
shown-For first test step body = rw (← what.rolls-For first test step body) (shown-roll (layer.For first test step body))

pub shown-Return : (value : Expr) → shown_what (what.Return value) ≡ shown_statement_step (layer.Return value)
shown-Return value = rw (← what.rolls-Return value) (shown-roll (layer.Return value))

pub unlined-If : (test : Expr) (one other : List Statement) → unlined_what (what.If test one other) ≡ what.If test (map unlined one) (map unlined other)
unlined-If test one other = rw (← what.rolls-If test one other, unlined-roll (layer.If test one other)) (what.rolls-If test (map unlined one) (map unlined other))

pub unlined-For : (first : Statement) (test : Expr) (step : Statement) (body : List Statement) → unlined_what (what.For first test step body) ≡ what.For (unlined first) test (unlined step) (map unlined body)
unlined-For first test step body = rw (← what.rolls-For first test step body, unlined-roll (layer.For first test step body)) (what.rolls-For (unlined first) test (unlined step) (map unlined body))
