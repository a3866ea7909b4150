-- Walks over statements, one level after another.
use Rattle.std.proofs.Common.{◌≡◌, ◌∙◌, ℕ, List, [], ◌∷◌, sym, ap, subst}
use Rattle.sk_grammar.specs.ExpressionSpelling.{each}
use Rattle.sk_grammar.specs.StatementSpelling.{at_line}
use Rattle.sk_plain.proofs.Parts.{statements_of, plain_level}
use Rattle.sk_tree.specs.FoldLaws.{folds-Statement, folds-What}
use Rattle.sk_tree.specs.declared.tree.Statement.{Statement, Statement-F, fold-Statement, ind-Statement, map-Statement, roll-Statement, rolls-Statement'}
use Rattle.sk_tree.specs.declared.tree.What.{What, What-F, roll-What, map-What, fold-What}
use Rattle.sk_tree.specs.declared.tree.What.TheOpen.{Declare, Assign, Poke, Make, Take, Instance, Set, Call, Print, If, For, Return}

-- a walk at a statement of one level
module _ {W S : Type 0} (step : What-F W S → W) (at : Statement-F W S → S) where
  pub folds-level : (line : ℕ) (level : What-F What Statement)
      → fold-Statement W S step at (at_line line (roll-What level))
      ≡ at (record { line = line; what = step (map-What What Statement W S (fold-What W S step at) (fold-Statement W S step at) level) })
  folds-level line level =
      folds-Statement step at line (roll-What level)
      ∙ ap (λ (w : W). at (record { line = line; what = w })) (folds-What step at level)

-- what holds of each statement inside of one
abbrev pub AllInside : (Statement → Type 0) → What-F What Statement → Type 0
AllInside P (Declare ty name expr) = Unit {0}
AllInside P (Assign name expr) = Unit {0}
AllInside P (Poke name places expr) = Unit {0}
AllInside P (Make dimension ty name arguments) = Unit {0}
AllInside P (Take dimension ty name input) = Unit {0}
AllInside P (Instance instance) = Unit {0}
AllInside P (Set name setting) = Unit {0}
AllInside P (Call name arguments) = Unit {0}
AllInside P (Print items) = Unit {0}
AllInside P (If test one other) = each P one × each P other
AllInside P (For first test step body) = P first × P step × each P body
AllInside P (Return expr) = Unit {0}

module _ (P : Statement → Type 0) (by_level : (line : ℕ) (level : What-F What Statement) → AllInside P level → P (at_line line (roll-What level))) where
  abbrev AtLines : What → Type 0
  AtLines what = (line : ℕ) → P (at_line line what)

  abbrev Whats : Type 0
  Whats = (w : What) × AtLines w

  abbrev Statements : Type 0
  Statements = (s : Statement) × P s

  each_of : (ys : List Statements) → each P (statements_of ys)
  each_of [] = tt
  each_of (y ∷ ys) = (y.1, each_of ys)

  inside_of : (y : What-F Whats Statements) → AllInside P (plain_level y)
  inside_of (Declare ty name expr) = tt
  inside_of (Assign name expr) = tt
  inside_of (Poke name places expr) = tt
  inside_of (Make dimension ty name arguments) = tt
  inside_of (Take dimension ty name input) = tt
  inside_of (Instance instance) = tt
  inside_of (Set name setting) = tt
  inside_of (Call name arguments) = tt
  inside_of (Print items) = tt
  inside_of (If test one other) = (each_of one, each_of other)
  inside_of (For first test step body) = (first.1, step.1, each_of body)
  inside_of (Return expr) = tt

  rolled_statement : (x : Statement-F What Statement) → AtLines x.what → P (roll-Statement x)
  rolled_statement x is = subst P (sym (rolls-Statement' x)) (is x.line)

  pub at_each : (s : Statement) → P s
  at_each = ind-Statement AtLines P
      (λ x y is. subst (λ z. AtLines (roll-What z)) is (λ line. by_level line (plain_level y) (inside_of y)))
      (λ x y is. subst (λ z. P (roll-Statement z)) is (rolled_statement (map-Statement Whats Statements What Statement (λ w. w.0) (λ s. s.0) y) y.what.1))

  pub at_all : (ss : List Statement) → each P ss
  at_all [] = tt
  at_all (s ∷ ss) = (at_each s, at_all ss)
