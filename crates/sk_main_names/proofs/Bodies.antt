-- What the code of statements of main names is there, where they fit.
use Rattle.std.proofs.Common.{ℕ, List, [], ◌∷◌, map, sym, subst}
use Rattle.sk_isa.specs.declared.object.Object.{Object}
use Rattle.sk_main_fits.specs.StatementFits.{Judged, judge_step, judged_of}
use Rattle.sk_main_names.proofs.Calls.{call_named}
use Rattle.sk_main_names.proofs.Choices.{for_named, if_else_named, if_named}
use Rattle.sk_main_fits.proofs.Emission.{judged_what}
use Rattle.sk_main_names.proofs.Expressions.{HasCalls}
use Rattle.sk_main_names.proofs.StatementNodes.{IsNamed, block_judged, block_named, none_named, pair_named, sequence_judged}
use Rattle.sk_main_names.proofs.Statements.{assign_named, declare_named, instance_named, make_named, poke_named, print_named, return_named, take_named}
use Rattle.sk_plain.proofs.Parts.{statements_of, plain_level}
use Rattle.sk_scheme.specs.Scheme.{Known}
use Rattle.sk_tree.specs.declared.tree.Statement.{Statement, Statement-F, roll-Statement, map-Statement, ind-Statement, fold-roll-Statement}
use Rattle.sk_tree.specs.declared.tree.What.{What, What-F, roll-What, map-What, fold-roll-What}
use Rattle.sk_tree.specs.declared.tree.What.TheOpen as what

module _ (object : Object) (functions : List (List ℕ × Known)) (calls : HasCalls object functions) where
  abbrev pub IsNamedStatement : Statement → Type 0
  IsNamedStatement s = IsNamed object functions (judged_of s)

  abbrev IsNamedWhat : What → Type 0
  IsNamedWhat w = (line : ℕ) → IsNamed object functions (judged_what w line)

  abbrev Whats : Type 0
  Whats = (w : What) × IsNamedWhat w

  abbrev Statements : Type 0
  Statements = (s : Statement) × IsNamedStatement s

  abbrev judgeds : List Statements → List Judged
  judgeds ys = map judged_of (statements_of ys)

  sequence_named : (ys : List Statements) → IsNamed object functions (sequence_judged (judgeds ys))
  sequence_named [] = none_named object functions
  sequence_named (y ∷ ys) = pair_named object functions (judged_of y.0) (sequence_judged (judgeds ys)) y.1 (sequence_named ys)

  blocks_named : (ys : List Statements) → IsNamed object functions (block_judged (judgeds ys))
  blocks_named ys = block_named object functions (judgeds ys) (sequence_named ys)

  level_named : (y : What-F Whats Statements) (line : ℕ) → IsNamed object functions (judge_step (map-What What Statement (ℕ → Judged) Judged judged_what judged_of (plain_level y)) line)
  level_named (what.Declare ty name e) line = declare_named object functions calls ty name e line
  level_named (what.Assign name e) line = assign_named object functions calls name e line
  level_named (what.Poke name places e) line = poke_named object functions calls name places e line
  level_named (what.Make kind ty name arguments) line = make_named object functions calls kind ty name arguments line
  level_named (what.Take kind ty name text) line = take_named object functions calls kind ty name text line
  level_named (what.Instance instance) line = instance_named object functions calls instance line
  level_named (what.Set name setting) line = record {
    before = λ st held. held;
    naming = λ st fit s held. let no : ⊥ = cc in absurd no;
  }
  level_named (what.Call name arguments) line = call_named object functions calls name arguments line
  level_named (what.Print items) line = print_named object functions calls items line
  level_named (what.If test ys []) line = if_named object functions calls test (judgeds ys) line (blocks_named ys)
  level_named (what.If test ys (z ∷ zs)) line =
      if_else_named object functions calls test (judgeds ys) (judged_of z.0) (judgeds zs) line (blocks_named ys) (blocks_named (z ∷ zs))
  level_named (what.For first test step ys) line =
      for_named object functions calls line test (judgeds ys) (judged_of step.0) (blocks_named ys) step.1 (judged_of first.0) first.1
  level_named (what.Return e) line = return_named object functions calls e line

  rolled : (x : What-F What Statement) → ((line : ℕ) → IsNamed object functions (judge_step (map-What What Statement (ℕ → Judged) Judged judged_what judged_of x) line)) → IsNamedWhat (roll-What x)
  rolled x is line =
      subst (λ (j : ℕ → Judged). IsNamed object functions (j line)) (sym (fold-roll-What (ℕ → Judged) Judged judge_step (λ statement. statement.what statement.line) x)) (is line)

  rolled_statement : (x : Statement-F What Statement) → IsNamedWhat x.what → IsNamedStatement (roll-Statement x)
  rolled_statement x is =
      subst (λ (j : Judged). IsNamed object functions j) (sym (fold-roll-Statement (ℕ → Judged) Judged judge_step (λ statement. statement.what statement.line) x)) (is x.line)

  pub statement_named : (s : Statement) → IsNamedStatement s
  statement_named = ind-Statement IsNamedWhat IsNamedStatement
      (λ x y is. subst (λ z. IsNamedWhat (roll-What z)) is (rolled (plain_level y) (level_named y)))
      (λ x y is. subst (λ z. IsNamedStatement (roll-Statement z)) is (rolled_statement (map-Statement Whats Statements What Statement (λ w. w.0) (λ s. s.0) y) y.what.1))

  -- statements one after another
  pub statements_named : (ss : List Statement) → IsNamed object functions (sequence_judged (map judged_of ss))
  statements_named [] = none_named object functions
  statements_named (s ∷ ss) = pair_named object functions (judged_of s) (sequence_judged (map judged_of ss)) (statement_named s) (statements_named ss)
