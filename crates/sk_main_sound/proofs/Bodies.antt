-- The code of statements of main is sound where they fit.
use Rattle.std.proofs.Common.{ℕ, List, [], ◌∷◌, length, map, refl, sym, subst, arith}
use Rattle.std.proofs.lemmas.List.{append-nil}
use Rattle.sk_isa.specs.declared.object.Object.{Object}
use Rattle.sk_main_fits.specs.StatementFits.{Judged, judge_step, judged_of}
use Rattle.sk_main_fits.proofs.Emission.{judged_what}
use Rattle.sk_main_scheme.specs.MainScheme.{Whole}
use Rattle.sk_main_sound.proofs.Choices.{for_sound, if_else_sound, if_sound}
use Rattle.sk_main_sound.proofs.ContainerStatements.{call_sound, make_sound, poke_sound}
use Rattle.sk_main_sound.proofs.Expressions.{HasKnown}
use Rattle.sk_main_sound.proofs.StatementNodes.{IsSound, block_judged, block_sound, grows_same, none_sound, pair_sound, sequence_judged}
use Rattle.sk_main_sound.proofs.Statements.{assign_sound, declare_sound, instance_sound, print_sound, return_sound}
use Rattle.sk_plain.proofs.Parts.{statements_of, plain_level}
use Rattle.sk_scheme.specs.Scheme.{Known}
use Rattle.sk_tree.specs.declared.tree.Statement.{Statement, Statement-F, roll-Statement, map-Statement, ind-Statement, fold-roll-Statement}
use Rattle.sk_tree.specs.declared.tree.What.{What, What-F, roll-What, map-What, fold-roll-What}
use Rattle.sk_tree.specs.declared.tree.What.TheOpen as what

module _ (object : Object) (depth : ℕ) (functions : List (List ℕ × Known)) (known : HasKnown object functions) where
  abbrev Sound : Judged → Type 0
  Sound judged = IsSound object depth functions judged

  abbrev pub IsSoundStatement : Statement → Type 0
  IsSoundStatement s = Sound (judged_of s)

  abbrev IsSoundWhat : What → Type 0
  IsSoundWhat w = (line : ℕ) → Sound (judged_what w line)

  abbrev Whats : Type 0
  Whats = (w : What) × IsSoundWhat w

  abbrev Statements : Type 0
  Statements = (s : Statement) × IsSoundStatement s

  abbrev judgeds : List Statements → List Judged
  judgeds ys = map judged_of (statements_of ys)

  sequence_sound : (ys : List Statements) → Sound (sequence_judged (judgeds ys))
  sequence_sound [] = none_sound object depth functions
  sequence_sound (y ∷ ys) = pair_sound object depth functions (judged_of y.0) (sequence_judged (judgeds ys)) y.1 (sequence_sound ys)

  blocks_sound : (ys : List Statements) → Sound (block_judged (judgeds ys))
  blocks_sound ys = block_sound object depth functions (judgeds ys) (sequence_sound ys)

  level_sound : (y : What-F Whats Statements) (line : ℕ) → Sound (judge_step (map-What What Statement (ℕ → Judged) Judged judged_what judged_of (plain_level y)) line)
  level_sound (what.Declare ty name e) line = declare_sound object depth functions known ty name e line
  level_sound (what.Assign name e) line = assign_sound object depth functions known name e line
  level_sound (what.Poke name places e) line = poke_sound object depth functions known name places e line
  level_sound (what.Make kind ty name arguments) line = make_sound object depth functions known kind ty name arguments line
  level_sound (what.Take kind ty name text) line = record {
    grows = record {
      at = λ st. omega arith;
      scope = λ st. ((name, Whole (length st.containers) ty) ∷ [], refl);
      slots = λ st. ([], sym (append-nil st.slots));
      containers = λ st. (record { name = name; kind = kind; ty = ty } ∷ [], refl);
      light = λ e st. let no : ⊥ = cc in absurd no;
      step = λ e st. let no : ⊥ = cc in absurd no;
    };
    part = λ st fit placed holds low. let no : ⊥ = cc in absurd no;
  }
  level_sound (what.Instance instance) line = instance_sound object depth functions known instance line
  level_sound (what.Set name setting) line = record {
    grows = grows_same object depth functions (judge_step (what.Set name setting) line) (λ st. omega arith) (λ st. refl) (λ st. refl) (λ st. refl);
    part = λ st fit placed holds low. let no : ⊥ = cc in absurd no;
  }
  level_sound (what.Call name arguments) line = call_sound object depth functions known name arguments line
  level_sound (what.Print items) line = print_sound object depth functions known items line
  level_sound (what.If test ys []) line = if_sound object depth functions known test (judgeds ys) line (blocks_sound ys)
  level_sound (what.If test ys (z ∷ zs)) line =
      if_else_sound object depth functions known test (judgeds ys) (judged_of z.0) (judgeds zs) line (blocks_sound ys) (blocks_sound (z ∷ zs))
  level_sound (what.For first test step ys) line =
      for_sound object depth functions known line test (judgeds ys) (judged_of step.0) (blocks_sound ys) step.1 (judged_of first.0) first.1
  level_sound (what.Return e) line = return_sound object depth functions known e line

  rolled : (x : What-F What Statement) → ((line : ℕ) → Sound (judge_step (map-What What Statement (ℕ → Judged) Judged judged_what judged_of x) line)) → IsSoundWhat (roll-What x)
  rolled x is line =
      subst (λ (j : ℕ → Judged). Sound (j line)) (sym (fold-roll-What (ℕ → Judged) Judged judge_step (λ statement. statement.what statement.line) x)) (is line)

  rolled_statement : (x : Statement-F What Statement) → IsSoundWhat x.what → IsSoundStatement (roll-Statement x)
  rolled_statement x is =
      subst (λ (j : Judged). Sound j) (sym (fold-roll-Statement (ℕ → Judged) Judged judge_step (λ statement. statement.what statement.line) x)) (is x.line)

  pub statement_sound : (s : Statement) → IsSoundStatement s
  statement_sound = ind-Statement IsSoundWhat IsSoundStatement
      (λ x y is. subst (λ z. IsSoundWhat (roll-What z)) is (rolled (plain_level y) (level_sound y)))
      (λ x y is. subst (λ z. IsSoundStatement (roll-Statement z)) is (rolled_statement (map-Statement Whats Statements What Statement (λ w. w.0) (λ s. s.0) y) y.what.1))

  -- statements one after another
  pub statements_sound : (ss : List Statement) → Sound (sequence_judged (map judged_of ss))
  statements_sound [] = none_sound object depth functions
  statements_sound (s ∷ ss) = pair_sound object depth functions (judged_of s) (sequence_judged (map judged_of ss)) (statement_sound s) (statements_sound ss)
