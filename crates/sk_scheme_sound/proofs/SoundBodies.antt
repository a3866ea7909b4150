-- The code of plain statements is sound.
use Rattle.std.proofs.Common.{◌≡◌, ℕ, List, [], ◌∷◌, map, sym, subst}
use Rattle.std.specs.Prelude.{false, Bool}
use Rattle.std.specs.List.{list_any}
use Rattle.sk_tree.specs.declared.tree.Statement.{Statement, Statement-F, roll-Statement, map-Statement, ind-Statement, fold-roll-Statement}
use Rattle.sk_tree.specs.declared.tree.What.{What, What-F, roll-What, map-What, fold-roll-What}
use Rattle.sk_tree.specs.declared.tree.What.TheOpen as what
use Rattle.sk_scheme.specs.Scheme.{Within, Emitting, all_emitted, emitting_of, emitting_step}
use Rattle.sk_scheme.specs.SchemeLaws.{emitting_what, emitting-roll}
use Rattle.sk_isa.specs.Soundness.{Named}
use Rattle.sk_plain.specs.Plain.{Parameters, Plainness, plainness_of, plainness_step, all_behind, returns_of, returns_step}
use Rattle.sk_plain.proofs.Truths.{never_both}
use Rattle.sk_plain.specs.PlainLaws.{plainness_what, returns_what}
use Rattle.sk_plain.proofs.Parts.{statements_of, emittings, plainnesses, returning, plain_level}
use Rattle.sk_scheme_sound.proofs.SoundScopes.{AreCallees}
use Rattle.sk_scheme_sound.proofs.SoundStatements.{IsStatement, IsBlock, declare_statement, assign_statement, return_statement, never_statement, none_statement, pair_statement, block_statement, if_statement, if_else_statement, for_statement}

module _ (named : Named) (depth : ℕ) (parameters : Parameters) (within : Within) (callees : AreCallees named.signatures named.function parameters within.functions) (ret_is : within.ret ≡ named.own.ret) where
  abbrev Is : Emitting → Plainness → Bool → Type 0
  Is emitting judged returns = IsStatement named depth parameters within callees ret_is emitting judged returns

  abbrev pub IsSoundStatement : Statement → Type 0
  IsSoundStatement s = Is (emitting_of s) (plainness_of s) (returns_of s)

  abbrev IsSoundWhat : What → Type 0
  IsSoundWhat w = Is (emitting_what w) (plainness_what w) (returns_what w)

  abbrev Whats : Type 0
  Whats = (w : What) × IsSoundWhat w

  abbrev Statements : Type 0
  Statements = (s : Statement) × IsSoundStatement s

  sequence_sound : (ys : List Statements)
      → Is (all_emitted (map emitting_of (statements_of ys))) (record { behind = all_behind (map plainness_of (statements_of ys)); assigns = false; declares = false })
      (list_any (λ part. part) (map returns_of (statements_of ys)))
  sequence_sound [] = none_statement named depth parameters within callees ret_is
  sequence_sound (y ∷ ys) =
      pair_statement named depth parameters within callees ret_is (emitting_of y.0) (all_emitted (map emitting_of (statements_of ys))) (plainness_of y.0)
      (record { behind = all_behind (map plainness_of (statements_of ys)); assigns = false; declares = false })
      (returns_of y.0) (list_any (λ part. part) (map returns_of (statements_of ys))) y.1 (sequence_sound ys)

  block_sound : (ys : List Statements) → IsBlock named depth parameters within callees ret_is (map emitting_of (statements_of ys)) (map plainness_of (statements_of ys)) (list_any (λ part. part) (map returns_of (statements_of ys)))
  block_sound ys = block_statement named depth parameters within callees ret_is (map emitting_of (statements_of ys)) (map plainness_of (statements_of ys)) (list_any (λ part. part) (map returns_of (statements_of ys))) (sequence_sound ys)

  level_sound : (y : What-F Whats Statements)
      → Is (emitting_step (map-What What Statement Emitting Emitting emitting_what emitting_of (plain_level y)))
      (plainness_step (map-What What Statement Plainness Plainness plainness_what plainness_of (plain_level y)))
      (returns_step (map-What What Statement Bool Bool returns_what returns_of (plain_level y)))
  level_sound (what.Declare ty name expr) = declare_statement named depth parameters within callees ret_is ty name expr
  level_sound (what.Assign name expr) = assign_statement named depth parameters within callees ret_is name expr
  level_sound (what.Poke name places expr) = never_statement named depth parameters within callees ret_is false
  level_sound (what.Make kind ty name arguments) = never_statement named depth parameters within callees ret_is false
  level_sound (what.Take kind ty name text) = never_statement named depth parameters within callees ret_is false
  level_sound (what.Instance instance) = never_statement named depth parameters within callees ret_is false
  level_sound (what.Set name setting) = never_statement named depth parameters within callees ret_is false
  level_sound (what.Call name arguments) = never_statement named depth parameters within callees ret_is false
  level_sound (what.Print items) = never_statement named depth parameters within callees ret_is false
  level_sound (what.If test ys []) =
      subst (λ (b : Bool). Is (emitting_step (what.If test (emittings ys) [])) (plainness_step (what.If test (plainnesses ys) [])) b) (never_both (returning ys))
      (if_statement named depth parameters within callees ret_is test (emittings ys) (plainnesses ys) (returning ys) (block_sound ys))
  level_sound (what.If test ys (z ∷ zs)) =
      if_else_statement named depth parameters within callees ret_is test (emittings ys) (emittings (z ∷ zs)) (plainnesses ys) (plainnesses (z ∷ zs)) (returning ys) (returning (z ∷ zs)) (block_sound ys) (block_sound (z ∷ zs))
  level_sound (what.For first test step ys) =
      for_statement named depth parameters within callees ret_is (emitting_of first.0) (plainness_of first.0) (returns_of first.0) test (emitting_of step.0) (plainness_of step.0) (returns_of step.0)
      (emittings ys) (plainnesses ys) (returning ys) first.1 step.1 (block_sound ys)
  level_sound (what.Return expr) = return_statement named depth parameters within callees ret_is expr

  rolled : (x : What-F What Statement)
      → Is (emitting_step (map-What What Statement Emitting Emitting emitting_what emitting_of x)) (plainness_step (map-What What Statement Plainness Plainness plainness_what plainness_of x))
      (returns_step (map-What What Statement Bool Bool returns_what returns_of x))
      → IsSoundWhat (roll-What x)
  rolled x is =
      subst (λ (e : Emitting). Is e (plainness_what (roll-What x)) (returns_what (roll-What x))) (sym (emitting-roll x))
      (subst (λ (j : Plainness). Is (emitting_step (map-What What Statement Emitting Emitting emitting_what emitting_of x)) j (returns_what (roll-What x))) (sym (fold-roll-What Plainness Plainness plainness_step (λ statement. statement.what) x))
      (subst (λ (b : Bool). Is (emitting_step (map-What What Statement Emitting Emitting emitting_what emitting_of x)) (plainness_step (map-What What Statement Plainness Plainness plainness_what plainness_of x)) b)
      (sym (fold-roll-What Bool Bool returns_step (λ statement. statement.what) x)) is))

  rolled_statement : (x : Statement-F What Statement) → IsSoundWhat x.what → IsSoundStatement (roll-Statement x)
  rolled_statement x is =
      subst (λ (e : Emitting). Is e (plainness_of (roll-Statement x)) (returns_of (roll-Statement x)))
      (sym (fold-roll-Statement Emitting Emitting emitting_step (λ statement. statement.what) x))
      (subst (λ (j : Plainness). Is (emitting_what x.what) j (returns_of (roll-Statement x)))
      (sym (fold-roll-Statement Plainness Plainness plainness_step (λ statement. statement.what) x))
      (subst (λ (b : Bool). Is (emitting_what x.what) (plainness_what x.what) b)
      (sym (fold-roll-Statement Bool Bool returns_step (λ statement. statement.what) x)) is))

  pub statement_sound : (s : Statement) → IsSoundStatement s
  statement_sound = ind-Statement IsSoundWhat IsSoundStatement
      (λ x y is. subst (λ z. IsSoundWhat (roll-What z)) is (rolled (plain_level y) (level_sound y)))
      (λ x y is. subst (λ z. IsSoundStatement (roll-Statement z)) is (rolled_statement (map-Statement Whats Statements What Statement (λ w. w.0) (λ s. s.0) y) y.what.1))

  -- statements one after another
  pub statements_sound : (ss : List Statement)
      → Is (all_emitted (map emitting_of ss)) (record { behind = all_behind (map plainness_of ss); assigns = false; declares = false }) (list_any returns_of ss)
  statements_sound [] = none_statement named depth parameters within callees ret_is
  statements_sound (s ∷ ss) =
      pair_statement named depth parameters within callees ret_is (emitting_of s) (all_emitted (map emitting_of ss)) (plainness_of s)
      (record { behind = all_behind (map plainness_of ss); assigns = false; declares = false })
      (returns_of s) (list_any returns_of ss) (statement_sound s) (statements_sound ss)
