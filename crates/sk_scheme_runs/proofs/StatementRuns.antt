-- The code of plain statements does what the statements do.
use Rattle.std.proofs.Common.{◌≡◌, ℕ, ◌+◌, List, [], ◌∷◌, ◌++◌, length, map, refl, sym, ap, subst, arith, length-append}
use Rattle.std.specs.Prelude.{false}
use Rattle.sk_meaning.specs.Evaluation.{Callables, Doing, in_block, in_sequence, left_behind, looped, doing_of, doing_step}
use Rattle.sk_meaning.specs.EvaluationLaws.{doing_what, doing-roll}
use Rattle.sk_tree.specs.declared.tree.Expr.{Expr}
use Rattle.sk_tree.specs.declared.tree.Statement.{Statement, Statement-F, roll-Statement, map-Statement, ind-Statement, fold-roll-Statement}
use Rattle.sk_tree.specs.declared.tree.What.{What, What-F, roll-What, map-What, fold-roll-What}
use Rattle.sk_tree.specs.declared.tree.What.TheOpen as what
use Rattle.sk_isa.specs.Coded.{Routine}
use Rattle.sk_scheme.specs.Scheme.{Slot, Within, Standing, Emitted, Emitting, behind, only_code, all_emitted, emitting_of, emitting_step}
use Rattle.sk_scheme.specs.SchemeLaws.{emitting_what, emitting-roll}
use Rattle.sk_plain.specs.Plain.{Parameters, NamedKinds, Plainness, plainness_of, plainness_step, plainness_if, all_behind, loop_is_plain}
use Rattle.sk_scheme_runs.proofs.Runs.{has_front, has_back}
use Rattle.sk_plain.proofs.Bindings.{names_of}
use Rattle.sk_scheme_runs.proofs.Agreement.{Agree, AreCallees, agree_behind, agree_length}
use Rattle.sk_plain.proofs.PlainParts.{behind_if_is, IsLoop, for_parts}
use Rattle.sk_plain.specs.PlainLaws.{plainness_what}
use Rattle.sk_plain.proofs.Parts.{statements_of, emittings, plainnesses, plain_level}
use Rattle.sk_scheme_runs.proofs.ExpressionRuns.{IsRun, expression_runs}
use Rattle.sk_scheme_runs.proofs.Flows.{runs_then, runs_nothing}
use Rattle.sk_scheme_runs.proofs.StatementNodes.{Follows, same_scope, pair_follows, none_follows, block_follows, declare_follows, assign_follows, return_follows}
use Rattle.sk_scheme_runs.proofs.Choices.{IsBlock, IsFollowing, if_follows, if_else_follows}
use Rattle.sk_scheme_runs.proofs.Loops.{loop_at, loop_slots, loop_runs}

module _ (routine : Routine) (parameters : Parameters) (within : Within) (callables : Callables) where
  for_follows : (df : Doing) (ef : Emitting) (jf : Plainness) (test : Expr) (step : Doing) (emits : Emitting) (judged : Plainness) (ds : List Doing) (es : List Emitting) (js : List Plainness)
      → IsRun routine parameters within.functions callables test → IsFollowing routine parameters within callables df ef jf → IsFollowing routine parameters within callables step emits judged
      → IsBlock routine parameters within callables ds es js
      → Follows routine parameters within callables (doing_step (what.For df test step ds)) (emitting_step (what.For ef test emits es)) (plainness_step (what.For jf test judged js))
  for_follows df ef jf test step emits judged ds es js is f g b = record {
    keeps = same_scope routine parameters within callables (plainness_step (what.For jf test judged js)) (loop_is_plain jf test judged js) (emitting_step (what.For ef test emits es)) refl (λ st. refl)
        (λ st.
        let one : Emitted = ef within st in
        let l = loop_slots routine parameters within callables test ds es js step emits judged b g (behind st one) in
        omega (arith, f.keeps.slots st, l.0, l.1));
    runs = λ st values slots turns after h agree room has.
        let names = names_of st.scope in
        let plain = (behind_if_is (loop_is_plain jf test judged js parameters names) names after h).0 in
        let p = for_parts parameters jf test judged js names plain in
        let one : Emitted = ef within st in
        let st1 : Standing = behind st one in
        let loop : Emitted = loop_at routine parameters within callables test ds es js step emits judged st1 in
        let fine : IsLoop parameters (names_of one.scope) test js judged = subst (λ (n : NamedKinds). IsLoop parameters n test js judged) (f.keeps.names st p.0 p.1) p.2 in
        let l = loop_slots routine parameters within callables test ds es js step emits judged b g st1 in
        let bound : ℕ = length loop.slots in
        let to : ℕ = st.at + length (one.code ++ loop.code) in
        let end : ℕ = st1.at + length loop.code in
        let len : end ≡ to = omega (arith, length-append one.code loop.code) in
        let grown = f.keeps.grows st in
        runs_then routine within.ret slots st.at [] turns st1.at to one.scope st.scope (length one.slots) bound (df callables values turns) _
        (f.runs st values slots turns p.0 p.1 agree (omega (arith, l.0, l.1, room)) (has_front routine.instrs st.at one.code loop.code has))
        (λ values2 slots2 left fewer size agree2.
        runs_then routine within.ret slots2 st1.at [] left end to one.scope st.scope bound bound (looped left test (in_block ds) step callables values2 left) _
        (loop_runs routine parameters within callables test ds es js step emits judged is b g st1 fine (has_back routine.instrs st.at one.code loop.code has) left values2 slots2 left (omega arith) agree2 (omega (arith, room, size)))
        (λ values3 slots3 left3 fewer3 size3 agree3.
        runs_nothing routine within.ret slots3 end left3 to st.scope bound (left_behind values values3) len
        (agree_behind routine.arguments grown.0 st.scope values3 values slots3 bound (agree_length routine.arguments st.scope values slots (length st.slots) agree)
        (subst (λ (s : List (List ℕ × Slot)). Agree routine.arguments s values3 slots3 bound) grown.1 agree3))));
  }

  never_follows : (doing : Doing) → Follows routine parameters within callables doing (λ within st. only_code st [] 0) (plainness_if (λ parameters names. false))
  never_follows doing = record {
    keeps = same_scope routine parameters within callables (plainness_if (λ parameters names. false)) (λ parameters names. false) (λ within st. only_code st [] 0) refl (λ st. refl) (λ st. omega arith);
    runs = λ st values slots turns after h agree room has. let no : ⊥ = cc in absurd no;
  }

  -- the code of a statement does what the statement does
  abbrev pub IsFollowed : Statement → Type 0
  IsFollowed s = Follows routine parameters within callables (doing_of s) (emitting_of s) (plainness_of s)

  abbrev IsFollowedWhat : What → Type 0
  IsFollowedWhat w = Follows routine parameters within callables (doing_what w) (emitting_what w) (plainness_what w)

  abbrev FollowedWhat : Type 0
  FollowedWhat = (w : What) × IsFollowedWhat w

  abbrev Followed : Type 0
  Followed = (s : Statement) × IsFollowed s

  abbrev doings : List Followed → List Doing
  doings ys = map doing_of (statements_of ys)

  sequence_follows : (ys : List Followed)
      → Follows routine parameters within callables (in_sequence (map doing_of (statements_of ys))) (all_emitted (map emitting_of (statements_of ys)))
      (record { behind = all_behind (map plainness_of (statements_of ys)); assigns = false; declares = false })
  sequence_follows [] = none_follows routine parameters within callables
  sequence_follows (y ∷ ys) =
      pair_follows routine parameters within callables (doing_of y.0) (in_sequence (map doing_of (statements_of ys))) (emitting_of y.0) (all_emitted (map emitting_of (statements_of ys))) (plainness_of y.0)
      (record { behind = all_behind (map plainness_of (statements_of ys)); assigns = false; declares = false }) y.1 (sequence_follows ys)

  blocks_follow : (ys : List Followed)
      → IsBlock routine parameters within callables (map doing_of (statements_of ys)) (map emitting_of (statements_of ys)) (map plainness_of (statements_of ys))
  blocks_follow ys =
      block_follows routine parameters within callables (map doing_of (statements_of ys)) (map emitting_of (statements_of ys)) (map plainness_of (statements_of ys)) (sequence_follows ys)

  level_follows : ((e : Expr) → IsRun routine parameters within.functions callables e) → (y : What-F FollowedWhat Followed)
      → Follows routine parameters within callables (doing_step (map-What What Statement Doing Doing doing_what doing_of (plain_level y)))
      (emitting_step (map-What What Statement Emitting Emitting emitting_what emitting_of (plain_level y)))
      (plainness_step (map-What What Statement Plainness Plainness plainness_what plainness_of (plain_level y)))
  level_follows is (what.Declare ty name expr) = declare_follows routine parameters within callables ty name expr (is expr)
  level_follows is (what.Assign name expr) = assign_follows routine parameters within callables name expr (is expr)
  level_follows is (what.Poke name places expr) = never_follows _
  level_follows is (what.Make kind ty name arguments) = never_follows _
  level_follows is (what.Take kind ty name text) = never_follows _
  level_follows is (what.Instance instance) = never_follows _
  level_follows is (what.Set name setting) = never_follows _
  level_follows is (what.Call name arguments) = never_follows _
  level_follows is (what.Print items) = never_follows _
  level_follows is (what.If test ys []) = if_follows routine parameters within callables test (doings ys) (emittings ys) (plainnesses ys) (is test) (blocks_follow ys)
  level_follows is (what.If test ys (z ∷ zs)) = if_else_follows routine parameters within callables test (doings ys) (doings (z ∷ zs)) (emittings ys) (emittings (z ∷ zs)) (plainnesses ys) (plainnesses (z ∷ zs)) (is test) (blocks_follow ys) (blocks_follow (z ∷ zs))
  level_follows is (what.For first test step ys) = for_follows (doing_of first.0) (emitting_of first.0) (plainness_of first.0) test (doing_of step.0) (emitting_of step.0) (plainness_of step.0) (doings ys) (emittings ys) (plainnesses ys) (is test) first.1 step.1 (blocks_follow ys)
  level_follows is (what.Return expr) = return_follows routine parameters within callables expr (is expr)

  rolled : (x : What-F What Statement) → Follows routine parameters within callables (doing_step (map-What What Statement Doing Doing doing_what doing_of x))
      (emitting_step (map-What What Statement Emitting Emitting emitting_what emitting_of x)) (plainness_step (map-What What Statement Plainness Plainness plainness_what plainness_of x))
      → IsFollowedWhat (roll-What x)
  rolled x is =
      subst (λ (d : Doing). Follows routine parameters within callables d (emitting_what (roll-What x)) (plainness_what (roll-What x))) (sym (doing-roll x))
      (subst (λ (e : Emitting). Follows routine parameters within callables (doing_step (map-What What Statement Doing Doing doing_what doing_of x)) e (plainness_what (roll-What x))) (sym (emitting-roll x))
      (subst (λ (j : Plainness). Follows routine parameters within callables (doing_step (map-What What Statement Doing Doing doing_what doing_of x)) (emitting_step (map-What What Statement Emitting Emitting emitting_what emitting_of x)) j)
      (sym (fold-roll-What Plainness Plainness plainness_step (λ statement. statement.what) x)) is))

  rolled_statement : (x : Statement-F What Statement) → IsFollowedWhat x.what → IsFollowed (roll-Statement x)
  rolled_statement x is =
      subst (λ (d : Doing). Follows routine parameters within callables d (emitting_of (roll-Statement x)) (plainness_of (roll-Statement x)))
      (sym (fold-roll-Statement Doing Doing doing_step (λ statement. statement.what) x))
      (subst (λ (e : Emitting). Follows routine parameters within callables (doing_what x.what) e (plainness_of (roll-Statement x)))
      (sym (fold-roll-Statement Emitting Emitting emitting_step (λ statement. statement.what) x))
      (subst (λ (j : Plainness). Follows routine parameters within callables (doing_what x.what) (emitting_what x.what) j)
      (sym (fold-roll-Statement Plainness Plainness plainness_step (λ statement. statement.what) x)) is))

  pub statement_follows : AreCallees routine.callees parameters within.functions callables → (s : Statement) → IsFollowed s
  statement_follows callees = ind-Statement IsFollowedWhat IsFollowed
      (λ x y is. subst (λ z. IsFollowedWhat (roll-What z)) is (rolled (plain_level y) (level_follows (expression_runs routine parameters within.functions callables callees) y)))
      (λ x y is. subst (λ z. IsFollowed (roll-Statement z)) is (rolled_statement (map-Statement FollowedWhat Followed What Statement (λ w. w.0) (λ s. s.0) y) y.what.1))

  -- the code of statements one after another does what they do
  with_proofs : ((s : Statement) → IsFollowed s) → List Statement → List Followed
  with_proofs is [] = []
  with_proofs is (s ∷ ss) = (s, is s) ∷ with_proofs is ss

  without_proofs : (is : (s : Statement) → IsFollowed s) (ss : List Statement) → statements_of (with_proofs is ss) ≡ ss
  unfolding with_proofs
  without_proofs is [] = refl
  without_proofs is (s ∷ ss) = ap (λ l. s ∷ l) (without_proofs is ss)

  pub statements_follow : AreCallees routine.callees parameters within.functions callables → (ss : List Statement)
      → Follows routine parameters within callables (in_sequence (map doing_of ss)) (all_emitted (map emitting_of ss)) (record { behind = all_behind (map plainness_of ss); assigns = false; declares = false })
  statements_follow callees ss =
      let is : (s : Statement) → IsFollowed s = statement_follows callees in
      subst (λ (l : List Statement). Follows routine parameters within callables (in_sequence (map doing_of l)) (all_emitted (map emitting_of l)) (record { behind = all_behind (map plainness_of l); assigns = false; declares = false }))
      (without_proofs is ss) (sequence_follows (with_proofs is ss))
