-- The code of statements of main does what the statements do, where they fit.
use Rattle.std.proofs.Common.{◌≡◌, ℕ, List, [], ◌∷◌, length, map, refl, sym, ap, subst, arith}
use Rattle.std.proofs.lemmas.List.{append-nil}
use Rattle.std.specs.List.{list_all}
use Rattle.std.specs.Prelude.{true, false}
use Rattle.sk_isa.specs.declared.object.Object.{Object}
use Rattle.sk_main_code.specs.MainSoundness.{names_in_main}
use Rattle.sk_main_fits.specs.StatementFits.{Judged, all_emits, sequence_fits, judge_step, judged_of}
use Rattle.sk_main_fits.proofs.Emission.{judged_what}
use Rattle.sk_main_run.specs.MainRun.{Lineless, Numbered, all_declared, in_sequence, running_of, running_step}
use Rattle.sk_main_run.specs.MainRunLaws.{at_line, running_what}
use Rattle.sk_main_runs.proofs.CallStatements.{call_follows}
use Rattle.sk_main_runs.proofs.Choices.{block_numbered, block_judged, if_follows, if_else_follows}
use Rattle.sk_main_runs.proofs.ContainerStatements.{make_follows, poke_follows}
use Rattle.sk_main_runs.proofs.Heads.{for_follows, instance_follows}
use Rattle.sk_main_runs.proofs.StatementNodes.{Follows, keeps_same, none_follows, pair_follows, block_follows}
use Rattle.sk_main_runs.proofs.Statements.{assign_follows, declare_follows, print_follows, return_follows}
use Rattle.sk_main_scheme.specs.MainScheme.{Whole, all_emitted}
use Rattle.sk_plain.proofs.Parts.{statements_of, plain_level}
use Rattle.sk_safety.specs.Safety.{Judgements}
use Rattle.sk_scheme.specs.Scheme.{Known}
use Rattle.sk_tree.specs.FoldLaws.{folds-What}
use Rattle.sk_tree.specs.declared.tree.Statement.{Statement, Statement-F, roll-Statement, map-Statement, ind-Statement, fold-roll-Statement}
use Rattle.sk_tree.specs.declared.tree.What.{What, What-F, roll-What, map-What, fold-roll-What}
use Rattle.sk_tree.specs.declared.tree.What.TheOpen as what

module _ (object : Object) (functions : List (List ℕ × Known)) (judgements : Judgements) (named : list_all (names_in_main object) object.main.instrs ≡ true) where
  abbrev pub IsFollowed : Statement → Type 0
  IsFollowed s = Follows object functions judgements (running_of judgements s) (judged_of s)

  abbrev IsFollowedWhat : What → Type 0
  IsFollowedWhat w = (line : ℕ) → Follows object functions judgements (at_line (running_what judgements w) line) (judged_what w line)

  abbrev FollowedWhat : Type 0
  FollowedWhat = (w : What) × IsFollowedWhat w

  abbrev Followed : Type 0
  Followed = (s : Statement) × IsFollowed s

  abbrev runnings : List Followed → List Numbered
  runnings ys = map (running_of judgements) (statements_of ys)

  abbrev judgeds : List Followed → List Judged
  judgeds ys = map judged_of (statements_of ys)

  sequence_follows : (ys : List Followed)
      → Follows object functions judgements (record { declares = all_declared (runnings ys); run = in_sequence (runnings ys) })
      (record { emits = all_emitted (all_emits (judgeds ys)); fits = sequence_fits (judgeds ys); is_light = false; is_step = false })
  sequence_follows [] = none_follows object functions judgements
  sequence_follows (y ∷ ys) =
      pair_follows object functions judgements (running_of judgements y.0) (record { declares = all_declared (runnings ys); run = in_sequence (runnings ys) }) (judged_of y.0)
      (record { emits = all_emitted (all_emits (judgeds ys)); fits = sequence_fits (judgeds ys); is_light = false; is_step = false }) y.1 (sequence_follows ys)

  blocks_follow : (ys : List Followed) → Follows object functions judgements (block_numbered (runnings ys)) (block_judged (judgeds ys))
  blocks_follow ys = block_follows object functions judgements (runnings ys) (judgeds ys) (sequence_follows ys)

  level_follows : (y : What-F FollowedWhat Followed) (line : ℕ)
      → Follows object functions judgements
      (at_line (running_step judgements (map-What What Statement Lineless Numbered (running_what judgements) (running_of judgements) (plain_level y))) line)
      (judge_step (map-What What Statement (ℕ → Judged) Judged judged_what judged_of (plain_level y)) line)
  level_follows (what.Declare ty name e) line = declare_follows object functions judgements ty name e line
  level_follows (what.Assign name e) line = assign_follows object functions judgements name e line
  level_follows (what.Poke name places e) line = poke_follows object functions judgements name places e line
  level_follows (what.Make kind ty name arguments) line = make_follows object functions judgements kind ty name arguments line
  level_follows (what.Take kind ty name text) line = record {
    keeps = record {
      at = λ st. omega arith;
      scope = λ st. ((name, Whole (length st.containers) ty) ∷ [], refl);
      slots = λ st. omega arith;
      containers = λ st. (record { name = name; kind = kind; ty = ty } ∷ [], refl, refl);
      instances = λ st. ([], sym (append-nil st.instances), refl);
      light = λ e. let no : ⊥ = cc in absurd no;
      step = λ e st. let no : ⊥ = cc in absurd no;
      plain = λ e st. let no : ⊥ = cc in absurd no;
    };
    anywhere = λ e before other state. let no : ⊥ = cc in absurd no;
    does = λ st state before slots fit is held room has. let no : ⊥ = cc in absurd no;
  }
  level_follows (what.Instance instance) line = instance_follows object functions judgements instance line
  level_follows (what.Set name setting) line = record {
    keeps = keeps_same object functions judgements (judge_step (what.Set name setting) line) (λ st. omega arith) (λ st. refl) (λ st. omega arith) (λ st. refl) (λ st. refl);
    anywhere = λ e before other state. let no : ⊥ = cc in absurd no;
    does = λ st state before slots fit is held room has. let no : ⊥ = cc in absurd no;
  }
  level_follows (what.Call name arguments) line = call_follows object functions judgements named name arguments line
  level_follows (what.Print items) line = print_follows object functions judgements items line
  level_follows (what.If test ys []) line = if_follows object functions judgements test (runnings ys) (judgeds ys) line (blocks_follow ys)
  level_follows (what.If test ys (z ∷ zs)) line =
      if_else_follows object functions judgements test (runnings ys) (runnings (z ∷ zs)) (judgeds ys) (judged_of z.0) (judgeds zs) (blocks_follow ys) (blocks_follow (z ∷ zs)) line
  level_follows (what.For first test step ys) line =
      for_follows object functions judgements line (running_of judgements first.0) (judged_of first.0) test (running_of judgements step.0) (judged_of step.0) (runnings ys) (judgeds ys) first.1 step.1 (blocks_follow ys)
  level_follows (what.Return e) line = return_follows object functions judgements e line

  rolled : (x : What-F What Statement)
      → ((line : ℕ) → Follows object functions judgements (at_line (running_step judgements (map-What What Statement Lineless Numbered (running_what judgements) (running_of judgements) x)) line)
      (judge_step (map-What What Statement (ℕ → Judged) Judged judged_what judged_of x) line))
      → IsFollowedWhat (roll-What x)
  rolled x is line =
      subst (λ (l : Lineless). Follows object functions judgements (at_line l line) (judged_what (roll-What x) line))
      (sym (folds-What (running_step judgements) (λ statement. at_line statement.what statement.line) x))
      (subst (λ (j : ℕ → Judged). Follows object functions judgements (at_line (running_step judgements (map-What What Statement Lineless Numbered (running_what judgements) (running_of judgements) x)) line) (j line))
      (sym (fold-roll-What (ℕ → Judged) Judged judge_step (λ statement. statement.what statement.line) x)) (is line))

  rolled_statement : (x : Statement-F What Statement) → IsFollowedWhat x.what → IsFollowed (roll-Statement x)
  rolled_statement x is =
      subst (λ (n : Numbered). Follows object functions judgements n (judged_of (roll-Statement x)))
      (sym (fold-roll-Statement Lineless Numbered (running_step judgements) (λ statement. at_line statement.what statement.line) x))
      (subst (λ (j : Judged). Follows object functions judgements (at_line (running_what judgements x.what) x.line) j)
      (sym (fold-roll-Statement (ℕ → Judged) Judged judge_step (λ statement. statement.what statement.line) x)) (is x.line))

  pub statement_follows : (s : Statement) → IsFollowed s
  statement_follows = ind-Statement IsFollowedWhat IsFollowed
      (λ x y is. subst (λ z. IsFollowedWhat (roll-What z)) is (rolled (plain_level y) (level_follows y)))
      (λ x y is. subst (λ z. IsFollowed (roll-Statement z)) is (rolled_statement (map-Statement FollowedWhat Followed What Statement (λ w. w.0) (λ s. s.0) y) y.what.1))

  with_proofs : List Statement → List Followed
  with_proofs [] = []
  with_proofs (s ∷ ss) = (s, statement_follows s) ∷ with_proofs ss

  without_proofs : (ss : List Statement) → statements_of (with_proofs ss) ≡ ss
  unfolding with_proofs
  without_proofs [] = refl
  without_proofs (s ∷ ss) = ap (λ l. s ∷ l) (without_proofs ss)

  -- the code of statements one after another does what they do
  pub statements_follow : (ss : List Statement)
      → Follows object functions judgements (record { declares = all_declared (map (running_of judgements) ss); run = in_sequence (map (running_of judgements) ss) })
      (record { emits = all_emitted (all_emits (map judged_of ss)); fits = sequence_fits (map judged_of ss); is_light = false; is_step = false })
  statements_follow ss =
      subst (λ (l : List Statement). Follows object functions judgements (record { declares = all_declared (map (running_of judgements) l); run = in_sequence (map (running_of judgements) l) })
      (record { emits = all_emitted (all_emits (map judged_of l)); fits = sequence_fits (map judged_of l); is_light = false; is_step = false }))
      (without_proofs ss) (sequence_follows (with_proofs ss))
