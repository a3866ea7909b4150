-- A statement of a function is plain, where no fault is told of it and it is formed as a text has it.
use Rattle.std.proofs.Common.{◌≡◌, ℕ, Bool, true, false, List, [], ◌∷◌, ◌++◌, map, Option, Some, None, if◌then◌else◌, refl, sym, ap, ◌∙◌, subst}
use Rattle.std.proofs.lemmas.Bool.{and_from}
use Rattle.std.specs.Prelude.{◌&&◌, ◌||◌}
use Rattle.std.specs.Option.{option_and_then}
use Rattle.sk_base.specs.declared.number.Ty.{Ty}
use Rattle.sk_names.specs.Bindings.{bound_to}
use Rattle.sk_plain.proofs.Parts.{statements_of, plain_level}
use Rattle.sk_plain.proofs.Truths.{and_left, and_right}
use Rattle.sk_plain.specs.Plain.{Parameters, NamedKinds, is_scalar_name, is_plain_expression, is_some, is_some_and, Plainness, plainness_of, plainness_step, all_behind, block_is_plain, behind_if, loop_is_plain}
use Rattle.sk_plain.specs.PlainLaws.{plainness_what}
use Rattle.sk_tree.specs.declared.tree.Expr.{Expr}
use Rattle.sk_tree.specs.Parameters.{is_scalar}
use Rattle.sk_tree.specs.declared.tree.ParamKind.{ParamKind}
use Rattle.sk_tree.specs.declared.tree.ParamKind.TheVariants.{Scalar, Index, Proxy, Region}
use Rattle.sk_tree.specs.declared.tree.Statement.{Statement, Statement-F, roll-Statement, map-Statement, ind-Statement, fold-roll-Statement}
use Rattle.sk_tree.specs.declared.tree.What.{What, What-F, roll-What, map-What, fold-What, fold-roll-What}
use Rattle.sk_tree.specs.declared.tree.What.TheOpen as what
use Rattle.sk_typed_laws.proofs.Expressions.{expression_clear}
use Rattle.sk_typed_laws.proofs.Meant.{IsMeant, Agree, agree_variable}
use Rattle.sk_typed_laws.proofs.Untold.{no_faults}
use Rattle.sk_typed_laws.specs.Forms.{is_sized, Formed, formed_of, formed_step, only_sized, all_sized}
use Rattle.sk_typing.specs.TypingExpressions.{value_faults}
use Rattle.sk_typing.specs.TypingNames.{Knowns, Around, fault, twice_faults}
use Rattle.sk_typing.specs.TypingStatements.{Walked, Walking, walking_of, walking_step, in_order, inside, block_faults, of_main, assign_faults}
use Rattle.sk_typing.specs.declared.names.Fault.{Fault}
use Rattle.sk_typing.specs.declared.names.FaultKind.TheVariants.{Mismatch}
use Rattle.sk_typing.specs.declared.names.Known.{Known}
use Rattle.sk_typing.specs.declared.names.Known.TheVariants.{Variable, Function as FunctionName, Instance as InstanceName, Broken}
use Rattle.sk_typing_laws.proofs.Levels.{walking_what, walking-roll}

-- what stands in main alone is at fault in a function
not_of_main : (around : Around) (walked : Walked) (names : Knowns) → around.in_main ≡ false → (of_main around walked names).faults ≡ [] → ⊥
not_of_main around walked names m e = by_test around.in_main m e
  where
    by_test : (b : Bool) → b ≡ false → (if b then walked else record { faults = fault around Mismatch; names = names }).faults ≡ [] → ⊥
    by_test true m e = cc
    by_test false m e = cc

-- an assignment without a fault is to a scalar
assign_parts : (around : Around) (kind : Option ParamKind) (kinds : Option (List ParamKind)) (known : Option Known) (value : List Fault) → IsMeant around.functions around.number kind kinds known
    → assign_faults around known value ≡ [] → (is_some_and is_scalar kind ≡ true) × (value ≡ [])
assign_parts around kind kinds None value h e = let no : ⊥ = cc in absurd no
assign_parts around kind kinds (Some (Variable (Scalar ty))) value h e = (ap (λ (k : Option ParamKind). is_some_and is_scalar k) h, e)
assign_parts around kind kinds (Some (Variable (Index dimension))) value h e = let no : ⊥ = cc in absurd no
assign_parts around kind kinds (Some (Variable (Proxy dimension ty))) value h e = let no : ⊥ = cc in absurd no
assign_parts around kind kinds (Some (Variable (Region dimension ty))) value h e = let no : ⊥ = cc in absurd no
assign_parts around kind kinds (Some (FunctionName number)) value h e = let no : ⊥ = cc in absurd no
assign_parts around kind kinds (Some (InstanceName made)) value h e = absurd h
assign_parts around kind kinds (Some Broken) value h e = absurd h

abbrev pub formed_what : What → Formed
formed_what = fold-What Formed Formed formed_step (λ statement. statement.what)

module _ (parameters : Parameters) where
  -- the scalars in scope behind what is plain
  pub record IsBehind (around : Around) (names : Knowns) (after : Option NamedKinds) : Type 0 where
    pub scalars : NamedKinds
    pub is : after ≡ Some scalars
    pub agree : Agree around.functions around.number parameters names scalars

  abbrev Behind : Walking → Bool → Plainness → Type 0
  Behind walk sized plain = (around : Around) (names : Knowns) (scalars : NamedKinds) → around.in_main ≡ false → Agree around.functions around.number parameters names scalars
      → sized ≡ true → (walk around names).faults ≡ [] → IsBehind around (walk around names).names (plain.behind parameters scalars)

  -- a statement without a fault is plain
  pub record IsClearStatement (walk : Walking) (form : Formed) (plain : Plainness) : Type 0 where
    pub light : (around : Around) (names : Knowns) → around.in_main ≡ false → form.is_light ≡ true → (walk around names).faults ≡ [] → (plain.declares || plain.assigns) ≡ true
    pub step : (around : Around) (names : Knowns) → around.in_main ≡ false → form.is_step ≡ true → (walk around names).faults ≡ [] → plain.assigns ≡ true
    pub behind : Behind walk form.sized plain

  never_clear : (walk : Walking) (form : Formed) (plain : Plainness) → ((around : Around) (names : Knowns) → around.in_main ≡ false → (walk around names).faults ≡ [] → ⊥)
      → IsClearStatement walk form plain
  never_clear walk form plain never = record {
    light = λ around names m l e. absurd (never around names m e);
    step = λ around names m l e. absurd (never around names m e);
    behind = λ around names scalars m a s e. absurd (never around names m e);
  }

  -- a statement with which no loop begins
  heavy_clear : (walk : Walking) (sized : Bool) (plain : Plainness) → Behind walk sized plain → IsClearStatement walk (only_sized sized) plain
  heavy_clear walk sized plain f = record {
    light = λ around names m l e. let no : ⊥ = cc in absurd no;
    step = λ around names m l e. let no : ⊥ = cc in absurd no;
    behind = f;
  }

  -- a statement that is plain under a test, and declares nothing
  tested : (around : Around) (names : Knowns) (scalars : NamedKinds) (test : Bool) → test ≡ true → Agree around.functions around.number parameters names scalars
      → IsBehind around names (behind_if test scalars)
  tested around names scalars test e a = record { scalars = scalars; is = ap (λ b. behind_if b scalars) e; agree = a }

  declare_clear : (ty : Ty) (name : List ℕ) (expr : Expr) (line : ℕ)
      → IsClearStatement (walking_step (what.Declare ty name expr) line) (formed_step (what.Declare ty name expr)) (plainness_step (what.Declare ty name expr))
  declare_clear ty name expr line = record {
    light = λ around names m l e. refl;
    step = λ around names m l e. let no : ⊥ = cc in absurd no;
    behind = λ around names scalars m a s e.
        let here : Around = record around { line = line } in
        let parts = no_faults (twice_faults here names name) (value_faults here names expr) e in
        let fine = (expression_clear parameters expr).plain_is here names scalars m a s parts.1 in
        record {
          scalars = (name, Scalar ty) ∷ scalars;
          is = ap (λ b. behind_if b ((name, Scalar ty) ∷ scalars)) fine;
          agree = agree_variable around.functions around.number parameters names scalars name (Scalar ty) a;
        };
  }

  assign_clear : (name : List ℕ) (expr : Expr) (line : ℕ)
      → IsClearStatement (walking_step (what.Assign name expr) line) (formed_step (what.Assign name expr)) (plainness_step (what.Assign name expr))
  assign_clear name expr line = record {
    light = λ around names m l e. refl;
    step = λ around names m l e. refl;
    behind = λ around names scalars m a s e.
        let here : Around = record around { line = line } in
        let parts = assign_parts here (bound_to name scalars) (bound_to name parameters) (bound_to name names) (value_faults here names expr) (a.meant name) e in
        let fine = (expression_clear parameters expr).plain_is here names scalars m a s parts.1 in
        tested around names scalars (is_scalar_name name scalars && is_plain_expression expr parameters scalars)
        (and_from (is_scalar_name name scalars) (is_plain_expression expr parameters scalars) parts.0 fine) a;
  }

  return_clear : (expr : Expr) (line : ℕ)
      → IsClearStatement (walking_step (what.Return expr) line) (formed_step (what.Return expr)) (plainness_step (what.Return expr))
  return_clear expr line = heavy_clear _ _ _ (λ around names scalars m a s e.
      tested around names scalars (is_plain_expression expr parameters scalars)
      ((expression_clear parameters expr).plain_is (record around { line = line }) names scalars m a s e) a)

  abbrev pub IsClearly : Statement → Type 0
  IsClearly s = IsClearStatement (walking_of s) (formed_of s) (plainness_of s)

  abbrev IsClearWhat : What → Type 0
  IsClearWhat w = (line : ℕ) → IsClearStatement (walking_what w line) (formed_what w) (plainness_what w)

  abbrev Parts : Type 0
  Parts = List ((s : Statement) × IsClearly s)

  abbrev walks : Parts → List Walking
  walks ys = map walking_of (statements_of ys)

  abbrev forms : Parts → List Formed
  forms ys = map formed_of (statements_of ys)

  abbrev plains : Parts → List Plainness
  plains ys = map plainness_of (statements_of ys)

  sequence_clear : (ys : Parts) (around : Around) (names : Knowns) (scalars : NamedKinds) → around.in_main ≡ false → Agree around.functions around.number parameters names scalars
      → all_sized (forms ys) ≡ true → (in_order (walks ys) around names).faults ≡ []
      → IsBehind around (in_order (walks ys) around names).names (all_behind (plains ys) parameters scalars)
  sequence_clear [] around names scalars m a s e = record { scalars = scalars; is = refl; agree = a }
  sequence_clear (y ∷ ys) around names scalars m a s e =
      let first : Walked = walking_of y.0 around names in
      let parts = no_faults first.faults (in_order (walks ys) around first.names).faults e in
      let one = y.1.behind around names scalars m a (and_left (formed_of y.0).sized (all_sized (forms ys)) s) parts.0 in
      let more = sequence_clear ys around first.names one.scalars m one.agree (and_right (formed_of y.0).sized (all_sized (forms ys)) s) parts.1 in
      record {
        scalars = more.scalars;
        is = ap (λ o. option_and_then (λ inner. all_behind (plains ys) parameters inner) o) one.is ∙ more.is;
        agree = more.agree;
      }

  block_clear : (ys : Parts) (around : Around) (names : Knowns) (scalars : NamedKinds) → around.in_main ≡ false → Agree around.functions around.number parameters names scalars
      → all_sized (forms ys) ≡ true → block_faults (walks ys) around names ≡ [] → block_is_plain (plains ys) parameters scalars ≡ true
  block_clear ys around names scalars m a s e = ap is_some (sequence_clear ys (inside around) names scalars m a s e).is

  if_clear : (test : Expr) (ys zs : Parts) (line : ℕ)
      → IsClearStatement (walking_step (what.If test (walks ys) (walks zs)) line) (formed_step (what.If test (forms ys) (forms zs))) (plainness_step (what.If test (plains ys) (plains zs)))
  if_clear test ys zs line = heavy_clear _ _ _ (λ around names scalars m a s e.
      let here : Around = record around { line = line } in
      let parts = no_faults (value_faults here names test ++ block_faults (walks ys) here names) (block_faults (walks zs) here names) e in
      let more = no_faults (value_faults here names test) (block_faults (walks ys) here names) parts.0 in
      let two = and_left (is_sized test && all_sized (forms ys)) (all_sized (forms zs)) s in
      let t : Bool = is_plain_expression test parameters scalars in
      let b : Bool = block_is_plain (plains ys) parameters scalars in
      let c : Bool = block_is_plain (plains zs) parameters scalars in
      let t_is = (expression_clear parameters test).plain_is here names scalars m a (and_left (is_sized test) (all_sized (forms ys)) two) more.0 in
      let b_is = block_clear ys here names scalars m a (and_right (is_sized test) (all_sized (forms ys)) two) more.1 in
      let c_is = block_clear zs here names scalars m a (and_right (is_sized test && all_sized (forms ys)) (all_sized (forms zs)) s) parts.1 in
      tested around names scalars (t && b && c) (and_from (t && b) c (and_from t b t_is b_is) c_is) a)

  for_clear : (first : Statement) (f : IsClearly first) (test : Expr) (step : Statement) (g : IsClearly step) (ys : Parts) (line : ℕ)
      → IsClearStatement (walking_step (what.For (walking_of first) test (walking_of step) (walks ys)) line)
      (formed_step (what.For (formed_of first) test (formed_of step) (forms ys))) (plainness_step (what.For (plainness_of first) test (plainness_of step) (plains ys)))
  for_clear first f test step g ys line = heavy_clear _ _ _ (λ around names scalars m a s e.
      let here : Around = inside (record around { line = line }) in
      let begun : Walked = walking_of first here names in
      let ff : Formed = formed_of first in
      let fs : Formed = formed_of step in
      let jf : Plainness = plainness_of first in
      let js : Plainness = plainness_of step in
      let body : Bool = all_sized (forms ys) in
      let s5 = and_left (ff.is_light && fs.is_step && ff.sized && is_sized test && fs.sized) body s in
      let s4 = and_left (ff.is_light && fs.is_step && ff.sized && is_sized test) fs.sized s5 in
      let s3 = and_left (ff.is_light && fs.is_step && ff.sized) (is_sized test) s4 in
      let s2 = and_left (ff.is_light && fs.is_step) ff.sized s3 in
      let e3 = no_faults (begun.faults ++ value_faults here begun.names test ++ block_faults (walks ys) here begun.names) (walking_of step here begun.names).faults e in
      let e2 = no_faults (begun.faults ++ value_faults here begun.names test) (block_faults (walks ys) here begun.names) e3.0 in
      let e1 = no_faults begun.faults (value_faults here begun.names test) e2.0 in
      let one = f.behind here names scalars m a (and_right (ff.is_light && fs.is_step) ff.sized s3) e1.0 in
      let light = f.light here names m (and_left ff.is_light fs.is_step s2) e1.0 in
      let assigns = g.step here begun.names m (and_right ff.is_light fs.is_step s2) e3.1 in
      let after = g.behind here begun.names one.scalars m one.agree (and_right (ff.is_light && fs.is_step && ff.sized && is_sized test) fs.sized s5) e3.1 in
      let t_is = (expression_clear parameters test).plain_is here begun.names one.scalars m one.agree (and_right (ff.is_light && fs.is_step && ff.sized) (is_sized test) s4) e1.1 in
      let b_is = block_clear ys here begun.names one.scalars m one.agree (and_right (ff.is_light && fs.is_step && ff.sized && is_sized test && fs.sized) body s) e2.1 in
      let parts : NamedKinds → Bool = λ inner. is_plain_expression test parameters inner && block_is_plain (plains ys) parameters inner && is_some (js.behind parameters inner) in
      let t : Bool = is_plain_expression test parameters one.scalars in
      let b : Bool = block_is_plain (plains ys) parameters one.scalars in
      let c : Bool = is_some (js.behind parameters one.scalars) in
      let inner : parts one.scalars ≡ true = and_from (t && b) c (and_from t b t_is b_is) (ap is_some after.is) in
      let all : is_some_and parts (jf.behind parameters scalars) ≡ true = ap (λ o. is_some_and parts o) one.is ∙ inner in
      tested around names scalars (loop_is_plain jf test js (plains ys) parameters scalars)
      (and_from ((jf.declares || jf.assigns) && js.assigns) (is_some_and parts (jf.behind parameters scalars))
      (and_from (jf.declares || jf.assigns) js.assigns light assigns) all) a)

  abbrev ClearWhat : Type 0
  ClearWhat = (w : What) × IsClearWhat w

  abbrev Clear : Type 0
  Clear = (s : Statement) × IsClearly s

  level_clear : (y : What-F ClearWhat Clear) (line : ℕ)
      → IsClearStatement (walking_step (map-What What Statement (ℕ → Walking) Walking walking_what walking_of (plain_level y)) line)
      (formed_step (map-What What Statement Formed Formed formed_what formed_of (plain_level y)))
      (plainness_step (map-What What Statement Plainness Plainness plainness_what plainness_of (plain_level y)))
  level_clear (what.Declare ty name expr) line = declare_clear ty name expr line
  level_clear (what.Assign name expr) line = assign_clear name expr line
  level_clear (what.Poke name places expr) line = never_clear _ _ _ (λ around names m e. not_of_main (record around { line = line }) _ names m e)
  level_clear (what.Make dimension ty name arguments) line = never_clear _ _ _ (λ around names m e. not_of_main (record around { line = line }) _ _ m e)
  level_clear (what.Take dimension ty name input) line = never_clear _ _ _ (λ around names m e. not_of_main (record around { line = line }) _ _ m e)
  level_clear (what.Instance instance) line = never_clear _ _ _ (λ around names m e. not_of_main (record around { line = line }) _ _ m e)
  level_clear (what.Set name setting) line = never_clear _ _ _ (λ around names m e. not_of_main (record around { line = line }) _ names m e)
  level_clear (what.Call name arguments) line = never_clear _ _ _ (λ around names m e. not_of_main (record around { line = line }) _ names m e)
  level_clear (what.Print items) line = never_clear _ _ _ (λ around names m e. not_of_main (record around { line = line }) _ names m e)
  level_clear (what.If test ys zs) line = if_clear test ys zs line
  level_clear (what.For first test step ys) line = for_clear first.0 first.1 test step.0 step.1 ys line
  level_clear (what.Return expr) line = return_clear expr line

  rolled : (x : What-F What Statement) → ((line : ℕ) → IsClearStatement (walking_step (map-What What Statement (ℕ → Walking) Walking walking_what walking_of x) line)
      (formed_step (map-What What Statement Formed Formed formed_what formed_of x)) (plainness_step (map-What What Statement Plainness Plainness plainness_what plainness_of x)))
      → IsClearWhat (roll-What x)
  rolled x is line =
      subst (λ (w : ℕ → Walking). IsClearStatement (w line) (formed_what (roll-What x)) (plainness_what (roll-What x))) (sym (walking-roll x))
      (subst (λ (f : Formed). IsClearStatement (walking_step (map-What What Statement (ℕ → Walking) Walking walking_what walking_of x) line) f (plainness_what (roll-What x)))
      (sym (fold-roll-What Formed Formed formed_step (λ statement. statement.what) x))
      (subst (λ (j : Plainness). IsClearStatement (walking_step (map-What What Statement (ℕ → Walking) Walking walking_what walking_of x) line) (formed_step (map-What What Statement Formed Formed formed_what formed_of x)) j)
      (sym (fold-roll-What Plainness Plainness plainness_step (λ statement. statement.what) x)) (is line)))

  rolled_statement : (x : Statement-F What Statement) → IsClearWhat x.what → IsClearly (roll-Statement x)
  rolled_statement x is =
      subst (λ (w : Walking). IsClearStatement w (formed_of (roll-Statement x)) (plainness_of (roll-Statement x)))
      (sym (fold-roll-Statement (ℕ → Walking) Walking walking_step (λ statement. statement.what statement.line) x))
      (subst (λ (f : Formed). IsClearStatement (walking_what x.what x.line) f (plainness_of (roll-Statement x)))
      (sym (fold-roll-Statement Formed Formed formed_step (λ statement. statement.what) x))
      (subst (λ (j : Plainness). IsClearStatement (walking_what x.what x.line) (formed_what x.what) j)
      (sym (fold-roll-Statement Plainness Plainness plainness_step (λ statement. statement.what) x)) (is x.line)))

  -- each statement without a fault is plain
  pub statement_clear : (s : Statement) → IsClearly s
  statement_clear = ind-Statement IsClearWhat IsClearly
      (λ x y is. subst (λ z. IsClearWhat (roll-What z)) is (rolled (plain_level y) (level_clear y)))
      (λ x y is. subst (λ z. IsClearly (roll-Statement z)) is (rolled_statement (map-Statement ClearWhat Clear What Statement (λ w. w.0) (λ s. s.0) y) y.what.1))

  with_proofs : List Statement → Parts
  with_proofs [] = []
  with_proofs (s ∷ ss) = (s, statement_clear s) ∷ with_proofs ss

  without_proofs : (ss : List Statement) → statements_of (with_proofs ss) ≡ ss
  unfolding with_proofs
  without_proofs [] = refl
  without_proofs (s ∷ ss) = ap (λ l. s ∷ l) (without_proofs ss)

  -- statements one after another
  pub statements_clear : (ss : List Statement) (around : Around) (names : Knowns) (scalars : NamedKinds) → around.in_main ≡ false
      → Agree around.functions around.number parameters names scalars → all_sized (map formed_of ss) ≡ true → (in_order (map walking_of ss) around names).faults ≡ []
      → IsBehind around (in_order (map walking_of ss) around names).names (all_behind (map plainness_of ss) parameters scalars)
  statements_clear ss around names scalars m a =
      subst (λ (l : List Statement). all_sized (map formed_of l) ≡ true → (in_order (map walking_of l) around names).faults ≡ []
      → IsBehind around (in_order (map walking_of l) around names).names (all_behind (map plainness_of l) parameters scalars))
      (without_proofs ss) (sequence_clear (with_proofs ss) around names scalars m a)
