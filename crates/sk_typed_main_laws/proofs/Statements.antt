-- Each statement of main fits the names in scope, where no fault is told of it, it is formed as a text has it, and it declares
-- vectors and Maps alone.
use Rattle.std.proofs.Common.{◌≡◌, ℕ, Bool, true, ◌&&◌, List, [], ◌∷◌, ◌++◌, map, refl, sym, ap, subst}
use Rattle.std.proofs.lemmas.Bool.{and_from}
use Rattle.sk_main_fits.proofs.Emission.{judged_what}
use Rattle.sk_main_fits.specs.Fits.{fits}
use Rattle.sk_main_fits.specs.StatementFits.{Judged, all_emits, behind_line, behind_loop_test, behind_test, judge_step, judged_of, loop_fits, sequence_fits}
use Rattle.sk_main_scheme.specs.MainScheme.{Emitting, Standing, all_emitted, around_at, block_emitted, if_emitted, main_piece, placed_behind}
use Rattle.sk_plain.proofs.Parts.{statements_of, plain_level}
use Rattle.sk_plain.proofs.Truths.{and_left, and_right}
use Rattle.sk_scheme.specs.Scheme.{Known as Callee}
use Rattle.sk_tree.specs.declared.tree.Expr.{Expr}
use Rattle.sk_tree.specs.declared.tree.Function.{Function}
use Rattle.sk_tree.specs.declared.tree.Statement.{Statement, Statement-F, roll-Statement, map-Statement, ind-Statement, fold-roll-Statement}
use Rattle.sk_tree.specs.declared.tree.What.{What, What-F, roll-What, map-What, fold-What, fold-roll-What}
use Rattle.sk_tree.specs.declared.tree.What.TheOpen as what
use Rattle.sk_typed_laws.proofs.Statements.{formed_what}
use Rattle.sk_typed_laws.proofs.Untold.{no_faults}
use Rattle.sk_typed_laws.specs.Forms.{Formed, all_sized, formed_of, formed_step, is_sized}
use Rattle.sk_typed_main_laws.proofs.Instances.{IsMain}
use Rattle.sk_typed_main_laws.proofs.SingleStatements.{IsAt, IsFine, IsFineAt, StandsAt, assign_fine, call_fine, declare_fine, heavy, instance_fine, make_fine, poke_fine, print_fine, return_fine, set_fine, take_fine, value_fits}
use Rattle.sk_typing.specs.TypingExpressions.{value_faults}
use Rattle.sk_typing.specs.TypingNames.{Knowns, Around}
use Rattle.sk_typing.specs.TypingStatements.{Walked, Walking, block_faults, in_order, inside, walking_of, walking_step}
use Rattle.sk_typing_laws.proofs.Levels.{walking_what, walking-roll}
use Rattle.sk_vector_form.specs.VectorForm.{all_hold, form_step, is_of_vectors}

abbrev vectors_what : What → Bool
vectors_what = fold-What Bool Bool form_step (λ statement. statement.what)

module _ (callees : List (List ℕ × Callee)) where
  abbrev pub IsFinely : Statement → Type 0
  IsFinely s = IsFine callees (walking_of s) (formed_of s) (is_of_vectors s) (judged_of s)

  abbrev IsFineWhat : What → Type 0
  IsFineWhat w = (line : ℕ) → IsFine callees (walking_what w line) (formed_what w) (vectors_what w) (judged_what w line)

  abbrev Parts : Type 0
  Parts = List ((s : Statement) × IsFinely s)

  abbrev walks : Parts → List Walking
  walks ys = map walking_of (statements_of ys)

  abbrev forms : Parts → List Formed
  forms ys = map formed_of (statements_of ys)

  abbrev vectors : Parts → List Bool
  vectors ys = map is_of_vectors (statements_of ys)

  abbrev judgeds : Parts → List Judged
  judgeds ys = map judged_of (statements_of ys)

  abbrev emits : Parts → List Emitting
  emits ys = all_emits (judgeds ys)

  -- ---- statements one after another

  sequence_fine : (ys : Parts) (around : Around) (names : Knowns) (standing : Standing) → IsMain around.functions around.number around.in_main → StandsAt callees around names standing
      → all_sized (forms ys) ≡ true → all_hold (vectors ys) ≡ true → (in_order (walks ys) around names).faults ≡ []
      → IsFineAt callees around.functions around.number (in_order (walks ys) around names).names (sequence_fits (judgeds ys) callees standing) (all_emitted (emits ys) callees standing).behind
  sequence_fine [] around names standing main s sized v e = record { fits = refl; stands = s }
  sequence_fine (y ∷ ys) around names standing main s sized v e =
      let first : Walked = walking_of y.0 around names in
      let told = no_faults first.faults (in_order (walks ys) around first.names).faults e in
      let behind : Standing = ((judged_of y.0).emits callees standing).behind in
      let one = y.1.fine around names standing main s (and_left (formed_of y.0).sized (all_sized (forms ys)) sized) (and_left (is_of_vectors y.0) (all_hold (vectors ys)) v) told.0 in
      let more = sequence_fine ys around first.names behind main one.stands (and_right (formed_of y.0).sized (all_sized (forms ys)) sized) (and_right (is_of_vectors y.0) (all_hold (vectors ys)) v) told.1 in
      record { fits = and_from ((judged_of y.0).fits callees standing) (sequence_fits (judgeds ys) callees behind) one.fits more.fits; stands = more.stands }

  -- a block, whose names end with it
  block_fine : (ys : Parts) (around : Around) (names : Knowns) (standing : Standing) → IsMain around.functions around.number around.in_main → StandsAt callees around names standing
      → all_sized (forms ys) ≡ true → all_hold (vectors ys) ≡ true → block_faults (walks ys) around names ≡ []
      → IsFineAt callees around.functions around.number names (sequence_fits (judgeds ys) callees standing) (block_emitted (emits ys) callees standing).behind
  block_fine ys around names standing main s sized v e =
      let inner = sequence_fine ys (inside around) names standing main s sized v e in
      record { fits = inner.fits; stands = record { agree = s.agree; maps = inner.stands.maps } }

  -- ---- `if`

  if_behind : (functions : List Function) (own : ℕ) (names : Knowns) (test : Expr) (ys zs : Parts) (standing : Standing)
      → (let inner : Standing = behind_test test callees standing in
      let behind : Standing = (block_emitted (emits ys) callees inner).behind in IsAt callees functions own names behind.scope behind.instances)
      → (let inner : Standing = behind_test test callees standing in
      let third : Standing = placed_behind (block_emitted (emits ys) callees inner).behind 1 in
      let behind : Standing = (block_emitted (emits zs) callees third).behind in IsAt callees functions own names behind.scope behind.instances)
      → let behind : Standing = (if_emitted (main_piece test) (emits ys) (emits zs) callees standing).behind in IsAt callees functions own names behind.scope behind.instances
  if_behind functions own names test ys [] standing one other = one
  if_behind functions own names test ys (z ∷ zs) standing one other = other

  if_fine : (test : Expr) (ys zs : Parts) (line : ℕ)
      → IsFine callees (walking_step (what.If test (walks ys) (walks zs)) line) (formed_step (what.If test (forms ys) (forms zs))) (form_step (what.If test (vectors ys) (vectors zs)))
      (judge_step (what.If test (judgeds ys) (judgeds zs)) line)
  if_fine test ys zs line = heavy callees _ _ _ _ (λ around names standing main s sized v e.
      let here : Around = record around { line = line } in
      let told = no_faults (value_faults here names test ++ block_faults (walks ys) here names) (block_faults (walks zs) here names) e in
      let more = no_faults (value_faults here names test) (block_faults (walks ys) here names) told.0 in
      let sized2 = and_left (is_sized test && all_sized (forms ys)) (all_sized (forms zs)) sized in
      let counted : Standing = behind_line standing in
      let inner : Standing = behind_test test callees counted in
      let third : Standing = placed_behind (block_emitted (emits ys) callees inner).behind 1 in
      let t : Bool = fits test (around_at callees counted) in
      let a : Bool = sequence_fits (judgeds ys) callees inner in
      let b : Bool = sequence_fits (judgeds zs) callees third in
      let t_is = value_fits callees test here names counted main s (and_left (is_sized test) (all_sized (forms ys)) sized2) more.0 in
      let one = block_fine ys here names inner main s (and_right (is_sized test) (all_sized (forms ys)) sized2) (and_left (all_hold (vectors ys)) (all_hold (vectors zs)) v) more.1 in
      let other = block_fine zs here names third main one.stands (and_right (is_sized test && all_sized (forms ys)) (all_sized (forms zs)) sized)
      (and_right (all_hold (vectors ys)) (all_hold (vectors zs)) v) told.1 in
      record {
        fits = and_from (t && a) b (and_from t a t_is one.fits) other.fits;
        stands = if_behind around.functions around.number names test ys zs counted one.stands other.stands;
      })

  -- ---- `for`

  for_fine : (first : Statement) (f : IsFinely first) (test : Expr) (step : Statement) (g : IsFinely step) (ys : Parts) (line : ℕ)
      → IsFine callees (walking_step (what.For (walking_of first) test (walking_of step) (walks ys)) line)
      (formed_step (what.For (formed_of first) test (formed_of step) (forms ys))) (form_step (what.For (is_of_vectors first) test (is_of_vectors step) (vectors ys)))
      (judge_step (what.For (judged_of first) test (judged_of step) (judgeds ys)) line)
  for_fine first f test step g ys line = heavy callees _ _ _ _ (λ around names standing main s sized v e.
      let here : Around = inside (record around { line = line }) in
      let begun : Walked = walking_of first here names in
      let ff : Formed = formed_of first in
      let fs : Formed = formed_of step in
      let body : Bool = all_sized (forms ys) in
      let s5 = and_left (ff.is_light && fs.is_step && ff.sized && is_sized test && fs.sized) body sized in
      let s4 = and_left (ff.is_light && fs.is_step && ff.sized && is_sized test) fs.sized s5 in
      let s3 = and_left (ff.is_light && fs.is_step && ff.sized) (is_sized test) s4 in
      let s2 = and_left (ff.is_light && fs.is_step) ff.sized s3 in
      let v2 = and_left (is_of_vectors first && is_of_vectors step) (all_hold (vectors ys)) v in
      let e3 = no_faults (begun.faults ++ value_faults here begun.names test ++ block_faults (walks ys) here begun.names) (walking_of step here begun.names).faults e in
      let e2 = no_faults (begun.faults ++ value_faults here begun.names test) (block_faults (walks ys) here begun.names) e3.0 in
      let e1 = no_faults begun.faults (value_faults here begun.names test) e2.0 in
      let jf : Judged = judged_of first in
      let js : Judged = judged_of step in
      let within : Standing = (jf.emits callees standing).behind in
      let inner : Standing = behind_loop_test test callees within in
      let behind : Standing = (block_emitted (emits ys) callees inner).behind in
      let light = f.light (and_left ff.is_light fs.is_step s2) in
      let steps = g.step (and_right ff.is_light fs.is_step s2) in
      let one = f.fine here names standing main s (and_right (ff.is_light && fs.is_step) ff.sized s3) (and_left (is_of_vectors first) (is_of_vectors step) v2) e1.0 in
      let t_is = value_fits callees test here begun.names within main one.stands (and_right (ff.is_light && fs.is_step && ff.sized) (is_sized test) s4) e1.1 in
      let each = block_fine ys here begun.names inner main one.stands (and_right (ff.is_light && fs.is_step && ff.sized && is_sized test && fs.sized) body sized)
      (and_right (is_of_vectors first && is_of_vectors step) (all_hold (vectors ys)) v) e2.1 in
      let last = g.fine here begun.names behind main each.stands (and_right (ff.is_light && fs.is_step && ff.sized && is_sized test) fs.sized s5)
      (and_right (is_of_vectors first) (is_of_vectors step) v2) e3.1 in
      let t : Bool = fits test (around_at callees within) in
      let a : Bool = sequence_fits (judgeds ys) callees inner in
      let b : Bool = js.fits callees behind in
      record {
        fits = and_from (jf.is_light && jf.fits callees standing) (loop_fits test (judgeds ys) js callees within) (and_from jf.is_light (jf.fits callees standing) light one.fits)
            (and_from (t && a && js.is_step) b (and_from (t && a) js.is_step (and_from t a t_is each.fits) steps) last.fits);
        stands = record { agree = s.agree; maps = last.stands.maps };
      })

  -- ---- all statements

  abbrev FineWhat : Type 0
  FineWhat = (w : What) × IsFineWhat w

  abbrev FineStatement : Type 0
  FineStatement = (s : Statement) × IsFinely s

  level_fine : (y : What-F FineWhat FineStatement) (line : ℕ)
      → IsFine callees (walking_step (map-What What Statement (ℕ → Walking) Walking walking_what walking_of (plain_level y)) line)
      (formed_step (map-What What Statement Formed Formed formed_what formed_of (plain_level y)))
      (form_step (map-What What Statement Bool Bool vectors_what is_of_vectors (plain_level y)))
      (judge_step (map-What What Statement (ℕ → Judged) Judged judged_what judged_of (plain_level y)) line)
  level_fine (what.Declare ty name expr) line = declare_fine callees ty name expr line
  level_fine (what.Assign name expr) line = assign_fine callees name expr line
  level_fine (what.Poke name places expr) line = poke_fine callees name places expr line
  level_fine (what.Make dimension ty name arguments) line = make_fine callees dimension ty name arguments line
  level_fine (what.Take dimension ty name input) line = take_fine callees dimension ty name input line
  level_fine (what.Instance instance) line = instance_fine callees instance line
  level_fine (what.Set name setting) line = set_fine callees name setting line
  level_fine (what.Call name arguments) line = call_fine callees name arguments line
  level_fine (what.Print items) line = print_fine callees items line
  level_fine (what.If test ys zs) line = if_fine test ys zs line
  level_fine (what.For first test step ys) line = for_fine first.0 first.1 test step.0 step.1 ys line
  level_fine (what.Return expr) line = return_fine callees expr line

  rolled : (x : What-F What Statement) → ((line : ℕ) → IsFine callees (walking_step (map-What What Statement (ℕ → Walking) Walking walking_what walking_of x) line)
      (formed_step (map-What What Statement Formed Formed formed_what formed_of x)) (form_step (map-What What Statement Bool Bool vectors_what is_of_vectors x))
      (judge_step (map-What What Statement (ℕ → Judged) Judged judged_what judged_of x) line))
      → IsFineWhat (roll-What x)
  rolled x is line =
      let walk : ℕ → Walking = walking_step (map-What What Statement (ℕ → Walking) Walking walking_what walking_of x) in
      let form : Formed = formed_step (map-What What Statement Formed Formed formed_what formed_of x) in
      let vectors_are : Bool = form_step (map-What What Statement Bool Bool vectors_what is_of_vectors x) in
      subst (λ (w : ℕ → Walking). IsFine callees (w line) (formed_what (roll-What x)) (vectors_what (roll-What x)) (judged_what (roll-What x) line)) (sym (walking-roll x))
      (subst (λ (f : Formed). IsFine callees (walk line) f (vectors_what (roll-What x)) (judged_what (roll-What x) line)) (sym (fold-roll-What Formed Formed formed_step (λ statement. statement.what) x))
      (subst (λ (v : Bool). IsFine callees (walk line) form v (judged_what (roll-What x) line)) (sym (fold-roll-What Bool Bool form_step (λ statement. statement.what) x))
      (subst (λ (j : ℕ → Judged). IsFine callees (walk line) form vectors_are (j line))
      (sym (fold-roll-What (ℕ → Judged) Judged judge_step (λ statement. statement.what statement.line) x)) (is line))))

  rolled_statement : (x : Statement-F What Statement) → IsFineWhat x.what → IsFinely (roll-Statement x)
  rolled_statement x is =
      subst (λ (w : Walking). IsFine callees w (formed_of (roll-Statement x)) (is_of_vectors (roll-Statement x)) (judged_of (roll-Statement x)))
      (sym (fold-roll-Statement (ℕ → Walking) Walking walking_step (λ statement. statement.what statement.line) x))
      (subst (λ (f : Formed). IsFine callees (walking_what x.what x.line) f (is_of_vectors (roll-Statement x)) (judged_of (roll-Statement x)))
      (sym (fold-roll-Statement Formed Formed formed_step (λ statement. statement.what) x))
      (subst (λ (v : Bool). IsFine callees (walking_what x.what x.line) (formed_what x.what) v (judged_of (roll-Statement x)))
      (sym (fold-roll-Statement Bool Bool form_step (λ statement. statement.what) x))
      (subst (λ (j : Judged). IsFine callees (walking_what x.what x.line) (formed_what x.what) (vectors_what x.what) j)
      (sym (fold-roll-Statement (ℕ → Judged) Judged judge_step (λ statement. statement.what statement.line) x)) (is x.line))))

  -- each statement without a fault fits
  pub statement_fine : (s : Statement) → IsFinely s
  statement_fine = ind-Statement IsFineWhat IsFinely
      (λ x y is. subst (λ z. IsFineWhat (roll-What z)) is (rolled (plain_level y) (level_fine y)))
      (λ x y is. subst (λ z. IsFinely (roll-Statement z)) is (rolled_statement (map-Statement FineWhat FineStatement What Statement (λ w. w.0) (λ s. s.0) y) y.what.1))

  with_proofs : List Statement → Parts
  with_proofs [] = []
  with_proofs (s ∷ ss) = (s, statement_fine s) ∷ with_proofs ss

  without_proofs : (ss : List Statement) → statements_of (with_proofs ss) ≡ ss
  unfolding with_proofs
  without_proofs [] = refl
  without_proofs (s ∷ ss) = ap (λ l. s ∷ l) (without_proofs ss)

  -- statements one after another
  pub statements_fine : (ss : List Statement) (around : Around) (names : Knowns) (standing : Standing) → IsMain around.functions around.number around.in_main
      → StandsAt callees around names standing → all_sized (map formed_of ss) ≡ true → all_hold (map is_of_vectors ss) ≡ true → (in_order (map walking_of ss) around names).faults ≡ []
      → IsFineAt callees around.functions around.number (in_order (map walking_of ss) around names).names (sequence_fits (map judged_of ss) callees standing)
      (all_emitted (all_emits (map judged_of ss)) callees standing).behind
  statements_fine ss around names standing main s =
      subst (λ (l : List Statement). all_sized (map formed_of l) ≡ true → all_hold (map is_of_vectors l) ≡ true → (in_order (map walking_of l) around names).faults ≡ []
      → IsFineAt callees around.functions around.number (in_order (map walking_of l) around names).names (sequence_fits (map judged_of l) callees standing)
      (all_emitted (all_emits (map judged_of l)) callees standing).behind)
      (without_proofs ss) (sequence_fine (with_proofs ss) around names standing main s)
