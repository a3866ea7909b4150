-- A block that returns does not go on.
use Rattle.std.proofs.Common.{◌≡◌, ℕ, List, [], ◌∷◌, map, ℤ, refl, sym, subst}
use Rattle.std.specs.Prelude.{Result, Ok, Err, if◌then◌else◌, true, false, Bool, ◌||◌}
use Rattle.std.specs.List.{list_any}
use Rattle.sk_base.specs.declared.number.Trap.{Trap}
use Rattle.sk_meaning.specs.Evaluation.{Callables, Scope, Flow, Going, Returned, Doing, and_then, in_block, in_sequence, value_in, doing_of, doing_step}
use Rattle.sk_meaning.specs.Expressions.{holds, then_do}
use Rattle.sk_meaning.specs.EvaluationLaws.{doing_what, doing-roll}
use Rattle.sk_tree.specs.declared.tree.Statement.{Statement, Statement-F, roll-Statement, map-Statement, ind-Statement, fold-roll-Statement}
use Rattle.sk_tree.specs.declared.tree.What.{What, What-F, roll-What, map-What, fold-roll-What}
use Rattle.sk_tree.specs.declared.tree.What.TheOpen as what
use Rattle.sk_plain.specs.Plain.{returns_of, returns_step}
use Rattle.sk_plain.proofs.Truths.{and_left, and_right}
use Rattle.sk_plain.specs.PlainLaws.{returns_what}
use Rattle.sk_plain.proofs.Parts.{statements_of, returning, plain_level}

abbrev pub IsOver : Flow → Type 0
IsOver (Going scope) = ⊥
IsOver (Returned value) = Unit {0}

-- it returns, or has a trap
abbrev pub GoesNoFurther : Result (Flow × ℕ) Trap → Type 0
GoesNoFurther (Ok done) = IsOver done.0
GoesNoFurther (Err trap) = Unit {0}

flow_over : (flow : Flow) (turns : ℕ) (next : Scope → ℕ → Result (Flow × ℕ) Trap) → IsOver flow → GoesNoFurther (and_then (Ok (flow, turns)) next)
flow_over (Going scope) turns next over = absurd over
flow_over (Returned value) turns next over = tt

then_over : (o : Result (Flow × ℕ) Trap) (next : Scope → ℕ → Result (Flow × ℕ) Trap) → GoesNoFurther o → GoesNoFurther (and_then o next)
then_over (Ok done) next over = flow_over done.0 done.1 next over
then_over (Err trap) next over = tt

flow_next_over : (flow : Flow) (turns : ℕ) (next : Scope → ℕ → Result (Flow × ℕ) Trap) → ((scope : Scope) (turns : ℕ) → GoesNoFurther (next scope turns)) → GoesNoFurther (and_then (Ok (flow, turns)) next)
flow_next_over (Going scope) turns next over = over scope turns
flow_next_over (Returned value) turns next over = tt

next_over : (o : Result (Flow × ℕ) Trap) (next : Scope → ℕ → Result (Flow × ℕ) Trap) → ((scope : Scope) (turns : ℕ) → GoesNoFurther (next scope turns)) → GoesNoFurther (and_then o next)
next_over (Ok done) next over = flow_next_over done.0 done.1 next over
next_over (Err trap) next over = tt

value_over : (o : Result (ℤ × ℕ) Trap) (next : ℤ → ℕ → Result (Flow × ℕ) Trap) → ((value : ℤ) (turns : ℕ) → GoesNoFurther (next value turns)) → GoesNoFurther (then_do o next)
value_over (Ok done) next over = over done.0 done.1
value_over (Err trap) next over = tt

-- where it returns, it goes no further
pub record Stops (doing : Doing) (returns : Bool) : Type 0 where
  pub by : returns ≡ true → (callables : Callables) (scope : Scope) (turns : ℕ) → GoesNoFurther (doing callables scope turns)

never_stops : (doing : Doing) → Stops doing false
never_stops doing = record { by = λ e callables scope turns. let no : ⊥ = cc in absurd no }

abbrev StopsOf : Statement → Type 0
StopsOf s = Stops (doing_of s) (returns_of s)

abbrev StopsWhat : What → Type 0
StopsWhat w = Stops (doing_what w) (returns_what w)

abbrev Whats : Type 0
Whats = (w : What) × StopsWhat w

abbrev Stopping : Type 0
Stopping = (s : Statement) × StopsOf s

pair_stops : (first rest : Doing) (b c : Bool) → Stops first b → Stops rest c
    → Stops (λ callables scope turns. and_then (first callables scope turns) (λ scope turns. rest callables scope turns)) (b || c)
pair_stops first rest true c f g = record { by = λ e callables scope turns. then_over (first callables scope turns) _ (f.by refl callables scope turns) }
pair_stops first rest false c f g = record { by = λ e callables scope turns. next_over (first callables scope turns) _ (λ scope turns. g.by e callables scope turns) }

sequence_stops : (ys : List Stopping) → Stops (in_sequence (map doing_of (statements_of ys))) (list_any (λ part. part) (map returns_of (statements_of ys)))
sequence_stops [] = never_stops (in_sequence [])
sequence_stops (y ∷ ys) =
    pair_stops (doing_of y.0) (in_sequence (map doing_of (statements_of ys))) (returns_of y.0) (list_any (λ part. part) (map returns_of (statements_of ys))) y.1 (sequence_stops ys)

block_stops : (ys : List Stopping) → Stops (in_block (map doing_of (statements_of ys))) (list_any (λ part. part) (map returns_of (statements_of ys)))
block_stops ys = record { by = λ e callables scope turns. then_over (in_sequence (map doing_of (statements_of ys)) callables scope turns) _ ((sequence_stops ys).by e callables scope turns) }

either_over : (b : Bool) (one other : List Doing) (callables : Callables) (scope : Scope) (turns : ℕ) → GoesNoFurther (in_block one callables scope turns)
    → GoesNoFurther (in_block other callables scope turns) → GoesNoFurther (in_block (if b then one else other) callables scope turns)
either_over true one other callables scope turns f g = f
either_over false one other callables scope turns f g = g

level_stops : (y : What-F Whats Stopping) → Stops (doing_step (map-What What Statement Doing Doing doing_what doing_of (plain_level y))) (returns_step (map-What What Statement Bool Bool returns_what returns_of (plain_level y)))
level_stops (what.Declare ty name expr) = never_stops _
level_stops (what.Assign name expr) = never_stops _
level_stops (what.Poke name places expr) = never_stops _
level_stops (what.Make kind ty name arguments) = never_stops _
level_stops (what.Take kind ty name text) = never_stops _
level_stops (what.Instance instance) = never_stops _
level_stops (what.Set name setting) = never_stops _
level_stops (what.Call name arguments) = never_stops _
level_stops (what.Print items) = never_stops _
level_stops (what.If test ys zs) = record {
  by = λ e callables scope turns.
      value_over (value_in test callables scope turns) _ (λ value turns.
      either_over (holds value) (map doing_of (statements_of ys)) (map doing_of (statements_of zs)) callables scope turns
      ((block_stops ys).by (and_left (returning ys) (returning zs) e) callables scope turns) ((block_stops zs).by (and_right (returning ys) (returning zs) e) callables scope turns));
}
level_stops (what.For first test step ys) = never_stops _
level_stops (what.Return expr) = record { by = λ e callables scope turns. value_over (value_in expr callables scope turns) _ (λ value turns. tt) }

rolled : (x : What-F What Statement) → Stops (doing_step (map-What What Statement Doing Doing doing_what doing_of x)) (returns_step (map-What What Statement Bool Bool returns_what returns_of x)) → StopsWhat (roll-What x)
rolled x is =
    subst (λ (d : Doing). Stops d (returns_what (roll-What x))) (sym (doing-roll x))
    (subst (λ (b : Bool). Stops (doing_step (map-What What Statement Doing Doing doing_what doing_of x)) b) (sym (fold-roll-What Bool Bool returns_step (λ statement. statement.what) x)) is)

rolled_statement : (x : Statement-F What Statement) → StopsWhat x.what → StopsOf (roll-Statement x)
rolled_statement x is =
    subst (λ (d : Doing). Stops d (returns_of (roll-Statement x))) (sym (fold-roll-Statement Doing Doing doing_step (λ statement. statement.what) x))
    (subst (λ (b : Bool). Stops (doing_what x.what) b) (sym (fold-roll-Statement Bool Bool returns_step (λ statement. statement.what) x)) is)

statement_stops : (s : Statement) → StopsOf s
statement_stops = ind-Statement StopsWhat StopsOf
    (λ x y is. subst (λ z. StopsWhat (roll-What z)) is (rolled (plain_level y) (level_stops y)))
    (λ x y is. subst (λ z. StopsOf (roll-Statement z)) is (rolled_statement (map-Statement Whats Stopping What Statement (λ w. w.0) (λ s. s.0) y) y.what.1))

-- statements one after another, of which one returns
pub statements_stop : (ss : List Statement) → Stops (in_sequence (map doing_of ss)) (list_any returns_of ss)
statements_stop [] = never_stops (in_sequence [])
statements_stop (s ∷ ss) =
    pair_stops (doing_of s) (in_sequence (map doing_of ss)) (returns_of s) (list_any returns_of ss) (statement_stops s) (statements_stop ss)
