-- What is judged of a statement is judged of its code.
use Rattle.std.proofs.Common.{◌≡◌, ℕ, List, [], ◌∷◌, map, refl, sym, ap, ◌∙◌, subst}
use Rattle.sk_main_fits.specs.StatementFits.{Judged, all_emits, judge_step, judged_of}
use Rattle.sk_main_scheme.specs.MainScheme.{Emitting, emitting_of, emitting_step}
use Rattle.sk_plain.proofs.Parts.{statements_of, plain_level}
use Rattle.sk_tree.specs.declared.tree.Statement.{Statement, Statement-F, roll-Statement, map-Statement, ind-Statement, fold-roll-Statement}
use Rattle.sk_tree.specs.declared.tree.What.{What, What-F, roll-What, map-What, fold-What, fold-roll-What}
use Rattle.sk_tree.specs.declared.tree.What.TheOpen as what

-- what is judged of what a statement is, apart from its line
abbrev pub judged_what : What → ℕ → Judged
judged_what = fold-What (ℕ → Judged) Judged judge_step (λ statement. statement.what statement.line)

abbrev emitting_what : What → ℕ → Emitting
emitting_what = fold-What (ℕ → Emitting) Emitting emitting_step (λ statement. statement.what statement.line)

abbrev IsEmitted : Statement → Type 0
IsEmitted s = (judged_of s).emits ≡ emitting_of s

abbrev IsEmittedWhat : What → Type 0
IsEmittedWhat w = (line : ℕ) → (judged_what w line).emits ≡ emitting_what w line

abbrev Whats : Type 0
Whats = (w : What) × IsEmittedWhat w

abbrev Statements : Type 0
Statements = (s : Statement) × IsEmitted s

all_emitted_so : (ys : List Statements) → all_emits (map judged_of (statements_of ys)) ≡ map emitting_of (statements_of ys)
all_emitted_so [] = refl
all_emitted_so (y ∷ ys) = ap (λ (e : Emitting). e ∷ all_emits (map judged_of (statements_of ys))) y.1 ∙ ap (λ (l : List Emitting). emitting_of y.0 ∷ l) (all_emitted_so ys)

level_emitted : (y : What-F Whats Statements) (line : ℕ)
    → (judge_step (map-What What Statement (ℕ → Judged) Judged judged_what judged_of (plain_level y)) line).emits
    ≡ emitting_step (map-What What Statement (ℕ → Emitting) Emitting emitting_what emitting_of (plain_level y)) line
level_emitted (what.Declare ty name e) line = refl
level_emitted (what.Assign name e) line = refl
level_emitted (what.Poke name places e) line = refl
level_emitted (what.Make kind ty name arguments) line = refl
level_emitted (what.Take kind ty name text) line = refl
level_emitted (what.Instance instance) line = refl
level_emitted (what.Set name setting) line = refl
level_emitted (what.Call name arguments) line = refl
level_emitted (what.Print items) line = refl
level_emitted (what.If test ys zs) line =
    ap (λ (l : List Emitting). emitting_step (what.If test l (all_emits (map judged_of (statements_of zs)))) line) (all_emitted_so ys)
    ∙ ap (λ (l : List Emitting). emitting_step (what.If test (map emitting_of (statements_of ys)) l) line) (all_emitted_so zs)
level_emitted (what.For first test step ys) line =
    ap (λ (e : Emitting). emitting_step (what.For e test (judged_of step.0).emits (all_emits (map judged_of (statements_of ys)))) line) first.1
    ∙ ap (λ (e : Emitting). emitting_step (what.For (emitting_of first.0) test e (all_emits (map judged_of (statements_of ys)))) line) step.1
    ∙ ap (λ (l : List Emitting). emitting_step (what.For (emitting_of first.0) test (emitting_of step.0) l) line) (all_emitted_so ys)
level_emitted (what.Return e) line = refl

rolled : (x : What-F What Statement)
    → ((line : ℕ) → (judge_step (map-What What Statement (ℕ → Judged) Judged judged_what judged_of x) line).emits ≡ emitting_step (map-What What Statement (ℕ → Emitting) Emitting emitting_what emitting_of x) line)
    → IsEmittedWhat (roll-What x)
rolled x is line =
    ap (λ (j : ℕ → Judged). (j line).emits) (fold-roll-What (ℕ → Judged) Judged judge_step (λ statement. statement.what statement.line) x) ∙ is line
    ∙ sym (ap (λ (e : ℕ → Emitting). e line) (fold-roll-What (ℕ → Emitting) Emitting emitting_step (λ statement. statement.what statement.line) x))

rolled_statement : (x : Statement-F What Statement) → IsEmittedWhat x.what → IsEmitted (roll-Statement x)
rolled_statement x is =
    ap (λ (j : Judged). j.emits) (fold-roll-Statement (ℕ → Judged) Judged judge_step (λ statement. statement.what statement.line) x) ∙ is x.line
    ∙ sym (fold-roll-Statement (ℕ → Emitting) Emitting emitting_step (λ statement. statement.what statement.line) x)

pub statement_emitted : (s : Statement) → IsEmitted s
statement_emitted = ind-Statement IsEmittedWhat IsEmitted
    (λ x y is. subst (λ z. IsEmittedWhat (roll-What z)) is (rolled (plain_level y) (level_emitted y)))
    (λ x y is. subst (λ z. IsEmitted (roll-Statement z)) is (rolled_statement (map-Statement Whats Statements What Statement (λ w. w.0) (λ s. s.0) y) y.what.1))

pub statements_emitted : (ss : List Statement) → all_emits (map judged_of ss) ≡ map emitting_of ss
statements_emitted [] = refl
statements_emitted (s ∷ ss) = ap (λ (e : Emitting). e ∷ all_emits (map judged_of ss)) (statement_emitted s) ∙ ap (λ (l : List Emitting). emitting_of s ∷ l) (statements_emitted ss)
