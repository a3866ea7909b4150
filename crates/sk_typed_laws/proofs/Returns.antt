-- A block that returns by the rules of names and types is one that returns in a plain program.
use Rattle.std.proofs.Common.{◌≡◌, List, [], ◌∷◌, map, Bool, refl, sym, ap, ◌∙◌, subst}
use Rattle.std.specs.Prelude.{◌&&◌, ◌||◌}
use Rattle.std.specs.List.{list_any}
use Rattle.sk_plain.proofs.Parts.{statements_of, plain_level}
use Rattle.sk_plain.specs.Plain.{returns_of, returns_step}
use Rattle.sk_plain.specs.PlainLaws.{returns_what, returns-roll}
use Rattle.sk_tree.specs.declared.tree.Statement.{Statement, Statement-F, roll-Statement, map-Statement, ind-Statement, fold-roll-Statement}
use Rattle.sk_tree.specs.declared.tree.What.{What, What-F, roll-What, map-What}
use Rattle.sk_tree.specs.declared.tree.What.TheOpen as what
use Rattle.sk_typing.specs.TypingStatements.{returning_of, returning_step, block_returns}
use Rattle.sk_typing_laws.proofs.Levels.{returning_what, returning-roll}

abbrev Same : Statement → Type 0
Same s = returning_of s ≡ returns_of s

abbrev SameWhat : What → Type 0
SameWhat w = returning_what w ≡ returns_what w

abbrev Both : Type 0
Both = (s : Statement) × Same s

abbrev BothWhat : Type 0
BothWhat = (w : What) × SameWhat w

any_same : (ys : List Both) → list_any (λ returns. returns) (map returning_of (statements_of ys)) ≡ list_any (λ part. part) (map returns_of (statements_of ys))
any_same [] = refl
any_same (y ∷ ys) =
    ap (λ b. b || list_any (λ returns. returns) (map returning_of (statements_of ys))) y.1 ∙ ap (λ b. returns_of y.0 || b) (any_same ys)

level_same : (y : What-F BothWhat Both) → returning_step (map-What What Statement Bool Bool returning_what returning_of (plain_level y)) ≡ returns_step (map-What What Statement Bool Bool returns_what returns_of (plain_level y))
level_same (what.Declare ty name expr) = refl
level_same (what.Assign name expr) = refl
level_same (what.Poke name places expr) = refl
level_same (what.Make dimension ty name arguments) = refl
level_same (what.Take dimension ty name input) = refl
level_same (what.Instance instance) = refl
level_same (what.Set name setting) = refl
level_same (what.Call name arguments) = refl
level_same (what.Print items) = refl
level_same (what.If test ys zs) =
    ap (λ b. b && list_any (λ returns. returns) (map returning_of (statements_of zs))) (any_same ys)
    ∙ ap (λ b. list_any (λ part. part) (map returns_of (statements_of ys)) && b) (any_same zs)
level_same (what.For first test step ys) = refl
level_same (what.Return expr) = refl

rolled : (x : What-F What Statement) → returning_step (map-What What Statement Bool Bool returning_what returning_of x) ≡ returns_step (map-What What Statement Bool Bool returns_what returns_of x)
    → SameWhat (roll-What x)
rolled x is = returning-roll x ∙ is ∙ sym (returns-roll x)

rolled_statement : (x : Statement-F What Statement) → SameWhat x.what → Same (roll-Statement x)
rolled_statement x is =
    fold-roll-Statement Bool Bool returning_step (λ statement. statement.what) x ∙ is ∙ sym (fold-roll-Statement Bool Bool returns_step (λ statement. statement.what) x)

returns_alike : (s : Statement) → Same s
returns_alike = ind-Statement SameWhat Same
    (λ x y is. subst (λ z. SameWhat (roll-What z)) is (rolled (plain_level y) (level_same y)))
    (λ x y is. subst (λ z. Same (roll-Statement z)) is (rolled_statement (map-Statement BothWhat Both What Statement (λ w. w.0) (λ s. s.0) y) y.what.1))

pub blocks_return_alike : (ss : List Statement) → block_returns ss ≡ list_any returns_of ss
blocks_return_alike [] = refl
blocks_return_alike (s ∷ ss) = ap (λ b. b || block_returns ss) (returns_alike s) ∙ ap (λ b. returns_of s || b) (blocks_return_alike ss)
