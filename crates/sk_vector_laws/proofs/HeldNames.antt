-- What statements declare has short names where they name shortly.
use Rattle.std.proofs.Common.{◌≡◌, ℕ, Bool, true, List, [], ◌∷◌, map, refl, sym, subst}
use Rattle.std.proofs.lemmas.Bool.{and_from}
use Rattle.std.specs.Prelude.{◌&&◌}
use Rattle.std.specs.List.{list_all}
use Rattle.sk_grammar.specs.ExpressionSpelling.{each}
use Rattle.sk_grammar.specs.StatementSpelling.{at_line}
use Rattle.sk_main_code.specs.Sound.{is_short_name, is_short_text}
use Rattle.sk_plain.proofs.Lists.{all_append}
use Rattle.sk_plain.proofs.Truths.{and_left, and_right}
use Rattle.sk_tree.specs.declared.declared.Declared.{Declared}
use Rattle.sk_tree.specs.declared.tree.Instance as instances
use Rattle.sk_tree.specs.declared.tree.Statement.{Statement}
use Rattle.sk_tree.specs.declared.tree.What.{What, What-F, roll-What, map-What, fold-What}
use Rattle.sk_tree.specs.declared.tree.What.TheOpen.{Declare, Assign, Poke, Make, Take, Instance, Set, Call, Print, If, For, Return}
use Rattle.sk_vector_laws.proofs.Emission.{Held, all_held, held_of, held_what, holding_step, nothing_held, with_held}
use Rattle.sk_vector_laws.proofs.Levels.{AllInside, at_each, folds-level}
use Rattle.sk_vector_laws.specs.Names.{all_hold, names_shortly, names_step}

abbrev pub container_short : Declared → Bool
container_short container = is_short_name container.name

abbrev pub instance_short : instances.Instance → Bool
instance_short instance = is_short_name instance.name

pub record AreNamed (held : Held) : Type 0 where
  pub containers : list_all container_short held.containers ≡ true
  pub instances : list_all instance_short held.instances ≡ true

none_named : AreNamed nothing_held
none_named = record { containers = refl; instances = refl }

both_named : (one other : Held) → AreNamed one → AreNamed other → AreNamed (with_held one other)
both_named one other h g = record {
  containers = all_append container_short one.containers other.containers h.containers g.containers;
  instances = all_append instance_short one.instances other.instances h.instances g.instances;
}

container_named : (name : List ℕ) (container : Declared) → container.name ≡ name → is_short_name name ≡ true → AreNamed (record { containers = container ∷ []; instances = [] })
container_named name container same short = record {
  containers = and_from (container_short container) true (subst (λ (n : List ℕ). is_short_name n ≡ true) (sym same) short) refl;
  instances = refl;
}

abbrev IsNamedBy : Bool → Held → Type 0
IsNamedBy short held = short ≡ true → AreNamed held

abbrev IsNamedSo : Statement → Type 0
IsNamedSo s = IsNamedBy (names_shortly s) (held_of s)

each_named : (ss : List Statement) → each IsNamedSo ss → all_hold (map names_shortly ss) ≡ true → AreNamed (all_held (map held_of ss))
each_named [] h short = none_named
each_named (s ∷ ss) h short =
    both_named (held_of s) (all_held (map held_of ss)) (h.0 (and_left (names_shortly s) (all_hold (map names_shortly ss)) short))
    (each_named ss h.1 (and_right (names_shortly s) (all_hold (map names_shortly ss)) short))

abbrev names_what : What → Bool
names_what = fold-What Bool Bool names_step (λ statement. statement.what)

level_named : (line : ℕ) (level : What-F What Statement) → AllInside IsNamedSo level
    → IsNamedBy (names_step (map-What What Statement Bool Bool names_what names_shortly level)) (holding_step (map-What What Statement Held Held held_what held_of level))
level_named line (Declare ty name expr) h short = none_named
level_named line (Assign name expr) h short = none_named
level_named line (Poke name places expr) h short = none_named
level_named line (Make kind ty name arguments) h short = container_named name (record { name = name; kind = kind; ty = ty }) refl short
level_named line (Take kind ty name input) h short = container_named name (record { name = name; kind = kind; ty = ty }) refl (and_left (is_short_name name) (is_short_text input) short)
level_named line (Instance instance) h short = record { containers = refl; instances = and_from (instance_short instance) true short refl }
level_named line (Set name value) h short = none_named
level_named line (Call name arguments) h short = none_named
level_named line (Print items) h short = none_named
level_named line (If test one other) h short =
    let a : Bool = all_hold (map names_shortly one) in
    let b : Bool = all_hold (map names_shortly other) in
    both_named (all_held (map held_of one)) (all_held (map held_of other)) (each_named one h.0 (and_left a b short)) (each_named other h.1 (and_right a b short))
level_named line (For first test step body) h short =
    let a : Bool = names_shortly first in
    let c : Bool = names_shortly step in
    let b : Bool = all_hold (map names_shortly body) in
    let heads : (a && c) ≡ true = and_left (a && c) b short in
    both_named (held_of first) (with_held (all_held (map held_of body)) (held_of step)) (h.0 (and_left a c heads))
    (both_named (all_held (map held_of body)) (held_of step) (each_named body h.2 (and_right (a && c) b short)) (h.1 (and_right a c heads)))
level_named line (Return expr) h short = none_named

statement_named : (s : Statement) → IsNamedSo s
statement_named = at_each IsNamedSo (λ line level h.
    subst (λ (b : Bool). IsNamedBy b (held_of (at_line line (roll-What level)))) (sym (folds-level names_step (λ statement. statement.what) line level))
    (subst (λ (k : Held). IsNamedBy (names_step (map-What What Statement Bool Bool names_what names_shortly level)) k)
    (sym (folds-level holding_step (λ statement. statement.what) line level)) (level_named line level h)))

pub statements_named : (ss : List Statement) → list_all names_shortly ss ≡ true → AreNamed (all_held (map held_of ss))
statements_named [] short = none_named
statements_named (s ∷ ss) short =
    both_named (held_of s) (all_held (map held_of ss)) (statement_named s (and_left (names_shortly s) (list_all names_shortly ss) short))
    (statements_named ss (and_right (names_shortly s) (list_all names_shortly ss) short))
