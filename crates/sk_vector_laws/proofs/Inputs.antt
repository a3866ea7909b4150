-- The inputs of a program that names shortly have short names.
use Rattle.std.proofs.Common.{◌≡◌, ℕ, Bool, true, List, [], ◌∷◌, ◌++◌, map, flat_map, Option, Some, None, refl, sym, subst}
use Rattle.std.proofs.lemmas.Bool.{and_from}
use Rattle.std.specs.Prelude.{◌&&◌}
use Rattle.std.specs.List.{list_all}
use Rattle.sk_grammar.specs.ExpressionSpelling.{each}
use Rattle.sk_grammar.specs.StatementSpelling.{at_line}
use Rattle.sk_main_code.specs.Sound.{is_short_name, is_short_text}
use Rattle.sk_plain.proofs.Lists.{all_append}
use Rattle.sk_plain.proofs.Truths.{and_left, and_right}
use Rattle.sk_tree.specs.declared.declared.Declared.{Declared}
use Rattle.sk_tree.specs.declared.tree.Statement.{Statement}
use Rattle.sk_tree.specs.declared.tree.What.{What, What-F, roll-What, map-What, fold-What}
use Rattle.sk_tree.specs.declared.tree.What.TheOpen.{Declare, Assign, Poke, Make, Take, Instance, Set, Call, Print, If, For, Return}
use Rattle.sk_typing.specs.Inputs.{Taken, distinct_after, input_named, taken_of, taking_step}
use Rattle.sk_vector_laws.proofs.Levels.{AllInside, at_each, folds-level}
use Rattle.sk_vector_laws.specs.Names.{all_hold, names_shortly, names_step}

abbrev pub taken_short : Taken → Bool
taken_short taken = is_short_text taken.input.name

abbrev IsTakenShortly : Bool → List Taken → Type 0
IsTakenShortly short taken = short ≡ true → list_all taken_short taken ≡ true

abbrev IsTakenSo : Statement → Type 0
IsTakenSo s = IsTakenShortly (names_shortly s) (taken_of s)

each_taken : (ss : List Statement) → each IsTakenSo ss → all_hold (map names_shortly ss) ≡ true → list_all taken_short (flat_map (λ taken. taken) (map taken_of ss)) ≡ true
each_taken [] h short = refl
each_taken (s ∷ ss) h short =
    all_append taken_short (taken_of s) (flat_map (λ taken. taken) (map taken_of ss)) (h.0 (and_left (names_shortly s) (all_hold (map names_shortly ss)) short))
    (each_taken ss h.1 (and_right (names_shortly s) (all_hold (map names_shortly ss)) short))

abbrev names_what : What → Bool
names_what = fold-What Bool Bool names_step (λ statement. statement.what)

abbrev taken_what : What → ℕ → List Taken
taken_what = fold-What (ℕ → List Taken) (List Taken) taking_step (λ statement. statement.what statement.line)

level_taken : (line : ℕ) (level : What-F What Statement) → AllInside IsTakenSo level
    → IsTakenShortly (names_step (map-What What Statement Bool Bool names_what names_shortly level)) (taking_step (map-What What Statement (ℕ → List Taken) (List Taken) taken_what taken_of level) line)
level_taken line (Declare ty name expr) h short = refl
level_taken line (Assign name expr) h short = refl
level_taken line (Poke name places expr) h short = refl
level_taken line (Make dimension ty name arguments) h short = refl
level_taken line (Take dimension ty name input) h short = and_from (is_short_text input) true (and_right (is_short_name name) (is_short_text input) short) refl
level_taken line (Instance instance) h short = refl
level_taken line (Set name value) h short = refl
level_taken line (Call name arguments) h short = refl
level_taken line (Print items) h short = refl
level_taken line (If test one other) h short =
    let a : Bool = all_hold (map names_shortly one) in
    let b : Bool = all_hold (map names_shortly other) in
    all_append taken_short (flat_map (λ taken. taken) (map taken_of one)) (flat_map (λ taken. taken) (map taken_of other)) (each_taken one h.0 (and_left a b short)) (each_taken other h.1 (and_right a b short))
level_taken line (For first test step body) h short =
    each_taken body h.2 (and_right (names_shortly first && names_shortly step) (all_hold (map names_shortly body)) short)
level_taken line (Return expr) h short = refl

statement_taken : (s : Statement) → IsTakenSo s
statement_taken = at_each IsTakenSo (λ line level h.
    subst (λ (b : Bool). IsTakenShortly b (taken_of (at_line line (roll-What level)))) (sym (folds-level names_step (λ statement. statement.what) line level))
    (subst (λ (t : List Taken). IsTakenShortly (names_step (map-What What Statement Bool Bool names_what names_shortly level)) t)
    (sym (folds-level taking_step (λ statement. statement.what statement.line) line level)) (level_taken line level h)))

pub statements_taken : (ss : List Statement) → list_all names_shortly ss ≡ true → list_all taken_short (flat_map taken_of ss) ≡ true
statements_taken [] short = refl
statements_taken (s ∷ ss) short =
    all_append taken_short (taken_of s) (flat_map taken_of ss) (statement_taken s (and_left (names_shortly s) (list_all names_shortly ss) short))
    (statements_taken ss (and_right (names_shortly s) (list_all names_shortly ss) short))

abbrev pub input_short : Declared → Bool
input_short input = is_short_text input.name

pub distinct_short : (seen : List Declared) (taken : List Taken) → list_all input_short seen ≡ true → list_all taken_short taken ≡ true → list_all input_short (distinct_after seen taken) ≡ true
distinct_short seen [] h g = h
distinct_short seen (taken ∷ more) h g =
    let here : is_short_text taken.input.name ≡ true = and_left (taken_short taken) (list_all taken_short more) g in
    let later : list_all taken_short more ≡ true = and_right (taken_short taken) (list_all taken_short more) g in
    by_found (input_named taken.input.name seen) (distinct_short seen more h later)
    (distinct_short (seen ++ taken.input ∷ []) more (all_append input_short seen (taken.input ∷ []) h (and_from (input_short taken.input) true here refl)) later)
  where
    by_found : (found : Option Declared) → list_all input_short (distinct_after seen more) ≡ true → list_all input_short (distinct_after (seen ++ taken.input ∷ []) more) ≡ true
        → list_all input_short (elim found as (λ _. List Declared) [ Some first ↦ distinct_after seen more | None ↦ distinct_after (seen ++ taken.input ∷ []) more ]) ≡ true
    by_found (Some first) one other = one
    by_found None one other = other
