-- The containers and the instances of main's code are those that its statements declare, and its texts those that they print.
use Rattle.std.proofs.Common.{◌≡◌, ◌∙◌, ℕ, suc, ◌+◌, ◌-◌, ◌&&◌, Bool, true, List, [], ◌∷◌, ◌++◌, length, map, take, drop, Option, Some, None, append_assoc, append-nil, pos, refl, sym, ap, subst}
use Rattle.std.specs.List.{list_all}
use Rattle.sk_base.specs.declared.number.Ty.{Ty}
use Rattle.sk_grammar.specs.ExpressionSpelling.{each}
use Rattle.sk_grammar.specs.StatementSpelling.{at_line}
use Rattle.sk_isa.specs.declared.code.Instr.{Instr}
use Rattle.sk_isa.specs.declared.code.Instr.TheVariants as instr
use Rattle.sk_main_scheme.specs.MainScheme.{Around, Made, Named, Number, Whole, Called, Standing, Emitted, Emitting, all_emitted, around_at, block_emitted, container_named, counted, declaring, do_code, do_depth, dropped, emitting_of, emitting_step, for_emitted, holding, if_emitted, instancing, item_emitted, loop_emitted, main_piece, make_code, make_depth, no_code, of_instance, only_code, operands_of, poke_code, set_code, setting_code, setting_values, store_code, taking, then_emitted, type_in}
use Rattle.sk_names.specs.Bindings.{bound_to}
use Rattle.sk_plain.proofs.Truths.{and_left, and_right}
use Rattle.sk_scheme.specs.Pieces.{Piece, Placed, parts_depth, places_code, wanted_code}
use Rattle.sk_scheme.specs.Scheme.{Known}
use Rattle.sk_tree.specs.declared.declared.Declared.{Declared}
use Rattle.sk_tree.specs.declared.tree.Expr.{Expr}
use Rattle.sk_tree.specs.declared.tree.Instance as instances
use Rattle.sk_tree.specs.declared.tree.Item.{Item}
use Rattle.sk_tree.specs.declared.tree.Item.TheVariants.{Value, Text, End}
use Rattle.sk_tree.specs.declared.tree.Setting.{Setting}
use Rattle.sk_tree.specs.declared.tree.Setting.TheVariants as setting
use Rattle.sk_tree.specs.declared.tree.Statement.{Statement, fold-Statement}
use Rattle.sk_tree.specs.declared.tree.What.{What, What-F, roll-What, map-What, fold-What}
use Rattle.sk_tree.specs.declared.tree.What.TheOpen.{Declare, Assign, Poke, Make, Take, Instance, Set, Call, Print, If, For, Return}
use Rattle.sk_vector_laws.proofs.Codes.{IsQuiet, PrintsShortly, prints_first, prints_none, prints_one, arguments_quiet, expression_quiet, expressions_quiet, places_quiet, prints_both, quiet_drop, wanted_quiet}
use Rattle.sk_vector_laws.proofs.Levels.{AllInside, at_each, folds-level}
use Rattle.sk_vector_laws.specs.Names.{all_hold, item_short, names_shortly, names_step}

-- ---- what statements declare

pub record Held : Type 0 where
  pub containers : List Declared
  pub instances : List instances.Instance

abbrev pub nothing_held : Held
nothing_held = record { containers = []; instances = [] }

abbrev pub with_held : Held → Held → Held
with_held one other = record { containers = one.containers ++ other.containers; instances = one.instances ++ other.instances }

abbrev pub all_held : List Held → Held
all_held [] = nothing_held
all_held (one ∷ more) = with_held one (all_held more)

abbrev pub holding_step : What-F Held Held → Held
holding_step (Declare ty name expr) = nothing_held
holding_step (Assign name expr) = nothing_held
holding_step (Poke name places expr) = nothing_held
holding_step (Make kind ty name arguments) = record { containers = record { name = name; kind = kind; ty = ty } ∷ []; instances = [] }
holding_step (Take kind ty name input) = record { containers = record { name = name; kind = kind; ty = ty } ∷ []; instances = [] }
holding_step (Instance instance) = record { containers = []; instances = instance ∷ [] }
holding_step (Set name value) = nothing_held
holding_step (Call name arguments) = nothing_held
holding_step (Print items) = nothing_held
holding_step (If test one other) = with_held (all_held one) (all_held other)
holding_step (For first test step body) = with_held first (with_held (all_held body) step)
holding_step (Return expr) = nothing_held

abbrev pub held_of : Statement → Held
held_of = fold-Statement Held Held holding_step (λ statement. statement.what)

abbrev pub held_what : What → Held
held_what = fold-What Held Held holding_step (λ statement. statement.what)

-- code that declares this, and prints short texts alone
pub record IsHolding (standing : Standing) (emitted : Emitted) (held : Held) : Type 0 where
  pub containers : emitted.behind.containers ≡ standing.containers ++ held.containers
  pub instances : emitted.behind.instances ≡ standing.instances ++ held.instances
  pub texts : PrintsShortly emitted.code

abbrev pub Holds : Emitting → Held → Type 0
Holds emitting held = (functions : List (List ℕ × Known)) (standing : Standing) → IsHolding standing (emitting functions standing) held

-- ---- code behind code

pub only_holds : (code : List Instr) (depth : ℕ) (standing : Standing) → PrintsShortly code → IsHolding standing (only_code code depth standing) nothing_held
only_holds code depth standing h = record {
  containers = sym (append-nil standing.containers);
  instances = sym (append-nil standing.instances);
  texts = h;
}

joined : {A : Type 0} (xs ys zs a b : List A) → ys ≡ xs ++ a → zs ≡ ys ++ b → zs ≡ xs ++ (a ++ b)
joined xs ys zs a b e f = f ∙ ap (λ l. l ++ b) e ∙ append_assoc xs a b

pub then_holds : (first second : Emitting) (one other : Held) → Holds first one → Holds second other → Holds (then_emitted first second) (with_held one other)
then_holds first second one other h g functions standing =
    let a : Emitted = first functions standing in
    let b : Emitted = second functions a.behind in
    let x = h functions standing in
    let y = g functions a.behind in
    record {
      containers = joined standing.containers a.behind.containers b.behind.containers one.containers other.containers x.containers y.containers;
      instances = joined standing.instances a.behind.instances b.behind.instances one.instances other.instances x.instances y.instances;
      texts = prints_both a.code b.code x.texts y.texts;
    }

no_holds : Holds no_code nothing_held
no_holds functions standing = only_holds [] 0 standing prints_none

counted_holds : (line : ℕ) (emitting : Emitting) (held : Held) → Holds emitting held → Holds (counted line emitting) held
counted_holds line emitting held h =
    then_holds (λ functions standing. only_code (instr.Count line ∷ []) 0 standing) emitting nothing_held held (λ functions standing. only_holds (instr.Count line ∷ []) 0 standing (prints_one (instr.Count line) refl)) h

taking_holds : (code : Around → Placed) (depth : Around → ℕ) (last : Around → Standing → List Instr)
    → ((around : Around) (at : ℕ) → PrintsShortly (code around at)) → ((around : Around) (standing : Standing) → PrintsShortly (last around standing)) → Holds (taking code depth last) nothing_held
taking_holds code depth last h g functions standing =
    let around : Around = around_at functions standing in
    only_holds (code around standing.at ++ last around standing) (depth around) standing (prints_both (code around standing.at) (last around standing) (h around standing.at) (g around standing))

-- ---- declarations

declaring_holds : (name : List ℕ) (ty : Ty) (first : Emitting) (held : Held) → Holds first held → Holds (declaring name ty first) held
declaring_holds name ty first held h functions standing =
    let x = h functions standing in
    record { containers = x.containers; instances = x.instances; texts = x.texts }

one_more : {A : Type 0} (xs ys : List A) (x : A) → ys ≡ xs ++ [] → ys ++ x ∷ [] ≡ xs ++ x ∷ []
one_more xs ys x e = ap (λ l. l ++ x ∷ []) (e ∙ append-nil xs)

holding_holds : (name : List ℕ) (kind : ℕ) (ty : Ty) (first : Emitting) → Holds first nothing_held
    → Holds (holding name kind ty first) (record { containers = record { name = name; kind = kind; ty = ty } ∷ []; instances = [] })
holding_holds name kind ty first h functions standing =
    let x = h functions standing in
    record { containers = one_more standing.containers (first functions standing).behind.containers (record { name = name; kind = kind; ty = ty }) x.containers; instances = x.instances; texts = x.texts }

instancing_holds : (instance : instances.Instance) (first : Emitting) → Holds first nothing_held → Holds (instancing instance first) (record { containers = []; instances = instance ∷ [] })
instancing_holds instance first h functions standing =
    let x = h functions standing in
    record { containers = x.containers; instances = one_more standing.instances (first functions standing).behind.instances instance x.instances; texts = x.texts }

-- ---- blocks

dropped_quiet : (scope : List (List ℕ × Named)) → PrintsShortly (dropped scope)
dropped_quiet [] = prints_none
dropped_quiet (named ∷ more) = by_named named.1 (dropped_quiet more)
  where
    by_named : (named : Named) → PrintsShortly (dropped more)
        → PrintsShortly (elim named as (λ _. List Instr) [ Whole container ty ↦ dropped more ++ instr.Drop container ∷ [] | Number slot ty ↦ dropped more | Called made ↦ dropped more ])
    by_named (Whole container ty) h = prints_both (dropped more) (instr.Drop container ∷ []) h (prints_one (instr.Drop container) refl)
    by_named (Number slot ty) h = h
    by_named (Called made) h = h

block_holds : (statements : List Emitting) (held : Held) → Holds (all_emitted statements) held → Holds (block_emitted statements) held
block_holds statements held h functions standing =
    let inner : Emitted = all_emitted statements functions standing in
    let x = h functions standing in
    record { containers = x.containers; instances = x.instances; texts = prints_both _ _ x.texts (dropped_quiet (take (length inner.behind.scope - length standing.scope) inner.behind.scope)) }

if_holds : (test : Piece Around) (one other : List Emitting) (a b : Held) → IsQuiet test → Holds (all_emitted one) a → Holds (all_emitted other) b → Holds (if_emitted test one other) (with_held a b)
if_holds test one [] a b q h g functions standing =
    let first : List Instr = test.code (around_at functions standing) standing.at in
    let inner : Standing = record standing { at = standing.at + (length first + 1) } in
    let x = block_holds one a h functions inner in
    let y = g functions (block_emitted one functions inner).behind in
    record {
      containers = joined standing.containers _ _ a.containers b.containers x.containers y.containers;
      instances = joined standing.instances _ _ a.instances b.instances x.instances y.instances;
      texts = prints_both first _ (q (around_at functions standing) standing.at) (prints_first _ _ refl x.texts);
    }
if_holds test one (other ∷ others) a b q h g functions standing =
    let first : List Instr = test.code (around_at functions standing) standing.at in
    let inner : Standing = record standing { at = standing.at + (length first + 1) } in
    let x = block_holds one a h functions inner in
    let middle : Standing = (block_emitted one functions inner).behind in
    let third : Standing = record middle { at = middle.at + 1 } in
    let y = block_holds (other ∷ others) b g functions third in
    record {
      containers = joined standing.containers _ _ a.containers b.containers x.containers y.containers;
      instances = joined standing.instances _ _ a.instances b.instances x.instances y.instances;
      texts = prints_both _ _ (prints_both first _ (q (around_at functions standing) standing.at) (prints_first _ _ refl x.texts)) (prints_first _ _ refl y.texts);
    }

loop_holds : (line : ℕ) (test : Piece Around) (body step : Emitting) (held : Held) → IsQuiet test → Holds (then_emitted body step) held → Holds (loop_emitted line test body step) held
loop_holds line test body step held q h functions standing =
    let first : List Instr = instr.Count line ∷ test.code (around_at functions standing) (standing.at + 1) in
    let x = h functions (record standing { at = standing.at + (length first + 1) }) in
    record {
      containers = x.containers;
      instances = x.instances;
      texts = prints_both _ _
          (prints_both first _ (prints_first (instr.Count line) _ refl (q (around_at functions standing) (standing.at + 1))) (prints_first _ _ refl x.texts))
          (prints_one (instr.Jump standing.at) refl);
    }

for_holds : (line : ℕ) (first : Emitting) (test : Piece Around) (step : Emitting) (body : List Emitting) (a b c : Held) → IsQuiet test → Holds first a → Holds step c → Holds (all_emitted body) b
    → Holds (for_emitted line first test step body) (with_held a (with_held b c))
for_holds line first test step body a b c q f s h functions standing =
    let x = then_holds first (loop_emitted line test (block_emitted body) step) a (with_held b c) f
    (loop_holds line test (block_emitted body) step (with_held b c) q (then_holds (block_emitted body) step b c (block_holds body b h) s)) functions standing in
    record { containers = x.containers; instances = x.instances; texts = x.texts }

-- ---- single statements

store_quiet : (found : Option Named) → PrintsShortly (store_code found)
store_quiet (Some (Number slot ty)) = prints_one (instr.Store slot) refl
store_quiet (Some (Whole container ty)) = prints_none
store_quiet (Some (Called made)) = prints_none
store_quiet None = prints_none

poke_quiet : (name : List ℕ) (places : List Expr) (value : Expr) (around : Around) (at : ℕ) → PrintsShortly (poke_code name places value around at)
poke_quiet name places value around at =
    prints_both (places_code (map main_piece places) around at) _ (places_quiet (map main_piece places) (expressions_quiet places) around at)
    (wanted_quiet (type_in around name) (main_piece value) (expression_quiet value) around _)

filled_quiet : (ty : Ty) (sizes : List Instr) (around : Around) (at : ℕ) → PrintsShortly sizes → (fill : List Expr) → PrintsShortly (elim fill as (λ _. List Instr) [
  | [] ↦ sizes ++ instr.Push (pos 0) ∷ []
  | fill ∷ more ↦ sizes ++ wanted_code ty (main_piece fill) around (at + length sizes)
])
filled_quiet ty sizes around at h [] = prints_both sizes (instr.Push (pos 0) ∷ []) h (prints_one (instr.Push (pos 0)) refl)
filled_quiet ty sizes around at h (fill ∷ more) =
    prints_both sizes (wanted_code ty (main_piece fill) around (at + length sizes)) h (wanted_quiet ty (main_piece fill) (expression_quiet fill) around (at + length sizes))

make_quiet : (ty : Ty) (kind : ℕ) (arguments : List Expr) (around : Around) (at : ℕ) → PrintsShortly (make_code ty kind arguments around at)
make_quiet ty kind arguments around at =
    filled_quiet ty (places_code (map main_piece (take kind arguments)) around at) around at
    (places_quiet (map main_piece (take kind arguments)) (expressions_quiet (take kind arguments)) around at) (drop kind arguments)

setting_quiet : (made : Made) (value : Setting) (around : Around) (at : ℕ) → PrintsShortly (setting_code made value around at)
setting_quiet made (setting.Start value) around at = wanted_quiet _ (main_piece value) (expression_quiet value) around at
setting_quiet made (setting.Pad value) around at = wanted_quiet _ (main_piece value) (expression_quiet value) around at
setting_quiet made (setting.Overlap values) around at = places_quiet (map main_piece values) (expressions_quiet values) around at
setting_quiet made (setting.Scan exclusive) around at = prints_none
setting_quiet made (setting.Lines columns) around at = prints_none
setting_quiet made (setting.Edge mode) around at = prints_none

of_instance_quiet : (found : Option Named) (code : Made → List Instr) → ((made : Made) → PrintsShortly (code made)) → PrintsShortly (of_instance found code)
of_instance_quiet (Some (Called made)) code h = h made
of_instance_quiet (Some (Number slot ty)) code h = prints_none
of_instance_quiet (Some (Whole container ty)) code h = prints_none
of_instance_quiet None code h = prints_none

set_quiet : (name : List ℕ) (value : Setting) (around : Around) (at : ℕ) → PrintsShortly (set_code name value around at)
set_quiet name value around at =
    of_instance_quiet (bound_to name around.scope) _ (λ made. prints_both (setting_code made value around at) _ (setting_quiet made value around at) (prints_one _ refl))

do_quiet : (name : List ℕ) (arguments : List Expr) (around : Around) (at : ℕ) → PrintsShortly (do_code name arguments around at)
do_quiet name arguments around at =
    of_instance_quiet (bound_to name around.scope) _ (λ made.
    prints_both _ _ (arguments_quiet _ (drop (suc (operands_of made)) (map main_piece arguments)) (quiet_drop (suc (operands_of made)) (map main_piece arguments) (expressions_quiet arguments)) around at) (prints_one _ refl))

item_holds : (item : Item) → item_short item ≡ true → Holds (item_emitted item) nothing_held
item_holds (Value expr) h = taking_holds (main_piece expr).code (main_piece expr).depth (λ around standing. instr.Print ∷ []) (expression_quiet expr) (λ around standing. record { each = refl })
item_holds (Text text) h = taking_holds (λ around at. []) (λ around. 0) (λ around standing. instr.Text text ∷ []) (λ around at. prints_none) (λ around standing. prints_one (instr.Text text) h)
item_holds End h = taking_holds (λ around at. []) (λ around. 0) (λ around standing. instr.Endl ∷ []) (λ around at. prints_none) (λ around standing. record { each = refl })

items_hold : (items : List Item) → list_all item_short items ≡ true → Holds (all_emitted (map item_emitted items)) nothing_held
items_hold [] h = no_holds
items_hold (item ∷ items) h =
    then_holds (item_emitted item) (all_emitted (map item_emitted items)) nothing_held nothing_held
    (item_holds item (and_left (item_short item) (list_all item_short items) h)) (items_hold items (and_right (item_short item) (list_all item_short items) h))

-- ---- each statement

abbrev IsShortlyHolding : Bool → Emitting → Held → Type 0
IsShortlyHolding short emitting held = short ≡ true → Holds emitting held

abbrev IsHeldBy : Statement → Type 0
IsHeldBy s = IsShortlyHolding (names_shortly s) (emitting_of s) (held_of s)

each_holds : (ss : List Statement) → each IsHeldBy ss → all_hold (map names_shortly ss) ≡ true → Holds (all_emitted (map emitting_of ss)) (all_held (map held_of ss))
each_holds [] h short = no_holds
each_holds (s ∷ ss) h short =
    then_holds (emitting_of s) (all_emitted (map emitting_of ss)) (held_of s) (all_held (map held_of ss))
    (h.0 (and_left (names_shortly s) (all_hold (map names_shortly ss)) short)) (each_holds ss h.1 (and_right (names_shortly s) (all_hold (map names_shortly ss)) short))

abbrev names_what : What → Bool
names_what = fold-What Bool Bool names_step (λ statement. statement.what)

abbrev emitting_what : What → ℕ → Emitting
emitting_what = fold-What (ℕ → Emitting) Emitting emitting_step (λ statement. statement.what statement.line)

level_holds : (line : ℕ) (level : What-F What Statement) → AllInside IsHeldBy level
    → IsShortlyHolding (names_step (map-What What Statement Bool Bool names_what names_shortly level))
    (emitting_step (map-What What Statement (ℕ → Emitting) Emitting emitting_what emitting_of level) line)
    (holding_step (map-What What Statement Held Held held_what held_of level))
level_holds line (Declare ty name expr) inside short =
    declaring_holds name ty _ nothing_held (counted_holds line _ nothing_held (taking_holds (wanted_code ty (main_piece expr)) (main_piece expr).depth (λ around standing. instr.Store (length standing.slots) ∷ [])
    (wanted_quiet ty (main_piece expr) (expression_quiet expr)) (λ around standing. record { each = refl })))
level_holds line (Assign name expr) inside short =
    counted_holds line _ nothing_held (taking_holds (λ around at. wanted_code (type_in around name) (main_piece expr) around at) (main_piece expr).depth (λ around standing. store_code (bound_to name around.scope))
    (λ around at. wanted_quiet (type_in around name) (main_piece expr) (expression_quiet expr) around at) (λ around standing. store_quiet (bound_to name around.scope)))
level_holds line (Poke name places value) inside short =
    counted_holds line _ nothing_held (taking_holds (poke_code name places value) (parts_depth (map main_piece (places ++ value ∷ []))) (λ around standing. instr.Poke (container_named around name) (length places) ∷ [])
    (poke_quiet name places value) (λ around standing. record { each = refl }))
level_holds line (Make kind ty name arguments) inside short =
    holding_holds name kind ty _ (counted_holds line _ nothing_held (taking_holds (make_code ty kind arguments) (make_depth kind arguments)
    (λ around standing. instr.Make (length standing.containers) kind ty kind ∷ []) (make_quiet ty kind arguments) (λ around standing. record { each = refl })))
level_holds line (Take kind ty name input) inside short =
    holding_holds name kind ty _ (counted_holds line _ nothing_held (taking_holds (λ around at. []) (λ around. 0)
    (λ around standing. instr.Take (length standing.containers) kind ty input ∷ []) (λ around at. prints_none) (λ around standing. record { each = refl })))
level_holds line (Instance instance) inside short = instancing_holds instance _ (counted_holds line no_code nothing_held no_holds)
level_holds line (Set name value) inside short =
    counted_holds line _ nothing_held (taking_holds (set_code name value) (parts_depth (map main_piece (setting_values value))) (λ around standing. []) (set_quiet name value) (λ around standing. prints_none))
level_holds line (Call name arguments) inside short =
    counted_holds line _ nothing_held (taking_holds (do_code name arguments) (do_depth name arguments) (λ around standing. []) (do_quiet name arguments) (λ around standing. prints_none))
level_holds line (Print items) inside short = counted_holds line _ nothing_held (items_hold items short)
level_holds line (If test one other) inside short =
    let a : Bool = all_hold (map names_shortly one) in
    let b : Bool = all_hold (map names_shortly other) in
    counted_holds line _ (with_held (all_held (map held_of one)) (all_held (map held_of other))) (if_holds (main_piece test) (map emitting_of one) (map emitting_of other) (all_held (map held_of one)) (all_held (map held_of other))
    (expression_quiet test) (each_holds one inside.0 (and_left a b short)) (each_holds other inside.1 (and_right a b short)))
level_holds line (For first test step body) inside short =
    let a : Bool = names_shortly first in
    let c : Bool = names_shortly step in
    let b : Bool = all_hold (map names_shortly body) in
    let heads : (a && c) ≡ true = and_left (a && c) b short in
    for_holds line (emitting_of first) (main_piece test) (emitting_of step) (map emitting_of body) (held_of first) (all_held (map held_of body)) (held_of step)
    (expression_quiet test) (inside.0 (and_left a c heads)) (inside.1 (and_right a c heads)) (each_holds body inside.2 (and_right (a && c) b short))
level_holds line (Return expr) inside short =
    counted_holds line _ nothing_held (taking_holds (main_piece expr).code (main_piece expr).depth (λ around standing. instr.Pop ∷ instr.Halt ∷ []) (expression_quiet expr) (λ around standing. record { each = refl }))

pub statement_holds : (s : Statement) → IsHeldBy s
statement_holds = at_each IsHeldBy (λ line level inside.
    subst (λ (b : Bool). IsShortlyHolding b (emitting_of (at_line line (roll-What level))) (held_of (at_line line (roll-What level))))
    (sym (folds-level names_step (λ statement. statement.what) line level))
    (subst (λ (e : Emitting). IsShortlyHolding (names_step (map-What What Statement Bool Bool names_what names_shortly level)) e (held_of (at_line line (roll-What level))))
    (sym (folds-level emitting_step (λ statement. statement.what statement.line) line level))
    (subst (λ (h : Held). IsShortlyHolding (names_step (map-What What Statement Bool Bool names_what names_shortly level))
    (emitting_step (map-What What Statement (ℕ → Emitting) Emitting emitting_what emitting_of level) line) h)
    (sym (folds-level holding_step (λ statement. statement.what) line level))
    (level_holds line level inside))))

-- the code of statements one after another
pub statements_hold : (ss : List Statement) → list_all names_shortly ss ≡ true → Holds (all_emitted (map emitting_of ss)) (all_held (map held_of ss))
statements_hold [] short = no_holds
statements_hold (s ∷ ss) short =
    then_holds (emitting_of s) (all_emitted (map emitting_of ss)) (held_of s) (all_held (map held_of ss))
    (statement_holds s (and_left (names_shortly s) (list_all names_shortly ss) short)) (statements_hold ss (and_right (names_shortly s) (list_all names_shortly ss) short))
