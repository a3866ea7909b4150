-- Which statements of main fit the names in scope where their code stands. Inputs, settings and calls that are values do not
-- occur.
use Rattle.std.specs.Prelude.{ℕ, suc, ◌+◌, Bool, true, false, ◌&&◌, ◌||◌, ◌==◌, List, [], ◌∷◌, length, map, take, drop, Option, Some, None}
use Rattle.sk_arguments.specs.Operands.{uniforms_taken}
use Rattle.sk_base.specs.declared.number.Ty.{Ty}
use Rattle.sk_main_fits.specs.Fits.{Fit, fits, all_fit, is_number, is_whole}
use Rattle.sk_main_scheme.specs.MainScheme.{Around, Made, Named, Number, Whole, Called, Standing, Emitting, around_at, placed_behind, main_piece, operands_of, block_emitted, emitting_step}
use Rattle.sk_names.specs.Bindings.{bound_to}
use Rattle.sk_scheme.specs.Scheme.{Known}
use Rattle.sk_tree.specs.Parameters.{same_type, scalar_types}
use Rattle.sk_tree.specs.declared.tree.Expr.{Expr}
use Rattle.sk_tree.specs.declared.tree.Expr.TheVariants as expression
use Rattle.sk_tree.specs.declared.tree.Item.{Item}
use Rattle.sk_tree.specs.declared.tree.Item.TheVariants.{Value, Text, End}
use Rattle.sk_tree.specs.declared.tree.Statement.{Statement, fold-Statement}
use Rattle.sk_tree.specs.declared.tree.What.TheOpen.{What-F, Declare, Assign, Poke, Make, Take, Instance, Set, Call, Print, If, For, Return}

-- what is asked of a statement where its code stands
abbrev pub Test : Type 0
Test = List (List ℕ × Known) → Standing → Bool

-- A statement with what it is compiled to: whether it fits, whether a `for` may begin with it, as a declaration of a scalar
-- and an assignment, and whether it is an assignment, to a scalar or to an element.
pub record Judged : Type 0 where
  pub emits : Emitting
  pub fits : Test
  pub is_light : Bool
  pub is_step : Bool

abbrev pub all_emits : List Judged → List Emitting
all_emits statements = map (λ (statement : Judged). statement.emits) statements

-- statements one after another
abbrev pub sequence_fits : List Judged → Test
sequence_fits [] functions standing = true
sequence_fits (first ∷ rest) functions standing = first.fits functions standing && sequence_fits rest functions (first.emits functions standing).behind

abbrev pub item_fits : Item → Fit
item_fits (Value expr) around = fits expr around
item_fits (Text text) around = true
item_fits End around = true

abbrev pub items_fit : List Item → Fit
items_fit [] around = true
items_fit (item ∷ items) around = item_fits item around && items_fit items around

-- a container whose elements have the type
abbrev pub is_whole_of : Ty → Option Named → Bool
is_whole_of ty (Some (Whole container other)) = same_type ty other
is_whole_of ty (Some (Number slot other)) = false
is_whole_of ty (Some (Called made)) = false
is_whole_of ty None = false

-- an argument that is the name of such a container
abbrev pub names_whole : Around → Ty → Expr → Bool
names_whole around ty (expression.Name name) = is_whole_of ty (bound_to name around.scope)
names_whole around ty expr = false

-- one for each type
abbrev pub all_whole : Around → List Ty → List Expr → Bool
all_whole around [] [] = true
all_whole around [] (expr ∷ exprs) = false
all_whole around (ty ∷ types) [] = false
all_whole around (ty ∷ types) (expr ∷ exprs) = names_whole around ty expr && all_whole around types exprs

-- the types of the containers that a Map takes, the result first
abbrev pub container_types : Made → List Ty
container_types made = made.ret ∷ take made.elements (scalar_types made.kinds)

-- the result and the containers of a call of a Map, and as many uniform arguments as are taken
abbrev pub call_fits : Option Named → List Expr → Fit
call_fits (Some (Called made)) arguments around =
    all_whole around (container_types made) (take (suc (operands_of made)) arguments)
    && (length arguments == suc (operands_of made) + length (uniforms_taken made.skeleton made.elements made.kinds))
    && all_fit (map fits (drop (suc (operands_of made)) arguments)) around
call_fits (Some (Number slot ty)) arguments around = false
call_fits (Some (Whole container ty)) arguments around = false
call_fits None arguments around = false

-- behind the line of a statement
abbrev pub behind_line : Standing → Standing
behind_line standing = record standing { at = standing.at + 1 }

-- behind code for an expression and one jump
abbrev pub behind_test : Expr → List (List ℕ × Known) → Standing → Standing
behind_test test functions standing =
    placed_behind standing (length ((main_piece test).code (around_at functions standing) standing.at) + 1)

abbrev pub if_fits : Expr → (one other : List Judged) → Test
if_fits test one other functions standing =
    let inner : Standing = behind_test test functions standing in
    fits test (around_at functions standing)
    && sequence_fits one functions inner
    && sequence_fits other functions (placed_behind (block_emitted (all_emits one) functions inner).behind 1)

-- behind the line and the test of a loop
abbrev pub behind_loop_test : Expr → List (List ℕ × Known) → Standing → Standing
behind_loop_test test functions standing =
    placed_behind standing (suc (length ((main_piece test).code (around_at functions standing) (standing.at + 1))) + 1)

-- the step of a loop assigns
abbrev pub loop_fits : Expr → (body : List Judged) → (step : Judged) → Test
loop_fits test body step functions standing =
    let inner : Standing = behind_loop_test test functions standing in
    fits test (around_at functions standing)
    && sequence_fits body functions inner
    && step.is_step && step.fits functions (block_emitted (all_emits body) functions inner).behind

-- the first statement of a `for` declares a scalar, or assigns
abbrev pub for_fits : Judged → Expr → (step : Judged) → (body : List Judged) → Test
for_fits first test step body functions standing =
    first.is_light && first.fits functions standing && loop_fits test body step functions (first.emits functions standing).behind

-- a statement, alone or with others inside: what it is compiled to, whether a `for` may begin with it, whether it is an
-- assignment, and the test whether it fits
abbrev pub judged_by : Emitting → (light step : Bool) → Test → Judged
judged_by emits light step test = record { emits = emits; fits = test; is_light = light; is_step = step }

abbrev pub judge_step : What-F (ℕ → Judged) Judged → (line : ℕ) → Judged
judge_step (Declare ty name expr) line = judged_by (emitting_step (Declare ty name expr) line) true false
    (λ functions standing. fits expr (around_at functions standing))
judge_step (Assign name expr) line = judged_by (emitting_step (Assign name expr) line) true true
    (λ functions standing. is_number (bound_to name standing.scope) && fits expr (around_at functions standing))
judge_step (Poke name places value) line = judged_by (emitting_step (Poke name places value) line) true true
    (λ functions standing. is_whole (bound_to name standing.scope) && (length places == 1)
    && all_fit (map fits places) (around_at functions standing) && fits value (around_at functions standing))
judge_step (Make kind ty name arguments) line = judged_by (emitting_step (Make kind ty name arguments) line) false false
    (λ functions standing. (kind == 1) && (length arguments == 1 || length arguments == 2)
    && all_fit (map fits arguments) (around_at functions standing))
judge_step (Take kind ty name input) line = judged_by (emitting_step (Take kind ty name input) line) false false (λ functions standing. false)
judge_step (Instance instance) line = judged_by (emitting_step (Instance instance) line) false false (λ functions standing. true)
judge_step (Set name value) line = judged_by (emitting_step (Set name value) line) false false (λ functions standing. false)
judge_step (Call name arguments) line = judged_by (emitting_step (Call name arguments) line) false false
    (λ functions standing. call_fits (bound_to name standing.scope) arguments (around_at functions standing))
judge_step (Print items) line = judged_by (emitting_step (Print items) line) false false
    (λ functions standing. items_fit items (around_at functions standing))
judge_step (If test one other) line = judged_by (emitting_step (If test (all_emits one) (all_emits other)) line) false false
    (λ functions standing. if_fits test one other functions (behind_line standing))
judge_step (For first test step body) line = judged_by (emitting_step (For first.emits test step.emits (all_emits body)) line) false false
    (for_fits first test step body)
judge_step (Return expr) line = judged_by (emitting_step (Return expr) line) false false
    (λ functions standing. fits expr (around_at functions standing))

-- a statement with what it is compiled to
abbrev pub judged_of : Statement → Judged
judged_of = fold-Statement (ℕ → Judged) Judged judge_step (λ statement. statement.what statement.line)

-- where main's code begins
abbrev pub start_standing : Standing
start_standing = record { at = 0; scope = []; slots = []; containers = []; instances = [] }
