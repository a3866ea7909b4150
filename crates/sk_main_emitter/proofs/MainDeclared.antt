-- Statements of main declare names before those in scope, and blocks leave them again.
use Rattle.std.proofs.Common.{◌≡◌, ℕ, ◌+◌, ◌-◌, List, [], ◌∷◌, ◌++◌, length, drop, map, refl, sym, ap, ◌∙◌, subst, append_assoc, length-append, arith}
use Rattle.std.proofs.Math.Seq.{drop-append_seam}
use Rattle.sk_isa.specs.declared.code.Instr.{Instr}
use Rattle.sk_isa.specs.declared.code.Instr.TheVariants as instr
use Rattle.sk_main_scheme.specs.MainScheme.{Named, Around, Emitting, Emitted, Standing, emitting_of, emitting_step, item_emitted, all_emitted, then_emitted, block_emitted, loop_emitted, around_at, placed_behind}
use Rattle.sk_scheme.specs.Pieces.{Piece}
use Rattle.sk_scheme.specs.Scheme.{Known}
use Rattle.sk_tree.specs.declared.tree.Item.{Item}
use Rattle.sk_tree.specs.declared.tree.Item.TheVariants.{Value, Text, End}
use Rattle.sk_tree.specs.declared.tree.Statement.{Statement, fold_out-Statement}
use Rattle.sk_tree.specs.declared.tree.What.{What, What-F, out-What, map-What, fold-What, fold_out-What}
use Rattle.sk_tree.specs.declared.tree.What.TheOpen as what

abbrev Scope : Type 0
Scope = List (List ℕ × Named)

abbrev Functions : Type 0
Functions = List (List ℕ × Known)

-- the names of a scope, with further ones before them
pub record Extends (outer inner : Scope) : Type 0 where
  pub declared : Scope
  pub is : inner ≡ declared ++ outer

extends_same : (scope : Scope) → Extends scope scope
extends_same scope = record { declared = []; is = refl }

item_keeps : (item : Item) (functions : Functions) (standing : Standing) → (item_emitted item functions standing).behind.scope ≡ standing.scope
item_keeps (Value expr) functions standing = refl
item_keeps (Text text) functions standing = refl
item_keeps End functions standing = refl

items_keep : (items : List Item) (functions : Functions) (standing : Standing)
    → (all_emitted (map item_emitted items) functions standing).behind.scope ≡ standing.scope
items_keep [] functions standing = refl
items_keep (item ∷ items) functions standing =
    items_keep items functions (item_emitted item functions standing).behind ∙ item_keeps item functions standing

step_extends : (level : What-F (ℕ → Emitting) Emitting) (line : ℕ) (functions : Functions) (standing : Standing)
    → Extends standing.scope (emitting_step level line functions standing).behind.scope
step_extends (what.Declare ty name expr) line functions standing = record { declared = _ ∷ []; is = refl }
step_extends (what.Assign name expr) line functions standing = extends_same standing.scope
step_extends (what.Poke name places expr) line functions standing = extends_same standing.scope
step_extends (what.Make kind ty name arguments) line functions standing = record { declared = _ ∷ []; is = refl }
step_extends (what.Take kind ty name text) line functions standing = record { declared = _ ∷ []; is = refl }
step_extends (what.Instance instance) line functions standing = record { declared = _ ∷ []; is = refl }
step_extends (what.Set name setting) line functions standing = extends_same standing.scope
step_extends (what.Call name arguments) line functions standing = extends_same standing.scope
step_extends (what.Print items) line functions standing =
    record { declared = []; is = items_keep items functions (record standing { at = standing.at + 1 }) }
step_extends (what.If test one []) line functions standing = extends_same standing.scope
step_extends (what.If test one (other ∷ others)) line functions standing = extends_same standing.scope
step_extends (what.For first test step body) line functions standing = extends_same standing.scope
step_extends (what.Return expr) line functions standing = extends_same standing.scope

-- what a statement is compiled to, apart from its line
abbrev emitting_what : What → ℕ → Emitting
emitting_what = fold-What (ℕ → Emitting) Emitting emitting_step (λ statement. statement.what statement.line)

what_extends : (w : What) (line : ℕ) (functions : Functions) (standing : Standing)
    → Extends standing.scope (emitting_what w line functions standing).behind.scope
what_extends w line functions standing =
    subst (λ (e : ℕ → Emitting). Extends standing.scope (e line functions standing).behind.scope)
    (sym (fold_out-What (ℕ → Emitting) Emitting emitting_step (λ statement. statement.what statement.line) w))
    (step_extends (map-What What Statement (ℕ → Emitting) Emitting emitting_what emitting_of (out-What w)) line functions standing)

pub statement_extends : (s : Statement) (functions : Functions) (standing : Standing)
    → Extends standing.scope (emitting_of s functions standing).behind.scope
statement_extends s functions standing =
    subst (λ (e : Emitting). Extends standing.scope (e functions standing).behind.scope)
    (sym (fold_out-Statement (ℕ → Emitting) Emitting emitting_step (λ statement. statement.what statement.line) s))
    (what_extends s.what s.line functions standing)

extends_more : (outer middle inner : Scope) → Extends outer middle → Extends middle inner → Extends outer inner
extends_more outer middle inner first rest = record {
  declared = rest.declared ++ first.declared;
  is = rest.is ∙ ap (λ scope. rest.declared ++ scope) first.is ∙ sym (append_assoc rest.declared first.declared outer);
}

pub all_extend : (ss : List Statement) (functions : Functions) (standing : Standing)
    → Extends standing.scope (all_emitted (map emitting_of ss) functions standing).behind.scope
all_extend [] functions standing = extends_same standing.scope
all_extend (s ∷ ss) functions standing =
    let one : Emitted = emitting_of s functions standing in
    extends_more standing.scope one.behind.scope (all_emitted (map emitting_of ss) functions one.behind).behind.scope
    (statement_extends s functions standing) (all_extend ss functions one.behind)

-- what comes first, and a loop behind it
pub loop_extends : (line : ℕ) (first step : Statement) (test : Piece Around) (body : List Emitting) (functions : Functions) (standing : Standing)
    → Extends standing.scope
    (then_emitted (emitting_of first) (loop_emitted line test (block_emitted body) (emitting_of step)) functions standing).behind.scope
loop_extends line first step test body functions standing =
    let one : Standing = (emitting_of first functions standing).behind in
    let tested : List Instr = instr.Count line ∷ test.code (around_at functions one) (one.at + 1) in
    let inner : Standing = (block_emitted body functions (placed_behind one (length tested + 1))).behind in
    extends_more standing.scope one.scope (emitting_of step functions inner).behind.scope
    (statement_extends first functions standing) (statement_extends step functions inner)

-- all but the last ones, which are as many as the back
drop_front : {A : Type 0} (front back : List A) → drop (length (front ++ back) - length back) (front ++ back) ≡ back
drop_front front back =
    let n : length (front ++ back) - length back ≡ length front = omega (arith, length-append front back) in
    ap (λ k. drop k (front ++ back)) n ∙ drop-append_seam front back

-- what was declared is left again
pub left_again : (outer inner : Scope) (depth : ℕ) → Extends outer inner → depth ≡ length outer → drop (length inner - depth) inner ≡ outer
left_again outer inner depth extends is =
    ap (λ n. drop (length inner - n) inner) is
    ∙ ap (λ (scope : Scope). drop (length scope - length outer) scope) extends.is
    ∙ drop_front extends.declared outer
