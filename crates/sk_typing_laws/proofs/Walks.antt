-- Walks over statements with parts.
use Rattle.std.proofs.Common.{◌≡◌, ◌<◌, ◌≤◌, ◌+◌, ◌-◌, ℕ, suc, List, [], ◌∷◌, ◌++◌, map, length, drop, get_or, Option, sym, ◌∙◌, ap, add-one, append_assoc}
use Rattle.std.proofs.Math.Seq.{drop-cons}
use Rattle.std.proofs.lemmas.List.{drop_all}
use Rattle.sk_typing.specs.TypingExpressions.{value_faults}
use Rattle.sk_typing.specs.TypingFaults.{earlier, least_of}
use Rattle.sk_typing_laws.proofs.Levels.{walking_what, walking-statement, walking-roll}
use Rattle.sk_typing.specs.TypingNames.{Knowns, Around}
use Rattle.sk_typing.specs.TypingStatements.{Walked, Walking, in_order, inside, block_faults, walking_of, walking_step}
use Rattle.sk_typing.specs.declared.names.Fault.{Fault}
use Rattle.sk_tree.specs.declared.tree.Expr.{Expr}
use Rattle.sk_tree.specs.declared.tree.Statement.{Statement}
use Rattle.sk_tree.specs.declared.tree.What.{What}
use Rattle.sk_tree.specs.declared.tree.What.TheOpen as layer
use Rattle.sk_tree.specs.declared.tree.What.TheVariants as variant
use Rattle.sk_typing_laws.proofs.AddedNames.{Added, statement_added, in_order_added, left_behind}
use Rattle.sk_typing_laws.proofs.Least.{joined, earlier_assoc, earlier_none, least_of_append}

walk_of : (statement : Statement) (what : What) → statement.what ≡ what → walking_of statement ≡ walking_what what statement.line
walk_of statement what is =
    walking-statement statement.line statement.what ∙ ap (λ (w : What). walking_what w statement.line) is

if_walk : (statement : Statement) (test : Expr) (one other : List Statement) → statement.what ≡ variant.If test one other
    → walking_of statement ≡ walking_step (layer.If test (map walking_of one) (map walking_of other)) statement.line
if_walk statement test one other is =
    walk_of statement (variant.If test one other) is
    ∙ ap (λ (w : What). walking_what w statement.line) (sym (variant.rolls-If test one other))
    ∙ ap (λ (f : ℕ → Walking). f statement.line) (walking-roll (layer.If test one other))

for_walk : (statement first : Statement) (test : Expr) (step : Statement) (body : List Statement)
    → statement.what ≡ variant.For first test step body
    → walking_of statement ≡ walking_step (layer.For (walking_of first) test (walking_of step) (map walking_of body)) statement.line
for_walk statement first test step body is =
    walk_of statement (variant.For first test step body) is
    ∙ ap (λ (w : What). walking_what w statement.line) (sym (variant.rolls-For first test step body))
    ∙ ap (λ (f : ℕ → Walking). f statement.line) (walking-roll (layer.For first test step body))

pub if_told : (around here inner : Around) (scope : Knowns) (statement : Statement) (test : Expr) (one other : List Statement)
    → statement.what ≡ variant.If test one other
    → here ≡ record around { line = statement.line } → inner ≡ inside here
    → (tested first second result : Option Fault)
    → tested ≡ least_of (value_faults here scope test)
    → first ≡ least_of (in_order (map walking_of one) inner scope).faults
    → second ≡ least_of (in_order (map walking_of other) inner scope).faults
    → result ≡ earlier (earlier tested first) second
    → result ≡ least_of (walking_of statement around scope).faults
if_told around here inner scope statement test one other is here-is inner-is tested first second result tested-is first-is second-is result-is =
    let line : Around = record around { line = statement.line } in
    let within : inner ≡ inside line = inner-is ∙ ap inside here-is in
    result-is
    ∙ joined (value_faults line scope test ++ block_faults (map walking_of one) line scope) (block_faults (map walking_of other) line scope)
    (earlier tested first) second
    (joined (value_faults line scope test) (block_faults (map walking_of one) line scope) tested first
    (tested-is ∙ ap (λ (a : Around). least_of (value_faults a scope test)) here-is)
    (first-is ∙ ap (λ (a : Around). least_of (in_order (map walking_of one) a scope).faults) within))
    (second-is ∙ ap (λ (a : Around). least_of (in_order (map walking_of other) a scope).faults) within)
    ∙ ap (λ (w : Walking). least_of (w around scope).faults) (sym (if_walk statement test one other is))

pub for_told : (around here inner : Around) (scope : Knowns) (statement head : Statement) (test : Expr) (step : Statement) (body : List Statement)
    → statement.what ≡ variant.For head test step body
    → here ≡ record around { line = statement.line } → inner ≡ inside here
    → (begun tested turned stepped result : Option Fault)
    → begun ≡ least_of (walking_of head inner scope).faults
    → tested ≡ least_of (value_faults inner (walking_of head inner scope).names test)
    → turned ≡ least_of (in_order (map walking_of body) inner (walking_of head inner scope).names).faults
    → stepped ≡ least_of (walking_of step inner (walking_of head inner scope).names).faults
    → result ≡ earlier (earlier (earlier begun tested) turned) stepped
    → result ≡ least_of (walking_of statement around scope).faults
for_told around here inner scope statement head test step body is here-is inner-is begun tested turned stepped result begun-is tested-is turned-is stepped-is result-is =
    let line : Around = inside (record around { line = statement.line }) in
    let within : inner ≡ line = inner-is ∙ ap inside here-is in
    let names : Knowns = (walking_of head line scope).names in
    result-is
    ∙ joined (((walking_of head line scope).faults ++ value_faults line names test) ++ block_faults (map walking_of body) line names)
    (walking_of step line names).faults
    (earlier (earlier begun tested) turned) stepped
    (joined ((walking_of head line scope).faults ++ value_faults line names test) (block_faults (map walking_of body) line names)
    (earlier begun tested) turned
    (joined (walking_of head line scope).faults (value_faults line names test) begun tested
    (begun-is ∙ ap (λ (a : Around). least_of (walking_of head a scope).faults) within)
    (tested-is ∙ ap (λ (a : Around). least_of (value_faults a (walking_of head a scope).names test)) within))
    (turned-is ∙ ap (λ (a : Around). least_of (in_order (map walking_of body) a (walking_of head a scope).names).faults) within))
    (stepped-is ∙ ap (λ (a : Around). least_of (walking_of step a (walking_of head a scope).names).faults) within)
    ∙ ap (λ (w : Walking). least_of (w around scope).faults) (sym (for_walk statement head test step body is))

-- the names behind a `for`
pub for_names : (around inner : Around) (scope : Knowns) (statement head : Statement) (test : Expr) (step : Statement) (body : List Statement)
    → statement.what ≡ variant.For head test step body
    → (last new : Knowns)
    → last ≡ (walking_of step inner (walking_of head inner scope).names).names
    → new ≡ drop (length last - length scope) last
    → new ≡ (walking_of statement around scope).names
for_names around inner scope statement head test step body is last new last-is new-is =
    let begun : Knowns = (walking_of head inner scope).names in
    let front : Added scope begun = statement_added head inner scope in
    let behind : Added begun (walking_of step inner begun).names = statement_added step inner begun in
    let whole : Added scope last =
    (behind.0 ++ front.0, last-is ∙ behind.1 ∙ ap (λ (n : Knowns). behind.0 ++ n) front.1 ∙ sym (append_assoc behind.0 front.0 scope)) in
    new-is ∙ left_behind scope last whole
    ∙ ap (λ (w : Walking). (w around scope).names) (sym (for_walk statement head test step body is))

-- how far a walk over a block has come
pub record IsWalked (around : Around) (statements : List Statement) (begin : Knowns) (i : ℕ) (least : Option Fault) (scope : Knowns) : Type 0 where
  pub told : earlier least (least_of (in_order (map walking_of (drop i statements)) around scope).faults)
      ≡ least_of (in_order (map walking_of statements) around begin).faults
  pub names : (in_order (map walking_of (drop i statements)) around scope).names ≡ (in_order (map walking_of statements) around begin).names

pub walk_turn : (around : Around) (statements : List Statement) (begin : Knowns) (i : ℕ) (least : Option Fault) (scope : Knowns)
    (next : Statement) (told after : Option Fault) (names : Knowns)
    → IsWalked around statements begin i least scope
    → next ≡ get_or statements i next → i < length statements
    → told ≡ least_of (walking_of next around scope).faults
    → names ≡ (walking_of next around scope).names
    → after ≡ earlier least told
    → IsWalked around statements begin (i + 1) after names
walk_turn around statements begin i least scope next told after names before next-is below told-is names-is after-is =
    let split : drop i statements ≡ next ∷ drop (i + 1) statements =
    drop-cons statements i next below
    ∙ ap (λ (s : Statement). s ∷ drop (suc i) statements) (sym next-is)
    ∙ ap (λ (k : ℕ). next ∷ drop k statements) (sym (add-one i)) in
    let walked : Walked = walking_of next around scope in
    let rest : Walked = in_order (map walking_of (drop (i + 1) statements)) around walked.names in
    record {
      told =
          ap (λ (n : Knowns). earlier after (least_of (in_order (map walking_of (drop (i + 1) statements)) around n).faults)) names-is
          ∙ ap (λ (l : Option Fault). earlier l (least_of rest.faults)) (after-is ∙ ap (earlier least) told-is)
          ∙ earlier_assoc least (least_of walked.faults) (least_of rest.faults)
          ∙ ap (earlier least) (sym (least_of_append walked.faults rest.faults))
          ∙ ap (λ (ss : List Statement). earlier least (least_of (in_order (map walking_of ss) around scope).faults)) (sym split)
          ∙ before.told;
      names =
          ap (λ (n : Knowns). (in_order (map walking_of (drop (i + 1) statements)) around n).names) names-is
          ∙ ap (λ (ss : List Statement). (in_order (map walking_of ss) around scope).names) (sym split)
          ∙ before.names;
    }

pub walk_end : (around : Around) (statements : List Statement) (begin : Knowns) (i : ℕ) (least : Option Fault) (scope : Knowns)
    → IsWalked around statements begin i least scope → length statements ≤ i
    → (least ≡ least_of (in_order (map walking_of statements) around begin).faults)
    × (scope ≡ (in_order (map walking_of statements) around begin).names)
walk_end around statements begin i least scope walked end =
    let over : drop i statements ≡ [] = drop_all i statements end in (
      sym (ap (λ (ss : List Statement). earlier least (least_of (in_order (map walking_of ss) around scope).faults)) over ∙ earlier_none least)
          ∙ walked.told,
      sym (ap (λ (ss : List Statement). (in_order (map walking_of ss) around scope).names) over) ∙ walked.names,
    )

-- what is in scope behind a block
pub walk_left : (around : Around) (statements : List Statement) (begin scope new : Knowns)
    → scope ≡ (in_order (map walking_of statements) around begin).names
    → new ≡ drop (length scope - length begin) scope → new ≡ begin
walk_left around statements begin scope new scope-is new-is =
    let added : Added begin (in_order (map walking_of statements) around begin).names = in_order_added statements around begin in
    new-is ∙ left_behind begin scope (added.0, scope-is ∙ added.1)
