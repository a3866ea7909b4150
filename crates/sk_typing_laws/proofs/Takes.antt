-- Inputs of statements with parts.
use Rattle.std.proofs.Common.{◌≡◌, ◌<◌, ◌≤◌, ◌+◌, ℕ, suc, List, [], ◌∷◌, ◌++◌, map, flat_map, length, drop, get_or, Option, sym, ◌∙◌, ap, add-one}
use Rattle.std.proofs.Math.Seq.{drop-cons}
use Rattle.std.proofs.lemmas.List.{drop_all}
use Rattle.std.proofs.lemmas.List.Folds.{flat_map-map}
use Rattle.sk_typing.specs.Inputs.{Taken, taken_of, distinct_after, input_faults_after}
use Rattle.sk_typing.specs.TypingFaults.{earlier, least_of}
use Rattle.sk_typing_laws.proofs.Levels.{taking_what, taking-statement, taking-roll}
use Rattle.sk_tree.specs.declared.declared.Declared.{Declared}
use Rattle.sk_typing.specs.declared.names.Fault.{Fault}
use Rattle.sk_tree.specs.declared.tree.Expr.{Expr}
use Rattle.sk_tree.specs.declared.tree.Statement.{Statement}
use Rattle.sk_tree.specs.declared.tree.What.{What}
use Rattle.sk_tree.specs.declared.tree.What.TheOpen as layer
use Rattle.sk_tree.specs.declared.tree.What.TheVariants as variant
use Rattle.sk_typing_laws.proofs.Inputs.{distinct_append, faults_append}
use Rattle.sk_typing_laws.proofs.Least.{joined, earlier_assoc, earlier_none, least_of_append}

take_of : (statement : Statement) (what : What) → statement.what ≡ what → taken_of statement ≡ taking_what what statement.line
take_of statement what is =
    taking-statement statement.line statement.what ∙ ap (λ (w : What). taking_what w statement.line) is

if_taken : (statement : Statement) (test : Expr) (one other : List Statement) → statement.what ≡ variant.If test one other
    → taken_of statement ≡ flat_map taken_of one ++ flat_map taken_of other
if_taken statement test one other is =
    take_of statement (variant.If test one other) is
    ∙ ap (λ (w : What). taking_what w statement.line) (sym (variant.rolls-If test one other))
    ∙ ap (λ (f : ℕ → List Taken). f statement.line) (taking-roll (layer.If test one other))
    ∙ ap (λ (ts : List Taken). ts ++ flat_map (λ taken. taken) (map taken_of other)) (flat_map-map (λ taken. taken) taken_of one)
    ∙ ap (λ (ts : List Taken). flat_map taken_of one ++ ts) (flat_map-map (λ taken. taken) taken_of other)

pub for_taken : (statement first : Statement) (test : Expr) (step : Statement) (body : List Statement)
    → statement.what ≡ variant.For first test step body → taken_of statement ≡ flat_map taken_of body
for_taken statement first test step body is =
    take_of statement (variant.For first test step body) is
    ∙ ap (λ (w : What). taking_what w statement.line) (sym (variant.rolls-For first test step body))
    ∙ ap (λ (f : ℕ → List Taken). f statement.line) (taking-roll (layer.For first test step body))
    ∙ flat_map-map (λ taken. taken) taken_of body

pub if_take : (begin between after : List Declared) (statement : Statement) (test : Expr) (one other : List Statement)
    → statement.what ≡ variant.If test one other
    → (first second result : Option Fault)
    → first ≡ least_of (input_faults_after begin (flat_map taken_of one))
    → between ≡ distinct_after begin (flat_map taken_of one)
    → second ≡ least_of (input_faults_after between (flat_map taken_of other))
    → after ≡ distinct_after between (flat_map taken_of other)
    → result ≡ earlier first second
    → (result ≡ least_of (input_faults_after begin (taken_of statement))) × (after ≡ distinct_after begin (taken_of statement))
if_take begin between after statement test one other is first second result first-is between-is second-is after-is result-is =
    let whole : flat_map taken_of one ++ flat_map taken_of other ≡ taken_of statement = sym (if_taken statement test one other is) in
    let front : List Fault = input_faults_after begin (flat_map taken_of one) in
    let back : List Fault = input_faults_after (distinct_after begin (flat_map taken_of one)) (flat_map taken_of other) in (
      result-is
          ∙ joined front back first second first-is
          (second-is ∙ ap (λ (d : List Declared). least_of (input_faults_after d (flat_map taken_of other))) between-is)
          ∙ ap least_of (sym (faults_append begin (flat_map taken_of one) (flat_map taken_of other)))
          ∙ ap (λ (ts : List Taken). least_of (input_faults_after begin ts)) whole,
      after-is
          ∙ ap (λ (d : List Declared). distinct_after d (flat_map taken_of other)) between-is
          ∙ sym (distinct_append begin (flat_map taken_of one) (flat_map taken_of other))
          ∙ ap (distinct_after begin) whole,
    )

-- how far a search for inputs has come
pub record IsTaken (statements : List Statement) (begin : List Declared) (i : ℕ) (least : Option Fault) (seen : List Declared) : Type 0 where
  pub told : earlier least (least_of (input_faults_after seen (flat_map taken_of (drop i statements))))
      ≡ least_of (input_faults_after begin (flat_map taken_of statements))
  pub found : distinct_after seen (flat_map taken_of (drop i statements)) ≡ distinct_after begin (flat_map taken_of statements)

pub take_turn : (statements : List Statement) (begin : List Declared) (i : ℕ) (least : Option Fault) (seen : List Declared)
    (next : Statement) (told after : Option Fault) (found : List Declared)
    → IsTaken statements begin i least seen
    → next ≡ get_or statements i next → i < length statements
    → told ≡ least_of (input_faults_after seen (taken_of next))
    → found ≡ distinct_after seen (taken_of next)
    → after ≡ earlier least told
    → IsTaken statements begin (i + 1) after found
take_turn statements begin i least seen next told after found before next-is below told-is found-is after-is =
    let split : drop i statements ≡ next ∷ drop (i + 1) statements =
    drop-cons statements i next below
    ∙ ap (λ (s : Statement). s ∷ drop (suc i) statements) (sym next-is)
    ∙ ap (λ (k : ℕ). next ∷ drop k statements) (sym (add-one i)) in
    let rest : List Taken = flat_map taken_of (drop (i + 1) statements) in
    let here : List Fault = input_faults_after seen (taken_of next) in
    let there : List Fault = input_faults_after (distinct_after seen (taken_of next)) rest in
    record {
      told =
          ap (λ (d : List Declared). earlier after (least_of (input_faults_after d rest))) found-is
          ∙ ap (λ (l : Option Fault). earlier l (least_of there)) (after-is ∙ ap (earlier least) told-is)
          ∙ earlier_assoc least (least_of here) (least_of there)
          ∙ ap (earlier least) (sym (least_of_append here there))
          ∙ ap (λ (fs : List Fault). earlier least (least_of fs)) (sym (faults_append seen (taken_of next) rest))
          ∙ ap (λ (ss : List Statement). earlier least (least_of (input_faults_after seen (flat_map taken_of ss)))) (sym split)
          ∙ before.told;
      found =
          ap (λ (d : List Declared). distinct_after d rest) found-is
          ∙ sym (distinct_append seen (taken_of next) rest)
          ∙ ap (λ (ss : List Statement). distinct_after seen (flat_map taken_of ss)) (sym split)
          ∙ before.found;
    }

pub take_end : (statements : List Statement) (begin : List Declared) (i : ℕ) (least : Option Fault) (seen : List Declared)
    → IsTaken statements begin i least seen → length statements ≤ i
    → (least ≡ least_of (input_faults_after begin (flat_map taken_of statements)))
    × (seen ≡ distinct_after begin (flat_map taken_of statements))
take_end statements begin i least seen taken end =
    let over : drop i statements ≡ [] = drop_all i statements end in (
      sym (ap (λ (ss : List Statement). earlier least (least_of (input_faults_after seen (flat_map taken_of ss)))) over ∙ earlier_none least)
          ∙ taken.told,
      sym (ap (λ (ss : List Statement). distinct_after seen (flat_map taken_of ss)) over) ∙ taken.found,
    )
