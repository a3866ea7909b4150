-- Inputs of statements with parts, and the names of inputs.
use Rattle.std.proofs.Common.{◌≡◌, ◌<◌, ◌≤◌, ◌+◌, ℕ, suc, List, [], ◌∷◌, ◌++◌, Bool, true, false, if◌then◌else◌, map, flat_map, length, drop, get_or, Option, Some, None, refl, sym, ◌∙◌, ap, add-one}
use Rattle.std.proofs.lemmas.List.{drop_all}
use Rattle.std.proofs.lemmas.List.Folds.{flat_map-map}
use Rattle.std.specs.List.{find}
use Rattle.std.specs.Prelude.{is_some}
use Rattle.sk_emitter.proofs.Lists.{left_cons}
use Rattle.sk_main_emitter.specs.Seen.{AreNames}
use Rattle.sk_names.specs.Bindings.{bound_to}
use Rattle.sk_names.specs.Bytes.{same_bytes}
use Rattle.sk_tree.specs.declared.declared.Declared.{Declared}
use Rattle.sk_tree.specs.declared.tree.Expr.{Expr}
use Rattle.sk_tree.specs.declared.tree.Statement.{Statement}
use Rattle.sk_tree.specs.declared.tree.What.{What}
use Rattle.sk_tree.specs.declared.tree.What.TheOpen as layer
use Rattle.sk_tree.specs.declared.tree.What.TheVariants as variant
use Rattle.sk_typing.specs.Inputs.{Taken, taken_of, distinct_after, input_named}
use Rattle.sk_typing_laws.proofs.Inputs.{distinct_append}
use Rattle.sk_typing_laws.proofs.Levels.{taking_what, taking-statement, taking-roll}
use Rattle.sk_typing_laws.proofs.Takes.{for_taken}

if_taken : (statement : Statement) (test : Expr) (one other : List Statement) → statement.what ≡ variant.If test one other
    → taken_of statement ≡ flat_map taken_of one ++ flat_map taken_of other
if_taken statement test one other is =
    taking-statement statement.line statement.what ∙ ap (λ (w : What). taking_what w statement.line) is
    ∙ ap (λ (w : What). taking_what w statement.line) (sym (variant.rolls-If test one other))
    ∙ ap (λ (f : ℕ → List Taken). f statement.line) (taking-roll (layer.If test one other))
    ∙ ap (λ (ts : List Taken). ts ++ flat_map (λ taken. taken) (map taken_of other)) (flat_map-map (λ taken. taken) taken_of one)
    ∙ ap (λ (ts : List Taken). flat_map taken_of one ++ ts) (flat_map-map (λ taken. taken) taken_of other)

pub if_found : (begin between after : List Declared) (statement : Statement) (test : Expr) (one other : List Statement)
    → statement.what ≡ variant.If test one other
    → between ≡ distinct_after begin (flat_map taken_of one)
    → after ≡ distinct_after between (flat_map taken_of other)
    → after ≡ distinct_after begin (taken_of statement)
if_found begin between after statement test one other is first second =
    second ∙ ap (λ (d : List Declared). distinct_after d (flat_map taken_of other)) first
    ∙ sym (distinct_append begin (flat_map taken_of one) (flat_map taken_of other))
    ∙ ap (distinct_after begin) (sym (if_taken statement test one other is))

pub for_found : (begin after : List Declared) (statement first : Statement) (test : Expr) (step : Statement) (body : List Statement)
    → statement.what ≡ variant.For first test step body
    → after ≡ distinct_after begin (flat_map taken_of body)
    → after ≡ distinct_after begin (taken_of statement)
for_found begin after statement first test step body is found =
    found ∙ ap (distinct_after begin) (sym (for_taken statement first test step body is))

-- what was found so far leads to the whole, once what is left is found
pub found_turn : (statements : List Statement) (begin now after : List Declared) (i : ℕ) (next : Statement)
    → distinct_after now (flat_map taken_of (drop i statements)) ≡ distinct_after begin (flat_map taken_of statements)
    → next ≡ get_or statements i next → i < length statements
    → after ≡ distinct_after now (taken_of next)
    → distinct_after after (flat_map taken_of (drop (i + 1) statements)) ≡ distinct_after begin (flat_map taken_of statements)
found_turn statements begin now after i next before is below found =
    ap (λ (d : List Declared). distinct_after d (flat_map taken_of (drop (i + 1) statements))) found
    ∙ sym (distinct_append now (taken_of next) (flat_map taken_of (drop (i + 1) statements)))
    ∙ ap (λ (left : List Statement). distinct_after now (flat_map taken_of left)) (sym (left_cons statements i next below is))
    ∙ before

pub found_end : (statements : List Statement) (begin now : List Declared) (i : ℕ)
    → distinct_after now (flat_map taken_of (drop i statements)) ≡ distinct_after begin (flat_map taken_of statements)
    → length statements ≤ i → now ≡ distinct_after begin (flat_map taken_of statements)
found_end statements begin now i before over =
    sym (ap (λ (left : List Statement). distinct_after now (flat_map taken_of left)) (drop_all i statements over)) ∙ before

-- whether an input is among these, or is one more
found_last : (name : List ℕ) (inputs : List Declared) (last : Declared)
    → is_some (input_named name (inputs ++ last ∷ [])) ≡ (if same_bytes last.name name then true else is_some (input_named name inputs))
found_last name [] last = by (same_bytes last.name name)
  where
    by : (t : Bool) → is_some (if t then Some last else None) ≡ (if t then true else false)
    by true = refl
    by false = refl
found_last name (first ∷ inputs) last = by (same_bytes first.name name) (same_bytes last.name name) (found_last name inputs last)
  where
    by : (s t : Bool) → is_some (input_named name (inputs ++ last ∷ [])) ≡ (if t then true else is_some (input_named name inputs))
        → is_some (if s then Some first else input_named name (inputs ++ last ∷ []))
        ≡ (if t then true else is_some (if s then Some first else input_named name inputs))
    by true true rest = refl
    by true false rest = refl
    by false true rest = rest
    by false false rest = rest

-- one more input, by its name
pub named_more : {X : Type 0} (names : List (List ℕ × X)) (inputs : List Declared) (name : List ℕ) (x : X) (kind : ℕ) (last : Declared)
    → last.name ≡ name → AreNames names inputs → AreNames ((name, x) ∷ names) (inputs ++ last ∷ [])
named_more {X} names inputs name x kind last same are other =
    by (same_bytes name other) ∙ ap (λ n. if same_bytes n other then true else is_some (input_named other inputs)) (sym same)
    ∙ sym (found_last other inputs last)
  where
    by : (t : Bool) → is_some (if t then Some x else bound_to other names) ≡ (if t then true else is_some (input_named other inputs))
    by true = refl
    by false = are other

-- where no input has a name, one more of that name is distinct
pub distinct_more : (inputs : List Declared) (taken : Taken) → is_some (input_named taken.input.name inputs) ≡ false
    → distinct_after inputs (taken ∷ []) ≡ inputs ++ taken.input ∷ []
distinct_more inputs taken = by (input_named taken.input.name inputs)
  where
    by : (found : Option Declared) → is_some found ≡ false
        → (elim found [ Some first ↦ distinct_after inputs [] | None ↦ distinct_after (inputs ++ taken.input ∷ []) [] ]) ≡ inputs ++ taken.input ∷ []
    by (Some first) is = absurd (cc is)
    by None is = refl

-- where an input has a name, no other of that name is found
pub distinct_same : (inputs : List Declared) (taken : Taken) → is_some (input_named taken.input.name inputs) ≡ true
    → distinct_after inputs (taken ∷ []) ≡ inputs
distinct_same inputs taken = by (input_named taken.input.name inputs)
  where
    by : (found : Option Declared) → is_some found ≡ true
        → (elim found [ Some first ↦ distinct_after inputs [] | None ↦ distinct_after (inputs ++ taken.input ∷ []) [] ]) ≡ inputs
    by (Some first) is = refl
    by None is = absurd (cc is)
