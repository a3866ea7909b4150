-- Inputs of two lists of containers, one after the other.
use Rattle.std.proofs.Common.{◌≡◌, List, [], ◌∷◌, ◌++◌, Option, Some, None, refl, sym, ◌∙◌, ap, append_assoc, if◌then◌else◌}
use Rattle.sk_typing.specs.Inputs.{Taken, input_named, distinct_after, input_faults_after, same_input}
use Rattle.sk_typing.specs.declared.names.Fault.{Fault}
use Rattle.sk_typing.specs.declared.names.Fault.TheVariants.{At}
use Rattle.sk_typing.specs.declared.names.FaultKind.TheVariants.{Mismatch}
use Rattle.sk_tree.specs.declared.declared.Declared.{Declared}

pub distinct_append : (seen : List Declared) (xs ys : List Taken)
    → distinct_after seen (xs ++ ys) ≡ distinct_after (distinct_after seen xs) ys
distinct_append seen [] ys = refl
distinct_append seen (x ∷ xs) ys = by (input_named x.input.name seen) (distinct_append seen xs ys) (distinct_append (seen ++ x.input ∷ []) xs ys)
  where
    by : (found : Option Declared)
        → distinct_after seen (xs ++ ys) ≡ distinct_after (distinct_after seen xs) ys
        → distinct_after (seen ++ x.input ∷ []) (xs ++ ys) ≡ distinct_after (distinct_after (seen ++ x.input ∷ []) xs) ys
        → elim found as (λ _. List Declared) [ Some first ↦ distinct_after seen (xs ++ ys) | None ↦ distinct_after (seen ++ x.input ∷ []) (xs ++ ys) ]
        ≡ distinct_after (elim found as (λ _. List Declared) [ Some first ↦ distinct_after seen xs | None ↦ distinct_after (seen ++ x.input ∷ []) xs ]) ys
    by (Some first) old new = old
    by None old new = new

pub faults_append : (seen : List Declared) (xs ys : List Taken)
    → input_faults_after seen (xs ++ ys) ≡ input_faults_after seen xs ++ input_faults_after (distinct_after seen xs) ys
faults_append seen [] ys = refl
faults_append seen (x ∷ xs) ys = by (input_named x.input.name seen) (faults_append seen xs ys) (faults_append (seen ++ x.input ∷ []) xs ys)
  where
    by : (found : Option Declared)
        → input_faults_after seen (xs ++ ys) ≡ input_faults_after seen xs ++ input_faults_after (distinct_after seen xs) ys
        → input_faults_after (seen ++ x.input ∷ []) (xs ++ ys) ≡ input_faults_after (seen ++ x.input ∷ []) xs ++ input_faults_after (distinct_after (seen ++ x.input ∷ []) xs) ys
        → elim found as (λ _. List Fault) [
          | Some first ↦ (if same_input first x.input then [] else At x.line Mismatch ∷ []) ++ input_faults_after seen (xs ++ ys)
          | None ↦ input_faults_after (seen ++ x.input ∷ []) (xs ++ ys)
        ]
        ≡ elim found as (λ _. List Fault) [
          | Some first ↦ (if same_input first x.input then [] else At x.line Mismatch ∷ []) ++ input_faults_after seen xs
          | None ↦ input_faults_after (seen ++ x.input ∷ []) xs
        ] ++ input_faults_after (elim found as (λ _. List Declared) [ Some first ↦ distinct_after seen xs | None ↦ distinct_after (seen ++ x.input ∷ []) xs ]) ys
    by (Some first) old new =
        ap (λ (fs : List Fault). (if same_input first x.input then [] else At x.line Mismatch ∷ []) ++ fs) old
        ∙ sym (append_assoc (if same_input first x.input then [] else At x.line Mismatch ∷ []) (input_faults_after seen xs) (input_faults_after (distinct_after seen xs) ys))
    by None old new = new
