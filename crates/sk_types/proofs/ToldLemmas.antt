-- What is kept of expressions tells the same faults as the definition.
use Rattle.std.proofs.Common.{◌≡◌, ℕ, ◌==◌, Bool, true, false, if◌then◌else◌, List, [], ◌∷◌, ◌++◌, map, length, Option, Some, None, refl, sym, ◌∙◌, ap, ℤ, ◌≤◌, get_or, ◌-◌, slice_range, arith}
use Rattle.std.proofs.lemmas.List.{length-map, take_all}
use Rattle.sk_names.specs.Bindings.{bound_to}
use Rattle.sk_typing.specs.TypingExpressions.{Judged, first_dimension, scope_faults, container_faults, part_faults, all_part_faults, misplaced_faults, argument_faults, each_argument_faults, use_faults, applied_faults, applied_use, use_of, called_use, Judging, judged_of, judging_step, judged_all, value_faults}
use Rattle.sk_typing.specs.TypingFaults.{comes_before, earlier, least_of}
use Rattle.sk_typing.specs.TypingInstances.{form_faults, callee_of}
use Rattle.sk_typing.specs.TypingNames as names
use Rattle.sk_tree.specs.declared.tree.Function.{Function}
use Rattle.sk_tree.specs.declared.tree.Skeleton.{Skeleton}
use Rattle.sk_typing.specs.declared.names.Expected.{Expected}
use Rattle.sk_typing.specs.declared.names.Expected.TheVariants.{Number, Container}
use Rattle.sk_typing.specs.declared.names.Fault.{Fault}
use Rattle.sk_typing.specs.declared.names.FaultKind.TheVariants.{Unknown, Arity}
use Rattle.sk_typing.specs.declared.names.Known.{Known}
use Rattle.sk_typing.specs.declared.names.Use.{Use}
use Rattle.sk_tree.specs.declared.tree.Expr.{Expr}
use Rattle.sk_tree.specs.declared.tree.Expr.TheOpen as layer
use Rattle.sk_typing.specs.declared.names.Use.TheVariants.{Takes, Wrong, Free}
use Rattle.sk_types.specs.declared.argument.Argument.{Argument}
use Rattle.sk_types.specs.Told.{argument_of, first_kept, told_or, applied_told, part_told, parts_told, misplaced_told, argument_told, each_told, use_told}
use Rattle.sk_typing_laws.proofs.Least.{least_of_append}

pub first_is : (judged : List Judged) → first_kept (map argument_of judged) ≡ first_dimension judged
first_is [] = refl
first_is (first ∷ rest) = refl

pub part_is : (around : names.Around) (judged : Judged) → part_told around (argument_of judged) ≡ least_of (part_faults around judged)
part_is around judged = by judged.is_name
  where
    by : (t : Bool) → (if t then least_of (scope_faults around judged.known) else least_of judged.faults)
        ≡ least_of (if t then scope_faults around judged.known else judged.faults)
    by true = refl
    by false = refl

pub parts_is : (around : names.Around) (judged : List Judged)
    → parts_told around (map argument_of judged) ≡ least_of (all_part_faults around judged)
parts_is around [] = refl
parts_is around (first ∷ rest) =
    ap (λ (t : Option Fault). earlier t (parts_told around (map argument_of rest))) (part_is around first)
    ∙ ap (earlier (least_of (part_faults around first))) (parts_is around rest)
    ∙ sym (least_of_append (part_faults around first) (all_part_faults around rest))

-- a list of faults that has one tells one
pub some_told : (around : names.Around) (fault : Fault) (told : Option Fault)
    → misplaced_told around (earlier (Some fault) told) ≡ earlier (Some fault) told
some_told around fault None = refl
some_told around fault (Some other) = by (comes_before other fault)
  where
    by : (t : Bool) → misplaced_told around (if t then Some other else Some fault) ≡ (if t then Some other else Some fault)
    by true = refl
    by false = refl

pub misplaced_is : (around : names.Around) (faults : List Fault) → misplaced_told around (least_of faults) ≡ least_of (misplaced_faults around faults)
misplaced_is around [] = refl
misplaced_is around (fault ∷ faults) = some_told around fault (least_of faults)

pub argument_is : (around : names.Around) (expected : Expected) (judged : Judged)
    → argument_told around expected (argument_of judged) ≡ least_of (argument_faults around expected judged)
argument_is around Number judged = refl
argument_is around (Container dimension ty) judged = by judged.is_name
  where
    by : (t : Bool) → (if t then least_of (container_faults around dimension ty judged.known) else misplaced_told around (least_of judged.faults))
        ≡ least_of (if t then container_faults around dimension ty judged.known else misplaced_faults around judged.faults)
    by true = refl
    by false = misplaced_is around judged.faults

pub each_is : (around : names.Around) (expected : List Expected) (judged : List Judged)
    → each_told around expected (map argument_of judged) ≡ least_of (each_argument_faults around expected judged)
each_is around [] judged = refl
each_is around (wanted ∷ more) [] = refl
each_is around (wanted ∷ more) (first ∷ rest) =
    ap (λ (t : Option Fault). earlier t (each_told around more (map argument_of rest))) (argument_is around wanted first)
    ∙ ap (earlier (least_of (argument_faults around wanted first))) (each_is around more rest)
    ∙ sym (least_of_append (argument_faults around wanted first) (each_argument_faults around more rest))

-- one fault and those of the parts
with_parts : (around : names.Around) (faults : List Fault) (judged : List Judged)
    → earlier (least_of faults) (parts_told around (map argument_of judged)) ≡ least_of (faults ++ all_part_faults around judged)
with_parts around faults judged =
    ap (earlier (least_of faults)) (parts_is around judged) ∙ sym (least_of_append faults (all_part_faults around judged))

pub use_is : (around : names.Around) (used : Use) (judged : List Judged)
    → use_told around used (map argument_of judged) ≡ least_of (use_faults around used judged)
use_is around (Takes expected) judged = rw (length-map judged argument_of) (by (length judged == length expected))
  where
    by : (t : Bool)
        → (if t then each_told around expected (map argument_of judged)
        else earlier (least_of (names.fault around Arity)) (parts_told around (map argument_of judged)))
        ≡ least_of (if t then each_argument_faults around expected judged else names.fault around Arity ++ all_part_faults around judged)
    by true = each_is around expected judged
    by false = with_parts around (names.fault around Arity) judged
use_is around (Wrong kind) judged = with_parts around (names.fault around kind) judged
use_is around Free judged = parts_is around judged

-- a list of faults that has one tells one
some_first : (fault : Fault) (told more : Option Fault) → told_or (earlier (Some fault) told) more ≡ earlier (Some fault) told
some_first fault None more = refl
some_first fault (Some other) more = by (comes_before other fault)
  where
    by : (t : Bool) → told_or (if t then Some other else Some fault) more ≡ (if t then Some other else Some fault)
    by true = refl
    by false = refl

-- what is told of a list of faults, in front of what else is told where there are none
or_else : (faults : List Fault) (told : Option Fault) (more : List Fault) → told ≡ least_of more
    → told_or (least_of faults) told ≡ least_of (elim faults as (λ _. List Fault) [ [] ↦ more | fault ∷ rest ↦ fault ∷ rest ])
or_else [] told more is = is
or_else (fault ∷ faults) told more is = some_first fault (least_of faults) told

pub applied_is : (around : names.Around) (known : Option Known) (judged : List Judged)
    → applied_told around known (map argument_of judged) ≡ least_of (applied_faults around known judged)
applied_is around None judged = use_is around (Wrong Unknown) judged
applied_is around (Some known) judged =
    let kept : List Argument = map argument_of judged in
    let used : Use = applied_use around (length judged) (first_dimension judged) known in
    let told : use_told around (applied_use around (length kept) (first_kept kept) known) kept ≡ least_of (use_faults around used judged) =
    ap (λ (n : ℕ). use_told around (applied_use around n (first_kept kept) known) kept) (length-map judged argument_of)
    ∙ ap (λ (d : Option ℕ). use_told around (applied_use around (length judged) d known) kept) (first_is judged)
    ∙ use_is around used judged in
    ap (λ (p : Option Fault). told_or p (use_told around (applied_use around (length kept) (first_kept kept) known) kept)) (parts_is around judged)
    ∙ or_else (all_part_faults around judged)
    (use_told around (applied_use around (length kept) (first_kept kept) known) kept) (use_faults around used judged) told

-- what is kept of an expression with two parts
pub two_kept : (expr left right : Expr)
    → judged_of expr ≡ judging_step (layer.Both (judged_of left) (judged_of right))
    → (around : names.Around) (scope : names.Knowns) (one other kept : Argument)
    → one ≡ argument_of (judged_of left around scope)
    → other ≡ argument_of (judged_of right around scope)
    → kept ≡ record { is_name = false; known = None; least = earlier one.least other.least }
    → kept ≡ argument_of (judged_of expr around scope)
two_kept expr left right is around scope one other kept one-is other-is kept-is =
    let whole : argument_of (judged_of expr around scope) ≡ argument_of (judging_step (layer.Both (judged_of left) (judged_of right)) around scope) =
    ap (λ (j : Judging). argument_of (j around scope)) is in
    let least : earlier one.least other.least ≡ least_of (value_faults around scope left ++ value_faults around scope right) =
    ap (λ (k : Argument). earlier k.least other.least) one-is
    ∙ ap (λ (k : Argument). earlier (least_of (value_faults around scope left)) k.least) other-is
    ∙ sym (least_of_append (value_faults around scope left) (value_faults around scope right)) in
    kept-is ∙ ap (λ (l : Option Fault). let k : Argument = record { is_name = false; known = None; least = l } in k) least ∙ sym whole

-- of one with three parts
pub three_kept : (expr test left right : Expr)
    → judged_of expr ≡ judging_step (layer.Choose (judged_of test) (judged_of left) (judged_of right))
    → (around : names.Around) (scope : names.Knowns) (tested one other kept : Argument)
    → tested ≡ argument_of (judged_of test around scope)
    → one ≡ argument_of (judged_of left around scope)
    → other ≡ argument_of (judged_of right around scope)
    → kept ≡ record { is_name = false; known = None; least = earlier (earlier tested.least one.least) other.least }
    → kept ≡ argument_of (judged_of expr around scope)
three_kept expr test left right is around scope tested one other kept tested-is one-is other-is kept-is =
    let whole : argument_of (judged_of expr around scope) ≡ argument_of (judging_step (layer.Choose (judged_of test) (judged_of left) (judged_of right)) around scope) =
    ap (λ (j : Judging). argument_of (j around scope)) is in
    let first : List Fault = value_faults around scope test in
    let second : List Fault = value_faults around scope left in
    let third : List Fault = value_faults around scope right in
    let least : earlier (earlier tested.least one.least) other.least ≡ least_of ((first ++ second) ++ third) =
    ap (λ (k : Argument). earlier (earlier k.least one.least) other.least) tested-is
    ∙ ap (λ (k : Argument). earlier (earlier (least_of first) k.least) other.least) one-is
    ∙ ap (λ (k : Argument). earlier (earlier (least_of first) (least_of second)) k.least) other-is
    ∙ ap (λ (l : Option Fault). earlier l (least_of third)) (sym (least_of_append first second))
    ∙ sym (least_of_append (first ++ second) third) in
    kept-is ∙ ap (λ (l : Option Fault). let k : Argument = record { is_name = false; known = None; least = l } in k) least ∙ sym whole

-- of a name with arguments
pub applied_kept : (expr : Expr) (name : List ℕ) (arguments : List Expr)
    → judged_of expr ≡ judging_step (layer.Apply name (map judged_of arguments))
    → (around : names.Around) (scope : names.Knowns) (kept : Argument) (parts : List Argument)
    → parts ≡ map argument_of (judged_all around scope arguments)
    → kept ≡ record { is_name = false; known = None; least = applied_told around (bound_to name scope) parts }
    → kept ≡ argument_of (judged_of expr around scope)
applied_kept expr name arguments is around scope kept parts parts-is kept-is =
    let whole : argument_of (judged_of expr around scope) ≡ argument_of (judging_step (layer.Apply name (map judged_of arguments)) around scope) =
    ap (λ (j : Judging). argument_of (j around scope)) is in
    let least : applied_told around (bound_to name scope) parts ≡ least_of (applied_faults around (bound_to name scope) (judged_all around scope arguments)) =
    ap (applied_told around (bound_to name scope)) parts-is ∙ applied_is around (bound_to name scope) (judged_all around scope arguments) in
    kept-is ∙ ap (λ (l : Option Fault). let k : Argument = record { is_name = false; known = None; least = l } in k) least ∙ sym whole

-- an instance whose first function is known
pub form_first : (around : names.Around) (scope : names.Knowns) (skeleton : Skeleton) (numbers : List ℤ) (functions : List (List ℕ))
    (first : List ℕ) (function : Function) (told : Option Fault)
    → 1 ≤ length functions → first ≡ get_or functions 0 first
    → Some function ≡ callee_of around (bound_to first scope)
    → told ≡ least_of (form_faults around skeleton numbers (Some function ∷ map (λ name. callee_of around (bound_to name scope)) (slice_range functions 1 (length functions))))
    → told ≡ least_of (form_faults around skeleton numbers (map (λ name. callee_of around (bound_to name scope)) functions))
form_first around scope skeleton numbers [] first function told some is known told-is = absurd (omega (arith, some))
form_first around scope skeleton numbers (name ∷ more) first function told some is known told-is =
    let found : Some function ≡ callee_of around (bound_to name scope) = known ∙ ap (λ n. callee_of around (bound_to n scope)) is in
    let rest : slice_range (name ∷ more) 1 (length (name ∷ more)) ≡ more = take_all (length (name ∷ more) - 1) more (omega arith) in
    told-is
    ∙ ap (λ (r : List (List ℕ)). least_of (form_faults around skeleton numbers (Some function ∷ map (λ name. callee_of around (bound_to name scope)) r))) rest
    ∙ ap (λ (f : Option Function). least_of (form_faults around skeleton numbers (f ∷ map (λ name. callee_of around (bound_to name scope)) more))) found

-- a use with what is kept of its arguments
pub use_kept : (around : names.Around) (used wanted : Use) (judged : List Judged) (kept : List Argument)
    → kept ≡ map argument_of judged → used ≡ wanted
    → use_told around used kept ≡ least_of (use_faults around wanted judged)
use_kept around used wanted judged kept kept-is used-is =
    ap (λ (u : Use). use_told around u kept) used-is ∙ ap (use_told around wanted) kept-is ∙ use_is around wanted judged

-- a call statement
pub call_kept : (around : names.Around) (known : Option Known) (used : Use) (judged : List Judged) (kept : List Argument)
    → kept ≡ map argument_of judged
    → used ≡ use_of known (called_use around (length kept) (first_kept kept))
    → use_told around used kept ≡ least_of (use_faults around (use_of known (called_use around (length judged) (first_dimension judged))) judged)
call_kept around known used judged kept kept-is used-is =
    use_kept around used (use_of known (called_use around (length judged) (first_dimension judged))) judged kept kept-is
    (used-is
    ∙ ap (λ (k : List Argument). use_of known (called_use around (length k) (first_kept k))) kept-is
    ∙ ap (λ (n : ℕ). use_of known (called_use around n (first_kept (map argument_of judged)))) (length-map judged argument_of)
    ∙ ap (λ (d : Option ℕ). use_of known (called_use around (length judged) d)) (first_is judged))
