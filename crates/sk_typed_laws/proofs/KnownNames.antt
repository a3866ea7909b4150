-- The functions in scope, as the rules of names and as the scheme have them.
use Rattle.std.proofs.Common.{◌≡◌, ℕ, ◌<◌, Bool, true, false, List, [], ◌∷◌, Option, Some, None, if◌then◌else◌, sym, ap, ◌∙◌, subst, arith}
use Rattle.std.proofs.lemmas.Bool.{ltb-true}
use Rattle.std.specs.Prelude.{nat_lt, slice_get}
use Rattle.sk_names.specs.Bindings.{bound_to}
use Rattle.sk_names.specs.Bytes.{same_bytes}
use Rattle.sk_scheme.specs.Scheme.{Known as Callee, known_of}
use Rattle.sk_tree.specs.declared.tree.Function.{Function}
use Rattle.sk_tree.specs.declared.tree.Param.{Param}
use Rattle.sk_tree.specs.declared.tree.Statement.{Statement}
use Rattle.sk_tree.specs.declared.tree.What.{What, What-F, out-What, roll-out-What, map-What}
use Rattle.sk_tree.specs.declared.tree.What.TheOpen.{Declare, Assign, Poke, Make, Take, Instance, Set, Call, Print, If, For, Return}
use Rattle.sk_tree.specs.declared.tree.Instance.{Instance as InstanceTree}
use Rattle.sk_typing.specs.Typing.{params_walked}
use Rattle.sk_typing.specs.TypingInstances.{instance_faults, instance_known, made_of}
use Rattle.sk_typing.specs.TypingNames.{Knowns, Around, fault}
use Rattle.sk_typing.specs.TypingStatements.{Walked, Walking, of_main, walking_of, walking_step}
use Rattle.sk_typing.specs.declared.names.Fault.{Fault}
use Rattle.sk_typing.specs.declared.names.FaultKind.TheVariants.{Mismatch}
use Rattle.sk_typing.specs.declared.names.Known.{Known}
use Rattle.sk_typing.specs.declared.names.Known.TheVariants.{Variable, Function as FunctionName, Instance as InstanceName, Broken}
use Rattle.sk_typing_laws.proofs.Levels.{walking_what, walking-statement, walking-roll}

-- A function that a name stands for is known to the scheme, if it is one of those before.
abbrev pub IsKnownAs : (functions : List Function) (before : ℕ) → Option Known → Option Callee → Type 0
IsKnownAs functions before None callee = Unit {0}
IsKnownAs functions before (Some (FunctionName number)) callee =
    nat_lt number before ≡ true → (function : Function) → slice_get functions number ≡ Some function → callee ≡ Some (known_of number function)
IsKnownAs functions before (Some (Variable kind)) callee = Unit {0}
IsKnownAs functions before (Some (InstanceName made)) callee = Unit {0}
IsKnownAs functions before (Some Broken) callee = Unit {0}

abbrev pub IsNoFunction : Known → Type 0
IsNoFunction (FunctionName number) = ⊥
IsNoFunction (Variable kind) = Unit {0}
IsNoFunction (InstanceName made) = Unit {0}
IsNoFunction Broken = Unit {0}

pub record AreKnown (functions : List Function) (before : ℕ) (names : Knowns) (callees : List (List ℕ × Callee)) : Type 0 where
  pub known : (name : List ℕ) → IsKnownAs functions before (bound_to name names) (bound_to name callees)

module _ (functions : List Function) (before : ℕ) where
  other_known : (same : Bool) (known : Known) (earlier : Option Known) (callee : Option Callee) → IsNoFunction known → IsKnownAs functions before earlier callee
      → IsKnownAs functions before (if same then Some known else earlier) callee
  other_known true (FunctionName number) earlier callee free h = absurd free
  other_known true (Variable kind) earlier callee free h = tt
  other_known true (InstanceName made) earlier callee free h = tt
  other_known true Broken earlier callee free h = tt
  other_known false known earlier callee free h = h

  -- a name that is no function's
  pub known_other : (name : List ℕ) (known : Known) (names : Knowns) (callees : List (List ℕ × Callee)) → IsNoFunction known → AreKnown functions before names callees
      → AreKnown functions before ((name, known) ∷ names) callees
  known_other name known names callees free h = record {
    known = λ other. other_known (same_bytes name other) known (bound_to other names) (bound_to other callees) free (h.known other);
  }

  -- the name of the function that it stands in
  own_known : (same : Bool) (earlier : Option Known) (callee : Option Callee) → IsKnownAs functions before earlier callee
      → IsKnownAs functions before (if same then Some (FunctionName before) else earlier) callee
  own_known true earlier callee h = λ below function is. let low : before < before = ltb-true before before below in absurd (omega (arith, low))
  own_known false earlier callee h = h

  pub known_own : (name : List ℕ) (names : Knowns) (callees : List (List ℕ × Callee)) → AreKnown functions before names callees
      → AreKnown functions before ((name, FunctionName before) ∷ names) callees
  known_own name names callees h = record {
    known = λ other. own_known (same_bytes name other) (bound_to other names) (bound_to other callees) (h.known other);
  }

  -- parameters
  pub known_params : (around : Around) (params : List Param) (names : Knowns) (callees : List (List ℕ × Callee)) → AreKnown functions before names callees
      → AreKnown functions before (params_walked around names params).names callees
  known_params around [] names callees h = h
  known_params around (param ∷ params) names callees h =
      known_params around params ((param.name, Variable param.kind) ∷ names) callees (known_other param.name (Variable param.kind) names callees tt h)

  module _ (callees : List (List ℕ × Callee)) where
    abbrev Are : Knowns → Type 0
    Are names = AreKnown functions before names callees

    of_main_known : (around : Around) (walked : Walked) (names : Knowns) → Are walked.names → Are names → Are (of_main around walked names).names
    of_main_known around walked names h g = by_test around.in_main
      where
        by_test : (b : Bool) → Are (if b then walked else record { faults = fault around Mismatch; names = names }).names
        by_test true = h
        by_test false = g

    instance_no_function : (around : Around) (names : Knowns) (instance : InstanceTree) → IsNoFunction (instance_known around names instance)
    instance_no_function around names instance = by_faults (instance_faults around names instance)
      where
        by_faults : (faults : List Fault) → IsNoFunction (elim faults as (λ _. Known) [ [] ↦ InstanceName (made_of around names instance) | first ∷ more ↦ Broken ])
        by_faults [] = tt
        by_faults (first ∷ more) = tt

    variable_known : (name : List ℕ) (known : Known) (names : Knowns) → IsNoFunction known → Are names → Are ((name, known) ∷ names)
    variable_known name known names free h = known_other name known names callees free h

    step_known : (level : What-F (ℕ → Walking) Walking) (line : ℕ) (around : Around) (names : Knowns) → Are names → Are (walking_step level line around names).names
    step_known (Declare ty name expr) line around names h = variable_known name (Variable _) names tt h
    step_known (Assign name expr) line around names h = h
    step_known (Poke name places expr) line around names h = of_main_known (record around { line = line }) _ names h h
    step_known (Make dimension ty name arguments) line around names h =
        let more = variable_known name (Variable _) names tt h in of_main_known (record around { line = line }) _ _ more more
    step_known (Take dimension ty name input) line around names h =
        let more = variable_known name (Variable _) names tt h in of_main_known (record around { line = line }) _ _ more more
    step_known (Instance instance) line around names h =
        let here : Around = record around { line = line } in
        of_main_known here _ _ (variable_known instance.name (instance_known here names instance) names (instance_no_function here names instance) h)
        (variable_known instance.name Broken names tt h)
    step_known (Set name setting) line around names h = of_main_known (record around { line = line }) _ names h h
    step_known (Call name arguments) line around names h = of_main_known (record around { line = line }) _ names h h
    step_known (Print items) line around names h = of_main_known (record around { line = line }) _ names h h
    step_known (If test one other) line around names h = h
    step_known (For first test step body) line around names h = h
    step_known (Return expr) line around names h = h

    what_known : (what : What) (line : ℕ) (around : Around) (names : Knowns) → Are names → Are (walking_what what line around names).names
    what_known what line around names h =
        let level : What-F What Statement = out-What what in
        let is : walking_what what ≡ walking_step (map-What What Statement (ℕ → Walking) Walking walking_what walking_of level) =
        ap walking_what (sym (roll-out-What what)) ∙ walking-roll level in
        subst (λ (walk : ℕ → Walking). Are (walk line around names).names) (sym is)
        (step_known (map-What What Statement (ℕ → Walking) Walking walking_what walking_of level) line around names h)

    -- behind a statement
    pub statement_known : (statement : Statement) (around : Around) (names : Knowns) → Are names → Are (walking_of statement around names).names
    statement_known statement around names h =
        subst (λ (walk : Walking). Are (walk around names).names) (sym (walking-statement statement.line statement.what))
        (what_known statement.what statement.line around names h)
