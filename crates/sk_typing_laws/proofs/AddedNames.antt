-- Statements add names in front of those that were in scope.
use Rattle.std.proofs.Common.{◌≡◌, ◌-◌, ℕ, Bool, true, false, List, [], ◌∷◌, ◌++◌, map, length, drop, if◌then◌else◌, refl, sym, ◌∙◌, ap, subst, append_assoc, length-append, arith}
use Rattle.std.proofs.Math.Seq.{drop-append_seam}
use Rattle.sk_typing_laws.proofs.Levels.{walking_what, walking-statement, walking-roll}
use Rattle.sk_typing.specs.TypingNames.{Knowns, Around, fault}
use Rattle.sk_typing.specs.declared.names.FaultKind.TheVariants.{Mismatch}
use Rattle.sk_typing.specs.TypingStatements.{Walked, Walking, in_order, of_main, walking_of, walking_step}
use Rattle.sk_typing.specs.declared.names.Known.{Known}
use Rattle.sk_tree.specs.declared.tree.Statement.{Statement}
use Rattle.sk_tree.specs.declared.tree.What.{What, What-F, out-What, roll-out-What, map-What}
use Rattle.sk_tree.specs.declared.tree.What.TheOpen.{Declare, Assign, Poke, Make, Take, Instance, Set, Call, Print, If, For, Return}

-- the inner names are those of outside with some in front
abbrev pub Added : (outer inner : Knowns) → Type 0
Added outer inner = (added : Knowns) × (inner ≡ added ++ outer)

none : (names : Knowns) → Added names names
none names = ([], refl)

one : (names : Knowns) (binding : List ℕ × Known) → Added names (binding ∷ names)
one names binding = (binding ∷ [], refl)

of_main_added : (around : Around) (walked : Walked) (names other : Knowns)
    → Added names walked.names → Added names other → Added names (of_main around walked other).names
of_main_added around walked names other inside outside = by around.in_main
  where
    by : (t : Bool) → Added names (if t then walked else record { faults = fault around Mismatch; names = other }).names
    by true = inside
    by false = outside

step_added : (level : What-F (ℕ → Walking) Walking) (line : ℕ) (around : Around) (names : Knowns)
    → Added names (walking_step level line around names).names
step_added (Declare ty name expr) line around names = one names (name, _)
step_added (Assign name expr) line around names = none names
step_added (Poke name places expr) line around names = of_main_added (record around { line = line }) _ names names (none names) (none names)
step_added (Make dimension ty name arguments) line around names =
    of_main_added (record around { line = line }) _ names _ (one names (name, _)) (one names (name, _))
step_added (Take dimension ty name input) line around names =
    of_main_added (record around { line = line }) _ names _ (one names (name, _)) (one names (name, _))
step_added (Instance instance) line around names =
    of_main_added (record around { line = line }) _ names _ (one names (instance.name, _)) (one names (instance.name, _))
step_added (Set name setting) line around names = of_main_added (record around { line = line }) _ names names (none names) (none names)
step_added (Call name arguments) line around names = of_main_added (record around { line = line }) _ names names (none names) (none names)
step_added (Print items) line around names = of_main_added (record around { line = line }) _ names names (none names) (none names)
step_added (If test one other) line around names = none names
step_added (For first test step body) line around names = none names
step_added (Return expr) line around names = none names

what_added : (what : What) (line : ℕ) (around : Around) (names : Knowns) → Added names (walking_what what line around names).names
what_added what line around names =
    let level : What-F What Statement = out-What what in
    let is : walking_what what ≡ walking_step (map-What What Statement (ℕ → Walking) Walking walking_what walking_of level) =
    ap walking_what (sym (roll-out-What what)) ∙ walking-roll level in
    let P : (ℕ → Walking) → Type 0 = λ walk. Added names (walk line around names).names in
    subst P (sym is) (step_added (map-What What Statement (ℕ → Walking) Walking walking_what walking_of level) line around names)

pub statement_added : (statement : Statement) (around : Around) (names : Knowns) → Added names (walking_of statement around names).names
statement_added statement around names =
    let P : Walking → Type 0 = λ walk. Added names (walk around names).names in
    subst P (sym (walking-statement statement.line statement.what)) (what_added statement.what statement.line around names)

pub in_order_added : (statements : List Statement) (around : Around) (names : Knowns)
    → Added names (in_order (map walking_of statements) around names).names
in_order_added [] around names = none names
in_order_added (first ∷ rest) around names =
    let walked : Walked = walking_of first around names in
    let front : Added names walked.names = statement_added first around names in
    let behind : Added walked.names (in_order (map walking_of rest) around walked.names).names = in_order_added rest around walked.names in (
      behind.0 ++ front.0,
      behind.1 ∙ ap (λ (n : Knowns). behind.0 ++ n) front.1 ∙ sym (append_assoc behind.0 front.0 names),
    )

-- what is left behind a block
pub left_behind : (outer inner : Knowns) → Added outer inner → drop (length inner - length outer) inner ≡ outer
left_behind outer inner added =
    let count : length inner - length outer ≡ length added.0 = omega (arith, ap length added.1, length-append added.0 outer) in
    rw (count) (ap (drop (length added.0)) added.1 ∙ drop-append_seam added.0 outer)
