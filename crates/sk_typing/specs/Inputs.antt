-- The inputs of a program: the containers of main that take one.
use Rattle.std.specs.Prelude.{ℕ, ◌==◌, Bool, ◌&&◌, if◌then◌else◌, List, [], ◌∷◌, ◌++◌, find, Option, Some, None, flat_map}
use Rattle.sk_names.specs.Bytes.{same_bytes}
use Rattle.sk_tree.specs.Parameters.{same_type}
use Rattle.sk_tree.specs.declared.declared.Declared.{Declared}
use Rattle.sk_typing.specs.declared.names.Fault.{Fault}
use Rattle.sk_typing.specs.declared.names.Fault.TheVariants.{At}
use Rattle.sk_typing.specs.declared.names.FaultKind.TheVariants.{Mismatch}
use Rattle.sk_tree.specs.declared.tree.Statement.{Statement, fold-Statement}
use Rattle.sk_tree.specs.declared.tree.What.TheOpen.{What-F, Take, If, For}

-- a container that takes an input, at its line
pub record Taken : Type 0 where
  pub line : ℕ
  pub input : Declared

-- what a statement takes, in text order
abbrev pub taking_step : What-F (ℕ → List Taken) (List Taken) → (line : ℕ) → List Taken
taking_step (Take dimension ty name input) line =
    record { line = line; input = record { name = input; kind = dimension; ty = ty } } ∷ []
taking_step (If test one other) line = flat_map (λ taken. taken) one ++ flat_map (λ taken. taken) other
taking_step (For first test step body) line = flat_map (λ taken. taken) body
taking_step what line = []

abbrev pub taken_of : Statement → List Taken
taken_of = fold-Statement (ℕ → List Taken) (List Taken) taking_step (λ statement. statement.what statement.line)

-- the input of that name
abbrev pub input_named : List ℕ → List Declared → Option Declared
input_named name inputs = find (λ input. same_bytes input.name name) inputs

-- each name once, as it is declared first
abbrev pub distinct_after : (seen : List Declared) → List Taken → List Declared
distinct_after seen [] = seen
distinct_after seen (taken ∷ more) = elim (input_named taken.input.name seen) [
  | Some first ↦ distinct_after seen more
  | None ↦ distinct_after (seen ++ taken.input ∷ []) more
]

abbrev pub same_input : Declared → Declared → Bool
same_input first second = first.kind == second.kind && same_type first.ty second.ty

-- Two declarations of one name take the same record if their kind and type agree; otherwise the second is a mismatch.
abbrev pub input_faults_after : (seen : List Declared) → List Taken → List Fault
input_faults_after seen [] = []
input_faults_after seen (taken ∷ more) = elim (input_named taken.input.name seen) [
  | Some first ↦
      (if same_input first taken.input then [] else At taken.line Mismatch ∷ []) ++ input_faults_after seen more
  | None ↦ input_faults_after (seen ++ taken.input ∷ []) more
]
