-- The faults of names and types, and which of them is told.
use Rattle.std.specs.Prelude.{ℕ, Bool, true, false, ◌&&◌, ◌||◌, ◌==◌, nat_lt, if◌then◌else◌, List, [], ◌∷◌, Option, Some, None}
use Rattle.sk_typing.specs.declared.names.Fault.{Fault}
use Rattle.sk_typing.specs.declared.names.Fault.TheVariants.{At, NoMain}
use Rattle.sk_typing.specs.declared.names.FaultKind.{FaultKind}
use Rattle.sk_typing.specs.declared.names.FaultKind.TheVariants.{Unknown, Twice, Mismatch, Arity, NoReturn}

-- the order of the faults of one line
abbrev pub rank : FaultKind → ℕ
rank Unknown = 0
rank Twice = 1
rank Mismatch = 2
rank Arity = 3
rank NoReturn = 4

-- A fault of an earlier line comes before one of a later line, and on one line the order of kinds decides. That there is
-- no main comes behind every other fault.
abbrev pub comes_before : Fault → Fault → Bool
comes_before NoMain fault = false
comes_before (At line kind) NoMain = true
comes_before (At line kind) (At line' kind') = nat_lt line line' || (line == line' && nat_lt (rank kind) (rank kind'))

-- of two faults, as far as there are any, the one that is told
abbrev pub earlier : Option Fault → Option Fault → Option Fault
earlier None other = other
earlier (Some fault) None = Some fault
earlier (Some fault) (Some other) = if comes_before other fault then Some other else Some fault

-- of all these faults the one that is told
abbrev pub least_of : List Fault → Option Fault
least_of [] = None
least_of (fault ∷ faults) = earlier (Some fault) (least_of faults)

-- the fault that is told of several things
abbrev pub first_told : {X : Type 0} → (X → Option Fault) → List X → Option Fault
first_told told [] = None
first_told told (x ∷ xs) = earlier (told x) (first_told told xs)
