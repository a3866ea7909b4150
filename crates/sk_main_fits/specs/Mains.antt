-- The parts of a whole program that main's code is made of.
use Rattle.std.specs.Prelude.{ℕ, ◌-◌, List, length, slice_get}
use Rattle.sk_main_scheme.specs.MainScheme.{Emitted, main_emitted}
use Rattle.sk_scheme.specs.Plans.{functions_before_main}
use Rattle.sk_scheme.specs.Scheme.{Known, known_functions}
use Rattle.sk_tree.specs.Functions.{body_of}
use Rattle.sk_tree.specs.declared.tree.Program.{Program}
use Rattle.sk_tree.specs.declared.tree.Statement.{Statement}

-- the body of main, which is the last function
abbrev pub main_body : Program → List Statement
main_body program = body_of (slice_get program.functions (length program.functions - 1))

abbrev pub known_in : Program → List (List ℕ × Known)
known_in program = known_functions (functions_before_main program)

-- what main is compiled to
abbrev pub main_of : Program → Emitted
main_of program = main_emitted (known_in program) (main_body program)
