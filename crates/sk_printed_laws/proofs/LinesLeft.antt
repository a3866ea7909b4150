-- Lines leave no trace in what is printed.
use Rattle.std.proofs.Common.{◌≡◌, ℕ, List, [], ◌∷◌, ◌++◌, map, refl, ap, subst, sym, ◌∙◌}
use Rattle.std.specs.Prelude.{codes}
use Rattle.sk_names.specs.Words.{type_word}
use Rattle.sk_tree.specs.declared.tree.Function.{Function}
use Rattle.sk_tree.specs.declared.tree.Program.{Program}
use Rattle.sk_tree.specs.declared.tree.Statement.{Statement, roll-Statement, rolls-Statement'}
use Rattle.sk_tree.specs.declared.tree.What.{What, What-F, roll-What, map-What, ind-What}
use Rattle.sk_tree.specs.declared.tree.What.TheOpen.{Declare, Assign, Poke, Make, Take, Instance, Set, Call, Print, If, For, Return}
use Rattle.sk_printed.specs.StatementText.{ShownStatement, block_text, shown_what, shown_statement, shown_statement_step}
use Rattle.sk_printed.specs.ProgramText.{param_text, function_text, printed_of}
use Rattle.sk_words.specs.Strung.{strung, separated}
use Rattle.sk_printed.specs.ReadsBack.{unlined, unlined_function, without_lines, IsSameButLines}
use Rattle.sk_printed_laws.proofs.StatementForms.{unlined_what, unlined-statement, unlined-roll, shown-roll, shown-statement}

abbrev WhatAlike : What → Type 0
WhatAlike does = shown_what (unlined_what does) ≡ shown_what does

abbrev StatementAlike : Statement → Type 0
StatementAlike statement = shown_statement (unlined statement) ≡ shown_statement statement

abbrev Alike : Type 0
Alike = (does : What) × WhatAlike does

abbrev AlikeStatement : Type 0
AlikeStatement = (statement : Statement) × StatementAlike statement

-- the level without its proofs
abbrev plain : What-F Alike AlikeStatement → What-F What Statement
plain level = map-What Alike AlikeStatement What Statement (λ e. e.0) (λ e. e.0) level

abbrev shown_level : What-F What Statement → ShownStatement
shown_level level = shown_statement_step (map-What What Statement ShownStatement ShownStatement shown_what shown_statement level)

abbrev unlined_level : What-F What Statement → What-F What Statement
unlined_level level = map-What What Statement What Statement unlined_what unlined level

all_alike : (statements : List AlikeStatement) → map shown_statement (map unlined (map (λ e. e.0) statements)) ≡ map shown_statement (map (λ e. e.0) statements)
all_alike [] = refl
all_alike (first ∷ rest) = ap (λ s. s ∷ map shown_statement (map unlined (map (λ e. e.0) rest))) first.1 ∙ ap (λ ss. shown_statement first.0 ∷ ss) (all_alike rest)

level_alike : (level : What-F Alike AlikeStatement) → shown_level (unlined_level (plain level)) ≡ shown_level (plain level)
level_alike (Declare ty name value) = refl
level_alike (Assign name value) = refl
level_alike (Poke name places value) = refl
level_alike (Make sizes ty name arguments) = refl
level_alike (Take sizes ty name input) = refl
level_alike (Instance instance) = refl
level_alike (Set name setting) = refl
level_alike (Call name arguments) = refl
level_alike (Print items) = refl
level_alike (If test one other) =
    ap (λ b. shown_statement_step (If test b (map shown_statement (map unlined (map (λ e. e.0) other))))) (all_alike one)
    ∙ ap (λ b. shown_statement_step (If test (map shown_statement (map (λ e. e.0) one)) b)) (all_alike other)
level_alike (For first test step body) =
    ap (λ f. shown_statement_step (For f test (shown_statement (unlined step.0)) (map shown_statement (map unlined (map (λ e. e.0) body))))) first.1
    ∙ ap (λ s. shown_statement_step (For (shown_statement first.0) test s (map shown_statement (map unlined (map (λ e. e.0) body))))) step.1
    ∙ ap (λ b. shown_statement_step (For (shown_statement first.0) test (shown_statement step.0) b)) (all_alike body)
level_alike (Return value) = refl

rolled_alike : (level : What-F What Statement) → shown_level (unlined_level level) ≡ shown_level level → WhatAlike (roll-What level)
rolled_alike level same = ap shown_what (unlined-roll level) ∙ shown-roll (unlined_level level) ∙ same ∙ sym (shown-roll level)

recorded_alike : (line : ℕ) (does : What) → WhatAlike does → StatementAlike (record { line = line; what = does })
recorded_alike line does same = ap shown_statement (unlined-statement line does) ∙ shown-statement 0 (unlined_what does) ∙ same ∙ sym (shown-statement line does)

rolled_statement : (line : ℕ) (does : What) → WhatAlike does → StatementAlike (roll-Statement (record { line = line; what = does }))
rolled_statement line does same = subst StatementAlike (sym (rolls-Statement' (record { line = line; what = does }))) (recorded_alike line does same)

what_alike : (does : What) → WhatAlike does
what_alike = ind-What WhatAlike StatementAlike
    (λ x y is. subst (λ level. WhatAlike (roll-What level)) is (rolled_alike (plain y) (level_alike y)))
    (λ x y is. subst (λ level. StatementAlike (roll-Statement level)) is (rolled_statement y.line y.what.0 y.what.1))

statement_alike : (statement : Statement) → StatementAlike statement
statement_alike statement = recorded_alike statement.line statement.what (what_alike statement.what)

body_alike : (statements : List Statement) → map shown_statement (map unlined statements) ≡ map shown_statement statements
body_alike [] = refl
body_alike (first ∷ rest) = ap (λ s. s ∷ map shown_statement (map unlined rest)) (statement_alike first) ∙ ap (λ ss. shown_statement first ∷ ss) (body_alike rest)

function_alike : (function : Function) → function_text (unlined_function function) ≡ function_text function
function_alike function =
    ap (λ body. type_word function.ret ++ codes " " ++ function.name ++ codes "(" ++ separated (map param_text function.params) ++ codes ") " ++ block_text [] body ++ codes "\n") (body_alike function.body)

functions_alike : (functions : List Function) → map function_text (map unlined_function functions) ≡ map function_text functions
functions_alike [] = refl
functions_alike (first ∷ rest) = ap (λ f. f ∷ map function_text (map unlined_function rest)) (function_alike first) ∙ ap (λ fs. function_text first ∷ fs) (functions_alike rest)

without_lines_alike : (program : Program) → printed_of (without_lines program) ≡ printed_of program
without_lines_alike program = ap (strung (codes "\n") []) (functions_alike program.functions)

pub prints_alike : (one other : Program) → IsSameButLines one other → printed_of one ≡ printed_of other
prints_alike one other same = sym (without_lines_alike one) ∙ ap printed_of same ∙ without_lines_alike other
