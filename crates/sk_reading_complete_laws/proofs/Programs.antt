-- Each program that keeps the limits is read.
use Rattle.std.proofs.Common.{◌≡◌, ℕ, List, map, Some, ap, sym, ◌∙◌}
use Rattle.sk_grammar.specs.Grammar.{definition_tree, Spelling, tokens_in, IsLawfulSpelling}
use Rattle.sk_grammar.specs.Limits.{KeepsLimits, ReadsWithin}
use Rattle.sk_refusals.specs.declared.refusal.Refusal.{Refusal}
use Rattle.sk_tokens.specs.declared.token.Token.{Token}
use Rattle.sk_tree.specs.declared.tree.Function.{Function}
use Rattle.sk_tree.specs.declared.tree.Program.{Program}
use Rattle.sk_reading.specs.Reading.{Refused, value_of}
use Rattle.sk_reading.specs.ReadingPrograms as reading
use Rattle.sk_reading_complete_laws.proofs.Within.{program-fine, goes}
use Rattle.sk_reading_complete_laws.proofs.spelled.Programs.{program-judged}

pub spelled-read : (l : Spelling) → IsLawfulSpelling l → KeepsLimits l → value_of (reading.functions (tokens_in l)) ≡ Some (map definition_tree l)
spelled-read l lawful keeps = let (m, j, judged) = program-judged l lawful in ap value_of (goes (program-fine l keeps) judged)

pub program-read : (tokens : List Token) (program : Program) → ReadsWithin tokens program → value_of (reading.functions tokens) ≡ Some program.functions
program-read tokens program is =
    ap (λ t. value_of (reading.functions t)) (sym is.tokens_are) ∙ spelled-read is.spelling is.lawful is.keeps
    ∙ ap (λ (p : Program). Some p.functions) is.program_is

pub not_refused : (tokens : List Token) (refusal : Refusal) (left : ℕ) → reading.functions tokens ≡ Refused refusal left → (program : Program) → ReadsWithin tokens program → ⊥
not_refused tokens refusal left refused program is =
    let read = program-read tokens program is in
    let gone = ap value_of refused in
    cc

pub one-program : (tokens : List Token) (one other : Program) → ReadsWithin tokens one → ReadsWithin tokens other → one ≡ other
one-program tokens one other first second =
    let read = sym (program-read tokens one first) ∙ program-read tokens other second in
    let same : one.functions ≡ other.functions = cc in
    ap (λ (f : List Function). let p : Program = record { functions = f } in p) same
