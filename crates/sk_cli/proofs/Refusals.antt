-- What a fault tells of a source is the answer to its bytes.
use Rattle.std.proofs.Common.{◌≡◌, ◌≤◌, ◌⊎◌, ◌∙◌, ℕ, List, [], Option, Some, None, refl, ap, arith, sym, subst, length, inl, inr, codes}
use Rattle.std.specs.Prelude.{IfSome}
use Rattle.sk_cli.specs.Answer.{Answer, Command, Gives, IsAnswerToBytes, IsWant, Took, Told, TookPrefix, memory_line, refused}
use Rattle.sk_cli.specs.Faults.{IsRefusedAs, TellsSource, cause_of, cause_of_types, line_told}
use Rattle.sk_cli.specs.Sources.{Cause, NoProgram, NoTokens, Refused, Spells, Untyped, refused_line, source_limit}
use Rattle.sk_cli.specs.Sources as sources
use Rattle.sk_cli.specs.declared.source.SourceFault.{SourceFault}
use Rattle.sk_cli.specs.declared.source.SourceFault.TheVariants.{Tokens, Parse, Types, Later, Memory}
use Rattle.sk_cli.proofs.AnswerLemmas.{silent-answer, want-with}
use Rattle.sk_lexer.specs.declared.fault.LexFault.TheVariants as lexer
use Rattle.sk_outside.specs.Faults.{Faults}
use Rattle.sk_outside.specs.Holding.{SinkHolding}
use Rattle.sk_reader.specs.declared.fault.ParseFault.TheVariants as parser
use Rattle.sk_refusals.specs.declared.refusal.Refusal.TheVariants.{Syntax, Deep, Many}
use Rattle.sk_tokens.specs.Tokens.{NoToken, Wide, LongName}
use Rattle.sk_tree.specs.declared.tree.Program.{Program}
use Rattle.sk_types.specs.Answers.{TellsLeast, told_as}
use Rattle.sk_types.specs.declared.fault.TypeFault.{TypeFault}
use Rattle.sk_types.specs.declared.fault.TypeFault.TheVariants as types
use Rattle.sk_typing.specs.Typing.{least_fault}
use Rattle.sk_typing.specs.declared.names.Fault.{Fault}
use Rattle.sk_typing.specs.declared.names.Fault.TheVariants.{At, NoMain}
use Rattle.sk_typing.specs.declared.names.FaultKind.TheVariants.{Unknown, Twice, Mismatch, Arity, NoReturn}

-- the refusal is the answer, where no memory was wanting
abbrev pub IsAnswered : (source : List ℕ) → Option Cause → Type 0
IsAnswered source told = IfSome told (λ cause. IsAnswerToBytes source (refused 1 (refused_line cause)))

told-back : (fault : Fault) → cause_of_types (told_as fault) ≡ Some (Untyped fault)
told-back NoMain = refl
told-back (At line Unknown) = refl
told-back (At line Twice) = refl
told-back (At line Mismatch) = refl
told-back (At line Arity) = refl
told-back (At line NoReturn) = refl

module _ (source : List ℕ) (few : length source ≤ source_limit) where
  typed-answered : (program : Program) (fault : TypeFault) (least : Fault) → Spells source program → least_fault program ≡ Some least
      → fault ≡ told_as least → IsAnswered source (cause_of_types fault)
  typed-answered program fault least spelled is told =
      let answered : IsAnswered source (Some (Untyped least)) = λ contents name. (Refused (Untyped least), (few, (program, spelled, is)), refl) in
      subst (IsAnswered source) (sym (ap cause_of_types told ∙ told-back least)) answered

  pub refusal-answered : (fault : SourceFault) → TellsSource source fault → IsAnswered source (cause_of fault)
  refusal-answered (Tokens (lexer.NoToken at)) told = λ contents name. (Refused (NoTokens (NoToken at)), (few, told), refl)
  refusal-answered (Tokens (lexer.Wide at)) told = λ contents name. (Refused (NoTokens (Wide at)), (few, told), refl)
  refusal-answered (Tokens (lexer.LongName at)) told = λ contents name. (Refused (NoTokens (LongName at)), (few, told), refl)
  refusal-answered (Tokens lexer.Memory) told = tt
  refusal-answered (Parse (parser.Syntax token)) told = λ contents name. (Refused (NoProgram Syntax token), (few, told), refl)
  refusal-answered (Parse (parser.Deep token)) told = λ contents name. (Refused (NoProgram Deep token), (few, told), refl)
  refusal-answered (Parse (parser.Many what token)) told = λ contents name. (Refused (NoProgram (Many what) token), (few, told), refl)
  refusal-answered (Parse parser.Memory) told = tt
  refusal-answered (Types (types.Unknown line)) (program, spelled, (least, is, told)) = typed-answered program (types.Unknown line) least spelled is told
  refusal-answered (Types (types.Twice line)) (program, spelled, (least, is, told)) = typed-answered program (types.Twice line) least spelled is told
  refusal-answered (Types (types.Mismatch line)) (program, spelled, (least, is, told)) = typed-answered program (types.Mismatch line) least spelled is told
  refusal-answered (Types (types.Arity line)) (program, spelled, (least, is, told)) = typed-answered program (types.Arity line) least spelled is told
  refusal-answered (Types (types.NoReturn line)) (program, spelled, (least, is, told)) = typed-answered program (types.NoReturn line) least spelled is told
  refusal-answered (Types types.NoMain) (program, spelled, (least, is, told)) = typed-answered program types.NoMain least spelled is told
  refusal-answered (Types types.Memory) told = tt
  refusal-answered Later told = λ contents name. (Refused sources.Later, (few, told), refl)
  refusal-answered Memory told = tt

-- a refusal that was told, or want of memory for its line
module _ (source : List ℕ) (result : ℕ) (out err err' : SinkHolding) (silent : Took [] out out) where
  pub told-answer : (told : Option Cause) → IsAnswered source told → (result ≡ 9) ⊎ IsRefusedAs told result err err'
      → (result ≡ 9) ⊎ ((answer : Answer) × IsAnswerToBytes source answer × Gives answer result out out err err')
  told-answer (Some cause) is given =
      silent-answer (IsAnswerToBytes source) (refused 1 (refused_line cause)) result out err err' is refl silent given
  told-answer None is (inl wanting) = inl wanting
  told-answer None is (inr never) = absurd never

  pub told-want : (told : Option Cause) → IsAnswered source told → TookPrefix (line_told told) err err'
      → (command : Command) (reads reads' : Faults) → IsWant command (IsAnswerToBytes source) reads reads' out out err err'
  told-want (Some cause) is prefix command reads reads' =
      want-with command (IsAnswerToBytes source) reads reads' out err err' (refused 1 (refused_line cause)) is refl (0, omega arith, silent) prefix
  told-want None is prefix command reads reads' = inl (record { silent = silent; told = inl prefix })

-- a refusal has not the status of a put that failed
pub told-status : (told : Option Cause) (result : ℕ) (err err' : SinkHolding) → (result ≡ 9) ⊎ IsRefusedAs told result err err' → result ≡ 8 → ⊥
told-status told result err err' (inl nine) eight = omega (arith, nine, eight)
told-status (Some cause) result err err' (inr given) eight = let one : result ≡ 1 = given.0 in omega (arith, one, eight)
told-status None result err err' (inr never) eight = absurd never
