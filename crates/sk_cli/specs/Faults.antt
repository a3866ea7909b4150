-- What a fault says of the bytes of a source, and how it is told.
use Rattle.std.specs.Prelude.{◌≡◌, ℕ, false, List, Option, Some, None, Ok}
use Rattle.sk_cli.specs.Answer.{Told, memory_line}
use Rattle.sk_cli.specs.Sources.{Cause, NoProgram, NoTokens, Spells, SpellsTyped, Untyped, refused_line}
use Rattle.sk_cli.specs.Sources as sources
use Rattle.sk_cli.specs.declared.source.SourceFault.{SourceFault}
use Rattle.sk_cli.specs.declared.source.SourceFault.TheVariants.{Tokens, Parse, Types, Later, Memory}
use Rattle.sk_lexer.specs.Faults.{Tells as TellsTokens}
use Rattle.sk_lexer.specs.declared.fault.LexFault.{LexFault}
use Rattle.sk_lexer.specs.declared.fault.LexFault.TheVariants as lexer
use Rattle.sk_outside.specs.Holding.{SinkHolding}
use Rattle.sk_reader.specs.Tells.{Tells as TellsRefusal}
use Rattle.sk_reader.specs.declared.fault.ParseFault.{ParseFault}
use Rattle.sk_reader.specs.declared.fault.ParseFault.TheVariants as parser
use Rattle.sk_refusals.specs.Refusals.{IsRefusal}
use Rattle.sk_refusals.specs.declared.refusal.Refusal.TheVariants.{Syntax, Deep, Many}
use Rattle.sk_tokens.specs.Tokens.{NoToken, Wide, LongName, tokens_of}
use Rattle.sk_tokens.specs.declared.token.Token.{Token}
use Rattle.sk_tree.specs.declared.tree.Program.{Program}
use Rattle.sk_types.specs.Answers.{TellsLeast}
use Rattle.sk_types.specs.declared.fault.TypeFault.{TypeFault}
use Rattle.sk_types.specs.declared.fault.TypeFault.TheVariants as types
use Rattle.sk_typing.specs.Typing.{least_fault}
use Rattle.sk_typing.specs.declared.names.Fault.TheVariants.{At, NoMain}
use Rattle.sk_typing.specs.declared.names.FaultKind.TheVariants.{Unknown, Twice, Mismatch, Arity, NoReturn}

-- what is wrong is the fault of its tokens, of their grammar and limits, or of names and types, or that its program is not run
-- yet; want of memory says nothing
abbrev pub TellsSource : (source : List ℕ) → SourceFault → Type 0
TellsSource source (Tokens fault) = TellsTokens fault (tokens_of source)
TellsSource source (Parse fault) = (tokens : List Token) × (tokens_of source ≡ Ok tokens) × TellsRefusal (IsRefusal tokens) fault
TellsSource source (Types fault) = (program : Program) × Spells source program × TellsLeast fault (least_fault program)
TellsSource source Later = (program : Program) × SpellsTyped source program false
TellsSource source Memory = Unit {0}

-- ---- why a source with the fault is not run, unless memory was wanting

abbrev pub cause_of_tokens : LexFault → Option Cause
cause_of_tokens (lexer.NoToken at) = Some (NoTokens (NoToken at))
cause_of_tokens (lexer.Wide at) = Some (NoTokens (Wide at))
cause_of_tokens (lexer.LongName at) = Some (NoTokens (LongName at))
cause_of_tokens lexer.Memory = None

abbrev pub cause_of_parse : ParseFault → Option Cause
cause_of_parse (parser.Syntax token) = Some (NoProgram Syntax token)
cause_of_parse (parser.Deep token) = Some (NoProgram Deep token)
cause_of_parse (parser.Many what token) = Some (NoProgram (Many what) token)
cause_of_parse parser.Memory = None

abbrev pub cause_of_types : TypeFault → Option Cause
cause_of_types (types.Unknown line) = Some (Untyped (At line Unknown))
cause_of_types (types.Twice line) = Some (Untyped (At line Twice))
cause_of_types (types.Mismatch line) = Some (Untyped (At line Mismatch))
cause_of_types (types.Arity line) = Some (Untyped (At line Arity))
cause_of_types (types.NoReturn line) = Some (Untyped (At line NoReturn))
cause_of_types types.NoMain = Some (Untyped NoMain)
cause_of_types types.Memory = None

abbrev pub cause_of : SourceFault → Option Cause
cause_of (Tokens fault) = cause_of_tokens fault
cause_of (Parse fault) = cause_of_parse fault
cause_of (Types fault) = cause_of_types fault
cause_of Later = Some sources.Later
cause_of Memory = None

-- the line that is told, which is that of the want where memory was wanting
abbrev pub line_told : Option Cause → List ℕ
line_told (Some cause) = refused_line cause
line_told None = memory_line

-- the refusal was told with its status
abbrev pub IsRefusedAs : Option Cause → (given : ℕ) → (err err' : SinkHolding) → Type 0
IsRefusedAs (Some cause) given err err' = (given ≡ 1) × Told (refused_line cause) err err'
IsRefusedAs None given err err' = ⊥
