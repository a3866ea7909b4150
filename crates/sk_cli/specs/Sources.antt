-- What the bytes of a source are: a program that can be run, or why there is none.
use Rattle.std.specs.Prelude.{◌≡◌, ℕ, ◌^◌, ◌<◌, ◌≤◌, Bool, true, false, List, ◌++◌, length, Some, Ok, Err, codes}
use Rattle.std.specs.Fmt.{decimal}
use Rattle.sk_grammar.specs.Limits.{ReadsWithin}
use Rattle.sk_refusals.specs.Refusals.{IsRefusal}
use Rattle.sk_refusals.specs.declared.refusal.Limited.{Limited}
use Rattle.sk_refusals.specs.declared.refusal.Limited.TheVariants.{Functions, Instances, Parameters, Nodes}
use Rattle.sk_refusals.specs.declared.refusal.Refusal.{Refusal}
use Rattle.sk_refusals.specs.declared.refusal.Refusal.TheVariants.{Syntax, Deep, Many}
use Rattle.sk_tokens.specs.Tokens.{TokenFault, NoToken, Wide, LongName, tokens_of}
use Rattle.sk_tokens.specs.declared.token.Token.{Token}
use Rattle.sk_tree.specs.declared.tree.Program.{Program}
use Rattle.sk_typing.specs.Typing.{IsTyped, least_fault}
use Rattle.sk_typing.specs.declared.names.Fault.{Fault}
use Rattle.sk_typing.specs.declared.names.Fault.TheVariants.{At, NoMain}
use Rattle.sk_typing.specs.declared.names.FaultKind.{FaultKind}
use Rattle.sk_typing.specs.declared.names.FaultKind.TheVariants.{Unknown, Twice, Mismatch, Arity, NoReturn}
use Rattle.sk_vector_form.specs.VectorForm.{has_vector_form}

-- Why a source is not run: too many bytes; no tokens; tokens that no program within the limits has; a program that breaks a
-- rule of names or types; or one that is not run yet.
pub data Cause : Type 0 where
  TooLong : Cause
  NoTokens : TokenFault → Cause
  NoProgram : Refusal → (token : ℕ) → Cause
  Untyped : Fault → Cause
  Later : Cause

-- a source that is refused, or a program that can be run
pub data Reading : Type 0 where
  Refused : Cause → Reading
  Read : Program → Reading

-- a source has at most 2^20 bytes
abbrev pub source_limit : ℕ
source_limit = 2 ^ 20

-- the program that a source spells within the limits
abbrev pub Spells : (source : List ℕ) → Program → Type 0
Spells source program = (tokens : List Token) × (tokens_of source ≡ Ok tokens) × ReadsWithin tokens program

-- a program without a fault of names or types, whose form is or is not one that can be run
abbrev pub SpellsTyped : (source : List ℕ) → Program → (can_run : Bool) → Type 0
SpellsTyped source program can_run = Spells source program × IsTyped program × (has_vector_form program ≡ can_run)

-- the cause, where the source is not too long
abbrev pub IsCause : (source : List ℕ) → Cause → Type 0
IsCause source TooLong = ⊥
IsCause source (NoTokens fault) = tokens_of source ≡ Err fault
IsCause source (NoProgram refusal token) = (tokens : List Token) × (tokens_of source ≡ Ok tokens) × IsRefusal tokens refusal token
IsCause source (Untyped fault) = (program : Program) × Spells source program × (least_fault program ≡ Some fault)
IsCause source Later = (program : Program) × SpellsTyped source program false

abbrev pub IsRefused : (source : List ℕ) → Cause → Type 0
IsRefused source TooLong = source_limit < length source
IsRefused source cause = (length source ≤ source_limit) × IsCause source cause

abbrev pub IsReading : (source : List ℕ) → Reading → Type 0
IsReading source (Refused cause) = IsRefused source cause
IsReading source (Read program) = (length source ≤ source_limit) × SpellsTyped source program true

-- ---- the lines of refusals

-- words, a number, and the end of the line
abbrev pub numbered_line : (words : List ℕ) → (number : ℕ) → List ℕ
numbered_line words number = words ++ decimal number ++ codes "\n"

abbrev pub token_fault_line : TokenFault → List ℕ
token_fault_line (NoToken at) = numbered_line (codes "refused notoken byte ") at
token_fault_line (Wide at) = numbered_line (codes "refused wide byte ") at
token_fault_line (LongName at) = numbered_line (codes "refused longname byte ") at

abbrev pub many_words : Limited → List ℕ
many_words Functions = codes "refused many functions token "
many_words Instances = codes "refused many instances token "
many_words Parameters = codes "refused many parameters token "
many_words Nodes = codes "refused many nodes token "

abbrev pub refusal_line : Refusal → (token : ℕ) → List ℕ
refusal_line Syntax token = numbered_line (codes "refused syntax token ") token
refusal_line Deep token = numbered_line (codes "refused deep token ") token
refusal_line (Many what) token = numbered_line (many_words what) token

abbrev pub fault_words : FaultKind → List ℕ
fault_words Unknown = codes "refused unknown line "
fault_words Twice = codes "refused twice line "
fault_words Mismatch = codes "refused mismatch line "
fault_words Arity = codes "refused arity line "
fault_words NoReturn = codes "refused noreturn line "

abbrev pub fault_line : Fault → List ℕ
fault_line (At line kind) = numbered_line (fault_words kind) line
fault_line NoMain = codes "refused nomain\n"

-- the line that tells why a source is not run
abbrev pub refused_line : Cause → List ℕ
refused_line TooLong = codes "refused long\n"
refused_line (NoTokens fault) = token_fault_line fault
refused_line (NoProgram refusal token) = refusal_line refusal token
refused_line (Untyped fault) = fault_line fault
refused_line Later = codes "refused later\n"
