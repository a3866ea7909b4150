-- The grammar: which lists of tokens read as which programs. It knows no limit, and no order in which tokens are looked at.
use Rattle.std.specs.Prelude.{◌≡◌, ℕ, List, [], ◌∷◌, map, Some, Ok, codes}
use Rattle.sk_base.specs.declared.number.Ty.{Ty}
use Rattle.sk_grammar.specs.ExpressionSpelling.{word, sign_at, typed, TokenLines, IsName, with_commas, in_sequence, each}
use Rattle.sk_grammar.specs.Signs.{meant_by, index_words, view_words}
use Rattle.sk_grammar.specs.StatementSpelling.{Block, block_in_front, block_tree, IsLawfulBlock}
use Rattle.sk_tokens.specs.Tokens.{tokens_of}
use Rattle.sk_tokens.specs.declared.token.Sign.TheVariants as sign
use Rattle.sk_tokens.specs.declared.token.Token.{Token}
use Rattle.sk_tree.specs.declared.tree.Function.{Function}
use Rattle.sk_tree.specs.declared.tree.Param.{Param}
use Rattle.sk_tree.specs.declared.tree.ParamKind.TheVariants.{Scalar}
use Rattle.sk_tree.specs.declared.tree.ParamKind.{ParamKind}
use Rattle.sk_tree.specs.declared.tree.Program.{Program}

-- ---- functions and programs

pub data Parameter : Type 0 where
  -- type NAME
  ScalarParameter : (at : TokenLines) → Ty → (name : List ℕ) → Parameter
  -- "skepu" "::" PLACE NAME
  IndexParameter : (at : TokenLines) → (kind : List ℕ) → ParamKind → (name : List ℕ) → Parameter
  -- "skepu" "::" VIEW "<" type ">" NAME
  ViewParameter : (at : TokenLines) → (kind : List ℕ) → (Ty → ParamKind) → Ty → (name : List ℕ) → Parameter
  -- "const" and the same
  ConstParameter : (line : ℕ) → (at : TokenLines) → (kind : List ℕ) → (Ty → ParamKind) → Ty → (name : List ℕ) → Parameter

abbrev pub view_in_front : TokenLines → List ℕ → Ty → List ℕ → List Token → List Token
view_in_front at kind ty name rest =
    word (codes "skepu") (at 0) ∷ sign_at sign.Path (at 1) ∷ word kind (at 2) ∷ sign_at sign.Lt (at 3) ∷ typed ty (at 4)
    ∷ sign_at sign.Gt (at 5) ∷ word name (at 6) ∷ rest

abbrev pub parameter_in_front : Parameter → List Token → List Token
parameter_in_front (ScalarParameter at ty name) rest = typed ty (at 0) ∷ word name (at 1) ∷ rest
parameter_in_front (IndexParameter at kind meant name) rest =
    word (codes "skepu") (at 0) ∷ sign_at sign.Path (at 1) ∷ word kind (at 2) ∷ word name (at 3) ∷ rest
parameter_in_front (ViewParameter at kind meant ty name) rest = view_in_front at kind ty name rest
parameter_in_front (ConstParameter line at kind meant ty name) rest = word (codes "const") line ∷ view_in_front at kind ty name rest

abbrev pub parameter_tree : Parameter → Param
parameter_tree (ScalarParameter at ty name) = record { kind = Scalar ty; name = name }
parameter_tree (IndexParameter at kind meant name) = record { kind = meant; name = name }
parameter_tree (ViewParameter at kind meant ty name) = record { kind = meant ty; name = name }
parameter_tree (ConstParameter line at kind meant ty name) = record { kind = meant ty; name = name }

abbrev pub IsLawfulParameter : Parameter → Type 0
IsLawfulParameter (ScalarParameter at ty name) = IsName name
IsLawfulParameter (IndexParameter at kind meant name) = (meant_by index_words kind ≡ Some meant) × IsName name
IsLawfulParameter (ViewParameter at kind meant ty name) = (meant_by view_words kind ≡ Some meant) × IsName name
IsLawfulParameter (ConstParameter line at kind meant ty name) = (meant_by view_words kind ≡ Some meant) × IsName name

-- type NAME "(" [ param { "," param } ] ")" block
pub record Definition : Type 0 where
  pub at : TokenLines
  pub ret : Ty
  pub name : List ℕ
  pub params : List (Parameter × ℕ)
  pub body : Block

abbrev pub definition_in_front : Definition → List Token → List Token
definition_in_front d rest =
    typed d.ret (d.at 0) ∷ word d.name (d.at 1) ∷ sign_at sign.OpenParen (d.at 2)
    ∷ with_commas parameter_in_front d.params (sign_at sign.CloseParen (d.at 3) ∷ block_in_front d.body rest)

abbrev pub definition_tree : Definition → Function
definition_tree d = record {
  line = d.at 0;
  ret = d.ret;
  name = d.name;
  params = map (λ written. parameter_tree written.0) d.params;
  body = block_tree d.body;
}

abbrev pub IsLawfulDefinition : Definition → Type 0
IsLawfulDefinition d = IsName d.name × each (λ written. IsLawfulParameter written.0) d.params × IsLawfulBlock d.body

-- a program's functions, one after another
abbrev pub Spelling : Type 0
Spelling = List Definition

abbrev pub tokens_in : Spelling → List Token
tokens_in spelling = in_sequence definition_in_front spelling []

abbrev pub program_in : Spelling → Program
program_in spelling = record { functions = map definition_tree spelling }

abbrev pub IsLawfulSpelling : Spelling → Type 0
IsLawfulSpelling = each IsLawfulDefinition

-- these tokens read as this program
pub record Reads (tokens : List Token) (program : Program) : Type 0 where
  pub spelling : Spelling
  pub lawful : IsLawfulSpelling spelling
  pub tokens_are : tokens_in spelling ≡ tokens
  pub program_is : program_in spelling ≡ program

-- a text has tokens that read as this program
pub record IsFromText (program : Program) : Type 0 where
  pub text : List ℕ
  pub tokens : List Token
  pub lexed : tokens_of text ≡ Ok tokens
  pub reads : Reads tokens program
