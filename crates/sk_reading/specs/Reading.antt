-- What the parser reads, as functions on lists of tokens. The crates of laws say that these find exactly the spellings of
-- the grammar that keep the limits; the contracts of the code say that it equals them.
use Rattle.std.specs.Prelude.{ℕ, zero, suc, ◌+◌, Bool, false, if◌then◌else◌, nat_lt, List, [], ◌∷◌, length, drop, ℤ, Option, Some, None, codes, option_and_then}
use denote.Enum.Bare.{sameb}
use Rattle.sk_tokens.specs.contracts.token.Sign as signs
use Rattle.sk_reading.specs.contracts.keyword.Keyword as keywords
use Rattle.sk_base.specs.declared.number.Ty.{Ty}
use Rattle.sk_base.specs.declared.number.Ty.TheVariants.{Int, Long}
use Rattle.sk_grammar.specs.Limits.{most_nodes, most_instances}
use Rattle.sk_grammar.specs.Signs.{meant_by}
use Rattle.sk_refusals.specs.declared.refusal.Limited.TheVariants.{Instances, Nodes}
use Rattle.sk_refusals.specs.declared.refusal.Refusal.{Refusal}
use Rattle.sk_refusals.specs.declared.refusal.Refusal.TheVariants.{Syntax, Deep, Many}
use Rattle.sk_tokens.specs.declared.token.Sign.{Sign}
use Rattle.sk_tokens.specs.declared.token.Token.{Token}
use Rattle.sk_tokens.specs.declared.token.TokenKind.{TokenKind}
use Rattle.sk_tokens.specs.declared.token.TokenKind.TheVariants as kind
use Rattle.sk_reading.specs.declared.next.Next.{Next}
use Rattle.sk_reading.specs.declared.next.Next.TheVariants as next
use Rattle.sk_reading.specs.declared.keyword.Keyword.{Keyword}
use Rattle.sk_reading.specs.declared.keyword.Keyword.TheVariants as key

-- the tokens that are left, and the nodes and instances so far
pub record Place : Type 0 where
  pub rest : List Token
  pub nodes : ℕ
  pub instances : ℕ

abbrev pub start_of : List Token → Place
start_of tokens = record { rest = tokens; nodes = 0; instances = 0 }

-- ---- the next token

abbrev pub keyword_words : List (List ℕ × Keyword)
keyword_words =
    (codes "int", key.Int) ∷ (codes "long", key.Long) ∷ (codes "auto", key.Auto) ∷ (codes "const", key.Const)
    ∷ (codes "if", key.If) ∷ (codes "else", key.Else) ∷ (codes "for", key.For) ∷ (codes "return", key.Return)
    ∷ (codes "skepu", key.Skepu) ∷ (codes "std", key.Std) ∷ (codes "skepu_input", key.SkepuInput) ∷ []

unfoldable pub keyword_of : List ℕ → Option Keyword
keyword_of = meant_by keyword_words

abbrev pub word_next : Option Keyword → Next
word_next (Some keyword) = next.Keyword keyword
word_next None = next.Name

abbrev pub kind_next : TokenKind → Next
kind_next (kind.Word bytes) = word_next (keyword_of bytes)
kind_next (kind.Number ty value) = next.Number
kind_next (kind.Text bytes) = next.Text
kind_next (kind.Sign s) = next.Sign s

abbrev pub next_of : Token → Next
next_of token = kind_next token.what

abbrev pub front_of : List Token → Next
front_of [] = next.End
front_of (token ∷ rest) = next_of token

unfoldable pub front : Place → Next
front p = front_of p.rest

-- the line of the next token, and 0 at the end
abbrev pub line_of : List Token → ℕ
line_of [] = 0
line_of (token ∷ rest) = token.line

unfoldable pub front_line : Place → ℕ
front_line p = line_of p.rest

unfoldable pub advance : Place → Place
advance p = record p { rest = drop 1 p.rest }

-- ---- parsers

-- a value with the place behind it; or what is wrong at the next token, with how many tokens are left there
pub data Outcome (A : Type 0) : Type 0 where
  Read : A × Place → Outcome A
  Refused : Refusal → (left : ℕ) → Outcome A

abbrev pub value_of : {A : Type 0} → Outcome A → Option A
value_of (Read read) = Some read.0
value_of (Refused refusal left) = None

abbrev pub Parser : Type 0 → Type 0
Parser A = Place → Outcome A

abbrev pub and_then : {A B : Type 0} → Outcome A → (A → Parser B) → Outcome B
and_then (Read read) next = next read.0 read.1
and_then (Refused refusal left) next = Refused refusal left

infixl 10 ◌>>=◌
abbrev pub ◌>>=◌ : {A B : Type 0} → Parser A → (A → Parser B) → Parser B
p >>= f = λ i. and_then (p i) f

infixl 10 ◌>>◌
abbrev pub ◌>>◌ : {A B : Type 0} → Parser A → Parser B → Parser B
p >> q = p >>= (λ _. q)

abbrev pub pure : {A : Type 0} → A → Parser A
pure a = λ p. Read (a, p)

abbrev pub refuse : {A : Type 0} → Refusal → Parser A
refuse refusal = λ p. Refused refusal (length p.rest)

abbrev pub peek : Parser Next
peek = λ p. Read (front p, p)

abbrev pub take : Parser (Unit {0})
take = λ p. Read (tt, advance p)

abbrev pub line : Parser ℕ
line = λ p. Read (front_line p, p)

-- ---- steps

unfoldable pub same_sign : Sign → Sign → Bool
same_sign = sameb signs.the_type

unfoldable pub same_keyword : Keyword → Keyword → Bool
same_keyword = sameb keywords.the_type

abbrev pub is_sign : Sign → Next → Bool
is_sign s (next.Sign other) = same_sign other s
is_sign s other = false

abbrev pub is_keyword : Keyword → Next → Bool
is_keyword k (next.Keyword other) = same_keyword other k
is_keyword k other = false

unfoldable pub sees : Sign → Place → Bool
sees s p = is_sign s (front p)

unfoldable pub sees_keyword : Keyword → Place → Bool
sees_keyword k p = is_keyword k (front p)

unfoldable pub after : Sign → Place → Place
after s p = if sees s p then advance p else p

-- takes the sign, if it comes next
abbrev pub eat : Sign → Parser Bool
eat s = λ p. Read (sees s p, after s p)

unfoldable pub expect : Sign → Parser (Unit {0})
expect s = λ p. if sees s p then Read (tt, advance p) else refuse Syntax p

unfoldable pub expect_keyword : Keyword → Parser (Unit {0})
expect_keyword k = λ p. if sees_keyword k p then Read (tt, advance p) else refuse Syntax p

abbrev pub word_of : List Token → Option (List ℕ)
word_of [] = None
word_of (token ∷ rest) = elim token.what [ kind.Word bytes ↦ Some bytes | _ ↦ None ]

unfoldable pub front_word : Place → Option (List ℕ)
front_word p = word_of p.rest

abbrev pub taken : {A : Type 0} → Place → Option A → Outcome A
taken p (Some a) = Read (a, advance p)
taken p None = refuse Syntax p

abbrev pub if_name : List ℕ → Option Keyword → Option (List ℕ)
if_name bytes (Some keyword) = None
if_name bytes None = Some bytes

unfoldable pub name_of : List ℕ → Option (List ℕ)
name_of bytes = if_name bytes (keyword_of bytes)

unfoldable pub name : Parser (List ℕ)
name = λ p. taken p (option_and_then name_of (front_word p))

-- a word of the entries
unfoldable pub word_in : {A : Type 0} → List (List ℕ × A) → Parser A
word_in entries = λ p. taken p (option_and_then (meant_by entries) (front_word p))

abbrev pub number_of : List Token → Option (Ty × ℤ)
number_of [] = None
number_of (token ∷ rest) = elim token.what [ kind.Number ty value ↦ Some (ty, value) | _ ↦ None ]

unfoldable pub number : Parser (Ty × ℤ)
number = λ p. taken p (number_of p.rest)

abbrev pub text_of : List Token → Option (List ℕ)
text_of [] = None
text_of (token ∷ rest) = elim token.what [ kind.Text bytes ↦ Some bytes | _ ↦ None ]

unfoldable pub text : Parser (List ℕ)
text = λ p. taken p (text_of p.rest)

abbrev pub type_of : Next → Option Ty
type_of (next.Keyword key.Int) = Some Int
type_of (next.Keyword key.Long) = Some Long
type_of other = None

unfoldable pub ty : Parser Ty
ty = λ p. taken p (type_of (front p))

-- ---- counts

-- an expression begins
abbrev pub fresh : Parser (Unit {0})
fresh = λ p. Read (tt, record p { nodes = 0 })

unfoldable pub count_node : Parser (Unit {0})
count_node = λ p. if nat_lt p.nodes most_nodes then Read (tt, record p { nodes = p.nodes + 1 }) else refuse (Many Nodes) p

unfoldable pub count_instance : Parser (Unit {0})
count_instance = λ p. if nat_lt p.instances most_instances then Read (tt, record p { instances = p.instances + 1 }) else refuse (Many Instances) p

-- ---- what is opened

-- one more may be opened
unfoldable pub opened : ℕ → Parser (Unit {0})
opened zero = refuse Deep
opened (suc left) = pure tt

-- the sign, which has to come next, opens one more
unfoldable pub opened_by : Sign → ℕ → Parser (Unit {0})
opened_by s left = λ p. if sees s p then (opened left >> take) p else refuse Syntax p
