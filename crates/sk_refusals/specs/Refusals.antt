-- The fault of a list of tokens: what is wrong, and at which token.
use Rattle.std.specs.Prelude.{◌≡◌, ◌⊎◌, ℕ, suc, ◌<◌, ◌≤◌, List, [], ◌++◌, length, take, Some, slice_get}
use Rattle.sk_grammar.specs.Grammar.{Spelling, tokens_in, IsLawfulSpelling, Reads}
use Rattle.sk_grammar.specs.Limits.{most_nesting, most_nodes, most_parameters, most_instances, most_functions}
use Rattle.sk_refusals.specs.Marks.{Mark, marks_in}
use Rattle.sk_refusals.specs.declared.refusal.Limited.{Limited}
use Rattle.sk_refusals.specs.declared.refusal.Limited.TheVariants.{Functions, Instances, Parameters, Nodes}
use Rattle.sk_refusals.specs.declared.refusal.Refusal.{Refusal}
use Rattle.sk_refusals.specs.declared.refusal.Refusal.TheVariants.{Syntax, Deep, Many}
use Rattle.sk_tokens.specs.declared.token.Token.{Token}
use Rattle.sk_tree.specs.declared.tree.Program.{Program}

-- a program, limits aside, whose tokens begin with these
pub record Continues (front : List Token) (spelling : Spelling) : Type 0 where
  pub lawful : IsLawfulSpelling spelling
  pub behind : List Token
  pub tokens_are : tokens_in spelling ≡ front ++ behind

-- some program's tokens begin with these
abbrev pub Begins : List Token → Type 0
Begins front = (spelling : Spelling) × Continues front spelling

-- The first so many tokens, and no more of them, begin a program. So as far as the list goes, one more does not.
pub record Reaches (tokens : List Token) (most : ℕ) : Type 0 where
  pub inside : most ≤ length tokens
  pub begins : Begins (take most tokens)
  pub ends : most < length tokens → Begins (take (suc most) tokens) → ⊥

abbrev pub most_of : Limited → ℕ
most_of Functions = most_functions
most_of Instances = most_instances
most_of Parameters = most_parameters
most_of Nodes = most_nodes

-- too many parts are open at a token, or one too many is counted there
abbrev pub Exceeds : Refusal → Mark → Type 0
Exceeds Syntax mark = ⊥
Exceeds Deep mark = most_nesting < mark.depth
Exceeds (Many what) mark = (number : ℕ) × (mark.counted ≡ Some (record { what = what; number = number })) × (most_of what < number)

-- a spelling has it so at a token
pub record ExceedsIn (refusal : Refusal) (token : ℕ) (spelling : Spelling) : Type 0 where
  pub mark : Mark
  pub found : slice_get (marks_in spelling) token ≡ Some mark
  pub exceeds : Exceeds refusal mark

-- What is wrong at a token. The grammar refuses the first token with which no program begins, or the end. A limit is
-- exceeded where some of the tokens begin a program and it is so in each program that begins with them: so a parenthesis
-- begins a conversion only where a type follows it.
pub data IsWrongAt (tokens : List Token) : Refusal → (token : ℕ) → Type 0 where
  NoSyntax : (most : ℕ) → Reaches tokens most → most < length tokens ⊎ ((program : Program) → Reads tokens program → ⊥) → IsWrongAt tokens Syntax most
  TooMuch : (refusal : Refusal) (token most : ℕ) → token < most → most ≤ length tokens → Begins (take most tokens)
      → ((spelling : Spelling) → Continues (take most tokens) spelling → ExceedsIn refusal token spelling)
      → IsWrongAt tokens refusal token

-- at one token the grammar comes before nesting, and nesting before counts
abbrev pub order_of : Refusal → ℕ
order_of Syntax = 0
order_of Deep = 1
order_of (Many what) = 2

-- The fault of the tokens stands at the least token at which something is wrong, and is the first of what is wrong there.
pub record IsRefusal (tokens : List Token) (refusal : Refusal) (token : ℕ) : Type 0 where
  pub wrong : IsWrongAt tokens refusal token
  pub least : (other : Refusal) (at : ℕ) → IsWrongAt tokens other at → (token < at) ⊎ ((token ≡ at) × (order_of refusal ≤ order_of other))
