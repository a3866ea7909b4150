-- How expressions are written down.
--
-- A spelling is a way to write something down, with one constructor for each production of the grammar. Three walks go over
-- it: its tokens, set in front of those that follow; its tree; and whether it is lawful, which says that names are no
-- reserved words, that signs and words stand for what is written, and that the level of each part fits its place.
-- Parentheses have a spelling and leave no node. Where a production has tokens of its own, `at` gives their lines, in their
-- order, and `line` the line where it is one token.
use Rattle.std.specs.Prelude.{◌≡◌, ℕ, ◌≤◌, ◌<◌, List, [], ◌∷◌, ℤ, Some, IsTrue}
use Rattle.sk_base.specs.declared.number.Ty.{Ty}
use Rattle.sk_grammar.specs.Signs.{Infix, Computes, Both, Either, infix_of, infix_level, prefix_level, primary_level, prefix_of, type_word}
use Rattle.sk_names.specs.Words.{is_name}
use Rattle.sk_tokens.specs.declared.token.Sign.TheVariants as sign
use Rattle.sk_tokens.specs.declared.token.Sign.{Sign}
use Rattle.sk_tokens.specs.declared.token.Token.{Token}
use Rattle.sk_tokens.specs.declared.token.TokenKind.TheVariants as kind
use Rattle.sk_tree.specs.declared.tree.Expr.TheVariants as tree
use Rattle.sk_tree.specs.declared.tree.Expr.{Expr}
use Rattle.sk_tree.specs.declared.tree.Un.{Un}

-- ---- tokens

abbrev pub word : List ℕ → (line : ℕ) → Token
word bytes line = record { what = kind.Word bytes; line = line }

abbrev pub sign_at : Sign → (line : ℕ) → Token
sign_at s line = record { what = kind.Sign s; line = line }

abbrev pub number : Ty → ℤ → (line : ℕ) → Token
number ty value line = record { what = kind.Number ty value; line = line }

abbrev pub string : List ℕ → (line : ℕ) → Token
string bytes line = record { what = kind.Text bytes; line = line }

abbrev pub typed : Ty → (line : ℕ) → Token
typed ty = word (type_word ty)

-- the lines of a production's own tokens
abbrev pub TokenLines : Type 0
TokenLines = ℕ → ℕ

abbrev pub IsName : List ℕ → Type 0
IsName name = IsTrue (is_name name)

-- Parts with commas between, each with the line of the comma that follows it. No comma follows the last one, and its line
-- stands for nothing.
abbrev pub with_commas : {A : Type 0} → (A → List Token → List Token) → List (A × ℕ) → List Token → List Token
with_commas in_front [] rest = rest
with_commas in_front (part ∷ []) rest = in_front part.0 rest
with_commas in_front (part ∷ next ∷ parts) rest = in_front part.0 (sign_at sign.Comma part.1 ∷ with_commas in_front (next ∷ parts) rest)

-- parts one after another
abbrev pub in_sequence : {A : Type 0} → (A → List Token → List Token) → List A → List Token → List Token
in_sequence in_front [] rest = rest
in_sequence in_front (part ∷ parts) rest = in_front part (in_sequence in_front parts rest)

abbrev pub each : {A : Type 0} → (A → Type 0) → List A → Type 0
each P [] = Unit {0}
each P (part ∷ parts) = P part × each P parts

-- ---- expressions

mutual
  pub data Expression : Type 0 where
    -- NUMBER
    Number : (line : ℕ) → Ty → ℤ → Expression
    -- NAME
    Name : (line : ℕ) → (name : List ℕ) → Expression
    -- NAME "." NAME
    Field : (at : TokenLines) → (name field : List ℕ) → Expression
    -- NAME "." NAME "(" ")"
    Method : (at : TokenLines) → (name method : List ℕ) → Expression
    -- NAME "(" ")"
    Alone : (at : TokenLines) → (name : List ℕ) → Expression
    -- NAME "(" args ")"
    Apply : (at : TokenLines) → (name : List ℕ) → Arguments → Expression
    -- NAME "[" expr "]"
    Index : (at : TokenLines) → (name : List ℕ) → Expression → Expression
    -- "(" expr ")"
    Paren : (at : TokenLines) → Expression → Expression
    -- "-", "~" or "!", and its operand
    Prefix : (line : ℕ) → Sign → Un → Expression → Expression
    -- "(" type ")", and its operand
    Convert : (at : TokenLines) → Ty → Expression → Expression
    -- two operands with their operator between
    Join : (line : ℕ) → Sign → Infix → (left right : Expression) → Expression
    -- expr "?" expr ":" expr
    Choose : (at : TokenLines) → (test one other : Expression) → Expression

  -- args: the last one, or one, the line of the comma, and more
  pub data Arguments : Type 0 where
    Last : Expression → Arguments
    More : Expression → (line : ℕ) → Arguments → Arguments

abbrev mutual
  pub in_front : Expression → List Token → List Token
  in_front (Number line ty value) rest = number ty value line ∷ rest
  in_front (Name line name) rest = word name line ∷ rest
  in_front (Field at name field) rest = word name (at 0) ∷ sign_at sign.Dot (at 1) ∷ word field (at 2) ∷ rest
  in_front (Method at name method) rest =
      word name (at 0) ∷ sign_at sign.Dot (at 1) ∷ word method (at 2) ∷ sign_at sign.OpenParen (at 3) ∷ sign_at sign.CloseParen (at 4) ∷ rest
  in_front (Alone at name) rest = word name (at 0) ∷ sign_at sign.OpenParen (at 1) ∷ sign_at sign.CloseParen (at 2) ∷ rest
  in_front (Apply at name arguments) rest =
      word name (at 0) ∷ sign_at sign.OpenParen (at 1) ∷ arguments_in_front arguments (sign_at sign.CloseParen (at 2) ∷ rest)
  in_front (Index at name place) rest =
      word name (at 0) ∷ sign_at sign.OpenBracket (at 1) ∷ in_front place (sign_at sign.CloseBracket (at 2) ∷ rest)
  in_front (Paren at inner) rest = sign_at sign.OpenParen (at 0) ∷ in_front inner (sign_at sign.CloseParen (at 1) ∷ rest)
  in_front (Prefix line s op operand) rest = sign_at s line ∷ in_front operand rest
  in_front (Convert at ty operand) rest =
      sign_at sign.OpenParen (at 0) ∷ typed ty (at 1) ∷ sign_at sign.CloseParen (at 2) ∷ in_front operand rest
  in_front (Join line s joint left right) rest = in_front left (sign_at s line ∷ in_front right rest)
  in_front (Choose at test one other) rest =
      in_front test (sign_at sign.Question (at 0) ∷ in_front one (sign_at sign.Colon (at 1) ∷ in_front other rest))

  pub arguments_in_front : Arguments → List Token → List Token
  arguments_in_front (Last argument) rest = in_front argument rest
  arguments_in_front (More argument line arguments) rest =
      in_front argument (sign_at sign.Comma line ∷ arguments_in_front arguments rest)

abbrev pub joined : Infix → Expr → Expr → Expr
joined (Computes op) left right = tree.Binary op left right
joined Both left right = tree.Both left right
joined Either left right = tree.Either left right

abbrev mutual
  pub tree_in : Expression → Expr
  tree_in (Number line ty value) = tree.Number ty value
  tree_in (Name line name) = tree.Name name
  tree_in (Field at name field) = tree.Field name field
  tree_in (Method at name method) = tree.Method name method
  tree_in (Alone at name) = tree.Apply name []
  tree_in (Apply at name arguments) = tree.Apply name (trees_in arguments)
  tree_in (Index at name place) = tree.Apply name (tree_in place ∷ [])
  tree_in (Paren at inner) = tree_in inner
  tree_in (Prefix line s op operand) = tree.Unary op (tree_in operand)
  tree_in (Convert at ty operand) = tree.Cast ty (tree_in operand)
  tree_in (Join line s joint left right) = joined joint (tree_in left) (tree_in right)
  tree_in (Choose at test one other) = tree.Choose (tree_in test) (tree_in one) (tree_in other)

  pub trees_in : Arguments → List Expr
  trees_in (Last argument) = tree_in argument ∷ []
  trees_in (More argument line arguments) = tree_in argument ∷ trees_in arguments

abbrev pub level_in : Expression → ℕ
level_in (Choose at test one other) = 0
level_in (Join line s joint left right) = infix_level joint
level_in (Prefix line s op operand) = prefix_level
level_in (Convert at ty operand) = prefix_level
level_in other = primary_level

-- Operators of one level group to the left, `?:` to the right.
abbrev mutual
  pub IsLawful : Expression → Type 0
  IsLawful (Number line ty value) = Unit {0}
  IsLawful (Name line name) = IsName name
  IsLawful (Field at name field) = IsName name × IsName field
  IsLawful (Method at name method) = IsName name × IsName method
  IsLawful (Alone at name) = IsName name
  IsLawful (Apply at name arguments) = IsName name × AreLawful arguments
  IsLawful (Index at name place) = IsName name × IsLawful place
  IsLawful (Paren at inner) = IsLawful inner
  IsLawful (Prefix line s op operand) = (prefix_of s ≡ Some op) × (prefix_level ≤ level_in operand) × IsLawful operand
  IsLawful (Convert at ty operand) = (prefix_level ≤ level_in operand) × IsLawful operand
  IsLawful (Join line s joint left right) =
      (infix_of s ≡ Some joint) × (infix_level joint ≤ level_in left) × (infix_level joint < level_in right) × IsLawful left × IsLawful right
  IsLawful (Choose at test one other) = (0 < level_in test) × IsLawful test × IsLawful one × IsLawful other

  pub AreLawful : Arguments → Type 0
  AreLawful (Last argument) = IsLawful argument
  AreLawful (More argument line arguments) = IsLawful argument × AreLawful arguments
