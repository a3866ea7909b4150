-- What the parser reads as functions and programs.
use Rattle.std.specs.Prelude.{◌≡◌, ℕ, zero, suc, ◌-◌, Bool, true, false, if◌then◌else◌, nat_lt, List, [], ◌∷◌, ◌++◌, length, Option, Some, None, codes}
use Rattle.sk_base.specs.declared.number.Ty.{Ty}
use Rattle.sk_grammar.specs.Limits.{most_nesting, most_parameters, most_functions}
use Rattle.sk_grammar.specs.Signs.{meant_by, index_words}
use Rattle.sk_refusals.specs.declared.refusal.Limited.{Limited}
use Rattle.sk_refusals.specs.declared.refusal.Limited.TheVariants.{Functions, Parameters}
use Rattle.sk_refusals.specs.declared.refusal.Refusal.{Refusal}
use Rattle.sk_refusals.specs.declared.refusal.Refusal.TheVariants.{Syntax, Many}
use Rattle.sk_tokens.specs.declared.token.Sign.TheVariants as sign
use Rattle.sk_tokens.specs.declared.token.Token.{Token}
use Rattle.sk_tree.specs.declared.tree.Function.{Function}
use Rattle.sk_tree.specs.declared.tree.Param.{Param}
use Rattle.sk_tree.specs.declared.tree.ParamKind.{ParamKind}
use Rattle.sk_tree.specs.declared.tree.ParamKind.TheVariants.{Scalar, Proxy, Region}
use Rattle.sk_reading.specs.declared.next.Next.{Next}
use Rattle.sk_reading.specs.declared.next.Next.TheVariants as next
use Rattle.sk_reading.specs.declared.view.View.{View}
use Rattle.sk_reading.specs.declared.view.View.TheVariants as view
use Rattle.sk_reading.specs.declared.keyword.Keyword.TheVariants as key
use Rattle.sk_reading.specs.Reading.{Place, Outcome, Read, Refused, Parser, ◌>>=◌, ◌>>◌, pure, refuse, peek, take, front, start_of, sees, eat, expect, expect_keyword, name, front_word, word_in, ty, line}
use Rattle.sk_reading.specs.ReadingExpressions.{is_type}
use Rattle.sk_reading.specs.ReadingStatements.{block, part_below}

abbrev pub seen_as : View → Ty → ParamKind
seen_as (view.Whole dimension) of = Proxy dimension of
seen_as (view.Round dimension) of = Region dimension of

abbrev pub view_words : List (List ℕ × View)
view_words =
    (codes "Vec", view.Whole 1) ∷ (codes "Mat", view.Whole 2) ∷ (codes "Ten3", view.Whole 3) ∷ (codes "Ten4", view.Whole 4)
    ∷ (codes "Region1D", view.Round 1) ∷ (codes "Region2D", view.Round 2) ∷ []

unfoldable pub scalar : Parser Param
scalar = do
  of ← ty
  called ← name
  pure (record { kind = Scalar of; name = called })

-- from a view's word on
unfoldable pub viewed : Parser Param
viewed = do
  kind ← word_in view_words
  expect sign.Lt
  of ← ty
  expect sign.Gt
  called ← name
  pure (record { kind = seen_as kind of; name = called })

unfoldable pub indexed : Parser Param
indexed = do
  kind ← word_in index_words
  called ← name
  pure (record { kind = kind; name = called })

abbrev pub is_some : {A : Type 0} → Option A → Bool
is_some (Some a) = true
is_some None = false

-- a word of indices comes next
unfoldable pub begins_index : Place → Bool
begins_index p = elim (front_word p) [ Some word ↦ is_some (meant_by index_words word) | None ↦ false ]

unfoldable pub qualified : Parser Param
qualified = do
  take
  expect sign.Path
  (λ p. if begins_index p then indexed p else viewed p)

unfoldable pub constant : Parser Param
constant = do
  take
  expect_keyword key.Skepu
  expect sign.Path
  viewed

abbrev pub parameter_by : Next → Parser Param
parameter_by (next.Keyword key.Skepu) = qualified
parameter_by (next.Keyword key.Const) = constant
parameter_by other = scalar

unfoldable pub parameter : Parser Param
parameter = peek >>= parameter_by

-- one more may follow so many
unfoldable pub one_more : Limited → (found most : ℕ) → Parser (Unit {0})
one_more what found most = λ p. if nat_lt found most then Read (tt, p) else refuse (Many what) p

-- a parameter may begin with it
abbrev pub begins_parameter : Next → Bool
begins_parameter (next.Keyword key.Int) = true
begins_parameter (next.Keyword key.Long) = true
begins_parameter (next.Keyword key.Skepu) = true
begins_parameter (next.Keyword key.Const) = true
begins_parameter other = false

-- a parameter, which has to come next, is one more
unfoldable pub count_parameter : (found : ℕ) → Parser (Unit {0})
count_parameter found = λ p. if begins_parameter (front p) then one_more Parameters found most_parameters p else refuse Syntax p

unfoldable pub parameters_from : (turns : ℕ) → List Param → Parser (List Param)
parameters_from zero found = refuse Syntax
parameters_from (suc turns) found = do
  count_parameter (length found)
  declared ← parameter
  more ← eat sign.Comma
  if more then parameters_from turns (found ++ declared ∷ []) else pure (found ++ declared ∷ [])

-- parameters up to the closing parenthesis
unfoldable pub parameters : Parser (List Param)
parameters = λ p. if sees sign.CloseParen p then Read ([], p) else parameters_from (length p.rest) [] p

unfoldable pub function : Parser Function
function = do
  at ← line
  of ← ty
  called ← name
  expect sign.OpenParen
  declared ← parameters
  expect sign.CloseParen
  does ← block most_nesting (part_below most_nesting)
  pure (record { line = at; ret = of; name = called; params = declared; body = does })

abbrev pub is_end : Next → Bool
is_end next.End = true
is_end other = false

unfoldable pub at_end : Place → Bool
at_end p = is_end (front p)

-- a function, which has to come next, is one more
unfoldable pub count_function : (found : ℕ) → Parser (Unit {0})
count_function found = λ p. if is_type (front p) then one_more Functions found most_functions p else refuse Syntax p

unfoldable pub functions_from : (turns : ℕ) → List Function → Parser (List Function)
functions_from zero found = λ p. if at_end p then Read (found, p) else refuse Syntax p
functions_from (suc turns) found = λ p. if at_end p then Read (found, p)
    else (count_function (length found) >> (function >>= (λ next. functions_from turns (found ++ next ∷ [])))) p

-- the functions up to the end
unfoldable pub functions : List Token → Outcome (List Function)
functions tokens = functions_from (length tokens) [] (start_of tokens)

-- the functions are not read, for what is wrong at that token; the end of the list counts as one more
pub record RefusesAt (tokens : List Token) (refusal : Refusal) (token : ℕ) : Type 0 where
  pub left : ℕ
  pub refuses : functions tokens ≡ Refused refusal left
  pub is_token : token ≡ length tokens - left
