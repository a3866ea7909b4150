-- An expression has a token.
use Rattle.std.proofs.Common.{◌<◌, List, ◌∷◌, length, arith}
use Rattle.sk_tokens.specs.declared.token.Sign.TheVariants as sign
use Rattle.sk_grammar.specs.ExpressionSpelling.{Expression, Arguments, in_front, arguments_in_front, sign_at}
use Rattle.sk_tokens.specs.declared.token.Token.{Token}

mutual
  pub longer : (s : Expression) (r : List Token) → length r < length (in_front s r)
  longer (Expression.Number line t v) r = omega arith
  longer (Expression.Name line w) r = omega arith
  longer (Expression.Field lines w v) r = omega arith
  longer (Expression.Method lines w v) r = omega arith
  longer (Expression.Alone lines w) r = omega arith
  longer (Expression.Apply lines w arguments) r = omega (arith, arguments_longer arguments (sign_at sign.CloseParen (lines 2) ∷ r))
  longer (Expression.Index lines w s) r = omega (arith, longer s (sign_at sign.CloseBracket (lines 2) ∷ r))
  longer (Expression.Paren lines s) r = omega (arith, longer s (sign_at sign.CloseParen (lines 1) ∷ r))
  longer (Expression.Prefix line sg op s) r = omega (arith, longer s r)
  longer (Expression.Convert lines t s) r = omega (arith, longer s r)
  longer (Expression.Join line sg j a b) r = omega (arith, longer a (sign_at sg line ∷ in_front b r), longer b r)
  longer (Expression.Choose lines a b c) r =
      omega (
        arith,
        longer a (sign_at sign.Question (lines 0) ∷ in_front b (sign_at sign.Colon (lines 1) ∷ in_front c r)),
        longer b (sign_at sign.Colon (lines 1) ∷ in_front c r),
        longer c r,
      )

  pub arguments_longer : (s : Arguments) (r : List Token) → length r < length (arguments_in_front s r)
  arguments_longer (Arguments.Last s) r = longer s r
  arguments_longer (Arguments.More s line arguments) r =
      omega (arith, longer s (sign_at sign.Comma line ∷ arguments_in_front arguments r), arguments_longer arguments r)
