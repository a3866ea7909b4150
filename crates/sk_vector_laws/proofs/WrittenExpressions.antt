-- What stands behind an expression among short tokens.
use Rattle.std.proofs.Common.{List, [], ◌∷◌, ℕ}
use Rattle.sk_grammar.specs.ExpressionSpelling.{Expression, Arguments, in_front, arguments_in_front, sign_at, with_commas}
use Rattle.sk_tokens.specs.declared.token.Sign.TheVariants as sign
use Rattle.sk_tokens.specs.declared.token.Token.{Token}
use Rattle.sk_vector_laws.specs.Names.{AreShort}

mutual
  pub behind_expression : (s : Expression) (r : List Token) → AreShort (in_front s r) → AreShort r
  behind_expression (Expression.Number line ty value) r h = h.1
  behind_expression (Expression.Name line name) r h = h.1
  behind_expression (Expression.Field at name field) r h = h.1.1.1
  behind_expression (Expression.Method at name method) r h = h.1.1.1.1.1
  behind_expression (Expression.Alone at name) r h = h.1.1.1
  behind_expression (Expression.Apply at name arguments) r h = (behind_arguments arguments (sign_at sign.CloseParen (at 2) ∷ r) h.1.1).1
  behind_expression (Expression.Index at name place) r h = (behind_expression place (sign_at sign.CloseBracket (at 2) ∷ r) h.1.1).1
  behind_expression (Expression.Paren at inner) r h = (behind_expression inner (sign_at sign.CloseParen (at 1) ∷ r) h.1).1
  behind_expression (Expression.Prefix line s op operand) r h = behind_expression operand r h.1
  behind_expression (Expression.Convert at ty operand) r h = behind_expression operand r h.1.1.1
  behind_expression (Expression.Join line s joint left right) r h =
      behind_expression right r (behind_expression left (sign_at s line ∷ in_front right r) h).1
  behind_expression (Expression.Choose at test one other) r h =
      let a = behind_expression test (sign_at sign.Question (at 0) ∷ in_front one (sign_at sign.Colon (at 1) ∷ in_front other r)) h in
      let b = behind_expression one (sign_at sign.Colon (at 1) ∷ in_front other r) a.1 in
      behind_expression other r b.1

  pub behind_arguments : (s : Arguments) (r : List Token) → AreShort (arguments_in_front s r) → AreShort r
  behind_arguments (Arguments.Last argument) r h = behind_expression argument r h
  behind_arguments (Arguments.More argument line arguments) r h =
      behind_arguments arguments r (behind_expression argument (sign_at sign.Comma line ∷ arguments_in_front arguments r) h).1

-- what stands behind parts with commas
pub behind_commas : {A : Type 0} (part : A → List Token → List Token) → ((x : A) (r : List Token) → AreShort (part x r) → AreShort r)
    → (xs : List (A × ℕ)) (r : List Token) → AreShort (with_commas part xs r) → AreShort r
behind_commas part f [] r h = h
behind_commas part f (x ∷ []) r h = f x.0 r h
behind_commas part f (x ∷ y ∷ xs) r h =
    let rest : List Token = with_commas part (y ∷ xs) r in
    behind_commas part f (y ∷ xs) r (f x.0 (sign_at sign.Comma x.1 ∷ rest) h).1
