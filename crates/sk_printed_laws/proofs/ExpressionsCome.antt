-- Each expression of a spelling reads again, as it is printed.
use Rattle.std.proofs.Common.{ℕ, List, [], ◌∷◌, map, refl, subst, sym, arith}
use Rattle.std.specs.Prelude.{codes}
use Rattle.sk_grammar.specs.ExpressionSpelling.{sign_at, Expression, Number, Name, Field, Method, Alone, Apply, Index, Paren, Prefix, Convert, Join, Choose, Arguments, Last, More, in_front, arguments_in_front, joined, tree_in, trees_in, IsLawful, AreLawful}
use Rattle.sk_grammar.specs.declared.infix.Infix.{Infix}
use Rattle.sk_grammar.specs.declared.infix.Infix.TheVariants.{Computes, Both, Either}
use Rattle.sk_grammar.specs.Signs.{operator_level}
use Rattle.sk_tokens.specs.declared.token.Sign.TheVariants as sign
use Rattle.sk_tokens.specs.declared.token.Token.{Token}
use Rattle.sk_tree.specs.declared.tree.Expr.TheVariants as tree
use Rattle.sk_tree.specs.declared.tree.Expr.{Expr}
use Rattle.sk_printed.specs.WordText.{operator_text}
use Rattle.sk_printed.specs.ExpressionText.{texts_in, shown_of}
use Rattle.sk_printed_laws.proofs.ExpressionForms.{shown-Number, shown-Name, shown-Field, shown-Method, shown-Unary, shown-Cast, shown-Binary, shown-Both, shown-Either, shown-Choose, shown-Apply}
use Rattle.sk_printed_laws.proofs.SignTokens.{and_stands, or_stands, operator_stands, operator_sign, infix_of-operator}
use Rattle.sk_printed_laws.proofs.Spellable.{AreSpellable}
use Rattle.sk_printed_laws.proofs.ExpressionSpelt.{Spelt, named, number_spelt, name_spelt, field_spelt, method_spelt, SpeltArguments, last_spelt, more_spelt, alone_spelt, apply_spelt}
use Rattle.sk_printed_laws.proofs.OperatorSpelt.{join_spelt, operator_level-most, choose_spelt, prefixed_spelt, convert_spelt}

-- ---- all expressions

pub joined_spelt : (joint : Infix) (left right : Expr) (line : ℕ) → Spelt left (shown_of left) line → Spelt right (shown_of right) line → Spelt (joined joint left right) (shown_of (joined joint left right)) line
joined_spelt (Computes o) left right line one other =
    subst (λ shown. Spelt (tree.Binary o left right) shown line) (sym (shown-Binary o left right))
    (join_spelt (operator_level o) (operator_sign o) (Computes o) (operator_text o) left right (shown_of left) (shown_of right) line (infix_of-operator o) refl (operator_level-most o) (operator_stands o) one other)
joined_spelt Both left right line one other =
    subst (λ shown. Spelt (tree.Both left right) shown line) (sym (shown-Both left right))
    (join_spelt 2 sign.AndAnd Both (codes "&&") left right (shown_of left) (shown_of right) line refl refl (omega arith) and_stands one other)
joined_spelt Either left right line one other =
    subst (λ shown. Spelt (tree.Either left right) shown line) (sym (shown-Either left right))
    (join_spelt 1 sign.OrOr Either (codes "||") left right (shown_of left) (shown_of right) line refl refl (omega arith) or_stands one other)

-- what an expression that stands before these tokens comes to
pub record Comes (expr : Expr) (rest : List Token) : Type 0 where
  pub spelt : (line : ℕ) → Spelt expr (shown_of expr) line
  pub further : AreSpellable rest

pub record AllCome (exprs : List Expr) (rest : List Token) : Type 0 where
  pub spelt : (line : ℕ) → SpeltArguments exprs (texts_in (map shown_of exprs)) line
  pub further : AreSpellable rest

mutual
  pub expression_comes : (e : Expression) (rest : List Token) → IsLawful e → AreSpellable (in_front e rest) → Comes (tree_in e) rest
  expression_comes (Number at ty value) rest lawful words = record {
    spelt = λ line. subst (λ shown. Spelt (tree.Number ty value) shown line) (sym (shown-Number ty value)) (number_spelt ty value line words.0);
    further = words.1;
  }
  expression_comes (Name at name) rest lawful words = record {
    spelt = λ line. subst (λ shown. Spelt (tree.Name name) shown line) (sym (shown-Name name)) (name_spelt name line (named name lawful words.0));
    further = words.1;
  }
  expression_comes (Field at name field) rest lawful words = record {
    spelt = λ line. subst (λ shown. Spelt (tree.Field name field) shown line) (sym (shown-Field name field))
        (field_spelt name field line (named name lawful.0 words.0) (named field lawful.1 words.1.1.0));
    further = words.1.1.1;
  }
  expression_comes (Method at name method) rest lawful words = record {
    spelt = λ line. subst (λ shown. Spelt (tree.Method name method) shown line) (sym (shown-Method name method))
        (method_spelt name method line (named name lawful.0 words.0) (named method lawful.1 words.1.1.0));
    further = words.1.1.1.1.1;
  }
  expression_comes (Alone at name) rest lawful words = record {
    spelt = λ line. subst (λ shown. Spelt (tree.Apply name []) shown line) (sym (shown-Apply name [])) (alone_spelt name line (named name lawful words.0));
    further = words.1.1.1;
  }
  expression_comes (Apply at name arguments) rest lawful words =
      let inner = arguments_come arguments (sign_at sign.CloseParen (at 2) ∷ rest) lawful.1 words.1.1 in
      record {
        spelt = λ line. subst (λ shown. Spelt (tree.Apply name (trees_in arguments)) shown line) (sym (shown-Apply name (trees_in arguments)))
            (apply_spelt name (trees_in arguments) (map shown_of (trees_in arguments)) line (named name lawful.0 words.0) (inner.spelt line));
        further = inner.further.1;
      }
  expression_comes (Index at name place) rest lawful words =
      let inner = expression_comes place (sign_at sign.CloseBracket (at 2) ∷ rest) lawful.1 words.1.1 in
      record {
        spelt = λ line. subst (λ shown. Spelt (tree.Apply name (tree_in place ∷ [])) shown line) (sym (shown-Apply name (tree_in place ∷ [])))
            (apply_spelt name (tree_in place ∷ []) (shown_of (tree_in place) ∷ []) line (named name lawful.0 words.0) (last_spelt (tree_in place) (shown_of (tree_in place)) line (inner.spelt line)));
        further = inner.further.1;
      }
  expression_comes (Paren at inside) rest lawful words =
      let inner = expression_comes inside (sign_at sign.CloseParen (at 1) ∷ rest) lawful words.1 in
      record { spelt = inner.spelt; further = inner.further.1 }
  expression_comes (Prefix at s o operand) rest lawful words =
      let inner = expression_comes operand rest lawful.2 words.1 in
      record {
        spelt = λ line. subst (λ shown. Spelt (tree.Unary o (tree_in operand)) shown line) (sym (shown-Unary o (tree_in operand)))
            (prefixed_spelt o (tree_in operand) (shown_of (tree_in operand)) line (inner.spelt line));
        further = inner.further;
      }
  expression_comes (Convert at ty operand) rest lawful words =
      let inner = expression_comes operand rest lawful.1 words.1.1.1 in
      record {
        spelt = λ line. subst (λ shown. Spelt (tree.Cast ty (tree_in operand)) shown line) (sym (shown-Cast ty (tree_in operand)))
            (convert_spelt ty (tree_in operand) (shown_of (tree_in operand)) line (inner.spelt line));
        further = inner.further;
      }
  expression_comes (Join at s joint left right) rest lawful words =
      let one = expression_comes left (sign_at s at ∷ in_front right rest) lawful.3 words in
      let other = expression_comes right rest lawful.4 one.further.1 in
      record {
        spelt = λ line. joined_spelt joint (tree_in left) (tree_in right) line (one.spelt line) (other.spelt line);
        further = other.further;
      }
  expression_comes (Choose at test one other) rest lawful words =
      let asked = expression_comes test (sign_at sign.Question (at 0) ∷ in_front one (sign_at sign.Colon (at 1) ∷ in_front other rest)) lawful.1 words in
      let first = expression_comes one (sign_at sign.Colon (at 1) ∷ in_front other rest) lawful.2 asked.further.1 in
      let second = expression_comes other rest lawful.3 first.further.1 in
      record {
        spelt = λ line. subst (λ shown. Spelt (tree.Choose (tree_in test) (tree_in one) (tree_in other)) shown line) (sym (shown-Choose (tree_in test) (tree_in one) (tree_in other)))
            (choose_spelt (tree_in test) (tree_in one) (tree_in other) (shown_of (tree_in test)) (shown_of (tree_in one)) (shown_of (tree_in other)) line (asked.spelt line) (first.spelt line) (second.spelt line));
        further = second.further;
      }

  pub arguments_come : (arguments : Arguments) (rest : List Token) → AreLawful arguments → AreSpellable (arguments_in_front arguments rest) → AllCome (trees_in arguments) rest
  arguments_come (Last argument) rest lawful words =
      let inner = expression_comes argument rest lawful words in
      record {
        spelt = λ line. last_spelt (tree_in argument) (shown_of (tree_in argument)) line (inner.spelt line);
        further = inner.further;
      }
  arguments_come (More argument at arguments) rest lawful words =
      let first = expression_comes argument (sign_at sign.Comma at ∷ arguments_in_front arguments rest) lawful.0 words in
      let others = arguments_come arguments rest lawful.1 first.further.1 in
      record {
        spelt = λ line. more_spelt (tree_in argument) (shown_of (tree_in argument)) (trees_in arguments) (texts_in (map shown_of (trees_in arguments))) line (first.spelt line) (others.spelt line);
        further = others.further;
      }
