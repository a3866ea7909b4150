-- What an expression is printed as.
use Rattle.std.specs.Prelude.{ℕ, ◌+◌, nat_le, Bool, true, false, ◌&&◌, if◌then◌else◌, List, [], ◌++◌, map, codes}
use Rattle.sk_grammar.specs.Signs.{operator_level, prefix_level, primary_level, type_word}
use Rattle.sk_tree.specs.declared.tree.Expr.{Expr, fold-Expr}
use Rattle.sk_tree.specs.declared.tree.Expr.TheOpen.{Expr-F, Number, Name, Field, Method, Unary, Cast, Binary, Both, Either, Choose, Apply}
use Rattle.sk_tree.specs.declared.tree.Un.{Un}
use Rattle.sk_tree.specs.declared.tree.Un.TheVariants.{Neg, Inv, Not}
use Rattle.sk_printed.specs.WordText.{operator_text, prefix_text, number_text}
use Rattle.sk_words.specs.Strung.{separated}

-- the text of an expression, its level, and whether it is the prefix `-` with its operand
pub record Shown : Type 0 where
  pub level : ℕ
  pub is_minus : Bool
  pub text : List ℕ

abbrev pub at_level : ℕ → List ℕ → Shown
at_level level text = record { level = level; is_minus = false; text = text }

-- in a place for expressions of this level, a looser one stands in parentheses
abbrev pub placed : (level : ℕ) → Shown → List ℕ
placed level part = if nat_le level part.level then part.text else codes "(" ++ part.text ++ codes ")"

abbrev pub is_neg : Un → Bool
is_neg Neg = true
is_neg Inv = false
is_neg Not = false

-- a blank between `-` and `-`, which would be `--` without it
abbrev pub gap : Un → Shown → List ℕ
gap op part = if is_neg op && part.is_minus then codes " " else []

abbrev pub joined_text : (level : ℕ) → (operator : List ℕ) → Shown → Shown → List ℕ
joined_text level operator left right = placed level left ++ codes " " ++ operator ++ codes " " ++ placed (level + 1) right

abbrev pub texts_in : List Shown → List (List ℕ)
texts_in parts = map (λ part. part.text) parts

abbrev pub applied_text : (name : List ℕ) → List Shown → List ℕ
applied_text name arguments = name ++ codes "(" ++ separated (texts_in arguments) ++ codes ")"

-- what an expression is printed as, its parts being replaced by what they are printed as
abbrev pub shown_step : Expr-F Shown → Shown
shown_step (Number ty value) = at_level primary_level (number_text ty value)
shown_step (Name name) = at_level primary_level name
shown_step (Field name field) = at_level primary_level (name ++ codes "." ++ field)
shown_step (Method name method) = at_level primary_level (name ++ codes "." ++ method ++ codes "()")
shown_step (Unary op part) = record {
  level = prefix_level;
  is_minus = is_neg op;
  text = prefix_text op ++ gap op part ++ placed prefix_level part;
}
shown_step (Cast ty part) = at_level prefix_level (codes "(" ++ type_word ty ++ codes ")" ++ placed prefix_level part)
shown_step (Binary op left right) =
    at_level (operator_level op) (joined_text (operator_level op) (operator_text op) left right)
shown_step (Both left right) = at_level 2 (joined_text 2 (codes "&&") left right)
shown_step (Either left right) = at_level 1 (joined_text 1 (codes "||") left right)
shown_step (Choose test one other) = at_level 0 (placed 1 test ++ codes " ? " ++ one.text ++ codes " : " ++ other.text)
shown_step (Apply name arguments) = at_level primary_level (applied_text name arguments)

abbrev pub shown_of : Expr → Shown
shown_of = fold-Expr Shown shown_step

abbrev pub text_of : Expr → List ℕ
text_of value = (shown_of value).text
