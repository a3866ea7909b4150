-- Each parameter is read; and how long, and how begun, parameters and functions are.
use Rattle.std.proofs.Common.{◌≡◌, ℕ, ◌+◌, ◌<◌, ◌≤◌, true, false, inl, inr, List, [], ◌∷◌, length, Some, None, refl, ap, ◌∙◌, arith}
use Rattle.sk_base.specs.declared.number.Ty.{Ty}
use Rattle.sk_base.specs.declared.number.Ty.TheVariants.{Int, Long}
use Rattle.sk_grammar.specs.ExpressionSpelling.{IsName, TokenLines, sign_at, word, typed, with_commas, each}
use Rattle.sk_grammar.specs.Grammar.{Parameter, parameter_in_front, parameter_tree, IsLawfulParameter, Spelling, tokens_in, IsLawfulSpelling}
use Rattle.sk_grammar.specs.Signs as signs
use Rattle.sk_grammar.specs.Signs.{meant_by, index_words}
use Rattle.sk_grammar.specs.StatementSpelling.{block_in_front}
use Rattle.sk_tokens.specs.declared.token.Sign.TheVariants as sign
use Rattle.sk_tokens.specs.declared.token.Token.{Token}
use Rattle.sk_tree.specs.declared.tree.Param.{Param}
use Rattle.sk_tree.specs.declared.tree.ParamKind.{ParamKind}
use Rattle.sk_tree.specs.declared.tree.ParamKind.TheVariants.{Scalar}
use Rattle.sk_reading.specs.Reading.{Place, Read, keyword_of, front, front_of, advance, sees, expect, expect_keyword, sees_keyword, same_sign, same_keyword, is_sign, front_word}
use Rattle.sk_reading.specs.ReadingPrograms as reading
use Rattle.sk_reading_complete_laws.proofs.Steps.{commas_longer}
use Rattle.sk_reading_complete_laws.proofs.Steps.{at, name-ok, ty-ok}
use Rattle.sk_reading.proofs.Entries.{meant-first, modes-mapped}
use Rattle.sk_reading_complete_laws.proofs.statements.Assignments.{word_in-ok}
use Rattle.sk_reading_complete_laws.proofs.statements.Tokens.{block_longer}

-- ---- parameters

scalar-ok : (lines : TokenLines) (t : Ty) (w : List ℕ) → IsName w → (r : List Token) (n i : ℕ)
    → reading.scalar (at (typed t (lines 0) ∷ word w (lines 1) ∷ r) n i) ≡ Read (record { kind = Scalar t; name = w }, at r n i)
unfolding reading.scalar
scalar-ok lines t w free r n i = rw (ty-ok t (lines 0) (word w (lines 1) ∷ r) n i) (rw (name-ok w (lines 1) r n i free) refl)

by-type : (t : Ty) (line : ℕ) (r : List Token) (p : Place) → reading.parameter_by (front_of (typed t line ∷ r)) p ≡ reading.scalar p
unfolding keyword_of
by-type Int line r p = refl
by-type Long line r p = refl

apart : {A B : Type 0} (fs : List (List ℕ × B)) (es : List (List ℕ × A)) (k : List ℕ) (a : A) → each (λ e. meant_by fs e.0 ≡ None) es → meant_by es k ≡ Some a → meant_by fs k ≡ None
apart fs [] k a none h = absurd (cc)
apart fs (e ∷ es) k a none h = elim (meant-first e es k a h) [ inl here ↦ ap (meant_by fs) here.0 ∙ none.0 | inr later ↦ apart fs es k a none.1 later ]

viewed-ok : (lines : TokenLines) (k : List ℕ) (meant : Ty → ParamKind) (t : Ty) (w : List ℕ) → meant_by signs.view_words k ≡ Some meant → IsName w → (r : List Token) (n i : ℕ)
    → reading.viewed (at (word k (lines 2) ∷ sign_at sign.Lt (lines 3) ∷ typed t (lines 4) ∷ sign_at sign.Gt (lines 5) ∷ word w (lines 6) ∷ r) n i)
    ≡ Read (record { kind = meant t; name = w }, at r n i)
unfolding reading.viewed front advance sees expect same_sign
viewed-ok lines k meant t w is free r n i =
    let (v, view-is, same) = modes-mapped reading.seen_as reading.view_words k meant is in
    let named = word w (lines 6) ∷ r in
    rw (word_in-ok reading.view_words k v (lines 2) (sign_at sign.Lt (lines 3) ∷ typed t (lines 4) ∷ sign_at sign.Gt (lines 5) ∷ named) n i view-is)
    (rw (ty-ok t (lines 4) (sign_at sign.Gt (lines 5) ∷ named) n i) (rw (name-ok w (lines 6) r n i free)
    (ap (λ (f : Ty → ParamKind). let made : Param = record { kind = f t; name = w } in Read (made, at r n i)) same)))

view-no_index : (k : List ℕ) (meant : Ty → ParamKind) → meant_by signs.view_words k ≡ Some meant → meant_by index_words k ≡ None
view-no_index k meant is = apart index_words signs.view_words k meant (refl, (refl, (refl, (refl, (refl, (refl, tt)))))) is

pub parameter-ok : (a : Parameter) → IsLawfulParameter a → (r : List Token) (n i : ℕ) → reading.parameter (at (parameter_in_front a r) n i) ≡ Read (parameter_tree a, at r n i)
unfolding reading.parameter reading.qualified reading.constant reading.indexed reading.begins_index front front_word keyword_of advance sees expect same_sign expect_keyword sees_keyword same_keyword
parameter-ok (Parameter.ScalarParameter lines t w) free r n i =
    by-type t (lines 0) (word w (lines 1) ∷ r) (at (typed t (lines 0) ∷ word w (lines 1) ∷ r) n i) ∙ scalar-ok lines t w free r n i
parameter-ok (Parameter.IndexParameter lines k meant w) lawful r n i =
    rw lawful.0 (rw (word_in-ok index_words k meant (lines 2) (word w (lines 3) ∷ r) n i lawful.0) (rw (name-ok w (lines 3) r n i lawful.1) refl))
parameter-ok (Parameter.ViewParameter lines k meant t w) lawful r n i =
    rw (view-no_index k meant lawful.0) (viewed-ok lines k meant t w lawful.0 lawful.1 r n i)
parameter-ok (Parameter.ConstParameter line lines k meant t w) lawful r n i = viewed-ok lines k meant t w lawful.0 lawful.1 r n i

parameter_longer : (a : Parameter) (r : List Token) → length r < length (parameter_in_front a r)
parameter_longer (Parameter.ScalarParameter lines t w) r = omega arith
parameter_longer (Parameter.IndexParameter lines k meant w) r = omega arith
parameter_longer (Parameter.ViewParameter lines k meant t w) r = omega arith
parameter_longer (Parameter.ConstParameter line lines k meant t w) r = omega arith

pub parameters_longer : (l : List (Parameter × ℕ)) (r : List Token) → length l + length r ≤ length (with_commas parameter_in_front l r)
parameters_longer l r = commas_longer parameter_in_front parameter_longer l r

typed-begins : (t : Ty) (line : ℕ) (r : List Token) → reading.begins_parameter (front_of (typed t line ∷ r)) ≡ true
unfolding keyword_of
typed-begins Int line r = refl
typed-begins Long line r = refl

pub parameter-begins : (a : Parameter) (r : List Token) → reading.begins_parameter (front_of (parameter_in_front a r)) ≡ true
unfolding keyword_of
parameter-begins (Parameter.ScalarParameter lines t w) r = typed-begins t (lines 0) (word w (lines 1) ∷ r)
parameter-begins (Parameter.IndexParameter lines k meant w) r = refl
parameter-begins (Parameter.ViewParameter lines k meant t w) r = refl
parameter-begins (Parameter.ConstParameter line lines k meant t w) r = refl

typed-not_close : (t : Ty) (line : ℕ) (r : List Token) → is_sign sign.CloseParen (front_of (typed t line ∷ r)) ≡ false
unfolding keyword_of
typed-not_close Int line r = refl
typed-not_close Long line r = refl

parameter-not_close : (a : Parameter) (r : List Token) → is_sign sign.CloseParen (front_of (parameter_in_front a r)) ≡ false
unfolding keyword_of
parameter-not_close (Parameter.ScalarParameter lines t w) r = typed-not_close t (lines 0) (word w (lines 1) ∷ r)
parameter-not_close (Parameter.IndexParameter lines k meant w) r = refl
parameter-not_close (Parameter.ViewParameter lines k meant t w) r = refl
parameter-not_close (Parameter.ConstParameter line lines k meant t w) r = refl

pub parameters-not_close : (a : Parameter × ℕ) (l : List (Parameter × ℕ)) (r : List Token) → is_sign sign.CloseParen (front_of (with_commas parameter_in_front (a ∷ l) r)) ≡ false
parameters-not_close a [] r = parameter-not_close a.0 r
parameters-not_close a (b ∷ l) r = parameter-not_close a.0 (sign_at sign.Comma a.1 ∷ with_commas parameter_in_front (b ∷ l) r)

-- ---- functions

pub typed-not_end : (t : Ty) (line : ℕ) (r : List Token) → reading.is_end (front_of (typed t line ∷ r)) ≡ false
unfolding keyword_of
typed-not_end Int line r = refl
typed-not_end Long line r = refl

pub definitions_longer : (l : Spelling) → IsLawfulSpelling l → length l ≤ length (tokens_in l)
definitions_longer [] lawful = omega arith
definitions_longer (d ∷ l) lawful =
    let rest = tokens_in l in
    omega (arith, definitions_longer l lawful.1, block_longer d.body rest lawful.0.2, parameters_longer d.params (sign_at sign.CloseParen (d.at 3) ∷ block_in_front d.body rest))
