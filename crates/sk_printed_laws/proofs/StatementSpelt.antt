-- What a simple statement is printed as reads as the statement again.
use Rattle.std.proofs.Common.{◌≡◌, ℕ, List, [], ◌∷◌, ◌++◌, map, pos, refl, ap, subst, sym, ◌∙◌, arith, append_assoc}
use Rattle.std.specs.Prelude.{codes}
use Rattle.sk_base.specs.declared.number.Op.{Op}
use Rattle.sk_base.specs.declared.number.Ty.TheVariants.{Int}
use Rattle.sk_base.specs.declared.number.Ty.{Ty}
use Rattle.sk_grammar.specs.declared.infix.Infix.TheVariants.{Computes}
use Rattle.sk_grammar.specs.ExpressionSpelling.{word, sign_at, typed, in_front, arguments_in_front, tree_in, trees_in}
use Rattle.sk_grammar.specs.Signs.{Assigns, Plainly, Joining, type_word}
use Rattle.sk_grammar.specs.StatementSpelling.{Target, Variable, Element, Bracketed, Assignment, Assign, StepAfter, StepBefore, Simple, Declare, Assigning, assignment_in_front, simple_in_front, target_in_front, old_value, new_value, assigned, one, assignment_tree, simple_tree, IsLawfulTarget, IsLawfulAssignment, IsLawfulSimple}
use Rattle.sk_tokens.specs.declared.token.Sign.TheVariants as sign
use Rattle.sk_tokens.specs.declared.token.Token.{Token}
use Rattle.sk_tree.specs.declared.tree.Expr.TheVariants as tree
use Rattle.sk_tree.specs.declared.tree.Expr.{Expr}
use Rattle.sk_tree.specs.declared.tree.What.TheVariants as what
use Rattle.sk_tree.specs.declared.tree.What.{What}
use Rattle.sk_words.specs.Strung.{separated}
use Rattle.sk_printed.specs.ExpressionText.{shown_of, text_of, applied_text, texts_in}
use Rattle.sk_printed.specs.StatementText.{simple, shown_what}
use Rattle.sk_printed_laws.proofs.ExpressionSpelt.{Spelt, SpeltArguments, IsNamed, named, name_spelt, number_spelt, apply_spelt, last_spelt, applied_lexes}
use Rattle.sk_printed_laws.proofs.ExpressionsCome.{expression_comes, arguments_come, joined_spelt}
use Rattle.sk_printed_laws.proofs.OperatorSpelt.{typed_lexes}
use Rattle.sk_printed_laws.proofs.ExpressionForms.{shown-Name, shown-Number, shown-Apply}
use Rattle.sk_printed_laws.proofs.Lexes.{Lexes, Ends, lexes-space}
use Rattle.sk_printed_laws.proofs.Punctuation.{close_lexes, equals_lexes, word_lexes}
use Rattle.sk_printed_laws.proofs.Spellable.{AreSpellable}
use Rattle.sk_printed_laws.proofs.StatementForms.{shown-Declare, shown-Assign, shown-Poke}

-- ---- assignments

pub record SpeltAssignment (does : What) (line : ℕ) : Type 0 where
  pub spelling : Assignment
  pub lawful : IsLawfulAssignment spelling
  pub tree_is : assignment_tree spelling ≡ does
  pub text : List ℕ
  pub shown_is : shown_what does ≡ simple text
  pub lexes : (rest : List ℕ) (tokens : List Token) → Ends rest → Lexes line rest tokens → Lexes line (text ++ rest) (assignment_in_front spelling tokens)

equals_between : (line : ℕ) (target text rest : List ℕ) (before : List Token → List Token) (tokens : List Token) → ((rest : List ℕ) (tokens : List Token) → Ends rest → Lexes line rest tokens → Lexes line (target ++ rest) (before tokens)) → Lexes line (text ++ rest) tokens → Lexes line ((target ++ codes " = " ++ text) ++ rest) (before (sign_at sign.Eq line ∷ tokens))
equals_between line target text rest before tokens lexes after =
    let e : target ++ (32 ∷ 61 ∷ 32 ∷ (text ++ rest)) ≡ (target ++ codes " = " ++ text) ++ rest = simp append_assoc in
    subst (λ bytes. Lexes line bytes (before (sign_at sign.Eq line ∷ tokens))) e
    (lexes (32 ∷ 61 ∷ 32 ∷ (text ++ rest)) (sign_at sign.Eq line ∷ tokens) (record { parted = refl }) (equals_lexes line (text ++ rest) tokens after))

assign_variable : (name : List ℕ) (value : Expr) (line : ℕ) → IsNamed name → Spelt value (shown_of value) line → SpeltAssignment (what.Assign name value) line
assign_variable name value line is part = record {
  spelling = Assign (Variable line name) line sign.Eq Plainly part.spelling;
  lawful = (is.is_name, refl, part.lawful);
  tree_is = ap (what.Assign name) part.tree_is;
  text = name ++ codes " = " ++ text_of value;
  shown_is = shown-Assign name value;
  lexes = λ rest tokens ends after.
      equals_between line name (text_of value) rest (λ tokens. word name line ∷ tokens) (in_front part.spelling tokens)
      (λ rest tokens ends after. word_lexes line rest tokens after name is.is_word is.short ends) (part.lexes rest tokens ends after);
}

assign_element : (name : List ℕ) (places : List Expr) (value : Expr) (line : ℕ) → IsNamed name → SpeltArguments places (texts_in (map shown_of places)) line → Spelt value (shown_of value) line → SpeltAssignment (what.Poke name places value) line
assign_element name places value line is arguments part = record {
  spelling = Assign (Element (λ _. line) name arguments.spelling) line sign.Eq Plainly part.spelling;
  lawful = ((is.is_name, arguments.lawful), refl, part.lawful);
  tree_is = ap (λ x. what.Poke name x (tree_in part.spelling)) arguments.trees_are ∙ ap (what.Poke name places) part.tree_is;
  text = applied_text name (map shown_of places) ++ codes " = " ++ text_of value;
  shown_is = shown-Poke name places value;
  lexes = λ rest tokens ends after.
      equals_between line (applied_text name (map shown_of places)) (text_of value) rest
      (λ tokens. word name line ∷ sign_at sign.OpenParen line ∷ arguments_in_front arguments.spelling (sign_at sign.CloseParen line ∷ tokens)) (in_front part.spelling tokens)
      (λ rest tokens ends after.
      applied_lexes line name (separated (texts_in (map shown_of places))) (arguments_in_front arguments.spelling (sign_at sign.CloseParen line ∷ tokens)) tokens rest is
      (arguments.lexes (41 ∷ rest) (sign_at sign.CloseParen line ∷ tokens) (record { parted = refl }) (close_lexes line rest tokens after)))
      (part.lexes rest tokens ends after);
}

-- what a target that stands before these tokens comes to
pub record TargetComes (target : Target) (rest : List Token) : Type 0 where
  pub old : (line : ℕ) → Spelt (old_value target) (shown_of (old_value target)) line
  pub assign : (line : ℕ) (value : Expr) → Spelt value (shown_of value) line → SpeltAssignment (assigned target value) line
  pub further : AreSpellable rest

applied_spelt : (name : List ℕ) (exprs : List Expr) (line : ℕ) → IsNamed name → SpeltArguments exprs (texts_in (map shown_of exprs)) line → Spelt (tree.Apply name exprs) (shown_of (tree.Apply name exprs)) line
applied_spelt name exprs line is arguments =
    subst (λ shown. Spelt (tree.Apply name exprs) shown line) (sym (shown-Apply name exprs)) (apply_spelt name exprs (map shown_of exprs) line is arguments)

target_comes : (target : Target) (rest : List Token) → IsLawfulTarget target → AreSpellable (target_in_front target rest) → TargetComes target rest
target_comes (Variable at name) rest lawful words =
    let is = named name lawful words.0 in
    record {
      old = λ line. subst (λ shown. Spelt (tree.Name name) shown line) (sym (shown-Name name)) (name_spelt name line is);
      assign = λ line value part. assign_variable name value line is part;
      further = words.1;
    }
target_comes (Element at name places) rest lawful words =
    let is = named name lawful.0 words.0 in
    let inner = arguments_come places (sign_at sign.CloseParen (at 2) ∷ rest) lawful.1 words.1.1 in
    record {
      old = λ line. applied_spelt name (trees_in places) line is (inner.spelt line);
      assign = λ line value part. assign_element name (trees_in places) value line is (inner.spelt line) part;
      further = inner.further.1;
    }
target_comes (Bracketed at name place) rest lawful words =
    let is = named name lawful.0 words.0 in
    let inner = expression_comes place (sign_at sign.CloseBracket (at 2) ∷ rest) lawful.1 words.1.1 in
    record {
      old = λ line. applied_spelt name (tree_in place ∷ []) line is (last_spelt (tree_in place) (shown_of (tree_in place)) line (inner.spelt line));
      assign = λ line value part. assign_element name (tree_in place ∷ []) value line is (last_spelt (tree_in place) (shown_of (tree_in place)) line (inner.spelt line)) part;
      further = inner.further.1;
    }

pub record AssignmentComes (does : What) (rest : List Token) : Type 0 where
  pub spelt : (line : ℕ) → SpeltAssignment does line
  pub further : AreSpellable rest

one_spelt : (line : ℕ) → Spelt one (shown_of one) line
one_spelt line =
    subst (λ shown. Spelt one shown line) (sym (shown-Number Int (pos 1)))
    (number_spelt Int (pos 1) line (record { digits = 1; is = refl; fits = omega arith; short = λ e. omega arith }))

new_spelt : (how : Assigns) (old value : Expr) (line : ℕ) → Spelt old (shown_of old) line → Spelt value (shown_of value) line → Spelt (new_value how old value) (shown_of (new_value how old value)) line
new_spelt Plainly old value line before part = part
new_spelt (Joining o) old value line before part = joined_spelt (Computes o) old value line before part

stepped : (target : Target) (o : Op) (line : ℕ) → Spelt (old_value target) (shown_of (old_value target)) line → Spelt (tree.Binary o (old_value target) one) (shown_of (tree.Binary o (old_value target) one)) line
stepped target o line old = joined_spelt (Computes o) (old_value target) one line old (one_spelt line)

pub assignment_comes : (assignment : Assignment) (rest : List Token) → IsLawfulAssignment assignment → AreSpellable (assignment_in_front assignment rest) → AssignmentComes (assignment_tree assignment) rest
assignment_comes (Assign target at s how value) rest lawful words =
    let place = target_comes target (sign_at s at ∷ in_front value rest) lawful.0 words in
    let part = expression_comes value rest lawful.2 place.further.1 in
    record {
      spelt = λ line. place.assign line (new_value how (old_value target) (tree_in value)) (new_spelt how (old_value target) (tree_in value) line (place.old line) (part.spelt line));
      further = part.further;
    }
assignment_comes (StepAfter target at s o) rest lawful words =
    let place = target_comes target (sign_at s at ∷ rest) lawful.0 words in
    record {
      spelt = λ line. place.assign line (tree.Binary o (old_value target) one) (stepped target o line (place.old line));
      further = place.further.1;
    }
assignment_comes (StepBefore at s o target) rest lawful words =
    let place = target_comes target rest lawful.1 words.1 in
    record {
      spelt = λ line. place.assign line (tree.Binary o (old_value target) one) (stepped target o line (place.old line));
      further = place.further;
    }

-- ---- what a `for` may begin with

pub record SpeltSimple (does : What) (line : ℕ) : Type 0 where
  pub spelling : Simple
  pub lawful : IsLawfulSimple spelling
  pub tree_is : simple_tree spelling ≡ does
  pub text : List ℕ
  pub shown_is : shown_what does ≡ simple text
  pub lexes : (rest : List ℕ) (tokens : List Token) → Ends rest → Lexes line rest tokens → Lexes line (text ++ rest) (simple_in_front spelling tokens)

pub record SimpleComes (does : What) (rest : List Token) : Type 0 where
  pub spelt : (line : ℕ) → SpeltSimple does line
  pub further : AreSpellable rest

from_assignment : (does : What) (line : ℕ) → SpeltAssignment does line → SpeltSimple does line
from_assignment does line it = record {
  spelling = Assigning it.spelling;
  lawful = it.lawful;
  tree_is = it.tree_is;
  text = it.text;
  shown_is = it.shown_is;
  lexes = it.lexes;
}

declare_spelt : (ty : Ty) (name : List ℕ) (value : Expr) (line : ℕ) → IsNamed name → Spelt value (shown_of value) line → SpeltSimple (what.Declare ty name value) line
declare_spelt ty name value line is part = record {
  spelling = Declare (λ _. line) ty name part.spelling;
  lawful = (is.is_name, part.lawful);
  tree_is = ap (what.Declare ty name) part.tree_is;
  text = type_word ty ++ codes " " ++ name ++ codes " = " ++ text_of value;
  shown_is = shown-Declare ty name value;
  lexes = λ rest tokens ends after.
      equals_between line (type_word ty ++ codes " " ++ name) (text_of value) rest (λ tokens. typed ty line ∷ word name line ∷ tokens) (in_front part.spelling tokens)
      (λ rest tokens ends after.
      let e : type_word ty ++ (32 ∷ (name ++ rest)) ≡ (type_word ty ++ codes " " ++ name) ++ rest = spaced (type_word ty) name rest in
      subst (λ bytes. Lexes line bytes (typed ty line ∷ word name line ∷ tokens)) e
      (typed_lexes line ty (32 ∷ (name ++ rest)) (word name line ∷ tokens) (record { parted = refl })
      (lexes-space line (name ++ rest) (word name line ∷ tokens) (word_lexes line rest tokens after name is.is_word is.short ends))))
      (part.lexes rest tokens ends after);
}
  where
    spaced : (a b rest : List ℕ) → a ++ (32 ∷ (b ++ rest)) ≡ (a ++ codes " " ++ b) ++ rest
    spaced a b rest = simp append_assoc

pub simple_comes : (it : Simple) (rest : List Token) → IsLawfulSimple it → AreSpellable (simple_in_front it rest) → SimpleComes (simple_tree it) rest
simple_comes (Declare at ty name value) rest lawful words =
    let is = named name lawful.0 words.1.0 in
    let part = expression_comes value rest lawful.1 words.1.1.1 in
    record {
      spelt = λ line. declare_spelt ty name (tree_in value) line is (part.spelt line);
      further = part.further;
    }
simple_comes (Assigning assignment) rest lawful words =
    let it = assignment_comes assignment rest lawful words in
    record {
      spelt = λ line. from_assignment (assignment_tree assignment) line (it.spelt line);
      further = it.further;
    }
