-- What an expression is printed as reads as the expression again.
use Rattle.std.proofs.Common.{◌≡◌, ℕ, ◌<◌, ◌≤◌, inl, inr, Bool, true, false, ◌&&◌, List, [], ◌∷◌, ◌++◌, length, slice_index, ℤ, refl, ap, subst, sym, ◌∙◌, arith, append_assoc}
use Rattle.std.specs.Prelude.{◌==◌, nat_le, codes}
use Rattle.std.proofs.lemmas.Bool.{cases_Bool}
use Rattle.std.proofs.lemmas.Bool.Decides.{nat_tests}
use Rattle.std.proofs.lemmas.List.{append-nil}
use Rattle.sk_base.specs.declared.number.Ty.{Ty}
use Rattle.sk_grammar.specs.ExpressionSpelling.{word, sign_at, IsName, Expression, Number, Name, Field, Method, Alone, Apply, Paren, Arguments, Last, More, in_front, arguments_in_front, tree_in, trees_in, level_in, IsLawful, AreLawful}
use Rattle.sk_names.specs.Words.{is_word}
use Rattle.sk_names.specs.Bytes.{is_letter, is_digit}
use Rattle.sk_grammar.specs.Signs.{prefix_level, primary_level}
use Rattle.sk_tokens.specs.declared.token.Sign.TheVariants as sign
use Rattle.sk_tokens.specs.declared.token.Token.{Token}
use Rattle.sk_tokens.specs.declared.token.TokenKind.TheVariants as kinds
use Rattle.sk_tree.specs.declared.tree.Expr.TheVariants as tree
use Rattle.sk_tree.specs.declared.tree.Expr.{Expr}
use Rattle.sk_printed.specs.WordText.{number_text}
use Rattle.sk_words.specs.Strung.{strung, separated}
use Rattle.sk_printed.specs.ExpressionText.{Shown, at_level, placed, texts_in, applied_text}
use Rattle.sk_printed_laws.proofs.Lexes.{Lexes, Ends, lexes-token}
use Rattle.sk_printed_laws.proofs.Punctuation.{open_lexes, close_lexes, comma_lexes, dot_lexes, word_lexes}
use Rattle.sk_printed_laws.proofs.WordTokens.{IsNumber, number_stands, number_text-front}

-- what may stand behind a prefix, with a blank before it where it is `-` with its operand
pub record Opens (is_minus : Bool) (text : List ℕ) : Type 0 where
  pub some : 0 < length text
  pub no_equals : (61 == slice_index text 0) ≡ false
  pub no_minus : is_minus ≡ false → (45 == slice_index text 0) ≡ false

-- on this line the text has the tokens of a spelling of the expression
pub record Spelt (expr : Expr) (shown : Shown) (line : ℕ) : Type 0 where
  pub spelling : Expression
  pub lawful : IsLawful spelling
  pub tree_is : tree_in spelling ≡ expr
  pub level_is : level_in spelling ≡ shown.level
  pub lexes : (rest : List ℕ) (tokens : List Token) → Ends rest → Lexes line rest tokens → Lexes line (shown.text ++ rest) (in_front spelling tokens)
  pub opens : prefix_level ≤ shown.level → Opens shown.is_minus shown.text

-- the same in a place for expressions of a level
pub record SpeltIn (least : ℕ) (expr : Expr) (text : List ℕ) (line : ℕ) : Type 0 where
  pub spelling : Expression
  pub lawful : IsLawful spelling
  pub tree_is : tree_in spelling ≡ expr
  pub level_is : least ≤ level_in spelling
  pub lexes : (rest : List ℕ) (tokens : List Token) → Ends rest → Lexes line rest tokens → Lexes line (text ++ rest) (in_front spelling tokens)

-- a word that is no reserved one
pub record IsNamed (name : List ℕ) : Type 0 where
  pub is_name : IsName name
  pub is_word : is_word name ≡ true
  pub short : length name ≤ 255

pub named : (name : List ℕ) → IsName name → (is_word name ≡ true) × (length name ≤ 255) → IsNamed name
named name is_name word = record { is_name = is_name; is_word = word.0; short = word.1 }

-- ---- places

pub parenthesised_lexes : (line : ℕ) (text : List ℕ) (inner : Expression) → ((rest : List ℕ) (tokens : List Token) → Ends rest → Lexes line rest tokens → Lexes line (text ++ rest) (in_front inner tokens)) → (rest : List ℕ) (tokens : List Token) → Lexes line rest tokens → Lexes line ((codes "(" ++ text ++ codes ")") ++ rest) (sign_at sign.OpenParen line ∷ in_front inner (sign_at sign.CloseParen line ∷ tokens))
parenthesised_lexes line text inner lexes rest tokens after =
    let e : 40 ∷ (text ++ (41 ∷ rest)) ≡ (codes "(" ++ text ++ codes ")") ++ rest = simp append_assoc in
    subst (λ bytes. Lexes line bytes (sign_at sign.OpenParen line ∷ in_front inner (sign_at sign.CloseParen line ∷ tokens))) e
    (open_lexes line (text ++ (41 ∷ rest)) (in_front inner (sign_at sign.CloseParen line ∷ tokens))
    (lexes (41 ∷ rest) (sign_at sign.CloseParen line ∷ tokens) (record { parted = refl }) (close_lexes line rest tokens after)))

pub placed_spelt : (least : ℕ) (expr : Expr) (shown : Shown) (line : ℕ) → least ≤ 12 → Spelt expr shown line → SpeltIn least expr (placed least shown) line
placed_spelt least expr shown line most part =
    elim (cases_Bool (nat_le least shown.level)) [
      | inl fits ↦
          let level = part.level_is in
          let enough : least ≤ shown.level = grind (arith, nat_tests) in
          let text : (placed least shown) ≡ shown.text = rw fits refl in
          subst (λ bytes. SpeltIn least expr bytes line) (sym text) (record {
            spelling = part.spelling;
            lawful = part.lawful;
            tree_is = part.tree_is;
            level_is = omega arith;
            lexes = part.lexes;
          })
      | inr loose ↦
          let text : (placed least shown) ≡ codes "(" ++ shown.text ++ codes ")" = rw loose refl in
          subst (λ bytes. SpeltIn least expr bytes line) (sym text) (record {
            spelling = Paren (λ _. line) part.spelling;
            lawful = part.lawful;
            tree_is = part.tree_is;
            level_is = most;
            lexes = λ rest tokens ends after. parenthesised_lexes line shown.text part.spelling part.lexes rest tokens after;
          })
    ]

-- ---- what stands by itself

pub opens_front : (text more : List ℕ) → Opens false text → Opens false (text ++ more)
opens_front [] more opens = let some = opens.some in absurd (omega arith)
opens_front (c ∷ text) more opens = record { some = omega arith; no_equals = opens.no_equals; no_minus = opens.no_minus }

pub letter-equals : (byte : ℕ) → is_letter byte ≡ true → (61 == byte) ≡ false
letter-equals byte letter = grind (arith, nat_tests)

pub letter-minus : (byte : ℕ) → is_letter byte ≡ true → (45 == byte) ≡ false
letter-minus byte letter = grind (arith, nat_tests)

pub opens_word : (name : List ℕ) → is_word name ≡ true → Opens false name
opens_word [] word = cc
opens_word (first ∷ tail) word =
    let letter : is_letter first ≡ true = and-first _ _ word in
    record { some = omega arith; no_equals = letter-equals first letter; no_minus = λ e. letter-minus first letter }
  where
    and-first : (a b : Bool) → (a && b) ≡ true → a ≡ true
    and-first true b e = refl
    and-first false b e = cc

pub digit-equals : (byte : ℕ) → is_digit byte ≡ true → (61 == byte) ≡ false
digit-equals byte digit = grind (arith, nat_tests)

pub digit-minus : (byte : ℕ) → is_digit byte ≡ true → (45 == byte) ≡ false
digit-minus byte digit = grind (arith, nat_tests)

pub number_spelt : (ty : Ty) (value : ℤ) (line : ℕ) → IsNumber ty value → Spelt (tree.Number ty value) (at_level primary_level (number_text ty value)) line
number_spelt ty value line is =
    let front = number_text-front ty value is in
    record {
      spelling = Number line ty value;
      lawful = tt;
      tree_is = refl;
      level_is = refl;
      lexes = λ rest tokens ends after. lexes-token line (number_text ty value) rest (kinds.Number ty value) tokens (number_stands ty value rest is ends) after;
      opens = λ e. record { some = front.0; no_equals = digit-equals (slice_index (number_text ty value) 0) front.1; no_minus = λ e. digit-minus (slice_index (number_text ty value) 0) front.1 };
    }

pub name_spelt : (name : List ℕ) (line : ℕ) → IsNamed name → Spelt (tree.Name name) (at_level primary_level name) line
name_spelt name line is = record {
  spelling = Name line name;
  lawful = is.is_name;
  tree_is = refl;
  level_is = refl;
  lexes = λ rest tokens ends after. word_lexes line rest tokens after name is.is_word is.short ends;
  opens = λ e. opens_word name is.is_word;
}

pub field_spelt : (name field : List ℕ) (line : ℕ) → IsNamed name → IsNamed field → Spelt (tree.Field name field) (at_level primary_level (name ++ codes "." ++ field)) line
field_spelt name field line is of = record {
  spelling = Field (λ _. line) name field;
  lawful = (is.is_name, of.is_name);
  tree_is = refl;
  level_is = refl;
  lexes = λ rest tokens ends after.
      let e : name ++ (46 ∷ (field ++ rest)) ≡ (name ++ codes "." ++ field) ++ rest = simp append_assoc in
      subst (λ bytes. Lexes line bytes (word name line ∷ sign_at sign.Dot line ∷ word field line ∷ tokens)) e
      (word_lexes line (46 ∷ (field ++ rest)) (sign_at sign.Dot line ∷ word field line ∷ tokens)
      (dot_lexes line (field ++ rest) (word field line ∷ tokens) (word_lexes line rest tokens after field of.is_word of.short ends))
      name is.is_word is.short (record { parted = refl }));
  opens = λ e. opens_front (name ++ codes ".") field (opens_front name (codes ".") (opens_word name is.is_word));
}

pub method_spelt : (name method : List ℕ) (line : ℕ) → IsNamed name → IsNamed method → Spelt (tree.Method name method) (at_level primary_level (name ++ codes "." ++ method ++ codes "()")) line
method_spelt name method line is of = record {
  spelling = Method (λ _. line) name method;
  lawful = (is.is_name, of.is_name);
  tree_is = refl;
  level_is = refl;
  lexes = λ rest tokens ends after.
      let e : name ++ (46 ∷ (method ++ (40 ∷ 41 ∷ rest))) ≡ (name ++ codes "." ++ method ++ codes "()") ++ rest = simp append_assoc in
      let last : List Token = sign_at sign.OpenParen line ∷ sign_at sign.CloseParen line ∷ tokens in
      subst (λ bytes. Lexes line bytes (word name line ∷ sign_at sign.Dot line ∷ word method line ∷ last)) e
      (word_lexes line (46 ∷ (method ++ (40 ∷ 41 ∷ rest))) (sign_at sign.Dot line ∷ word method line ∷ last)
      (dot_lexes line (method ++ (40 ∷ 41 ∷ rest)) (word method line ∷ last)
      (word_lexes line (40 ∷ 41 ∷ rest) last
      (open_lexes line (41 ∷ rest) (sign_at sign.CloseParen line ∷ tokens) (close_lexes line rest tokens after))
      method of.is_word of.short (record { parted = refl })))
      name is.is_word is.short (record { parted = refl }));
  opens = λ e. opens_front (name ++ codes "." ++ method) (codes "()") (opens_front (name ++ codes ".") method (opens_front name (codes ".") (opens_word name is.is_word)));
}

-- ---- arguments

-- arguments, of which there are some
pub record SpeltArguments (exprs : List Expr) (texts : List (List ℕ)) (line : ℕ) : Type 0 where
  pub spelling : Arguments
  pub lawful : AreLawful spelling
  pub trees_are : trees_in spelling ≡ exprs
  pub some : 0 < length texts
  pub lexes : (rest : List ℕ) (tokens : List Token) → Ends rest → Lexes line rest tokens → Lexes line (separated texts ++ rest) (arguments_in_front spelling tokens)

pub last_spelt : (expr : Expr) (shown : Shown) (line : ℕ) → Spelt expr shown line → SpeltArguments (expr ∷ []) (shown.text ∷ []) line
last_spelt expr shown line part = record {
  spelling = Last part.spelling;
  lawful = part.lawful;
  trees_are = ap (λ t. t ∷ []) part.tree_is;
  some = omega arith;
  lexes = λ rest tokens ends after.
      subst (λ text. Lexes line (text ++ rest) (in_front part.spelling tokens)) (sym (append-nil shown.text)) (part.lexes rest tokens ends after);
}

pub strung-lead : (lead : List ℕ) (texts : List (List ℕ)) → 0 < length texts → strung (codes ", ") lead texts ≡ lead ++ separated texts
strung-lead lead [] some = absurd (omega arith)
strung-lead lead (text ∷ texts) some = append_assoc lead text (strung (codes ", ") (codes ", ") texts)

pub more_spelt : (expr : Expr) (shown : Shown) (exprs : List Expr) (texts : List (List ℕ)) (line : ℕ) → Spelt expr shown line → SpeltArguments exprs texts line → SpeltArguments (expr ∷ exprs) (shown.text ∷ texts) line
more_spelt expr shown exprs texts line part parts = record {
  spelling = More part.spelling line parts.spelling;
  lawful = (part.lawful, parts.lawful);
  trees_are = rw (part.tree_is, parts.trees_are) refl;
  some = omega arith;
  lexes = λ rest tokens ends after.
      let split : separated (shown.text ∷ texts) ≡ shown.text ++ (codes ", " ++ separated texts) = ap (λ more. shown.text ++ more) (strung-lead (codes ", ") texts parts.some) in
      let e : shown.text ++ (44 ∷ 32 ∷ (separated texts ++ rest)) ≡ separated (shown.text ∷ texts) ++ rest =
      sym (ap (λ bytes. bytes ++ rest) split ∙ append_assoc shown.text (codes ", " ++ separated texts) rest) in
      subst (λ bytes. Lexes line bytes (in_front part.spelling (sign_at sign.Comma line ∷ arguments_in_front parts.spelling tokens))) e
      (part.lexes (44 ∷ 32 ∷ (separated texts ++ rest)) (sign_at sign.Comma line ∷ arguments_in_front parts.spelling tokens) (record { parted = refl })
      (comma_lexes line (separated texts ++ rest) (arguments_in_front parts.spelling tokens) (parts.lexes rest tokens ends after)));
}

-- a word with arguments, in terms of what stands between its parentheses
pub called_lexes : (line : ℕ) (name inner : List ℕ) (between : List Token) (rest : List ℕ) → is_word name ≡ true → length name ≤ 255 → Lexes line (inner ++ (41 ∷ rest)) between → Lexes line ((name ++ codes "(" ++ inner ++ codes ")") ++ rest) (word name line ∷ sign_at sign.OpenParen line ∷ between)
called_lexes line name inner between rest is short within =
    let e : name ++ (40 ∷ (inner ++ (41 ∷ rest))) ≡ (name ++ codes "(" ++ inner ++ codes ")") ++ rest = simp append_assoc in
    subst (λ bytes. Lexes line bytes (word name line ∷ sign_at sign.OpenParen line ∷ between)) e
    (word_lexes line (40 ∷ (inner ++ (41 ∷ rest))) (sign_at sign.OpenParen line ∷ between)
    (open_lexes line (inner ++ (41 ∷ rest)) between within) name is short (record { parted = refl }))

pub applied_lexes : (line : ℕ) (name inner : List ℕ) (between tokens : List Token) (rest : List ℕ) → IsNamed name → Lexes line (inner ++ (41 ∷ rest)) between → Lexes line ((name ++ codes "(" ++ inner ++ codes ")") ++ rest) (word name line ∷ sign_at sign.OpenParen line ∷ between)
applied_lexes line name inner between tokens rest is within = called_lexes line name inner between rest is.is_word is.short within

pub opens_applied : (name inner : List ℕ) → is_word name ≡ true → Opens false (name ++ codes "(" ++ inner ++ codes ")")
opens_applied name inner word =
    opens_front (name ++ codes "(" ++ inner) (codes ")") (opens_front (name ++ codes "(") inner (opens_front name (codes "(") (opens_word name word)))

pub alone_spelt : (name : List ℕ) (line : ℕ) → IsNamed name → Spelt (tree.Apply name []) (at_level primary_level (applied_text name [])) line
alone_spelt name line is = record {
  spelling = Alone (λ _. line) name;
  lawful = is.is_name;
  tree_is = refl;
  level_is = refl;
  lexes = λ rest tokens ends after. applied_lexes line name [] (sign_at sign.CloseParen line ∷ tokens) tokens rest is (close_lexes line rest tokens after);
  opens = λ e. opens_applied name [] is.is_word;
}

pub apply_spelt : (name : List ℕ) (exprs : List Expr) (parts : List Shown) (line : ℕ) → IsNamed name → SpeltArguments exprs (texts_in parts) line → Spelt (tree.Apply name exprs) (at_level primary_level (applied_text name parts)) line
apply_spelt name exprs parts line is arguments = record {
  spelling = Apply (λ _. line) name arguments.spelling;
  lawful = (is.is_name, arguments.lawful);
  tree_is = ap (λ trees. tree.Apply name trees) arguments.trees_are;
  level_is = refl;
  lexes = λ rest tokens ends after.
      applied_lexes line name (separated (texts_in parts)) (arguments_in_front arguments.spelling (sign_at sign.CloseParen line ∷ tokens)) tokens rest is
      (arguments.lexes (41 ∷ rest) (sign_at sign.CloseParen line ∷ tokens) (record { parted = refl }) (close_lexes line rest tokens after));
  opens = λ e. opens_applied name (separated (texts_in parts)) is.is_word;
}
