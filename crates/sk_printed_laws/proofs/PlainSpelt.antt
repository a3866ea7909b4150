-- What a statement without blocks is printed as reads as the statement again.
use Rattle.std.proofs.Common.{◌≡◌, ℕ, ◌≤◌, true, List, ◌∷◌, ◌++◌, length, map, refl, ap, subst, ◌∙◌, arith, append_assoc}
use Rattle.std.specs.Prelude.{Some, codes}
use Rattle.std.specs.List.{list_all}
use Rattle.sk_base.specs.declared.number.Ty.TheVariants.{Int, Long}
use Rattle.sk_base.specs.declared.number.Ty.{Ty}
use Rattle.sk_grammar.specs.ExpressionSpelling.{word, sign_at, typed, string, in_front, arguments_in_front}
use Rattle.sk_names.specs.Words.{is_word}
use Rattle.sk_grammar.specs.Signs.{type_word, meant_by, container_words, value_words, mode_words, Family}
use Rattle.sk_grammar.specs.StatementSpelling.{simple_line, Written, Simply, Make, Take, SetValue, SetOverlap, SetMode, Call, Return, written_in_front, written_tree, at_line, IsLawfulStatement}
use Rattle.sk_tokens.specs.declared.token.Sign.TheVariants as sign
use Rattle.sk_tokens.specs.declared.token.Token.{Token}
use Rattle.sk_tokens.specs.declared.token.TokenKind.TheVariants as kinds
use Rattle.sk_tree.specs.declared.tree.Expr.{Expr}
use Rattle.sk_tree.specs.declared.tree.Setting.TheVariants.{Overlap}
use Rattle.sk_tree.specs.declared.tree.Setting.{Setting}
use Rattle.sk_tree.specs.declared.tree.What.TheVariants as what
use Rattle.sk_tree.specs.declared.tree.What.{What}
use Rattle.sk_words.specs.Strung.{separated}
use Rattle.sk_words.specs.Escapes.{quoted}
use Rattle.sk_printed.specs.ExpressionText.{shown_of, text_of, applied_text, texts_in}
use Rattle.sk_printed.specs.StatementText.{simple, shown_what}
use Rattle.sk_printed_laws.proofs.ExpressionSpelt.{Spelt, SpeltArguments, IsNamed, called_lexes, applied_lexes}
use Rattle.sk_printed_laws.proofs.OperatorSpelt.{typed_lexes}
use Rattle.sk_printed_laws.proofs.Lexes.{Lexes, Stands, Ends, lexes-space, lexes-token}
use Rattle.sk_printed_laws.proofs.Punctuation.{open_lexes, close_lexes, semi_lexes, dot_lexes, path_lexes, equals_lexes, word_lexes}
use Rattle.sk_printed_laws.proofs.Keywords.{container_is, value_is, mode_is, valued_text, mode_text, view_text}
use Rattle.sk_printed_laws.proofs.SignTokens.{less_stands, greater_stands}
use Rattle.sk_printed_laws.proofs.StatementSpelt.{SpeltSimple}
use Rattle.sk_printed_laws.proofs.StatementForms.{shown-Make, shown-Take, shown-Set, shown-Call, shown-Return}
use Rattle.sk_printed_laws.proofs.TextTokens.{is_text_byte, text_stands}

pub record SpeltPlain (does : What) (line : ℕ) : Type 0 where
  pub spelling : Written
  pub lawful : IsLawfulStatement spelling
  pub at : ℕ
  pub tree_is : written_tree spelling ≡ at_line at does
  pub text : List ℕ
  pub shown_is : shown_what does ≡ simple text
  pub lexes : (rest : List ℕ) (tokens : List Token) → Lexes line rest tokens → Lexes line (text ++ (59 ∷ rest)) (written_in_front spelling tokens)

pub plain_simple : (does : What) (line : ℕ) → SpeltSimple does line → SpeltPlain does line
plain_simple does line it = record {
  spelling = Simply it.spelling line;
  lawful = it.lawful;
  at = simple_line it.spelling;
  tree_is = ap (at_line (simple_line it.spelling)) it.tree_is;
  text = it.text;
  shown_is = it.shown_is;
  lexes = λ rest tokens after. it.lexes (59 ∷ rest) (sign_at sign.Semi line ∷ tokens) (record { parted = refl }) (semi_lexes line rest tokens after);
}

pub plain_return : (value : Expr) (line : ℕ) → Spelt value (shown_of value) line → SpeltPlain (what.Return value) line
plain_return value line part = record {
  spelling = Return (λ _. line) part.spelling;
  lawful = part.lawful;
  at = line;
  tree_is = ap (λ v. at_line line (what.Return v)) part.tree_is;
  text = codes "return " ++ text_of value;
  shown_is = shown-Return value;
  lexes = λ rest tokens after.
      let inner : List Token = in_front part.spelling (sign_at sign.Semi line ∷ tokens) in
      word_lexes line (32 ∷ (text_of value ++ (59 ∷ rest))) inner
      (lexes-space line (text_of value ++ (59 ∷ rest)) inner
      (part.lexes (59 ∷ rest) (sign_at sign.Semi line ∷ tokens) (record { parted = refl }) (semi_lexes line rest tokens after)))
      (codes "return") refl (omega arith) (record { parted = refl });
}

arguments_lexes : (line : ℕ) (exprs : List Expr) (texts : List (List ℕ)) (arguments : SpeltArguments exprs texts line) (rest : List ℕ) (tokens : List Token) → Lexes line rest tokens → Lexes line (separated texts ++ (41 ∷ 59 ∷ rest)) (arguments_in_front arguments.spelling (sign_at sign.CloseParen line ∷ sign_at sign.Semi line ∷ tokens))
arguments_lexes line exprs texts arguments rest tokens after =
    arguments.lexes (41 ∷ 59 ∷ rest) (sign_at sign.CloseParen line ∷ sign_at sign.Semi line ∷ tokens) (record { parted = refl })
    (close_lexes line (59 ∷ rest) (sign_at sign.Semi line ∷ tokens) (semi_lexes line rest tokens after))

pub plain_call : (name : List ℕ) (exprs : List Expr) (line : ℕ) → IsNamed name → SpeltArguments exprs (texts_in (map shown_of exprs)) line → SpeltPlain (what.Call name exprs) line
plain_call name exprs line is arguments = record {
  spelling = Call (λ _. line) name arguments.spelling;
  lawful = (is.is_name, arguments.lawful);
  at = line;
  tree_is = ap (λ v. at_line line (what.Call name v)) arguments.trees_are;
  text = applied_text name (map shown_of exprs);
  shown_is = shown-Call name exprs;
  lexes = λ rest tokens after.
      applied_lexes line name (separated (texts_in (map shown_of exprs))) (arguments_in_front arguments.spelling (sign_at sign.CloseParen line ∷ sign_at sign.Semi line ∷ tokens)) tokens (59 ∷ rest) is
      (arguments_lexes line exprs (texts_in (map shown_of exprs)) arguments rest tokens after);
}

-- ---- settings

dotted_lexes : (line : ℕ) (name text rest : List ℕ) (tokens : List Token) → IsNamed name → Lexes line (text ++ rest) tokens → Lexes line ((name ++ codes "." ++ text) ++ rest) (word name line ∷ sign_at sign.Dot line ∷ tokens)
dotted_lexes line name text rest tokens is after =
    let e : name ++ (46 ∷ (text ++ rest)) ≡ (name ++ codes "." ++ text) ++ rest = simp append_assoc in
    subst (λ bytes. Lexes line bytes (word name line ∷ sign_at sign.Dot line ∷ tokens)) e
    (word_lexes line (46 ∷ (text ++ rest)) (sign_at sign.Dot line ∷ tokens) (dot_lexes line (text ++ rest) tokens after) name is.is_word is.short (record { parted = refl }))

pub plain_value : (name setting : List ℕ) (sets : Expr → Setting) (value : Expr) (line : ℕ) → IsNamed name → meant_by value_words setting ≡ Some sets → is_word setting ≡ true → length setting ≤ 255 → Spelt value (shown_of value) line → SpeltPlain (what.Set name (sets value)) line
plain_value name setting sets value line is meant is_setting short part = record {
  spelling = SetValue (λ _. line) name setting sets part.spelling;
  lawful = (is.is_name, meant, part.lawful);
  at = line;
  tree_is = ap (λ v. at_line line (what.Set name (sets v))) part.tree_is;
  text = name ++ codes "." ++ valued_text setting (text_of value);
  shown_is = shown-Set name (sets value) ∙ ap (λ t. simple (name ++ codes "." ++ t)) (value_is setting sets value meant);
  lexes = λ rest tokens after.
      let last : List Token = sign_at sign.CloseParen line ∷ sign_at sign.Semi line ∷ tokens in
      dotted_lexes line name (valued_text setting (text_of value)) (59 ∷ rest) (word setting line ∷ sign_at sign.OpenParen line ∷ in_front part.spelling last) is
      (called_lexes line setting (text_of value) (in_front part.spelling last) (59 ∷ rest) is_setting short
      (part.lexes (41 ∷ 59 ∷ rest) last (record { parted = refl })
      (close_lexes line (59 ∷ rest) (sign_at sign.Semi line ∷ tokens) (semi_lexes line rest tokens after))));
}

pub plain_overlap : (name : List ℕ) (exprs : List Expr) (line : ℕ) → IsNamed name → SpeltArguments exprs (texts_in (map shown_of exprs)) line → SpeltPlain (what.Set name (Overlap exprs)) line
plain_overlap name exprs line is arguments = record {
  spelling = SetOverlap (λ _. line) name arguments.spelling;
  lawful = (is.is_name, arguments.lawful);
  at = line;
  tree_is = ap (λ v. at_line line (what.Set name (Overlap v))) arguments.trees_are;
  text = name ++ codes "." ++ applied_text (codes "setOverlap") (map shown_of exprs);
  shown_is = shown-Set name (Overlap exprs);
  lexes = λ rest tokens after.
      let last : List Token = arguments_in_front arguments.spelling (sign_at sign.CloseParen line ∷ sign_at sign.Semi line ∷ tokens) in
      dotted_lexes line name (applied_text (codes "setOverlap") (map shown_of exprs)) (59 ∷ rest) (word (codes "setOverlap") line ∷ sign_at sign.OpenParen line ∷ last) is
      (called_lexes line (codes "setOverlap") (separated (texts_in (map shown_of exprs))) last (59 ∷ rest) refl (omega arith)
      (arguments_lexes line exprs (texts_in (map shown_of exprs)) arguments rest tokens after));
}

-- a word that may stand anywhere
pub record IsSpelled (name : List ℕ) : Type 0 where
  pub is_word : is_word name ≡ true
  pub short : length name ≤ 255

spelled_lexes : (line : ℕ) (name rest : List ℕ) (tokens : List Token) → IsSpelled name → Ends rest → Lexes line rest tokens → Lexes line (name ++ rest) (word name line ∷ tokens)
spelled_lexes line name rest tokens is ends after = word_lexes line rest tokens after name is.is_word is.short ends

-- `skepu::`
skepu_lexes : (line : ℕ) (rest : List ℕ) (tokens : List Token) → Lexes line rest tokens → Lexes line (codes "skepu::" ++ rest) (word (codes "skepu") line ∷ sign_at sign.Path line ∷ tokens)
skepu_lexes line rest tokens after =
    word_lexes line (58 ∷ 58 ∷ rest) (sign_at sign.Path line ∷ tokens) (path_lexes line rest tokens after) (codes "skepu") refl (omega arith) (record { parted = refl })

pub skepu_word_lexes : (line : ℕ) (name rest : List ℕ) (tokens : List Token) → IsSpelled name → Ends rest → Lexes line rest tokens → Lexes line (codes "skepu::" ++ (name ++ rest)) (word (codes "skepu") line ∷ sign_at sign.Path line ∷ word name line ∷ tokens)
skepu_word_lexes line name rest tokens is ends after = skepu_lexes line (name ++ rest) (word name line ∷ tokens) (spelled_lexes line name rest tokens is ends after)

mode_bytes : (setting family mode rest : List ℕ) → setting ++ (40 ∷ (codes "skepu::" ++ (family ++ (58 ∷ 58 ∷ (mode ++ (41 ∷ rest)))))) ≡ mode_text setting family mode ++ rest
mode_bytes setting family mode rest = simp append_assoc

pub plain_mode : (name setting : List ℕ) (family : Family) (mode : List ℕ) (sets : Setting) (line : ℕ) → IsNamed name → meant_by mode_words setting ≡ Some family → meant_by family.modes mode ≡ Some sets → IsSpelled setting → IsSpelled family.name → IsSpelled mode → SpeltPlain (what.Set name sets) line
plain_mode name setting family mode sets line is of meant is_setting is_family is_mode = record {
  spelling = SetMode (λ _. line) name setting family mode sets;
  lawful = (is.is_name, of, meant);
  at = line;
  tree_is = refl;
  text = name ++ codes "." ++ mode_text setting family.name mode;
  shown_is = shown-Set name sets ∙ ap (λ t. simple (name ++ codes "." ++ t)) (mode_is setting family mode sets of meant);
  lexes = λ rest tokens after.
      let last : List Token = sign_at sign.CloseParen line ∷ sign_at sign.Semi line ∷ tokens in
      let inner : List Token = word (codes "skepu") line ∷ sign_at sign.Path line ∷ word family.name line ∷ sign_at sign.Path line ∷ word mode line ∷ last in
      dotted_lexes line name (mode_text setting family.name mode) (59 ∷ rest) (word setting line ∷ sign_at sign.OpenParen line ∷ inner) is
      (subst (λ bytes. Lexes line bytes (word setting line ∷ sign_at sign.OpenParen line ∷ inner)) (mode_bytes setting family.name mode (59 ∷ rest))
      (spelled_lexes line setting (40 ∷ (codes "skepu::" ++ (family.name ++ (58 ∷ 58 ∷ (mode ++ (41 ∷ 59 ∷ rest)))))) (sign_at sign.OpenParen line ∷ inner) is_setting (record { parted = refl })
      (open_lexes line (codes "skepu::" ++ (family.name ++ (58 ∷ 58 ∷ (mode ++ (41 ∷ 59 ∷ rest))))) inner
      (skepu_word_lexes line family.name (58 ∷ 58 ∷ (mode ++ (41 ∷ 59 ∷ rest))) (sign_at sign.Path line ∷ word mode line ∷ last) is_family (record { parted = refl })
      (path_lexes line (mode ++ (41 ∷ 59 ∷ rest)) (word mode line ∷ last)
      (spelled_lexes line mode (41 ∷ 59 ∷ rest) last is_mode (record { parted = refl })
      (close_lexes line (59 ∷ rest) (sign_at sign.Semi line ∷ tokens) (semi_lexes line rest tokens after))))))));
}

-- ---- containers

less_type : (ty : Ty) (rest : List ℕ) → Stands (codes "<") (kinds.Sign sign.Lt) (type_word ty ++ rest)
less_type Int rest = less_stands 105 (110 ∷ 116 ∷ rest) refl refl
less_type Long rest = less_stands 108 (111 ∷ 110 ∷ 103 ∷ rest) refl refl

-- `skepu::NAME<TYPE>` before a blank
pub view_lexes : (line : ℕ) (kind : List ℕ) (ty : Ty) (rest : List ℕ) (tokens : List Token) → IsSpelled kind → Lexes line rest tokens → Lexes line (view_text kind ty ++ (32 ∷ rest)) (word (codes "skepu") line ∷ sign_at sign.Path line ∷ word kind line ∷ sign_at sign.Lt line ∷ typed ty line ∷ sign_at sign.Gt line ∷ tokens)
view_lexes line kind ty rest tokens is after =
    let typing : List Token = typed ty line ∷ sign_at sign.Gt line ∷ tokens in
    subst (λ bytes. Lexes line bytes (word (codes "skepu") line ∷ sign_at sign.Path line ∷ word kind line ∷ sign_at sign.Lt line ∷ typing)) (view_bytes kind (type_word ty) (32 ∷ rest))
    (skepu_word_lexes line kind (60 ∷ (type_word ty ++ (62 ∷ 32 ∷ rest))) (sign_at sign.Lt line ∷ typing) is (record { parted = refl })
    (lexes-token line (codes "<") (type_word ty ++ (62 ∷ 32 ∷ rest)) (kinds.Sign sign.Lt) typing (less_type ty (62 ∷ 32 ∷ rest))
    (typed_lexes line ty (62 ∷ 32 ∷ rest) (sign_at sign.Gt line ∷ tokens) (record { parted = refl })
    (lexes-token line (codes ">") (32 ∷ rest) (kinds.Sign sign.Gt) tokens (greater_stands 32 rest refl refl) (lexes-space line rest tokens after)))))
  where
    view_bytes : (kind element rest : List ℕ) → codes "skepu::" ++ (kind ++ (60 ∷ (element ++ (62 ∷ rest)))) ≡ (codes "skepu::" ++ kind ++ codes "<" ++ element ++ codes ">") ++ rest
    view_bytes kind element rest = simp append_assoc

make_bytes : (kind element text rest : List ℕ) → (codes "skepu::" ++ kind ++ codes "<" ++ element ++ codes ">") ++ (32 ∷ (text ++ rest)) ≡ ((codes "skepu::" ++ kind ++ codes "<" ++ element ++ codes "> ") ++ text) ++ rest
make_bytes kind element text rest = simp append_assoc

pub plain_make : (kind : List ℕ) (sizes : ℕ) (ty : Ty) (name : List ℕ) (exprs : List Expr) (line : ℕ) → IsNamed name → meant_by container_words kind ≡ Some sizes → IsSpelled kind → SpeltArguments exprs (texts_in (map shown_of exprs)) line → SpeltPlain (what.Make sizes ty name exprs) line
plain_make kind sizes ty name exprs line is meant is_kind arguments = record {
  spelling = Make (λ _. line) kind sizes ty name arguments.spelling;
  lawful = (meant, is.is_name, arguments.lawful);
  at = line;
  tree_is = ap (λ v. at_line line (what.Make sizes ty name v)) arguments.trees_are;
  text = (codes "skepu::" ++ kind ++ codes "<" ++ type_word ty ++ codes "> ") ++ applied_text name (map shown_of exprs);
  shown_is = shown-Make sizes ty name exprs ∙ ap (λ k. simple ((codes "skepu::" ++ k ++ codes "<" ++ type_word ty ++ codes "> ") ++ applied_text name (map shown_of exprs))) (container_is kind sizes meant);
  lexes = λ rest tokens after.
      let inner : List Token = arguments_in_front arguments.spelling (sign_at sign.CloseParen line ∷ sign_at sign.Semi line ∷ tokens) in
      let called : List Token = word name line ∷ sign_at sign.OpenParen line ∷ inner in
      subst (λ bytes. Lexes line bytes (word (codes "skepu") line ∷ sign_at sign.Path line ∷ word kind line ∷ sign_at sign.Lt line ∷ typed ty line ∷ sign_at sign.Gt line ∷ called)) (make_bytes kind (type_word ty) (applied_text name (map shown_of exprs)) (59 ∷ rest))
      (view_lexes line kind ty (applied_text name (map shown_of exprs) ++ (59 ∷ rest)) called is_kind
      (applied_lexes line name (separated (texts_in (map shown_of exprs))) inner tokens (59 ∷ rest) is
      (arguments_lexes line exprs (texts_in (map shown_of exprs)) arguments rest tokens after)));
}

take_bytes : (kind element name input rest : List ℕ) → (codes "skepu::" ++ kind ++ codes "<" ++ element ++ codes ">") ++ (32 ∷ (name ++ (codes " = skepu_input(" ++ (input ++ (41 ∷ rest))))) ≡ ((codes "skepu::" ++ kind ++ codes "<" ++ element ++ codes "> ") ++ name ++ codes " = skepu_input(" ++ input ++ codes ")") ++ rest
take_bytes kind element name input rest = simp append_assoc

pub plain_take : (kind : List ℕ) (sizes : ℕ) (ty : Ty) (name input : List ℕ) (line : ℕ) → IsNamed name → meant_by container_words kind ≡ Some sizes → IsSpelled kind → list_all is_text_byte input ≡ true → length input ≤ 255 → SpeltPlain (what.Take sizes ty name input) line
plain_take kind sizes ty name input line is meant is_kind spellable short = record {
  spelling = Take (λ _. line) kind sizes ty name input;
  lawful = (meant, is.is_name);
  at = line;
  tree_is = refl;
  text = (codes "skepu::" ++ kind ++ codes "<" ++ type_word ty ++ codes "> ") ++ name ++ codes " = skepu_input(" ++ quoted input ++ codes ")";
  shown_is = shown-Take sizes ty name input ∙ ap (λ k. simple ((codes "skepu::" ++ k ++ codes "<" ++ type_word ty ++ codes "> ") ++ name ++ codes " = skepu_input(" ++ quoted input ++ codes ")")) (container_is kind sizes meant);
  lexes = λ rest tokens after.
      let last : List Token = sign_at sign.CloseParen line ∷ sign_at sign.Semi line ∷ tokens in
      let inner : List Token = word (codes "skepu_input") line ∷ sign_at sign.OpenParen line ∷ string input line ∷ last in
      let body : List ℕ = quoted input ++ (41 ∷ 59 ∷ rest) in
      subst (λ bytes. Lexes line bytes (word (codes "skepu") line ∷ sign_at sign.Path line ∷ word kind line ∷ sign_at sign.Lt line ∷ typed ty line ∷ sign_at sign.Gt line ∷ word name line ∷ sign_at sign.Eq line ∷ inner)) (take_bytes kind (type_word ty) name (quoted input) (59 ∷ rest))
      (view_lexes line kind ty (name ++ (codes " = skepu_input(" ++ body)) (word name line ∷ sign_at sign.Eq line ∷ inner) is_kind
      (word_lexes line (codes " = skepu_input(" ++ body) (sign_at sign.Eq line ∷ inner)
      (equals_lexes line (codes "skepu_input(" ++ body) inner
      (word_lexes line (40 ∷ body) (sign_at sign.OpenParen line ∷ string input line ∷ last)
      (open_lexes line body (string input line ∷ last)
      (lexes-token line (quoted input) (41 ∷ 59 ∷ rest) (kinds.Text input) last (text_stands input (41 ∷ 59 ∷ rest) spellable short)
      (close_lexes line (59 ∷ rest) (sign_at sign.Semi line ∷ tokens) (semi_lexes line rest tokens after))))
      (codes "skepu_input") refl (omega arith) (record { parted = refl })))
      name is.is_word is.short (record { parted = refl })));
}
