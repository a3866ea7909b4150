-- What instances and prints are printed as reads as them again.
use Rattle.std.proofs.Common.{◌≡◌, ℕ, suc, ◌^◌, ◌<◌, true, false, List, [], ◌∷◌, ◌++◌, length, slice_index, map, ℤ, pos, refl, ap, subst, sym, ◌∙◌, arith, append_assoc}
use Rattle.std.specs.Prelude.{Some, codes, ◌==◌}
use Rattle.std.specs.Fmt.{signed_decimal, decimal}
use Rattle.std.specs.List.{flat_map}
use Rattle.std.proofs.lemmas.Bool.Decides.{nat_tests}
use Rattle.sk_base.specs.declared.number.Ty.{Ty}
use Rattle.sk_grammar.specs.ExpressionSpelling.{word, sign_at, with_commas, in_sequence, each, IsName, tree_in}
use Rattle.sk_names.specs.Bytes.{is_digit}
use Rattle.sk_grammar.specs.Signs.{sum_level, meant_by, skeleton_words}
use Rattle.sk_grammar.specs.StatementSpelling.{Printed, PrintedText, PrintedEnd, PrintedValue, printed_in_front, shifted_in_front, printed_tree, IsLawfulPrinted, a_number, a_name, Numbers, NoNumbers, Between, numbers_in_front, numbers_tree, AreLawfulNumbers, Instantiate, Print, at_line}
use Rattle.sk_tokens.specs.declared.token.Sign.TheVariants as sign
use Rattle.sk_tokens.specs.declared.token.Token.{Token}
use Rattle.sk_tokens.specs.declared.token.TokenKind.TheVariants as kinds
use Rattle.sk_tree.specs.declared.tree.Item.TheVariants as item
use Rattle.sk_tree.specs.declared.tree.Item.{Item}
use Rattle.sk_tree.specs.declared.tree.Skeleton.{Skeleton}
use Rattle.sk_tree.specs.declared.tree.What.TheVariants as what
use Rattle.sk_words.specs.Strung.{separated}
use Rattle.sk_words.specs.Escapes.{quoted}
use Rattle.sk_printed.specs.ExpressionText.{shown_of}
use Rattle.sk_printed.specs.StatementText.{simple, item_text, numbers_text}
use Rattle.sk_printed_laws.proofs.ExpressionSpelt.{IsNamed, named, placed_spelt}
use Rattle.sk_printed_laws.proofs.ExpressionsCome.{expression_comes}
use Rattle.sk_printed_laws.proofs.Lexes.{Lexes, Ends, lexes-space, lexes-token}
use Rattle.sk_printed_laws.proofs.CommaLists.{SpeltWithCommas, commas_none, commas_more}
use Rattle.sk_printed_laws.proofs.Punctuation.{open_lexes, close_lexes, semi_lexes, path_lexes, equals_lexes, spaced_lexes, word_lexes, less_before}
use Rattle.sk_printed_laws.proofs.Keywords.{skeleton_is}
use Rattle.sk_printed_laws.proofs.PlainSpelt.{SpeltPlain, IsSpelled, skepu_word_lexes}
use Rattle.sk_printed_laws.proofs.SignTokens.{greater_stands, shl_stands}
use Rattle.sk_printed_laws.proofs.Spellable.{AreSpellable}
use Rattle.sk_printed_laws.proofs.StatementForms.{shown-Instance, shown-Print}
use Rattle.sk_printed_laws.proofs.TextTokens.{text_stands}
use Rattle.sk_printed_laws.proofs.WordTokens.{IsNumber, plain_type, decimal_stands, decimal_opens}

-- ---- the functions of an instance

abbrev name_lawful : (ℕ × List ℕ) → Type 0
name_lawful written = IsName written.1

abbrev name_meant : (ℕ × List ℕ) → List ℕ
name_meant written = written.1

abbrev pub ListedNames : (line : ℕ) → List (List ℕ) → Type 0
ListedNames line names = SpeltWithCommas a_name name_lawful name_meant line names names

pub record NamesCome (names : List (List ℕ)) (rest : List Token) : Type 0 where
  pub listed : (line : ℕ) → ListedNames line names
  pub further : AreSpellable rest

name_more : (line : ℕ) (name : List ℕ) (names : List (List ℕ)) → IsNamed name → ListedNames line names → ListedNames line (name ∷ names)
name_more line name names is listed =
    commas_more a_name name_lawful name_meant line (line, name) name name names names is.is_name refl
    (λ rest tokens ends after. word_lexes line rest tokens after name is.is_word is.short ends) listed

pub names_come : (functions : List ((ℕ × List ℕ) × ℕ)) (rest : List Token) → each (λ written. IsName written.0.1) functions → AreSpellable (with_commas a_name functions rest) → NamesCome (map (λ written. written.0.1) functions) rest
names_come [] rest lawful words = record { listed = λ line. commas_none a_name name_lawful name_meant line; further = words }
names_come (function ∷ []) rest lawful words = record {
  listed = λ line. name_more line function.0.1 [] (named function.0.1 lawful.0 words.0) (commas_none a_name name_lawful name_meant line);
  further = words.1;
}
names_come (function ∷ next ∷ functions) rest lawful words =
    let others = names_come (next ∷ functions) rest lawful.1 words.1.1 in
    record {
      listed = λ line. name_more line function.0.1 (map (λ written. written.0.1) (next ∷ functions)) (named function.0.1 lawful.0 words.0) (others.listed line);
      further = others.further;
    }

-- ---- the numbers of an instance

abbrev number_lawful : (ℕ × Ty × ℤ) → Type 0
number_lawful written = Unit {0}

abbrev number_meant : (ℕ × Ty × ℤ) → ℤ
number_meant written = written.2

abbrev ListedNumbers : (line : ℕ) → List ℤ → Type 0
ListedNumbers line numbers = SpeltWithCommas a_number number_lawful number_meant line numbers (map signed_decimal numbers)

-- numbers, of which the first begins with a digit
record NumbersCome (numbers : List ℤ) (rest : List Token) : Type 0 where
  pub listed : (line : ℕ) → ListedNumbers line numbers
  pub first : (after : List ℕ) → 0 < length numbers → (0 < length (separated (map signed_decimal numbers) ++ after)) × (is_digit (slice_index (separated (map signed_decimal numbers) ++ after) 0) ≡ true)
  pub further : AreSpellable rest

digits_more : (line n : ℕ) (numbers : List ℤ) → n < 2 ^ 63 → ListedNumbers line numbers → ListedNumbers line (pos n ∷ numbers)
digits_more line n numbers fits listed =
    commas_more a_number number_lawful number_meant line (line, plain_type n, pos n) (pos n) (decimal n) numbers (map signed_decimal numbers) tt refl
    (λ rest tokens ends after. lexes-token line (decimal n) rest (kinds.Number (plain_type n) (pos n)) tokens (decimal_stands n rest fits ends) after) listed

number_more : (line : ℕ) (ty : Ty) (value : ℤ) (numbers : List ℤ) → IsNumber ty value → ListedNumbers line numbers → ListedNumbers line (value ∷ numbers)
number_more line ty value numbers is listed = subst (λ v. ListedNumbers line (v ∷ numbers)) (sym is.is) (digits_more line is.digits numbers is.fits listed)

front_of : (text more after : List ℕ) → 0 < length text → (0 < length ((text ++ more) ++ after)) × (slice_index ((text ++ more) ++ after) 0 ≡ slice_index text 0)
front_of [] more after some = absurd (omega arith)
front_of (c ∷ text) more after some = (omega arith, refl)

digits_first : (n : ℕ) (more after : List ℕ) → n < 2 ^ 63 → (0 < length ((decimal n ++ more) ++ after)) × (is_digit (slice_index ((decimal n ++ more) ++ after) 0) ≡ true)
digits_first n more after fits =
    let opens = decimal_opens n fits in
    let front = front_of (decimal n) more after opens.0 in
    (front.0, ap is_digit front.1 ∙ opens.1)

number_first : (ty : Ty) (value : ℤ) (more after : List ℕ) → IsNumber ty value → (0 < length ((signed_decimal value ++ more) ++ after)) × (is_digit (slice_index ((signed_decimal value ++ more) ++ after) 0) ≡ true)
number_first ty value more after is =
    subst (λ v. (0 < length ((signed_decimal v ++ more) ++ after)) × (is_digit (slice_index ((signed_decimal v ++ more) ++ after) 0) ≡ true)) (sym is.is) (digits_first is.digits more after is.fits)

numbers_come : (numbers : List ((ℕ × Ty × ℤ) × ℕ)) (rest : List Token) → AreSpellable (with_commas a_number numbers rest) → NumbersCome (map (λ written. written.0.2) numbers) rest
numbers_come [] rest words = record {
  listed = λ line. commas_none a_number number_lawful number_meant line;
  first = λ after some. absurd (omega arith);
  further = words;
}
numbers_come (value ∷ []) rest words = record {
  listed = λ line. number_more line value.0.1 value.0.2 [] words.0 (commas_none a_number number_lawful number_meant line);
  first = λ after some. number_first value.0.1 value.0.2 [] after words.0;
  further = words.1;
}
numbers_come (value ∷ next ∷ numbers) rest words =
    let others = numbers_come (next ∷ numbers) rest words.1.1 in
    record {
      listed = λ line. number_more line value.0.1 value.0.2 (map (λ written. written.0.2) (next ∷ numbers)) words.0 (others.listed line);
      first = λ after some. number_first value.0.1 value.0.2 _ after words.0;
      further = others.further;
    }

pub record SpeltNumbers (numbers : List ℤ) (line : ℕ) : Type 0 where
  pub spelling : Numbers
  pub lawful : AreLawfulNumbers spelling
  pub tree_is : numbers_tree spelling ≡ numbers
  pub ends : (rest : List ℕ) → Ends (numbers_text numbers ++ (40 ∷ rest))
  pub lexes : (rest : List ℕ) (tokens : List Token) → Lexes line (40 ∷ rest) tokens → Lexes line (numbers_text numbers ++ (40 ∷ rest)) (numbers_in_front spelling tokens)

pub record AllNumbersCome (numbers : List ℤ) (rest : List Token) : Type 0 where
  pub spelt : (line : ℕ) → SpeltNumbers numbers line
  pub further : AreSpellable rest

digit-less : (byte : ℕ) → is_digit byte ≡ true → (60 == byte) ≡ false
digit-less byte digit = grind (arith, nat_tests)

digit-equals : (byte : ℕ) → is_digit byte ≡ true → (61 == byte) ≡ false
digit-equals byte digit = grind (arith, nat_tests)

between_spelt : (numbers : List ℤ) (line : ℕ) → 0 < length numbers → ListedNumbers line numbers → ((after : List ℕ) → 0 < length numbers → (0 < length (separated (map signed_decimal numbers) ++ after)) × (is_digit (slice_index (separated (map signed_decimal numbers) ++ after) 0) ≡ true)) → SpeltNumbers numbers line
between_spelt [] line some listed first = absurd (omega arith)
between_spelt (value ∷ numbers) line some listed first = record {
  spelling = Between (λ _. line) listed.parts;
  lawful = let many = listed.as_many in omega arith;
  tree_is = listed.means;
  ends = λ rest. record { parted = refl };
  lexes = λ rest tokens after.
      let text : List ℕ = separated (map signed_decimal (value ∷ numbers)) in
      let behind = first (62 ∷ 40 ∷ rest) (omega arith) in
      let c : ℕ = slice_index (text ++ (62 ∷ 40 ∷ rest)) 0 in
      let inner : List Token = with_commas a_number listed.parts (sign_at sign.Gt line ∷ tokens) in
      let e : 60 ∷ (text ++ (62 ∷ 40 ∷ rest)) ≡ (codes "<" ++ text ++ codes ">") ++ (40 ∷ rest) = numbers_bytes text (40 ∷ rest) in
      subst (λ bytes. Lexes line bytes (sign_at sign.Lt line ∷ inner)) e
      (lexes-token line (codes "<") (text ++ (62 ∷ 40 ∷ rest)) (kinds.Sign sign.Lt) inner
      (less_before (text ++ (62 ∷ 40 ∷ rest)) behind.0 (digit-less c behind.1) (digit-equals c behind.1))
      (listed.lexes (62 ∷ 40 ∷ rest) (sign_at sign.Gt line ∷ tokens) (record { parted = refl })
      (lexes-token line (codes ">") (40 ∷ rest) (kinds.Sign sign.Gt) tokens (greater_stands 40 rest refl refl) after)));
}
  where
    numbers_bytes : (text rest : List ℕ) → 60 ∷ (text ++ (62 ∷ rest)) ≡ (codes "<" ++ text ++ codes ">") ++ rest
    numbers_bytes text rest = simp append_assoc

pub all_numbers_come : (numbers : Numbers) (rest : List Token) → AreLawfulNumbers numbers → AreSpellable (numbers_in_front numbers rest) → AllNumbersCome (numbers_tree numbers) rest
all_numbers_come NoNumbers rest lawful words = record {
  spelt = λ line. record { spelling = NoNumbers; lawful = tt; tree_is = refl; ends = λ rest. record { parted = refl }; lexes = λ rest tokens after. after };
  further = words;
}
all_numbers_come (Between at numbers) rest lawful words =
    let inner = numbers_come numbers (sign_at sign.Gt (at 1) ∷ rest) words.1 in
    record {
      spelt = λ line. between_spelt (map (λ written. written.0.2) numbers) line (some_kept numbers lawful) (inner.listed line) inner.first;
      further = inner.further.1;
    }
  where
    some_kept : (numbers : List ((ℕ × Ty × ℤ) × ℕ)) → 0 < length numbers → 0 < length (map (λ written. written.0.2) numbers)
    some_kept [] some = absurd (omega arith)
    some_kept (value ∷ numbers) some = omega arith

-- ---- instances

instance_bytes : (name kind numbers functions rest : List ℕ) → codes "auto" ++ (32 ∷ (name ++ (codes " = " ++ (codes "skepu::" ++ (kind ++ (numbers ++ (40 ∷ (functions ++ (41 ∷ rest))))))))) ≡ (codes "auto " ++ name ++ codes " = skepu::" ++ kind ++ numbers ++ codes "(" ++ functions ++ codes ")") ++ rest
instance_bytes name kind numbers functions rest = simp append_assoc

pub plain_instance : (name kind : List ℕ) (skeleton : Skeleton) (numbers : List ℤ) (functions : List (List ℕ)) (line : ℕ) → IsNamed name → meant_by skeleton_words kind ≡ Some skeleton → IsSpelled kind → SpeltNumbers numbers line → 0 < length functions → ListedNames line functions → SpeltPlain (what.Instance (record { name = name; skeleton = skeleton; numbers = numbers; functions = functions })) line
plain_instance name kind skeleton numbers functions line is meant is_kind given some listed = record {
  spelling = Instantiate (λ _. line) name kind skeleton given.spelling listed.parts;
  lawful = (is.is_name, meant, given.lawful, (let many = listed.as_many in omega arith), listed.lawful);
  at = line;
  tree_is =
      ap (λ x. at_line line (what.Instance (record { name = name; skeleton = skeleton; numbers = x; functions = map (λ written. written.0.1) listed.parts }))) given.tree_is
      ∙ ap (λ x. at_line line (what.Instance (record { name = name; skeleton = skeleton; numbers = numbers; functions = x }))) listed.means;
  text = codes "auto " ++ name ++ codes " = skepu::" ++ kind ++ numbers_text numbers ++ codes "(" ++ separated functions ++ codes ")";
  shown_is = shown-Instance (record { name = name; skeleton = skeleton; numbers = numbers; functions = functions })
      ∙ ap (λ k. simple (codes "auto " ++ name ++ codes " = skepu::" ++ k ++ numbers_text numbers ++ codes "(" ++ separated functions ++ codes ")")) (skeleton_is kind skeleton meant);
  lexes = λ rest tokens after.
      let last : List Token = sign_at sign.CloseParen line ∷ sign_at sign.Semi line ∷ tokens in
      let called : List Token = sign_at sign.OpenParen line ∷ with_commas a_name listed.parts last in
      let counted : List Token = numbers_in_front given.spelling called in
      let tail : List ℕ = separated functions ++ (41 ∷ 59 ∷ rest) in
      let body : List ℕ = numbers_text numbers ++ (40 ∷ tail) in
      subst (λ bytes. Lexes line bytes (word (codes "auto") line ∷ word name line ∷ sign_at sign.Eq line ∷ word (codes "skepu") line ∷ sign_at sign.Path line ∷ word kind line ∷ counted)) (instance_bytes name kind (numbers_text numbers) (separated functions) (59 ∷ rest))
      (word_lexes line (32 ∷ (name ++ (codes " = " ++ (codes "skepu::" ++ (kind ++ body))))) (word name line ∷ sign_at sign.Eq line ∷ word (codes "skepu") line ∷ sign_at sign.Path line ∷ word kind line ∷ counted)
      (lexes-space line (name ++ (codes " = " ++ (codes "skepu::" ++ (kind ++ body)))) (word name line ∷ sign_at sign.Eq line ∷ word (codes "skepu") line ∷ sign_at sign.Path line ∷ word kind line ∷ counted)
      (word_lexes line (codes " = " ++ (codes "skepu::" ++ (kind ++ body))) (sign_at sign.Eq line ∷ word (codes "skepu") line ∷ sign_at sign.Path line ∷ word kind line ∷ counted)
      (equals_lexes line (codes "skepu::" ++ (kind ++ body)) (word (codes "skepu") line ∷ sign_at sign.Path line ∷ word kind line ∷ counted)
      (skepu_word_lexes line kind body counted is_kind (given.ends tail)
      (given.lexes tail called
      (open_lexes line tail (with_commas a_name listed.parts last)
      (listed.lexes (41 ∷ 59 ∷ rest) last (record { parted = refl })
      (close_lexes line (59 ∷ rest) (sign_at sign.Semi line ∷ tokens) (semi_lexes line rest tokens after)))))))
      name is.is_word is.short (record { parted = refl })))
      (codes "auto") refl (omega arith) (record { parted = refl }));
}

-- ---- prints

-- on this line the text has the tokens of an item
record SpeltItem (it : Item) (line : ℕ) : Type 0 where
  pub spelling : Printed
  pub lawful : IsLawfulPrinted spelling
  pub tree_is : printed_tree spelling ≡ it
  pub lexes : (rest : List ℕ) (tokens : List Token) → Ends rest → Lexes line rest tokens → Lexes line (item_text it ++ rest) (printed_in_front spelling tokens)

record ItemComes (it : Item) (rest : List Token) : Type 0 where
  pub spelt : (line : ℕ) → SpeltItem it line
  pub further : AreSpellable rest

item_comes : (printed : Printed) (rest : List Token) → IsLawfulPrinted printed → AreSpellable (printed_in_front printed rest) → ItemComes (printed_tree printed) rest
item_comes (PrintedText at text) rest lawful words = record {
  spelt = λ line. record {
    spelling = PrintedText line text;
    lawful = tt;
    tree_is = refl;
    lexes = λ rest tokens ends after. lexes-token line (quoted text) rest (kinds.Text text) tokens (text_stands text rest words.0.0 words.0.1) after;
  };
  further = words.1;
}
item_comes (PrintedEnd at) rest lawful words = record {
  spelt = λ line. record {
    spelling = PrintedEnd (λ _. line);
    lawful = tt;
    tree_is = refl;
    lexes = λ rest tokens ends after.
        word_lexes line (codes "::" ++ (codes "endl" ++ rest)) (sign_at sign.Path line ∷ word (codes "endl") line ∷ tokens)
        (path_lexes line (codes "endl" ++ rest) (word (codes "endl") line ∷ tokens)
        (word_lexes line rest tokens after (codes "endl") refl (omega arith) ends))
        (codes "std") refl (omega arith) (record { parted = refl });
  };
  further = words.1.1.1;
}
item_comes (PrintedValue value) rest lawful words =
    let inner = expression_comes value rest lawful.1 words in
    record {
      spelt = λ line.
          let part = placed_spelt sum_level (tree_in value) (shown_of (tree_in value)) line (omega arith) (inner.spelt line) in
          record {
            spelling = PrintedValue part.spelling;
            lawful = (part.level_is, part.lawful);
            tree_is = ap item.Value part.tree_is;
            lexes = part.lexes;
          };
      further = inner.further;
    }

abbrev pub items_text : List Item → List ℕ
items_text items = flat_map (λ it. codes " << " ++ item_text it) items

pub record SpeltItems (items : List Item) (line : ℕ) : Type 0 where
  pub parts : List (ℕ × Printed)
  pub lawful : each (λ printed. IsLawfulPrinted printed.1) parts
  pub means : map (λ printed. printed_tree printed.1) parts ≡ items
  pub as_many : length parts ≡ length items
  pub ends : (rest : List ℕ) → Ends (items_text items ++ (59 ∷ rest))
  pub lexes : (rest : List ℕ) (tokens : List Token) → Lexes line (59 ∷ rest) tokens → Lexes line (items_text items ++ (59 ∷ rest)) (in_sequence shifted_in_front parts tokens)

pub record ItemsCome (items : List Item) (rest : List Token) : Type 0 where
  pub spelt : (line : ℕ) → SpeltItems items line
  pub further : AreSpellable rest

item_bytes : (first more rest : List ℕ) → 32 ∷ (codes "<<" ++ (32 ∷ (first ++ (more ++ rest)))) ≡ ((codes " << " ++ first) ++ more) ++ rest
item_bytes first more rest = simp append_assoc

item_more : (first : Item) (items : List Item) (line : ℕ) → SpeltItem first line → SpeltItems items line → SpeltItems (first ∷ items) line
item_more first items line it others = record {
  parts = (line, it.spelling) ∷ others.parts;
  lawful = (it.lawful, others.lawful);
  means = ap (λ x. x ∷ map (λ printed. printed_tree printed.1) others.parts) it.tree_is ∙ ap (λ xs. first ∷ xs) others.means;
  as_many = ap suc others.as_many;
  ends = λ rest. record { parted = refl };
  lexes = λ rest tokens after.
      let further : List Token = in_sequence shifted_in_front others.parts tokens in
      subst (λ bytes. Lexes line bytes (sign_at sign.Shl line ∷ printed_in_front it.spelling further)) (item_bytes (item_text first) (items_text items) (59 ∷ rest))
      (spaced_lexes line (item_text first ++ (items_text items ++ (59 ∷ rest))) (printed_in_front it.spelling further)
      (it.lexes (items_text items ++ (59 ∷ rest)) further (others.ends rest) (others.lexes rest tokens after))
      (codes "<<") sign.Shl shl_stands);
}

pub items_come : (items : List (ℕ × Printed)) (rest : List Token) → each (λ printed. IsLawfulPrinted printed.1) items → AreSpellable (in_sequence shifted_in_front items rest) → ItemsCome (map (λ printed. printed_tree printed.1) items) rest
items_come [] rest lawful words = record {
  spelt = λ line. record { parts = []; lawful = tt; means = refl; as_many = refl; ends = λ rest. record { parted = refl }; lexes = λ rest tokens after. after };
  further = words;
}
items_come (first ∷ items) rest lawful words =
    let it = item_comes first.1 (in_sequence shifted_in_front items rest) lawful.0 words.1 in
    let others = items_come items rest lawful.1 it.further in
    record {
      spelt = λ line. item_more (printed_tree first.1) (map (λ printed. printed_tree printed.1) items) line (it.spelt line) (others.spelt line);
      further = others.further;
    }

pub plain_print : (items : List Item) (line : ℕ) → 0 < length items → SpeltItems items line → SpeltPlain (what.Print items) line
plain_print items line some spelt = record {
  spelling = Print (λ _. line) spelt.parts;
  lawful = ((let many = spelt.as_many in omega arith), spelt.lawful);
  at = line;
  tree_is = ap (λ x. at_line line (what.Print x)) spelt.means;
  text = codes "std::cout" ++ items_text items;
  shown_is = shown-Print items;
  lexes = λ rest tokens after.
      let inner : List Token = in_sequence shifted_in_front spelt.parts (sign_at sign.Semi line ∷ tokens) in
      let body : List ℕ = items_text items ++ (59 ∷ rest) in
      word_lexes line (codes "::" ++ (codes "cout" ++ body)) (sign_at sign.Path line ∷ word (codes "cout") line ∷ inner)
      (path_lexes line (codes "cout" ++ body) (word (codes "cout") line ∷ inner)
      (word_lexes line body inner (spelt.lexes rest (sign_at sign.Semi line ∷ tokens) (semi_lexes line rest tokens after)) (codes "cout") refl (omega arith) (spelt.ends rest)))
      (codes "std") refl (omega arith) (record { parted = refl });
}
