-- What operators, prefixes and conversions are printed as reads as them again.
use Rattle.std.proofs.Common.{◌≡◌, ℕ, ◌+◌, ◌<◌, ◌≤◌, inl, inr, Bool, true, false, ◌&&◌, List, [], ◌∷◌, ◌++◌, length, slice_index, refl, ap, subst, sym, ◌∙◌, arith, append_assoc}
use Rattle.std.specs.Prelude.{Some, ◌==◌, nat_le, if◌then◌else◌, codes}
use Rattle.std.proofs.lemmas.Bool.{cases_Bool}
use Rattle.std.proofs.lemmas.Bool.Decides.{nat_tests}
use Rattle.sk_base.specs.declared.number.Op.{Op}
use Rattle.sk_base.specs.declared.number.Op.TheVariants as op
use Rattle.sk_base.specs.declared.number.Ty.{Ty}
use Rattle.sk_base.specs.declared.number.Ty.TheVariants.{Int, Long}
use Rattle.sk_grammar.specs.ExpressionSpelling.{sign_at, typed, Prefix, Convert, Join, Choose, in_front, joined, tree_in}
use Rattle.sk_names.specs.Words.{is_word}
use Rattle.sk_grammar.specs.declared.infix.Infix.{Infix}
use Rattle.sk_grammar.specs.Signs.{infix_of, infix_level, operator_level, prefix_level, prefix_of, type_word}
use Rattle.sk_tokens.specs.declared.token.Sign.TheVariants as sign
use Rattle.sk_tokens.specs.declared.token.Sign.{Sign}
use Rattle.sk_tokens.specs.declared.token.Token.{Token}
use Rattle.sk_tokens.specs.declared.token.TokenKind.TheVariants as kinds
use Rattle.sk_tree.specs.declared.tree.Expr.TheVariants as tree
use Rattle.sk_tree.specs.declared.tree.Expr.{Expr}
use Rattle.sk_tree.specs.declared.tree.Un.{Un}
use Rattle.sk_tree.specs.declared.tree.Un.TheVariants.{Neg, Inv, Not}
use Rattle.sk_printed.specs.WordText.{prefix_text}
use Rattle.sk_printed.specs.ExpressionText.{Shown, at_level, placed, is_neg, gap, joined_text}
use Rattle.sk_printed_laws.proofs.Lexes.{Lexes, Stands, Ends, lexes-token, lexes-space}
use Rattle.sk_printed_laws.proofs.Punctuation.{open_lexes, close_lexes, spaced_lexes, word_lexes, minus_before, not_before}
use Rattle.sk_printed_laws.proofs.SignTokens.{question_stands, colon_stands, tilde_stands, minus_stands}
use Rattle.sk_printed_laws.proofs.ExpressionSpelt.{Opens, Spelt, placed_spelt}

-- ---- operators

pub join_spelt : (level : ℕ) (s : Sign) (joint : Infix) (bytes : List ℕ) (left right : Expr) (l r : Shown) (line : ℕ) → infix_of s ≡ Some joint → infix_level joint ≡ level → level ≤ 10 → ((after : List ℕ) → Stands bytes (kinds.Sign s) (32 ∷ after)) → Spelt left l line → Spelt right r line → Spelt (joined joint left right) (at_level level (joined_text level bytes l r)) line
join_spelt level s joint bytes left right l r line spells same most stands one other =
    let first = placed_spelt level left l line (omega arith) one in
    let second = placed_spelt (level + 1) right r line (omega arith) other in
    let first_level = first.level_is in
    let second_level = second.level_is in
    record {
      spelling = Join line s joint first.spelling second.spelling;
      lawful = (spells, omega arith, omega arith, first.lawful, second.lawful);
      tree_is = ap (λ t. joined joint t (tree_in second.spelling)) first.tree_is ∙ ap (joined joint left) second.tree_is;
      level_is = same;
      lexes = λ rest tokens ends after.
          let e : placed level l ++ (32 ∷ (bytes ++ (32 ∷ (placed (level + 1) r ++ rest)))) ≡ joined_text level bytes l r ++ rest = simp append_assoc in
          subst (λ text. Lexes line text (in_front first.spelling (sign_at s line ∷ in_front second.spelling tokens))) e
          (first.lexes (32 ∷ (bytes ++ (32 ∷ (placed (level + 1) r ++ rest)))) (sign_at s line ∷ in_front second.spelling tokens) (record { parted = refl })
          (spaced_lexes line (placed (level + 1) r ++ rest) (in_front second.spelling tokens) (second.lexes rest tokens ends after) bytes s stands));
      opens = λ high. absurd (omega arith);
    }

pub operator_level-most : (o : Op) → operator_level o ≤ 10
operator_level-most op.Or = omega arith
operator_level-most op.Xor = omega arith
operator_level-most op.And = omega arith
operator_level-most op.Eq = omega arith
operator_level-most op.Ne = omega arith
operator_level-most op.Lt = omega arith
operator_level-most op.Le = omega arith
operator_level-most op.Gt = omega arith
operator_level-most op.Ge = omega arith
operator_level-most op.Shl = omega arith
operator_level-most op.Shr = omega arith
operator_level-most op.Add = omega arith
operator_level-most op.Sub = omega arith
operator_level-most op.Mul = omega arith
operator_level-most op.Div = omega arith
operator_level-most op.Rem = omega arith

pub choose_spelt : (test one other : Expr) (t a b : Shown) (line : ℕ) → Spelt test t line → Spelt one a line → Spelt other b line → Spelt (tree.Choose test one other) (at_level 0 (placed 1 t ++ codes " ? " ++ a.text ++ codes " : " ++ b.text)) line
choose_spelt test one other t a b line tests first second =
    let asked = placed_spelt 1 test t line (omega arith) tests in
    record {
      spelling = Choose (λ _. line) asked.spelling first.spelling second.spelling;
      lawful = (asked.level_is, asked.lawful, first.lawful, second.lawful);
      tree_is = ap (λ x. tree.Choose x (tree_in first.spelling) (tree_in second.spelling)) asked.tree_is
          ∙ ap (λ x. tree.Choose test x (tree_in second.spelling)) first.tree_is ∙ ap (tree.Choose test one) second.tree_is;
      level_is = refl;
      lexes = λ rest tokens ends after.
          let e : placed 1 t ++ (32 ∷ 63 ∷ 32 ∷ (a.text ++ (32 ∷ 58 ∷ 32 ∷ (b.text ++ rest)))) ≡ (placed 1 t ++ codes " ? " ++ a.text ++ codes " : " ++ b.text) ++ rest = simp append_assoc in
          let last : List Token = in_front second.spelling tokens in
          let middle : List Token = in_front first.spelling (sign_at sign.Colon line ∷ last) in
          subst (λ text. Lexes line text (in_front asked.spelling (sign_at sign.Question line ∷ middle))) e
          (asked.lexes (32 ∷ 63 ∷ 32 ∷ (a.text ++ (32 ∷ 58 ∷ 32 ∷ (b.text ++ rest)))) (sign_at sign.Question line ∷ middle) (record { parted = refl })
          (spaced_lexes line (a.text ++ (32 ∷ 58 ∷ 32 ∷ (b.text ++ rest))) middle
          (first.lexes (32 ∷ 58 ∷ 32 ∷ (b.text ++ rest)) (sign_at sign.Colon line ∷ last) (record { parted = refl })
          (spaced_lexes line (b.text ++ rest) last (second.lexes rest tokens ends after) (codes ":") sign.Colon colon_stands))
          (codes "?") sign.Question (λ after. question_stands (32 ∷ after))));
      opens = λ high. absurd (omega arith);
    }

-- ---- prefixes and conversions

-- what stands behind a prefix, with its first byte
pub placed_opens : (shown : Shown) → (prefix_level ≤ shown.level → Opens shown.is_minus shown.text) → Opens shown.is_minus (placed prefix_level shown)
placed_opens shown opens =
    elim (cases_Bool (nat_le prefix_level shown.level)) [
      | inl fits ↦
          let text : placed prefix_level shown ≡ shown.text = rw fits refl in
          let enough : prefix_level ≤ shown.level = grind (arith, nat_tests) in
          subst (λ bytes. Opens shown.is_minus bytes) (sym text) (opens enough)
      | inr loose ↦
          let text : placed prefix_level shown ≡ codes "(" ++ shown.text ++ codes ")" = rw loose refl in
          subst (λ bytes. Opens shown.is_minus bytes) (sym text) (record { some = omega arith; no_equals = refl; no_minus = λ e. refl })
    ]

pub front-kept : (text rest : List ℕ) → 0 < length text → (0 < length (text ++ rest)) × (slice_index (text ++ rest) 0 ≡ slice_index text 0)
front-kept [] rest some = absurd (omega arith)
front-kept (c ∷ text) rest some = (omega arith, refl)

abbrev pub prefix_sign : Un → Sign
prefix_sign Neg = sign.Minus
prefix_sign Inv = sign.Tilde
prefix_sign Not = sign.Not

pub prefix_of-sign : (o : Un) → prefix_of (prefix_sign o) ≡ Some o
prefix_of-sign Neg = refl
prefix_of-sign Inv = refl
prefix_of-sign Not = refl

-- a prefix before its operand, with the blank that there may be between
pub prefix_lexes : (o : Un) (is_minus : Bool) (text rest : List ℕ) (line : ℕ) (tokens : List Token) → Opens is_minus text → Lexes line (text ++ rest) tokens → Lexes line ((prefix_text o ++ (if is_neg o && is_minus then codes " " else []) ++ text) ++ rest) (sign_at (prefix_sign o) line ∷ tokens)
prefix_lexes Neg true text rest line tokens opens after =
    lexes-token line (codes "-") (32 ∷ (text ++ rest)) (kinds.Sign sign.Minus) tokens (minus_stands 32 (text ++ rest) refl refl) (lexes-space line (text ++ rest) tokens after)
prefix_lexes Neg false text rest line tokens opens after =
    let front = front-kept text rest opens.some in
    lexes-token line (codes "-") (text ++ rest) (kinds.Sign sign.Minus) tokens
    (minus_before (text ++ rest) front.0 (ap (λ c. 45 == c) front.1 ∙ opens.no_minus refl) (ap (λ c. 61 == c) front.1 ∙ opens.no_equals)) after
prefix_lexes Inv is_minus text rest line tokens opens after =
    lexes-token line (codes "~") (text ++ rest) (kinds.Sign sign.Tilde) tokens (tilde_stands (text ++ rest)) after
prefix_lexes Not is_minus text rest line tokens opens after =
    let front = front-kept text rest opens.some in
    lexes-token line (codes "!") (text ++ rest) (kinds.Sign sign.Not) tokens
    (not_before (text ++ rest) front.0 (ap (λ c. 61 == c) front.1 ∙ opens.no_equals)) after

pub prefix_opens : (o : Un) (text : List ℕ) → Opens (is_neg o) (prefix_text o ++ text)
prefix_opens Neg text = record { some = omega arith; no_equals = refl; no_minus = λ e. cc }
prefix_opens Inv text = record { some = omega arith; no_equals = refl; no_minus = λ e. refl }
prefix_opens Not text = record { some = omega arith; no_equals = refl; no_minus = λ e. refl }

pub prefixed_spelt : (o : Un) (expr : Expr) (shown : Shown) (line : ℕ) → Spelt expr shown line → Spelt (tree.Unary o expr) (record { level = prefix_level; is_minus = is_neg o; text = prefix_text o ++ gap o shown ++ placed prefix_level shown }) line
prefixed_spelt o expr shown line part =
    let operand = placed_spelt prefix_level expr shown line (omega arith) part in
    let opens = placed_opens shown part.opens in
    record {
      spelling = Prefix line (prefix_sign o) o operand.spelling;
      lawful = (prefix_of-sign o, operand.level_is, operand.lawful);
      tree_is = ap (tree.Unary o) operand.tree_is;
      level_is = refl;
      lexes = λ rest tokens ends after.
          prefix_lexes o shown.is_minus (placed prefix_level shown) rest line (in_front operand.spelling tokens) opens (operand.lexes rest tokens ends after);
      opens = λ e. subst (Opens (is_neg o)) (sym (append_assoc (prefix_text o) (gap o shown) (placed prefix_level shown))) (prefix_opens o (gap o shown ++ placed prefix_level shown));
    }

-- ---- conversions

pub type_word_is : (ty : Ty) → (is_word (type_word ty) ≡ true) × (length (type_word ty) ≤ 255)
type_word_is Int = (refl, omega arith)
type_word_is Long = (refl, omega arith)

pub typed_lexes : (line : ℕ) (ty : Ty) (rest : List ℕ) (tokens : List Token) → Ends rest → Lexes line rest tokens → Lexes line (type_word ty ++ rest) (typed ty line ∷ tokens)
typed_lexes line ty rest tokens ends after = word_lexes line rest tokens after (type_word ty) (type_word_is ty).0 (type_word_is ty).1 ends

pub conversion : (name text rest : List ℕ) → 40 ∷ (name ++ (41 ∷ (text ++ rest))) ≡ (codes "(" ++ name ++ codes ")" ++ text) ++ rest
conversion name text rest = simp append_assoc

pub convert_spelt : (ty : Ty) (expr : Expr) (shown : Shown) (line : ℕ) → Spelt expr shown line → Spelt (tree.Cast ty expr) (at_level prefix_level (codes "(" ++ type_word ty ++ codes ")" ++ placed prefix_level shown)) line
convert_spelt ty expr shown line part =
    let operand = placed_spelt prefix_level expr shown line (omega arith) part in
    record {
      spelling = Convert (λ _. line) ty operand.spelling;
      lawful = (operand.level_is, operand.lawful);
      tree_is = ap (tree.Cast ty) operand.tree_is;
      level_is = refl;
      lexes = λ rest tokens ends after.
          let e : 40 ∷ (type_word ty ++ (41 ∷ (placed prefix_level shown ++ rest))) ≡ (codes "(" ++ type_word ty ++ codes ")" ++ placed prefix_level shown) ++ rest = conversion (type_word ty) (placed prefix_level shown) rest in
          let last : List Token = in_front operand.spelling tokens in
          subst (λ bytes. Lexes line bytes (sign_at sign.OpenParen line ∷ typed ty line ∷ sign_at sign.CloseParen line ∷ last)) e
          (open_lexes line (type_word ty ++ (41 ∷ (placed prefix_level shown ++ rest))) (typed ty line ∷ sign_at sign.CloseParen line ∷ last)
          (typed_lexes line ty (41 ∷ (placed prefix_level shown ++ rest)) (sign_at sign.CloseParen line ∷ last) (record { parted = refl })
          (close_lexes line (placed prefix_level shown ++ rest) last (operand.lexes rest tokens ends after))));
      opens = λ e. record { some = omega arith; no_equals = refl; no_minus = λ e. refl };
    }
