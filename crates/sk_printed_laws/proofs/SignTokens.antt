-- Signs, and what may follow them.
use Rattle.std.proofs.Common.{◌≡◌, ℕ, zero, suc, ◌-◌, ◌<◌, ◌≤◌, Bool, false, List, [], ◌∷◌, ◌++◌, length, take, refl, ap, ◌∙◌, arith}
use Rattle.std.specs.Prelude.{Some, None, codes, ◌==◌}
use Rattle.std.proofs.lemmas.List.{length-append}
use Rattle.std.proofs.Math.Seq.{take-append_seam}
use Rattle.sk_base.specs.declared.number.Op.{Op}
use Rattle.sk_base.specs.declared.number.Op.TheVariants as op
use Rattle.sk_tokens.specs.declared.token.Sign.{Sign}
use Rattle.sk_tokens.specs.declared.token.Sign.TheVariants as sign
use Rattle.sk_tokens.specs.declared.token.TokenKind.TheVariants as kinds
use Rattle.sk_tokens.specs.Lexemes.{SignLexeme, lexeme_of, sign_of, signs}
use Rattle.sk_grammar.specs.declared.infix.Infix.TheVariants.{Computes}
use Rattle.sk_grammar.specs.Signs.{infix_of}
use Rattle.sk_tokens.specs.Tokens.{Found, piece_at, token_at}
use Rattle.sk_token_laws.proofs.Longest.{longest_of-found}
use Rattle.sk_printed.specs.WordText.{operator_text}
use Rattle.sk_printed_laws.proofs.Lexes.{Stands, feeds}

take-past : (bytes : List ℕ) (c : ℕ) (rest : List ℕ) (k : ℕ) → length bytes < k → take k (bytes ++ (c ∷ rest)) ≡ bytes ++ (c ∷ take (k - suc (length bytes)) rest)
take-past bytes c rest zero above = absurd (omega arith)
take-past [] c rest (suc k) above = let e : suc k - suc 0 ≡ k = omega arith in rw e refl
take-past (byte ∷ bytes) c rest (suc k) above =
    let e : suc k - suc (suc (length bytes)) ≡ k - suc (length bytes) = omega arith in
    rw e (ap (λ xs. byte ∷ xs) (take-past bytes c rest k (omega arith)))

longest_sign : (bytes rest : List ℕ) (s : Sign) → 0 < length bytes → lexeme_of bytes ≡ Some (SignLexeme s) → ((k : ℕ) → length bytes < k → k ≤ length (bytes ++ rest) → lexeme_of (take k (bytes ++ rest)) ≡ None) → token_at (bytes ++ rest) ≡ Found (length bytes) (kinds.Sign s)
unfolding token_at
longest_sign bytes rest s some spelled longer =
    let long = length-append bytes rest in
    let here : lexeme_of (take (length bytes) (bytes ++ rest)) ≡ Some (SignLexeme s) = ap lexeme_of (take-append_seam bytes rest) ∙ spelled in
    let found = longest_of-found (length (bytes ++ rest)) (length bytes) (bytes ++ rest) (SignLexeme s) some (omega arith) here longer in
    rw (found, token_at) refl

-- a sign before this byte, with which it makes no longer one
parted : (bytes : List ℕ) (s : Sign) (c : ℕ) (rest : List ℕ) → 0 < length bytes → feeds bytes ≡ 0 → ((begins_line : Bool) → piece_at begins_line (bytes ++ (c ∷ rest)) ≡ token_at (bytes ++ (c ∷ rest))) → lexeme_of bytes ≡ Some (SignLexeme s) → ((xs : List ℕ) → lexeme_of (bytes ++ (c ∷ xs)) ≡ None) → Stands bytes (kinds.Sign s) (c ∷ rest)
parted bytes s c rest some one_line plain spelled longer = record {
  some = some;
  one_line = one_line;
  piece = λ begins_line. plain begins_line ∙ longest_sign bytes (c ∷ rest) s some spelled (λ k above within. ap lexeme_of (take-past bytes c rest k above) ∙ longer (take (k - suc (length bytes)) rest));
}

-- a sign that makes no longer one with any byte
solid : (bytes : List ℕ) (s : Sign) (rest : List ℕ) → 0 < length bytes → feeds bytes ≡ 0 → ((begins_line : Bool) (xs : List ℕ) → piece_at begins_line (bytes ++ xs) ≡ token_at (bytes ++ xs)) → lexeme_of bytes ≡ Some (SignLexeme s) → ((c : ℕ) (xs : List ℕ) → lexeme_of (bytes ++ (c ∷ xs)) ≡ None) → Stands bytes (kinds.Sign s) rest
solid bytes s [] some one_line plain spelled longer = record {
  some = some;
  one_line = one_line;
  piece = λ begins_line. plain begins_line [] ∙ longest_sign bytes [] s some spelled (λ k above within. let e = length-append bytes [] in absurd (omega arith));
}
solid bytes s (c ∷ rest) some one_line plain spelled longer =
    parted bytes s c rest some one_line (λ begins_line. plain begins_line (c ∷ rest)) spelled (longer c)

pub open_stands : (rest : List ℕ) → Stands (codes "(") (kinds.Sign sign.OpenParen) rest
unfolding piece_at lexeme_of sign_of signs
open_stands rest = solid (codes "(") sign.OpenParen rest (omega arith) refl (λ b xs. refl) refl (λ c xs. refl)

pub close_stands : (rest : List ℕ) → Stands (codes ")") (kinds.Sign sign.CloseParen) rest
unfolding piece_at lexeme_of sign_of signs
close_stands rest = solid (codes ")") sign.CloseParen rest (omega arith) refl (λ b xs. refl) refl (λ c xs. refl)

pub open_brace_stands : (rest : List ℕ) → Stands (codes "{") (kinds.Sign sign.OpenBrace) rest
unfolding piece_at lexeme_of sign_of signs
open_brace_stands rest = solid (codes "{") sign.OpenBrace rest (omega arith) refl (λ b xs. refl) refl (λ c xs. refl)

pub close_brace_stands : (rest : List ℕ) → Stands (codes "}") (kinds.Sign sign.CloseBrace) rest
unfolding piece_at lexeme_of sign_of signs
close_brace_stands rest = solid (codes "}") sign.CloseBrace rest (omega arith) refl (λ b xs. refl) refl (λ c xs. refl)

pub comma_stands : (rest : List ℕ) → Stands (codes ",") (kinds.Sign sign.Comma) rest
unfolding piece_at lexeme_of sign_of signs
comma_stands rest = solid (codes ",") sign.Comma rest (omega arith) refl (λ b xs. refl) refl (λ c xs. refl)

pub semi_stands : (rest : List ℕ) → Stands (codes ";") (kinds.Sign sign.Semi) rest
unfolding piece_at lexeme_of sign_of signs
semi_stands rest = solid (codes ";") sign.Semi rest (omega arith) refl (λ b xs. refl) refl (λ c xs. refl)

pub dot_stands : (rest : List ℕ) → Stands (codes ".") (kinds.Sign sign.Dot) rest
unfolding piece_at lexeme_of sign_of signs
dot_stands rest = solid (codes ".") sign.Dot rest (omega arith) refl (λ b xs. refl) refl (λ c xs. refl)

pub path_stands : (rest : List ℕ) → Stands (codes "::") (kinds.Sign sign.Path) rest
unfolding piece_at lexeme_of sign_of signs
path_stands rest = solid (codes "::") sign.Path rest (omega arith) refl (λ b xs. refl) refl (λ c xs. refl)

pub question_stands : (rest : List ℕ) → Stands (codes "?") (kinds.Sign sign.Question) rest
unfolding piece_at lexeme_of sign_of signs
question_stands rest = solid (codes "?") sign.Question rest (omega arith) refl (λ b xs. refl) refl (λ c xs. refl)

pub tilde_stands : (rest : List ℕ) → Stands (codes "~") (kinds.Sign sign.Tilde) rest
unfolding piece_at lexeme_of sign_of signs
tilde_stands rest = solid (codes "~") sign.Tilde rest (omega arith) refl (λ b xs. refl) refl (λ c xs. refl)

pub colon_stands : (rest : List ℕ) → Stands (codes ":") (kinds.Sign sign.Colon) (32 ∷ rest)
unfolding piece_at lexeme_of sign_of signs
colon_stands rest = parted (codes ":") sign.Colon 32 rest (omega arith) refl (λ b. refl) refl (λ xs. refl)

pub equals_stands : (rest : List ℕ) → Stands (codes "=") (kinds.Sign sign.Eq) (32 ∷ rest)
unfolding piece_at lexeme_of sign_of signs
equals_stands rest = parted (codes "=") sign.Eq 32 rest (omega arith) refl (λ b. refl) refl (λ xs. refl)

pub and_stands : (rest : List ℕ) → Stands (codes "&&") (kinds.Sign sign.AndAnd) (32 ∷ rest)
unfolding piece_at lexeme_of sign_of signs
and_stands rest = parted (codes "&&") sign.AndAnd 32 rest (omega arith) refl (λ b. refl) refl (λ xs. refl)

pub or_stands : (rest : List ℕ) → Stands (codes "||") (kinds.Sign sign.OrOr) (32 ∷ rest)
unfolding piece_at lexeme_of sign_of signs
or_stands rest = parted (codes "||") sign.OrOr 32 rest (omega arith) refl (λ b. refl) refl (λ xs. refl)

pub shl_stands : (rest : List ℕ) → Stands (codes "<<") (kinds.Sign sign.Shl) (32 ∷ rest)
unfolding piece_at lexeme_of sign_of signs
shl_stands rest = parted (codes "<<") sign.Shl 32 rest (omega arith) refl (λ b. refl) refl (λ xs. refl)

-- `<` before what neither `<` nor `=` begins
pub less_stands : (c : ℕ) (rest : List ℕ) → (60 == c) ≡ false → (61 == c) ≡ false → Stands (codes "<") (kinds.Sign sign.Lt) (c ∷ rest)
unfolding piece_at lexeme_of sign_of signs
less_stands c rest no_less no_equals = parted (codes "<") sign.Lt c rest (omega arith) refl (λ b. refl) refl (λ xs. rw (no_less, no_equals) refl)

pub greater_stands : (c : ℕ) (rest : List ℕ) → (62 == c) ≡ false → (61 == c) ≡ false → Stands (codes ">") (kinds.Sign sign.Gt) (c ∷ rest)
unfolding piece_at lexeme_of sign_of signs
greater_stands c rest no_greater no_equals = parted (codes ">") sign.Gt c rest (omega arith) refl (λ b. refl) refl (λ xs. rw (no_greater, no_equals) refl)

pub minus_stands : (c : ℕ) (rest : List ℕ) → (45 == c) ≡ false → (61 == c) ≡ false → Stands (codes "-") (kinds.Sign sign.Minus) (c ∷ rest)
unfolding piece_at lexeme_of sign_of signs
minus_stands c rest no_minus no_equals = parted (codes "-") sign.Minus c rest (omega arith) refl (λ b. refl) refl (λ xs. rw (no_minus, no_equals) refl)

pub not_stands : (c : ℕ) (rest : List ℕ) → (61 == c) ≡ false → Stands (codes "!") (kinds.Sign sign.Not) (c ∷ rest)
unfolding piece_at lexeme_of sign_of signs
not_stands c rest no_equals = parted (codes "!") sign.Not c rest (omega arith) refl (λ b. refl) refl (λ xs. rw no_equals refl)

-- ---- operators between blanks

abbrev pub operator_sign : Op → Sign
operator_sign op.Add = sign.Plus
operator_sign op.Sub = sign.Minus
operator_sign op.Mul = sign.Star
operator_sign op.Div = sign.Slash
operator_sign op.Rem = sign.Percent
operator_sign op.Shl = sign.Shl
operator_sign op.Shr = sign.Shr
operator_sign op.Lt = sign.Lt
operator_sign op.Le = sign.Le
operator_sign op.Gt = sign.Gt
operator_sign op.Ge = sign.Ge
operator_sign op.Eq = sign.EqEq
operator_sign op.Ne = sign.Ne
operator_sign op.And = sign.And
operator_sign op.Or = sign.Or
operator_sign op.Xor = sign.Caret

pub operator_stands : (o : Op) (rest : List ℕ) → Stands (operator_text o) (kinds.Sign (operator_sign o)) (32 ∷ rest)
unfolding piece_at lexeme_of sign_of signs
operator_stands op.Add rest = parted (codes "+") sign.Plus 32 rest (omega arith) refl (λ b. refl) refl (λ xs. refl)
operator_stands op.Sub rest = parted (codes "-") sign.Minus 32 rest (omega arith) refl (λ b. refl) refl (λ xs. refl)
operator_stands op.Mul rest = parted (codes "*") sign.Star 32 rest (omega arith) refl (λ b. refl) refl (λ xs. refl)
operator_stands op.Div rest = parted (codes "/") sign.Slash 32 rest (omega arith) refl (λ b. refl) refl (λ xs. refl)
operator_stands op.Rem rest = parted (codes "%") sign.Percent 32 rest (omega arith) refl (λ b. refl) refl (λ xs. refl)
operator_stands op.Shl rest = parted (codes "<<") sign.Shl 32 rest (omega arith) refl (λ b. refl) refl (λ xs. refl)
operator_stands op.Shr rest = parted (codes ">>") sign.Shr 32 rest (omega arith) refl (λ b. refl) refl (λ xs. refl)
operator_stands op.Lt rest = parted (codes "<") sign.Lt 32 rest (omega arith) refl (λ b. refl) refl (λ xs. refl)
operator_stands op.Le rest = parted (codes "<=") sign.Le 32 rest (omega arith) refl (λ b. refl) refl (λ xs. refl)
operator_stands op.Gt rest = parted (codes ">") sign.Gt 32 rest (omega arith) refl (λ b. refl) refl (λ xs. refl)
operator_stands op.Ge rest = parted (codes ">=") sign.Ge 32 rest (omega arith) refl (λ b. refl) refl (λ xs. refl)
operator_stands op.Eq rest = parted (codes "==") sign.EqEq 32 rest (omega arith) refl (λ b. refl) refl (λ xs. refl)
operator_stands op.Ne rest = parted (codes "!=") sign.Ne 32 rest (omega arith) refl (λ b. refl) refl (λ xs. refl)
operator_stands op.And rest = parted (codes "&") sign.And 32 rest (omega arith) refl (λ b. refl) refl (λ xs. refl)
operator_stands op.Or rest = parted (codes "|") sign.Or 32 rest (omega arith) refl (λ b. refl) refl (λ xs. refl)
operator_stands op.Xor rest = parted (codes "^") sign.Caret 32 rest (omega arith) refl (λ b. refl) refl (λ xs. refl)

pub infix_of-operator : (o : Op) → infix_of (operator_sign o) ≡ Some (Computes o)
infix_of-operator op.Add = refl
infix_of-operator op.Sub = refl
infix_of-operator op.Mul = refl
infix_of-operator op.Div = refl
infix_of-operator op.Rem = refl
infix_of-operator op.Shl = refl
infix_of-operator op.Shr = refl
infix_of-operator op.Lt = refl
infix_of-operator op.Le = refl
infix_of-operator op.Gt = refl
infix_of-operator op.Ge = refl
infix_of-operator op.Eq = refl
infix_of-operator op.Ne = refl
infix_of-operator op.And = refl
infix_of-operator op.Or = refl
infix_of-operator op.Xor = refl
