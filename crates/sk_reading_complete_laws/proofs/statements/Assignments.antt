-- Steps of targets and of the signs that assign, at places given by their parts.
use Rattle.std.proofs.Common.{◌≡◌, ℕ, Bool, true, false, List, ◌∷◌, Some, option_map, refl, ap}
use Rattle.sk_base.specs.declared.number.Op.{Op}
use Rattle.sk_grammar.specs.ExpressionSpelling.{Arguments, sign_at, word}
use Rattle.sk_grammar.specs.Limits.{nodes_in}
use Rattle.sk_grammar.specs.Signs.{Assigns, Plainly, Joining, assigns_of, step_of, meant_by}
use Rattle.sk_grammar.specs.StatementSpelling as spelling
use Rattle.sk_tokens.specs.declared.token.Sign.{Sign}
use Rattle.sk_tokens.specs.declared.token.Sign.TheVariants as sign
use Rattle.sk_tokens.specs.declared.token.Token.{Token}
use Rattle.sk_reading.specs.declared.next.Next.{Next}
use Rattle.sk_reading.specs.declared.next.Next.TheVariants as next
use Rattle.sk_reading.specs.declared.update.Update.{Update}
use Rattle.sk_reading.specs.declared.update.Update.TheVariants.{Value, Joined, Step}
use Rattle.sk_reading.specs.declared.target.Target.TheVariants.{Variable}
use Rattle.sk_reading.specs.Reading.{Place, Read, front, front_of, advance, same_sign, is_sign, word_in, front_word}
use Rattle.sk_reading.specs.ReadingAssignments as reading
use Rattle.sk_reading.proofs.Targets.{target_value, assigned-same, old-same}
use Rattle.sk_reading_complete_laws.proofs.Steps.{at, keyword-none}

pub word_in-ok : {A : Type 0} (entries : List (List ℕ × A)) (w : List ℕ) (a : A) (line : ℕ) (r : List Token) (n i : ℕ) → meant_by entries w ≡ Some a
    → word_in entries (at (word w line ∷ r) n i) ≡ Read (a, at r n i)
unfolding word_in front_word advance
word_in-ok entries w a line r n i h = rw h refl

-- ---- expressions of their own

-- the nodes of the last one are left
abbrev pub last_nodes : Arguments → ℕ
last_nodes (Arguments.Last s) = nodes_in s
last_nodes (Arguments.More s line ss) = last_nodes ss

-- ---- targets and updates

abbrev pub update_for : Assigns → Update
update_for Plainly = Value
update_for (Joining op) = Joined op

pub assigns-update : (s : Sign) (how : Assigns) → assigns_of s ≡ Some how → reading.update_of s ≡ Some (update_for how)
assigns-update sign.PlusPlus how is = absurd (cc)
assigns-update sign.MinusMinus how is = absurd (cc)
assigns-update other how is = ap (option_map update_for) is

pub step-update : (s : Sign) (op : Op) → step_of s ≡ Some op → reading.update_of s ≡ Some (Step op)
step-update sign.PlusPlus op is = ap (option_map Step) is
step-update sign.MinusMinus op is = ap (option_map Step) is
step-update other op is = absurd (cc)

-- a place of an element is opened
abbrev pub opens_place : Next → Bool
opens_place (next.Sign sign.OpenParen) = true
opens_place (next.Sign sign.OpenBracket) = true
opens_place other = false

pub record IsUpdate (s : Sign) : Type 0 where
  pub dot : is_sign sign.Dot (next.Sign s) ≡ false
  pub semi : is_sign sign.Semi (next.Sign s) ≡ false
  pub brace : is_sign sign.CloseBrace (next.Sign s) ≡ false
  pub place : opens_place (next.Sign s) ≡ false

pub is-update : (s : Sign) (u : Update) → reading.update_of s ≡ Some u → IsUpdate s
unfolding same_sign
is-update sign.Dot u is = absurd (cc)
is-update sign.Semi u is = absurd (cc)
is-update sign.CloseBrace u is = absurd (cc)
is-update sign.OpenParen u is = absurd (cc)
is-update sign.OpenBracket u is = absurd (cc)
is-update other u is = record { dot = refl; semi = refl; brace = refl; place = refl }

pub target-variable : (left : ℕ) (w : List ℕ) (nx : Next) (p : Place) → opens_place nx ≡ false → reading.target_by left w nx p ≡ Read (Variable w, p)
target-variable left w (next.Sign sign.OpenParen) p h = absurd (cc)
target-variable left w (next.Sign sign.OpenBracket) p h = absurd (cc)
target-variable left w (next.Sign s) p h = refl
target-variable left w other p h = refl

pub step-ok : (t : spelling.Target) (line : ℕ) (sg : Sign) (op : Op) → step_of sg ≡ Some op → (left : ℕ) (r : List Token) (n i : ℕ)
    → reading.update left (target_value t) (at (sign_at sg line ∷ r) n i)
    ≡ Read (spelling.assigned t (spelling.new_value (Joining op) (spelling.old_value t) spelling.one), at r n i)
unfolding reading.update front advance
step-ok t line sg op is left r n i =
    rw (step-update sg op is) (rw (old-same t) (ap (λ d. Read (d, at r n i)) (assigned-same t (spelling.new_value (Joining op) (spelling.old_value t) spelling.one))))

-- ---- assignments

pub target-name : (t : spelling.Target) → spelling.IsLawfulTarget t → (r : List Token) → front_of (spelling.target_in_front t r) ≡ next.Name
target-name (spelling.Target.Variable line w) free r = rw (keyword-none w free) refl
target-name (spelling.Target.Element lines w ss) lawful r = rw (keyword-none w lawful.0) refl
target-name (spelling.Target.Bracketed lines w s) lawful r = rw (keyword-none w lawful.0) refl
