-- What has been read of a statement that ends with `;`, and that an assignment or a declaration is such a one.
use Rattle.std.proofs.Common.{◌≡◌, ℕ, ◌+◌, ◌≤◌, List, ◌∷◌, refl, ap, sym, ◌∙◌, arith}
use Rattle.sk_grammar.specs.ExpressionSpelling.{in_front, sign_at}
use Rattle.sk_grammar.specs.Limits.{WrittenFits, written_instances}
use Rattle.sk_grammar.specs.StatementSpelling as form
use Rattle.sk_grammar.specs.StatementSpelling.{Written, written_in_front, written_tree, IsLawfulStatement, at_line}
use Rattle.sk_tokens.specs.declared.token.Sign.TheVariants as sign
use Rattle.sk_tokens.specs.declared.token.Token.{Token}
use Rattle.sk_tree.specs.declared.tree.What.{What}
use Rattle.sk_reading.specs.Reading.{Place, line_of}
use Rattle.sk_reading_sound_laws.proofs.statements.Assignments.{IsSimple}
use Rattle.sk_reading.proofs.Targets.{target-line}

-- what has been read so far is a statement, once a `;` follows
pub record Started (left : ℕ) (p : Place) (does : What) (q : Place) : Type 0 where
  pub written : (line : ℕ) → Written
  pub lawful : (line : ℕ) → IsLawfulStatement (written line)
  pub fits : (line : ℕ) → WrittenFits (written line) left
  pub tokens : (line : ℕ) (r : List Token) → q.rest ≡ sign_at sign.Semi line ∷ r → p.rest ≡ written_in_front (written line) r
  pub is_tree : (line : ℕ) → written_tree (written line) ≡ at_line (line_of p.rest) does
  pub instances : (line : ℕ) → q.instances ≡ p.instances + written_instances (written line)
  pub few : p.instances ≤ 1024 → q.instances ≤ 1024

simple-line : (s : form.Simple) (r : List Token) → line_of (form.simple_in_front s r) ≡ form.simple_line s
simple-line (form.Simple.Declare lines t w s) r = refl
simple-line (form.Simple.Assigning (form.Assignment.Assign t line sg how s)) r = target-line t (sign_at sg line ∷ in_front s r)
simple-line (form.Simple.Assigning (form.Assignment.StepAfter t line sg operator)) r = target-line t (sign_at sg line ∷ r)
simple-line (form.Simple.Assigning (form.Assignment.StepBefore line sg operator t)) r = refl

pub simply : (left : ℕ) (p : Place) (x : What × Place) → IsSimple left p x.0 x.1 → Started left p x.0 x.1
simply left p x s = record {
  written = λ line. Written.Simply s.spelling line;
  lawful = λ line. s.lawful;
  fits = λ line. s.fits;
  tokens = λ line r is. s.tokens ∙ ap (form.simple_in_front s.spelling) is;
  is_tree = λ line. ap (λ does. at_line (form.simple_line s.spelling) does) s.is_tree
      ∙ ap (λ l. at_line l x.0) (sym (ap line_of s.tokens ∙ simple-line s.spelling x.1.rest));
  instances = λ line. omega (arith, s.instances);
  few = λ few. omega (arith, s.instances, few);
}
