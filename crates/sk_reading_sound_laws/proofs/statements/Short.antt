-- What is read as a statement that ends with `;` has a lawful spelling that keeps the limits.
use Rattle.std.proofs.Common.{◌≡◌, ℕ, ◌+◌, ◌≤◌, Bool, true, false, cond, [], ◌∷◌, codes, refl, ap, sym, ◌∙◌, arith}
use Rattle.sk_grammar.specs.ExpressionSpelling.{in_front, arguments_in_front, sign_at, word}
use Rattle.sk_grammar.specs.Limits.{TargetFits, WrittenFits, written_instances}
use Rattle.sk_grammar.specs.StatementSpelling as form
use Rattle.sk_grammar.specs.StatementSpelling.{Written, written_in_front, written_tree, IsLawfulStatement, at_line}
use Rattle.sk_tokens.specs.declared.token.Sign.TheVariants as sign
use Rattle.sk_tree.specs.declared.tree.Statement.{Statement}
use Rattle.sk_tree.specs.declared.tree.What.{What}
use Rattle.sk_tree.specs.declared.tree.What.TheVariants as what
use Rattle.sk_reading.specs.declared.next.Next.{Next}
use Rattle.sk_reading.specs.declared.next.Next.TheVariants as next
use Rattle.sk_reading.specs.declared.reach.Reach.TheVariants.{Whole}
use Rattle.sk_reading.specs.declared.keyword.Keyword.TheVariants as key
use Rattle.sk_reading.specs.declared.target.Target.{Target}
use Rattle.sk_reading.specs.declared.target.Target.TheVariants.{Variable, Element, Bracketed}
use Rattle.sk_reading.specs.Reading.{Place, Read, front, advance, sees, expect, line_of}
use Rattle.sk_reading.specs.ReadingAssignments as assignments
use Rattle.sk_reading.specs.ReadingForms as reading
use Rattle.sk_reading_sound_laws.proofs.Steps.{lines_of, bound, along, expect-takes, keyword-takes}
use Rattle.sk_reading_sound_laws.proofs.statements.Assignments.{value-sound, IsTarget, target-sound, update-sound, assignment-sound, declaration-sound, assigning}
use Rattle.sk_reading.proofs.Targets.{target_value}
use Rattle.sk_reading_sound_laws.proofs.statements.Started.{Started, simply}
use Rattle.sk_reading_sound_laws.proofs.statements.Containers.{container}
use Rattle.sk_reading_sound_laws.proofs.statements.Instances.{instance-sound}
use Rattle.sk_reading_sound_laws.proofs.statements.Settings.{set-sound}
use Rattle.sk_reading_sound_laws.proofs.statements.Prints.{print-sound}

-- ---- returns

return-sound : (left : ℕ) (p : Place) → front p ≡ next.Keyword key.Return → (x : What × Place) → reading.returned left p ≡ Read x → Started left p x.0 x.1
unfolding reading.returned advance
return-sound left p first x h =
    let (l0, returns) = keyword-takes p key.Return first in
    let (a, value-is, h) = bound (assignments.value left Whole (advance p)) _ x h in
    let v = value-sound left (advance p) a value-is in
    along (Started left p) h (record {
      written = λ line. Written.Return (lines_of (l0 ∷ line ∷ [])) v.spelling;
      lawful = λ line. v.lawful;
      fits = λ line. v.small;
      tokens = λ line r is. returns.tokens ∙ ap (λ z. word (codes "return") l0 ∷ z) (v.tokens ∙ ap (in_front v.spelling) is);
      is_tree = λ line. ap (λ e. at_line l0 (what.Return e)) v.is_tree ∙ ap (λ l. at_line l (what.Return a.0)) (sym (ap line_of returns.tokens));
      instances = λ line. omega (arith, v.instances);
      few = λ few. omega (arith, v.instances, few);
    })

-- ---- calls and assignments

abbrev called-by : Target → What
called-by (Variable w) = what.Call w []
called-by (Element w es) = what.Call w es
called-by (Bracketed w e) = what.Call w []

call-sound : (left : ℕ) (p q : Place) (t : Target) → IsTarget left p t q → (x : What × Place) → reading.call_of left t q ≡ Read x → Started left p x.0 x.1
call-sound left p q (Variable w) s x h = absurd (cc)
call-sound left p q (Bracketed w e) s x h = absurd (cc)
call-sound left p q (Element w es) s x h = go s.spelling s.lawful s.fits s.tokens s.is_value
  where
    go : (t : form.Target) → form.IsLawfulTarget t → TargetFits t left → p.rest ≡ form.target_in_front t q.rest → target_value t ≡ Element w es → Started left p x.0 x.1
    go (form.Target.Variable line v) lawful fits tokens is = absurd (cc)
    go (form.Target.Bracketed lines v e) lawful fits tokens is = absurd (cc)
    go (form.Target.Element lines v ss) lawful fits tokens is =
        along (Started left p) h (record {
          written = λ line. Written.Call (lines_of (lines 0 ∷ lines 1 ∷ lines 2 ∷ line ∷ [])) v ss;
          lawful = λ line. lawful;
          fits = λ line. fits;
          tokens = λ line r is. tokens ∙ ap (λ z. word v (lines 0) ∷ sign_at sign.OpenParen (lines 1) ∷ arguments_in_front ss (sign_at sign.CloseParen (lines 2) ∷ z)) is;
          is_tree = λ line. ap (λ (t : Target). at_line (lines 0) (called-by t)) is ∙ ap (λ l. at_line l (what.Call w es)) (sym (ap line_of tokens));
          instances = λ line. omega (arith, s.instances);
          few = λ few. omega (arith, s.instances, few);
        })

used-sound : (left : ℕ) (p : Place) (x : What × Place) → reading.used left p ≡ Read x → Started left p x.0 x.1
unfolding reading.used
used-sound left p x h =
    let (a, target-is, h) = bound (assignments.target left p) _ x h in
    go a (target-sound left p a target-is) (sees sign.Semi a.1) h
  where
    go : (a : Target × Place) → IsTarget left p a.0 a.1 → (b : Bool) → cond b (reading.call_of left a.0 a.1) (assignments.update left a.0 a.1) ≡ Read x → Started left p x.0 x.1
    go a s true h = call-sound left p a.1 a.0 s x h
    go a s false h = simply left p x (assigning left p x (update-sound left p a.1 a.0 s x h))

-- ---- all of them

by_name-sound : (left : ℕ) (p : Place) (x : What × Place) → reading.by_name left p ≡ Read x → Started left p x.0 x.1
unfolding reading.by_name
by_name-sound left p x h = go (reading.begins_setting p) h
  where
    go : (b : Bool) → cond b (reading.set left p) (reading.used left p) ≡ Read x → Started left p x.0 x.1
    go true h = set-sound left p x h
    go false h = used-sound left p x h

begun-sound : (left : ℕ) (p : Place) (x : What × Place) → reading.begun left p ≡ Read x → Started left p x.0 x.1
unfolding reading.begun
begun-sound left p x h = go (front p) refl h
  where
    other-sound : assignments.assignment left p ≡ Read x → Started left p x.0 x.1
    other-sound h = simply left p x (assigning left p x (assignment-sound left p x h))

    go : (nx : Next) → front p ≡ nx → reading.short_by left nx p ≡ Read x → Started left p x.0 x.1
    go (next.Keyword key.Int) is h = simply left p x (declaration-sound left p x h)
    go (next.Keyword key.Long) is h = simply left p x (declaration-sound left p x h)
    go (next.Keyword key.Skepu) is h = container left p is x h
    go (next.Keyword key.Auto) is h = instance-sound left p is x h
    go (next.Keyword key.Std) is h = print-sound left p is x h
    go (next.Keyword key.Return) is h = return-sound left p is x h
    go (next.Keyword k) is h = other-sound h
    go next.Name is h = by_name-sound left p x h
    go other is h = other-sound h

-- a statement that has been read
pub record IsWritten (left : ℕ) (p : Place) (made : Statement) (q : Place) : Type 0 where
  pub written : Written
  pub lawful : IsLawfulStatement written
  pub fits : WrittenFits written left
  pub tokens : p.rest ≡ written_in_front written q.rest
  pub is_tree : written_tree written ≡ made
  pub instances : q.instances ≡ p.instances + written_instances written
  pub few : p.instances ≤ 1024 → q.instances ≤ 1024

pub short-sound : (left : ℕ) (p : Place) (x : What × Place) → reading.short left p ≡ Read x → IsWritten left p (at_line (line_of p.rest) x.0) x.1
unfolding reading.short
short-sound left p x h =
    let (a, begun-is, h) = bound (reading.begun left p) _ x h in
    let s = begun-sound left p a begun-is in
    let (u, semi-is, h) = bound (expect sign.Semi a.1) _ x h in
    let (line, semi) = expect-takes a.1 sign.Semi u semi-is in
    along (λ does. IsWritten left p (at_line (line_of p.rest) does)) h (record {
      written = s.written line;
      lawful = s.lawful line;
      fits = s.fits line;
      tokens = s.tokens line u.1.rest semi.tokens;
      is_tree = s.is_tree line;
      instances = semi.instances ∙ s.instances line;
      few = λ few. omega (arith, semi.instances, s.few few);
    })
