-- What is read as a print has a lawful spelling that keeps the limits.
use Rattle.std.proofs.Common.{◌≡◌, ℕ, zero, suc, ◌<◌, Bool, true, false, cond, List, [], ◌∷◌, ◌++◌, length, map, codes, refl, ap, sym, ◌∙◌, arith, append_assoc}
use Rattle.sk_grammar.specs.ExpressionSpelling.{sign_at, word, in_sequence, each}
use Rattle.sk_grammar.specs.Limits.{PrintedFits}
use Rattle.sk_grammar.specs.StatementSpelling as form
use Rattle.sk_grammar.specs.StatementSpelling.{Written, at_line}
use Rattle.sk_tokens.specs.declared.token.Sign.TheVariants as sign
use Rattle.sk_tree.specs.declared.tree.Item.{Item}
use Rattle.sk_tree.specs.declared.tree.Item.TheVariants as item
use Rattle.sk_tree.specs.declared.tree.What.{What}
use Rattle.sk_tree.specs.declared.tree.What.TheVariants as what
use Rattle.sk_reading.specs.declared.next.Next.{Next}
use Rattle.sk_reading.specs.declared.next.Next.TheVariants as next
use Rattle.sk_reading.specs.declared.reach.Reach.TheVariants.{Sum}
use Rattle.sk_reading.specs.declared.keyword.Keyword.TheVariants as key
use Rattle.sk_reading.specs.Reading.{Place, Read, and_then, front, advance, sees, expect, word_in, text, line_of}
use Rattle.sk_reading.specs.ReadingAssignments as assignments
use Rattle.sk_reading.specs.ReadingForms as reading
use Rattle.sk_reading_sound_laws.proofs.Steps.{lines_of, bound, along, read-is, Takes, expect-takes, word_in-takes, text-takes, keyword-takes}
use Rattle.sk_reading.proofs.Entries.{word-of}
use Rattle.sk_reading_sound_laws.proofs.statements.Assignments.{sum-sound}
use Rattle.sk_reading_sound_laws.proofs.statements.Started.{Started}

record IsPrinted (left : ℕ) (p : Place) (shown : Item) (q : Place) : Type 0 where
  written : ℕ × form.Printed
  lawful : form.IsLawfulPrinted written.1
  fits : PrintedFits written.1 left
  tokens : p.rest ≡ form.shifted_in_front written q.rest
  is_tree : form.printed_tree written.1 ≡ shown
  instances : q.instances ≡ p.instances

printed-sound : (left : ℕ) (p : Place) (x : Item × Place) → reading.printed left p ≡ Read x → IsPrinted left p x.0 x.1
unfolding reading.printed reading.printed_end advance
printed-sound left p x h =
    let (u, shl-is, h) = bound (expect sign.Shl p) _ x h in
    let (l, shl) = expect-takes p sign.Shl u shl-is in
    go u.1 l shl (front u.1) refl h
  where
    shown : (q : Place) (l : ℕ) → Takes (sign_at sign.Shl l) p q → and_then (assignments.value left Sum q) (λ e r. Read (item.Value e, r)) ≡ Read x → IsPrinted left p x.0 x.1
    shown q l shl h =
        let (a, value-is, h) = bound (assignments.value left Sum q) _ x h in
        let v = sum-sound left q a value-is in
        along (IsPrinted left p) h (record {
          written = (l, form.Printed.PrintedValue v.spelling);
          lawful = (v.level, v.lawful);
          fits = v.small;
          tokens = shl.tokens ∙ ap (λ z. sign_at sign.Shl l ∷ z) v.tokens;
          is_tree = ap item.Value v.is_tree;
          instances = v.instances ∙ shl.instances;
        })

    go : (q : Place) (l : ℕ) → Takes (sign_at sign.Shl l) p q → (nx : Next) → front q ≡ nx → reading.printed_by left nx q ≡ Read x → IsPrinted left p x.0 x.1
    go q l shl next.Text is h =
        let (a, text-is, h) = bound (text q) _ x h in
        let (l', texting) = text-takes q a text-is in
        along (IsPrinted left p) h (record {
          written = (l, form.Printed.PrintedText l' a.0);
          lawful = tt;
          fits = tt;
          tokens = shl.tokens ∙ ap (λ z. sign_at sign.Shl l ∷ z) texting.tokens;
          is_tree = refl;
          instances = texting.instances ∙ shl.instances;
        })
    go q l shl (next.Keyword key.Std) is h =
        let (l0, std) = keyword-takes q key.Std is in
        let (u1, path-is, h) = bound (expect sign.Path (advance q)) _ x h in
        let (l1, path) = expect-takes (advance q) sign.Path u1 path-is in
        let (e, endl-is, h) = bound (word_in (reading.one_word (codes "endl")) u1.1) _ x h in
        let (l2, ew, meant, ending) = word_in-takes (reading.one_word (codes "endl")) u1.1 e endl-is in
        let same : ew ≡ codes "endl" = word-of (λ (u : Unit {0}). codes "endl") (reading.one_word (codes "endl")) ew e.0 (refl, tt) meant in
        along (IsPrinted left p) h (record {
          written = (l, form.Printed.PrintedEnd (lines_of (l0 ∷ l1 ∷ l2 ∷ [])));
          lawful = tt;
          fits = tt;
          tokens = shl.tokens ∙ ap (λ z. sign_at sign.Shl l ∷ z) (std.tokens ∙ ap (λ z. word (codes "std") l0 ∷ z) (path.tokens ∙ ap (λ z. sign_at sign.Path l1 ∷ z)
              (ending.tokens ∙ ap (λ k. word k l2 ∷ e.1.rest) same)));
          is_tree = refl;
          instances = ending.instances ∙ path.instances ∙ shl.instances;
        })
    go q l shl (next.Keyword k) is h = shown q l shl h
    go q l shl other is h = shown q l shl h

items-sound : (left turns : ℕ) (found : List Item) (p : Place) (x : List Item × Place) → reading.items_from left turns found p ≡ Read x
    → (l : List (ℕ × form.Printed)) × (0 < length l) × (x.0 ≡ found ++ map (λ printed. form.printed_tree printed.1) l) × (p.rest ≡ in_sequence form.shifted_in_front l x.1.rest)
    × (x.1.instances ≡ p.instances) × each (λ printed. form.IsLawfulPrinted printed.1) l × each (λ printed. PrintedFits printed.1 left) l
unfolding reading.items_from
items-sound left zero found p x h = absurd (cc)
items-sound left (suc turns) found p x h =
    let (a, printed-is, h) = bound (reading.printed left p) _ x h in
    go a (printed-sound left p a printed-is) (sees sign.Shl a.1) h (λ y. items-sound left turns (found ++ a.0 ∷ []) a.1 y)
  where
    go : (a : Item × Place) → IsPrinted left p a.0 a.1 → (b : Bool)
        → cond b (reading.items_from left turns (found ++ a.0 ∷ []) a.1) (Read (found ++ a.0 ∷ [], a.1)) ≡ Read x
        → ((y : List Item × Place) → reading.items_from left turns (found ++ a.0 ∷ []) a.1 ≡ Read y
        → (l : List (ℕ × form.Printed)) × (0 < length l) × (y.0 ≡ (found ++ a.0 ∷ []) ++ map (λ printed. form.printed_tree printed.1) l) × (a.1.rest ≡ in_sequence form.shifted_in_front l y.1.rest)
        × (y.1.instances ≡ a.1.instances) × each (λ printed. form.IsLawfulPrinted printed.1) l × each (λ printed. PrintedFits printed.1 left) l)
        → (l : List (ℕ × form.Printed)) × (0 < length l) × (x.0 ≡ found ++ map (λ printed. form.printed_tree printed.1) l) × (p.rest ≡ in_sequence form.shifted_in_front l x.1.rest)
        × (x.1.instances ≡ p.instances) × each (λ printed. form.IsLawfulPrinted printed.1) l × each (λ printed. PrintedFits printed.1 left) l
    go a s true h later =
        let (l, some, all, tokens, instances, lawful, fits) = later x h in (
          s.written ∷ l,
          omega arith,
          all ∙ append_assoc found (a.0 ∷ []) (map (λ printed. form.printed_tree printed.1) l)
              ∙ ap (λ e. found ++ e ∷ map (λ printed. form.printed_tree printed.1) l) (sym s.is_tree),
          s.tokens ∙ ap (form.shifted_in_front s.written) tokens,
          instances ∙ s.instances,
          (s.lawful, lawful),
          (s.fits, fits),
        )
    go a s false h later =
        let same = read-is h in (
          s.written ∷ [],
          omega arith,
          sym (ap (λ y. y.0) same) ∙ ap (λ e. found ++ e ∷ []) (sym s.is_tree),
          s.tokens ∙ ap (λ (y : List Item × Place). form.shifted_in_front s.written y.1.rest) same,
          sym (ap (λ (y : List Item × Place). y.1.instances) same) ∙ s.instances,
          (s.lawful, tt),
          (s.fits, tt),
        )

pub print-sound : (left : ℕ) (p : Place) → front p ≡ next.Keyword key.Std → (x : What × Place) → reading.print left p ≡ Read x → Started left p x.0 x.1
unfolding reading.print advance
print-sound left p first x h =
    let (l0, std) = keyword-takes p key.Std first in
    let (u1, path-is, h) = bound (expect sign.Path (advance p)) _ x h in
    let (l1, path) = expect-takes (advance p) sign.Path u1 path-is in
    let (e, cout-is, h) = bound (word_in (reading.one_word (codes "cout")) u1.1) _ x h in
    let (l2, ew, meant, naming) = word_in-takes (reading.one_word (codes "cout")) u1.1 e cout-is in
    let same : ew ≡ codes "cout" = word-of (λ (u : Unit {0}). codes "cout") (reading.one_word (codes "cout")) ew e.0 (refl, tt) meant in
    let (a, items-are, h) = bound (reading.items_from left (length e.1.rest) [] e.1) _ x h in
    let (l, some, all, tokens, instances, lawful, fits) = items-sound left (length e.1.rest) [] e.1 a items-are in
    along (Started left p) h (record {
      written = λ line. Written.Print (lines_of (l0 ∷ l1 ∷ l2 ∷ line ∷ [])) l;
      lawful = λ line. (some, lawful);
      fits = λ line. fits;
      tokens = λ line r is. std.tokens ∙ ap (λ z. word (codes "std") l0 ∷ z) (path.tokens ∙ ap (λ z. sign_at sign.Path l1 ∷ z) (naming.tokens ∙ ap (λ k. word k l2 ∷ e.1.rest) same
          ∙ ap (λ z. word (codes "cout") l2 ∷ z) (tokens ∙ ap (in_sequence form.shifted_in_front l) is)));
      is_tree = λ line. ap (λ s. at_line l0 (what.Print s)) (sym all) ∙ ap (λ z. at_line z (what.Print a.0)) (sym (ap line_of std.tokens));
      instances = λ line. omega (arith, instances, naming.instances, path.instances);
      few = λ few. omega (arith, instances, naming.instances, path.instances, few);
    })
