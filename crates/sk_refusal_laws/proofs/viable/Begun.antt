-- What reading prints leads to, and each statement that ends with `;`.
use Rattle.std.proofs.Common.{◌≡◌, ℕ, zero, suc, ◌<◌, Bool, true, false, cond, List, [], ◌∷◌, ◌++◌, length, pos, codes, refl, ap, ◌∙◌, arith}
use Rattle.sk_base.specs.declared.number.Ty.TheVariants.{Int}
use Rattle.sk_grammar.specs.ExpressionSpelling as expressions
use Rattle.sk_grammar.specs.ExpressionSpelling.{Expression, in_front, IsName, sign_at, word, string, in_sequence, each}
use Rattle.sk_grammar.specs.StatementSpelling as spelling
use Rattle.sk_grammar.specs.StatementSpelling.{Written, Printed}
use Rattle.sk_tokens.specs.declared.token.Sign.TheVariants as sign
use Rattle.sk_tokens.specs.declared.token.Token.{Token}
use Rattle.sk_tree.specs.declared.tree.Item.{Item}
use Rattle.sk_tree.specs.declared.tree.Item.TheVariants as item
use Rattle.sk_tree.specs.declared.tree.What.TheVariants as what
use Rattle.sk_reading.specs.declared.keyword.Keyword.TheVariants as key
use Rattle.sk_reading.specs.declared.next.Next.{Next}
use Rattle.sk_reading.specs.declared.next.Next.TheVariants as next
use Rattle.sk_reading.specs.declared.reach.Reach.TheVariants.{Sum}
use Rattle.sk_reading.specs.Reading.{Place, Read, and_then, pure, front, sees, keyword_of}
use Rattle.sk_reading.specs.ReadingExpressions.{is_type}
use Rattle.sk_reading.specs.ReadingAssignments.{value, assignment}
use Rattle.sk_reading.specs.ReadingForms.{one_word, printed_end, printed_by, printed, items_from, print, begins_setting, set, used, by_name, short_by, begun, short}
use Rattle.sk_reading.proofs.Entries.{word-of}
use Rattle.sk_reading_sound_laws.proofs.Steps.{lines_of}
use Rattle.sk_refusal_laws.proofs.viable.Leads as leading
use Rattle.sk_refusal_laws.proofs.viable.Leads.{Lang, Chain, SignOf, KeywordOf, NameOf, TextOf, WordOf, Leads, Default, default-chain, leads-then, leads-map, leads-done, leads-lacking}
use Rattle.sk_refusal_laws.proofs.viable.Assignments.{value-leads, assignment-leads, declaration-leads}
use Rattle.sk_refusal_laws.proofs.viable.Containers.{make-leads}
use Rattle.sk_refusal_laws.proofs.viable.Forms.{WrittenOf, BegunOf, simply, assigns, returned-leads, used-leads}
use Rattle.sk_refusal_laws.proofs.viable.Instances.{instance-leads}
use Rattle.sk_refusal_laws.proofs.viable.Operands.{a-sign}
use Rattle.sk_refusal_laws.proofs.viable.Settings.{set-leads, a-word}
use Rattle.sk_refusal_laws.proofs.viable.Tokens.{leads-expect, leads-text, leads-word_in, leads-taken}

-- ---- prints

abbrev ItemOf : Lang
ItemOf tokens rest = (a : Printed) × spelling.IsLawfulPrinted a × (tokens ≡ spelling.printed_in_front a rest)

abbrev ShiftedOf : Lang
ShiftedOf = Chain (SignOf sign.Shl) ItemOf

abbrev ItemsOf : Lang
ItemsOf tokens rest = (l : List (ℕ × Printed)) × (0 < length l) × each (λ printed. spelling.IsLawfulPrinted printed.1) l × (tokens ≡ in_sequence spelling.shifted_in_front l rest)

-- what may follow an item
abbrev MoreItems : Lang
MoreItems tokens rest = (all : List Token) → ShiftedOf all tokens → ItemsOf all rest

last-item : (r : List Token) → MoreItems r r
last-item r = λ all shifted.
    let (line, is0) = shifted.first in
    let (a, lawful, is1) = shifted.second in
    ((line, a) ∷ [], omega arith, (lawful, tt), is0 ∙ ap (λ l. sign_at sign.Shl line ∷ l) is1)

one-more : (tokens rest : List Token) → ItemsOf tokens rest → MoreItems tokens rest
one-more tokens rest (l, some, others, is) = λ all shifted.
    let (line, is0) = shifted.first in
    let (a, lawful, is1) = shifted.second in
    ((line, a) ∷ l, omega arith, (lawful, others), is0 ∙ ap (λ k. sign_at sign.Shl line ∷ k) (is1 ∙ ap (spelling.printed_in_front a) is))

abbrev an-item : Default ItemOf
an-item = record { fix = expressions.number Int (pos 1) 0 ∷ []; goes = λ r. (Printed.PrintedValue (Expression.Number 0 Int (pos 1)), (omega arith, tt), refl) }

abbrev some-items : Default ItemsOf
some-items = record {
  fix = sign_at sign.Shl 0 ∷ expressions.number Int (pos 1) 0 ∷ [];
  goes = λ r. last-item r (sign_at sign.Shl 0 ∷ expressions.number Int (pos 1) 0 ∷ r) (record { between = expressions.number Int (pos 1) 0 ∷ r; first = (0, refl); second = an-item.goes r });
}

module _ (left : ℕ) where
  value-item : (p : Place) → Leads ItemOf p (and_then (value left Sum p) (λ e. pure (item.Value e)))
  value-item p = leads-map (λ tokens rest found. let (s, lawful, level, is) = found in (Printed.PrintedValue s, (level, lawful), is)) (leads-done item.Value (λ _ _. tt) (value-leads left Sum p))

  end-item : (p : Place) → front p ≡ next.Keyword key.Std → Leads ItemOf p (printed_end left p)
  unfolding printed_end keyword_of
  end-item p is =
      leads-map made (leads-then _ (leads-taken key.Std p is) (λ _ q _. leads-then _ (leads-expect sign.Path q) (λ _ s _. leads-done (λ _. item.End) (λ _ _. tt) (leads-word_in (one_word (codes "endl")) (codes "endl") tt refl refl s))
      an-end) (default-chain (a-sign sign.Path) an-end))
    where
      an-end : Default (WordOf (one_word (codes "endl")))
      an-end = a-word (one_word (codes "endl")) (codes "endl") tt refl

      made : (tokens rest : List Token) → Chain (KeywordOf key.Std) (Chain (SignOf sign.Path) (WordOf (one_word (codes "endl")))) tokens rest → ItemOf tokens rest
      made tokens rest c =
          let (l0, is0) = c.first in
          let (l1, is1) = c.second.first in
          let (l2, w, u, meant, is2) = c.second.second in
          let named : w ≡ codes "endl" = word-of (λ (u : Unit {0}). codes "endl") (one_word (codes "endl")) w u (refl, tt) meant in
          (Printed.PrintedEnd (lines_of (l0 ∷ l1 ∷ l2 ∷ [])), tt, is0 ∙ ap (λ l. word (codes "std") l0 ∷ l) (is1 ∙ ap (λ l. sign_at sign.Path l1 ∷ l) (is2 ∙ ap (λ k. word k l2 ∷ rest) named)))

  printed-leads : (p : Place) → Leads ShiftedOf p (printed left p)
  unfolding printed
  printed-leads p = leads-then _ (leads-expect sign.Shl p) (λ _ q _. go q (front q) refl) an-item
    where
      go : (q : Place) (nx : Next) → front q ≡ nx → Leads ItemOf q (printed_by left nx q)
      go q next.Text is = leads-map (λ tokens rest found. let (line, t, is) = found in (Printed.PrintedText line t, tt, is)) (leads-done item.Text (λ _ _. tt) (leads-text q))
      go q (next.Keyword key.Std) is = end-item q is
      go q (next.Keyword k) is = value-item q
      go q other is = value-item q

  items-lead : (turns : ℕ) (found : List Item) (p : Place) → Leads ItemsOf p (items_from left turns found p)
  unfolding items_from
  items-lead zero found p = leads-lacking some-items p (record { token = sign_at sign.Shl 0; more = _; is = refl; no_type = refl })
  items-lead (suc turns) found p =
      leads-map (λ tokens rest c. c.second tokens c.first) (leads-then _ (printed-leads p) (λ shown q _. go shown q (sees sign.Shl q) (items-lead turns (found ++ shown ∷ []) q)) (record { fix = []; goes = last-item }))
    where
      go : (shown : Item) (q : Place) (b : Bool) → Leads ItemsOf q (items_from left turns (found ++ shown ∷ []) q) → Leads MoreItems q (cond b (items_from left turns (found ++ shown ∷ []) q) (Read (found ++ shown ∷ [], q)))
      go shown q true later = leads-map one-more later
      go shown q false later = leading.Whole (found ++ shown ∷ []) q [] refl tt refl last-item

  print-leads : (p : Place) → front p ≡ next.Keyword key.Std → Leads BegunOf p (print left p)
  unfolding print keyword_of
  print-leads p is =
      leads-map made (leads-then _ (leads-taken key.Std p is) (λ _ q _. leads-then _ (leads-expect sign.Path q) (λ _ s _. leads-then _ (leads-word_in (one_word (codes "cout")) (codes "cout") tt refl refl s)
      (λ _ z _. leads-done what.Print (λ _ _. tt) (items-lead (length z.rest) [] z)) some-items) (default-chain out some-items)) (default-chain (a-sign sign.Path) (default-chain out some-items)))
    where
      out : Default (WordOf (one_word (codes "cout")))
      out = a-word (one_word (codes "cout")) (codes "cout") tt refl

      made : (tokens rest : List Token) → Chain (KeywordOf key.Std) (Chain (SignOf sign.Path) (Chain (WordOf (one_word (codes "cout"))) ItemsOf)) tokens rest → BegunOf tokens rest
      made tokens rest c = λ line r end.
          let (l0, is0) = c.first in
          let (l1, is1) = c.second.first in
          let (l2, w, u, meant, is2) = c.second.second.first in
          let (l, some, lawful, is3) = c.second.second.second in
          let named : w ≡ codes "cout" = word-of (λ (u : Unit {0}). codes "cout") (one_word (codes "cout")) w u (refl, tt) meant in (
            Written.Print (lines_of (l0 ∷ l1 ∷ l2 ∷ line ∷ [])) l,
            (some, lawful),
            is0 ∙ ap (λ k. word (codes "std") l0 ∷ k) (is1 ∙ ap (λ k. sign_at sign.Path l1 ∷ k) (is2 ∙ ap (λ k. word k l2 ∷ c.second.second.between) named ∙ ap (λ k. word (codes "cout") l2 ∷ k) (is3 ∙ ap (in_sequence spelling.shifted_in_front l) end))),
          )

  -- ---- each of them

  by_name-leads : (p : Place) → Leads BegunOf p (by_name left p)
  unfolding by_name
  by_name-leads p = go (begins_setting p)
    where
      go : (b : Bool) → Leads BegunOf p (cond b (set left p) (used left p))
      go true = set-leads left p
      go false = used-leads left p

  assigning : (p : Place) → Leads BegunOf p (assignment left p)
  assigning p = leads-map assigns (assignment-leads left p)

  begun-leads : (p : Place) → Leads BegunOf p (begun left p)
  unfolding begun
  begun-leads p = go (front p) refl
    where
      go : (nx : Next) → front p ≡ nx → Leads BegunOf p (short_by left nx p)
      go (next.Keyword key.Int) is = leads-map simply (declaration-leads left p (ap is_type is))
      go (next.Keyword key.Long) is = leads-map simply (declaration-leads left p (ap is_type is))
      go (next.Keyword key.Skepu) is = make-leads left p is
      go (next.Keyword key.Auto) is = instance-leads left p is
      go (next.Keyword key.Std) is = print-leads p is
      go (next.Keyword key.Return) is = returned-leads left p is
      go (next.Keyword k) is = assigning p
      go next.Name is = by_name-leads p
      go other is = assigning p

  pub short-leads : (p : Place) → Leads WrittenOf p (short left p)
  unfolding short
  short-leads p =
      leads-map (λ tokens rest c. let (line, end) = c.second in c.first line rest end) (leads-then _ (begun-leads p) (λ does q _. leads-done (λ _. does) (λ _ _. tt) (leads-expect sign.Semi q)) (a-sign sign.Semi))
