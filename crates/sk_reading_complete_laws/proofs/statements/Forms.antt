-- Parts of statements that no limit stops are read: texts, numbers, names and modes.
use Rattle.std.proofs.Common.{◌≡◌, ℕ, zero, suc, ◌+◌, ◌<◌, ◌≤◌, true, false, inl, inr, List, [], ◌∷◌, ◌++◌, length, map, ℤ, Some, codes, refl, ap, sym, ◌∙◌, arith, append_assoc}
use Rattle.sk_base.specs.declared.number.Ty.{Ty}
use Rattle.sk_base.specs.declared.number.Ty.TheVariants.{Int, Long}
use Rattle.sk_grammar.specs.ExpressionSpelling.{IsName, TokenLines, sign_at, word, typed, string, with_commas, in_sequence, each}
use Rattle.sk_grammar.specs.Signs.{meant_by, Family, mode_words}
use Rattle.sk_grammar.specs.StatementSpelling as spelling
use Rattle.sk_tokens.specs.declared.token.Sign.TheVariants as sign
use Rattle.sk_tokens.specs.declared.token.Token.{Token}
use Rattle.sk_tree.specs.declared.tree.Item.TheVariants as item
use Rattle.sk_tree.specs.declared.tree.Setting.{Setting}
use Rattle.sk_reading.specs.declared.next.Next.{Next}
use Rattle.sk_reading.specs.declared.next.Next.TheVariants as next
use Rattle.sk_reading.specs.declared.reach.Reach.TheVariants.{Sum}
use Rattle.sk_reading.specs.declared.setting.SettingWord.{SettingWord}
use Rattle.sk_reading.specs.declared.setting.SettingWord.TheVariants as words
use Rattle.sk_tree.specs.declared.tree.Setting.TheVariants as setting
use Rattle.sk_reading.specs.Reading.{Place, Read, and_then, keyword_of, front, front_of, advance, sees, after, expect, expect_keyword, sees_keyword, same_sign, same_keyword, text}
use Rattle.sk_reading.specs.ReadingExpressions.{begins_expression}
use Rattle.sk_reading.specs.ReadingAssignments as assignments
use Rattle.sk_reading.specs.ReadingForms as reading
use Rattle.sk_reading_complete_laws.proofs.expressions.Ends.{Ends}
use Rattle.sk_reading_complete_laws.proofs.Steps.{commas_longer}
use Rattle.sk_reading_complete_laws.proofs.Steps.{at, keyword-none, name-ok, number-ok}
use Rattle.sk_reading_complete_laws.proofs.statements.Assignments.{word_in-ok}
use Rattle.sk_base.specs.declared.choice.EdgeMode.{EdgeMode}
use Rattle.sk_base.specs.declared.choice.EdgeMode.TheVariants.{Duplicate, Cyclic, Pad as PadEdge}
use Rattle.sk_reading.proofs.Entries.{meant-first, modes-mapped}
use Rattle.sk_reading_complete_laws.proofs.expressions.Tokens.{longer}

pub text-ok : (t : List ℕ) (line : ℕ) (r : List Token) (n i : ℕ) → text (at (string t line ∷ r) n i) ≡ Read (t, at r n i)
unfolding text advance
text-ok t line r n i = refl

-- ---- declarations

-- by the type that comes first
pub by-type : (t : Ty) (line : ℕ) (left : ℕ) (p : Place) (r : List Token) → front_of r ≡ front_of (typed t line ∷ []) → assignments.simple_by left (front_of r) p ≡ assignments.declaration left p
unfolding keyword_of
by-type Int line left p r h = rw h refl
by-type Long line left p r h = rw h refl

pub not-type : (left : ℕ) (a : spelling.Assignment) → spelling.IsLawfulAssignment a → (r : List Token) (p : Place)
    → assignments.simple_by left (front_of (spelling.assignment_in_front a r)) p ≡ assignments.assignment left p
not-type left (spelling.Assignment.Assign (spelling.Target.Variable line w) line' sg how s) lawful r p = rw (keyword-none w lawful.0) refl
not-type left (spelling.Assignment.Assign (spelling.Target.Element lines w ss) line' sg how s) lawful r p = rw (keyword-none w lawful.0.0) refl
not-type left (spelling.Assignment.Assign (spelling.Target.Bracketed lines w place) line' sg how s) lawful r p = rw (keyword-none w lawful.0.0) refl
not-type left (spelling.Assignment.StepAfter (spelling.Target.Variable line w) line' sg op) lawful r p = rw (keyword-none w lawful.0) refl
not-type left (spelling.Assignment.StepAfter (spelling.Target.Element lines w ss) line' sg op) lawful r p = rw (keyword-none w lawful.0.0) refl
not-type left (spelling.Assignment.StepAfter (spelling.Target.Bracketed lines w place) line' sg op) lawful r p = rw (keyword-none w lawful.0.0) refl
not-type left (spelling.Assignment.StepBefore line sg op t) lawful r p = refl

-- ---- lists

pub numbers-tokens : (l : List ((ℕ × Ty × ℤ) × ℕ)) (r : List Token) → 0 < length l → length r < length (with_commas spelling.a_number l r)
numbers-tokens l r some = omega (arith, commas_longer spelling.a_number (λ w r. omega arith) l r)

numbers_from-ok : (l : List ((ℕ × Ty × ℤ) × ℕ)) → 0 < length l → (line turns : ℕ) (found : List ℤ) (r : List Token) (n i : ℕ)
    → length (with_commas spelling.a_number l (sign_at sign.Gt line ∷ r)) ≤ turns
    → reading.numbers_from turns found (at (with_commas spelling.a_number l (sign_at sign.Gt line ∷ r)) n i)
    ≡ Read (found ++ map (λ written. written.0.2) l, at (sign_at sign.Gt line ∷ r) n i)
unfolding reading.numbers_from sees front after advance same_sign
numbers_from-ok [] some line turns found r n i enough = absurd (omega arith)
numbers_from-ok (a ∷ l) some line zero found r n i enough = absurd (omega (arith, numbers-tokens (a ∷ l) (sign_at sign.Gt line ∷ r) (omega arith)))
numbers_from-ok (a ∷ []) some line (suc turns) found r n i enough = rw (number-ok a.0.1 a.0.2 a.0.0 (sign_at sign.Gt line ∷ r) n i) refl
numbers_from-ok (a ∷ b ∷ l) some line (suc turns) found r n i enough =
    let later = with_commas spelling.a_number (b ∷ l) (sign_at sign.Gt line ∷ r) in
    rw (number-ok a.0.1 a.0.2 a.0.0 (sign_at sign.Comma a.1 ∷ later) n i)
    (numbers_from-ok (b ∷ l) (omega arith) line turns (found ++ a.0.2 ∷ []) r n i (omega arith)
    ∙ ap (λ k. Read (k, at (sign_at sign.Gt line ∷ r) n i)) (append_assoc found (a.0.2 ∷ []) (map (λ written. written.0.2) (b ∷ l))))

pub names-tokens : (l : List ((ℕ × List ℕ) × ℕ)) (r : List Token) → 0 < length l → length r < length (with_commas spelling.a_name l r)
names-tokens l r some = omega (arith, commas_longer spelling.a_name (λ w r. omega arith) l r)

pub names_from-ok : (l : List ((ℕ × List ℕ) × ℕ)) → 0 < length l → each (λ written. IsName written.0.1) l → (line turns : ℕ) (found : List (List ℕ)) (r : List Token) (n i : ℕ)
    → length (with_commas spelling.a_name l (sign_at sign.CloseParen line ∷ r)) ≤ turns
    → reading.names_from turns found (at (with_commas spelling.a_name l (sign_at sign.CloseParen line ∷ r)) n i)
    ≡ Read (found ++ map (λ written. written.0.1) l, at (sign_at sign.CloseParen line ∷ r) n i)
unfolding reading.names_from sees front after advance same_sign
names_from-ok [] some free line turns found r n i enough = absurd (omega arith)
names_from-ok (a ∷ l) some free line zero found r n i enough = absurd (omega (arith, names-tokens (a ∷ l) (sign_at sign.CloseParen line ∷ r) (omega arith)))
names_from-ok (a ∷ []) some free line (suc turns) found r n i enough = rw (name-ok a.0.1 a.0.0 (sign_at sign.CloseParen line ∷ r) n i free.0) refl
names_from-ok (a ∷ b ∷ l) some free line (suc turns) found r n i enough =
    let later = with_commas spelling.a_name (b ∷ l) (sign_at sign.CloseParen line ∷ r) in
    rw (name-ok a.0.1 a.0.0 (sign_at sign.Comma a.1 ∷ later) n i free.0)
    (names_from-ok (b ∷ l) (omega arith) free.1 line turns (found ++ a.0.1 ∷ []) r n i (omega arith)
    ∙ ap (λ k. Read (k, at (sign_at sign.CloseParen line ∷ r) n i)) (append_assoc found (a.0.1 ∷ []) (map (λ written. written.0.1) (b ∷ l))))

pub numbers-ok : (ns : spelling.Numbers) → spelling.AreLawfulNumbers ns → (line : ℕ) (r : List Token) (n i : ℕ)
    → reading.numbers (at (spelling.numbers_in_front ns (sign_at sign.OpenParen line ∷ r)) n i) ≡ Read (spelling.numbers_tree ns, at (sign_at sign.OpenParen line ∷ r) n i)
unfolding reading.numbers sees front after advance same_sign expect
numbers-ok spelling.Numbers.NoNumbers lawful line r n i = refl
numbers-ok (spelling.Numbers.Between lines l) lawful line r n i =
    let rest = sign_at sign.OpenParen line ∷ r in
    rw (numbers_from-ok l lawful (lines 1) (length (with_commas spelling.a_number l (sign_at sign.Gt (lines 1) ∷ rest))) [] rest n i (omega arith)) refl

-- ---- settings

pub mode-ok : {A : Type 0} (lines : TokenLines) (family : List (List ℕ × Unit {0})) (modes : List (List ℕ × A)) (f m : List ℕ) (a : A) (r : List Token) (n i : ℕ)
    → meant_by family f ≡ Some tt → meant_by modes m ≡ Some a
    → reading.mode family modes (at (word (codes "skepu") (lines 4) ∷ sign_at sign.Path (lines 5) ∷ word f (lines 6) ∷ sign_at sign.Path (lines 7) ∷ word m (lines 8) ∷ r) n i) ≡ Read (a, at r n i)
unfolding reading.mode front advance sees expect same_sign keyword_of expect_keyword sees_keyword same_keyword
mode-ok lines family modes f m a r n i is-family is-mode =
    rw (word_in-ok family f tt (lines 6) (sign_at sign.Path (lines 7) ∷ word m (lines 8) ∷ r) n i is-family) (rw (word_in-ok modes m a (lines 8) r n i is-mode) refl)

unfoldable pub mode-tokens : TokenLines → List ℕ → List ℕ → List Token → List Token
mode-tokens lines f m r = word (codes "skepu") (lines 4) ∷ sign_at sign.Path (lines 5) ∷ word f (lines 6) ∷ sign_at sign.Path (lines 7) ∷ word m (lines 8) ∷ r

-- what a setting with this family's mode reads as
pub family-reads : (lines : TokenLines) (k : List ℕ) (family : Family) (m : List ℕ) (made : Setting) → meant_by mode_words k ≡ Some family → meant_by family.modes m ≡ Some made
    → (left : ℕ) (r : List Token) (n i : ℕ)
    → (kind : SettingWord) × (meant_by reading.setting_words k ≡ Some kind) × (reading.set_by left kind (at (mode-tokens lines family.name m r) n i) ≡ Read (made, at r n i))
unfolding mode-tokens
family-reads lines k family m made is-family is-mode left r n i = elim (meant-first scan-entry (lines-entry ∷ edge-entry ∷ []) k family is-family) [
  | inl here ↦ (
      let same : family.modes ≡ scan-entry.1.modes = ap (λ (f : Family). f.modes) here.1 in
      let (b, meant, is) = modes-mapped setting.Scan reading.scan_words m made (ap (λ l. meant_by l m) (sym same) ∙ is-mode) in (
        words.Scan,
        ap (meant_by reading.setting_words) here.0,
        rw (mode-ok lines (reading.one_word (codes "ScanMode")) reading.scan_words family.name m b r n i (ap (λ (f : Family). meant_by (reading.one_word (codes "ScanMode")) f.name) here.1) meant)
            (ap (λ s. Read (s, at r n i)) is),
      ))
  | inr later ↦ elim (meant-first lines-entry (edge-entry ∷ []) k family later) [
    | inl here ↦ (
        let same : family.modes ≡ lines-entry.1.modes = ap (λ (f : Family). f.modes) here.1 in
        let (b, meant, is) = modes-mapped setting.Lines reading.line_words m made (ap (λ l. meant_by l m) (sym same) ∙ is-mode) in (
          words.Lines,
          ap (meant_by reading.setting_words) here.0,
          rw (mode-ok lines (reading.one_word (codes "ReduceMode")) reading.line_words family.name m b r n i (ap (λ (f : Family). meant_by (reading.one_word (codes "ReduceMode")) f.name) here.1) meant)
              (ap (λ s. Read (s, at r n i)) is),
        ))
    | inr later' ↦ elim (meant-first edge-entry [] k family later') [
      | inl here ↦ (
          let same : family.modes ≡ edge-entry.1.modes = ap (λ (f : Family). f.modes) here.1 in
          let (b, meant, is) = modes-mapped setting.Edge edge-modes m made (ap (λ l. meant_by l m) (sym same) ∙ is-mode) in (
            words.Edge,
            ap (meant_by reading.setting_words) here.0,
            rw (mode-ok lines (reading.one_word (codes "Edge")) edge-modes family.name m b r n i (ap (λ (f : Family). meant_by (reading.one_word (codes "Edge")) f.name) here.1) meant)
                (ap (λ s. Read (s, at r n i)) is),
          ))
      | inr none ↦ absurd (cc)
    ]
  ]
]
  where
    scan-entry : List ℕ × Family
    scan-entry = (codes "setScanMode", record { name = codes "ScanMode"; modes = (codes "Inclusive", setting.Scan false) ∷ (codes "Exclusive", setting.Scan true) ∷ [] })

    lines-entry : List ℕ × Family
    lines-entry = (codes "setReduceMode", record { name = codes "ReduceMode"; modes = (codes "RowWise", setting.Lines false) ∷ (codes "ColWise", setting.Lines true) ∷ [] })

    edge-entry : List ℕ × Family
    edge-entry = (codes "setEdgeMode", record { name = codes "Edge"; modes = (codes "Duplicate", setting.Edge Duplicate) ∷ (codes "Cyclic", setting.Edge Cyclic) ∷ (codes "Pad", setting.Edge PadEdge) ∷ [] })

    edge-modes : List (List ℕ × EdgeMode)
    edge-modes = (codes "Duplicate", Duplicate) ∷ (codes "Cyclic", Cyclic) ∷ (codes "Pad", PadEdge) ∷ []

-- ---- prints

pub items-tokens : (l : List (ℕ × spelling.Printed)) (r : List Token) → each (λ printed. spelling.IsLawfulPrinted printed.1) l → length l + length r ≤ length (in_sequence spelling.shifted_in_front l r)
items-tokens [] r lawful = omega arith
items-tokens ((line, spelling.Printed.PrintedText line' t) ∷ l) r lawful = omega (arith, items-tokens l r lawful.1)
items-tokens ((line, spelling.Printed.PrintedEnd lines) ∷ l) r lawful = omega (arith, items-tokens l r lawful.1)
items-tokens ((line, spelling.Printed.PrintedValue s) ∷ l) r lawful = omega (arith, items-tokens l r lawful.1, longer s (in_sequence spelling.shifted_in_front l r))

-- what follows an item
pub follows-item : (l : List (ℕ × spelling.Printed)) (line : ℕ) (r : List Token) → Ends 2 (in_sequence spelling.shifted_in_front l (sign_at sign.Semi line ∷ r))
follows-item [] line r = tt
follows-item (a ∷ l) line r = omega arith

pub value-first : (left : ℕ) (nx : Next) (p : Place) → begins_expression nx ≡ true → reading.printed_by left nx p ≡ and_then (assignments.value left Sum p) (λ e q. Read (item.Value e, q))
value-first left (next.Keyword k) p h = absurd (cc)
value-first left next.Text p h = absurd (cc)
value-first left other p h = refl
