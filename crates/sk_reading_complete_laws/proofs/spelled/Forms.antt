-- Lawful spellings of statements without others in them are read as far as their marks allow.
use Rattle.std.proofs.Common.{◌≡◌, ℕ, zero, suc, ◌+◌, ◌<◌, ◌≤◌, inl, inr, List, [], ◌∷◌, ◌++◌, length, map, Some, codes, refl, ap, sym, arith, append_assoc}
use Rattle.sk_base.specs.declared.number.Ty.{Ty}
use Rattle.sk_grammar.specs.ExpressionSpelling.{Expression, Arguments, in_front, arguments_in_front, tree_in, trees_in, IsLawful, AreLawful, IsName, TokenLines, sign_at, word, typed, string, with_commas, in_sequence, each}
use Rattle.sk_grammar.specs.Limits.{nodes_in}
use Rattle.sk_grammar.specs.Signs.{meant_by, container_words, skeleton_words, value_words, Family, mode_words}
use Rattle.sk_grammar.specs.StatementSpelling as spelling
use Rattle.sk_refusals.specs.Marks.{Marks, mark, marks, own_marks, each_own_marks, listed_marks, numbers_marks, shifted_marks, sequence_marks, written_marks}
use Rattle.sk_tokens.specs.declared.token.Sign.TheVariants as sign
use Rattle.sk_tokens.specs.declared.token.Token.{Token}
use Rattle.sk_tree.specs.declared.tree.Expr.{Expr}
use Rattle.sk_tree.specs.declared.tree.Item.{Item}
use Rattle.sk_tree.specs.declared.tree.Setting.{Setting}
use Rattle.sk_tree.specs.declared.tree.Setting.TheVariants as setting
use Rattle.sk_tree.specs.declared.tree.Skeleton.{Skeleton}
use Rattle.sk_tree.specs.declared.tree.What.{What}
use Rattle.sk_tree.specs.declared.tree.What.TheVariants as what
use Rattle.sk_reading.specs.declared.setting.SettingWord.{SettingWord}
use Rattle.sk_reading.specs.declared.setting.SettingWord.TheVariants as words
use Rattle.sk_reading.specs.Reading.{Read, keyword_of, front, front_of, advance, sees, expect, expect_keyword, sees_keyword, same_sign, same_keyword}
use Rattle.sk_reading.specs.ReadingAssignments as assignments
use Rattle.sk_reading.specs.ReadingForms as reading
use Rattle.sk_reading.proofs.Entries.{meant-first}
use Rattle.sk_reading_complete_laws.proofs.expressions.Ends.{Ends}
use Rattle.sk_reading_complete_laws.proofs.expressions.Starts.{starts}
use Rattle.sk_reading_complete_laws.proofs.statements.Assignments.{word_in-ok, last_nodes}
use Rattle.sk_reading_complete_laws.proofs.statements.Forms.{text-ok, numbers-ok, names_from-ok, mode-tokens, family-reads, items-tokens, follows-item, value-first}
use Rattle.sk_reading_complete_laws.proofs.Steps.{at, keyword-none, name-ok, ty-ok}
use Rattle.sk_reading_complete_laws.proofs.spelled.Assignments.{value-judged, sum-judged, value_inside-judged, places-judged, target-judged}
use Rattle.sk_reading_complete_laws.proofs.spelled.Judged.{Judged, Goes, Here, plain, next, next_marks, next_listed, next_numbers, judged-then, judged-trans, renamed, opening, opening_by, counted_instance}
use Rattle.sk_reading_complete_laws.proofs.spelled.Lengths.{expression-length, each_own-length, listed-length, numbers-length, items-length}

-- before its `;`
abbrev pub JudgesBegun : What → (left depth m j : ℕ) (tokens : List Token) (n i line : ℕ) (r : List Token) (rest from : Marks) → Type 0
JudgesBegun does left depth m j tokens n i line r rest from =
    Judged (reading.begun left (at tokens n i)) (Read (does, at (sign_at sign.Semi line ∷ r) m j)) (mark depth ∷ rest) from

pub ended-judged : (does : What) (left depth m j : ℕ) (tokens : List Token) (n i line : ℕ) (r : List Token) (rest from : Marks) → depth ≤ 64
    → JudgesBegun does left depth m j tokens n i line r rest from → Judged (reading.short left (at tokens n i)) (Read (does, at r m j)) rest from
unfolding reading.short expect sees front advance same_sign
ended-judged does left depth m j tokens n i line r rest from within judged = judged-then _ judged (next (plain depth within) (Goes refl Here))

-- ---- containers

pub make-judged : (lines : TokenLines) (k : List ℕ) (sizes : ℕ) (t : Ty) (w : List ℕ) (ss : Arguments) → meant_by container_words k ≡ Some sizes → IsName w → AreLawful ss
    → (left depth : ℕ) (r : List Token) (rest : Marks) → depth + left ≡ 64 → length r ≡ length rest → (n i : ℕ)
    → JudgesBegun (what.Make sizes t w (trees_in ss)) left depth (last_nodes ss) i (spelling.written_in_front (spelling.Written.Make lines k sizes t w ss) r) n i (lines 9) r rest
    (written_marks (spelling.Written.Make lines k sizes t w ss) depth i rest)
unfolding reading.begun reading.make reading.filled front advance sees expect same_sign keyword_of
make-judged lines k sizes t w ss meant free lawful left depth r rest within same n i =
    let end = sign_at sign.Semi (lines 9) ∷ r in
    let later = arguments_in_front ss (sign_at sign.CloseParen (lines 8) ∷ end) in
    let named = word w (lines 6) ∷ sign_at sign.OpenParen (lines 7) ∷ later in
    let inner = mark (suc depth) in
    let marked = each_own_marks ss (suc depth) (inner ∷ mark depth ∷ rest) in
    let lengths = each_own-length ss (suc depth) (sign_at sign.CloseParen (lines 8) ∷ end) (inner ∷ mark depth ∷ rest) (omega arith) in
    rw (word_in-ok container_words k sizes (lines 2) (sign_at sign.Lt (lines 3) ∷ typed t (lines 4) ∷ sign_at sign.Gt (lines 5) ∷ named) n i meant)
    (rw (ty-ok t (lines 4) (sign_at sign.Gt (lines 5) ∷ named) n i)
    (rw (name-ok w (lines 6) (sign_at sign.OpenParen (lines 7) ∷ later) n i free)
    (next_marks 7 depth (omega arith) (opening _ left depth inner marked (sign_at sign.OpenParen (lines 7) ∷ later) n i within (omega arith) (omega (arith, lengths)) (λ inside opens deeper.
    next (plain (suc depth) deeper) (judged-then _ (places-judged ss lawful left inside depth (lines 8) end (mark depth ∷ rest) opens within (omega arith) n i) (next (plain (suc depth) deeper) (Goes refl Here))))))))

pub take-judged : (lines : TokenLines) (k : List ℕ) (sizes : ℕ) (t : Ty) (w input : List ℕ) → meant_by container_words k ≡ Some sizes → IsName w
    → (left depth : ℕ) (r : List Token) (rest : Marks) → depth + left ≡ 64 → length r ≡ length rest → (n i : ℕ)
    → JudgesBegun (what.Take sizes t w input) left depth n i (spelling.written_in_front (spelling.Written.Take lines k sizes t w input) r) n i (lines 12) r rest
    (written_marks (spelling.Written.Take lines k sizes t w input) depth i rest)
unfolding reading.begun reading.make reading.input front advance sees expect same_sign keyword_of expect_keyword sees_keyword same_keyword
take-judged lines k sizes t w input meant free left depth r rest within same n i =
    let end = sign_at sign.CloseParen (lines 11) ∷ sign_at sign.Semi (lines 12) ∷ r in
    let behind = string input (lines 10) ∷ end in
    let after_name = sign_at sign.Eq (lines 7) ∷ word (codes "skepu_input") (lines 8) ∷ sign_at sign.OpenParen (lines 9) ∷ behind in
    let named = word w (lines 6) ∷ after_name in
    let inner = mark (suc depth) in
    rw (word_in-ok container_words k sizes (lines 2) (sign_at sign.Lt (lines 3) ∷ typed t (lines 4) ∷ sign_at sign.Gt (lines 5) ∷ named) n i meant)
    (rw (ty-ok t (lines 4) (sign_at sign.Gt (lines 5) ∷ named) n i)
    (rw (name-ok w (lines 6) after_name n i free)
    (next_marks 9 depth (omega arith) (opening_by sign.OpenParen _ left depth inner (inner ∷ inner ∷ mark depth ∷ rest) (lines 9) behind n i refl within (omega arith) (omega arith) (λ inside opens deeper.
    rw (text-ok input (lines 10) end n i) (next_marks 3 (suc depth) deeper (Goes refl Here)))))))

-- ---- instances

pub instance-judged : (lines : TokenLines) (w k : List ℕ) (skeleton : Skeleton) (ns : spelling.Numbers) (fs : List ((ℕ × List ℕ) × ℕ))
    → IsName w → meant_by skeleton_words k ≡ Some skeleton → spelling.AreLawfulNumbers ns → 0 < length fs → each (λ written. IsName written.0.1) fs
    → (left depth : ℕ) (r : List Token) (rest : Marks) → depth + left ≡ 64 → length r ≡ length rest → (n i : ℕ)
    → JudgesBegun (spelling.written_tree (spelling.Written.Instantiate lines w k skeleton ns fs)).what left depth n (suc i)
    (spelling.written_in_front (spelling.Written.Instantiate lines w k skeleton ns fs) r) n i (lines 8) r rest
    (written_marks (spelling.Written.Instantiate lines w k skeleton ns fs) depth i rest)
unfolding reading.begun reading.instance reading.names front advance sees expect same_sign keyword_of expect_keyword sees_keyword same_keyword
instance-judged lines w k skeleton ns fs free meant lawful some names left depth r rest within same n i =
    let end = sign_at sign.Semi (lines 8) ∷ r in
    let listed = with_commas spelling.a_name fs (sign_at sign.CloseParen (lines 7) ∷ end) in
    let numbered = spelling.numbers_in_front ns (sign_at sign.OpenParen (lines 6) ∷ listed) in
    let after_name = sign_at sign.Eq (lines 2) ∷ word (codes "skepu") (lines 3) ∷ sign_at sign.Path (lines 4) ∷ word k (lines 5) ∷ numbered in
    let inner = mark (suc depth) in
    let behind = listed_marks fs (suc depth) (inner ∷ mark depth ∷ rest) in
    let few = listed-length spelling.a_name (λ a r. refl) fs (suc depth) (sign_at sign.CloseParen (lines 7) ∷ end) (inner ∷ mark depth ∷ rest) (omega arith) in
    let lengths = numbers-length ns depth (sign_at sign.OpenParen (lines 6) ∷ listed) (inner ∷ behind) (omega (arith, few)) in
    counted_instance _ depth n i (word (codes "auto") (lines 0) ∷ word w (lines 1) ∷ after_name) (marks 5 depth (numbers_marks ns depth (inner ∷ behind))) (omega arith) (omega (arith, lengths)) (λ fine.
    rw (name-ok w (lines 1) after_name n (suc i) free)
    (rw (word_in-ok skeleton_words k skeleton (lines 5) numbered n (suc i) meant)
    (rw (numbers-ok ns lawful (lines 6) listed n (suc i))
    (next fine (next_marks 5 depth (omega arith) (next_numbers ns depth (omega arith)
    (opening_by sign.OpenParen _ left depth inner behind (lines 6) listed n (suc i) refl within (omega arith) (omega (arith, few)) (λ inside opens deeper.
    rw (names_from-ok fs some names (lines 7) (length listed) [] end n (suc i) (omega arith))
    (next (plain (suc depth) deeper) (next_listed fs (suc depth) deeper (next (plain (suc depth) deeper) (Goes refl Here))))))))))))

-- ---- results, calls

pub return-judged : (lines : TokenLines) (s : Expression) → IsLawful s → (left depth : ℕ) (r : List Token) (rest : Marks) → depth + left ≡ 64 → length r ≡ length rest → (n i : ℕ)
    → JudgesBegun (what.Return (tree_in s)) left depth (nodes_in s) i (spelling.written_in_front (spelling.Written.Return lines s) r) n i (lines 1) r rest
    (written_marks (spelling.Written.Return lines s) depth i rest)
unfolding reading.begun reading.returned front advance keyword_of
return-judged lines s lawful left depth r rest within same n i =
    next (plain depth (omega arith)) (judged-then _ (value-judged s lawful left depth (sign_at sign.Semi (lines 1) ∷ r) (mark depth ∷ rest) within (omega arith) tt n i) (Goes refl Here))

pub call-judged : (lines : TokenLines) (w : List ℕ) (ss : Arguments) → IsName w → AreLawful ss → (left depth : ℕ) (r : List Token) (rest : Marks) → depth + left ≡ 64 → length r ≡ length rest → (n i : ℕ)
    → JudgesBegun (what.Call w (trees_in ss)) left depth (last_nodes ss) i (spelling.written_in_front (spelling.Written.Call lines w ss) r) n i (lines 3) r rest
    (written_marks (spelling.Written.Call lines w ss) depth i rest)
unfolding reading.begun reading.by_name reading.begins_setting reading.used front advance sees same_sign
call-judged lines w ss free lawful left depth r rest within same n i =
    rw (keyword-none w free) (judged-then _ (target-judged (spelling.Target.Element lines w ss) (free, lawful) left depth (sign_at sign.Semi (lines 3) ∷ r) (mark depth ∷ rest) within (omega arith) refl n i)
    (Goes refl Here))

-- ---- settings

set-judged : (lines : TokenLines) (w k : List ℕ) (kind : SettingWord) (made : Setting) (within_it : List Token) (marked : Marks) → IsName w → meant_by reading.setting_words k ≡ Some kind
    → (left depth : ℕ) (r : List Token) (rest : Marks) → depth + left ≡ 64 → length within_it ≡ length marked → (n m i : ℕ)
    → ((inside : ℕ) → left ≡ suc inside → suc depth ≤ 64
    → Judged (reading.set_by left kind (at within_it n i)) (Read (made, at (sign_at sign.CloseParen (lines 4) ∷ sign_at sign.Semi (lines 5) ∷ r) m i)) (mark (suc depth) ∷ mark depth ∷ rest) marked)
    → JudgesBegun (what.Set w made) left depth m i (word w (lines 0) ∷ sign_at sign.Dot (lines 1) ∷ word k (lines 2) ∷ sign_at sign.OpenParen (lines 3) ∷ within_it) n i (lines 5) r rest
    (marks 3 depth (mark (suc depth) ∷ marked))
unfolding reading.begun reading.by_name reading.begins_setting reading.set front advance sees expect same_sign
set-judged lines w k kind made within_it marked free meant left depth r rest within lengths n m i judges =
    rw (keyword-none w free)
    (rw (name-ok w (lines 0) (sign_at sign.Dot (lines 1) ∷ word k (lines 2) ∷ sign_at sign.OpenParen (lines 3) ∷ within_it) n i free)
    (rw (word_in-ok reading.setting_words k kind (lines 2) (sign_at sign.OpenParen (lines 3) ∷ within_it) n i meant)
    (next_marks 3 depth (omega arith) (opening_by sign.OpenParen _ left depth (mark (suc depth)) marked (lines 3) within_it n i refl within (omega arith) (omega (arith, lengths)) (λ inside opens deeper.
    next (plain (suc depth) deeper) (judged-then _ (judges inside opens deeper) (next (plain (suc depth) deeper) (Goes refl Here))))))))

pub set_value-judged : (lines : TokenLines) (w k : List ℕ) (sets : Expr → Setting) (s : Expression) → IsName w → meant_by value_words k ≡ Some sets → IsLawful s
    → (left depth : ℕ) (r : List Token) (rest : Marks) → depth + left ≡ 64 → length r ≡ length rest → (n i : ℕ)
    → JudgesBegun (what.Set w (sets (tree_in s))) left depth (nodes_in s) i (spelling.written_in_front (spelling.Written.SetValue lines w k sets s) r) n i (lines 5) r rest
    (written_marks (spelling.Written.SetValue lines w k sets s) depth i rest)
set_value-judged lines w k sets s free meant lawful left depth r rest within same n i = elim (meant-first (codes "setStartValue", setting.Start) ((codes "setPad", setting.Pad) ∷ []) k sets meant) [
  | inl here ↦ set-judged lines w k words.Start (sets (tree_in s)) within_it marked free (ap (meant_by reading.setting_words) here.0) left depth r rest within lengths n (nodes_in s) i
      (λ inside opens deeper. judged-then _ (reads inside opens) (Goes (ap (λ (f : Expr → Setting). Read (f (tree_in s), at end (nodes_in s) i)) (sym here.1)) Here))
  | inr later ↦ elim (meant-first (codes "setPad", setting.Pad) [] k sets later) [
    | inl here ↦ set-judged lines w k words.Pad (sets (tree_in s)) within_it marked free (ap (meant_by reading.setting_words) here.0) left depth r rest within lengths n (nodes_in s) i
        (λ inside opens deeper. judged-then _ (reads inside opens) (Goes (ap (λ (f : Expr → Setting). Read (f (tree_in s), at end (nodes_in s) i)) (sym here.1)) Here))
    | inr none ↦ absurd (cc)
  ]
]
  where
    end : List Token
    end = sign_at sign.CloseParen (lines 4) ∷ sign_at sign.Semi (lines 5) ∷ r

    within_it : List Token
    within_it = in_front s end

    marked : Marks
    marked = own_marks s (suc depth) (mark (suc depth) ∷ mark depth ∷ rest)

    lengths : length within_it ≡ length marked
    lengths = expression-length s (suc depth) 0 end (mark (suc depth) ∷ mark depth ∷ rest) (omega arith)

    reads : (inside : ℕ) → left ≡ suc inside
        → Judged (assignments.value_inside left (at within_it n i)) (Read (tree_in s, at end (nodes_in s) i)) (mark (suc depth) ∷ mark depth ∷ rest) marked
    reads inside opens = value_inside-judged s lawful left inside depth end (mark (suc depth) ∷ mark depth ∷ rest) opens within (omega arith) tt n i

pub set_overlap-judged : (lines : TokenLines) (w : List ℕ) (ss : Arguments) → IsName w → AreLawful ss → (left depth : ℕ) (r : List Token) (rest : Marks) → depth + left ≡ 64 → length r ≡ length rest → (n i : ℕ)
    → JudgesBegun (what.Set w (setting.Overlap (trees_in ss))) left depth (last_nodes ss) i (spelling.written_in_front (spelling.Written.SetOverlap lines w ss) r) n i (lines 5) r rest
    (written_marks (spelling.Written.SetOverlap lines w ss) depth i rest)
set_overlap-judged lines w ss free lawful left depth r rest within same n i =
    let end = sign_at sign.Semi (lines 5) ∷ r in
    let behind = mark (suc depth) ∷ mark depth ∷ rest in
    set-judged lines w (codes "setOverlap") words.Overlap (setting.Overlap (trees_in ss)) (arguments_in_front ss (sign_at sign.CloseParen (lines 4) ∷ end)) (each_own_marks ss (suc depth) behind) free refl
    left depth r rest within (each_own-length ss (suc depth) (sign_at sign.CloseParen (lines 4) ∷ end) behind (omega arith)) n (last_nodes ss) i
    (λ inside opens deeper. judged-then _ (places-judged ss lawful left inside depth (lines 4) end (mark depth ∷ rest) opens within (omega arith) n i) (Goes refl Here))

pub set_mode-judged : (lines : TokenLines) (w k : List ℕ) (family : Family) (m : List ℕ) (made : Setting) → IsName w → meant_by mode_words k ≡ Some family → meant_by family.modes m ≡ Some made
    → (left depth : ℕ) (r : List Token) (rest : Marks) → depth + left ≡ 64 → length r ≡ length rest → (n i : ℕ)
    → JudgesBegun (what.Set w made) left depth n i (spelling.written_in_front (spelling.Written.SetMode lines w k family m made) r) n i (lines 10) r rest
    (written_marks (spelling.Written.SetMode lines w k family m made) depth i rest)
unfolding mode-tokens
set_mode-judged lines w k family m made free is-family is-mode left depth r rest within same n i =
    let end = sign_at sign.CloseParen (lines 9) ∷ sign_at sign.Semi (lines 10) ∷ r in
    let (kind, meant, read) = family-reads lines k family m made is-family is-mode left end n i in
    set-judged (λ at. lines-of-set lines at) w k kind made (mode-tokens lines family.name m end) (marks 5 (suc depth) (mark (suc depth) ∷ mark depth ∷ rest)) free meant left depth r rest within (omega arith) n n i
    (λ inside opens deeper. next_marks 5 (suc depth) deeper (Goes read Here))
  where
    lines-of-set : TokenLines → ℕ → ℕ
    lines-of-set lines zero = lines 0
    lines-of-set lines (suc zero) = lines 1
    lines-of-set lines (suc (suc zero)) = lines 2
    lines-of-set lines (suc (suc (suc zero))) = lines 3
    lines-of-set lines (suc (suc (suc (suc zero)))) = lines 9
    lines-of-set lines (suc (suc (suc (suc (suc more))))) = lines 10

-- ---- prints

abbrev printed_nodes : spelling.Printed → ℕ → ℕ
printed_nodes (spelling.Printed.PrintedText line t) n = n
printed_nodes (spelling.Printed.PrintedEnd lines) n = n
printed_nodes (spelling.Printed.PrintedValue s) n = nodes_in s

printed-judged : (a : ℕ × spelling.Printed) → spelling.IsLawfulPrinted a.1 → (left depth : ℕ) (r : List Token) (rest : Marks) → depth + left ≡ 64 → length r ≡ length rest → Ends 2 r → (n i : ℕ)
    → Judged (reading.printed left (at (spelling.shifted_in_front a r) n i)) (Read (spelling.printed_tree a.1, at r (printed_nodes a.1 n) i)) rest (shifted_marks depth a rest)
unfolding reading.printed reading.printed_end front advance sees expect same_sign keyword_of
printed-judged (line, spelling.Printed.PrintedText line' t) lawful left depth r rest within same h n i =
    next (plain depth (omega arith)) (next (plain depth (omega arith)) (Goes (rw (text-ok t line' r n i) refl) Here))
printed-judged (line, spelling.Printed.PrintedEnd lines) lawful left depth r rest within same h n i =
    next (plain depth (omega arith)) (next_marks 3 depth (omega arith) (Goes (rw (word_in-ok (reading.one_word (codes "endl")) (codes "endl") tt (lines 2) r n i refl) refl) Here))
printed-judged (line, spelling.Printed.PrintedValue s) lawful left depth r rest within same h n i =
    next (plain depth (omega arith)) (renamed (value-first left (front_of (in_front s r)) (at (in_front s r) n i) (starts s r lawful.1))
    (judged-then _ (sum-judged s lawful.1 lawful.0 left depth r rest within same h n i) (Goes refl Here)))

items-judged : (l : List (ℕ × spelling.Printed)) → 0 < length l → each (λ printed. spelling.IsLawfulPrinted printed.1) l → (left depth line turns : ℕ) (found : List Item) (r : List Token) (rest : Marks)
    → depth + left ≡ 64 → length r ≡ length rest → (n i : ℕ) → length l ≤ turns
    → (m : ℕ) × Judged (reading.items_from left turns found (at (in_sequence spelling.shifted_in_front l (sign_at sign.Semi line ∷ r)) n i))
    (Read (found ++ map (λ printed. spelling.printed_tree printed.1) l, at (sign_at sign.Semi line ∷ r) m i)) (mark depth ∷ rest) (sequence_marks (shifted_marks depth) l (mark depth ∷ rest))
unfolding reading.items_from sees front same_sign
items-judged [] some lawful left depth line turns found r rest within same n i enough = absurd (omega arith)
items-judged (a ∷ l) some lawful left depth line zero found r rest within same n i enough = absurd (omega arith)
items-judged (a ∷ []) some lawful left depth line (suc turns) found r rest within same n i enough =
    (printed_nodes a.1 n, judged-then _ (printed-judged a lawful.0 left depth (sign_at sign.Semi line ∷ r) (mark depth ∷ rest) within (omega arith) tt n i) (Goes refl Here))
items-judged (a ∷ b ∷ l) some lawful left depth line (suc turns) found r rest within same n i enough =
    let end = sign_at sign.Semi line ∷ r in
    let later = in_sequence spelling.shifted_in_front (b ∷ l) end in
    let (m, others) = items-judged (b ∷ l) (omega arith) lawful.1 left depth line turns (found ++ spelling.printed_tree a.1 ∷ []) r rest within same (printed_nodes a.1 n) i (omega arith) in (
      m,
      judged-then _ (printed-judged a lawful.0 left depth later (sequence_marks (shifted_marks depth) (b ∷ l) (mark depth ∷ rest)) within
          (items-length (b ∷ l) depth end (mark depth ∷ rest) (omega arith)) (follows-item (b ∷ l) line r) n i)
          (judged-trans others (Goes (ap (λ k. Read (k, at end m i)) (append_assoc found (spelling.printed_tree a.1 ∷ []) (map (λ printed. spelling.printed_tree printed.1) (b ∷ l)))) Here)),
    )

pub print-judged : (lines : TokenLines) (l : List (ℕ × spelling.Printed)) → 0 < length l → each (λ printed. spelling.IsLawfulPrinted printed.1) l
    → (left depth : ℕ) (r : List Token) (rest : Marks) → depth + left ≡ 64 → length r ≡ length rest → (n i : ℕ)
    → (m : ℕ) × JudgesBegun (what.Print (map (λ printed. spelling.printed_tree printed.1) l)) left depth m i (spelling.written_in_front (spelling.Written.Print lines l) r) n i (lines 3) r rest
    (written_marks (spelling.Written.Print lines l) depth i rest)
unfolding reading.begun reading.print front advance sees expect same_sign keyword_of
print-judged lines l some lawful left depth r rest within same n i =
    let later = in_sequence spelling.shifted_in_front l (sign_at sign.Semi (lines 3) ∷ r) in
    let (m, read) = items-judged l some lawful left depth (lines 3) (length later) [] r rest within same n i (omega (arith, items-tokens l (sign_at sign.Semi (lines 3) ∷ r) lawful)) in
    (m, rw (word_in-ok (reading.one_word (codes "cout")) (codes "cout") tt (lines 2) later n i refl) (next_marks 3 depth (omega arith) (judged-then _ read (Goes refl Here))))
