-- What is read as a setting has a lawful spelling that keeps the limits.
use Rattle.std.proofs.Common.{◌≡◌, ℕ, suc, true, false, List, [], ◌∷◌, map, Some, IsTrue, codes, refl, ap, sym, subst, ◌∙◌, arith}
use Rattle.sk_base.specs.declared.choice.EdgeMode.TheVariants.{Duplicate, Cyclic, Pad as PadEdge}
use Rattle.sk_grammar.specs.ExpressionSpelling.{in_front, arguments_in_front, sign_at, word}
use Rattle.sk_grammar.specs.Limits.{WrittenFits, written_instances}
use Rattle.sk_grammar.specs.Signs.{meant_by, value_words, Family, mode_words}
use Rattle.sk_grammar.specs.StatementSpelling.{Written, written_in_front, written_tree, IsLawfulStatement, at_line}
use Rattle.sk_names.specs.Words.{is_name}
use Rattle.sk_tokens.specs.declared.token.Sign.TheVariants as sign
use Rattle.sk_tokens.specs.declared.token.Token.{Token}
use Rattle.sk_tree.specs.declared.tree.Expr.{Expr}
use Rattle.sk_tree.specs.declared.tree.Setting.{Setting}
use Rattle.sk_tree.specs.declared.tree.Setting.TheVariants as setting
use Rattle.sk_tree.specs.declared.tree.What.{What}
use Rattle.sk_tree.specs.declared.tree.What.TheVariants as what
use Rattle.sk_reading.specs.declared.keyword.Keyword.TheVariants as key
use Rattle.sk_reading.specs.declared.setting.SettingWord.{SettingWord}
use Rattle.sk_reading.specs.declared.setting.SettingWord.TheVariants as words
use Rattle.sk_reading.specs.Reading.{Place, Read, expect, expect_keyword, name, word_in, opened_by, line_of}
use Rattle.sk_reading.specs.ReadingAssignments as assignments
use Rattle.sk_reading.specs.ReadingForms as reading
use Rattle.sk_reading_sound_laws.proofs.Steps.{lines_of, bound, along, expect-takes, name-takes, word_in-takes, expect_keyword-takes, opened_by-takes}
use Rattle.sk_reading.proofs.Entries.{word-of, mapped}
use Rattle.sk_reading_sound_laws.proofs.statements.Assignments.{inside-sound, places-sound}
use Rattle.sk_reading_sound_laws.proofs.statements.Started.{Started}

-- what stands between a setting's parentheses, and the setting
record SetsTo (left : ℕ) (p : Place) (kind : SettingWord) (made : Setting) (q : Place) : Type 0 where
  written : (l0 l1 l2 l3 l4 line : ℕ) (w kw : List ℕ) → Written
  lawful : (l0 l1 l2 l3 l4 line : ℕ) (w kw : List ℕ) → IsTrue (is_name w) → meant_by reading.setting_words kw ≡ Some kind → IsLawfulStatement (written l0 l1 l2 l3 l4 line w kw)
  fits : (l0 l1 l2 l3 l4 line : ℕ) (w kw : List ℕ) → WrittenFits (written l0 l1 l2 l3 l4 line w kw) left
  tokens : (l0 l1 l2 l3 l4 line : ℕ) (w kw : List ℕ) → meant_by reading.setting_words kw ≡ Some kind → (r : List Token) → q.rest ≡ sign_at sign.CloseParen l4 ∷ sign_at sign.Semi line ∷ r
      → word w l0 ∷ sign_at sign.Dot l1 ∷ word kw l2 ∷ sign_at sign.OpenParen l3 ∷ p.rest ≡ written_in_front (written l0 l1 l2 l3 l4 line w kw) r
  is_tree : (l0 l1 l2 l3 l4 line : ℕ) (w kw : List ℕ) → written_tree (written l0 l1 l2 l3 l4 line w kw) ≡ at_line l0 (what.Set w made)
  none : (l0 l1 l2 l3 l4 line : ℕ) (w kw : List ℕ) → written_instances (written l0 l1 l2 l3 l4 line w kw) ≡ 0
  instances : q.instances ≡ p.instances

abbrev pub setting_word : SettingWord → List ℕ
setting_word words.Start = codes "setStartValue"
setting_word words.Pad = codes "setPad"
setting_word words.Overlap = codes "setOverlap"
setting_word words.Scan = codes "setScanMode"
setting_word words.Lines = codes "setReduceMode"
setting_word words.Edge = codes "setEdgeMode"

pub setting-word : (kw : List ℕ) (kind : SettingWord) → meant_by reading.setting_words kw ≡ Some kind → kw ≡ setting_word kind
setting-word kw kind h = word-of setting_word reading.setting_words kw kind (refl, (refl, (refl, (refl, (refl, (refl, tt)))))) h

set-value : (left : ℕ) (kind : SettingWord) (sets : Expr → Setting) → meant_by value_words (setting_word kind) ≡ Some sets → (p : Place) (a : Expr × Place)
    → assignments.value_inside (suc left) p ≡ Read a → (x : Setting × Place) → Read (sets a.0, a.1) ≡ Read x → SetsTo (suc left) p kind x.0 x.1
set-value left kind sets meant p a value-is x h =
    let v = inside-sound left p a value-is in
    along (SetsTo (suc left) p kind) h (record {
      written = λ l0 l1 l2 l3 l4 line w kw. Written.SetValue (lines_of (l0 ∷ l1 ∷ l2 ∷ l3 ∷ l4 ∷ line ∷ [])) w kw sets v.spelling;
      lawful = λ l0 l1 l2 l3 l4 line w kw free is. (free, ap (meant_by value_words) (setting-word kw kind is) ∙ meant, v.lawful);
      fits = λ l0 l1 l2 l3 l4 line w kw. v.small;
      tokens = λ l0 l1 l2 l3 l4 line w kw is r end. ap (λ z. word w l0 ∷ sign_at sign.Dot l1 ∷ word kw l2 ∷ sign_at sign.OpenParen l3 ∷ z) (v.tokens ∙ ap (in_front v.spelling) end);
      is_tree = λ l0 l1 l2 l3 l4 line w kw. ap (λ e. at_line l0 (what.Set w (sets e))) v.is_tree;
      none = λ l0 l1 l2 l3 l4 line w kw. refl;
      instances = v.instances;
    })

set-overlap : (left : ℕ) (p : Place) (a : List Expr × Place) → assignments.places (suc left) p ≡ Read a → (x : Setting × Place) → Read (setting.Overlap a.0, a.1) ≡ Read x → SetsTo (suc left) p words.Overlap x.0 x.1
set-overlap left p a places-are x h =
    let v = places-sound left p a places-are in
    along (SetsTo (suc left) p words.Overlap) h (record {
      written = λ l0 l1 l2 l3 l4 line w kw. Written.SetOverlap (lines_of (l0 ∷ l1 ∷ l2 ∷ l3 ∷ l4 ∷ line ∷ [])) w v.spelling;
      lawful = λ l0 l1 l2 l3 l4 line w kw free is. (free, v.lawful);
      fits = λ l0 l1 l2 l3 l4 line w kw. v.small;
      tokens = λ l0 l1 l2 l3 l4 line w kw is r end. ap (λ k. word w l0 ∷ sign_at sign.Dot l1 ∷ word k l2 ∷ sign_at sign.OpenParen l3 ∷ p.rest) (setting-word kw words.Overlap is)
          ∙ ap (λ z. word w l0 ∷ sign_at sign.Dot l1 ∷ word (codes "setOverlap") l2 ∷ sign_at sign.OpenParen l3 ∷ z) (v.tokens ∙ ap (arguments_in_front v.spelling) end);
      is_tree = λ l0 l1 l2 l3 l4 line w kw. ap (λ es. at_line l0 (what.Set w (setting.Overlap es))) v.is_tree;
      none = λ l0 l1 l2 l3 l4 line w kw. refl;
      instances = v.instances;
    })

record IsMode {A : Type 0} (family : List ℕ) (modes : List (List ℕ × A)) (p : Place) (a : A) (q : Place) : Type 0 where
  m : List ℕ
  l4 : ℕ
  l5 : ℕ
  l6 : ℕ
  l7 : ℕ
  l8 : ℕ
  meant : meant_by modes m ≡ Some a
  tokens : p.rest ≡ word (codes "skepu") l4 ∷ sign_at sign.Path l5 ∷ word family l6 ∷ sign_at sign.Path l7 ∷ word m l8 ∷ q.rest
  instances : q.instances ≡ p.instances

mode-sound : {A : Type 0} (family : List ℕ) (modes : List (List ℕ × A)) (p : Place) (x : A × Place) → reading.mode (reading.one_word family) modes p ≡ Read x → IsMode family modes p x.0 x.1
unfolding reading.mode
mode-sound family modes p x h =
    let (u4, skepu-is, h) = bound (expect_keyword key.Skepu p) _ x h in
    let (l4, skepu) = expect_keyword-takes p key.Skepu u4 skepu-is in
    let (u5, path-is, h) = bound (expect sign.Path u4.1) _ x h in
    let (l5, path) = expect-takes u4.1 sign.Path u5 path-is in
    let (f, family-is, h) = bound (word_in (reading.one_word family) u5.1) _ x h in
    let (l6, fw, is-family, naming) = word_in-takes (reading.one_word family) u5.1 f family-is in
    let (u7, path'-is, h) = bound (expect sign.Path f.1) _ x h in
    let (l7, path') = expect-takes f.1 sign.Path u7 path'-is in
    let (l8, m, meant, mode) = word_in-takes modes u7.1 x h in
    let same : fw ≡ family = word-of (λ (u : Unit {0}). family) (reading.one_word family) fw f.0 (refl, tt) is-family in
    record {
      m = m;
      l4 = l4;
      l5 = l5;
      l6 = l6;
      l7 = l7;
      l8 = l8;
      meant = meant;
      tokens = skepu.tokens ∙ ap (λ z. word (codes "skepu") l4 ∷ z) (path.tokens ∙ ap (λ z. sign_at sign.Path l5 ∷ z) (naming.tokens ∙ ap (λ k. word k l6 ∷ f.1.rest) same
          ∙ ap (λ z. word family l6 ∷ z) (path'.tokens ∙ ap (λ z. sign_at sign.Path l7 ∷ z) mode.tokens)));
      instances = mode.instances ∙ path'.instances ∙ naming.instances ∙ path.instances ∙ skepu.instances;
    }

set-mode : {A : Type 0} (left : ℕ) (kind : SettingWord) (family : Family) (modes : List (List ℕ × A)) (sets : A → Setting) → meant_by mode_words (setting_word kind) ≡ Some family
    → family.modes ≡ map (λ entry. (entry.0, sets entry.1)) modes → (p : Place) (a : A × Place) → reading.mode (reading.one_word family.name) modes p ≡ Read a
    → (x : Setting × Place) → Read (sets a.0, a.1) ≡ Read x → SetsTo (suc left) p kind x.0 x.1
set-mode left kind family modes sets meant same p a mode-is x h =
    let v = mode-sound family.name modes p a mode-is in
    along (SetsTo (suc left) p kind) h (record {
      written = λ l0 l1 l2 l3 l4 line w kw. Written.SetMode (lines_of (l0 ∷ l1 ∷ l2 ∷ l3 ∷ v.l4 ∷ v.l5 ∷ v.l6 ∷ v.l7 ∷ v.l8 ∷ l4 ∷ line ∷ [])) w kw family v.m (sets a.0);
      lawful = λ l0 l1 l2 l3 l4 line w kw free is. (free, ap (meant_by mode_words) (setting-word kw kind is) ∙ meant, ap (λ l. meant_by l v.m) same ∙ mapped sets modes v.m a.0 v.meant);
      fits = λ l0 l1 l2 l3 l4 line w kw. tt;
      tokens = λ l0 l1 l2 l3 l4 line w kw is r end. ap (λ z. word w l0 ∷ sign_at sign.Dot l1 ∷ word kw l2 ∷ sign_at sign.OpenParen l3 ∷ z) (v.tokens
          ∙ ap (λ z. word (codes "skepu") v.l4 ∷ sign_at sign.Path v.l5 ∷ word family.name v.l6 ∷ sign_at sign.Path v.l7 ∷ word v.m v.l8 ∷ z) end);
      is_tree = λ l0 l1 l2 l3 l4 line w kw. refl;
      none = λ l0 l1 l2 l3 l4 line w kw. refl;
      instances = v.instances;
    })

set_by-sound : (left : ℕ) (kind : SettingWord) (p : Place) (x : Setting × Place) → reading.set_by (suc left) kind p ≡ Read x → SetsTo (suc left) p kind x.0 x.1
set_by-sound left words.Start p x h = let (a, is, h) = bound (assignments.value_inside (suc left) p) _ x h in set-value left words.Start setting.Start refl p a is x h
set_by-sound left words.Pad p x h = let (a, is, h) = bound (assignments.value_inside (suc left) p) _ x h in set-value left words.Pad setting.Pad refl p a is x h
set_by-sound left words.Overlap p x h = let (a, is, h) = bound (assignments.places (suc left) p) _ x h in set-overlap left p a is x h
set_by-sound left words.Scan p x h =
    let (a, is, h) = bound (reading.mode (reading.one_word (codes "ScanMode")) reading.scan_words p) _ x h in
    set-mode left words.Scan (record { name = codes "ScanMode"; modes = (codes "Inclusive", setting.Scan false) ∷ (codes "Exclusive", setting.Scan true) ∷ [] }) reading.scan_words setting.Scan refl refl p a is x h
set_by-sound left words.Lines p x h =
    let (a, is, h) = bound (reading.mode (reading.one_word (codes "ReduceMode")) reading.line_words p) _ x h in
    set-mode left words.Lines (record { name = codes "ReduceMode"; modes = (codes "RowWise", setting.Lines false) ∷ (codes "ColWise", setting.Lines true) ∷ [] }) reading.line_words setting.Lines refl refl p a is x h
set_by-sound left words.Edge p x h =
    let (a, is, h) = bound (reading.mode (reading.one_word (codes "Edge")) reading.edge_words p) _ x h in
    set-mode left words.Edge (record { name = codes "Edge"; modes = (codes "Duplicate", setting.Edge Duplicate) ∷ (codes "Cyclic", setting.Edge Cyclic) ∷ (codes "Pad", setting.Edge PadEdge) ∷ [] }) reading.edge_words setting.Edge refl refl p a is x h

pub set-sound : (left : ℕ) (p : Place) (x : What × Place) → reading.set left p ≡ Read x → Started left p x.0 x.1
unfolding reading.set
set-sound left p x h =
    let (w, name-is, h) = bound (name p) _ x h in
    let (l0, free, naming) = name-takes p w name-is in
    let (u1, dot-is, h) = bound (expect sign.Dot w.1) _ x h in
    let (l1, dot) = expect-takes w.1 sign.Dot u1 dot-is in
    let (k, kind-is, h) = bound (word_in reading.setting_words u1.1) _ x h in
    let (l2, kw, meant, kind) = word_in-takes reading.setting_words u1.1 k kind-is in
    let (u3, open-is, h) = bound (opened_by sign.OpenParen left k.1) _ x h in
    let (inside, left-is, l3, opening) = opened_by-takes sign.OpenParen left k.1 u3 open-is in
    let (a, made-is, h) = bound (reading.set_by left k.0 u3.1) _ x h in
    let made = subst (λ n. SetsTo n u3.1 k.0 a.0 a.1) (sym left-is) (set_by-sound inside k.0 u3.1 a (ap (λ n. reading.set_by n k.0 u3.1) (sym left-is) ∙ made-is)) in
    let (u4, close-is, h) = bound (expect sign.CloseParen a.1) _ x h in
    let (l4, closing) = expect-takes a.1 sign.CloseParen u4 close-is in
    let to = naming.tokens ∙ ap (λ z. word w.0 l0 ∷ z) (dot.tokens ∙ ap (λ z. sign_at sign.Dot l1 ∷ z) (kind.tokens ∙ ap (λ z. word kw l2 ∷ z) opening.tokens)) in
    let total : u4.1.instances ≡ p.instances = closing.instances ∙ made.instances ∙ opening.instances ∙ kind.instances ∙ dot.instances ∙ naming.instances in
    along (Started left p) h (record {
      written = λ line. made.written l0 l1 l2 l3 l4 line w.0 kw;
      lawful = λ line. made.lawful l0 l1 l2 l3 l4 line w.0 kw free meant;
      fits = λ line. made.fits l0 l1 l2 l3 l4 line w.0 kw;
      tokens = λ line r is. to ∙ made.tokens l0 l1 l2 l3 l4 line w.0 kw meant r (closing.tokens ∙ ap (λ z. sign_at sign.CloseParen l4 ∷ z) is);
      is_tree = λ line. made.is_tree l0 l1 l2 l3 l4 line w.0 kw ∙ ap (λ l. at_line l (what.Set w.0 a.0)) (sym (ap line_of to));
      instances = λ line. omega (arith, total, made.none l0 l1 l2 l3 l4 line w.0 kw);
      few = λ few. omega (arith, total, few);
    })
