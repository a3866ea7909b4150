-- What reading settings leads to.
use Rattle.std.proofs.Common.{◌≡◌, ℕ, ◌<◌, true, false, List, [], ◌∷◌, ◌++◌, map, Some, codes, option_and_then, refl, ap, sym, subst, ◌∙◌, arith}
use Rattle.sk_grammar.specs.ExpressionSpelling.{in_front, arguments_in_front, IsName, sign_at, word}
use Rattle.sk_grammar.specs.Signs.{meant_by, value_words, mode_words, Family}
use Rattle.sk_grammar.specs.StatementSpelling.{Written}
use Rattle.sk_refusals.specs.declared.refusal.Refusal.TheVariants.{Syntax}
use Rattle.sk_tokens.specs.declared.token.Sign.TheVariants as sign
use Rattle.sk_tokens.specs.declared.token.Token.{Token}
use Rattle.sk_tree.specs.declared.tree.Expr.{Expr}
use Rattle.sk_tree.specs.declared.tree.Setting.{Setting}
use Rattle.sk_tree.specs.declared.tree.Setting.TheVariants as setting
use Rattle.sk_tree.specs.declared.tree.What.{What}
use Rattle.sk_tree.specs.declared.tree.What.TheVariants as what
use Rattle.sk_base.specs.declared.choice.EdgeMode.TheVariants.{Duplicate, Cyclic, Pad as PadEdge}
use Rattle.sk_reading.specs.declared.keyword.Keyword.TheVariants as key
use Rattle.sk_reading.specs.declared.setting.SettingWord.{SettingWord}
use Rattle.sk_reading.specs.declared.setting.SettingWord.TheVariants as words
use Rattle.sk_reading.specs.Reading.{Place, Outcome, Read, Refused, Parser, and_then, ◌>>=◌, ◌>>◌, pure, refuse, taken, front_word, expect, name, word_in, keyword_of, opened_by}
use Rattle.sk_reading.specs.ReadingForms.{one_word, setting_words, scan_words, line_words, edge_words, mode, set_by, set}
use Rattle.sk_reading.proofs.Entries.{mapped, word-of}
use Rattle.sk_reading_sound_laws.proofs.Steps.{lines_of, word_in-takes}
use Rattle.sk_reading_sound_laws.proofs.statements.Settings.{setting-word, setting_word}
use Rattle.sk_refusal_laws.proofs.viable.Leads.{Lang, Chain, SignOf, KeywordOf, NameOf, WordOf, Leads, Any, Default, Fresh, default-chain, leads-then, leads-map, leads-done, leads-lacking}
use Rattle.sk_refusal_laws.proofs.viable.Assignments.{PlacesOf, value_inside-leads, places-lead}
use Rattle.sk_refusal_laws.proofs.viable.Forms.{BegunOf}
use Rattle.sk_refusal_laws.proofs.viable.Operands.{ExpressionOf, a-number, an-argument, a-sign}
use Rattle.sk_refusal_laws.proofs.viable.Tokens.{leads-expect, leads-keyword, leads-name, leads-word_in, leads-opens_by, leads-prefix, taken-lacks}

-- what follows the word of a setting
abbrev SettingOf : SettingWord → Lang
SettingOf kind tokens rest = (l0 l1 l2 : ℕ) (w kw : List ℕ) → IsName w → kw ≡ setting_word kind → BegunOf (word w l0 ∷ sign_at sign.Dot l1 ∷ word kw l2 ∷ tokens) rest

abbrev ValueOf : Lang
ValueOf = Chain (SignOf sign.OpenParen) (Chain (ExpressionOf 0) (SignOf sign.CloseParen))

value-setting : (kind : SettingWord) (sets : Expr → Setting) → meant_by value_words (setting_word kind) ≡ Some sets → (tokens rest : List Token) → ValueOf tokens rest → SettingOf kind tokens rest
value-setting kind sets meant tokens rest c = λ l0 l1 l2 w kw free same line r end.
    let (l3, is3) = c.first in
    let (s, lawful, level, is4) = c.second.first in
    let (l4, is5) = c.second.second in (
      Written.SetValue (lines_of (l0 ∷ l1 ∷ l2 ∷ l3 ∷ l4 ∷ line ∷ [])) w kw sets s,
      (free, ap (meant_by value_words) same ∙ meant, lawful),
      ap (λ l. word w l0 ∷ sign_at sign.Dot l1 ∷ word kw l2 ∷ l) (is3 ∙ ap (λ l. sign_at sign.OpenParen l3 ∷ l) (is4 ∙ ap (in_front s) (is5 ∙ ap (λ l. sign_at sign.CloseParen l4 ∷ l) end))),
    )

overlap-setting : (tokens rest : List Token) → PlacesOf tokens rest → SettingOf words.Overlap tokens rest
overlap-setting tokens rest c = λ l0 l1 l2 w kw free same line r end.
    let (l3, is3) = c.first in
    let (ss, lawful, is4) = c.second.first in
    let (l4, is5) = c.second.second in (
      Written.SetOverlap (lines_of (l0 ∷ l1 ∷ l2 ∷ l3 ∷ l4 ∷ line ∷ [])) w ss,
      (free, lawful),
      ap (λ k. word w l0 ∷ sign_at sign.Dot l1 ∷ word k l2 ∷ tokens) same
          ∙ ap (λ l. word w l0 ∷ sign_at sign.Dot l1 ∷ word (codes "setOverlap") l2 ∷ l) (is3 ∙ ap (λ l. sign_at sign.OpenParen l3 ∷ l) (is4 ∙ ap (arguments_in_front ss) (is5 ∙ ap (λ l. sign_at sign.CloseParen l4 ∷ l) end))),
    )

abbrev ModeOf : {A : Type 0} → List ℕ → List (List ℕ × A) → Lang
ModeOf family modes = Chain (KeywordOf key.Skepu) (Chain (SignOf sign.Path) (Chain (WordOf (one_word family)) (Chain (SignOf sign.Path) (WordOf modes))))

mode-setting : {A : Type 0} (kind : SettingWord) (family : Family) (modes : List (List ℕ × A)) (sets : A → Setting) → meant_by mode_words (setting_word kind) ≡ Some family
    → family.modes ≡ map (λ entry. (entry.0, sets entry.1)) modes
    → (tokens rest : List Token) → Chain (SignOf sign.OpenParen) (Chain (ModeOf family.name modes) (SignOf sign.CloseParen)) tokens rest → SettingOf kind tokens rest
mode-setting kind family modes sets meant same_modes tokens rest c = λ l0 l1 l2 w kw free same line r end.
    let (l3, is3) = c.first in
    let m = c.second.first in
    let (l4, is4) = m.first in
    let (l5, is5) = m.second.first in
    let (l6, fw, u, is-family, is6) = m.second.second.first in
    let (l7, is7) = m.second.second.second.first in
    let (l8, mw, a, is-mode, is8) = m.second.second.second.second in
    let (l9, is9) = c.second.second in
    let named : fw ≡ family.name = word-of (λ (u : Unit {0}). family.name) (one_word family.name) fw u (refl, tt) is-family in (
      Written.SetMode (lines_of (l0 ∷ l1 ∷ l2 ∷ l3 ∷ l4 ∷ l5 ∷ l6 ∷ l7 ∷ l8 ∷ l9 ∷ line ∷ [])) w kw family mw (sets a),
      (free, ap (meant_by mode_words) same ∙ meant, ap (λ l. meant_by l mw) same_modes ∙ mapped sets modes mw a is-mode),
      ap (λ l. word w l0 ∷ sign_at sign.Dot l1 ∷ word kw l2 ∷ l) (is3 ∙ ap (λ l. sign_at sign.OpenParen l3 ∷ l) (is4 ∙ ap (λ l. word (codes "skepu") l4 ∷ l) (is5 ∙ ap (λ l. sign_at sign.Path l5 ∷ l)
          (is6 ∙ ap (λ k. word k l6 ∷ m.second.second.between) named ∙ ap (λ l. word family.name l6 ∷ l) (is7 ∙ ap (λ l. sign_at sign.Path l7 ∷ l) (is8 ∙ ap (λ l. word mw l8 ∷ l) (is9 ∙ ap (λ l. sign_at sign.CloseParen l9 ∷ l) end))))))),
    )

-- ---- what is read

abbrev some-value : Default ValueOf
some-value = default-chain (a-sign sign.OpenParen) (default-chain (a-number 0 (omega arith)) (a-sign sign.CloseParen))

-- from `(` on
abbrev behind_kind : ℕ → List ℕ → SettingWord → Parser What
behind_kind left of kind = opened_by sign.OpenParen left >>= (λ _. set_by left kind >>= (λ made. expect sign.CloseParen >> pure (what.Set of made)))

pub a-word : {A : Type 0} (entries : List (List ℕ × A)) (w : List ℕ) (a : A) → meant_by entries w ≡ Some a → Default (WordOf entries)
a-word entries w a meant = record { fix = word w 0 ∷ []; goes = λ r. (0, w, a, meant, refl) }

module _ {A : Type 0} (family : List ℕ) (modes : List (List ℕ × A)) (f : List ℕ) (fresh : Rattle.sk_reading.specs.ReadingExpressions.is_type (Rattle.sk_reading.specs.Reading.next_of (word family 0)) ≡ false)
    (meant-family : meant_by (one_word family) family ≡ Some tt) (a : A) (meant-mode : meant_by modes f ≡ Some a)
    (fresh' : Rattle.sk_reading.specs.ReadingExpressions.is_type (Rattle.sk_reading.specs.Reading.next_of (word f 0)) ≡ false) where
  abbrev a-mode : Default (ModeOf family modes)
  a-mode = default-chain (record { fix = word (codes "skepu") 0 ∷ []; goes = λ r. (0, refl) }) (default-chain (a-sign sign.Path) (default-chain (a-word (one_word family) family tt meant-family) (default-chain (a-sign sign.Path) (a-word modes f a meant-mode))))

  mode-leads : (p : Place) → Leads (ModeOf family modes) p (mode (one_word family) modes p)
  unfolding mode keyword_of
  mode-leads p =
      leads-then _ (leads-keyword key.Skepu refl p) (λ _ q _. leads-then _ (leads-expect sign.Path q) (λ _ s _. leads-then _ (leads-word_in (one_word family) family tt meant-family fresh s) (λ _ z _.
      leads-then _ (leads-expect sign.Path z) (λ _ u _. leads-word_in modes f a meant-mode fresh' u) (a-word modes f a meant-mode)) (default-chain (a-sign sign.Path) (a-word modes f a meant-mode)))
      (default-chain (a-word (one_word family) family tt meant-family) (default-chain (a-sign sign.Path) (a-word modes f a meant-mode))))
      (default-chain (a-sign sign.Path) (default-chain (a-word (one_word family) family tt meant-family) (default-chain (a-sign sign.Path) (a-word modes f a meant-mode))))

module _ (left : ℕ) (of : List ℕ) where
  -- between the parentheses
  within-leads : {A : Type 0} {D : Lang} (kind : SettingWord) (h : A → Setting) (inner : Parser A) → ((q : Place) → 0 < left → Leads D q (inner q)) → Default D → (p : Place)
      → Leads (Chain (SignOf sign.OpenParen) (Chain D (SignOf sign.CloseParen))) p
      (and_then (opened_by sign.OpenParen left p) (λ _. inner >>= (λ a. pure (h a)) >>= (λ made. expect sign.CloseParen >> pure (what.Set of made))))
  within-leads kind h inner leads d p =
      leads-opens_by sign.OpenParen left p _ (λ q some. leads-then {Q = Any} _ (leads-done h (λ _ _. tt) (leads q some)) (λ made s _. leads-done (λ _. what.Set of made) (λ _ _. tt) (leads-expect sign.CloseParen s)) (a-sign sign.CloseParen))
      (default-chain d (a-sign sign.CloseParen))

  kind-leads : (kind : SettingWord) (p : Place) → Leads (SettingOf kind) p (behind_kind left of kind p)
  unfolding keyword_of
  kind-leads words.Start p = leads-map (value-setting words.Start setting.Start refl) (within-leads words.Start setting.Start (Rattle.sk_reading.specs.ReadingAssignments.value_inside left) (λ q some. value_inside-leads left q some) (a-number 0 (omega arith)) p)
  kind-leads words.Pad p = leads-map (value-setting words.Pad setting.Pad refl) (within-leads words.Pad setting.Pad (Rattle.sk_reading.specs.ReadingAssignments.value_inside left) (λ q some. value_inside-leads left q some) (a-number 0 (omega arith)) p)
  kind-leads words.Overlap p = leads-map overlap-setting (within-leads words.Overlap setting.Overlap (Rattle.sk_reading.specs.ReadingAssignments.places left) (λ q some. places-lead left q some) an-argument p)
  kind-leads words.Scan p =
      leads-map (mode-setting words.Scan (record { name = codes "ScanMode"; modes = (codes "Inclusive", setting.Scan false) ∷ (codes "Exclusive", setting.Scan true) ∷ [] }) scan_words setting.Scan refl refl)
      (within-leads words.Scan setting.Scan (mode (one_word (codes "ScanMode")) scan_words) (λ q _. mode-leads (codes "ScanMode") scan_words (codes "Inclusive") refl refl false refl refl q)
      (a-mode (codes "ScanMode") scan_words (codes "Inclusive") refl refl false refl refl) p)
  kind-leads words.Lines p =
      leads-map (mode-setting words.Lines (record { name = codes "ReduceMode"; modes = (codes "RowWise", setting.Lines false) ∷ (codes "ColWise", setting.Lines true) ∷ [] }) line_words setting.Lines refl refl)
      (within-leads words.Lines setting.Lines (mode (one_word (codes "ReduceMode")) line_words) (λ q _. mode-leads (codes "ReduceMode") line_words (codes "RowWise") refl refl false refl refl q)
      (a-mode (codes "ReduceMode") line_words (codes "RowWise") refl refl false refl refl) p)
  kind-leads words.Edge p =
      leads-map (mode-setting words.Edge (record { name = codes "Edge"; modes = (codes "Duplicate", setting.Edge Duplicate) ∷ (codes "Cyclic", setting.Edge Cyclic) ∷ (codes "Pad", setting.Edge PadEdge) ∷ [] }) edge_words setting.Edge refl refl)
      (within-leads words.Edge setting.Edge (mode (one_word (codes "Edge")) edge_words) (λ q _. mode-leads (codes "Edge") edge_words (codes "Cyclic") refl refl Cyclic refl refl q)
      (a-mode (codes "Edge") edge_words (codes "Cyclic") refl refl Cyclic refl refl) p)

-- what follows the dot
abbrev SetOf : Lang
SetOf tokens rest = (l0 l1 : ℕ) (w : List ℕ) → IsName w → BegunOf (word w l0 ∷ sign_at sign.Dot l1 ∷ tokens) rest

abbrev a-set : Default SetOf
a-set = record { fix = word (codes "setPad") 0 ∷ some-value.fix; goes = λ r l0 l1 w free. value-setting words.Pad setting.Pad refl (some-value.fix ++ r) r (some-value.goes r) l0 l1 0 w (codes "setPad") free refl }

set-fresh : Fresh (word (codes "setPad") 0 ∷ some-value.fix)
unfolding keyword_of
set-fresh = record { token = word (codes "setPad") 0; more = some-value.fix; is = refl; no_type = refl }

setting-leads : (left : ℕ) (of : List ℕ) (p : Place) → Leads SetOf p (and_then (word_in setting_words p) (behind_kind left of))
unfolding word_in
setting-leads left of p = go (word_in setting_words p) refl
  where
    go : (o : Outcome SettingWord) → word_in setting_words p ≡ o → Leads SetOf p (and_then (word_in setting_words p) (behind_kind left of))
    go (Read x) read =
        let (line, kw, meant, takes) = word_in-takes setting_words p x read in
        subst (λ k. Leads SetOf p (and_then k (behind_kind left of))) (sym read)
        (leads-prefix (word kw line) p x.1 takes.tokens (λ tokens rest set. λ l0 l1 w free. set l0 l1 line w kw free (setting-word kw x.0 meant)) (kind-leads left of x.0 x.1))
    go (Refused refusal count) stops =
        let (syntax, all) = taken-lacks p (option_and_then (meant_by setting_words) (front_word p)) refusal count stops in
        subst (λ k. Leads SetOf p (and_then k (behind_kind left of))) (sym (stops ∙ ap (λ r. Refused r count) syntax ∙ ap (λ n. Refused Syntax n) all)) (leads-lacking a-set p set-fresh)

pub set-leads : (left : ℕ) (p : Place) → Leads BegunOf p (set left p)
unfolding set
set-leads left p = leads-map made (leads-then _ (leads-name p) (λ of q _. leads-then _ (leads-expect sign.Dot q) (λ _ s _. setting-leads left of s) a-set) (default-chain (a-sign sign.Dot) a-set))
  where
    made : (tokens rest : List Token) → Chain NameOf (Chain (SignOf sign.Dot) SetOf) tokens rest → BegunOf tokens rest
    made tokens rest c = λ line r end.
        let (l0, w, free, is0) = c.first in
        let (l1, is1) = c.second.first in
        subst (λ l. Rattle.sk_refusal_laws.proofs.viable.Forms.WrittenOf l r) (sym (is0 ∙ ap (λ l. word w l0 ∷ l) is1)) (c.second.second l0 l1 w free line r end)
