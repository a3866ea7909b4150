-- What the parser reads as containers, instances, settings and prints, and as a statement that ends with `;`.
use Rattle.std.specs.Prelude.{ℕ, zero, suc, Bool, true, false, if◌then◌else◌, List, [], ◌∷◌, ◌++◌, length, ℤ, codes}
use Rattle.sk_base.specs.declared.choice.EdgeMode.{EdgeMode}
use Rattle.sk_base.specs.declared.choice.EdgeMode.TheVariants.{Duplicate, Cyclic, Pad as PadEdge}
use Rattle.sk_base.specs.declared.number.Ty.{Ty}
use Rattle.sk_grammar.specs.Signs.{container_words, skeleton_words}
use Rattle.sk_refusals.specs.declared.refusal.Refusal.TheVariants.{Syntax}
use Rattle.sk_tokens.specs.declared.token.Sign.TheVariants as sign
use Rattle.sk_tree.specs.declared.tree.Item.{Item}
use Rattle.sk_tree.specs.declared.tree.Item.TheVariants as item
use Rattle.sk_tree.specs.declared.tree.Setting.{Setting}
use Rattle.sk_tree.specs.declared.tree.Setting.TheVariants as setting
use Rattle.sk_tree.specs.declared.tree.What.{What}
use Rattle.sk_tree.specs.declared.tree.What.TheVariants as what
use Rattle.sk_reading.specs.declared.next.Next.{Next}
use Rattle.sk_reading.specs.declared.next.Next.TheVariants as next
use Rattle.sk_reading.specs.declared.reach.Reach.TheVariants.{Whole, Sum}
use Rattle.sk_reading.specs.declared.keyword.Keyword.TheVariants as key
use Rattle.sk_reading.specs.declared.setting.SettingWord.{SettingWord}
use Rattle.sk_reading.specs.declared.setting.SettingWord.TheVariants as words
use Rattle.sk_reading.specs.declared.target.Target.{Target}
use Rattle.sk_reading.specs.declared.target.Target.TheVariants.{Element}
use Rattle.sk_reading.specs.Reading.{Place, Parser, Read, ◌>>=◌, ◌>>◌, pure, refuse, peek, take, front, advance, is_sign, sees, eat, expect, expect_keyword, name, word_in, number, text, ty, count_instance, opened, opened_by}
use Rattle.sk_reading.specs.ReadingAssignments.{value, value_inside, places, target, update, assignment, declaration}

-- ---- containers

module _ (left : ℕ) where
  unfoldable pub filled : ℕ → Ty → List ℕ → Parser What
  filled sizes of container = do
    opened left
    take
    found ← places left
    expect sign.CloseParen
    pure (what.Make sizes of container found)

  unfoldable pub input : ℕ → Ty → List ℕ → Parser What
  input sizes of container = do
    take
    expect_keyword key.SkepuInput
    opened_by sign.OpenParen left
    record_name ← text
    expect sign.CloseParen
    pure (what.Take sizes of container record_name)

  abbrev pub make_by : ℕ → Ty → List ℕ → Next → Parser What
  make_by sizes of container (next.Sign sign.OpenParen) = filled sizes of container
  make_by sizes of container (next.Sign sign.Eq) = input sizes of container
  make_by sizes of container other = refuse Syntax

  unfoldable pub make : Parser What
  make = do
    take
    expect sign.Path
    sizes ← word_in container_words
    expect sign.Lt
    of ← ty
    expect sign.Gt
    container ← name
    kind ← peek
    make_by sizes of container kind

-- ---- instances

unfoldable pub numbers_from : (turns : ℕ) → List ℤ → Parser (List ℤ)
numbers_from zero found = refuse Syntax
numbers_from (suc turns) found = do
  written ← number
  more ← eat sign.Comma
  if more then numbers_from turns (found ++ written.1 ∷ []) else pure (found ++ written.1 ∷ [])

-- the numbers between `<` and `>`, if there are any
unfoldable pub numbers : Parser (List ℤ)
numbers = do
  some ← eat sign.Lt
  if some then (do
    found ← (λ p. numbers_from (length p.rest) [] p)
    expect sign.Gt
    pure found) else pure []

unfoldable pub names_from : (turns : ℕ) → List (List ℕ) → Parser (List (List ℕ))
names_from zero found = refuse Syntax
names_from (suc turns) found = do
  written ← name
  more ← eat sign.Comma
  if more then names_from turns (found ++ written ∷ []) else pure (found ++ written ∷ [])

unfoldable pub names : Parser (List (List ℕ))
names = λ p. names_from (length p.rest) [] p

unfoldable pub instance : (left : ℕ) → Parser What
instance left = do
  count_instance
  take
  declared ← name
  expect sign.Eq
  expect_keyword key.Skepu
  expect sign.Path
  skeleton ← word_in skeleton_words
  counts ← numbers
  opened_by sign.OpenParen left
  functions ← names
  expect sign.CloseParen
  pure (what.Instance (record { name = declared; skeleton = skeleton; numbers = counts; functions = functions }))

-- ---- settings

-- after a name: a setting of it follows
unfoldable pub begins_setting : Place → Bool
begins_setting p = is_sign sign.Dot (front (advance p))

-- one word alone
abbrev pub one_word : List ℕ → List (List ℕ × Unit {0})
one_word word = (word, tt) ∷ []

abbrev pub setting_words : List (List ℕ × SettingWord)
setting_words =
    (codes "setStartValue", words.Start) ∷ (codes "setPad", words.Pad) ∷ (codes "setOverlap", words.Overlap)
    ∷ (codes "setScanMode", words.Scan) ∷ (codes "setReduceMode", words.Lines) ∷ (codes "setEdgeMode", words.Edge) ∷ []

abbrev pub scan_words : List (List ℕ × Bool)
scan_words = (codes "Inclusive", false) ∷ (codes "Exclusive", true) ∷ []

abbrev pub line_words : List (List ℕ × Bool)
line_words = (codes "RowWise", false) ∷ (codes "ColWise", true) ∷ []

abbrev pub edge_words : List (List ℕ × EdgeMode)
edge_words = (codes "Duplicate", Duplicate) ∷ (codes "Cyclic", Cyclic) ∷ (codes "Pad", PadEdge) ∷ []

-- `skepu::FAMILY::MODE`
unfoldable pub mode : {A : Type 0} → List (List ℕ × Unit {0}) → List (List ℕ × A) → Parser A
mode family modes = do
  expect_keyword key.Skepu
  expect sign.Path
  word_in family
  expect sign.Path
  word_in modes

module _ (left : ℕ) where
  abbrev pub set_by : SettingWord → Parser Setting
  set_by words.Start = (value_inside left) >>= (λ e. pure (setting.Start e))
  set_by words.Pad = (value_inside left) >>= (λ e. pure (setting.Pad e))
  set_by words.Overlap = (places left) >>= (λ found. pure (setting.Overlap found))
  set_by words.Scan = (mode (one_word (codes "ScanMode")) scan_words) >>= (λ m. pure (setting.Scan m))
  set_by words.Lines = (mode (one_word (codes "ReduceMode")) line_words) >>= (λ m. pure (setting.Lines m))
  set_by words.Edge =
      (mode (one_word (codes "Edge")) edge_words)
      >>= (λ m. pure (setting.Edge m))

  unfoldable pub set : Parser What
  set = do
    of ← name
    expect sign.Dot
    kind ← word_in setting_words
    opened_by sign.OpenParen left
    made ← set_by kind
    expect sign.CloseParen
    pure (what.Set of made)

  -- ---- prints

  unfoldable pub printed_end : Parser Item
  printed_end = do
    take
    expect sign.Path
    word_in (one_word (codes "endl"))
    pure item.End

  abbrev pub printed_by : Next → Parser Item
  printed_by next.Text = text >>= (λ t. pure (item.Text t))
  printed_by (next.Keyword key.Std) = printed_end
  printed_by other = (value left Sum) >>= (λ e. pure (item.Value e))

  unfoldable pub printed : Parser Item
  printed = do
    expect sign.Shl
    kind ← peek
    printed_by kind

  unfoldable pub items_from : (turns : ℕ) → List Item → Parser (List Item)
  items_from zero found = refuse Syntax
  items_from (suc turns) found = do
    shown ← printed
    (λ p. if sees sign.Shl p then items_from turns (found ++ shown ∷ []) p else Read (found ++ shown ∷ [], p))

  unfoldable pub print : Parser What
  print = do
    take
    expect sign.Path
    word_in (one_word (codes "cout"))
    items ← (λ p. items_from (length p.rest) [] p)
    pure (what.Print items)

  -- ---- statements that end with `;`

  abbrev pub call_of : Target → Parser What
  call_of (Element function found) = pure (what.Call function found)
  call_of other = refuse Syntax

  -- a call, or an assignment that begins with its target
  unfoldable pub used : Parser What
  used = do
    to ← target left
    (λ p. if sees sign.Semi p then call_of to p else update left to p)

  unfoldable pub by_name : Parser What
  by_name = λ p. if begins_setting p then set p else used p

  unfoldable pub returned : Parser What
  returned = do
    take
    result ← value left Whole
    pure (what.Return result)

  abbrev pub short_by : Next → Parser What
  short_by (next.Keyword key.Int) = declaration left
  short_by (next.Keyword key.Long) = declaration left
  short_by (next.Keyword key.Skepu) = make left
  short_by (next.Keyword key.Auto) = instance left
  short_by (next.Keyword key.Std) = print
  short_by (next.Keyword key.Return) = returned
  short_by next.Name = by_name
  short_by other = assignment left

  unfoldable pub begun : Parser What
  begun = peek >>= short_by

  -- a statement that ends with `;`
  unfoldable pub short : Parser What
  short = do
    does ← begun
    expect sign.Semi
    pure does
