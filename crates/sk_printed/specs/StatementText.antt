-- What a statement is printed as.
use Rattle.std.specs.Prelude.{ℕ, if◌then◌else◌, List, [], ◌∷◌, ◌++◌, map, ℤ, codes}
use Rattle.std.specs.Fmt.{signed_decimal}
use Rattle.std.specs.List.{flat_map}
use Rattle.sk_grammar.specs.Signs.{sum_level, type_word}
use Rattle.sk_tree.specs.declared.tree.Expr.{Expr}
use Rattle.sk_tree.specs.declared.tree.Instance.{Instance}
use Rattle.sk_tree.specs.declared.tree.Item.{Item}
use Rattle.sk_tree.specs.declared.tree.Item.TheVariants.{Value, Text, End}
use Rattle.sk_tree.specs.declared.tree.Setting.{Setting}
use Rattle.sk_tree.specs.declared.tree.Setting.TheVariants.{Start, Scan, Lines, Overlap, Edge, Pad}
use Rattle.sk_tree.specs.declared.tree.Statement.{Statement, fold-Statement}
use Rattle.sk_tree.specs.declared.tree.What.{What, fold-What}
use Rattle.sk_tree.specs.declared.tree.What.TheOpen.{What-F, Declare, Assign, Poke, Make, Take, Instance as Instantiate, Set, Call, Print, If, For, Return}
use Rattle.sk_printed.specs.WordText.{skeleton_text, edge_text}
use Rattle.sk_words.specs.Strung.{separated}
use Rattle.sk_words.specs.Escapes.{quoted}
use Rattle.sk_words.specs.Kinds.{kind_word}
use Rattle.sk_printed.specs.ExpressionText.{Shown, shown_of, placed, text_of, applied_text}

-- ---- parts of statements

abbrev pub all_shown : List Expr → List Shown
all_shown values = map shown_of values

abbrev pub item_text : Item → List ℕ
item_text (Value value) = placed sum_level (shown_of value)
item_text (Text text) = quoted text
item_text End = codes "std::endl"

abbrev pub setting_text : Setting → List ℕ
setting_text (Start value) = codes "setStartValue(" ++ text_of value ++ codes ")"
setting_text (Scan exclusive) = codes "setScanMode(skepu::ScanMode::" ++ (if exclusive then codes "Exclusive" else codes "Inclusive") ++ codes ")"
setting_text (Lines columns) = codes "setReduceMode(skepu::ReduceMode::" ++ (if columns then codes "ColWise" else codes "RowWise") ++ codes ")"
setting_text (Overlap values) = applied_text (codes "setOverlap") (all_shown values)
setting_text (Edge mode) = codes "setEdgeMode(skepu::Edge::" ++ edge_text mode ++ codes ")"
setting_text (Pad value) = codes "setPad(" ++ text_of value ++ codes ")"

abbrev pub numbers_text : List ℤ → List ℕ
numbers_text [] = []
numbers_text (first ∷ rest) = codes "<" ++ separated (map signed_decimal (first ∷ rest)) ++ codes ">"

abbrev pub instance_text : Instance → List ℕ
instance_text instance =
    codes "auto " ++ instance.name ++ codes " = skepu::" ++ skeleton_text instance.skeleton ++ numbers_text instance.numbers
    ++ codes "(" ++ separated instance.functions ++ codes ")"

abbrev pub container_type_text : ℕ → List ℕ → List ℕ
container_type_text sizes element = codes "skepu::" ++ kind_word sizes ++ codes "<" ++ element ++ codes "> "

-- ---- statements

-- how a statement ends: with `;`, or with a block; an `if` may follow an `else`
pub data Form : Type 0 where
  Simple : Form
  Choice : Form
  Loop : Form

-- a statement's form, and its text without its `;` where its line begins with these blanks
pub record ShownStatement : Type 0 where
  pub form : Form
  pub text : (indent : List ℕ) → List ℕ

abbrev pub simple : List ℕ → ShownStatement
simple text = record { form = Simple; text = λ indent. text }

abbrev pub end_text : Form → List ℕ
end_text Simple = codes ";"
end_text Choice = []
end_text Loop = []

-- a statement on lines of its own
abbrev pub line_text : (indent : List ℕ) → ShownStatement → List ℕ
line_text indent statement = indent ++ statement.text indent ++ end_text statement.form ++ codes "\n"

-- a block, whose statements are two spaces further in
abbrev pub block_text : (indent : List ℕ) → List ShownStatement → List ℕ
block_text indent statements =
    codes "{\n" ++ flat_map (line_text (indent ++ codes "  ")) statements ++ indent ++ codes "}"

-- behind an `else`, an `if` that is alone stands without a block
abbrev pub lone_text : (indent : List ℕ) → Form → ShownStatement → List ℕ
lone_text indent Simple only = block_text indent (only ∷ [])
lone_text indent Choice only = only.text indent
lone_text indent Loop only = block_text indent (only ∷ [])

abbrev pub else_text : (indent : List ℕ) → List ShownStatement → List ℕ
else_text indent [] = []
else_text indent (only ∷ []) = codes " else " ++ lone_text indent only.form only
else_text indent (first ∷ next ∷ rest) = codes " else " ++ block_text indent (first ∷ next ∷ rest)

-- what a statement is printed as, its parts being replaced by what they are printed as
abbrev pub shown_statement_step : What-F ShownStatement ShownStatement → ShownStatement
shown_statement_step (Declare ty name value) = simple (type_word ty ++ codes " " ++ name ++ codes " = " ++ text_of value)
shown_statement_step (Assign name value) = simple (name ++ codes " = " ++ text_of value)
shown_statement_step (Poke name places value) = simple (applied_text name (all_shown places) ++ codes " = " ++ text_of value)
shown_statement_step (Make sizes ty name arguments) =
    simple (container_type_text sizes (type_word ty) ++ applied_text name (all_shown arguments))
shown_statement_step (Take sizes ty name input) =
    simple (container_type_text sizes (type_word ty) ++ name ++ codes " = skepu_input(" ++ quoted input ++ codes ")")
shown_statement_step (Instantiate instance) = simple (instance_text instance)
shown_statement_step (Set name setting) = simple (name ++ codes "." ++ setting_text setting)
shown_statement_step (Call name arguments) = simple (applied_text name (all_shown arguments))
shown_statement_step (Print items) = simple (codes "std::cout" ++ flat_map (λ item. codes " << " ++ item_text item) items)
shown_statement_step (If test one other) = record {
  form = Choice;
  text = λ indent. codes "if (" ++ text_of test ++ codes ") " ++ block_text indent one ++ else_text indent other;
}
shown_statement_step (For first test step body) = record {
  form = Loop;
  text = λ indent.
      codes "for (" ++ first.text indent ++ codes "; " ++ text_of test ++ codes "; " ++ step.text indent ++ codes ") " ++ block_text indent body;
}
shown_statement_step (Return value) = simple (codes "return " ++ text_of value)

abbrev pub shown_what : What → ShownStatement
shown_what = fold-What ShownStatement ShownStatement shown_statement_step (λ statement. statement.what)

abbrev pub shown_statement : Statement → ShownStatement
shown_statement = fold-Statement ShownStatement ShownStatement shown_statement_step (λ statement. statement.what)
