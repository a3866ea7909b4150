-- What the text of a program says of its names and of the texts that it prints, whatever they stand for.
use Rattle.std.specs.Prelude.{◌≡◌, Bool, true, ◌&&◌, nat_le, List, [], ◌∷◌, length}
use Rattle.std.specs.List.{list_all}
use Rattle.sk_main_code.specs.Sound.{is_short_name, is_short_text, most_bytes}
use Rattle.sk_names.specs.Words.{is_word}
use Rattle.sk_tokens.specs.declared.token.Token.{Token}
use Rattle.sk_tokens.specs.declared.token.TokenKind.{TokenKind}
use Rattle.sk_tokens.specs.declared.token.TokenKind.TheVariants.{Word, Number, Text as TextToken, Sign}
use Rattle.sk_tree.specs.declared.tree.Function.{Function}
use Rattle.sk_tree.specs.declared.tree.Item.{Item}
use Rattle.sk_tree.specs.declared.tree.Item.TheVariants.{Value, Text, End}
use Rattle.sk_tree.specs.declared.tree.Program.{Program}
use Rattle.sk_tree.specs.declared.tree.Statement.{Statement, fold-Statement}
use Rattle.sk_tree.specs.declared.tree.What.TheOpen.{What-F, Declare, Assign, Poke, Make, Take, Instance, Set, Call, Print, If, For, Return}

-- each word among tokens is one of at most 255 bytes, and each text is what a string may stand for
abbrev pub kind_short : TokenKind → Bool
kind_short (Word name) = is_word name && nat_le (length name) most_bytes
kind_short (Number ty number) = true
kind_short (TextToken text) = is_short_text text
kind_short (Sign sign) = true

abbrev pub AreShort : List Token → Type 0
AreShort [] = Unit {0}
AreShort (token ∷ tokens) = (kind_short token.what ≡ true) × AreShort tokens

abbrev pub item_short : Item → Bool
item_short (Value expr) = true
item_short (Text text) = is_short_text text
item_short End = true

abbrev pub all_hold : List Bool → Bool
all_hold = list_all (λ test. test)

-- the containers and the instances that a statement declares, and the inputs that it takes, have short names, and each text
-- that it prints is short
abbrev pub names_step : What-F Bool Bool → Bool
names_step (Declare ty name expr) = true
names_step (Assign name expr) = true
names_step (Poke name places expr) = true
names_step (Make dimension ty name arguments) = is_short_name name
names_step (Take dimension ty name input) = is_short_name name && is_short_text input
names_step (Instance instance) = is_short_name instance.name
names_step (Set name setting) = true
names_step (Call name arguments) = true
names_step (Print items) = list_all item_short items
names_step (If test one other) = all_hold one && all_hold other
names_step (For first test step body) = first && step && all_hold body
names_step (Return expr) = true

abbrev pub names_shortly : Statement → Bool
names_shortly = fold-Statement Bool Bool names_step (λ statement. statement.what)

-- a function has a short name, and so has what its statements declare
abbrev pub is_named_shortly : Function → Bool
is_named_shortly function = is_short_name function.name && list_all names_shortly function.body

abbrev pub IsNamedShortly : Program → Type 0
IsNamedShortly program = list_all is_named_shortly program.functions ≡ true
