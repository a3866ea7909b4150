-- What the text of a program alone says of its expressions and statements, whatever its names stand for.
use Rattle.std.specs.Prelude.{◌≡◌, ℕ, ◌-◌, Bool, true, false, ◌&&◌, ◌==◌, List, [], ◌∷◌, length, map, nat_le, slice_get, Ok}
use Rattle.std.specs.List.{list_all}
use Rattle.sk_isa.specs.Soundness.{is_kind}
use Rattle.sk_plain.specs.Plain.{fits_type}
pub use Rattle.sk_plain.specs.Plain.{takes_scalars, FunctionsTakeScalars}
use Rattle.sk_tokens.specs.Tokens.{tokens_of}
use Rattle.sk_tokens.specs.declared.token.Token.{Token}
use Rattle.sk_tokens.specs.declared.token.TokenKind.{TokenKind}
use Rattle.sk_tokens.specs.declared.token.TokenKind.TheVariants.{Word, Number as NumberToken, Text as TextToken, Sign}
use Rattle.sk_tree.specs.Functions.{body_of}
use Rattle.sk_tree.specs.declared.tree.Expr.{Expr, fold-Expr}
use Rattle.sk_tree.specs.declared.tree.Expr.TheOpen.{Expr-F, Number, Name, Field, Method, Unary, Cast, Binary, Both, Either, Choose, Apply}
use Rattle.sk_tree.specs.declared.tree.Function.{Function}
use Rattle.sk_tree.specs.declared.tree.Item.{Item}
use Rattle.sk_tree.specs.declared.tree.Item.TheVariants.{Value, Text, End}
use Rattle.sk_tree.specs.declared.tree.Program.{Program}
use Rattle.sk_tree.specs.declared.tree.Skeleton.{Skeleton}
use Rattle.sk_tree.specs.declared.tree.Skeleton.TheVariants.{Map}
use Rattle.sk_tree.specs.declared.tree.Statement.{Statement, fold-Statement}
use Rattle.sk_tree.specs.declared.tree.What.TheOpen.{What-F, Declare, Assign, Poke, Make, Take, Instance, Set, Call, Print, If, For, Return}
use Rattle.sk_typing.specs.TypingInstances.{setting_values}

-- each number fits its type
abbrev pub sized_step : Expr-F Bool → Bool
sized_step (Number ty number) = fits_type ty number
sized_step (Name name) = true
sized_step (Field name field) = true
sized_step (Method name method) = true
sized_step (Unary op part) = part
sized_step (Cast ty part) = part
sized_step (Binary op left right) = left && right
sized_step (Both left right) = left && right
sized_step (Either left right) = left && right
sized_step (Choose test one other) = test && one && other
sized_step (Apply name parts) = list_all (λ part. part) parts

abbrev pub is_sized : Expr → Bool
is_sized = fold-Expr Bool sized_step

abbrev pub item_sized : Item → Bool
item_sized (Value expr) = is_sized expr
item_sized (Text text) = true
item_sized End = true

-- each number among tokens fits its type
abbrev pub kind_sized : TokenKind → Bool
kind_sized (NumberToken ty number) = fits_type ty number
kind_sized (Word name) = true
kind_sized (TextToken text) = true
kind_sized (Sign sign) = true

abbrev pub AreSized : List Token → Type 0
AreSized [] = Unit {0}
AreSized (token ∷ tokens) = (kind_sized token.what ≡ true) × AreSized tokens

-- Each number among the tokens of a text fits its type.
abbrev pub NumbersFit : Type 0
NumbersFit = (text : List ℕ) (tokens : List Token) → tokens_of text ≡ Ok tokens → AreSized tokens

-- What the text says of a statement: whether it is formed as a text has it, whether a `for` may begin with it, and whether
-- it may be the step of one.
pub record Formed : Type 0 where
  pub sized : Bool
  pub is_light : Bool
  pub is_step : Bool

abbrev pub only_sized : Bool → Formed
only_sized sized = record { sized = sized; is_light = false; is_step = false }

abbrev pub all_sized : List Formed → Bool
all_sized statements = list_all (λ (statement : Formed). statement.sized) statements

-- Each number fits its type. A `for` begins with a declaration of a scalar or an assignment, and its step assigns.
abbrev pub formed_step : What-F Formed Formed → Formed
formed_step (Declare ty name expr) = record { sized = is_sized expr; is_light = true; is_step = false }
formed_step (Assign name expr) = record { sized = is_sized expr; is_light = true; is_step = true }
formed_step (Poke name places expr) = record { sized = list_all is_sized places && is_sized expr; is_light = true; is_step = true }
formed_step (Make dimension ty name arguments) = only_sized (list_all is_sized arguments)
formed_step (Take dimension ty name input) = only_sized true
formed_step (Instance instance) = only_sized true
formed_step (Set name setting) = only_sized (list_all is_sized (setting_values setting))
formed_step (Call name arguments) = only_sized (list_all is_sized arguments)
formed_step (Print items) = only_sized (list_all item_sized items)
formed_step (If test one other) = only_sized (is_sized test && all_sized one && all_sized other)
formed_step (For first test step body) =
    only_sized (first.is_light && step.is_step && first.sized && is_sized test && step.sized && all_sized body)
formed_step (Return expr) = only_sized (is_sized expr)

abbrev pub formed_of : Statement → Formed
formed_of = fold-Statement Formed Formed formed_step (λ statement. statement.what)

abbrev pub body_formed : Function → Bool
body_formed function = all_sized (map formed_of function.body)

abbrev pub has_few : Function → Bool
has_few function = nat_le (length function.params) 64

abbrev pub has_kinds : Function → Bool
has_kinds function = list_all (λ param. is_kind param.kind) function.params

-- every body is formed as a text has it, and no function has more than 64 parameters or one of a kind that there is not
pub record IsFormed (program : Program) : Type 0 where
  pub bodies : list_all body_formed program.functions ≡ true
  pub few : list_all has_few program.functions ≡ true
  pub kinds : list_all has_kinds program.functions ≡ true

-- main, by its place
abbrev pub last_body : List Function → List Statement
last_body functions = body_of (slice_get functions (length functions - 1))

abbrev pub is_map : Skeleton → Bool
is_map Map = true
is_map skeleton = false

-- Containers are vectors without an input, instances are Maps, and there are no settings. A `for` begins with a declaration of
-- a scalar or an assignment, and its step is an assignment, to a scalar or to an element.
pub record VectorForm : Type 0 where
  pub fits : Bool
  pub is_light : Bool
  pub is_step : Bool

abbrev pub only_fits : Bool → VectorForm
only_fits fits = record { fits = fits; is_light = false; is_step = false }

abbrev pub all_fit : List VectorForm → Bool
all_fit statements = list_all (λ (statement : VectorForm). statement.fits) statements

abbrev pub vector_step : What-F VectorForm VectorForm → VectorForm
vector_step (Declare ty name expr) = record { fits = true; is_light = true; is_step = false }
vector_step (Assign name expr) = record { fits = true; is_light = true; is_step = true }
vector_step (Poke name places expr) = record { fits = true; is_light = true; is_step = true }
vector_step (Make dimension ty name arguments) = only_fits (dimension == 1)
vector_step (Take dimension ty name input) = only_fits false
vector_step (Instance instance) = only_fits (is_map instance.skeleton)
vector_step (Set name setting) = only_fits false
vector_step (Call name arguments) = only_fits true
vector_step (Print items) = only_fits true
vector_step (If test one other) = only_fits (all_fit one && all_fit other)
vector_step (For first test step body) = only_fits (first.is_light && step.is_step && all_fit body)
vector_step (Return expr) = only_fits true

abbrev pub vector_form_of : Statement → VectorForm
vector_form_of = fold-Statement VectorForm VectorForm vector_step (λ statement. statement.what)

-- a program of vectors, as its text alone shows it
pub record HasVectorForm (program : Program) : Type 0 where
  pub functions : FunctionsTakeScalars program
  pub main : all_fit (map vector_form_of (last_body program.functions)) ≡ true
