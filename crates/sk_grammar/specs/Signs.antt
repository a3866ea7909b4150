-- What the signs and words of the grammar stand for.
use Rattle.std.specs.Prelude.{ℕ, true, false, if◌then◌else◌, List, [], ◌∷◌, Option, Some, None, codes}
use Rattle.sk_base.specs.declared.choice.EdgeMode.TheVariants.{Duplicate, Cyclic, Pad as PadEdge}
use Rattle.sk_base.specs.declared.number.Op.{Op}
use Rattle.sk_base.specs.declared.number.Op.TheVariants as op
use Rattle.sk_base.specs.declared.number.Ty.{Ty}
use Rattle.sk_names.specs.Bytes.{same_bytes}
use Rattle.sk_tokens.specs.declared.token.Sign.{Sign}
use Rattle.sk_tokens.specs.declared.token.Sign.TheVariants as sign
use Rattle.sk_tree.specs.declared.tree.Expr.{Expr}
use Rattle.sk_tree.specs.declared.tree.ParamKind.{ParamKind}
use Rattle.sk_tree.specs.declared.tree.ParamKind.TheVariants.{Index, Proxy, Region}
use Rattle.sk_tree.specs.declared.tree.Setting.{Setting}
use Rattle.sk_tree.specs.declared.tree.Setting.TheVariants.{Start, Scan as ScanSetting, Lines, Edge, Pad}
use Rattle.sk_tree.specs.declared.tree.Skeleton.{Skeleton}
use Rattle.sk_tree.specs.declared.tree.Skeleton.TheVariants.{Map, Reduce, Scan, MapReduce, MapOverlap, MapPairs, MapPairsReduce, Call}
use Rattle.sk_tree.specs.declared.tree.Un.{Un}
use Rattle.sk_tree.specs.declared.tree.Un.TheVariants.{Neg, Inv, Not}
-- an operator between two operands
pub use Rattle.sk_grammar.specs.declared.infix.Infix.{Infix}
pub use Rattle.sk_grammar.specs.declared.infix.Infix.TheVariants.{Computes, Both, Either}
-- the words for types
pub use Rattle.sk_names.specs.Words.{type_word}

abbrev pub infix_of : Sign → Option Infix
infix_of sign.OrOr = Some Either
infix_of sign.AndAnd = Some Both
infix_of sign.Or = Some (Computes op.Or)
infix_of sign.Caret = Some (Computes op.Xor)
infix_of sign.And = Some (Computes op.And)
infix_of sign.EqEq = Some (Computes op.Eq)
infix_of sign.Ne = Some (Computes op.Ne)
infix_of sign.Lt = Some (Computes op.Lt)
infix_of sign.Le = Some (Computes op.Le)
infix_of sign.Gt = Some (Computes op.Gt)
infix_of sign.Ge = Some (Computes op.Ge)
infix_of sign.Shl = Some (Computes op.Shl)
infix_of sign.Shr = Some (Computes op.Shr)
infix_of sign.Plus = Some (Computes op.Add)
infix_of sign.Minus = Some (Computes op.Sub)
infix_of sign.Star = Some (Computes op.Mul)
infix_of sign.Slash = Some (Computes op.Div)
infix_of sign.Percent = Some (Computes op.Rem)
infix_of other = None

-- The levels of expressions, the loosest first: 0 is `?:`, 1 to 10 are the operators, 11 the prefixes and conversions,
-- and 12 what stands by itself.
abbrev pub operator_level : Op → ℕ
operator_level op.Or = 3
operator_level op.Xor = 4
operator_level op.And = 5
operator_level op.Eq = 6
operator_level op.Ne = 6
operator_level op.Lt = 7
operator_level op.Le = 7
operator_level op.Gt = 7
operator_level op.Ge = 7
operator_level op.Shl = 8
operator_level op.Shr = 8
operator_level op.Add = 9
operator_level op.Sub = 9
operator_level op.Mul = 10
operator_level op.Div = 10
operator_level op.Rem = 10

abbrev pub infix_level : Infix → ℕ
infix_level Either = 1
infix_level Both = 2
infix_level (Computes operator) = operator_level operator

abbrev pub sum_level : ℕ
sum_level = 9

abbrev pub prefix_level : ℕ
prefix_level = 11

abbrev pub primary_level : ℕ
primary_level = 12

abbrev pub prefix_of : Sign → Option Un
prefix_of sign.Minus = Some Neg
prefix_of sign.Tilde = Some Inv
prefix_of sign.Not = Some Not
prefix_of other = None

-- how an assignment makes the new value: it is the value that stands there, or an operator joins it to the old one
pub data Assigns : Type 0 where
  Plainly : Assigns
  Joining : Op → Assigns

abbrev pub assigns_of : Sign → Option Assigns
assigns_of sign.Eq = Some Plainly
assigns_of sign.PlusEq = Some (Joining op.Add)
assigns_of sign.MinusEq = Some (Joining op.Sub)
assigns_of sign.StarEq = Some (Joining op.Mul)
assigns_of sign.SlashEq = Some (Joining op.Div)
assigns_of sign.PercentEq = Some (Joining op.Rem)
assigns_of sign.AndEq = Some (Joining op.And)
assigns_of sign.OrEq = Some (Joining op.Or)
assigns_of sign.CaretEq = Some (Joining op.Xor)
assigns_of sign.ShlEq = Some (Joining op.Shl)
assigns_of sign.ShrEq = Some (Joining op.Shr)
assigns_of other = None

-- `++` adds one, `--` takes one away
abbrev pub step_of : Sign → Option Op
step_of sign.PlusPlus = Some op.Add
step_of sign.MinusMinus = Some op.Sub
step_of other = None

-- what the first of the entries with this word stands for
abbrev pub meant_by : {A : Type 0} → List (List ℕ × A) → List ℕ → Option A
meant_by [] word = None
meant_by (entry ∷ entries) word = if same_bytes entry.0 word then Some entry.1 else meant_by entries word

-- the kinds of containers, by the number of their sizes
abbrev pub container_words : List (List ℕ × ℕ)
container_words = (codes "Vector", 1) ∷ (codes "Matrix", 2) ∷ (codes "Tensor3", 3) ∷ (codes "Tensor4", 4) ∷ []

-- parameters without a type: the index of the place that is computed
abbrev pub index_words : List (List ℕ × ParamKind)
index_words = (codes "Index1D", Index 1) ∷ (codes "Index2D", Index 2) ∷ (codes "Index3D", Index 3) ∷ (codes "Index4D", Index 4) ∷ []

-- parameters with a type: whole containers, and the elements round a place
abbrev pub view_words : List (List ℕ × (Ty → ParamKind))
view_words =
    (codes "Vec", Proxy 1) ∷ (codes "Mat", Proxy 2) ∷ (codes "Ten3", Proxy 3) ∷ (codes "Ten4", Proxy 4)
    ∷ (codes "Region1D", Region 1) ∷ (codes "Region2D", Region 2) ∷ []

abbrev pub skeleton_words : List (List ℕ × Skeleton)
skeleton_words =
    (codes "Map", Map) ∷ (codes "Reduce", Reduce) ∷ (codes "Scan", Scan) ∷ (codes "MapReduce", MapReduce)
    ∷ (codes "MapOverlap", MapOverlap) ∷ (codes "MapPairs", MapPairs) ∷ (codes "MapPairsReduce", MapPairsReduce)
    ∷ (codes "Call", Call) ∷ []

-- settings that take a value
abbrev pub value_words : List (List ℕ × (Expr → Setting))
value_words = (codes "setStartValue", Start) ∷ (codes "setPad", Pad) ∷ []

-- a family of modes, with what each of its words sets
pub record Family : Type 0 where
  pub name : List ℕ
  pub modes : List (List ℕ × Setting)

-- settings that take a mode of a family
abbrev pub mode_words : List (List ℕ × Family)
mode_words =
    (codes "setScanMode", record { name = codes "ScanMode"; modes = (codes "Inclusive", ScanSetting false) ∷ (codes "Exclusive", ScanSetting true) ∷ [] })
    ∷ (codes "setReduceMode", record { name = codes "ReduceMode"; modes = (codes "RowWise", Lines false) ∷ (codes "ColWise", Lines true) ∷ [] })
    ∷ (codes "setEdgeMode", record { name = codes "Edge"; modes = (codes "Duplicate", Edge Duplicate) ∷ (codes "Cyclic", Edge Cyclic) ∷ (codes "Pad", Edge PadEdge) ∷ [] })
    ∷ []
