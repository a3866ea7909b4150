-- What names of types, operators and skeletons, and numbers are printed as.
use Rattle.std.specs.Prelude.{ℕ, ◌==◌, if◌then◌else◌, List, [], ◌++◌, ℤ, pos, codes, int_le}
use Rattle.std.specs.Fmt.{signed_decimal}
use Rattle.sk_base.specs.declared.choice.EdgeMode.{EdgeMode}
use Rattle.sk_base.specs.declared.choice.EdgeMode.TheVariants as edge
use Rattle.sk_base.specs.declared.number.Op.{Op}
use Rattle.sk_base.specs.declared.number.Op.TheVariants as op
use Rattle.sk_base.specs.declared.number.Ty.{Ty}
use Rattle.sk_base.specs.declared.number.Ty.TheVariants.{Int, Long}
use Rattle.sk_tree.specs.declared.tree.ParamKind.{ParamKind}
use Rattle.sk_tree.specs.declared.tree.ParamKind.TheVariants.{Scalar, Index, Proxy, Region}
use Rattle.sk_tree.specs.declared.tree.Skeleton.{Skeleton}
use Rattle.sk_tree.specs.declared.tree.Skeleton.TheVariants.{Map, Reduce, Scan, MapReduce, MapOverlap, MapPairs, MapPairsReduce, Call}
use Rattle.sk_tree.specs.declared.tree.Un.{Un}
use Rattle.sk_tree.specs.declared.tree.Un.TheVariants.{Neg, Inv, Not}
use Rattle.sk_names.specs.Words.{type_word}

abbrev pub operator_text : Op → List ℕ
operator_text op.Add = codes "+"
operator_text op.Sub = codes "-"
operator_text op.Mul = codes "*"
operator_text op.Div = codes "/"
operator_text op.Rem = codes "%"
operator_text op.Shl = codes "<<"
operator_text op.Shr = codes ">>"
operator_text op.Lt = codes "<"
operator_text op.Le = codes "<="
operator_text op.Gt = codes ">"
operator_text op.Ge = codes ">="
operator_text op.Eq = codes "=="
operator_text op.Ne = codes "!="
operator_text op.And = codes "&"
operator_text op.Or = codes "|"
operator_text op.Xor = codes "^"

abbrev pub prefix_text : Un → List ℕ
prefix_text Neg = codes "-"
prefix_text Inv = codes "~"
prefix_text Not = codes "!"

-- `L` stands behind a number of type long that without it would be of type int
abbrev pub suffix_text : Ty → ℤ → List ℕ
suffix_text Int value = []
suffix_text Long value = if int_le value (pos 2147483647) then codes "L" else []

abbrev pub number_text : Ty → ℤ → List ℕ
number_text ty value = signed_decimal value ++ suffix_text ty value

abbrev pub index_text : ℕ → List ℕ
index_text sizes =
    if sizes == 1 then codes "Index1D" else if sizes == 2 then codes "Index2D" else if sizes == 3 then codes "Index3D" else codes "Index4D"

abbrev pub proxy_text : ℕ → List ℕ
proxy_text sizes =
    if sizes == 1 then codes "Vec" else if sizes == 2 then codes "Mat" else if sizes == 3 then codes "Ten3" else codes "Ten4"

abbrev pub region_text : ℕ → List ℕ
region_text sizes =
    if sizes == 1 then codes "Region1D" else codes "Region2D"

-- the type of a parameter
abbrev pub kind_text : ParamKind → List ℕ
kind_text (Scalar ty) = type_word ty
kind_text (Index sizes) = codes "skepu::" ++ index_text sizes
kind_text (Proxy sizes ty) = codes "skepu::" ++ proxy_text sizes ++ codes "<" ++ type_word ty ++ codes ">"
kind_text (Region sizes ty) = codes "skepu::" ++ region_text sizes ++ codes "<" ++ type_word ty ++ codes ">"

abbrev pub skeleton_text : Skeleton → List ℕ
skeleton_text Map = codes "Map"
skeleton_text Reduce = codes "Reduce"
skeleton_text Scan = codes "Scan"
skeleton_text MapReduce = codes "MapReduce"
skeleton_text MapOverlap = codes "MapOverlap"
skeleton_text MapPairs = codes "MapPairs"
skeleton_text MapPairsReduce = codes "MapPairsReduce"
skeleton_text Call = codes "Call"

abbrev pub edge_text : EdgeMode → List ℕ
edge_text edge.Duplicate = codes "Duplicate"
edge_text edge.Cyclic = codes "Cyclic"
edge_text edge.Pad = codes "Pad"
