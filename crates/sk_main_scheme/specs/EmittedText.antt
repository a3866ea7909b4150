-- The text of a compiled program: its functions with their marks and codes, its instances with their variants, and main.
use Rattle.std.specs.Prelude.{ℕ, Bool, if◌then◌else◌, List, [], ◌∷◌, ◌++◌, flat_map, map, Option, Some, None, codes}
use Rattle.sk_base.specs.declared.choice.Variant.{Variant}
use Rattle.sk_base.specs.declared.choice.Variant.TheVariants.{Sequential, Chunked, Cluster, Lanes}
use Rattle.sk_isa.specs.declared.code.Code.{Code}
use Rattle.sk_isa.specs.declared.object.Object.{Object}
use Rattle.sk_isa.specs.declared.object.Plan.{Plan}
use Rattle.sk_listing.specs.Listing.{listing_of}
use Rattle.sk_printed.specs.WordText.{skeleton_text}
use Rattle.sk_tree.specs.declared.operator.Operator.{Operator}
use Rattle.sk_tree.specs.declared.operator.OperatorKind.{OperatorKind}
use Rattle.sk_tree.specs.declared.operator.OperatorKind.TheVariants.{Add, Mul, And, Or, Xor, Min, Max, First, Last}
use Rattle.sk_words.specs.Strung.{joined_by}

-- words on a line of their own
abbrev pub line_text : List (List ℕ) → List ℕ
line_text words = joined_by (codes " ") words ++ codes "\n"

abbrev pub mark_word : Bool → List ℕ
mark_word safe = if safe then codes "safe" else codes "unsafe"

abbrev pub kind_word : OperatorKind → List ℕ
kind_word Add = codes "add"
kind_word Mul = codes "mul"
kind_word And = codes "and"
kind_word Or = codes "or"
kind_word Xor = codes "xor"
kind_word Min = codes "min"
kind_word Max = codes "max"
kind_word First = codes "first"
kind_word Last = codes "last"

-- the operator that a function is, or `-`
abbrev pub listed_word : Option Operator → List ℕ
listed_word (Some operator) = kind_word operator.kind
listed_word None = codes "-"

abbrev pub variant_word : Variant → List ℕ
variant_word Sequential = codes "sequential"
variant_word Chunked = codes "chunked"
variant_word Cluster = codes "cluster"
variant_word Lanes = codes "lanes"

abbrev pub function_text : (name : List ℕ) → (safe : Bool) → Option Operator → Code → List ℕ
function_text name safe operator code =
    line_text (codes "function" ∷ name ∷ mark_word safe ∷ listed_word operator ∷ []) ++ listing_of code

-- the functions before main, each with its name, its mark and its operator
abbrev pub functions_text : List (List ℕ) → List Bool → List (Option Operator) → List Code → List ℕ
functions_text (name ∷ names) (safe ∷ marks) (operator ∷ operators) (code ∷ more) =
    function_text name safe operator code ++ functions_text names marks operators more
functions_text names marks operators more = []

abbrev pub instance_text : Plan → List ℕ
instance_text plan = line_text (codes "instance" ∷ plan.name ∷ skeleton_text plan.skeleton ∷ map variant_word plan.variants)

abbrev pub emitted_text : Object → List ℕ
emitted_text object =
    functions_text object.names object.safe object.operators object.functions
    ++ flat_map instance_text object.instances ++ codes "main\n" ++ listing_of object.main
