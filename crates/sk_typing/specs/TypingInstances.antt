-- The rules of skeleton instances: what they are made of, what their calls take, and which settings they have.
use Rattle.std.specs.Prelude.{ℕ, ◌-◌, ◌==◌, nat_lt, Bool, true, false, ◌&&◌, if◌then◌else◌, List, [], ◌∷◌, ◌++◌, map, length, take, ℤ, Option, Some, None, slice_get, flat_map}
use Rattle.sk_base.specs.declared.number.Ty.{Ty}
use Rattle.sk_names.specs.Bindings.{bound_to}
use Rattle.sk_tree.specs.Parameters.{same_type, scalar_types, index_dimension, region_of}
use Rattle.sk_typing.specs.TypingNames.{Knowns, Around, fault, unless, proxy_places, numbers}
use Rattle.sk_tree.specs.Functions.{kinds_of}
use Rattle.sk_typing.specs.declared.names.Expected.{Expected}
use Rattle.sk_typing.specs.declared.names.Expected.TheVariants.{Container}
use Rattle.sk_typing.specs.declared.names.Fault.{Fault}
use Rattle.sk_typing.specs.declared.names.FaultKind.TheVariants.{Unknown, Mismatch, Arity}
use Rattle.sk_typing.specs.declared.names.Known.{Known}
use Rattle.sk_typing.specs.declared.names.Known.TheVariants.{Function as FunctionName, Instance as InstanceName, Broken}
use Rattle.sk_typing.specs.declared.names.Made.{Made}
use Rattle.sk_typing.specs.declared.names.Use.{Use}
use Rattle.sk_typing.specs.declared.names.Use.TheVariants.{Takes, Wrong}
use Rattle.sk_tree.specs.declared.tree.Expr.{Expr}
use Rattle.sk_tree.specs.declared.tree.Function.{Function}
use Rattle.sk_tree.specs.declared.tree.Instance.{Instance}
use Rattle.sk_tree.specs.declared.tree.ParamKind.{ParamKind}
use Rattle.sk_tree.specs.declared.tree.Setting.{Setting}
use Rattle.sk_tree.specs.declared.tree.Setting.TheVariants.{Start, Scan as ScanMode, Lines, Overlap, Edge, Pad}
use Rattle.sk_tree.specs.declared.tree.Skeleton.{Skeleton}
use Rattle.sk_tree.specs.declared.tree.Skeleton.TheVariants.{Map, Reduce, Scan, MapReduce, MapOverlap, MapPairs, MapPairsReduce, Call}
use Rattle.sk_tree.specs.Skeletons.{function_count, is_operator, fits_skeleton, numbers_fit, elements_of}

-- A name in an instance stands for a function before main.
abbrev pub callee_faults : Around → Option Known → List Fault
callee_faults around None = fault around Unknown
callee_faults around (Some (FunctionName number)) = unless (nat_lt number around.number) around Mismatch
callee_faults around (Some known) = fault around Mismatch

-- the function that a name in an instance stands for
abbrev pub callee_of : Around → Option Known → Option Function
callee_of around (Some (FunctionName number)) = if nat_lt number around.number then slice_get around.functions number else None
callee_of around known = None

-- A second function is an operator of the first's return type.
abbrev pub is_second : Ty → Function → Bool
is_second ty function = same_type function.ret ty && is_operator ty (kinds_of function)

abbrev pub second_faults : Around → Ty → List (Option Function) → List Fault
second_faults around ty (Some second ∷ []) = unless (is_second ty second) around Mismatch
second_faults around ty functions = []

-- whether an instance fits its functions, as far as they are known
abbrev pub form_faults : Around → Skeleton → List ℤ → List (Option Function) → List Fault
form_faults around skeleton numbers (Some first ∷ functions) =
    unless (fits_skeleton skeleton first.ret (kinds_of first)) around Mismatch
    ++ unless (numbers_fit skeleton numbers (kinds_of first)) around Arity
    ++ second_faults around first.ret functions
form_faults around skeleton numbers functions = []

-- the faults of an instance, apart from where it stands and from its name
abbrev pub instance_faults : Around → Knowns → Instance → List Fault
instance_faults around names instance =
    flat_map (λ name. callee_faults around (bound_to name names)) instance.functions
    ++ (if length instance.functions == function_count instance.skeleton
    then form_faults around instance.skeleton instance.numbers (map (λ name. callee_of around (bound_to name names)) instance.functions)
    else fault around Arity)

-- what the first of these names stands for, where it is a function
abbrev pub first_number : Knowns → List (List ℕ) → ℕ
first_number names [] = 0
first_number names (name ∷ more) = elim (bound_to name names) [ Some (FunctionName number) ↦ number | _ ↦ 0 ]

abbrev pub kinds_at : Around → ℕ → List ParamKind
kinds_at around number = elim (slice_get around.functions number) [ Some function ↦ kinds_of function | None ↦ [] ]

-- what an instance is known as
abbrev pub made_of : Around → Knowns → Instance → Made
made_of around names instance =
    let number : ℕ = first_number names instance.functions in
    record {
      skeleton = instance.skeleton;
      function = number;
      elements = elements_of instance.skeleton instance.numbers (kinds_at around number);
    }

-- An instance whose declaration is at fault still has its name, but nothing is known of its calls.
abbrev pub instance_known : Around → Knowns → Instance → Known
instance_known around names instance = elim (instance_faults around names instance) [
  | [] ↦ InstanceName (made_of around names instance)
  | fault ∷ faults ↦ Broken
]

-- Elements have the parameter's element type.
abbrev pub element_places : Option ℕ → ℕ → List ParamKind → List Expected
element_places dimension count kinds = map (Container dimension) (take count (scalar_types kinds))

-- Behind elements or region stand the containers, with the parameter's element type and dimension, and then the uniform
-- arguments: all scalars that are no elements.
abbrev pub further_places : ℕ → List ParamKind → List Expected
further_places count kinds = proxy_places kinds ++ numbers (length (scalar_types kinds) - count)

-- The arguments of a call, of which the first has that dimension if it is a container. A result has the function's
-- return type, and for Reduce, Scan and the skeletons of pairs its fixed dimension. Map's elements have the result's
-- dimension, MapReduce's have the first's, and an index parameter has the same.
abbrev pub places_of : Made → (first : Option ℕ) → Function → List Expected
places_of made first function =
    let kinds : List ParamKind = kinds_of function in
    let common : Option ℕ = elim (index_dimension kinds) [ Some index ↦ Some index | None ↦ first ] in
    elim made.skeleton [
      | Map ↦ Container common function.ret ∷ element_places common made.elements kinds ++ further_places made.elements kinds
      | Reduce ↦ Container (Some 1) function.ret ∷ Container (Some 2) function.ret ∷ []
      | Scan ↦ Container (Some 1) function.ret ∷ Container (Some 1) function.ret ∷ []
      | MapReduce ↦ element_places common made.elements kinds ++ further_places made.elements kinds
      | MapOverlap ↦ elim (region_of kinds) [
        | Some region ↦ Container (Some region.0) function.ret ∷ Container (Some region.0) region.1 ∷ further_places 0 kinds
        | None ↦ []
      ]
      | MapPairs ↦ Container (Some 2) function.ret ∷ element_places (Some 1) 2 kinds ++ further_places 2 kinds
      | MapPairsReduce ↦ Container (Some 1) function.ret ∷ element_places (Some 1) 2 kinds ++ further_places 2 kinds
      | Call ↦ further_places 0 kinds
    ]

-- A Reduce without result, a MapReduce and a Call are expressions of main; each other skeleton, and Reduce with a result,
-- is a call statement. A Reduce without result has one argument, one with a result has two.
abbrev pub value_use : Made → (count : ℕ) → (first : Option ℕ) → Function → Use
value_use made count first function = elim made.skeleton [
  | Reduce ↦ if count == 2 then Wrong Mismatch else Takes (Container None function.ret ∷ [])
  | MapReduce ↦ Takes (places_of made first function)
  | Call ↦ Takes (places_of made first function)
  | _ ↦ Wrong Mismatch
]

abbrev pub statement_use : Made → (count : ℕ) → (first : Option ℕ) → Function → Use
statement_use made count first function = elim made.skeleton [
  | Reduce ↦ if count == 1 then Wrong Mismatch else Takes (places_of made first function)
  | MapReduce ↦ Wrong Mismatch
  | Call ↦ Wrong Mismatch
  | _ ↦ Takes (places_of made first function)
]

abbrev pub has_start : Skeleton → Bool
has_start Reduce = true
has_start Scan = true
has_start MapReduce = true
has_start MapPairsReduce = true
has_start skeleton = false

abbrev pub has_lines : Skeleton → Bool
has_lines Reduce = true
has_lines MapPairsReduce = true
has_lines skeleton = false

abbrev pub is_scan : Skeleton → Bool
is_scan Scan = true
is_scan skeleton = false

abbrev pub is_overlap : Skeleton → Bool
is_overlap MapOverlap = true
is_overlap skeleton = false

-- `setOverlap` takes one value, and for the region of a matrix one or two.
abbrev pub overlap_count : List ParamKind → (count : ℕ) → ℕ
overlap_count kinds count =
    elim (region_of kinds) [ Some region ↦ if region.0 == 2 && count == 2 then 2 else 1 | None ↦ 1 ]

abbrev pub takes_if : Bool → List Expected → Use
takes_if true places = Takes places
takes_if false places = Wrong Mismatch

-- A setting of another skeleton is a mismatch: start belongs to Reduce, Scan, MapReduce and MapPairsReduce, scan mode to
-- Scan, reduce mode to Reduce and MapPairsReduce, the others to MapOverlap.
abbrev pub setting_use : Made → Function → Setting → Use
setting_use made function (Start value) = takes_if (has_start made.skeleton) (numbers 1)
setting_use made function (ScanMode exclusive) = takes_if (is_scan made.skeleton) []
setting_use made function (Lines columns) = takes_if (has_lines made.skeleton) []
setting_use made function (Overlap values) =
    takes_if (is_overlap made.skeleton) (numbers (overlap_count (kinds_of function) (length values)))
setting_use made function (Edge mode) = takes_if (is_overlap made.skeleton) []
setting_use made function (Pad value) = takes_if (is_overlap made.skeleton) (numbers 1)

-- the values of a setting
abbrev pub setting_values : Setting → List Expr
setting_values (Start value) = value ∷ []
setting_values (ScanMode exclusive) = []
setting_values (Lines columns) = []
setting_values (Overlap values) = values
setting_values (Edge mode) = []
setting_values (Pad value) = value ∷ []
