-- What the user functions of a program compute.
use Rattle.std.specs.Prelude.{ℕ, zero, suc, ◌-◌, if◌then◌else◌, List, [], ◌∷◌, length, drop, map, reverse, ℤ, pos, Some, None, Result, Ok, Err, slice_index_or, codes}
use Rattle.std.specs.List.{zip}
use Rattle.sk_base.specs.declared.number.Ty.{Ty}
use Rattle.sk_base.specs.declared.number.Ty.TheVariants.{Int}
use Rattle.sk_base.specs.declared.number.Trap.{Trap}
use Rattle.sk_base.specs.declared.number.Trap.TheVariants.{Turns, Index}
use Rattle.sk_base.specs.Arithmetic.{wrapped, op_of}
use Rattle.sk_base.specs.Shape.{cells_of, flat_of}
use Rattle.sk_names.specs.Bindings.{bound_to, rebound}
use Rattle.sk_meaning.specs.Expressions.{Names, meaning_of, then_do, holds}
use Rattle.sk_names.specs.Bytes.{same_bytes}
use Rattle.sk_tree.specs.declared.tree.ParamKind.{ParamKind}
use Rattle.sk_tree.specs.declared.tree.ParamKind.TheVariants.{Scalar, Index as IndexKind, Proxy, Region}
use Rattle.sk_tree.specs.declared.tree.Param.{Param}
use Rattle.sk_tree.specs.declared.tree.Function.{Function}
use Rattle.sk_tree.specs.declared.tree.Expr.{Expr}
use Rattle.sk_tree.specs.declared.tree.Statement.{Statement, fold-Statement}
use Rattle.sk_tree.specs.declared.tree.What.TheOpen.{What-F, Declare, Assign, If, For, Return}

-- What a parameter is given: a number; the place that is computed; a container's sizes and cells; or the elements round
-- a place, by their distances, with the overlap in each direction.
pub data Argument : Type 0 where
  Value : ℤ → Argument
  Place : List ℕ → Argument
  Whole : (sizes : List ℕ) → (cells : List ℤ) → Argument
  Neighbours : (overlaps : List ℕ) → (at : List ℤ → Result ℤ Trap) → Argument

-- a parameter or a scalar, with what it stands for
pub record Binding : Type 0 where
  pub kind : ParamKind
  pub argument : Argument

-- the names in scope in a function, the latest first
abbrev pub Scope : Type 0
Scope = List (List ℕ × Binding)

-- a function that may be called: its type, its parameters, and its value for arguments and the turns left
pub record Callable : Type 0 where
  pub ret : Ty
  pub kinds : List ParamKind
  pub call : List Argument → ℕ → Result (ℤ × ℕ) Trap

abbrev pub Callables : Type 0
Callables = List (List ℕ × Callable)

-- a number of a type, in scope
abbrev pub scalar_binding : Ty → ℤ → Binding
scalar_binding ty value = record { kind = Scalar ty; argument = Value (wrapped ty value) }

-- a number that is given to a scalar parameter is wrapped; every other argument is bound as it is
abbrev pub argument_binding : ParamKind → Argument → Binding
argument_binding (Scalar ty) (Value value) = scalar_binding ty value
argument_binding kind argument = record { kind = kind; argument = argument }

-- the value with this name, or 0
abbrev pub named : List (List ℕ) → List ℕ → List ℕ → ℕ
named [] values name = 0
named (field ∷ fields) [] name = 0
named (field ∷ fields) (value ∷ values) name = if same_bytes field name then value else named fields values name

abbrev pub place_fields : List ℕ → List (List ℕ)
place_fields (i ∷ []) = codes "i" ∷ []
place_fields (i ∷ j ∷ []) = codes "row" ∷ codes "col" ∷ []
place_fields place = codes "i" ∷ codes "j" ∷ codes "k" ∷ codes "l" ∷ []

abbrev pub size_fields : List ℕ → List (List ℕ)
size_fields (n ∷ []) = []
size_fields (rows ∷ cols ∷ []) = codes "rows" ∷ codes "cols" ∷ []
size_fields sizes = codes "size_i" ∷ codes "size_j" ∷ codes "size_k" ∷ codes "size_l" ∷ []

-- the field of a parameter
abbrev pub field_of : Argument → List ℕ → ℤ
field_of (Value value) name = pos 0
field_of (Place place) name = pos (named (place_fields place) place name)
field_of (Whole sizes cells) name = pos (named (codes "size" ∷ size_fields sizes) (cells_of sizes ∷ sizes) name)
field_of (Neighbours overlaps at) name = pos (named (codes "oi" ∷ codes "oj" ∷ []) overlaps name)

-- the element of a container at a place
abbrev pub element_of : (sizes : List ℕ) → (cells : List ℤ) → (place : List ℤ) → Result ℤ Trap
element_of sizes cells place =
    elim (flat_of sizes place) [ Some index ↦ Ok (slice_index_or cells index (pos 0)) | None ↦ Err Index ]

-- an element of a parameter
abbrev pub element_at : Argument → List ℤ → Result ℤ Trap
element_at (Value value) place = Err Index
element_at (Place i) place = Err Index
element_at (Whole sizes cells) place = element_of sizes cells place
element_at (Neighbours overlaps at) place = at place

abbrev pub kind_type : ParamKind → Ty
kind_type (Scalar ty) = ty
kind_type (IndexKind dimension) = Int
kind_type (Proxy dimension ty) = ty
kind_type (Region dimension ty) = ty

abbrev pub number_in : Argument → ℤ
number_in (Value value) = value
number_in argument = pos 0

-- a value, with what is kept beside it
abbrev pub keeping : {A S F : Type 0} → Result A F → S → Result (A × S) F
keeping (Ok value) s = Ok (value, s)
keeping (Err stop) s = Err stop

-- what names mean in a function: its scalars and parameters, and the functions before it
abbrev pub names_in : Callables → Scope → Names ℕ Trap
names_in callables scope = record {
  arithmetic = op_of;
  scalar = λ name. elim (bound_to name scope) [ Some binding ↦ (kind_type binding.kind, number_in binding.argument) | None ↦ (Int, pos 0) ];
  field = λ name field. elim (bound_to name scope) [ Some binding ↦ field_of binding.argument field | None ↦ pos 0 ];
  method = λ name method. pos 0;
  applied = λ name. elim (bound_to name scope) [
    | Some binding ↦ kind_type binding.kind
    | None ↦ elim (bound_to name callables) [ Some callable ↦ callable.ret | None ↦ Int ]
  ];
  apply = λ name names values turns. elim (bound_to name scope) [
    | Some binding ↦ keeping (element_at binding.argument values) turns
    | None ↦ elim (bound_to name callables) [ Some callable ↦ callable.call (map Value values) turns | None ↦ Ok (pos 0, turns) ]
  ];
  stop = λ trap turns. trap;
}

-- how far a block has come: it goes on with a scope, or the function returns
pub data Flow : Type 0 where
  Going : Scope → Flow
  Returned : ℤ → Flow

-- what a statement of a function does, with the turns that are left
abbrev pub Doing : Type 0
Doing = Callables → Scope → ℕ → Result (Flow × ℕ) Trap

-- goes on where a statement did not return
abbrev pub and_then : Result (Flow × ℕ) Trap → (Scope → ℕ → Result (Flow × ℕ) Trap) → Result (Flow × ℕ) Trap
and_then done next =
    then_do done (λ flow turns. elim flow [ Going scope ↦ next scope turns | Returned value ↦ Ok (Returned value, turns) ])

-- statements one after another
abbrev pub in_sequence : List Doing → Doing
in_sequence [] callables scope turns = Ok (Going scope, turns)
in_sequence (first ∷ rest) callables scope turns =
    and_then (first callables scope turns) (λ scope turns. in_sequence rest callables scope turns)

-- the scope behind a block: the names that were declared in it are gone
abbrev pub left_behind : (outer inner : Scope) → Scope
left_behind outer inner = drop (length inner - length outer) inner

-- statements whose declarations end with them
abbrev pub in_block : List Doing → Doing
in_block statements callables scope turns =
    and_then (in_sequence statements callables scope turns) (λ inner turns. Ok (Going (left_behind scope inner), turns))

abbrev pub value_in : Expr → Callables → Scope → ℕ → Result (ℤ × ℕ) Trap
value_in expr callables scope turns = (meaning_of expr).value (names_in callables scope) turns

-- A loop from its test on. Each turn is one of the turns left, and the loop has a trap where it would begin one more.
-- `most` is at least the turns left, so the loop ends before it.
unfoldable pub looped : (most : ℕ) → (test : Expr) → (body step : Doing) → Doing
looped zero test body step callables scope turns =
    then_do (value_in test callables scope turns) (λ value turns. if holds value then Err Turns else Ok (Going scope, turns))
looped (suc fewer) test body step callables scope turns =
    then_do (value_in test callables scope turns) (λ value turns.
    if holds value then elim turns [
      | zero ↦ Err Turns
      | suc left ↦
          and_then (body callables scope left) (λ scope turns.
          and_then (step callables scope turns) (λ scope turns. looped fewer test body step callables scope turns))
    ] else Ok (Going scope, turns))

-- a new number for the latest scalar of a name
abbrev pub assigned : List ℕ → ℤ → Scope → Scope
assigned name value = rebound name (λ binding. scalar_binding (kind_type binding.kind) value)

-- What a statement of a function does, its parts being replaced by what they do. A function has no others than these.
abbrev pub doing_step : What-F Doing Doing → Doing
doing_step (Declare ty name expr) callables scope turns =
    then_do (value_in expr callables scope turns) (λ value turns. Ok (Going ((name, scalar_binding ty value) ∷ scope), turns))
doing_step (Assign name expr) callables scope turns =
    then_do (value_in expr callables scope turns) (λ value turns. Ok (Going (assigned name value scope), turns))
doing_step (If test one other) callables scope turns =
    then_do (value_in test callables scope turns) (λ value turns.
    in_block (if holds value then one else other) callables scope turns)
doing_step (For first test step body) callables scope turns =
    and_then (first callables scope turns) (λ inner turns.
    and_then (looped turns test (in_block body) step callables inner turns) (λ inner turns.
    Ok (Going (left_behind scope inner), turns)))
doing_step (Return expr) callables scope turns =
    then_do (value_in expr callables scope turns) (λ value turns. Ok (Returned value, turns))
doing_step what callables scope turns = Ok (Going scope, turns)

-- what a statement of a function does
abbrev pub doing_of : Statement → Doing
doing_of = fold-Statement Doing Doing doing_step (λ statement. statement.what)

-- the parameters with their arguments, the latest first
abbrev pub scope_of : List Param → List Argument → Scope
scope_of params arguments = reverse (map (λ pair. (pair.0.name, argument_binding pair.0.kind pair.1)) (zip params arguments))

-- the value that a function returns, wrapped to its type
abbrev pub returned : Ty → Result (Flow × ℕ) Trap → Result (ℤ × ℕ) Trap
returned ty done =
    then_do done (λ flow turns. elim flow [ Going scope ↦ Ok (pos 0, turns) | Returned value ↦ Ok (wrapped ty value, turns) ])

-- the value of a function for arguments and the turns left, beside the turns that are then left, or its first trap
abbrev pub apply_of : Callables → Function → List Argument → ℕ → Result (ℤ × ℕ) Trap
apply_of earlier function arguments turns =
    returned function.ret (in_sequence (map doing_of function.body) earlier (scope_of function.params arguments) turns)

abbrev pub callable_of : Callables → Function → Callable
callable_of earlier function =
    record { ret = function.ret; kinds = map (λ param. param.kind) function.params; call = apply_of earlier function }

-- functions in text order, each of which may call those before it; the latest first
abbrev pub callables_after : Callables → List Function → Callables
callables_after earlier [] = earlier
callables_after earlier (function ∷ functions) =
    callables_after ((function.name, callable_of earlier function) ∷ earlier) functions

abbrev pub callables_of : List Function → Callables
callables_of = callables_after []

-- how many turns one invocation may take
abbrev pub turn_limit : ℕ
turn_limit = 65536

abbrev pub value_only : {A S F : Type 0} → Result (A × S) F → Result A F
value_only (Ok done) = Ok done.0
value_only (Err stop) = Err stop

-- the value of one invocation, or its first trap
abbrev pub value_of : Callable → List Argument → Result ℤ Trap
value_of callable arguments = value_only (callable.call arguments turn_limit)
