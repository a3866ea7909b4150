-- Which functions never trap, by a rule on their trees.
use Rattle.std.specs.Prelude.{ℕ, ◌+◌, ◌*◌, suc, nat_le, Bool, true, false, not, ◌&&◌, ◌||◌, if◌then◌else◌, List, [], ◌∷◌, ◌++◌, map, sum, reverse, flat_map, pos, Option, Some, None}
use Rattle.std.specs.List.{list_all, list_any}
use Rattle.sk_base.specs.Arithmetic.{is_shift}
use Rattle.sk_base.specs.declared.number.Op.{Op}
use Rattle.sk_base.specs.declared.number.Op.TheVariants.{Div, Rem}
use Rattle.sk_base.specs.declared.number.Ty.{Ty}
use Rattle.sk_base.specs.declared.number.Ty.TheVariants.{Int}
use Rattle.sk_meaning.specs.Evaluation.{kind_type, turn_limit}
use Rattle.sk_names.specs.Bindings.{bound_to}
use Rattle.sk_safety.specs.Intervals.{Bounded, Bounds, unbounded, has, bounded_of, subexpressions_of}
use Rattle.sk_safety.specs.Loops.{Start, Loop, loop_start, loop_step, loop_of}
use Rattle.sk_tree.specs.declared.tree.Expr.{Expr, Expr-F, out-Expr}
use Rattle.sk_tree.specs.declared.tree.Expr.TheOpen.{Binary, Apply}
use Rattle.sk_tree.specs.declared.tree.Function.{Function}
use Rattle.sk_tree.specs.declared.tree.Param.{Param}
use Rattle.sk_tree.specs.declared.tree.ParamKind.{ParamKind}
use Rattle.sk_tree.specs.declared.tree.ParamKind.TheVariants.{Scalar, Index, Proxy, Region}
use Rattle.sk_tree.specs.declared.tree.Statement.{Statement, fold-Statement}
use Rattle.sk_tree.specs.declared.tree.What.TheOpen.{What-F, Declare, Assign, If, For, Return}

-- the names in scope in a function, the latest first, with what is known of each
abbrev pub Scope : Type 0
Scope = List (List ℕ × Bounded)

-- an expression that is part of no other, with the names in scope where it stands
pub record Place : Type 0 where
  pub expr : Expr
  pub scope : Scope

-- what is said of a statement of a function
pub record Walked : Type 0 where
  -- what it is as the start and as the step of a loop
  pub start : Option Start
  pub step : Option (List ℕ)
  -- the names that it assigns
  pub assigned : List (List ℕ)
  -- the names in scope behind it
  pub behind : Scope → Scope
  -- its expressions
  pub places : Scope → List Place
  -- whether each loop in it is literal
  pub is_literal : Bool
  -- how many turns it takes at most, where each loop in it is literal, given those of the functions that it calls
  pub turns : (List ℕ → ℕ) → ℕ

-- the names that an expression calls, once for each call
abbrev pub called_by : Expr-F Expr → List (List ℕ)
called_by (Apply name arguments) = name ∷ []
called_by node = []

abbrev pub calls_in : Expr → List (List ℕ)
calls_in expr = flat_map (λ part. called_by (out-Expr part)) (subexpressions_of expr)

-- the turns of the functions that an expression calls
abbrev pub calls_turns : Expr → (List ℕ → ℕ) → ℕ
calls_turns expr callee = sum (map callee (calls_in expr))

-- a block's expressions, each statement being given the names in scope behind those before it
abbrev pub block_places : List Walked → Scope → List Place
block_places [] scope = []
block_places (first ∷ rest) scope = first.places scope ++ block_places rest (first.behind scope)

abbrev pub are_literal : List Walked → Bool
are_literal = list_all (λ (walked : Walked). walked.is_literal)

abbrev pub all_turns : List Walked → (List ℕ → ℕ) → ℕ
all_turns statements callee = sum (map (λ (walked : Walked). walked.turns callee) statements)

abbrev pub all_assigned : List Walked → List (List ℕ)
all_assigned = flat_map (λ (walked : Walked). walked.assigned)

-- the loop that a `for` is, where it is literal
abbrev pub loop_in : Walked → Expr → Walked → List Walked → Option Loop
loop_in first test step body = loop_of first.start test step.step (all_assigned body)

-- inside the body of a literal loop its scalar has the loop's numbers
abbrev pub in_loop : Option Loop → Scope → Scope
in_loop None scope = scope
in_loop (Some loop) scope = (loop.name, record { ty = loop.ty; interval = loop.interval }) ∷ scope

-- a turn takes one, and those of the body
abbrev pub loop_turns : Option Loop → (body : ℕ) → ℕ
loop_turns None body = 0
loop_turns (Some loop) body = loop.turns * suc body

abbrev pub is_literal_loop : Option Loop → Bool
is_literal_loop None = false
is_literal_loop (Some loop) = true

abbrev pub assigned_by : What-F Walked Walked → List (List ℕ)
assigned_by (Assign name expr) = name ∷ []
assigned_by (If test one other) = all_assigned one ++ all_assigned other
assigned_by (For first test step body) = first.assigned ++ step.assigned ++ all_assigned body
assigned_by what = []

abbrev pub behind_of : What-F Walked Walked → Scope → Scope
behind_of (Declare ty name expr) scope = (name, unbounded ty) ∷ scope
behind_of what scope = scope

abbrev pub places_of : What-F Walked Walked → Scope → List Place
places_of (Declare ty name expr) scope = record { expr = expr; scope = scope } ∷ []
places_of (Assign name expr) scope = record { expr = expr; scope = scope } ∷ []
places_of (Return expr) scope = record { expr = expr; scope = scope } ∷ []
places_of (If test one other) scope = record { expr = test; scope = scope } ∷ block_places one scope ++ block_places other scope
places_of (For first test step body) scope =
    let inner : Scope = first.behind scope in
    first.places scope ++ record { expr = test; scope = inner } ∷ step.places inner
    ++ block_places body (in_loop (loop_in first test step body) inner)
places_of what scope = []

abbrev pub literal_in : What-F Walked Walked → Bool
literal_in (If test one other) = are_literal one && are_literal other
literal_in (For first test step body) = is_literal_loop (loop_in first test step body) && are_literal body
literal_in what = true

abbrev pub turns_in : What-F Walked Walked → (List ℕ → ℕ) → ℕ
turns_in (Declare ty name expr) callee = calls_turns expr callee
turns_in (Assign name expr) callee = calls_turns expr callee
turns_in (Return expr) callee = calls_turns expr callee
turns_in (If test one other) callee = calls_turns test callee + all_turns one callee + all_turns other callee
turns_in (For first test step body) callee = loop_turns (loop_in first test step body) (all_turns body callee)
turns_in what callee = 0

-- what is said of a statement of a function, its parts being replaced by what is said of them
abbrev pub walked_step : What-F Walked Walked → Walked
walked_step what = record {
  start = loop_start what;
  step = loop_step what;
  assigned = assigned_by what;
  behind = behind_of what;
  places = places_of what;
  is_literal = literal_in what;
  turns = turns_in what;
}

abbrev pub walked_of : Statement → Walked
walked_of = fold-Statement Walked Walked walked_step (λ statement. statement.what)

-- what is known of a function that may be called
pub record Judgement : Type 0 where
  pub ret : Ty
  pub is_safe : Bool
  pub turns : ℕ

-- the functions before one, the latest first
abbrev pub Judgements : Type 0
Judgements = List (List ℕ × Judgement)

abbrev pub safe_in : Judgements → List ℕ → Bool
safe_in earlier name = elim (bound_to name earlier) [ Some judgement ↦ judgement.is_safe | None ↦ false ]

abbrev pub turns_of : Judgements → List ℕ → ℕ
turns_of earlier name = elim (bound_to name earlier) [ Some judgement ↦ judgement.turns | None ↦ 0 ]

-- what is known of names at a place
abbrev pub bounds_at : Judgements → Scope → Bounds
bounds_at earlier scope = record {
  scalar = λ name. elim (bound_to name scope) [ Some bounded ↦ bounded | None ↦ unbounded Int ];
  applied = λ name. elim (bound_to name scope) [
    | Some bounded ↦ bounded.ty
    | None ↦ elim (bound_to name earlier) [ Some judgement ↦ judgement.ret | None ↦ Int ]
  ];
}

-- the parameters of a function, the latest first
abbrev pub scope_of : List Param → Scope
scope_of params = reverse (map (λ (param : Param). (param.name, unbounded (kind_type param.kind))) params)

-- the walked statements of a function, and its expressions with the names in scope where each stands
abbrev pub statements_of : Function → List Walked
statements_of function = map walked_of function.body

abbrev pub places_in : Function → List Place
places_in function = block_places (statements_of function) (scope_of function.params)

-- an operation whose value an arithmetic may refuse by its operands: a division or a shift
pub record Operation : Type 0 where
  pub op : Op
  pub left : Expr
  pub right : Expr

abbrev pub is_division : Op → Bool
is_division Div = true
is_division Rem = true
is_division op = false

abbrev pub operation_in : Expr-F Expr → List Operation
operation_in (Binary op left right) = if is_division op || is_shift op then record { op = op; left = left; right = right } ∷ [] else []
operation_in node = []

-- the divisions and shifts in an expression
abbrev pub operations_of : Expr → List Operation
operations_of expr = flat_map (λ part. operation_in (out-Expr part)) (subexpressions_of expr)

-- A division has a value where its divisor cannot be 0, and a shift always.
abbrev pub has_value : Bounds → Operation → Bool
has_value bounds operation =
    not (is_division operation.op && has (bounded_of operation.right bounds).interval (pos 0))

-- each division and shift in a place's expression has a value
abbrev pub operates_safely : Judgements → Place → Bool
operates_safely earlier place = list_all (has_value (bounds_at earlier place.scope)) (operations_of place.expr)

abbrev pub calls_safely : Judgements → Place → Bool
calls_safely earlier place = list_all (safe_in earlier) (calls_in place.expr)

abbrev pub is_proxy_or_region : ParamKind → Bool
is_proxy_or_region (Scalar ty) = false
is_proxy_or_region (Index dimension) = false
is_proxy_or_region (Proxy dimension ty) = true
is_proxy_or_region (Region dimension ty) = true

abbrev pub turns_in_function : Judgements → Function → ℕ
turns_in_function earlier function = all_turns (statements_of function) (turns_of earlier)

-- A function is safe where it has no proxy and no region parameter, no divisor in it may be 0, each loop is literal, each
-- function that it calls is safe, and it takes no more turns than one invocation may.
abbrev pub is_safe : Judgements → Function → Bool
is_safe earlier function =
    not (list_any (λ (param : Param). is_proxy_or_region param.kind) function.params)
    && list_all (operates_safely earlier) (places_in function)
    && are_literal (statements_of function)
    && list_all (calls_safely earlier) (places_in function)
    && nat_le (turns_in_function earlier function) turn_limit

abbrev pub judgement_of : Judgements → Function → Judgement
judgement_of earlier function =
    record { ret = function.ret; is_safe = is_safe earlier function; turns = turns_in_function earlier function }

-- functions in text order, each judged from those before it; the latest first
abbrev pub judgements_after : Judgements → List Function → Judgements
judgements_after earlier [] = earlier
judgements_after earlier (function ∷ functions) =
    judgements_after ((function.name, judgement_of earlier function) ∷ earlier) functions

-- of each function, whether it is safe, in text order
abbrev pub safe_functions : List Function → List Bool
safe_functions functions = map (λ judged. judged.1.is_safe) (reverse (judgements_after [] functions))
