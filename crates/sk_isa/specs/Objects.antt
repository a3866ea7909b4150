-- What a compiled program has under a number.
use Rattle.std.specs.Prelude.{ℕ, Bool, false, List, [], ℤ, Option, Some, None, Result, slice_get, slice_index_or}
use Rattle.sk_base.specs.declared.number.Trap.{Trap}
use Rattle.sk_base.specs.declared.number.Ty.TheVariants.{Int}
use Rattle.sk_meaning.specs.Evaluation.{Argument, turn_limit, value_only}
use Rattle.sk_tree.specs.declared.operator.Operator.{Operator}
use Rattle.sk_isa.specs.Coded.{function_of}
use Rattle.sk_isa.specs.declared.object.Object.{Object}
use Rattle.sk_isa.specs.declared.object.Plan.{Plan}
use Rattle.sk_isa.specs.declared.object.Signature.{Signature}

abbrev pub no_signature : Signature
no_signature = record { ret = Int; params = []; slots = [] }

abbrev pub signature_at : Object → (function : ℕ) → Signature
signature_at object function = elim (slice_get object.signatures function) [ Some signature ↦ signature | None ↦ no_signature ]

-- the value of one invocation of a function, or its first trap
abbrev pub invoked : Object → (function : ℕ) → List Argument → Result ℤ Trap
invoked object function arguments = value_only (function_of object function arguments turn_limit)

-- a function is marked as one that never traps
abbrev pub is_marked : Object → (function : ℕ) → Bool
is_marked object function = elim (slice_get object.safe function) [ Some marked ↦ marked | None ↦ false ]

-- the associative operator that a function is marked to be
abbrev pub operator_at : Object → (function : ℕ) → Option Operator
operator_at object function = elim (slice_get object.operators function) [ Some operator ↦ operator | None ↦ None ]

-- the number of an instance's function by its place in the declaration
abbrev pub function_at : Plan → (place : ℕ) → ℕ
function_at plan place = slice_index_or plan.functions place 0
