-- Compiled programs whose functions and instances are sound, with marks that are true.
use Rattle.std.specs.Prelude.{◌≡◌, ℕ, suc, ◌<◌, true, false, ◌&&◌, ◌==◌, nat_le, Bool, List, [], ◌∷◌, length, All, ℤ, Ok, Some, Contains, IsOk, slice_get}
use Rattle.std.specs.List.{list_any, list_all}
use Rattle.sk_base.specs.Arithmetic.{InRange}
use Rattle.sk_base.specs.declared.choice.Variant.TheVariants.{Sequential}
use Rattle.sk_base.specs.declared.number.Ty.{Ty}
use Rattle.sk_meaning.specs.Evaluation.{Argument, Value}
use Rattle.sk_tree.specs.Operators.{operator_value}
use Rattle.sk_tree.specs.Parameters.{is_scalar, leading_scalars, are_ordered}
use Rattle.sk_tree.specs.Skeletons.{function_count, is_operator, fits_skeleton, operator_place}
use Rattle.sk_tree.specs.declared.operator.Operator.{Operator}
use Rattle.sk_tree.specs.declared.tree.ParamKind.{ParamKind}
use Rattle.sk_tree.specs.declared.tree.Skeleton.{Skeleton}
use Rattle.sk_tree.specs.declared.tree.Skeleton.TheVariants as skeleton
use Rattle.sk_isa.specs.Objects.{invoked, is_marked, operator_at, signature_at, function_at}
use Rattle.sk_isa.specs.Offers.{offers}
use Rattle.sk_isa.specs.Soundness.{IsSoundCode, SuitParams, is_container}
use Rattle.sk_isa.specs.declared.code.Code.{Code}
use Rattle.sk_isa.specs.declared.object.Object.{Object}
use Rattle.sk_isa.specs.declared.object.Plan.{Plan}
use Rattle.sk_isa.specs.declared.object.Signature.{Signature}

-- a function marked safe has no proxy and no region among its parameters, and never traps
pub record IsSafe (object : Object) (function : ℕ) : Type 0 where
  pub plain : list_any is_container (signature_at object function).params ≡ false
  pub has_value : (arguments : List Argument) → SuitParams (signature_at object function).params arguments
      → IsOk (invoked object function arguments)

-- two scalars of a type, and a value of it
pub record IsOperator (signature : Signature) (ty : Ty) : Type 0 where
  pub params : is_operator ty signature.params ≡ true
  pub ret : signature.ret ≡ ty

-- a function marked as an associative operator takes two numbers of its type, and has its value for them
pub record IsMarkedOperator (object : Object) (function : ℕ) (operator : Operator) : Type 0 where
  pub takes : IsOperator (signature_at object function) operator.ty
  pub value : (a b : ℤ) → InRange operator.ty a → InRange operator.ty b
      → invoked object function (Value a ∷ Value b ∷ []) ≡ Ok (operator_value operator a b)

-- how many of a function's parameters a skeleton reads by elements
abbrev pub takes_elements : Skeleton → (elements : ℕ) → List ParamKind → Bool
takes_elements skeleton.Map elements kinds = nat_le elements (leading_scalars kinds)
takes_elements skeleton.MapReduce elements kinds = nat_le 1 elements && nat_le elements (leading_scalars kinds)
takes_elements skeleton.MapPairs elements kinds = elements == 2
takes_elements skeleton.MapPairsReduce elements kinds = elements == 2
takes_elements skeleton.MapOverlap elements kinds = elements == 0
takes_elements skeleton.Reduce elements kinds = elements == 0
takes_elements skeleton.Scan elements kinds = elements == 0
takes_elements skeleton.Call elements kinds = elements == 0

-- the first function of an instance fits the skeleton
pub record FitsSkeleton (plan : Plan) (signature : Signature) : Type 0 where
  pub ordered : are_ordered signature.params ≡ true
  pub kinds : fits_skeleton plan.skeleton signature.ret signature.params ≡ true
  pub elements : takes_elements plan.skeleton plan.elements signature.params ≡ true

-- an instance whose functions fit its skeleton, and which is run by variants that serve it
pub record IsSoundPlan (object : Object) (plan : Plan) : Type 0 where
  pub count : length plan.functions ≡ function_count plan.skeleton
  pub there : All (λ function. function < length object.functions) plan.functions
  pub first : FitsSkeleton plan (signature_at object (function_at plan 0))
  pub operator : (place : ℕ) → operator_place plan.skeleton ≡ Some place
      → IsOperator (signature_at object (function_at plan place)) (signature_at object (function_at plan 0)).ret
  pub sequential : Contains plan.variants Sequential
  pub offered : All (λ variant. offers object plan variant ≡ true) plan.variants

-- The functions and instances of a compiled program are sound, and its marks are true. Nothing is said of main's code, of
-- inputs and containers, and of names.
pub record HasSoundFunctions (object : Object) : Type 0 where
  pub functions : (function : ℕ) (code : Code) (own : Signature)
      → slice_get object.functions function ≡ Some code → slice_get object.signatures function ≡ Some own
      → IsSoundCode object.signatures function own code
  pub signatures : length object.signatures ≡ suc (length object.functions)
  pub safe : length object.safe ≡ length object.functions
  pub operators : length object.operators ≡ length object.functions
  pub names : length object.names ≡ length object.functions
  pub marks : (function : ℕ) → is_marked object function ≡ true → IsSafe object function
  pub listed : (function : ℕ) (operator : Operator) → operator_at object function ≡ Some operator → IsMarkedOperator object function operator
  pub instances : All (IsSoundPlan object) object.instances

-- no function takes anything but scalars
abbrev pub TakesScalars : Object → Type 0
TakesScalars object = All (λ (signature : Signature). list_all is_scalar signature.slots ≡ true) object.signatures
