-- What the instances of a compiled program mean.
use Rattle.std.specs.Prelude.{ℕ, if◌then◌else◌, [], ◌∷◌, ℤ, pos, Option, Some, None, Result, Ok, false}
use Rattle.std.specs.List.{list_all}
use Rattle.sk_arguments.specs.Arguments.{Reading, arguments_of, operand_kinds, uniform_types, reads_of}
use Rattle.sk_base.specs.declared.number.Trap.{Trap}
use Rattle.sk_base.specs.declared.number.Ty.{Ty}
use Rattle.sk_isa.specs.Objects.{signature_at, invoked, function_at, is_marked}
use Rattle.sk_isa.specs.declared.object.Object.{Object}
use Rattle.sk_isa.specs.declared.object.Plan.{Plan}
use Rattle.sk_isa.specs.declared.object.Signature.{Signature}
use Rattle.sk_kernel.specs.Kernels.{Meaning}
use Rattle.sk_meaning.specs.Evaluation.{Value}
use Rattle.sk_tree.specs.Parameters.{index_dimension}
use Rattle.sk_tree.specs.Skeletons.{operator_place, is_over_pairs}
use Rattle.sk_tree.specs.declared.settings.Settings.{Settings}

-- a function with the way in which it reads its parameters, and no operator
abbrev pub function_meaning : Object → (function : ℕ) → Reading → Meaning
function_meaning object function reading =
    let signature : Signature = signature_at object function in
    record {
      operands = operand_kinds reading.elements signature.params;
      uniforms = uniform_types reading.elements signature.params;
      over = if reading.pairs then None else index_dimension signature.params;
      pairs = reading.pairs;
      ty = signature.ret;
      value = λ given place pair. invoked object function
          (arguments_of reading signature.params given (record { place = place; pair = pair }));
      reads = λ shapes place pair. reads_of reading signature.params shapes (record { place = place; pair = pair });
      operator = None;
      join = λ a b. Ok (pos 0);
      safe = false;
    }

-- how an instance's function reads its parameters
abbrev pub reading_of : Plan → Settings → Reading
reading_of plan settings = record { elements = plan.elements; pairs = is_over_pairs plan.skeleton; settings = settings }

-- the type of an instance's operator, if it has one
abbrev pub operator_type : Object → Plan → Option Ty
operator_type object plan = elim (operator_place plan.skeleton) [
  | Some place ↦ Some (signature_at object (function_at plan place)).ret
  | None ↦ None
]

-- the operator's value for two numbers
abbrev pub joined_by : Object → Plan → ℤ → ℤ → Result ℤ Trap
joined_by object plan a b = elim (operator_place plan.skeleton) [
  | Some place ↦ invoked object (function_at plan place) (Value a ∷ Value b ∷ [])
  | None ↦ Ok (pos 0)
]

-- The instance's first function, which reads its parameters as the skeleton and the settings say, and its operator. It is
-- safe where all of its functions are marked.
abbrev pub instance_meaning : Object → Plan → Settings → Meaning
instance_meaning object plan settings = record (function_meaning object (function_at plan 0) (reading_of plan settings)) {
  operator = operator_type object plan;
  join = joined_by object plan;
  safe = list_all (is_marked object) plan.functions;
}
