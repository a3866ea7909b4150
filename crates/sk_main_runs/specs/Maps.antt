-- Instances of Map whose functions take scalars alone.
use Rattle.std.specs.Prelude.{◌≡◌, ℕ, true, List, Some, slice_get}
use Rattle.std.specs.List.{list_all}
use Rattle.sk_isa.specs.Objects.{function_at, is_marked, signature_at}
use Rattle.sk_isa.specs.declared.object.Object.{Object}
use Rattle.sk_isa.specs.declared.object.Plan.{Plan}
use Rattle.sk_names.specs.Bindings.{bound_to}
use Rattle.sk_safety.specs.Safety.{Judgements, safe_in}
use Rattle.sk_scheme.specs.Scheme.{Known}
use Rattle.sk_tree.specs.Parameters.{is_scalar}
use Rattle.sk_tree.specs.Skeletons.{elements_of}
use Rattle.sk_tree.specs.declared.tree.Instance as instances
use Rattle.sk_tree.specs.declared.tree.Skeleton.TheVariants.{Map}

-- A Map of a function of scalars, as a declaration has it and as the object has it under its number, with the same mark.
pub record IsMapPlan (object : Object) (functions : List (List ℕ × Known)) (judgements : Judgements) (number : ℕ) (instance : instances.Instance) : Type 0 where
  pub plan : Plan
  pub there : slice_get object.instances number ≡ Some plan
  pub skeleton : instance.skeleton ≡ Map
  pub plan_skeleton : plan.skeleton ≡ Map
  pub name : List ℕ
  pub first : slice_get instance.functions 0 ≡ Some name
  pub known : Known
  pub found : bound_to name functions ≡ Some known
  pub function : function_at plan 0 ≡ known.number
  pub elements : plan.elements ≡ elements_of Map instance.numbers known.kinds
  pub params : (signature_at object known.number).params ≡ known.kinds
  pub ret : (signature_at object known.number).ret ≡ known.ret
  pub scalars : list_all is_scalar known.kinds ≡ true
  pub safe : list_all (is_marked object) plan.functions ≡ list_all (safe_in judgements) instance.functions
