-- Compiled programs of vectors: each container is a vector and no input gives one, each instance is a Map, and each function
-- takes scalars.
use Rattle.std.specs.Prelude.{◌≡◌, [], All}
use Rattle.sk_isa.specs.SoundObjects.{TakesScalars}
use Rattle.sk_isa.specs.declared.object.Object.{Object}
use Rattle.sk_isa.specs.declared.object.Plan.{Plan}
use Rattle.sk_tree.specs.declared.declared.Declared.{Declared}
use Rattle.sk_tree.specs.declared.tree.Skeleton.TheVariants.{Map}

pub record IsVectorObject (object : Object) : Type 0 where
  pub functions : TakesScalars object
  pub instances : All (λ (plan : Plan). plan.skeleton ≡ Map) object.instances
  pub containers : All (λ (container : Declared). container.kind ≡ 1) object.containers
  pub inputs : object.inputs ≡ []
