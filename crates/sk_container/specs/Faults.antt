-- Why a container is not made, or an element is not reached.
use Rattle.std.specs.Prelude.{◌≡◌, ℕ, ℤ, List, None, IsSome}
use Rattle.sk_base.specs.Shape.{shape_of, flat_of}
use Rattle.sk_container.specs.declared.faults.ContainerFault.{ContainerFault}
use Rattle.sk_container.specs.declared.faults.ContainerFault.TheVariants as container
use Rattle.sk_container.specs.declared.faults.PlaceFault.{PlaceFault}
use Rattle.sk_container.specs.declared.faults.PlaceFault.TheVariants as place

-- there is no shape with these sizes; or there is one, and memory is wanting
abbrev pub IsContainerFault : List ℤ → ContainerFault → Type 0
IsContainerFault sizes container.Shape = shape_of sizes ≡ None
IsContainerFault sizes container.Memory = IsSome (shape_of sizes)

-- the place is outside; or it is inside, and memory is wanting
abbrev pub IsPlaceFault : List ℕ → List ℤ → PlaceFault → Type 0
IsPlaceFault shape at place.Index = flat_of shape at ≡ None
IsPlaceFault shape at place.Memory = IsSome (flat_of shape at)
