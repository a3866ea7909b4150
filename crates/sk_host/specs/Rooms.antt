-- Where a run begins.
use Rattle.std.specs.Prelude.{◌≡◌, List, length, replicate, ℤ, pos, Option, None}
use Rattle.sk_host.specs.Stores.{Kept}
use Rattle.sk_isa.specs.declared.object.Object.{Object}

-- a stack and slots of zeros, with as many places as the object says, and no container
pub record IsFresh (object : Object) (stack slots : List ℤ) (store : List (Option Kept)) : Type 0 where
  pub stack_is : stack ≡ replicate object.main.depth (pos 0)
  pub slots_is : slots ≡ replicate object.main.slots (pos 0)
  pub store_is : store ≡ replicate (length object.containers) None
