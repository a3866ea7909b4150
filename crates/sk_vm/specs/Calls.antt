-- What a function needs of the buffers when it is entered or called.
use Rattle.std.specs.Prelude.{ℕ, ◌+◌, ◌<◌, ◌≤◌, List, length, take, map, reverse, ℤ}
use Rattle.sk_meaning.specs.Evaluation.{Value}
use Rattle.sk_isa.specs.Objects.{signature_at}
use Rattle.sk_isa.specs.Soundness.{SuitParams}
use Rattle.sk_tree.specs.declared.tree.ParamKind.{ParamKind}
use Rattle.sk_vm.specs.Entries.{Entered}
use Rattle.sk_vm.specs.Points.{values_in}
use Rattle.sk_vm.specs.Rooms.{room_of}
use Rattle.sk_vm.specs.declared.stack.Stand.{Stand}

abbrev pub params_of : Entered → List ParamKind
params_of entry = (signature_at entry.object entry.function).params

-- Room for the run of a function with all its calls: on the stack, and in so many slots.
pub record HasSpace (entry : Entered) (stack : List ℤ) (count : ℕ) : Type 0 where
  pub depth : (room_of entry.object.functions entry.function).stack ≤ length stack
  pub slots : (room_of entry.object.functions entry.function).slots ≤ count

-- A function may be called with the topmost values: they lie in the buffer, are as many as it takes and suit it, its value has
-- a place, and behind the values there is room for its run.
pub record MayCall (callee : Entered) (stand : Stand) (stack rest : List ℤ) : Type 0 where
  pub inside : stand.top ≤ length stack
  pub takes : length (params_of callee) ≤ stand.top
  pub suited : SuitParams (params_of callee) (map Value (reverse (take (length (params_of callee)) (values_in stack stand.top))))
  pub value : stand.top < length stack + length (params_of callee)
  pub depth : (room_of callee.object.functions callee.function).stack + stand.top ≤ length stack + length (params_of callee)
  pub slots : (room_of callee.object.functions callee.function).slots ≤ length rest
