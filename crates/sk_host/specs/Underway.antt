-- Where a run stands in the middle.
use Rattle.std.specs.Prelude.{◌≡◌, ℕ, List, [], length, ℤ, Option}
use Rattle.std.specs.Io.KnownBytes.{Appends}
use Rattle.sk_host.specs.Points.{point_at}
use Rattle.sk_host.specs.Stores.{Kept, Mirrors}
use Rattle.sk_host.specs.declared.machine.State.{State}
use Rattle.sk_isa.specs.declared.object.Object.{Object}
use Rattle.sk_main_code.specs.Sound.{IsSound}
use Rattle.sk_main_code.specs.Vectors.{IsVectorObject}
use Rattle.sk_main_laws.specs.Running.{IsRunning}
use Rattle.sk_outside.specs.Holding.{SinkHolding}
use Rattle.sk_world.specs.World.{World}

-- what a machine keeps that runs main, from one instruction to the next
pub record Machine : Type 0 where
  pub stack : List ℤ
  pub slots : List ℤ
  pub store : List (Option Kept)

-- A run of a sound object of vectors stands where its meaning is still to come. The store mirrors the world, no instance was set,
-- and since the run began the sink took what the world says was printed, without a fault.
pub record IsUnderway (object : Object) (bound : ℕ) (state : State) (machine : Machine) (began now : SinkHolding) : Type 0 where
  pub sound : IsSound object
  pub vectors : IsVectorObject object
  pub depth : length machine.stack ≡ object.main.depth
  pub containers : length machine.store ≡ length object.containers
  pub world : World
  pub running : IsRunning object sound [] bound (point_at state.stand machine.stack machine.slots world)
  pub mirrors : Mirrors machine.store world
  pub settings : world.settings ≡ []
  pub left : world.statements_left ≡ state.left
  pub line : world.line ≡ state.line
  pub printed : Appends began.taken now.taken world.printed
  pub faults : now.faults ≡ began.faults
