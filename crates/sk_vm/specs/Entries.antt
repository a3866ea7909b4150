-- Functions that the machine may enter.
use Rattle.std.specs.Prelude.{ℕ, ◌<◌, length}
use Rattle.sk_isa.specs.SoundObjects.{HasSoundFunctions}
use Rattle.sk_isa.specs.declared.object.Object.{Object}
use Rattle.sk_vm.specs.Places.{TakesPlaces}

-- a function of a compiled program, by its number
pub record Entered : Type 0 where
  pub object : Object
  pub function : ℕ

-- The program is sound, its parameters stand in order, and the function is one of them.
pub record MayEnter (entry : Entered) : Type 0 where
  pub sound : HasSoundFunctions entry.object
  pub parameters : TakesPlaces entry.object
  pub there : entry.function < length entry.object.functions
