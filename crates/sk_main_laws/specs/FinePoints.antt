-- What each step of a sound object's main keeps.
use Rattle.std.specs.Prelude.{◌≡◌, ℕ, suc, Bool, List, map, Some, Ok, Err, Contains}
use Rattle.sk_base.specs.declared.number.Ty.{Ty}
use Rattle.sk_isa.specs.Configurations.{Goes, Ends, Stuck}
use Rattle.sk_isa.specs.Soundness.{Types, leads_to}
use Rattle.sk_isa.specs.declared.code.Instr.{Instr}
use Rattle.sk_isa.specs.declared.code.Instr.TheVariants.{Count}
use Rattle.sk_isa.specs.declared.object.Object.{Object}
use Rattle.sk_kernel.specs.Kernels.{AreOfTypes}
use Rattle.sk_main_code.specs.MainSoundness.{Lives, main_signature}
use Rattle.sk_main_code.specs.MainSteps.{MainNext, MainPoint}
use Rattle.sk_main_laws.specs.FineWorlds.{IsFineWorld}
use Rattle.sk_meaning.specs.Evaluation.{kind_type}
use Rattle.sk_world.specs.World.{Over}

-- The stack has the types that are chosen for the address, each slot a number of its type, and in the world the containers
-- are those that are chosen as live at the address.
pub record IsFinePoint (object : Object) (chosen : Types) (lives : Lives) (point : MainPoint) : Type 0 where
  pub types : List Ty
  pub there : chosen point.at ≡ Some types
  pub stack : AreOfTypes types point.stack
  pub slots : AreOfTypes (map kind_type (main_signature object).slots) point.slots
  pub live : ℕ → Bool
  pub lives_there : lives point.at ≡ Some live
  pub world : IsFineWorld object live point.kept

-- a count takes one of the statements that are left, and every other instruction leaves as many
abbrev pub Counts : Instr → (before behind : ℕ) → Type 0
Counts (Count line) before behind = before ≡ suc behind
Counts instr before behind = behind ≡ before

-- the run goes on from a fine point at an address to which the instruction leads
pub record IsFineStep (object : Object) (chosen : Types) (lives : Lives) (instr : Instr) (before behind : MainPoint) : Type 0 where
  pub point : IsFinePoint object chosen lives behind
  pub led : Contains (leads_to instr before.at) behind.at
  pub statements : Counts instr before.kept.statements_left behind.kept.statements_left

-- a run is over with a fine world, whatever is live there
abbrev pub IsFineEnd : Object → Over → Type 0
IsFineEnd object over = (live : ℕ → Bool) × IsFineWorld object live over.world

-- An instruction is never stuck, and what it leads to is fine. Main ends without a value.
abbrev pub IsFineNext : Object → Types → Lives → Instr → (before : MainPoint) → MainNext → Type 0
IsFineNext object chosen lives instr before (Goes behind) = IsFineStep object chosen lives instr before behind
IsFineNext object chosen lives instr before (Ends (Ok done)) = ⊥
IsFineNext object chosen lives instr before (Ends (Err over)) = IsFineEnd object over
IsFineNext object chosen lives instr before Stuck = ⊥
