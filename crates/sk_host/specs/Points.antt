-- Runs of main whose stack lies in a buffer.
use Rattle.std.specs.Prelude.{◌≡◌, List, ℤ, Option, Err}
use Rattle.sk_base.specs.declared.number.Op.{Op}
use Rattle.sk_base.specs.declared.number.Ty.{Ty}
use Rattle.sk_host.specs.Stores.{Kept, Mirrors}
use Rattle.sk_host.specs.declared.machine.Lead.{Lead}
use Rattle.sk_host.specs.declared.machine.Lead.TheVariants as lead
use Rattle.sk_host.specs.declared.machine.Stand.{Stand}
use Rattle.sk_isa.specs.Configurations.{Goes, Ends}
use Rattle.sk_isa.specs.declared.code.Instr.{Instr}
use Rattle.sk_isa.specs.declared.code.Instr.TheVariants.{Binary}
use Rattle.sk_isa.specs.declared.object.Object.{Object}
use Rattle.sk_main_code.specs.MainSteps.{MainPoint, next_in_main}
use Rattle.sk_vm.specs.Points.{values_in}
use Rattle.sk_world.specs.World.{Over, Trapped, World}

-- where main's run stands whose stack and slots lie in these buffers
abbrev pub point_at : Stand → (stack slots : List ℤ) → World → MainPoint
point_at stand stack slots world =
    record { at = stand.at; stack = values_in stack stand.top; slots = slots; kept = world }

-- An instruction leads from a point to where it is said to lead, and leaves the world as it is.
abbrev pub LeadsTo : Object → World → Instr → MainPoint → Lead → (stack slots : List ℤ) → Type 0
LeadsTo object world instr before (lead.Goes stand) stack slots = next_in_main object instr before ≡ Goes (point_at stand stack slots world)
LeadsTo object world instr before (lead.Traps trap element) stack slots =
    next_in_main object instr before ≡ Ends (Err (record { ending = Trapped trap world.line element; world = world }))

-- an operator's value stands in place of its operands, or there is its trap
abbrev pub Combines : Op → Ty → Stand → (before after : List ℤ) → Lead → Type 0
Combines op ty stand before after result =
    (object : Object) (world : World) (slots : List ℤ) → LeadsTo object world (Binary op ty) (point_at stand before slots world) result after slots

-- printing, counting and setting are left as they were
pub record Stays (before now : World) : Type 0 where
  pub printed : now.printed ≡ before.printed
  pub statements : now.statements_left ≡ before.statements_left
  pub line : now.line ≡ before.line
  pub settings : now.settings ≡ before.settings

-- An instruction leads to where it is said to lead, and to a world that the store mirrors; or it ends the run by the trap.
abbrev pub Does : Object → Instr → MainPoint → Lead → (stack slots : List ℤ) → (store : List (Option Kept)) → Type 0
Does object instr before (lead.Goes stand) stack slots store =
    (world : World) × (next_in_main object instr before ≡ Goes (point_at stand stack slots world)) × Mirrors store world × Stays before.kept world
Does object instr before (lead.Traps trap element) stack slots store =
    (over : Over) × (next_in_main object instr before ≡ Ends (Err over)) × (over.ending ≡ Trapped trap before.kept.line element)
    × (over.world.printed ≡ before.kept.printed)
