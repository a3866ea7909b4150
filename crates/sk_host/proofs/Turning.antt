-- Where instructions of main lead that neither count nor print.
use Rattle.std.proofs.Common.{◌≡◌, ℕ, List, [], ℤ, Option, IfOk, refl, sym, ap, subst, ◌∙◌}
use Rattle.std.specs.Prelude.{Result, Ok, Err}
use Rattle.std.proofs.KnownBytes.{Appends-nil}
use Rattle.std.proofs.lemmas.List.{append-nil}
use Rattle.sk_base.specs.declared.number.Trap.{Trap}
use Rattle.sk_host.specs.Outcomes.{told_as}
use Rattle.sk_host.specs.Points.{Does, LeadsTo, point_at}
use Rattle.sk_host.specs.Stores.{Kept, Mirrors}
use Rattle.sk_host.specs.Turns.{Turns}
use Rattle.sk_host.specs.declared.machine.Lead.{Lead}
use Rattle.sk_host.specs.declared.machine.Lead.TheVariants as lead
use Rattle.sk_host.specs.declared.machine.Stand.{Stand}
use Rattle.sk_host.specs.declared.outcome.Outcome.TheVariants as outcome
use Rattle.sk_isa.specs.declared.code.Instr.{Instr}
use Rattle.sk_isa.specs.declared.code.Instr.TheVariants.{Call}
use Rattle.sk_isa.specs.declared.object.Object.{Object}
use Rattle.sk_outside.specs.Holding.{SinkHolding}
use Rattle.sk_world.specs.World.{Trapped, World}

-- an instruction that leaves the world as it is
pub does : (object : Object) (world : World) (instr : Instr) (stand : Stand) (stack slots after slots_after : List ℤ) (store : List (Option Kept)) (result : Lead)
    → Mirrors store world → LeadsTo object world instr (point_at stand stack slots world) result after slots_after
    → Does object instr (point_at stand stack slots world) result after slots_after store
does object world instr stand stack slots after slots_after store (lead.Goes next) mirrors leads =
    (world, leads, mirrors, record { printed = refl; statements = refl; line = refl; settings = refl })
does object world instr stand stack slots after slots_after store (lead.Traps trap element) mirrors leads =
    (record { ending = Trapped trap world.line element; world = world }, leads, refl, refl)

pub calls : {E : Type 0} (object : Object) (function : ℕ) (instr : Instr) (stand : Stand) (stack slots after : List ℤ) (store : List (Option Kept)) (result : Result Lead E)
    → instr ≡ Call function
    → IfOk result (λ lead. (slots : List ℤ) (world : World) → LeadsTo object world (Call function) (point_at stand stack slots world) lead after slots)
    → IfOk result (λ lead. (world : World) → Mirrors store world → world.settings ≡ [] → Does object instr (point_at stand stack slots world) lead after slots store)
calls object function instr stand stack slots after store (Ok lead) is leads = λ world mirrors unset.
    subst (λ (i : Instr). Does object i (point_at stand stack slots world) lead after slots store) (sym is)
    (does object world (Call function) stand stack slots after slots store lead mirrors (leads slots world))
calls object function instr stand stack slots after store (Err wanting) is leads = tt

-- an instruction that a run goes on behind, with nothing printed
pub done-on : (object : Object) (instr : Instr) (stand next : Stand) (left line : ℕ) (stack slots after slots_after : List ℤ) (store : List (Option Kept)) (world : World) (sink : SinkHolding)
    → world.statements_left ≡ left → world.line ≡ line
    → Does object instr (point_at stand stack slots world) (lead.Goes next) after slots_after store
    → Turns object instr (point_at stand stack slots world) (Ok (record { stand = next; left = left; line = line })) after slots_after store sink sink
done-on object instr stand next left line stack slots after slots_after store world sink left_is line_is does = record {
  world = does.0;
  leads = does.1;
  mirrors = does.2;
  settings = does.3.settings;
  left = does.3.statements ∙ left_is;
  line = does.3.line ∙ line_is;
  bytes = [];
  printed = does.3.printed ∙ sym (append-nil world.printed);
  taken = Appends-nil sink.taken;
  faults = refl;
}

-- an instruction that traps
pub done-off : (object : Object) (instr : Instr) (stand : Stand) (trap : Trap) (element line : ℕ) (stack slots after slots_after : List ℤ) (store : List (Option Kept)) (world : World) (sink : SinkHolding)
    → world.line ≡ line
    → Does object instr (point_at stand stack slots world) (lead.Traps trap element) after slots_after store
    → Turns object instr (point_at stand stack slots world) (Err (outcome.Trapped trap line element)) after slots_after store sink sink
done-off object instr stand trap element line stack slots after slots_after store world sink line_is does = record {
  over = does.0;
  leads = does.1;
  ending = ap (λ (n : ℕ). outcome.Trapped trap n element) (sym line_is) ∙ sym (ap told_as does.2);
  printed = does.3;
  taken = refl;
}
