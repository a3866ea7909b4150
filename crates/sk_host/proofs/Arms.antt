-- Where instructions of main lead that it shares with functions.
use Rattle.std.proofs.Common.{◌≡◌, ℕ, suc, ◌<◌, ◌-◌, List, ◌∷◌, length, ℤ, pos, nat_lt, slice_set, slice_index_or, refl, sym, ap, subst, ◌∙◌}
use Rattle.std.specs.Prelude.{Option, Some, None, if◌then◌else◌}
use Rattle.std.proofs.lemmas.Option.{slice_get-get_or}
use Rattle.std.proofs.lemmas.Bool.{cond-true, lt-ltb}
use Rattle.sk_host.proofs.Operands.{going-in}
use Rattle.sk_host.specs.Points.{LeadsTo, point_at}
use Rattle.sk_host.specs.declared.machine.Lead.{Lead}
use Rattle.sk_host.specs.declared.machine.Lead.TheVariants as lead
use Rattle.sk_host.specs.declared.machine.Stand.{Stand}
use Rattle.sk_isa.specs.Configurations.{Goes, Stuck, going, with_one, stored}
use Rattle.sk_isa.specs.declared.code.Instr.{Instr}
use Rattle.sk_isa.specs.declared.code.Instr.TheVariants.{Pop, Load, Store, Zero}
use Rattle.sk_isa.specs.declared.object.Object.{Object}
use Rattle.sk_main_code.specs.MainSteps.{MainNext, MainPoint, next_in_main}
use Rattle.sk_meaning.specs.Expressions.{holds}
use Rattle.sk_vm.proofs.Values.{values_in-last}
use Rattle.sk_vm.specs.Points.{values_in}
use Rattle.sk_world.specs.World.{Over, World}

-- the next address, with so many values
abbrev past : Stand → ℕ → Stand
past stand top = record { at = suc stand.at; top = top }

-- an instruction that pops a value
pub pops-one : (stand : Stand) (stack : List ℤ) (next : ℤ → List ℤ → MainNext) → 0 < stand.top
    → with_one (values_in stack stand.top) next ≡ next (slice_index_or stack (stand.top - 1) (pos 0)) (values_in stack (stand.top - 1))
pops-one stand stack next some = ap (λ (xs : List ℤ). with_one xs next) (values_in-last stack stand.top some)

leads-by : (object : Object) (world : World) (instr : Instr) (before : MainPoint) (stand : Stand) (result : Lead) (after slots : List ℤ) → result ≡ lead.Goes stand
    → next_in_main object instr before ≡ Goes (point_at stand after slots world) → LeadsTo object world instr before result after slots
leads-by object world instr before stand result after slots is leads =
    subst (λ (r : Lead). LeadsTo object world instr before r after slots) (sym is) leads

pub pop-leads : (instr : Instr) (stand next : Stand) (stack slots : List ℤ) → instr ≡ Pop → 0 < stand.top → next ≡ past stand (stand.top - 1)
    → (object : Object) (world : World) → LeadsTo object world instr (point_at stand stack slots world) (lead.Goes next) stack slots
pop-leads instr stand next stack slots is some to object world =
    ap (λ (i : Instr). next_in_main object i (point_at stand stack slots world)) is
    ∙ pops-one stand stack (λ a rest. going (point_at stand stack slots world) rest) some
    ∙ ap (λ (s : Stand). Goes (point_at s stack slots world)) (sym to)

pub load-leads : (slot : ℕ) (instr : Instr) (stand : Stand) (stack after slots : List ℤ) (result : Lead) → instr ≡ Load slot → slot < length slots
    → result ≡ lead.Goes (past stand (suc stand.top)) → values_in after (suc stand.top) ≡ slice_index_or slots slot (pos 0) ∷ values_in stack stand.top
    → (object : Object) (world : World) → LeadsTo object world instr (point_at stand stack slots world) result after slots
load-leads slot instr stand stack after slots result is there to values object world =
    leads-by object world instr (point_at stand stack slots world) (past stand (suc stand.top)) result after slots to
    (ap (λ (i : Instr). next_in_main object i (point_at stand stack slots world)) is
    ∙ ap (λ (o : Option ℤ). elim o [ Some value ↦ going (point_at stand stack slots world) (value ∷ values_in stack stand.top) | None ↦ Stuck ])
    (slice_get-get_or slots slot (pos 0) there)
    ∙ going-in stand (past stand (suc stand.top)) stack after slots slots _ world refl refl values)

pub store-leads : (slot : ℕ) (instr : Instr) (stand : Stand) (stack slots slots_after : List ℤ) (result : Lead) → instr ≡ Store slot → slot < length slots → 0 < stand.top
    → result ≡ lead.Goes (past stand (stand.top - 1)) → slots_after ≡ slice_set slots slot (slice_index_or stack (stand.top - 1) (pos 0))
    → (object : Object) (world : World) → LeadsTo object world instr (point_at stand stack slots world) result stack slots_after
store-leads slot instr stand stack slots slots_after result is there some to set object world =
    leads-by object world instr (point_at stand stack slots world) (past stand (stand.top - 1)) result stack slots_after to
    (ap (λ (i : Instr). next_in_main object i (point_at stand stack slots world)) is
    ∙ pops-one stand stack (λ a rest. stored (point_at stand stack slots world) slot a rest) some
    ∙ cond-true (nat_lt slot (length slots)) _ Stuck (lt-ltb slot (length slots) there)
    ∙ ap (λ (xs : List ℤ). Goes (point_at (past stand (stand.top - 1)) stack xs world)) (sym set))

-- an instruction that puts a function of the topmost value in its place
pub replaces : (f : ℤ → ℤ) (stand : Stand) (stack after slots : List ℤ) (world : World) (value : ℤ) → 0 < stand.top
    → values_in stack stand.top ≡ value ∷ values_in stack (stand.top - 1) → values_in after stand.top ≡ f value ∷ values_in stack (stand.top - 1)
    → with_one {F = Over} (values_in stack stand.top) (λ a rest. going (point_at stand stack slots world) (f a ∷ rest)) ≡ Goes (point_at (past stand stand.top) after slots world)
replaces f stand stack after slots world value some before values =
    ap (λ (xs : List ℤ). with_one xs (λ a rest. going (point_at stand stack slots world) (f a ∷ rest))) before
    ∙ going-in stand (past stand stand.top) stack after slots slots _ world refl refl values

pub neg-leads : (f : ℤ → ℤ) (instr plain : Instr) (stand : Stand) (stack after slots : List ℤ) (value : ℤ) (result : Lead)
    → ((object : Object) (world : World) → next_in_main object plain (point_at stand stack slots world) ≡ with_one (values_in stack stand.top) (λ a rest. going (point_at stand stack slots world) (f a ∷ rest)))
    → instr ≡ plain → 0 < stand.top → result ≡ lead.Goes (past stand stand.top)
    → values_in stack stand.top ≡ value ∷ values_in stack (stand.top - 1) → values_in after stand.top ≡ f value ∷ values_in stack (stand.top - 1)
    → (object : Object) (world : World) → LeadsTo object world instr (point_at stand stack slots world) result after slots
neg-leads f instr plain stand stack after slots value result means is some to before values object world =
    leads-by object world instr (point_at stand stack slots world) (past stand stand.top) result after slots to
    (ap (λ (i : Instr). next_in_main object i (point_at stand stack slots world)) is ∙ means object world ∙ replaces f stand stack after slots world value some before values)

pub zero-leads : (to : ℕ) (instr : Instr) (stand next : Stand) (stack slots : List ℤ) (result : Lead) → instr ≡ Zero to → 0 < stand.top
    → next ≡ record { at = if holds (slice_index_or stack (stand.top - 1) (pos 0)) then suc stand.at else to; top = stand.top - 1 }
    → result ≡ lead.Goes next
    → (object : Object) (world : World) → LeadsTo object world instr (point_at stand stack slots world) result stack slots
zero-leads to instr stand next stack slots result is some next_is goes object world =
    leads-by object world instr (point_at stand stack slots world) next result stack slots goes
    (ap (λ (i : Instr). next_in_main object i (point_at stand stack slots world)) is
    ∙ pops-one stand stack (λ a rest. Goes (record (point_at stand stack slots world) { at = if holds a then suc stand.at else to; stack = rest })) some
    ∙ ap (λ (s : Stand). Goes (point_at s stack slots world)) (sym next_is))
