-- Where instructions lead whose stack and slots lie in buffers.
use Rattle.std.proofs.Common.{◌≡◌, ◌≢◌, ℕ, zero, suc, ◌<◌, ◌-◌, List, [], ◌∷◌, length, ℤ, pos, negsuc, nat_lt, slice_set, slice_index_or, refl, sym, ap, subst, ◌∙◌}
use Rattle.std.specs.Prelude.{Option, Some, None, if◌then◌else◌}
use Rattle.std.proofs.lemmas.Option.{slice_get-get_or}
use Rattle.std.proofs.lemmas.Bool.{cond-true, lt-ltb}
use Rattle.sk_base.specs.declared.number.Op.{Op}
use Rattle.sk_base.specs.declared.number.Trap.{Trap}
use Rattle.sk_base.specs.declared.number.Ty.{Ty}
use Rattle.sk_meaning.specs.Evaluation.{Argument, Place, field_of}
use Rattle.sk_meaning.specs.Expressions.{holds}
use Rattle.sk_isa.specs.Coded.{Point, Routine, Next, next_of}
use Rattle.sk_isa.specs.Configurations.{Goes, Stuck, going, with_one, stored}
use Rattle.sk_isa.specs.declared.code.Instr.{Instr}
use Rattle.sk_isa.specs.declared.code.Instr.TheVariants.{Pop, Load, Store, Field, Zero, Binary, Call}
use Rattle.sk_vm.specs.declared.stack.Stand.{Stand}
use Rattle.sk_vm.specs.declared.step.Lead.{Lead}
use Rattle.sk_vm.specs.declared.step.Lead.TheVariants as lead
use Rattle.sk_vm.specs.Points.{values_in, point_at, FindsOther, KeepsForCall, LeadsTo, Combines}
use Rattle.sk_vm.proofs.Values.{values_in-last, going-in}

-- the next address, with so many values
abbrev past : Stand → ℕ → Stand
past stand top = record { at = suc stand.at; top = top; turns = stand.turns }

-- an instruction that pops a value
pops-one : (stand : Stand) (stack : List ℤ) (next : ℤ → List ℤ → Next) → 0 < stand.top
    → with_one (values_in stack stand.top) next ≡ next (slice_index_or stack (stand.top - 1) (pos 0)) (values_in stack (stand.top - 1))
pops-one stand stack next some = ap (λ (xs : List ℤ). with_one xs next) (values_in-last stack stand.top some)

pub pop-leads : (instr : Instr) (other : ℕ → Argument) (stand next : Stand) (stack slots : List ℤ) → instr ≡ Pop → 0 < stand.top → next ≡ past stand (stand.top - 1)
    → LeadsTo instr other (point_at stand stack slots) (lead.Goes next) stack slots
pop-leads instr other stand next stack slots is some to =
    λ routine finds. ap (λ (i : Instr). next_of routine i (point_at stand stack slots)) is
    ∙ pops-one stand stack (λ a rest. going (point_at stand stack slots) rest) some
    ∙ ap (λ (s : Stand). Goes (point_at s stack slots)) (sym to)

leads-by : (instr : Instr) (other : ℕ → Argument) (before : Point) (stand : Stand) (result : Lead) (after slots : List ℤ) → result ≡ lead.Goes stand
    → LeadsTo instr other before (lead.Goes stand) after slots → LeadsTo instr other before result after slots
leads-by instr other before stand result after slots is leads = subst (λ (r : Lead). LeadsTo instr other before r after slots) (sym is) leads

pub load-leads : (slot : ℕ) (instr : Instr) (other : ℕ → Argument) (stand : Stand) (stack after slots : List ℤ) (result : Lead) → instr ≡ Load slot → slot < length slots
    → result ≡ lead.Goes (past stand (suc stand.top)) → values_in after (suc stand.top) ≡ slice_index_or slots slot (pos 0) ∷ values_in stack stand.top
    → LeadsTo instr other (point_at stand stack slots) result after slots
load-leads slot instr other stand stack after slots result is there to values =
    leads-by instr other (point_at stand stack slots) (past stand (suc stand.top)) result after slots to (λ routine finds.
    ap (λ (i : Instr). next_of routine i (point_at stand stack slots)) is
    ∙ ap (λ (o : Option ℤ). elim o [ Some value ↦ going (point_at stand stack slots) (value ∷ values_in stack stand.top) | None ↦ Stuck ])
    (slice_get-get_or slots slot (pos 0) there)
    ∙ going-in stand (past stand (suc stand.top)) stack after slots slots _ refl refl refl values)

pub field-leads : (slot : ℕ) (name : List ℕ) (instr : Instr) (other : ℕ → Argument) (stand : Stand) (stack after slots : List ℤ) (result : Lead) → instr ≡ Field slot name
    → result ≡ lead.Goes (past stand (suc stand.top)) → values_in after (suc stand.top) ≡ field_of (other slot) name ∷ values_in stack stand.top
    → LeadsTo instr other (point_at stand stack slots) result after slots
field-leads slot name instr other stand stack after slots result is to values =
    leads-by instr other (point_at stand stack slots) (past stand (suc stand.top)) result after slots to (λ routine finds.
    ap (λ (i : Instr). next_of routine i (point_at stand stack slots)) is
    ∙ ap (λ (o : Option Argument). elim o [ Some argument ↦ going (point_at stand stack slots) (field_of argument name ∷ values_in stack stand.top) | None ↦ Stuck ])
    (subst (λ (i : Instr). FindsOther i other routine) is finds)
    ∙ going-in stand (past stand (suc stand.top)) stack after slots slots _ refl refl refl values)

pub store-leads : (slot : ℕ) (instr : Instr) (other : ℕ → Argument) (stand : Stand) (stack slots slots_after : List ℤ) (result : Lead) → instr ≡ Store slot → slot < length slots → 0 < stand.top
    → result ≡ lead.Goes (past stand (stand.top - 1)) → slots_after ≡ slice_set slots slot (slice_index_or stack (stand.top - 1) (pos 0))
    → LeadsTo instr other (point_at stand stack slots) result stack slots_after
store-leads slot instr other stand stack slots slots_after result is there some to set =
    leads-by instr other (point_at stand stack slots) (past stand (stand.top - 1)) result stack slots_after to (λ routine finds.
    ap (λ (i : Instr). next_of routine i (point_at stand stack slots)) is
    ∙ pops-one stand stack (λ a rest. stored (point_at stand stack slots) slot a rest) some
    ∙ cond-true (nat_lt slot (length slots)) _ Stuck (lt-ltb slot (length slots) there)
    ∙ ap (λ (xs : List ℤ). Goes (point_at (past stand (stand.top - 1)) stack xs)) (sym set))

-- an instruction that puts a function of the topmost value in its place
pub replaces : (f : ℤ → ℤ) (stand : Stand) (stack after slots : List ℤ) (value : ℤ) → 0 < stand.top
    → values_in stack stand.top ≡ value ∷ values_in stack (stand.top - 1) → values_in after stand.top ≡ f value ∷ values_in stack (stand.top - 1)
    → with_one {F = Trap} (values_in stack stand.top) (λ a rest. going (point_at stand stack slots) (f a ∷ rest)) ≡ Goes (point_at (past stand stand.top) after slots)
replaces f stand stack after slots value some before values =
    ap (λ (xs : List ℤ). with_one xs (λ a rest. going (point_at stand stack slots) (f a ∷ rest))) before
    ∙ going-in stand (past stand stand.top) stack after slots slots _ refl refl refl values

pub neg-leads : (f : ℤ → ℤ) (instr plain : Instr) (other : ℕ → Argument) (stand : Stand) (stack after slots : List ℤ) (value : ℤ) (result : Lead)
    → ((routine : Routine) → next_of routine plain (point_at stand stack slots) ≡ with_one (values_in stack stand.top) (λ a rest. going (point_at stand stack slots) (f a ∷ rest)))
    → instr ≡ plain → 0 < stand.top → result ≡ lead.Goes (past stand stand.top)
    → values_in stack stand.top ≡ value ∷ values_in stack (stand.top - 1) → values_in after stand.top ≡ f value ∷ values_in stack (stand.top - 1)
    → LeadsTo instr other (point_at stand stack slots) result after slots
neg-leads f instr plain other stand stack after slots value result means is some to before values =
    leads-by instr other (point_at stand stack slots) (past stand stand.top) result after slots to (λ routine finds.
    ap (λ (i : Instr). next_of routine i (point_at stand stack slots)) is ∙ means routine ∙ replaces f stand stack after slots value some before values)

pub zero-leads : (to : ℕ) (instr : Instr) (other : ℕ → Argument) (stand next : Stand) (stack slots : List ℤ) (result : Lead) → instr ≡ Zero to → 0 < stand.top
    → next ≡ record { at = if holds (slice_index_or stack (stand.top - 1) (pos 0)) then suc stand.at else to; top = stand.top - 1; turns = stand.turns }
    → result ≡ lead.Goes next → LeadsTo instr other (point_at stand stack slots) result stack slots
zero-leads to instr other stand next stack slots result is some next_is goes =
    leads-by instr other (point_at stand stack slots) next result stack slots goes (λ routine finds.
    ap (λ (i : Instr). next_of routine i (point_at stand stack slots)) is
    ∙ pops-one stand stack (λ a rest. Goes (record (point_at stand stack slots) { at = if holds a then suc stand.at else to; stack = rest })) some
    ∙ ap (λ (s : Stand). Goes (point_at s stack slots)) (sym next_is))

-- a jump is taken where the value is 0
pub taken : (value : ℤ) (at next to : ℕ) → value ≡ pos 0 → at ≡ to → at ≡ if holds value then next else to
taken value at next to is to_is = to_is ∙ ap (λ (v : ℤ). if holds v then next else to) (sym is)

pub not_taken : (value : ℤ) (at next to : ℕ) → value ≢ pos 0 → at ≡ next → at ≡ if holds value then next else to
not_taken (pos zero) at next to other is = absurd (other refl)
not_taken (pos (suc n)) at next to other is = is
not_taken (negsuc n) at next to other is = is

-- an instruction that goes on is no call
pub kept-going : (result : Lead) (stand : Stand) (stack_before stack slots_before slots : List ℤ) → result ≡ lead.Goes stand → KeepsForCall result stack_before stack slots_before slots
kept-going result stand stack_before stack slots_before slots goes =
    subst (λ (r : Lead). KeepsForCall r stack_before stack slots_before slots) (sym goes) tt

pub kept-combined : (op : Op) (ty : Ty) (stand : Stand) (before after slots : List ℤ) (result : Lead) → Combines op ty stand before after result
    → KeepsForCall result before after slots slots
kept-combined op ty stand before after slots (lead.Goes next) h = tt
kept-combined op ty stand before after slots (lead.Ends value turns) h = tt
kept-combined op ty stand before after slots (lead.Traps trap) h = tt
kept-combined op ty stand before after slots (lead.Calls function) h = let no : Binary op ty ≡ Call function = h (λ slot. Place []) [] in cc
