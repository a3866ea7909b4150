-- Objects that lack marks run as those that have them, but for what they tell.
use Rattle.std.proofs.Common.{◌≡◌, ℕ, suc, List, [], ◌∷◌, length, map, take, ℤ, Option, Some, None, refl, sym, ap, ◌∙◌}
use Rattle.std.specs.Prelude.{Result, Ok, true, false, Bool, if◌then◌else◌, nat_lt, slice_get, slice_set}
use Rattle.sk_base.specs.Arithmetic.{op_of}
use Rattle.sk_isa.specs.Configurations.{Goes, Ends, Stuck, Outcome, Ended, Unfinished, Lost, followed, going, giving, returning, run_of, with_many}
use Rattle.sk_isa.specs.Objects.{invoked, signature_at}
use Rattle.sk_isa.specs.declared.code.Instr.{Instr}
use Rattle.sk_isa.specs.declared.code.Instr.TheVariants as instr
use Rattle.sk_isa.specs.declared.object.Object.{Object}
use Rattle.sk_isa.specs.declared.object.Plan.{Plan}
use Rattle.sk_main_code.specs.MainSteps.{MainNext, done_by, going_in, last_of, linked_plan, next_in_main, over_by, set_by, setting_of, world_after}
use Rattle.sk_main_runs.proofs.Runs.{stands}
use Rattle.sk_main_runs.proofs.Untold.{untold, untold_value, untold_world, untold_next, count-untold, make-untold, poke-untold, read-untold, valued-untold, set-untold, call-untold, marked_as, going-untold, returning-untold, giving-untold, many-untold, after-untold}
use Rattle.sk_main_runs.specs.Unmarked.{ArePlans, IsUnmarked}
use Rattle.sk_meaning.specs.Evaluation.{Value}
use Rattle.sk_tree.specs.declared.declared.Declared.{Declared}
use Rattle.sk_world.specs.Calls.{Instance, call_of}
use Rattle.sk_world.specs.InstanceSettings.{SettingValue, set_instance}
use Rattle.sk_world.specs.World.{World, count, make, poke, read, take_input, valued}

load-at : (at : ℕ) (stack slots : List ℤ) (w : World) (found : Option ℤ)
    → untold_next (elim found as (λ x. MainNext) [ Some value ↦ going (stands at stack slots w) (value ∷ stack) | None ↦ Stuck ])
    ≡ untold_next (elim found as (λ x. MainNext) [ Some value ↦ going (stands at stack slots (untold w)) (value ∷ stack) | None ↦ Stuck ])
load-at at stack slots w (Some value) = refl
load-at at stack slots w None = refl

store-at : (at slot : ℕ) (a : ℤ) (rest slots : List ℤ) (w : World) (b : Bool)
    → untold_next (if b then Goes (stands (suc at) rest (slice_set slots slot a) w) else Stuck) ≡ untold_next (if b then Goes (stands (suc at) rest (slice_set slots slot a) (untold w)) else Stuck)
store-at at slot a rest slots w true = refl
store-at at slot a rest slots w false = refl

module _ (object : Object) where
  abbrev IsUntold : Instr → Type 0
  IsUntold i = (at : ℕ) (stack slots : List ℤ) (w : World) → untold_next (next_in_main object i (stands at stack slots w)) ≡ untold_next (next_in_main object i (stands at stack slots (untold w)))

  zero-at : (to : ℕ) → IsUntold (instr.Zero to)
  zero-at to at [] slots w = refl
  zero-at to at (a ∷ rest) slots w = refl

  binary-at : (i : Instr) → (f : ℤ → ℤ → Result ℤ Rattle.sk_base.specs.declared.number.Trap.Trap) → (at : ℕ) (stack slots : List ℤ) (w : World)
      → untold_next (Rattle.sk_isa.specs.Configurations.with_two stack (λ a b rest. giving over_by (stands at stack slots w) rest (f a b)))
      ≡ untold_next (Rattle.sk_isa.specs.Configurations.with_two stack (λ a b rest. giving over_by (stands at stack slots (untold w)) rest (f a b)))
  binary-at i f at [] slots w = refl
  binary-at i f at (b ∷ []) slots w = refl
  binary-at i f at (b ∷ a ∷ rest) slots w = giving-untold at (b ∷ a ∷ rest) rest slots w (f a b)

  one-at : (f g : ℤ → List ℤ → MainNext) (stack : List ℤ) → ((a : ℤ) (rest : List ℤ) → untold_next (f a rest) ≡ untold_next (g a rest))
      → untold_next (Rattle.sk_isa.specs.Configurations.with_one stack f) ≡ untold_next (Rattle.sk_isa.specs.Configurations.with_one stack g)
  one-at f g [] same = refl
  one-at f g (a ∷ rest) same = same a rest

  make-at : (container kind : ℕ) (ty : Rattle.sk_base.specs.declared.number.Ty.Ty) (sizes at : ℕ) (stack slots : List ℤ) (w : World) (found : Option Declared)
      → untold_next (elim found as (λ x. MainNext) [
        | Some declared ↦ with_many (suc sizes) stack (λ values rest. going_in (stands at stack slots w) rest (make container declared.name ty (take sizes values) (last_of sizes values) w))
        | None ↦ Stuck
      ]) ≡ untold_next (elim found as (λ x. MainNext) [
        | Some declared ↦ with_many (suc sizes) stack (λ values rest. going_in (stands at stack slots (untold w)) rest (make container declared.name ty (take sizes values) (last_of sizes values) (untold w)))
        | None ↦ Stuck
      ])
  make-at container kind ty sizes at stack slots w (Some declared) =
      many-untold (suc sizes) stack (λ values rest. going_in (stands at stack slots w) rest (make container declared.name ty (take sizes values) (last_of sizes values) w))
      (λ values rest. going_in (stands at stack slots (untold w)) rest (make container declared.name ty (take sizes values) (last_of sizes values) (untold w)))
      (λ values rest. going-untold at stack rest slots w (untold w) (make container declared.name ty (take sizes values) (last_of sizes values) w)
      (make container declared.name ty (take sizes values) (last_of sizes values) (untold w)) (make-untold container declared.name ty (take sizes values) (last_of sizes values) w))
  make-at container kind ty sizes at stack slots w None = refl

  take-at : (container : ℕ) (ty : Rattle.sk_base.specs.declared.number.Ty.Ty) (input : List ℕ) (at : ℕ) (stack slots : List ℤ) (w : World) (found : Option Declared)
      → untold_next (elim found as (λ x. MainNext) [ Some declared ↦ going_in (stands at stack slots w) stack (Ok (take_input container declared.name ty input w)) | None ↦ Stuck ])
      ≡ untold_next (elim found as (λ x. MainNext) [ Some declared ↦ going_in (stands at stack slots (untold w)) stack (Ok (take_input container declared.name ty input (untold w))) | None ↦ Stuck ])
  take-at container ty input at stack slots w (Some declared) = refl
  take-at container ty input at stack slots w None = refl

-- the same instance, but for its mark
linked-same : (object all : Object) → IsUnmarked object all → (number : ℕ) (plan other : Plan) → record plan { variants = other.variants } ≡ other
    → marked_as (linked_plan object number plan) (linked_plan all number other).is_safe ≡ linked_plan all number other
linked-same object all h number plan other e =
    ap (λ (o : Object). marked_as (linked_plan o number plan) (linked_plan all number other).is_safe) h.same
    ∙ ap (λ (p : Plan). marked_as (linked_plan all number p) (linked_plan all number other).is_safe) e

module _ (object all : Object) (h : IsUnmarked object all) where
  calls-same : (number : ℕ) (plan other : Plan) → record plan { variants = other.variants } ≡ other → (result : Option ℕ) (operands : List ℕ) (uniforms : List ℤ) (w : World)
      → untold_value (call_of (linked_plan object number plan) result operands uniforms w) ≡ untold_value (call_of (linked_plan all number other) result operands uniforms (untold w))
  calls-same number plan other e result operands uniforms w =
      call-untold (linked_plan object number plan) (linked_plan all number other).is_safe result operands uniforms w
      ∙ ap (λ (i : Instance). untold_value (call_of i result operands uniforms (untold w))) (linked-same object all h number plan other e)

  set-same : (number at : ℕ) (stack rest slots : List ℤ) (w : World) (setting : Option SettingValue) (one other : Option Plan) → slice_get object.instances number ≡ one → slice_get all.instances number ≡ other
      → ArePlans one other → untold_next (set_by object number setting (stands at stack slots w) rest) ≡ untold_next (set_by all number setting (stands at stack slots (untold w)) rest)
  set-same number at stack rest slots w None one other e f plans = refl
  set-same number at stack rest slots w (Some setting) (Some plan) (Some other) e f plans =
      ap untold_next (ap (λ (o : Option Plan). elim o as (λ x. MainNext) [ Some plan ↦ going_in (stands at stack slots w) rest (set_instance (linked_plan object number plan) setting w) | None ↦ Stuck ]) e)
      ∙ going-untold at stack rest slots w (untold w) (set_instance (linked_plan object number plan) setting w) (set_instance (linked_plan all number other) setting (untold w))
      (set-untold (linked_plan object number plan) setting w ∙ ap (λ (i : Instance). untold_world (set_instance i setting (untold w))) (linked-same object all h number plan other plans))
      ∙ sym (ap untold_next (ap (λ (o : Option Plan). elim o as (λ x. MainNext) [ Some plan ↦ going_in (stands at stack slots (untold w)) rest (set_instance (linked_plan all number plan) setting (untold w)) | None ↦ Stuck ]) f))
  set-same number at stack rest slots w (Some setting) None None e f plans =
      ap untold_next (ap (λ (o : Option Plan). elim o as (λ x. MainNext) [ Some plan ↦ going_in (stands at stack slots w) rest (set_instance (linked_plan object number plan) setting w) | None ↦ Stuck ]) e)
      ∙ sym (ap untold_next (ap (λ (o : Option Plan). elim o as (λ x. MainNext) [ Some plan ↦ going_in (stands at stack slots (untold w)) rest (set_instance (linked_plan all number plan) setting (untold w)) | None ↦ Stuck ]) f))
  set-same number at stack rest slots w (Some setting) one other e f plans = absurd plans

  done-same : (number : ℕ) (containers : List ℕ) (given : List ℤ) (at : ℕ) (stack rest slots : List ℤ) (w : World) (one other : Option Plan) → ArePlans one other
      → untold_next (done_by one object number containers given (stands at stack slots w) rest) ≡ untold_next (done_by other all number containers given (stands at stack slots (untold w)) rest)
  done-same number [] given at stack rest slots w (Some plan) (Some other) plans = refl
  done-same number (result ∷ operands) given at stack rest slots w (Some plan) (Some other) plans =
      going-untold at stack rest slots w (untold w) (world_after (call_of (linked_plan object number plan) (Some result) operands given w)) (world_after (call_of (linked_plan all number other) (Some result) operands given (untold w)))
      (after-untold (call_of (linked_plan object number plan) (Some result) operands given w) (call_of (linked_plan all number other) (Some result) operands given (untold w)) (calls-same number plan other plans (Some result) operands given w))
  done-same number containers given at stack rest slots w None None plans = refl
  done-same number containers given at stack rest slots w one other plans = absurd plans

  got-same : (number : ℕ) (containers : List ℕ) (uniforms at : ℕ) (stack slots : List ℤ) (w : World) (one other : Option Plan) → ArePlans one other
      → untold_next (elim one as (λ x. MainNext) [
        | Some plan ↦ with_many uniforms stack (λ given rest. returning (stands at stack slots w) rest (call_of (linked_plan object number plan) None containers given w))
        | None ↦ Stuck
      ]) ≡ untold_next (elim other as (λ x. MainNext) [
        | Some plan ↦ with_many uniforms stack (λ given rest. returning (stands at stack slots (untold w)) rest (call_of (linked_plan all number plan) None containers given (untold w)))
        | None ↦ Stuck
      ])
  got-same number containers uniforms at stack slots w (Some plan) (Some other) plans =
      many-untold uniforms stack (λ given rest. returning (stands at stack slots w) rest (call_of (linked_plan object number plan) None containers given w))
      (λ given rest. returning (stands at stack slots (untold w)) rest (call_of (linked_plan all number other) None containers given (untold w)))
      (λ given rest. returning-untold at stack rest slots w (untold w) (call_of (linked_plan object number plan) None containers given w) (call_of (linked_plan all number other) None containers given (untold w))
      (calls-same number plan other plans None containers given w))
  got-same number containers uniforms at stack slots w None None plans = refl
  got-same number containers uniforms at stack slots w one other plans = absurd plans

  -- an instruction does the same
  pub next-same : (i : Instr) (at : ℕ) (stack slots : List ℤ) (w : World) → untold_next (next_in_main object i (stands at stack slots w)) ≡ untold_next (next_in_main all i (stands at stack slots (untold w)))
  next-same (instr.Push x) at stack slots w = refl
  next-same instr.Pop at stack slots w = one-at object (λ a rest. going (stands at stack slots w) rest) (λ a rest. going (stands at stack slots (untold w)) rest) stack (λ a rest. refl)
  next-same (instr.Load slot) at stack slots w = load-at at stack slots w (slice_get slots slot)
  next-same (instr.Store slot) at [] slots w = refl
  next-same (instr.Store slot) at (a ∷ rest) slots w = store-at at slot a rest slots w (nat_lt slot (length slots))
  next-same (instr.Neg ty) at [] slots w = refl
  next-same (instr.Neg ty) at (a ∷ rest) slots w = refl
  next-same (instr.Inv ty) at [] slots w = refl
  next-same (instr.Inv ty) at (a ∷ rest) slots w = refl
  next-same instr.Not at [] slots w = refl
  next-same instr.Not at (a ∷ rest) slots w = refl
  next-same instr.Wrap at [] slots w = refl
  next-same instr.Wrap at (a ∷ rest) slots w = refl
  next-same (instr.Binary op ty) at stack slots w = binary-at object (instr.Binary op ty) (op_of op ty) at stack slots w
  next-same (instr.Jump to) at stack slots w = refl
  next-same (instr.Zero to) at stack slots w = zero-at object to at stack slots w
  next-same (instr.Field slot name) at stack slots w = refl
  next-same (instr.Item container places) at stack slots w =
      many-untold places stack (λ place rest. returning (stands at stack slots w) rest (read container place w)) (λ place rest. returning (stands at stack slots (untold w)) rest (read container place (untold w)))
      (λ place rest. returning-untold at stack rest slots w (untold w) (read container place w) (read container place (untold w)) (read-untold container place w))
  next-same (instr.Region slot places) at stack slots w = refl
  next-same instr.Turn at stack slots w = refl
  next-same (instr.Call function) at stack slots w =
      many-untold (length (signature_at object function).params) stack (λ values rest. returning (stands at stack slots w) rest (valued (invoked object function (map Value values)) w))
      (λ values rest. returning (stands at stack slots (untold w)) rest (valued (invoked object function (map Value values)) (untold w)))
      (λ values rest. returning-untold at stack rest slots w (untold w) (valued (invoked object function (map Value values)) w) (valued (invoked object function (map Value values)) (untold w))
      (valued-untold (invoked object function (map Value values)) w))
      ∙ ap (λ (o : Object). untold_next (next_in_main o (instr.Call function) (stands at stack slots (untold w)))) h.same
  next-same instr.Ret at stack slots w = refl
  next-same (instr.Size container name) at stack slots w = refl
  next-same (instr.Count line) at stack slots w = going-untold at stack stack slots w (untold w) (count line w) (count line (untold w)) (count-untold line w)
  next-same (instr.Make container kind ty sizes) at stack slots w =
      make-at object container kind ty sizes at stack slots w (slice_get object.containers container)
      ∙ ap (λ (o : Object). untold_next (next_in_main o (instr.Make container kind ty sizes) (stands at stack slots (untold w)))) h.same
  next-same (instr.Take container kind ty input) at stack slots w =
      take-at object container ty input at stack slots w (slice_get object.containers container)
      ∙ ap (λ (o : Object). untold_next (next_in_main o (instr.Take container kind ty input) (stands at stack slots (untold w)))) h.same
  next-same (instr.Drop container) at stack slots w = refl
  next-same (instr.Set instance word values) at stack slots w =
      many-untold values stack (λ given rest. set_by object instance (setting_of word given) (stands at stack slots w) rest) (λ given rest. set_by all instance (setting_of word given) (stands at stack slots (untold w)) rest)
      (λ given rest. set-same instance at stack rest slots w (setting_of word given) (slice_get object.instances instance) (slice_get all.instances instance) refl refl (h.plans instance))
  next-same (instr.Do instance containers uniforms) at stack slots w =
      many-untold uniforms stack (λ given rest. done_by (slice_get object.instances instance) object instance containers given (stands at stack slots w) rest)
      (λ given rest. done_by (slice_get all.instances instance) all instance containers given (stands at stack slots (untold w)) rest)
      (λ given rest. done-same instance containers given at stack rest slots w (slice_get object.instances instance) (slice_get all.instances instance) (h.plans instance))
  next-same (instr.Get instance containers uniforms) at stack slots w = got-same instance containers uniforms at stack slots w (slice_get object.instances instance) (slice_get all.instances instance) (h.plans instance)
  next-same (instr.Poke container places) at stack slots w =
      many-untold (suc places) stack (λ values rest. going_in (stands at stack slots w) rest (poke container (take places values) (last_of places values) w))
      (λ values rest. going_in (stands at stack slots (untold w)) rest (poke container (take places values) (last_of places values) (untold w)))
      (λ values rest. going-untold at stack rest slots w (untold w) (poke container (take places values) (last_of places values) w) (poke container (take places values) (last_of places values) (untold w))
      (poke-untold container (take places values) (last_of places values) w))
  next-same instr.Print at [] slots w = refl
  next-same instr.Print at (a ∷ rest) slots w = refl
  next-same (instr.Text text) at stack slots w = refl
  next-same instr.Endl at stack slots w = refl
  next-same instr.Halt at stack slots w = refl
