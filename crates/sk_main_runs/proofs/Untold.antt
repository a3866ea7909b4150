-- What is done to a world does not depend on what was told, nor on the mark that chooses what is told.
use Rattle.std.proofs.Common.{◌≡◌, ℕ, zero, suc, List, [], ◌∷◌, length, take, drop, reverse, replicate, ℤ, Option, Some, None, refl, sym, ap, ◌∙◌}
use Rattle.std.specs.Prelude.{Result, Ok, Err, true, false, Bool, if◌then◌else◌, nat_le}
use Rattle.sk_base.specs.Arithmetic.{wrapped}
use Rattle.sk_base.specs.Shape.{cells_of, shape_of, flat_of}
use Rattle.sk_base.specs.declared.number.Trap.{Trap}
use Rattle.sk_base.specs.declared.number.Trap.TheVariants.{Shape}
use Rattle.sk_base.specs.declared.number.Ty.{Ty}
use Rattle.sk_formula.specs.Calls.{Outcome, Cells, Number, refusal_of, computed_of}
use Rattle.sk_formula.specs.Elements.{TrapAt}
use Rattle.sk_isa.specs.Configurations.{Goes, Ends, Stuck, giving, returning, with_many}
use Rattle.sk_main_code.specs.MainSteps.{MainNext, going_in, over_by, world_after}
use Rattle.sk_main_runs.proofs.Runs.{stands}
use Rattle.sk_tree.specs.declared.settings.Settings.{Settings}
use Rattle.sk_world.specs.Calls.{Instance, call_of, converted, functions_of, given_of, is_mapped, operands_in, sizes_of, tell_call, with_outcome, has_trapped}
use Rattle.sk_arguments.specs.Operands.{uniforms_taken}
use Rattle.sk_world.specs.Events.{CallOf, Made, Mapped, Ran}
use Rattle.sk_world.specs.InstanceSettings.{SettingValue, set_instance, with_setting}
use Rattle.sk_world.specs.World.{Container, World, Over, Trapped, container_at, count, make, poke, poke_at, put_settings, putting, read, read_at, settings_in, told, valued}

-- a world without what was told
abbrev pub untold : World → World
untold world = record world { events = [] }

abbrev pub untold_over : Over → Over
untold_over over = record { ending = over.ending; world = untold over.world }

abbrev pub untold_value : Result (ℤ × World) Over → Result (ℤ × World) Over
untold_value (Ok done) = Ok (done.0, untold done.1)
untold_value (Err over) = Err (untold_over over)

abbrev pub untold_world : Result World Over → Result World Over
untold_world (Ok world) = Ok (untold world)
untold_world (Err over) = Err (untold_over over)

abbrev pub untold_next : MainNext → MainNext
untold_next (Goes point) = Goes (record { at = point.at; stack = point.stack; slots = point.slots; kept = untold point.kept })
untold_next (Ends result) = Ends (untold_value result)
untold_next Stuck = Stuck

-- ---- what is done to a world

abbrev made_with : (number : ℕ) → (name : List ℕ) → Ty → (cell : ℤ) → World → Option (List ℕ) → Result World Over
made_with number name ty cell world found = elim found as (λ x. Result World Over) [
  | None ↦ Err (record { ending = Trapped Shape world.line 0; world = world })
  | Some shape ↦ Ok (told (Made number shape cell) (putting (record { number = number; name = name; ty = ty; sizes = shape; cells = replicate (cells_of shape) cell }) world))
]

pub count-untold : (line : ℕ) (world : World) → untold_world (count line world) ≡ untold_world (count line (untold world))
count-untold line world = by_left world.statements_left
  where
    by_left : (left : ℕ) → untold_world (count line (record world { statements_left = left })) ≡ untold_world (count line (untold (record world { statements_left = left })))
    by_left zero = refl
    by_left (suc left) = refl

made-at : (number : ℕ) (name : List ℕ) (ty : Ty) (cell : ℤ) (world : World) (found : Option (List ℕ))
    → untold_world (made_with number name ty cell world found) ≡ untold_world (made_with number name ty cell (untold world) found)
made-at number name ty cell world (Some shape) = refl
made-at number name ty cell world None = refl

pub make-untold : (number : ℕ) (name : List ℕ) (ty : Ty) (sizes : List ℤ) (fill : ℤ) (world : World)
    → untold_world (make number name ty sizes fill world) ≡ untold_world (make number name ty sizes fill (untold world))
make-untold number name ty sizes fill world = made-at number name ty (wrapped ty fill) world (shape_of sizes)

poke-at : (container : Container) (found : Option ℕ) (value : ℤ) (world : World) → untold_world (poke_at container found value world) ≡ untold_world (poke_at container found value (untold world))
poke-at container (Some index) value world = refl
poke-at container None value world = refl

pub poke-untold : (number : ℕ) (place : List ℤ) (value : ℤ) (world : World) → untold_world (poke number place value world) ≡ untold_world (poke number place value (untold world))
poke-untold number place value world = poke-at (container_at world number) (flat_of (container_at world number).sizes place) value world

read-at : (container : Container) (found : Option ℕ) (world : World) → untold_value (read_at container found world) ≡ untold_value (read_at container found (untold world))
read-at container (Some index) world = refl
read-at container None world = refl

pub read-untold : (number : ℕ) (place : List ℤ) (world : World) → untold_value (read number place world) ≡ untold_value (read number place (untold world))
read-untold number place world = read-at (container_at world number) (flat_of (container_at world number).sizes place) world

pub valued-untold : (o : Result ℤ Trap) (world : World) → untold_value (valued o world) ≡ untold_value (valued o (untold world))
valued-untold (Ok value) world = refl
valued-untold (Err trap) world = refl

abbrev set_with : ℕ → World → Option Settings → Result World Over
set_with number world found = elim found as (λ x. Result World Over) [
  | Some settings ↦ Ok (put_settings number settings world)
  | None ↦ Err (record { ending = Trapped Shape world.line 0; world = world })
]

set-at : (number : ℕ) (world : World) (found : Option Settings) → untold_world (set_with number world found) ≡ untold_world (set_with number (untold world) found)
set-at number world (Some settings) = refl
set-at number world None = refl

pub set-untold : (instance : Instance) (value : SettingValue) (world : World) → untold_world (set_instance instance value world) ≡ untold_world (set_instance instance value (untold world))
set-untold instance value world = set-at instance.number world (with_setting instance value (settings_in world instance.number))

-- a call's outcome, whatever is told of it
outcome-untold : (target : Option Container) (outcome : Result Outcome TrapAt) (one other : World) → untold one ≡ untold other
    → untold_value (with_outcome target outcome one) ≡ untold_value (with_outcome target outcome other)
outcome-untold (Some result) (Ok (Cells cells)) one other e = ap (λ (w : World). untold_value (with_outcome (Some result) (Ok (Cells cells)) w)) e
outcome-untold (Some result) (Ok (Number value)) one other e = ap (λ (w : World). untold_value (with_outcome (Some result) (Ok (Number value)) w)) e
outcome-untold None (Ok (Cells cells)) one other e = ap (λ (w : World). untold_value (with_outcome None (Ok (Cells cells)) w)) e
outcome-untold None (Ok (Number value)) one other e = ap (λ (w : World). untold_value (with_outcome None (Ok (Number value)) w)) e
outcome-untold (Some result) (Err trapped) one other e = ap (λ (w : World). untold_value (with_outcome (Some result) (Err trapped) w)) e
outcome-untold None (Err trapped) one other e = ap (λ (w : World). untold_value (with_outcome None (Err trapped) w)) e

-- a call whose function is marked or not
abbrev pub marked_as : Instance → Bool → Instance
marked_as instance mark = record {
  number = instance.number;
  skeleton = instance.skeleton;
  elements = instance.elements;
  kinds = instance.kinds;
  ty = instance.ty;
  call = instance.call;
  join = instance.join;
  is_safe = mark;
}

telling : (one other : Bool) (call : CallOf) (settings : Settings) (result : ℕ) (trapped : Bool) (world : World)
    → untold ((if one then told (Mapped call result) else told (Ran call settings (Some result) trapped)) world)
    ≡ untold ((if other then told (Mapped call result) else told (Ran call settings (Some result) trapped)) (untold world))
telling true true call settings result trapped world = refl
telling true false call settings result trapped world = refl
telling false true call settings result trapped world = refl
telling false false call settings result trapped world = refl

tell-untold : (one other : Instance) (call : CallOf) (settings : Settings) (target : Option Container) (outcome : Result Outcome TrapAt) (world : World)
    → untold (tell_call one call settings target outcome world) ≡ untold (tell_call other call settings target outcome (untold world))
tell-untold one other call settings (Some result) outcome world = telling (is_mapped one) (is_mapped other) call settings result.number (has_trapped outcome) world
tell-untold one other call settings None outcome world = refl

abbrev refused_or : World → Option Trap → Result (ℤ × World) Over → Result (ℤ × World) Over
refused_or world refused ran = elim refused as (λ x. Result (ℤ × World) Over) [
  | Some trap ↦ Err (record { ending = Trapped trap world.line 0; world = world })
  | None ↦ ran
]

refused-at : (world : World) (refused : Option Trap) (one other : Result (ℤ × World) Over) → untold_value one ≡ untold_value other
    → untold_value (refused_or world refused one) ≡ untold_value (refused_or (untold world) refused other)
refused-at world (Some trap) one other e = refl
refused-at world None one other e = e

pub call-untold : (instance : Instance) (mark : Bool) (result : Option ℕ) (operands : List ℕ) (uniforms : List ℤ) (world : World)
    → untold_value (call_of instance result operands uniforms world) ≡ untold_value (call_of (marked_as instance mark) result operands uniforms (untold world))
call-untold instance mark result operands uniforms world =
    let settings : Settings = settings_in world instance.number in
    let target : Option Container = elim result as (λ x. Option Container) [ Some number ↦ Some (container_at world number) | None ↦ None ] in
    let containers : List Container = operands_in world operands in
    let cells : List ℤ = converted (uniforms_taken instance.skeleton instance.elements instance.kinds) uniforms in
    let call : CallOf = record { line = world.line; instance = instance.number; operands = operands; uniforms = cells } in
    let outcome : Result Outcome TrapAt = computed_of instance.skeleton settings (sizes_of instance target containers) (functions_of instance settings (given_of instance target containers cells)) in
    refused-at world (refusal_of instance.skeleton settings (sizes_of instance target containers))
    (with_outcome target outcome (tell_call instance call settings target outcome world)) (with_outcome target outcome (tell_call (marked_as instance mark) call settings target outcome (untold world)))
    (outcome-untold target outcome (tell_call instance call settings target outcome world) (tell_call (marked_as instance mark) call settings target outcome (untold world))
    (tell-untold instance (marked_as instance mark) call settings target outcome world))

-- ---- instructions that do it

abbrev gone : ℕ → List ℤ → List ℤ → Result World Over → MainNext
gone at rest slots (Ok world) = Goes (record { at = suc at; stack = rest; slots = slots; kept = world })
gone at rest slots (Err over) = Ends (Err over)

gone-is : (at : ℕ) (stack rest slots : List ℤ) (world : World) (o : Result World Over) → gone at rest slots (untold_world o) ≡ untold_next (going_in (stands at stack slots world) rest o)
gone-is at stack rest slots world (Ok done) = refl
gone-is at stack rest slots world (Err over) = refl

pub going-untold : (at : ℕ) (stack rest slots : List ℤ) (one other : World) (o p : Result World Over) → untold_world o ≡ untold_world p
    → untold_next (going_in (stands at stack slots one) rest o) ≡ untold_next (going_in (stands at stack slots other) rest p)
going-untold at stack rest slots one other o p e = sym (gone-is at stack rest slots one o) ∙ ap (gone at rest slots) e ∙ gone-is at stack rest slots other p

abbrev given : ℕ → List ℤ → List ℤ → Result (ℤ × World) Over → MainNext
given at rest slots (Ok done) = Goes (record { at = suc at; stack = done.0 ∷ rest; slots = slots; kept = done.1 })
given at rest slots (Err over) = Ends (Err over)

given-is : (at : ℕ) (stack rest slots : List ℤ) (world : World) (o : Result (ℤ × World) Over) → given at rest slots (untold_value o) ≡ untold_next (returning (stands at stack slots world) rest o)
given-is at stack rest slots world (Ok done) = refl
given-is at stack rest slots world (Err over) = refl

pub returning-untold : (at : ℕ) (stack rest slots : List ℤ) (one other : World) (o p : Result (ℤ × World) Over) → untold_value o ≡ untold_value p
    → untold_next (returning (stands at stack slots one) rest o) ≡ untold_next (returning (stands at stack slots other) rest p)
returning-untold at stack rest slots one other o p e = sym (given-is at stack rest slots one o) ∙ ap (given at rest slots) e ∙ given-is at stack rest slots other p

pub giving-untold : (at : ℕ) (stack rest slots : List ℤ) (world : World) (o : Result ℤ Trap)
    → untold_next (giving over_by (stands at stack slots world) rest o) ≡ untold_next (giving over_by (stands at stack slots (untold world)) rest o)
giving-untold at stack rest slots world (Ok value) = refl
giving-untold at stack rest slots world (Err trap) = refl

pub many-untold : (count : ℕ) (stack : List ℤ) (f g : List ℤ → List ℤ → MainNext) → ((values rest : List ℤ) → untold_next (f values rest) ≡ untold_next (g values rest))
    → untold_next (with_many count stack f) ≡ untold_next (with_many count stack g)
many-untold count stack f g same = by_test (nat_le count (length stack))
  where
    by_test : (b : Bool) → untold_next (if b then f (reverse (take count stack)) (drop count stack) else Stuck) ≡ untold_next (if b then g (reverse (take count stack)) (drop count stack) else Stuck)
    by_test true = same (reverse (take count stack)) (drop count stack)
    by_test false = refl

pub after-untold : (o p : Result (ℤ × World) Over) → untold_value o ≡ untold_value p → untold_world (world_after o) ≡ untold_world (world_after p)
after-untold o p e = sym (is o) ∙ ap world_after e ∙ is p
  where
    is : (o : Result (ℤ × World) Over) → world_after (untold_value o) ≡ untold_world (world_after o)
    is (Ok done) = refl
    is (Err over) = refl
