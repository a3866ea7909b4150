-- What main prints only grows, so what was printed is a prefix of what the whole run prints.
use Rattle.std.proofs.Common.{◌≡◌, ℕ, zero, suc, ◌<◌, Bool, true, false, nat_le, nat_lt, if◌then◌else◌, List, [], ◌∷◌, ◌++◌, length, take, drop, map, reverse, ℤ, Option, Some, None, IsSomeAnd, Ok, Err, Result, slice_get, slice_set, arith, ap, sym, refl, subst, ◌∙◌, append_assoc, replicate}
use Rattle.std.proofs.lemmas.List.{append-nil}
use Rattle.std.specs.Fmt.{signed_decimal}
use Rattle.sk_base.specs.Arithmetic.{op_of, wrapped}
use Rattle.sk_base.specs.Shape.{cells_of, flat_of, shape_of}
use Rattle.sk_arguments.specs.Operands.{uniforms_taken}
use Rattle.sk_base.specs.declared.number.Trap.{Trap}
use Rattle.sk_base.specs.declared.number.Trap.TheVariants.{Shape}
use Rattle.sk_formula.specs.Calls.{Outcome, Cells, Number, Sizes, computed_of, refusal_of}
use Rattle.sk_formula.specs.Elements.{TrapAt}
use Rattle.sk_isa.specs.Configurations.{Goes, Ends, Stuck, giving, returning, with_many, with_one, with_two}
use Rattle.sk_isa.specs.Objects.{invoked, signature_at}
use Rattle.sk_isa.specs.declared.code.Instr.{Instr}
use Rattle.sk_isa.specs.declared.code.Instr.TheVariants as instr
use Rattle.sk_isa.specs.declared.object.Object.{Object}
use Rattle.sk_isa.specs.declared.object.Plan.{Plan}
use Rattle.sk_main_code.specs.MainSteps.{MainNext, MainPoint, done_by, going_in, last_of, linked_plan, next_in_main, over_by, set_by, setting_of, world_after}
use Rattle.sk_main_code.specs.Sound.{IsSound}
use Rattle.sk_main_laws.specs.Ranks.{measure_of}
use Rattle.sk_main_laws.specs.Running.{IsMeaning, IsRunning, IsRunningNext, RunsOn}
use Rattle.sk_meaning.specs.Evaluation.{Value}
use Rattle.sk_tree.specs.declared.declared.Declared.{Declared}
use Rattle.sk_tree.specs.declared.settings.Settings.{Settings}
use Rattle.sk_world.specs.Calls.{Instance, call_of, converted, functions_of, given_of, has_trapped, is_mapped, operands_in, ran_call, sizes_of, tell_call, with_outcome}
use Rattle.sk_world.specs.Events.{CallOf, Made, Mapped, Ran}
use Rattle.sk_world.specs.InstanceSettings.{SettingValue, set_instance, with_setting}
use Rattle.sk_world.specs.World.{Bound, Container, Over, Trapped, World, container_at, make, poke_at, put_settings, putting, read_at, settings_in, take_input, told, valued}

-- more was printed behind
abbrev pub Extends : (before now : List ℕ) → Type 0
Extends before now = (more : List ℕ) × (now ≡ before ++ more)

pub same : (xs : List ℕ) → Extends xs xs
same xs = ([], sym (append-nil xs))

pub extends-trans : (one two three : List ℕ) → Extends one two → Extends two three → Extends one three
extends-trans one two three first second =
    (first.0 ++ second.0, second.1 ∙ ap (λ (xs : List ℕ). xs ++ second.0) first.1 ∙ append_assoc one first.0 second.0)

-- what an instruction leads to keeps what was printed in front
abbrev Grows : List ℕ → MainNext → Type 0
Grows before (Goes point) = Extends before point.kept.printed
Grows before (Ends (Ok done)) = Extends before done.1.printed
Grows before (Ends (Err over)) = Extends before over.world.printed
Grows before Stuck = Unit {0}

abbrev InWorld : List ℕ → Result World Over → Type 0
InWorld before (Ok world) = Extends before world.printed
InWorld before (Err over) = Extends before over.world.printed

abbrev InCall : List ℕ → Result (ℤ × World) Over → Type 0
InCall before (Ok done) = Extends before done.1.printed
InCall before (Err over) = Extends before over.world.printed

one_value : (before : List ℕ) (stack : List ℤ) (next : ℤ → List ℤ → MainNext) → ((a : ℤ) (rest : List ℤ) → Grows before (next a rest)) → Grows before (with_one stack next)
one_value before [] next each = tt
one_value before (a ∷ rest) next each = each a rest

two_values : (before : List ℕ) (stack : List ℤ) (next : ℤ → ℤ → List ℤ → MainNext) → ((a b : ℤ) (rest : List ℤ) → Grows before (next a b rest)) → Grows before (with_two stack next)
two_values before [] next each = tt
two_values before (b ∷ []) next each = tt
two_values before (b ∷ a ∷ rest) next each = each a b rest

many_values : (before : List ℕ) (count : ℕ) (stack : List ℤ) (next : List ℤ → List ℤ → MainNext) → ((values rest : List ℤ) → Grows before (next values rest))
    → Grows before (with_many count stack next)
many_values before count stack next each = by (nat_le count (length stack))
  where
    by : (test : Bool) → Grows before (if test then next (reverse (take count stack)) (drop count stack) else Stuck)
    by true = each (reverse (take count stack)) (drop count stack)
    by false = tt

in_world : (before : List ℕ) (point : MainPoint) (rest : List ℤ) (result : Result World Over) → InWorld before result → Grows before (going_in point rest result)
in_world before point rest (Ok world) h = h
in_world before point rest (Err over) h = h

in_call : (before : List ℕ) (point : MainPoint) (rest : List ℤ) (result : Result (ℤ × World) Over) → InCall before result → Grows before (returning point rest result)
in_call before point rest (Ok done) h = h
in_call before point rest (Err over) h = h

after : (before : List ℕ) (result : Result (ℤ × World) Over) → InCall before result → InWorld before (world_after result)
after before (Ok done) h = h
after before (Err over) h = h

giving_grows : (point : MainPoint) (rest : List ℤ) (result : Result ℤ Trap) → Grows point.kept.printed (giving over_by point rest result)
giving_grows point rest (Ok value) = same point.kept.printed
giving_grows point rest (Err trap) = same point.kept.printed

valued_grows : (result : Result ℤ Trap) (world : World) → InCall world.printed (valued result world)
valued_grows (Ok value) world = same world.printed
valued_grows (Err trap) world = same world.printed

read_grows : (container : Container) (index : Option ℕ) (world : World) → InCall world.printed (read_at container index world)
read_grows container None world = same world.printed
read_grows container (Some index) world = same world.printed

poke_grows : (container : Container) (index : Option ℕ) (value : ℤ) (world : World) → InWorld world.printed (poke_at container index value world)
poke_grows container None value world = same world.printed
poke_grows container (Some index) value world = same world.printed

-- calls print nothing
with_grows : (result : Option Container) (outcome : Result Outcome TrapAt) (world : World) → InCall world.printed (with_outcome result outcome world)
with_grows (Some result) (Ok (Cells cells)) world = same world.printed
with_grows (Some result) (Ok (Number value)) world = same world.printed
with_grows None (Ok (Cells cells)) world = same world.printed
with_grows None (Ok (Number value)) world = same world.printed
with_grows (Some result) (Err trapped) world = same world.printed
with_grows None (Err trapped) world = same world.printed

tell_prints : (instance : Instance) (call : CallOf) (settings : Settings) (result : Option Container) (outcome : Result Outcome TrapAt) (world : World)
    → (tell_call instance call settings result outcome world).printed ≡ world.printed
tell_prints instance call settings None outcome world = refl
tell_prints instance call settings (Some result) outcome world = by (is_mapped instance)
  where
    by : (test : Bool) → ((if test then told (Mapped call result.number) else told (Ran call settings (Some result.number) (has_trapped outcome))) world).printed ≡ world.printed
    by true = refl
    by false = refl

ran_grows : (instance : Instance) (call : CallOf) (settings : Settings) (result : Option Container) (outcome : Result Outcome TrapAt) (world : World)
    → InCall world.printed (ran_call instance call settings result outcome world)
ran_grows instance call settings result outcome world =
    subst (λ (printed : List ℕ). InCall printed (ran_call instance call settings result outcome world)) (tell_prints instance call settings result outcome world)
    (with_grows result outcome (tell_call instance call settings result outcome world))

refused_grows : (refusal : Option Trap) (ran : Result (ℤ × World) Over) (world : World) → InCall world.printed ran
    → InCall world.printed (elim refusal [ Some trap ↦ Err (record { ending = Trapped trap world.line 0; world = world }) | None ↦ ran ])
refused_grows None ran world h = h
refused_grows (Some trap) ran world h = same world.printed

call_grows : (instance : Instance) (result : Option ℕ) (operands : List ℕ) (uniforms : List ℤ) (world : World)
    → InCall world.printed (call_of instance result operands uniforms world)
call_grows instance result operands uniforms world =
    let settings : Settings = settings_in world instance.number in
    let target : Option Container = elim result [ Some number ↦ Some (container_at world number) | None ↦ None ] in
    let containers : List Container = operands_in world operands in
    let cells : List ℤ = converted (uniforms_taken instance.skeleton instance.elements instance.kinds) uniforms in
    let sizes : Sizes = sizes_of instance target containers in
    let call : CallOf = record { line = world.line; instance = instance.number; operands = operands; uniforms = cells } in
    let outcome : Result Outcome TrapAt = computed_of instance.skeleton settings sizes (functions_of instance settings (given_of instance target containers cells)) in
    refused_grows (refusal_of instance.skeleton settings sizes) (ran_call instance call settings target outcome world) world
    (ran_grows instance call settings target outcome world)

-- each step of main
step_grows : (object : Object) (one : Instr) (point : MainPoint) → Grows point.kept.printed (next_in_main object one point)
step_grows object (instr.Push x) point = same point.kept.printed
step_grows object instr.Pop point = one_value _ point.stack _ (λ a rest. same point.kept.printed)
step_grows object (instr.Load slot) point = by (slice_get point.slots slot)
  where
    by : (found : Option ℤ) → Grows point.kept.printed (elim found [ Some value ↦ Goes (record point { at = suc point.at; stack = value ∷ point.stack }) | None ↦ Stuck ])
    by None = tt
    by (Some value) = same point.kept.printed
step_grows object (instr.Store slot) point = one_value _ point.stack _ (λ a rest. by a rest (nat_lt slot (length point.slots)))
  where
    by : (a : ℤ) (rest : List ℤ) (test : Bool)
        → Grows point.kept.printed (if test then Goes (record point { at = suc point.at; stack = rest; slots = slice_set point.slots slot a }) else Stuck)
    by a rest true = same point.kept.printed
    by a rest false = tt
step_grows object (instr.Neg ty) point = one_value _ point.stack _ (λ a rest. same point.kept.printed)
step_grows object (instr.Inv ty) point = one_value _ point.stack _ (λ a rest. same point.kept.printed)
step_grows object instr.Not point = one_value _ point.stack _ (λ a rest. same point.kept.printed)
step_grows object instr.Wrap point = one_value _ point.stack _ (λ a rest. same point.kept.printed)
step_grows object (instr.Binary op ty) point = two_values _ point.stack _ (λ a b rest. giving_grows point rest (op_of op ty a b))
step_grows object (instr.Jump to) point = same point.kept.printed
step_grows object (instr.Zero to) point = one_value _ point.stack _ (λ a rest. same point.kept.printed)
step_grows object (instr.Field slot name) point = tt
step_grows object (instr.Region slot places) point = tt
step_grows object instr.Turn point = tt
step_grows object instr.Ret point = tt
step_grows object (instr.Size container name) point = same point.kept.printed
step_grows object (instr.Item container places) point =
    many_values _ places point.stack _ (λ place rest.
    in_call _ point rest _ (read_grows (container_at point.kept container) (flat_of (container_at point.kept container).sizes place) point.kept))
step_grows object (instr.Call function) point =
    many_values _ (length (signature_at object function).params) point.stack _ (λ values rest.
    in_call _ point rest _ (valued_grows (invoked object function (map Value values)) point.kept))
step_grows object (instr.Count line) point = in_world _ point point.stack _ (by point.kept.statements_left)
  where
    by : (left : ℕ) → InWorld point.kept.printed (elim left [
      | zero ↦ Err (record { ending = Bound; world = point.kept })
      | suc fewer ↦ Ok (record point.kept { statements_left = fewer; line = line })
    ])
    by zero = same point.kept.printed
    by (suc fewer) = same point.kept.printed
step_grows object (instr.Make container kind ty sizes) point = by (slice_get object.containers container)
  where
    made : (name : List ℕ) (values : List ℤ) (fill : ℤ) → InWorld point.kept.printed (make container name ty values fill point.kept)
    made name values fill = shaped (shape_of values)
      where
        shaped : (found : Option (List ℕ)) → InWorld point.kept.printed (elim found [
          | None ↦ Err (record { ending = Trapped Shape point.kept.line 0; world = point.kept })
          | Some shape ↦ Ok (told (Made container shape (wrapped ty fill))
              (putting (record { number = container; name = name; ty = ty; sizes = shape; cells = replicate (cells_of shape) (wrapped ty fill) }) point.kept))
        ])
        shaped None = same point.kept.printed
        shaped (Some shape) = same point.kept.printed

    by : (found : Option Declared) → Grows point.kept.printed (elim found [
      | Some declared ↦ with_many (suc sizes) point.stack (λ values rest.
          going_in point rest (make container declared.name ty (take sizes values) (last_of sizes values) point.kept))
      | None ↦ Stuck
    ])
    by None = tt
    by (Some declared) = many_values _ (suc sizes) point.stack _ (λ values rest. in_world _ point rest _ (made declared.name (take sizes values) (last_of sizes values)))
step_grows object (instr.Take container kind ty input) point = by (slice_get object.containers container)
  where
    by : (found : Option Declared) → Grows point.kept.printed (elim found [
      | Some declared ↦ going_in point point.stack (Ok (take_input container declared.name ty input point.kept))
      | None ↦ Stuck
    ])
    by None = tt
    by (Some declared) = same point.kept.printed
step_grows object (instr.Drop container) point = same point.kept.printed
step_grows object (instr.Set instance word values) point =
    many_values _ values point.stack _ (λ given rest. by (setting_of word given) rest)
  where
    setting : (plan : Plan) (value : SettingValue) → InWorld point.kept.printed (set_instance (linked_plan object instance plan) value point.kept)
    setting plan value = set (with_setting (linked_plan object instance plan) value (settings_in point.kept instance))
      where
        set : (found : Option Settings) → InWorld point.kept.printed (elim found [
          | Some settings ↦ Ok (put_settings instance settings point.kept)
          | None ↦ Err (record { ending = Trapped Shape point.kept.line 0; world = point.kept })
        ])
        set None = same point.kept.printed
        set (Some settings) = same point.kept.printed

    at_plan : (value : SettingValue) (rest : List ℤ) (found : Option Plan) → Grows point.kept.printed (elim found [
      | Some plan ↦ going_in point rest (set_instance (linked_plan object instance plan) value point.kept)
      | None ↦ Stuck
    ])
    at_plan value rest None = tt
    at_plan value rest (Some plan) = in_world _ point rest _ (setting plan value)

    by : (found : Option SettingValue) (rest : List ℤ) → Grows point.kept.printed (set_by object instance found point rest)
    by None rest = tt
    by (Some value) rest = at_plan value rest (slice_get object.instances instance)
step_grows object (instr.Do instance containers uniforms) point =
    many_values _ uniforms point.stack _ (λ given rest. by given rest (slice_get object.instances instance) containers)
  where
    by : (given rest : List ℤ) (found : Option Plan) (containers : List ℕ) → Grows point.kept.printed (done_by found object instance containers given point rest)
    by given rest None containers = tt
    by given rest (Some plan) [] = tt
    by given rest (Some plan) (result ∷ operands) =
        in_world _ point rest _ (after _ (call_of (linked_plan object instance plan) (Some result) operands given point.kept)
        (call_grows (linked_plan object instance plan) (Some result) operands given point.kept))
step_grows object (instr.Get instance containers uniforms) point = by (slice_get object.instances instance)
  where
    by : (found : Option Plan) → Grows point.kept.printed (elim found [
      | Some plan ↦ with_many uniforms point.stack (λ given rest.
          returning point rest (call_of (linked_plan object instance plan) None containers given point.kept))
      | None ↦ Stuck
    ])
    by None = tt
    by (Some plan) = many_values _ uniforms point.stack _ (λ given rest.
        in_call _ point rest _ (call_grows (linked_plan object instance plan) None containers given point.kept))
step_grows object (instr.Poke container places) point =
    many_values _ (suc places) point.stack _ (λ values rest. in_world _ point rest _
    (poke_grows (container_at point.kept container) (flat_of (container_at point.kept container).sizes (take places values)) (last_of places values) point.kept))
step_grows object instr.Print point = one_value _ point.stack _ (λ a rest. (signed_decimal a, refl))
step_grows object (instr.Text text) point = (text, refl)
step_grows object instr.Endl point = (10 ∷ [], refl)
step_grows object instr.Halt point = same point.kept.printed

-- how a run is over that goes on from a point, and what it has printed by then
pub record ComesToEnd (object : Object) (bound : ℕ) (point : MainPoint) : Type 0 where
  pub over : Over
  pub meaning : IsMeaning object [] bound over
  pub printed : Extends point.kept.printed over.world.printed

pub comes_to_end : (object : Object) (sound : IsSound object) (bound : ℕ) → RunsOn object sound [] bound → (fuel : ℕ) (point : MainPoint)
    → IsRunning object sound [] bound point → measure_of object.main.instrs point < fuel → ComesToEnd object bound point
comes_to_end object sound bound runs zero point running less = absurd (omega arith)
comes_to_end object sound bound runs (suc fuel) point running less =
    at (slice_get object.main.instrs point.at) (runs.goes_on point running)
    (λ behind runs_on lower. comes_to_end object sound bound runs fuel behind runs_on (below (measure_of object.main.instrs behind) (measure_of object.main.instrs point) lower less))
  where
    below : (a b : ℕ) → a < b → b < suc fuel → a < fuel
    below a b one other = omega arith

    next : (transition : MainNext) → IsRunningNext object sound [] bound point transition → Grows point.kept.printed transition
        → ((behind : MainPoint) → IsRunning object sound [] bound behind → measure_of object.main.instrs behind < measure_of object.main.instrs point → ComesToEnd object bound behind)
        → ComesToEnd object bound point
    next (Goes behind) running_next grows later =
        let end = later behind running_next.0 running_next.1 in
        record { over = end.over; meaning = end.meaning; printed = extends-trans point.kept.printed behind.kept.printed end.over.world.printed grows end.printed }
    next (Ends (Ok done)) running_next grows later = absurd running_next
    next (Ends (Err over)) running_next grows later = record { over = over; meaning = running_next.1; printed = grows }
    next Stuck running_next grows later = absurd running_next

    at : (found : Option Instr) → IsSomeAnd found (λ instr. IsRunningNext object sound [] bound point (next_in_main object instr point))
        → ((behind : MainPoint) → IsRunning object sound [] bound behind → measure_of object.main.instrs behind < measure_of object.main.instrs point → ComesToEnd object bound behind)
        → ComesToEnd object bound point
    at None running_next later = absurd running_next
    at (Some one) running_next later = next (next_in_main object one point) running_next (step_grows object one point) later
