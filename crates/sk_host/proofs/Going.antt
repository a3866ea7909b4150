-- A run that is underway goes on, is over, or was cut off.
use Rattle.std.proofs.Common.{◌≡◌, ◌⊎◌, inl, inr, ℕ, zero, suc, ◌+◌, ◌*◌, ◌^◌, ◌<◌, ◌≤◌, false, List, [], ◌++◌, length, take, replicate, append_assoc, ℤ, pos, Option, Some, None, IsSomeAnd, slice_get, slice_index_or, refl, sym, ap, subst, ◌∙◌, arith}
use Rattle.std.specs.Prelude.{Ok, Err}
use Rattle.std.specs.Io.KnownBytes.{Appends}
use Rattle.std.proofs.KnownBytes.{Appends-nil, Appends-trans}
use Rattle.std.proofs.Math.Seq.{take-append-add}
use Rattle.std.proofs.lemmas.List.{append-nil, length-append, length-replicate, take-append-le}
use Rattle.sk_host.proofs.Finding.{inside, may_turn, within}
use Rattle.sk_host.proofs.Grown.{ComesToEnd, Extends, comes_to_end}
use Rattle.sk_host.specs.Needs.{MayTurn}
use Rattle.sk_host.specs.Outcomes.{HasEnded, IsOutcome}
use Rattle.sk_host.specs.Points.{point_at}
use Rattle.sk_host.specs.Rooms.{IsFresh}
use Rattle.sk_host.specs.Stores.{Kept, Mirrors, kept_at}
use Rattle.sk_host.specs.Turns.{GoesOn, IsCutOff, IsOver, Prints, Turns}
use Rattle.sk_host.specs.Underway.{IsUnderway, Machine}
use Rattle.sk_host.specs.declared.machine.State.{State}
use Rattle.sk_host.specs.declared.outcome.Outcome.{Outcome}
use Rattle.sk_host.specs.declared.outcome.Outcome.TheVariants as outcome
use Rattle.sk_isa.specs.Configurations.{Ends, Goes, Stuck}
use Rattle.sk_isa.specs.declared.code.Instr.{Instr}
use Rattle.sk_isa.specs.declared.object.Object.{Object}
use Rattle.sk_main_code.specs.Inputs.{AnswerAll}
use Rattle.sk_main_code.specs.MainSteps.{MainNext, MainPoint, coded_of, next_in_main}
use Rattle.sk_main_code.specs.Sound.{IsSound}
use Rattle.sk_main_code.specs.Vectors.{IsVectorObject}
use Rattle.sk_main_laws.proofs.Running.{runs_on}
use Rattle.sk_main_laws.specs.Ranks.{main_rank, measure_of}
use Rattle.sk_main_laws.specs.Running.{IsMeaning, IsRunning, IsRunningNext}
use Rattle.sk_outside.specs.Faults.{Rose}
use Rattle.sk_outside.specs.Holding.{AppendsPrefix, SinkHolding}
use Rattle.sk_tree.specs.declared.declared.Declared.{Declared}
use Rattle.sk_vm.specs.Points.{values_in}
use Rattle.sk_world.specs.Runs.{ProgramRun, world_before}
use Rattle.sk_world.specs.World.{Over, World}

-- a prefix of bytes behind others is a prefix of the whole
prefix-joined : (a b c : Option (List ℕ)) (xs ys whole : List ℕ) → Appends a b xs → AppendsPrefix b c ys → Extends (xs ++ ys) whole → AppendsPrefix a c whole
prefix-joined a b c xs ys whole first second extends =
    let k = second.0 in
    let more = extends.0 in
    let is : whole ≡ xs ++ (ys ++ more) = extends.1 ∙ append_assoc xs ys more in
    let long : length whole ≡ length xs + (length ys + length more) = ap length is ∙ length-append xs (ys ++ more) ∙ ap (λ (n : ℕ). length xs + n) (length-append ys more) in
    let few = second.1 in
    let taken : take (length xs + k) whole ≡ xs ++ take k ys =
    ap (take (length xs + k)) is ∙ take-append-add xs (ys ++ more) k ∙ ap (λ (zs : List ℕ). xs ++ zs) (take-append-le k ys more few) in
    (length xs + k, omega arith, subst (Appends a c) (sym taken) (Appends-trans a b c xs (take k ys) first second.2))

-- what a run comes to from where it stands
comes-to : (object : Object) (sound : IsSound object) (bound : ℕ) (point : MainPoint) → IsRunning object sound [] bound point → ComesToEnd object bound point
comes-to object sound bound point running =
    comes_to_end object sound bound (runs_on object sound [] bound) (suc (measure_of object.main.instrs point)) point running (omega arith)

whole-printed : (object : Object) (bound : ℕ) (over : Over) → IsMeaning object [] bound over → (coded_of object [] bound false).printed ≡ over.world.printed
whole-printed object bound over meaning = ap (λ (run : ProgramRun). run.printed) (meaning false)

module _ (object : Object) (bound : ℕ) (state : State) (machine : Machine) (began before : SinkHolding) (u : IsUnderway object bound state machine began before) where
  abbrev point : MainPoint
  point = point_at state.stand machine.stack machine.slots u.world

  pub there : state.stand.at < length object.main.instrs
  there = within object u.sound u.vectors state.stand machine.stack machine.slots machine.store u.world u.running.fine u.mirrors u.depth u.containers

  pub fits : state.stand.top ≤ length machine.stack
  fits = inside object u.sound u.vectors state.stand machine.stack machine.slots machine.store u.world u.running.fine u.mirrors u.depth u.containers

  pub may : (one : Instr) → slice_get object.main.instrs state.stand.at ≡ Some one → MayTurn object one state.stand.top machine.stack machine.slots machine.store
  may = may_turn object u.sound u.vectors state.stand machine.stack machine.slots machine.store u.world u.running.fine u.mirrors u.depth u.containers

  running-next : (one : Instr) → slice_get object.main.instrs state.stand.at ≡ Some one → IsRunningNext object u.sound [] bound point (next_in_main object one point)
  running-next one found =
      subst (λ (o : Option Instr). IsSomeAnd o (λ instr. IsRunningNext object u.sound [] bound point (next_in_main object instr point))) found
      ((runs_on object u.sound [] bound).goes_on point u.running)

  -- it goes on, and less is left of it
  module _ (one : Instr) (found : slice_get object.main.instrs state.stand.at ≡ Some one) (next : State) (after slots : List ℤ) (store : List (Option Kept))
      (now : SinkHolding)
      (turns : (world : World) → Mirrors machine.store world → world.settings ≡ [] → world.statements_left ≡ state.left → world.line ≡ state.line
      → Turns object one (point_at state.stand machine.stack machine.slots world) (Ok next) after slots store before now) where
    abbrev t : GoesOn (next_in_main object one point) u.world next after slots store before now
    t = turns u.world u.mirrors u.settings u.left u.line

    behind : IsRunning object u.sound [] bound (point_at next.stand after slots t.world)
        × (measure_of object.main.instrs (point_at next.stand after slots t.world) < measure_of object.main.instrs point)
    behind = subst (λ (n : MainNext). IsRunningNext object u.sound [] bound point n) t.leads (running-next one found)

    pub goes-on : length after ≡ length machine.stack → length store ≡ length machine.store
        → IsUnderway object bound next (record { stack = after; slots = slots; store = store }) began now
    goes-on tall many = record {
      sound = u.sound;
      vectors = u.vectors;
      depth = tall ∙ u.depth;
      containers = many ∙ u.containers;
      world = t.world;
      running = behind.0;
      mirrors = t.mirrors;
      settings = t.settings ∙ u.settings;
      left = t.left;
      line = t.line;
      printed = subst (Appends began.taken now.taken) (sym t.printed) (Appends-trans began.taken before.taken now.taken u.world.printed t.bytes u.printed t.taken);
      faults = t.faults ∙ u.faults;
    }

    pub falls : next.left * 2 ^ length object.main.instrs + main_rank object.main.instrs next.stand.at < state.left * 2 ^ length object.main.instrs + main_rank object.main.instrs state.stand.at
    falls =
        subst (λ (n : ℕ). n * 2 ^ length object.main.instrs + main_rank object.main.instrs next.stand.at < state.left * 2 ^ length object.main.instrs + main_rank object.main.instrs state.stand.at) t.left
        (subst (λ (n : ℕ). t.world.statements_left * 2 ^ length object.main.instrs + main_rank object.main.instrs next.stand.at < n * 2 ^ length object.main.instrs + main_rank object.main.instrs state.stand.at) u.left behind.1)

  -- it was cut off
  cut : (now : SinkHolding) (next : MainNext) → IsRunningNext object u.sound [] bound point next → IsCutOff next u.world before now
      → AppendsPrefix began.taken now.taken (coded_of object [] bound false).printed
  cut now next running_next off = by off.prints
    where
      from : (over : Over) → IsMeaning object [] bound over → Extends (u.world.printed ++ off.bytes) over.world.printed
          → AppendsPrefix began.taken now.taken (coded_of object [] bound false).printed
      from over meaning extends =
          subst (AppendsPrefix began.taken now.taken) (sym (whole-printed object bound over meaning))
          (prefix-joined began.taken before.taken now.taken u.world.printed off.bytes over.world.printed u.printed off.taken extends)

      goes : (next : MainNext) → IsRunningNext object u.sound [] bound point next → Prints next u.world off.bytes
          → AppendsPrefix began.taken now.taken (coded_of object [] bound false).printed
      goes (Goes behind) running_next prints =
          let end = comes-to object u.sound bound behind running_next.0 in
          from end.over end.meaning (subst (λ (xs : List ℕ). Extends xs end.over.world.printed) prints end.printed)
      goes (Ends result) running_next prints = absurd prints
      goes Stuck running_next prints = absurd prints

      by : (off.bytes ≡ []) ⊎ Prints next u.world off.bytes → AppendsPrefix began.taken now.taken (coded_of object [] bound false).printed
      by (inl none) =
          let end = comes-to object u.sound bound point u.running in
          from end.over end.meaning
          (subst (λ (xs : List ℕ). Extends xs end.over.world.printed) (sym (append-nil u.world.printed) ∙ ap (λ (xs : List ℕ). u.world.printed ++ xs) (sym none)) end.printed)
      by (inr prints) = goes next running_next prints

  -- it is over
  ended : (given : Outcome) (now : SinkHolding) (next : MainNext) → IsRunningNext object u.sound [] bound point next → IsOver next u.world given before now
      → HasEnded (coded_of object [] bound false) given began now
  ended given now next running_next is =
      let at_end = subst (λ (n : MainNext). IsRunningNext object u.sound [] bound point n) is.leads running_next in
      subst (λ (run : ProgramRun). HasEnded run given began now) (sym (at_end.1 false))
      (record {
        ending = is.ending;
        printed = subst (λ (h : SinkHolding). Appends began.taken h.taken is.over.world.printed) (sym is.taken) (subst (Appends began.taken before.taken) (sym is.printed) u.printed);
        faults = ap (λ (h : SinkHolding). h.faults) is.taken ∙ u.faults;
      })

  pub over : (one : Instr) → slice_get object.main.instrs state.stand.at ≡ Some one
      → (given : Outcome) (after slots : List ℤ) (store : List (Option Kept)) (now : SinkHolding)
      → ((world : World) → Mirrors machine.store world → world.settings ≡ [] → world.statements_left ≡ state.left → world.line ≡ state.line
      → Turns object one (point_at state.stand machine.stack machine.slots world) (Err given) after slots store before now)
      → IsOutcome (coded_of object [] bound false) began now given
  over one found given after slots store now turns =
      by given (turns u.world u.mirrors u.settings u.left u.line)
    where
      by : (given : Outcome) → Turns object one point (Err given) after slots store before now → IsOutcome (coded_of object [] bound false) began now given
      by outcome.SinkFault h =
          (subst (λ (n : ℕ). Rose n now.faults) u.faults h.0, cut now (next_in_main object one point) (running-next one found) h.1)
      by outcome.Memory h = (h.0 ∙ u.faults, cut now (next_in_main object one point) (running-next one found) h.1)
      by outcome.End h = ended outcome.End now (next_in_main object one point) (running-next one found) h
      by outcome.Bound h = ended outcome.Bound now (next_in_main object one point) (running-next one found) h
      by (outcome.Trapped trap line element) h = ended (outcome.Trapped trap line element) now (next_in_main object one point) (running-next one found) h

-- nothing is there
none-at : {A : Type 0} (count k : ℕ) → slice_index_or (replicate {A = Option A} count None) k None ≡ None
none-at zero k = refl
none-at (suc count) zero = refl
none-at (suc count) (suc k) = none-at count k

values_in-none : (buffer : List ℤ) → values_in buffer 0 ≡ []
unfolding values_in
values_in-none buffer = refl

-- a run begins
pub starts : (object : Object) (sound : IsSound object) (vectors : IsVectorObject object) (bound : ℕ) (stack slots : List ℤ) (store : List (Option Kept))
    (sink : SinkHolding) → IsFresh object stack slots store
    → IsUnderway object bound (record { stand = record { at = 0; top = 0 }; left = bound; line = 0 }) (record { stack = stack; slots = slots; store = store }) sink sink
starts object sound vectors bound stack slots store sink fresh = record {
  sound = sound;
  vectors = vectors;
  depth = ap length fresh.stack_is ∙ length-replicate object.main.depth (pos 0);
  containers = ap length fresh.store_is ∙ length-replicate (length object.containers) None;
  world = world_before [] bound;
  running =
      subst (λ (xs : List ℤ). IsRunning object sound [] bound (record { at = 0; stack = xs; slots = slots; kept = world_before [] bound })) (sym (values_in-none stack))
      (subst (λ (xs : List ℤ). IsRunning object sound [] bound (record { at = 0; stack = []; slots = xs; kept = world_before [] bound })) (sym fresh.slots_is)
      ((runs_on object sound [] bound).begins (subst (λ (inputs : List Declared). AnswerAll inputs []) (sym vectors.inputs) tt)));
  mirrors = λ number. ap (λ (xs : List (Option Kept)). kept_at xs number) fresh.store_is ∙ none-at (length object.containers) number;
  settings = refl;
  left = refl;
  line = refl;
  printed = Appends-nil sink.taken;
  faults = refl;
}
