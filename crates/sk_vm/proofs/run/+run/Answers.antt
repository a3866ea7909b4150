use Rattle.std.proofs.Common.{rules, ◌≡◌, ℕ, ℤ, ◌<◌, ◌≤◌, ◌+◌, ◌-◌, ◌*◌, List, ◌++◌, length, drop, map, Some, Ok, Result, slice_set, sym, ap, subst, ◌∙◌, arith, FitsSigned, w64, length-take-le}
use Rattle.sk_meaning.specs.Evaluation.{Argument, Value}
use Rattle.sk_isa.specs.Objects.{signature_at}
use Rattle.sk_vm.specs.Calls.{HasSpace, MayCall}
use Rattle.sk_vm.specs.Entries.{Entered}
use Rattle.sk_vm.specs.Rooms.{Begins, begun_with}
use Rattle.sk_vm.specs.Points.{values_in, point_at}
use Rattle.std.proofs.lemmas.Int.{to_z-of_z}
use Rattle.sk_base.specs.declared.number.Trap.{Trap}
use Rattle.sk_isa.specs.Coded.{Next, next_of, function_of}
use Rattle.sk_isa.specs.Configurations.{returning, Goes as Going}
use Rattle.sk_vm.proofs.Calls.{params_fit, passed, call_begins, call_returns}
use Rattle.sk_vm.proofs.Chains.{slots-within}
use Rattle.sk_vm.proofs.Middle.{CallReady, finds, within, inside, needs, call_ready, call_leads}
use Rattle.sk_vm.proofs.Places.{no_containers}
use Rattle.sk_vm.proofs.Running.{routine_at, goes_on, ends_with}
use Rattle.sk_vm.proofs.Starts.{starts}
use Rattle.sk_vm.proofs.run.+run.Goals as goal
use Rattle.sk_vm.proofs.run.+run.Goals.{run_code-In-Calls, called-After-enter}
use Rattle.sk_vm.proofs.run.+run.Given.{Over}

-- room that is there throughout
deep : {room now before : ℕ} → room ≤ before → now ≡ before → room ≤ now
deep h is = omega arith

wide : {room own count now before : ℕ} → room ≤ own + before → own ≡ count → now ≡ before → room ≤ count + now
wide h counted is = omega arith

pub run_code-loop-next-init : goal.run_code-loop-next-init
run_code-loop-next-init g t c =
    starts c.args.entry.now.object c.instrs-instrs.ensures.entered.sound c.args.entry.now.function c.instrs-instrs.ensures.entered.there (g.S.Surroundings.other c.args.given.now) c.args.slots.now c.requires.begins c.args.turns c.args.stack.now c.instrs-instrs.result.now c.instrs-instrs.ensures.instrs

pub run_code-instr_at-requires : goal.run_code-instr_at-requires
run_code-instr_at-requires g t c = within _ _ _ _ _ _ _ _ _ c.loop-next.invariant

pub run_code-step-requires-clause-inside : goal.run_code-step-requires-clause-inside
run_code-step-requires-clause-inside g t c = inside _ _ _ _ _ _ _ c.loop-next.stack _ c.loop-next.invariant (deep c.requires.space.depth c.loop-next.auto.stack)

pub run_code-step-requires-clause-needs : goal.run_code-step-requires-clause-needs
run_code-step-requires-clause-needs g t c = needs _ _ _ _ _ _ _ c.loop-next.stack _ c.loop-next.invariant (g.S.Surroundings.readable c.args.given.now) c.requires.readable _ c.instrs-instrs.ensures.entered.parameters c.instr_at.ensures.found (deep c.requires.space.depth c.loop-next.auto.stack)

pub run_code-loop-next-smaller-in-Goes : goal.run_code-loop-next-smaller-in-Goes
run_code-loop-next-smaller-in-Goes g t c =
    (goes_on _ _ _ _ _ _ _ c.in-Goes.next _ c.step.new.stack _ c.step.new.slots _ c.instr_at.ensures.found c.loop-next.invariant
    (c.in-Goes.ensures.leads (routine_at c.args.entry.now.object c.args.entry.now.function c.loop-next.invariant.code (g.S.Surroundings.other c.args.given.now) c.args.slots.now)
    (finds _ _ _ _ _ _ _ c.loop-next.stack _ c.loop-next.invariant (g.S.Surroundings.readable c.args.given.now) c.requires.readable _ c.instrs-instrs.ensures.entered.parameters c.instr_at.ensures.found))).1

pub run_code-loop-next-preserved-in-Goes : goal.run_code-loop-next-preserved-in-Goes
run_code-loop-next-preserved-in-Goes g t c =
    (goes_on _ _ _ _ _ _ _ c.in-Goes.next _ c.step.new.stack _ c.step.new.slots _ c.instr_at.ensures.found c.loop-next.invariant
    (c.in-Goes.ensures.leads (routine_at c.args.entry.now.object c.args.entry.now.function c.loop-next.invariant.code (g.S.Surroundings.other c.args.given.now) c.args.slots.now)
    (finds _ _ _ _ _ _ _ c.loop-next.stack _ c.loop-next.invariant (g.S.Surroundings.readable c.args.given.now) c.requires.readable _ c.instrs-instrs.ensures.entered.parameters c.instr_at.ensures.found))).0

pub run_code-returns-in-Ends : goal.run_code-returns-in-Ends
run_code-returns-in-Ends g t c =
    let fits : FitsSigned w64 c.in-Ends.value = search rules in
    ap (λ (x : ℤ). Ok (x, c.in-Ends.left)) (to_z-of_z w64 c.in-Ends.value fits)
    ∙ sym (ends_with _ _ _ _ _ _ _ _ _ _ _ c.instr_at.ensures.found c.loop-next.invariant
    (c.in-Ends.ensures.leads (routine_at c.args.entry.now.object c.args.entry.now.function c.loop-next.invariant.code (g.S.Surroundings.other c.args.given.now) c.args.slots.now)
    (finds _ _ _ _ _ _ _ c.loop-next.stack _ c.loop-next.invariant (g.S.Surroundings.readable c.args.given.now) c.requires.readable _ c.instrs-instrs.ensures.entered.parameters c.instr_at.ensures.found)))

pub run_code-returns-in-Traps : goal.run_code-returns-in-Traps
run_code-returns-in-Traps g t c =
    sym (ends_with _ _ _ _ _ _ _ _ _ _ _ c.instr_at.ensures.found c.loop-next.invariant
    (c.in-Traps.ensures.leads (routine_at c.args.entry.now.object c.args.entry.now.function c.loop-next.invariant.code (g.S.Surroundings.other c.args.given.now) c.args.slots.now)
    (finds _ _ _ _ _ _ _ c.loop-next.stack _ c.loop-next.invariant (g.S.Surroundings.readable c.args.given.now) c.requires.readable _ c.instrs-instrs.ensures.entered.parameters c.instr_at.ensures.found)))

-- a step calls a function
ready : (g : Over) (t : ℕ) (c : run_code-In-Calls g t) → CallReady _ _ _ _ _ _ _ _ _ c.loop-next.invariant c.in-Calls.callee c.loop-next.rest
ready g t c =
    call_ready _ _ _ _ _ _ _ _ _ c.loop-next.invariant c.in-Calls.callee c.loop-next.rest c.instrs-instrs.ensures.entered.there (c.instr_at.ensures.found ∙ ap Some c.in-Calls.ensures.leads)
    (deep c.requires.space.depth c.loop-next.auto.stack) (wide c.requires.space.slots c.requires.begins.count c.loop-next.auto.rest)

pub run_code-of-requires : goal.run_code-of-requires
run_code-of-requires g t c = (ready g t (goal.at.run_code-of-requires g t c).In-Calls).there

pub run_code-called-requires : goal.run_code-called-requires
run_code-called-requires g t c =
    let ready = ready g t (goal.at.run_code-called-requires g t c).In-Calls in
    let before = ready.before in
    let falls : 2 * c.in-Calls.callee + 1 < t = omega (arith, c.decreases) in
    let may : MayCall (record { object = c.args.entry.now.object; function = c.in-Calls.callee }) c.loop-next.stand c.step.new.stack c.loop-next.rest =
    subst (λ (stack : List ℤ). MayCall (record { object = c.args.entry.now.object; function = c.in-Calls.callee }) c.loop-next.stand stack c.loop-next.rest)
    (sym c.in-Calls.ensures.kept.0) ready.may in
    let is : record { object = c.args.entry.now.object; function = c.in-Calls.callee } ≡ c.of.result = sym c.of.ensures in
    let smaller : 2 * c.of.result.function + 1 < t = subst (λ (e : Entered). 2 * e.function + 1 < t) is falls in
    let address = c.instr_at.ensures.address in
    let may_call : MayCall c.of.result c.loop-next.stand c.step.new.stack c.loop-next.rest = subst (λ (e : Entered). MayCall e c.loop-next.stand c.step.new.stack c.loop-next.rest) is may in
    search rules

pub called-split_at_mut-slots-requires : goal.called-split_at_mut-slots-requires
called-split_at_mut-slots-requires g t c =
    let own = slots-within c.args.callee.now.object.functions c.args.callee.now.function in
    let count = c.slot_count.ensures.count in
    let room = c.requires.ready.slots in
    omega arith

pub called-enter-requires : goal.called-enter-requires
called-enter-requires g t c =
    let fit = params_fit c.args.callee.now.object c.slot_count.ensures.entered.sound c.args.callee.now.function c.slot_count.ensures.entered.there in
    let takes = c.param_count-takes.ensures in
    let count = c.slot_count.ensures.count in
    let size = c.split_at_mut-slots.ensures.front_len in
    omega (arith, length-take-le c.param_count-takes.result c.split_at_mut-free.result.1.now)

-- the slots of the function that is called begin with its arguments
begins : (g : Over) (t : ℕ) (c : called-After-enter g t)
    → Begins c.args.callee.now.object c.args.callee.now.function (g.S.Surroundings.other c.args.given.now) c.enter.new.slots
    × (begun_with c.args.callee.now.object c.args.callee.now.function (g.S.Surroundings.other c.args.given.now) c.enter.new.slots ≡ map Value (passed c.args.callee.now.object c.args.callee.now.function c.args.stack.now c.args.stand.top))
begins g t c =
    let takes = c.param_count-takes.ensures in
    let enough = c.requires.ready.takes in
    call_begins c.args.callee.now.object c.slot_count.ensures.entered.sound c.args.callee.now.function c.slot_count.ensures.entered.there (g.S.Surroundings.other c.args.given.now) c.args.stack.now c.split_at_mut-free.result.1.now c.enter.new.slots c.args.stand.top
    c.param_count-takes.result (length c.split_at_mut-slots.result.0.now) takes (omega arith) c.requires.ready.inside c.split_at_mut-free.ensures.back
    (c.split_at_mut-slots.ensures.front_len ∙ c.slot_count.ensures.count) c.enter.auto.slots c.enter.ensures c.requires.ready.suited

pub called-run_code-requires : goal.called-run_code-requires
called-run_code-requires g t c =
    let takes = c.param_count-takes.ensures in
    let enough = c.requires.ready.takes in
    let falls : 2 * c.args.callee.now.function < t = omega (arith, c.decreases) in
    let free = c.split_at_mut-free.ensures.back_len in
    let below = c.split_at_mut-slots.ensures.back_len in
    let count = c.slot_count.ensures.count in
    let depth = c.requires.ready.depth in
    let room = c.requires.ready.slots in
    let contained = no_containers (signature_at c.args.callee.now.object c.args.callee.now.function).params (passed c.args.callee.now.object c.args.callee.now.function c.args.stack.now c.args.stand.top)
    (g.S.Surroundings.readable c.args.given.now) c.requires.ready.suited in
    let begun = (begins g t (goal.at.called-run_code-requires g t c).After-enter).0 in
    let space : HasSpace c.args.callee.now c.split_at_mut-free.result.1.now (length c.enter.new.slots + length c.split_at_mut-slots.result.1.now) = record { depth = omega arith; slots = omega arith } in
    search rules

-- the value of the function that is called
gives : (g : Over) (t : ℕ) (c : called-After-enter g t) (value : Result (ℤ × ℕ) Trap)
    → value ≡ function_of c.args.callee.now.object c.args.callee.now.function (begun_with c.args.callee.now.object c.args.callee.now.function (g.S.Surroundings.other c.args.given.now) c.enter.new.slots) c.args.stand.turns
    → function_of c.args.callee.now.object c.args.callee.now.function (map Value (passed c.args.callee.now.object c.args.callee.now.function c.args.stack.now c.args.stand.top)) c.args.stand.turns ≡ value
gives g t c value is = ap (λ (xs : List Argument). function_of c.args.callee.now.object c.args.callee.now.function xs c.args.stand.turns) (sym (begins g t c).1) ∙ sym is

pub called-returns-in-Ok : goal.called-returns-in-Ok
called-returns-in-Ok g t c slots =
    let takes = c.param_count-takes.ensures in
    let enough = c.requires.ready.takes in
    let fits : FitsSigned w64 c.in-Ok.value = search rules in
    let free = c.split_at_mut-free.ensures.back_len in
    let kept = c.run_code.auto.stack in
    let value = c.requires.ready.value in
    ap (λ (x : ℤ). Going (point_at (record { at = c.args.stand.at + 1; top = c.args.stand.top - c.param_count-takes.result + 1; turns = c.in-Ok.turns })
    (c.split_at_mut-free.result.0.now ++ slice_set c.run_code.new.stack 0 x) slots)) (to_z-of_z w64 c.in-Ok.value fits)
    ∙ call_returns c.args.callee.now.object c.args.callee.now.function c.args.stand c.args.stack.now c.split_at_mut-free.result.0.now c.split_at_mut-free.result.1.now c.run_code.new.stack slots
    c.param_count-takes.result c.in-Ok.value c.in-Ok.turns takes (omega arith) c.split_at_mut-free.ensures.value c.split_at_mut-free.ensures.front_len (omega arith)
    (gives g t (goal.at.called-returns-in-Ok g t c).After-enter _ c.run_code.ensures ∙ c.in-Ok.is)

pub called-returns-in-Err : goal.called-returns-in-Err
called-returns-in-Err g t c slots =
    sym (ap (returning (point_at c.args.stand c.args.stack.now slots)
    (drop (length (signature_at c.args.callee.now.object c.args.callee.now.function).params) (values_in c.args.stack.now c.args.stand.top))) (gives g t (goal.at.called-returns-in-Err g t c).After-enter _ c.run_code.ensures ∙ c.in-Err.is))

-- where the call leads
leads : (g : Over) (t : ℕ) (c : run_code-In-Calls g t) (next : Next) (called : Entered) → called ≡ record { object = c.args.entry.now.object; function = c.in-Calls.callee }
    → next ≡ returning (point_at c.loop-next.stand c.step.new.stack c.step.new.slots)
    (drop (length (signature_at called.object called.function).params) (values_in c.step.new.stack c.loop-next.stand.top))
    (function_of called.object called.function (map Value (passed called.object called.function c.step.new.stack c.loop-next.stand.top)) c.loop-next.stand.turns)
    → next_of (routine_at c.args.entry.now.object c.args.entry.now.function c.loop-next.invariant.code (g.S.Surroundings.other c.args.given.now) c.args.slots.now) c.instr_at.result.now (point_at c.loop-next.stand c.loop-next.stack c.loop-next.slots)
    ≡ next
leads g t c next called is led =
    let entered = c.instrs-instrs.ensures.entered in
    call_leads _ _ _ _ _ _ _ _ _ c.loop-next.invariant entered.sound c.in-Calls.callee _ (ready g t c) entered.there _ c.in-Calls.ensures.leads _ _
    c.in-Calls.ensures.kept.0 c.in-Calls.ensures.kept.1 next
    (subst (λ (e : Entered). next ≡ returning (point_at c.loop-next.stand c.step.new.stack c.step.new.slots)
    (drop (length (signature_at e.object e.function).params) (values_in c.step.new.stack c.loop-next.stand.top))
    (function_of e.object e.function (map Value (passed e.object e.function c.step.new.stack c.loop-next.stand.top)) c.loop-next.stand.turns)) is led)

pub run_code-loop-next-smaller : goal.run_code-loop-next-smaller
run_code-loop-next-smaller g t c =
    (goes_on _ _ _ _ _ _ _ c.in-Ok.next _ c.called.new.stack _ c.step.new.slots _ c.instr_at.ensures.found c.loop-next.invariant
    (leads g t (goal.at.run_code-loop-next-smaller g t c).In-Calls _ _ c.of.ensures (c.in-Ok.ensures c.step.new.slots))).1

pub run_code-loop-next-preserved : goal.run_code-loop-next-preserved
run_code-loop-next-preserved g t c =
    (goes_on _ _ _ _ _ _ _ c.in-Ok.next _ c.called.new.stack _ c.step.new.slots _ c.instr_at.ensures.found c.loop-next.invariant
    (leads g t (goal.at.run_code-loop-next-preserved g t c).In-Calls _ _ c.of.ensures (c.in-Ok.ensures c.step.new.slots))).0

pub run_code-returns-in-Err : goal.run_code-returns-in-Err
run_code-returns-in-Err g t c =
    sym (ends_with _ _ _ _ _ _ _ _ _ _ _ c.instr_at.ensures.found c.loop-next.invariant
    (leads g t (goal.at.run_code-returns-in-Err g t c).In-Calls _ _ c.of.ensures (c.in-Err.ensures c.step.new.slots)))
