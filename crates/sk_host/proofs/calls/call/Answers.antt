use Rattle.std.proofs.Common.{rules, ◌≡◌, ◌+◌, ◌-◌, ◌∷◌, ◌∙◌, ap, sym, subst, suc, List, length, map, take, drop, ℕ, ℤ, FitsSigned, w64, arith}
use Rattle.std.proofs.lemmas.Int.{to_z-of_z}
use Rattle.sk_host.proofs.Given.{call-goes, call-traps, passed-in}
use Rattle.sk_host.proofs.calls.call.Goals as goal
use Rattle.sk_host.specs.declared.machine.Stand.{Stand}
use Rattle.sk_isa.specs.Objects.{invoked, signature_at}
use Rattle.sk_isa.specs.Soundness.{SuitParams}
use Rattle.sk_meaning.specs.Evaluation.{Value}
use Rattle.sk_vm.specs.Points.{values_in}

pub run-requires-clause-suited : goal.run-requires-clause-suited
run-requires-clause-suited c =
    subst (λ (xs : List ℤ). SuitParams (signature_at c.args.program.now.object.now c.args.function).params (map Value xs))
    (sym (passed-in c.param_count-takes.result (length (signature_at c.args.program.now.object.now c.args.function).params) c.args.stand.top c.args.stack.now c.param_count-takes.ensures c.requires.takes c.requires.inside))
    c.requires.suited

pub put-requires : goal.put-requires
put-requires c =
    let takes = c.param_count-takes.ensures in
    let enough = c.requires.takes in
    let room = c.requires.room in
    record { room = omega arith }

pub returns-in-Ok : goal.returns-in-Ok
returns-in-Ok c slots world =
    let takes = c.param_count-takes.ensures in
    let enough = c.requires.takes in
    let base = c.args.stand.top - c.param_count-takes.result in
    let tall : base + length (signature_at c.args.program.now.object.now c.args.function).params ≡ c.args.stand.top = omega arith in
    let count : length (signature_at c.args.program.now.object.now c.args.function).params ≡ c.args.stand.top - base = omega arith in
    let above : base + 1 ≡ suc base = omega arith in
    let fits : FitsSigned w64 c.in-Ok.value = search rules in
    call-goes c.args.program.now.object.now c.args.function c.args.stand c.past.result c.args.stack.now c.put.new.stack slots world base c.in-Ok.value tall c.requires.inside
    (ap (λ (n : ℕ). invoked c.args.program.now.object.now c.args.function (map Value (take n (drop base c.args.stack.now)))) count ∙ sym c.in_ok-value.ensures ∙ c.in-Ok.is)
    (ap (λ (s : Stand). s.at) c.past.ensures)
    (ap (λ (s : Stand). values_in c.put.new.stack s.top) c.past.ensures ∙ ap (values_in c.put.new.stack) above
    ∙ c.put.ensures.values ∙ ap (λ (x : ℤ). x ∷ values_in c.args.stack.now base) (to_z-of_z w64 c.in-Ok.value fits))

pub returns-in-Err : goal.returns-in-Err
returns-in-Err c slots world =
    let takes = c.param_count-takes.ensures in
    let enough = c.requires.takes in
    let base = c.args.stand.top - c.param_count-takes.result in
    let tall : base + length (signature_at c.args.program.now.object.now c.args.function).params ≡ c.args.stand.top = omega arith in
    let count : length (signature_at c.args.program.now.object.now c.args.function).params ≡ c.args.stand.top - base = omega arith in
    call-traps c.args.program.now.object.now c.args.function c.args.stand c.args.stack.now slots world base c.in-Err.trap tall c.requires.inside
    (ap (λ (n : ℕ). invoked c.args.program.now.object.now c.args.function (map Value (take n (drop base c.args.stack.now)))) count ∙ sym c.in_ok-value.ensures ∙ c.in-Err.is)
