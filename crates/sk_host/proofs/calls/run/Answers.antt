use Rattle.std.proofs.Common.{◌≡◌, ◌∙◌, sym, subst, ℕ, ℤ, pos, false}
use Rattle.sk_arguments.specs.Arguments.{Reading}
use Rattle.sk_host.proofs.Given.{agrees_nothing, suits_uniforms, value_of_uniforms}
use Rattle.sk_host.proofs.calls.run.Goals as goal
use Rattle.sk_host.specs.Passed.{uniform_source}
use Rattle.sk_kernel.specs.Instances.{function_meaning}
use Rattle.sk_kernel.specs.Kernels.{Agree, Suits, given_by}
use Rattle.sk_vm.specs.Frames.{reading_by}

pub run-requires-clause-suits : goal.run-requires-clause-suits
run-requires-clause-suits c =
    let object = c.args.program.now.object.now in
    let rooms = c.requires.rooms in
    let source = uniform_source c.args.arguments.now in
    let frame = c.turn.new.self in
    let is = c.in_ok-turn.ensures.turned in
    subst (λ (r : Reading). Suits (function_meaning object frame.function r) source 0 0) (sym is.1)
    (subst (λ (n : ℕ). Suits (function_meaning object n (reading_by 0 false)) source 0 0) (sym is.0)
    (suits_uniforms object rooms.sound rooms.parameters c.args.function c.requires.there c.args.arguments.now c.requires.suited))

pub returns : goal.returns
returns c =
    let object = c.args.program.now.object.now in
    let rooms = c.requires.rooms in
    let source = uniform_source c.args.arguments.now in
    let none : ℕ → ℕ → ℤ = λ operand index. pos 0 in
    let frame = c.turn.new.self in
    let is = c.in_ok-turn.ensures.turned in
    let value =
    subst (λ (n : ℕ). Agree (function_meaning object n (reading_by 0 false)) source 0 0 none → c.run.result ≡ (function_meaning object n (reading_by 0 false)).value (given_by source none) 0 0) is.0
    (subst (λ (r : Reading). Agree (function_meaning object frame.function r) source 0 0 none
    → c.run.result ≡ (function_meaning object frame.function r).value (given_by source none) 0 0) is.1 (c.run.ensures.value none)) in
    value (agrees_nothing object rooms.sound rooms.parameters c.args.function c.requires.there c.args.arguments.now c.requires.suited none)
    ∙ value_of_uniforms object rooms.sound rooms.parameters c.args.function c.requires.there c.args.arguments.now c.requires.suited none
