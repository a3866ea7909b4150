use Rattle.std.proofs.Common.{◌∙◌, sym, rules}
use Rattle.sk_trace.proofs.CandidateFits.{candidate-fits, no-candidate, other-line}
use Rattle.sk_trace.proofs.text.step_with_line.Goals as goal

pub returns-in_default-clause-none : goal.returns-in_default-clause-none
returns-in_default-clause-none c = λ none. no-candidate c.args.line.now (sym c.in_ok-step.ensures ∙ c.in_default.is)

pub returns-then-is_same-clause-step : goal.returns-then-is_same-clause-step
returns-then-is_same-clause-step c =
    (search rules, candidate-fits c.args.line.now c.in-Some.step (sym c.in_ok-step.ensures ∙ c.in-Some.is))

pub returns-else-is_same-clause-none : goal.returns-else-is_same-clause-none
returns-else-is_same-clause-none c = λ none. other-line c.args.line.now c.in-Some.step (sym c.in_ok-step.ensures ∙ c.in-Some.is) (search rules)
