use Rattle.std.proofs.Common.{◌∙◌, length, rules, subst, sym, ◌≢◌, [], ◌+◌, ◌≡◌}
use Rattle.std.specs.Prelude.{IfSome}
use Rattle.sk_trace.specs.Fits.{IsStep}
use Rattle.sk_trace.specs.Lines.{line_of}
use Rattle.sk_trace.proofs.Written.{broken-at, gone-on, no-feed, no-first, not-a-step}
use Rattle.sk_trace.proofs.text.read_all.Goals as goal

pub returns-in_default-clause-fault : goal.returns-in_default-clause-fault
returns-in_default-clause-fault c = no-first c.args.bytes.now c.in_default.ensures.cases

pub returns-in_default-line_end-clause-fault : goal.returns-in_default-line_end-clause-fault
returns-in_default-line_end-clause-fault c =
    let some : c.lines.rest.now ≢ [] = search rules in
    let count : length c.lines.steps.items + 2 ≡ c.len.result + 2 = search rules in
    broken-at c.args.bytes.now c.lines.steps.items c.lines.rest.now (c.len.result + 2) c.lines.invariant some count
    (no-feed c.lines.rest.now (sym c.line_end.ensures ∙ c.in_default-line_end.is))

pub returns-in_default-2-clause-fault : goal.returns-in_default-2-clause-fault
returns-in_default-2-clause-fault c =
    let some : c.lines.rest.now ≢ [] = search rules in
    let count : length c.lines.steps.items + 2 ≡ c.len.result + 2 = search rules in
    broken-at c.args.bytes.now c.lines.steps.items c.lines.rest.now (c.len.result + 2) c.lines.invariant some count
    (not-a-step c.lines.rest.now c.line_before.result.now c.in-Some-line_end.end (sym c.line_end.ensures ∙ c.in-Some-line_end.is)
    c.line_before.ensures (c.in_ok-step.ensures.none c.in_default-2.is))

pub lines-preserved : goal.lines-preserved
lines-preserved c =
    let found = subst (λ o. IfSome o (λ step. (c.line_before.result.now ≡ line_of step) × IsStep step)) c.in-Some-2.is c.in_ok-step.ensures.step in
    gone-on c.args.bytes.now c.lines.steps.items c.push.new.self.items c.lines.rest.now c.rest_behind-rest.result.now c.line_before.result.now
    c.in-Some-line_end.end c.in-Some-2.step c.lines.invariant (sym c.line_end.ensures ∙ c.in-Some-line_end.is) c.line_before.ensures
    found.0 found.1 c.in_ok-push.ensures.items c.rest_behind-rest.ensures
