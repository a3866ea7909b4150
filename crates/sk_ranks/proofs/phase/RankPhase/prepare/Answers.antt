use Rattle.std.proofs.Common.{arith, rules, subst, ◌≡◌, ◌∙◌, ap, ◌*◌, ◌≤◌, ℕ, List, false, length, map, replicate}
use Rattle.sk_ranks.specs.RankMachine.{needs_in, message_steps, job_steps}
use Rattle.sk_ranks.specs.Kept.{StartsSends, StartsRuns}
use Rattle.sk_ranks.specs.declared.act.MessageState.TheVariants.{Unsent}
use Rattle.sk_ranks.specs.declared.plan.Job.{Job}
use Rattle.sk_ranks.specs.declared.plan.Message.{Message}
use Rattle.sk_ranks.proofs.StartLemmas.{kept-start}
use Rattle.sk_ranks.proofs.StepLemmas.{unsent-steps, waiting-steps}
use Rattle.sk_ranks.proofs.phase.RankPhase.prepare.Goals as goal

pub invariant_of-result : goal.invariant_of-result
invariant_of-result c =
    let messages = c.args.messages.items in
    let jobs = c.args.jobs.items in
    let states : c.in_ok-states.states.items ≡ replicate (length messages) Unsent = search rules in
    let done : c.in_ok-done.done.items ≡ replicate (length jobs) false = search rules in
    let sends_jobs : c.len-3.result ≡ length jobs = omega (arith, c.len-3.ensures, c.args.jobs.ok.0) in
    let sends : StartsSends messages (length jobs) c.in_ok-sends.sends =
    subst (λ (xs : List Message). StartsSends xs (length jobs) c.in_ok-sends.sends) c.deref.ensures.value
    (subst (λ (n : ℕ). StartsSends c.deref.result.now n c.in_ok-sends.sends) sends_jobs c.in_ok-sends.ensures) in
    let room : length messages ≤ length c.in_ok-in_flight.in_flight = omega (arith, c.len-4.ensures, c.args.messages.ok.0, c.in_ok-in_flight.ensures.room) in
    let runs_messages : c.len-5.result ≡ length messages = omega (arith, c.len-5.ensures, c.args.messages.ok.0) in
    let runs : StartsRuns (map needs_in jobs) (length messages) c.in_ok-runs.runs =
    subst (λ (xs : List Job). StartsRuns (map needs_in xs) (length messages) c.in_ok-runs.runs) c.deref-2.ensures.value
    (subst (λ (n : ℕ). StartsRuns (map needs_in c.deref-2.result.now) n c.in_ok-runs.runs) runs_messages c.in_ok-runs.ensures) in
    kept-start _ c.requires.plan c.requires.few_messages c.requires.few_jobs states done sends room c.in_ok-in_flight.ensures.empty runs

pub returns-clause-left : goal.returns-clause-left
returns-clause-left c =
    let messages = c.args.messages.items in
    let jobs = c.args.jobs.items in
    let states : c.in_ok-states.states.items ≡ replicate (length messages) Unsent = search rules in
    let done : c.in_ok-done.done.items ≡ replicate (length jobs) false = search rules in
    let sends : message_steps c.in_ok-states.states.items ≡ 2 * length messages = ap message_steps states ∙ unsent-steps (length messages) in
    let runs : job_steps c.in_ok-done.done.items ≡ length jobs = ap job_steps done ∙ waiting-steps (length jobs) in
    omega arith
