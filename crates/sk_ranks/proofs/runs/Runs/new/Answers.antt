use Rattle.std.proofs.Common.{◌∙◌, ◌<◌, ◌≡◌, ◌+◌, ◌++◌, ◌∷◌, [], ℕ, cond, eqb, set, length, subst, sym, arith, ap}
use Rattle.std.specs.Prelude.{All}
use Rattle.sk_ranks.proofs.BuildLemmas.{RunsSoFar-more, RunsSoFar-all, awaits-messages, awaits-jobs}
use Rattle.sk_ranks.proofs.runs.Runs.new.Goals as goal

pub add-requires : goal.add-requires
add-requires c =
    subst (λ (n : ℕ). All (λ m. m < n) c.deref.result.now) (sym c.jobs.invariant.message_count)
    (awaits-messages c.args.jobs.now c.args.messages c.jobs.number c.index-jobs-number.result c.deref.result.now c.requires.named c.jobs-test.true c.index-jobs-number.is c.deref.ensures.value)

pub add-requires-in-jobs : goal.add-requires-in-jobs
add-requires-in-jobs c =
    subst (λ (n : ℕ). All (λ m. m < n) c.deref-in-jobs.result.now) (sym c.jobs.invariant.job_count)
    (awaits-jobs c.args.jobs.now c.jobs.number c.index-jobs-number.result c.deref-in-jobs.result.now c.requires.earlier c.jobs-test.true c.index-jobs-number.is c.deref-in-jobs.ensures.value)

pub jobs-preserved : goal.jobs-preserved
jobs-preserved c =
    let job = c.index-jobs-number.result in
    let lacks : c.len.result + c.len-in-jobs.result ≡ length job.messages.items + length job.after.items =
    omega (arith, c.len.ensures, c.len-in-jobs.ensures, job.messages.ok.0, job.after.ok.0) in
    RunsSoFar-more c.args.jobs.now c.args.messages c.jobs.number c.jobs.ready c.jobs.lacks.items _ _ c.jobs.with_message c.jobs.after_job _ _ job c.jobs.invariant c.jobs-test.true c.index-jobs-number.is
    (rw (← c.deref.ensures.value) c.in_ok-add.ensures) (rw (← c.deref-in-jobs.ensures.value) c.in_ok-add-2.ensures)
    (c.in_ok-push.ensures.items ∙ ap (λ (n : ℕ). c.jobs.lacks.items ++ n ∷ []) lacks)
    (c.insert_if.ensures ∙ ap (λ (n : ℕ). cond (eqb n 0) (set c.jobs.ready c.jobs.number 1) c.jobs.ready) lacks)

pub returns : goal.returns
returns c = RunsSoFar-all c.args.jobs.now c.args.messages c.jobs.number _ c.jobs.invariant (omega arith)
