use Rattle.sk_ranks.proofs.BuildLemmas.{RunsSoFar}
use Rattle.sk_ranks.proofs.runs.Runs.new.Given as goal

abbrev pub invariant-jobs : goal.invariant-jobs
invariant-jobs l = RunsSoFar l.jobs l.messages l.number l.ready l.lacks.items l.with_message l.after_job
