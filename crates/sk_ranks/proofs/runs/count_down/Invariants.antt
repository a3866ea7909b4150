use Rattle.std.proofs.Common.{take}
use Rattle.sk_ranks.specs.Numbers.{CountsDown}
use Rattle.sk_ranks.proofs.runs.count_down.Given as goal

abbrev pub invariant-jobs : goal.invariant-jobs
invariant-jobs l = CountsDown l.fn.lacks l.fn.ready l.lacks l.ready (take l.job-index l.jobs)
