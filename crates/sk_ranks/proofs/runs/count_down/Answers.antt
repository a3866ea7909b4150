use Rattle.std.proofs.Common.{refl, arith}
use Rattle.sk_ranks.proofs.LoopLemmas.{CountsDown-some, CountsDown-more}
use Rattle.sk_ranks.proofs.runs.count_down.Goals as goal

pub overflow_sub-lacking : goal.overflow_sub-lacking
overflow_sub-lacking c =
    CountsDown-some c.args.lacks.now c.args.ready.now c.jobs.lacks c.jobs.ready c.args.jobs.now c.jobs.job-index _ c.jobs.invariant c.jobs-test.true refl c.requires.enough

pub jobs-preserved : goal.jobs-preserved
jobs-preserved c =
    let some = CountsDown-some c.args.lacks.now c.args.ready.now c.jobs.lacks c.jobs.ready c.args.jobs.now c.jobs.job-index _ c.jobs.invariant c.jobs-test.true refl c.requires.enough in
    CountsDown-more c.args.lacks.now c.args.ready.now c.jobs.lacks c.jobs.ready c.insert_if.new.self c.args.jobs.now c.jobs.job-index _ _ c.jobs.invariant c.jobs-test.true refl
    (c.requires.there c.jobs.job-index 0 c.jobs-test.true) c.requires.room (omega arith) c.insert_if.ensures
