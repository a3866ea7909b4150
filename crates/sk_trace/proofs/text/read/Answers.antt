use Rattle.sk_trace.proofs.Written.{read-back}
use Rattle.sk_trace.proofs.text.read.Goals as goal

pub returns-clause-reads_back : goal.returns-clause-reads_back
returns-clause-reads_back c =
    λ steps fit is.
    read-back (λ read. read.items) c.args.bytes.now c.read_all.result steps c.read_all.ensures.steps c.read_all.ensures.fit c.read_all.ensures.fault fit is
