use Rattle.std.proofs.Common.{ℕ, Global}
use Rattle.std.specs.declared.vec.Vec.{Vec}
use Rattle.sk_printed_laws.proofs.ProgramSpelt.{reads_ok}
use Rattle.sk_print.proofs.print.Goals as goal

pub returns-clause-reads_back : goal.returns-clause-reads_back
returns-clause-reads_back c = reads_ok (λ (v : Vec ℕ Global). v.items) c.args.program.now c.printed.result c.requires c.printed.ensures
