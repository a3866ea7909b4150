use Rattle.std.proofs.Common.{subst}
use Rattle.sk_vm.specs.Entries.{MayEnter}
use Rattle.sk_vm.proofs.entry.Entry.params.Goals as goal

pub returns-clause-entered : goal.returns-clause-entered
returns-clause-entered c = subst MayEnter c.self.view_is c.self.invariant
