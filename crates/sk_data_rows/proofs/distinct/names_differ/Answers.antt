use Rattle.std.proofs.Common.{sym, ◌∙◌}
use Rattle.sk_data_rows.proofs.OwnNames.{differ-distinct}
use Rattle.sk_data_rows.proofs.distinct.names_differ.Goals as goal

pub returns-clause-distinct : goal.returns-clause-distinct
returns-clause-distinct c is_so = differ-distinct c.args.declared.now (sym c.all_differ.ensures ∙ is_so)
