use Rattle.std.proofs.Common.{sym, ◌∙◌}
use Rattle.sk_data.proofs.FieldsRead.{rest_all}
use Rattle.sk_data.proofs.ReadingOn.{bare_stripped, marked_stripped}
use Rattle.sk_data.proofs.records.without_mark.Goals as goal

pub returns-then-has_mark : goal.returns-then-has_mark
returns-then-has_mark c = rest_all c.args.bytes.now 3 ∙ marked_stripped c.args.bytes.now (sym c.has_mark.ensures ∙ c.if-has_mark.true)

pub returns-else-has_mark : goal.returns-else-has_mark
returns-else-has_mark c = bare_stripped c.args.bytes.now (sym c.has_mark.ensures ∙ c.if-has_mark.false)
