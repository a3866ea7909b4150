use Rattle.std.proofs.Common.{get_or}
use Rattle.sk_data.proofs.FieldsRead.{rest_all}
use Rattle.sk_data.proofs.ReadingOn.{end_more, ends_cr, ends_lf, ends_none, record_here}
use Rattle.sk_data.proofs.records.at_record.Goals.{else-text-at-ne13-via-then-text-at-ne13+else-text-at-ne10, else-text-at-ne13-via-else-text-at-ne13}
use Rattle.sk_data.proofs.records.at_record.Goals as goal

pub returns-then-text-at-ne10-clause-starts : goal.returns-then-text-at-ne10-clause-starts
returns-then-text-at-ne10-clause-starts c =
    record_here c.args.text.now _ c.ends.at c.ends-test.true
    (ends_none (get_or c.args.text.now c.ends.at 0) c.if-text-at-ne13.true c.if-text-at-ne10.true) (rest_all c.args.text.now c.ends.at)

pub ends-preserved : goal.ends-preserved
ends-preserved c = elim c.else-text-at-ne13.branch [
  | else-text-at-ne13-via-then-text-at-ne13+else-text-at-ne10 w ↦
      end_more c.args.text.now c.ends.at c.ends-test.true (ends_lf (get_or c.args.text.now c.ends.at 0) w.if-text-at-ne10.false) c.ends.invariant
  | else-text-at-ne13-via-else-text-at-ne13 w ↦
      end_more c.args.text.now c.ends.at c.ends-test.true (ends_cr (get_or c.args.text.now c.ends.at 0) w.if-text-at-ne13.false) c.ends.invariant
]
