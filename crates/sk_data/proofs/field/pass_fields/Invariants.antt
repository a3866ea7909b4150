use Rattle.sk_data.proofs.FieldsRead.{IsPassing, left_of}
use Rattle.sk_data.proofs.field.pass_fields.Given as goal

abbrev pub invariant-fields : goal.invariant-fields
invariant-fields l = IsPassing l.text l.ending.rest.now l.count l.ending.last

abbrev pub decreases-fields : goal.decreases-fields
decreases-fields l = left_of l.ending.last l.ending.rest.now
