use Rattle.std.proofs.Common.{true, false}
use Rattle.serde_json.specs.Find.{as_object}
use Rattle.serde_json.specs.View.{view}
use Rattle.sk_select.specs.Fields.{fields_checked}
use Rattle.sk_select.proofs.KeyLemmas.{keys-checked}
use Rattle.sk_select.proofs.field.check_fields.Goals as goal

pub returns-then-are_known : goal.returns-then-are_known
unfolding fields_checked
returns-then-are_known c =
    keys-checked c.args.whole c.args.fields.now c.in-Some.members.now.entries (as_object (view c.args.value.now)) c.are_known.result true c.in-Some.ensures c.are_known.ensures c.if-are_known.true

pub returns-else-are_known : goal.returns-else-are_known
unfolding fields_checked
returns-else-are_known c =
    keys-checked c.args.whole c.args.fields.now c.in-Some.members.now.entries (as_object (view c.args.value.now)) c.are_known.result false c.in-Some.ensures c.are_known.ensures c.if-are_known.false
