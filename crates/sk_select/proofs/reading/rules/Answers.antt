use Rattle.std.proofs.Common.{◌≡◌, ◌+◌, ◌<◌, ◌≤◌, length, [], Some, None, Ok, Err, drop, ap, sym, ◌∙◌, rules, arith}
use Rattle.serde_json.specs.Find.{get}
use Rattle.serde_json.specs.View.{view}
use Rattle.sk_select.specs.Fields.{field_of}
use Rattle.sk_select.specs.Table.{rules_in, rule_of}
use Rattle.sk_select.specs.declared.fault.FieldName.TheVariants.{Rules}
use Rattle.sk_select.specs.declared.fault.TableFault.TheVariants.{Limit}
use Rattle.sk_select.proofs.RuleLemmas.{with_more, with_more-one, with_more-fault, with_more-end, rules-many, rules-few}
use Rattle.sk_select.proofs.reading.rules.Goals as goal

pub returns-then-len-gt-MOST_RULES-clause-refused : goal.returns-then-len-gt-MOST_RULES-clause-refused
unfolding rules_in
returns-then-len-gt-MOST_RULES-clause-refused c = λ _.
    rules-many c.args.ranks (field_of Rules (view c.args.table.now)) (view c.in-Some.field.now) c.in-Some-as_array.values.now.items
    (c.in-Some.ensures ∙ ap (λ word. get word (view c.args.table.now)) c.word.ensures) c.in-Some-as_array.ensures (omega (arith, c.len.ensures, c.if-len-gt-MOST_RULES.true, c.in-Some-as_array.values.now.ok.0))
    ∙ ap (λ n. Err (Limit Rules n)) (sym (c.len-then-len-gt-MOST_RULES.ensures ∙ c.in-Some-as_array.values.now.ok.0))

pub loop-value-init : goal.loop-value-init
unfolding rules_in
loop-value-init c =
    rules-few c.args.ranks (field_of Rules (view c.args.table.now)) (view c.in-Some.field.now) c.in-Some-as_array.values.now.items
    (c.in-Some.ensures ∙ ap (λ word. get word (view c.args.table.now)) c.word.ensures) c.in-Some-as_array.ensures (omega (arith, c.len.ensures, c.if-len-gt-MOST_RULES.false, c.in-Some-as_array.values.now.ok.0))
    ∙ ap (with_more c.args.ranks []) (sym c.deref-value-items.ensures.value)
    ∙ ap (λ done. with_more c.args.ranks done c.deref-value-items.result.now) (sym c.in_ok-rules.ensures.items)

pub returns-in_err-rule-clause-refused : goal.returns-in_err-rule-clause-refused
returns-in_err-rule-clause-refused c =
    let fault : rules_in c.args.ranks (view c.args.table.now) ≡ Err c.in_err-rule.field-0.0 =
    c.loop-value.invariant ∙ with_more-fault c.args.ranks c.loop-value.rules.items c.deref-value-items.result.now c.loop-value.value-index c.value-item.result
    c.loop-value-test.true c.value-item.is c.in_err-rule.field-0.0 (sym c.rule.ensures ∙ c.in_err-rule.was) in
    search (rules, fault)

pub loop-value-preserved : goal.loop-value-preserved
loop-value-preserved c =
    c.loop-value.invariant ∙ with_more-one c.args.ranks c.loop-value.rules.items c.deref-value-items.result.now c.loop-value.value-index c.value-item.result
    c.loop-value-test.true c.value-item.is c.in_ok-rule.field-0 (sym c.rule.ensures ∙ c.in_ok-rule.was)
    ∙ ap (λ done. with_more c.args.ranks done (drop (c.loop-value.value-index + 1) c.deref-value-items.result.now)) (sym c.in_ok-push.ensures.items)

pub returns-clause-listed : goal.returns-clause-listed
returns-clause-listed c =
    c.loop-value.invariant ∙ with_more-end c.args.ranks c.loop-value.rules.items c.deref-value-items.result.now c.loop-value.value-index c.loop-value-test.false
    ∙ ap Ok (sym c.from_vec.ensures)
