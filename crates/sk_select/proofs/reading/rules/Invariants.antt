use Rattle.std.proofs.Common.{◌≡◌, drop}
use Rattle.serde_json.specs.View.{view}
use Rattle.sk_select.specs.Table.{rules_in}
use Rattle.sk_select.proofs.RuleLemmas.{with_more}
use Rattle.sk_select.proofs.reading.rules.Given as goal

abbrev pub invariant-loop-value : goal.invariant-loop-value
invariant-loop-value l = rules_in l.ranks (view l.table) ≡ with_more l.ranks l.rules.items (drop l.value-index l.value-items)
