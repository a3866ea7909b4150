use Rattle.std.proofs.Common.{◌≡◌, sym, ◌∙◌, rules, tests}
use Rattle.std.proofs.lemmas.Iterator.{YieldsList-from_slice}
use Rattle.std.proofs.lemmas.Iterator.Search.{find_from_yields_List}
use Rattle.std.specs.List.{find}
use Rattle.sk_select.specs.Choice.{covers}
use Rattle.sk_select.proofs.ChoiceLemmas.{chosen-offered, chosen-refused, chosen-none}
use Rattle.sk_select.proofs.choice.choose.Goals as goal

pub returns-then-is_offered : goal.returns-then-is_offered
returns-then-is_offered c =
    let found = find_from_yields_List (covers c.args.plan.now.skeleton c.args.n) _ _ c.find-covering.result c.find-covering.ensures.ran (YieldsList-from_slice c.args.table.now.rules cc) (λ x b q k. search (rules, tests)) in
    chosen-offered c.args.plan.now (find (covers c.args.plan.now.skeleton c.args.n) c.args.table.now.rules) c.find-covering.result found c.in-Some.rule c.in-Some.is (sym c.is_offered.ensures ∙ c.if-is_offered.true)

pub returns-else-is_offered : goal.returns-else-is_offered
returns-else-is_offered c =
    let found = find_from_yields_List (covers c.args.plan.now.skeleton c.args.n) _ _ c.find-covering.result c.find-covering.ensures.ran (YieldsList-from_slice c.args.table.now.rules cc) (λ x b q k. search (rules, tests)) in
    chosen-refused c.args.plan.now (find (covers c.args.plan.now.skeleton c.args.n) c.args.table.now.rules) c.find-covering.result found c.in-Some.rule c.in-Some.is (sym c.is_offered.ensures ∙ c.if-is_offered.false)

pub returns-in_default : goal.returns-in_default
returns-in_default c =
    let found = find_from_yields_List (covers c.args.plan.now.skeleton c.args.n) _ _ c.find-covering.result c.find-covering.ensures.ran (YieldsList-from_slice c.args.table.now.rules cc) (λ x b q k. search (rules, tests)) in
    chosen-none c.args.plan.now (find (covers c.args.plan.now.skeleton c.args.n) c.args.table.now.rules) c.find-covering.result found c.in_default.is
