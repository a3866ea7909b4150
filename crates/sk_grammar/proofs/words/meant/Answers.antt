use Rattle.std.proofs.Common.{◌≡◌, Some, None, ◌∙◌, rules, tests}
use Rattle.std.proofs.lemmas.Iterator.{YieldsList-from_slice}
use Rattle.std.proofs.lemmas.Iterator.Search.{find_from_yields_List}
use Rattle.sk_names.specs.Bytes.{same_bytes}
use Rattle.sk_grammar.proofs.WordLemmas.{meant-found}
use Rattle.sk_grammar.proofs.words.meant.Goals as goal

pub returns-in_err-entry : goal.returns-in_err-entry
returns-in_err-entry g c =
    let found = find_from_yields_List (λ entry. same_bytes entry.0.now c.args.word.now) _ _ c.find.result c.find.ensures.ran (YieldsList-from_slice c.args.entries.now cc) (λ x b q k. search (rules, tests)) in
    c.from_residual.ensures ∙ meant-found c.args.entries.now c.args.word.now c.find.result None c.in_err-entry.was found

pub returns : goal.returns
returns g c =
    let found = find_from_yields_List (λ entry. same_bytes entry.0.now c.args.word.now) _ _ c.find.result c.find.ensures.ran (YieldsList-from_slice c.args.entries.now cc) (λ x b q k. search (rules, tests)) in
    meant-found c.args.entries.now c.args.word.now c.find.result (Some c.in_ok-entry.entry) c.in_ok-entry.was found
